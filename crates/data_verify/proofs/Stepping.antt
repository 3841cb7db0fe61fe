-- The first atom settled by the least of its matches, one match after another, and what that says of the rule.
use Rattle.std.proofs.Common.{◌≡◌, ℕ, ◌+◌, ◌-◌, ◌<◌, ◌≤◌, List, [], ◌∷◌, ◌++◌, map, length, take, drop, slice_index_or, Option, Some, None, refl, sym, ap, ◌∙◌, subst, ⊎_elim, arith, Contains}
use Rattle.std.specs.Prelude.{◌≢◌, IfSome}
use Rattle.std.specs.Ordering.{ordering_then, ordering_reverse}
use Rattle.std.specs.declared.cmp.Ordering.{Ordering}
use Rattle.std.specs.declared.cmp.Ordering.TheVariants.{Less, Equal, Greater}
use Rattle.std.proofs.lemmas.Cmp.{tied_itself}
use Rattle.std.proofs.lemmas.List.{length-map}
use Rattle.std.proofs.lemmas.List.Elements.{Contains-append_left, Contains-push, Contains-push_cases}
use Rattle.lists.proofs.Orders.{rows_total, rows_equal}
use Rattle.lists.proofs.Members.{contains_here, contains_cases, contains_none}
use Rattle.lists.proofs.Places.{take_indexed}
use Rattle.meaning.specs.declared.types.Atom.{Atom}
use Rattle.meaning.specs.declared.types.Rule.{Rule}
use Rattle.meaning.specs.declared.types.Fact.{Fact}
use Rattle.meaning.specs.declared.types.Ground.{Ground}
use Rattle.meaning.specs.declared.types.Val.{Val}
use Rattle.meaning.specs.declared.types.Val.TheVariants.{Const}
use Rattle.meaning.specs.Matching.{OccursIn, MeetsRule, itself, GroundsOf}
use Rattle.meaning.specs.Homomorphisms.{image}
use Rattle.meaning.specs.Triggers.{joined, bound, IsNumbered}
use Rattle.meaning_laws.proofs.Carrying.{occurs_below}
use Rattle.meaning_laws.proofs.Deciding.{same_values}
use Rattle.homomorphism.specs.declared.assignment.Assignment.{Assignment}
use Rattle.homomorphism.specs.Bindings.{at, values_of}
use Rattle.homomorphism.specs.Instances.{AreFactsOf}
use Rattle.homomorphism.specs.Rules.{AreBodyMatches, IsUnmetMatch}
use Rattle.homomorphism.specs.Texts.{blank, text_at}
use Rattle.homomorphism.proofs.Binding.{apart}
use Rattle.homomorphism.proofs.Instances.{said, said_at, facts_there, facts_back}
use Rattle.data_verify.specs.declared.settling.Settled.{Settled}
use Rattle.data_verify.specs.Breaking.{Breaks, row_under, facts_under, row_lists_cmp, AreLeastBreaking}
use Rattle.data_verify.specs.Keys.{row_cmp}
use Rattle.data_verify.specs.Remaining.{remaining_rule, remaining_atom}
use Rattle.data_verify.specs.Settling.{AreLeastIn, IsSettled, rest_under, IsBelow, IsSettledBy, IsLower, IsLeastOf, IsLeast}
use Rattle.data_verify.specs.Unmet.{AreLeastUnmet}
use Rattle.data_verify.proofs.Texts.{meets, least_breaking}
use Rattle.data_verify.proofs.Splitting.{first_is, facts_remain, rows_after, numbered_remains, breaks_whole, breaks_under, rule_alike, values_alike}

equal_less : Equal ≡ Less → ⊥
equal_less e = cc

less_greater : Less ≡ Greater → ⊥
less_greater e = cc

equal_greater : Equal ≡ Greater → ⊥
equal_greater e = cc

-- where a rule has an unmet match it is not met
pub not_met : (facts : List Ground) (rule : Rule) (values : List Val) → IsUnmetMatch facts rule values →
    MeetsRule Const (GroundsOf facts) rule → ⊥
not_met facts rule values m meets = let (b, ext) = meets (at values) m.body in m.unmet b ext

module _ (facts : List Ground) (rule : Rule) (first : Atom) where
  abbrev row_of : Assignment → List (List ℕ)
  row_of one = row_under (text_at one.vals) first

  abbrev Met : Assignment → Type 0
  Met one = MeetsRule Const (GroundsOf facts) (rest_under rule one.vals)

  stays : (done : List Assignment) (one : Assignment) (least : Option Settled) →
      IsLower facts rule first one.vals least None →
      IsLeast facts rule first done least → IsLeast facts rule first (done ++ one ∷ []) least
  stays done one None met all = λ other c.
      ⊎_elim (λ h. all other h) (λ e. subst Met e (met tt)) (Contains-push_cases done one other c)
  stays done one (Some least) met all = record {
    come = let (m, among, is) = all.come in (m, Contains-append_left done (one ∷ []) m among, is);
    lowest = λ other c less. ⊎_elim (λ h. all.lowest other h less)
        (λ e. subst Met e (met (subst (λ (m : Assignment). row_cmp (row_of m) least.fact.row ≡ Less) (sym e) less)))
        (Contains-push_cases done one other c);
  }

  takes : (done : List Assignment) (one : Assignment) (least : Option Settled) (settled : Settled) →
      IsLower facts rule first one.vals least (Some settled) → IsLeast facts rule first done least →
      IsLeastOf facts rule first (done ++ one ∷ []) settled
  takes done one least settled (below, is) all = record {
    come = (one, Contains-push done one, is);
    lowest = λ other c less. ⊎_elim (λ h. earlier least below all other h less) (λ e. absurd (itself_not other e less))
        (Contains-push_cases done one other c);
  }
    where
      row_is : settled.fact.row ≡ row_of one
      row_is = ap (λ (f : Fact). f.row) is.fact

      itself_not : (other : Assignment) → one ≡ other → row_cmp (row_of other) settled.fact.row ≡ Less → ⊥
      itself_not other e less =
          let same : row_of other ≡ settled.fact.row = ap row_of (sym e) ∙ sym row_is in
          equal_less (sym (tied_itself rows_total settled.fact.row) ∙ ap (λ r. row_cmp r settled.fact.row) (sym same)
          ∙ less)

      earlier : (least : Option Settled) → IsBelow (row_of one) least → IsLeast facts rule first done least →
          (other : Assignment) → Contains done other →
          row_cmp (row_of other) settled.fact.row ≡ Less → Met other
      earlier None below all other h less = all other h
      earlier (Some first_so) below all other h less =
          all.lowest other h (rows_total.trans (row_of other) settled.fact.row first_so.fact.row less
          (subst (λ r. row_cmp r first_so.fact.row ≡ Less) (sym row_is) below))

  -- one turn of the loop over the matches
  module _ (found : List Assignment) (i : ℕ) (one : Assignment) (l : i < length found)
      (is : one ≡ slice_index_or found i one) (least : Option Settled)
      (all : IsLeast facts rule first (take i found) least) where
    pub turn_stays : (lower : Option Settled) → lower ≡ None → IsLower facts rule first one.vals least lower →
        IsLeast facts rule first (take (i + 1) found) least
    unfolding stays
    turn_stays lower e step = subst (λ done. IsLeast facts rule first done least) (sym (take_indexed found i one l is))
        (stays (take i found) one least (subst (IsLower facts rule first one.vals least) e step) all)

    pub turn_takes : (lower : Option Settled) (settled : Settled) → lower ≡ Some settled →
        IsLower facts rule first one.vals least lower →
        IsLeast facts rule first (take (i + 1) found) (Some settled)
    unfolding takes
    turn_takes lower settled e step = subst (λ done. IsLeastOf facts rule first done settled)
        (sym (take_indexed found i one l is))
        (takes (take i found) one least settled (subst (IsLower facts rule first one.vals least) e step) all)

-- a rule with a first atom, whose matches these are
module _ (facts : List Ground) (line : ℕ) (first : Atom) (later head : List Atom) (found : List Assignment) (own : ℕ)
    (heads : List Atom)
    (n : IsNumbered (record { line = own; body = first ∷ []; head = heads }))
    (m : AreBodyMatches facts (record { line = own; body = first ∷ []; head = heads }) found) where
  abbrev whole : Rule
  whole = record { line = line; body = first ∷ later; head = head }

  abbrev w : ℕ
  w = bound (first ∷ [])

  below : (x : ℕ) → OccursIn (first ∷ []) x → x < w
  below x o = occurs_below (first ∷ []) x o

  rest_is : (one : Assignment) → Contains found one →
      rest_under whole one.vals ≡ remaining_rule w (text_at one.vals) whole
  rest_is one c = ap (λ k. remaining_rule k (text_at one.vals) whole) (m.width one c)

  pub rests_numbered : IsNumbered whole → (one : Assignment) → Contains found one →
      IsNumbered (rest_under whole one.vals)
  rests_numbered numbered one c = subst IsNumbered (sym (rest_is one c))
      (numbered_remains line first later head w below n.body (text_at one.vals) refl numbered)

  module _ (settled : Settled) (instance : List Fact) (of : AreFactsOf instance facts) (told : List Fact)
      (least : AreLeastBreaking instance settled.rest told) where
    come_under : (one : Assignment) → Contains found one → IsSettledBy facts whole first one.vals settled →
        (a : ℕ → List ℕ) × Breaks instance whole a × (settled.fact ∷ told ≡ facts_under a (first ∷ later))
    come_under one c by =
        let (a, br, e) = least.come in
        let f : ℕ → List ℕ = text_at one.vals in
        let is : settled.rest ≡ remaining_rule w f whole = by.rest.is ∙ rest_is one c in
        let fact : settled.fact ≡ record { rel = first.rel; row = row_under (joined w f a) first } =
        by.fact ∙ ap (λ row. record { rel = first.rel; row = row })
        (sym (first_is line first later head w below n.body instance f a)) in
        let rows : told ≡ facts_under (joined w f a) later =
        e ∙ ap (λ (r : Rule). facts_under a r.body) is ∙ sym (facts_remain w f a later) in (
          joined w f a,
          breaks_whole line first later head w below n.body instance f a
              (facts_back instance facts of (at one.vals) (first ∷ []) (m.each one c))
              (subst (λ r. Breaks instance r a) is br),
          ap (λ z. z ∷ told) fact ∙ ap (λ z. record { rel = first.rel; row = row_under (joined w f a) first } ∷ z) rows,
        )

    -- another assignment that breaks the rule
    module _ (a : ℕ → List ℕ) (br : Breaks instance whole a) where
      abbrev vals : List Val
      vals = values_of w (said a)

      abbrev mine : Assignment
      mine = record { vals = vals }

      among : Contains found mine
      among = m.all (said a) (facts_there instance facts of a (first ∷ [])
          (λ atom c. br.body atom (⊎_elim (λ e. subst (Contains (first ∷ later)) e (contains_here first later))
          (λ h. absurd (contains_none atom h)) (contains_cases first [] atom c))))

      mine_at : (x : ℕ) → x < w → text_at vals x ≡ a x
      mine_at x l = ap (image blank) (said_at w a x l)

      row_is : row_under (text_at vals) first ≡ row_under a first
      row_is = same_values itself (text_at vals) a first.terms
          (λ x o. mine_at x (below x (first, contains_here first [], o)))

      breaks_mine : Breaks instance (remaining_rule w (text_at vals) whole) (λ i. a (w + i))
      breaks_mine = breaks_under line first later head w below n.body instance (text_at vals) a mine_at br

      not_lower : (MeetsRule Const (GroundsOf facts) (rest_under whole vals)) → ⊥
      not_lower met =
          let here = meets instance facts of (remaining_rule w (text_at vals) whole)
          (subst (MeetsRule Const (GroundsOf facts)) (rest_is mine among) met) in
          let (b, ext) = here (λ i. a (w + i)) breaks_mine.body in
          breaks_mine.unmet b ext

      later_not : (one : Assignment) → Contains found one → IsSettledBy facts whole first one.vals settled →
          row_under a first ≡ settled.fact.row →
          row_lists_cmp (map (λ (fact : Fact). fact.row) told) (map (row_under a) later) ≢ Greater
      later_not one c by e =
          let f : ℕ → List ℕ = text_at one.vals in
          let rows : row_under (text_at vals) first ≡ row_under f first = row_is ∙ e
          ∙ ap (λ (z : Fact). z.row) by.fact in
          let same : (x : ℕ) → x < w → text_at vals x ≡ f x =
          λ x l. values_alike (text_at vals) f (first ∷ []) (ap (λ r. r ∷ []) rows) x (n.body x l) in
          let alike : settled.rest ≡ remaining_rule w (text_at vals) whole = by.rest.is ∙ rest_is one c
          ∙ sym (rule_alike w (text_at vals) f whole (λ x l o. same x l) (λ x l o. same x l)) in
          let other = least.least (λ i. a (w + i)) (subst (λ r. Breaks instance r (λ i. a (w + i)))
          (sym alike) breaks_mine) in
          subst (λ z. row_lists_cmp (map (λ (fact : Fact). fact.row) told) z ≢ Greater)
          (ap (λ (r : Rule). map (row_under (λ i. a (w + i))) r.body) alike
          ∙ rows_after w (text_at vals) a mine_at later) other

      -- its rows are not before the least
      not_before : (one : Assignment) → Contains found one → IsSettledBy facts whole first one.vals settled →
          ((one : Assignment) → Contains found one → row_cmp
          (row_under (text_at one.vals) first) settled.fact.row ≡ Less →
          MeetsRule Const (GroundsOf facts) (rest_under whole one.vals)) →
          ordering_then (row_cmp settled.fact.row (row_under a first))
          (row_lists_cmp (map (λ (fact : Fact). fact.row) told) (map (row_under a) later)) ≢ Greater
      not_before one c by lowest = pick (row_cmp settled.fact.row (row_under a first)) refl
        where
          pick : (o : Ordering) → row_cmp settled.fact.row (row_under a first) ≡ o →
              ordering_then o (row_lists_cmp (map (λ (fact : Fact). fact.row) told) (map (row_under a) later)) ≢ Greater
          pick Less e g = less_greater g
          pick Equal e g = later_not one c by (sym (rows_equal settled.fact.row (row_under a first) e)) g
          pick Greater e g = not_lower (lowest mine among (ap (λ r. row_cmp r settled.fact.row) row_is
              ∙ rows_total.antisymm (row_under a first) settled.fact.row ∙ ap ordering_reverse e))

  pub settles : (settled : Settled) → IsNumbered whole → IsLeastOf facts whole first found settled →
      IsSettled facts whole settled
  unfolding come_under not_before rest_is
  settles settled numbered is =
      let (one, c, by) = is.come in
      let rest : settled.rest ≡ remaining_rule w (text_at one.vals) whole = by.rest.is ∙ rest_is one c in
      record {
        shorter = let few : length settled.rest.body ≡ length later = ap (λ (r : Rule). length r.body) rest
            ∙ length-map later (remaining_atom w (text_at one.vals)) in omega arith;
        numbered = subst IsNumbered (sym by.rest.is) (rests_numbered numbered one c);
        unmet = by.rest.unmet;
        least = λ told least instance of. record {
          come = come_under settled instance of told (least instance of) one c by;
          least = λ a br. not_before settled instance of told (least instance of) a br one c by is.lowest;
        };
      }

-- the same of any rule with this first atom
module _ (facts : List Ground) (rule alone : Rule) (first : Atom) (items : List Atom) (found : List Assignment)
    (same : items ≡ rule.body) (l : 1 ≤ length items) (here : first ≡ slice_index_or items 0 first)
    (body : alone.body ≡ first ∷ []) (n : IsNumbered alone) (m : AreBodyMatches facts alone found)
    (numbered : IsNumbered rule) where
  abbrev later : List Atom
  later = take (length items - 1) (drop 1 items)

  abbrev with_body : Rule → List Atom → Rule
  with_body r atoms = record { line = r.line; body = atoms; head = r.head }

  is : rule.body ≡ first ∷ later
  is = sym same ∙ apart items first l here

  pub all_numbered : (one : Assignment) → Contains found one → IsNumbered (rest_under rule one.vals)
  unfolding is
  all_numbered one c = subst (λ b. IsNumbered (rest_under (with_body rule b) one.vals)) (sym is)
      (rests_numbered facts rule.line first later rule.head found alone.line alone.head
      (subst (λ b. IsNumbered (with_body alone b)) body n)
      (subst (λ b. AreBodyMatches facts (with_body alone b) found) body m)
      (subst (λ b. IsNumbered (with_body rule b)) is numbered) one c)

  pub settled_is : (settled : Settled) → IsLeastOf facts rule first found settled → IsSettled facts rule settled
  unfolding is
  settled_is settled least = subst (λ b. IsSettled facts (with_body rule b) settled) (sym is)
      (settles facts rule.line first later rule.head found alone.line alone.head
      (subst (λ b. IsNumbered (with_body alone b)) body n)
      (subst (λ b. AreBodyMatches facts (with_body alone b) found) body m) settled
      (subst (λ b. IsNumbered (with_body rule b)) is numbered)
      (subst (λ b. IsLeastOf facts (with_body rule b) first found settled) is least))

-- the least unmet match has the least facts of each instance
pub least_in_if : (facts : List Ground) (rule : Rule) (found : Option (List Fact)) →
    IfSome found (AreLeastUnmet facts rule) → IfSome found (AreLeastIn facts rule)
least_in_if facts rule None least = tt
least_in_if facts rule (Some found) least = λ instance of. least_breaking instance facts of rule found least
