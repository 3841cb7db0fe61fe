-- A state at rest over facts and a sorted one have a product that is sorted and at rest over them too, in which a head
-- answers a query only where it does in both. So the goals of facts are goals among those that some state at rest over them has.
use Rattle.std.proofs.Common.{◌≡◌, ℕ, ◌+◌, ◌*◌, List, [], ◌∷◌, length, Some, Bool, true, false, refl, sym, ap, ◌∙◌, subst, arith}
use Rattle.std.proofs.lemmas.Bool.{eqb-true, eq-eqb}
use Rattle.std.specs.Prelude.{Contains, slice_get, map, nat_eq, if◌then◌else◌}
use Rattle.std.specs.List.{flat_map}
use Rattle.lists.proofs.Members.{contains_here, contains_there, contains_got, contains_map, contains_none, contains_one, contains_joined, joined_from, some_injective}
use Rattle.meaning_laws.proofs.Deciding.{quiet_meets}
use Rattle.meaning_laws.proofs.Fits.{fits_alike}
use Rattle.meaning_laws.proofs.Keeping.{named_more}
use Rattle.meaning_laws.proofs.Quieting.{met_quiet}
use Rattle.meaning.specs.declared.types.Term.TheVariants.{Var}
use Rattle.meaning.specs.declared.types.Val.{Val}
use Rattle.meaning.specs.declared.types.Val.TheVariants.{Const, Label}
use Rattle.meaning.specs.declared.types.Atom.{Atom}
use Rattle.meaning.specs.declared.types.Relation.{Relation}
use Rattle.meaning.specs.declared.types.Ground.{Ground}
use Rattle.meaning.specs.declared.types.Query.{Query}
use Rattle.meaning.specs.declared.types.SchemaParts.{SchemaParts}
use Rattle.meaning.specs.Values.{Value}
use Rattle.meaning.specs.Sorts.{HoldsIntegers}
use Rattle.meaning.specs.Matching.{value_of, AreFacts, OccursIn, MeetsAll, GroundsOf, IsQueryAnswer}
use Rattle.meaning.specs.Triggers.{State, ground}
use Rattle.meaning.specs.Naming.{IsNamed, AreNamed}
use Rattle.meaning.specs.Fitting.{Fit, RulesFit}
use Rattle.meaning_laws.specs.Rests.{IsRest, HasGoalOver}
use Rattle.integer_laws.proofs.Pairs.{top, IsShared, pair, first_of, second_of, first_const, second_const, first_shared, second_shared, pair_shared, first_pair, second_pair, pair_named}
use Rattle.integer_laws.proofs.Zipped.{zipped, got_zipped, in_zipped, zipped_long, zipped_first, zipped_second, zipped_same, zipped_terms, mapped_terms}
use Rattle.integer_laws.specs.Sorted.{AreSortedGrounds}
use Rattle.integer_laws.specs.Claimed.{IsSortedRest, HasSortedGoalOver}

-- ---- facts that a map of values takes to facts

record Projects (q : Val → Val) (facts side : List Ground) : Type 0 where
  constants : (c : Value) → q (Const c) ≡ Const c
  facts_are : (fact : Ground) → Contains facts fact → Contains side (record { rel = fact.rel; vals = map q fact.vals })

module _ (q : Val → Val) (facts side : List Ground) (projects : Projects q facts side) where
  facts_projected : (a : ℕ → Val) (atoms : List Atom) → AreFacts Const (GroundsOf facts) a atoms →
      AreFacts Const (GroundsOf side) (λ x. q (a x)) atoms
  facts_projected a atoms are atom among =
      subst (λ vals. Contains side (record { rel = atom.rel; vals = vals })) (mapped_terms q a atom.terms projects.constants)
      (projects.facts_are (ground a atom) (are atom among))

  answer_projected : (query : Query) (head : List Val) → ((v : Val) → Contains head v → q v ≡ v) →
      IsQueryAnswer Const (GroundsOf facts) query head → IsQueryAnswer Const (GroundsOf side) query head
  answer_projected query head fixed (a, are, e) = (
    (λ x. q (a x)),
    facts_projected a query.atoms are,
    sym (kept head fixed) ∙ ap (map q) e ∙ mapped_terms q a query.head projects.constants,
  )
    where
      kept : (vals : List Val) → ((v : Val) → Contains vals v → q v ≡ v) → map q vals ≡ vals
      kept [] fixed = refl
      kept (v ∷ vals) fixed =
          let here : q v ≡ v = fixed v (contains_here v vals) in
          let rest : map q vals ≡ vals = kept vals (λ w c. fixed w (contains_there v vals w c)) in
          cc

-- ---- the product of facts

product : (Val → Val → Val) → Ground → Ground → Ground
product p f g = record { rel = f.rel; vals = zipped p f.vals g.vals }

products : (Val → Val → Val) → List Ground → List Ground → List Ground
products p ones others = flat_map (λ f. flat_map (λ g. if nat_eq f.rel g.rel then product p f g ∷ [] else []) others) ones

into_products : (p : Val → Val → Val) (ones others : List Ground) (f g : Ground) → Contains ones f → Contains others g →
    f.rel ≡ g.rel → Contains (products p ones others) (product p f g)
unfolding products
into_products p ones others f g of_ones of_others same =
    contains_joined (λ f. flat_map (λ g. if nat_eq f.rel g.rel then product p f g ∷ [] else []) others) ones f (product p f g)
    of_ones (contains_joined (λ g. if nat_eq f.rel g.rel then product p f g ∷ [] else []) others g (product p f g) of_others
    (by (nat_eq f.rel g.rel) (eq-eqb f.rel g.rel same)))
  where
    by : (t : Bool) → t ≡ true → Contains (if t then product p f g ∷ [] else []) (product p f g)
    by true e = contains_here (product p f g) []
    by false e = absurd (cc)

from_products : (p : Val → Val → Val) (ones others : List Ground) (fact : Ground) → Contains (products p ones others) fact →
    (f : Ground) × (g : Ground) × Contains ones f × Contains others g × (f.rel ≡ g.rel) × (product p f g ≡ fact)
unfolding products
from_products p ones others fact c =
    let (f, of_ones, more) =
    joined_from (λ f. flat_map (λ g. if nat_eq f.rel g.rel then product p f g ∷ [] else []) others) ones fact c in
    let (g, of_others, last) =
    joined_from (λ g. if nat_eq f.rel g.rel then product p f g ∷ [] else []) others fact more in
    let (same, e) = by f g (nat_eq f.rel g.rel) refl last in
    (f, g, of_ones, of_others, same, e)
  where
    by : (f g : Ground) (t : Bool) → nat_eq f.rel g.rel ≡ t → Contains (if t then product p f g ∷ [] else []) fact →
        (f.rel ≡ g.rel) × (product p f g ≡ fact)
    by f g true e c = (eqb-true f.rel g.rel e, contains_one (product p f g) fact c)
    by f g false e c = absurd (contains_none fact c)

-- ---- the product of two states

module _ (schema : SchemaParts) (constants : List Value) (next most less : ℕ) (facts : List Ground) (one other : State)
    (rules : RulesFit schema constants) (facts_named : AreNamed constants next facts)
    (first : IsRest schema constants next most facts one) (second : IsSortedRest schema constants next less facts other) where
  abbrev p : Val → Val → Val
  p = pair constants next most less

  abbrev q : Val → Val
  q = first_of constants next most less

  abbrev r : Val → Val
  r = second_of constants next most less

  abbrev both : State
  both = record { facts = products p one.facts other.facts; next = top constants next most less }

  one_named : AreNamed constants most one.facts
  one_named fact v c inside = named_more constants one.next most v first.few (first.named fact v c inside)

  other_named : AreNamed constants less other.facts
  other_named fact v c inside = named_more constants other.next less v second.rest.few (second.rest.named fact v c inside)

  shared : (v : Val) → IsNamed constants next v → IsShared constants next most less v
  shared (Const c) named = tt
  shared (Label k) named = named

  as_long : (f g : Ground) → Contains one.facts f → Contains other.facts g → f.rel ≡ g.rel → length f.vals ≡ length g.vals
  as_long f g of_one of_other same =
      let fits = first.fits f of_one in
      let others = second.rest.fits g of_other in
      let relation : fits.relation ≡ others.relation = some_injective fits.relation others.relation
      (sym fits.there ∙ ap (slice_get schema.relations) same ∙ others.there) in
      fits.width ∙ ap (λ (x : Relation). length x.columns) relation ∙ sym others.width

  first_projects : Projects q both.facts one.facts
  unfolding product
  first_projects = record {
    constants = first_const constants next most less;
    facts_are = λ fact c.
        let (f, g, of_one, of_other, same, e) = from_products p one.facts other.facts fact c in
        let vals : f.vals ≡ map q fact.vals = sym (zipped_first p q f.vals g.vals (as_long f g of_one of_other same)
        (λ v w in_f in_g. first_pair constants next most less v w (one_named f v of_one in_f) (other_named g w of_other in_g)))
        ∙ ap (λ (x : Ground). map q x.vals) e in
        let is : f ≡ record { rel = fact.rel; vals = map q fact.vals } =
        λ i. record { rel = (ap (λ (x : Ground). x.rel) e) i; vals = vals i } in
        subst (Contains one.facts) is of_one;
  }

  second_projects : Projects r both.facts other.facts
  unfolding product
  second_projects = record {
    constants = second_const constants next most less;
    facts_are = λ fact c.
        let (f, g, of_one, of_other, same, e) = from_products p one.facts other.facts fact c in
        let vals : g.vals ≡ map r fact.vals = sym (zipped_second p r f.vals g.vals (as_long f g of_one of_other same)
        (λ v w in_f in_g. second_pair constants next most less v w (one_named f v of_one in_f) (other_named g w of_other in_g)))
        ∙ ap (λ (x : Ground). map r x.vals) e in
        let is : g ≡ record { rel = fact.rel; vals = map r fact.vals } =
        λ i. record { rel = (sym same ∙ ap (λ (x : Ground). x.rel) e) i; vals = vals i } in
        subst (Contains other.facts) is of_other;
  }

  -- the values of its facts are pairs
  value_is : (fact : Ground) (u : Val) → Contains both.facts fact → Contains fact.vals u →
      (v : Val) × (w : Val) × IsNamed constants most v × IsNamed constants less w × (p v w ≡ u)
  unfolding product
  value_is fact u c inside =
      let (f, g, of_one, of_other, same, e) = from_products p one.facts other.facts fact c in
      let (v, w, in_f, in_g, is) =
      in_zipped p f.vals g.vals u (subst (λ (x : Ground). Contains x.vals u) (sym e) inside) in
      (v, w, one_named f v of_one in_f, other_named g w of_other in_g, is)

  paired_back : (fact : Ground) (u : Val) → Contains both.facts fact → Contains fact.vals u → p (q u) (r u) ≡ u
  paired_back fact u c inside =
      let (v, w, named, others, is) = value_is fact u c inside in
      let back : q u ≡ v = ap q (sym is) ∙ first_pair constants next most less v w named others in
      let back' : r u ≡ w = ap r (sym is) ∙ second_pair constants next most less v w named others in
      ap (λ x. p x (r u)) back ∙ ap (p v) back' ∙ is

  -- an atom's facts in both states are one in the product
  atom_paired : (a b : ℕ → Val) (atom : Atom) → Contains one.facts (ground a atom) → Contains other.facts (ground b atom) →
      Contains both.facts (ground (λ x. p (a x) (b x)) atom)
  unfolding product
  atom_paired a b atom of_one of_other =
      subst (λ vals. Contains both.facts (record { rel = atom.rel; vals = vals }))
      (zipped_terms p a b atom.terms (λ c. pair_shared constants next most less (Const c) tt))
      (into_products p one.facts other.facts (ground a atom) (ground b atom) of_one of_other refl)

  -- two extensions are one
  both_meet : MeetsAll Const (GroundsOf both.facts) schema.rules
  both_meet rule among a body =
      let (b, ext) = quiet_meets schema.rules one rules.numbered first.quiet rule among (λ x. q (a x))
      (facts_projected q both.facts one.facts first_projects a rule.body body) in
      let (b', ext') = quiet_meets schema.rules other rules.numbered second.rest.quiet rule among (λ x. r (a x))
      (facts_projected r both.facts other.facts second_projects a rule.body body) in (
        (λ x. p (b x) (b' x)),
        record {
          agrees = λ x occurs. ap (λ v. p v (b' x)) (ext.agrees x occurs) ∙ ap (p (q (a x))) (ext'.agrees x occurs)
              ∙ of_body x occurs;
          head = λ atom c. atom_paired b b' atom (ext.head atom c) (ext'.head atom c);
        },
      )
    where
      of_body : (x : ℕ) → OccursIn rule.body x → p (q (a x)) (r (a x)) ≡ a x
      of_body x (atom, within, occurs) =
          paired_back (ground a atom) (a x) (body atom within) (contains_map (value_of Const a) atom.terms (Var x) occurs)

  both_fit : Fit schema both.facts
  unfolding product
  both_fit fact c =
      let (f, g, of_one, of_other, same, e) = from_products p one.facts other.facts fact c in
      fits_alike schema f.rel fact.rel f.vals fact.vals (ap (λ (x : Ground). x.rel) e)
      (ap (λ (x : Ground). length x.vals) (sym e) ∙ zipped_long p f.vals g.vals (as_long f g of_one of_other same))
      (first.fits f of_one)

  both_sorted : AreSortedGrounds schema both.facts
  unfolding product
  both_sorted fact c place value holds at =
      let (f, g, of_one, of_other, same, e) = from_products p one.facts other.facts fact c in
      let (v, w, at_f, at_g, is) = got_zipped p f.vals g.vals place (Const value)
      (subst (λ (x : Ground). slice_get x.vals place ≡ Some (Const value)) (sym e) at) in
      let back : w ≡ Const value = sym (second_pair constants next most less v w
      (one_named f v of_one (contains_got f.vals place v at_f)) (other_named g w of_other (contains_got g.vals place w at_g)))
      ∙ ap r is ∙ second_const constants next most less value in
      second.sorted g of_other place value
      (subst (λ n. HoldsIntegers schema n place) (sym (sym same ∙ ap (λ (x : Ground). x.rel) e)) holds) (at_g ∙ ap Some back)

  both_grow : (fact : Ground) → Contains facts fact → Contains both.facts fact
  unfolding product
  both_grow fact c =
      subst (λ vals. Contains both.facts (record { rel = fact.rel; vals = vals }))
      (zipped_same p fact.vals (λ v inside. pair_shared constants next most less v (shared v (facts_named fact v c inside))))
      (into_products p one.facts other.facts fact fact (first.grows fact c) (second.rest.grows fact c) refl)

  pub rests_meet : (end : State)
      × IsSortedRest schema constants next (next + (most + length constants) * (less + length constants)) facts end
      × ((query : Query) (head : List Val) → ((v : Val) → Contains head v → IsNamed constants next v) →
      IsQueryAnswer Const (GroundsOf end.facts) query head →
      IsQueryAnswer Const (GroundsOf one.facts) query head × IsQueryAnswer Const (GroundsOf other.facts) query head)
  rests_meet = (
    both,
    record {
      rest = record {
        grows = both_grow;
        low = omega arith;
        few = omega arith;
        named = λ fact u c inside. let (v, w, named, others, is) = value_is fact u c inside in
            subst (IsNamed constants (top constants next most less)) is (pair_named constants next most less v w named others);
        fits = both_fit;
        quiet = met_quiet schema.rules both both_meet;
      };
      sorted = both_sorted;
    },
    λ query head named answer. (
      answer_projected q both.facts one.facts first_projects query head
          (λ v c. first_shared constants next most less v (shared v (named v c))) answer,
      answer_projected r both.facts other.facts second_projects query head
          (λ v c. second_shared constants next most less v (shared v (named v c))) answer,
    ),
  )

-- a goal of facts is one among those that a sorted state at rest over them has
pub possible_goals : (schema : SchemaParts) (constants : List Value) (queries goals : List Query) (head : List Val)
    (next most less : ℕ) (facts : List Ground) (base : State) → RulesFit schema constants → AreNamed constants next facts →
    ((v : Val) → Contains head v → IsNamed constants next v) → IsSortedRest schema constants next less facts base →
    ((query : Query) → Contains queries query → IsQueryAnswer Const (GroundsOf base.facts) query head → Contains goals query) →
    HasSortedGoalOver schema constants queries head next (next + (most + length constants) * (less + length constants)) facts →
    HasGoalOver schema constants goals head next most facts
possible_goals schema constants queries goals head next most less facts base rules named head_named base_is answered has end is =
    let (both, rests, back) = rests_meet schema constants next most less facts end base rules named is base_is in
    let (goal, among, answer) = has both rests in
    let (here, there) = back goal head head_named answer in
    (goal, answered goal among there, here)
