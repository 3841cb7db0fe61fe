-- What attaching the relations that lanes need comes to.
use Rattle.std.proofs.Common.{◌≡◌, ◌≢◌, ◌↔◌, inl, inr, ℕ, zero, suc, ◌+◌, ◌<◌, ◌≤◌, Bool, true, false, ◌||◌, nat_eq, List, [], ◌∷◌, length, Option, None, Some, refl, sym, ◌∙◌, ap, subst, arith}
use Rattle.std.specs.Prelude.{Contains, IsSome, slice_get, Result, Ok, Err}
use Rattle.std.specs.List.Sorted.{IsStrictlyIncreasing}
use Rattle.std.specs.List.{list_any}
use Rattle.std.proofs.lemmas.Bool.Decides.{nat_tests}
use Rattle.std.proofs.lemmas.Option.{slice_get-get_or, slice_get_within}
use native.Mathlib.Decide.{dec_le}
use Rattle.lists.proofs.Members.{some_injective, contains_here, contains_there, contains_cases, contains_got}
use Rattle.meaning.specs.declared.types.Relation.{Relation}
use Rattle.access_schema.specs.declared.schema.Schema.{Schema}
use Rattle.access_schema.specs.declared.schema.SourceLine.{SourceLine}
use Rattle.source_trait.specs.Asking.{Seen, Rises}
use Rattle.source_trait.specs.Lanes.{names_of, source_of}
use Rattle.source_trait.specs.declared.source.AttachFault.{AttachFault}
use Rattle.source_trait.specs.declared.source.AttachFault.TheVariants as attach
use Rattle.source_trait.specs.declared.lanes.Lane.{Lane}
use Rattle.middleware.specs.PlanSources.{line_for}
use Rattle.middleware.specs.Sources.{first_lineless, has_place, needs_at, IsPlaced, HavePlace, LackPlace, LacksPlace, refused_as}
use Rattle.middleware.specs.Needs.{IsWanted, listed, needed, AreNeeded, LacksKind, HaveAll, LanesAttach, LanesBreak, AttachBreaksAt, AttachesNeeded}
use Rattle.middleware.specs.Needs.AttachesNeeded.{done, no_source, unknown_kind, refused, no_memory}
use Rattle.middleware.specs.declared.fault.RunFault.{RunFault}
use Rattle.middleware.specs.declared.fault.RunFault.TheVariants as fault
use Rattle.middleware.proofs.Lacking.{above, place_none, place_source, rises_strictly, lineless_none, lineless_some, the_line}

-- where the numbers rise, a lower one stands before
pub stands_before : (xs : List ℕ) → Rises xs → (n k x y : ℕ) → slice_get xs n ≡ Some x → slice_get xs k ≡ Some y → y < x → k < n
stands_before [] up n k x y at other less = absurd (cc)
stands_before (z ∷ xs) up zero zero x y at other less =
    let a : z ≡ x = some_injective z x at in
    let b : z ≡ y = some_injective z y other in
    absurd (omega (arith, a, b, less))
stands_before (z ∷ xs) up zero (suc k) x y at other less =
    let a : z ≡ x = some_injective z x at in
    let b : z < y = above z xs y up.0 (contains_got xs k y other) in
    absurd (omega (arith, a, b, less))
stands_before (z ∷ xs) up (suc n) zero x y at other less = omega arith
stands_before (z ∷ xs) up (suc n) (suc k) x y at other less =
    let r : k < n = stands_before xs up.1 n k x y at other less in omega (arith, r)

-- ---- places on the lanes that need a relation

pub any_to : (q : ℕ) (ks : List ℕ) → list_any (λ y. nat_eq y q) ks ≡ true → Contains ks q
any_to q [] e = absurd (cc)
any_to q (k ∷ ks) e = go (nat_eq k q) refl e (any_to q ks)
  where
    go : (b : Bool) → nat_eq k q ≡ b → (b || list_any (λ y. nat_eq y q) ks) ≡ true → (list_any (λ y. nat_eq y q) ks ≡ true → Contains ks q)
        → Contains (k ∷ ks) q
    go true test h later = let same : k ≡ q = grind (arith, nat_tests, test) in subst (λ n. Contains (k ∷ ks) n) same (contains_here k ks)
    go false test h later = contains_there k ks q (later h)

pub any_of : (q : ℕ) (ks : List ℕ) → Contains ks q → list_any (λ y. nat_eq y q) ks ≡ true
any_of q [] c = absurd (omega arith)
any_of q (k ∷ ks) c = elim (contains_cases k ks q c) [
  | inl same ↦
      let test : nat_eq k q ≡ true = grind (arith, nat_tests, same) in
      ap (λ b. b || list_any (λ y. nat_eq y q) ks) test
  | inr more ↦ either (nat_eq k q) (list_any (λ y. nat_eq y q) ks) (any_of q ks more)
]
  where
    either : (a b : Bool) → b ≡ true → (a || b) ≡ true
    either true b e = refl
    either false b e = e

-- one relation more
pub rel_more : (P : ℕ → Type 0) (rels : List ℕ) (i rel : ℕ) → slice_get rels i ≡ Some rel
    → ((k other : ℕ) → k < i → slice_get rels k ≡ Some other → P other) → P rel
    → (k other : ℕ) → k < i + 1 → slice_get rels k ≡ Some other → P other
rel_more P rels i rel at before here k other less is = elim (dec_le (k + 1) i) [
  | yes under ↦ before k other (omega arith) is
  | no past ↦
      let same : k ≡ i = omega arith in
      let which : rel ≡ other = some_injective rel other (sym at ∙ ap (slice_get rels) (sym same) ∙ is) in
      subst P which here
]

pub rel_all : (P : ℕ → Type 0) (rels : List ℕ) (i : ℕ) → length rels ≤ i → ((k other : ℕ) → k < i → slice_get rels k ≡ Some other → P other)
    → (rel : ℕ) → Contains rels rel → P rel
rel_all P rels i past each rel (k, under, is) = each k rel (omega arith) (slice_get-get_or rels k rel under ∙ ap Some is)

module _ {S : Type 0} (lanes : List (Lane S)) (lines : List SourceLine) where
  -- each of the first n lanes that needs the relation has a place
  abbrev pub PlacedTo : ℕ → (ℕ → Type 0) → ℕ → Type 0
  PlacedTo rel IsNeeded n = (place : ℕ) (lane : Lane S) → place < n → slice_get lanes place ≡ Some lane → IsNeeded place
      → has_place (names_of lane.kinds.items) (line_for rel lines) ≡ true

  pub placed_more : (rel : ℕ) (IsNeeded : ℕ → Type 0) (n : ℕ) (here : Lane S) → slice_get lanes n ≡ Some here → PlacedTo rel IsNeeded n
      → (IsNeeded n → has_place (names_of here.kinds.items) (line_for rel lines) ≡ true) → PlacedTo rel IsNeeded (n + 1)
  placed_more rel IsNeeded n here at before so place lane less is need = elim (dec_le (place + 1) n) [
    | yes under ↦ before place lane (omega arith) is need
    | no past ↦
        let same : place ≡ n = omega arith in
        let which : here ≡ lane = some_injective here lane (sym at ∙ ap (slice_get lanes) (sym same) ∙ is) in
        subst (λ (l : Lane S). has_place (names_of l.kinds.items) (line_for rel lines) ≡ true) which (so (subst IsNeeded same need))
  ]

  pub placed_all : (rel : ℕ) (IsNeeded : ℕ → Type 0) (n : ℕ) → length lanes ≤ n → 0 < length lanes → PlacedTo rel IsNeeded n
      → HavePlace lanes lines rel IsNeeded
  placed_all rel IsNeeded n past some each = record {
    some = some;
    each = λ place lane is need. let within = slice_get_within lanes place lane is in each place lane (omega (arith, within, past)) is need;
  }

  -- one place on, the further lanes need the relation where that is so
  pub needs_next : (by_others : Bool) (n : ℕ) → by_others ≡ needs_at by_others (n + 1)
  needs_next by_others n = let more : suc n ≡ n + 1 = omega arith in subst (λ m. by_others ≡ needs_at by_others m) more refl

  module _ (first others : List ℕ) (rel : ℕ) (by_others : Bool) (is : by_others ≡ list_any (λ y. nat_eq y rel) others) (among : Contains first rel) where
    to_need : (place : ℕ) → needs_at by_others place ≡ true → needed first others place rel
    to_need zero e = among
    to_need (suc place) e = any_to rel others (sym is ∙ e)

    of_need : (place : ℕ) → needed first others place rel → needs_at by_others place ≡ true
    of_need zero c = refl
    of_need (suc place) c = is ∙ any_of rel others c

    pub have_needed : HavePlace lanes lines rel (λ place. needs_at by_others place ≡ true) → HavePlace lanes lines rel (λ place. needed first others place rel)
    have_needed h = record { some = h.some; each = λ place lane at need. h.each place lane at (of_need place need) }

    pub lack_needed : LackPlace lanes lines rel (λ place. needs_at by_others place ≡ true) → LackPlace lanes lines rel (λ place. needed first others place rel)
    lack_needed (inl none) = inl none
    lack_needed (inr (place, lane, at, need, lacks)) = inr (place, lane, at, to_need place need, lacks)

-- ---- other words for what is needed

module _ (IsNeeded Other : ℕ → ℕ → Type 0) (same : (place rel : ℕ) → IsNeeded place rel ↔ Other place rel) where
  to_wanted : (rel : ℕ) → IsWanted IsNeeded rel → IsWanted Other rel
  to_wanted rel (place, is) = (place, (same place rel).0 is)

  of_wanted : (rel : ℕ) → IsWanted Other rel → IsWanted IsNeeded rel
  of_wanted rel (place, is) = (place, (same place rel).1 is)

  are_alike : (place : ℕ) (rels : List ℕ) → AreNeeded IsNeeded place rels → AreNeeded Other place rels
  are_alike place rels are = record {
    ascends = are.ascends;
    exactly = λ rel. ((λ c. (same place rel).0 ((are.exactly rel).0 c)), (λ n. (are.exactly rel).1 ((same place rel).1 n)));
  }

  module _ {S : Type 0} (seen : S → Seen) (schema : Schema) where
    to_lacks : (lanes : List (Lane S)) (rel : ℕ) (kind : List ℕ) → LacksKind IsNeeded lanes rel kind → LacksKind Other lanes rel kind
    to_lacks lanes rel kind (inl none) = inl none
    to_lacks lanes rel kind (inr (place, lane, at, is, lacks)) = inr (place, lane, at, (same place rel).0 is, lacks)

    of_lacks : (lanes : List (Lane S)) (rel : ℕ) (kind : List ℕ) → LacksKind Other lanes rel kind → LacksKind IsNeeded lanes rel kind
    of_lacks lanes rel kind (inl none) = inl none
    of_lacks lanes rel kind (inr (place, lane, at, is, lacks)) = inr (place, lane, at, (same place rel).1 is, lacks)

    all_alike : (lanes : List (Lane S)) → HaveAll schema IsNeeded lanes → HaveAll schema Other lanes
    all_alike lanes have = record {
      lines = λ rel wanted. have.lines rel (of_wanted rel wanted);
      kinds = λ rel line wanted is lacks. have.kinds rel line (of_wanted rel wanted) is (of_lacks lanes rel line.kind lacks);
    }

    breaks_alike : (rel : ℕ) (why : AttachFault) (old new : List (Lane S)) → AttachBreaksAt seen schema IsNeeded rel why old new
        → AttachBreaksAt seen schema Other rel why old new
    breaks_alike rel why old new b = record { rels = b.rels; are = λ place. are_alike place (b.rels place) (b.are place); breaks = b.breaks }

    -- what attaching one gave, attaching the other gave
    pub needed_alike : (old new : List (Lane S)) (result : Result (Unit {0}) RunFault) → AttachesNeeded seen schema IsNeeded old new result
        → AttachesNeeded seen schema Other old new result
    needed_alike old new result (done each have) =
        done (record { rels = each.rels; are = λ place. are_alike place (each.rels place) (each.are place); order = each.order }) (all_alike old have)
    needed_alike old new result (no_source rel first same_lanes) = no_source rel (record {
      wanted = to_wanted rel first.wanted;
      lacks = first.lacks;
      below = λ other wanted less. first.below other (of_wanted other wanted) less;
    }) same_lanes
    needed_alike old new result (unknown_kind rel first same_lanes) = unknown_kind rel (record {
      lines = λ other wanted. first.lines other (of_wanted other wanted);
      line = first.line;
      wanted = to_wanted rel first.wanted;
      line_is = first.line_is;
      lacks = to_lacks old rel first.line.kind first.lacks;
      below = λ other at wanted is less lacks. first.below other at (of_wanted other wanted) is less (of_lacks old other at.kind lacks);
    }) same_lanes
    needed_alike old new result (refused rel why breaks have apart) = refused rel why (breaks_alike rel why old new breaks) (all_alike old have) apart
    needed_alike old new result (no_memory (inl same_lanes)) = no_memory (inl same_lanes)
    needed_alike old new result (no_memory (inr (rel, breaks))) = no_memory (inr (rel, breaks_alike rel attach.NoMemory old new breaks))

-- ---- the relations of two lists

module _ {S : Type 0} (seen : S → Seen) (schema : Schema) (first others : List ℕ) (up : IsStrictlyIncreasing first) (above_up : IsStrictlyIncreasing others)
    (among : (rel : ℕ) → Contains others rel → Contains first rel) where
  abbrev Needed : ℕ → ℕ → Type 0
  Needed = needed first others

  abbrev Attaches : List (Lane S) → List (Lane S) → Result (Unit {0}) RunFault → Type 0
  Attaches = AttachesNeeded seen schema Needed

  -- what is wanted is of the first list
  pub in_first : (place rel : ℕ) → Needed place rel → Contains first rel
  in_first zero rel c = c
  in_first (suc place) rel c = among rel c

  are_listed : (place : ℕ) → AreNeeded Needed place (listed first others place)
  are_listed zero = record { ascends = up; exactly = λ rel. ((λ c. c), (λ c. c)) }
  are_listed (suc place) = record { ascends = above_up; exactly = λ rel. ((λ c. c), (λ c. c)) }

  -- a relation has no line
  pub lacks_line : (lanes : List (Lane S)) (rel : ℕ) → Some rel ≡ first_lineless schema.sources first → Attaches lanes lanes (Err (fault.NoSource rel))
  lacks_line lanes rel some =
      let l = lineless_some schema.sources first (rises_strictly first up) rel some in
      no_source rel (record {
        wanted = (zero, l.among);
        lacks = l.none;
        below = λ other wanted less. l.below other (in_first wanted.0 other wanted.1) less;
      }) refl

  -- each has a line
  module _ (none : None ≡ first_lineless schema.sources first) (lanes : List (Lane S)) where
    pub all_lines : (rel : ℕ) → Contains first rel → IsSome (line_for rel schema.sources)
    all_lines rel c = lineless_none schema.sources first none rel c

    wanted_lines : (rel : ℕ) → IsWanted Needed rel → IsSome (line_for rel schema.sources)
    wanted_lines rel wanted = all_lines rel (in_first wanted.0 rel wanted.1)

    -- where each lane that needs the relation has a place, none lacks its kind
    none_lacks : (rel : ℕ) (line : SourceLine) → line_for rel schema.sources ≡ Some line
        → HavePlace lanes schema.sources rel (λ place. Needed place rel) → LacksKind Needed lanes rel line.kind → ⊥
    none_lacks rel line is have (inl empty) = let some = have.some in let long = ap length empty in omega (arith, some, long)
    none_lacks rel line is have (inr (place, lane, at, need, lacks)) =
        let there : IsSome (source_of lane.kinds.items line.kind) = place_source lane.kinds.items line
        (subst (λ (o : Option SourceLine). has_place (names_of lane.kinds.items) o ≡ true) is (have.each place lane at need)) in
        cc

    lacks_so : (rel : ℕ) (line : SourceLine) → line_for rel schema.sources ≡ Some line → LackPlace lanes schema.sources rel (λ place. Needed place rel)
        → LacksKind Needed lanes rel line.kind
    lacks_so rel line is (inl empty) = inl empty
    lacks_so rel line is (inr (place, lane, at, need, lacks)) = inr (
      place,
      lane,
      at,
      need,
      place_none lane.kinds.items line (subst (λ (o : Option SourceLine). has_place (names_of lane.kinds.items) o ≡ false) is lacks),
    )

    -- a kind is lacked
    pub lacks_kind : (rel : ℕ) → LacksPlace lanes schema.sources first Needed rel → Attaches lanes lanes (Err (fault.UnknownKind rel))
    lacks_kind rel l =
        let c = contains_got first l.n rel l.at in
        let (line, is) = the_line (line_for rel schema.sources) (all_lines rel c) in
        unknown_kind rel (record {
          lines = wanted_lines;
          line = line;
          wanted = (zero, c);
          line_is = is;
          lacks = lacks_so rel line is l.lacks;
          below = λ other at wanted at_is less lacks.
              let (k, under, same) = in_first wanted.0 other wanted.1 in
              let there = slice_get-get_or first k other under ∙ ap Some same in
              none_lacks other at at_is (l.before k other (stands_before first (rises_strictly first up) l.n k rel other l.at there less) there) lacks;
        }) refl

    -- each has a place where it is needed
    module _ (there : (rel : ℕ) → Contains first rel → IsSome (slice_get schema.relations rel))
        (places : (rel : ℕ) → Contains first rel → HavePlace lanes schema.sources rel (λ place. Needed place rel)) where
      have_all : HaveAll schema Needed lanes
      have_all = record {
        lines = wanted_lines;
        kinds = λ rel line wanted is lacks. none_lacks rel line is (places rel (in_first wanted.0 rel wanted.1)) lacks;
      }

      the_relation : (o : Option Relation) → IsSome o → (relation : Relation) × (o ≡ Some relation)
      the_relation None h = absurd (cc)
      the_relation (Some relation) h = (relation, refl)

      pub all_placed : (place : ℕ) (lane : Lane S) → slice_get lanes place ≡ Some lane → (rel : ℕ) → Needed place rel → IsPlaced schema lane.kinds.items rel
      all_placed place lane at rel need =
          let c = in_first place rel need in
          let (relation, relation_is) = the_relation (slice_get schema.relations rel) (there rel c) in
          let (line, line_is) = the_line (line_for rel schema.sources) (all_lines rel c) in
          record {
            relation = relation;
            line = line;
            relation_is = relation_is;
            line_is = line_is;
            place = subst (λ (o : Option SourceLine). has_place (names_of lane.kinds.items) o ≡ true) line_is ((places rel c).each place lane at need);
          }

      -- all were attached
      pub attached : (new : List (Lane S)) → LanesAttach seen schema (listed first others) lanes new → Attaches lanes new (Ok tt)
      attached new order = done (record { rels = listed first others; are = are_listed; order = order }) have_all

      -- an attach was refused
      pub was_refused : (rel : ℕ) (why : AttachFault) (new : List (Lane S)) → LanesBreak seen schema (listed first others) rel why lanes new
          → Attaches lanes new (Err (refused_as rel why))
      was_refused rel why new breaks = go why breaks
        where
          at : (e : AttachFault) → LanesBreak seen schema (listed first others) rel e lanes new → AttachBreaksAt seen schema Needed rel e lanes new
          at e b = record { rels = listed first others; are = are_listed; breaks = b }

          told : (e : AttachFault) → e ≢ attach.NoMemory → LanesBreak seen schema (listed first others) rel e lanes new
              → Attaches lanes new (Err (fault.Attach rel e))
          told e apart b = refused rel e (at e b) have_all apart

          go : (e : AttachFault) → LanesBreak seen schema (listed first others) rel e lanes new → Attaches lanes new (Err (refused_as rel e))
          go attach.Missing b = told attach.Missing (λ h. cc) b
          go attach.Failed b = told attach.Failed (λ h. cc) b
          go (attach.BadHeader column) b = told (attach.BadHeader column) (λ h. cc) b
          go (attach.BadRow number) b = told (attach.BadRow number) (λ h. cc) b
          go (attach.NotUtf8 number) b = told (attach.NotUtf8 number) (λ h. cc) b
          go attach.TooLarge b = told attach.TooLarge (λ h. cc) b
          go attach.NoMemory b = no_memory (inr (rel, at attach.NoMemory b))
