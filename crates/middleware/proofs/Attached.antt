-- What attaching relations one after another does to a lane.
use Rattle.std.proofs.Common.{◌≡◌, ◌≢◌, ◌⊎◌, inl, inr, ◌+◌, ◌<◌, ℕ, suc, List, [], ◌∷◌, ◌++◌, length, map, take, get_or, Option, None, Some, Bool, true, false, cond, not, ◌&&◌, nat_eq, refl, sym, ◌∙◌, ap, subst, arith}
use Rattle.std.specs.Prelude.{Contains, IfSome, IsSome, IsSomeAnd, IsOk, option_map, slice_get, Ok, Err, Result}
use Rattle.std.specs.Option.{is_some}
use Rattle.std.specs.List.{filter, AllByRecursion}
use Rattle.std.proofs.lemmas.Bool.Decides.{nat_tests}
use Rattle.std.proofs.lemmas.List.{map-append, append-nil, take_more}
use Rattle.std.proofs.lemmas.Option.{slice_get-get_or}
use Rattle.std.proofs.lemmas.List.Elements.{filter-append}
use Rattle.lists.proofs.Members.{some_injective, contains_here, contains_there, contains_cases}
use Rattle.meaning.specs.declared.types.Fact.{Fact}
use Rattle.meaning.specs.declared.types.Method.{Method}
use Rattle.meaning.specs.declared.types.Relation.{Relation}
use Rattle.meaning.specs.declared.types.Request.{Request}
use Rattle.access_schema.specs.declared.schema.Schema.{Schema}
use Rattle.access_schema.specs.declared.schema.SourceLine.{SourceLine}
use Rattle.source_trait.specs.Asking.{RowList, Seen, Attached, AttachGives, Takes, CanAsk, Rises, pick, without, facts_of, offered_now}
use Rattle.source_trait.specs.Lanes.{place_from, source_of, KindsStay}
use Rattle.source_trait.specs.declared.source.AttachFault.{AttachFault}
use Rattle.source_trait.specs.declared.source.AttachFault.TheVariants as attach
use Rattle.source_trait.specs.declared.lanes.Kind.{Kind}
use Rattle.source_trait.proofs.LaneSteps.{AtKind-map, StepsOn-stays, StepsOn-source, StepsAt-source, KindsStay-refl, KindsStay-trans, KindsStay-names}
use Rattle.middleware.specs.PlanSources.{line_for}
use Rattle.middleware.specs.Attaching.{IsAttached, AttachesOne, AttachesInOrder, TellsSame}
use Rattle.middleware.specs.Asked.{AsksLane}
use Rattle.middleware.specs.Branches.{IsAskable}
use Rattle.middleware.specs.Rounds.{CanAskAll}
use Rattle.middleware.specs.Sources.{IsPlaced, AttachBreaks}
use Rattle.middleware.specs.LaneRunning.{IsAttachedTo}
use Rattle.middleware.proofs.LaneRuns.{placed, later_source, earlier_source}

-- ---- what is picked after the data of a relation were replaced

abbrev row_of : Fact → List (List ℕ)
row_of f = f.row

abbrev is_of : ℕ → Fact → Bool
is_of rel f = nat_eq f.rel rel && true

picked_append : (rel : ℕ) (xs ys : List Fact) → pick (xs ++ ys) rel [] [] ≡ pick xs rel [] [] ++ pick ys rel [] []
picked_append rel xs ys = ap (map row_of) (filter-append (is_of rel) xs ys) ∙ map-append row_of (filter (is_of rel) xs) (filter (is_of rel) ys)

picked_without : (rel : ℕ) (facts : List Fact) → pick (without rel facts) rel [] [] ≡ []
picked_without rel [] = refl
picked_without rel (f ∷ facts) = step (nat_eq f.rel rel) refl (picked_without rel facts)
  where
    step : (b : Bool) → nat_eq f.rel rel ≡ b → pick (without rel facts) rel [] [] ≡ [] → pick (cond (not b) (f ∷ without rel facts) (without rel facts)) rel [] [] ≡ []
    step true test later = later
    step false test later = ap (λ b. map row_of (cond (b && true) (f ∷ filter (is_of rel) (without rel facts)) (filter (is_of rel) (without rel facts)))) test ∙ later

picked_own : (rel : ℕ) (rows : RowList) → pick (facts_of rel rows) rel [] [] ≡ rows
picked_own rel [] = refl
picked_own rel (row ∷ rows) =
    let own : nat_eq rel rel ≡ true = grind (arith, nat_tests) in
    ap (λ b. map row_of (cond (b && true) (record { rel = rel; row = row } ∷ filter (is_of rel) (facts_of rel rows)) (filter (is_of rel) (facts_of rel rows)))) own ∙ ap (λ (l : RowList). row ∷ l) (picked_own rel rows)

-- the rows that replaced a relation's facts are what is picked
picked_taken : (rel : ℕ) (facts : List Fact) (rows : RowList) → pick (without rel facts ++ facts_of rel rows) rel [] [] ≡ rows
picked_taken rel facts rows = picked_append rel (without rel facts) (facts_of rel rows) ∙ ap (λ (l : RowList). l ++ pick (facts_of rel rows) rel [] []) (picked_without rel facts) ∙ picked_own rel rows

other_without : (rel other : ℕ) → other ≢ rel → (facts : List Fact) → pick (without rel facts) other [] [] ≡ pick facts other [] []
other_without rel other apart [] = refl
other_without rel other apart (f ∷ facts) = step (nat_eq f.rel rel) refl (other_without rel other apart facts)
  where
    step : (b : Bool) → nat_eq f.rel rel ≡ b → pick (without rel facts) other [] [] ≡ pick facts other [] [] → pick (cond (not b) (f ∷ without rel facts) (without rel facts)) other [] [] ≡ pick (f ∷ facts) other [] []
    step true test later =
        let here : nat_eq f.rel other ≡ false = grind (arith, nat_tests, test, apart) in
        later ∙ ap (λ b. map row_of (cond (b && true) (f ∷ filter (is_of other) facts) (filter (is_of other) facts))) (sym here)
    step false test later = go (nat_eq f.rel other)
      where
        go : (b : Bool) → map row_of (cond (b && true) (f ∷ filter (is_of other) (without rel facts)) (filter (is_of other) (without rel facts))) ≡ map row_of (cond (b && true) (f ∷ filter (is_of other) facts) (filter (is_of other) facts))
        go true = ap (λ (l : RowList). f.row ∷ l) later
        go false = later

other_taken : (rel other : ℕ) → other ≢ rel → (rows : RowList) → pick (facts_of rel rows) other [] [] ≡ []
other_taken rel other apart [] = refl
other_taken rel other apart (row ∷ rows) =
    let here : nat_eq rel other ≡ false = grind (arith, nat_tests, apart) in
    ap (λ b. map row_of (cond (b && true) (record { rel = rel; row = row } ∷ filter (is_of other) (facts_of rel rows)) (filter (is_of other) (facts_of rel rows)))) here ∙ other_taken rel other apart rows

-- the rows of another relation stay
other_picked : (rel other : ℕ) → other ≢ rel → (facts : List Fact) (rows : RowList) → pick (without rel facts ++ facts_of rel rows) other [] [] ≡ pick facts other [] []
other_picked rel other apart facts rows =
    picked_append other (without rel facts) (facts_of rel rows)
    ∙ ap (λ (l : RowList). pick (without rel facts) other [] [] ++ l) (other_taken rel other apart rows)
    ∙ append-nil (pick (without rel facts) other [] []) ∙ other_without rel other apart facts

-- ---- one attach on its source

-- the rows that are told of a relation
abbrev told_rows : ℕ → Option (List Fact) → Option RowList
told_rows rel held = option_map (λ facts. pick facts rel [] []) held

module _ (old new : Seen) (rel : ℕ) (columns : List (List ℕ)) (locator : List ℕ) (gives : AttachGives old new rel columns locator (Ok tt)) where
  -- what is told of another relation stays
  other_told : (other : ℕ) → other ≢ rel → told_rows other new.held ≡ told_rows other old.held
  other_told other apart = go old.held new.held refl gives.tells gives.takes
    where
      go : (before after : Option (List Fact)) → new.held ≡ after → is_some after ≡ is_some before → IfSome before (λ facts. Takes facts after rel (length columns) (offered_now old rel columns locator)) → told_rows other after ≡ told_rows other before
      go None None is same takes = refl
      go None (Some facts) is same takes = absurd (cc)
      go (Some facts) None is same takes = absurd (cc)
      go (Some facts) (Some later) is same takes =
          let e : later ≡ without rel facts ++ facts_of rel takes.rows = some_injective later (without rel facts ++ facts_of rel takes.rows) takes.held in
          ap (λ (l : List Fact). Some (pick l other [] [])) e ∙ ap (λ (r : RowList). Some r) (other_picked rel other apart facts takes.rows)

  given_ok : (b : Bool) (given : Result RowList AttachFault) → IsOk (cond b (Err attach.TooLarge) given) → IsOk given
  given_ok true given h = absurd (cc)
  given_ok false given h = h

  own_offered : IfSome (old.offer rel columns locator) IsOk
  own_offered = go (old.offer rel columns locator) gives.offered
    where
      go : (offer : Option (Result RowList AttachFault)) → IfSome (option_map (λ g. cond (old.passes ((rel, locator) ∷ [])) (Err attach.TooLarge) g) offer) IsOk → IfSome offer IsOk
      go None h = tt
      go (Some given) h = given_ok (old.passes ((rel, locator) ∷ [])) given h

  -- where offer and rows are told, the rows are those offered
  own_told : IfSome (old.offer rel columns locator) (λ offer. IfSome (told_rows rel new.held) (λ rows. offer ≡ Ok rows))
  own_told = go (old.offer rel columns locator) old.held new.held refl gives.tells gives.takes
    where
      given_is : (b : Bool) (given : Result RowList AttachFault) (rows : RowList) → cond b (Err attach.TooLarge) given ≡ Ok rows → given ≡ Ok rows
      given_is true given rows h = absurd (cc)
      given_is false given rows h = h

      go : (offer : Option (Result RowList AttachFault)) (before after : Option (List Fact)) → old.offer rel columns locator ≡ offer → is_some after ≡ is_some before
          → IfSome before (λ facts. Takes facts after rel (length columns) (option_map (λ g. cond (old.passes ((rel, locator) ∷ [])) (Err attach.TooLarge) g) (old.offer rel columns locator)))
          → IfSome offer (λ offer. IfSome (told_rows rel after) (λ rows. offer ≡ Ok rows))
      go None before after is same takes = tt
      go (Some given) before None is same takes = tt
      go (Some given) None (Some later) is same takes = absurd (cc)
      go (Some given) (Some facts) (Some later) is same takes =
          let e : later ≡ without rel facts ++ facts_of rel takes.rows = some_injective later (without rel facts ++ facts_of rel takes.rows) takes.held in
          let rows : pick later rel [] [] ≡ takes.rows = ap (λ (l : List Fact). pick l rel [] []) e ∙ picked_taken rel facts takes.rows in
          let now : cond (old.passes ((rel, locator) ∷ [])) (Err attach.TooLarge) given ≡ Ok takes.rows =
          subst (λ (o : Option (Result RowList AttachFault)). IfSome (option_map (λ g. cond (old.passes ((rel, locator) ∷ [])) (Err attach.TooLarge) g) o) (λ o. o ≡ Ok takes.rows)) is takes.offered in
          given_is (old.passes ((rel, locator) ∷ [])) given takes.rows now ∙ ap (λ (r : RowList). Ok r) (sym rows)

-- ---- rising numbers

rises_all : (p : ℕ) (ps : List ℕ) → ((i a b : ℕ) → slice_get (p ∷ ps) i ≡ Some a → slice_get (p ∷ ps) (i + 1) ≡ Some b → a < b) → AllByRecursion (λ q. p < q) ps × Rises ps
rises_all p [] rising = (tt, tt)
rises_all p (q ∷ ps) rising =
    let rest = rises_all q ps (λ i a b e f. rising (suc i) a b e (let s : suc i + 1 ≡ suc (i + 1) = omega arith in rw s f)) in
    let less : p < q = rising 0 p q refl refl in
    ((less, above ps rest.0 less), rest)
  where
    above : (xs : List ℕ) → AllByRecursion (λ x. q < x) xs → p < q → AllByRecursion (λ x. p < x) xs
    above [] h less = tt
    above (x ∷ xs) h less = (let l = h.0 in omega (arith, l, less), above xs h.1 less)

pub rises_from : (xs : List ℕ) → ((i a b : ℕ) → slice_get xs i ≡ Some a → slice_get xs (i + 1) ≡ Some b → a < b) → Rises xs
rises_from [] rising = tt
rises_from (p ∷ ps) rising = rises_all p ps rising

all_below : (xs : List ℕ) (n : ℕ) → ((p : ℕ) → Contains xs p → p < n) → AllByRecursion (λ p. p < n) xs
all_below [] n each = tt
all_below (x ∷ xs) n each = (each x (contains_here x xs), all_below xs n (λ p c. each p (contains_there x xs p c)))

-- ---- one attach, and several, on the lane

module _ {S : Type 0} (seen : S → Seen) where
  module _ (schema : Schema) where
    module _ (rel : ℕ) (result : Result (Unit {0}) AttachFault) (old new : List (Kind S)) (one : AttachesOne seen schema rel result old new) where
      abbrev Gives : S → S → Type 0
      Gives s t = AttachGives (seen s) (seen t) rel one.relation.columns one.line.locator result

      pub one_stays : KindsStay seen old new
      one_stays = StepsOn-stays old new Gives seen one.line.kind (λ s t g. g.faults) one.steps

      -- of each kind the source stayed or was asked to attach
      one_source : (kind : List ℕ) (before after : S) → source_of old kind ≡ Some before → source_of new kind ≡ Some after → (after ≡ before) ⊎ Gives before after
      one_source kind before after was now =
          let (place, is, at) = placed old new one.line.kind Gives one.steps in
          elim (StepsAt-source old new Gives place kind at) [
            | inl same ↦ inl (some_injective after before (sym now ∙ same ∙ was))
            | inr moved ↦
                let first : moved.before ≡ before = some_injective moved.before before (sym moved.was ∙ was) in
                let last : moved.after ≡ after = some_injective moved.after after (sym moved.now ∙ now) in
                inr (subst (λ (s : S). Gives s after) first (subst (λ (t : S). Gives moved.before t) last moved.steps))
          ]

      one_offers : (kind : List ℕ) (before after : S) → source_of old kind ≡ Some before → source_of new kind ≡ Some after → (seen after).offer ≡ (seen before).offer
      one_offers kind before after was now = elim (one_source kind before after was now) [
        | inl same ↦ ap (λ (s : S). (seen s).offer) same
        | inr gives ↦ gives.offers
      ]

    pub order_stays : (rels : List ℕ) (old new : List (Kind S)) → AttachesInOrder seen schema rels old new → KindsStay seen old new
    order_stays [] old new e = subst (λ (l : List (Kind S)). KindsStay seen old l) (sym e) (KindsStay-refl seen old)
    order_stays (rel ∷ rels) old new (mid, one, rest) = KindsStay-trans seen old mid new (one_stays rel (Ok tt) old mid one) (order_stays rels mid new rest)

    -- one attach more at the end
    pub order_more : (rels : List ℕ) (rel : ℕ) (old mid new : List (Kind S)) → AttachesInOrder seen schema rels old mid → AttachesOne seen schema rel (Ok tt) mid new → AttachesInOrder seen schema (rels ++ rel ∷ []) old new
    order_more [] rel old mid new e one = (new, subst (λ (l : List (Kind S)). AttachesOne seen schema rel (Ok tt) l new) e one, refl)
    order_more (r ∷ rels) rel old mid new (next, first, rest) one = (next, first, order_more rels rel next mid new rest one)

    -- what is told of a relation that is not among those attached
    order_keeps : (rels : List ℕ) (rel : ℕ) → (Contains rels rel → ⊥) → (old new : List (Kind S)) → AttachesInOrder seen schema rels old new → (kind : List ℕ) (before : S) → source_of old kind ≡ Some before
        → (after : S) × (source_of new kind ≡ Some after) × ((seen after).attached rel ≡ (seen before).attached rel) × (told_rows rel (seen after).held ≡ told_rows rel (seen before).held)
    order_keeps [] rel apart old new e kind before was = (before, ap (λ (l : List (Kind S)). source_of l kind) e ∙ was, refl, refl)
    order_keeps (r ∷ rels) rel apart old new (mid, one, rest) kind before was =
        let (between, at, goes) = later_source seen old mid kind before (one_stays r (Ok tt) old mid one) was in
        let other : rel ≢ r = λ e. apart (subst (λ x. Contains (r ∷ rels) x) (sym e) (contains_here r rels)) in
        let (after, now, attached, told) = order_keeps rels rel (λ c. apart (contains_there r rels rel c)) mid new rest kind between at in
        elim (one_source r (Ok tt) old mid one kind before between was at) [
          | inl same ↦ (after, now, attached ∙ ap (λ (s : S). (seen s).attached rel) same, told ∙ ap (λ (s : S). told_rows rel (seen s).held) same)
          | inr gives ↦ (after, now, attached ∙ gives.others rel other, told ∙ other_told (seen before) (seen between) r one.relation.columns one.line.locator gives rel other)
        ]

    -- a relation is attached, by what is told
    pub record IsAttachedSo (rel : ℕ) (relation : Relation) (line : SourceLine) (old new : List (Kind S)) : Type 0 where
      pub before : S
      pub after : S
      pub was : source_of old line.kind ≡ Some before
      pub now : source_of new line.kind ≡ Some after
      pub attached : (seen after).attached rel ≡ Some (relation.columns, line.locator)
      pub offered : IfSome ((seen before).offer rel relation.columns line.locator) IsOk
      pub told : IfSome ((seen before).offer rel relation.columns line.locator) (λ offer. IfSome (told_rows rel (seen after).held) (λ rows. offer ≡ Ok rows))

    -- each of the relations is attached, where they rise
    pub order_attached : (rels : List ℕ) → Rises rels → (rel : ℕ) → Contains rels rel → (relation : Relation) (line : SourceLine) → slice_get schema.relations rel ≡ Some relation → line_for rel schema.sources ≡ Some line
        → (old new : List (Kind S)) → AttachesInOrder seen schema rels old new → IsAttachedSo rel relation line old new
    order_attached [] rises rel c relation line relation_is line_is old new e = absurd (omega arith)
    order_attached (r ∷ rels) rises rel c relation line relation_is line_is old new (mid, one, rest) = elim (contains_cases r rels rel c) [
      | inl here ↦ first here
      | inr there ↦ second (order_attached rels rises.1 rel there relation line relation_is line_is mid new rest)
    ]
      where
        all_above : (xs : List ℕ) → AllByRecursion (λ q. r < q) xs → Contains xs r → ⊥
        all_above [] h c = omega arith
        all_above (x ∷ xs) h c = elim (contains_cases x xs r c) [
          | inl same ↦ let l = h.0 in omega (arith, l, same)
          | inr more ↦ all_above xs h.1 more
        ]

        first : r ≡ rel → IsAttachedSo rel relation line old new
        first here =
            let which : one.relation ≡ relation = some_injective one.relation relation (sym one.relation_is ∙ ap (slice_get schema.relations) here ∙ relation_is) in
            let where_is : one.line ≡ line = some_injective one.line line (sym one.line_is ∙ ap (λ n. line_for n schema.sources) here ∙ line_is) in
            let P : ℕ → Relation → SourceLine → Type 0 = λ n x l. IsAttachedSo n x l old new in
            subst (λ n. P n relation line) here (subst (λ x. P r x line) which (subst (λ l. P r one.relation l) where_is own))
          where
            own : IsAttachedSo r one.relation one.line old new
            own =
                let moved = StepsOn-source old mid (Gives r (Ok tt) old mid one) one.line.kind one.steps in
                let (after, now, attached, told) = order_keeps rels r (λ d. all_above rels rises.0 d) mid new rest one.line.kind moved.after moved.now in
                record {
                  before = moved.before;
                  after = after;
                  was = moved.was;
                  now = now;
                  attached = attached ∙ moved.steps.attached;
                  offered = own_offered (seen moved.before) (seen moved.after) r one.relation.columns one.line.locator moved.steps;
                  told = subst (λ (h : Option RowList). IfSome ((seen moved.before).offer r one.relation.columns one.line.locator) (λ offer. IfSome h (λ rows. offer ≡ Ok rows))) (sym told)
                      (own_told (seen moved.before) (seen moved.after) r one.relation.columns one.line.locator moved.steps);
                }

        second : IsAttachedSo rel relation line mid new → IsAttachedSo rel relation line old new
        second later =
            let (b, at, goes) = earlier_source seen old mid line.kind later.before (one_stays r (Ok tt) old mid one) later.was in
            let offers : (seen later.before).offer ≡ (seen b).offer = one_offers r (Ok tt) old mid one line.kind b later.before at later.was in
            record {
              before = b;
              after = later.after;
              was = at;
              now = later.now;
              attached = later.attached;
              offered = subst (λ (f : ℕ → List (List ℕ) → List ℕ → Option (Result RowList AttachFault)). IfSome (f rel relation.columns line.locator) IsOk) offers later.offered;
              told = subst (λ (f : ℕ → List (List ℕ) → List ℕ → Option (Result RowList AttachFault)). IfSome (f rel relation.columns line.locator) (λ offer. IfSome (told_rows rel (seen later.after).held) (λ rows. offer ≡ Ok rows))) offers later.told;
            }

    -- the same after requests were asked
    pub attached_after : (rel : ℕ) (relation : Relation) (line : SourceLine) (requests : List Request) (old mid new : List (Kind S)) → AsksLane seen schema requests mid new → IsAttachedSo rel relation line old mid → IsAttached seen rel relation line old new
    attached_after rel relation line requests old mid new asks a = go (source_of new line.kind) refl (subst (λ (o : Option S). TellsSame seen o (source_of new line.kind)) a.now (asks.tells line.kind))
      where
        rows_told : (offer : Option (Result RowList AttachFault)) (held : Option (List Fact)) → IfSome offer (λ offer. IfSome (told_rows rel held) (λ rows. offer ≡ Ok rows)) → IfSome offer (λ offer. IfSome held (λ facts. offer ≡ Ok (pick facts rel [] [])))
        rows_told None held h = tt
        rows_told (Some given) None h = tt
        rows_told (Some given) (Some facts) h = h

        go : (o : Option S) → source_of new line.kind ≡ o → TellsSame seen (Some a.after) (source_of new line.kind) → IsAttached seen rel relation line old new
        go None is same = absurd (subst (λ (o : Option S). TellsSame seen (Some a.after) o) is same)
        go (Some last) is same =
            let tells = subst (λ (o : Option S). TellsSame seen (Some a.after) o) is same in
            record {
              before = a.before;
              after = last;
              was = a.was;
              now = is;
              attached = ap (λ (f : ℕ → Option Attached). f rel) tells.1 ∙ a.attached;
              offered = a.offered;
              held = rows_told ((seen a.before).offer rel relation.columns line.locator) ((seen last).held)
                  (subst (λ (h : Option (List Fact)). IfSome ((seen a.before).offer rel relation.columns line.locator) (λ offer. IfSome (told_rows rel h) (λ rows. offer ≡ Ok rows))) (sym tells.0) a.told);
            }

    -- ---- an attached relation may be asked

    pub attached_askable : (method : Method) → Contains schema.methods method → (kinds : List (Kind S)) → IsAttachedTo seen schema method.rel kinds
        → IsAskable seen schema kinds method
    attached_askable method among kinds a = record {
      line = a.line;
      line_is = a.line_is;
      ready = AtKind-map a.line.kind kinds (λ s. (seen s).attached method.rel ≡ Some (a.relation.columns, a.line.locator))
          (λ s. CanAskAll ((seen s).attached method.rel) method) may_ask a.attached;
    }
      where
        may_ask : (s : S) → (seen s).attached method.rel ≡ Some (a.relation.columns, a.line.locator) → CanAskAll ((seen s).attached method.rel) method
        may_ask s is = λ values long. subst (λ (o : Option Attached). CanAsk o method.inputs values) (sym is) (
          rises_from method.inputs (λ i p q e f. schema.valid.methods_are.rising method i p q among e f),
          all_below method.inputs (length a.relation.columns) (λ p c. schema.valid.methods_are.inputs method a.relation p among a.relation_is c),
          long,
        )

    -- after attaches in order each of the relations is attached
    pub order_attached_to : (rels : List ℕ) → Rises rels → (rel : ℕ) → Contains rels rel → (relation : Relation) (line : SourceLine)
        → slice_get schema.relations rel ≡ Some relation → line_for rel schema.sources ≡ Some line
        → (old new : List (Kind S)) → AttachesInOrder seen schema rels old new → IsAttachedTo seen schema rel new
    order_attached_to rels rises rel c relation line relation_is line_is old new order =
        let a = order_attached rels rises rel c relation line relation_is line_is old new order in
        record {
          relation = relation;
          line = line;
          relation_is = relation_is;
          line_is = line_is;
          attached = subst (λ (o : Option S). IsSomeAnd o (λ s. (seen s).attached rel ≡ Some (relation.columns, line.locator))) (sym a.now) a.attached;
        }

    -- one relation more
    pub order_take : (rels : List ℕ) (i : ℕ) → i < length rels → (old mid new : List (Kind S)) → AttachesInOrder seen schema (take i rels) old mid → AttachesOne seen schema (get_or rels i 0) (Ok tt) mid new → AttachesInOrder seen schema (take (i + 1) rels) old new
    order_take rels i less old mid new order one =
        subst (λ (r : List ℕ). AttachesInOrder seen schema r old new) (sym (take_more rels i 0 less)) (order_more (take i rels) (get_or rels i 0) old mid new order one)

    pub order_break : (rels : List ℕ) (i : ℕ) → i < length rels → (why : AttachFault) (old mid new : List (Kind S)) → AttachesInOrder seen schema (take i rels) old mid → AttachesOne seen schema (get_or rels i 0) (Err why) mid new → AttachBreaks seen schema rels (get_or rels i 0) why old new
    order_break rels i less why old mid new order one = record { n = i; at = slice_get-get_or rels i 0 less; middle = mid; attached = order; refused = one }

    -- a relation keeps its place on the lane
    pub placed_later : (rels : List ℕ) (rel : ℕ) (old mid : List (Kind S)) → AttachesInOrder seen schema rels old mid → IsPlaced schema old rel → IsPlaced schema mid rel
    placed_later rels rel old mid order p = record {
      relation = p.relation;
      line = p.line;
      relation_is = p.relation_is;
      line_is = p.line_is;
      place = subst (λ (n : List (List ℕ)). IsSome (place_from 0 p.line.kind n)) (sym (KindsStay-names seen old mid (order_stays rels old mid order))) p.place;
    }
