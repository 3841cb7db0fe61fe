-- Sources that tell and offer an instance serve, and hold it once they are attached.
use Rattle.std.proofs.Common.{◌≡◌, ◌≢◌, ◌<◌, ◌↔◌, inl, inr, ℕ, zero, suc, List, [], ◌∷◌, ◌++◌, length, Option, None, Some, Result, Ok, Err, Bool, true, false, cond, nat_eq, refl, sym, ◌∙◌, ap, subst, arith, append_assoc, true≢false}
use Rattle.std.specs.Prelude.{Contains, IfSome, IsSome, IsSomeAnd, IsOk, option_map, slice_get, if◌then◌else◌}
use Rattle.std.specs.List.Sorted.{IsStrictlyIncreasing}
use Rattle.std.specs.Bool.{Decides}
use Rattle.std.specs.Cmp.Lexicographic.{pointwise}
use Rattle.std.proofs.lemmas.Slice.Eq.{bytes_eq-Decides}
use Rattle.lists.proofs.Members.{some_injective, contains_here, contains_there, contains_cases, contains_map}
use Rattle.meaning.specs.declared.types.Fact.{Fact}
use Rattle.meaning.specs.declared.types.Plan.{Plan}
use Rattle.meaning.specs.declared.types.Relation.{Relation}
use Rattle.meaning.specs.Sorts.{HoldsIntegers}
use Rattle.access_schema.specs.declared.schema.Schema.{Schema}
use Rattle.access_schema.specs.declared.schema.SourceLine.{SourceLine}
use Rattle.access_schema.specs.Meaning.{meaning_of}
use Rattle.source_trait.specs.Asking.{RowList, Rises, Seen, AttachGives, facts_of, pick}
use Rattle.source_trait.specs.Lanes.{source_of, AtKind}
use Rattle.source_trait.specs.declared.source.AttachFault.{AttachFault}
use Rattle.source_trait.specs.declared.source.AttachFault.TheVariants.{TooLarge}
use Rattle.source_trait.specs.declared.lanes.Kind.{Kind}
use Rattle.source_trait.specs.declared.lanes.Lane.{Lane}
use Rattle.source_trait.proofs.LaneSteps.{StepsOn-keeps, StepsOn-others, StepsOn-source, AtKind-map}
use Rattle.middleware.specs.PlanSources.{line_for, IsAccessed, IsPlanSource}
use Rattle.middleware.specs.Attaching.{AttachesInOrder, AttachesOne, AllAttached, IsAttached, TellsSame}
use Rattle.middleware.specs.Held.{SameFacts, HoldsRelation, HoldPlan}
use Rattle.middleware.specs.Needs.{AreNeeded, LanesAttach, AttachesNeeded}
use Rattle.middleware.specs.Needs.AttachesNeeded.{done}
use Rattle.middleware.specs.LaneBranches.{OnEach, LanesHoldPlan}
use Rattle.middleware.proofs.Attached.{order_attached, attached_after}
use Rattle.middleware.proofs.Lacking.{rises_strictly}
use Rattle.middleware.proofs.Laning.{AsksLane-refl}
use Rattle.middleware.proofs.Planning.{relation_there}
use Rattle.middleware.proofs.Starting.{relation_of}
use Rattle.plan_batches.specs.Batching.{NeedsOf, needed_by_all, LanesHoldAll}
use Rattle.crawl.specs.Crawling.{IsReachable, needed_to_crawl, LanesHoldReachable}
use Rattle.bad_numbers.specs.Numbers.{HaveIntegers}
use Rattle.rule_rows.specs.RuleRelations.{RulesName, needed_first}
use Rattle.rule_rows.specs.Verifying.{used}
use Rattle.rule_rows.proofs.Picked.{fact_of, picked_held, held_picked, of_rows}
use Rattle.pdq_core.specs.Complete.{OnLanes, NoSourceRose, Serve, HasIntegers, HaveTextsAlone, KeepsCap, CanExecute}
use Rattle.pdq_core.specs.Complete.{RoundsKeepCap, CanExecuteAll, CrawlKeepsCap, CanCrawl, CanTest}
use Rattle.pdq_core.specs.Complete.{OffersFacts, OfferInstance, OfferUntold, placed, located}
use Rattle.pdq_core.proofs.CompleteIntegers.{held_integers}

-- what is picked of a relation are just its facts
same_picked : (rel : ℕ) (held instance : List Fact) → SameFacts rel (facts_of rel (pick held rel [] [])) instance → SameFacts rel held instance
same_picked rel held instance same row = (
  (λ c. (same row).0 (contains_map (fact_of rel) (pick held rel [] []) row (held_picked rel row held c))),
  (λ c. picked_held rel row held (of_rows rel row (pick held rel [] []) ((same row).1 c))),
)

-- ---- what sources tell while they are attached

abbrev given : RowList → Result RowList AttachFault
given rows = Ok rows

rows_offered : (offer : Option (Result RowList AttachFault)) (passes : Bool) (rows : RowList) → offer ≡ Some (Ok rows) → passes ≡ false →
    IfSome (option_map (λ its. if passes then Err TooLarge else its) offer) IsOk
rows_offered offer passes rows is fits = rw (is, fits) refl

module _ {S : Type 0} (seen : S → Seen) (schema : Schema) where
  abbrev Attaches : ℕ → List (List ℕ) → List ℕ → S → S → Type 0
  Attaches rel columns locator s t = AttachGives (seen s) (seen t) rel columns locator (Ok tt)

  -- what each attach keeps of a source
  order_keeps : (P : S → Type 0) → ((rel : ℕ) (columns : List (List ℕ)) (locator : List ℕ) (s t : S) → P s → Attaches rel columns locator s t → P t) →
      (rels : List ℕ) (old new : List (Kind S)) → AttachesInOrder seen schema rels old new → (kind : List ℕ) → AtKind old kind P → AtKind new kind P
  order_keeps P keeps [] old new e kind h = subst (λ (kinds : List (Kind S)). AtKind kinds kind P) (sym e) h
  order_keeps P keeps (rel ∷ rels) old new (middle, one, rest) kind h =
      order_keeps P keeps rels middle new rest kind
      (StepsOn-keeps old middle (Attaches rel one.relation.columns one.line.locator) one.line.kind kind P (keeps rel one.relation.columns one.line.locator) one.steps h)

  abbrev OffersThese : ℕ → List (List ℕ) → List ℕ → S → Type 0
  OffersThese rel columns locator s = (rows : RowList) × ((seen s).offer rel columns locator ≡ Some (Ok rows))

  offer_stays : (rel : ℕ) (columns : List (List ℕ)) (locator : List ℕ) (r : ℕ) (c : List (List ℕ)) (l : List ℕ) (s t : S) → OffersThese rel columns locator s → Attaches r c l s t →
      OffersThese rel columns locator t
  offer_stays rel columns locator r c l s t (rows, is) gives =
      (rows, subst (λ (o : ℕ → List (List ℕ) → List ℕ → Option (Result RowList AttachFault)). o rel columns locator ≡ Some (Ok rows)) (sym gives.offers) is)

  abbrev Tells : S → Type 0
  Tells s = IsSome (seen s).held

  tells_stay : (r : ℕ) (c : List (List ℕ)) (l : List ℕ) (s t : S) → Tells s → Attaches r c l s t → Tells t
  tells_stay r c l s t told gives = gives.tells ∙ told

  asked_tells : (one other : Option S) → TellsSame seen one other → IsSomeAnd one Tells → IsSomeAnd other Tells
  asked_tells None None same told = absurd told
  asked_tells None (Some t) same told = absurd told
  asked_tells (Some s) None same told = absurd same
  asked_tells (Some s) (Some t) same told = subst (λ (o : Option (List Fact)). IsSome o) (sym same.0) told

  at_source : (P : S → Type 0) (found : Option S) (s : S) → found ≡ Some s → IsSomeAnd found P → P s
  at_source P found s is h = subst (λ (o : Option S). IsSomeAnd o P) is h

  -- ---- the limit

  located_append : (kind : List ℕ) (xs ys : List ℕ) → located schema kind (xs ++ ys) ≡ located schema kind xs ++ located schema kind ys
  located_append kind [] ys = refl
  located_append kind (x ∷ xs) ys =
      ap (λ (l : List (ℕ × List ℕ)). placed kind x (line_for x schema.sources) ++ l) (located_append kind xs ys)
      ∙ sym (append_assoc (placed kind x (line_for x schema.sources)) (located schema kind xs) (located schema kind ys))

  -- what passes after one attach is what would have passed with it before
  one_passes : (rel : ℕ) (old new : List (Kind S)) → AttachesOne seen schema rel (Ok tt) old new → (kind : List ℕ) (t : S) → source_of new kind ≡ Some t →
      (s : S) × (source_of old kind ≡ Some s) × ((more : List (ℕ × List ℕ)) → (seen t).passes more ≡ (seen s).passes (placed kind rel (line_for rel schema.sources) ++ more))
  one_passes rel old new one kind t now = go (pointwise nat_eq one.line.kind kind) refl (bytes_eq-Decides one.line.kind kind)
    where
      on_line : (b : Bool) → pointwise nat_eq one.line.kind kind ≡ b → placed kind rel (line_for rel schema.sources) ≡ cond b ((rel, one.line.locator) ∷ []) []
      on_line b test = ap (placed kind rel) one.line_is ∙ ap (λ (c : Bool). cond c ((rel, one.line.locator) ∷ []) []) test

      go : (b : Bool) → pointwise nat_eq one.line.kind kind ≡ b → Decides (pointwise nat_eq one.line.kind kind) (one.line.kind ≡ kind) →
          (s : S) × (source_of old kind ≡ Some s) × ((more : List (ℕ × List ℕ)) → (seen t).passes more ≡ (seen s).passes (placed kind rel (line_for rel schema.sources) ++ more))
      go true test says =
          let same : one.line.kind ≡ kind = says.0 test in
          let moved = StepsOn-source old new (Attaches rel one.relation.columns one.line.locator) one.line.kind one.steps in
          let gives : Attaches rel one.relation.columns one.line.locator moved.before moved.after = moved.steps in
          let last : moved.after ≡ t = some_injective moved.after t (sym moved.now ∙ ap (source_of new) same ∙ now) in (
            moved.before,
            ap (source_of old) (sym same) ∙ moved.was,
            λ more. ap (λ (s : S). (seen s).passes more) (sym last) ∙ gives.passes more
                ∙ ap (λ (l : List (ℕ × List ℕ)). (seen moved.before).passes (l ++ more)) (sym (on_line true test)),
          )
      go false test says =
          let apart : kind ≢ one.line.kind = λ e. true≢false (sym (says.1 (sym e)) ∙ test) in
          let stayed = StepsOn-others old new (Attaches rel one.relation.columns one.line.locator) one.line.kind kind apart one.steps in
          (t, sym stayed ∙ now, λ more. ap (λ (l : List (ℕ × List ℕ)). (seen t).passes (l ++ more)) (sym (on_line false test)))

  -- and the same of several
  order_passes : (rels : List ℕ) (old middle : List (Kind S)) → AttachesInOrder seen schema rels old middle → (kind : List ℕ) (t : S) → source_of middle kind ≡ Some t →
      (s : S) × (source_of old kind ≡ Some s) × ((more : List (ℕ × List ℕ)) → (seen t).passes more ≡ (seen s).passes (located schema kind rels ++ more))
  order_passes [] old middle e kind t now = (t, ap (λ (l : List (Kind S)). source_of l kind) (sym e) ∙ now, λ more. refl)
  order_passes (rel ∷ rels) old middle (next, one, rest) kind t now =
      let (u, between, later) = order_passes rels next middle rest kind t now in
      let (s, was, first) = one_passes rel old next one kind u between in
      let its = placed kind rel (line_for rel schema.sources) in
      (s, was, λ more. later more ∙ first (located schema kind rels ++ more) ∙ ap (λ (l : List (ℕ × List ℕ)). (seen s).passes l) (sym (append_assoc its (located schema kind rels) more)))

  -- the relation itself is the last of those of its kind
  located_last : (rels : List ℕ) (rel : ℕ) (line : SourceLine) → line_for rel schema.sources ≡ Some line →
      located schema line.kind (rels ++ rel ∷ []) ≡ located schema line.kind rels ++ (rel, line.locator) ∷ []
  located_last rels rel line is =
      let same : pointwise nat_eq line.kind line.kind ≡ true = (bytes_eq-Decides line.kind line.kind).1 refl in
      let its : placed line.kind rel (line_for rel schema.sources) ≡ (rel, line.locator) ∷ [] =
      ap (placed line.kind rel) is ∙ ap (λ (c : Bool). cond c ((rel, line.locator) ∷ []) []) same in
      located_append line.kind rels (rel ∷ []) ∙ ap (λ (l : List (ℕ × List ℕ)). located schema line.kind rels ++ (l ++ [])) its

  -- they serve
  pub offers_serve : (IsNeeded : ℕ → Type 0) (old new : List (Kind S)) (instance : List Fact) → OfferInstance seen schema IsNeeded old instance → NoSourceRose seen schema IsNeeded old new →
      Serve seen schema IsNeeded old new
  offers_serve IsNeeded old new instance offer calm = record {
    lines = offer.lines;
    kinds = offer.kinds_are;
    offers = λ rels rel middle up are needed order relation line source relation_is line_is found.
        let these : AtKind old line.kind (OffersThese rel relation.columns line.locator) =
        AtKind-map line.kind old _ (OffersThese rel relation.columns line.locator) (λ s o. (o.rows, o.offered)) (offer.facts rel relation line needed relation_is line_is) in
        let later = order_keeps (OffersThese rel relation.columns line.locator) (offer_stays rel relation.columns line.locator) rels old middle order line.kind these in
        let (rows, is) = at_source (OffersThese rel relation.columns line.locator) (source_of middle line.kind) source found later in
        let (first, was, same) = order_passes rels old middle order line.kind source found in
        let keeps = at_source (λ s. (seen s).passes (located schema line.kind (rels ++ rel ∷ [])) ≡ false) (source_of old line.kind) first was (offer.fits rels rel line up are needed line_is) in
        let room : (seen source).passes ((rel, line.locator) ∷ []) ≡ false =
        same ((rel, line.locator) ∷ []) ∙ ap (λ (l : List (ℕ × List ℕ)). (seen first).passes l) (sym (located_last rels rel line line_is)) ∙ keeps in
        rows_offered ((seen source).offer rel relation.columns line.locator) ((seen source).passes ((rel, line.locator) ∷ [])) rows is room;
    faults = calm;
  }

  -- ---- nothing told

  abbrev OffersNothing : ℕ → List ℕ → S → Type 0
  OffersNothing rel locator s = (columns : List (List ℕ)) → (seen s).offer rel columns locator ≡ None

  nothing_stays : (rel : ℕ) (locator : List ℕ) (r : ℕ) (c : List (List ℕ)) (l : List ℕ) (s t : S) → OffersNothing rel locator s → Attaches r c l s t → OffersNothing rel locator t
  nothing_stays rel locator r c l s t none gives = λ columns.
      ap (λ (o : ℕ → List (List ℕ) → List ℕ → Option (Result RowList AttachFault)). o rel columns locator) gives.offers ∙ none columns

  there : (P : S → Type 0) (found : Option S) → IsSomeAnd found P → IsSome found
  there P None h = absurd h
  there P (Some s) h = refl

  -- they serve too
  pub untold_serve : (IsNeeded : ℕ → Type 0) (old new : List (Kind S)) → OfferUntold seen schema IsNeeded old → NoSourceRose seen schema IsNeeded old new → Serve seen schema IsNeeded old new
  untold_serve IsNeeded old new offer calm = record {
    lines = offer.lines;
    kinds = λ rel line needed line_is. there _ (source_of old line.kind) (offer.untold rel line needed line_is);
    offers = λ rels rel middle up are needed order relation line source relation_is line_is found.
        let later = order_keeps (OffersNothing rel line.locator) (nothing_stays rel line.locator) rels old middle order line.kind (offer.untold rel line needed line_is) in
        let none = at_source (OffersNothing rel line.locator) (source_of middle line.kind) source found later relation.columns in
        rw none tt;
    faults = calm;
  }

  -- ---- what is held

  taken : (rel : ℕ) (instance : List Fact) (rows : RowList) (held : Option (List Fact)) → IsSome held → IfSome held (λ facts. given rows ≡ given (pick facts rel [] [])) →
      SameFacts rel (facts_of rel rows) instance → IsSomeAnd held (λ facts. SameFacts rel facts instance)
  taken rel instance rows None told is same = absurd (cc)
  taken rel instance rows (Some facts) told is same =
      let e : rows ≡ pick facts rel [] [] = cc in
      same_picked rel facts instance (subst (λ (l : RowList). SameFacts rel (facts_of rel l) instance) e same)

  -- what was offered of a relation is held, where it is attached and the sources then tell the same
  held_after : (IsNeeded : ℕ → Type 0) (old middle new : List (Kind S)) (instance : List Fact) → OfferInstance seen schema IsNeeded old instance →
      (rel : ℕ) (relation : Relation) (line : SourceLine) → IsNeeded rel → slice_get schema.relations rel ≡ Some relation → line_for rel schema.sources ≡ Some line →
      (rels : List ℕ) → AttachesInOrder seen schema rels old middle → TellsSame seen (source_of middle line.kind) (source_of new line.kind) →
      IsAttached seen rel relation line old new → HoldsRelation seen new line.kind rel instance
  held_after IsNeeded old middle new instance offer rel relation line needed relation_is line_is rels order same each =
      let facts = offer.facts rel relation line needed relation_is line_is in
      let first : OffersFacts (seen each.before) rel relation.columns line.locator instance =
      at_source (λ s. OffersFacts (seen s) rel relation.columns line.locator instance) (source_of old line.kind) each.before each.was facts in
      let told_old : AtKind old line.kind Tells = AtKind-map line.kind old _ Tells (λ s o. o.tells) facts in
      let told_middle = order_keeps Tells tells_stay rels old middle order line.kind told_old in
      let told_new = asked_tells (source_of middle line.kind) (source_of new line.kind) same told_middle in
      let told : IsSome (seen each.after).held = at_source Tells (source_of new line.kind) each.after each.now told_new in
      let rows_are : IfSome (seen each.after).held (λ held. given first.rows ≡ given (pick held rel [] [])) =
      subst (λ (o : Option (Result RowList AttachFault)). IfSome o (λ its. IfSome (seen each.after).held (λ held. its ≡ given (pick held rel [] [])))) first.offered each.held in
      subst (λ (o : Option S). IsSomeAnd o (λ s. IsSomeAnd (seen s).held (λ held. SameFacts rel held instance))) (sym each.now)
      (taken rel instance first.rows (seen each.after).held told rows_are first.same)

  -- what was offered is held
  pub offered_held : (plan : Plan) (old new : List (Kind S)) (instance : List Fact) → OfferInstance seen schema (IsAccessed schema plan) old instance → AllAttached seen schema plan old new →
      HoldPlan seen schema plan new instance
  offered_held plan old new instance offer attached rel line accessed line_is =
      let (relation, relation_is) = relation_of schema plan rel accessed in
      let is_source : IsPlanSource schema plan rel relation line = record { accessed = accessed; relation_is = relation_is; line_is = line_is } in
      held_after (IsAccessed schema plan) old attached.middle new instance offer rel relation line accessed relation_is line_is
      attached.attaches.rels attached.attaches.order (attached.asks.tells line.kind) (attached.each rel relation line is_source)

  -- so it is where relations that rise were attached, and nothing was asked
  attached_held : (IsNeeded : ℕ → Type 0) (old new : List (Kind S)) (instance : List Fact) → OfferInstance seen schema IsNeeded old instance →
      (rel : ℕ) (relation : Relation) (line : SourceLine) → IsNeeded rel → slice_get schema.relations rel ≡ Some relation → line_for rel schema.sources ≡ Some line →
      (rels : List ℕ) → Rises rels → Contains rels rel → AttachesInOrder seen schema rels old new → HoldsRelation seen new line.kind rel instance
  attached_held IsNeeded old new instance offer rel relation line needed relation_is line_is rels up among order =
      let none = AsksLane-refl seen schema new in
      held_after IsNeeded old new new instance offer rel relation line needed relation_is line_is rels order (none.tells line.kind)
      (attached_after seen schema rel relation line [] old new new none (order_attached seen schema rels up rel among relation line relation_is line_is old new order))

  -- ---- on each lane

  -- lanes whose sources offer it serve
  pub lanes_serve : (IsNeeded : ℕ → Type 0) (Offers : List (Kind S) → Type 0) →
      ((old new : List (Kind S)) → Offers old → NoSourceRose seen schema IsNeeded old new → Serve seen schema IsNeeded old new) →
      (old new : List (Lane S)) → OnEach old Offers → OnLanes (NoSourceRose seen schema IsNeeded) old new → OnLanes (Serve seen schema IsNeeded) old new
  lanes_serve IsNeeded Offers serve [] [] offer calm = tt
  lanes_serve IsNeeded Offers serve [] (u ∷ us) offer calm = absurd calm
  lanes_serve IsNeeded Offers serve (w ∷ ws) [] offer calm = absurd calm
  lanes_serve IsNeeded Offers serve (w ∷ ws) (u ∷ us) offer calm = (
    serve w.kinds.items u.kinds.items (offer w (contains_here w ws)) calm.0,
    lanes_serve IsNeeded Offers serve ws us (λ lane among. offer lane (contains_there w ws lane among)) calm.1,
  )

  -- and hold it once it is attached
  pub lanes_hold : (plan : Plan) (instance : List Fact) (old new : List (Lane S)) →
      OnEach old (λ kinds. OfferInstance seen schema (IsAccessed schema plan) kinds instance) → OnLanes (AllAttached seen schema plan) old new → LanesHoldPlan seen schema plan new instance
  lanes_hold plan instance [] [] offer attached = λ lane among. absurd (omega arith)
  lanes_hold plan instance [] (u ∷ us) offer attached = absurd attached
  lanes_hold plan instance (w ∷ ws) [] offer attached = absurd attached
  lanes_hold plan instance (w ∷ ws) (u ∷ us) offer attached = λ lane among. elim (contains_cases u us lane among) [
    | inl here ↦
        subst (λ (l : Lane S). HoldPlan seen schema plan l.kinds.items instance) here
        (offered_held plan w.kinds.items u.kinds.items instance (offer w (contains_here w ws)) attached.0)
    | inr there ↦ lanes_hold plan instance ws us (λ l c. offer l (contains_there w ws l c)) attached.1 lane there
  ]

  -- so the plan can be executed
  pub offers_execute : (plan : Plan) (calls : ℕ) (old new : List (Lane S)) (instance : List Fact) → ((rel : ℕ) → IsAccessed schema plan rel → 0 < length old) →
      OnEach old (λ kinds. OfferInstance seen schema (IsAccessed schema plan) kinds instance) → OnLanes (NoSourceRose seen schema (IsAccessed schema plan)) old new →
      HasIntegers schema (IsAccessed schema plan) instance → KeepsCap schema plan instance calls → CanExecute seen schema plan calls old new
  offers_execute plan calls old new instance some offer calm integers within = record {
    some = some;
    serve = lanes_serve (IsAccessed schema plan) (λ kinds. OfferInstance seen schema (IsAccessed schema plan) kinds instance)
        (λ a b its quiet. offers_serve (IsAccessed schema plan) a b instance its quiet) old new offer calm;
    within = λ attached. record {
      instance = instance;
      held = lanes_hold plan instance old new offer attached;
      integers = integers;
      within = within;
    };
  }

  -- where nothing is told they serve too
  pub lanes_untold : (plan : Plan) (old new : List (Lane S)) → OnEach old (OfferUntold seen schema (IsAccessed schema plan)) → OnLanes (NoSourceRose seen schema (IsAccessed schema plan)) old new →
      OnLanes (Serve seen schema (IsAccessed schema plan)) old new
  lanes_untold plan = lanes_serve (IsAccessed schema plan) (OfferUntold seen schema (IsAccessed schema plan)) (untold_serve (IsAccessed schema plan))

  -- ---- relations of which each lane needs the same

  -- lanes that attached them hold each
  needed_held : (IsNeeded : ℕ → Type 0) (rel : ℕ) (relation : Relation) (line : SourceLine) → IsNeeded rel →
      slice_get schema.relations rel ≡ Some relation → line_for rel schema.sources ≡ Some line → (instance : List Fact) (rels : ℕ → List ℕ) →
      ((place : ℕ) → AreNeeded (λ place. IsNeeded) place (rels place)) → (old new : List (Lane S)) → LanesAttach seen schema rels old new →
      OnEach old (λ kinds. OfferInstance seen schema IsNeeded kinds instance) → OnEach new (λ kinds. HoldsRelation seen kinds line.kind rel instance)
  needed_held IsNeeded rel relation line need relation_is line_is instance rels are old new =
      go rels (λ place. ((are place).ascends, (are place).exactly)) old new
    where
      go : (rels : ℕ → List ℕ) → ((place : ℕ) → IsStrictlyIncreasing (rels place) × ((rel : ℕ) → Contains (rels place) rel ↔ IsNeeded rel)) →
          (old new : List (Lane S)) → LanesAttach seen schema rels old new → OnEach old (λ kinds. OfferInstance seen schema IsNeeded kinds instance) →
          OnEach new (λ kinds. HoldsRelation seen kinds line.kind rel instance)
      go rels are [] [] order offer = λ lane among. absurd (omega arith)
      go rels are [] (u ∷ us) order offer = absurd order
      go rels are (w ∷ ws) [] order offer = absurd order
      go rels are (w ∷ ws) (u ∷ us) order offer = λ lane among. elim (contains_cases u us lane among) [
        | inl here ↦
            subst (λ (l : Lane S). HoldsRelation seen l.kinds.items line.kind rel instance) here
            (attached_held IsNeeded w.kinds.items u.kinds.items instance (offer w (contains_here w ws)) rel relation line need relation_is line_is
            (rels zero) (rises_strictly (rels zero) (are zero).0) (((are zero).1 rel).1 need) order.0.order)
        | inr there ↦
            go (λ place. rels (suc place)) (λ place. are (suc place)) ws us order.1 (λ l c. offer l (contains_there w ws l c)) lane there
      ]

  -- ---- the reachable relations

  lanes_reachable : (instance : List Fact) (old new : List (Lane S)) → OnEach old (λ kinds. OfferInstance seen schema (IsReachable schema) kinds instance) →
      AttachesNeeded seen schema (needed_to_crawl schema) old new (Ok tt) → LanesHoldReachable seen schema new instance
  lanes_reachable instance old new offer (done each have) = λ rel reach line line_is.
      let (method, of_schema, of_relation) = reach in
      let (relation, there) = relation_there schema method of_schema in
      let relation_is : slice_get schema.relations rel ≡ Some relation = ap (slice_get schema.relations) (sym of_relation) ∙ there in
      needed_held (IsReachable schema) rel relation line reach relation_is line_is instance each.rels each.are old new each.order offer

  -- so they can be crawled
  pub offers_crawl : (calls : ℕ) (old new : List (Lane S)) (instance : List Fact) → ((rel : ℕ) → IsReachable schema rel → 0 < length old) →
      OnEach old (λ kinds. OfferInstance seen schema (IsReachable schema) kinds instance) → OnLanes (NoSourceRose seen schema (IsReachable schema)) old new →
      HasIntegers schema (IsReachable schema) instance → CrawlKeepsCap schema instance calls → CanCrawl seen schema calls old new
  offers_crawl calls old new instance some offer calm integers within = record {
    some = some;
    serve = lanes_serve (IsReachable schema) (λ kinds. OfferInstance seen schema (IsReachable schema) kinds instance)
        (λ a b its quiet. offers_serve (IsReachable schema) a b instance its quiet) old new offer calm;
    within = λ middle attaches. record {
      instance = instance;
      held = lanes_reachable instance old middle offer attaches;
      integers = integers;
      within = within;
    };
  }

  -- and where nothing is told they serve too
  pub reachable_untold : (old new : List (Lane S)) → OnEach old (OfferUntold seen schema (IsReachable schema)) → OnLanes (NoSourceRose seen schema (IsReachable schema)) old new →
      OnLanes (Serve seen schema (IsReachable schema)) old new
  reachable_untold = lanes_serve (IsReachable schema) (OfferUntold seen schema (IsReachable schema)) (untold_serve (IsReachable schema))

  -- ---- the relations of several plans

  lanes_hold_all : (plans : List Plan) (instance : List Fact) (old new : List (Lane S)) →
      OnEach old (λ kinds. OfferInstance seen schema (NeedsOf schema plans) kinds instance) →
      AttachesNeeded seen schema (needed_by_all schema plans) old new (Ok tt) → LanesHoldAll seen schema plans new instance
  lanes_hold_all plans instance old new offer (done each have) = λ lane among rel line need line_is.
      let (plan, of, accessed) = need in
      let (relation, relation_is) = relation_of schema plan rel accessed in
      needed_held (NeedsOf schema plans) rel relation line need relation_is line_is instance each.rels each.are old new each.order offer lane among

  -- so the plans can be executed together
  pub offers_batch : (plans : List Plan) (calls : ℕ) (old new : List (Lane S)) (instance : List Fact) →
      ((rel : ℕ) → NeedsOf schema plans rel → 0 < length old) →
      OnEach old (λ kinds. OfferInstance seen schema (NeedsOf schema plans) kinds instance) →
      OnLanes (NoSourceRose seen schema (NeedsOf schema plans)) old new →
      HasIntegers schema (NeedsOf schema plans) instance → RoundsKeepCap schema plans instance calls →
      CanExecuteAll seen schema plans calls old new
  offers_batch plans calls old new instance some offer calm integers within = record {
    some = some;
    serve = lanes_serve (NeedsOf schema plans) (λ kinds. OfferInstance seen schema (NeedsOf schema plans) kinds instance)
        (λ a b its quiet. offers_serve (NeedsOf schema plans) a b instance its quiet) old new offer calm;
    within = λ middle attaches. record {
      instance = instance;
      held = lanes_hold_all plans instance old middle offer attaches;
      integers = integers;
      within = within;
    };
  }

  -- and where nothing is told they serve too
  pub batch_untold : (plans : List Plan) (old new : List (Lane S)) → OnEach old (OfferUntold seen schema (NeedsOf schema plans)) →
      OnLanes (NoSourceRose seen schema (NeedsOf schema plans)) old new → OnLanes (Serve seen schema (NeedsOf schema plans)) old new
  batch_untold plans = lanes_serve (NeedsOf schema plans) (OfferUntold seen schema (NeedsOf schema plans)) (untold_serve (NeedsOf schema plans))

  -- ---- the relations that the rules name

  -- where the first lane attached them, it holds each
  first_held : (rel : ℕ) (relation : Relation) (line : SourceLine) → RulesName schema rel → slice_get schema.relations rel ≡ Some relation →
      line_for rel schema.sources ≡ Some line → (instance : List Fact) (old new : List (Lane S)) →
      OfferInstance seen schema (RulesName schema) (used old) instance → AttachesNeeded seen schema (needed_first schema) old new (Ok tt) →
      HoldsRelation seen (used new) line.kind rel instance
  first_held rel relation line named relation_is line_is instance old new offer (done each have) =
      go each.rels (rises_strictly (each.rels zero) (each.are zero).ascends) (((each.are zero).exactly rel).1 (refl, named))
      old new offer each.order
    where
      go : (rels : ℕ → List ℕ) → Rises (rels zero) → Contains (rels zero) rel → (old new : List (Lane S)) →
          OfferInstance seen schema (RulesName schema) (used old) instance → LanesAttach seen schema rels old new →
          HoldsRelation seen (used new) line.kind rel instance
      go rels up among [] [] offer order = let some = offer.kinds_are rel line named line_is in absurd (cc)
      go rels up among [] (u ∷ us) offer order = absurd order
      go rels up among (w ∷ ws) [] offer order = absurd order
      go rels up among (w ∷ ws) (u ∷ us) offer order =
          attached_held (RulesName schema) w.kinds.items u.kinds.items instance offer rel relation line named relation_is line_is
          (rels zero) up among order.0.order

  its_integers : (rel : ℕ) (instance : List Fact) → RulesName schema rel → HasIntegers schema (RulesName schema) instance →
      (held : Option (List Fact)) → IsSomeAnd held (λ facts. SameFacts rel facts instance) →
      IsSomeAnd held (λ facts. HaveIntegers (meaning_of schema) rel (pick facts rel [] []))
  its_integers rel instance named integers None same = absurd same
  its_integers rel instance named integers (Some facts) same =
      held_integers schema (RulesName schema) instance integers rel facts named same

  -- so the rules can be tested
  pub offers_test : (old new : List (Lane S)) (instance : List Fact) → OfferInstance seen schema (RulesName schema) (used old) instance →
      NoSourceRose seen schema (RulesName schema) (used old) (used new) → HasIntegers schema (RulesName schema) instance →
      CanTest seen schema old new
  offers_test old new instance offer calm integers = record {
    serve = offers_serve (RulesName schema) (used old) (used new) instance offer calm;
    integers = λ middle attaches rel column line named holds line_is.
        let (relation, relation_is, sort_is) = holds in
        AtKind-map line.kind (used middle) _
        (λ s. IsSomeAnd (seen s).held (λ facts. HaveIntegers (meaning_of schema) rel (pick facts rel [] [])))
        (λ s same. its_integers rel instance named integers (seen s).held same)
        (first_held rel relation line named relation_is line_is instance old middle offer attaches);
  }

  -- and where nothing is told they can be, if none of the relations has an integer column
  pub untold_test : (old new : List (Lane S)) → HaveTextsAlone schema (RulesName schema) →
      OfferUntold seen schema (RulesName schema) (used old) → NoSourceRose seen schema (RulesName schema) (used old) (used new) →
      CanTest seen schema old new
  untold_test old new texts offer calm = record {
    serve = untold_serve (RulesName schema) (used old) (used new) offer calm;
    integers = λ middle attaches rel column line named holds line_is. absurd (texts rel column named holds);
  }
