-- Lanes that have attached the reachable relations may be asked each request of a round.
use Rattle.std.proofs.Common.{◌≡◌, ◌∙◌, ◌<◌, ℕ, Bool, List, [], ◌∷◌, length, get_or, refl, sym, ap, subst, arith}
use Rattle.std.specs.Prelude.{Contains, IsSome, map}
use Rattle.std.proofs.lemmas.Option.{slice_get-get_or}
use Rattle.lists.proofs.Members.{contains_here, contains_got, contains_mapped, joined_from}
use Rattle.access_schema.specs.declared.schema.Schema.{Schema}
use Rattle.lane_pool.specs.Work.{AllReady}
use Rattle.source_trait.specs.Asking.{Seen, CanAsk}
use Rattle.source_trait.specs.Lanes.{AtKind}
use Rattle.source_trait.specs.Works.{MayAsk}
use Rattle.source_trait.specs.declared.lanes.Lane.{Lane}
use Rattle.source_trait.specs.declared.work.Ask.{Ask}
use Rattle.source_trait.proofs.LaneSteps.{AtKind-map}
use Rattle.middleware.specs.PlanSources.{line_for}
use Rattle.middleware.specs.Rounds.{CanAskAll}
use Rattle.middleware.specs.LaneBranches.{OnEach}
use Rattle.middleware.specs.LaneRunning.{IsAttachedTo}
use Rattle.middleware.proofs.Attached.{attached_askable}
use Rattle.crawl_rounds.specs.Rows.{Marked, class_rows}
use Rattle.crawl_rounds.specs.Rounds.{Class, AreClasses}
use Rattle.crawl_rounds.proofs.RowMembers.{is_class_row}
use Rattle.crawl.specs.Asking.{kind_of, ask_to, round_asks}
use Rattle.crawl.specs.Crawling.{IsReachable}

module _ {S : Type 0} (seen : S → Seen) (schema : Schema) (classes : List Class) (are : AreClasses schema.methods classes) (lanes : List (Lane S))
    (attached : (rel : ℕ) → IsReachable schema rel → OnEach lanes (IsAttachedTo seen schema rel)) where
  -- each class has a source line
  pub lines_there : 0 < length lanes → (class : Class) → Contains classes class → IsSome (line_for class.0 schema.sources)
  lines_there some class among =
      let (method, of_schema, rel, inputs) = (are.exactly class).0 among in
      first lanes some (attached class.0 (method, of_schema, rel))
    where
      first : (ls : List (Lane S)) → 0 < length ls → OnEach ls (IsAttachedTo seen schema class.0) → IsSome (line_for class.0 schema.sources)
      first [] some each = absurd (omega (arith, some))
      first (lane ∷ ls) some each = let is = (each lane (contains_here lane ls)).line_is in rw is refl

  ready_ask : (first : Bool) (values : List Marked) (lane : Lane S) → Contains lanes lane → (ask : Ask) → Contains (round_asks schema first values classes) ask → MayAsk seen lane ask
  ready_ask first values lane among ask c =
      let (class, in_classes, d) = joined_from (λ (k : Class). map (ask_to schema k) (class_rows first values (length k.1))) classes ask c in
      let (row, in_rows, e) = contains_mapped (ask_to schema class) (class_rows first values (length class.1)) ask d in
      let (method, of_schema, rel, inputs) = (are.exactly class).0 in_classes in
      let its = is_class_row first values (length class.1) row in_rows in
      let askable = attached_askable seen schema method of_schema lane.kinds.items (attached method.rel (method, of_schema, refl) lane among) in
      let ready : AtKind lane.kinds.items askable.line.kind (λ s. CanAsk ((seen s).attached method.rel) method.inputs row) =
      AtKind-map askable.line.kind lane.kinds.items (λ s. CanAskAll ((seen s).attached method.rel) method) (λ s. CanAsk ((seen s).attached method.rel) method.inputs row)
      (λ s h. h row (its.long ∙ ap length (sym inputs))) askable.ready in
      let same : (method.rel, method.inputs) ≡ class = λ i. (rel i, inputs i) in
      subst (MayAsk seen lane) e
      (subst (λ (k : Class). MayAsk seen lane (ask_to schema k row)) same
      (subst (λ kind. AtKind lane.kinds.items kind (λ s. CanAsk ((seen s).attached method.rel) method.inputs row)) (sym (ap kind_of askable.line_is)) ready))

  pub ready_piece : (first : Bool) (values : List Marked) (asks : List Ask) → ((ask : Ask) → Contains asks ask → Contains (round_asks schema first values classes) ask) → AllReady (MayAsk seen) asks lanes
  ready_piece first values asks within = λ k d less j e short.
      ready_ask first values (get_or lanes k d) (contains_got lanes k (get_or lanes k d) (slice_get-get_or lanes k d less)) (get_or asks j e)
      (within (get_or asks j e) (contains_got asks j (get_or asks j e) (slice_get-get_or asks j e short)))
