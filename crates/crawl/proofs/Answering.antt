-- What the answers of a round are: rows of the arity of their relation, and just those of an instance that the lanes hold.
use Rattle.std.proofs.Common.{◌≡◌, ◌↔◌, ◌∙◌, ⊎_elim, ℕ, suc, List, [], ◌∷◌, length, Option, None, Some, true, refl, sym, ap, subst, arith}
use Rattle.std.specs.Prelude.{Contains, slice_get, IsSomeAnd, IfSome}
use Rattle.std.specs.List.{AllByRecursion}
use Rattle.lists.proofs.Members.{some_injective, contains_none, contains_cases, all_member}
use Rattle.meaning.specs.declared.types.Fact.{Fact}
use Rattle.meaning.specs.declared.types.Request.{Request}
use Rattle.meaning.specs.Values.{Row}
use Rattle.meaning.specs.Instances.{FitsRelation}
use Rattle.meaning.specs.Crawls.{IsPicked}
use Rattle.access_schema.specs.declared.schema.Schema.{Schema}
use Rattle.access_schema.specs.declared.schema.SourceLine.{SourceLine}
use Rattle.access_schema.specs.Meaning.{meaning_of}
use Rattle.source_trait.specs.Asking.{RowList, Seen, Attached, agrees, pick}
use Rattle.source_trait.specs.Lanes.{source_of}
use Rattle.source_trait.specs.declared.lanes.Lane.{Lane}
use Rattle.source_trait.specs.declared.work.Ask.{Ask}
use Rattle.middleware.specs.Held.{SameFacts}
use Rattle.middleware.specs.LaneRounds.{requests_in, HasItsKind, IsAnswer, Gives}
use Rattle.middleware.specs.LaneBranches.{OnEach}
use Rattle.middleware.specs.LaneAsking.{LanesHoldRelation}
use Rattle.middleware.specs.LaneRunning.{IsAttachedTo}
use Rattle.middleware.proofs.LaneValues.{picked_through}
use Rattle.crawl_rounds.specs.Log.{Answered, requests_of}
use Rattle.crawl.specs.Progress.{answered_by}
use Rattle.bad_numbers.proofs.Picking.{pick_is}

-- an answered request, by its place
pub answered_at : (asks : List Ask) (answers : List RowList) (a : Answered) → Contains (answered_by asks answers) a
    → (k : ℕ) × (ask : Ask) × (rows : RowList) × (slice_get asks k ≡ Some ask) × (slice_get answers k ≡ Some rows) × (record { request = ask.request; rows = rows } ≡ a)
answered_at [] answers a c = absurd (contains_none a c)
answered_at (x ∷ asks) [] a c = absurd (contains_none a c)
answered_at (x ∷ asks) (r ∷ answers) a c = ⊎_elim (λ e. (0, x, r, refl, refl, e))
    (λ d. let (k, ask, rows, at, its, e) = answered_at asks answers a d in (suc k, ask, rows, at, its, e))
    (contains_cases (record { request = x.request; rows = r }) (answered_by asks answers) a c)

pub answered_requests : (asks : List Ask) (answers : List RowList) → length answers ≡ length asks → requests_of (answered_by asks answers) ≡ requests_in asks
answered_requests [] answers e = refl
answered_requests (x ∷ asks) [] e = absurd (omega arith)
answered_requests (x ∷ asks) (r ∷ answers) e = ap (λ (l : List Request). x.request ∷ l) (answered_requests asks answers (omega arith))

module _ {S : Type 0} (seen : S → Seen) (schema : Schema) (lanes : List (Lane S)) (ask : Ask) (its : HasItsKind schema ask) (rows : RowList) (is : IsAnswer seen lanes ask rows) where
  -- each row has the arity of the relation
  pub answer_fits : OnEach lanes (IsAttachedTo seen schema ask.request.rel) → (row : Row) → Contains rows row → FitsRelation (meaning_of schema) ask.request.rel row
  answer_fits attached row c =
      let a = attached is.lane is.among in
      let same : its.line ≡ a.line = some_injective its.line a.line (sym its.line_is ∙ a.line_is) in
      let kind : a.line.kind ≡ ask.kind = ap (λ (l : SourceLine). l.kind) (sym same) ∙ sym its.kind in
      record {
        relation = a.relation;
        there = a.relation_is;
        width = go a.relation.columns a.line.locator (source_of is.lane.kinds.items ask.kind) is.gives
            (subst (λ k. IsSomeAnd (source_of is.lane.kinds.items k) (λ s. (seen s).attached ask.request.rel ≡ Some (a.relation.columns, a.line.locator))) kind a.attached);
      }
    where
      go : (columns : List (List ℕ)) (locator : List ℕ) (o : Option S) → IsSomeAnd o (Gives seen ask.request rows) → IsSomeAnd o (λ s. (seen s).attached ask.request.rel ≡ Some (columns, locator)) → length row ≡ length columns
      go columns locator None gives at = absurd gives
      go columns locator (Some s) gives at =
          let fit = subst (λ (o : Option Attached). IfSome o (λ a. AllByRecursion (λ (r : Row). (length r ≡ length a.0) × (agrees ask.request.positions ask.request.values r ≡ true)) rows)) at gives.fits in
          (all_member (λ (r : Row). (length r ≡ length columns) × (agrees ask.request.positions ask.request.values r ≡ true)) rows row fit c).0

  -- the rows are those of the facts in the answer
  pub answer_picks : (instance : List Fact) → LanesHoldRelation seen schema ask.request.rel lanes instance → length ask.request.values ≡ length ask.request.positions
      → (row : Row) → Contains rows row ↔ IsPicked instance ask.request (record { rel = ask.request.rel; row = row })
  answer_picks instance holds long row = (
    (λ c. (pick_is instance ask.request long row).0 (through.0 c)),
    (λ p. through.1 ((pick_is instance ask.request long row).1 p)),
  )
    where
      held_here : (held : Option (List Fact)) → IfSome held (λ facts. rows ≡ pick facts ask.request.rel ask.request.positions ask.request.values) → IsSomeAnd held (λ facts. SameFacts ask.request.rel facts instance)
          → Contains rows row ↔ Contains (pick instance ask.request.rel ask.request.positions ask.request.values) row
      held_here None picks same = absurd same
      held_here (Some facts) picks same =
          let t = picked_through facts instance ask.request.rel ask.request.positions ask.request.values same row in (
            (λ c. t.0 (subst (λ (l : RowList). Contains l row) picks c)),
            (λ c. subst (λ (l : RowList). Contains l row) (sym picks) (t.1 c)),
          )

      go : (o : Option S) → IsSomeAnd o (Gives seen ask.request rows) → IsSomeAnd o (λ s. IsSomeAnd ((seen s).held) (λ facts. SameFacts ask.request.rel facts instance))
          → Contains rows row ↔ Contains (pick instance ask.request.rel ask.request.positions ask.request.values) row
      go None gives same = absurd gives
      go (Some s) gives same = held_here ((seen s).held) gives.picks same

      through : Contains rows row ↔ Contains (pick instance ask.request.rel ask.request.positions ask.request.values) row
      through = go (source_of is.lane.kinds.items ask.kind) is.gives
          (subst (λ k. IsSomeAnd (source_of is.lane.kinds.items k) (λ s. IsSomeAnd ((seen s).held) (λ facts. SameFacts ask.request.rel facts instance))) (sym its.kind)
          (holds its.line its.line_is is.lane is.among))
