-- What attaching relations one after another does to a lane.
use Rattle.std.proofs.Common.{inl, inr, ℕ, List, [], ◌∷◌, Option, sym, ap, subst, arith}
use Rattle.std.specs.Prelude.{Contains, IsSome, IsSomeAnd, Ok}
use Rattle.std.specs.Option.{is_some}
use Rattle.std.proofs.lemmas.Bool.{cases_eq}
use Rattle.lists.proofs.Members.{contains_cases}
use Rattle.access_schema.specs.declared.schema.Schema.{Schema}
use Rattle.source_trait.specs.Asking.{Seen, Attached, AttachGives}
use Rattle.source_trait.specs.Lanes.{AtKind}
use Rattle.source_trait.specs.declared.lanes.Kind.{Kind}
use Rattle.source_trait.proofs.LaneSteps.{StepsOn-source, StepsOn-keeps}
use Rattle.middleware.specs.Attaching.{AttachesOne, AttachesInOrder}
use Rattle.rule_rows.specs.Asking.{IsReady}

module _ {S : Type 0} (seen : S → Seen) (schema : Schema) where
  abbrev Gives : (rel : ℕ) (old new : List (Kind S)) → AttachesOne seen schema rel (Ok tt) old new → S → S → Type 0
  Gives rel old new one s t = AttachGives (seen s) (seen t) rel one.relation.columns one.line.locator (Ok tt)

  abbrev Has : ℕ → S → Type 0
  Has rel s = IsSome ((seen s).attached rel)

  module _ (rel : ℕ) (old new : List (Kind S)) (one : AttachesOne seen schema rel (Ok tt) old new) where
    -- what was attached before an attach is so after it
    one_keeps : (other : ℕ) (kind : List ℕ) → AtKind old kind (Has other) → AtKind new kind (Has other)
    one_keeps other kind h = StepsOn-keeps old new (Gives rel old new one) one.line.kind kind (Has other) keeps one.steps h
      where
        keeps : (s t : S) → Has other s → Gives rel old new one s t → Has other t
        keeps s t has gives = elim (cases_eq other rel) [
          | inl same ↦ subst (λ n. IsSome ((seen t).attached n)) (sym same) (ap is_some gives.attached)
          | inr apart ↦ subst (λ (o : Option Attached). IsSome o) (sym (gives.others other apart)) has
        ]

    one_attached : AtKind new one.line.kind (Has rel)
    one_attached =
        let moved = StepsOn-source old new (Gives rel old new one) one.line.kind one.steps in
        let attached = moved.steps.attached in
        subst (λ (o : Option S). IsSomeAnd o (Has rel)) (sym moved.now) (ap is_some attached)

  order_keeps : (rels : List ℕ) (old new : List (Kind S)) → AttachesInOrder seen schema rels old new → (other : ℕ) (kind : List ℕ) → AtKind old kind (Has other) → AtKind new kind (Has other)
  order_keeps [] old new e other kind h = subst (λ (l : List (Kind S)). AtKind l kind (Has other)) (sym e) h
  order_keeps (rel ∷ rels) old new (mid, one, rest) other kind h = order_keeps rels mid new rest other kind (one_keeps rel old mid one other kind h)

  -- each of the relations may be asked after they were attached
  pub order_ready : (rels : List ℕ) (old new : List (Kind S)) → AttachesInOrder seen schema rels old new → (rel : ℕ) → Contains rels rel → IsReady seen schema new rel
  order_ready [] old new e rel c = absurd (omega arith)
  order_ready (r ∷ rels) old new (mid, one, rest) rel c = elim (contains_cases r rels rel c) [
    | inl same ↦ subst (λ n. IsReady seen schema new n) same (record {
      line = one.line;
      line_is = one.line_is;
      attached = order_keeps rels mid new rest r one.line.kind (one_attached r old mid one);
    })
    | inr more ↦ order_ready rels mid new rest rel more
  ]
