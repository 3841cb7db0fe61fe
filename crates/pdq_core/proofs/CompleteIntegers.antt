-- Where data have integers at integer columns, no bad number is received.
use Rattle.std.proofs.Common.{◌≡◌, ℕ, List, [], ◌∷◌, Option, None, Some, Ok, sym, subst}
use Rattle.std.specs.Prelude.{Contains, IfSome, IsSomeAnd}
use Rattle.meaning.specs.declared.types.Fact.{Fact}
use Rattle.meaning.specs.declared.types.Request.{Request}
use Rattle.meaning.specs.Crawls.{IsReceived}
use Rattle.access_schema.specs.declared.schema.Schema.{Schema}
use Rattle.access_schema.specs.Meaning.{meaning_of}
use Rattle.source_trait.specs.Asking.{RowList, Seen, CallGives, pick}
use Rattle.source_trait.specs.Lanes.{AtKind}
use Rattle.source_trait.specs.declared.lanes.Kind.{Kind}
use Rattle.source_trait.proofs.LaneSteps.{StepsOn-source}
use Rattle.middleware.specs.Held.{SameFacts}
use Rattle.bad_numbers.specs.Numbers.{HaveIntegers, ReceiveFirstBad}
use Rattle.bad_numbers.proofs.Parts.{none_bad as no_bad_row}
use Rattle.rule_rows.specs.Asking.{AsksInOrder, NumberBreaks}
use Rattle.rule_rows.proofs.Asking.{one_keeps}
use Rattle.rule_rows.proofs.Picked.{fact_of, picked_held}
use Rattle.pdq_core.specs.Complete.{HasIntegers, TellIntegers}

-- ---- what requests receive of an instance

module _ (schema : Schema) (IsNeeded : ℕ → Type 0) (instance : List Fact) (integers : HasIntegers schema IsNeeded instance) where
  -- no bad number is received of the relations
  pub none_bad : (requests : List Request) (rel column : ℕ) →
      ((fact : Fact) → IsReceived instance requests fact → fact.rel ≡ rel → IsNeeded fact.rel) →
      ReceiveFirstBad (meaning_of schema) instance requests rel column → ⊥
  none_bad requests rel column needed first =
      let (fact, received, of, other) = first.bad in
      let (request, among, picked) = received in
      let (value, holds, at, apart) = other in
      apart (integers fact picked.holds (needed fact received of) column value holds at)

  -- nor is one among the rows that are held of one of them
  pub held_integers : (rel : ℕ) (held : List Fact) → IsNeeded rel → SameFacts rel held instance →
      HaveIntegers (meaning_of schema) rel (pick held rel [] [])
  held_integers rel held needed same row among =
      integers (fact_of rel row) ((same row).0 (picked_held rel row held among)) needed

-- ---- whole relations

module _ {S : Type 0} (seen : S → Seen) (schema : Schema) where
  -- what is told of what a source holds stays so while relations are asked
  asks_keep : (P : Option (List Fact) → Type 0) (kind : List ℕ) (rels : List ℕ) (facts : List Fact) (old new : List (Kind S)) →
      AsksInOrder seen schema rels facts old new → AtKind old kind (λ s. P (seen s).held) → AtKind new kind (λ s. P (seen s).held)
  asks_keep P kind [] facts old new (none, e) h = subst (λ (l : List (Kind S)). AtKind l kind (λ s. P (seen s).held)) (sym e) h
  asks_keep P kind (rel ∷ rels) facts old new (rows, rest, middle, e, one, integers, later) h =
      asks_keep P kind rels rest middle new later
      (one_keeps seen schema rel (Ok rows) old middle one kind (λ s. P (seen s).held) (λ s t its gives. subst P (sym gives.held) its) h)

  abbrev HeldIntegers : ℕ → Option (List Fact) → Type 0
  HeldIntegers rel held = IsSomeAnd held (λ facts. HaveIntegers (meaning_of schema) rel (pick facts rel [] []))

  came_integers : (rel : ℕ) (rows : RowList) (held : Option (List Fact)) → HeldIntegers rel held →
      IfSome held (λ facts. rows ≡ pick facts rel [] []) → HaveIntegers (meaning_of schema) rel rows
  came_integers rel rows None told is = absurd told
  came_integers rel rows (Some facts) told is = subst (λ (l : RowList). HaveIntegers (meaning_of schema) rel l) (sym is) told

  -- where the sources of a lane tell integers, no whole relation has a bad number
  pub no_break : (IsNeeded : ℕ → Type 0) (rels : List ℕ) (rel column : ℕ) (old new : List (Kind S)) →
      TellIntegers seen schema IsNeeded old → IsNeeded rel → NumberBreaks seen schema rels rel column old new → ⊥
  no_break IsNeeded rels rel column old new tells needed breaks =
      let (row, among, other) = breaks.bad.bad in
      let (value, holds, at, apart) = other in
      let one = breaks.came in
      let told : AtKind old one.line.kind (λ s. HeldIntegers rel (seen s).held) =
      tells rel column one.line needed holds one.line_is in
      let later : AtKind breaks.middle one.line.kind (λ s. HeldIntegers rel (seen s).held) =
      asks_keep (HeldIntegers rel) one.line.kind _ breaks.facts old breaks.middle breaks.asked told in
      let rows = breaks.rows in
      let moved = StepsOn-source breaks.middle new (λ s t. CallGives (seen s) (seen t) rel [] [] (Ok rows)) one.line.kind one.steps in
      let gives : CallGives (seen moved.before) (seen moved.after) rel [] [] (Ok rows) = moved.steps in
      let held : HeldIntegers rel (seen moved.before).held =
      subst (λ (o : Option S). IsSomeAnd o (λ s. HeldIntegers rel (seen s).held)) moved.was later in
      no_bad_row (meaning_of schema) rel rows column (came_integers rel rows (seen moved.before).held held gives.picks) breaks.bad.bad
