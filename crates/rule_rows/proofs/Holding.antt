-- The facts that were asked for are those that the sources hold.
use Rattle.std.proofs.Common.{◌≡◌, ◌⊎◌, inl, inr, ℕ, List, [], ◌∷◌, Option, None, Some, refl, sym, ◌∙◌, ap, subst, arith}
use Rattle.std.specs.Prelude.{Contains, IfSome, IsSome, IsSomeAnd, Ok}
use Rattle.std.proofs.lemmas.List.Elements.{Contains-append_cases, Contains-append_left, Contains-append_right}
use Rattle.lists.proofs.Members.{some_injective, contains_here, contains_there, contains_cases, contains_map}
use Rattle.meaning.specs.declared.types.Fact.{Fact}
use Rattle.access_schema.specs.declared.schema.Schema.{Schema}
use Rattle.access_schema.specs.declared.schema.SourceLine.{SourceLine}
use Rattle.source_trait.specs.Asking.{RowList, Rises, Seen, CallGives, pick, facts_of}
use Rattle.source_trait.specs.Lanes.{source_of, AtKind}
use Rattle.source_trait.specs.declared.lanes.Kind.{Kind}
use Rattle.source_trait.proofs.LaneSteps.{StepsOn-source}
use Rattle.middleware.specs.PlanSources.{line_for}
use Rattle.middleware.specs.Held.{SameFacts, HoldsRelation}
use Rattle.rule_rows.specs.Asking.{IsReady, AsksOne, AsksInOrder}
use Rattle.middleware.proofs.Lacking.{above}
use Rattle.rule_rows.proofs.Asking.{one_keeps}
use Rattle.rule_rows.proofs.Picked.{fact_of, picked_held, held_picked, of_rows, not_other}

module _ {S : Type 0} (seen : S → Seen) (schema : Schema) where
  abbrev Told : Option (List Fact) → S → Type 0
  Told told s = (seen s).held ≡ told

  one_told : (rel : ℕ) (rows : RowList) (old new : List (Kind S)) → AsksOne seen schema rel (Ok rows) old new → (kind : List ℕ) (told : Option (List Fact)) → AtKind old kind (Told told) → AtKind new kind (Told told)
  one_told rel rows old new one kind told h = one_keeps seen schema rel (Ok rows) old new one kind (Told told) (λ s t was gives. gives.held ∙ was) h

  -- what a source holds stays
  order_told : (rels : List ℕ) (facts : List Fact) (old new : List (Kind S)) → AsksInOrder seen schema rels facts old new → (kind : List ℕ) (told : Option (List Fact)) → AtKind old kind (Told told) → AtKind new kind (Told told)
  order_told [] facts old new (none, e) kind told h = subst (λ (l : List (Kind S)). AtKind l kind (Told told)) (sym e) h
  order_told (rel ∷ rels) facts old new (rows, rest, mid, e, one, integers, later) kind told h = order_told rels rest mid new later kind told (one_told rel rows old mid one kind told h)

  -- the rows that came are those that the source holds
  one_rows : (rel : ℕ) (rows : RowList) (old new : List (Kind S)) (one : AsksOne seen schema rel (Ok rows) old new) (held : List Fact) → AtKind old one.line.kind (Told (Some held)) → rows ≡ pick held rel [] []
  one_rows rel rows old new one held h =
      let moved = StepsOn-source old new (λ s t. CallGives (seen s) (seen t) rel [] [] (Ok rows)) one.line.kind one.steps in
      let told : (seen moved.before).held ≡ Some held = subst (λ (o : Option S). IsSomeAnd o (Told (Some held))) moved.was h in
      subst (λ (o : Option (List Fact)). IfSome o (λ facts. rows ≡ pick facts rel [] [])) told moved.steps.picks

  -- no fact is one of a relation that was not asked for
  apart_from : (rels : List ℕ) (facts : List Fact) (old new : List (Kind S)) → AsksInOrder seen schema rels facts old new → (rel : ℕ) → (Contains rels rel → ⊥) → (row : List (List ℕ)) → Contains facts (fact_of rel row) → ⊥
  apart_from [] facts old new (none, e) rel apart row c = let h = subst (λ (l : List Fact). Contains l (fact_of rel row)) none c in omega (arith, h)
  apart_from (r ∷ rels) facts old new (rows, rest, mid, e, one, integers, later) rel apart row c =
      elim (Contains-append_cases (facts_of r rows) rest (fact_of rel row) (subst (λ (l : List Fact). Contains l (fact_of rel row)) e c)) [
        | inl first ↦ apart (subst (λ n. Contains (r ∷ rels) n) (not_other rel row r rows first) (contains_here r rels))
        | inr second ↦ apart_from rels rest mid new later rel (λ d. apart (contains_there r rels rel d)) row second
      ]

  -- of each relation that was asked for, the facts are those that its source holds
  facts_held : (rels : List ℕ) → Rises rels → (facts : List Fact) (old new : List (Kind S)) → AsksInOrder seen schema rels facts old new → (rel : ℕ) → Contains rels rel → (line : SourceLine) → line_for rel schema.sources ≡ Some line
      → (held : List Fact) → AtKind old line.kind (Told (Some held)) → SameFacts rel facts held
  facts_held [] up facts old new order rel c line line_is held h = absurd (omega arith)
  facts_held (r ∷ rels) up facts old new (rows, rest, mid, e, one, integers, later) rel c line line_is held h = elim (contains_cases r rels rel c) [
    | inl here ↦ first here
    | inr there ↦ second there (facts_held rels up.1 rest mid new later rel there line line_is held (one_told r rows old mid one line.kind (Some held) h))
  ]
    where
      to : (row : List (List ℕ)) → Contains facts (fact_of rel row) → Contains (facts_of r rows) (fact_of rel row) ⊎ Contains rest (fact_of rel row)
      to row d = Contains-append_cases (facts_of r rows) rest (fact_of rel row) (subst (λ (l : List Fact). Contains l (fact_of rel row)) e d)

      first : r ≡ rel → SameFacts rel facts held
      first here row =
          let where_is : line ≡ one.line = some_injective line one.line (sym line_is ∙ ap (λ n. line_for n schema.sources) (sym here) ∙ one.line_is) in
          let is : rows ≡ pick held r [] [] = one_rows r rows old mid one held (subst (λ (l : SourceLine). AtKind old l.kind (Told (Some held))) where_is h) in
          let own : rows ≡ pick held rel [] [] = subst (λ n. rows ≡ pick held n [] []) here is in
          let mine : Contains (facts_of r rows) (fact_of rel row) → Contains (facts_of rel rows) (fact_of rel row) = λ d. subst (λ n. Contains (facts_of n rows) (fact_of rel row)) here d in
          let not_later : Contains rels rel → ⊥ = λ d. let later = above r rels rel up.0 d in omega (arith, later, here) in (
            (λ d. elim (to row d) [
              | inl m ↦ picked_held rel row held (subst (λ (l : RowList). Contains l row) own (of_rows rel row rows (mine m)))
              | inr n ↦ absurd (apart_from rels rest mid new later rel not_later row n)
            ]),
            (λ d. subst (λ (l : List Fact). Contains l (fact_of rel row)) (sym e) (Contains-append_left (facts_of r rows) rest (fact_of rel row)
                (subst (λ n. Contains (facts_of n rows) (fact_of rel row)) (sym here) (contains_map (fact_of rel) rows row (subst (λ (l : RowList). Contains l row) (sym own) (held_picked rel row held d)))))),
          )

      second : Contains rels rel → SameFacts rel rest held → SameFacts rel facts held
      second there same row = (
        (λ d. elim (to row d) [
          | inl m ↦ let clash = not_other rel row r rows m in let later = above r rels rel up.0 there in absurd (omega (arith, clash, later))
          | inr n ↦ (same row).0 n
        ]),
        (λ d. subst (λ (l : List Fact). Contains l (fact_of rel row)) (sym e) (Contains-append_right (facts_of r rows) rest (fact_of rel row) ((same row).1 d))),
      )

  -- where a source holds just the facts of an instance afterwards, they are those that were asked for
  pub instance_asked : (rels : List ℕ) → Rises rels → (facts : List Fact) (old new : List (Kind S)) → AsksInOrder seen schema rels facts old new → (rel : ℕ) → Contains rels rel → IsReady seen schema old rel →
      (instance : List Fact) → ((line : SourceLine) → line_for rel schema.sources ≡ Some line → HoldsRelation seen new line.kind rel instance) → SameFacts rel facts instance
  instance_asked rels up facts old new order rel c ready instance holds =
      go (source_of old ready.line.kind) refl ready.attached
    where
      last : (o : Option S) (told : Option (List Fact)) → IsSomeAnd o (Told told) → IsSomeAnd o (λ s. IsSomeAnd ((seen s).held) (λ facts. SameFacts rel facts instance)) → IsSomeAnd told (λ facts. SameFacts rel facts instance)
      last None told h k = absurd h
      last (Some s) told h k = subst (λ (o : Option (List Fact)). IsSomeAnd o (λ facts. SameFacts rel facts instance)) h k

      end : (told : Option (List Fact)) → AtKind old ready.line.kind (Told told) → IsSomeAnd told (λ held. SameFacts rel held instance) → SameFacts rel facts instance
      end None h k = absurd k
      end (Some held) h k =
          let own = facts_held rels up facts old new order rel c ready.line ready.line_is held h in
          λ row. ((λ d. (k row).0 ((own row).0 d)), (λ d. (own row).1 ((k row).1 d)))

      go : (o : Option S) → source_of old ready.line.kind ≡ o → IsSomeAnd o (λ s. IsSome ((seen s).attached rel)) → SameFacts rel facts instance
      go None is h = absurd h
      go (Some s) is h =
          let start : AtKind old ready.line.kind (Told (seen s).held) = subst (λ (o : Option S). IsSomeAnd o (Told (seen s).held)) (sym is) refl in
          end (seen s).held start (last (source_of new ready.line.kind) (seen s).held (order_told rels facts old new order ready.line.kind (seen s).held start) (holds ready.line ready.line_is))
