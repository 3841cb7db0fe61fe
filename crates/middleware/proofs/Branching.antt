-- What the rounds of a branch mean on an instance, and what requests leave of what a lane holds.
use Rattle.std.proofs.Common.{◌≡◌, inl, inr, ⊎_elim, ℕ, zero, suc, ◌+◌, ◌<◌, ◌≤◌, List, [], ◌∷◌, ◌++◌, length, map, take, drop, get_or, Option, None, Some, refl, sym, ◌∙◌, ap, subst, arith}
use Rattle.std.specs.Prelude.{Contains, IsSomeAnd, slice_get}
use Rattle.std.specs.List.{AllZip}
use Rattle.std.proofs.lemmas.List.{drop_more}
use Rattle.lists.proofs.Members.{contains_here, contains_there, contains_map, contains_mapped, got_below}
use Rattle.meaning.specs.declared.types.Fact.{Fact}
use Rattle.meaning.specs.declared.types.Method.{Method}
use Rattle.meaning.specs.declared.types.SchemaParts.{SchemaParts}
use Rattle.meaning.specs.declared.types.Place.{Place}
use Rattle.meaning.specs.declared.types.Place.TheVariants.{Const, Col, New}
use Rattle.meaning.specs.declared.types.Out.{Out}
use Rattle.meaning.specs.declared.types.Out.TheVariants.{Const as Fixed, Col as Made}
use Rattle.meaning.specs.declared.types.Step.{Step}
use Rattle.meaning.specs.declared.types.Branch.{Branch}
use Rattle.meaning.specs.declared.types.Request.{Request}
use Rattle.meaning.specs.Plans.{made, IsWellFormed, IsMethod, AreLawfulPlaces, IsLawfulOut, AreLawfulFrom, IsLawfulBranch}
use Rattle.meaning.specs.Rows.{IsOut}
use Rattle.access_schema.specs.declared.schema.Schema.{Schema}
use Rattle.source_trait.specs.Asking.{RowList, Seen}
use Rattle.source_trait.specs.Lanes.{source_of}
use Rattle.source_trait.specs.declared.lanes.Kind.{Kind}
use Rattle.middleware.specs.Held.{SameFacts, HoldsRelation}
use Rattle.middleware.specs.Attaching.{TellsSame}
use Rattle.middleware.specs.Asked.{AsksLane}
use Rattle.middleware.specs.Rounds.{CanAskAll}
use Rattle.middleware.specs.Branches.{HasAdded, AddsBranch, IsInput, columns_after, IsReady, IsReadyOut, IsReadyBranch, out_value, output_of, IsAskable, Means}
use Rattle.middleware.specs.Live.{is_shown}
use Rattle.middleware.specs.Naming.{AreNamed}
use Rattle.middleware.specs.declared.blocks.Block.{Block}
use Rattle.middleware.proofs.Steps.{steps_length}

-- ---- what a lawful branch makes ready

input_lawful : (constants : List (List ℕ)) (inputs : List ℕ) (began : ℕ) (places : List Place) (p columns q : ℕ) → AreLawfulPlaces constants inputs began p columns places → Contains inputs (p + q) → q < length places → IsInput began (slice_get places q)
input_lawful constants inputs began [] p columns q l i h = absurd (omega arith)
input_lawful constants inputs began (Const t ∷ places) p columns zero l i h = tt
input_lawful constants inputs began (Const t ∷ places) p columns (suc q) l i h =
    let here : p + suc q ≡ (p + 1) + q = omega arith in
    input_lawful constants inputs began places (p + 1) columns q l.1 (subst (λ n. Contains inputs n) here i) (omega arith)
input_lawful constants inputs began (Col k ∷ places) p columns zero l i h =
    let here : p + zero ≡ p = omega arith in l.1 (subst (λ n. Contains inputs n) here i)
input_lawful constants inputs began (Col k ∷ places) p columns (suc q) l i h =
    let here : p + suc q ≡ (p + 1) + q = omega arith in
    input_lawful constants inputs began places (p + 1) columns q l.2 (subst (λ n. Contains inputs n) here i) (omega arith)
input_lawful constants inputs began (New ∷ places) p columns zero l i h =
    let here : p + zero ≡ p = omega arith in absurd (l.0 (subst (λ n. Contains inputs n) here i))
input_lawful constants inputs began (New ∷ places) p columns (suc q) l i h =
    let here : p + suc q ≡ (p + 1) + q = omega arith in
    input_lawful constants inputs began places (p + 1) (columns + 1) q l.1 (subst (λ n. Contains inputs n) here i) (omega arith)

-- lawful places name columns that there are by then
places_named : (constants : List (List ℕ)) (inputs : List ℕ) (began : ℕ) (places : List Place) (p columns : ℕ) → AreLawfulPlaces constants inputs began p columns places → AreNamed columns places
places_named constants inputs began [] p columns l = tt
places_named constants inputs began (Const t ∷ places) p columns l = places_named constants inputs began places (p + 1) columns l.1
places_named constants inputs began (Col k ∷ places) p columns l = (l.0, places_named constants inputs began places (p + 1) columns l.2)
places_named constants inputs began (New ∷ places) p columns l = places_named constants inputs began places (p + 1) (columns + 1) l.1

module _ (schema : SchemaParts) (well : IsWellFormed schema) (constants : List (List ℕ)) where
  steps_ready : (columns : ℕ) (steps : List Step) (output : List Out) → AreLawfulFrom schema constants columns steps output → (i : ℕ) (step : Step) → slice_get steps i ≡ Some step
      → IsReady schema (columns_after columns (take i steps)) step
  steps_ready columns [] output l i step e = absurd (cc)
  steps_ready columns (s ∷ steps) output (method, l, rest) zero step e =
      let same : s ≡ step = cc in
      subst (λ (x : Step). IsReady schema columns x) same (record {
        method = method;
        named = l.named;
        inputs = λ p c.
            let zeroth : p ≡ 0 + p = omega arith in
            let below : p < length l.arity.relation.columns = well.inputs method l.arity.relation p l.named.0 l.arity.there c in
            input_lawful constants method.inputs columns s.places 0 columns p l.places (subst (λ n. Contains method.inputs n) zeroth c) (rw l.arity.width below);
        names = places_named constants method.inputs columns s.places 0 columns l.places;
      })
  steps_ready columns (s ∷ steps) output (method, l, rest) (suc i) step e = steps_ready (made columns s.places) steps output rest i step e

  outs_ready : (columns : ℕ) (steps : List Step) (output : List Out) → AreLawfulFrom schema constants columns steps output → (out : Out) → Contains output out → IsReadyOut (columns_after columns steps) out
  outs_ready columns [] output l out c = go out (l out c)
    where
      go : (out : Out) → IsLawfulOut constants columns out → IsReadyOut columns out
      go (Fixed t) h = tt
      go (Made k) h = h
  outs_ready columns (s ∷ steps) output (method, l, rest) out c = outs_ready (made columns s.places) steps output rest out c

  pub branch_ready : (branch : Branch) → IsLawfulBranch schema constants branch → IsReadyBranch schema branch
  branch_ready branch l = record {
    steps = λ i step e. steps_ready 0 branch.steps branch.output l i step e;
    output = λ out c. outs_ready 0 branch.steps branch.output l out c;
  }

-- ---- the inputs of a step

pub inputs_for : (schema : SchemaParts) → IsWellFormed schema → (columns : ℕ) (step : Step) (method : Method) → IsMethod schema step.method method → IsReady schema columns step
    → (p : ℕ) → Contains method.inputs p → IsInput columns (slice_get step.places p)
inputs_for schema well columns step method named ready =
    let same : ready.method ≡ method = well.once ready.method method ready.named.0 named.0 (ready.named.1 ∙ sym named.1) in
    subst (λ (m : Method). (p : ℕ) → Contains m.inputs p → IsInput columns (slice_get step.places p)) same ready.inputs

-- ---- the steps from one on

pub left_at : (steps : List Step) (i : ℕ) (step : Step) → i < length steps → step ≡ get_or steps i step → drop i steps ≡ step ∷ drop (i + 1) steps
left_at steps i step less at = drop_more steps i step less ∙ ap (λ (s : Step). s ∷ drop (i + 1) steps) (sym at)

pub drop_all : (steps : List Step) (i : ℕ) → length steps ≤ i → drop i steps ≡ []
drop_all [] zero over = refl
drop_all [] (suc i) over = refl
drop_all (s ∷ steps) zero over = absurd (omega arith)
drop_all (s ∷ steps) (suc i) over = drop_all steps i (omega arith)

-- ---- what the rounds of a branch mean on an instance

pub columns_push : (n : ℕ) (steps : List Step) (step : Step) → columns_after n (steps ++ step ∷ []) ≡ made (columns_after n steps) step.places
columns_push n [] step = refl
columns_push n (s ∷ steps) step = columns_push (made n s.places) steps step

-- the output of all its steps
module _ (schema : SchemaParts) (instance : List Fact) (branch : Branch) (ready : IsReadyBranch schema branch) (blocks : List Block) (rows next : RowList) (requests : List Request)
    (m : Means schema instance (is_shown branch.output) branch.steps blocks requests) (added : HasAdded rows (map (output_of branch.output) m.partial) next) where
  outputs_zip : (row : List (List ℕ)) (outs : List Out) → ((out : Out) → Contains outs out → IsReadyOut (length row) out) → AllZip (IsOut row) outs (output_of outs row)
  outputs_zip row [] are = tt
  outputs_zip row (out ∷ outs) are = (go out (are out (contains_here out outs)), outputs_zip row outs (λ o c. are o (contains_there out outs o c)))
    where
      go : (out : Out) → IsReadyOut (length row) out → IsOut row out (out_value row out)
      go (Fixed t) h = refl
      go (Made k) h = let (v, e) = got_below row k h in rw e refl

  zip_outputs : (row : List (List ℕ)) (outs : List Out) (values : List (List ℕ)) → AllZip (IsOut row) outs values → values ≡ output_of outs row
  zip_outputs row [] [] z = refl
  zip_outputs row [] (v ∷ values) z = absurd z
  zip_outputs row (out ∷ outs) [] z = absurd z
  zip_outputs row (out ∷ outs) (v ∷ values) z = let here = go out v z.0 in let rest = zip_outputs row outs values z.1 in cc
    where
      go : (out : Out) (v : List ℕ) → IsOut row out v → v ≡ out_value row out
      go (Fixed t) v h = h
      go (Made k) v h = rw h refl

  pub adds_branch : AddsBranch schema instance branch rows next requests
  adds_branch =
      record {
        exactly = λ row. (
          (λ c. elim ((added row).0 c) [
            | inl first ↦ inl first
            | inr second ↦
                let (last, among, e) = contains_mapped (output_of branch.output) m.partial row second in
                let leads = (m.partial_are last).0 among in
                let long = steps_length schema instance branch.steps [] last leads in
                inr (last, leads, subst (λ (v : List (List ℕ)). AllZip (IsOut last) branch.output v) e (outputs_zip last branch.output (λ out o. rw long (ready.output out o))))
          ]),
          (λ h. (added row).1 (⊎_elim
              (λ c. inl c)
              (λ (last, leads, zip). inr (
              (subst (λ (v : List (List ℕ)). Contains (map (output_of branch.output) m.partial) v) (sym (zip_outputs last branch.output row zip)) (contains_map (output_of branch.output) m.partial last ((m.partial_are last).1 leads)))))
              h)),
        );
        are = m.are;
      }

-- ---- sources between two moments

module _ {S : Type 0} (seen : S → Seen) where
  holds_later : (a b : Option S) (P : List Fact → Type 0) → TellsSame seen a b → IsSomeAnd a (λ s. IsSomeAnd ((seen s).held) P) → IsSomeAnd b (λ s. IsSomeAnd ((seen s).held) P)
  holds_later None b P same h = absurd h
  holds_later (Some s) None P same h = absurd same
  holds_later (Some s) (Some t) P same h = subst (λ (o : Option (List Fact)). IsSomeAnd o P) (sym same.0) h

  holds_earlier : (a b : Option S) (P : List Fact → Type 0) → TellsSame seen a b → IsSomeAnd b (λ s. IsSomeAnd ((seen s).held) P) → IsSomeAnd a (λ s. IsSomeAnd ((seen s).held) P)
  holds_earlier None None P same h = absurd h
  holds_earlier None (Some t) P same h = absurd same
  holds_earlier (Some s) None P same h = absurd h
  holds_earlier (Some s) (Some t) P same h = subst (λ (o : Option (List Fact)). IsSomeAnd o P) same.0 h

  attached_later : (a b : Option S) (P : (ℕ → Option _) → Type 0) → TellsSame seen a b → IsSomeAnd a (λ s. P ((seen s).attached)) → IsSomeAnd b (λ s. P ((seen s).attached))
  attached_later None b P same h = absurd h
  attached_later (Some s) None P same h = absurd same
  attached_later (Some s) (Some t) P same h = subst P (sym same.1) h

  module _ (schema : Schema) (requests : List Request) (old new : List (Kind S)) (asks : AsksLane seen schema requests old new) where
    pub relation_later : (kind : List ℕ) (rel : ℕ) (instance : List Fact) → HoldsRelation seen old kind rel instance → HoldsRelation seen new kind rel instance
    relation_later kind rel instance h = holds_later (source_of old kind) (source_of new kind) (λ facts. SameFacts rel facts instance) (asks.tells kind) h

    pub relation_earlier : (kind : List ℕ) (rel : ℕ) (instance : List Fact) → HoldsRelation seen new kind rel instance → HoldsRelation seen old kind rel instance
    relation_earlier kind rel instance h = holds_earlier (source_of old kind) (source_of new kind) (λ facts. SameFacts rel facts instance) (asks.tells kind) h

    pub askable_later : (method : Method) → IsAskable seen schema old method → IsAskable seen schema new method
    askable_later method a = record {
      line = a.line;
      line_is = a.line_is;
      ready = attached_later (source_of old a.line.kind) (source_of new a.line.kind) (λ attached. CanAskAll (attached method.rel) method) (asks.tells a.line.kind) a.ready;
    }
