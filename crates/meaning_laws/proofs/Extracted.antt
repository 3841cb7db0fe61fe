-- The branch that is read off a derivation is sound where the copy has a match, and complete for the query that it began with.
use Rattle.std.proofs.Common.{◌≡◌, ℕ, ◌<◌, ◌≤◌, List, [], ◌∷◌, sym, ap, ◌∙◌, subst, ⊎_elim, arith}
use Rattle.std.specs.Prelude.{Contains, map}
use Rattle.std.specs.List.{AllZip}
use Rattle.lists.proofs.Members.{contains_cases, contains_map, contains_mapped}
use Rattle.meaning_laws.proofs.Added.{opened_from}
use Rattle.meaning_laws.proofs.Carrying.{image_values, extend_run, run_below, occurs_below}
use Rattle.meaning_laws.proofs.Extracting.{steps_image, steps_map, outs_image, outs_row, columns_have, columns_kept, same_vals}
use Rattle.meaning.specs.declared.types.Term.{Term}
use Rattle.meaning.specs.declared.types.Term.TheVariants.{Var, Const as Said}
use Rattle.meaning.specs.declared.types.Val.{Val}
use Rattle.meaning.specs.declared.types.Val.TheVariants.{Const, Label}
use Rattle.meaning.specs.declared.types.Fact.{Fact}
use Rattle.meaning.specs.declared.types.Ground.{Ground}
use Rattle.meaning.specs.declared.types.Query.{Query}
use Rattle.meaning.specs.declared.types.SchemaParts.{SchemaParts}
use Rattle.meaning.specs.declared.types.Trigger.{Trigger}
use Rattle.meaning.specs.Matching.{value_of, IsQueryAnswer, GroundsOf, AnswersQuery, Meets}
use Rattle.meaning.specs.Plans.{IsWellFormed}
use Rattle.meaning.specs.Rows.{IsOut, IsBranchRow}
use Rattle.meaning.specs.Homomorphisms.{image, Carries, fact_of}
use Rattle.meaning.specs.Triggers.{bound, ground, State, AreNumbered, LabelsBelow}
use Rattle.meaning.specs.Runs.{frozen_head, opening_state}
use Rattle.meaning.specs.Extract.{Exposure, exposed_facts, columns_after, all_columns, out_of, branch_of, IsDerivation, IsHeadKnown}

-- an answer in labelled facts is carried along
pub carries_answer : (h : ℕ → List ℕ) (facts : List Ground) (instance : List Fact) (query : Query) (head : List Val) → Carries h facts instance → IsQueryAnswer Const (GroundsOf facts) query head → AnswersQuery query instance (map (image h) head)
carries_answer h facts instance query head carries (a, are, e) = (
  (λ x. image h (a x)),
  (λ atom among. subst (λ row. Contains instance (record { rel = atom.rel; row = row })) (image_values h a atom.terms) (carries (ground a atom) (are atom among))),
  ap (map (image h)) e ∙ image_values h a query.head,
)

pub all_have : (columns : List ℕ) (exposures : List Exposure) (e : Exposure) (k : ℕ) → Contains exposures e → Contains e.fact.vals (Label k) → Contains (all_columns columns exposures) k
all_have columns [] e k c l = absurd (omega arith)
all_have columns (first ∷ exposures) e k c l =
    ⊎_elim (λ same. all_kept' (columns_after columns first.fact.vals) exposures k (columns_have columns first.fact.vals k (subst (λ (x : Exposure). Contains x.fact.vals (Label k)) (sym same) l)))
    (λ h. all_have (columns_after columns first.fact.vals) exposures e k h l) (contains_cases first exposures e c)
  where
    all_kept' : (columns : List ℕ) (exposures : List Exposure) (k : ℕ) → Contains columns k → Contains (all_columns columns exposures) k
    all_kept' columns [] k c = c
    all_kept' columns (e ∷ exposures) k c = all_kept' (columns_after columns e.fact.vals) exposures k (columns_kept columns e.fact.vals k c)

module _ (schema : SchemaParts) (well : IsWellFormed schema) (numbered : AreNumbered schema.rules) (query : Query) (base : List Trigger) (middle : State) (exposures : List Exposure) (copy : List Trigger) (end : State) (derivation : IsDerivation schema query base middle exposures copy end) where
  opening_below : LabelsBelow (opening_state query).facts (opening_state query).next
  opening_below fact k c l =
      let (atom, among, e) = contains_mapped (ground Label) query.atoms fact (opened_from query fact c) in
      let (term, has, is) = contains_mapped (value_of Const Label) atom.terms (Label k) (subst (λ (f : Ground). Contains f.vals (Label k)) (sym e) l) in
      term_case term atom among has is
    where
      term_case : (term : Term) (atom : _) → Contains query.atoms atom → Contains atom.terms term → value_of Const Label term ≡ Label k → k < query.variables
      term_case (Said t) atom among has is = absurd (cc)
      term_case (Var x) atom among has is =
          let same : x ≡ k = cc in
          let below : x < bound query.atoms = occurs_below query.atoms x (atom, among, has) in
          let fits = derivation.opening in
          omega arith

  middle_below : LabelsBelow middle.facts middle.next × (query.variables ≤ middle.next)
  middle_below = run_below schema.rules base (opening_state query) middle numbered opening_below derivation.base_run

  exposed_below : LabelsBelow (exposed_facts exposures) middle.next
  exposed_below fact k c l =
      let (e, among, same) = contains_mapped (λ (e : Exposure). e.fact) exposures fact c in
      middle_below.0 fact k (subst (λ f. Contains middle.facts f) same (derivation.of_base e among)) l

  -- each row is an answer of the query that matches in the copy
  pub extract_sound : (instance : List Fact) (goal : Query) (head : List Val) (row : List (List ℕ)) → Meets instance schema → IsHeadKnown exposures head → IsQueryAnswer Const (GroundsOf end.facts) goal head → IsBranchRow schema (branch_of exposures head) instance row → AnswersQuery goal instance row
  extract_sound instance goal head row meets known match (last, steps, output) =
      let (g, agree, is_last, carries) = steps_map schema well instance (λ k. []) [] exposures last derivation.of_schema steps in
      let have : (k : ℕ) → Contains head (Label k) → Contains (all_columns [] exposures) k = λ k c. let (e, among, l) = known k c in all_have [] exposures e k among l in
      let is_row : row ≡ map (image g) head = outs_row g (all_columns [] exposures) head row have (subst (λ r. AllZip (IsOut r) (map (out_of (all_columns [] exposures)) head) row) is_last output) in
      let start : Carries g (exposed_facts exposures) instance =
      λ fact c. let (e, among, same) = contains_mapped (λ (e : Exposure). e.fact) exposures fact c in subst (λ f. Contains instance (fact_of g f)) same (carries e among) in
      let (f, same, whole) = extend_run schema.rules copy (record { facts = exposed_facts exposures; next = middle.next }) end instance g numbered meets exposed_below derivation.copy_run start in
      let heads : map (image f) head ≡ map (image g) head = same_vals schema well instance f g head (λ k c. let (e, among, l) = known k c in same k (exposed_below e.fact k (contains_map (λ (e : Exposure). e.fact) exposures e among) l)) in
      subst (λ r. AnswersQuery goal instance r) (heads ∙ sym is_row) (carries_answer f end.facts instance goal head whole match)

  -- each answer of the query is a row
  pub extract_complete : (instance : List Fact) (row : List (List ℕ)) → Meets instance schema → IsHeadKnown exposures (frozen_head query) → ((k : ℕ) → Contains (frozen_head query) (Label k) → k < query.variables) → AnswersQuery query instance row → IsBranchRow schema (branch_of exposures (frozen_head query)) instance row
  extract_complete instance row meets known head_below (a, are, e) =
      let start : Carries a (opening_state query).facts instance =
      λ fact c. let (atom, among, same) = contains_mapped (ground Label) query.atoms fact (opened_from query fact c) in
      subst (λ f. Contains instance (fact_of a f)) same (subst (λ r. Contains instance (record { rel = atom.rel; row = r })) (sym (image_values a Label atom.terms)) (are atom among)) in
      let (g, same, carries) = extend_run schema.rules base (opening_state query) middle instance a numbered meets opening_below derivation.base_run start in
      let head = frozen_head query in
      let have : (k : ℕ) → Contains head (Label k) → Contains (all_columns [] exposures) k = λ k c. let (e, among, l) = known k c in all_have [] exposures e k among l in
      let heads : map (image g) head ≡ row = same_vals schema well instance g a head (λ k c. same k (head_below k c)) ∙ image_values a Label query.head ∙ sym e in (
        map g (all_columns [] exposures),
        steps_image schema well instance g [] exposures derivation.of_schema (λ x c. carries x.fact (derivation.of_base x c)),
        subst (λ r. AllZip (IsOut (map g (all_columns [] exposures))) (map (out_of (all_columns [] exposures)) head) r) heads (outs_image g (all_columns [] exposures) head have),
      )
