-- What the end of a chase shows of its query and the others.
use Rattle.std.proofs.Common.{◌≡◌, ℕ, List, [], ◌∷◌, ◌++◌, refl, sym, ap, ◌∙◌, subst, ⊎_elim, arith}
use Rattle.std.specs.Prelude.{Contains, Option, Some, None, map}
use Rattle.std.proofs.lemmas.List.Elements.{Contains-append_left}
use Rattle.lists.proofs.Members.{contains_here, contains_cases, contains_map, contains_mapped}
use Rattle.meaning.specs.declared.types.Term.{Term}
use Rattle.meaning.specs.declared.types.Term.TheVariants.{Var, Const as Said}
use Rattle.meaning.specs.declared.types.SchemaParts.{SchemaParts}
use Rattle.meaning.specs.declared.types.Fact.{Fact}
use Rattle.meaning.specs.declared.types.Query.{Query}
use Rattle.meaning.specs.declared.types.Trigger.{Trigger}
use Rattle.meaning.specs.declared.types.Val.{Val}
use Rattle.meaning.specs.declared.types.Val.TheVariants.{Const, Label}
use Rattle.meaning.specs.declared.types.Ground.{Ground}
use Rattle.meaning.specs.Values.{Value, Row}
use Rattle.meaning.specs.Homomorphisms.{image, renamed}
use Rattle.meaning.specs.Matching.{value_of, AreFacts, IsQueryAnswer, GroundsOf, AnswersQuery}
use Rattle.meaning.specs.Fitting.{RulesFit, QueryHasConstants}
use Rattle.meaning.specs.Triggers.{State, ground, IsFiringRun, IsQuiet}
use Rattle.meaning.specs.Runs.{opening_state, frozen_head}
use Rattle.meaning.specs.Naming.{IsNaming}
use Rattle.meaning_laws.proofs.Carrying.{run_fires}
use Rattle.meaning_laws.proofs.Keeping.{run_keeps}
use Rattle.meaning_laws.proofs.Kept.{kept_opening}
use Rattle.meaning_laws.proofs.Judging.{contained, separated}
use Rattle.integer_laws.specs.Sorted.{NamesIntegers, AreSortedRules}
use Rattle.integer_laws.specs.Claimed.{IsSortedModel}
use Rattle.integer_laws.proofs.Instances.{separated_sorted}
use Rattle.no_plan_witness.specs.Texts.{labels_in, Names, text_under, AreNamesFor}
use Rattle.no_plan_witness.proofs.Occurring.{label_occurs, more_labels}
use Rattle.no_plan_witness.proofs.Refuting.{named, is_naming, names_integers, same_head, same_facts}
use Rattle.plan_check.specs.declared.chase.Chase.{Chase}
use Rattle.plan_check.specs.Trials.{IsTriable, FormIsTriable, AreTriable, FormHas, SomeHas, AnswersForm, AnswersSome, IsChase, IsNamedEnd, IsContained, IsSeparated}

module _ (schema : SchemaParts) (known : List Value) (rules : RulesFit schema known) (query : Query) (triable : IsTriable schema known query) (others : List (Option Query))
    (log : List Trigger) (end : State) (run : IsFiringRun schema.rules (opening_state query) log end) where
  -- one of the others has the frozen head
  pub all_contained : SomeHas end.facts others (frozen_head query) → IsContained schema query others
  all_contained (None, among, has) facts row meets answer = absurd has
  all_contained (Some other, among, has) facts row meets answer =
      (Some other, among, contained schema known query other log end rules triable.fits triable.constants run has facts row meets answer)

  -- the query itself has it
  answered : IsQueryAnswer Const (GroundsOf end.facts) query (frozen_head query)
  answered =
      let opened = kept_opening schema known query triable.fits triable.constants in
      let kept = run_keeps schema known log (opening_state query) end rules opened.base_named opened.base_fits run in
      (opened.answered.0, (λ atom among. kept.grows (ground opened.answered.0 atom) (opened.answered.1 atom among)), opened.answered.2)

  -- so each label of the head is one of a fact
  head_occurs : (k : ℕ) → Contains (frozen_head query) (Label k) → Contains (labels_in end.facts) k
  head_occurs k among = from answered
    where
      by : (a : ℕ → Val) → AreFacts Const (GroundsOf end.facts) a query.atoms → (term : Term) → Contains query.head term → value_of Const a term ≡ Label k → Contains (labels_in end.facts) k
      by a are (Said t) inside is = absurd (cc)
      by a are (Var x) inside is =
          let (atom, there, occurs) = triable.fits.head x inside in
          label_occurs end.facts (record { rel = atom.rel; vals = map (value_of Const a) atom.terms }) k (are atom there)
          (subst (Contains (map (value_of Const a) atom.terms)) is (contains_map (value_of Const a) atom.terms (Var x) occurs))

      from : IsQueryAnswer Const (GroundsOf end.facts) query (frozen_head query) → Contains (labels_in end.facts) k
      from (a, are, e) =
          let (term, inside, is) = contains_mapped (value_of Const a) query.head (Label k) (subst (λ l. Contains l (Label k)) e among) in
          by a are term inside is

  module _ (sorted : AreSortedRules schema) (triables : AreTriable schema known others)
      (quiet : IsQuiet schema.rules end) (missing : SomeHas end.facts others (frozen_head query) → ⊥)
      (instance : List Fact) (row : Row) (is : IsNamedEnd schema known end.facts (frozen_head query) instance row) where
    h : ℕ → Value
    h = named schema known (end.facts ++ []) is.names is.named

    naming : IsNaming known end.next h
    unfolding h
    naming = is_naming schema known (end.facts ++ []) is.names is.named end.next

    facts_are : renamed h end.facts ≡ instance
    unfolding h
    facts_are = same_facts schema known (end.facts ++ []) is.names is.named end.facts (λ fact c. Contains-append_left end.facts [] fact c) ∙ sym is.instance_is

    row_is : map (image h) (frozen_head query) ≡ row
    unfolding h
    row_is = same_head schema known (end.facts ++ []) is.names is.named (frozen_head query) (λ k c. more_labels end.facts [] k (head_occurs k c)) ∙ sym is.row_is

    integers : NamesIntegers schema end.facts h
    unfolding h
    integers =
        names_integers schema known (end.facts ++ []) is.names is.named end.facts
        (λ fact c. Contains-append_left end.facts [] fact c)

    both : IsSortedModel schema (renamed h end.facts)
        × AnswersQuery query (renamed h end.facts) (map (image h) (frozen_head query))
    both =
        let (model, answer, none) =
        separated_sorted schema known query [] log end h rules triable.fits triable.constants
        (λ q c. absurd (omega (arith, c.1))) run quiet (λ q c has. omega (arith, c.1)) naming sorted triable.sorted
        integers in
        (model, answer)

    not_form : (form : Option Query) → Contains others form → FormIsTriable schema known form → (FormHas end.facts (frozen_head query) form → ⊥) →
        AnswersForm form (renamed h end.facts) (map (image h) (frozen_head query)) → ⊥
    not_form None among can lacks answer = answer
    not_form (Some other) among can lacks answer =
        let (model, its, none) = separated schema known query (other ∷ []) log end h rules triable.fits triable.constants
        (λ q c. subst (QueryHasConstants known) (only q c) can.constants) run quiet
        (λ q c has. lacks (subst (λ (p : Query). IsQueryAnswer Const (GroundsOf end.facts) p (frozen_head query)) (sym (only q c)) has)) naming in
        none other (contains_here other []) answer
      where
        only : (q : Query) → Contains (other ∷ []) q → other ≡ q
        only q c = ⊎_elim (λ same. same) (λ none. absurd (omega (arith, none.1))) (contains_cases other [] q c)

    pub is_separated : IsSeparated schema query others instance row
    is_separated =
        let (model, answer) = both in
        record {
          model = subst (λ facts. IsSortedModel schema facts) facts_are model;
          answered = subst (λ r. AnswersQuery query instance r) row_is (subst (λ facts. AnswersQuery query facts (map (image h) (frozen_head query))) facts_are answer);
          not_others = λ (form, among, answers).
              not_form form among (triables form among) (λ has. missing (form, among, has))
              (subst (λ facts. AnswersForm form facts (map (image h) (frozen_head query))) (sym facts_are) (subst (λ r. AnswersForm form instance r) (sym row_is) answers));
        }
