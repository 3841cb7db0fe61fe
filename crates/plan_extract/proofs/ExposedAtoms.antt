-- The branch of all atoms of a query: it is what a run without firings reads off, so the laws on runs hold of it over no rules.
use Rattle.std.proofs.Common.{ℕ, List, [], ◌∷◌, ◌++◌, map, refl, ◌∙◌, arith}
use Rattle.std.specs.Prelude.{Contains}
use Rattle.std.proofs.lemmas.List.{length-map}
use Rattle.lists.proofs.Members.{contains_map}
use Rattle.meaning.specs.declared.types.Rule.{Rule}
use Rattle.meaning.specs.declared.types.SchemaParts.{SchemaParts}
use Rattle.meaning.specs.declared.types.Query.{Query}
use Rattle.meaning.specs.declared.types.Fact.{Fact}
use Rattle.meaning.specs.declared.types.Ground.{Ground}
use Rattle.meaning.specs.declared.types.Val.TheVariants.{Const, Label}
use Rattle.meaning.specs.Values.{Value, Row}
use Rattle.meaning.specs.Matching.{value_of, IsQueryAnswer, GroundsOf, Meets}
use Rattle.meaning.specs.declared.types.Method.{Method}
use Rattle.meaning.specs.declared.types.Step.{Step}
use Rattle.meaning.specs.declared.types.Out.{Out}
use Rattle.meaning.specs.Plans.{IsWellFormed, made, AreLawfulFrom}
use Rattle.meaning.specs.Rows.{LeadsTo}
use Rattle.meaning.specs.Triggers.{ground}
use Rattle.meaning.specs.Runs.{opening_state, frozen_head}
use Rattle.meaning.specs.Fitting.{RulesFit, QueryFits, QueryHasConstants}
use Rattle.meaning.specs.Extract.{Exposure, exposed_facts, steps_of, all_columns, out_of, IsExposing, branch_of}
use Rattle.meaning_laws.proofs.Added.{added_right}
use Rattle.meaning_laws.proofs.Decided.{extracted}
use Rattle.plan_extract.specs.Branches.{IsBranchOf}

-- lawfulness reads the methods and relations of a schema alone
lawful_over : (schema : SchemaParts) (rules : List Rule) (constants : List Value) (columns : ℕ) (steps : List Step) (output : List Out) →
    AreLawfulFrom (record schema { rules = rules }) constants columns steps output → AreLawfulFrom schema constants columns steps output
lawful_over schema rules constants columns [] output outs = outs
lawful_over schema rules constants columns (step ∷ steps) output (method, its, rest) = (
  method,
  record { named = its.named; arity = record { relation = its.arity.relation; there = its.arity.there; width = its.arity.width }; places = its.places },
  lawful_over schema rules constants (made columns step.places) steps output rest,
)

-- and so do rows
leads_over : (from to : SchemaParts) → ((method : Method) → Contains from.methods method → Contains to.methods method) → (facts : List Fact) (steps : List Step) (row last : Row) →
    LeadsTo from facts steps row last → LeadsTo to facts steps row last
leads_over from to within facts [] row last same = same
leads_over from to within facts (step ∷ steps) row last (next, one, more) = (
  next,
  record { method = one.method; fact = one.fact; named = (within one.method one.named.0, one.named.1); of_relation = one.of_relation; holds = one.holds; joins = one.joins },
  leads_over from to within facts steps next last more,
)

module _ (schema : SchemaParts) (constants : List Value) (query : Query) (exposures : List Exposure)
    (well : IsWellFormed schema) (fits : QueryFits schema query) (have : QueryHasConstants constants query)
    (exposing : IsExposing schema constants (map (ground Label) query.atoms) [] exposures)
    (whole : (fact : Ground) → Contains (map (ground Label) query.atoms) fact → Contains (exposed_facts exposures) fact) where
  no_rule : (rule : Rule) → Contains [] rule → ⊥
  no_rule rule c = omega arith

  rules_fit : RulesFit (record schema { rules = [] }) constants
  rules_fit = record {
    numbered = λ rule c. absurd (no_rule rule c);
    have = λ rule c. absurd (no_rule rule c);
    heads = λ rule atom c a. absurd (no_rule rule c);
  }

  query_fits : QueryFits (record schema { rules = [] }) query
  query_fits = record {
    arity = λ atom c. let its = fits.arity atom c in record { relation = its.relation; there = its.there; width = its.width };
    variables = fits.variables;
    head = fits.head;
  }

  exposing_there : (exposed : List Ground) (es : List Exposure) → IsExposing schema constants (map (ground Label) query.atoms) exposed es → IsExposing (record schema { rules = [] }) constants (opening_state query).facts exposed es
  exposing_there exposed [] is = tt
  exposing_there exposed (e ∷ es) (first, rest) = (
    record { of_base = added_right [] (map (ground Label) query.atoms) e.fact first.of_base; new = first.new; of_schema = first.of_schema; of_relation = first.of_relation; inputs = first.inputs },
    exposing_there (exposed ++ e.fact ∷ []) es rest,
  )

  meets : (facts : List Fact) → Meets facts (record schema { rules = [] })
  meets facts rule c = absurd (no_rule rule c)

  match : IsQueryAnswer Const (GroundsOf (exposed_facts exposures)) query (frozen_head query)
  match = (Label, (λ atom c. whole (ground Label atom) (contains_map (ground Label) query.atoms atom c)), refl)

  pub is_branch_of : IsBranchOf schema constants query (branch_of exposures (frozen_head query))
  is_branch_of =
      let got = extracted (record schema { rules = [] }) constants query query (record { once = well.once; inputs = well.inputs }) rules_fit query_fits query_fits have
      [] (opening_state query) exposures [] (record { facts = exposed_facts exposures; next = query.variables }) refl
      (exposing_there [] exposures exposing) refl match in
      record {
        lawful = lawful_over schema [] constants 0 (steps_of [] exposures) (map (out_of (all_columns [] exposures)) (frozen_head query)) got.0;
        width = length-map (frozen_head query) (out_of (all_columns [] exposures)) ∙ length-map query.head (value_of Const Label);
        rows = λ facts row. (
          (λ (last, leads, outs). got.1 facts row (meets facts) (last, leads_over schema (record schema { rules = [] }) (λ m c. c) facts (steps_of [] exposures) [] last leads, outs)),
          (λ answers. let (last, leads, outs) = got.2 facts row (meets facts) answers in (last, leads_over (record schema { rules = [] }) schema (λ m c. c) facts (steps_of [] exposures) [] last leads, outs)),
        );
      }
