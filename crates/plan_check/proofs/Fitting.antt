-- The queries of selects and of branches can be tried.
use Rattle.std.proofs.Common.{◌≡◌, ◌⊎◌, ◌↔◌, ◌+◌, ◌*◌, ◌≤◌, List, [], ◌++◌, length, sym, ap, ◌∙◌, subst, inl, inr, ⊎_elim, arith}
use Rattle.std.specs.Prelude.{Contains, Option, Some, None}
use Rattle.std.specs.List.{AllZip, flat_map}
use Rattle.std.proofs.lemmas.List.Elements.{Contains-append_left, Contains-append_right}
use Rattle.lists.proofs.Members.{contains_here, contains_joined}
use Rattle.meaning.specs.declared.types.Query.{Query}
use Rattle.meaning.specs.declared.types.Operand.TheVariants.{Literal}
use Rattle.meaning.specs.declared.types.Condition.{Condition}
use Rattle.meaning.specs.declared.types.Select.{Select}
use Rattle.meaning.specs.declared.types.Branch.{Branch}
use Rattle.meaning.specs.declared.types.SchemaParts.{SchemaParts}
use Rattle.meaning.specs.Values.{Value}
use Rattle.meaning.specs.Triggers.{terms_bound, bound}
use Rattle.meaning.specs.Conjunctive.{IsAtomFor, SelectIsSorted}
use Rattle.meaning.specs.Fitting.{QueryFits, QueryHasConstants}
use Rattle.meaning.specs.Plans.{IsLawfulBranch, NamesMethods}
use Rattle.meaning.specs.Judge.{columns_of, IsBranchQuery}
use Rattle.meaning.proofs.Steps.{lawful_named}
use Rattle.meaning_laws.proofs.Carrying.{occurs_below}
use Rattle.meaning_laws.proofs.Frozen.{branch_query_fits}
use Rattle.integer_laws.proofs.Forms.{forms_are_sorted}
use Rattle.access_schema.specs.declared.schema.Schema.{Schema}
use Rattle.access_schema.specs.Meaning.{meaning_of}
use Rattle.access_schema.specs.Invariant.{terms_of}
use Rattle.access_schema.proofs.Ordered.{ordered_from, bound_is}
use Rattle.access_schema.proofs.Keeping.{well_formed}
use Rattle.sql_conjunctive.specs.Form.{HaveLiterals}
use Rattle.sql_conjunctive.specs.Queries.{IsQueryOf, IsSelectForm}
use Rattle.sql_select.specs.Known.{literal_in, literals_of_condition, literals_of, literals_in}
use Rattle.sql_select.specs.Sorts.{SelectsAreSorted}
use Rattle.accessible_copy.specs.Goals.{IsCounted}
use Rattle.rule_pass.specs.declared.pass.TheConstants.{HIGHEST_FIRST_LABEL}
use Rattle.plan_check.specs.Forms.{IsBranchForm}
use Rattle.plan_check.specs.Trials.{IsTriable, FormIsTriable, AreTriable}
use Rattle.plan_extract.proofs.Zips.{zip_right, zip_length}
use Rattle.sql_conjunctive.proofs.Counted.{bounded_terms, ordered_short, terms_few}
use Rattle.plan_extract.proofs.Read.{schema_narrow}

-- ---- variables

counted : (schema : Schema) (query : Query) → QueryFits (meaning_of schema) query → IsCounted query
counted schema query fits = record {
  atoms = fits.variables;
  head = bounded_terms query.variables query.head (λ x there. let below = occurs_below query.atoms x (fits.head x there) in let all = fits.variables in omega arith);
}

few_variables : (schema : Schema) (select : Select) (query : Query) → IsQueryOf schema select query → length select.froms ≤ 16 → query.variables ≤ HIGHEST_FIRST_LABEL
few_variables schema select query is froms =
    let fits = is.fits in
    let numbered = is.numbered in
    let terms : length (terms_of query.atoms) ≤ 64 * length query.atoms = terms_few query.atoms (λ atom there.
    let fit = fits.arity atom there in let wide = fit.width in let columns = schema_narrow schema fit.relation atom.rel fit.there in omega arith) in
    let atoms : length query.atoms ≡ length select.froms = zip_length (IsAtomFor (meaning_of schema)) select.froms query.atoms is.form.atoms in
    let order : terms_bound (terms_of query.atoms) ≤ 0 + length (terms_of query.atoms) = ordered_short 0 (terms_of query.atoms) (ordered_from (terms_of query.atoms) numbered.in_order) in
    let all = bound_is query.atoms in
    let count = numbered.variables in
    omega arith

-- ---- literals

have_literals : (selects : List Select) (select : Select) (known : List Value) → Contains selects select →
    ((text : Value) → Contains (literals_in selects) text → Contains known text) → HaveLiterals known select
have_literals selects select known among have = record {
  items = λ c i. have c (in_select c (Contains-append_left (flat_map literal_in select.items) (flat_map literals_of_condition select.conditions) c (contains_joined literal_in select.items (Literal c) c i (contains_here c []))));
  conditions = λ condition c i side. have c (in_select c
      (Contains-append_right (flat_map literal_in select.items) (flat_map literals_of_condition select.conditions) c
      (contains_joined literals_of_condition select.conditions condition c i
      (⊎_elim (λ left. Contains-append_left (literal_in condition.left) (literal_in condition.right) c (subst (λ o. Contains (literal_in o) c) (sym left) (contains_here c [])))
      (λ right. Contains-append_right (literal_in condition.left) (literal_in condition.right) c (subst (λ o. Contains (literal_in o) c) (sym right) (contains_here c []))) side))));
}
  where
    in_select : (c : Value) → Contains (literals_of select) c → Contains (literals_in selects) c
    in_select c i = contains_joined literals_of selects select c among i

-- ---- queries

select_triable : (schema : Schema) (known : List Value) (select : Select) (form : Option Query) → HaveLiterals known select → length select.froms ≤ 16 →
    SelectIsSorted (meaning_of schema) select → IsSelectForm schema select form →
    FormIsTriable (meaning_of schema) known form
select_triable schema known select None literals froms sorted is = tt
select_triable schema known select (Some query) literals froms sorted is = record {
  fits = is.fits;
  constants = is.constants known literals;
  counted = counted schema query is.fits;
  few = few_variables schema select query is froms;
  sorted = forms_are_sorted (meaning_of schema) select query sorted is.form;
}

pub selects_triable : (schema : Schema) (known : List Value) (selects : List Select) (forms : List (Option Query)) →
    ((text : Value) → Contains (literals_in selects) text → Contains known text) → ((select : Select) → Contains selects select → length select.froms ≤ 16) →
    SelectsAreSorted (meaning_of schema) selects → AllZip (IsSelectForm schema) selects forms →
    AreTriable (meaning_of schema) known forms
selects_triable schema known selects forms have few sorted all form among =
    let (select, there, is) = zip_right (IsSelectForm schema) selects forms form all among in
    select_triable schema known select form (have_literals selects select known there have) (few select there)
    (sorted select there) is

branch_triable : (schema : Schema) (known : List Value) (branch : Branch) (form : Option Query) → IsLawfulBranch (meaning_of schema) known branch →
    columns_of 0 branch.steps ≤ HIGHEST_FIRST_LABEL → IsBranchForm (meaning_of schema) branch form → FormIsTriable (meaning_of schema) known form
branch_triable schema known branch None lawful few is = tt
branch_triable schema known branch (Some query) lawful few (is, sorted) =
    let (fits, constants) = branch_query_fits (meaning_of schema) (well_formed schema) known branch query lawful is in
    let count = is.variables in
    record {
      fits = fits;
      constants = constants;
      counted = counted schema query fits;
      few = omega arith;
      sorted = sorted;
    }

pub branches_triable : (schema : Schema) (known : List Value) (branches : List Branch) (forms : List (Option Query)) →
    ((branch : Branch) → Contains branches branch → IsLawfulBranch (meaning_of schema) known branch) →
    ((branch : Branch) → Contains branches branch → columns_of 0 branch.steps ≤ HIGHEST_FIRST_LABEL) →
    AllZip (IsBranchForm (meaning_of schema)) branches forms → AreTriable (meaning_of schema) known forms
branches_triable schema known branches forms lawful few all form among =
    let (branch, there, is) = zip_right (IsBranchForm (meaning_of schema)) branches forms form all among in
    branch_triable schema known branch form (lawful branch there) (few branch there) is

-- the steps of a lawful branch name methods
pub named_methods : (schema : SchemaParts) (known : List Value) (branch : Branch) → IsLawfulBranch schema known branch → NamesMethods schema branch.steps
named_methods schema known branch lawful = lawful_named schema known 0 branch.steps branch.output lawful
