-- What reads relations and methods alone holds alike over two schemas that have the same.
use Rattle.std.proofs.Common.{◌≡◌, ◌∷◌, [], List, ℕ, Some, refl, subst}
use Rattle.std.specs.Prelude.{Contains, slice_get}
use Rattle.meaning.specs.declared.types.Relation.{Relation}
use Rattle.meaning.specs.declared.types.Method.{Method}
use Rattle.meaning.specs.declared.types.Rule.{Rule}
use Rattle.meaning.specs.declared.types.Fact.{Fact}
use Rattle.meaning.specs.declared.types.Out.{Out}
use Rattle.meaning.specs.declared.types.Step.{Step}
use Rattle.meaning.specs.declared.types.Branch.{Branch}
use Rattle.meaning.specs.declared.types.Query.{Query}
use Rattle.meaning.specs.declared.types.SchemaParts.{SchemaParts}
use Rattle.meaning.specs.Instances.{FitsRelation, IsInstance}
use Rattle.meaning.specs.Plans.{IsMethod, made, AreLawfulFrom}
use Rattle.meaning.specs.Rows.{LeadsTo, IsBranchRow}
use Rattle.meaning.specs.Claims.{IsModel}
use Rattle.meaning.specs.Fitting.{QueryFits}
use Rattle.meaning.specs.Extract.{IsQueryRival}
use Rattle.schema_parts.specs.Parts.{with_rules, AreSome}

module _ (first second : SchemaParts) (relations : first.relations ≡ second.relations) (methods : first.methods ≡ second.methods) where
  fits_along : {X : Type 0} (rel : ℕ) (members : List X) → FitsRelation first rel members → FitsRelation second rel members
  fits_along rel members fits = record {
    relation = fits.relation;
    there = subst (λ (rs : List Relation). slice_get rs rel ≡ Some fits.relation) relations fits.there;
    width = fits.width;
  }

  method_along : (name : List ℕ) (method : Method) → IsMethod first name method → IsMethod second name method
  method_along name method named = (subst (λ (ms : List Method). Contains ms method) methods named.0, named.1)

  lawful_along : (constants : List (List ℕ)) (columns : ℕ) (steps : List Step) (output : List Out) → AreLawfulFrom first constants columns steps output → AreLawfulFrom second constants columns steps output
  lawful_along constants columns [] output lawful = lawful
  lawful_along constants columns (step ∷ steps) output (method, lawful, rest) = (
    method,
    record { named = method_along step.method method lawful.named; arity = fits_along method.rel step.places lawful.arity; places = lawful.places },
    lawful_along constants (made columns step.places) steps output rest,
  )

  rows_along : (facts : List Fact) (steps : List Step) (row last : List (List ℕ)) → LeadsTo first facts steps row last → LeadsTo second facts steps row last
  rows_along facts [] row last leads = leads
  rows_along facts (step ∷ steps) row last (next, one, rest) = (
    next,
    record { method = one.method; fact = one.fact; named = method_along step.method one.method one.named; of_relation = one.of_relation; holds = one.holds; joins = one.joins },
    rows_along facts steps next last rest,
  )

  branch_row_along : (branch : Branch) (facts : List Fact) (row : List (List ℕ)) → IsBranchRow first branch facts row → IsBranchRow second branch facts row
  branch_row_along branch facts row (last, leads, out) = (last, rows_along facts branch.steps [] last leads, out)

  instance_along : (facts : List Fact) → IsInstance first facts → IsInstance second facts
  instance_along facts fits fact there = fits_along fact.rel fact.row (fits fact there)

  query_along : (query : Query) → QueryFits first query → QueryFits second query
  query_along query fits = record {
    arity = λ atom there. fits_along atom.rel atom.terms (fits.arity atom there);
    variables = fits.variables;
    head = fits.head;
  }

-- a model of the whole schema is one of the schema with some of its rules
fewer_models : (whole : SchemaParts) (rules : List Rule) → AreSome whole rules → (facts : List Fact) → IsModel whole facts → IsModel (with_rules whole rules) facts
fewer_models whole rules some facts model = record {
  fits = instance_along whole (with_rules whole rules) refl refl facts model.fits;
  meets = λ rule there. model.meets rule (some rule there);
}

pub fewer_rivals : (whole : SchemaParts) (rules : List Rule) (constants : List (List ℕ)) (queries : List Query) (query : Query) (branch : Branch) → AreSome whole rules → IsQueryRival (with_rules whole rules) constants queries query branch → IsQueryRival whole constants queries query branch
fewer_rivals whole rules constants queries query branch some rival = record {
  lawful = lawful_along (with_rules whole rules) whole refl refl constants 0 branch.steps branch.output rival.lawful;
  sound = λ facts row model is_row. rival.sound facts row (fewer_models whole rules some facts model) (branch_row_along whole (with_rules whole rules) refl refl branch facts row is_row);
  complete = λ facts row model answers. branch_row_along (with_rules whole rules) whole refl refl branch facts row (rival.complete facts row (fewer_models whole rules some facts model) answers);
}

pub queries_fit : (whole : SchemaParts) (rules : List Rule) (query : Query) → QueryFits whole query → QueryFits (with_rules whole rules) query
queries_fit whole rules = query_along whole (with_rules whole rules) refl refl
