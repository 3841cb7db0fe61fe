-- A branch as a conjunctive query (Chandra and Merlin 1977).
use Rattle.std.specs.Prelude.{◌≡◌, ℕ, ◌+◌, List, [], ◌∷◌, map}
use Rattle.meaning.specs.declared.types.Term.{Term}
use Rattle.meaning.specs.declared.types.Atom.{Atom}
use Rattle.meaning.specs.declared.types.Method.{Method}
use Rattle.meaning.specs.declared.types.SchemaParts.{SchemaParts}
use Rattle.meaning.specs.declared.types.Query.{Query}
use Rattle.meaning.specs.declared.types.Place.{Place}
use Rattle.meaning.specs.declared.types.Out.{Out}
use Rattle.meaning.specs.declared.types.Step.{Step}
use Rattle.meaning.specs.declared.types.Branch.{Branch}
use Rattle.meaning.specs.declared.types.Term.TheVariants.{Var, Const as Said}
use Rattle.meaning.specs.declared.types.Place.TheVariants.{Const, Col, New}
use Rattle.meaning.specs.declared.types.Out.TheVariants.{Const as Fixed, Col as Made}
use Rattle.meaning.specs.Plans.{IsMethod, made}

-- The terms of places: column k is variable k, and a new place is the next variable.
abbrev pub terms_of : ℕ → List Place → List Term
terms_of n [] = []
terms_of n (Const c ∷ places) = Said c ∷ terms_of n places
terms_of n (Col k ∷ places) = Var k ∷ terms_of n places
terms_of n (New ∷ places) = Var n ∷ terms_of (n + 1) places

-- The atoms of steps, from n columns on: one for each step, of its method's relation.
abbrev pub AreAtoms : SchemaParts → ℕ → List Step → List Atom → Type 0
AreAtoms schema n [] atoms = atoms ≡ []
AreAtoms schema n (step ∷ steps) atoms =
    (method : Method) × (rest : List Atom) × IsMethod schema step.method method
    × (atoms ≡ record { rel = method.rel; terms = terms_of n step.places } ∷ rest)
    × AreAtoms schema (made n step.places) steps rest

-- The term of an output place.
abbrev pub out_term : Out → Term
out_term (Fixed c) = Said c
out_term (Made k) = Var k

-- How many columns steps make.
abbrev pub columns_of : ℕ → List Step → ℕ
columns_of n [] = n
columns_of n (step ∷ steps) = columns_of (made n step.places) steps

-- A branch's query has one atom for each step, one variable for each column, and the output as its head.
pub record IsBranchQuery (schema : SchemaParts) (branch : Branch) (query : Query) : Type 0 where
  pub atoms : AreAtoms schema 0 branch.steps query.atoms
  pub head : query.head ≡ map out_term branch.output
  pub variables : query.variables ≡ columns_of 0 branch.steps
