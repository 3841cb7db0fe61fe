-- A rule of a schema has few variables.
use Rattle.std.proofs.Common.{◌≡◌, ℕ, ◌≤◌, List, [], ◌∷◌, ◌++◌, Some, arith, slice_get}
use Rattle.lists.proofs.Members.{contains_got}
use Rattle.meaning.specs.declared.types.Term.{Term}
use Rattle.meaning.specs.declared.types.Term.TheVariants.{Var, Const}
use Rattle.meaning.specs.declared.types.Atom.{Atom}
use Rattle.meaning.specs.declared.types.Rule.{Rule}
use Rattle.meaning.specs.Triggers.{terms_bound, bound}
use Rattle.access_schema.specs.declared.limits.TheConstants.{MOST_VARIABLES}
use Rattle.access_schema.specs.declared.schema.Schema.{Schema}
use Rattle.access_schema.specs.Invariant.{terms_of, IsSchema}

terms_left : (xs ys : List Term) → terms_bound xs ≤ terms_bound (xs ++ ys)
terms_left [] ys = omega arith
terms_left (Var x ∷ xs) ys = let rest : terms_bound xs ≤ terms_bound (xs ++ ys) = terms_left xs ys in omega arith
terms_left (Const c ∷ xs) ys = terms_left xs ys

terms_right : (xs ys : List Term) → terms_bound ys ≤ terms_bound (xs ++ ys)
terms_right [] ys = omega arith
terms_right (Var x ∷ xs) ys = let rest : terms_bound ys ≤ terms_bound (xs ++ ys) = terms_right xs ys in omega arith
terms_right (Const c ∷ xs) ys = terms_right xs ys

atoms_right : (body head : List Atom) → bound head ≤ terms_bound (terms_of (body ++ head))
atoms_right [] [] = omega arith
atoms_right [] (atom ∷ head) =
    let one : terms_bound atom.terms ≤ terms_bound (atom.terms ++ terms_of head) = terms_left atom.terms (terms_of head) in
    let two : bound head ≤ terms_bound (terms_of head) = atoms_right [] head in
    let three : terms_bound (terms_of head) ≤ terms_bound (atom.terms ++ terms_of head) = terms_right atom.terms (terms_of head) in
    omega arith
atoms_right (atom ∷ body) head =
    let one : bound head ≤ terms_bound (terms_of (body ++ head)) = atoms_right body head in
    let two : terms_bound (terms_of (body ++ head)) ≤ terms_bound (atom.terms ++ terms_of (body ++ head)) = terms_right atom.terms (terms_of (body ++ head)) in
    omega arith

pub head_few : (schema : Schema) → IsSchema schema.relations schema.methods schema.rules schema.constants schema.sources → (k : ℕ) (rule : Rule) → slice_get schema.rules k ≡ Some rule → bound rule.head ≤ MOST_VARIABLES
head_few schema valid k rule at =
    let few : terms_bound (terms_of (rule.body ++ rule.head)) ≤ MOST_VARIABLES = (valid.rules_are.fit rule (contains_got schema.rules k rule at)).variables in
    let within : bound rule.head ≤ terms_bound (terms_of (rule.body ++ rule.head)) = atoms_right rule.body rule.head in
    omega arith
