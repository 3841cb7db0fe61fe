-- The variables of a query: those of its head are counted, and those of a select's query are few.
use Rattle.std.proofs.Common.{ℕ, ◌+◌, ◌*◌, ◌<◌, ◌≤◌, max, List, [], ◌∷◌, length, arith}
use Rattle.std.specs.Prelude.{Contains}
use Rattle.std.proofs.lemmas.List.{length-append}
use Rattle.lists.proofs.Members.{contains_here, contains_there}
use Rattle.meaning.specs.declared.types.Atom.{Atom}
use Rattle.meaning.specs.declared.types.Term.{Term}
use Rattle.meaning.specs.declared.types.Term.TheVariants.{Var, Const}
use Rattle.meaning.specs.declared.types.Query.{Query}
use Rattle.meaning.specs.declared.types.Select.{Select}
use Rattle.meaning.specs.Triggers.{terms_bound}
use Rattle.meaning.specs.Conjunctive.{IsConjunctive}
use Rattle.access_schema.specs.declared.schema.Schema.{Schema}
use Rattle.access_schema.specs.Meaning.{meaning_of}
use Rattle.access_schema.specs.Invariant.{terms_of}
use Rattle.access_schema.proofs.Ordered.{OrderedFrom, ordered_from, bound_is}
use Rattle.sql_conjunctive.specs.Form.{IsNumbered}
use Rattle.sql_conjunctive.proofs.Forming.{narrow, shaped_length}

pub bounded_terms : (n : ℕ) (terms : List Term) → ((x : ℕ) → Contains terms (Var x) → x < n) → terms_bound terms ≤ n
bounded_terms n [] below = omega arith
bounded_terms n (Const c ∷ terms) below = bounded_terms n terms (λ x among. below x (contains_there (Const c) terms (Var x) among))
bounded_terms n (Var y ∷ terms) below =
    let first = below y (contains_here (Var y) terms) in
    let rest = bounded_terms n terms (λ x among. below x (contains_there (Var y) terms (Var x) among)) in
    omega arith

pub ordered_short : (n : ℕ) (terms : List Term) → OrderedFrom n terms → terms_bound terms ≤ n + length terms
ordered_short n [] ordered = omega arith
ordered_short n (Const c ∷ terms) ordered = let rest = ordered_short n terms ordered in omega arith
ordered_short n (Var x ∷ terms) ordered = let first = ordered.0 in let rest = ordered_short (max (x + 1) n) terms ordered.1 in omega arith

-- at most as many variables as FROM items have columns
pub few_variables : (schema : Schema) (select : Select) (query : Query) → IsConjunctive (meaning_of schema) select query → IsNumbered query →
    query.variables ≤ 64 * length select.froms
few_variables schema select query form numbered =
    let terms = terms_of query.atoms in
    let wide : length terms ≤ 64 * length select.froms = shaped_length (meaning_of schema) select select.froms query.atoms (narrow schema) form.atoms in
    let order : terms_bound terms ≤ 0 + length terms = ordered_short 0 terms (ordered_from terms numbered.in_order) in
    let all = bound_is query.atoms in
    let count = numbered.variables in
    omega arith

pub terms_few : (atoms : List Atom) → ((atom : Atom) → Contains atoms atom → length atom.terms ≤ 64) → length (terms_of atoms) ≤ 64 * length atoms
terms_few [] narrow = omega arith
terms_few (atom ∷ atoms) narrow =
    let first = narrow atom (contains_here atom atoms) in
    let rest = terms_few atoms (λ other among. narrow other (contains_there atom atoms other among)) in
    let both = length-append atom.terms (terms_of atoms) in
    omega arith
