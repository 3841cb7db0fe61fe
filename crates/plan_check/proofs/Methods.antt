-- The method of a name.
use Rattle.std.proofs.Common.{◌≡◌, ◌≢◌, ℕ, ◌<◌, List, length, refl, sym, ap, ◌∙◌, subst, arith}
use Rattle.std.specs.Prelude.{Contains, slice_get, slice_index_or, Some}
use Rattle.std.proofs.lemmas.Option.{slice_get_within}
use Rattle.lists.proofs.Members.{contains_got, got_mapped, map_got, some_injective}
use Rattle.lists.proofs.Places.{got_indexed, got_contained}
use Rattle.meaning.specs.declared.types.Method.{Method}
use Rattle.meaning.specs.Values.{Value}
use Rattle.access_schema.specs.Names.{method_names}

-- a name that some method has is found
pub name_there : (methods : List Method) (name : Value) (method : Method) → Contains methods method → method.name ≡ name → ((k : ℕ) → slice_get (method_names methods) k ≢ Some name) → ⊥
name_there methods name method among e none =
    none among.0 (map_got (λ (m : Method). m.name) methods among.0 method (got_contained methods method among) ∙ ap Some e)

-- and what is found is the method that has it
pub relation_is : (methods : List Method) (name : Value) (number : ℕ) (method : Method) → slice_get (method_names methods) number ≡ Some name → method ≡ slice_index_or methods number method →
    (found : Method) × (Contains methods found × (found.name ≡ name)) × (method.rel ≡ found.rel)
relation_is methods name number method at is =
    let (found, there, named) = got_mapped (λ (m : Method). m.name) methods number name at in
    let got : slice_get methods number ≡ Some method = got_indexed methods number method (slice_get_within methods number found there) is in
    let same : found ≡ method = some_injective found method (sym there ∙ got) in
    (found, (contains_got methods number found there, named), ap (λ (m : Method). m.rel) (sym same))
