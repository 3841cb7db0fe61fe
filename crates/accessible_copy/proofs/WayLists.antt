-- The ways of methods, and inputs that become known.
use Rattle.std.proofs.Common.{◌≡◌, ℕ, List, [], ◌∷◌, ◌++◌, Some, None, Bool, IsTrue, ◌↔◌, sym, ap, ◌∙◌, subst, inl, inr, ⊎_elim}
use Rattle.std.specs.Prelude.{◌⊎◌, Contains, slice_get}
use Rattle.std.proofs.lemmas.List.Elements.{Contains-push_cases}
use Rattle.lists.proofs.Members.{contains_here, contains_there, contains_cases, contains_got, some_injective, got_mapped, map_got}
use Rattle.meaning.specs.declared.types.SchemaParts.{SchemaParts}
use Rattle.meaning.specs.declared.types.Method.{Method}
use Rattle.meaning.specs.declared.types.Ground.{Ground}
use Rattle.meaning.specs.declared.types.Val.{Val}
use Rattle.accessible_copy.specs.declared.ways.Way.{Way}
use Rattle.accessible_copy.specs.Known.{known_values}
use Rattle.accessible_copy.specs.Proving.{Proving}
use Rattle.accessible_copy.specs.Methods.{methods_of, IsMethodIndex}
use Rattle.accessible_copy.specs.Listing.{CanFire, IsInput, AreInputs}
use Rattle.accessible_copy.specs.Ways.{way_of, ways_of, IsWayIndex}
use Rattle.accessible_copy.specs.OpenFacts.{IsOpen}
use Rattle.accessible_copy.proofs.Listed.{inputs_none, inputs_from}

-- an index of methods is one of their ways, and the other way round
pub ways_indexed : (methods : List Method) (index : List (List ℕ)) → IsMethodIndex methods index → IsWayIndex (ways_of methods) index
ways_indexed methods index is = record {
  each = λ rel number c. let (method, got, same) = is.each rel number c in (way_of method, map_got way_of methods number method got, same);
  all = λ number way got. let (method, there, same) = got_mapped way_of methods number way got in subst (λ (w : Way). Contains (methods_of index w.rel) number) same (is.all number method there);
  once = is.once;
}

pub methods_indexed : (methods : List Method) (ways : List Way) (index : List (List ℕ)) → ways ≡ ways_of methods → IsWayIndex ways index → IsMethodIndex methods index
methods_indexed methods ways index e is = record {
  each = λ rel number c.
      let (way, got, rel_is) = is.each rel number c in
      let (method, there, same) = got_mapped way_of methods number way (subst (λ (l : List Way). slice_get l number ≡ Some way) e got) in
      (method, there, ap (λ (w : Way). w.rel) same ∙ rel_is);
  all = λ number method got. is.all number (way_of method) (subst (λ (l : List Way). slice_get l number ≡ Some (way_of method)) (sym e) (map_got way_of methods number method got));
  once = is.once;
}

-- a fact with an active exposure is open
pub fire_open : (schema : SchemaParts) (proof : Proving) (number n : ℕ) (fact : Ground) (ways : List Way) → ways ≡ ways_of schema.methods → slice_get proof.end.base n ≡ Some fact → CanFire schema proof number fact
    → IsOpen ways proof.end.base (known_values proof.constants proof.end.exposed) proof.end.exposed n
fire_open schema proof number n fact ways e got (method, is) = (
  fact,
  got,
  is.new,
  (
    number,
    way_of method,
    subst (λ (l : List Way). slice_get l number ≡ Some (way_of method)) (sym e) (map_got way_of schema.methods number method is.named),
    is.of_relation,
    inputs_from proof.constants proof.end.exposed method.inputs fact.vals is.inputs,
  ),
)

-- inputs among more values
pub inputs_among : (values more : List Val) (inputs : List ℕ) (vals : List Val) → ((value : Val) → Contains values value → Contains more value) → AreInputs values inputs vals → AreInputs more inputs vals
inputs_among values more inputs vals among are place c = let (value, got, there) = are place c in (value, got, among value there)

-- with one value more, the inputs were known before, or the fact holds it
pub inputs_split : (values : List Val) (val : Val) (inputs : List ℕ) (vals : List Val) → AreInputs (values ++ val ∷ []) inputs vals → AreInputs values inputs vals ⊎ Contains vals val
inputs_split values val [] vals are = inl (inputs_none values vals)
inputs_split values val (place ∷ inputs) vals are =
    let (value, got, among) = are place (contains_here place inputs) in
    let there : Contains vals value = contains_got vals place value got in
    ⊎_elim
    (λ rest. ⊎_elim
    (λ old. inl (λ q c. ⊎_elim (λ same. subst (IsInput values vals) same (value, got, old)) (λ h. rest q h) (contains_cases place inputs q c)))
    (λ same. inr (subst (λ (v : Val). Contains vals v) (sym same) there)) (Contains-push_cases values val value among))
    (λ holds. inr holds) (inputs_split values val inputs vals (λ q c. are q (contains_there place inputs q c)))

pub open_among : (ways : List Way) (facts : List Ground) (values more : List Val) (exposed : List Ground) (n : ℕ) → ((value : Val) → Contains values value → Contains more value) → IsOpen ways facts values exposed n → IsOpen ways facts more exposed n
open_among ways facts values more exposed n among (fact, got, new, (number, way, at, rel, are)) = (fact, got, new, (number, way, at, rel, inputs_among values more way.inputs fact.vals among are))

pub open_split : (ways : List Way) (facts : List Ground) (values : List Val) (val : Val) (exposed : List Ground) (n : ℕ) → IsOpen ways facts (values ++ val ∷ []) exposed n
    → IsOpen ways facts values exposed n ⊎ ((fact : Ground) × (slice_get facts n ≡ Some fact) × Contains fact.vals val)
open_split ways facts values val exposed n (fact, got, new, (number, way, at, rel, are)) =
    ⊎_elim (λ old. inl (fact, got, new, (number, way, at, rel, old))) (λ holds. inr (fact, got, holds)) (inputs_split values val way.inputs fact.vals are)

-- one value more that was there already
pub open_same : (ways : List Way) (facts : List Ground) (values : List Val) (val : Val) (exposed : List Ground) (n : ℕ) → Contains values val → IsOpen ways facts (values ++ val ∷ []) exposed n → IsOpen ways facts values exposed n
open_same ways facts values val exposed n there kept =
    open_among ways facts (values ++ val ∷ []) values exposed n (λ value c. ⊎_elim (λ h. h) (λ same. subst (λ (v : Val). Contains values v) same there) (Contains-push_cases values val value c)) kept

-- a test of the inputs of the way with a number
pub inputs_at : (ways : List Way) (number : ℕ) (way : Way) (values vals : List Val) (b : Bool) (inputs : List ℕ) (row : List Val) → slice_get ways number ≡ Some way → inputs ≡ way.inputs → row ≡ vals
    → (IsTrue b ↔ AreInputs values inputs row) → IsTrue b ↔ ((w : Way) × (slice_get ways number ≡ Some w) × AreInputs values w.inputs vals)
inputs_at ways number way values vals b inputs row got i v iff = (
  (λ yes. (way, got, rw (← i, ← v) (iff.0 yes))),
  (λ (other, at, are). iff.1 (rw (i, v) (subst (λ (w : Way). AreInputs values w.inputs vals) (some_injective other way (sym at ∙ got)) are))),
)

pub no_inputs_at : (ways : List Way) (number : ℕ) (values vals : List Val) → slice_get ways number ≡ None → ((w : Way) × (slice_get ways number ≡ Some w) × AreInputs values w.inputs vals) → ⊥
no_inputs_at ways number values vals none (way, got, are) = let both : Some way ≡ None = sym got ∙ none in absurd (cc)
