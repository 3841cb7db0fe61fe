-- Labels that stand at integer columns of facts.
use Rattle.std.proofs.Common.{◌≡◌, ◌<◌, ◌↔◌, ◌∙◌, sym, ap, subst, ℕ, zero, suc, List, [], ◌∷◌, ◌++◌, ⊎_elim, refl, Some, None, Option, slice_get, length, arith}
use Rattle.std.specs.Prelude.{Contains}
use Rattle.std.proofs.lemmas.List.Concat.{flat_map-append}
use Rattle.std.proofs.lemmas.List.Elements.{Contains-append_right, Contains-append_cases}
use Rattle.lists.proofs.Members.{contains_joined, joined_from, contains_one, contains_none, contains_here, some_injective}
use Rattle.meaning.specs.declared.types.Ground.{Ground}
use Rattle.meaning.specs.declared.types.Relation.{Relation}
use Rattle.meaning.specs.declared.types.SchemaParts.{SchemaParts}
use Rattle.meaning.specs.declared.types.Sort.{Sort}
use Rattle.meaning.specs.declared.types.Sort.TheVariants.{Text, Int}
use Rattle.meaning.specs.declared.types.Val.{Val}
use Rattle.meaning.specs.declared.types.Val.TheVariants.{Const, Label}
use Rattle.no_plan_witness.specs.Texts.{StandsForInteger}
use Rattle.no_plan_witness.specs.Standing.{sorts_in, sorts_at, integers_at, integers_among, integers_in}

-- the labels of two lists of facts, one behind the other
pub integers_joined : (schema : SchemaParts) (first second : List Ground) (none some all : List ℕ) → none ≡ [] → some ≡ none ++ integers_in schema first → all ≡ some ++ integers_in schema second → all ≡ integers_in schema (first ++ second)
integers_joined schema first second none some all start one two =
    two ∙ ap (λ l. l ++ integers_in schema second) (one ∙ ap (λ l. l ++ integers_in schema first) start) ∙ sym (flat_map-append (λ (f : Ground). integers_among (sorts_at schema f.rel) f.vals) first second)

-- where no value is left, no label is
pub no_value_left : (sorts : List Sort) (vals : List Val) → length vals < 1 → integers_among sorts vals ≡ []
no_value_left [] vals none = refl
no_value_left (sort ∷ sorts) [] none = refl
no_value_left (sort ∷ sorts) (val ∷ vals) none = absurd (omega arith)

-- a label at a place of the sort of integers
label_at : (sorts : List Sort) (vals : List Val) (place k : ℕ) → slice_get sorts place ≡ Some Int → slice_get vals place ≡ Some (Label k) → Contains (integers_among sorts vals) k
label_at [] vals place k sort val = absurd (cc)
label_at (sort ∷ sorts) [] place k is val = absurd (cc)
label_at (sort ∷ sorts) (val ∷ vals) zero k is same =
    let e : sort ≡ Int = some_injective sort Int is in
    let f : val ≡ Label k = some_injective val (Label k) same in
    rw (e, f) (contains_here k (integers_among sorts vals))
label_at (sort ∷ sorts) (val ∷ vals) (suc place) k is same =
    Contains-append_right (integers_at sort val) (integers_among sorts vals) k (label_at sorts vals place k is same)

at_label : (sort : Sort) (val : Val) (k : ℕ) → Contains (integers_at sort val) k → (sort ≡ Int) × (val ≡ Label k)
at_label Text val k c = absurd (contains_none k c)
at_label Int (Const t) k c = absurd (contains_none k c)
at_label Int (Label j) k c = (refl, ap Label (contains_one j k c))

at_place : (sorts : List Sort) (vals : List Val) (k : ℕ) → Contains (integers_among sorts vals) k → (place : ℕ) × (slice_get sorts place ≡ Some Int) × (slice_get vals place ≡ Some (Label k))
at_place [] vals k c = absurd (contains_none k c)
at_place (sort ∷ sorts) [] k c = absurd (contains_none k c)
at_place (sort ∷ sorts) (val ∷ vals) k c = ⊎_elim
    (λ h. let (is, same) = at_label sort val k h in (0, ap Some is, ap Some same))
    (λ h. let (place, is, same) = at_place sorts vals k h in (suc place, is, same))
    (Contains-append_cases (integers_at sort val) (integers_among sorts vals) k c)

sort_there : (found : Option Relation) (place : ℕ) → slice_get (sorts_in found) place ≡ Some Int → (relation : Relation) × (found ≡ Some relation) × (slice_get relation.sorts place ≡ Some Int)
sort_there None place is = absurd (cc)
sort_there (Some relation) place is = (relation, refl, is)

-- the list has the labels that stand for integers
pub stands : (schema : SchemaParts) (facts : List Ground) (k : ℕ) → Contains (integers_in schema facts) k ↔ StandsForInteger schema facts k
stands schema facts k = (
  (λ c.
      let (fact, among, inside) = joined_from (λ (f : Ground). integers_among (sorts_at schema f.rel) f.vals) facts k c in
      let (place, is, same) = at_place (sorts_at schema fact.rel) fact.vals k inside in
      (fact, place, among, sort_there (slice_get schema.relations fact.rel) place is, same)),
  (λ (fact, place, among, (relation, found, is), same).
      contains_joined (λ (f : Ground). integers_among (sorts_at schema f.rel) f.vals) facts fact k among
      (label_at (sorts_at schema fact.rel) fact.vals place k (subst (λ o. slice_get (sorts_in o) place ≡ Some Int) (sym found) is) same)),
)
