-- Two lists side by side, and the sorts of the columns of a relation that is declared.
use Rattle.std.proofs.Common.{◌≡◌, ◌⊎◌, ◌∙◌, sym, ap, subst, ℕ, zero, suc, List, [], ◌∷◌, Option, Some, None, false, slice_get, refl, inl, inr}
use Rattle.std.specs.Prelude.{Contains}
use Rattle.std.specs.List.{zip}
use Rattle.meaning.specs.declared.types.Relation.{Relation}
use Rattle.meaning.specs.declared.types.Sort.{Sort}
use Rattle.meaning.specs.declared.types.Sort.TheVariants.{Text, Int}
use Rattle.meaning.specs.declared.types.SchemaParts.{SchemaParts}
use Rattle.meaning.specs.Sorts.{HoldsIntegers}
use Rattle.access_schema.specs.Content.{is_named, number_of, sorts_in, sorts_of}
use Rattle.access_schema.specs.Faults.{is_unknown}
use Rattle.lists.proofs.Members.{some_injective}
use Rattle.access_schema.proofs.Texts.{find_place}
use Rattle.access_schema.proofs.Built.{at_number}

pub got_zip : {A B : Type 0} (xs : List A) (ys : List B) (k : ℕ) (x : A) (y : B) → slice_get xs k ≡ Some x → slice_get ys k ≡ Some y → slice_get (zip xs ys) k ≡ Some (x, y)
got_zip [] ys k x y at_x at_y = absurd (cc)
got_zip (z ∷ xs) [] k x y at_x at_y = absurd (cc)
got_zip (z ∷ xs) (w ∷ ys) zero x y at_x at_y =
    let first : z ≡ x = some_injective z x at_x in
    let second : w ≡ y = some_injective w y at_y in
    cc
got_zip (z ∷ xs) (w ∷ ys) (suc k) x y at_x at_y = got_zip xs ys k x y at_x at_y

pub sort_cases : (sort : Sort) → (sort ≡ Int) ⊎ (sort ≡ Text)
sort_cases Int = inl refl
sort_cases Text = inr refl

-- the sorts of a name are those of the relation at its number
sorts_at : (relations : List Relation) (name : List ℕ) (relation : Relation) → slice_get relations (number_of relations name) ≡ Some relation → sorts_of relations name ≡ relation.sorts
sorts_at relations name relation at = ap sorts_in (find_place (is_named name) relations relation at)

pub int_there : (schema : SchemaParts) (name : List ℕ) (place : ℕ) → HoldsIntegers schema (number_of schema.relations name) place → slice_get (sorts_of schema.relations name) place ≡ Some Int
int_there schema name place (relation, at, int) = ap (λ (sorts : List Sort). slice_get sorts place) (sorts_at schema.relations name relation at) ∙ int

pub there_int : (schema : SchemaParts) (name : List ℕ) (place : ℕ) → is_unknown schema.relations name ≡ false → slice_get (sorts_of schema.relations name) place ≡ Some Int → HoldsIntegers schema (number_of schema.relations name) place
there_int schema name place known int =
    let (relation, at, is, columns) = at_number schema.relations name known in
    (relation, at, ap (λ (sorts : List Sort). slice_get sorts place) (sym (sorts_at schema.relations name relation at)) ∙ int)
