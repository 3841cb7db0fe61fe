-- Lists that fit a relation.
use Rattle.std.proofs.Common.{◌≡◌, ℕ, List, length, Some, refl, ◌∙◌, subst}
use Rattle.std.specs.Prelude.{slice_get, map}
use Rattle.std.proofs.lemmas.List.{length-map}
use Rattle.meaning.specs.declared.types.SchemaParts.{SchemaParts}
use Rattle.meaning.specs.Instances.{FitsRelation}

-- A list fits where another of its length does.
pub fits_alike : {X Y : Type 0} (schema : SchemaParts) (rel other : ℕ) (xs : List X) (ys : List Y) → rel ≡ other → length ys ≡ length xs → FitsRelation schema rel xs → FitsRelation schema other ys
fits_alike schema rel other xs ys same long fits = record {
  relation = fits.relation;
  there = subst (λ r. slice_get schema.relations r ≡ Some fits.relation) same fits.there;
  width = long ∙ fits.width;
}
