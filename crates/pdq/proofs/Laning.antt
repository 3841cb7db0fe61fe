-- Lanes with two kinds, of which the first is a folder and the second a new generator.
use Rattle.std.proofs.Common.{◌≡◌, List, [], ◌∷◌, ◌++◌, codes, refl, subst, ⊎_elim}
use Rattle.std.specs.Prelude.{Contains}
use Rattle.std.proofs.lemmas.List.Elements.{Contains-push_cases}
use Rattle.source_trait.specs.Asking.{Seen}
use Rattle.source_trait.specs.declared.lanes.Kind.{Kind}
use Rattle.world_source.specs.Generated.{IsFresh}
use Rattle.pdq.specs.declared.any_source.AnySource.{AnySource}
use Rattle.pdq.specs.AnySource.{IsFolder}
use Rattle.pdq.specs.Lanes.{IsLane}

pub second_is : {A B : Type 0} (seen : AnySource A B → Seen) (a b : Kind (AnySource A B)) → a.name ≡ codes "csv" → b.name ≡ codes "world" → IsFolder a.object → IsFresh (seen b.object)
    → IsLane seen (a ∷ b ∷ [])
second_is seen a b first second folder fresh = record {
  names = rw first (rw second refl);
  folder = rw first folder;
  generator = record { source = b.object; there = rw first (rw second refl); fresh = fresh };
}

-- what holds of each member and of one more holds of all of them
pub one_more : {X : Type 0} (P : X → Type 0) (list : List X) (more : X) → ((x : X) → Contains list x → P x) → P more
    → (x : X) → Contains (list ++ more ∷ []) x → P x
one_more P list more each last x among = ⊎_elim (each x) (λ same. subst P same last) (Contains-push_cases list more x among)
