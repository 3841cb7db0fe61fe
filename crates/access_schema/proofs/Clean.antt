-- What a part without faults keeps.
use Rattle.std.proofs.Common.{◌≡◌, ℕ, List, [], ◌∷◌, ◌++◌, true, false, Option, Some, None, take, slice_get, refl}
use Rattle.lists.proofs.Booleans.{never_true}
use Rattle.meaning.specs.declared.types.Relation.{Relation}
use Rattle.access_schema.specs.declared.part.Part.{Part}
use Rattle.access_schema.specs.declared.fault.SchemaFault.{SchemaFault}
use Rattle.access_schema.specs.declared.fault.SchemaFault.TheVariants.{DuplicateName, UnknownRelation, WrongArity, UnknownColumn, OverLimit, Recursive, WrongSort}
use Rattle.access_schema.specs.Content.{relations_of, rules_of}
use Rattle.access_schema.specs.Feeding.{AreNonRecursive}
use Rattle.access_schema.specs.SortFaults.{HasWrongSort}
use Rattle.access_schema.specs.Faults.{is_rule, repeats_name, uses_unknown, has_wrong_arity, has_unknown_column, passed_limit, IsFaultOf, AreFaultless}

-- each test for a fault fails
pub record IsClean (relations : List Relation) (earlier : List Part) (part : Part) : Type 0 where
  pub names : repeats_name earlier part ≡ false
  pub known : uses_unknown relations part ≡ false
  pub arity : has_wrong_arity relations part ≡ false
  pub columns : has_unknown_column relations part ≡ false
  pub limit : passed_limit earlier part ≡ None
  pub sorted : HasWrongSort relations part → ⊥
  pub straight : is_rule part ≡ true → AreNonRecursive (rules_of relations (earlier ++ part ∷ []))

nothing : {X : Type 0} (o : Option X) → ((x : X) → o ≡ Some x → ⊥) → o ≡ None
nothing None free = refl
nothing (Some x) free = absurd (free x refl)

pub clean_at : (parts : List Part) → AreFaultless parts → (k : ℕ) (part : Part) → slice_get parts k ≡ Some part → IsClean (relations_of parts) (take k parts) part
clean_at parts faultless k part at =
    let free : (fault : SchemaFault) → IsFaultOf (relations_of parts) (take k parts) part fault → ⊥ = λ fault has. faultless k fault (part, at, has) in
    record {
      names = never_true _ (free DuplicateName);
      known = never_true _ (free UnknownRelation);
      arity = never_true _ (free WrongArity);
      columns = never_true _ (free UnknownColumn);
      limit = nothing _ (λ limit is. free (OverLimit limit) is);
      sorted = free WrongSort;
      straight = λ rule recursive. free Recursive (rule, recursive);
    }
