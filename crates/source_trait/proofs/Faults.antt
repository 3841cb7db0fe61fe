-- How counts of faults go on.
use Rattle.std.proofs.Common.{◌∙◌, refl, arith}
use Rattle.source_trait.specs.Asking.{Seen, FaultsGoOn}

pub FaultsGoOn-refl : (s : Seen) → FaultsGoOn s s
FaultsGoOn-refl s = record { later = omega arith; kept = refl; none = λ never. refl }

pub FaultsGoOn-trans : (s t u : Seen) → FaultsGoOn s t → FaultsGoOn t u → FaultsGoOn s u
FaultsGoOn-trans s t u first second = record {
  later = let a = first.later in let b = second.later in omega (arith, a, b);
  kept = second.kept ∙ first.kept;
  none = λ never. second.none (first.kept ∙ never) ∙ first.none never;
}
