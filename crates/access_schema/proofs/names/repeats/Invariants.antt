use Rattle.std.proofs.Common.{◌≡◌, ℕ, List, false, take}
use Rattle.std.specs.Ordering.{nat_cmp}
use Rattle.std.specs.BTreeSet.{contains_by}
use Rattle.std.specs.Cmp.Lexicographic.{slice_cmp}
use Rattle.access_schema.specs.Lists.{is_among, repeats}
use Rattle.access_schema.proofs.names.repeats.Given as goal

-- none of the texts so far stands twice among them, and the set has just them
abbrev pub invariant-loop-text : goal.invariant-loop-text
invariant-loop-text l = record {
  once : repeats (take l.text-index l.texts) ≡ false;
  passed : (text : List ℕ) → contains_by (λ key. slice_cmp nat_cmp text key.now) l.passed ≡ is_among (take l.text-index l.texts) text;
}
