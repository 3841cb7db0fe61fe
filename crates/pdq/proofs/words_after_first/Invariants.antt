use Rattle.std.proofs.Common.{◌≡◌, map, drop, length, nat_eq}
use Rattle.std.specs.String.{string_bytes}
use Rattle.pdq.proofs.words_after_first.Given as goal

abbrev pub invariant-loop-word : goal.invariant-loop-word
invariant-loop-word g l = record {
  words : l.words.items ≡ map string_bytes (drop 1 l.yielded);
  first : l.is_first ≡ nat_eq (length l.yielded) 0;
}
