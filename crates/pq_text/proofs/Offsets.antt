-- The longest front of some bytes that is text ends where no character begins.
use Rattle.std.proofs.Common.{◌≡◌, ℕ, ◌+◌, ◌<◌, List, ◌++◌, length, take, drop, sym, ap, subst, ◌∙◌, arith}
use Rattle.std.specs.Str.{IsUtf8, IsValidUpTo, StartsWithNoChar}
use Rattle.std.proofs.lemmas.Str.{IsUtf8-append, IsUtf8-encode, length-encode, len_utf8_bounds}
use Rattle.std.proofs.Math.Utf8.{encode}
use Rattle.std.proofs.Math.Seq.{take-add, take-append_seam}
use Rattle.pq_text.specs.Utf8.{IsFirstBad}

none_begins : (bs : List ℕ) (n : ℕ) → IsValidUpTo bs n → StartsWithNoChar (drop n bs)
none_begins bs n valid c rest scalar begins =
    let some = (len_utf8_bounds c).0 in
    let k = length (encode c) in
    let len = length-encode c in
    let longer : n < n + k = omega arith in
    let front : take k (drop n bs) ≡ encode c = ap (take k) begins ∙ take-append_seam (encode c) rest in
    let whole : take (n + k) bs ≡ take n bs ++ encode c = take-add n k bs ∙ ap (λ (xs : List ℕ). take n bs ++ xs) front in
    valid.longest (n + k) longer (subst IsUtf8 (sym whole) (IsUtf8-append (take n bs) (encode c) valid.front (IsUtf8-encode c scalar)))

pub first_bad : (bs : List ℕ) (n : ℕ) → IsValidUpTo bs n → IsFirstBad bs n
first_bad bs n valid = record { within = valid.short; before = valid.front; none = none_begins bs n valid }
