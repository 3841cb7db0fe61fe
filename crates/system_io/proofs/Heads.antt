-- What the head of a list of bytes says of the whole.
use Rattle.std.proofs.Common.{◌≡◌, ◌≤◌, ◌<◌, ◌+◌, ℕ, List, length, take, min, Option, None, Some, IfSome, ap, ◌∙◌, arith}
use Rattle.std.proofs.lemmas.List.{length-take, take_all}
use Rattle.system_io.specs.Heads.{head_of}

-- a head of one byte more than the limit that keeps within the limit is the whole
head_whole : (limit : ℕ) (all head : List ℕ) → head ≡ take (limit + 1) all → length head ≤ limit → head ≡ all
head_whole limit all head is within =
    let long : length head ≡ min (limit + 1) (length all) = ap length is ∙ length-take (limit + 1) all in
    is ∙ take_all (limit + 1) all (grind (arith, long, within))

-- a head that passes the limit is one of a list that passes it
head_long : (limit : ℕ) (all head : List ℕ) → head ≡ take (limit + 1) all → limit < length head → limit < length all
head_long limit all head is beyond =
    let long : length head ≡ min (limit + 1) (length all) = ap length is ∙ length-take (limit + 1) all in
    grind (arith, long, beyond)

-- the same where the whole is known, as what a reader has left
pub known_whole : (limit : ℕ) (most : Option ℕ) (known : Option (List ℕ)) (head : List ℕ) → IfSome most (λ n. n ≡ limit + 1) →
    IfSome known (λ all. head ≡ head_of most all) → length head ≤ limit → IfSome known (λ all. head ≡ all)
known_whole limit most None head one is within = tt
known_whole limit None (Some all) head one is within = is
known_whole limit (Some n) (Some all) head one is within = head_whole limit all head (is ∙ ap (λ k. take k all) one) within

pub known_long : (limit : ℕ) (most : Option ℕ) (known : Option (List ℕ)) (head : List ℕ) → IfSome most (λ n. n ≡ limit + 1) →
    IfSome known (λ all. head ≡ head_of most all) → limit < length head → IfSome known (λ all. limit < length all)
known_long limit most None head one is beyond = tt
known_long limit None (Some all) head one is beyond = let e : length head ≡ length all = ap length is in omega (arith, e, beyond)
known_long limit (Some n) (Some all) head one is beyond = head_long limit all head (is ∙ ap (λ k. take k all) one) beyond
