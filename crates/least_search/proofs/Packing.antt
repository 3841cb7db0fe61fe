-- Sets have the same key only where they are the same, and one more mark changes one number of a key.
use Rattle.std.proofs.Common.{◌≡◌, ℕ, zero, suc, ◌+◌, ◌-◌, ◌*◌, ◌/◌, ◌%◌, ◌^◌, ◌<◌, ◌≤◌, List, [], ◌∷◌, ◌++◌, length, take, drop, Bool, true, false, Some, refl, sym, ap, ◌∙◌, subst, arith, pow-suc, add-one, length-drop}
use Rattle.std.specs.Prelude.{slice_get, slice_set, slice_index_or, replicate}
use Rattle.std.proofs.lemmas.List.{length-set, set-set, set-get_or, get_or-set_same, get_or_read, take-append-drop, drop-set-lt, drop-set-add, nil_from_length}
use Rattle.std.proofs.lemmas.Nat.{pow_pos, div-add-mod', mod_below}
use Rattle.std.proofs.lemmas.Option.{slice_get_within}
use Rattle.lists.proofs.Members.{head_is, tail_is}
use Rattle.least_search.specs.Walks.{no_facts}
use Rattle.least_search.proofs.Sets.{none_length}
use Rattle.least_search.specs.Packing.{digit, word, words, packed}

-- a number and its last binary digit
last_digit : (u v : ℕ) (m n : Bool) → u * 2 + digit m ≡ v * 2 + digit n → (u ≡ v) × (m ≡ n)
last_digit u v true true e = (omega arith, refl)
last_digit u v true false e = absurd (omega arith)
last_digit u v false true e = absurd (omega arith)
last_digit u v false false e = (omega arith, refl)

word_same : (count : ℕ) (a b : List Bool) → length a ≡ length b → word count a ≡ word count b → take count a ≡ take count b
word_same zero a b len e = refl
word_same (suc count) [] [] len e = refl
word_same (suc count) [] (n ∷ b) len e = absurd (omega arith)
word_same (suc count) (m ∷ a) [] len e = absurd (omega arith)
word_same (suc count) (m ∷ a) (n ∷ b) len e =
    let (same, digits) = last_digit (word count a) (word count b) m n e in
    let rest : take count a ≡ take count b = word_same count a b (omega arith) same in
    cc

words_same : (count : ℕ) (a b : List Bool) → length a ≡ length b → length a ≤ count * 64 → words count a ≡ words count b → a ≡ b
words_same zero a b len few e = nil_from_length a (omega arith) ∙ sym (nil_from_length b (omega arith))
words_same (suc count) a b len few e =
    let front : take 64 a ≡ take 64 b = word_same 64 a b len (head_is (word 64 a) (word 64 b) (words count (drop 64 a)) (words count (drop 64 b)) e) in
    let one : length (drop 64 a) ≡ length a - 64 = length-drop 64 a in
    let other : length (drop 64 b) ≡ length b - 64 = length-drop 64 b in
    let back : drop 64 a ≡ drop 64 b = words_same count (drop 64 a) (drop 64 b) (omega arith) (omega arith) (tail_is (word 64 a) (word 64 b) (words count (drop 64 a)) (words count (drop 64 b)) e) in
    sym (take-append-drop 64 a) ∙ ap (λ s. s ++ drop 64 a) front ∙ ap (λ s. take 64 b ++ s) back ∙ take-append-drop 64 b

-- the numbers of a key have place for all marks
room : (n : ℕ) → n ≤ suc (n / 64) * 64
room n =
    let parts : n / 64 * 64 + n % 64 ≡ n = div-add-mod' n 64 in
    let low : n % 64 < 64 = mod_below n 64 (omega arith) in
    omega arith

-- sets with one key are one set
pub packed_same : (a b : List Bool) → packed a ≡ packed b → a ≡ b
packed_same a b e =
    let len : length a ≡ length b = head_is (length a) (length b) (words (suc (length a / 64)) a) (words (suc (length b / 64)) b) e in
    let marks : words (suc (length a / 64)) a ≡ words (suc (length b / 64)) b = tail_is (length a) (length b) (words (suc (length a / 64)) a) (words (suc (length b / 64)) b) e in
    words_same (suc (length a / 64)) a b len (room (length a)) (marks ∙ ap (λ (n : ℕ). words (suc (n / 64)) b) (sym len))

-- one more mark is one more digit
word_more : (count fact : ℕ) (set : List Bool) → fact < count → slice_get set fact ≡ Some false → word count (slice_set set fact true) ≡ word count set + 2 ^ fact
word_more zero fact set low e = absurd (omega arith)
word_more (suc count) fact [] low e = absurd (cc)
word_more (suc count) zero (true ∷ set) low e = absurd (let h : Some true ≡ Some false = e in cc)
word_more (suc count) zero (false ∷ set) low e = omega arith
word_more (suc count) (suc fact) (mark ∷ set) low e =
    let rest : word count (slice_set set fact true) ≡ word count set + 2 ^ fact = word_more count fact set (omega arith) e in
    rw pow-suc (omega arith)

word_past : (count fact : ℕ) (set : List Bool) → count ≤ fact → word count (slice_set set fact true) ≡ word count set
word_past zero fact set high = refl
word_past (suc count) fact [] high = refl
word_past (suc count) zero (mark ∷ set) high = absurd (omega arith)
word_past (suc count) (suc fact) (mark ∷ set) high = ap (λ k. k * 2 + digit mark) (word_past count fact set (omega arith))

get_past : (n k : ℕ) (set : List Bool) → slice_get (drop n set) k ≡ slice_get set (n + k)
get_past zero k set = ap (λ (j : ℕ). slice_get set j) (omega arith)
get_past (suc n) k [] = refl
get_past (suc n) k (mark ∷ set) = let e : suc n + k ≡ suc (n + k) = omega arith in rw e (get_past n k set)

words_more : (count place digit fact : ℕ) (set : List Bool) → place < count → digit < 64 → fact ≡ place * 64 + digit → slice_get set fact ≡ Some false →
    words count (slice_set set fact true) ≡ slice_set (words count set) place (slice_index_or (words count set) place 0 + 2 ^ digit)
words_more zero place digit fact set low few is e = absurd (omega arith)
words_more (suc count) zero digit fact set low few is e =
    let same : fact ≡ digit = omega arith in
    let one : word 64 (slice_set set fact true) ≡ word 64 set + 2 ^ digit = word_more 64 fact set (omega arith) e ∙ ap (λ (k : ℕ). word 64 set + 2 ^ k) same in
    let rest : drop 64 (slice_set set fact true) ≡ drop 64 set = drop-set-lt 64 set fact true (omega arith) in
    ap (λ (k : ℕ). k ∷ words count (drop 64 (slice_set set fact true))) one ∙ ap (λ s. (word 64 set + 2 ^ digit) ∷ words count s) rest
words_more (suc count) (suc place) digit fact set low few is e =
    let split : fact ≡ 64 + (fact - 64) = omega arith in
    let one : word 64 (slice_set set fact true) ≡ word 64 set = word_past 64 fact set (omega arith) in
    let rest : drop 64 (slice_set set fact true) ≡ slice_set (drop 64 set) (fact - 64) true
    = ap (λ (k : ℕ). drop 64 (slice_set set k true)) split ∙ drop-set-add 64 set (fact - 64) true in
    let free : slice_get (drop 64 set) (fact - 64) ≡ Some false = get_past 64 (fact - 64) set ∙ ap (λ (k : ℕ). slice_get set k) (sym split) ∙ e in
    let more : words count (slice_set (drop 64 set) (fact - 64) true) ≡ slice_set (words count (drop 64 set)) place (slice_index_or (words count (drop 64 set)) place 0 + 2 ^ digit)
    = words_more count place digit (fact - 64) (drop 64 set) (omega arith) few (omega arith) free in
    ap (λ (k : ℕ). k ∷ words count (drop 64 (slice_set set fact true))) one ∙ ap (λ (s : List Bool). word 64 set ∷ words count s) rest ∙ ap (λ (ws : List ℕ). word 64 set ∷ ws) more

word_below : (count : ℕ) (set : List Bool) → word count set < 2 ^ count
word_below zero set = omega arith
word_below (suc count) [] = pow_pos (suc count)
word_below (suc count) (true ∷ set) = let rest : word count set < 2 ^ count = word_below count set in rw pow-suc (omega arith)
word_below (suc count) (false ∷ set) = let rest : word count set < 2 ^ count = word_below count set in rw pow-suc (omega arith)

words_below : (count place : ℕ) (set : List Bool) → slice_index_or (words count set) place 0 < 2 ^ 64
words_below zero place set = pow_pos 64
words_below (suc count) zero set = word_below 64 set
words_below (suc count) (suc place) set = words_below count place (drop 64 set)

words_length : (count : ℕ) (set : List Bool) → length (words count set) ≡ count
words_length zero set = refl
words_length (suc count) set = ap suc (words_length count (drop 64 set))

module _ (set : List Bool) (fact : ℕ) (free : slice_get set fact ≡ Some false) where
  -- the number with the mark of the fact is one of the key
  pub place_within : fact / 64 + 1 < length (packed set)
  place_within =
      let within : fact < length set = slice_get_within set fact false free in
      let parts : fact / 64 * 64 + fact % 64 ≡ fact = div-add-mod' fact 64 in
      let all : length set / 64 * 64 + length set % 64 ≡ length set = div-add-mod' (length set) 64 in
      let low : length set % 64 < 64 = mod_below (length set) 64 (omega arith) in
      let count : length (words (suc (length set / 64)) set) ≡ suc (length set / 64) = words_length (suc (length set / 64)) set in
      omega arith

  -- so it is in numbers that are a key of that length
  module _ (key ws : List ℕ) (long : length (packed set) ≡ length key) (is : ws ≡ key) where
    pub word_there : fact / 64 + 1 < length ws
    word_there = let within = place_within in let same = ap length is in omega arith

    pub word_is : (number : ℕ) → number ≡ slice_index_or ws (fact / 64 + 1) number → number ≡ slice_index_or key (fact / 64 + 1) 0
    word_is number at = get_or_read ws (fact / 64 + 1) number word_there at 0 ∙ ap (λ (xs : List ℕ). slice_index_or xs (fact / 64 + 1) 0) is

  -- the key with one more mark
  pub packed_more : packed (slice_set set fact true) ≡ slice_set (packed set) (fact / 64 + 1) (slice_index_or (packed set) (fact / 64 + 1) 0 + 2 ^ (fact % 64))
  packed_more =
      let within : fact < length set = slice_get_within set fact false free in
      let parts : fact / 64 * 64 + fact % 64 ≡ fact = div-add-mod' fact 64 in
      let all : length set / 64 * 64 + length set % 64 ≡ length set = div-add-mod' (length set) 64 in
      let low : length set % 64 < 64 = mod_below (length set) 64 (omega arith) in
      let few : fact % 64 < 64 = mod_below fact 64 (omega arith) in
      let len : length (slice_set set fact true) ≡ length set = length-set set fact true in
      let more : words (suc (length set / 64)) (slice_set set fact true) ≡ slice_set (words (suc (length set / 64)) set) (fact / 64) (slice_index_or (words (suc (length set / 64)) set) (fact / 64) 0 + 2 ^ (fact % 64))
      = words_more (suc (length set / 64)) (fact / 64) (fact % 64) fact set (omega arith) few (sym parts) free in
      rw add-one (ap (λ (n : ℕ). n ∷ words (suc (n / 64)) (slice_set set fact true)) len ∙ ap (λ (ws : List ℕ). length set ∷ ws) more)

  pub marked_length : length (packed set) ≡ length (packed (slice_set set fact true))
  marked_length = sym (ap length packed_more ∙ length-set (packed set) (fact / 64 + 1) (slice_index_or (packed set) (fact / 64 + 1) 0 + 2 ^ (fact % 64)))

  pub marked_item : slice_index_or (packed (slice_set set fact true)) (fact / 64 + 1) 0 ≡ slice_index_or (packed set) (fact / 64 + 1) 0 + 2 ^ (fact % 64)
  marked_item =
      ap (λ (ws : List ℕ). slice_index_or ws (fact / 64 + 1) 0) packed_more ∙ get_or-set_same (packed set) (fact / 64 + 1) (slice_index_or (packed set) (fact / 64 + 1) 0 + 2 ^ (fact % 64)) 0 place_within

  -- its number has place for the digit
  pub digit_fits : slice_index_or (packed set) (fact / 64 + 1) 0 + 2 ^ (fact % 64) < 2 ^ 64
  digit_fits =
      let low : slice_index_or (packed (slice_set set fact true)) (fact / 64 + 1) 0 < 2 ^ 64
      = rw add-one (words_below (suc (length (slice_set set fact true) / 64)) (fact / 64) (slice_set set fact true)) in
      subst (λ (k : ℕ). k < 2 ^ 64) marked_item low

  -- the key without the digit is that of the set
  pub packed_less : (digit : ℕ) → digit + 2 ^ (fact % 64) ≡ slice_index_or (packed (slice_set set fact true)) (fact / 64 + 1) 0 →
      slice_set (packed (slice_set set fact true)) (fact / 64 + 1) digit ≡ packed set
  packed_less digit is =
      let item : slice_index_or (packed (slice_set set fact true)) (fact / 64 + 1) 0 ≡ slice_index_or (packed set) (fact / 64 + 1) 0 + 2 ^ (fact % 64) = marked_item in
      let same : digit ≡ slice_index_or (packed set) (fact / 64 + 1) 0 = omega arith in
      ap (λ (ws : List ℕ). slice_set ws (fact / 64 + 1) digit) packed_more ∙ set-set (packed set) (fact / 64 + 1) (slice_index_or (packed set) (fact / 64 + 1) 0 + 2 ^ (fact % 64)) digit
      ∙ ap (λ (k : ℕ). slice_set (packed set) (fact / 64 + 1) k) same ∙ set-get_or (packed set) (fact / 64 + 1) 0

-- the key of the empty set
word_none : (count n : ℕ) → word count (no_facts n) ≡ 0
word_none zero n = refl
word_none (suc count) zero = refl
word_none (suc count) (suc n) = let rest : word count (no_facts n) ≡ 0 = word_none count n in omega arith

drop_none : (count n : ℕ) → drop count (no_facts n) ≡ no_facts (n - count)
drop_none zero n = let e : n - zero ≡ n = omega arith in rw e refl
drop_none (suc count) zero = let e : zero - suc count ≡ zero = omega arith in rw e refl
drop_none (suc count) (suc n) = let e : suc n - suc count ≡ n - count = omega arith in rw e (drop_none count n)

words_none : (count n : ℕ) → words count (no_facts n) ≡ replicate count 0
words_none zero n = refl
words_none (suc count) n =
    ap (λ (k : ℕ). k ∷ words count (drop 64 (no_facts n))) (word_none 64 n) ∙ ap (λ (s : List Bool). 0 ∷ words count s) (drop_none 64 n) ∙ ap (λ (ws : List ℕ). 0 ∷ ws) (words_none count (n - 64))

pub packed_none : (n : ℕ) → slice_set (replicate (n / 64 + 2) 0) 0 n ≡ packed (no_facts n)
packed_none n =
    let count : n / 64 + 2 ≡ suc (suc (n / 64)) = omega arith in
    rw count (ap (λ (ws : List ℕ). n ∷ ws) (sym (words_none (suc (n / 64)) n)) ∙ ap (λ (k : ℕ). k ∷ words (suc (k / 64)) (no_facts n)) (sym (none_length n)))
