-- Bytes stop being text at one place at most.
use Rattle.std.proofs.Common.{◌≡◌, ℕ, List, [], ◌∷◌, ◌++◌, length, take, drop, refl, sym, ◌∙◌, ap, subst, arith, ◌<◌, ◌≤◌, append_assoc, ⊎_elim}
use Rattle.std.specs.Str.{IsUtf8, StartsWithNoChar}
use Rattle.std.proofs.lemmas.Str.{IsUtf8-drop, IsCharBoundary-from_take}
use Rattle.std.proofs.lemmas.List.{take-append-drop, take-append-le, drop-append-le, length-drop, length-take}
use Rattle.std.proofs.lemmas.Bool.{cases_order}
use Rattle.std.proofs.Math.Utf8.{encode, encodes, scalars, scalar}
use Rattle.lists.proofs.Booleans.{first_true}
use Rattle.pq_text.specs.Utf8.{IsFirstBad}

-- text that is not empty begins with a character, whatever follows it
char_first : (bytes others : List ℕ) → IsUtf8 bytes → 0 < length bytes → StartsWithNoChar (bytes ++ others) → ⊥
char_first bytes others ([], (scalars_are, e)) long none = let short : 0 ≡ length bytes = ap length e in absurd (omega arith)
char_first bytes others (c ∷ cs, (scalars_are, e)) long none =
    none c (encodes cs ++ others) (first_true (scalar c) (scalars cs) scalars_are) (ap (λ q. q ++ others) (sym e) ∙ append_assoc (encode c) (encodes cs) others)

-- the front of a text up to which another text goes on is cut where a character begins
pub cut_short : (bytes : List ℕ) (a b : ℕ) → IsFirstBad bytes a → IsUtf8 (take b bytes) → a < b → b ≤ length bytes → ⊥
cut_short bytes a b is text below within =
    let front : List ℕ = take b bytes in
    let long : length front ≡ b = let e = length-take b bytes in omega (arith, e) in
    let whole : front ++ drop b bytes ≡ bytes = take-append-drop b bytes in
    let small : a ≤ length front = omega (arith, long) in
    let again : take a front ≡ take a bytes = sym (take-append-le a front (drop b bytes) small) ∙ ap (take a) whole in
    let boundary = IsCharBoundary-from_take front a text small (subst IsUtf8 (sym again) is.before) in
    let behind : drop a bytes ≡ drop a front ++ drop b bytes = ap (drop a) (sym whole) ∙ drop-append-le a front (drop b bytes) small in
    let some : 0 < length (drop a front) = let e = length-drop a front in omega (arith, e, long) in
    char_first (drop a front) (drop b bytes) (IsUtf8-drop front a text boundary) some (subst StartsWithNoChar behind is.none)

pub utf8_clash : (bytes : List ℕ) (a : ℕ) → IsFirstBad bytes a → IsUtf8 bytes → ⊥
utf8_clash bytes a is text =
    let below : a ≤ length bytes = let w = is.within in omega (arith, w) in
    let boundary = IsCharBoundary-from_take bytes a text below is.before in
    let some : 0 < length (drop a bytes) = let e = length-drop a bytes in let w = is.within in omega (arith, e, w) in
    char_first (drop a bytes) [] (IsUtf8-drop bytes a text boundary) some (subst StartsWithNoChar (sym (nil (drop a bytes))) is.none)
  where
    nil : (xs : List ℕ) → xs ++ [] ≡ xs
    nil [] = refl
    nil (x ∷ xs) = ap (λ r. x ∷ r) (nil xs)

pub one_bad : (bytes : List ℕ) (a b : ℕ) → IsFirstBad bytes a → IsFirstBad bytes b → a ≡ b
one_bad bytes a b is is' = ⊎_elim (λ e. e) (λ apart. ⊎_elim
    (λ l. absurd (let w = is'.within in cut_short bytes a b is is'.before l (omega (arith, w))))
    (λ l. absurd (let w = is.within in cut_short bytes b a is' is.before l (omega (arith, w)))) apart) (cases_order a b)
