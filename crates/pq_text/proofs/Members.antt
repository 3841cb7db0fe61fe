-- Members of a list, read one after another in a loop.
use Rattle.std.proofs.Common.{◌≡◌, ℕ, suc, ◌+◌, ◌-◌, ◌<◌, ◌≤◌, List, [], ◌∷◌, ◌++◌, Option, None, Some, Err, refl, sym, ◌∙◌, arith}
use Rattle.pq_text.specs.declared.lexeme.Lexeme.{Lexeme}
use Rattle.pq_text.specs.declared.cursor.Misfit.{Misfit}
use Rattle.pq_text.specs.declared.cursor.Misfit.TheVariants as misfit
use Rattle.pq_text.specs.Lexemes.{comma, symbol_at, members, Gives}

-- a member and a comma
pub goes_on : {X : Type 0} (item : List Lexeme → Option (X × List Lexeme)) (n i : ℕ) (done : List X) (here rest after : List Lexeme) (x : X) (total : Option (List X × List Lexeme)) →
    i < n → item here ≡ Some (x, rest) → symbol_at comma rest ≡ Some after → members item (n - i) done here ≡ total → members item (n - (i + 1)) (done ++ x ∷ []) after ≡ total
unfolding members
goes_on item n i done here rest after x total lt found next so_far =
    let k : n - i ≡ suc (n - (i + 1)) = omega arith in
    let one : members item (n - i) done here ≡ members item (n - (i + 1)) (done ++ x ∷ []) after = rw (k, found, next) refl in
    sym one ∙ so_far

-- a member without a comma behind it
pub is_last : {X : Type 0} (item : List Lexeme → Option (X × List Lexeme)) (n i : ℕ) (done : List X) (here rest : List Lexeme) (x : X) (total : Option (List X × List Lexeme)) →
    i < n → item here ≡ Some (x, rest) → symbol_at comma rest ≡ None → members item (n - i) done here ≡ total → total ≡ Some (done ++ x ∷ [], rest)
unfolding members
is_last item n i done here rest x total lt found next so_far =
    let k : n - i ≡ suc (n - (i + 1)) = omega arith in
    let one : members item (n - i) done here ≡ Some (done ++ x ∷ [], rest) = rw (k, found, next) refl in
    sym so_far ∙ one

-- no member
pub fails : {X : Type 0} (e : Misfit) (item : List Lexeme → Option (X × List Lexeme)) (n i : ℕ) (done : List X) (here rest rest' : List Lexeme) (total : Option (List X × List Lexeme)) →
    i < n → Gives rest (Err e) (item here) → members item (n - i) done here ≡ total → Gives rest' (Err e) total
unfolding members
fails misfit.NoMemory item n i done here rest rest' total lt found so_far = tt
fails misfit.NoFit item n i done here rest rest' total lt found so_far =
    let k : n - i ≡ suc (n - (i + 1)) = omega arith in
    let one : members item (n - i) done here ≡ None = rw (k, found) refl in
    sym so_far ∙ one

-- as many turns as tokens
pub runs_out : {X : Type 0} (item : List Lexeme → Option (X × List Lexeme)) (n i : ℕ) (done : List X) (here : List Lexeme) (total : Option (List X × List Lexeme)) →
    n ≤ i → members item (n - i) done here ≡ total → total ≡ None
unfolding members
runs_out item n i done here total le so_far =
    let k : n - i ≡ 0 = omega arith in
    let one : members item (n - i) done here ≡ None = rw k refl in
    sym so_far ∙ one
