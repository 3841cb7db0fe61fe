-- Numbers of names: places within, distinct variables, and lists of constants that go on.
use Rattle.std.proofs.Common.{◌≡◌, ◌+◌, ◌<◌, ◌≤◌, ◌∙◌, sym, ap, ℕ, suc, List, [], ◌∷◌, ◌++◌, true, length, arith, map, append_assoc}
use Rattle.std.proofs.lemmas.List.{map-append}
use Rattle.std.specs.List.{range_with_len}
use Rattle.lists.proofs.Places.{range_push}
use Rattle.meaning.specs.declared.types.Term.{Term}
use Rattle.meaning.specs.declared.types.Term.TheVariants.{Var}
use Rattle.access_schema.specs.Lists.{is_among, place_of, once_after}
use Rattle.access_schema.specs.Content.{key_terms, key_number, next_number}
use Rattle.access_schema.proofs.LeastFault.{place_within}
use Rattle.access_schema.proofs.Collected.{once_on, once_grows}

-- a text that is among the list has a place within
pub place_among : (texts : List (List ℕ)) (text : List ℕ) → is_among texts text ≡ true → place_of texts text < length texts
place_among texts text among = place_within _ texts among

-- one distinct variable more
pub variables_push : (count : ℕ) → map Var (range_with_len 0 (count + 1)) ≡ map Var (range_with_len 0 count) ++ Var count ∷ []
variables_push count =
    let e : count + 1 ≡ suc count = omega arith in
    let z : 0 + count ≡ count = omega arith in
    ap (λ n. map Var (range_with_len 0 n)) e ∙ ap (map Var) (range_push 0 count) ∙ map-append Var (range_with_len 0 count) ((0 + count) ∷ []) ∙ ap (λ n. map Var (range_with_len 0 count) ++ Var n ∷ []) z

-- the texts known after the first list are at most those known in the end
pub once_first : (known texts others : List (List ℕ)) → length (once_after known texts) ≤ length (once_after known (texts ++ others))
once_first known texts others = rw (once_on known texts others) (once_grows (once_after known texts) others)

-- one target column more has its term
pub key_on : (own columns targets target left rest : List (List ℕ)) (terms more : List Term) (next after number : ℕ) (column : List ℕ) → left ≡ column ∷ rest → key_terms own columns targets (length own) target ≡ terms ++ key_terms own columns targets next left → number ≡ key_number own columns targets next column → after ≡ next_number targets next column → more ≡ terms ++ Var number ∷ [] → key_terms own columns targets (length own) target ≡ more ++ key_terms own columns targets after rest
key_on own columns targets target left rest terms more next after number column split are is on pushed =
    are ∙ ap (λ cs. terms ++ key_terms own columns targets next cs) split
    ∙ ap (λ n. terms ++ (Var n ∷ key_terms own columns targets (next_number targets next column) rest)) (sym is)
    ∙ ap (λ n. terms ++ (Var number ∷ key_terms own columns targets n rest)) (sym on)
    ∙ sym (append_assoc terms (Var number ∷ []) (key_terms own columns targets after rest))
    ∙ ap (λ made. made ++ key_terms own columns targets after rest) (sym pushed)
