-- Texts collected once: the known ones stay in front, and a list goes on from the one before it.
use Rattle.std.proofs.Common.{◌≡◌, ◌<◌, ◌≤◌, ◌∙◌, ap, ℕ, List, [], ◌∷◌, ◌++◌, true, false, not, cond, Option, length, refl, arith, nat_lt, ⊎_elim, length-append}
use Rattle.std.specs.Prelude.{filter_map}
use Rattle.std.proofs.lemmas.Bool.{cases_Bool}
use Rattle.std.proofs.lemmas.Bool.Decides.{nat_tests}
use Rattle.std.proofs.lemmas.List.Elements.{filter_map-append}
use Rattle.std.proofs.lemmas.List.Concat.{flat_map-append}
use Rattle.std.specs.List.{zip}
use Rattle.meaning.specs.declared.types.Relation.{Relation}
use Rattle.meaning.specs.declared.types.Sort.{Sort}
use Rattle.access_schema.specs.declared.part.NamedTerm.{NamedTerm}
use Rattle.access_schema.specs.declared.part.NamedAtom.{NamedAtom}
use Rattle.access_schema.specs.Lists.{is_among, once_after}
use Rattle.access_schema.specs.Content.{named_terms, sorts_of}
use Rattle.access_schema.specs.SortFaults.{sorted_terms}

pub once_grows : (known texts : List (List ℕ)) → length known ≤ length (once_after known texts)
once_grows known [] = omega arith
once_grows known (text ∷ texts) = ⊎_elim
    (λ (yes : is_among known text ≡ true). rw yes (once_grows known texts))
    (λ (other : is_among known text ≡ false).
    let more : length (known ++ text ∷ []) ≤ length (once_after (known ++ text ∷ []) texts) = once_grows (known ++ text ∷ []) texts in
    let long = length-append known (text ∷ []) in
    rw other (omega (arith, more, long)))
    (cases_Bool (is_among known text))

pub once_over : (most : ℕ) (known texts : List (List ℕ)) → most < length known → not (nat_lt most (length (once_after known texts))) ≡ false
once_over most known texts over = let grown = once_grows known texts in grind (arith, nat_tests)

pub once_on : (known texts others : List (List ℕ)) → once_after known (texts ++ others) ≡ once_after (once_after known texts) others
once_on known [] others = refl
once_on known (text ∷ texts) others = once_on (cond (is_among known text) known (known ++ text ∷ [])) texts others

pub once_mapped : {X : Type 0} (h : X → Option (List ℕ)) (known : List (List ℕ)) (terms others : List X) → once_after known (filter_map h (terms ++ others)) ≡ once_after (once_after known (filter_map h terms)) (filter_map h others)
once_mapped h known terms others = ap (once_after known) (filter_map-append h terms others) ∙ once_on known (filter_map h terms) (filter_map h others)

pub once_mapped_over : (h : NamedTerm → Option (List ℕ)) (most : ℕ) (known : List (List ℕ)) (terms others : List NamedTerm) → not (nat_lt most (length (once_after known (filter_map h terms)))) ≡ false → not (nat_lt most (length (once_after known (filter_map h (terms ++ others))))) ≡ false
once_mapped_over h most known terms others over =
    let grown = once_grows (once_after known (filter_map h terms)) (filter_map h others) in
    rw (once_mapped h known terms others) (grind (arith, nat_tests))

-- the texts of a rule are those of its body and then those of its head
pub once_both : (h : NamedTerm → Option (List ℕ)) (known : List (List ℕ)) (body head : List NamedAtom) → once_after known (filter_map h (named_terms (body ++ head))) ≡ once_after (once_after known (filter_map h (named_terms body))) (filter_map h (named_terms head))
once_both h known body head =
    ap (λ terms. once_after known (filter_map h terms)) (flat_map-append (λ (atom : NamedAtom). atom.terms) body head) ∙ once_mapped h known (named_terms body) (named_terms head)

pub once_sorted : (relations : List Relation) (h : NamedTerm × Sort → Option (List ℕ)) (known : List (List ℕ)) (body head : List NamedAtom) →
    once_after known (filter_map h (sorted_terms relations (body ++ head))) ≡ once_after (once_after known (filter_map h (sorted_terms relations body))) (filter_map h (sorted_terms relations head))
once_sorted relations h known body head =
    ap (λ terms. once_after known (filter_map h terms)) (flat_map-append (λ (atom : NamedAtom). zip atom.terms (sorts_of relations atom.relation)) body head)
    ∙ once_mapped h known (sorted_terms relations body) (sorted_terms relations head)

pub once_both_over : (h : NamedTerm → Option (List ℕ)) (most : ℕ) (known : List (List ℕ)) (body head : List NamedAtom) → not (nat_lt most (length (once_after known (filter_map h (named_terms body))))) ≡ false → not (nat_lt most (length (once_after known (filter_map h (named_terms (body ++ head)))))) ≡ false
once_both_over h most known body head over =
    rw (flat_map-append (λ (atom : NamedAtom). atom.terms) body head) (once_mapped_over h most known (named_terms body) (named_terms head) over)
