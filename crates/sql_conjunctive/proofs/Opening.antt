-- The opening atoms, made one after the other.
use Rattle.std.proofs.Common.{◌≡◌, ◌≤◌, ◌+◌, ◌-◌, ℕ, List, [], ◌∷◌, ◌++◌, length, take, drop, get_or, ap, ◌∙◌, arith, append_assoc}
use Rattle.std.proofs.lemmas.List.{take_all}
use Rattle.meaning.specs.declared.types.Atom.{Atom}
use Rattle.meaning.specs.declared.types.Relation.{Relation}
use Rattle.sql_conjunctive.specs.Merging.{opened, opening_from}

pub opening_step : (relations : List Relation) (from : ℕ) (atoms new whole : List Atom) (left : List ℕ) →
    1 ≤ length left → new ≡ atoms ++ opened relations from (get_or left 0 0) ∷ [] → atoms ++ opening_from relations from left ≡ whole →
    new ++ opening_from relations (from + 1) (take (length left - 1) (drop 1 left)) ≡ whole
opening_step relations from atoms new whole [] some is made = absurd (omega arith)
opening_step relations from atoms new whole (rel ∷ left) some is made =
    let all : take (length (rel ∷ left) - 1) left ≡ left = take_all (length (rel ∷ left) - 1) left (omega arith) in
    ap (λ n. n ++ opening_from relations (from + 1) (take (length (rel ∷ left) - 1) left)) is
    ∙ ap (λ rest. (atoms ++ opened relations from rel ∷ []) ++ opening_from relations (from + 1) rest) all
    ∙ append_assoc atoms (opened relations from rel ∷ []) (opening_from relations (from + 1) left)
    ∙ made
