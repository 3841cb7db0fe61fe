-- Bounds on the variables of atoms.
use Rattle.std.proofs.Common.{ℕ, ◌≤◌, List, [], ◌∷◌, sym, subst, ⊎_elim, arith}
use Rattle.std.specs.Prelude.{Contains}
use Rattle.lists.proofs.Members.{contains_here, contains_there, contains_cases}
use Rattle.meaning.specs.declared.types.Atom.{Atom}
use Rattle.meaning.specs.Triggers.{bound, terms_bound}

pub member_bound : (atoms : List Atom) (atom : Atom) → Contains atoms atom → terms_bound atom.terms ≤ bound atoms
member_bound [] atom among = absurd (omega (arith, among.1))
member_bound (first ∷ atoms) atom among = ⊎_elim
    (λ same. let e : terms_bound atom.terms ≤ terms_bound atom.terms = omega arith in let f : terms_bound atom.terms ≤ terms_bound first.terms = subst (λ (t : Atom). terms_bound atom.terms ≤ terms_bound t.terms) (sym same) e in omega (arith, f))
    (λ there. let rest = member_bound atoms atom there in omega (arith, rest))
    (contains_cases first atoms atom among)

pub all_bound : (n : ℕ) (atoms : List Atom) → ((atom : Atom) → Contains atoms atom → terms_bound atom.terms ≤ n) → bound atoms ≤ n
all_bound n [] low = omega arith
all_bound n (first ∷ atoms) low =
    let here = low first (contains_here first atoms) in
    let rest = all_bound n atoms (λ atom among. low atom (contains_there first atoms atom among)) in
    omega (arith, here, rest)
