-- Atoms made facts one after another, with values that are given in place.
use Rattle.std.proofs.Common.{◌≡◌, ℕ, zero, suc, ◌-◌, ◌<◌, ◌≤◌, max, List, [], ◌∷◌, length, Some, None, Option, refl, sym, ap, ◌∙◌, subst, ⊎_elim, arith, Contains, slice_get, slice_index_or, take, drop}
use Rattle.std.proofs.lemmas.List.{take_all}
use Rattle.lists.proofs.Members.{contains_here, contains_there, contains_cases, some_injective, contains_none}
use Rattle.meaning.specs.declared.types.Val.{Val}
use Rattle.meaning.specs.declared.types.Atom.{Atom}
use Rattle.meaning.specs.declared.types.Ground.{Ground}
use Rattle.meaning.specs.Triggers.{ground, bound, terms_bound}
use Rattle.homomorphism.specs.Bindings.{Agrees}
use Rattle.homomorphism.specs.Ways.{IsWay}
use Rattle.homomorphism.specs.Matches.{NoMatch}
use Rattle.homomorphism.specs.Listed.{AreCandidates}
use Rattle.homomorphism.specs.Widening.{Touches, Widens, taken}
use Rattle.homomorphism.proofs.Binding.{apart, none_some}
use Rattle.homomorphism.proofs.Choosing.{picked, picked_has, length_picked}
use Rattle.homomorphism.proofs.FactByFact.{NoneAmong}
use Rattle.homomorphism.proofs.Touching.{default}

pub widens_none : (facts : List Ground) (given : List (Option Val)) → Widens facts [] given given
widens_none facts given = record {
  width = refl;
  kept = λ x v e. e;
  sound = λ a ag atom c. absurd (contains_none atom c);
}

pub wider : (given found : List (Option Val)) → ((x : ℕ) (v : Val) → slice_get given x ≡ Some (Some v) → slice_get found x ≡ Some (Some v)) → (a : ℕ → Val) → Agrees found a → Agrees given a
wider given found kept a ag x v e = ag x v (kept x v e)

pub touched_keeps : (atom : Atom) (before now : List (Option Val)) → Touches atom.terms before now → (x : ℕ) (v : Val) → slice_get before x ≡ Some (Some v) → slice_get now x ≡ Some (Some v)
touched_keeps atom before now t x v e = ⊎_elim (λ same. same ∙ e) (λ (c, free). absurd (none_some v (some_injective None (Some v) (sym free ∙ e)))) (t.1 x)

-- the bound of one atom
pub atom_within : (atoms : List Atom) (i : ℕ) (atom : Atom) (n : ℕ) → i < length atoms → atom ≡ slice_index_or atoms i atom → bound atoms ≤ n → terms_bound atom.terms ≤ n
atom_within [] i atom n l e f = absurd (omega arith)
atom_within (first ∷ atoms) zero atom n l e f = subst (λ (t : Atom). terms_bound t.terms ≤ n) (sym e) (let g : max (terms_bound first.terms) (bound atoms) ≤ n = f in omega arith)
atom_within (first ∷ atoms) (suc i) atom n l e f = atom_within atoms i atom n (omega arith) e (let g : max (terms_bound first.terms) (bound atoms) ≤ n = f in omega arith)

-- the first of the numbers, and the rest of them
module _ (facts : List Ground) (atoms : List Atom) (order : List ℕ) (place : ℕ) (atom : Atom) (given : List (Option Val)) (l : 1 ≤ length order) (is : place ≡ slice_index_or order 0 place) (below : place < length atoms) (here : atom ≡ slice_index_or atoms place atom) where
  abbrev rest : List ℕ
  rest = take (length order - 1) (drop 1 order)

  split : taken atoms order ≡ atom ∷ taken atoms rest
  split = ap (taken atoms) (apart order place l is) ∙ ap (λ (t : Atom). t ∷ taken atoms rest) (sym (here ∙ default atoms place atom (record { rel = 0; terms = [] }) below))

  pub widens_by : (fact : Ground) (mid found : List (Option Val)) → Contains facts fact → IsWay fact atom given mid → Touches atom.terms given mid →
      Widens facts (taken atoms (take (length order - 1) (drop 1 order))) mid found → Widens facts (taken atoms order) given found
  unfolding split
  widens_by fact mid found among w t r = subst (λ z. Widens facts z given found) (sym split) (record {
    width = r.width ∙ t.0;
    kept = λ x v e. r.kept x v (touched_keeps atom given mid t x v e);
    sound = λ a ag other c. ⊎_elim (λ e. subst (λ (t : Atom). Contains facts (ground a t)) e (subst (Contains facts) (sym (made a ag)) among)) (λ h. r.sound a ag other h) (contains_cases atom (taken atoms rest) other c);
  })
    where
      made : (a : ℕ → Val) → Agrees found a → ground a atom ≡ fact
      made a ag = let e = w.relation in let v = w.narrows.sound a (wider mid found r.kept a ag) in λ i. record { rel = sym e i; vals = v i }

  pub no_match_of : (numbers : List ℕ) (i : ℕ) → AreCandidates facts atom given numbers → length numbers ≤ i → NoneAmong (take i (picked facts numbers)) facts atom (taken atoms (take (length order - 1) (drop 1 order))) given →
      NoMatch facts (taken atoms order) given
  unfolding split
  no_match_of numbers i r past none = subst (λ z. NoMatch facts z given) (sym split) (λ a ag are.
      none a ag (subst (λ z. Contains z (ground a atom)) (sym (take_all i (picked facts numbers) (let e = length_picked facts numbers in omega arith))) (picked_has facts atom given numbers r a ag (are atom (contains_here atom (taken atoms rest)))))
      (λ other c. are other (contains_there atom (taken atoms rest) other c)))

pub first_is : (order : List ℕ) (place : ℕ) → 1 ≤ length order → place ≡ slice_index_or order 0 place → Contains order place
first_is order place l is = (0, l, sym is)

pub rest_within : (order : List ℕ) (place : ℕ) (P : ℕ → Type 0) → 1 ≤ length order → place ≡ slice_index_or order 0 place → ((n : ℕ) → Contains order n → P n) → (n : ℕ) → Contains (take (length order - 1) (drop 1 order)) n → P n
rest_within order place P l is all n c = all n (subst (λ z. Contains z n) (sym (apart order place l is)) (contains_there place (take (length order - 1) (drop 1 order)) n c))

pub nothing_taken : (facts : List Ground) (atoms : List Atom) (order : List ℕ) (given : List (Option Val)) → order ≡ [] → Widens facts (taken atoms order) given given
nothing_taken facts atoms order given e = subst (λ z. Widens facts (taken atoms z) given given) (sym e) (widens_none facts given)
