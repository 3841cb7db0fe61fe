-- The first match, fact by fact.
use Rattle.std.proofs.Common.{◌≡◌, ℕ, ◌+◌, ◌-◌, ◌<◌, ◌≤◌, max, List, ◌∷◌, length, Option, sym, ap, ◌∙◌, subst, ⊎_elim, arith, Contains, take, drop, slice_index_or}
use Rattle.std.proofs.lemmas.List.{take_all}
use Rattle.std.proofs.lemmas.List.Elements.{Contains-push_cases}
use Rattle.lists.proofs.Members.{contains_here, contains_there, contains_cases}
use Rattle.lists.proofs.Places.{take_indexed}
use Rattle.meaning.specs.declared.types.Val.{Val}
use Rattle.meaning.specs.declared.types.Val.TheVariants.{Const}
use Rattle.meaning.specs.declared.types.Atom.{Atom}
use Rattle.meaning.specs.declared.types.Ground.{Ground}
use Rattle.meaning.specs.Matching.{AreFacts, GroundsOf}
use Rattle.meaning.specs.Triggers.{ground, bound, terms_bound}
use Rattle.homomorphism.specs.Bindings.{Agrees, at}
use Rattle.homomorphism.specs.Ways.{IsWay}
use Rattle.homomorphism.specs.Matches.{IsMatch, NoMatch}
use Rattle.homomorphism.specs.Listed.{AreCandidates}
use Rattle.homomorphism.proofs.Binding.{apart}
use Rattle.homomorphism.proofs.Choosing.{picked, picked_has, length_picked}

-- no assignment makes the atom one of some facts, and the other atoms facts
abbrev pub NoneAmong : List Ground → List Ground → Atom → List Atom → List (Option Val) → Type 0
NoneAmong done facts atom rest given = (a : ℕ → Val) → Agrees given a → Contains done (ground a atom) → AreFacts Const (GroundsOf facts) a rest → ⊥

-- one turn of the loop over the facts that are picked
module _ (chosen : List Ground) (i : ℕ) (fact : Ground) (l : i < length chosen) (is : fact ≡ slice_index_or chosen i fact) (facts : List Ground) (atom : Atom) (rest : List Atom) (given : List (Option Val)) (before : NoneAmong (take i chosen) facts atom rest given) where
  cases : (a : ℕ → Val) → Contains (take (i + 1) chosen) (ground a atom) → ((fact ≡ ground a atom) → ⊥) → (Contains (take i chosen) (ground a atom) → ⊥) → ⊥
  cases a c here there = ⊎_elim there here (Contains-push_cases (take i chosen) fact (ground a atom) (subst (λ done. Contains done (ground a atom)) (take_indexed chosen i fact l is) c))

  pub none_without : ((a : ℕ → Val) → Agrees given a → ground a atom ≡ fact → ⊥) → NoneAmong (take (i + 1) chosen) facts atom rest given
  unfolding cases
  none_without not a ag c are = cases a c (λ e. not a ag (sym e)) (λ h. before a ag h are)

  pub none_with : (way : List (Option Val)) → IsWay fact atom given way → NoMatch facts rest way → NoneAmong (take (i + 1) chosen) facts atom rest given
  unfolding cases
  none_with way w none a ag c are = cases a c (λ e. none a (w.narrows.complete a ag (ap (λ (f : Ground). f.vals) (sym e))) are) (λ h. before a ag h are)

-- a slice of atoms taken apart by a pattern
module _ (facts : List Ground) (atoms : List Atom) (atom : Atom) (given : List (Option Val)) (l : 1 ≤ length atoms) (is : atom ≡ slice_index_or atoms 0 atom) where
  abbrev rest : List Atom
  rest = take (length atoms - 1) (drop 1 atoms)

  split : atoms ≡ atom ∷ rest
  split = apart atoms atom l is

  pub match_by : (fact : Ground) (way : List (Option Val)) (values : List Val) → Contains facts fact → IsWay fact atom given way → IsMatch facts (take (length atoms - 1) (drop 1 atoms)) way values → IsMatch facts atoms given values
  unfolding split
  match_by fact way values among w m = subst (λ z. IsMatch facts z given values) (sym split) (record {
    width = m.width ∙ w.narrows.width;
    agrees = w.narrows.wider (at values) m.agrees;
    facts_are = λ other c. ⊎_elim (λ e. subst (λ (t : Atom). Contains facts (ground (at values) t)) e (subst (Contains facts) (sym made) among)) (λ h. m.facts_are other h) (contains_cases atom rest other c);
  })
    where
      made : ground (at values) atom ≡ fact
      made = let e = w.relation in let v = w.narrows.sound (at values) m.agrees in λ i. record { rel = sym e i; vals = v i }

  pub fits_by : (fact : Ground) (way : List (Option Val)) → IsWay fact atom given way → bound atoms ≤ length given → bound (take (length atoms - 1) (drop 1 atoms)) ≤ length way
  unfolding split
  fits_by fact way w f =
      let e : length way ≡ length given = w.narrows.width in
      let g : max (terms_bound atom.terms) (bound rest) ≤ length given = subst (λ z. bound z ≤ length given) split f in
      omega arith

  pub no_match_by : (numbers : List ℕ) (i : ℕ) → AreCandidates facts atom given numbers → length numbers ≤ i → NoneAmong (take i (picked facts numbers)) facts atom (take (length atoms - 1) (drop 1 atoms)) given → NoMatch facts atoms given
  unfolding split
  no_match_by numbers i r past none = subst (λ z. NoMatch facts z given) (sym split) (λ a ag are.
      none a ag (subst (λ z. Contains z (ground a atom)) (sym (take_all i (picked facts numbers) (let e = length_picked facts numbers in omega arith))) (picked_has facts atom given numbers r a ag (are atom (contains_here atom rest))))
      (λ other c. are other (contains_there atom rest other c)))
