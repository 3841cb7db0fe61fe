-- Matches that stand for others, as those with the same values at the frontier do.
use Rattle.std.proofs.Common.{refl, append_assoc, ◌≡◌, ◌⊎◌, ℕ, ◌+◌, ◌-◌, ◌<◌, ◌≤◌, List, [], ◌∷◌, ◌++◌, length, Some, None, Option, sym, ap, ◌∙◌, subst, inl, inr, ⊎_elim, arith, Contains, map, take, drop, slice_get, slice_index_or}
use Rattle.std.proofs.lemmas.List.{take_all, append-nil}
use Rattle.std.proofs.lemmas.List.Elements.{Contains-append_left, Contains-append_right, Contains-append_cases, Contains-push_cases}
use Rattle.std.proofs.lemmas.Option.{slice_get-get_or}
use Rattle.lists.proofs.Members.{contains_here, contains_there, contains_cases, contains_none}
use Rattle.lists.proofs.Places.{take_indexed}
use Rattle.meaning.specs.declared.types.Term.TheVariants.{Var}
use Rattle.meaning.specs.declared.types.Val.{Val}
use Rattle.meaning.specs.declared.types.Val.TheVariants.{Const}
use Rattle.meaning.specs.declared.types.Atom.{Atom}
use Rattle.meaning.specs.declared.types.Ground.{Ground}
use Rattle.meaning.specs.declared.types.Rule.{Rule}
use Rattle.meaning.specs.Matching.{AreFacts, OccursIn, GroundsOf, MeetsRule}
use Rattle.meaning.specs.Triggers.{ground}
use Rattle.homomorphism.specs.declared.assignment.Assignment.{Assignment}
use Rattle.homomorphism.specs.Bindings.{Agrees, IsBound, at}
use Rattle.homomorphism.specs.Narrowing.{value_or_none}
use Rattle.homomorphism.specs.Ways.{IsWay}
use Rattle.homomorphism.specs.Matches.{IsMatch, NoMatch, AreCovered}
use Rattle.homomorphism.specs.Listed.{AreCandidates}
use Rattle.homomorphism.specs.Rules.{IsMet, IsUnmet, IsUnmetMatch}
use Rattle.homomorphism.specs.Widening.{taken}
use Rattle.homomorphism.specs.Frontier.{HasLike, AreFrontier, StandForAll}
use Rattle.homomorphism.proofs.AtomByAtom.{match_none}
use Rattle.homomorphism.proofs.Binding.{apart}
use Rattle.homomorphism.proofs.Choosing.{picked, picked_has, length_picked}
use Rattle.homomorphism.proofs.Touching.{default}

-- a variable that is not one without a value has one
pub bound_there : (given : List (Option Val)) (x : ℕ) → x < length given → (slice_get given x ≡ Some None → ⊥) → IsBound given x
bound_there given x l not = by (slice_index_or given x None) (slice_get-get_or given x None l)
  where
    by : (r : Option Val) → slice_get given x ≡ Some r → IsBound given x
    by None e = absurd (not e)
    by (Some v) e = (v, e)

-- a match with values for all variables of the head is like each other one
pub frontier_one : (facts : List Ground) (atoms head : List Atom) (given : List (Option Val)) (m : Assignment) → ((x : ℕ) → OccursIn head x → x < length given → IsBound given x) → IsMatch facts atoms given m.vals → AreFrontier facts atoms head given (m ∷ [])
frontier_one facts atoms head given m has is = record {
  each = λ other c. ⊎_elim (λ e. subst (λ (n : Assignment). IsMatch facts atoms given n.vals) e is) (λ h. absurd (contains_none other h)) (contains_cases m [] other c);
  all = λ a ag are. (m, contains_here m [], λ x o l. let (v, got) = has x o l in ag x v got ∙ sym (is.agrees x v got));
}

pub frontier_none : (facts : List Ground) (atoms head : List Atom) (given : List (Option Val)) → NoMatch facts atoms given → AreFrontier facts atoms head given []
frontier_none facts atoms head given none = record {
  each = λ m c. absurd (contains_none m c);
  all = λ a ag are. absurd (none a ag are);
}

pub frontier_end : (facts : List Ground) (atoms : List Atom) (order : List ℕ) (head : List Atom) (given : List (Option Val)) (m : Assignment) → order ≡ [] → AreCovered (taken atoms order) given → m.vals ≡ map value_or_none given → AreFrontier facts (taken atoms order) head given (m ∷ [])
frontier_end facts atoms order head given m none covered is = subst (λ z. AreFrontier facts (taken atoms z) head given (m ∷ [])) (sym none)
    (frontier_one facts [] head given m (λ x o l. ⊎_elim (λ b. b) (λ (atom, among, h). absurd (contains_none atom among)) (subst (λ z. AreCovered (taken atoms z) given) none covered x l)) (match_none facts given m.vals is))

-- the matches by some facts of the first atom
pub record ByFacts (done facts : List Ground) (atom : Atom) (rest head : List Atom) (given : List (Option Val)) (matches : List Assignment) : Type 0 where
  pub each : (m : Assignment) → Contains matches m → IsMatch facts (atom ∷ rest) given m.vals
  pub all : (a : ℕ → Val) → Agrees given a → Contains done (ground a atom) → AreFacts Const (GroundsOf facts) a rest → HasLike matches head (length given) a

pub by_none : (facts : List Ground) (atom : Atom) (rest head : List Atom) (given : List (Option Val)) → ByFacts [] facts atom rest head given []
by_none facts atom rest head given = record {
  each = λ m c. absurd (contains_none m c);
  all = λ a ag c are. absurd (contains_none (ground a atom) c);
}

-- one turn of the loop over the facts that are picked
module _ (chosen : List Ground) (i : ℕ) (fact : Ground) (l : i < length chosen) (is : fact ≡ slice_index_or chosen i fact) (facts : List Ground) (atom : Atom) (rest head : List Atom) (given : List (Option Val)) (matches : List Assignment) (before : ByFacts (take i chosen) facts atom rest head given matches) where
  cases : (a : ℕ → Val) → Contains (take (i + 1) chosen) (ground a atom) → Contains (take i chosen) (ground a atom) ⊎ (fact ≡ ground a atom)
  cases a c = Contains-push_cases (take i chosen) fact (ground a atom) (subst (λ done. Contains done (ground a atom)) (take_indexed chosen i fact l is) c)

  pub by_without : ((a : ℕ → Val) → Agrees given a → ground a atom ≡ fact → ⊥) → ByFacts (take (i + 1) chosen) facts atom rest head given matches
  unfolding cases
  by_without not = record {
    each = before.each;
    all = λ a ag c are. ⊎_elim (λ h. before.all a ag h are) (λ e. absurd (not a ag (sym e))) (cases a c);
  }

  pub by_with : (way : List (Option Val)) (more : List Assignment) → Contains facts fact → IsWay fact atom given way → AreFrontier facts rest head way more → ByFacts (take (i + 1) chosen) facts atom rest head given (matches ++ more)
  unfolding cases
  by_with way more among w r = record {
    each = λ m c. ⊎_elim (λ h. before.each m h) (λ h. longer m (r.each m h)) (Contains-append_cases matches more m c);
    all = λ a ag c are. ⊎_elim (λ h. let (m, there, like) = before.all a ag h are in (m, Contains-append_left matches more m there, like))
        (λ e. let (m, there, like) = r.all a (w.narrows.complete a ag (ap (λ (f : Ground). f.vals) (sym e))) are in (m, Contains-append_right matches more m there, λ x o low. like x o (subst (λ n. x < n) (sym w.narrows.width) low))) (cases a c);
  }
    where
      made : (a : ℕ → Val) → Agrees way a → ground a atom ≡ fact
      made a ag = let e = w.relation in let v = w.narrows.sound a ag in λ i. record { rel = sym e i; vals = v i }

      longer : (m : Assignment) → IsMatch facts rest way m.vals → IsMatch facts (atom ∷ rest) given m.vals
      longer m n = record {
        width = n.width ∙ w.narrows.width;
        agrees = w.narrows.wider (at m.vals) n.agrees;
        facts_are = λ other c. ⊎_elim (λ e. subst (λ (t : Atom). Contains facts (ground (at m.vals) t)) e (subst (Contains facts) (sym (made (at m.vals) n.agrees)) among)) (λ h. n.facts_are other h) (contains_cases atom rest other c);
      }

-- the first of the numbers, and the rest of them
module _ (facts : List Ground) (atoms : List Atom) (order : List ℕ) (place : ℕ) (atom : Atom) (given : List (Option Val)) (l : 1 ≤ length order) (is : place ≡ slice_index_or order 0 place) (below : place < length atoms) (here : atom ≡ slice_index_or atoms place atom) where
  abbrev rest : List Atom
  rest = taken atoms (take (length order - 1) (drop 1 order))

  split : taken atoms order ≡ atom ∷ rest
  split = ap (taken atoms) (apart order place l is) ∙ ap (λ (t : Atom). t ∷ rest) (sym (here ∙ default atoms place atom (record { rel = 0; terms = [] }) below))

  pub covered_by : (fact : Ground) (way : List (Option Val)) → IsWay fact atom given way → AreCovered (taken atoms order) given → AreCovered (taken atoms (take (length order - 1) (drop 1 order))) way
  unfolding split
  covered_by fact way w covered x low =
      ⊎_elim (λ b. inl (w.narrows.kept x b))
      (λ (other, among, o). ⊎_elim (λ e. inl (w.narrows.bound x (subst (λ (t : Atom). Contains t.terms (Var x)) (sym e) o))) (λ h. inr (other, h, o)) (contains_cases atom rest other (subst (λ z. Contains z other) split among)))
      (covered x (subst (λ n. x < n) w.narrows.width low))

  pub frontier_all : (head : List Atom) (matches : List Assignment) (numbers : List ℕ) (i : ℕ) → AreCandidates facts atom given numbers → length numbers ≤ i → ByFacts (take i (picked facts numbers)) facts atom (taken atoms (take (length order - 1) (drop 1 order))) head given matches →
      AreFrontier facts (taken atoms order) head given matches
  unfolding split
  frontier_all head matches numbers i r past by = subst (λ z. AreFrontier facts z head given matches) (sym split) (record {
    each = by.each;
    all = λ a ag are. by.all a ag (subst (λ z. Contains z (ground a atom)) (sym (take_all i (picked facts numbers) (let e = length_picked facts numbers in omega arith))) (picked_has facts atom given numbers r a ag (are atom (contains_here atom rest))))
        (λ other c. are other (contains_there atom rest other c));
  })

-- a body without a match
pub frontier_absent : (facts : List Ground) (rule : Rule) → ((a : ℕ → Val) → AreFacts Const (GroundsOf facts) a rule.body → ⊥) →
    StandForAll facts rule []
frontier_absent facts rule none = record {
  width = λ m c. absurd (contains_none m c);
  each = λ m c. absurd (contains_none m c);
  all = λ now met a are. absurd (none a are);
}

pub frontier_met : (facts : List Ground) (rule : Rule) (found : List Assignment) → StandForAll facts rule found →
    ((one : Assignment) → Contains found one → IsMet facts rule one.vals) → MeetsRule Const (GroundsOf facts) rule
frontier_met facts rule found m met a body = m.all facts met a body

pub unmet_frontier : (facts : List Ground) (rule : Rule) (found : List Assignment) (one : Assignment) → StandForAll facts rule found → Contains found one → IsUnmet facts rule one.vals → IsUnmetMatch facts rule one.vals
unmet_frontier facts rule found one m c u = record { width = m.width one c; body = m.each one c; unmet = u }

-- a walk through matches, of which those that were met are done
pub record IsWalked (facts : List Ground) (rule : Rule) (left : List Assignment) : Type 0 where
  pub found : List Assignment
  pub done : List Assignment
  pub whole : found ≡ done ++ left
  pub matches : StandForAll facts rule found
  pub met : (one : Assignment) → Contains done one → IsMet facts rule one.vals

pub walked_start : (facts : List Ground) (rule : Rule) (left : List Assignment) → StandForAll facts rule left → IsWalked facts rule left
walked_start facts rule left m = record { found = left; done = []; whole = refl; matches = m; met = λ one c. absurd (contains_none one c) }

pub walked_among : (facts : List Ground) (rule : Rule) (left more : List Assignment) (one : Assignment) (w : IsWalked facts rule left) → left ≡ one ∷ more → Contains w.found one
walked_among facts rule left more one w e = subst (λ z. Contains z one) (sym (w.whole ∙ ap (λ z. w.done ++ z) e)) (Contains-append_right w.done (one ∷ more) one (contains_here one more))

pub walked_more : (facts : List Ground) (rule : Rule) (left more : List Assignment) (one : Assignment) → left ≡ one ∷ more → IsMet facts rule one.vals → IsWalked facts rule left → IsWalked facts rule more
walked_more facts rule left more one e m w = record {
  found = w.found;
  done = w.done ++ one ∷ [];
  whole = w.whole ∙ ap (λ z. w.done ++ z) e ∙ sym (append_assoc w.done (one ∷ []) more);
  matches = w.matches;
  met = λ other c. ⊎_elim (λ h. w.met other h) (λ same. subst (λ (n : Assignment). IsMet facts rule n.vals) same m) (Contains-push_cases w.done one other c);
}

pub walked_all : (facts : List Ground) (rule : Rule) (left : List Assignment) → left ≡ [] → IsWalked facts rule left → MeetsRule Const (GroundsOf facts) rule
walked_all facts rule left e w = frontier_met facts rule w.found w.matches (λ one c. w.met one (subst (λ z. Contains z one) (w.whole ∙ ap (λ z. w.done ++ z) e ∙ append-nil w.done) c))
