-- Matches of one atom after another.
use Rattle.std.proofs.Common.{◌≡◌, ℕ, ◌-◌, ◌<◌, ◌≤◌, max, List, [], ◌∷◌, ◌++◌, length, Some, Option, sym, ◌∙◌, subst, inl, inr, ⊎_elim, arith, Contains, map, take, slice_index_or, drop}
use Rattle.std.proofs.lemmas.List.{ext_get_or, length-map}
use Rattle.std.proofs.lemmas.List.FromFn.{length-map-range_with_len, get_or-map-range_with_len}
use Rattle.std.proofs.lemmas.List.Elements.{Contains-append_left, Contains-append_right, Contains-append_cases, Contains-push, Contains-push_cases}
use Rattle.std.proofs.lemmas.Option.{get_or_from_slice_get}
use Rattle.lists.proofs.Members.{contains_here, contains_there, contains_cases, map_got, contains_none}
use Rattle.meaning.specs.declared.types.Term.TheVariants.{Var}
use Rattle.meaning.specs.declared.types.Val.{Val}
use Rattle.meaning.specs.declared.types.Val.TheVariants.{Const, Label}
use Rattle.meaning.specs.declared.types.Atom.{Atom}
use Rattle.meaning.specs.declared.types.Ground.{Ground}
use Rattle.meaning.specs.Matching.{AreFacts, GroundsOf}
use Rattle.meaning.specs.Triggers.{ground, bound, terms_bound}
use Rattle.meaning.specs.Search.{AreDistinct}
use Rattle.homomorphism.specs.declared.assignment.Assignment.{Assignment}
use Rattle.homomorphism.specs.Bindings.{Agrees, IsBound, at, values_of}
use Rattle.homomorphism.specs.Narrowing.{value_or_none}
use Rattle.homomorphism.specs.Ways.{AreApart, AreWays}
use Rattle.homomorphism.specs.Matches.{IsMatch, AreMatches, AreCovered}
use Rattle.homomorphism.specs.Widening.{Widens}
use Rattle.homomorphism.proofs.Extending.{wider}
use Rattle.homomorphism.proofs.Members.{distinct_append}
use Rattle.homomorphism.proofs.Ways.{apart_take}
use Rattle.homomorphism.proofs.Binding.{apart}

pub values_agree : (given : List (Option Val)) → Agrees given (at (map value_or_none given))
values_agree given x v e = get_or_from_slice_get (map value_or_none given) x v (Label 0) (map_got value_or_none given x (Some v) e)

-- no atoms
pub match_none : (facts : List Ground) (given : List (Option Val)) (values : List Val) → values ≡ map value_or_none given → IsMatch facts [] given values
match_none facts given values e = subst (IsMatch facts [] given) (sym e) (record {
  width = length-map given value_or_none;
  agrees = values_agree given;
  facts_are = λ atom c. absurd (contains_none atom c);
})

-- values that were found, as a list
pub match_of : (facts : List Ground) (atoms : List Atom) (given found : List (Option Val)) (values : List Val) → Widens facts atoms given found → values ≡ map value_or_none found → IsMatch facts atoms given values
match_of facts atoms given found values w e = subst (IsMatch facts atoms given) (sym e) (record {
  width = length-map found value_or_none ∙ w.width;
  agrees = wider given found w.kept (at (map value_or_none found)) (values_agree found);
  facts_are = w.sound (at (map value_or_none found)) (values_agree found);
})

-- an assignment is its values
pub assignment_is : (m : Assignment) (values : List Val) → m.vals ≡ values → m ≡ record { vals = values }
assignment_is m values e = λ i. record { vals = e i }

pub matches_none : (facts : List Ground) (given : List (Option Val)) (m : Assignment) → AreCovered [] given → m.vals ≡ map value_or_none given → AreMatches facts [] given (m ∷ [])
matches_none facts given m covered e = record {
  each = λ other c. ⊎_elim (λ f. subst (λ (n : Assignment). IsMatch facts [] given n.vals) f (match_none facts given m.vals e)) (λ h. absurd (contains_none other h)) (contains_cases m [] other c);
  all = λ a ag are. (0, omega arith, assignment_is m (values_of (length given) a) (e ∙ sym (same a ag)));
  once = ((λ c. contains_none m c), tt);
}
  where
    bound_at : (x : ℕ) → x < length given → IsBound given x
    bound_at x l = ⊎_elim (λ b. b) (λ (atom, among, o). absurd (contains_none atom among)) (covered x l)

    same : (a : ℕ → Val) → Agrees given a → values_of (length given) a ≡ map value_or_none given
    same a ag = ext_get_or (Label 0) (values_of (length given) a) (map value_or_none given) (length-map-range_with_len a 0 (length given) ∙ sym (length-map given value_or_none))
        (λ x l. let within : x < length given = subst (λ n. x < n) (length-map-range_with_len a 0 (length given)) l in
        let (v, got) = bound_at x within in
        get_or-map-range_with_len a 0 (length given) x x (Label 0) within (omega arith) ∙ ag x v got ∙ sym (values_agree given x v got))

-- one atom more
module _ (facts : List Ground) (atom : Atom) (rest : List Atom) (given : List (Option Val)) (ways : List (List (Option Val))) (r : AreWays facts atom given ways) where
  pub match_more : (way : List (Option Val)) (values : List Val) → Contains ways way → IsMatch facts rest way values → IsMatch facts (atom ∷ rest) given values
  match_more way values c m = record {
    width = m.width ∙ r.width way c;
    agrees = r.wider way (at values) c m.agrees;
    facts_are = λ other among. ⊎_elim (λ e. subst (λ (t : Atom). Contains facts (ground (at values) t)) e (r.sound way (at values) c m.agrees)) (λ h. m.facts_are other h) (contains_cases atom rest other among);
  }

  pub fits_more : (way : List (Option Val)) → Contains ways way → bound (atom ∷ rest) ≤ length given → bound rest ≤ length way
  fits_more way c l = let e : length way ≡ length given = r.width way c in let f : max (terms_bound atom.terms) (bound rest) ≤ length given = l in omega arith

  pub covered_more : (way : List (Option Val)) → Contains ways way → AreCovered (atom ∷ rest) given → AreCovered rest way
  covered_more way c covered x l = ⊎_elim (λ b. inl (r.covers way x c (inl b)))
      (λ (other, among, o). ⊎_elim (λ e. inl (r.covers way x c (inr (atom, contains_here atom [], subst (λ (t : Atom). Contains t.terms (Var x)) (sym e) o)))) (λ h. inr (other, h, o)) (contains_cases atom rest other among))
      (covered x (subst (λ n. x < n) (r.width way c) l))

-- the matches of some of the ways
pub record Collected (facts : List Ground) (rest : List Atom) (given : List (Option Val)) (done : List (List (Option Val))) (found : List Assignment) : Type 0 where
  pub each : (m : Assignment) → Contains found m → (way : List (Option Val)) × Contains done way × IsMatch facts rest way m.vals
  pub all : (way : List (Option Val)) (a : ℕ → Val) → Contains done way → Agrees way a → AreFacts Const (GroundsOf facts) a rest → Contains found (record { vals = values_of (length given) a })
  pub once : AreDistinct found

pub collected_none : (facts : List Ground) (rest : List Atom) (given : List (Option Val)) → Collected facts rest given [] []
collected_none facts rest given = record {
  each = λ m c. absurd (contains_none m c);
  all = λ way a c ag are. absurd (contains_none way c);
  once = tt;
}

pub collected_all : (facts : List Ground) (atom : Atom) (rest : List Atom) (given : List (Option Val)) (ways : List (List (Option Val))) (found : List Assignment) → AreWays facts atom given ways → Collected facts rest given ways found → AreMatches facts (atom ∷ rest) given found
collected_all facts atom rest given ways found r z = record {
  each = λ m c. let (way, among, is) = z.each m c in match_more facts atom rest given ways r way m.vals among is;
  all = λ a ag are. let (way, among, bg) = r.complete a ag (are atom (contains_here atom rest)) in z.all way a among bg (λ other h. are other (contains_there atom rest other h));
  once = z.once;
}

-- one turn of the loop over the ways
pub turn_collect : (facts : List Ground) (rest : List Atom) (given : List (Option Val)) (ways done : List (List (Option Val))) (way : List (Option Val)) (found more : List Assignment) →
    done ≡ take (length done) ways → length done < length ways → way ≡ slice_index_or ways (length done) way → AreApart ways → length way ≡ length given →
    Collected facts rest given done found → AreMatches facts rest way more → Collected facts rest given (done ++ way ∷ []) (found ++ more)
turn_collect facts rest given ways done way found more front l is apart width z m = record {
  each = λ one c. ⊎_elim (λ h. let (w, among, n) = z.each one h in (w, Contains-append_left done (way ∷ []) w among, n)) (λ h. (way, Contains-push done way, m.each one h)) (Contains-append_cases found more one c);
  all = λ w a c ag are. ⊎_elim (λ h. Contains-append_left found more (record { vals = values_of (length given) a }) (z.all w a h ag are))
      (λ e. Contains-append_right found more (record { vals = values_of (length given) a }) (subst (λ n. Contains more (record { vals = values_of n a })) width (m.all a (subst (λ v. Agrees v a) (sym e) ag) are))) (Contains-push_cases done way w c);
  once = distinct_append found more z.once m.once (λ one c d. let (w, among, n) = z.each one c in apart_take ways (length done) way apart l is w (subst (λ ws. Contains ws w) front among) (at one.vals) n.agrees (m.each one d).agrees);
}

-- matches of the ways so far, behind what was there
abbrev pub Gathered : List Ground → List Atom → List (Option Val) → List (List (Option Val)) → List Assignment → List Assignment → Type 0
Gathered facts rest given done before now = (matches : List Assignment) × (now ≡ before ++ matches) × Collected facts rest given done matches

-- a slice of atoms taken apart by a pattern
module _ (facts : List Ground) (atoms : List Atom) (atom : Atom) (given : List (Option Val)) (ways : List (List (Option Val))) (l : 1 ≤ length atoms) (is : atom ≡ slice_index_or atoms 0 atom) (r : AreWays facts atom given ways) where
  abbrev rest : List Atom
  rest = take (length atoms - 1) (drop 1 atoms)

  split : atoms ≡ atom ∷ rest
  split = apart atoms atom l is

  pub matches_at : (found : List Assignment) → Collected facts (take (length atoms - 1) (drop 1 atoms)) given ways found → AreMatches facts atoms given found
  matches_at found z = subst (λ z. AreMatches facts z given found) (sym split) (collected_all facts atom rest given ways found r z)

  pub fits_at : (way : List (Option Val)) → Contains ways way → bound atoms ≤ length given → bound (take (length atoms - 1) (drop 1 atoms)) ≤ length way
  fits_at way c f = fits_more facts atom rest given ways r way c (subst (λ z. bound z ≤ length given) split f)

  pub covered_at : (way : List (Option Val)) → Contains ways way → AreCovered atoms given → AreCovered (take (length atoms - 1) (drop 1 atoms)) way
  covered_at way c f = covered_more facts atom rest given ways r way c (subst (λ z. AreCovered z given) split f)

pub atom_fits : (atoms : List Atom) (atom : Atom) (n : ℕ) → 1 ≤ length atoms → atom ≡ slice_index_or atoms 0 atom → bound atoms ≤ n → terms_bound atom.terms ≤ n
atom_fits atoms atom n l is f =
    let g : bound (atom ∷ take (length atoms - 1) (drop 1 atoms)) ≤ n = subst (λ z. bound z ≤ n) (apart atoms atom l is) f in
    let h : max (terms_bound atom.terms) (bound (take (length atoms - 1) (drop 1 atoms))) ≤ n = g in omega arith

pub is_among : {X : Type 0} (xs : List X) (i : ℕ) (x : X) → i < length xs → x ≡ slice_index_or xs i x → Contains xs x
is_among xs i x l e = (i, l, sym e)
