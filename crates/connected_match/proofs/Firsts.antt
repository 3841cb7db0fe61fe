-- The table of the first atoms that name variables.
use Rattle.std.proofs.Common.{◌≡◌, ◌⊎◌, ℕ, zero, suc, ◌+◌, ◌<◌, ◌≤◌, min, List, [], ◌∷◌, ◌++◌, length, refl, sym, ap, ◌∙◌, subst, inl, inr, ⊎_elim, arith, take, replicate}
use Rattle.std.specs.Prelude.{Contains, Some, slice_get, slice_set, slice_index_or}
use Rattle.std.proofs.lemmas.Bool.{cases_lt, cases_eq}
use Rattle.std.proofs.lemmas.Option.{slice_get_within}
use Rattle.std.proofs.lemmas.List.{get_or-set_same, get_or-set_other, length-set, length-append, length-replicate, length-take-le, take_more, get_or-replicate}
use Rattle.std.proofs.lemmas.List.Elements.{Contains-append_left, Contains-push, Contains-push_cases}
use Rattle.lists.proofs.Members.{got_push, got_before, some_injective}
use Rattle.lists.proofs.Places.{got_indexed}
use Rattle.meaning.specs.declared.types.Term.{Term}
use Rattle.meaning.specs.declared.types.Term.TheVariants.{Var, Const as Said}
use Rattle.meaning.specs.declared.types.Atom.{Atom}
use Rattle.meaning.specs.Triggers.{terms_bound}
use Rattle.homomorphism.proofs.Binding.{var_is}
use Rattle.connected_match.specs.Chains.{first_of, AreFirsts, AreNoted}

pub noted_none : (place : ℕ) (firsts : List ℕ) → AreNoted [] place firsts firsts
noted_none place firsts = record {
  width_is = refl;
  late = λ x among. absurd (omega (arith, among.1));
  less = λ x. omega arith;
  either = λ x. inl refl;
}

pub noted_said : (terms : List Term) (c : List ℕ) (place : ℕ) (before now : List ℕ) → AreNoted terms place before now → AreNoted (terms ++ Said c ∷ []) place before now
noted_said terms c place before now r = record {
  width_is = r.width_is;
  late = λ x among. ⊎_elim (r.late x) (λ same. absurd (cc)) (Contains-push_cases terms (Said c) (Var x) among);
  less = r.less;
  either = λ x. ⊎_elim inl (λ w. inr (w.0, Contains-append_left terms (Said c ∷ []) (Var x) w.1)) (r.either x);
}

module _ (terms : List Term) (y place : ℕ) (before now : List ℕ) (low : y < length now) (r : AreNoted terms place before now) where
  after : List ℕ
  after = slice_set now y (min (first_of now y) place)

  value : (x : ℕ) → ((x ≡ y) × (first_of after x ≡ min (first_of now x) place)) ⊎ (first_of after x ≡ first_of now x)
  unfolding after
  value x = ⊎_elim
      (λ same. inl (same, subst (λ z. first_of (slice_set now y (min (first_of now y) place)) z ≡ min (first_of now z) place) (sym same) (get_or-set_same now y (min (first_of now y) place) 0 low)))
      (λ apart. inr (get_or-set_other now y x (min (first_of now y) place) 0 apart))
      (cases_eq x y)

  pub noted_variable : AreNoted (terms ++ Var y ∷ []) place before (slice_set now y (min (first_of now y) place))
  unfolding after
  noted_variable = record {
    width_is = length-set now y (min (first_of now y) place) ∙ r.width_is;
    late = λ x among. ⊎_elim
        (λ w. let e = w.1 in omega arith)
        (λ e. ⊎_elim (λ there. let late = r.late x there in omega (arith, e, late))
        (λ same. let f = get_or-set_same now y (min (first_of now y) place) 0 low in let g = var_is y x same in
        let h : first_of (slice_set now y (min (first_of now y) place)) x ≡ min (first_of now y) place = subst (λ z. first_of (slice_set now y (min (first_of now y) place)) z ≡ min (first_of now y) place) g f in omega arith)
        (Contains-push_cases terms (Var y) (Var x) among))
        (value x);
    less = λ x. let old = r.less x in ⊎_elim (λ w. let e = w.1 in omega (arith, old)) (λ e. omega (arith, e, old)) (value x);
    either = λ x. ⊎_elim
        (λ w. ⊎_elim
        (λ below. inr (let e = w.1 in omega (arith, below), subst (λ z. Contains (terms ++ Var y ∷ []) (Var z)) (sym w.0) (Contains-push terms (Var y))))
        (λ above. ⊎_elim (λ old. inl (let e = w.1 in omega (arith, above, old)))
        (λ old. inr (let e = w.1 in let o = old.0 in omega (arith, above), Contains-append_left terms (Var y ∷ []) (Var x) old.1)) (r.either x))
        (cases_lt place (first_of now x)))
        (λ e. ⊎_elim (λ old. inl (e ∙ old)) (λ old. inr (e ∙ old.0, Contains-append_left terms (Var y ∷ []) (Var x) old.1)) (r.either x))
        (value x);
  }

pub firsts_more : (atoms : List Atom) (atom : Atom) (end width : ℕ) (before after : List ℕ) → AreFirsts atoms end width before → AreNoted atom.terms (length atoms) before after →
    AreFirsts (atoms ++ atom ∷ []) end width after
firsts_more atoms atom end width before after r n = record {
  width_is = n.width_is ∙ r.width_is;
  first = λ k x one got there. ⊎_elim
      (λ low. let less = n.less x in let earlier = r.first k x one (sym (got_before atoms (atom ∷ []) k low) ∙ got) there in omega (arith, less, earlier))
      (λ past. let within = slice_get_within (atoms ++ atom ∷ []) k one got in let long = length-append atoms (atom ∷ []) in let e : k ≡ length atoms = omega (arith, within, past, long) in
      let same : one ≡ atom = some_injective one atom (sym got ∙ ap (slice_get (atoms ++ atom ∷ [])) e ∙ got_push atoms atom) in
      let late = n.late x (subst (λ (t : Atom). Contains t.terms (Var x)) same there) in omega (arith, late, e))
      (cases_lt k (length atoms));
  named = λ x low early. ⊎_elim
      (λ same. let (one, got, there) = r.named x low (omega (arith, early, same)) in
      (one, ap (slice_get (atoms ++ atom ∷ [])) same ∙ got_before atoms (atom ∷ []) (first_of before x) (slice_get_within atoms (first_of before x) one got) ∙ got, there))
      (λ w. (atom, ap (slice_get (atoms ++ atom ∷ [])) w.0 ∙ got_push atoms atom, w.1))
      (n.either x);
}

-- ---- what stands in an iteration

terms_low : (terms : List Term) (k x n : ℕ) → slice_get terms k ≡ Some (Var x) → terms_bound terms ≤ n → x < n
terms_low [] k x n got few = absurd (cc)
terms_low (Var y ∷ terms) zero x n got few = let e : y ≡ x = cc in omega (arith, few, e)
terms_low (Said c ∷ terms) zero x n got few = absurd (unlike c x got)
  where
    unlike : (c : List ℕ) (x : ℕ) → Some (Said c) ≡ Some (Var x) → ⊥
    unlike c x e = cc
terms_low (Var y ∷ terms) (suc k) x n got few = terms_low terms k x n got (omega (arith, few))
terms_low (Said c ∷ terms) (suc k) x n got few = terms_low terms k x n got few

pub variable_below : (terms : List Term) (k : ℕ) (term : Term) (x : ℕ) (before now : List ℕ) → k < length terms → term ≡ slice_index_or terms k term → term ≡ Var x →
    terms_bound terms ≤ length before → length now ≡ length before → x < length now
variable_below terms k term x before now low is var few same =
    let below = terms_low terms k x (length before) (got_indexed terms k term low is ∙ ap Some var) few in omega (arith, below, same)

pub firsts_next : (atoms : List Atom) (k : ℕ) (atom : Atom) (terms : List Term) (end width : ℕ) (before after : List ℕ) → k < length atoms → atom ≡ slice_index_or atoms k atom → terms ≡ atom.terms →
    AreFirsts (take k atoms) end width before → AreNoted terms k before after → AreFirsts (take (k + 1) atoms) end width after
firsts_next atoms k atom terms end width before after low is same are noted =
    let long : length (take k atoms) ≡ k = length-take-le k atoms (omega (arith, low)) in
    subst (λ l. AreFirsts l end width after) (sym (take_more atoms k atom low ∙ ap (λ a. take k atoms ++ a ∷ []) (sym is)))
    (firsts_more (take k atoms) atom end width before after are (subst (λ n. AreNoted atom.terms n before after) (sym long) (subst (λ l. AreNoted l k before after) same noted)))

-- one more term
pub noted_next : (terms : List Term) (k : ℕ) (term : Term) (y place : ℕ) (before now after : List ℕ) → k < length terms → term ≡ slice_index_or terms k term → term ≡ Var y → y < length now →
    after ≡ slice_set now y (min (first_of now y) place) → AreNoted (take k terms) place before now → AreNoted (take (k + 1) terms) place before after
noted_next terms k term y place before now after low is var below set noted =
    subst (λ l. AreNoted l place before after) (sym (take_more terms k term low ∙ ap (λ t. take k terms ++ t ∷ []) (sym is ∙ var)))
    (subst (AreNoted (take k terms ++ Var y ∷ []) place before) (sym set) (noted_variable (take k terms) y place before now below noted))

pub noted_same : (terms : List Term) (k : ℕ) (term : Term) (c : List ℕ) (place : ℕ) (before now : List ℕ) → k < length terms → term ≡ slice_index_or terms k term → term ≡ Said c →
    AreNoted (take k terms) place before now → AreNoted (take (k + 1) terms) place before now
noted_same terms k term c place before now low is said noted =
    subst (λ l. AreNoted l place before now) (sym (take_more terms k term low ∙ ap (λ t. take k terms ++ t ∷ []) (sym is ∙ said))) (noted_said (take k terms) c place before now noted)
