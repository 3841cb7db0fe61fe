-- Variables that occur, one after another.
use Rattle.std.proofs.Common.{◌≡◌, ◌↔◌, ◌⊎◌, ℕ, ◌+◌, ◌-◌, ◌<◌, ◌≤◌, List, ◌∷◌, length, Some, None, Option, sym, ap, ◌∙◌, subst, ⊎_elim, arith, Contains, take, drop, slice_index_or, IsTrue, Bool, true, false}
use Rattle.std.proofs.lemmas.Bool.{cases_lt}
use Rattle.std.proofs.lemmas.Option.{slice_get-get_or}
use Rattle.lists.proofs.Members.{contains_there, contains_cases, some_injective}
use Rattle.meaning.specs.declared.types.Term.TheVariants.{Var}
use Rattle.meaning.specs.declared.types.Val.{Val}
use Rattle.meaning.specs.declared.types.Atom.{Atom}
use Rattle.meaning.specs.declared.types.Rule.{Rule}
use Rattle.meaning.specs.Matching.{OccursIn}
use Rattle.meaning.specs.Triggers.{bound, IsNumbered}
use Rattle.homomorphism.specs.Bindings.{IsBound}
use Rattle.homomorphism.specs.Matches.{AreCovered}
use Rattle.homomorphism.specs.Covering.{AllOccur}
use Rattle.homomorphism.proofs.Binding.{apart}

-- what a test has told, and what an answer says
pub told : {P : Type 0} (b : Bool) → (IsTrue b ↔ P) → b ≡ true → P
told b iff e = iff.0 e

pub denied : {P : Type 0} (b : Bool) → (IsTrue b ↔ P) → b ≡ false → P → ⊥
denied b iff e p = let yes : b ≡ true = iff.1 p in clash (sym yes ∙ e)
  where
    clash : true ≡ false → ⊥
    clash h = cc

occurs_else : (atom : Atom) (rest : List Atom) (x : ℕ) → (Contains atom.terms (Var x) → ⊥) → OccursIn (atom ∷ rest) x → OccursIn rest x
occurs_else atom rest x not (one, among, c) =
    ⊎_elim (λ e. absurd (not (subst (λ (t : Atom). Contains t.terms (Var x)) (sym e) c))) (λ h. (one, h, c)) (contains_cases atom rest one among)

-- an atom that is passed
pub occurs_rest : (atoms left : List Atom) (atom : Atom) (x : ℕ) → 1 ≤ length left → atom ≡ slice_index_or left 0 atom → (Contains atom.terms (Var x) → ⊥) →
    (OccursIn atoms x ↔ OccursIn left x) → OccursIn atoms x ↔ OccursIn (take (length left - 1) (drop 1 left)) x
occurs_rest atoms left atom x l e not before = (
  (λ o. occurs_else atom (take (length left - 1) (drop 1 left)) x not (subst (λ z. OccursIn z x) (apart left atom l e) (before.0 o))),
  (λ (one, among, c). before.1 (subst (λ z. OccursIn z x) (sym (apart left atom l e)) (one, contains_there atom (take (length left - 1) (drop 1 left)) one among, c))),
)

pub all_more : (atoms : List Atom) (start v : ℕ) → AllOccur atoms start v → OccursIn atoms v → AllOccur atoms start (v + 1)
all_more atoms start v before here x s l =
    ⊎_elim (λ h. before x s h) (λ h. let same : v ≡ x = omega arith in subst (λ z. OccursIn atoms z) same here) (cases_lt x v)

pub numbered_is : (rule : Rule) (body head : List Atom) (n m : ℕ) → body ≡ rule.body → head ≡ rule.head → n ≡ bound body → m ≡ bound head → IsNumbered rule ↔ (AllOccur body 0 n × AllOccur head n m)
numbered_is rule body head n m e f g h = rw e (rw f (rw h (rw g (rw e (rw f whole)))))
  where
    whole : IsNumbered rule ↔ (AllOccur rule.body 0 (bound rule.body) × AllOccur rule.head (bound rule.body) (bound rule.head))
    whole = (
      (λ is. ((λ x s l. is.body x l), (λ x s l. is.head x l s))),
      (λ (first, second). record { body = λ x l. first x (omega arith) l; head = λ x l s. second x s l }),
    )

pub bound_some : (given : List (Option Val)) (x : ℕ) (r : Option Val) (v : Val) → x < length given → r ≡ slice_index_or given x r → r ≡ Some v → IsBound given x
bound_some given x r v l e f = (v, slice_get-get_or given x r l ∙ ap Some (sym e ∙ f))

pub bound_none : (given : List (Option Val)) (x : ℕ) (r : Option Val) → x < length given → r ≡ slice_index_or given x r → r ≡ None → IsBound given x → ⊥
bound_none given x r l e f (v, g) = clash (some_injective None (Some v) (ap Some (sym f ∙ e) ∙ sym (slice_get-get_or given x r l) ∙ g))
  where
    clash : ◌≡◌ {A = Option Val} None (Some v) → ⊥
    clash h = cc

pub covered_more : (P : ℕ → Type 0) (v : ℕ) → ((x : ℕ) → x < v → P x) → P v → (x : ℕ) → x < v + 1 → P x
covered_more P v before here x l =
    ⊎_elim (λ h. before x h) (λ h. let same : v ≡ x = omega arith in subst P same here) (cases_lt x v)

-- the variables of the list that is given
module _ (atoms items : List Atom) (fixed given : List (Option Val)) (e : given ≡ fixed) (f : items ≡ atoms) where
  pub not_covered : (x : ℕ) → x < length given → (IsBound given x ⊎ OccursIn items x → ⊥) → AreCovered atoms fixed → ⊥
  not_covered x l not covered =
      not (subst (λ z. IsBound z x ⊎ OccursIn items x) (sym e) (subst (λ z. IsBound fixed x ⊎ OccursIn z x) (sym f) (covered x (subst (λ z. x < length z) e l))))

pub all_covered : (atoms : List Atom) (fixed given : List (Option Val)) (n : ℕ) → given ≡ fixed → length given ≤ n → ((x : ℕ) → x < n → IsBound given x ⊎ OccursIn atoms x) → AreCovered atoms fixed
all_covered atoms fixed given n e l all x less =
    subst (λ z. IsBound z x ⊎ OccursIn atoms x) e (all x (let same : x < length given = subst (λ z. x < length z) (sym e) less in omega arith))
