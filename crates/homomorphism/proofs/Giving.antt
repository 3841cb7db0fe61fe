-- Values fixed for a search, and what its answer says of a rule.
use Rattle.std.proofs.Common.{◌≡◌, ℕ, ◌+◌, ◌-◌, ◌<◌, ◌≤◌, max, List, [], ◌∷◌, ◌++◌, length, Some, None, Option, refl, sym, ap, ◌∙◌, subst, inr, ⊎_elim, arith, Contains, map, take, drop, slice_get, slice_index_or}
use Rattle.std.proofs.lemmas.Bool.{cases_lt}
use Rattle.std.proofs.lemmas.List.Elements.{Contains-push_cases}
use Rattle.std.proofs.lemmas.Option.{slice_get_within, slice_get-get_or}
use Rattle.std.proofs.lemmas.List.{length-map}
use Rattle.lists.proofs.Members.{got_push, got_before, map_got, some_injective}
use Rattle.lists.proofs.Places.{take_indexed}
use Rattle.meaning_laws.proofs.Carrying.{occurs_below}
use Rattle.meaning.specs.declared.types.Term.{Term}
use Rattle.meaning.specs.declared.types.Term.TheVariants.{Var, Const as Said}
use Rattle.meaning.specs.declared.types.Val.{Val}
use Rattle.meaning.specs.declared.types.Val.TheVariants.{Label}
use Rattle.meaning.specs.declared.types.Atom.{Atom}
use Rattle.meaning.specs.declared.types.Ground.{Ground}
use Rattle.meaning.specs.declared.types.Rule.{Rule}
use Rattle.meaning.specs.Triggers.{bound, terms_bound, IsNumbered}
use Rattle.homomorphism.specs.declared.assignment.Assignment.{Assignment}
use Rattle.homomorphism.specs.Bindings.{at, values_of}
use Rattle.homomorphism.specs.Matches.{IsMatch, NoMatch, AreMatches, AreCovered}
use Rattle.homomorphism.specs.Narrowing.{Gives}
use Rattle.homomorphism.specs.Rules.{AreBodyMatches, IsMet, IsUnmet}
use Rattle.homomorphism.proofs.Binding.{apart}

-- widths
pub terms_apart : (left : List Term) (term : Term) → 1 ≤ length left → term ≡ slice_index_or left 0 term → terms_bound left ≡ max (terms_bound (term ∷ [])) (terms_bound (take (length left - 1) (drop 1 left)))
terms_apart left term l e = ap terms_bound (apart left term l e) ∙ first term (take (length left - 1) (drop 1 left))
  where
    first : (term : Term) (rest : List Term) → terms_bound (term ∷ rest) ≡ max (terms_bound (term ∷ [])) (terms_bound rest)
    first (Var x) rest = omega arith
    first (Said c) rest = omega arith

pub atoms_apart : (left : List Atom) (atom : Atom) → 1 ≤ length left → atom ≡ slice_index_or left 0 atom → bound left ≡ max (terms_bound atom.terms) (bound (take (length left - 1) (drop 1 left)))
atoms_apart left atom l e = ap bound (apart left atom l e)

-- the values, and more variables without
pub record Fills (values : List Val) (width : ℕ) (fixed : List (Option Val)) : Type 0 where
  pub least : length values ≤ length fixed
  pub most : length fixed ≤ max (length values) width
  pub front : (x : ℕ) → x < length values → slice_get fixed x ≡ Some (Some (at values x))
  pub free : (x : ℕ) (v : Val) → length values ≤ x → slice_get fixed x ≡ Some (Some v) → ⊥

pub fills_start : (values : List Val) (width : ℕ) → Fills values width (map Some values)
fills_start values width = record {
  least = let e = length-map values Some in omega arith;
  most = let e = length-map values Some in omega arith;
  front = λ x l. map_got Some values x (at values x) (slice_get-get_or values x (Label 0) l);
  free = λ x v l e. let f = slice_get_within (map Some values) x (Some v) e in let g = length-map values Some in omega arith;
}

pub fills_more : (values : List Val) (width : ℕ) (fixed : List (Option Val)) → length fixed < width → Fills values width fixed → Fills values width (fixed ++ None ∷ [])
fills_more values width fixed l f = record {
  least = let e = length_push fixed in let g = f.least in omega arith;
  most = let e = length_push fixed in omega arith;
  front = λ x less. got_before fixed (None ∷ []) x (let g = f.least in omega arith) ∙ f.front x less;
  free = λ x v more e. ⊎_elim (λ below. f.free x v more (sym (got_before fixed (None ∷ []) x below) ∙ e))
      (λ above. let within = slice_get_within (fixed ++ None ∷ []) x (Some v) e in let g = length_push fixed in
      let same : x ≡ length fixed = omega arith in clash v (sym (got_push fixed None) ∙ ap (slice_get (fixed ++ None ∷ [])) (sym same) ∙ e)) (cases_lt x (length fixed));
}
  where
    length_push : (fixed : List (Option Val)) → length (fixed ++ None ∷ []) ≡ length fixed + 1
    length_push [] = refl
    length_push (x ∷ fixed) = let e = length_push fixed in omega arith

    none_some : (x : Val) → ◌≡◌ {A = Option Val} None (Some x) → ⊥
    none_some x e = cc

    clash : (w : Val) → ◌≡◌ {A = Option (Option Val)} (Some None) (Some (Some w)) → ⊥
    clash w e = none_some w (some_injective None (Some w) e)

pub fills_all : (values : List Val) (width : ℕ) (fixed : List (Option Val)) → width ≤ length fixed → Fills values width fixed → Gives values width fixed
fills_all values width fixed l f = record {
  width_is = let g = f.least in let h = f.most in omega arith;
  sound = λ a ag x less. ag x (at values x) (f.front x less);
  complete = λ a same x v e. ⊎_elim (λ less. same x less ∙ inner (at values x) v (some_injective _ _ (sym (f.front x less) ∙ e))) (λ more. absurd (f.free x v more e)) (cases_lt x (length values));
}
  where
    inner : (v w : Val) → ◌≡◌ {A = Option Val} (Some v) (Some w) → v ≡ w
    inner v w e = some_injective v w e

-- what the search says of the body and of the head
pub body_covered : (rule : Rule) (given : List (Option Val)) → IsNumbered rule → length given ≡ bound rule.body → AreCovered rule.body given
body_covered rule given numbered width x l = inr (numbered.body x (subst (λ n. x < n) width l))

pub body_fits : (rule : Rule) (fixed : List (Option Val)) → Gives [] (bound rule.body) fixed → length fixed ≡ bound rule.body
body_fits rule fixed g = let e = g.width_is in omega arith

pub body_found : (facts : List Ground) (rule : Rule) (fixed : List (Option Val)) (found : List Assignment) → Gives [] (bound rule.body) fixed → AreMatches facts rule.body fixed found → AreBodyMatches facts rule found
body_found facts rule fixed found g m = record {
  width = λ one c. (m.each one c).width ∙ body_fits rule fixed g;
  each = λ one c. (m.each one c).facts_are;
  all = λ a are. subst (λ n. Contains found (record { vals = values_of n a })) (body_fits rule fixed g) (m.all a (g.complete a (λ x l. absurd (omega arith))) are);
  once = m.once;
}

pub head_met : (facts : List Ground) (rule : Rule) (values found : List Val) (fixed : List (Option Val)) → length values ≡ bound rule.body → Gives values (bound rule.head) fixed → IsMatch facts rule.head fixed found → IsMet facts rule values
head_met facts rule values found fixed width g m = (at found, record { agrees = λ x occurs. g.sound (at found) m.agrees x (let l = occurs_below rule.body x occurs in omega arith); head = m.facts_are })

pub head_unmet : (facts : List Ground) (rule : Rule) (values : List Val) (fixed : List (Option Val)) → IsNumbered rule → length values ≡ bound rule.body → Gives values (bound rule.head) fixed → NoMatch facts rule.head fixed → IsUnmet facts rule values
head_unmet facts rule values fixed numbered width g none b ext = none b (g.complete b (λ x l. ext.agrees x (numbered.body x (omega arith)))) ext.head

-- one match more at which the rule is met
pub met_push : (facts : List Ground) (rule : Rule) (found : List Assignment) (i : ℕ) (one : Assignment) → i < length found → one ≡ slice_index_or found i one →
    ((other : Assignment) → Contains (take i found) other → IsMet facts rule other.vals) → IsMet facts rule one.vals → (other : Assignment) → Contains (take (i + 1) found) other → IsMet facts rule other.vals
met_push facts rule found i one l e before now other c =
    ⊎_elim (λ h. before other h) (λ same. subst (λ (n : Assignment). IsMet facts rule n.vals) same now) (Contains-push_cases (take i found) one other (subst (λ z. Contains z other) (take_indexed found i one l e) c))
