-- The table of levels: what raising entries keeps, and why a table that no rule raises has the levels.
use Rattle.std.proofs.Common.{◌≡◌, ◌+◌, ◌-◌, ◌*◌, ◌∙◌, ◌<◌, ◌≤◌, max, ℕ, Bool, true, false, zero, suc, List, [], ◌∷◌, ◌++◌, length, get_or, replicate, take, drop, refl, sym, ap, subst, inl, inr, ⊎_elim, arith}
use Rattle.std.specs.Prelude.{Contains, sum, slice_index, slice_set}
use Rattle.std.proofs.lemmas.Bool.{cases_eq, cases_lt}
use Rattle.std.proofs.lemmas.List.{get_or-set_same, get_or-set_other, drop_all}
use Rattle.std.proofs.lemmas.List.Elements.{Contains-push, Contains-push_cases, Contains-append_left}
use Rattle.std.proofs.lemmas.List.Sums.{sum_by-set, sum_by-le}
use Rattle.lists.proofs.Members.{contains_here, contains_there, contains_cases}
use Rattle.meaning.specs.declared.types.Atom.{Atom}
use Rattle.meaning.specs.declared.types.Rule.{Rule}
use Rattle.meaning.specs.RuleOrder.{IsFed, IsLevel}
use Rattle.rule_pass.specs.Levels.{AreBelow, RulesAreBelow, AreReached, AreShort, Rise, Raises, greatest_level}

pub below_more : (count width : ℕ) (done : List Atom) (atom : Atom) → AreBelow count done → count ≤ width → atom.rel < width → AreBelow width (done ++ atom ∷ [])
below_more count width done atom below wide fits other among =
    ⊎_elim (λ h. let l = below other h in omega arith) (λ same. subst (λ (a : Atom). a.rel < width) same fits) (Contains-push_cases done atom other among)

pub rules_below_more : (count width body head : ℕ) (done : List Rule) (rule : Rule) → RulesAreBelow count done → count ≤ width → AreBelow body rule.body → body ≤ width → AreBelow head rule.head → head ≤ width
    → RulesAreBelow width (done ++ rule ∷ [])
rules_below_more count width body head done rule below wide in_body body_wide in_head head_wide other among =
    ⊎_elim (λ h. let both = below other h in ((λ atom c. let l = both.0 atom c in omega arith), (λ atom c. let l = both.1 atom c in omega arith)))
    (λ same. subst (λ (r : Rule). AreBelow width r.body × AreBelow width r.head) same ((λ atom c. let l = in_body atom c in omega arith), (λ atom c. let l = in_head atom c in omega arith)))
    (Contains-push_cases done rule other among)

-- the greatest entry at the relations of atoms
pub level_below : (levels : List ℕ) (atoms : List Atom) (atom : Atom) → Contains atoms atom → slice_index levels atom.rel ≤ greatest_level levels atoms
level_below levels [] atom among = absurd (omega arith)
level_below levels (first ∷ atoms) atom among =
    ⊎_elim (λ same. subst (λ (a : Atom). slice_index levels a.rel ≤ greatest_level levels (first ∷ atoms)) same (omega arith))
    (λ h. let l = level_below levels atoms atom h in omega arith) (contains_cases first atoms atom among)

pub level_push : (levels : List ℕ) (atoms : List Atom) (last : Atom) → greatest_level levels (atoms ++ last ∷ []) ≡ max (greatest_level levels atoms) (slice_index levels last.rel)
level_push levels [] last = omega arith
level_push levels (atom ∷ atoms) last = omega (arith, level_push levels atoms last)

pub level_found : (levels : List ℕ) (first : Atom) (atoms : List Atom) → (atom : Atom) × Contains (first ∷ atoms) atom × (slice_index levels atom.rel ≡ greatest_level levels (first ∷ atoms))
level_found levels first [] = (first, contains_here first [], omega arith)
level_found levels first (next ∷ atoms) =
    let (atom, among, is) = level_found levels next atoms in
    ⊎_elim (λ less. (atom, contains_there first (next ∷ atoms) atom among, omega arith)) (λ more. (first, contains_here first (next ∷ atoms), omega arith))
    (cases_lt (slice_index levels first.rel) (greatest_level levels (next ∷ atoms)))

pub greatest_fed : (rules : List Rule) (levels : List ℕ) (rule : Rule) (atoms : List Atom) → 1 ≤ length atoms → AreReached rules levels
    → (atom : Atom) × Contains atoms atom × IsFed rules atom.rel (greatest_level levels atoms)
greatest_fed rules levels rule [] some reached = absurd (omega arith)
greatest_fed rules levels rule (first ∷ atoms) some reached =
    let (atom, among, is) = level_found levels first atoms in (atom, among, subst (IsFed rules atom.rel) is (reached atom.rel))

-- raising entries
pub raises_none : (least : ℕ) (old : List ℕ) → Raises [] least old old
raises_none least old = record { high = λ atom among. absurd (omega arith); grown = λ rel. omega arith; only = λ rel. inl refl }

pub raises_over : (done : List Atom) (atom : Atom) (least : ℕ) (old now : List ℕ) → least ≤ slice_index now atom.rel → Raises done least old now → Raises (done ++ atom ∷ []) least old now
raises_over done atom least old now high r = record {
  high = λ other among. ⊎_elim (λ h. r.high other h) (λ same. subst (λ (a : Atom). least ≤ slice_index now a.rel) same high) (Contains-push_cases done atom other among);
  grown = r.grown;
  only = λ rel. ⊎_elim inl (λ (e, (other, among, is)). inr (e, (other, Contains-append_left done (atom ∷ []) other among, is))) (r.only rel);
}

pub raises_more : (done : List Atom) (atom : Atom) (least : ℕ) (old now : List ℕ) → atom.rel < length now → slice_index now atom.rel < least → Raises done least old now
    → Raises (done ++ atom ∷ []) least old (slice_set now atom.rel least)
raises_more done atom least old now fits low r = record {
  high = λ other among. ⊎_elim
      (λ h. let a = r.high other h in let b = grown other.rel in omega arith)
      (λ same. subst (λ (a : Atom). least ≤ slice_index (slice_set now atom.rel least) a.rel) same (omega (arith, here)))
      (Contains-push_cases done atom other among);
  grown = λ rel. let a = r.grown rel in let b = grown rel in omega arith;
  only = λ rel. ⊎_elim
      (λ same. inr (subst (λ x. slice_index (slice_set now atom.rel least) x ≡ least) (sym same) here, (atom, Contains-push done atom, sym same)))
      (λ differs. ⊎_elim
      (λ e. inl (get_or-set_other now atom.rel rel least 0 differs ∙ e))
      (λ (e, (other, among, is)). inr (get_or-set_other now atom.rel rel least 0 differs ∙ e, (other, Contains-append_left done (atom ∷ []) other among, is)))
      (r.only rel))
      (cases_eq rel atom.rel);
}
  where
    here : slice_index (slice_set now atom.rel least) atom.rel ≡ least
    here = get_or-set_same now atom.rel least 0 fits

    grown : (rel : ℕ) → slice_index now rel ≤ slice_index (slice_set now atom.rel least) rel
    grown rel = ⊎_elim (λ same. subst (λ x. slice_index now x ≤ slice_index (slice_set now atom.rel least) x) (sym same) (omega (arith, here)))
        (λ differs. omega (arith, get_or-set_other now atom.rel rel least 0 differs)) (cases_eq rel atom.rel)

pub sum_rises : (now : List ℕ) (place least : ℕ) → place < length now → slice_index now place < least → sum now < sum (slice_set now place least)
sum_rises now place least fits low = let e = sum_by-set (λ n. n) now place least 0 fits in omega arith

pub sum_kept : (rose : Bool) (old now : List ℕ) → (rose ≡ true → sum old < sum now) → (rose ≡ false → now ≡ old) → sum old ≤ sum now
sum_kept true old now rises stays = let l = rises refl in omega arith
sum_kept false old now rises stays = omega (arith, ap sum (stays refl))

-- a rule whose head is raised above its body
pub reached_more : (rules : List Rule) (rule : Rule) (old new : List ℕ) → Contains rules rule → 1 ≤ length rule.body → AreReached rules old
    → Raises rule.head (greatest_level old rule.body + 1) old new → AreReached rules new
reached_more rules rule old new among some reached r rel = ⊎_elim
    (λ same. subst (IsFed rules rel) (sym same) (reached rel))
    (λ (raised, (head, in_head, makes)).
    let (body, in_body, fed) = greatest_fed rules old rule rule.body some reached in
    let longer : IsFed rules rel (suc (greatest_level old rule.body)) = (
      body.rel,
      record { rule = rule; body = body; head = head; of_rules = among; in_body = in_body; in_head = in_head; reads = refl; makes = makes },
      fed,
    ) in
    subst (IsFed rules rel) (one_more (greatest_level old rule.body) ∙ sym raised) longer)
    (r.only rel)
  where
    one_more : (n : ℕ) → suc n ≡ n + 1
    one_more n = omega arith

pub rise_more : (done : List Rule) (rule : Rule) (levels : List ℕ) → Raises rule.head (greatest_level levels rule.body + 1) levels levels → Rise done levels → Rise (done ++ rule ∷ []) levels
rise_more done rule levels r rise other body head among in_body in_head = ⊎_elim
    (λ h. rise other body head h in_body in_head)
    (λ same.
    let low = level_below levels rule.body body (subst (λ (x : Rule). Contains x.body body) (sym same) in_body) in
    let high = r.high head (subst (λ (x : Rule). Contains x.head head) (sym same) in_head) in
    omega arith)
    (Contains-push_cases done rule other among)

-- the levels are few
pub few_steps : (rules : List Rule) (levels : List ℕ) (atoms : List Atom) → 1 ≤ length atoms → AreShort rules → AreReached rules levels → greatest_level levels atoms ≤ length rules
few_steps rules levels [] some short reached = absurd (omega arith)
few_steps rules levels (first ∷ atoms) some short reached =
    let (atom, among, is) = level_found levels first atoms in let l = short atom.rel (slice_index levels atom.rel) (reached atom.rel) in omega arith

pub sum_most : (rules : List Rule) (levels : List ℕ) → AreShort rules → AreReached rules levels → sum levels ≤ length levels * length rules
sum_most rules levels short reached = sum_by-le (λ n. n) (length rules) levels (λ k d l. subst (λ n. n ≤ length rules) (sym (default levels k d 0 l)) (short k (slice_index levels k) (reached k)))
  where
    default : (xs : List ℕ) (i d e : ℕ) → i < length xs → get_or xs i d ≡ get_or xs i e
    default [] i d e l = absurd (omega arith)
    default (x ∷ xs) zero d e l = refl
    default (x ∷ xs) (suc i) d e l = default xs i d e (omega arith)

pub falls : (rules : List Rule) (old new : List ℕ) → length new ≡ length old → AreShort rules → AreReached rules new → sum old < sum new → length new * length rules - sum new < length old * length rules - sum old
falls rules old new same short reached rises =
    let most : sum new ≤ length old * length rules = subst (λ n. sum new ≤ n * length rules) same (sum_most rules new short reached) in
    subst (λ n. n * length rules - sum new < length old * length rules - sum old) (sym same) (less (length old * length rules) (sum old) (sum new) most rises)
  where
    less : (all low high : ℕ) → high ≤ all → low < high → all - high < all - low
    less all low high most rises = omega arith

pub reached_none : (rules : List Rule) (width : ℕ) → AreReached rules (replicate width 0)
reached_none rules width rel = subst (IsFed rules rel) (sym (nothing width rel)) tt
  where
    nothing : (width rel : ℕ) → get_or {A = ℕ} (replicate width 0) rel 0 ≡ 0
    nothing zero rel = refl
    nothing (suc width) zero = refl
    nothing (suc width) (suc rel) = nothing width rel

-- a whole list that is written back
pub written : (long : ℕ) (new old : List ℕ) → length new ≡ length old → length old ≡ long → take long (new ++ drop (length new) old) ≡ new
written long new old same is = rw same (rw (drop_all (length old) old (omega arith)) (append_nil_take long new (omega arith)))
  where
    append_nil_take : (long : ℕ) (xs : List ℕ) → length xs ≤ long → take long (xs ++ []) ≡ xs
    append_nil_take zero [] l = refl
    append_nil_take (suc long) [] l = refl
    append_nil_take zero (x ∷ xs) l = absurd (omega arith)
    append_nil_take (suc long) (x ∷ xs) l = ap (λ z. x ∷ z) (append_nil_take long xs (omega arith))

-- entries that are reached and that rise along each rule are the levels
pub levels_are : (rules : List Rule) (levels : List ℕ) → AreReached rules levels → Rise rules levels → (rel : ℕ) → IsLevel rules rel (slice_index levels rel)
levels_are rules levels reached rise rel = record { reached = reached rel; greatest = λ n fed. below n rel fed }
  where
    below : (n rel : ℕ) → IsFed rules rel n → n ≤ slice_index levels rel
    below zero rel fed = omega arith
    below (suc n) rel (source, f, fed) =
        let low : n ≤ slice_index levels source = below n source fed in
        let up : slice_index levels f.body.rel < slice_index levels f.head.rel = rise f.rule f.body f.head f.of_rules f.in_body f.in_head in
        omega (arith, ap (slice_index levels) f.reads, ap (slice_index levels) f.makes)
