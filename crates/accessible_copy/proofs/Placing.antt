-- Where values stand first, as values come and go.
use Rattle.std.proofs.Common.{◌≡◌, ◌↔◌, ℕ, zero, suc, ◌<◌, ◌≤◌, min, List, [], ◌∷◌, ◌++◌, length, take, drop, refl, sym, ap, ◌∙◌, subst, ⊎_elim, arith}
use Rattle.std.specs.Prelude.{◌⊎◌, Contains, Some, Bool, false, IsTrue, slice_get, slice_index, unwrap_or}
use Rattle.std.specs.BTreeMap.{get, is_at}
use Rattle.std.proofs.lemmas.Bool.{cases_lt, false_from_ne_true}
use Rattle.std.proofs.lemmas.Slice.Eq.{bytes_eq-Decides}
use Rattle.std.proofs.lemmas.Map.Text.{is_eq-slice_cmp}
use Rattle.std.proofs.lemmas.List.{take_all, take-append-le, take-append-drop}
use Rattle.std.proofs.lemmas.List.Elements.{Contains-append_left, Contains-push_cases}
use Rattle.lists.proofs.Members.{contains_got, got_push, got_before}
use Rattle.meaning.specs.declared.types.Val.{Val}
use Rattle.meaning.specs.declared.types.Val.TheVariants.{Const, Label}
use Rattle.accessible_copy.specs.declared.first_places.FirstPlaces.{FirstPlaces}
use Rattle.accessible_copy.specs.Places.{AreFirstPlaces, place_in, text_cmp}
use Rattle.accessible_copy.proofs.Lists.{front_got}

pub index_grown : (xs : List ℕ) (k : ℕ) → slice_index (xs ++ 0 ∷ []) k ≡ slice_index xs k
index_grown [] zero = refl
index_grown [] (suc k) = refl
index_grown (x ∷ xs) zero = refl
index_grown (x ∷ xs) (suc k) = index_grown xs k

of_front : (n : ℕ) (values : List Val) (v : Val) → Contains (take n values) v → Contains values v
of_front n values v c = subst (λ l. Contains l v) (take-append-drop n values) (Contains-append_left (take n values) (drop n values) v c)

-- the place of a value that stands here
pub placed : (values : List Val) (place : Val → ℕ) (v : Val) → AreFirstPlaces values place → Contains values v → (place v < length values) × (slice_get values (place v) ≡ Some v)
placed values place v are c = are (length values) v (subst (λ l. Contains l v) (sym (take_all (length values) values (omega arith))) c)

-- places that are the same for all values that stand here
pub placed_as : (values : List Val) (place other : Val → ℕ) → AreFirstPlaces values place → ((v : Val) → Contains values v → other v ≡ place v) → AreFirstPlaces values other
placed_as values place other are same n v c = rw (same v (of_front n values v c)) (are n v c)

pub placed_push : (values : List Val) (val : Val) (place other : Val → ℕ) → AreFirstPlaces values place → ((v : Val) → Contains values v → other v ≡ place v)
    → Contains values val ⊎ (other val ≡ length values) → AreFirstPlaces (values ++ val ∷ []) other
placed_push values val place other are same new n v c = ⊎_elim (λ long. behind long) (λ short. before short) (cases_lt (length values) n)
  where
    old : Contains values v → (other v < length values) × (slice_get (values ++ val ∷ []) (other v) ≡ Some v)
    old h = let (l, e) = placed values place v are h in rw (same v h) (l, got_before values (val ∷ []) (place v) l ∙ e)

    before : n ≤ length values → (other v < n) × (slice_get (values ++ val ∷ []) (other v) ≡ Some v)
    before short =
        let h : Contains (take n values) v = subst (λ l. Contains l v) (take-append-le n values (val ∷ []) short) c in
        let (low, e) = are n v h in
        let there = of_front n values v h in
        let (l, got) = old there in
        let at = same v there in
        (omega arith, got)

    last : val ≡ v → other val ≡ length values → (other v ≡ length values) × (slice_get (values ++ val ∷ []) (other v) ≡ Some v)
    last is at =
        let here : other v ≡ length values = subst (λ (u : Val). other u ≡ length values) is at in
        (here, rw here (got_push values val ∙ ap (λ u. Some u) is))

    behind : length values < n → (other v < n) × (slice_get (values ++ val ∷ []) (other v) ≡ Some v)
    behind long = ⊎_elim (λ h. let (l, got) = old h in (omega arith, got))
        (λ is. ⊎_elim (λ h. let (l, got) = old (subst (λ (u : Val). Contains values u) is h) in (omega arith, got)) (λ at. let (e, got) = last is at in (omega arith, got)) new)
        (Contains-push_cases values val v (of_front n (values ++ val ∷ []) v c))

take_twice : (n m : ℕ) (xs : List Val) → take n (take m xs) ≡ take (min n m) xs
take_twice zero m xs = let e : min 0 m ≡ 0 = omega arith in rw e refl
take_twice (suc n) zero xs = let e : min (suc n) 0 ≡ 0 = omega arith in rw e refl
take_twice (suc n) (suc m) [] = let e : min (suc n) (suc m) ≡ suc (min n m) = omega arith in rw e refl
take_twice (suc n) (suc m) (x ∷ xs) = let e : min (suc n) (suc m) ≡ suc (min n m) = omega arith in rw e (ap (λ l. x ∷ l) (take_twice n m xs))

pub placed_cut : (values : List Val) (place : Val → ℕ) (count : ℕ) → AreFirstPlaces values place → AreFirstPlaces (take count values) place
placed_cut values place count are n v c =
    let h : Contains (take (min n count) values) v = subst (λ l. Contains l v) (take_twice n count values) c in
    let (low, e) = are (min n count) v h in
    (omega arith, front_got count values (place v) v (omega arith) e)

-- a value whose place is before another one stands before that
pub placed_early : (values : List Val) (place : Val → ℕ) (n : ℕ) (v : Val) → AreFirstPlaces values place → slice_get values n ≡ Some v → place v < n → Contains (take n values) v
placed_early values place n v are got low = let (l, e) = placed values place v are (contains_got values n v got) in contains_got (take n values) (place v) v (front_got n values (place v) v low e)

-- a value stands here exactly where its place has it
pub tells : (b : Bool) (values : List Val) (place : Val → ℕ) (v : Val) → AreFirstPlaces values place → (IsTrue b ↔ (slice_get values (place v) ≡ Some v)) → IsTrue b ↔ Contains values v
tells b values place v are iff = ((λ yes. contains_got values (place v) v (iff.0 yes)), (λ c. iff.1 ((placed values place v are c).1)))

-- places of other values stay where that of a constant is set
text_apart : (x y : List ℕ) → (y ≡ x → ⊥) → is_at (text_cmp x) y ≡ false
text_apart x y differ = false_from_ne_true (is_at (text_cmp x) y) (λ t. differ (sym ((bytes_eq-Decides x y).0 (sym (is_eq-slice_cmp x y) ∙ t))))

pub constant_others : (text : List ℕ) (now next : FirstPlaces) → next.labels.items ≡ now.labels.items → ((q : List ℕ) → is_at (text_cmp text) q ≡ false → get text_cmp next.constants q ≡ get text_cmp now.constants q)
    → (other : Val) → (other ≡ Const text → ⊥) → place_in next other ≡ place_in now other
constant_others text now next same kept (Label label) differ = ap (λ l. slice_index l label) same
constant_others text now next same kept (Const other) differ = ap (λ o. unwrap_or o 0) (kept other (text_apart text other (λ e. differ (ap (λ t. Const t) e))))
