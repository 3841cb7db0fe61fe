-- Paths of states under changes of the slab.
use Rattle.std.proofs.Common.{◌≡◌, ◌≢◌, ◌⊎◌, ◌∙◌, ℕ, zero, suc, ◌+◌, ◌-◌, ◌<◌, ◌≤◌, List, [], ◌∷◌, ◌++◌, length, take, Option, Some, None, refl, sym, ap, subst, inl, inr, ⊎_elim, arith}
use Rattle.std.specs.Prelude.{Contains, slice_get}
use Rattle.std.proofs.lemmas.List.{length-append, length-take-le, take_all}
use Rattle.std.proofs.lemmas.List.Elements.{Contains-append_left, Contains-append_right}
use Rattle.std.proofs.Math.Seq.{take-append_seam}
use Rattle.slab.specs.Slab.{Slab, get, Updates}
use Rattle.lists.proofs.Members.{contains_here, contains_there, contains_cases, some_injective}
use Rattle.state_path.specs.declared.path.Delta.{Delta}
use Rattle.state_path.specs.Paths.{with_added, added_along, IsPathFrom}

-- ---- keys in order

-- the key before the next one
abbrev pub last_from : Option ℕ → List ℕ → Option ℕ
last_from parent [] = parent
last_from parent (key ∷ keys) = last_from (Some key) keys

last_is_got : (first : ℕ) (keys : List ℕ) → last_from (Some first) keys ≡ slice_get (first ∷ keys) (length keys)
last_is_got first [] = refl
last_is_got first (key ∷ keys) = last_is_got key keys

pub last_is : (keys : List ℕ) → last_from None keys ≡ slice_get keys (length keys - 1)
last_is [] = refl
last_is (first ∷ keys) = let e : length (first ∷ keys) - 1 ≡ length keys = omega arith in rw e (last_is_got first keys)

not_behind : (first : ℕ) (keys : List ℕ) (key : ℕ) → (Contains keys first → ⊥) → (first ≡ key → ⊥) → Contains (keys ++ key ∷ []) first → ⊥
not_behind first [] key once other c = ⊎_elim (λ e. other (sym e)) once (contains_cases key [] first c)
not_behind first (x ∷ keys) key once other c =
    ⊎_elim (λ e. once (subst (λ y. Contains (x ∷ keys) y) e (contains_here x keys))) (λ later. not_behind first keys key (λ h. once (contains_there x keys first h)) other later)
    (contains_cases x (keys ++ key ∷ []) first c)

take_twice : {X : Type 0} (xs : List X) (n m : ℕ) → n ≤ m → take n (take m xs) ≡ take n xs
take_twice xs zero m l = refl
take_twice [] (suc n) zero l = refl
take_twice [] (suc n) (suc m) l = refl
take_twice (x ∷ xs) (suc n) zero l = absurd (omega arith)
take_twice (x ∷ xs) (suc n) (suc m) l = ap (λ ys. x ∷ ys) (take_twice xs n m (omega arith))

module _ {T : Type 0} where
  -- ---- states that stay

  pub same_along : (new old : Slab (Delta T)) (keys : List ℕ) → ((key : ℕ) → Contains keys key → get new key ≡ get old key) → added_along new keys ≡ added_along old keys
  same_along new old [] same = refl
  same_along new old (key ∷ keys) same =
      ap (λ found. with_added found (added_along new keys)) (same key (contains_here key keys))
      ∙ ap (λ later. with_added (get old key) later) (same_along new old keys (λ k c. same k (contains_there key keys k c)))

  pub same_path : (new old : Slab (Delta T)) (parent : Option ℕ) (keys : List ℕ) → ((key : ℕ) → Contains keys key → get new key ≡ get old key) → IsPathFrom old parent keys → IsPathFrom new parent keys
  same_path new old parent [] same path = tt
  same_path new old parent (key ∷ keys) same ((delta, there, grew), once, path) =
      ((delta, same key (contains_here key keys) ∙ there, grew), once, same_path new old (Some key) keys (λ k c. same k (contains_there key keys k c)) path)

  pub has_state : (states : Slab (Delta T)) (parent : Option ℕ) (keys : List ℕ) (key : ℕ) → IsPathFrom states parent keys → Contains keys key → (delta : Delta T) × (get states key ≡ Some delta)
  has_state states parent [] key path c = absurd (omega arith)
  has_state states parent (first ∷ keys) key ((delta, there, _), _, path) c =
      ⊎_elim (λ e. (delta, subst (λ k. get states k ≡ Some delta) e there)) (λ later. has_state states (Some first) keys key path later) (contains_cases first keys key c)

  -- a key without a state stands nowhere on the path
  pub off_path : (states : Slab (Delta T)) (parent : Option ℕ) (keys : List ℕ) (key : ℕ) → IsPathFrom states parent keys → get states key ≡ None → Contains keys key → ⊥
  off_path states parent keys key path vacant c = let (delta, there) = has_state states parent keys key path c in absurd (cc)

  -- ---- what is added, by number

  pub length_along : (states : Slab (Delta T)) (parent : Option ℕ) (keys : List ℕ) → IsPathFrom states parent keys → length (added_along states keys) ≡ length keys
  length_along states parent [] path = refl
  length_along states parent (key ∷ keys) ((delta, there, _), _, path) =
      ap (λ found. length (with_added found (added_along states keys))) there ∙ ap (λ n. suc n) (length_along states (Some key) keys path)

  pub got_along : (states : Slab (Delta T)) (parent : Option ℕ) (keys : List ℕ) (n key : ℕ) (delta : Delta T) → IsPathFrom states parent keys → slice_get keys n ≡ Some key → get states key ≡ Some delta →
      slice_get (added_along states keys) n ≡ Some delta.added
  got_along states parent [] n key delta path at there = absurd (cc)
  got_along states parent (first ∷ keys) zero key delta path at there =
      let e = some_injective first key at in
      ap (λ found. slice_get (with_added found (added_along states keys)) 0) (ap (λ k. get states k) e ∙ there)
  got_along states parent (first ∷ keys) (suc n) key delta ((before, is, _), _, path) at there =
      ap (λ found. slice_get (with_added found (added_along states keys)) (suc n)) is ∙ got_along states (Some first) keys n key delta path at there

  pub none_along : (states : Slab (Delta T)) (parent : Option ℕ) (keys : List ℕ) (n : ℕ) → IsPathFrom states parent keys → slice_get keys n ≡ None → slice_get (added_along states keys) n ≡ None
  none_along states parent [] n path at = refl
  none_along states parent (first ∷ keys) zero path at = absurd (cc)
  none_along states parent (first ∷ keys) (suc n) ((before, is, _), _, path) at =
      ap (λ found. slice_get (with_added found (added_along states keys)) (suc n)) is ∙ none_along states (Some first) keys n path at

  -- ---- one state more

  with_added_more : (found : Option (Delta T)) (xs ys : List T) → with_added found (xs ++ ys) ≡ with_added found xs ++ ys
  with_added_more None xs ys = refl
  with_added_more (Some delta) xs ys = refl

  along_more : (states : Slab (Delta T)) (keys : List ℕ) (key : ℕ) → added_along states (keys ++ key ∷ []) ≡ added_along states keys ++ with_added (get states key) []
  along_more states [] key = refl
  along_more states (first ∷ keys) key =
      ap (λ later. with_added (get states first) later) (along_more states keys key) ∙ with_added_more (get states first) (added_along states keys) (with_added (get states key) [])

  path_more : (states : Slab (Delta T)) (parent : Option ℕ) (keys : List ℕ) (key : ℕ) (delta : Delta T) → IsPathFrom states parent keys → (Contains keys key → ⊥) → get states key ≡ Some delta →
      delta.parent ≡ last_from parent keys → IsPathFrom states parent (keys ++ key ∷ [])
  path_more states parent [] key delta path new there grew = ((delta, there, grew), λ c. absurd (omega arith), tt)
  path_more states parent (first ∷ keys) key delta (is, once, path) new there grew = (
    is,
    not_behind first keys key once (λ e. new (subst (λ k. Contains (first ∷ keys) k) e (contains_here first keys))),
    path_more states (Some first) keys key delta path (λ c. new (contains_there first keys key c)) there grew,
  )

  -- a state under a key that had none, whose parent is the last key
  pub pushed : (old new : Slab (Delta T)) (keys : List ℕ) (key : ℕ) (delta : Delta T) → IsPathFrom old None keys → get old key ≡ None → Updates old new key (Some delta) →
      delta.parent ≡ slice_get keys (length keys - 1) →
      IsPathFrom new None (keys ++ key ∷ []) × (added_along new (keys ++ key ∷ []) ≡ added_along old keys ++ delta.added ∷ [])
  pushed old new keys key delta path vacant updates grew =
      let off = off_path old None keys key path vacant in
      let same : (k : ℕ) → Contains keys k → get new k ≡ get old k = λ k c. updates.others k (λ e. off (subst (λ x. Contains keys x) e c)) in (
        path_more new None keys key delta (same_path new old None keys same path) off updates.changed (grew ∙ sym (last_is keys)),
        along_more new keys key ∙ ap (λ xs. xs ++ with_added (get new key) []) (same_along new old keys same) ∙ ap (λ found. added_along old keys ++ with_added found []) updates.changed,
      )

  -- ---- one state less

  -- the last key stands nowhere before it, and what stands before it is a path
  pub before_last : (states : Slab (Delta T)) (parent : Option ℕ) (keys : List ℕ) (key : ℕ) → IsPathFrom states parent (keys ++ key ∷ []) → IsPathFrom states parent keys × (Contains keys key → ⊥)
  before_last states parent [] key path = (tt, λ c. absurd (omega arith))
  before_last states parent (first ∷ keys) key (is, once, path) =
      let (before, off) = before_last states (Some first) keys key path in (
        (is, λ c. once (Contains-append_left keys (key ∷ []) first c), before),
        λ c. ⊎_elim (λ e. once (subst (λ k. Contains (keys ++ key ∷ []) k) (sym e) (Contains-append_right keys (key ∷ []) key (contains_here key [])))) off (contains_cases first keys key c),
      )

  taken : (xs ys : List T) (n : ℕ) → length xs ≡ n → take n (xs ++ ys) ≡ xs
  taken xs ys n e = subst (λ m. take m (xs ++ ys) ≡ xs) e (take-append_seam xs ys)

  -- the state under the last key is gone
  pub popped : (old new : Slab (Delta T)) (before keys : List ℕ) (key : ℕ) → before ≡ keys ++ key ∷ [] → IsPathFrom old None before → Updates old new key None →
      IsPathFrom new None keys × (added_along new keys ≡ take (length (added_along old before) - 1) (added_along old before))
  popped old new before keys key is path updates =
      let (front, off) = before_last old None keys key (subst (λ all. IsPathFrom old None all) is path) in
      let same : (k : ℕ) → Contains keys k → get new k ≡ get old k = λ k c. updates.others k (λ e. off (subst (λ x. Contains keys x) e c)) in
      let long : length (added_along old before) ≡ length keys + 1 = length_along old None before path ∙ ap (λ all. length all) is ∙ length-append keys (key ∷ []) in
      let few : length (added_along old keys) ≡ length (added_along old before) - 1 = length_along old None keys front ∙ omega arith in (
        same_path new old None keys same front,
        same_along new old keys same
            ∙ sym (taken (added_along old keys) (with_added (get old key) []) (length (added_along old before) - 1) few)
            ∙ ap (λ xs. take (length (added_along old before) - 1) xs) (sym (ap (λ all. added_along old all) is ∙ along_more old keys key)),
      )

  -- ---- many states less

  -- what is left of the first states, of which `end - counter` are still to go behind the first `count`
  abbrev pub left : List T → ℕ → ℕ → ℕ → List T
  left xs count end counter = take (count + (end - counter)) xs

  pub all_left : (xs : List T) (count end : ℕ) → end ≡ length xs → xs ≡ left xs count end count
  all_left xs count end e = sym (take_all (count + (end - count)) xs (omega arith))

  pub one_less : (xs now : List T) (count end counter : ℕ) → end ≡ length xs → count ≤ counter → counter < end → now ≡ left xs count end counter →
      take (length now - 1) now ≡ left xs count end (counter + 1)
  one_less xs now count end counter all low high is =
      let n : count + (end - counter) ≡ suc (count + (end - (counter + 1))) = omega arith in
      let long : length now ≡ count + (end - counter) = ap (λ ys. length ys) is ∙ length-take-le (count + (end - counter)) xs (omega arith) in
      let e : length now - 1 ≡ count + (end - (counter + 1)) = omega arith in
      ap (λ k. take k now) e ∙ ap (λ ys. take (count + (end - (counter + 1))) ys) is ∙ take_twice xs (count + (end - (counter + 1))) (count + (end - counter)) (omega arith)

  pub none_to_go : (xs now : List T) (count end counter : ℕ) → end ≤ counter → now ≡ left xs count end counter → now ≡ take count xs
  none_to_go xs now count end counter past is = let e : count + (end - counter) ≡ count = omega arith in is ∙ ap (λ n. take n xs) e

  -- as a push makes one state more
  pub pushed_on : (old new : Slab (Delta T)) (keys seen room after : List ℕ) (key : ℕ) (delta : Delta T) → IsPathFrom old None keys → get old key ≡ None → Updates old new key (Some delta) →
      seen ≡ keys → delta.parent ≡ slice_get seen (length seen - 1) → room ≡ keys → after ≡ room ++ key ∷ [] →
      IsPathFrom new None after × (added_along new after ≡ added_along old keys ++ delta.added ∷ [])
  pushed_on old new keys seen room after key delta path vacant updates same grew roomy is =
      let (more, adds) = pushed old new keys key delta path vacant updates (subst (λ ks. delta.parent ≡ slice_get ks (length ks - 1)) same grew) in
      let all : keys ++ key ∷ [] ≡ after = sym (is ∙ ap (λ ks. ks ++ key ∷ []) roomy) in
      (subst (λ ks. IsPathFrom new None ks) all more, subst (λ ks. added_along new ks ≡ added_along old keys ++ delta.added ∷ []) all adds)
