-- Requests that are asked behind others, each once.
use Rattle.std.proofs.Common.{◌≡◌, ◌↔◌, ◌⊎◌, List, [], ◌∷◌, ◌++◌, Bool, true, false, ◌&&◌, cond, nat_eq, refl, sym, subst, append_assoc, inl, inr, ⊎_elim, arith}
use Rattle.std.specs.Prelude.{Contains}
use Rattle.std.specs.Cmp.Lexicographic.{pointwise, nat_list_eq_equiv}
use Rattle.std.proofs.lemmas.Bool.{both_ways}
use Rattle.std.proofs.lemmas.Bool.Decides.{nat_tests}
use Rattle.std.proofs.lemmas.List.{append-nil}
use Rattle.std.proofs.lemmas.List.Elements.{Contains-append_left, Contains-push, Contains-push_cases}
use Rattle.lists.proofs.Members.{contains_here, contains_there, contains_cases, contains_none}
use Rattle.lists.proofs.Booleans.{both_true, and_true, one_true, both_false}
use Rattle.lists.proofs.Orders.{text_is, rows_equiv, rows_same_equal}
use Rattle.meaning.specs.declared.types.Request.{Request}
use Rattle.meaning.specs.Search.{AreDistinct}
use Rattle.shared_rounds.specs.SharedRounds.{same_request, is_asked, Once, to_ask}

-- ---- the test of requests

pub request_is : (first second : Request) → same_request first second ≡ true → first ≡ second
request_is first second same =
    let outer = both_true (nat_eq first.rel second.rel) (pointwise nat_eq first.positions second.positions && pointwise (pointwise nat_eq) first.values second.values) same in
    let inner = both_true (pointwise nat_eq first.positions second.positions) (pointwise (pointwise nat_eq) first.values second.values) outer.1 in
    let rel : first.rel ≡ second.rel = grind (arith, nat_tests, outer.0) in
    let positions : first.positions ≡ second.positions = text_is first.positions second.positions inner.0 in
    let values : first.values ≡ second.values = rows_same_equal first.values second.values inner.1 in
    (λ i. record { rel = rel i; positions = positions i; values = values i })

pub request_self : (request : Request) → same_request request request ≡ true
request_self request =
    let rel : nat_eq request.rel request.rel ≡ true = grind (arith, nat_tests) in
    and_true (nat_eq request.rel request.rel) (pointwise nat_eq request.positions request.positions && pointwise (pointwise nat_eq) request.values request.values) rel
    (and_true (pointwise nat_eq request.positions request.positions) (pointwise (pointwise nat_eq) request.values request.values)
    (nat_list_eq_equiv.refl request.positions) (rows_equiv.refl request.values))

pub asked_in : (list : List Request) (request : Request) → is_asked list request ≡ true → Contains list request
asked_in [] request is = absurd (cc)
asked_in (first ∷ rest) request is = ⊎_elim
    (λ h. subst (λ (r : Request). Contains (first ∷ rest) r) (request_is first request h) (contains_here first rest))
    (λ h. contains_there first rest request (asked_in rest request h))
    (one_true (same_request first request) (is_asked rest request) is)

pub not_in : (list : List Request) (request : Request) → is_asked list request ≡ false → Contains list request → ⊥
not_in [] request is c = contains_none request c
not_in (first ∷ rest) request is c =
    let (here, there) = both_false (same_request first request) (is_asked rest request) is in
    ⊎_elim
    (λ e. both_ways (same_request first request) here (subst (λ (r : Request). same_request first r ≡ true) e (request_self first)))
    (λ h. not_in rest request there h)
    (contains_cases first rest request c)

-- ---- what is asked behind others

pub distinct_push : {X : Type 0} (xs : List X) (x : X) → AreDistinct xs → (Contains xs x → ⊥) → AreDistinct (xs ++ x ∷ [])
distinct_push [] x d new = (contains_none x, tt)
distinct_push (y ∷ xs) x d new = (
  (λ c. ⊎_elim d.0 (λ e. new (subst (λ z. Contains (y ∷ xs) z) (sym e) (contains_here y xs))) (Contains-push_cases xs x y c)),
  distinct_push xs x d.1 (λ c. new (contains_there y xs x c)),
)

-- what one request more leaves
module _ (P : List Request → Type 0) where
  by_test : (asked requests : List Request) (request : Request)
      → (is_asked asked request ≡ true → P (asked ++ to_ask Once asked requests))
      → (is_asked asked request ≡ false → P ((asked ++ request ∷ []) ++ to_ask Once (asked ++ request ∷ []) requests))
      → P (asked ++ to_ask Once asked (request ∷ requests))
  by_test asked requests request was new = go (is_asked asked request) refl
    where
      go : (b : Bool) → is_asked asked request ≡ b → P (asked ++ cond b (to_ask Once asked requests) (request ∷ to_ask Once (asked ++ request ∷ []) requests))
      go true e = was e
      go false e = subst P (append_assoc asked (request ∷ []) (to_ask Once (asked ++ request ∷ []) requests)) (new e)

pub asked_distinct : (requests asked : List Request) → AreDistinct asked → AreDistinct (asked ++ to_ask Once asked requests)
asked_distinct [] asked d = subst (λ (l : List Request). AreDistinct l) (sym (append-nil asked)) d
asked_distinct (request ∷ requests) asked d = by_test (λ l. AreDistinct l) asked requests request
    (λ e. asked_distinct requests asked d)
    (λ e. asked_distinct requests (asked ++ request ∷ []) (distinct_push asked request d (not_in asked request e)))

pub asked_members : (requests asked : List Request) (r : Request) → Contains (asked ++ to_ask Once asked requests) r ↔ (Contains asked r ⊎ Contains requests r)
asked_members [] asked r = (
  (λ c. inl (subst (λ (l : List Request). Contains l r) (append-nil asked) c)),
  ⊎_elim (λ h. subst (λ (l : List Request). Contains l r) (sym (append-nil asked)) h) (λ h. absurd (contains_none r h)),
)
asked_members (request ∷ requests) asked r = by_test (λ l. Contains l r ↔ (Contains asked r ⊎ Contains (request ∷ requests) r)) asked requests request
    (λ e. let ih = asked_members requests asked r in (
      (λ c. ⊎_elim inl (λ h. inr (contains_there request requests r h)) (ih.0 c)),
      ⊎_elim (λ h. ih.1 (inl h)) (λ h. ⊎_elim
          (λ s. ih.1 (inl (subst (λ (x : Request). Contains asked x) s (asked_in asked request e))))
          (λ t. ih.1 (inr t)) (contains_cases request requests r h)),
    ))
    (λ e. let ih = asked_members requests (asked ++ request ∷ []) r in (
      (λ c. ⊎_elim
          (λ h. ⊎_elim inl (λ s. inr (subst (λ (x : Request). Contains (request ∷ requests) x) s (contains_here request requests)))
          (Contains-push_cases asked request r h))
          (λ h. inr (contains_there request requests r h)) (ih.0 c)),
      ⊎_elim (λ h. ih.1 (inl (Contains-append_left asked (request ∷ []) r h))) (λ h. ⊎_elim
          (λ s. ih.1 (inl (subst (λ (x : Request). Contains (asked ++ request ∷ []) x) s (Contains-push asked request))))
          (λ t. ih.1 (inr t)) (contains_cases request requests r h)),
    ))
