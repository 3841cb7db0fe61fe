-- The active exposures of facts by their numbers, number by number.
use Rattle.std.proofs.Common.{◌≡◌, ℕ, zero, suc, ◌<◌, ◌≤◌, List, [], ◌∷◌, ◌++◌, drop, Some, None, refl, sym, ap, ◌∙◌, subst, ⊎_elim, arith}
use Rattle.std.specs.Prelude.{Contains, slice_get, slice_index_or}
use Rattle.std.specs.List.{AllPairs}
use Rattle.std.proofs.lemmas.List.Elements.{Contains-append_left, Contains-append_right, Contains-append_cases, Contains-push, Contains-push_cases}
use Rattle.lists.proofs.Members.{contains_got, some_injective, contains_none}
use Rattle.lists.proofs.Places.{got_member}
use Rattle.homomorphism.proofs.Members.{distinct_push}
use Rattle.meaning.specs.declared.types.SchemaParts.{SchemaParts}
use Rattle.meaning.specs.declared.types.Ground.{Ground}
use Rattle.meaning.specs.declared.types.Firing.{Firing}
use Rattle.meaning.specs.Search.{AreDistinct}
use Rattle.accessible_copy.specs.Proving.{Proving}
use Rattle.accessible_copy.specs.Listing.{CanFire, AreExposures, AreExposuresOf}
use Rattle.accessible_copy.proofs.Listed.{from_none, from_more}

-- places of members
-- distinct members have one place each
one_place : {X : Type 0} (xs : List X) (a b : ℕ) (x : X) → AreDistinct xs → slice_get xs a ≡ Some x → slice_get xs b ≡ Some x → a ≡ b
one_place [] a b x are at there = absurd (cc)
one_place (y ∷ xs) zero zero x are at there = refl
one_place (y ∷ xs) zero (suc b) x (new, are) at there = absurd (new (subst (Contains xs) (sym (some_injective y x at)) (contains_got xs b x there)))
one_place (y ∷ xs) (suc a) zero x (new, are) at there = absurd (new (subst (Contains xs) (sym (some_injective y x there)) (contains_got xs a x at)))
one_place (y ∷ xs) (suc a) (suc b) x (new, are) at there = ap suc (one_place xs a b x are at there)

-- ascending numbers are distinct
pub ascending_distinct : (xs : List ℕ) → AllPairs (λ x y. x < y) xs → AreDistinct xs
ascending_distinct [] ascend = tt
ascending_distinct (x ∷ xs) ascend = (
  (λ (k, low, same). let less : x < slice_index_or xs k x = ascend 0 (suc k) x (omega arith) (omega arith) in absurd (omega arith)),
  ascending_distinct xs (λ i j d l m. ascend (suc i) (suc j) d (omega arith) (omega arith)),
)

-- a member that stands behind others is one of the rest
pub got_dropped : (count : ℕ) (xs : List ℕ) (place x : ℕ) → count ≤ place → slice_get xs place ≡ Some x → Contains (drop count xs) x
got_dropped zero xs place x low got = contains_got xs place x got
got_dropped (suc count) [] place x low got = absurd (cc)
got_dropped (suc count) (y ∷ xs) zero x low got = absurd (omega arith)
got_dropped (suc count) (y ∷ xs) (suc place) x low got = got_dropped count xs place x (omega arith) got

-- behind the same members, more are more
pub kept_behind : (front xs ys : List ℕ) → ((n : ℕ) → Contains xs n → Contains ys n) → (n : ℕ) → Contains (front ++ xs) n → Contains (front ++ ys) n
kept_behind front xs ys kept n among = ⊎_elim (λ h. Contains-append_left front ys n h) (λ h. Contains-append_right front ys n (kept n h)) (Contains-append_cases front xs n among)

-- the exposures found are those of the facts with the numbers so far
pub record AreFound (schema : SchemaParts) (proof : Proving) (numbers : List ℕ) (found : List Firing) : Type 0 where
  pub facts : List Ground
  pub once : AreDistinct facts
  pub numbered : (fact : Ground) → Contains facts fact → (n : ℕ) × Contains numbers n × (slice_get proof.end.base n ≡ Some fact)
  pub listed : (n : ℕ) (fact : Ground) → Contains numbers n → slice_get proof.end.base n ≡ Some fact → Contains facts fact
  pub are : AreExposures schema proof facts found

module _ (schema : SchemaParts) (proof : Proving) where
  pub found_none : AreFound schema proof [] []
  found_none = record {
    facts = [];
    once = tt;
    numbered = λ fact c. absurd (contains_none fact c);
    listed = λ n fact c got. absurd (contains_none n c);
    are = from_none schema proof;
  }

  pub found_nothing : (numbers : List ℕ) (number : ℕ) (found : List Firing) → slice_get proof.end.base number ≡ None → AreFound schema proof numbers found → AreFound schema proof (numbers ++ number ∷ []) found
  found_nothing numbers number found none is = record {
    facts = is.facts;
    once = is.once;
    numbered = λ fact c. let (n, among, got) = is.numbered fact c in (n, Contains-append_left numbers (number ∷ []) n among, got);
    listed = λ n fact c got. ⊎_elim (λ h. is.listed n fact h got)
        (λ same. let both : Some fact ≡ None = sym got ∙ subst (λ k. slice_get proof.end.base k ≡ None) same none in absurd (cc)) (Contains-push_cases numbers number n c);
    are = is.are;
  }

  pub found_more : (numbers : List ℕ) (number : ℕ) (fact : Ground) (methods : List ℕ) (found more : List Firing) → AreDistinct proof.end.base → (Contains numbers number → ⊥) → slice_get proof.end.base number ≡ Some fact
      → AreExposuresOf schema proof fact methods more → ((method : ℕ) → CanFire schema proof method fact → Contains methods method) → AreFound schema proof numbers found → AreFound schema proof (numbers ++ number ∷ []) (found ++ more)
  found_more numbers number fact methods found more once new at of below is = record {
    facts = is.facts ++ fact ∷ [];
    once = distinct;
    numbered = λ other c. ⊎_elim (λ h. let (n, among, got) = is.numbered other h in (n, Contains-append_left numbers (number ∷ []) n among, got))
        (λ same. (number, Contains-push numbers number, subst (λ f. slice_get proof.end.base number ≡ Some f) same at)) (Contains-push_cases is.facts fact other c);
    listed = λ n other c got. ⊎_elim (λ h. Contains-append_left is.facts (fact ∷ []) other (is.listed n other h got))
        (λ same. subst (λ f. Contains (is.facts ++ fact ∷ []) f) (some_injective fact other (sym at ∙ subst (λ k. slice_get proof.end.base k ≡ Some other) (sym same) got)) (Contains-push is.facts fact))
        (Contains-push_cases numbers number n c);
    are = from_more schema proof is.facts fact found more methods distinct is.are of below;
  }
    where
      distinct : AreDistinct (is.facts ++ fact ∷ [])
      distinct = distinct_push is.facts fact is.once (λ c. let (n, among, got) = is.numbered fact c in new (subst (λ k. Contains numbers k) (one_place proof.end.base n number fact once got at) among))

  -- where all that can be exposed are numbered, these are all
  pub found_all : (numbers : List ℕ) (found : List Firing) → ((n number : ℕ) (fact : Ground) → slice_get proof.end.base n ≡ Some fact → CanFire schema proof number fact → Contains numbers n)
      → AreFound schema proof numbers found → AreExposures schema proof proof.end.base found
  found_all numbers found all is = record {
    each = λ firing c.
        let (number, fact, e, among, can) = is.are.each firing c in
        let (n, listed, got) = is.numbered fact among in (number, fact, e, contains_got proof.end.base n fact got, can);
    all = λ number fact c can. let (n, got) = got_member proof.end.base fact c in is.are.all number fact (is.listed n fact (all n number fact got can) got) can;
    once = is.are.once;
  }
