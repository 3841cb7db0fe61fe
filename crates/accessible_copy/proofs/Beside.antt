-- Facts beside the methods that exposed them.
use Rattle.std.proofs.Common.{◌≡◌, ℕ, zero, suc, ◌≤◌, List, [], ◌∷◌, ◌++◌, length, take, Some, None, refl, sym, ap, ◌∙◌, arith}
use Rattle.std.specs.Prelude.{slice_get}
use Rattle.std.proofs.lemmas.Option.{slice_get_past}
use Rattle.std.proofs.lemmas.List.{length-map}
use Rattle.lists.proofs.Members.{some_injective}
use Rattle.meaning.specs.declared.types.Ground.{Ground}
use Rattle.accessible_copy.specs.declared.entry.Exposed.{Exposed}
use Rattle.accessible_copy.specs.Known.{facts_of, shown_by}

-- as many methods as facts
pub facts_shown : (methods : List ℕ) (facts : List Ground) → length methods ≡ length facts → facts_of (shown_by methods facts) ≡ facts
facts_shown [] [] even = refl
facts_shown [] (fact ∷ facts) even = absurd (omega arith)
facts_shown (method ∷ methods) [] even = absurd (omega arith)
facts_shown (method ∷ methods) (fact ∷ facts) even = ap (λ l. fact ∷ l) (facts_shown methods facts (omega arith))

pub shown_length : (methods : List ℕ) (facts : List Ground) → length methods ≡ length facts → length (shown_by methods facts) ≡ length facts
shown_length methods facts even = sym (length-map (shown_by methods facts) (λ (one : Exposed). one.fact)) ∙ ap length (facts_shown methods facts even)

pub shown_push : (methods : List ℕ) (facts : List Ground) (method : ℕ) (fact : Ground) → length methods ≡ length facts
    → shown_by (methods ++ method ∷ []) (facts ++ fact ∷ []) ≡ shown_by methods facts ++ record { method = method; fact = fact } ∷ []
shown_push [] [] method fact even = refl
shown_push [] (other ∷ facts) method fact even = absurd (omega arith)
shown_push (one ∷ methods) [] method fact even = absurd (omega arith)
shown_push (one ∷ methods) (other ∷ facts) method fact even = ap (λ l. record { method = one; fact = other } ∷ l) (shown_push methods facts method fact (omega arith))

pub shown_cut : (methods : List ℕ) (facts : List Ground) (count : ℕ) → take count (shown_by methods facts) ≡ shown_by (take count methods) (take count facts)
shown_cut methods facts zero = refl
shown_cut [] facts (suc count) = refl
shown_cut (method ∷ methods) [] (suc count) = refl
shown_cut (method ∷ methods) (fact ∷ facts) (suc count) = ap (λ l. record { method = method; fact = fact } ∷ l) (shown_cut methods facts count)

pub even_cut : (methods : List ℕ) (facts : List Ground) (count : ℕ) → length methods ≡ length facts → length (take count methods) ≡ length (take count facts)
even_cut methods facts zero even = refl
even_cut [] [] (suc count) even = refl
even_cut [] (fact ∷ facts) (suc count) even = absurd (omega arith)
even_cut (method ∷ methods) [] (suc count) even = absurd (omega arith)
even_cut (method ∷ methods) (fact ∷ facts) (suc count) even = ap suc (even_cut methods facts count (omega arith))

-- by number
pub shown_got : (methods : List ℕ) (facts : List Ground) (k method : ℕ) (fact : Ground) → slice_get methods k ≡ Some method → slice_get facts k ≡ Some fact
    → slice_get (shown_by methods facts) k ≡ Some (record { method = method; fact = fact })
shown_got [] facts k method fact at there = absurd (cc)
shown_got (one ∷ methods) [] k method fact at there = absurd (cc)
shown_got (one ∷ methods) (other ∷ facts) zero method fact at there = let m = some_injective one method at in let f = some_injective other fact there in (λ i. Some (record { method = m i; fact = f i }))
shown_got (one ∷ methods) (other ∷ facts) (suc k) method fact at there = shown_got methods facts k method fact at there

pub shown_past : (methods : List ℕ) (facts : List Ground) (k : ℕ) → length methods ≡ length facts → length facts ≤ k → slice_get (shown_by methods facts) k ≡ None
shown_past methods facts k even beyond = slice_get_past (shown_by methods facts) k (omega (arith, shown_length methods facts even))
