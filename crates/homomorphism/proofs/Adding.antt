-- Facts added one after another.
use Rattle.std.proofs.Common.{◌≡◌, ◌⊎◌, inl, inr, ⊎_elim, ℕ, zero, suc, ◌-◌, ◌<◌, ◌≤◌, List, [], ◌∷◌, ◌++◌, length, refl, sym, ap, ◌∙◌, subst, arith, take}
use Rattle.std.proofs.Math.Seq.{take-append_seam}
use Rattle.std.proofs.lemmas.List.{length-append}
use Rattle.std.proofs.lemmas.List.Sums.{fold-append}
use Rattle.meaning.specs.declared.types.Ground.{Ground}
use Rattle.meaning.specs.Added.{with_fact, with_facts}
use Rattle.meaning_laws.proofs.Added.{added_front}
use Rattle.homomorphism.specs.declared.fact_index.FactIndex.{FactIndex}
use Rattle.homomorphism.specs.Listed.{IsIndexOf, MayHaveNoted}
use Rattle.homomorphism.proofs.Indexing.{all_noted}

-- one turn of the loop over the facts
pub adding_more : (first done now next : List Ground) (fact : Ground) → now ≡ with_facts first done → next ≡ with_fact now fact → next ≡ with_facts first (done ++ fact ∷ [])
adding_more first done now next fact so e = e ∙ ap (λ facts. with_fact facts fact) so ∙ sym (fold-append with_fact first done (fact ∷ []))

-- the facts that were there stand in front
pub front : (first news now : List Ground) → now ≡ with_facts first news → take (length first) now ≡ first
front first news now e = ap (take (length first)) e ∙ added_front first news

-- the last of some facts, and those before it
module _ (facts before : List Ground) (fact : Ground) (split : facts ≡ before ++ fact ∷ []) where
  pub front_is : take (length facts - 1) facts ≡ before
  front_is =
      let long : length facts - 1 ≡ length before = omega (arith, ap length split, length-append before (fact ∷ [])) in
      ap (λ n. take n facts) long ∙ ap (take (length before)) split ∙ take-append_seam before (fact ∷ [])

last_of : {X : Type 0} (xs : List X) → (xs ≡ []) ⊎ ((before : List X) × (x : X) × (xs ≡ before ++ x ∷ []))
last_of [] = inl refl
last_of (x ∷ []) = inr ([], x, refl)
last_of (x ∷ y ∷ ys) = ⊎_elim (λ e. absurd (cc)) (λ (before, z, e). inr (x ∷ before, z, ap (λ l. x ∷ l) e)) (last_of (y ∷ ys))

-- the last fact is taken out, if there is one
pub taken_last : (facts now : List Ground) (was index : FactIndex) → now ≡ take (length facts - 1) facts → (facts ≡ [] → index ≡ was) →
    ((before : List Ground) (fact : Ground) → facts ≡ before ++ fact ∷ [] → MayHaveNoted before fact was → IsIndexOf before index) → IsIndexOf facts was → IsIndexOf now index
taken_last facts now was index is none struck r = ⊎_elim
    (λ e. subst (λ fs. IsIndexOf fs index) (sym (is ∙ ap (λ fs. take (length fs - 1) fs) e)) (subst (λ i. IsIndexOf [] i) (sym (none e)) (subst (λ fs. IsIndexOf fs was) e r)))
    (λ (before, fact, e). subst (λ fs. IsIndexOf fs index) (sym (is ∙ front_is facts before fact e)) (struck before fact e (all_noted before fact was (subst (λ fs. IsIndexOf fs was) e r))))
    (last_of facts)

pub take_again : {X : Type 0} (xs : List X) (count : ℕ) → count < length xs → take count (take (length xs - 1) xs) ≡ take count xs
take_again xs count l = by (length xs - 1) xs count (omega arith)
  where
    by : {X : Type 0} (n : ℕ) (xs : List X) (count : ℕ) → count ≤ n → take count (take n xs) ≡ take count xs
    by n xs zero l = refl
    by zero xs (suc count) l = absurd (omega arith)
    by (suc n) [] (suc count) l = refl
    by (suc n) (x ∷ xs) (suc count) l = ap (λ z. x ∷ z) (by n xs count (omega arith))
