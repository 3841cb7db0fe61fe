-- The numbers of candidates by their facts, candidate after candidate.
use Rattle.std.proofs.Common.{◌≡◌, ◌≢◌, ◌∙◌, ℕ, List, [], ◌∷◌, ◌++◌, sym, subst, ⊎_elim, arith}
use Rattle.std.specs.Prelude.{Contains, Some, length, slice_get}
use Rattle.std.proofs.lemmas.Bool.{cases_eq, cases_lt}
use Rattle.std.proofs.lemmas.Option.{slice_get_within}
use Rattle.std.proofs.lemmas.List.{length_push}
use Rattle.std.proofs.lemmas.List.Elements.{Contains-append_left, Contains-push}
use Rattle.lists.proofs.Members.{got_push, got_before, some_injective}
use Rattle.exposure_search.specs.declared.candidates.Candidate.{Candidate}
use Rattle.exposure_search.specs.Candidates.{numbers_of, IsCandidateIndex}

module _ (candidates : List Candidate) (candidate : Candidate) (now next : List (List ℕ)) (is : IsCandidateIndex candidates now)
    (here : numbers_of next candidate.step.fact ≡ numbers_of now candidate.step.fact ++ length candidates ∷ [])
    (others : (other : ℕ) → other ≢ candidate.step.fact → numbers_of next other ≡ numbers_of now other) where
  stay : (fact number : ℕ) → Contains (numbers_of now fact) number → Contains (numbers_of next fact) number
  stay fact number c = ⊎_elim
      (λ same. subst (λ f. Contains (numbers_of next f) number) (sym same) (subst (λ (l : List ℕ). Contains l number) (sym here)
      (Contains-append_left (numbers_of now candidate.step.fact) (length candidates ∷ []) number (subst (λ f. Contains (numbers_of now f) number) same c))))
      (λ differ. subst (λ (l : List ℕ). Contains l number) (sym (others fact differ)) c) (cases_eq fact candidate.step.fact)

  last : Contains (numbers_of next candidate.step.fact) (length candidates)
  last = subst (λ (l : List ℕ). Contains l (length candidates)) (sym here) (Contains-push (numbers_of now candidate.step.fact) (length candidates))

  -- one more candidate
  pub index_more : IsCandidateIndex (candidates ++ candidate ∷ []) next
  index_more number its e = ⊎_elim (λ low. stay its.step.fact number (is number its (sym (got_before candidates (candidate ∷ []) number low) ∙ e)))
      (λ high.
      let within = slice_get_within (candidates ++ candidate ∷ []) number its e in
      let long = length_push candidates candidate in
      let at : number ≡ length candidates = omega arith in
      let same : candidate ≡ its = some_injective candidate its (sym (got_push candidates candidate) ∙ subst (λ n. slice_get (candidates ++ candidate ∷ []) n ≡ Some its) at e) in
      subst (λ n. Contains (numbers_of next its.step.fact) n) (sym at) (subst (λ (k : Candidate). Contains (numbers_of next k.step.fact) (length candidates)) same last))
      (cases_lt number (length candidates))
