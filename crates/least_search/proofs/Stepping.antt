-- Paths that share their beginnings, as steps are added.
use Rattle.std.proofs.Common.{◌≡◌, ℕ, zero, suc, ◌+◌, ◌<◌, List, [], ◌∷◌, ◌++◌, length, refl, sym, ap, ◌∙◌, subst, arith, reverse, append_assoc}
use Rattle.std.specs.Prelude.{slice_index_or}
use Rattle.std.proofs.lemmas.List.{length_push, get_or_append_left, get_or_at, reverse-append}
use Rattle.least_search.specs.declared.space.Move.{Move}
use Rattle.least_search.specs.declared.paths.Step.{Step}
use Rattle.least_search.specs.Paths.{paths_from, GoOn}

pub from_length : (steps : List Step) (paths : List (List Move)) → length (paths_from paths steps) ≡ length paths + length steps
from_length [] paths = omega arith
from_length (step ∷ steps) paths =
    let rest : length (paths_from (paths ++ (slice_index_or paths step.before [] ++ step.last ∷ []) ∷ []) steps) ≡ length (paths ++ (slice_index_or paths step.before [] ++ step.last ∷ []) ∷ []) + length steps
    = from_length steps (paths ++ (slice_index_or paths step.before [] ++ step.last ∷ []) ∷ []) in
    let more : length (paths ++ (slice_index_or paths step.before [] ++ step.last ∷ []) ∷ []) ≡ length paths + 1 = length_push paths (slice_index_or paths step.before [] ++ step.last ∷ []) in
    omega arith

pub from_push : (steps : List Step) (step : Step) (paths : List (List Move)) →
    paths_from paths (steps ++ step ∷ []) ≡ paths_from paths steps ++ (slice_index_or (paths_from paths steps) step.before [] ++ step.last ∷ []) ∷ []
from_push [] step paths = refl
from_push (first ∷ steps) step paths = from_push steps step (paths ++ (slice_index_or paths first.before [] ++ first.last ∷ []) ∷ [])

pub steps_push : (steps : List Step) (step : Step) (count : ℕ) → GoOn count steps → step.before < count + length steps → GoOn count (steps ++ step ∷ [])
steps_push [] step count on low = (omega arith, tt)
steps_push (first ∷ steps) step count on low = (on.0, steps_push steps step (count + 1) on.1 (omega arith))

pub front_kept : (steps : List Step) (paths : List (List Move)) (k : ℕ) → k < length paths → slice_index_or (paths_from paths steps) k [] ≡ slice_index_or paths k []
front_kept [] paths k l = refl
front_kept (step ∷ steps) paths k l =
    let more : length (paths ++ (slice_index_or paths step.before [] ++ step.last ∷ []) ∷ []) ≡ length paths + 1 = length_push paths (slice_index_or paths step.before [] ++ step.last ∷ []) in
    front_kept steps (paths ++ (slice_index_or paths step.before [] ++ step.last ∷ []) ∷ []) k (omega arith)
    ∙ get_or_append_left paths ((slice_index_or paths step.before [] ++ step.last ∷ []) ∷ []) [] k l

-- the path of a step goes on from an earlier one
pub step_path : (steps : List Step) (paths : List (List Move)) (k : ℕ) (d : Step) → k < length steps → GoOn (length paths) steps →
    ((slice_index_or steps k d).before < length paths + k) × (slice_index_or (paths_from paths steps) (length paths + k) []
    ≡ slice_index_or (paths_from paths steps) (slice_index_or steps k d).before [] ++ (slice_index_or steps k d).last ∷ [])
step_path [] paths k d l on = absurd (omega arith)
step_path (step ∷ steps) paths zero d l on =
    let more : length (paths ++ (slice_index_or paths step.before [] ++ step.last ∷ []) ∷ []) ≡ length paths + 1 = length_push paths (slice_index_or paths step.before [] ++ step.last ∷ []) in
    let same : length paths + 0 ≡ length paths = omega arith in
    let low : step.before < length paths = on.0 in (
      (omega arith),
      ap (λ n. slice_index_or (paths_from (paths ++ (slice_index_or paths step.before [] ++ step.last ∷ []) ∷ []) steps) n []) same
          ∙ front_kept steps (paths ++ (slice_index_or paths step.before [] ++ step.last ∷ []) ∷ []) (length paths) (omega arith)
          ∙ get_or_at paths (slice_index_or paths step.before [] ++ step.last ∷ []) [] [] (length paths) refl
          ∙ ap (λ (q : List Move). q ++ step.last ∷ []) (sym (front_kept steps (paths ++ (slice_index_or paths step.before [] ++ step.last ∷ []) ∷ []) step.before (omega arith)
          ∙ get_or_append_left paths ((slice_index_or paths step.before [] ++ step.last ∷ []) ∷ []) [] step.before low)),
    )
step_path (step ∷ steps) paths (suc k) d l on =
    let more : length (paths ++ (slice_index_or paths step.before [] ++ step.last ∷ []) ∷ []) ≡ length paths + 1 = length_push paths (slice_index_or paths step.before [] ++ step.last ∷ []) in
    let (low, same) = step_path steps (paths ++ (slice_index_or paths step.before [] ++ step.last ∷ []) ∷ []) k d (omega arith) (subst (λ n. GoOn n steps) (sym more) on.1) in
    let place : length paths + suc k ≡ length (paths ++ (slice_index_or paths step.before [] ++ step.last ∷ []) ∷ []) + k = omega arith in
    ((omega arith), ap (λ n. slice_index_or (paths_from (paths ++ (slice_index_or paths step.before [] ++ step.last ∷ []) ∷ []) steps) n []) place ∙ same)

-- a walk back along a path: the move of a step comes before those that were passed
pub back_more : (path before : List Move) (move : Move) (passed pushed : List Move) → path ≡ (before ++ move ∷ []) ++ reverse passed → pushed ≡ passed ++ move ∷ [] → path ≡ before ++ reverse pushed
back_more path before move passed pushed is more =
    is ∙ append_assoc before (move ∷ []) (reverse passed) ∙ ap (λ (q : List Move). before ++ q) (sym (reverse-append passed (move ∷ []))) ∙ ap (λ (q : List Move). before ++ reverse q) (sym more)
