-- The requests of a plan's steps, one step after another.
use Rattle.std.proofs.Common.{◌≡◌, ◌↔◌, ℕ, zero, suc, ◌+◌, ◌≤◌, List, [], ◌∷◌, ◌++◌, length, take, Option, Some, refl, sym, ◌∙◌, ap, subst, append_assoc, ⊎_elim, arith}
use Rattle.std.specs.Prelude.{Contains, slice_get}
use Rattle.std.proofs.lemmas.List.{append-nil, take_all}
use Rattle.std.proofs.Math.Seq.{take-suc}
use Rattle.std.proofs.lemmas.Option.{slice_get_within, get_or_from_slice_get}
use Rattle.std.proofs.lemmas.List.Elements.{Contains-append_cases}
-- by these names plan_batches cites them
pub use Rattle.std.proofs.lemmas.List.Elements.{Contains-append_cases as in_append, Contains-append_left as append_first, Contains-append_right as append_second}
use Rattle.lists.proofs.Members.{contains_none, got_below}
use Rattle.meaning.specs.declared.types.SchemaParts.{SchemaParts}
use Rattle.meaning.specs.declared.types.Fact.{Fact}
use Rattle.meaning.specs.declared.types.Step.{Step}
use Rattle.meaning.specs.declared.types.Branch.{Branch}
use Rattle.meaning.specs.declared.types.Plan.{Plan}
use Rattle.meaning.specs.declared.types.Request.{Request}
use Rattle.meaning.specs.Requests.{IsRound, AreStepsRequests, AreBranchesRequests, AreRequests}
use Rattle.shared_rounds.specs.SharedRounds.{Turn, turns_from, turns_in, turns_of, AreAskedAt, IsTurn, Anew, AreRounds}

-- one more of a list
pub one_taken : {X : Type 0} (xs : List X) (n : ℕ) (x : X) → slice_get xs n ≡ Some x → take (suc n) xs ≡ take n xs ++ x ∷ []
one_taken {X} xs n x at =
    take-suc xs n x (slice_get_within xs n x at) ∙ ap (λ (y : X). take n xs ++ y ∷ []) (get_or_from_slice_get xs n x x at)

-- ---- the requests of steps in order

module _ (schema : SchemaParts) (facts : List Fact) where
  abbrev pub AreOf : List Turn → List Request → Type 0
  AreOf [] requests = requests ≡ []
  AreOf (turn ∷ turns) requests = (now later : List Request) × (requests ≡ now ++ later) × IsRound schema facts turn.before turn.its now × AreOf turns later

  of_steps : (branch n : ℕ) (before steps : List Step) (requests : List Request) → AreStepsRequests schema facts before steps requests
      → AreOf (turns_from branch n before steps) requests
  of_steps branch n before [] requests e = e
  of_steps branch n before (step ∷ steps) requests (now, later, e, round, rest) =
      (now, later, e, round, of_steps branch (n + 1) (before ++ step ∷ []) steps later rest)

  pub steps_of : (branch n : ℕ) (before steps : List Step) (requests : List Request) → AreOf (turns_from branch n before steps) requests
      → AreStepsRequests schema facts before steps requests
  steps_of branch n before [] requests e = e
  steps_of branch n before (step ∷ steps) requests (now, later, e, round, rest) =
      (now, later, e, round, steps_of branch (n + 1) (before ++ step ∷ []) steps later rest)

  pub of_append : (first second : List Turn) (a b : List Request) → AreOf first a → AreOf second b → AreOf (first ++ second) (a ++ b)
  of_append [] second a b e rest = subst (λ (l : List Request). AreOf second (l ++ b)) (sym e) rest
  of_append (turn ∷ first) second a b (now, later, e, round, more) rest =
      (now, later ++ b, ap (λ (l : List Request). l ++ b) e ∙ append_assoc now later b, round, of_append first second later b more rest)

  pub of_split : (first second : List Turn) (list : List Request) → AreOf (first ++ second) list
      → (a b : List Request) × (list ≡ a ++ b) × AreOf first a × AreOf second b
  of_split [] second list are = ([], list, refl, refl, are)
  of_split (turn ∷ first) second list (now, later, e, round, more) =
      let (a, b, s, x, y) = of_split first second later more in
      (now ++ a, b, e ∙ ap (λ (l : List Request). now ++ l) s ∙ sym (append_assoc now a b), (now, a, refl, round, x), y)

  pub of_one : (turn : Turn) (now : List Request) → IsRound schema facts turn.before turn.its now → AreOf (turn ∷ []) now
  of_one turn now round = (now, [], sym (append-nil now), round, refl)

  pub of_branches : (n : ℕ) (branches : List Branch) (requests : List Request) → AreBranchesRequests schema facts branches requests
      → AreOf (turns_in n branches) requests
  of_branches n [] requests e = e
  of_branches n (branch ∷ branches) requests (now, later, e, first, rest) =
      subst (λ (l : List Request). AreOf (turns_in n (branch ∷ branches)) l) (sym e)
      (of_append (turns_from n 0 [] branch.steps) (turns_in (n + 1) branches) now later
      (of_steps n 0 [] branch.steps now first) (of_branches (n + 1) branches later rest))

  pub branches_of : (n : ℕ) (branches : List Branch) (requests : List Request) → AreOf (turns_in n branches) requests
      → AreBranchesRequests schema facts branches requests
  branches_of n [] requests e = e
  branches_of n (branch ∷ branches) requests are =
      let (a, b, s, x, y) = of_split (turns_from n 0 [] branch.steps) (turns_in (n + 1) branches) requests are in
      (a, b, s, steps_of n 0 [] branch.steps a x, branches_of (n + 1) branches b y)

  -- the requests of a plan's first steps, one step more
  pub one_of : (turns : List Turn) (n : ℕ) (turn : Turn) → slice_get turns n ≡ Some turn → (list now : List Request) → AreOf (take n turns) list
      → IsRound schema facts turn.before turn.its now → AreOf (take (suc n) turns) (list ++ now)
  one_of turns n turn at list now are round = subst (λ (l : List Turn). AreOf l (list ++ now)) (sym (one_taken turns n turn at))
      (of_append (take n turns) (turn ∷ []) list now are (of_one turn now round))

  -- a request of steps is one of the round of one of them
  pub at_one : (turns : List Turn) (requests : List Request) → AreOf turns requests → (request : Request) → Contains requests request
      → (n : ℕ) × (turn : Turn) × (now : List Request) × (slice_get turns n ≡ Some turn) × IsRound schema facts turn.before turn.its now × Contains now request
  at_one [] requests e request c = absurd (contains_none request (subst (λ (l : List Request). Contains l request) e c))
  at_one (turn ∷ turns) requests (now, later, e, round, more) request c =
      ⊎_elim
      (λ h. (0, turn, now, refl, round, h))
      (λ h. let (n, its, own, at, is, among) = at_one turns later more request h in (suc n, its, own, at, is, among))
      (Contains-append_cases now later request (subst (λ (l : List Request). Contains l request) e c))

  -- ---- the rounds of one plan, asked anew

  module _ (plan : Plan) where
    abbrev turns : List Turn
    turns = turns_of plan

    round_at : (n : ℕ) (turn : Turn) (now : List Request) → slice_get turns n ≡ Some turn → IsTurn schema facts n plan now → IsRound schema facts turn.before turn.its now
    round_at n turn now at is = subst (λ (o : Option Turn). AreAskedAt schema facts o now) at is

    pub of_rounds : (n : ℕ) (list : List Request) → n ≤ length turns → AreRounds schema facts (plan ∷ []) Anew n list → AreOf (take n turns) list
    of_rounds zero list less e = e
    of_rounds (suc n) list less (asked, [], before, z, e) = absurd z
    of_rounds (suc n) list less (asked, now ∷ [], before, z, e) =
        let (turn, at) = got_below turns n (omega arith) in
        subst (λ (l : List Request). AreOf (take (suc n) turns) l) (sym (e ∙ ap (λ (l : List Request). asked ++ l) (append-nil now)))
        (one_of turns n turn at asked now (of_rounds n asked (omega arith) before) (round_at n turn now at z.0))
    of_rounds (suc n) list less (asked, now ∷ next ∷ more, before, z, e) = absurd z.1

    pub rounds_of : (n : ℕ) (list : List Request) → n ≤ length turns → AreOf (take n turns) list → AreRounds schema facts (plan ∷ []) Anew n list
    rounds_of zero list less e = e
    rounds_of (suc n) list less are =
        let (turn, at) = got_below turns n (omega arith) in
        let (a, b, s, x, y) = of_split (take n turns) (turn ∷ []) list (subst (λ (l : List Turn). AreOf l list) (one_taken turns n turn at) are) in
        let (now, later, e, round, none) = y in
        let same : b ≡ now = e ∙ ap (λ (l : List Request). now ++ l) none ∙ append-nil now in (
          a,
          b ∷ [],
          rounds_of n a (omega arith) x,
          (subst (λ (o : Option Turn). AreAskedAt schema facts o b) (sym at) (subst (λ (l : List Request). IsRound schema facts turn.before turn.its l) (sym same) round), tt),
          s ∙ ap (λ (l : List Request). a ++ l) (sym (append-nil b)),
        )

    pub alone : (requests : List Request) → AreRounds schema facts (plan ∷ []) Anew (length turns) requests ↔ AreRequests schema plan facts requests
    alone requests = (
      (λ are. branches_of 0 plan.branches requests
          (subst (λ (l : List Turn). AreOf l requests) (take_all (length turns) turns (omega arith)) (of_rounds (length turns) requests (omega arith) are))),
      (λ are. rounds_of (length turns) requests (omega arith)
          (subst (λ (l : List Turn). AreOf l requests) (sym (take_all (length turns) turns (omega arith))) (of_branches 0 plan.branches requests are))),
    )
