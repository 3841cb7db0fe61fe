-- The rounds that plans share: which requests they ask.
use Rattle.std.proofs.Common.{◌≡◌, ◌↔◌, ℕ, zero, suc, ◌<◌, ◌≤◌, List, [], ◌∷◌, ◌++◌, length, take, Option, None, Some, refl, sym, ◌∙◌, ap, subst, inl, inr, ⊎_elim, arith}
use Rattle.std.specs.Prelude.{Contains, slice_get}
use Rattle.std.specs.List.{AllZip}
use Rattle.std.proofs.lemmas.Bool.{cases_lt}
use Rattle.std.proofs.lemmas.List.{append-nil, take_all}
use Rattle.std.proofs.lemmas.Option.{slice_get_past, slice_get_within}
use Rattle.std.proofs.lemmas.List.Elements.{Contains-append_left, Contains-append_right}
use Rattle.lists.proofs.Members.{contains_here, contains_there, contains_cases, contains_none, got_below, contains_joined, joined_from}
use Rattle.meaning.specs.declared.types.SchemaParts.{SchemaParts}
use Rattle.meaning.specs.declared.types.Fact.{Fact}
use Rattle.meaning.specs.declared.types.Plan.{Plan}
use Rattle.meaning.specs.declared.types.Request.{Request}
use Rattle.meaning.specs.Search.{AreDistinct}
use Rattle.shared_rounds.specs.SharedRounds.{Turn, turns_of, AreAskedAt, IsTurn, Once, wanted_in, AreRounds, IsWanted, IsOfPlans}
use Rattle.shared_rounds.proofs.Turning.{AreOf, of_branches, branches_of, one_of, at_one}
use Rattle.shared_rounds.proofs.Adding.{asked_distinct, asked_members}

-- ---- pairs of two lists

pub zip_second : {A B : Type 0} (R : A → B → Type 0) (xs : List A) (ys : List B) (y : B) → AllZip R xs ys → Contains ys y → (x : A) × Contains xs x × R x y
zip_second R [] [] y z c = absurd (contains_none y c)
zip_second R [] (w ∷ ys) y z c = absurd z
zip_second R (x ∷ xs) [] y z c = absurd z
zip_second {A} {B} R (x ∷ xs) (w ∷ ys) y z c = ⊎_elim
    (λ e. (x, contains_here x xs, subst (λ (b : B). R x b) e z.0))
    (λ h. let (a, among, r) = zip_second R xs ys y z.1 h in (a, contains_there x xs a among, r))
    (contains_cases w ys y c)

pub zip_first : {A B : Type 0} (R : A → B → Type 0) (xs : List A) (ys : List B) (x : A) → AllZip R xs ys → Contains xs x → (y : B) × Contains ys y × R x y
zip_first R [] [] x z c = absurd (contains_none x c)
zip_first R [] (w ∷ ys) x z c = absurd z
zip_first R (v ∷ xs) [] x z c = absurd z
zip_first {A} {B} R (v ∷ xs) (w ∷ ys) x z c = ⊎_elim
    (λ e. (w, contains_here w ys, subst (λ (a : A). R a w) e z.0))
    (λ h. let (b, among, r) = zip_first R xs ys x z.1 h in (b, contains_there w ys b among, r))
    (contains_cases v xs x c)

module _ (schema : SchemaParts) (facts : List Fact) where
  -- the requests of a step are the same ones in each list of them
  pub same_turn : (found : Option Turn) (first second : List Request) → AreAskedAt schema facts found first → AreAskedAt schema facts found second
      → (request : Request) → Contains first request → Contains second request
  same_turn None first second a b request c = absurd (contains_none request (subst (λ (l : List Request). Contains l request) a c))
  same_turn (Some turn) first second a b request c = (b.exactly request).1 ((a.exactly request).0 c)

  module _ (plans : List Plan) where
    abbrev pub Rounds : ℕ → List Request → Type 0
    Rounds n list = AreRounds schema facts plans Once n list

    pub rounds_distinct : (n : ℕ) (list : List Request) → Rounds n list → AreDistinct list
    rounds_distinct zero list e = subst (λ (l : List Request). AreDistinct l) (sym e) tt
    rounds_distinct (suc n) list (asked, turns, before, z, e) =
        subst (λ (l : List Request). AreDistinct l) (sym e) (asked_distinct (wanted_in turns) asked (rounds_distinct n asked before))

    later : (n : ℕ) (request : Request) → IsWanted schema facts plans n request → IsWanted schema facts plans (suc n) request
    later n request w = let less = w.early in record {
      plan = w.plan;
      round = w.round;
      turn = w.turn;
      of_plans = w.of_plans;
      early = omega (arith, less);
      is_turn = w.is_turn;
      among = w.among;
    }

    pub rounds_want : (n : ℕ) (list : List Request) → Rounds n list → (request : Request) → Contains list request → IsWanted schema facts plans n request
    rounds_want zero list e request c = absurd (contains_none request (subst (λ (l : List Request). Contains l request) e c))
    rounds_want (suc n) list (asked, turns, before, z, e) request c = ⊎_elim
        (λ h. later n request (rounds_want n asked before request h))
        (λ h.
        let (turn, among, here) = joined_from (λ (t : List Request). t) turns request h in
        let (plan, of, is) = zip_second (IsTurn schema facts n) plans turns turn z among in
        record { plan = plan; round = n; turn = turn; of_plans = of; early = omega arith; is_turn = is; among = here })
        ((asked_members (wanted_in turns) asked request).0 (subst (λ (l : List Request). Contains l request) e c))

    -- the requests of a plan's step in an earlier round were asked
    pub turn_asked : (n : ℕ) (list : List Request) → Rounds n list → (plan : Plan) → Contains plans plan → (round : ℕ) → round < n
        → (turn : List Request) → IsTurn schema facts round plan turn → (request : Request) → Contains turn request → Contains list request
    turn_asked zero list e plan of round less turn is request c = absurd (omega (arith, less))
    turn_asked (suc n) list (asked, turns, before, z, e) plan of round less turn is request c =
        subst (λ (l : List Request). Contains l request) (sym e) ((asked_members (wanted_in turns) asked request).1 (⊎_elim
        (λ l. inl (turn_asked n asked before plan of round l turn is request c))
        (λ l.
        let at : round ≡ n = omega (arith, l, less) in
        let (own, among, its) = zip_first (IsTurn schema facts n) plans turns plan z of in
        let here : Contains own request = same_turn (slice_get (turns_of plan) n) turn own (subst (λ k. IsTurn schema facts k plan turn) at is) its request c in
        inr (contains_joined (λ (t : List Request). t) turns own request among here))
        (cases_lt round n)))

    pub each_once : (n : ℕ) (list : List Request) → Rounds n list
        → AreDistinct list × ((request : Request) → Contains list request ↔ IsWanted schema facts plans n request)
    each_once n list are = (
      rounds_distinct n list are,
      (λ request. (
        rounds_want n list are request,
        (λ w. turn_asked n list are w.plan w.of_plans w.round w.early w.turn w.is_turn request w.among),
      )),
    )

    step_more : (n : ℕ) (plan : Plan) (own : List Request) → IsTurn schema facts n plan own → (front : List Request) → AreOf schema facts (take n (turns_of plan)) front
        → AreOf schema facts (take (suc n) (turns_of plan)) (front ++ own)
    step_more n plan own is front are = ⊎_elim
        (λ l.
        let (turn, at) = got_below (turns_of plan) n l in
        one_of schema facts (turns_of plan) n turn at front own are (subst (λ (o : Option Turn). AreAskedAt schema facts o own) at is))
        (λ l.
        let none : own ≡ [] = subst (λ (o : Option Turn). AreAskedAt schema facts o own) (slice_get_past (turns_of plan) n l) is in
        let same : take n (turns_of plan) ≡ take (suc n) (turns_of plan) = take_all n (turns_of plan) l ∙ sym (take_all (suc n) (turns_of plan) (omega (arith, l))) in
        subst (λ (r : List Request). AreOf schema facts (take (suc n) (turns_of plan)) r) (sym (ap (λ (r : List Request). front ++ r) none ∙ append-nil front))
        (subst (λ (t : List Turn). AreOf schema facts t front) same are))
        (cases_lt n (length (turns_of plan)))

    -- the requests of a plan's first steps, which have those of each of these
    plan_requests : (n : ℕ) (list : List Request) → Rounds n list → (plan : Plan) → Contains plans plan
        → (requests : List Request) × AreOf schema facts (take n (turns_of plan)) requests
        × ((round : ℕ) → round < n → (turn : List Request) → IsTurn schema facts round plan turn → (request : Request) → Contains turn request → Contains requests request)
    plan_requests zero list e plan of = ([], refl, (λ round less. absurd (omega (arith, less))))
    plan_requests (suc n) list (asked, turns, before, z, e) plan of =
        let (own, among, its) = zip_first (IsTurn schema facts n) plans turns plan z of in
        let (front, are, has) = plan_requests n asked before plan of in
        let more = step_more n plan own its front are in (
          front ++ own,
          more,
          (λ round less turn is request c. ⊎_elim
              (λ l. Contains-append_left front own request (has round l turn is request c))
              (λ l.
              let at : round ≡ n = omega (arith, l, less) in
              Contains-append_right front own request
              (same_turn (slice_get (turns_of plan) n) turn own (subst (λ k. IsTurn schema facts k plan turn) at is) its request c))
              (cases_lt round n)),
        )

    pub all_rounds : (n : ℕ) (list : List Request) → ((plan : Plan) → Contains plans plan → length (turns_of plan) ≤ n) → Rounds n list
        → (request : Request) → Contains list request ↔ IsOfPlans schema facts plans request
    all_rounds n list long are request = (
      (λ c.
          let w = rounds_want n list are request c in
          let (requests, of, has) = plan_requests n list are w.plan w.of_plans in
          record {
            plan = w.plan;
            requests = requests;
            of_plans = w.of_plans;
            are = branches_of schema facts 0 w.plan.branches requests
                (subst (λ (t : List Turn). AreOf schema facts t requests) (take_all n (turns_of w.plan) (long w.plan w.of_plans)) of);
            among = has w.round w.early w.turn w.is_turn request w.among;
          }),
      (λ p.
          let (k, turn, now, at, round, among) = at_one schema facts (turns_of p.plan) p.requests (of_branches schema facts 0 p.plan.branches p.requests p.are) request p.among in
          let within = slice_get_within (turns_of p.plan) k turn at in
          let short = long p.plan p.of_plans in
          turn_asked n list are p.plan p.of_plans k (omega (arith, within, short)) now
          (subst (λ (o : Option Turn). AreAskedAt schema facts o now) (sym at) round) request among),
    )
