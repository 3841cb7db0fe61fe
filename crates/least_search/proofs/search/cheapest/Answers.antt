use Rattle.std.proofs.Common.{◌≡◌, ◌+◌, ◌<◌, ◌≤◌, length, true, false, ◌-◌, [], ◌∷◌, ◌++◌, List, ℕ, Option, None, sym, refl, ◌∙◌, subst, inr, ⊎_elim, arith, rules}
use Rattle.std.specs.Prelude.{Contains}
use Rattle.std.proofs.lemmas.List.{length_push}
use Rattle.std.proofs.lemmas.List.Elements.{Contains-push_cases}
use Rattle.lists.proofs.Members.{contains_cases}
use Rattle.meaning.specs.Search.{AreDistinct}
use Rattle.least_search.specs.declared.space.Move.{Move}
use Rattle.least_search.specs.declared.node.Node.{Node}
use Rattle.least_search.specs.declared.cuts.Cut.{Cut}
use Rattle.least_search.specs.Ends.{GoesOn}
use Rattle.least_search.specs.Walks.{CanGain, no_facts}
use Rattle.least_search.specs.Ways.{Way, IsWay, way_along}
use Rattle.least_search.specs.Cuts.{rest, sum_of}
use Rattle.least_search.specs.Costs.{IsLeastCost, CanSpend, best_cost}
use Rattle.least_search.specs.Frontier.{sets_of, way_of, looked_in, waiting_in, AreLooked, IsNext, IsTaken, ArePushed}
use Rattle.least_search.proofs.Searched.{IsSearched, IsCounted}
use Rattle.least_search.proofs.Cutting.{guide_of, gains_guide}
use Rattle.least_search.proofs.Least.{least}
use Rattle.least_search.proofs.Counts.{not_spent}
use Rattle.least_search.proofs.Steps.{first_searched, fewer, taken, taken_least, looked_at, not_long, contains_none, counted_more, spend_more, spent_now, sets_push, distinct_push, pushed_only, pushed_reached}
use Rattle.least_search.proofs.search.cheapest.Goals as goal
use Rattle.least_search.proofs.search.cheapest.Goals.{in-FiringsSpent, in-NoGoal}

pub loop-frontier-init : goal.loop-frontier-init
loop-frontier-init g c =
    let facts : c.facts.result ≡ g.S.Space.size c.args.space.now = search rules in
    let none : looked_in c.in_ok-frontier.frontier ≡ [] = c.in_ok-frontier.ensures.looked in
    record {
      back = refl;
      sound = c.in_ok-frontier.ensures.sound;
      facts = c.in_ok-frontier.ensures.facts ∙ facts;
      cuts = c.in_ok-frontier.ensures.cuts;
      bound = c.in_ok-frontier.ensures.bound;
      searched = first_searched (g.S.Space.size c.args.space.now) (g.S.Space.CanMove c.args.space.now) (CanGain (g.S.Space.CanMove c.args.space.now) (g.S.Space.Gains c.args.space.now)) (g.S.Space.HasGoal c.args.space.now) c.args.cuts.now c.args.bound (looked_in c.in_ok-frontier.frontier) (waiting_in c.in_ok-frontier.frontier) none
          (subst (λ (n : ℕ). rest c.args.cuts.now (no_facts n) < c.args.bound → Contains (waiting_in c.in_ok-frontier.frontier) (way_along n [])) facts c.in_ok-frontier.ensures.here)
          (subst (λ (n : ℕ). (way : Way) → Contains (waiting_in c.in_ok-frontier.frontier) way → way_along n [] ≡ way) facts c.in_ok-frontier.ensures.only);
      long = λ e. absurd (cc);
      distinct = subst (λ (ws : List Way). AreDistinct (sets_of ws)) (sym none) tt;
      counted = λ m n runs. omega arith;
      units = omega arith;
      low = λ way there. absurd (contains_none (looked_in c.in_ok-frontier.frontier) way none there);
      spend = subst (λ (ws : List Way). CanSpend (g.S.Space.HasRun c.args.space.now) ws 0) (sym none) refl;
    }

pub returns-in_default-clause-shown : goal.returns-in_default-clause-shown
returns-in_default-clause-shown g c shown =
    let done : AreLooked (looked_in c.loop-frontier.frontier) (waiting_in c.loop-frontier.frontier) = search rules in
    let none : c.none_better.result.better ≡ None = c.none_better.ensures.better in
    subst (λ (b : Option Node). IsLeastCost (g.S.Space.size c.args.space.now) (CanGain (g.S.Space.CanMove c.args.space.now) (g.S.Space.Gains c.args.space.now)) (g.S.Space.HasGoal c.args.space.now) (best_cost c.args.bound b)) (sym none)
    (least (g.S.Space.size c.args.space.now) (g.S.Space.CanMove c.args.space.now) (CanGain (g.S.Space.CanMove c.args.space.now) (g.S.Space.Gains c.args.space.now)) (g.S.Space.HasGoal c.args.space.now) c.args.cuts.now (gains_guide (g.S.Space.CanMove c.args.space.now) (g.S.Space.Gains c.args.space.now) (g.S.Space.HasGoal c.args.space.now) c.args.cuts.now (guide_of (g.S.Space.size c.args.space.now) (g.S.Space.CanMove c.args.space.now) (g.S.Space.HasRun c.args.space.now) (g.S.Space.HasGoal c.args.space.now) c.args.cuts.now (g.met.S.Space.is_space c.args.space.now) c.requires.cuts c.requires.grow)) c.args.bound c.loop-frontier.long (looked_in c.loop-frontier.frontier) []
    (fewer (g.S.Space.size c.args.space.now) (g.S.Space.CanMove c.args.space.now) (CanGain (g.S.Space.CanMove c.args.space.now) (g.S.Space.Gains c.args.space.now)) (g.S.Space.HasGoal c.args.space.now) c.args.cuts.now c.args.bound c.loop-frontier.long (looked_in c.loop-frontier.frontier) (waiting_in c.loop-frontier.frontier) [] c.loop-frontier.invariant.searched (λ x there. inr (done x there)) (λ x there. absurd (contains_none [] x refl there)))
    (not_long c.loop-frontier.long c.none_better.result.ended c.none_better.ensures.ended shown) c.args.bound (omega arith) (λ x there. absurd (contains_none [] x refl there)))

pub returns-then-units-search-clause-search : goal.returns-then-units-search-clause-search
returns-then-units-search-clause-search g c units is m n enough =
    not_spent (g.S.Space.size c.args.space.now) (g.S.Space.CanMove c.args.space.now) (g.S.Space.HasRun c.args.space.now) (g.met.S.Space.is_space c.args.space.now) (looked_in c.loop-frontier.frontier) c.loop-frontier.invariant.searched.looked_are c.loop-frontier.invariant.distinct c.loop-frontier.units c.args.search c.loop-frontier.invariant.counted (let same : c.loop-frontier.units ≡ c.args.search = c.if-units-search.true in omega arith) m n enough

pub returns-then-units-search-clause-spent : goal.returns-then-units-search-clause-spent
returns-then-units-search-clause-spent g c units told =
    let is : IsTaken c.loop-frontier.frontier c.take.new.self c.in-Some.taken = search rules in
    let next : IsNext c.args.cuts.now c.args.bound (looked_in c.loop-frontier.frontier) (waiting_in c.loop-frontier.frontier) (waiting_in c.take.new.self) (way_of c.in-Some.taken.node) = subst (λ (cs : List Cut). IsNext cs c.args.bound (looked_in c.loop-frontier.frontier) (waiting_in c.loop-frontier.frontier) (waiting_in c.take.new.self) (way_of c.in-Some.taken.node)) c.loop-frontier.invariant.cuts (subst (λ b. IsNext c.loop-frontier.frontier.cuts.now b (looked_in c.loop-frontier.frontier) (waiting_in c.loop-frontier.frontier) (waiting_in c.take.new.self) (way_of c.in-Some.taken.node)) c.loop-frontier.invariant.bound is.next) in
    let way_is : IsWay (g.S.Space.size c.args.space.now) (g.S.Space.CanMove c.args.space.now) (way_of c.in-Some.taken.node) = c.loop-frontier.invariant.searched.waiting_are (way_of c.in-Some.taken.node) next.among in
    let run : g.S.Space.HasRun c.args.space.now c.in-Some.taken.node.path.items 0 = (g.met.S.Space.is_space c.args.space.now).runs c.in-Some.taken.node.path.items c.in-Some.taken.node.set.items way_is.walk in
    let same : c.loop-frontier.units ≡ c.args.search = c.if-units-search.true in
    spent_now (g.S.Space.size c.args.space.now) (g.S.Space.CanMove c.args.space.now) (g.S.Space.HasRun c.args.space.now) c.args.cuts.now c.args.bound c.args.search (looked_in c.loop-frontier.frontier) (way_of c.in-Some.taken.node) c.loop-frontier.units 0 c.loop-frontier.invariant.searched.looked_are way_is c.loop-frontier.invariant.low next.low
    c.loop-frontier.invariant.distinct next.new c.loop-frontier.invariant.spend run (omega arith)

pub returns-in-Goal-clause-shown : goal.returns-in-Goal-clause-shown
returns-in-Goal-clause-shown g c shown =
    let is : IsTaken c.loop-frontier.frontier c.take.new.self c.in-Some.taken = search rules in
    let next : IsNext c.args.cuts.now c.args.bound (looked_in c.loop-frontier.frontier) (waiting_in c.loop-frontier.frontier) (waiting_in c.take.new.self) (way_of c.in-Some.taken.node) = subst (λ (cs : List Cut). IsNext cs c.args.bound (looked_in c.loop-frontier.frontier) (waiting_in c.loop-frontier.frontier) (waiting_in c.take.new.self) (way_of c.in-Some.taken.node)) c.loop-frontier.invariant.cuts (subst (λ b. IsNext c.loop-frontier.frontier.cuts.now b (looked_in c.loop-frontier.frontier) (waiting_in c.loop-frontier.frontier) (waiting_in c.take.new.self) (way_of c.in-Some.taken.node)) c.loop-frontier.invariant.bound is.next) in
    let low : c.in-Some.taken.node.cost + rest c.args.cuts.now c.in-Some.taken.node.set.items < c.args.bound = next.low in
    least (g.S.Space.size c.args.space.now) (g.S.Space.CanMove c.args.space.now) (CanGain (g.S.Space.CanMove c.args.space.now) (g.S.Space.Gains c.args.space.now)) (g.S.Space.HasGoal c.args.space.now) c.args.cuts.now (gains_guide (g.S.Space.CanMove c.args.space.now) (g.S.Space.Gains c.args.space.now) (g.S.Space.HasGoal c.args.space.now) c.args.cuts.now (guide_of (g.S.Space.size c.args.space.now) (g.S.Space.CanMove c.args.space.now) (g.S.Space.HasRun c.args.space.now) (g.S.Space.HasGoal c.args.space.now) c.args.cuts.now (g.met.S.Space.is_space c.args.space.now) c.requires.cuts c.requires.grow)) c.args.bound c.loop-frontier.long (looked_in c.loop-frontier.frontier) ((way_of c.in-Some.taken.node) ∷ (waiting_in c.take.new.self)) (taken (g.S.Space.size c.args.space.now) (g.S.Space.CanMove c.args.space.now) (CanGain (g.S.Space.CanMove c.args.space.now) (g.S.Space.Gains c.args.space.now)) (g.S.Space.HasGoal c.args.space.now) c.args.cuts.now c.args.bound c.loop-frontier.long (looked_in c.loop-frontier.frontier) (waiting_in c.loop-frontier.frontier) (waiting_in c.take.new.self) (way_of c.in-Some.taken.node) c.loop-frontier.invariant.searched next)
    (not_long c.loop-frontier.long c.how_ended.result c.how_ended.ensures shown) c.in-Some.taken.node.cost (omega arith) (taken_least (g.S.Space.size c.args.space.now) (g.S.Space.CanMove c.args.space.now) (CanGain (g.S.Space.CanMove c.args.space.now) (g.S.Space.Gains c.args.space.now)) (g.S.Space.HasGoal c.args.space.now) c.args.cuts.now c.args.bound c.in-Some.taken.node.cost (way_of c.in-Some.taken.node) (waiting_in c.take.new.self) (omega arith) next.least)

pub returns-in-UnitsSpent-clause-search : goal.returns-in-UnitsSpent-clause-search
returns-in-UnitsSpent-clause-search g c spent told m n enough =
    let is : IsTaken c.loop-frontier.frontier c.take.new.self c.in-Some.taken = search rules in
    let next : IsNext c.args.cuts.now c.args.bound (looked_in c.loop-frontier.frontier) (waiting_in c.loop-frontier.frontier) (waiting_in c.take.new.self) (way_of c.in-Some.taken.node) = subst (λ (cs : List Cut). IsNext cs c.args.bound (looked_in c.loop-frontier.frontier) (waiting_in c.loop-frontier.frontier) (waiting_in c.take.new.self) (way_of c.in-Some.taken.node)) c.loop-frontier.invariant.cuts (subst (λ b. IsNext c.loop-frontier.frontier.cuts.now b (looked_in c.loop-frontier.frontier) (waiting_in c.loop-frontier.frontier) (waiting_in c.take.new.self) (way_of c.in-Some.taken.node)) c.loop-frontier.invariant.bound is.next) in
    let its : g.S.Space.HasRun c.args.space.now c.deref.result.now c.in_ok-visit.visit.fired = subst (λ s. g.S.Space.HasRun s c.deref.result.now c.in_ok-visit.visit.fired) c.loop-frontier.invariant.back c.in_ok-visit.ensures.run in
    let fired : c.in_ok-visit.visit.fired ≡ c.args.search - c.loop-frontier.units - 1 = c.in_ok-visit.ensures.spent c.in-UnitsSpent.is in
    let units : c.loop-frontier.units ≤ c.args.search = c.loop-frontier.invariant.units in
    let more : length (looked_in c.loop-frontier.frontier) + 1 ≡ length ((way_of c.in-Some.taken.node) ∷ (looked_in c.loop-frontier.frontier)) = omega arith in
    not_spent (g.S.Space.size c.args.space.now) (g.S.Space.CanMove c.args.space.now) (g.S.Space.HasRun c.args.space.now) (g.met.S.Space.is_space c.args.space.now) ((way_of c.in-Some.taken.node) ∷ (looked_in c.loop-frontier.frontier))
    (λ x there. ⊎_elim (λ e. subst (λ y. IsWay (g.S.Space.size c.args.space.now) (g.S.Space.CanMove c.args.space.now) y) e (c.loop-frontier.invariant.searched.waiting_are (way_of c.in-Some.taken.node) next.among)) (λ old. c.loop-frontier.invariant.searched.looked_are x old) (contains_cases (way_of c.in-Some.taken.node) (looked_in c.loop-frontier.frontier) x there))
    (next.new, c.loop-frontier.invariant.distinct) (c.loop-frontier.units + 1 + c.in_ok-visit.visit.fired) c.args.search
    (subst (λ k. IsCounted (g.S.Space.HasRun c.args.space.now) k (c.loop-frontier.units + 1 + c.in_ok-visit.visit.fired)) more (counted_more (g.S.Space.HasRun c.args.space.now) (length (looked_in c.loop-frontier.frontier)) c.loop-frontier.units c.in_ok-visit.visit.fired c.deref.result.now c.loop-frontier.invariant.counted its))
    (omega arith) m n enough

pub returns-in-UnitsSpent-clause-spent : goal.returns-in-UnitsSpent-clause-spent
returns-in-UnitsSpent-clause-spent g c spent told =
    let is : IsTaken c.loop-frontier.frontier c.take.new.self c.in-Some.taken = search rules in
    let next : IsNext c.args.cuts.now c.args.bound (looked_in c.loop-frontier.frontier) (waiting_in c.loop-frontier.frontier) (waiting_in c.take.new.self) (way_of c.in-Some.taken.node) = subst (λ (cs : List Cut). IsNext cs c.args.bound (looked_in c.loop-frontier.frontier) (waiting_in c.loop-frontier.frontier) (waiting_in c.take.new.self) (way_of c.in-Some.taken.node)) c.loop-frontier.invariant.cuts (subst (λ b. IsNext c.loop-frontier.frontier.cuts.now b (looked_in c.loop-frontier.frontier) (waiting_in c.loop-frontier.frontier) (waiting_in c.take.new.self) (way_of c.in-Some.taken.node)) c.loop-frontier.invariant.bound is.next) in
    let way_is : IsWay (g.S.Space.size c.args.space.now) (g.S.Space.CanMove c.args.space.now) (way_of c.in-Some.taken.node) = c.loop-frontier.invariant.searched.waiting_are (way_of c.in-Some.taken.node) next.among in
    let room : ℕ = c.args.search - c.loop-frontier.units - 1 in
    let its : g.S.Space.HasRun c.args.space.now c.in-Some.taken.node.path.items (room + 1) = subst (λ (p : List Move). g.S.Space.HasRun c.args.space.now p (room + 1)) c.deref.ensures.value (subst (λ s. g.S.Space.HasRun s c.deref.result.now (room + 1)) c.loop-frontier.invariant.back (c.in_ok-visit.ensures.due c.in-UnitsSpent.is)) in
    let units : c.loop-frontier.units ≤ c.args.search = c.loop-frontier.invariant.units in
    let wanted : c.loop-frontier.units ≡ c.args.search → ⊥ = c.if-units-search.false in
    spent_now (g.S.Space.size c.args.space.now) (g.S.Space.CanMove c.args.space.now) (g.S.Space.HasRun c.args.space.now) c.args.cuts.now c.args.bound c.args.search (looked_in c.loop-frontier.frontier) (way_of c.in-Some.taken.node) c.loop-frontier.units (room + 1) c.loop-frontier.invariant.searched.looked_are way_is c.loop-frontier.invariant.low next.low
    c.loop-frontier.invariant.distinct next.new c.loop-frontier.invariant.spend its (omega arith)

pub push_moves-requires-clause-low : goal.push_moves-requires-clause-low
push_moves-requires-clause-low g c =
    let is : IsTaken c.loop-frontier.frontier c.take.new.self c.in-Some.taken = search rules in
    let next : IsNext c.args.cuts.now c.args.bound (looked_in c.loop-frontier.frontier) (waiting_in c.loop-frontier.frontier) (waiting_in c.take.new.self) (way_of c.in-Some.taken.node) = subst (λ (cs : List Cut). IsNext cs c.args.bound (looked_in c.loop-frontier.frontier) (waiting_in c.loop-frontier.frontier) (waiting_in c.take.new.self) (way_of c.in-Some.taken.node)) c.loop-frontier.invariant.cuts (subst (λ b. IsNext c.loop-frontier.frontier.cuts.now b (looked_in c.loop-frontier.frontier) (waiting_in c.loop-frontier.frontier) (waiting_in c.take.new.self) (way_of c.in-Some.taken.node)) c.loop-frontier.invariant.bound is.next) in
    let low : c.in-Some.taken.node.cost + rest c.args.cuts.now c.in-Some.taken.node.set.items < c.args.bound = next.low in
    subst (λ b. c.in-Some.taken.node.cost < b) (sym (is.alike.bound ∙ c.loop-frontier.invariant.bound)) (omega arith)

pub push_moves-requires-clause-free : goal.push_moves-requires-clause-free
push_moves-requires-clause-free g c move there =
    let set : c.deref-in-loop-frontier.result.now ≡ c.in-Some.taken.node.set.items = search rules in
    let possible : (move : Move) → Contains c.in_ok-visit.visit.moves.items move → g.S.Space.CanMove c.args.space.now c.in-Some.taken.node.set.items move = (λ move there. subst (λ s. g.S.Space.CanMove s c.in-Some.taken.node.set.items move) c.loop-frontier.invariant.back (subst (λ t. g.S.Space.CanMove c.loop-frontier.space t move) set (c.in_ok-visit.ensures.possible move there))) in
    let moves : c.deref-in-loop-frontier-2.result.now ≡ c.in_ok-visit.visit.moves.items = search rules in
    (g.met.S.Space.is_space c.args.space.now).new c.in-Some.taken.node.set.items move (possible move (subst (λ (ms : List Move). Contains ms move) moves there))

pub loop-frontier-preserved : goal.loop-frontier-preserved
loop-frontier-preserved g c =
    let is : IsTaken c.loop-frontier.frontier c.take.new.self c.in-Some.taken = search rules in
    let next : IsNext c.args.cuts.now c.args.bound (looked_in c.loop-frontier.frontier) (waiting_in c.loop-frontier.frontier) (waiting_in c.take.new.self) (way_of c.in-Some.taken.node) = subst (λ (cs : List Cut). IsNext cs c.args.bound (looked_in c.loop-frontier.frontier) (waiting_in c.loop-frontier.frontier) (waiting_in c.take.new.self) (way_of c.in-Some.taken.node)) c.loop-frontier.invariant.cuts (subst (λ b. IsNext c.loop-frontier.frontier.cuts.now b (looked_in c.loop-frontier.frontier) (waiting_in c.loop-frontier.frontier) (waiting_in c.take.new.self) (way_of c.in-Some.taken.node)) c.loop-frontier.invariant.bound is.next) in
    let way_is : IsWay (g.S.Space.size c.args.space.now) (g.S.Space.CanMove c.args.space.now) (way_of c.in-Some.taken.node) = c.loop-frontier.invariant.searched.waiting_are (way_of c.in-Some.taken.node) next.among in
    let back : c.loop-frontier.space ≡ c.args.space.now = c.loop-frontier.invariant.back in
    let set : c.deref-in-loop-frontier.result.now ≡ c.in-Some.taken.node.set.items = search rules in
    let possible : (move : Move) → Contains c.in_ok-visit.visit.moves.items move → g.S.Space.CanMove c.args.space.now c.in-Some.taken.node.set.items move = (λ move there. subst (λ s. g.S.Space.CanMove s c.in-Some.taken.node.set.items move) c.loop-frontier.invariant.back (subst (λ t. g.S.Space.CanMove c.loop-frontier.space t move) set (c.in_ok-visit.ensures.possible move there))) in
    let moves : c.deref-in-loop-frontier-2.result.now ≡ c.in_ok-visit.visit.moves.items = search rules in
    let now : c.visit.new.self ≡ c.args.space.now = c.in_ok-visit.ensures.back ∙ back in
    let pushed : looked_in c.push_moves.new.frontier ≡ (looked_in c.loop-frontier.frontier) ++ (way_of c.in-Some.taken.node) ∷ [] = c.in_ok-push_moves.ensures.looked ∙ is.looked in
    let its : g.S.Space.HasRun c.args.space.now c.deref.result.now c.in_ok-visit.visit.fired = subst (λ s. g.S.Space.HasRun s c.deref.result.now c.in_ok-visit.visit.fired) c.loop-frontier.invariant.back c.in_ok-visit.ensures.run in
    let path_run : g.S.Space.HasRun c.args.space.now c.in-Some.taken.node.path.items c.in_ok-visit.visit.fired = subst (λ (p : List Move). g.S.Space.HasRun c.args.space.now p c.in_ok-visit.visit.fired) c.deref.ensures.value its in
    let units : c.loop-frontier.units ≤ c.args.search = c.loop-frontier.invariant.units in
    let room : c.in_ok-visit.visit.fired ≤ c.args.search - c.loop-frontier.units - 1 = c.in_ok-visit.ensures.room in
    let wanted : c.loop-frontier.units ≡ c.args.search → ⊥ = c.if-units-search.false in
    let more : length (looked_in c.loop-frontier.frontier) + 1 ≡ length ((looked_in c.loop-frontier.frontier) ++ (way_of c.in-Some.taken.node) ∷ []) = sym (length_push (looked_in c.loop-frontier.frontier) (way_of c.in-Some.taken.node)) in
    let ends : (c.match-visit.long ≡ false → c.loop-frontier.long ≡ false) × (c.match-visit.long ≡ false → g.S.Space.HasGoal c.args.space.now c.in-Some.taken.node.set.items → ⊥) × (c.match-visit.long ≡ true → g.S.Space.HasLongRun c.args.space.now) × GoesOn c.in_ok-visit.visit.end = elim c.match-visit.branch [
      | in-FiringsSpent w ↦ let its : c.match-visit.long ≡ true = w.long-is in ((λ e. absurd (cc)), (λ e. absurd (cc)), (λ _. subst (λ s. g.S.Space.HasLongRun s) back (c.in_ok-visit.ensures.long w.in-FiringsSpent.is)), subst GoesOn (sym w.in-FiringsSpent.is) tt)
      | in-NoGoal w ↦ let its : c.match-visit.long ≡ c.loop-frontier.long = w.long-is in ((λ e. sym its ∙ e), (λ _. subst (λ s. g.S.Space.HasGoal s c.in-Some.taken.node.set.items → ⊥) back (subst (λ t. g.S.Space.HasGoal c.loop-frontier.space t → ⊥) set (c.in_ok-visit.ensures.none w.in-NoGoal.is))), (λ e. c.loop-frontier.invariant.long (sym its ∙ e)), subst GoesOn (sym w.in-NoGoal.is) tt)
    ] in
    let complete : (move : Move) → CanGain (g.S.Space.CanMove c.args.space.now) (g.S.Space.Gains c.args.space.now) c.in-Some.taken.node.set.items move → move.cost < c.args.bound - c.in-Some.taken.node.cost → (other : Move) × Contains c.in_ok-visit.visit.moves.items other × (other.fact ≡ move.fact) × (other.cost ≤ move.cost) = (λ move can low. c.in_ok-visit.ensures.complete ends.3 move (subst (λ t. g.S.Space.CanMove c.loop-frontier.space t move) (sym set) (subst (λ s. g.S.Space.CanMove s c.in-Some.taken.node.set.items move) (sym back) can.0)) (subst (λ t. g.S.Space.Gains c.loop-frontier.space t move) (sym set) (subst (λ s. g.S.Space.Gains s c.in-Some.taken.node.set.items move) (sym back) can.1)) low) in
    let cuts : c.take.new.self.cuts.now ≡ c.args.cuts.now = is.alike.cuts ∙ c.loop-frontier.invariant.cuts in
    let bound : c.take.new.self.bound ≡ c.args.bound = is.alike.bound ∙ c.loop-frontier.invariant.bound in
    let wait : ArePushed c.take.new.self.cuts.now c.take.new.self.bound (way_of c.in-Some.taken.node) c.in_ok-visit.visit.moves.items (looked_in c.take.new.self) (waiting_in c.take.new.self) (waiting_in c.push_moves.new.frontier) = subst (λ (ms : List Move). ArePushed c.take.new.self.cuts.now c.take.new.self.bound (way_of c.in-Some.taken.node) ms (looked_in c.take.new.self) (waiting_in c.take.new.self) (waiting_in c.push_moves.new.frontier)) moves c.in_ok-push_moves.ensures.pushed in
    let wait' : ArePushed c.args.cuts.now c.args.bound (way_of c.in-Some.taken.node) c.in_ok-visit.visit.moves.items ((looked_in c.loop-frontier.frontier) ++ (way_of c.in-Some.taken.node) ∷ []) (waiting_in c.take.new.self) (waiting_in c.push_moves.new.frontier) = subst (λ (ws : List Way). ArePushed c.args.cuts.now c.args.bound (way_of c.in-Some.taken.node) c.in_ok-visit.visit.moves.items ws (waiting_in c.take.new.self) (waiting_in c.push_moves.new.frontier)) is.looked
    (subst (λ (cs : List Cut). ArePushed cs c.args.bound (way_of c.in-Some.taken.node) c.in_ok-visit.visit.moves.items (looked_in c.take.new.self) (waiting_in c.take.new.self) (waiting_in c.push_moves.new.frontier)) cuts (subst (λ b. ArePushed c.take.new.self.cuts.now b (way_of c.in-Some.taken.node) c.in_ok-visit.visit.moves.items (looked_in c.take.new.self) (waiting_in c.take.new.self) (waiting_in c.push_moves.new.frontier)) bound wait)) in
    record {
      back = now;
      sound = c.in_ok-push_moves.ensures.sound;
      facts = c.in_ok-push_moves.ensures.alike.facts ∙ is.alike.facts ∙ c.loop-frontier.invariant.facts;
      cuts = c.in_ok-push_moves.ensures.alike.cuts ∙ cuts;
      bound = c.in_ok-push_moves.ensures.alike.bound ∙ bound;
      searched = subst (λ (ws : List Way). IsSearched (g.S.Space.size c.args.space.now) (g.S.Space.CanMove c.args.space.now) (CanGain (g.S.Space.CanMove c.args.space.now) (g.S.Space.Gains c.args.space.now)) (g.S.Space.HasGoal c.args.space.now) c.args.cuts.now c.args.bound c.match-visit.long ws (waiting_in c.push_moves.new.frontier)) (sym pushed)
          (looked_at (g.S.Space.size c.args.space.now) (g.S.Space.CanMove c.args.space.now) (CanGain (g.S.Space.CanMove c.args.space.now) (g.S.Space.Gains c.args.space.now)) (g.S.Space.HasGoal c.args.space.now) c.args.cuts.now c.args.bound c.loop-frontier.long c.match-visit.long (looked_in c.loop-frontier.frontier) (waiting_in c.take.new.self) (waiting_in c.push_moves.new.frontier) (way_of c.in-Some.taken.node) (taken (g.S.Space.size c.args.space.now) (g.S.Space.CanMove c.args.space.now) (CanGain (g.S.Space.CanMove c.args.space.now) (g.S.Space.Gains c.args.space.now)) (g.S.Space.HasGoal c.args.space.now) c.args.cuts.now c.args.bound c.loop-frontier.long (looked_in c.loop-frontier.frontier) (waiting_in c.loop-frontier.frontier) (waiting_in c.take.new.self) (way_of c.in-Some.taken.node) c.loop-frontier.invariant.searched next) next.least (gains_guide (g.S.Space.CanMove c.args.space.now) (g.S.Space.Gains c.args.space.now) (g.S.Space.HasGoal c.args.space.now) c.args.cuts.now (guide_of (g.S.Space.size c.args.space.now) (g.S.Space.CanMove c.args.space.now) (g.S.Space.HasRun c.args.space.now) (g.S.Space.HasGoal c.args.space.now) c.args.cuts.now (g.met.S.Space.is_space c.args.space.now) c.requires.cuts c.requires.grow)) ends.0 ends.1 wait'.kept
          (pushed_only (g.S.Space.size c.args.space.now) (g.S.Space.CanMove c.args.space.now) c.args.cuts.now c.args.bound (way_of c.in-Some.taken.node) c.in_ok-visit.visit.moves.items ((looked_in c.loop-frontier.frontier) ++ (way_of c.in-Some.taken.node) ∷ []) (waiting_in c.take.new.self) (waiting_in c.push_moves.new.frontier) wait' way_is possible (λ move can. (guide_of (g.S.Space.size c.args.space.now) (g.S.Space.CanMove c.args.space.now) (g.S.Space.HasRun c.args.space.now) (g.S.Space.HasGoal c.args.space.now) c.args.cuts.now (g.met.S.Space.is_space c.args.space.now) c.requires.cuts c.requires.grow).falls c.in-Some.taken.node.set.items move can))
          (pushed_reached (g.S.Space.size c.args.space.now) (CanGain (g.S.Space.CanMove c.args.space.now) (g.S.Space.Gains c.args.space.now)) c.args.cuts.now c.args.bound (way_of c.in-Some.taken.node) c.in_ok-visit.visit.moves.items ((looked_in c.loop-frontier.frontier) ++ (way_of c.in-Some.taken.node) ∷ []) (waiting_in c.take.new.self) (waiting_in c.push_moves.new.frontier) wait' complete));
      long = ends.2;
      distinct = subst (λ (ws : List Way). AreDistinct (sets_of ws)) (sym pushed) (rw (sets_push (looked_in c.loop-frontier.frontier) (way_of c.in-Some.taken.node)) (distinct_push (sets_of (looked_in c.loop-frontier.frontier)) c.in-Some.taken.node.set.items c.loop-frontier.invariant.distinct next.new));
      counted = subst (λ (ws : List Way). IsCounted (g.S.Space.HasRun c.args.space.now) (length ws) (c.loop-frontier.units + 1 + c.in_ok-visit.visit.fired)) (sym pushed) (subst (λ k. IsCounted (g.S.Space.HasRun c.args.space.now) k (c.loop-frontier.units + 1 + c.in_ok-visit.visit.fired)) more (counted_more (g.S.Space.HasRun c.args.space.now) (length (looked_in c.loop-frontier.frontier)) c.loop-frontier.units c.in_ok-visit.visit.fired c.deref.result.now c.loop-frontier.invariant.counted its));
      units = omega arith;
      low = λ way there. ⊎_elim (λ old. c.loop-frontier.invariant.low way old) (λ e. subst (λ (w : Way). sum_of c.args.cuts.now w < c.args.bound) e next.low) (Contains-push_cases (looked_in c.loop-frontier.frontier) (way_of c.in-Some.taken.node) way (subst (λ (ws : List Way). Contains ws way) pushed there));
      spend = subst (λ (ws : List Way). CanSpend (g.S.Space.HasRun c.args.space.now) ws (c.loop-frontier.units + 1 + c.in_ok-visit.visit.fired)) (sym pushed)
          (spend_more (g.S.Space.HasRun c.args.space.now) (looked_in c.loop-frontier.frontier) (way_of c.in-Some.taken.node) c.loop-frontier.units c.in_ok-visit.visit.fired c.loop-frontier.invariant.spend path_run);
    }
