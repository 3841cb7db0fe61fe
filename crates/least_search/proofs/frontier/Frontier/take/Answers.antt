use Rattle.std.proofs.Common.{◌≡◌, ◌<◌, ◌≤◌, ℕ, length, List, [], ◌∷◌, ◌++◌, ◌+◌, false, true, Some, Contains, sym, ap, ◌∙◌, subst, inl, inr, ⊎_elim, arith, rules}
use Rattle.least_search.specs.declared.table.Seen.TheVariants.{Looked}
use Rattle.least_search.specs.Ways.{Way}
use Rattle.least_search.specs.declared.cuts.Cut.{Cut}
use Rattle.least_search.specs.Cuts.{sum_of}
use Rattle.least_search.specs.Packing.{packed}
use Rattle.least_search.specs.Table.{seen_at}
use Rattle.least_search.specs.Frontier.{sets_of, way_of, way_at, looked_in, waiting_in, IsWaiterOf}
use Rattle.least_search.proofs.Steps.{contains_none}
use Rattle.least_search.proofs.Keeping.{Leaves, way_stays, way_before, way_waits, waiter_of, passed_over, looked_at_now, same_ways, way_dearer, looked_more}
use Rattle.least_search.proofs.frontier.Frontier.take.Goals as goal

pub returns-then-not-is_looked : goal.returns-then-not-is_looked
returns-then-not-is_looked c =
    let sound = c.loop-waiter.invariant.sound in
    let leaves : Leaves c.loop-waiter.self.waiting c.pop.new.self c.in-Some.waiter = record { stay = c.in-Some.ensures.stay; only = c.in-Some.ensures.only } in
    let way : way_of c.in_ok-taken.taken.node ≡ way_at c.loop-waiter.self.facts c.loop-waiter.self.paths c.in-Some.waiter.number = c.in_ok-taken.ensures.way in
    let key : c.in_ok-key.key ≡ packed c.in_ok-taken.taken.node.set.items = c.in_ok-key.ensures ∙ c.in_ok-taken.ensures.key in
    let key_is : c.in_ok-key.key ≡ packed (way_at c.loop-waiter.self.facts c.loop-waiter.self.paths c.in-Some.waiter.number).set = key ∙ ap (λ (w : Way). packed w.set) way in
    let known : c.get.result ≡ seen_at c.loop-waiter.self.table c.in_ok-taken.taken.key = search rules in
    let looked : looked_in c.loop-waiter.self ≡ looked_in c.args.self.now = same_ways c.loop-waiter.self c.args.self.now c.loop-waiter.invariant.alike.facts c.loop-waiter.invariant.paths c.loop-waiter.invariant.looked in
    let unlooked : c.is_looked.result ≡ false = search rules in
    let low = (sound.waiters c.in-Some.waiter c.in-Some.ensures.among).0 in
    let its : IsWaiterOf c.args.self.now.cuts.now c.args.self.now.bound (way_of c.in_ok-taken.taken.node) c.in-Some.waiter =
    subst (λ (w : Way). IsWaiterOf c.args.self.now.cuts.now c.args.self.now.bound w c.in-Some.waiter) (sym way)
    (subst (λ (cs : List Cut). IsWaiterOf cs c.args.self.now.bound (way_at c.loop-waiter.self.facts c.loop-waiter.self.paths c.in-Some.waiter.number) c.in-Some.waiter) c.loop-waiter.invariant.alike.cuts
    (subst (λ b. IsWaiterOf c.loop-waiter.self.cuts.now b (way_at c.loop-waiter.self.facts c.loop-waiter.self.paths c.in-Some.waiter.number) c.in-Some.waiter) c.loop-waiter.invariant.alike.bound
    (sound.waiters c.in-Some.waiter c.in-Some.ensures.among).1)) in
    let pushed : c.push.new.self.items ≡ c.loop-waiter.self.looked.items ++ c.in-Some.waiter.number ∷ [] = search rules in
    record {
      sound = looked_at_now c.loop-waiter.self.facts c.loop-waiter.self.paths c.loop-waiter.self.waiting c.pop.new.self c.in-Some.waiter leaves c.loop-waiter.self.cuts.now c.loop-waiter.self.bound c.loop-waiter.self.looked.items c.loop-waiter.self.table sound c.in_ok-key.key key_is
          c.put.new.self c.push.new.self.items low (record { here = c.in_ok-put.ensures.here; others = c.in_ok-put.ensures.others }) pushed;
      alike = record { facts = c.loop-waiter.invariant.alike.facts; cuts = c.loop-waiter.invariant.alike.cuts; bound = c.loop-waiter.invariant.alike.bound };
      next = record {
        new = λ there. c.is_looked.ensures.no unlooked (known ∙ ap (seen_at c.loop-waiter.self.table) c.in_ok-taken.ensures.key ∙ (sound.looked_are c.in_ok-taken.taken.node.set.items).1 (subst (λ (ws : List Way). Contains (sets_of ws) c.in_ok-taken.taken.node.set.items) (sym looked) there));
        among = c.loop-waiter.invariant.only (way_of c.in_ok-taken.taken.node) (subst (λ w. Contains (waiting_in c.loop-waiter.self) w) (sym way) (way_waits c.loop-waiter.self.facts c.loop-waiter.self.paths c.loop-waiter.self.waiting c.in-Some.waiter c.in-Some.ensures.among));
        low = (let sum : c.in-Some.waiter.sum ≡ sum_of c.args.self.now.cuts.now (way_of c.in_ok-taken.taken.node) = its.sum in let under : c.in-Some.waiter.sum < c.args.self.now.bound = its.low in omega arith);
        least = λ other there. subst (λ (w : Way). sum_of c.args.self.now.cuts.now w ≤ sum_of c.args.self.now.cuts.now other) (sym way) (subst (λ (cs : List Cut). sum_of cs (way_at c.loop-waiter.self.facts c.loop-waiter.self.paths c.in-Some.waiter.number) ≤ sum_of cs other) c.loop-waiter.invariant.alike.cuts
            (way_dearer c.loop-waiter.self.cuts.now c.loop-waiter.self.bound c.loop-waiter.self.facts c.loop-waiter.self.paths c.loop-waiter.self.waiting c.pop.new.self c.in-Some.waiter leaves c.loop-waiter.self.looked.items c.loop-waiter.self.table sound c.in-Some.ensures.among c.in-Some.ensures.least other there));
        stay = λ other there. ⊎_elim (λ waits. ⊎_elim (λ e. inl (way ∙ e)) (λ still. inr (inl still)) (way_stays c.loop-waiter.self.facts c.loop-waiter.self.paths c.loop-waiter.self.waiting c.pop.new.self c.in-Some.waiter leaves other waits)) (λ done. inr (inr done)) (c.loop-waiter.invariant.stay other there);
        only = λ other there. c.loop-waiter.invariant.only other (way_before c.loop-waiter.self.facts c.loop-waiter.self.paths c.loop-waiter.self.waiting c.pop.new.self c.in-Some.waiter leaves other there);
      };
      looked = looked_more c.loop-waiter.self.facts c.loop-waiter.self.paths c.loop-waiter.self.looked.items c.push.new.self.items c.in-Some.waiter.number (looked_in c.args.self.now) (way_of c.in_ok-taken.taken.node) looked way pushed;
      from = record {
        within = subst (λ (n : ℕ). n < length c.loop-waiter.self.paths) (sym c.in_ok-taken.ensures.number) low;
        at = ap (way_at c.loop-waiter.self.facts c.loop-waiter.self.paths) c.in_ok-taken.ensures.number ∙ sym way;
        key = c.in_ok-taken.ensures.key;
        held = c.in_ok-taken.ensures.held;
      };
    }

pub loop-waiter-preserved : goal.loop-waiter-preserved
loop-waiter-preserved c =
    let sound = c.loop-waiter.invariant.sound in
    let leaves : Leaves c.loop-waiter.self.waiting c.pop.new.self c.in-Some.waiter = record { stay = c.in-Some.ensures.stay; only = c.in-Some.ensures.only } in
    let way : way_of c.in_ok-taken.taken.node ≡ way_at c.loop-waiter.self.facts c.loop-waiter.self.paths c.in-Some.waiter.number = c.in_ok-taken.ensures.way in
    let key : c.in_ok-taken.taken.key ≡ packed c.in_ok-taken.taken.node.set.items = c.in_ok-taken.ensures.key in
    let key_is : c.in_ok-taken.taken.key ≡ packed (way_at c.loop-waiter.self.facts c.loop-waiter.self.paths c.in-Some.waiter.number).set = key ∙ ap (λ (w : Way). packed w.set) way in
    let known : c.get.result ≡ seen_at c.loop-waiter.self.table c.in_ok-taken.taken.key = search rules in
    let looked : looked_in c.loop-waiter.self ≡ looked_in c.args.self.now = same_ways c.loop-waiter.self c.args.self.now c.loop-waiter.invariant.alike.facts c.loop-waiter.invariant.paths c.loop-waiter.invariant.looked in
    let was : c.is_looked.result ≡ true = search rules in
    let done : seen_at c.loop-waiter.self.table c.in_ok-taken.taken.key ≡ Some Looked = sym known ∙ c.is_looked.ensures.yes was in
    let there : Contains (sets_of (looked_in c.args.self.now)) c.in_ok-taken.taken.node.set.items =
    subst (λ (ws : List Way). Contains (sets_of ws) c.in_ok-taken.taken.node.set.items) looked ((sound.looked_are c.in_ok-taken.taken.node.set.items).0 (ap (seen_at c.loop-waiter.self.table) (sym key) ∙ done)) in
    record {
      sound = passed_over c.loop-waiter.self.facts c.loop-waiter.self.paths c.loop-waiter.self.waiting c.pop.new.self c.in-Some.waiter leaves c.loop-waiter.self.cuts.now c.loop-waiter.self.bound c.loop-waiter.self.looked.items c.loop-waiter.self.table sound c.in_ok-taken.taken.key key_is done;
      alike = record { facts = c.loop-waiter.invariant.alike.facts; cuts = c.loop-waiter.invariant.alike.cuts; bound = c.loop-waiter.invariant.alike.bound };
      paths = c.loop-waiter.invariant.paths;
      looked = c.loop-waiter.invariant.looked;
      stay = λ other waited. ⊎_elim (λ waits. ⊎_elim (λ e. inr (subst (λ (w : Way). Contains (sets_of (looked_in c.args.self.now)) w.set) (way ∙ e) there)) (λ still. inl still)
          (way_stays c.loop-waiter.self.facts c.loop-waiter.self.paths c.loop-waiter.self.waiting c.pop.new.self c.in-Some.waiter leaves other waits)) (λ before. inr before) (c.loop-waiter.invariant.stay other waited);
      only = λ other waits. c.loop-waiter.invariant.only other (way_before c.loop-waiter.self.facts c.loop-waiter.self.paths c.loop-waiter.self.waiting c.pop.new.self c.in-Some.waiter leaves other waits);
    }

pub returns : goal.returns
returns c other waited =
    ⊎_elim (λ waits. let (waiter, there, is) = waiter_of c.loop-waiter.self.facts c.loop-waiter.self.paths c.loop-waiter.self.waiting other waits in
    absurd (contains_none c.loop-waiter.self.waiting waiter c.in_default.ensures.none there)) (λ done. done) (c.loop-waiter.invariant.stay other waited)

pub along-requires-clause-sum : goal.along-requires-clause-sum
along-requires-clause-sum c =
    let is : IsWaiterOf c.loop-waiter.self.cuts.now c.loop-waiter.self.bound (way_at c.loop-waiter.self.facts c.loop-waiter.self.paths c.in-Some.waiter.number) c.in-Some.waiter = (c.loop-waiter.invariant.sound.waiters c.in-Some.waiter c.in-Some.ensures.among).1 in
    is.sum ∙ ap (λ k. (way_at c.loop-waiter.self.facts c.loop-waiter.self.paths c.in-Some.waiter.number).cost + k) (sym is.due)

pub along-requires-clause-within : goal.along-requires-clause-within
along-requires-clause-within c = (c.loop-waiter.invariant.sound.waiters c.in-Some.waiter c.in-Some.ensures.among).0
