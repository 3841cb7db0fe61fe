use Rattle.std.proofs.Common.{arith, ap, append_assoc, sym, ◌∙◌, ◌∷◌, ◌++◌, rules, subst, length, ◌≡◌, [], take, drop, ◌-◌, Contains}
use Rattle.std.proofs.lemmas.Grind.{common_steps}
use Rattle.std.proofs.lemmas.List.{map-id}
use Rattle.std.proofs.lemmas.Iterator.Consumers.{YieldsList-so_far, YieldsList-turn, YieldsList-end}
use Rattle.std.proofs.lemmas.Iterator.Adapters.{YieldsList-from_vec}
use Rattle.homomorphism.proofs.AtomByAtom.{matches_none, matches_at, turn_collect, fits_at, covered_at, is_among, Collected}
use Rattle.homomorphism.proofs.Binding.{none_left}
use Rattle.homomorphism.specs.Ways.{AreWays}
use Rattle.homomorphism.specs.Matches.{AreCovered}
use Rattle.homomorphism.proofs.matching.+every.Goals as goal

pub returns-in_default : goal.returns-in_default
returns-in_default t c =
    let none : c.args.atoms.now ≡ [] = none_left c.args.atoms.now c.in_default.len_below in
    let covered : AreCovered [] c.args.given = subst (λ z. AreCovered z c.args.given) none c.requires.covered in
    (c.in_ok-assignment.field-0 ∷ [], c.in_ok-push.ensures.items, rw none (matches_none c.args.store.now c.args.given c.in_ok-assignment.field-0 covered c.in_ok-assignment.ensures))

pub every-requires : goal.every-requires
every-requires t c =
    let ways = c.in_ok-way-items.way-items.items in
    let turn = YieldsList-turn (YieldsList-from_vec {s = c.into_iter-way-iterator.result} ways (search rules) (search rules))
    c.loop-way.yielded c.loop-way.way-iterator c.loop-way.yielded_by c.next.result c.next.new.self c.in-Some.way c.in-Some.is c.next.ensures.steps in
    let w : AreWays c.args.store.now c.atom-item.result c.args.given ways = c.in_ok-way-items.ensures in
    let among : Contains ways c.in-Some.way = is_among ways (length c.loop-way.yielded) c.in-Some.way turn.0 turn.1 in (
      grind (arith, common_steps),
      (
        fits_at c.args.store.now c.args.atoms.now c.atom-item.result c.args.given ways c.in-len1-up.len_at_least c.atom-item.is w c.in-Some.way among c.requires.fits,
        covered_at c.args.store.now c.args.atoms.now c.atom-item.result c.args.given ways c.in-len1-up.len_at_least c.atom-item.is w c.in-Some.way among c.requires.covered,
      ),
    )

pub loop-way-preserved : goal.loop-way-preserved
loop-way-preserved t c =
    let ways = c.in_ok-way-items.way-items.items in
    let road = YieldsList-from_vec {s = c.into_iter-way-iterator.result} ways (search rules) (search rules) in
    let turn = YieldsList-turn road c.loop-way.yielded c.loop-way.way-iterator c.loop-way.yielded_by c.next.result c.next.new.self c.in-Some.way c.in-Some.is c.next.ensures.steps in
    let front = sym (map-id c.loop-way.yielded) ∙ YieldsList-so_far road c.loop-way.yielded c.loop-way.way-iterator c.loop-way.yielded_by in
    let w : AreWays c.args.store.now c.atom-item.result c.args.given ways = c.in_ok-way-items.ensures in
    let (found, is, so) = c.loop-way.invariant in
    let (more, added, are) = c.in_ok-every.ensures in
    (found ++ more, added ∙ ap (λ all. all ++ more) is ∙ append_assoc _ found more, turn_collect _ _ _ ways c.loop-way.yielded c.in-Some.way found more front turn.0 turn.1 w.apart (w.width c.in-Some.way (is_among ways (length c.loop-way.yielded) c.in-Some.way turn.0 turn.1)) so are)

pub returns : goal.returns
returns t c =
    let ways = c.in_ok-way-items.way-items.items in
    let road = YieldsList-from_vec {s = c.into_iter-way-iterator.result} ways (search rules) (search rules) in
    let end = YieldsList-end road c.loop-way.yielded c.loop-way.way-iterator c.loop-way.yielded_by c.next.result c.next.new.self c.in-None.is c.next.ensures.steps in
    let w : AreWays c.args.store.now c.atom-item.result c.args.given ways = c.in_ok-way-items.ensures in
    let (found, is, so) = c.loop-way.invariant in (
      found,
      is,
      matches_at c.args.store.now c.args.atoms.now c.atom-item.result c.args.given ways c.in-len1-up.len_at_least c.atom-item.is w found
          (subst (λ z. Collected c.args.store.now (take (length c.args.atoms.now - 1) (drop 1 c.args.atoms.now)) c.args.given z found) (sym (map-id c.loop-way.yielded) ∙ end.0) so),
    )
