use Rattle.std.proofs.Common.{◌≡◌, ◌+◌, ◌≤◌, ◌∷◌, [], ◌++◌, Some, None, length, take, sym, subst, rules, arith}
use Rattle.std.specs.Prelude.{slice_get}
use Rattle.std.proofs.lemmas.List.{take_all, length-take-le}
use Rattle.lists.proofs.Places.{take_got, got_none}
use Rattle.accessible_copy.specs.OpenFacts.{AreHolders}
use Rattle.accessible_copy.proofs.HeldValues.{holders_more}
use Rattle.accessible_copy.proofs.holders.Holders.of.Goals.{in-Some+in_ok-add_all, in_default}
use Rattle.accessible_copy.proofs.holders.Holders.of.Goals as goal

pub loop-number-preserved : goal.loop-number-preserved
loop-number-preserved c =
    let low : c.loop-number.number ≤ length c.args.facts.now = let t = c.loop-number-test.true in let n = c.len-number-end.ensures in omega arith in
    let long : c.loop-number.number ≡ length (take c.loop-number.number c.args.facts.now) = sym (length-take-le c.loop-number.number c.args.facts.now low) in
    elim c.match-get.branch [
      | in-Some+in_ok-add_all w ↦
          let got : slice_get c.args.facts.now c.loop-number.number ≡ Some w.in-Some.fact.now = search rules in
          let turn : take (c.loop-number.number + 1) c.args.facts.now ≡ take c.loop-number.number c.args.facts.now ++ w.in-Some.fact.now ∷ [] = take_got c.args.facts.now c.loop-number.number w.in-Some.fact.now got in
          rw (w.holders-is, turn)
          (holders_more (take c.loop-number.number c.args.facts.now) w.in-Some.fact.now c.loop-number.holders w.add_all.new.self c.loop-number.number long c.loop-number.invariant
          (rw w.as_slice.ensures at w.in_ok-add_all.ensures.here) w.in_ok-add_all.ensures.kept)
      | in_default w ↦
          let none : slice_get c.args.facts.now c.loop-number.number ≡ None = search rules in
          let beyond = got_none c.args.facts.now c.loop-number.number none in
          let t = c.loop-number-test.true in let n = c.len-number-end.ensures in absurd (omega arith)
    ]

pub returns : goal.returns
returns c =
    let beyond : length c.args.facts.now ≤ c.loop-number.number = let t = c.loop-number-test.false in let n = c.len-number-end.ensures in omega arith in
    subst (λ l. AreHolders l c.loop-number.holders) (take_all c.loop-number.number c.args.facts.now beyond) c.loop-number.invariant
