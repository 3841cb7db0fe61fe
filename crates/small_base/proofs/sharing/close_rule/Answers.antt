use Rattle.std.proofs.Common.{◌≡◌, ◌∷◌, Some, slice_get}
use Rattle.homomorphism.proofs.AtomByAtom.{is_among}
use Rattle.access_schema.specs.Meaning.{meaning_of}
use Rattle.access_schema.proofs.Keeping.{rules_fit}
use Rattle.rule_pass.proofs.OnePass.{numbered_at}
use Rattle.small_base.proofs.Growing.{AreLeft, left_first, left_more, grows_on, match_trigger}
use Rattle.small_base.proofs.sharing.close_rule.Goals as goal

pub over-requires : goal.over-requires
over-requires c =
    (rules_fit c.args.schema.now c.args.schema.now.constants (λ t among. among)).numbered c.index-as_slice-number.result
    (is_among c.args.schema.now.rules c.args.number c.index-as_slice-number.result c.requires (rw c.as_slice.ensures at c.index-as_slice-number.is))

pub is_met-requires-clause-numbered : goal.is_met-requires-clause-numbered
is_met-requires-clause-numbered c =
    (rules_fit c.args.schema.now c.args.schema.now.constants (λ t among. among)).numbered c.index-as_slice-number.result
    (is_among c.args.schema.now.rules c.args.number c.index-as_slice-number.result c.requires (rw c.as_slice.ensures at c.index-as_slice-number.is))

pub is_met-requires-clause-width : goal.is_met-requires-clause-width
is_met-requires-clause-width c =
    let rule = c.index-as_slice-number.result in
    let is : c.loop-head.walk ≡ c.in-Some.one ∷ c.next.new.self = rw c.in-Some.is at c.in_ok-one.ensures.some in
    let left : AreLeft c.args.state.now.facts rule c.loop-head.walk = c.loop-head.invariant.left in
    left.matches.width c.in-Some.one (left_first c.args.state.now.facts rule c.loop-head.walk c.next.new.self c.in-Some.one left is)

pub fire_shared-requires-clause-trigger : goal.fire_shared-requires-clause-trigger
fire_shared-requires-clause-trigger c =
    let rule = c.index-as_slice-number.result in
    let numbered : slice_get c.args.schema.now.rules c.args.number ≡ Some rule = numbered_at c.args.schema.now.rules c.args.number rule c.requires (rw c.as_slice.ensures at c.index-as_slice-number.is) in
    let is : c.loop-head.walk ≡ c.in-Some.one ∷ c.next.new.self = rw c.in-Some.is at c.in_ok-one.ensures.some in
    let left : AreLeft c.args.state.now.facts rule c.loop-head.walk = c.loop-head.invariant.left in (
      rule,
      match_trigger c.args.schema.now.rules c.args.state.now.facts c.loop-head.state.facts c.args.number c.next-fresh.result rule left.found c.in-Some.one numbered left.matches
          (left_first c.args.state.now.facts rule c.loop-head.walk c.next.new.self c.in-Some.one left is) c.loop-head.invariant.grows.within,
    )

pub returns-then-len-most : goal.returns-then-len-most
returns-then-len-most c = grows_on (meaning_of c.args.schema.now) c.args.state.now.facts c.args.state.now.next c.loop-head.state c.fire_shared.new.state c.loop-head.invariant.grows c.in_ok-fire_shared.ensures

pub loop-head-preserved-then-not-branch : goal.loop-head-preserved-then-not-branch
loop-head-preserved-then-not-branch c =
    let is : c.loop-head.walk ≡ c.in-Some.one ∷ c.next.new.self = rw c.in-Some.is at c.in_ok-one.ensures.some in
    record {
      grows = grows_on (meaning_of c.args.schema.now) c.args.state.now.facts c.args.state.now.next c.loop-head.state c.fire_shared.new.state c.loop-head.invariant.grows c.in_ok-fire_shared.ensures;
      left = left_more c.args.state.now.facts c.index-as_slice-number.result c.loop-head.walk c.next.new.self c.in-Some.one is c.loop-head.invariant.left;
    }

pub loop-head-preserved : goal.loop-head-preserved
loop-head-preserved c =
    let is : c.loop-head.walk ≡ c.in-Some.one ∷ c.next.new.self = rw c.in-Some.is at c.in_ok-one.ensures.some in
    record {
      grows = c.loop-head.invariant.grows;
      left = left_more c.args.state.now.facts c.index-as_slice-number.result c.loop-head.walk c.next.new.self c.in-Some.one is c.loop-head.invariant.left;
    }

pub returns : goal.returns
returns c = c.loop-head.invariant.grows
