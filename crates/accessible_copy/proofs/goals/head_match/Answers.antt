use Rattle.std.proofs.Common.{replicate}
use Rattle.std.specs.Prelude.{None}
use Rattle.meaning.specs.declared.types.Val.TheVariants.{Const}
use Rattle.meaning.specs.Matching.{IsQueryAnswer, GroundsOf}
use Rattle.homomorphism.specs.Narrowing.{Narrows, Differs}
use Rattle.homomorphism.specs.Matches.{NoMatch}
use Rattle.rule_pass.proofs.Steps.{none_then}
use Rattle.accessible_copy.proofs.HeadMatches.{head_none, head_differs}
use Rattle.accessible_copy.proofs.goals.head_match.Goals as goal

pub returns-in_ok-first_match-in-Some-clause-none : goal.returns-in_ok-first_match-in-Some-clause-none
returns-in_ok-first_match-in-Some-clause-none c =
    let n : Narrows c.args.query.now.head c.args.head.now (replicate c.args.query.now.variables None) c.in-Some.narrow = rw c.in-Some.is at (rw c.as_slice.ensures at (rw c.as_slice-2.ensures at (rw c.in_ok-given.ensures at c.in_ok-narrow.ensures))) in
    none_then c.in_ok-first_match-in-Some.field-0 (NoMatch c.args.store.now c.args.query.now.atoms c.in-Some.narrow) (IsQueryAnswer Const (GroundsOf c.args.store.now) c.args.query.now c.args.head.now → ⊥)
    (head_none c.args.store.now c.args.query.now c.args.head.now c.in-Some.narrow n) c.in_ok-first_match-in-Some.ensures.none

pub returns-in-None-clause-none : goal.returns-in-None-clause-none
returns-in-None-clause-none c =
    let n : Differs c.args.query.now.head c.args.head.now (replicate c.args.query.now.variables None) = rw c.in-None.is at (rw c.as_slice.ensures at (rw c.as_slice-2.ensures at (rw c.in_ok-given.ensures at c.in_ok-narrow.ensures))) in
    head_differs c.args.store.now c.args.query.now c.args.head.now n
