use Rattle.std.proofs.Common.{◌≡◌, rules}
use Rattle.std.specs.Prelude.{false, is_some}
use Rattle.meaning.specs.declared.types.Val.TheVariants.{Const}
use Rattle.meaning.specs.Matching.{IsQueryAnswer, GroundsOf}
use Rattle.exposure_search.proofs.Refuted.{none_said}
use Rattle.proof_search.proofs.goals.has_answer.Goals as goal

pub returns : goal.returns
returns c e =
    let none : is_some c.in_ok-head_match.field-0 ≡ false = search (e, rules) in
    none_said c.in_ok-head_match.field-0 (IsQueryAnswer Const (GroundsOf c.args.facts.now) c.args.query.now c.args.head.now → ⊥) none c.in_ok-head_match.ensures.none
