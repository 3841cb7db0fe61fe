use Rattle.meaning.specs.declared.types.Val.TheVariants.{Const}
use Rattle.meaning.specs.Matching.{MeetsAll, GroundsOf}
use Rattle.meaning.specs.Triggers.{IsQuiet}
use Rattle.rule_pass.proofs.Steps.{none_then}
use Rattle.rule_pass.proofs.OnePass.{met_quiet}
use Rattle.rule_pass.proofs.choose.active.Goals as goal

pub returns-clause-quiet : goal.returns-clause-quiet
returns-clause-quiet c = none_then c.in_ok-first_active.field-0 (MeetsAll Const (GroundsOf c.args.state.now.facts) c.args.rules.now) (IsQuiet c.args.rules.now c.args.state.now) (met_quiet c.args.rules.now c.args.state.now) c.in_ok-first_active.ensures.none
