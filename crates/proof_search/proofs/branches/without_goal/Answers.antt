use Rattle.std.proofs.Common.{List, sym, subst}
use Rattle.meaning.specs.declared.types.Firing.{Firing}
use Rattle.meaning.specs.Runs.{HasGoal}
use Rattle.access_schema.specs.Meaning.{meaning_of}
use Rattle.proof_search.specs.Branches.{IsSpentLog}
use Rattle.proof_search.proofs.Found.{spent_log}
use Rattle.proof_search.proofs.RefutingPairs.{stuck_pair}
use Rattle.proof_search.proofs.branches.without_goal.Goals as goal

pub returns-then-quiet : goal.returns-then-quiet
returns-then-quiet c =
    stuck_pair c.args.question.now c.requires.question c.args.proof.now c.requires.search c.requires.goal (c.requires.quiet c.if-quiet.true)
    c.in_ok-pair.pair c.in_ok-pair.ensures

pub returns : goal.returns
returns c =
    let question = c.args.question.now in
    let schema = meaning_of question.schema.now in
    let proof = c.args.proof.now in
    let spent = c.requires.spent c.if-quiet.false in
    subst (λ (log : List Firing). IsSpentLog schema question.known.now question.queries.now question.firings question.query.now log)
    (sym c.in_ok-log.ensures)
    (spent_log schema question.known.now question.queries.now question.firings question.query.now proof c.requires.search
    (λ has. c.requires.goal (subst (HasGoal question.queries.now proof.end) (sym c.requires.question.head) has)) spent.0 spent.1)
