use Rattle.std.proofs.Common.{Ok, true, ap, arith}
use Rattle.meaning.specs.Runs.{base_state}
use Rattle.access_schema.specs.Meaning.{meaning_of}
use Rattle.rule_pass.proofs.OnePass.{met_quiet}
use Rattle.proof_search.specs.Searches.{IsSearch}
use Rattle.proof_search.proofs.Searching.{copies_quiet, copies_go_on, settled_search}
use Rattle.proof_search.proofs.proving.fire_copies.Goals as goal

pub settle-requires-clause-quiet : goal.settle-requires-clause-quiet
settle-requires-clause-quiet c = λ e. met_quiet c.args.schema.now.rules (base_state c.args.proof.now.end) c.requires.met

pub returns-in-Quiet-clause-quiet : goal.returns-in-Quiet-clause-quiet
returns-in-Quiet-clause-quiet c = λ e.
    copies_quiet (meaning_of c.args.schema.now) c.args.proof.now c.settle.new.proof c.requires.search.run c.settle.ensures.run c.settle.ensures.more c.requires.met c.requires.exposed
    (c.in_ok-settle.ensures.quiet (ap Ok c.in-Quiet.is))

pub returns-in-Spent-clause-spent : goal.returns-in-Spent-clause-spent
returns-in-Spent-clause-spent c = λ e.
    let spent = c.in_ok-settle.ensures.spent (ap Ok c.in-Spent.is) in
    let few = c.settle.ensures.budget in
    let search = c.requires.search in
    let low = search.few in
    let its : IsSearch (meaning_of c.args.schema.now) c.args.firings c.args.proof.now.start c.args.proof.now.constants c.settle.new.proof =
    settled_search (meaning_of c.args.schema.now) c.args.firings true c.args.proof.now c.settle.new.proof search c.requires.exposed c.settle.ensures.more c.settle.ensures.run (omega arith) in
    (spent.0, copies_go_on (meaning_of c.args.schema.now) c.args.proof.now c.settle.new.proof c.requires.search.run c.settle.ensures.run c.settle.ensures.more c.requires.met c.requires.exposed its.ordered spent.1)
