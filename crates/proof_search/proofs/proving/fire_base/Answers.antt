use Rattle.std.proofs.Common.{Ok, false, ap, arith}
use Rattle.access_schema.specs.Meaning.{meaning_of}
use Rattle.accessible_copy.proofs.Pushing.{goes_base}
use Rattle.proof_search.specs.Searches.{IsSearch}
use Rattle.proof_search.proofs.Searching.{settled_part, settled_search}
use Rattle.proof_search.proofs.proving.fire_base.Goals as goal

pub returns-in-Quiet-clause-part : goal.returns-in-Quiet-clause-part
returns-in-Quiet-clause-part c = settled_part (meaning_of c.args.schema.now) c.args.proof.now c.settle.new.proof c.requires.empty c.settle.ensures.more

pub returns-in-Spent-clause-part : goal.returns-in-Spent-clause-part
returns-in-Spent-clause-part c = settled_part (meaning_of c.args.schema.now) c.args.proof.now c.settle.new.proof c.requires.empty c.settle.ensures.more

pub returns-in-Spent-clause-spent : goal.returns-in-Spent-clause-spent
returns-in-Spent-clause-spent c = λ e.
    let spent = c.in_ok-settle.ensures.spent (ap Ok c.in-Spent.is) in
    let few = c.settle.ensures.budget in
    let search = c.requires.search in
    let low = search.few in
    let its : IsSearch (meaning_of c.args.schema.now) c.args.firings c.args.proof.now.start c.args.proof.now.constants c.settle.new.proof =
    settled_search (meaning_of c.args.schema.now) c.args.firings false c.args.proof.now c.settle.new.proof search tt c.settle.ensures.more c.settle.ensures.run (omega arith) in
    (spent.0, goes_base (meaning_of c.args.schema.now) c.settle.new.proof c.settle.ensures.run its.ordered spent.1)
