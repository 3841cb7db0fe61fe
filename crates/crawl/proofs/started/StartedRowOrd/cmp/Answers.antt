use Rattle.std.proofs.Common.{subst}
use Rattle.meaning.specs.Values.{Row}
use Rattle.row_text.specs.Starts.{IsStart, first_of}
use Rattle.crawl.proofs.Starts.{row-decides}
use Rattle.crawl.proofs.started.StartedRowOrd.cmp.Goals as goal

pub returns-in_default : goal.returns-in_default
returns-in_default c =
    let its = subst (λ (row : Row). IsStart c.self.inside.start (first_of row)) c.self.view_is c.self.invariant in
    let others = subst (λ (row : Row). IsStart c.other.inside.start (first_of row)) c.other.view_is c.other.invariant in
    row-decides c.args.self.now c.args.other.now c.self.inside.start c.other.inside.start
    c.cmp.result its others c.cmp.ensures c.in_default.not-Equal
