use Rattle.std.proofs.Common.{subst}
use Rattle.row_text.specs.Starts.{IsStart}
use Rattle.crawl.proofs.Starts.{text-decides}
use Rattle.crawl.proofs.started.StartedTextOrd.cmp.Goals as goal

pub returns-in_default : goal.returns-in_default
returns-in_default c =
    let its = subst (IsStart c.self.inside.start) c.self.view_is c.self.invariant in
    let others = subst (IsStart c.other.inside.start) c.other.view_is c.other.invariant in
    text-decides c.args.self.now c.args.other.now c.self.inside.start c.other.inside.start
    c.cmp.result its others c.cmp.ensures c.in_default.not-Equal
