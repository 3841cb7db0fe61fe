use Rattle.std.proofs.Common.{◌+◌, ◌∙◌, ap}
use Rattle.pq_text.specs.Lines.{number_at}
use Rattle.pq_text.proofs.Lines.{number_step}
use Rattle.pq_text.proofs.cut.number_after.Goals as goal

pub returns : goal.returns
returns c =
    ap (λ n. n + c.feeds.result) c.requires.number ∙ ap (λ n. number_at c.args.text.now c.args.counted + n) c.feeds.ensures.feeds ∙ number_step c.args.text.now c.args.counted c.args.place c.requires.order
