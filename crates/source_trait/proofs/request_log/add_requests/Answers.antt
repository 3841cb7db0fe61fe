use Rattle.std.proofs.Common.{◌<◌, ◌++◌, ◌∙◌, List, ap, sym, append_assoc, arith}
use Rattle.meaning.specs.declared.types.Request.{Request}
use Rattle.source_trait.proofs.RequestLogs.{next_request, next_width}
use Rattle.source_trait.proofs.request_log.add_requests.Goals as goal

pub loop-preserved : goal.loop-preserved
loop-preserved c =
    let run = c.args.run.now in
    let done = c.loop.requests in
    let below : c.loop.counter < run.count = omega (arith, c.loop-test.true) in
    let width = next_width run.count c.loop.counter run.shape below in
    record {
      all = λ later. rw (c.in_ok-push.ensures.ok, c.split_at.ensures.back, c.in_ok-copy.ensures, c.in_ok-first_values.ensures)
          (append_assoc done _ _ ∙ ap (λ (l : List Request). done ++ l) (sym (next_request run.count c.loop.counter run.shape later c.loop.left.now below)) ∙ c.loop.invariant.all later);
      behind = omega (arith, width, c.loop.invariant.behind, c.split_at.ensures.back_len);
    }
