use Rattle.std.proofs.Common.{◌≡◌}
use Rattle.source_trait.specs.declared.request_log.Shape.{Shape}
use Rattle.source_trait.proofs.RequestLogs.{ends_opened, shapes_opened}
use Rattle.source_trait.proofs.request_log.open_run.Goals as goal

pub returns-clause-same : goal.returns-clause-same
returns-clause-same c =
    let shape : Shape = record { rel = c.args.rel; positions = c.in_ok-copy.field-0; width = c.args.width } in
    rw c.in_ok-push.ensures.items (shapes_opened c.args.runs.now.items shape)

pub returns-clause-open : goal.returns-clause-open
returns-clause-open c =
    let shape : Shape = record { rel = c.args.rel; positions = c.args.positions.now; width = c.args.width } in
    let same : c.in_ok-copy.field-0 ≡ c.args.positions.now = c.in_ok-copy.ensures in
    rw (c.in_ok-push.ensures.items, same) (ends_opened c.args.runs.now.items (record { shape = shape; count = 0 }))
