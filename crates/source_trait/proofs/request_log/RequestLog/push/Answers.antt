use Rattle.std.proofs.Common.{◌≡◌, ◌++◌, ◌∷◌, ◌∙◌, [], List, ap, sym}
use Rattle.source_trait.specs.declared.request_log.Shape.{Shape}
use Rattle.source_trait.specs.RequestLog.{shapes_of}
use Rattle.source_trait.proofs.RequestLogs.{log_more}
use Rattle.source_trait.proofs.request_log.RequestLog.push.Goals as goal

pub returns-clause-noted : goal.returns-clause-noted
returns-clause-noted c =
    let log = c.self.inside in
    let shape : Shape = record { rel = c.args.rel; positions = c.args.positions.now; width = c.len.result } in
    let grown : shapes_of c.count_one.new.runs.items ≡ shapes_of log.runs.items ++ shape ∷ [] =
    c.count_one.ensures shape c.in_ok-open_run.ensures.open ∙ ap (λ (l : List Shape). l ++ shape ∷ []) c.open_run.ensures.same in
    let filled : c.push_all.new.self ≡ log.values ++ c.args.values.now = c.in_ok-push_all.ensures.added ∙ ap (λ l. log.values ++ l) c.as_slice.ensures in
    rw (← c.self.view_is) (log_more (shapes_of log.runs.items) (shapes_of c.count_one.new.runs.items) shape log.values c.push_all.new.self c.args.values.now log.count grown filled (sym c.len.ensures) c.self.invariant).1
