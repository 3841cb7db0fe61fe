use Rattle.std.proofs.Common.{◌≡◌, ◌<◌, ◌+◌, ◌-◌, ◌++◌, ◌∷◌, ◌∙◌, [], Some, ap, length, slice_get, refl, arith}
use Rattle.std.proofs.lemmas.Option.{slice_get_read}
use Rattle.source_trait.specs.declared.request_log.Shape.{Shape}
use Rattle.source_trait.specs.RequestLog.{shapes_of}
use Rattle.source_trait.proofs.RequestLogs.{ends_shape, last_low, shapes_counted}
use Rattle.source_trait.proofs.request_log.count_one.Goals as goal

pub overflow_add-run : goal.overflow_add-run
overflow_add-run c =
    let runs = c.args.runs.now.items in
    let size : c.len-last.result ≡ length runs = c.len-last.ensures ∙ c.args.runs.now.ok.0 in
    let below : c.len-last.result - 1 < length runs = omega (arith, size, c.requires.some) in
    let at : slice_get runs (c.len-last.result - 1) ≡ Some c.index_mut-run.result.now = slice_get_read runs (length runs) (c.len-last.result - 1) c.index_mut-run.result.now refl below c.index_mut-run.ensures.value in
    omega (arith, last_low runs (c.len-last.result - 1) c.index_mut-run.result.now at, c.requires.room)

pub returns : goal.returns
returns c = λ shape ends.
    let runs = c.args.runs.now.items in
    let size : c.len-last.result ≡ length runs = c.len-last.ensures ∙ c.args.runs.now.ok.0 in
    let below : c.len-last.result - 1 < length runs = omega (arith, size, c.requires.some) in
    let at : slice_get runs (c.len-last.result - 1) ≡ Some c.index_mut-run.result.now = slice_get_read runs (length runs) (c.len-last.result - 1) c.index_mut-run.result.now refl below c.index_mut-run.ensures.value in
    let last : c.len-last.result - 1 + 1 ≡ length runs = omega (arith, size, c.requires.some) in
    shapes_counted runs (c.len-last.result - 1) c.index_mut-run.result.now last at
    ∙ ap (λ (s : Shape). shapes_of runs ++ s ∷ []) (ends_shape runs (c.len-last.result - 1) c.index_mut-run.result.now shape last at ends)
