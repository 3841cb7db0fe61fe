use Rattle.std.proofs.Common.{◌∙◌, ap}
use Rattle.std.proofs.lemmas.Result.{IfOk-weaker}
use Rattle.std.specs.Prelude.{IfSome, Option, Some, None}
use Rattle.meaning.specs.Triggers.{bound}
use Rattle.homomorphism.proofs.Covering.{told}
use Rattle.data_verify.specs.declared.settling.Settled.{Settled}
use Rattle.data_verify.specs.Settling.{IsLeast, IsSettled}
use Rattle.data_verify.proofs.Stepping.{all_numbered, settled_is}
use Rattle.data_verify.proofs.settling.settle.Goals as goal

pub least-requires-clause-numbered : goal.least-requires-clause-numbered
least-requires-clause-numbered c = rw c.as_slice-3.ensures
    (all_numbered c.args.store.now c.args.rule.now c.in_ok-alone.alone c.first-item.result c.as_slice-2.result.now
    c.in_ok-found.found c.as_slice-2.ensures
    c.in-len1-up.len_at_least c.first-item.is c.in_ok-alone.ensures.body
    (told _ c.is_numbered.ensures c.if-not-is_numbered.false) c.in_ok-found.ensures c.requires)

pub least-requires-clause-width : goal.least-requires-clause-width
least-requires-clause-width c = rw c.as_slice-3.ensures
    (λ one h. c.in_ok-found.ensures.width one h ∙ ap bound c.in_ok-alone.ensures.body)

pub returns : goal.returns
returns c = IfOk-weaker c.least.result _ _ by (rw c.as_slice-3.ensures at c.least.ensures)
  where
    by : (found : Option Settled) → IsLeast c.args.store.now c.args.rule.now c.first-item.result c.in_ok-found.found
        found → IfSome found (IsSettled c.args.store.now c.args.rule.now)
    by None all = tt
    by (Some settled) least =
        settled_is c.args.store.now c.args.rule.now c.in_ok-alone.alone c.first-item.result c.as_slice-2.result.now
        c.in_ok-found.found c.as_slice-2.ensures
        c.in-len1-up.len_at_least c.first-item.is c.in_ok-alone.ensures.body
        (told _ c.is_numbered.ensures c.if-not-is_numbered.false) c.in_ok-found.ensures c.requires settled least
