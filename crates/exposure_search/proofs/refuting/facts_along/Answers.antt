use Rattle.std.proofs.Common.{◌≡◌, ◌∙◌, ◌∷◌, ◌++◌, [], take, ap, sym}
use Rattle.std.specs.Prelude.{slice_index_or}
use Rattle.std.proofs.lemmas.List.{take_all}
use Rattle.std.proofs.lemmas.Option.{slice_get-get_or}
use Rattle.lists.proofs.Members.{contains_got}
use Rattle.exposure_search.specs.Making.{fact_at}
use Rattle.exposure_search.specs.Ahead.{facts_along}
use Rattle.exposure_search.proofs.Missing.{along_more}
use Rattle.exposure_search.proofs.refuting.facts_along.Goals as goal

pub fact_at-requires : goal.fact_at-requires
fact_at-requires c =
    let step = slice_index_or c.args.path.now c.loop-step.step-index (record { fact = 0; method = 0; cost = 0 }) in
    c.requires step (contains_got c.args.path.now c.loop-step.step-index step (slice_get-get_or c.args.path.now c.loop-step.step-index (record { fact = 0; method = 0; cost = 0 }) c.loop-step-test.true))

pub loop-step-preserved : goal.loop-step-preserved
loop-step-preserved c =
    let step = slice_index_or c.args.path.now c.loop-step.step-index (record { fact = 0; method = 0; cost = 0 }) in
    let at = slice_get-get_or c.args.path.now c.loop-step.step-index (record { fact = 0; method = 0; cost = 0 }) c.loop-step-test.true in
    let copied : c.in_ok-copy.field-0 ≡ fact_at c.args.facts.now step.fact = c.in_ok-copy.ensures ∙ c.fact_at.ensures in
    let pushed : c.push.new.self.items ≡ c.loop-step.copies.items ++ fact_at c.args.facts.now step.fact ∷ [] = c.in_ok-push.ensures.items ∙ ap (λ fact. c.loop-step.copies.items ++ fact ∷ []) copied in
    let before : c.loop-step.copies.items ≡ facts_along c.args.facts.now (take c.loop-step.step-index c.args.path.now) = c.loop-step.invariant in
    pushed ∙ ap (λ facts. facts ++ fact_at c.args.facts.now step.fact ∷ []) before ∙ sym (along_more c.args.facts.now c.args.path.now c.loop-step.step-index step at)

pub returns : goal.returns
returns c = c.loop-step.invariant ∙ ap (facts_along c.args.facts.now) (take_all c.loop-step.step-index c.args.path.now c.loop-step-test.false)
