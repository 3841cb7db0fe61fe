use Rattle.std.proofs.Common.{◌≡◌, ◌∙◌, ◌≤◌, List, ap, sym, subst}
use Rattle.std.proofs.lemmas.Result.{IfOk-weaker}
use Rattle.meaning.specs.declared.types.Branch.{Branch}
use Rattle.meaning.specs.Extract.{branch_of, Exposure}
use Rattle.access_schema.specs.Meaning.{meaning_of}
use Rattle.plan_extract.specs.Lent.{exposures_of, values_in}
use Rattle.plan_extract.specs.Passes.{IsReadOff}
use Rattle.plan_extract.proofs.Extracted.{few_values}
use Rattle.plan_extract.proofs.extracting.read_kept.Goals as goal

pub kept-requires-clause-run : goal.kept-requires-clause-run
kept-requires-clause-run c = c.requires.proof.1.run

pub read_off-requires : goal.read_off-requires
read_off-requires c =
    let (query, its) = c.requires.proof in
    let are = c.in_ok-kept.ensures in
    subst (λ (list : List Exposure). values_in list ≤ 4294967296) (sym (ap exposures_of c.as_slice.ensures.value ∙ are.kept_is))
    (few_values c.args.schema.now c.args.proof.now c.args.head.now query its c.requires.known c.requires.few are.exposures are.shown are.marks)

pub returns : goal.returns
returns c =
    let kept = exposures_of c.in_ok-kept.kept.items in
    IfOk-weaker c.read_off.result (λ (branch : Branch). branch ≡ branch_of (exposures_of c.as_slice.result.now) c.as_slice-2.result.now)
    (IsReadOff (meaning_of c.args.schema.now) c.args.proof.now c.args.atoms.items c.args.head.now)
    (λ branch is. record {
      kept = kept;
      are_kept = c.in_ok-kept.ensures;
      branch_is = is ∙ ap (λ list. branch_of (exposures_of list) c.as_slice-2.result.now) c.as_slice.ensures.value ∙ ap (branch_of kept) c.as_slice-2.ensures;
    })
    c.read_off.ensures
