use Rattle.std.proofs.Common.{◌≡◌, ◌∙◌, ◌≤◌, [], List, ap, sym, subst}
use Rattle.std.proofs.lemmas.Result.{IfOk-weaker}
use Rattle.meaning.specs.declared.types.Branch.{Branch}
use Rattle.meaning.specs.Extract.{branch_of, Exposure}
use Rattle.access_schema.specs.Meaning.{meaning_of}
use Rattle.plan_extract.specs.Lent.{exposures_of, values_in}
use Rattle.plan_extract.specs.Arranged.{AreKnown}
use Rattle.plan_extract.specs.Passes.{IsReadArranged}
use Rattle.plan_extract.proofs.AnyOrder.{same_values}
use Rattle.plan_extract.proofs.Extracted.{few_values, kept_known}
use Rattle.plan_extract.proofs.extracting.read_arranged.Goals as goal

pub kept-requires-clause-run : goal.kept-requires-clause-run
kept-requires-clause-run c = c.requires.proof.1.run

pub arranged-requires : goal.arranged-requires
arranged-requires c =
    let (query, its) = c.requires.proof in
    let are = c.in_ok-kept.ensures in
    let known = kept_known c.args.schema.now c.args.proof.now c.args.head.now c.requires.known are.exposures are.shown are.wanted are.marks are.marked query its c.args.atoms.items are.are_wanted in
    record { known = subst (λ list. AreKnown [] list) (sym are.kept_is) known }

pub read_off-requires : goal.read_off-requires
read_off-requires c =
    let (query, its) = c.requires.proof in
    let are = c.in_ok-kept.ensures in
    let moved = c.in_ok-list.ensures.same in
    subst (λ (list : List Exposure). values_in list ≤ 4294967296) (sym (ap exposures_of c.as_slice-2.ensures.value))
    (subst (λ n. n ≤ 4294967296) (sym (same_values (exposures_of c.in_ok-kept.kept.items) (exposures_of c.in_ok-list.list.items) moved ∙ ap values_in are.kept_is))
    (few_values c.args.schema.now c.args.proof.now c.args.head.now query its c.requires.known c.requires.few are.exposures are.shown are.marks))

pub returns : goal.returns
returns c =
    let list = exposures_of c.in_ok-list.list.items in
    IfOk-weaker c.read_off.result (λ (branch : Branch). branch ≡ branch_of (exposures_of c.as_slice-2.result.now) c.as_slice-3.result.now)
    (IsReadArranged (meaning_of c.args.schema.now) c.args.proof.now c.args.atoms.items c.args.head.now)
    (λ branch is. record {
      kept = exposures_of c.in_ok-kept.kept.items;
      are_kept = c.in_ok-kept.ensures;
      ordered = list;
      same = c.in_ok-list.ensures.same;
      known = c.in_ok-list.ensures.known;
      branch_is = is ∙ ap (λ one. branch_of (exposures_of one) c.as_slice-3.result.now) c.as_slice-2.ensures.value ∙ ap (branch_of list) c.as_slice-3.ensures;
    })
    c.read_off.ensures
