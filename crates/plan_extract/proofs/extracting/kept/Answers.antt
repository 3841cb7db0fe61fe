use Rattle.std.proofs.Common.{◌≡◌, ◌∙◌, List, ap, subst}
use Rattle.std.proofs.lemmas.Result.{IfOk-weaker}
use Rattle.access_schema.specs.Meaning.{meaning_of}
use Rattle.plan_extract.specs.declared.exposures.Exposure.{Exposure as Lent}
use Rattle.plan_extract.specs.Lent.{exposures_of}
use Rattle.plan_extract.specs.Trimmed.{picked}
use Rattle.plan_extract.specs.Passes.{AreMarked, AreKept}
use Rattle.plan_extract.proofs.extracting.kept.Goals as goal

pub returns : goal.returns
returns c =
    let lent = exposures_of c.in_ok-shown.shown.items in
    let marks = c.in_ok-marks.marks.items in
    let marked : AreMarked lent c.in_ok-wanted.wanted marks = subst (λ (list : List Lent). AreMarked (exposures_of list) c.in_ok-wanted.wanted marks) c.as_slice.ensures.value c.in_ok-marks.ensures in
    IfOk-weaker c.picked.result (λ kept. exposures_of kept.items ≡ picked (exposures_of c.as_slice-2.result.now) c.as_slice-3.result.now)
    (λ kept. AreKept (meaning_of c.args.schema.now) c.args.proof.now c.args.atoms.items (exposures_of kept.items))
    (λ kept is. record {
      exposures = lent;
      shown = c.in_ok-shown.ensures;
      wanted = c.in_ok-wanted.wanted;
      are_wanted = c.in_ok-wanted.ensures;
      marks = marks;
      marked = marked;
      kept_is = is ∙ ap (λ (list : List Lent). picked (exposures_of list) c.as_slice-3.result.now) c.as_slice-2.ensures.value ∙ ap (picked lent) c.as_slice-3.ensures.value;
    })
    c.picked.ensures
