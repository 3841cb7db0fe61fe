use Rattle.std.proofs.Common.{◌≡◌, ◌<◌, ◌++◌, ◌∷◌, [], Some, true, false, length, take, sym, ap, ◌∙◌, arith}
use Rattle.std.specs.Prelude.{slice_get}
use Rattle.std.proofs.lemmas.Option.{slice_get-get_or}
use Rattle.std.proofs.lemmas.List.{length-map, map-append, append-nil}
use Rattle.lists.proofs.Members.{map_got, got_below}
use Rattle.lists.proofs.Places.{got_indexed}
use Rattle.meaning.specs.Extract.{Exposure}
use Rattle.plan_extract.specs.Lent.{exposure_of, exposures_of}
use Rattle.plan_extract.specs.Trimmed.{picked}
use Rattle.plan_extract.proofs.Marked.{picked_taken}
use Rattle.plan_extract.proofs.marking.picked.Goals.{then-marks-number+in_ok-push, else-marks-number}
use Rattle.plan_extract.proofs.marking.picked.Goals as goal

pub loop-number-preserved : goal.loop-number-preserved
loop-number-preserved c =
    let lent = c.args.exposures.now in
    let all = exposures_of lent in
    let marks = c.args.marks.now in
    let n = c.loop-number.number in
    let long = length-map lent exposure_of in
    let few : length marks ≡ length lent = c.requires in
    let low : n < length lent = c.loop-number-test.true in
    elim c.if-marks-number.branch [
      | then-marks-number+in_ok-push w ↦
          let x : Exposure = exposure_of w.index-exposures-number.result in
          let got : slice_get all n ≡ Some x = map_got exposure_of lent n w.index-exposures-number.result (got_indexed lent n w.index-exposures-number.result low w.index-exposures-number.is) in
          let mark : slice_get marks n ≡ Some true = slice_get-get_or marks n false (omega arith) ∙ ap (λ b. Some b) w.if-marks-number.true in
          ap (λ kept. exposures_of kept.items) w.kept-is ∙ ap exposures_of w.in_ok-push.ensures.items ∙ map-append exposure_of c.loop-number.kept.items (w.index-exposures-number.result ∷ [])
          ∙ ap (λ list. list ++ x ∷ []) c.loop-number.invariant ∙ sym (picked_taken all marks n x true got mark)
      | else-marks-number w ↦
          let (x, got) = got_below all n (omega arith) in
          let mark : slice_get marks n ≡ Some false = slice_get-get_or marks n false (omega arith) ∙ ap (λ b. Some b) w.if-marks-number.false in
          ap (λ kept. exposures_of kept.items) w.kept-is ∙ c.loop-number.invariant ∙ sym (append-nil (picked (take n all) (take n marks))) ∙ sym (picked_taken all marks n x false got mark)
    ]
