use Rattle.std.proofs.Common.{◌≡◌, ◌++◌, ◌∷◌, ◌+◌, [], take, sym, ap, ◌∙◌, subst}
use Rattle.lists.proofs.Places.{take_indexed}
use Rattle.meaning.specs.declared.types.Val.TheVariants.{Const, Label}
use Rattle.plan_extract.proofs.Noting.{Noted, noted_label, noted_const}
use Rattle.plan_extract.proofs.origins.note_all.Goals.{in-Label+in_ok-note, in_default}
use Rattle.plan_extract.proofs.origins.note_all.Goals as goal

pub loop-value-preserved : goal.loop-value-preserved
loop-value-preserved c =
    let old = c.args.origins.now in
    let now = c.loop-value.origins in
    let vals = c.args.vals.now in
    let i = c.loop-value.value-index in
    let more : take (i + 1) vals ≡ take i vals ++ c.value-item.result ∷ [] = take_indexed vals i c.value-item.result c.loop-value-test.true c.value-item.is in
    elim c.match-value.branch [
      | in-Label+in_ok-note w ↦
          let front : take (i + 1) vals ≡ take i vals ++ Label w.in-Label.label ∷ [] = more ∙ ap (λ v. take i vals ++ v ∷ []) w.in-Label.is in
          subst (λ m. Noted old m (take (i + 1) vals) c.args.number) (sym w.origins-is)
          (subst (λ vs. Noted old w.note.new.origins vs c.args.number) (sym front)
          (noted_label old now w.note.new.origins (take i vals) c.args.number c.loop-value.invariant w.in-Label.label w.in_ok-note.ensures.kept w.in_ok-note.ensures.there w.in_ok-note.ensures.only))
      | in_default w ↦
          let front : take (i + 1) vals ≡ take i vals ++ Const w.in_default.field-0 ∷ [] = more ∙ ap (λ v. take i vals ++ v ∷ []) w.in_default.is in
          subst (λ m. Noted old m (take (i + 1) vals) c.args.number) (sym w.origins-is)
          (subst (λ vs. Noted old now vs c.args.number) (sym front) (noted_const old now now (take i vals) c.args.number c.loop-value.invariant w.in_default.field-0))
    ]
