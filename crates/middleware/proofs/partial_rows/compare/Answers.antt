use Rattle.std.proofs.Common.{◌≡◌, ◌∙◌, ap, sym, option_map, map, length, inl, inr, arith}
use Rattle.std.proofs.lemmas.List.{length-map}
use Rattle.std.proofs.lemmas.Option.{slice_get_past, slice_get_within}
use Rattle.row_text.proofs.Comparing.{rows_ended, rows_step, then_equal, then_other}
use Rattle.middleware.proofs.Orders.{text_got}
use Rattle.middleware.proofs.partial_rows.compare.Goals as goal
use Rattle.middleware.proofs.partial_rows.compare.Goals.{in_default, in_default-2}

pub returns-in_default-cmp : goal.returns-in_default-cmp
returns-in_default-cmp c =
    let left = sym c.value.ensures ∙ ap (option_map (λ s. s.now)) c.in-Some-Some.is-0 in
    let at = rw c.in-Some-Some.is-1 at c.get.ensures.lookup in
    let right = text_got c.args.texts.now c.loop-value.column c.in-Some-Some.text.now at.3.0 at.1 in
    sym (c.loop-value.invariant.same
    ∙ rows_step c.args.row.now (map (λ s. s.now) c.args.texts.now) c.loop-value.column c.in-Some-Some.value.now c.in-Some-Some.text.now.now left right
    ∙ rw (← c.cmp.ensures) (then_other c.cmp.result _ c.in_default-cmp.not-Equal))

pub loop-value-preserved : goal.loop-value-preserved
loop-value-preserved c =
    let left = sym c.value.ensures ∙ ap (option_map (λ s. s.now)) c.in-Some-Some.is-0 in
    let at = rw c.in-Some-Some.is-1 at c.get.ensures.lookup in
    let right = text_got c.args.texts.now c.loop-value.column c.in-Some-Some.text.now at.3.0 at.1 in
    record {
      left = omega (arith, slice_get_within c.args.row.now c.loop-value.column c.in-Some-Some.value.now left);
      right = omega (arith, slice_get_within (map (λ s. s.now) c.args.texts.now) c.loop-value.column c.in-Some-Some.text.now.now right);
      same = c.loop-value.invariant.same
          ∙ rows_step c.args.row.now (map (λ s. s.now) c.args.texts.now) c.loop-value.column c.in-Some-Some.value.now c.in-Some-Some.text.now.now left right
          ∙ then_equal _ _ (sym c.cmp.ensures ∙ c.in-Equal.is);
    }

pub returns : goal.returns
returns c =
    let texts = map (λ s. s.now) c.args.texts.now in
    let count : length texts ≡ length c.args.texts.now = length-map c.args.texts.now (λ s. s.now) in
    rw (c.cmp-2.ensures, c.len-count.ensures, ← count) (sym (c.loop-value.invariant.same
    ∙ rows_ended c.args.row.now texts c.loop-value.column c.loop-value.invariant.left c.loop-value.invariant.right (elim c.match-value.branch [
      | in_default w ↦ let at = rw w.in_default.is-1 at c.get.ensures.lookup in inr (slice_get_past texts c.loop-value.column (omega (arith, count, at.3)))
      | in_default-2 w ↦ inl (sym c.value.ensures ∙ ap (option_map (λ s. s.now)) w.in_default.is-0)
    ])))
