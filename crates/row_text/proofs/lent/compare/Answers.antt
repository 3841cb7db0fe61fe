use Rattle.std.proofs.Common.{◌∙◌, ap, sym, option_map, inl, inr, arith}
use Rattle.std.proofs.lemmas.Option.{slice_get_within}
use Rattle.row_text.proofs.Comparing.{rows_ended, rows_step, then_equal, then_other}
use Rattle.row_text.proofs.lent.compare.Goals as goal
use Rattle.row_text.proofs.lent.compare.Goals.{in_default, in_default-2}

pub returns-in_default-cmp : goal.returns-in_default-cmp
returns-in_default-cmp c =
    let left = sym c.value.ensures ∙ ap (option_map (λ s. s.now)) c.in-Some-Some.is-0 in
    let right = sym c.value-in-loop-value.ensures ∙ ap (option_map (λ s. s.now)) c.in-Some-Some.is-1 in
    sym (c.loop-value.invariant.same
    ∙ rows_step c.args.left.now c.args.right.now c.loop-value.column c.in-Some-Some.value.now c.in-Some-Some.other.now left right
    ∙ rw (← c.cmp.ensures) (then_other c.cmp.result _ c.in_default-cmp.not-Equal))

pub overflow_add-column : goal.overflow_add-column
overflow_add-column c =
    let left = sym c.value.ensures ∙ ap (option_map (λ s. s.now)) c.in-Some-Some.is-0 in
    omega (arith, c.len-count.ensures, slice_get_within c.args.left.now c.loop-value.column c.in-Some-Some.value.now left)

pub loop-value-smaller : goal.loop-value-smaller
loop-value-smaller c =
    let left = sym c.value.ensures ∙ ap (option_map (λ s. s.now)) c.in-Some-Some.is-0 in
    omega (arith, slice_get_within c.args.left.now c.loop-value.column c.in-Some-Some.value.now left)

pub loop-value-preserved : goal.loop-value-preserved
loop-value-preserved c =
    let left = sym c.value.ensures ∙ ap (option_map (λ s. s.now)) c.in-Some-Some.is-0 in
    let right = sym c.value-in-loop-value.ensures ∙ ap (option_map (λ s. s.now)) c.in-Some-Some.is-1 in
    record {
      left = omega (arith, slice_get_within c.args.left.now c.loop-value.column c.in-Some-Some.value.now left);
      right = omega (arith, slice_get_within c.args.right.now c.loop-value.column c.in-Some-Some.other.now right);
      same = c.loop-value.invariant.same
          ∙ rows_step c.args.left.now c.args.right.now c.loop-value.column c.in-Some-Some.value.now c.in-Some-Some.other.now left right
          ∙ then_equal _ _ (sym c.cmp.ensures ∙ c.in-Equal.is);
    }

pub returns : goal.returns
returns c =
    rw (c.cmp-2.ensures, c.len-count.ensures, c.len.ensures) (sym (c.loop-value.invariant.same
    ∙ rows_ended c.args.left.now c.args.right.now c.loop-value.column c.loop-value.invariant.left c.loop-value.invariant.right (elim c.match-value.branch [
      | in_default w ↦ inr (sym c.value-in-loop-value.ensures ∙ ap (option_map (λ s. s.now)) w.in_default.is-1)
      | in_default-2 w ↦ inl (sym c.value.ensures ∙ ap (option_map (λ s. s.now)) w.in_default.is-0)
    ])))
