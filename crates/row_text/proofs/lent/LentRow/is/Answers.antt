use Rattle.std.proofs.Common.{◌≡◌, ◌∙◌, Some, ap, sym, slice_get, option_map, length, eq-eqb, arith}
use Rattle.std.specs.Cmp.Lexicographic.{same_text, other_text}
use Rattle.std.proofs.lemmas.Bool.{eqb-true, eqb-false}
use Rattle.std.proofs.lemmas.Option.{slice_get_within}
use Rattle.lists.proofs.Places.{got_none}
use Rattle.lists.proofs.Booleans.{denied_false}
use Rattle.row_text.proofs.Comparing.{not_true, prefix_all, prefix_step, rest_head, rest_length}
use Rattle.row_text.proofs.lent.LentRow.is.Goals as goal
use Rattle.row_text.proofs.lent.LentRow.is.Goals.{in_default, in_default-2}

pub loop-left-preserved : goal.loop-left-preserved
loop-left-preserved c =
    let got : slice_get c.args.self.now c.loop-left.column ≡ Some c.in-len1-up-Some.value.now =
    sym c.value.ensures ∙ ap (option_map (λ s. s.now)) c.in-len1-up-Some.is-1 in
    record {
      within = omega (arith, slice_get_within c.args.self.now c.loop-left.column c.in-len1-up-Some.value.now got);
      same = prefix_step (λ s. s.now) _ c.args.self.now c.loop-left.left.now _ c.loop-left.column c.in-len1-up-Some.value.now
          c.loop-left.invariant.same got c.in-len1-up-Some.len_at_least (same_text _ _ (denied_false _ c.if-ne.ensures));
    }

pub returns-then-ne : goal.returns-then-ne
returns-then-ne c = (
  (λ w. absurd (cc)),
  (λ same.
      let got : slice_get c.args.self.now c.loop-left.column ≡ Some c.in-len1-up-Some.value.now =
      sym c.value.ensures ∙ ap (option_map (λ s. s.now)) c.in-len1-up-Some.is-1 in
      absurd (other_text _ _ (not_true _ c.if-ne.ensures)
      (rest_head (λ s. s.now) _ c.args.self.now c.loop-left.left.now _ c.loop-left.column _ c.loop-left.invariant.same got c.in-len1-up-Some.len_at_least same))),
)

pub returns-then-is_empty : goal.returns-then-is_empty
returns-then-is_empty c =
    let none : length c.loop-left.left.now ≡ 0 = eqb-true _ _ (sym c.is_empty.ensures ∙ c.if-is_empty.true) in (
      (λ whole. prefix_all (λ s. s.now) _ c.args.self.now c.loop-left.left.now c.loop-left.column c.loop-left.invariant.same (eqb-true _ _ whole ∙ c.len.ensures) none),
      (λ same.
          let long = rest_length (λ s. s.now) _ c.args.self.now c.loop-left.left.now c.loop-left.column c.loop-left.invariant.same c.loop-left.invariant.within same in
          eq-eqb _ _ (omega (arith, c.len.ensures))),
    )

pub returns-else-is_empty : goal.returns-else-is_empty
returns-else-is_empty c = (
  (λ w. absurd (cc)),
  (λ same. elim c.if-left-lt1.branch [
    | in_default w ↦ absurd (eqb-false (length c.loop-left.left.now) 0 (sym c.is_empty.ensures ∙ c.if-is_empty.false) (omega (arith, w.in_default.len_below)))
    | in_default-2 w ↦
        let past = got_none c.args.self.now c.loop-left.column (sym c.value.ensures ∙ ap (option_map (λ s. s.now)) w.in_default.is-1) in
        let long = rest_length (λ s. s.now) _ c.args.self.now c.loop-left.left.now c.loop-left.column c.loop-left.invariant.same c.loop-left.invariant.within same in
        absurd (omega (arith, w.in_default.len_at_least))
  ]),
)
