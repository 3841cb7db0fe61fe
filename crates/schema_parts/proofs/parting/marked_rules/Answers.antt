use Rattle.std.proofs.Common.{◌≡◌, ◌++◌, ◌∙◌, [], sym, ap, rules}
use Rattle.std.proofs.lemmas.List.{append-nil}
use Rattle.schema_parts.specs.Parts.{marked}
use Rattle.schema_parts.proofs.Fewer.{no_members, no_marks}
use Rattle.schema_parts.proofs.parting.marked_rules.Goals.{in_default, in_default-2}
use Rattle.schema_parts.proofs.parting.marked_rules.Goals as goal

pub returns : goal.returns
returns c =
    let none : marked c.loop-left.left.now c.loop-left.open.now ≡ [] = elim c.if-left-lt1.branch [
      | in_default w ↦ no_members c.loop-left.left.now c.loop-left.open.now w.in_default.len_below
      | in_default-2 w ↦ no_marks c.loop-left.left.now c.loop-left.open.now (search rules)
    ] in
    sym (c.loop-left.invariant ∙ ap (λ left. c.loop-left.kept ++ left) none ∙ append-nil c.loop-left.kept)
