use Rattle.std.proofs.Common.{◌≡◌, ◌∙◌, length, arith}
use Rattle.std.proofs.lemmas.Grind.{common_steps}
use Rattle.source_trait.proofs.Crowding.{chains_none}
use Rattle.source_trait.proofs.index.chosen.Goals as goal

pub returns-then-is_empty : goal.returns-then-is_empty
returns-then-is_empty c =
    let none : length c.args.crowded.now.codes.items ≡ 0 = grind (arith, common_steps) in
    c.requires ∙ chains_none c.args.positions.now c.args.count c.args.crowded.now c.args.rows.now none
