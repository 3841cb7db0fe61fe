use Rattle.std.proofs.Common.{◌≡◌, length, arith}
use Rattle.row_text.specs.Packed.{cut_at}
use Rattle.row_text.proofs.Packing.{cut_one, length-cut_at}
use Rattle.middleware.proofs.answers.Answers.lone.Goals as goal

pub returns-then-len-eq1 : goal.returns-then-len-eq1
returns-then-len-eq1 c =
    let one : length c.self.inside.ends.items ≡ 1 = omega (arith, c.self.inside.ends.ok.0) in
    rw (← c.self.view_is) (cut_one c.self.inside.ends.items c.self.inside.rows one c.self.invariant)

pub returns-else-len-eq1 : goal.returns-else-len-eq1
returns-else-len-eq1 c =
    let size : length (cut_at 0 c.self.inside.ends.items c.self.inside.rows) ≡ length c.self.inside.ends.items = length-cut_at 0 c.self.inside.ends.items c.self.inside.rows in
    rw (← c.self.view_is) (λ one. absurd (omega (arith, size, one, c.self.inside.ends.ok.0)))
