use Rattle.std.proofs.Common.{◌≡◌, Ok, length, refl, ap, arith}
use Rattle.access_schema.specs.Meaning.{meaning_of}
use Rattle.exposure_search.proofs.Explored.{base_settled, base_beyond}
use Rattle.exposure_search.proofs.founding.fire_base.Goals as goal

pub returns-in-Quiet-clause-quiet : goal.returns-in-Quiet-clause-quiet
returns-in-Quiet-clause-quiet c e =
    base_settled (meaning_of c.args.schema.now) c.args.proof.now c.settle.new.proof c.requires.empty c.settle.ensures.run c.settle.ensures.more (c.in_ok-settle.ensures.quiet (ap (λ r. Ok r) c.in-Quiet.is))

pub returns-in-Spent-clause-spent : goal.returns-in-Spent-clause-spent
returns-in-Spent-clause-spent c e =
    base_beyond (meaning_of c.args.schema.now) c.args.proof.now c.settle.new.proof c.requires.empty c.settle.ensures.run c.settle.ensures.more c.args.proof.now.constants c.args.proof.now.start c.args.budget refl refl
    (c.in_ok-settle.ensures.spent (ap (λ r. Ok r) c.in-Spent.is))

pub returns-in-Quiet-clause-few : goal.returns-in-Quiet-clause-few
returns-in-Quiet-clause-few c =
    let few = c.settle.ensures.budget in
    let none : length c.args.proof.now.entries ≡ 0 = ap length c.requires.empty in
    omega arith

pub returns-in-Spent-clause-few : goal.returns-in-Spent-clause-few
returns-in-Spent-clause-few c =
    let few = c.settle.ensures.budget in
    let none : length c.args.proof.now.entries ≡ 0 = ap length c.requires.empty in
    omega arith
