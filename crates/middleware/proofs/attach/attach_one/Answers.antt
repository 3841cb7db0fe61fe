use Rattle.std.proofs.Common.{refl}
use Rattle.middleware.proofs.attach.attach_one.Goals as goal

pub relation_of-relation-requires : goal.relation_of-relation-requires
relation_of-relation-requires g c = let is = c.requires.placed.relation_is in rw is refl

pub line_of-line-requires : goal.line_of-line-requires
line_of-line-requires g c = let is = c.requires.placed.line_is in rw is refl
