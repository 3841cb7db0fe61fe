use Rattle.std.proofs.Common.{refl}
use Rattle.lists.proofs.Members.{map_got}
use Rattle.middleware.proofs.partial_rows.answer_for.Goals as goal

pub returns-in-Ok : goal.returns-in-Ok
returns-in-Ok c = λ answer is. rw c.get.ensures (rw is (rw (map_got answer c.args.requests.now _ _ c.in-Ok.ensures.there) refl))

pub returns-in-Err : goal.returns-in-Err
returns-in-Err c = λ answer is. c.in-Err.ensures.absent refl
