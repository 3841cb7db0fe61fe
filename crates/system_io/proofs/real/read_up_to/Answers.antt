use Rattle.std.proofs.Common.{rules}
use Rattle.system_io.proofs.Heads.{known_whole, known_long}
use Rattle.system_io.proofs.real.read_up_to.Goals as goal

pub returns-then-len-limit-clause-too_large : goal.returns-then-len-limit-clause-too_large
returns-then-len-limit-clause-too_large g c = λ is.
    known_long c.args.limit c.checked_add.result (g.T.Read.remaining c.args.reader.now) c.in_ok-bytes.bytes.items (search rules) (search rules) (search rules)

pub returns-clause-bytes : goal.returns-clause-bytes
returns-clause-bytes g c =
    rw (c.from_vec.ensures) (known_whole c.args.limit c.checked_add.result (g.T.Read.remaining c.args.reader.now) c.in_ok-bytes.bytes.items (search rules) (search rules) (search rules))
