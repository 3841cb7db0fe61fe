use Rattle.std.proofs.Common.{sym, subst, ◌∙◌}
use Rattle.std.specs.Str.{IsUtf8}
use Rattle.tgd_reader.proofs.Again.{read_again}
use Rattle.tgd_reader.proofs.print.schema_text.Goals as goal

pub returns-clause-read : goal.returns-clause-read
returns-clause-read c =
    read_again c.args.schema.now c.from_vec.result (c.from_vec.ensures ∙ c.in_ok-bytes.ensures.written) (subst IsUtf8 (sym c.from_vec.ensures) c.in_ok-bytes.ensures.utf8)
