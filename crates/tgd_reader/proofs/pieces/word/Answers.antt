use Rattle.std.proofs.Common.{sym, subst}
use Rattle.std.specs.Str.{IsUtf8}
use Rattle.pq_text.proofs.PrintedTexts.{appended_utf8}
use Rattle.tgd_reader.proofs.pieces.word.Goals as goal

pub returns-clause-utf8 : goal.returns-clause-utf8
returns-clause-utf8 c = λ utf8.
    let text = subst IsUtf8 (sym c.as_bytes.ensures.value) c.utf8.text in
    appended_utf8 c.blank.new.out.items c.extend_from_slice.new.self.items c.as_bytes.result.now c.in_ok-extend_from_slice.ensures.items text (c.in_ok-blank.ensures.utf8 utf8)
