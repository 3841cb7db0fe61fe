use Rattle.std.proofs.Common.{◌∙◌, sym, ap, subst}
use Rattle.std.specs.Str.{IsUtf8}
use Rattle.pq_text.specs.Standing.{stands_for}
use Rattle.pq_text.proofs.Standing.{stands_utf8}
use Rattle.pq_text.proofs.stand.lexeme_of.Goals as goal

pub text_of-requires : goal.text_of-requires
text_of-requires c =
    let whole = c.in_ok-stands_for.ensures ∙ ap (stands_for c.args.token.kind) (c.as_bytes-bytes.ensures.value ∙ c.written.ensures) in
    subst IsUtf8 (sym whole) (stands_utf8 c.args.text.now c.args.token c.utf8.text c.requires)
