use Rattle.std.specs.Prelude.{Contains}
use Rattle.row_text.proofs.Texts.{IsRowText-unique}
use Rattle.row_text.proofs.laws.text_is_unique.Goals as goal

pub returns : goal.returns
returns c = λ names rows others text other same. IsRowText-unique names (Contains rows) (Contains others) text other same
