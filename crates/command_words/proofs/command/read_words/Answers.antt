use Rattle.std.proofs.Common.{◌∙◌, sym}
use Rattle.command_words.proofs.Giving.{none_at}
use Rattle.command_words.proofs.Splitting.{front_and_rest}
use Rattle.command_words.proofs.Making.{no_name, no_arguments, is_command, not_made, first_word}
use Rattle.command_words.proofs.command.read_words.Goals as goal

pub returns-in_err-name-clause-none : goal.returns-in_err-name-clause-none
returns-in_err-name-clause-none c =
    none_at c.from_residual.result c.from_residual.ensures
    (λ command asks. no_name c.args.words.now c.word-item.result command c.in-len1-up.len_at_least c.word-item.is
    (first_word c.as_str.result.now c.word-item.result c.as_str.ensures c.in_err-name.ensures) asks)

pub returns-in_err-arguments-clause-none : goal.returns-in_err-arguments-clause-none
returns-in_err-arguments-clause-none c =
    none_at c.from_residual-in_err-arguments.result c.from_residual-in_err-arguments.ensures
    (λ command asks. no_arguments c.args.words.now _ c.word-item.result c.in_ok-name.name (front_and_rest c.args.words.now c.word-item.result c.in-len1-up.len_at_least c.word-item.is) (sym c.as_str.ensures ∙ c.in_ok-name.ensures) command c.in_err-arguments.ensures.none asks)

pub returns-clause-some : goal.returns-clause-some
returns-clause-some c =
    is_command c.args.words.now _ c.word-item.result c.in_ok-name.name c.in_ok-arguments.arguments c.command_with.result (front_and_rest c.args.words.now c.word-item.result c.in-len1-up.len_at_least c.word-item.is) (sym c.as_str.ensures ∙ c.in_ok-name.ensures)
    c.in_ok-arguments.ensures.some c.command_with.ensures

pub returns-clause-none : goal.returns-clause-none
returns-clause-none c =
    not_made c.args.words.now _ c.word-item.result c.in_ok-name.name (front_and_rest c.args.words.now c.word-item.result c.in-len1-up.len_at_least c.word-item.is) (sym c.as_str.ensures ∙ c.in_ok-name.ensures) c.in_ok-arguments.arguments c.command_with.result
    c.in_ok-arguments.ensures.some c.command_with.ensures
