use Rattle.std.proofs.Common.{◌++◌, ◌∷◌, [], sym, ap, subst, refl}
use Rattle.command_words.specs.Splits.{item_of}
use Rattle.command_words.specs.Arguments.{Give, MayBe}
use Rattle.command_words.specs.declared.item.Item.{Item as Lent}
use Rattle.command_words.proofs.Giving.{fourth_positional, give_positional, no_number, with_option, without_option, with_flag, without_flag, none_at}
use Rattle.command_words.proofs.given.Arguments.with.Goals as goal

pub returns-in_err-with-in-Positional-clause-none :
    goal.returns-in_err-with-in-Positional-clause-none
returns-in_err-with-in-Positional-clause-none c =
    none_at c.from_residual.result c.from_residual.ensures
    (λ items rest give may. fourth_positional items rest c.in-Positional.word.now c.args.self c.in_err-with-in-Positional.ensures give
    (subst (λ (i : Lent). MayBe (items ++ item_of i ∷ rest)) c.in-Positional.is may))

pub returns-in_err-number_in_range-in-Given-clause-none :
    goal.returns-in_err-number_in_range-in-Given-clause-none
returns-in_err-number_in_range-in-Given-clause-none c =
    none_at c.from_residual-in_err-number_in_range-in-Given.result c.from_residual-in_err-number_in_range-in-Given.ensures
    (λ items rest give may. no_number items rest c.in-Given.option c.in-Given.text.now
    c.in_err-number_in_range-in-Given.ensures
    (subst (λ (i : Lent). MayBe (items ++ item_of i ∷ rest)) c.in-Given.is may))

pub returns-in_ok-with-in-Positional-clause-some :
    goal.returns-in_ok-with-in-Positional-clause-some
returns-in_ok-with-in-Positional-clause-some c items give =
    subst (λ (i : Lent). Give (items ++ item_of i ∷ []) (record { positionals = c.in_ok-with-in-Positional.field-0; firings = c.args.self.firings; search = c.args.self.search; workers = c.args.self.workers; calls = c.args.self.calls; verify = c.args.self.verify })) (sym c.in-Positional.is)
    (give_positional items c.in-Positional.word.now c.args.self (record { positionals = c.in_ok-with-in-Positional.field-0; firings = c.args.self.firings; search = c.args.self.search; workers = c.args.self.workers; calls = c.args.self.calls; verify = c.args.self.verify }) c.in_ok-with-in-Positional.ensures refl refl refl refl refl give)

pub returns-in_ok-number_in_range-in-Given-clause-some :
    goal.returns-in_ok-number_in_range-in-Given-clause-some
returns-in_ok-number_in_range-in-Given-clause-some c =
    let number = c.in_ok-number_in_range-in-Given.ensures in
    with_option c.args.item c.in-Given.option c.in-Given.text.now c.in_ok-number_in_range-in-Given.field-0 c.args.self c.with_number.result (ap item_of c.in-Given.is) number.0 number.1
    c.with_number.ensures.given c.with_number.ensures.positionals c.with_number.ensures.numbers c.with_number.ensures.flags

pub returns-in_ok-number_in_range-in-Given-clause-none :
    goal.returns-in_ok-number_in_range-in-Given-clause-none
returns-in_ok-number_in_range-in-Given-clause-none c =
    without_option c.args.item c.in-Given.option c.in-Given.text.now c.args.self c.with_number.result (ap item_of c.in-Given.is) c.with_number.ensures.given

pub returns-in-Raised-clause-some : goal.returns-in-Raised-clause-some
returns-in-Raised-clause-some c =
    with_flag c.args.item c.in-Raised.flag c.args.self c.with_flag.result (ap item_of c.in-Raised.is)
    c.with_flag.ensures.given c.with_flag.ensures.positionals c.with_flag.ensures.numbers c.with_flag.ensures.flags

pub returns-in-Raised-clause-none : goal.returns-in-Raised-clause-none
returns-in-Raised-clause-none c =
    without_flag c.args.item c.in-Raised.flag c.args.self c.with_flag.result (ap item_of c.in-Raised.is) c.with_flag.ensures.given
