use Rattle.std.proofs.Common.{◌∙◌, sym, ap}
use Rattle.std.specs.Prelude.{option_map}
use Rattle.command_words.proofs.Splitting.{refused_option, begins_one, begins_behind}
use Rattle.command_words.proofs.item.next_option.Goals as goal

pub returns-then-not-takes-clause-none :
    goal.returns-then-not-takes-clause-none
returns-then-not-takes-clause-none c =
    refused_option c.args.name c.in_ok-option.option c.args.option.now c.cut_at_equals.result.0.now c.args.rest.now c.requires
    c.cut_at_equals.ensures.before c.in_ok-option.ensures c.if-not-takes.ensures

pub returns-in-Some-default-clause-some : goal.returns-in-Some-default-clause-some
returns-in-Some-default-clause-some c =
    begins_one c.args.name c.in_ok-option.option c.args.option.now c.in-Some-default.text.now c.args.rest.now
    (sym c.cut_at_equals.ensures.before ∙ c.in_ok-option.ensures)
    (sym c.cut_at_equals.ensures.behind ∙ ap (option_map (λ t. t.now)) c.in-Some-default.is-0)
    (sym (c.if-not-takes.ensures))

pub returns-in-None-len1-up-clause-some : goal.returns-in-None-len1-up-clause-some
returns-in-None-len1-up-clause-some c =
    begins_behind c.args.name c.in_ok-option.option c.args.option.now c.args.rest.now c.text-item.result c.as_bytes.result.now c.in-None-len1-up.len_at_least c.text-item.is c.as_bytes.ensures
    (sym c.cut_at_equals.ensures.before ∙ c.in_ok-option.ensures)
    (sym c.cut_at_equals.ensures.behind ∙ ap (option_map (λ t. t.now)) c.in-None-len1-up.is-0)
    (sym (c.if-not-takes.ensures))
