use Rattle.std.proofs.Common.{sym, ◌∙◌}
use Rattle.sql_select.specs.declared.limits.Member.TheVariants as member
use Rattle.sql_select.specs.declared.limits.TheConstants.{MOST_FROMS, MOST_CONDITIONS, MOST_ITEMS}
use Rattle.sql_select.proofs.Limiting.{one_more, none_more, none_over}
use Rattle.sql_select.proofs.limits.passed_limit.Goals as goal

pub returns-then-has_more : goal.returns-then-has_more
returns-then-has_more c = one_more member.From MOST_FROMS c.args.raws.now (sym c.has_more.ensures ∙ c.if-has_more.true)

pub returns-then-has_more-2 : goal.returns-then-has_more-2
returns-then-has_more-2 c = (
  none_more member.From MOST_FROMS c.args.raws.now (sym c.has_more.ensures ∙ c.if-has_more.false),
  one_more member.Condition MOST_CONDITIONS c.args.raws.now (sym c.has_more-2.ensures ∙ c.if-has_more-2.true),
)

pub returns-then-has_more-3 : goal.returns-then-has_more-3
returns-then-has_more-3 c = (
  λ raw h. (none_more member.From MOST_FROMS c.args.raws.now (sym c.has_more.ensures ∙ c.if-has_more.false) raw h, none_more member.Condition MOST_CONDITIONS c.args.raws.now (sym c.has_more-2.ensures ∙ c.if-has_more-2.false) raw h),
  one_more member.Item MOST_ITEMS c.args.raws.now (sym c.has_more-3.ensures ∙ c.if-has_more-3.true),
)

pub returns-then-raws-gt-MOST_SELECTS : goal.returns-then-raws-gt-MOST_SELECTS
returns-then-raws-gt-MOST_SELECTS c = (
  none_over c.args.raws.now (sym c.has_more.ensures ∙ c.if-has_more.false) (sym c.has_more-2.ensures ∙ c.if-has_more-2.false) (sym c.has_more-3.ensures ∙ c.if-has_more-3.false),
  c.if-raws-gt-MOST_SELECTS.true,
)

pub returns : goal.returns
returns c = record {
  each = none_over c.args.raws.now (sym c.has_more.ensures ∙ c.if-has_more.false) (sym c.has_more-2.ensures ∙ c.if-has_more-2.false) (sym c.has_more-3.ensures ∙ c.if-has_more-3.false);
  few = c.if-raws-gt-MOST_SELECTS.false;
}
