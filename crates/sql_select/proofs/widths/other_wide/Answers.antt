use Rattle.std.proofs.Common.{sym, subst}
use Rattle.std.specs.Prelude.{MatchOption}
use Rattle.sql_select.specs.Widths.{AreAlikeWide, IsFirstOtherWide}
use Rattle.sql_select.proofs.Wide.{wide_says}
use Rattle.sql_select.proofs.widths.other_wide.Goals as goal

pub returns : goal.returns
returns c = subst (λ found. MatchOption found (AreAlikeWide c.args.raws.now) (IsFirstOtherWide c.args.raws.now)) (sym c.find_other.ensures) (wide_says c.args.raws.now)
