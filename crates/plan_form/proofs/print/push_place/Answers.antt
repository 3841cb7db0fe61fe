use Rattle.std.proofs.Common.{refl}
use Rattle.std.specs.Prelude.{codes}
use Rattle.pq_text.proofs.PrintedTexts.{ascii_then}
use Rattle.plan_form.proofs.print.push_place.Goals as goal

pub returns-in_ok-extend_from_slice-in-New-clause-utf8 : goal.returns-in_ok-extend_from_slice-in-New-clause-utf8
returns-in_ok-extend_from_slice-in-New-clause-utf8 c =
    λ utf8. ascii_then c.args.out.now.items c.extend_from_slice.new.self.items (codes "new") c.in_ok-extend_from_slice-in-New.ensures.items refl utf8
