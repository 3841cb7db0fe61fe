use Rattle.std.proofs.Common.{length, sym, ap, ◌∙◌}
use Rattle.accessible_copy.specs.Known.{Showing}
use Rattle.accessible_copy.proofs.Beside.{shown_length}
use Rattle.accessible_copy.proofs.known.Known.len.Goals as goal

pub returns : goal.returns
returns c =
    c.len.ensures ∙ sym (shown_length c.self.inside.methods.items c.self.inside.facts c.self.invariant.1) ∙ ap (λ (s : Showing). length s.exposed) c.self.view_is
