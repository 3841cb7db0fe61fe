use Rattle.std.proofs.Common.{◌≡◌, ◌∙◌, length, sym, ap, None}
use Rattle.state_path.proofs.Paths.{length_along}
use Rattle.state_path.proofs.path.StatePath.len.Goals as goal

pub returns : goal.returns
returns g c = ap (λ all. length all) c.as_slice.ensures.value ∙ sym (length_along c.self.inside.states None c.self.inside.keys.items c.self.invariant) ∙ ap (λ all. length all) c.self.view_is
