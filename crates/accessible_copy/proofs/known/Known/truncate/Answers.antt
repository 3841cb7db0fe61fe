use Rattle.std.proofs.Common.{◌≡◌, length, take, sym, ap, ◌∙◌, subst}
use Rattle.accessible_copy.specs.Known.{Showing, known_values, facts_of, shown_by}
use Rattle.accessible_copy.proofs.Lists.{known_front}
use Rattle.accessible_copy.proofs.Beside.{facts_shown, shown_cut, even_cut}
use Rattle.accessible_copy.proofs.known.Known.truncate.Goals as goal

pub invariant_of-self : goal.invariant_of-self
invariant_of-self c =
    let methods = c.self.inside.methods.items in
    let facts = c.self.inside.facts in
    let even = c.self.invariant.1 in
    let wide : c.args.width ≡ length (known_values c.self.inside.constants (facts_of (take c.args.count (shown_by methods facts))))
    = subst (λ (s : Showing). c.args.width ≡ length (known_values s.constants (facts_of (take c.args.count s.exposed)))) (sym c.self.view_is) c.requires in
    let shown : facts_of (take c.args.count (shown_by methods facts)) ≡ take c.args.count facts
    = ap facts_of (shown_cut methods facts c.args.count) ∙ facts_shown (take c.args.count methods) (take c.args.count facts) (even_cut methods facts c.args.count even) in (
      rw (c.truncate-3.ensures, c.truncate-2.ensures, c.self.invariant.0) (known_front c.self.inside.constants facts c.args.count c.args.width (rw shown at wide)),
      rw (c.truncate.ensures.items, c.truncate-2.ensures) (even_cut methods facts c.args.count even),
    )

pub returns : goal.returns
returns c =
    let methods = c.self.inside.methods.items in
    let facts = c.self.inside.facts in
    rw (c.truncate.ensures.items, c.truncate-2.ensures, ← c.self.view_is) (ap (λ l. record { constants = c.self.inside.constants; exposed = l }) (sym (shown_cut methods facts c.args.count)))
