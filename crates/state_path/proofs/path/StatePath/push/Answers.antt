use Rattle.std.proofs.Common.{◌≡◌, ◌∙◌, ◌++◌, ◌∷◌, [], ap, subst, sym, None}
use Rattle.slab.specs.Slab.{get}
use Rattle.state_path.specs.Paths.{added_along, IsPathFrom}
use Rattle.state_path.proofs.Paths.{pushed_on, same_path}
use Rattle.state_path.proofs.path.StatePath.push.Goals as goal

pub invariant_of-self-in_err-key : goal.invariant_of-self-in_err-key
invariant_of-self-in_err-key g c =
    subst (λ keys. IsPathFrom c.insert.new.self None keys) (sym c.reserve.ensures.items)
    (same_path c.insert.new.self c.self.inside.states None c.self.inside.keys.items (λ key _. ap (λ states. get states key) c.in_err-key.ensures.err) c.self.invariant)

pub invariant_of-self-2 : goal.invariant_of-self-2
invariant_of-self-2 g c =
    (pushed_on c.self.inside.states c.insert.new.self c.self.inside.keys.items c.deref.result.now c.reserve.new.self.items c.push_reserved.new.self.items c.in_ok-key.key (record { parent = c.copied-parent.result; added = c.args.added })
    c.self.invariant c.in_ok-key.ensures.was_vacant c.in_ok-key.ensures.updates c.deref.ensures.value (c.copied-parent.ensures ∙ c.last.ensures.value) c.reserve.ensures.items c.push_reserved.ensures.items).0

pub returns-clause-pushed : goal.returns-clause-pushed
returns-clause-pushed g c =
    subst (λ all. added_along c.insert.new.self c.push_reserved.new.self.items ≡ all ++ c.args.added ∷ []) c.self.view_is
    (pushed_on c.self.inside.states c.insert.new.self c.self.inside.keys.items c.deref.result.now c.reserve.new.self.items c.push_reserved.new.self.items c.in_ok-key.key (record { parent = c.copied-parent.result; added = c.args.added })
    c.self.invariant c.in_ok-key.ensures.was_vacant c.in_ok-key.ensures.updates c.deref.ensures.value (c.copied-parent.ensures ∙ c.last.ensures.value) c.reserve.ensures.items c.push_reserved.ensures.items).1
