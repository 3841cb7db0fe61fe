use Rattle.std.proofs.Common.{◌≡◌, ◌≤◌, ◌∙◌, length, sym, ap, None, Some, subst}
use Rattle.std.specs.Prelude.{slice_get}
use Rattle.std.proofs.lemmas.Option.{slice_get_past}
use Rattle.slab.specs.Slab.{get}
use Rattle.lists.proofs.Members.{contains_got}
use Rattle.lists.proofs.Places.{got_indexed}
use Rattle.state_path.proofs.Paths.{got_along, none_along, has_state}
use Rattle.state_path.proofs.path.StatePath.get.Goals as goal

pub returns-in-Some-get : goal.returns-in-Some-get
returns-in-Some-get g c =
    let at : slice_get c.self.inside.keys.items c.args.number ≡ Some c.in-Some.key.now =
    subst (λ keys. slice_get keys c.args.number ≡ Some c.in-Some.key.now) c.deref.ensures.value
    (got_indexed c.deref.result.now c.args.number c.in-Some.key.now c.in-Some.ensures.lookup.3.0 c.in-Some.ensures.lookup.1) in
    sym (got_along c.self.inside.states None c.self.inside.keys.items c.args.number c.in-Some.key.now c.in-Some-get.delta.now c.self.invariant at (sym c.in-Some-get.ensures))
    ∙ ap (λ all. slice_get all c.args.number) c.self.view_is

pub returns-in-None-get : goal.returns-in-None-get
returns-in-None-get g c =
    let at : slice_get c.self.inside.keys.items c.args.number ≡ Some c.in-Some.key.now =
    subst (λ keys. slice_get keys c.args.number ≡ Some c.in-Some.key.now) c.deref.ensures.value
    (got_indexed c.deref.result.now c.args.number c.in-Some.key.now c.in-Some.ensures.lookup.3.0 c.in-Some.ensures.lookup.1) in
    let (delta, there) = has_state c.self.inside.states None c.self.inside.keys.items c.in-Some.key.now c.self.invariant (contains_got c.self.inside.keys.items c.args.number c.in-Some.key.now at) in
    let vacant : get c.self.inside.states c.in-Some.key.now ≡ None = sym c.in-None-get.ensures in
    absurd (cc)

pub returns-in-None : goal.returns-in-None
returns-in-None g c =
    let past : length c.deref.result.now ≤ c.args.number = c.in-None.ensures.lookup.3 in
    let none : slice_get c.self.inside.keys.items c.args.number ≡ None =
    subst (λ keys. slice_get keys c.args.number ≡ None) c.deref.ensures.value (slice_get_past c.deref.result.now c.args.number past) in
    sym (none_along c.self.inside.states None c.self.inside.keys.items c.args.number c.self.invariant none) ∙ ap (λ all. slice_get all c.args.number) c.self.view_is
