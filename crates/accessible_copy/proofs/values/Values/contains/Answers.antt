use Rattle.accessible_copy.specs.Places.{place_in}
use Rattle.accessible_copy.proofs.Placing.{tells}
use Rattle.accessible_copy.proofs.values.Values.contains.Goals as goal

pub returns : goal.returns
returns c =
    let iff = rw (c.get.ensures, c.as_slice.ensures.value) at c.is_at.ensures in
    rw (← c.self.view_is) (tells c.is_at.result c.self.inside.list.items (place_in c.self.inside.places) c.args.val.now c.self.invariant iff)
