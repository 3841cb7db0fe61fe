-- An open link goes on from the marks and leaves fewer numbers unmarked; without one the marks are whole.
use Rattle.std.proofs.Common.{◌≡◌, ◌<◌, Some, None, List, Bool, length, not, sym, subst, ◌∙◌, ap}
use Rattle.std.specs.Prelude.{All, count_by}
use Rattle.std.specs.List.{find}
use Rattle.access_schema.specs.Links.{AreBelow}
use Rattle.access_schema.specs.Marks.{is_open, with_marks}
use Rattle.access_schema.proofs.Circles.{SpreadsSoFar, spread_more, spread_falls, spread_all, below_found, open_found}
use Rattle.access_schema.proofs.recursion.spread.Goals as goal

pub mark_all-requires : goal.mark_all-requires
mark_all-requires c =
    let found : find (is_open c.loop-link.marks.items) c.args.links.now ≡ Some c.in-Some.link.now = let k = c.in-Some.ensures in let v = c.as_slice.ensures.value in cc in
    let below : AreBelow (length c.loop-link.marks.items) c.args.links.now = subst (λ n. AreBelow n c.args.links.now) (sym c.loop-link.invariant.long) c.requires in
    let fits = below_found _ c.args.links.now c.in-Some.link.now below (open_found (is_open c.loop-link.marks.items) c.args.links.now c.in-Some.link.now found).0 in
    subst (λ numbers. All (λ n. n < length c.loop-link.marks.items) numbers) (sym c.as_slice-in-Some.ensures) fits.head

pub loop-link-smaller : goal.loop-link-smaller
loop-link-smaller c =
    let found : find (is_open c.loop-link.marks.items) c.args.links.now ≡ Some c.in-Some.link.now = let k = c.in-Some.ensures in let v = c.as_slice.ensures.value in cc in
    let below : AreBelow (length c.loop-link.marks.items) c.args.links.now = subst (λ n. AreBelow n c.args.links.now) (sym c.loop-link.invariant.long) c.requires in
    let same : c.mark_all.new.marks.items ≡ with_marks c.loop-link.marks.items c.in-Some.link.now.head = c.mark_all.ensures ∙ ap (with_marks c.loop-link.marks.items) c.as_slice-in-Some.ensures in
    subst (λ (marks : List Bool). count_by not marks < count_by not c.loop-link.marks.items) (sym same) (spread_falls c.args.links.now c.loop-link.marks.items c.in-Some.link.now below found)

pub loop-link-preserved : goal.loop-link-preserved
loop-link-preserved c =
    let found : find (is_open c.loop-link.marks.items) c.args.links.now ≡ Some c.in-Some.link.now = let k = c.in-Some.ensures in let v = c.as_slice.ensures.value in cc in
    let below : AreBelow (length c.loop-link.marks.items) c.args.links.now = subst (λ n. AreBelow n c.args.links.now) (sym c.loop-link.invariant.long) c.requires in
    let same : c.mark_all.new.marks.items ≡ with_marks c.loop-link.marks.items c.in-Some.link.now.head = c.mark_all.ensures ∙ ap (with_marks c.loop-link.marks.items) c.as_slice-in-Some.ensures in
    subst (λ (marks : List Bool). SpreadsSoFar c.args.links.now c.args.marks.now.items marks) (sym same)
    (spread_more c.args.links.now c.args.marks.now.items c.loop-link.marks.items c.in-Some.link.now below found c.loop-link.invariant)

pub returns : goal.returns
returns c =
    let found : find (is_open c.loop-link.marks.items) c.args.links.now ≡ None = let k = c.in_default.ensures in let v = c.as_slice.ensures.value in cc in
    spread_all c.args.links.now c.args.marks.now.items c.loop-link.marks.items found c.loop-link.invariant
