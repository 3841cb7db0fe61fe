use Rattle.std.proofs.Common.{◌≡◌, ◌∙◌, ◌++◌, [], length, ap, subst, arith}
use Rattle.std.specs.Prelude.{Contains}
use Rattle.std.proofs.lemmas.List.{nil_from_length}
use Rattle.connected_match.specs.Chains.{row_before, IsLink}
use Rattle.connected_match.proofs.Chaining.{Chaining, atom_few, chaining_more, chaining_all}
use Rattle.connected_match.proofs.chain.chain.Goals as goal

pub row_before-requires-clause-next : goal.row_before-requires-clause-next
row_before-requires-clause-next c x among =
    let low = c.loop-atom.invariant.low x (subst (λ l. Contains l x) c.as_slice-in-Some.ensures.value among) in
    let wide = c.in_ok-firsts.ensures.width_is in
    rw c.as_slice-in-Some-2.ensures.value (omega (arith, low, wide))

pub row_before-requires-clause-own : goal.row_before-requires-clause-own
row_before-requires-clause-own c =
    let few = atom_few c.args.atoms.items c.pop.new.self.items c.in-Some.atom c.loop-atom.invariant.rest (c.loop-atom.invariant.split ∙ ap (λ l. l ++ c.loop-atom.invariant.rest) c.in-Some.ensures.items) in
    let wide = c.in_ok-firsts.ensures.width_is in
    rw c.as_slice-in-Some-2.ensures.value (omega (arith, few, wide, c.requires))

pub linked-requires : goal.linked-requires
linked-requires c =
    let few = atom_few c.args.atoms.items c.pop.new.self.items c.in-Some.atom c.loop-atom.invariant.rest (c.loop-atom.invariant.split ∙ ap (λ l. l ++ c.loop-atom.invariant.rest) c.in-Some.ensures.items) in
    omega (arith, few, c.requires)

pub loop-atom-preserved : goal.loop-atom-preserved
loop-atom-preserved c =
    let given = c.args.given.now in
    let firsts = c.in_ok-firsts.firsts.items in
    let long : c.len-in-Some.result ≡ length c.pop.new.self.items = c.len-in-Some.ensures ∙ c.pop.new.self.ok.0 in
    let row : c.in_ok-row.row.items ≡ row_before firsts (length c.pop.new.self.items) given c.loop-atom.next.items c.in-Some.atom.terms =
    rw long at (rw c.as_slice-in-Some-2.ensures.value at (rw c.as_slice-in-Some.ensures.value at c.in_ok-row.ensures)) in
    let is : IsLink given c.in_ok-row.row.items c.in-Some.atom c.loop-atom.next.items c.in_ok-linked.field-0 = rw c.as_slice-in-Some-4.ensures.value at (rw c.as_slice-in-Some-3.ensures.value at c.in_ok-linked.ensures) in
    rw c.in_ok-push.ensures.items (rw row
    (chaining_more given firsts c.args.atoms.items c.pop.new.self.items c.in-Some.atom c.loop-atom.next.items c.loop-atom.links.items c.in_ok-linked.field-0 c.requires
    (rw c.as_slice.ensures.value at c.in_ok-firsts.ensures)
    (subst (λ l. Chaining given firsts c.args.atoms.items l c.loop-atom.next.items c.loop-atom.links.items) c.in-Some.ensures.items c.loop-atom.invariant)
    (rw row at is)))

pub returns : goal.returns
returns c =
    let short = c.in_default.ensures.cases.0 in
    let none : c.loop-atom.left.items ≡ [] = nil_from_length c.loop-atom.left.items (let e = c.loop-atom.left.ok.0 in omega (arith, short, e)) in
    rw c.reverse.ensures.items
    (chaining_all c.args.given.now c.in_ok-firsts.firsts.items c.args.atoms.items c.loop-atom.next.items c.loop-atom.links.items
    (subst (λ l. Chaining c.args.given.now c.in_ok-firsts.firsts.items c.args.atoms.items l c.loop-atom.next.items c.loop-atom.links.items) none c.loop-atom.invariant))
