use Rattle.std.proofs.Common.{◌≡◌, ◌∙◌, List, ℕ, [], ap, arith, subst, slice_index_or, Contains}
use Rattle.homomorphism.specs.Walks.{AreShut, IsPart}
use Rattle.homomorphism.specs.Widening.{AreUntouched, taken}
use Rattle.homomorphism.proofs.AtomByAtom.{is_among}
use Rattle.homomorphism.proofs.Starting.{length_push}
use Rattle.homomorphism.proofs.Touching.{default}
use Rattle.homomorphism.proofs.Walking.{each_push}
use Rattle.homomorphism.proofs.parts.apart.Goals as goal

pub are_untouched-requires : goal.are_untouched-requires
are_untouched-requires c =
    let among : Contains c.args.runs.items c.index-parts-part.result = subst (λ z. Contains z c.index-parts-part.result) c.as_slice-parts.ensures.value
    (is_among c.as_slice-parts.result.now c.loop-part.part c.index-parts-part.result c.loop-part-test.true c.index-parts-part.is) in
    λ n h. c.requires.within c.index-parts-part.result n among (subst (λ z. Contains z n) c.as_slice-in-loop-part-2.ensures h)

pub loop-part-preserved : goal.loop-part-preserved
loop-part-preserved c =
    let i = c.loop-part.part in
    let runs = c.args.runs.items in
    let start = c.args.start.now in
    let owners = c.args.owners.items in
    let given = c.in_ok-given.given in
    let at : c.index-parts-part.result ≡ slice_index_or runs i [] = c.index-parts-part.is ∙ default c.as_slice-parts.result.now i c.index-parts-part.result [] c.loop-part-test.true
    ∙ ap (λ z. slice_index_or z i []) c.as_slice-parts.ensures.value in
    let shut : AreShut start owners i given = rw c.as_slice-in-loop-part.ensures.value at c.in_ok-given.ensures.shut in
    let free : AreUntouched (taken c.args.atoms.now c.index-parts-part.result) start given = rw c.as_slice-in-loop-part-2.ensures at (rw c.as_slice-in-loop-part-3.ensures at (c.are_untouched.ensures c.if-not-are_untouched.false)) in
    let part : IsPart c.args.atoms.now start owners i (slice_index_or runs i []) given = record {
      width = c.in_ok-given.ensures.width;
      shut = shut;
      free = subst (λ (run : List ℕ). AreUntouched (taken c.args.atoms.now run) start given) at free;
    } in
    rw c.in_ok-push.ensures.ok (record {
      count = let e = length_push c.loop-part.givens given in let n = c.loop-part.invariant.count in omega arith;
      each = each_push (λ i given. IsPart c.args.atoms.now start owners i (slice_index_or runs i []) given) c.loop-part.givens given [] i c.loop-part.invariant.count c.loop-part.invariant.each part;
    })
