use Rattle.std.proofs.Common.{◌≡◌, ◌∙◌, ◌∷◌, ◌++◌, ◌<◌, ◌+◌, [], List, ℕ, Option, Contains, arith, ap, sym, subst, length, slice_index_or}
use Rattle.meaning.specs.declared.types.Val.{Val}
use Rattle.homomorphism.specs.declared.assignment.Assignment.{Assignment}
use Rattle.homomorphism.specs.Matches.{AreCovered}
use Rattle.homomorphism.specs.Frontier.{AreFrontier}
use Rattle.homomorphism.specs.Widening.{taken}
use Rattle.homomorphism.proofs.Starting.{length_push}
use Rattle.homomorphism.proofs.Touching.{default}
use Rattle.homomorphism.proofs.Walking.{each_push}
use Rattle.homomorphism.proofs.walk.listed.Goals as goal

pub frontier-requires-clause-within : goal.frontier-requires-clause-within
frontier-requires-clause-within c =
    let i = c.loop-part.part in
    let run : c.as_slice-in-loop-part.result.now ≡ slice_index_or c.args.runs.now i [] = c.as_slice-in-loop-part.ensures ∙ c.index-runs-part.is ∙ default c.args.runs.now i c.index-runs-part.result [] c.loop-part-test.true in
    λ n h. c.requires.within i n c.loop-part-test.true (subst (λ z. Contains z n) run h)

pub frontier-requires-clause-covered : goal.frontier-requires-clause-covered
frontier-requires-clause-covered c =
    let i = c.loop-part.part in
    let low : i < length c.args.givens.now = let n = c.requires.count in let l = c.loop-part-test.true in omega arith in
    let run : c.as_slice-in-loop-part.result.now ≡ slice_index_or c.args.runs.now i [] = c.as_slice-in-loop-part.ensures ∙ c.index-runs-part.is ∙ default c.args.runs.now i c.index-runs-part.result [] c.loop-part-test.true in
    let given : c.in_ok-given.given.items ≡ slice_index_or c.args.givens.now i [] = c.in_ok-given.ensures ∙ c.as_slice.ensures ∙ c.index-givens-part.is ∙ default c.args.givens.now i c.index-givens-part.result [] low in
    subst (λ (g : List (Option Val)). AreCovered (taken c.args.atoms.now c.as_slice-in-loop-part.result.now) g) (sym given)
    (subst (λ (r : List ℕ). AreCovered (taken c.args.atoms.now r) (slice_index_or c.args.givens.now i [])) (sym run) (c.requires.covered i c.loop-part-test.true))

pub loop-part-preserved : goal.loop-part-preserved
loop-part-preserved c =
    let i = c.loop-part.part in
    let store = c.args.store.now in
    let atoms = c.args.atoms.now in
    let head = c.args.head.now in
    let runs = c.args.runs.now in
    let givens = c.args.givens.now in
    let low : i < length givens = let n = c.requires.count in let l = c.loop-part-test.true in omega arith in
    let run : c.as_slice-in-loop-part.result.now ≡ slice_index_or runs i [] = c.as_slice-in-loop-part.ensures ∙ c.index-runs-part.is ∙ default runs i c.index-runs-part.result [] c.loop-part-test.true in
    let given : c.in_ok-given.given.items ≡ slice_index_or givens i [] = c.in_ok-given.ensures ∙ c.as_slice.ensures ∙ c.index-givens-part.is ∙ default givens i c.index-givens-part.result [] low in
    let (matches, so, are) = c.in_ok-frontier.ensures.found in
    let list : c.from_vec.result ≡ matches = c.from_vec.ensures ∙ so ∙ ap (λ z. z ++ matches) c.new-found.ensures.items in
    let found : AreFrontier store (taken atoms (slice_index_or runs i [])) head (slice_index_or givens i []) c.from_vec.result =
    subst (λ (m : List Assignment). AreFrontier store (taken atoms (slice_index_or runs i [])) head (slice_index_or givens i []) m) (sym list)
    (subst (λ (g : List (Option Val)). AreFrontier store (taken atoms (slice_index_or runs i [])) head g matches) given
    (subst (λ (r : List ℕ). AreFrontier store (taken atoms r) head c.in_ok-given.given.items matches) run are)) in
    let size : length (c.loop-part.lists.items ++ c.from_vec.result ∷ []) ≡ i + 1 = let e = length_push c.loop-part.lists.items c.from_vec.result in let n = c.loop-part.invariant.count in omega arith in
    rw c.in_ok-push.ensures.items (record {
      count = size;
      listed = λ k l. each_push (λ k m. AreFrontier store (taken atoms (slice_index_or runs k [])) head (slice_index_or givens k []) m) c.loop-part.lists.items c.from_vec.result [] i c.loop-part.invariant.count
          (λ j less. c.loop-part.invariant.listed j (subst (λ n. j < n) (sym c.loop-part.invariant.count) less)) found k (subst (λ n. k < n) size l);
    })
