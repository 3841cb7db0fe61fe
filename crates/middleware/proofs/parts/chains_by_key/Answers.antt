use Rattle.std.proofs.Common.{◌≡◌, ◌<◌, ◌+◌, ◌-◌, ◌∙◌, List, ℕ, Bor, ap, length, map, refl, replicate, subst, arith}
use Rattle.std.proofs.lemmas.List.{length-replicate}
use Rattle.std.proofs.lemmas.Option.{slice_get_within}
use Rattle.middleware.specs.Parts.{HaveChains, key_of}
use Rattle.middleware.proofs.Chains.{chains_none, chains_with, chains_without}
use Rattle.middleware.proofs.parts.chains_by_key.Goals as goal

pub loop-number-init : goal.loop-number-init
loop-number-init c =
    let count = c.len-number.result in
    let heads : c.in_ok-heads.heads.items ≡ replicate (length c.args.keys.now) count =
    c.in_ok-heads.ensures.items_if_clones_equal (λ y e. e) ∙ ap (λ n. replicate n count) c.len.ensures in
    let next : c.in_ok-next.next.items ≡ replicate count count = c.in_ok-next.ensures.items_if_clones_equal (λ y e. e) in
    record {
      within = omega (arith, c.len-number.ensures);
      chains = chains_none c.args.positions.now c.args.answer.now c.args.keys.now count c.in_ok-heads.heads.items c.in_ok-next.next.items c.len-number.ensures heads
          (ap length next ∙ length-replicate count count) (ap length heads ∙ length-replicate (length c.args.keys.now) count);
    }

pub at-requires : goal.at-requires
at-requires c = omega (arith, c.loop-number.invariant.within, c.loop-number-test.true)

pub loop-number-preserved-in_default : goal.loop-number-preserved-in_default
loop-number-preserved-in_default c =
    let number = c.loop-number.number - 1 in
    let whole : c.loop-number.number ≡ number + 1 = omega (arith, c.loop-number-test.true) in
    let less : number < length c.args.answer.now = omega (arith, c.loop-number.invariant.within, whole) in
    let values = map (λ s. s.now) c.as_slice.result.now in
    let has : values ≡ key_of c.args.positions.now c.at.result = ap (λ (l : List (Bor (List ℕ))). map (λ s. s.now) l) c.as_slice.ensures.value ∙ c.in_ok-key_texts.ensures in
    let so_far = subst (λ n. HaveChains c.args.positions.now c.args.answer.now c.args.keys.now n c.loop-number.heads.items c.loop-number.next.items) whole c.loop-number.invariant.chains in
    record {
      within = omega (arith, less);
      chains = chains_without c.args.positions.now c.args.answer.now c.args.keys.now number c.at.result values c.loop-number.heads.items c.loop-number.next.items less c.at.ensures has so_far
          (c.in_default.ensures.absent refl);
    }

pub index-requires : goal.index-requires
index-requires c =
    omega (arith, c.loop-number.heads.ok.0, c.loop-number.invariant.chains.heads_long, slice_get_within c.args.keys.now c.in-Ok.place (map (λ s. s.now) c.as_slice.result.now) c.in-Ok.ensures.there)

pub index_mut-requires : goal.index_mut-requires
index_mut-requires c = omega (arith, c.loop-number.next.ok.0, c.loop-number.invariant.chains.next_long, c.loop-number.invariant.within, c.loop-number-test.true)

pub index_mut-requires-in-loop-number : goal.index_mut-requires-in-loop-number
index_mut-requires-in-loop-number c =
    omega (arith, c.loop-number.heads.ok.0, c.loop-number.invariant.chains.heads_long, slice_get_within c.args.keys.now c.in-Ok.place (map (λ s. s.now) c.as_slice.result.now) c.in-Ok.ensures.there)

pub loop-number-preserved : goal.loop-number-preserved
loop-number-preserved c =
    let number = c.loop-number.number - 1 in
    let whole : c.loop-number.number ≡ number + 1 = omega (arith, c.loop-number-test.true) in
    let less : number < length c.args.answer.now = omega (arith, c.loop-number.invariant.within, whole) in
    let values = map (λ s. s.now) c.as_slice.result.now in
    let has : values ≡ key_of c.args.positions.now c.at.result = ap (λ (l : List (Bor (List ℕ))). map (λ s. s.now) l) c.as_slice.ensures.value ∙ c.in_ok-key_texts.ensures in
    let so_far = subst (λ n. HaveChains c.args.positions.now c.args.answer.now c.args.keys.now n c.loop-number.heads.items c.loop-number.next.items) whole c.loop-number.invariant.chains in
    record {
      within = omega (arith, less);
      chains = chains_with c.args.positions.now c.args.answer.now c.args.keys.now number c.at.result values c.loop-number.heads.items c.loop-number.next.items less c.at.ensures has so_far
          c.in-Ok.place c.index.result.now c.requires.ascends c.in-Ok.ensures.there c.index.ensures;
    }
