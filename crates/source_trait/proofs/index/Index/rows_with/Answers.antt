use Rattle.std.proofs.Common.{◌≡◌, ◌∙◌, ◌<◌, ◌%◌, ◌++◌, ◌∷◌, [], get_or, length, take, refl, arith}
use Rattle.std.specs.List.{filter}
use Rattle.source_trait.specs.Asking.{agrees}
use Rattle.source_trait.specs.Index.{chain_of, key_chain}
use Rattle.source_trait.proofs.Indexing.{found_first, found_more}
use Rattle.source_trait.proofs.index.Index.rows_with.Goals as goal

pub loop-number-init : goal.loop-number-init
loop-number-init c =
    let index = c.args.self.now in
    let code = c.key_hash.result % index.count in
    let values = take (length c.as_slice-positions.result.now) c.args.values.now in
    let chain : c.in_ok-chain.chain ≡ chain_of index.crowded code values = c.in_ok-chain.ensures in
    let low : c.in_ok-chain.chain < length index.heads.items = rw chain (c.requires.1 code values (omega (arith, c.requires.0))) in
    let asked : chain_of index.crowded code values ≡ key_chain index.positions index.count index.crowded c.args.values.now = rw (c.key_hash.ensures, c.as_slice-positions.ensures) refl in
    let at : get_or c.as_slice-heads.result.now c.in_ok-chain.chain 0 ≡ get_or index.heads.items c.in_ok-chain.chain 0 = rw c.as_slice-heads.ensures.value refl in
    rw c.in_ok-room.ensures
    (found_first index.positions c.args.values.now c.args.rows.now index.count index.crowded index.heads.items index.next.items c.in_ok-chain.chain (get_or c.as_slice-heads.result.now c.in_ok-chain.chain 0) low c.requires.2 (chain ∙ asked) at)

pub loop-number-preserved : goal.loop-number-preserved
loop-number-preserved c =
    let index = c.args.self.now in
    let rows = c.args.rows.now in
    let at : get_or c.as_slice-next.result.now c.loop-number.number 0 ≡ get_or index.next.items c.loop-number.number 0 = rw c.as_slice-next.ensures.value refl in
    let found : c.in_ok-found.found ≡ c.loop-number.found ++ filter (agrees index.positions c.args.values.now) (get_or rows c.loop-number.number [] ∷ []) = rw (← c.as_slice-positions.ensures, ← c.at.ensures) c.in_ok-found.ensures in
    rw found
    (found_more index.positions c.args.values.now c.args.rows.now index.count index.crowded index.heads.items index.next.items c.loop-number.number (get_or c.as_slice-next.result.now c.loop-number.number 0) c.loop-number.found c.loop-number.invariant c.requires.2
    (omega (arith, c.loop-number-test.true, c.len.ensures)) at)
