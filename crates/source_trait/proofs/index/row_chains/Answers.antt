use Rattle.std.proofs.Common.{◌<◌, sym, subst, arith}
use Rattle.std.proofs.lemmas.Result.{IfOk-weaker}
use Rattle.source_trait.specs.Index.{chain_of}
use Rattle.source_trait.proofs.Crowding.{chains_small}
use Rattle.source_trait.proofs.index.row_chains.Goals as goal

pub chains-requires : goal.chains-requires
chains-requires c =
    let some : 0 < c.args.count = omega (arith, c.requires.count) in
    rw c.in_ok-chosen.ensures (chains_small c.args.positions.now c.args.count c.chain_count-chain_count.result c.args.crowded.now c.args.rows.now some c.chain_count-chain_count.ensures)

pub returns-clause-heads : goal.returns-clause-heads
returns-clause-heads c =
    IfOk-weaker c.chains.result _ _ (λ made is. λ code values low. subst (λ n. chain_of c.args.crowded.now code values < n) (sym is) (c.chain_count-chain_count.ensures code values low)) c.chains.ensures.heads
