use Rattle.std.proofs.Common.{◌≡◌, List, ℕ, map, refl, subst}
use Rattle.middleware.specs.Cutting.{KeepsLive}
use Rattle.middleware.specs.Live.{is_live}
use Rattle.middleware.specs.Parts.{key_of}
use Rattle.middleware.proofs.CutBlocks.{is_cut}
use Rattle.middleware.proofs.live.cut_block.Goals as goal

pub returns : goal.returns
returns c =
    let live = is_live c.args.steps.now c.args.outs.now in
    let kept = c.in_ok-kept.kept in
    is_cut live c.args.block.now (record { columns = kept.columns; rows = c.in_ok-rows.rows }) kept c.in_ok-list.list
    (subst (λ (l : List ℕ). KeepsLive live l l kept) c.as_slice.ensures c.in_ok-kept.ensures)
    (subst (λ (l : List ℕ). c.in_ok-list.list ≡ map (key_of l) c.args.block.now.rows) c.as_slice-2.ensures.value c.in_ok-list.ensures)
    refl c.in_ok-rows.ensures
