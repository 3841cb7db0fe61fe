use Rattle.std.proofs.Common.{◌≡◌, ◌∙◌, [], List, ℕ, map, subst, sym, ap}
use Rattle.std.specs.Prelude.{Contains}
use Rattle.std.proofs.lemmas.Result.{IfOk-weaker}
use Rattle.meaning.specs.declared.types.Out.{Out}
use Rattle.middleware.specs.Blocks.{Gathers}
use Rattle.middleware.specs.BlockRounds.{AddsOutputs, out_of}
use Rattle.middleware.specs.Branches.{output_of, HasAdded}
use Rattle.middleware.proofs.BlockRounding.{adds_outputs, shown_in}
use Rattle.middleware.proofs.branch.add_outputs.Goals as goal

pub local_outs-requires : goal.local_outs-requires
local_outs-requires c = λ k among.
    let table = c.in_ok-table.field-0.table in
    let rest = c.in_ok-table.field-0.rest in
    let g = subst (λ (l : List ℕ). Gathers c.args.count l c.in_ok-first.first c.args.blocks.items table [] rest.items) c.as_slice.ensures.value c.in_ok-table.ensures in
    subst (λ (l : List ℕ). Contains l k) (sym c.as_slice-2.ensures)
    (shown_in c.args.outs.now c.args.count c.args.blocks.items c.requires.live c.requires.ready c.in_ok-shown.shown.items c.in_ok-first.first table rest.items g c.in_ok-shown.ensures k among)

pub returns : goal.returns
returns c =
    let table = c.in_ok-table.field-0.table in
    let rest = c.in_ok-table.field-0.rest in
    let locals = c.in_ok-local.local in
    let g = subst (λ (l : List ℕ). Gathers c.args.count l c.in_ok-first.first c.args.blocks.items table [] rest.items) c.as_slice.ensures.value c.in_ok-table.ensures in
    let reads : (texts : ℕ → List ℕ) → output_of locals (map texts table.columns) ≡ map (out_of texts) c.args.outs.now =
    λ texts. ap (λ (l : List ℕ). output_of locals (map texts l)) (sym c.as_slice-2.ensures) ∙ c.in_ok-local.ensures texts in
    IfOk-weaker c.add_rows.result (λ more. HasAdded c.args.into (map (output_of c.as_slice-3.result.now) table.rows) more) (λ more. AddsOutputs c.args.outs.now c.args.count c.args.blocks.items c.args.into more)
    (λ more added. adds_outputs c.args.outs.now c.args.count c.args.blocks.items c.requires.live c.requires.ready c.in_ok-shown.shown.items c.in_ok-first.first table rest.items g c.in_ok-shown.ensures
    c.in_ok-first.ensures.rows c.in_ok-first.ensures.columns locals reads c.args.into more (subst (λ (l : List Out). HasAdded c.args.into (map (output_of l) table.rows) more) c.as_slice-3.ensures added))
    c.add_rows.ensures
