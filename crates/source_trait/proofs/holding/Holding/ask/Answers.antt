use Rattle.std.proofs.Common.{◌≡◌, rules, Some, None, length}
use Rattle.std.proofs.lemmas.Result.{IfOk-weaker}
use Rattle.source_trait.specs.Holding.{attachment_in, attached_in}
use Rattle.source_trait.proofs.Stores.{picked, picked_none, kept_fits, rows_fit}
use Rattle.source_trait.proofs.Indexing.{indexes_of}
use Rattle.source_trait.proofs.holding.Holding.ask.Goals as goal

pub returns-in_default-clause-picks : goal.returns-in_default-clause-picks
returns-in_default-clause-picks c =
    let at : attachment_in c.self.inside.list.items c.args.rel ≡ None = search rules in
    let is = picked_none c.args.rel c.args.positions.now c.args.values.now c.self.inside.list.items at in
    search rules

pub indexed-requires : goal.indexed-requires
indexed-requires c =
    let a = c.in-Some.attachment.now in
    let at : attachment_in c.self.inside.list.items c.args.rel ≡ Some a = search rules in
    indexes_of c.self.inside.list.items c.args.rel a c.self.inside.indexes.items c.self.invariant.1 at

pub returns-clause-picks : goal.returns-clause-picks
returns-clause-picks c =
    let a = c.in-Some.attachment.now in
    let at : attachment_in c.self.inside.list.items c.args.rel ≡ Some a = search rules in
    let is = picked c.args.rel c.args.positions.now c.args.values.now c.self.inside.list.items a c.self.invariant.0 at in
    search rules

pub returns-clause-fits : goal.returns-clause-fits
returns-clause-fits c =
    let a = c.in-Some.attachment.now in
    let at : attachment_in c.self.inside.list.items c.args.rel ≡ Some a = search rules in
    let fit = kept_fits (length a.columns) c.args.positions.now c.args.values.now a.rows (rows_fit c.self.inside.list.items c.args.rel a c.self.invariant.0 at) in
    let there : attached_in c.args.self.now c.args.rel ≡ Some (a.columns, a.locator) = search rules in
    rw there (IfOk-weaker c.indexed.result _ _ (λ rows is. rw is fit) c.indexed.ensures.found)
