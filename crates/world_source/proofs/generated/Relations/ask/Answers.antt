-- The rows of the relation's formula that have the values.
use Rattle.std.proofs.Common.{◌∙◌, sym, ap, subst, List}
use Rattle.std.proofs.lemmas.Result.{IfOk-weaker}
use Rattle.source_trait.specs.Holding.{IsStore, attachment_in}
use Rattle.source_trait.specs.declared.holding.Attachment.{Attachment}
use Rattle.world_source.specs.Generated.{attachments_of}
use Rattle.world_source.specs.declared.generated.Generated.{Generated}
use Rattle.world_source.proofs.Attached.{pair_key, picks, fits}
use Rattle.world_source.proofs.generated.Relations.ask.Goals as goal

pub rows_with-requires : goal.rows_with-requires
rows_with-requires c =
    let f = c.in-Some.formula in
    let found = c.in-Some.ensures in
    let at = ap (λ (list : List Generated). attachment_in (attachments_of list) c.args.rel) (sym c.deref.ensures.value) ∙ found.1 in
    let here = ap (λ (store : List Attachment). attachment_in store c.args.rel) (sym c.self.view_is) ∙ at in
    pair_key c.args.self.now c.args.rel f.step f.count found.0 (subst IsStore c.self.view_is c.self.invariant) here found.2 c.args.positions.now c.args.values.now f.some c.requires

pub returns-in-Some-clause-picks : goal.returns-in-Some-clause-picks
returns-in-Some-clause-picks c =
    let f = c.in-Some.formula in
    let found = c.in-Some.ensures in
    let at = ap (λ (list : List Generated). attachment_in (attachments_of list) c.args.rel) (sym c.deref.ensures.value) ∙ found.1 in
    let here = ap (λ (store : List Attachment). attachment_in store c.args.rel) (sym c.self.view_is) ∙ at in
    let those = picks c.args.self.now c.args.rel f.step f.count found.0 (subst IsStore c.self.view_is c.self.invariant) here found.2 c.args.positions.now c.args.values.now in
    IfOk-weaker c.rows_with.result _ _ (λ rows is. is ∙ those) c.rows_with.ensures

pub returns-in-Some-clause-fits : goal.returns-in-Some-clause-fits
returns-in-Some-clause-fits c =
    let f = c.in-Some.formula in
    let found = c.in-Some.ensures in
    let at = ap (λ (list : List Generated). attachment_in (attachments_of list) c.args.rel) (sym c.deref.ensures.value) ∙ found.1 in
    let here = ap (λ (store : List Attachment). attachment_in store c.args.rel) (sym c.self.view_is) ∙ at in
    let those = fits c.args.self.now c.args.rel f.step f.count found.0 (subst IsStore c.self.view_is c.self.invariant) here found.2 c.args.positions.now c.args.values.now in
    IfOk-weaker c.rows_with.result _ _ (λ rows is. rw is those) c.rows_with.ensures
