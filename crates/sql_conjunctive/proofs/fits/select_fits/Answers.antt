use Rattle.std.proofs.Common.{◌≡◌, true, false, sym, ◌∙◌}
use Rattle.access_schema.specs.Meaning.{meaning_of}
use Rattle.sql_conjunctive.proofs.OfSchema.{fits_from, fits_froms, fits_conditions, fits_items}
use Rattle.sql_conjunctive.proofs.fits.select_fits.Goals.{then-are_relations, else-are_relations}
use Rattle.sql_conjunctive.proofs.fits.select_fits.Goals as goal

pub returns-then-conditions_fit : goal.returns-then-conditions_fit
returns-then-conditions_fit c = elim c.if-are_relations.branch [
  | then-are_relations w ↦ (
    (λ items. fits_from (meaning_of c.args.schema.now) c.args.select.now (c.are_relations.ensures.0 w.if-are_relations.true) (w.conditions_fit.ensures.0 (sym w.value-is ∙ c.if-conditions_fit.true)) (c.items_fit.ensures.0 items)),
    (λ fits. c.items_fit.ensures.1 (fits_items (meaning_of c.args.schema.now) c.args.select.now fits)),
  )
  | else-are_relations w ↦ (let never : false ≡ true = sym w.if-are_relations.false ∙ sym w.value-is ∙ c.if-conditions_fit.true in absurd (cc))
]

pub returns-else-conditions_fit : goal.returns-else-conditions_fit
returns-else-conditions_fit c = (
  (λ is. let never : false ≡ true = sym c.if-conditions_fit.false ∙ is in absurd (cc)),
  (λ fits. elim c.if-are_relations.branch [
    | then-are_relations w ↦ w.value-is ∙ w.conditions_fit.ensures.1 (fits_conditions (meaning_of c.args.schema.now) c.args.select.now fits)
    | else-are_relations w ↦ (let never : false ≡ true = sym w.if-are_relations.false ∙ c.are_relations.ensures.1 (fits_froms (meaning_of c.args.schema.now) c.args.select.now fits) in absurd (cc))
  ]),
)
