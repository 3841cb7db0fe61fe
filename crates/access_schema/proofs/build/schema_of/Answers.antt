-- Each list is what the parts declare, and these make a schema.
use Rattle.std.proofs.Common.{◌≤◌, ◌∙◌, sym, subst, ap, List, length}
use Rattle.meaning.specs.declared.types.Relation.{Relation}
use Rattle.access_schema.specs.declared.limits.TheConstants.{MOST_RELATIONS}
use Rattle.access_schema.specs.Content.{methods_of, rules_of, sources_of}
use Rattle.access_schema.specs.Fits.{AreSmall}
use Rattle.access_schema.proofs.BuiltSchema.{small, is_schema}
use Rattle.access_schema.proofs.BuiltRules.{parts_within, constants_few}
use Rattle.access_schema.proofs.build.schema_of.Goals as goal

pub methods_of-requires-clause-small : goal.methods_of-requires-clause-small
methods_of-requires-clause-small c = subst (λ (rs : List Relation). AreSmall rs) (sym (c.as_slice.ensures ∙ c.requires.relations)) (small c.args.parts.now c.requires.faultless c.requires.named c.requires.sorts)

pub methods_of-requires-clause-within : goal.methods_of-requires-clause-within
methods_of-requires-clause-within c = parts_within c.args.parts.now c.requires.faultless

pub rules_of-requires-clause-small : goal.rules_of-requires-clause-small
rules_of-requires-clause-small c = subst (λ (rs : List Relation). AreSmall rs) (sym (c.as_slice-2.ensures ∙ c.requires.relations)) (small c.args.parts.now c.requires.faultless c.requires.named c.requires.sorts)

pub rules_of-requires-clause-within : goal.rules_of-requires-clause-within
rules_of-requires-clause-within c = parts_within c.args.parts.now c.requires.faultless

pub constants_of-requires : goal.constants_of-requires
constants_of-requires c = constants_few c.args.parts.now c.requires.faultless

pub sources_of-requires : goal.sources_of-requires
sources_of-requires c = subst (λ (rs : List Relation). length rs ≤ MOST_RELATIONS) (sym (c.as_slice-3.ensures ∙ c.requires.relations)) (small c.args.parts.now c.requires.faultless c.requires.named c.requires.sorts).few

pub invariant_of-result : goal.invariant_of-result
invariant_of-result c =
    let methods = c.in_ok-methods.ensures ∙ ap (λ (rs : List Relation). methods_of rs c.args.parts.now) (c.as_slice.ensures ∙ c.requires.relations) in
    let rules = c.in_ok-rules.ensures ∙ ap (λ (rs : List Relation). rules_of rs c.args.parts.now) (c.as_slice-2.ensures ∙ c.requires.relations) in
    let sources = c.in_ok-sources.ensures ∙ ap (λ (rs : List Relation). sources_of rs c.args.parts.now) (c.as_slice-3.ensures ∙ c.requires.relations) in
    record { valid = rw (c.requires.relations, methods, rules, c.in_ok-constants.ensures, sources) (is_schema c.args.parts.now c.requires.faultless c.requires.named c.requires.sorts) }

pub returns : goal.returns
returns c = record {
  relations = c.requires.relations;
  methods = c.in_ok-methods.ensures ∙ ap (λ (rs : List Relation). methods_of rs c.args.parts.now) (c.as_slice.ensures ∙ c.requires.relations);
  rules = c.in_ok-rules.ensures ∙ ap (λ (rs : List Relation). rules_of rs c.args.parts.now) (c.as_slice-2.ensures ∙ c.requires.relations);
  constants = c.in_ok-constants.ensures;
  sources = c.in_ok-sources.ensures ∙ ap (λ (rs : List Relation). sources_of rs c.args.parts.now) (c.as_slice-3.ensures ∙ c.requires.relations);
}
