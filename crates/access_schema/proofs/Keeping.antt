-- What a schema keeps, as the definitions of plans and runs read it.
use Rattle.std.proofs.Common.{◌∙◌, sym, ap, ℕ, List, ◌++◌, Some, slice_get}
use Rattle.std.specs.Prelude.{Contains}
use Rattle.std.proofs.lemmas.List.Elements.{Contains-append_left, Contains-append_right}
use Rattle.meaning.specs.declared.types.Method.{Method}
use Rattle.meaning.specs.declared.types.Rule.{Rule}
use Rattle.meaning.specs.declared.types.Atom.{Atom}
use Rattle.meaning.specs.declared.types.Term.TheVariants.{Const}
use Rattle.meaning.specs.Instances.{FitsRelation}
use Rattle.meaning.specs.Plans.{IsWellFormed}
use Rattle.meaning.specs.Fitting.{HaveConstants, RulesFit}
use Rattle.meaning.specs.Sorts.{RuleIsSorted}
use Rattle.access_schema.specs.declared.schema.Schema.{Schema}
use Rattle.access_schema.specs.Meaning.{meaning_of}
use Rattle.lists.proofs.Members.{got_below, some_injective, map_got, contains_joined}
use Rattle.lists.proofs.Places.{got_contained}
use Rattle.access_schema.proofs.Texts.{among_contains}
use Rattle.access_schema.proofs.Ordered.{numbered}
use Rattle.access_schema.proofs.Decided.{sorted_had}

pub well_formed : (schema : Schema) → IsWellFormed (meaning_of schema)
well_formed schema = record {
  once = λ first second in_first in_second same.
      let at_first = got_contained schema.methods first in_first in
      let at_second = got_contained schema.methods second in_second in
      let name_first = map_got (λ (m : Method). m.name) schema.methods in_first.0 first at_first in
      let name_second = map_got (λ (m : Method). m.name) schema.methods in_second.0 second at_second in
      let place = schema.valid.methods_are.differ in_first.0 in_second.0 second.name (name_first ∙ ap Some same) name_second in
      some_injective first second (sym at_first ∙ ap (slice_get schema.methods) place ∙ at_second);
  inputs = schema.valid.methods_are.inputs;
}

atom_fits : (schema : Schema) (rule : Rule) (atom : Atom) → Contains schema.rules rule → Contains (rule.body ++ rule.head) atom → FitsRelation (meaning_of schema) atom.rel atom.terms
atom_fits schema rule atom of_rules of_rule =
    let fits = (schema.valid.rules_are.fit rule of_rules).atoms atom of_rule in
    let (relation, at) = got_below schema.relations atom.rel fits.placed in
    record { relation = relation; there = at; width = fits.arity relation at }

constants_there : (schema : Schema) (rule : Rule) → Contains schema.rules rule → HaveConstants schema.constants (rule.body ++ rule.head)
constants_there schema rule of_rules atom c of_rule has =
    among_contains schema.constants c ((schema.valid.rules_are.fit rule of_rules).constants_are c (contains_joined (λ (a : Atom). a.terms) (rule.body ++ rule.head) atom (Const c) of_rule has))

pub body_fits : (schema : Schema) (rule : Rule) (atom : Atom) → Contains schema.rules rule → Contains rule.body atom → FitsRelation (meaning_of schema) atom.rel atom.terms
body_fits schema rule atom of_rules of_body = atom_fits schema rule atom of_rules (Contains-append_left rule.body rule.head atom of_body)

-- the rules fit with each list that has the schema's constants
pub rules_fit : (schema : Schema) (constants : List (List ℕ)) → ((c : List ℕ) → Contains schema.constants c → Contains constants c) → RulesFit (meaning_of schema) constants
rules_fit schema constants within = record {
  numbered = λ rule of_rules. numbered rule (schema.valid.rules_are.fit rule of_rules).in_order;
  have = λ rule of_rules. (
    (λ atom c of_body has. within c (constants_there schema rule of_rules atom c (Contains-append_left rule.body rule.head atom of_body) has)),
    (λ atom c of_head has. within c (constants_there schema rule of_rules atom c (Contains-append_right rule.body rule.head atom of_head) has)),
  );
  heads = λ rule atom of_rules of_head. atom_fits schema rule atom of_rules (Contains-append_right rule.body rule.head atom of_head);
}

pub rules_sorted : (schema : Schema) (rule : Rule) → Contains schema.rules rule → RuleIsSorted (meaning_of schema) rule
rules_sorted schema rule of_rules = sorted_had (meaning_of schema) rule (schema.valid.sorted rule of_rules)
