use Rattle.std.proofs.Common.{◌∙◌, ap}
use Rattle.schema_parts.specs.Parts.{marked}
use Rattle.schema_parts.proofs.Fewer.{part_is_schema}
use Rattle.schema_parts.proofs.parting.with_some_rules.Goals as goal

pub invariant_of-result : goal.invariant_of-result
invariant_of-result c =
    let whole = c.args.schema.now in
    let relations = c.in_ok-copied_relations.ensures ∙ c.as_slice.ensures in
    let methods = c.in_ok-copied_methods.ensures ∙ c.as_slice-2.ensures in
    let rules = c.in_ok-marked_rules.ensures ∙ ap (λ rules. marked rules c.args.marks.now) c.as_slice-3.ensures in
    record {
      valid = rw (relations, methods, rules, c.in_ok-copy.ensures, c.new.ensures) (part_is_schema whole.relations whole.methods whole.rules whole.constants whole.sources c.args.marks.now whole.valid);
    }
