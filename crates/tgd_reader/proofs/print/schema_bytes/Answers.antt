use Rattle.std.proofs.Common.{sym, subst}
use Rattle.std.specs.Str.{IsUtf8}
use Rattle.std.proofs.lemmas.Str.{IsUtf8-nil}
use Rattle.tgd_reader.proofs.Writing.{methods_placed, rules_placed, sources_placed, schema_written}
use Rattle.tgd_reader.proofs.print.schema_bytes.Goals as goal

pub print_methods-requires : goal.print_methods-requires
print_methods-requires c = rw (c.as_slice-relations.ensures, c.as_slice.ensures) (methods_placed c.args.schema.now)

pub print_rules-requires : goal.print_rules-requires
print_rules-requires c = rw (c.as_slice-relations.ensures, c.as_slice-2.ensures) (rules_placed c.args.schema.now)

pub print_sources-requires : goal.print_sources-requires
print_sources-requires c = rw (c.as_slice-relations.ensures, c.as_slice-4.ensures) (sources_placed c.args.schema.now)

pub returns-clause-written : goal.returns-clause-written
returns-clause-written c = schema_written c.args.schema.now c.as_slice-relations.result.now c.as_slice.result.now c.as_slice-2.result.now c.as_slice-3.result.now c.as_slice-4.result.now
    c.has_integers.result c.new-out.result.items c.print_version.new.out.items c.print_relations.new.out.items c.print_methods.new.out.items c.print_rules.new.out.items c.print_constants.new.out.items c.print_sources.new.out.items
    c.as_slice-relations.ensures c.as_slice.ensures c.as_slice-2.ensures c.as_slice-3.ensures c.as_slice-4.ensures c.has_integers.ensures c.new-out.ensures.items c.in_ok-print_version.ensures.written
    c.in_ok-print_relations.ensures.written c.in_ok-print_methods.ensures.written c.in_ok-print_rules.ensures.written c.in_ok-print_constants.ensures.written c.in_ok-print_sources.ensures.written

pub returns-clause-utf8 : goal.returns-clause-utf8
returns-clause-utf8 c =
    let none = subst IsUtf8 (sym c.new-out.ensures.items) IsUtf8-nil in
    let methods = c.in_ok-print_methods.ensures.utf8 (c.in_ok-print_relations.ensures.utf8 (c.in_ok-print_version.ensures.utf8 none)) in
    c.in_ok-print_sources.ensures.utf8 (c.in_ok-print_constants.ensures.utf8 (c.in_ok-print_rules.ensures.utf8 methods))
