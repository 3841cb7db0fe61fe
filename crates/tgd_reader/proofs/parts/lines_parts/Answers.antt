use Rattle.tgd_reader.proofs.PartLaws.{are_found, is_fault}
use Rattle.tgd_reader.proofs.parts.lines_parts.Goals as goal

pub returns-clause-found : goal.returns-clause-found
returns-clause-found c = are_found c.all_parts.result c.args.lines.now c.version_and_rest-has_sorts.result.0 c.version_and_rest-has_sorts.result.1.now (c.version_and_rest-has_sorts.ensures.sorts, c.version_and_rest-has_sorts.ensures.lines) c.all_parts.ensures

pub returns-clause-fault : goal.returns-clause-fault
returns-clause-fault c = is_fault c.all_parts.result c.args.lines.now c.version_and_rest-has_sorts.result.0 c.version_and_rest-has_sorts.result.1.now (c.version_and_rest-has_sorts.ensures.sorts, c.version_and_rest-has_sorts.ensures.lines) c.all_parts.ensures
