use Rattle.pq_text.proofs.Printed.{value_lexed, value_stands}
use Rattle.pq_text.proofs.laws.printed_values_are_read.Goals as goal

pub returns-clause-lexed : goal.returns-clause-lexed
returns-clause-lexed c = value_lexed

pub returns-clause-stands : goal.returns-clause-stands
returns-clause-stands c = value_stands
