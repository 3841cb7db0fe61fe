use Rattle.pq_text.proofs.Printed.{name_lexed, name_stands}
use Rattle.pq_text.proofs.laws.printed_names_are_read.Goals as goal

pub returns-clause-lexed : goal.returns-clause-lexed
returns-clause-lexed c = name_lexed

pub returns-clause-stands : goal.returns-clause-stands
returns-clause-stands c = name_stands
