use Rattle.batch_command.proofs.Parts.{PartsSofar}
use Rattle.batch_command.proofs.delivery.runs_text.Given as goal

-- the text has the rows of the runs up to here
abbrev pub invariant-loop-place : goal.invariant-loop-place
invariant-loop-place l = PartsSofar l.statements l.runs l.place l.text.items
