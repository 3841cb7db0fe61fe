use Rattle.run_laws.proofs.Ends.{world_over}
use Rattle.run_laws.proofs.Runs.{first_stay, run_over}
use Rattle.run_laws.proofs.worlds.worlds_end.Goals as goal

pub returns-clause-command : goal.returns-clause-command
returns-clause-command g c = λ size before after old new result some few lane lanes stay ends. world_over g.S.Source.seen size some few before after old new lane lanes stay result ends

pub returns-clause-words : goal.returns-clause-words
returns-clause-words g c = λ words size workers before after old new status runs stay is lane lanes.
    run_over g.S.Source.seen old new words before after (c.words_are_one_command.ensures words) size workers is (record { some = is.1; few = is.2; lane = lane; lanes = lanes; stay = first_stay g.S.Source.seen workers old new stay }) status runs
