use Rattle.access_schema.specs.Meaning.{meaning_of}
use Rattle.exposure_search.proofs.Logs.{goes_cut_to}
use Rattle.exposure_search.proofs.going.go_back.Goals as goal

pub returns-clause-exposes : goal.returns-clause-exposes
returns-clause-exposes c =
    (goes_cut_to (meaning_of c.args.schema.now) c.args.proof.now c.undo.new.proof c.mark-firings.result.firings c.args.bases c.args.front c.requires.exposes (c.undo.ensures.run (meaning_of c.args.schema.now) c.requires.exposes.run) c.undo.ensures.constants c.undo.ensures.start c.mark-firings.ensures c.requires.bases c.requires.front c.undo.ensures.log).0

pub returns-clause-same : goal.returns-clause-same
returns-clause-same c =
    (goes_cut_to (meaning_of c.args.schema.now) c.args.proof.now c.undo.new.proof c.mark-firings.result.firings c.args.bases c.args.front c.requires.exposes (c.undo.ensures.run (meaning_of c.args.schema.now) c.requires.exposes.run) c.undo.ensures.constants c.undo.ensures.start c.mark-firings.ensures c.requires.bases c.requires.front c.undo.ensures.log).1

pub returns-clause-exposed : goal.returns-clause-exposed
returns-clause-exposed c =
    (goes_cut_to (meaning_of c.args.schema.now) c.args.proof.now c.undo.new.proof c.mark-firings.result.firings c.args.bases c.args.front c.requires.exposes (c.undo.ensures.run (meaning_of c.args.schema.now) c.requires.exposes.run) c.undo.ensures.constants c.undo.ensures.start c.mark-firings.ensures c.requires.bases c.requires.front c.undo.ensures.log).2
