use Rattle.accessible_copy.proofs.Labelled.{copied_labels}
use Rattle.accessible_copy.proofs.laws.copied_labels_are_known_or_made.Goals as goal

pub returns : goal.returns
returns c = copied_labels
