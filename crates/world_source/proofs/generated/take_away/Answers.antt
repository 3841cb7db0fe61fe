use Rattle.std.proofs.Common.{◌∙◌, ap, rules}
use Rattle.std.proofs.lemmas.Fn.{filter_same}
use Rattle.world_source.specs.Generated.{attachments_of}
use Rattle.world_source.proofs.Attached.{others}
use Rattle.world_source.proofs.generated.take_away.Goals as goal

pub returns : goal.returns
returns c = ap attachments_of (filter_same _ _ _ (λ x b f k. search rules) _ _ c.retain.ensures.filtered) ∙ others c.args.rel c.args.list.now.items
