use Rattle.std.proofs.Common.{◌∙◌, ◌++◌, ◌∷◌, [], ap, sym, refl, true, Some}
use Rattle.std.specs.Vec.{with_item}
use Rattle.std.proofs.lemmas.Option.{slice_get-get_or}
use Rattle.connected_match.proofs.Arranging.{placed_more}
use Rattle.connected_match.proofs.order.Arranging.place.Goals as goal

pub returns-in_ok-push-clause-arranging : goal.returns-in_ok-push-clause-arranging
returns-in_ok-push-clause-arranging c =
    placed_more c.args.atoms.now c.args.self.now (record { ordered = c.push.new.self; placed = with_item c.args.self.now.placed c.args.number true }) c.args.number c.index-atoms-number.result c.requires.arranging
    (slice_get-get_or c.args.atoms.now c.args.number c.index-atoms-number.result c.requires.there ∙ ap Some (sym c.index-atoms-number.is))
    (c.in_ok-push.ensures.items ∙ ap (λ a. c.args.self.now.ordered.items ++ a ∷ []) c.in_ok-copy.ensures) refl
