use Rattle.std.proofs.Common.{◌≡◌, ◌++◌, ◌∷◌, [], List, ap, ◌∙◌, subst}
use Rattle.std.specs.Prelude.{Contains}
use Rattle.meaning.specs.declared.types.Ground.{Ground}
use Rattle.meaning.specs.declared.types.Val.{Val}
use Rattle.homomorphism.proofs.Covering.{told, denied}
use Rattle.accessible_copy.specs.Known.{known_values}
use Rattle.exposure_search.proofs.MovesFrom.{held_same, held_push}
use Rattle.exposure_search.proofs.candidates.add_new.Goals as goal

pub returns-then-knows : goal.returns-then-knows
returns-then-knows c exposed =
    held_same c.args.proof.now.constants exposed c.args.values.now.items c.args.val.now (subst (λ (gs : List Ground). Contains (known_values c.args.proof.now.constants gs) c.args.val.now) c.requires (told _ c.knows.ensures c.if-knows.true))

pub returns : goal.returns
returns c exposed =
    let items : c.push.new.self.items ≡ c.args.values.now.items ++ c.args.val.now ∷ [] = c.in_ok-push.ensures.items ∙ ap (λ (v : Val). c.args.values.now.items ++ v ∷ []) c.in_ok-copy.ensures in
    rw items (held_push c.args.proof.now.constants exposed c.args.values.now.items c.args.val.now
    (λ known. denied _ c.knows.ensures c.if-knows.false (rw c.requires known)))
