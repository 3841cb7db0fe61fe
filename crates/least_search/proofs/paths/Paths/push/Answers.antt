use Rattle.std.proofs.Common.{◌≡◌, ◌+◌, ◌<◌, ◌++◌, ◌∷◌, [], length, sym, ap, ◌∙◌, subst, arith, rules, List}
use Rattle.std.specs.Prelude.{slice_index_or}
use Rattle.std.proofs.lemmas.List.{length_push}
use Rattle.least_search.specs.declared.space.Move.{Move}
use Rattle.least_search.specs.declared.paths.Step.{Step}
use Rattle.least_search.specs.Paths.{GoOn, paths_of}
use Rattle.least_search.proofs.Stepping.{from_length, from_push, steps_push}
use Rattle.least_search.proofs.paths.Paths.push.Goals as goal

pub invariant_of-self-2 : goal.invariant_of-self-2
invariant_of-self-2 c =
    let pushed : c.push.new.self.items ≡ c.self.inside.steps.items ++ record { before = c.args.before; last = c.args.last } ∷ [] = search rules in
    let count : length (paths_of c.self.inside.steps.items) ≡ 1 + length c.self.inside.steps.items = from_length c.self.inside.steps.items ([] ∷ []) in
    let same : length (paths_of c.self.inside.steps.items) ≡ length c.args.self.now = ap length c.self.view_is in
    let low : c.args.before < length c.args.self.now = c.requires in
    subst (λ (ss : List Step). GoOn 1 ss) (sym pushed) (steps_push c.self.inside.steps.items (record { before = c.args.before; last = c.args.last }) 1 c.self.invariant (omega arith))

pub returns-clause-number : goal.returns-clause-number
returns-clause-number c =
    let pushed : c.push.new.self.items ≡ c.self.inside.steps.items ++ record { before = c.args.before; last = c.args.last } ∷ [] = search rules in
    let more : length c.push.new.self.items ≡ length c.self.inside.steps.items + 1 = ap length pushed ∙ length_push c.self.inside.steps.items (record { before = c.args.before; last = c.args.last }) in
    let count : length (paths_of c.self.inside.steps.items) ≡ 1 + length c.self.inside.steps.items = from_length c.self.inside.steps.items ([] ∷ []) in
    let same : length (paths_of c.self.inside.steps.items) ≡ length c.args.self.now = ap length c.self.view_is in
    omega arith

pub returns-clause-pushed : goal.returns-clause-pushed
returns-clause-pushed c =
    let pushed : c.push.new.self.items ≡ c.self.inside.steps.items ++ record { before = c.args.before; last = c.args.last } ∷ [] = search rules in
    ap paths_of pushed ∙ from_push c.self.inside.steps.items (record { before = c.args.before; last = c.args.last }) ([] ∷ [])
    ∙ ap (λ (ps : List (List Move)). ps ++ (slice_index_or ps c.args.before [] ++ c.args.last ∷ []) ∷ []) c.self.view_is
