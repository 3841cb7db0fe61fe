use Rattle.std.proofs.Common.{◌≡◌, ◌+◌, ◌-◌, ◌<◌, ◌++◌, ◌∷◌, [], length, reverse, sym, ap, ◌∙◌, subst, arith, rules, List, ℕ}
use Rattle.std.specs.Prelude.{slice_index_or}
use Rattle.std.specs.Vec.{vec_len}
use Rattle.least_search.specs.declared.space.Move.{Move}
use Rattle.least_search.specs.declared.paths.Step.{Step}
use Rattle.least_search.specs.Paths.{paths_of}
use Rattle.least_search.proofs.Stepping.{from_length, front_kept, step_path, back_more}
use Rattle.least_search.proofs.paths.Paths.get.Goals as goal

pub index-requires : goal.index-requires
index-requires c =
    let count : length (paths_of c.self.inside.steps.items) ≡ 1 + length c.self.inside.steps.items = from_length c.self.inside.steps.items ([] ∷ []) in
    let same : length (paths_of c.self.inside.steps.items) ≡ length c.args.self.now = ap length c.self.view_is in
    let within : c.loop-place.place < length c.args.self.now = c.loop-place.invariant.within in
    let len : vec_len c.self.inside.steps ≡ length c.self.inside.steps.items = search rules in
    omega arith

pub loop-place-smaller : goal.loop-place-smaller
loop-place-smaller c =
    let count : length (paths_of c.self.inside.steps.items) ≡ 1 + length c.self.inside.steps.items = from_length c.self.inside.steps.items ([] ∷ []) in
    let same : length (paths_of c.self.inside.steps.items) ≡ length c.args.self.now = ap length c.self.view_is in
    let within : c.loop-place.place < length c.args.self.now = c.loop-place.invariant.within in
    let low : (slice_index_or c.self.inside.steps.items (c.loop-place.place - 1) c.index.result.now).before < 1 + (c.loop-place.place - 1)
    = (step_path c.self.inside.steps.items ([] ∷ []) (c.loop-place.place - 1) c.index.result.now (omega arith) c.self.invariant).0 in
    let is : c.index.result.now ≡ slice_index_or c.self.inside.steps.items (c.loop-place.place - 1) c.index.result.now = search rules in
    let low' : c.index.result.now.before < 1 + (c.loop-place.place - 1) = subst (λ (s : Step). s.before < 1 + (c.loop-place.place - 1)) (sym is) low in
    omega arith

pub loop-place-preserved : goal.loop-place-preserved
loop-place-preserved c =
    let count : length (paths_of c.self.inside.steps.items) ≡ 1 + length c.self.inside.steps.items = from_length c.self.inside.steps.items ([] ∷ []) in
    let same : length (paths_of c.self.inside.steps.items) ≡ length c.args.self.now = ap length c.self.view_is in
    let within : c.loop-place.place < length c.args.self.now = c.loop-place.invariant.within in
    let is : c.index.result.now ≡ slice_index_or c.self.inside.steps.items (c.loop-place.place - 1) c.index.result.now = search rules in
    let place : 1 + (c.loop-place.place - 1) ≡ c.loop-place.place = omega arith in
    let (low, goes) = step_path c.self.inside.steps.items ([] ∷ []) (c.loop-place.place - 1) c.index.result.now (omega arith) c.self.invariant in
    let low' : c.index.result.now.before < 1 + (c.loop-place.place - 1) = subst (λ (s : Step). s.before < 1 + (c.loop-place.place - 1)) (sym is) low in
    let goes' : slice_index_or (paths_of c.self.inside.steps.items) (1 + (c.loop-place.place - 1)) [] ≡ slice_index_or (paths_of c.self.inside.steps.items) c.index.result.now.before [] ++ c.index.result.now.last ∷ []
    = subst (λ (s : Step). slice_index_or (paths_of c.self.inside.steps.items) (1 + (c.loop-place.place - 1)) [] ≡ slice_index_or (paths_of c.self.inside.steps.items) s.before [] ++ s.last ∷ []) (sym is) goes in
    let on : slice_index_or c.args.self.now c.loop-place.place [] ≡ slice_index_or c.args.self.now c.index.result.now.before [] ++ c.index.result.now.last ∷ []
    = subst (λ (ps : List (List Move)). slice_index_or ps c.loop-place.place [] ≡ slice_index_or ps c.index.result.now.before [] ++ c.index.result.now.last ∷ []) c.self.view_is
    (subst (λ (k : ℕ). slice_index_or (paths_of c.self.inside.steps.items) k [] ≡ slice_index_or (paths_of c.self.inside.steps.items) c.index.result.now.before [] ++ c.index.result.now.last ∷ []) place goes') in
    let pushed : c.push.new.self.items ≡ c.loop-place.path.items ++ c.index.result.now.last ∷ [] = search rules in
    record {
      within = omega arith;
      path = back_more (slice_index_or c.args.self.now c.args.number []) (slice_index_or c.args.self.now c.index.result.now.before []) c.index.result.now.last c.loop-place.path.items c.push.new.self.items
          (c.loop-place.invariant.path ∙ ap (λ (q : List Move). q ++ reverse c.loop-place.path.items) on) pushed;
    }

pub returns : goal.returns
returns c =
    let turned : c.reverse.new.self.items ≡ reverse c.loop-place.path.items = search rules in
    let first : c.loop-place.place ≡ 0 = omega arith in
    let none : slice_index_or (paths_of c.self.inside.steps.items) 0 [] ≡ [] = front_kept c.self.inside.steps.items ([] ∷ []) 0 (omega arith) in
    turned ∙ sym (c.loop-place.invariant.path ∙ ap (λ (k : ℕ). slice_index_or c.args.self.now k [] ++ reverse c.loop-place.path.items) first
    ∙ ap (λ (ps : List (List Move)). slice_index_or ps 0 [] ++ reverse c.loop-place.path.items) (sym c.self.view_is) ∙ ap (λ (q : List Move). q ++ reverse c.loop-place.path.items) none)
