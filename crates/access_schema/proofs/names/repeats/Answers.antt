-- What the set has already stands before; what it has not is new.
use Rattle.std.proofs.Common.{◌≡◌, ◌++◌, ◌∷◌, [], ◌+◌, ℕ, List, Some, sym, subst, ap, ◌∙◌, refl, take, slice_get, true}
use Rattle.std.proofs.lemmas.List.{take_more}
use Rattle.std.proofs.lemmas.Option.{slice_get_read}
use Rattle.access_schema.specs.Lists.{is_among}
use Rattle.access_schema.proofs.Repeats.{not_new, is_new, twice_at, once_push, passed_push}
use Rattle.access_schema.proofs.names.repeats.Goals as goal

pub returns-then-not-branch : goal.returns-then-not-branch
returns-then-not-branch c =
    let at : slice_get c.args.texts.now c.loop-text.text-index ≡ Some c.text-item.result = slice_get_read _ _ _ _ refl c.loop-text-test.true c.text-item.is in
    let known = not_new _ _ c.in_ok-insert.ensures.added c.if-not-branch.true in
    let among : is_among (take c.loop-text.text-index c.args.texts.now) c.as_str.result.now ≡ true = sym (c.loop-text.invariant.passed c.as_str.result.now) ∙ known in
    sym (twice_at c.args.texts.now c.loop-text.text-index c.text-item.result at (subst (λ (text : List ℕ). is_among (take c.loop-text.text-index c.args.texts.now) text ≡ true) c.as_str.ensures among))

pub loop-text-preserved : goal.loop-text-preserved
loop-text-preserved c =
    let more : take (c.loop-text.text-index + 1) c.args.texts.now ≡ take c.loop-text.text-index c.args.texts.now ++ c.as_str.result.now ∷ [] =
    take_more c.args.texts.now c.loop-text.text-index c.text-item.result c.loop-text-test.true ∙
    ap (λ (text : List ℕ). take c.loop-text.text-index c.args.texts.now ++ text ∷ []) (sym c.text-item.is ∙ sym c.as_str.ensures) in
    let new = is_new _ _ c.in_ok-insert.ensures.added c.if-not-branch.false in
    record {
      once = rw more (once_push (take c.loop-text.text-index c.args.texts.now) c.as_str.result.now c.loop-text.invariant.once (sym (c.loop-text.invariant.passed c.as_str.result.now) ∙ new));
      passed = λ text. rw more (passed_push c.loop-text.passed.keys c.insert.new.self.keys (take c.loop-text.text-index c.args.texts.now) c.as_str.result c.in_ok-insert.ensures.keys new c.loop-text.invariant.passed text);
    }
