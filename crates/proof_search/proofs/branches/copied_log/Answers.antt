use Rattle.std.proofs.Common.{◌≡◌, ◌+◌, ◌∷◌, ◌++◌, [], ◌∙◌, Some, None, length, take, sym, ap}
use Rattle.std.specs.Prelude.{slice_get}
use Rattle.std.proofs.lemmas.List.{length_push, take_all}
use Rattle.lists.proofs.Places.{take_got, got_none}
use Rattle.accessible_copy.specs.Proving.{log_of}
use Rattle.proof_search.proofs.branches.copied_log.Goals as goal

pub loop-log-preserved : goal.loop-log-preserved
loop-log-preserved c =
    let all = log_of c.args.proof.now in
    let got : slice_get all (length c.loop-log.log) ≡ Some c.in-Some.firing.now = ap (slice_get all) (sym c.len.ensures) ∙ sym c.in-Some.ensures in
    let copied : c.push.new.self ≡ c.loop-log.log ++ c.in-Some.firing.now ∷ [] = c.in_ok-push.ensures.ok ∙ ap (λ firing. c.loop-log.log ++ firing ∷ []) c.in_ok-copy.ensures in
    let long : length c.push.new.self ≡ length c.loop-log.log + 1 = ap length copied ∙ length_push c.loop-log.log c.in-Some.firing.now in
    copied ∙ ap (λ log. log ++ c.in-Some.firing.now ∷ []) c.loop-log.invariant ∙ sym (take_got all (length c.loop-log.log) c.in-Some.firing.now got) ∙ ap (λ n. take n all) (sym long)

pub returns : goal.returns
returns c =
    let all = log_of c.args.proof.now in
    let none : slice_get all (length c.loop-log.log) ≡ None = ap (slice_get all) (sym c.len.ensures) ∙ sym c.in_default.ensures in
    c.loop-log.invariant ∙ take_all (length c.loop-log.log) all (got_none all (length c.loop-log.log) none)
