use Rattle.std.proofs.Common.{◌≡◌, ◌+◌, ◌∷◌, ◌++◌, [], ◌∙◌, Some, None, length, take, sym, ap, rules}
use Rattle.std.specs.Prelude.{slice_get}
use Rattle.std.proofs.lemmas.List.{length_push, take_all}
use Rattle.lists.proofs.Places.{take_got, got_none}
use Rattle.exposure_search.proofs.aiming.base_facts.Goals as goal

pub loop-fact-preserved : goal.loop-fact-preserved
loop-fact-preserved c =
    let all = c.args.proof.now.end.base in
    let count : c.len.result ≡ length c.loop-fact.facts.items = search rules in
    let got : slice_get all (length c.loop-fact.facts.items) ≡ Some c.in-Some.fact.now = ap (slice_get all) (sym count) ∙ sym c.in-Some.ensures in
    let copied : c.push.new.self.items ≡ c.loop-fact.facts.items ++ c.in-Some.fact.now ∷ [] = c.in_ok-push.ensures.items ∙ ap (λ fact. c.loop-fact.facts.items ++ fact ∷ []) c.in_ok-copy.ensures in
    let long : length c.push.new.self.items ≡ length c.loop-fact.facts.items + 1 = ap length copied ∙ length_push c.loop-fact.facts.items c.in-Some.fact.now in
    copied ∙ ap (λ facts. facts ++ c.in-Some.fact.now ∷ []) c.loop-fact.invariant ∙ sym (take_got all (length c.loop-fact.facts.items) c.in-Some.fact.now got) ∙ ap (λ n. take n all) (sym long)

pub returns : goal.returns
returns c =
    let all = c.args.proof.now.end.base in
    let count : c.len.result ≡ length c.loop-fact.facts.items = search rules in
    let none : slice_get all (length c.loop-fact.facts.items) ≡ None = ap (slice_get all) (sym count) ∙ sym c.in_default.ensures in
    c.loop-fact.invariant ∙ take_all (length c.loop-fact.facts.items) all (got_none all (length c.loop-fact.facts.items) none)
