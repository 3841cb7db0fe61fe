-- Each fact that is lent is the next one; where none is lent, all are there.
use Rattle.std.proofs.Common.{◌≡◌, ◌+◌, ◌∷◌, ◌++◌, [], ◌∙◌, Some, None, length, take, sym, ap, rules}
use Rattle.std.specs.Prelude.{slice_get}
use Rattle.std.proofs.lemmas.List.{length_push, take_all}
use Rattle.lists.proofs.Places.{take_got, got_none}
use Rattle.proof_search.proofs.refuting.facts_of.Goals as goal

pub loop-fact-preserved : goal.loop-fact-preserved
loop-fact-preserved c =
    let all = c.args.facts.now in
    let before = c.loop-fact.copies.items in
    let fact = c.in-Some.fact.now in
    let count : c.len.result ≡ length before = search rules in
    let got : slice_get all (length before) ≡ Some fact = ap (slice_get all) (sym count) ∙ sym c.in-Some.ensures in
    let copied : c.push.new.self.items ≡ before ++ fact ∷ [] = c.in_ok-push.ensures.items ∙ ap (λ one. before ++ one ∷ []) c.in_ok-copy.ensures in
    let long : length c.push.new.self.items ≡ length before + 1 = ap length copied ∙ length_push before fact in
    copied ∙ ap (λ front. front ++ fact ∷ []) c.loop-fact.invariant ∙ sym (take_got all (length before) fact got) ∙ ap (λ n. take n all) (sym long)

pub returns : goal.returns
returns c =
    let all = c.args.facts.now in
    let count : c.len.result ≡ length c.loop-fact.copies.items = search rules in
    let none : slice_get all (length c.loop-fact.copies.items) ≡ None = ap (slice_get all) (sym count) ∙ sym c.in_default.ensures in
    c.loop-fact.invariant ∙ take_all (length c.loop-fact.copies.items) all (got_none all (length c.loop-fact.copies.items) none)
