use Rattle.std.proofs.Common.{◌≡◌, ◌+◌, ◌-◌, ◌/◌, ◌%◌, ◌^◌, ℕ, List, true, length, ap, ◌∙◌, arith, rules}
use Rattle.std.specs.Prelude.{slice_set, slice_index_or}
use Rattle.std.specs.Vec.{vec_len}
use Rattle.least_search.specs.Packing.{packed}
use Rattle.least_search.proofs.Packing.{word_there, word_is, marked_length, marked_item, packed_less}
use Rattle.least_search.proofs.set_key.SetKey.unmark.Goals as goal

pub index_mut-requires : goal.index_mut-requires
index_mut-requires c =
    let (set, is, free) = c.requires in
    let low = word_there set c.args.fact free (packed (slice_set set c.args.fact true)) c.self.inside.words.items (marked_length set c.args.fact free) (c.self.view_is ∙ is) in
    let len : vec_len c.self.inside.words ≡ length c.self.inside.words.items = search rules in
    omega arith

pub overflow_sub-index_mut : goal.overflow_sub-index_mut
overflow_sub-index_mut c =
    let (set, is, free) = c.requires in
    let item = word_is set c.args.fact free (packed (slice_set set c.args.fact true)) c.self.inside.words.items (marked_length set c.args.fact free) (c.self.view_is ∙ is) c.index_mut.result.now (search rules) in
    let digit : c.digit.result ≡ 2 ^ (c.args.fact % 64) = c.digit.ensures in
    let sum = marked_item set c.args.fact free in
    omega arith

pub returns : goal.returns
returns c set is free =
    let item = word_is set c.args.fact free (packed (slice_set set c.args.fact true)) c.self.inside.words.items (marked_length set c.args.fact free) (c.self.view_is ∙ is) c.index_mut.result.now (search rules) in
    let digit : c.digit.result ≡ 2 ^ (c.args.fact % 64) = c.digit.ensures in
    let sum = marked_item set c.args.fact free in
    let back : c.index_mut.result.now - c.digit.result + 2 ^ (c.args.fact % 64) ≡ slice_index_or (packed (slice_set set c.args.fact true)) (c.args.fact / 64 + 1) 0 = omega arith in
    ap (λ (ws : List ℕ). slice_set ws (c.args.fact / 64 + 1) (c.index_mut.result.now - c.digit.result)) (c.self.view_is ∙ is)
    ∙ packed_less set c.args.fact free (c.index_mut.result.now - c.digit.result) back
