use Rattle.std.proofs.Common.{◌≡◌, ◌+◌, ◌/◌, ◌%◌, ◌^◌, ℕ, List, Bool, length, refl, sym, subst, ap, ◌∙◌, arith, rules}
use Rattle.std.specs.Prelude.{slice_get, slice_set, slice_index_or, Some, false}
use Rattle.std.specs.Vec.{vec_len}
use Rattle.least_search.specs.Packing.{packed}
use Rattle.least_search.proofs.Packing.{word_there, word_is, packed_more, packed_same, digit_fits}
use Rattle.least_search.proofs.set_key.SetKey.mark.Goals as goal

pub index_mut-requires : goal.index_mut-requires
index_mut-requires c =
    let (set, is, free) = c.requires in
    let low = word_there set c.args.fact free (packed set) c.self.inside.words.items refl (c.self.view_is ∙ is) in
    let len : vec_len c.self.inside.words ≡ length c.self.inside.words.items = search rules in
    omega arith

pub overflow_add-index_mut : goal.overflow_add-index_mut
overflow_add-index_mut c =
    let (set, is, free) = c.requires in
    let item = word_is set c.args.fact free (packed set) c.self.inside.words.items refl (c.self.view_is ∙ is) c.index_mut.result.now (search rules) in
    let digit : c.digit.result ≡ 2 ^ (c.args.fact % 64) = c.digit.ensures in
    let fits = digit_fits set c.args.fact free in
    omega arith

pub returns : goal.returns
returns c set is =
    let free : slice_get set c.args.fact ≡ Some false
    = subst (λ (s : List Bool). slice_get s c.args.fact ≡ Some false) (packed_same c.requires.0 set (sym c.requires.1 ∙ is)) c.requires.2 in
    let item = word_is set c.args.fact free (packed set) c.self.inside.words.items refl (c.self.view_is ∙ is) c.index_mut.result.now (search rules) in
    let digit : c.digit.result ≡ 2 ^ (c.args.fact % 64) = c.digit.ensures in
    let sum : c.index_mut.result.now + c.digit.result ≡ slice_index_or (packed set) (c.args.fact / 64 + 1) 0 + 2 ^ (c.args.fact % 64) = omega arith in
    ap (λ (ws : List ℕ). slice_set ws (c.args.fact / 64 + 1) (c.index_mut.result.now + c.digit.result)) (c.self.view_is ∙ is)
    ∙ ap (λ (k : ℕ). slice_set (packed set) (c.args.fact / 64 + 1) k) sum ∙ sym (packed_more set c.args.fact free)
