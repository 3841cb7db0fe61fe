use Rattle.std.proofs.Common.{◌≡◌, ◌∙◌, ◌∷◌, ◌++◌, ◌-◌, arith, ap, inl, length, take, drop, slice_index_or}
use Rattle.homomorphism.proofs.Binding.{apart, none_left}
use Rattle.homomorphism.proofs.Touching.{default}
use Rattle.homomorphism.proofs.Turns.{ends_alone, split_within, advances_here}
use Rattle.homomorphism.proofs.turning.+advanced.Goals as goal

pub returns-in_default-clause-last : goal.returns-in_default-clause-last
returns-in_default-clause-last t c = λ e. ends_alone c.args.counts.now c.args.numbers.now c.requires (inl (none_left c.args.numbers.now c.in_default.len_below))

pub overflow_add-following : goal.overflow_add-following
overflow_add-following t c =
    let counts = c.args.counts.now in
    let numbers = c.args.numbers.now in
    let n = slice_index_or numbers 0 0 in
    let count = slice_index_or counts 0 0 in
    let here : counts ≡ count ∷ take (length counts - 1) (drop 1 counts) = apart counts count c.in-len1-up-counts.len_at_least (default counts 0 0 count c.in-len1-up-counts.len_at_least) in
    let first : numbers ≡ n ∷ take (length numbers - 1) (drop 1 numbers) = apart numbers n c.in-len1-up.len_at_least (default numbers 0 0 n c.in-len1-up.len_at_least) in
    let low = (split_within counts (take (length counts - 1) (drop 1 counts)) count numbers (take (length numbers - 1) (drop 1 numbers)) n here first c.requires).0 in
    omega (arith, c.type_inv.counts 0, low)

pub returns-then-following-count-clause-more : goal.returns-then-following-count-clause-more
returns-then-following-count-clause-more t c = λ e.
    let counts = c.args.counts.now in
    let numbers = c.args.numbers.now in
    let n = slice_index_or numbers 0 0 in
    let count = slice_index_or counts 0 0 in
    let here : counts ≡ count ∷ take (length counts - 1) (drop 1 counts) = apart counts count c.in-len1-up-counts.len_at_least (default counts 0 0 count c.in-len1-up-counts.len_at_least) in
    let first : numbers ≡ n ∷ take (length numbers - 1) (drop 1 numbers) = apart numbers n c.in-len1-up.len_at_least (default numbers 0 0 n c.in-len1-up.len_at_least) in
    advances_here counts (take (length counts - 1) (drop 1 counts)) count numbers (take (length numbers - 1) (drop 1 numbers)) n here first c.requires
    c.args.next.now.items c.extend_from_slice.new.self.items c.if-following-count.true
    (c.in_ok-extend_from_slice.ensures.items ∙ ap (λ z. z ++ take (length numbers - 1) (drop 1 numbers)) c.in_ok-push.ensures.items)
