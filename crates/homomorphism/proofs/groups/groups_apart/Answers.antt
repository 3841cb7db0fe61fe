use Rattle.std.proofs.Common.{◌≡◌, ◌<◌, ◌≤◌, [], ℕ, List, Some, None, Contains, length, slice_get, slice_index_or}
use Rattle.meaning.specs.Triggers.{bound}
use Rattle.homomorphism.specs.Walks.{AreCounts, AreParts, IsServed}
use Rattle.homomorphism.specs.Widening.{taken}
use Rattle.homomorphism.proofs.Walking.{groups_by_parts, part_within}
use Rattle.homomorphism.proofs.groups.groups_apart.Goals as goal

pub are_served-requires : goal.are_served-requires
are_served-requires c =
    let parts = c.in_ok-parts.parts in
    let head = c.args.rule.now.head in
    let open_ = c.in_ok-open.open in
    let p : AreParts head open_ parts.runs parts.owners parts.givens = rw c.as_slice-head.ensures at (rw c.as_slice-2.ensures at c.in_ok-parts.ensures) in
    rw c.as_slice-head.ensures (rw c.as_slice-runs.ensures (part_within head open_ parts.runs parts.owners parts.givens p))

pub returns-then-are_served : goal.returns-then-are_served
returns-then-are_served c =
    let parts = c.in_ok-parts.parts in
    let rule = c.args.rule.now in
    let owners = c.args.owners.now in
    let whole = c.args.whole.now in
    let groups = c.in_ok-groups.groups.items in
    let open_ = c.in_ok-open.open in
    let p : AreParts rule.head open_ parts.runs parts.owners parts.givens = rw c.as_slice-head.ensures at (rw c.as_slice-2.ensures at c.in_ok-parts.ensures) in
    let opened : (x : ℕ) → bound rule.body ≤ x → x < bound rule.head → slice_get open_ x ≡ Some None =
    rw c.as_slice-head.ensures at (rw c.as_slice.ensures at (rw c.variables_width-body.ensures at (rw c.variables_width.ensures at c.in_ok-open.ensures))) in
    let each : (counts : List ℕ) → Contains groups counts → AreCounts whole counts = rw c.as_slice-3.ensures.value at (c.are_counts.ensures c.if-are_counts.true) in
    let served : (i : ℕ) → i < length parts.runs → IsServed owners whole groups (taken rule.head (slice_index_or parts.runs i [])) =
    rw c.as_slice-head.ensures at (rw c.as_slice-runs.ensures at (rw c.as_slice-then-are_counts.ensures.value at (c.are_served.ensures c.if-are_served.true))) in
    groups_by_parts rule open_ parts.runs parts.owners parts.givens owners whole groups p opened each served
