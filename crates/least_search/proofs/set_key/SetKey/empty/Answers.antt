use Rattle.std.proofs.Common.{◌≡◌, ◌+◌, ◌/◌, ℕ, List, ap, ◌∙◌, rules}
use Rattle.std.specs.Prelude.{slice_set, replicate}
use Rattle.least_search.proofs.Packing.{packed_none}
use Rattle.least_search.proofs.set_key.SetKey.empty.Goals as goal

pub returns : goal.returns
returns c =
    let zeros : c.in_ok-words.words.items ≡ replicate (c.args.facts / 64 + 2) 0 = search rules in
    ap (λ (ws : List ℕ). slice_set ws 0 c.args.facts) zeros ∙ packed_none c.args.facts
