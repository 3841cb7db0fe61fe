use Rattle.std.proofs.Common.{◌≡◌, ◌<◌, ◌≤◌, Bool, true, false, Some, length, sym, ap, ◌∙◌, arith, rules}
use Rattle.std.specs.Prelude.{slice_index_or}
use Rattle.std.proofs.lemmas.List.{get_or_read, set_past}
use Rattle.std.proofs.lemmas.Option.{slice_get-get_or}
use Rattle.least_search.proofs.Sets.{marked_again}
use Rattle.least_search.proofs.node.mark.Goals.{else-fact-len-via-then-fact-len+else-not-index, else-fact-len-via-else-fact-len}
use Rattle.least_search.proofs.node.mark.Goals as goal

pub mark-requires : goal.mark-requires
mark-requires c =
    let low : c.args.fact < length c.args.made.now.set.items = let l : c.args.fact < c.len.result = c.if-fact-len.true in let e : c.len.result ≡ length c.args.made.now.set.items = search rules in omega arith in
    let read : c.index.result.now ≡ slice_index_or c.args.made.now.set.items c.args.fact false = get_or_read c.args.made.now.set.items c.args.fact c.index.result.now low (search rules) false in
    (c.args.made.now.set.items, c.requires.key, slice_get-get_or c.args.made.now.set.items c.args.fact false low ∙ ap (λ (b : Bool). Some b) (sym read ∙ c.if-not-index.true))

pub returns-else-fact-len-clause-set : goal.returns-else-fact-len-clause-set
returns-else-fact-len-clause-set c =
    elim c.else-fact-len.branch [
      | else-fact-len-via-then-fact-len+else-not-index w ↦
          let low : c.args.fact < length c.args.made.now.set.items = let l : c.args.fact < c.len.result = w.if-fact-len.true in let e : c.len.result ≡ length c.args.made.now.set.items = search rules in omega arith in
          let read : w.index.result.now ≡ slice_index_or c.args.made.now.set.items c.args.fact false = get_or_read c.args.made.now.set.items c.args.fact w.index.result.now low (search rules) false in
          sym (marked_again c.args.made.now.set.items c.args.fact (slice_get-get_or c.args.made.now.set.items c.args.fact false low ∙ ap (λ (b : Bool). Some b) (sym read ∙ w.if-not-index.false)))
      | else-fact-len-via-else-fact-len w ↦
          sym (set_past c.args.made.now.set.items c.args.fact true (let l : c.len.result ≤ c.args.fact = w.if-fact-len.false in let e : c.len.result ≡ length c.args.made.now.set.items = search rules in omega arith))
    ]

pub returns-then-not-index-clause-key : goal.returns-then-not-index-clause-key
returns-then-not-index-clause-key c = c.mark.ensures c.args.made.now.set.items c.requires.key
