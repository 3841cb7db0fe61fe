-- The marks begin at the last head and spread along the older links; they meet the last body exactly where the links lead round.
use Rattle.std.proofs.Common.{◌≡◌, ◌<◌, ℕ, List, Bool, false, length, replicate, sym, ◌∙◌, subst, ap}
use Rattle.std.specs.Prelude.{All}
use Rattle.std.proofs.lemmas.List.{length-replicate}
use Rattle.access_schema.specs.Links.{AreBelow, Spreads}
use Rattle.access_schema.specs.Marks.{with_marks, any_marked}
use Rattle.access_schema.proofs.Circles.{round_exactly, length-with_marks}
use Rattle.access_schema.proofs.recursion.leads_round.Goals as goal

pub mark_all-requires : goal.mark_all-requires
mark_all-requires c =
    let e : length c.in_ok-marks.marks.items ≡ c.args.count = ap length c.in_ok-marks.ensures ∙ length-replicate c.args.count false in
    let h = c.as_slice.ensures in
    subst (λ numbers. All (λ n. n < length c.in_ok-marks.marks.items) numbers) (sym h) (subst (λ (k : ℕ). All (λ n. n < k) c.args.last.now.head) (sym e) c.requires.last.head)

pub spread-requires : goal.spread-requires
spread-requires c =
    let long : length c.mark_all.new.marks.items ≡ c.args.count = ap length c.mark_all.ensures ∙ length-with_marks c.in_ok-marks.marks.items c.as_slice.result.now ∙ ap length c.in_ok-marks.ensures ∙ length-replicate c.args.count false in
    subst (λ n. AreBelow n c.args.older.now) (sym long) c.requires.older

pub any_marked-requires : goal.any_marked-requires
any_marked-requires c =
    let long : length c.as_slice-2.result.now ≡ c.args.count = ap length c.as_slice-2.ensures.value ∙ c.spread.ensures.long ∙ ap length c.mark_all.ensures ∙ length-with_marks c.in_ok-marks.marks.items c.as_slice.result.now ∙ ap length c.in_ok-marks.ensures ∙ length-replicate c.args.count false in
    subst (λ numbers. All (λ n. n < length c.as_slice-2.result.now) numbers) (sym c.as_slice-3.ensures) (subst (λ (k : ℕ). All (λ n. n < k) c.args.last.now.body) (sym long) c.requires.last.body)

pub returns : goal.returns
returns c =
    let begun : c.mark_all.new.marks.items ≡ with_marks (replicate c.args.count false) c.args.last.now.head = let h = c.as_slice.ensures in let m = c.mark_all.ensures in let n : c.in_ok-marks.marks.items ≡ replicate c.args.count false = c.in_ok-marks.ensures in cc in
    let met : c.any_marked.result ≡ any_marked c.spread.new.marks.items c.args.last.now.body = c.any_marked.ensures ∙ ap (λ marks. any_marked marks c.as_slice-3.result.now) c.as_slice-2.ensures.value ∙ ap (any_marked c.spread.new.marks.items) c.as_slice-3.ensures in
    round_exactly c.args.older.now c.args.last.now c.args.count c.spread.new.marks.items c.any_marked.result c.requires.last
    (subst (λ (marks : List Bool). Spreads c.args.older.now marks c.spread.new.marks.items) begun c.spread.ensures) c.requires.straight met
