use Rattle.std.specs.Prelude.{◌+◌, ◌++◌, codes}
use Rattle.std.specs.Fmt.{decimal}
use Rattle.std.proofs.lemmas.Result.{on_ok_weaker}
use Rattle.lists.proofs.Members.{joined_twice}
use Rattle.pq_text.specs.Utf8.{KeepsUtf8}
use Rattle.explain.proofs.firings.push_opening.Goals as goal

pub returns-clause-text : goal.returns-clause-text
returns-clause-text c =
    let part0 = joined_twice c.args.out.now.items c.push_str.new.out.items c.push_number.new.out.items (codes "undecided after ") (decimal c.args.count) c.in_ok-push_str.ensures.text c.in_ok-push_number.ensures.text in
    let part1 = joined_twice c.args.out.now.items c.push_number.new.out.items c.push_str-2.new.out.items ((codes "undecided after ") ++ decimal c.args.count) (codes " firings\nselect ") part0 c.in_ok-push_str-2.ensures.text in
    let part2 = joined_twice c.args.out.now.items c.push_str-2.new.out.items c.push_number-2.new.out.items (((codes "undecided after ") ++ decimal c.args.count) ++ codes " firings\nselect ") (decimal (c.args.select + 1)) part1 c.in_ok-push_number-2.ensures.text in
    on_ok_weaker c.push_str-3.result (λ written. joined_twice c.args.out.now.items c.push_number-2.new.out.items c.push_str-3.new.out.items ((((codes "undecided after ") ++ decimal c.args.count) ++ codes " firings\nselect ") ++ decimal (c.args.select + 1)) (codes "\n") part2 written) c.push_str-3.ensures.text

pub returns-clause-utf8 : goal.returns-clause-utf8
returns-clause-utf8 c =
    on_ok_weaker c.push_str-3.result (λ (written : KeepsUtf8 c.push_number-2.new.out.items c.push_str-3.new.out.items) utf8. written (c.in_ok-push_number-2.ensures.utf8 (c.in_ok-push_str-2.ensures.utf8 (c.in_ok-push_number.ensures.utf8 (c.in_ok-push_str.ensures.utf8 (utf8)))))) c.push_str-3.ensures.utf8
