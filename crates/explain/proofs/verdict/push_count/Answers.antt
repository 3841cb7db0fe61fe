use Rattle.std.specs.Prelude.{◌++◌, codes}
use Rattle.std.specs.Fmt.{decimal}
use Rattle.std.proofs.lemmas.Result.{on_ok_weaker}
use Rattle.lists.proofs.Members.{joined_twice}
use Rattle.explain.proofs.verdict.push_count.Goals as goal

pub returns-clause-text : goal.returns-clause-text
returns-clause-text c =
    let part0 = joined_twice c.args.out.now.items c.push_str.new.out.items c.push_number.new.out.items (codes "undecided after ") (decimal c.args.count) c.in_ok-push_str.ensures.text c.in_ok-push_number.ensures.text in
    on_ok_weaker c.push_str-2.result (λ written. joined_twice c.args.out.now.items c.push_number.new.out.items c.push_str-2.new.out.items ((codes "undecided after ") ++ decimal c.args.count) (codes " firings\n") part0 written) c.push_str-2.ensures.text
