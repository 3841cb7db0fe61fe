use Rattle.std.specs.Prelude.{◌++◌, codes, map, flat_map}
use Rattle.pq_text.specs.Listed.{listed}
use Rattle.pq_text.specs.Printing.{printed_value}
use Rattle.fact_lines.specs.Lent.{lent_fact}
use Rattle.fact_lines.specs.Lines.{fact_text}
use Rattle.std.proofs.lemmas.Result.{on_ok_weaker}
use Rattle.lists.proofs.Members.{joined_twice}
use Rattle.pq_text.specs.Utf8.{KeepsUtf8}
use Rattle.explain.proofs.refutation.push_refutation.Goals as goal

pub returns-clause-text : goal.returns-clause-text
returns-clause-text c =
    let part0 = joined_twice c.args.out.now.items c.push_str.new.out.items c.print_values.new.out.items (codes "no plan\nanswer ") (listed printed_value c.args.answer.now) c.in_ok-push_str.ensures.text c.in_ok-print_values.ensures.written in
    let part1 = joined_twice c.args.out.now.items c.print_values.new.out.items c.push_str-2.new.out.items ((codes "no plan\nanswer ") ++ listed printed_value c.args.answer.now) (codes "\nfirst\n") part0 c.in_ok-push_str-2.ensures.text in
    let part2 = joined_twice c.args.out.now.items c.push_str-2.new.out.items c.push_facts.new.out.items (((codes "no plan\nanswer ") ++ listed printed_value c.args.answer.now) ++ codes "\nfirst\n") (flat_map (fact_text c.args.schema.now.relations) (map lent_fact c.args.first.now)) part1 c.in_ok-push_facts.ensures.text in
    let part3 = joined_twice c.args.out.now.items c.push_facts.new.out.items c.push_str-3.new.out.items ((((codes "no plan\nanswer ") ++ listed printed_value c.args.answer.now) ++ codes "\nfirst\n") ++ flat_map (fact_text c.args.schema.now.relations) (map lent_fact c.args.first.now)) (codes "second\n") part2 c.in_ok-push_str-3.ensures.text in
    let part4 = joined_twice c.args.out.now.items c.push_str-3.new.out.items c.push_facts-2.new.out.items (((((codes "no plan\nanswer ") ++ listed printed_value c.args.answer.now) ++ codes "\nfirst\n") ++ flat_map (fact_text c.args.schema.now.relations) (map lent_fact c.args.first.now)) ++ codes "second\n") (flat_map (fact_text c.args.schema.now.relations) (map lent_fact c.args.second.now)) part3 c.in_ok-push_facts-2.ensures.text in
    on_ok_weaker c.push_str-4.result (λ written. joined_twice c.args.out.now.items c.push_facts-2.new.out.items c.push_str-4.new.out.items ((((((codes "no plan\nanswer ") ++ listed printed_value c.args.answer.now) ++ codes "\nfirst\n") ++ flat_map (fact_text c.args.schema.now.relations) (map lent_fact c.args.first.now)) ++ codes "second\n") ++ flat_map (fact_text c.args.schema.now.relations) (map lent_fact c.args.second.now)) (codes "end\n") part4 written) c.push_str-4.ensures.text

pub returns-clause-utf8 : goal.returns-clause-utf8
returns-clause-utf8 c =
    on_ok_weaker c.push_str-4.result (λ (written : KeepsUtf8 c.push_facts-2.new.out.items c.push_str-4.new.out.items) utf8. written (c.in_ok-push_facts-2.ensures.utf8 (c.in_ok-push_str-3.ensures.utf8 (c.in_ok-push_facts.ensures.utf8 (c.in_ok-push_str-2.ensures.utf8 (c.in_ok-print_values.ensures.utf8 (c.in_ok-push_str.ensures.utf8 (utf8)))))))) c.push_str-4.ensures.utf8
