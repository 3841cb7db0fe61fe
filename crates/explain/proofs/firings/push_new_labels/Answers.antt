use Rattle.std.proofs.lemmas.Result.{on_ok_weaker}
use Rattle.explain.proofs.Labels.{labels_after}
use Rattle.explain.proofs.firings.push_new_labels.Goals as goal

pub returns-clause-text : goal.returns-clause-text
returns-clause-text c =
    on_ok_weaker c.push_further_labels.result
    (λ written. labels_after c.args.out.now.items c.push_str.new.out.items c.push_label.new.out.items c.push_further_labels.new.out.items c.args.from c.args.count c.if-count-eq0.false c.in_ok-push_str.ensures.text c.in_ok-push_label.ensures.text written)
    c.push_further_labels.ensures.text
