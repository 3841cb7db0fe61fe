use Rattle.std.proofs.Common.{◌≡◌, ◌++◌, ◌∙◌, [], List, ℕ, ap, sym, append_assoc, arith}
use Rattle.std.proofs.lemmas.List.{append-nil, nil_from_length}
use Rattle.source_trait.proofs.RequestLogs.{cut_none, first_text}
use Rattle.source_trait.proofs.packed_texts.copies.Goals as goal

pub text_between-requires-clause-order : goal.text_between-requires-clause-order
text_between-requires-clause-order c = (first_text c.loop-left.start c.loop-left.left.now c.args.bytes.now c.in-len1-up.len_at_least c.loop-left.invariant.rising c.loop-left.invariant.text).order

pub text_between-requires-clause-within : goal.text_between-requires-clause-within
text_between-requires-clause-within c = (first_text c.loop-left.start c.loop-left.left.now c.args.bytes.now c.in-len1-up.len_at_least c.loop-left.invariant.rising c.loop-left.invariant.text).within

pub text_between-requires-clause-text : goal.text_between-requires-clause-text
text_between-requires-clause-text c = (first_text c.loop-left.start c.loop-left.left.now c.args.bytes.now c.in-len1-up.len_at_least c.loop-left.invariant.rising c.loop-left.invariant.text).text

pub loop-left-preserved : goal.loop-left-preserved
loop-left-preserved c =
    let first = first_text c.loop-left.start c.loop-left.left.now c.args.bytes.now c.in-len1-up.len_at_least c.loop-left.invariant.rising c.loop-left.invariant.text in
    let texts = c.loop-left.texts.items in
    record {
      rising = first.rising;
      text = first.texts;
      all = rw (c.in_ok-push.ensures.items, c.in_ok-text_between.ensures) (append_assoc texts _ _ ∙ ap (λ (l : List (List ℕ)). texts ++ l) (sym first.cut) ∙ c.loop-left.invariant.all);
    }

pub returns : goal.returns
returns c =
    let texts = c.loop-left.texts.items in
    let none : c.loop-left.left.now ≡ [] = nil_from_length c.loop-left.left.now (omega (arith, c.in_default.len_below)) in
    sym (append-nil texts) ∙ ap (λ (l : List (List ℕ)). texts ++ l) (sym (cut_none c.loop-left.start c.loop-left.left.now c.args.bytes.now none)) ∙ c.loop-left.invariant.all
