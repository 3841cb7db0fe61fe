use Rattle.std.proofs.Common.{◌≡◌, ◌∙◌, List, refl, sym, subst, map}
use Rattle.std.specs.Str.{IsUtf8}
use Rattle.std.proofs.lemmas.Str.{IsUtf8-nil}
use Rattle.meaning.specs.declared.types.Fact.{Fact}
use Rattle.findings.specs.declared.refutation.Witness.{Witness}
use Rattle.fact_lines.specs.Lent.{lent_fact}
use Rattle.fact_lines.specs.Lines.{IsListing}
use Rattle.explain.specs.Lent.{lent_pair}
use Rattle.explain.specs.Printing.{pair_text}
use Rattle.explain.proofs.PrintLaws.{printed_again}
use Rattle.explain.proofs.refutation.witness_text.Goals as goal

pub returns-clause-text : goal.returns-clause-text
returns-clause-text c =
    let first = c.in_ok-first.first.items in
    let second = c.in_ok-second.second.items in
    let ordered : Witness = lent_pair first second c.args.pair.now.answer in
    let written : c.push_refutation.new.out.items ≡ pair_text c.args.schema.now.relations ordered =
    rw (c.new-out.ensures.items, c.as_slice-3.ensures.value, c.as_slice-4.ensures.value, c.as_slice-answer.ensures) at c.in_ok-push_refutation.ensures.text in
    record {
      ordered = ordered;
      is_ordered = record {
        first = subst (λ (facts : List Fact). IsListing facts (map lent_fact first)) c.as_slice.ensures c.in_ok-first.ensures;
        second = subst (λ (facts : List Fact). IsListing facts (map lent_fact second)) c.as_slice-2.ensures c.in_ok-second.ensures;
        answer = refl;
      };
      text_is = c.from_vec.ensures ∙ written;
    }

pub returns-clause-utf8 : goal.returns-clause-utf8
returns-clause-utf8 c = subst IsUtf8 (sym c.from_vec.ensures) (c.in_ok-push_refutation.ensures.utf8 (subst IsUtf8 (sym c.new-out.ensures.items) IsUtf8-nil))

pub returns-clause-read : goal.returns-clause-read
returns-clause-read c = λ fits. printed_again c.args.schema.now c.args.pair.now c.from_vec.result fits (returns-clause-text c)
