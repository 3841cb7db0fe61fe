use Rattle.std.proofs.Common.{◌≡◌, ◌+◌, ℕ, [], take, sym, subst, ⊎_elim, arith}
use Rattle.std.specs.Prelude.{flat_map, slice_index_or}
use Rattle.std.specs.declared.cmp.Ordering.TheVariants.{Less}
use Rattle.std.proofs.lemmas.Bool.Decides.{leb_tells}
use Rattle.std.proofs.lemmas.Map.Keys.{sorted_from_all_adjacent}
use Rattle.meaning.specs.declared.types.Fact.{Fact}
use Rattle.fact_lines.specs.Lines.{fact_cmp, fact_text}
use Rattle.fact_lines.proofs.Joining.{flat_taken, grown}
use Rattle.fact_lines.proofs.Ordering.{fact_total}
use Rattle.fact_lines.proofs.lines.push_ascending.Goals as goal

pub loop-number-preserved : goal.loop-number-preserved
loop-number-preserved c =
    let facts = c.args.facts.now in
    let number = c.loop-number.number in
    let fact = c.index-facts-number.result in
    let line = fact_text c.args.schema.now.relations in
    record {
      ascends = λ k d low. ⊎_elim
          (λ h.
          let least = h.1 in
          let last : k + 1 ≡ number = omega (arith, low, least) in
          subst (λ (n : ℕ). fact_cmp (slice_index_or facts k d) (slice_index_or facts n d) ≡ Less) (sym last) (c.is_above_last.ensures c.if-not-is_above_last.false k d last))
          (λ h. c.loop-number.invariant.ascends k d h.1)
          (leb_tells number (k + 1));
      text = grown c.args.out.now.items c.loop-number.out.items c.push_fact.new.out.items (flat_map line (take number facts)) (line fact) _
          c.loop-number.invariant.text c.in_ok-push_fact.ensures.text (flat_taken line facts number fact (omega arith) c.index-facts-number.is);
      utf8 = λ utf8. c.in_ok-push_fact.ensures.utf8 (c.loop-number.invariant.utf8 utf8);
    }

pub returns-clause-ascends : goal.returns-clause-ascends
returns-clause-ascends c =
    let none : Fact = record { rel = 0; row = [] } in
    λ yes. sorted_from_all_adjacent fact_total c.args.facts.now none (λ k within. c.loop-number.invariant.ascends k none (omega arith))
