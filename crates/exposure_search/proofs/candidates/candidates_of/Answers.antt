use Rattle.std.proofs.Common.{◌↔◌, List, ℕ, Bool, IsTrue, sym, subst}
use Rattle.std.specs.Prelude.{Contains}
use Rattle.lists.proofs.Places.{got_indexed}
use Rattle.homomorphism.proofs.Covering.{told, denied}
use Rattle.exposure_search.specs.Tries.{IsMarked}
use Rattle.exposure_search.proofs.MovesFrom.{candidates_more, candidates_less, candidates_all}
use Rattle.exposure_search.proofs.candidates.candidates_of.Goals as goal
use Rattle.exposure_search.proofs.candidates.candidates_of.Goals.{then-is_marked+in_ok-add_candidates, else-is_marked}

pub add_candidates-requires-clause-named : goal.add_candidates-requires-clause-named
add_candidates-requires-clause-named c number among = c.requires.methods.each c.index-facts-place.result.rel number (subst (λ (numbers : List ℕ). Contains numbers number) c.numbers-numbers.ensures among)

pub loop-place-preserved : goal.loop-place-preserved
loop-place-preserved c =
    let fact = c.index-facts-place.result in
    let place = c.loop-place.place in
    elim c.if-is_marked.branch [
      | then-is_marked+in_ok-add_candidates w ↦
          rw w.candidates-is (candidates_more c.args.schema.now.methods c.args.proof.now.constants c.args.facts.now c.args.marks.now c.loop-place.candidates.items place c.loop-place.invariant c.args.methods.now c.requires.methods fact
          (got_indexed c.args.facts.now place fact c.loop-place-test.true c.index-facts-place.is)
          (subst (λ (marks : List Bool). IsMarked marks place) c.as_slice.ensures.value (told _ c.is_marked.ensures w.if-is_marked.true))
          w.is_marked-needed.result (subst (λ (marks : List Bool). IsTrue w.is_marked-needed.result ↔ IsMarked marks place) w.as_slice-then-is_marked.ensures.value w.is_marked-needed.ensures)
          w.add_candidates.new.candidates.items (record {
            each = w.in_ok-add_candidates.ensures.each;
            stay = w.in_ok-add_candidates.ensures.stay;
            all = λ number method exposed among. w.in_ok-add_candidates.ensures.all number method exposed (subst (λ (numbers : List ℕ). Contains numbers number) (sym w.numbers-numbers.ensures) among);
          }))
      | else-is_marked w ↦
          rw w.candidates-is (candidates_less c.args.schema.now.methods c.args.proof.now.constants c.args.facts.now c.args.marks.now c.loop-place.candidates.items place c.loop-place.invariant
          (λ on. denied _ c.is_marked.ensures w.if-is_marked.false (subst (λ (marks : List Bool). IsMarked marks place) (sym c.as_slice.ensures.value) on)))
    ]

pub returns : goal.returns
returns c = candidates_all c.args.schema.now.methods c.args.proof.now.constants c.args.facts.now c.args.marks.now c.loop-place.candidates.items c.loop-place.place c.loop-place.invariant c.loop-place-test.false
