use Rattle.std.proofs.Common.{◌≡◌, Some, List, Bool, sym, ap, subst}
use Rattle.std.specs.Prelude.{Contains, slice_get, Ok, false}
use Rattle.std.proofs.lemmas.List.{take_all}
use Rattle.lists.proofs.Places.{got_indexed}
use Rattle.meaning.specs.declared.types.Atom.{Atom}
use Rattle.exposure_search.specs.Tries.{IsMarked}
use Rattle.exposure_search.specs.Relevance.{AllMarked}
use Rattle.exposure_search.proofs.Wanting.{round_on, round_same, round_grew, ok_is}
use Rattle.exposure_search.proofs.wanted.mark_round.Goals.{then-has_marked+in_ok-mark_all+then-branch, else-has_marked, else-has_marked-via-then-has_marked+in_ok-mark_all+else-branch, else-has_marked-via-else-has_marked}
use Rattle.exposure_search.proofs.wanted.mark_round.Goals as goal

pub loop-rule-preserved : goal.loop-rule-preserved
loop-rule-preserved c =
    let rules = c.args.rules.now in
    let i = c.loop-rule.rule-index in
    let rule = c.rule-item.result in
    let old = c.args.marks.now.items in
    let now = c.loop-rule.marks.items in
    let got : slice_get rules i ≡ Some rule = got_indexed rules i rule c.loop-rule-test.true c.rule-item.is in
    elim c.if-has_marked.branch [
      | then-has_marked+in_ok-mark_all+then-branch w ↦
          rw (w.marks-is, w.grew-is) (round_grew rules i old now c.loop-rule.grew c.loop-rule.invariant rule got w.mark_all.new.marks.items w.in_ok-mark_all.ensures.stays)
      | else-has_marked w ↦
          elim w.else-has_marked.branch [
            | else-has_marked-via-then-has_marked+in_ok-mark_all+else-branch w' ↦
                rw (w.marks-is, w.grew-is, w'.marks-is)
                (round_same rules i old now c.loop-rule.grew c.loop-rule.invariant rule got w'.mark_all.new.marks.items (w'.in_ok-mark_all.ensures.none (ap (λ b. Ok b) w'.if-branch.false))
                (subst (λ atoms. AllMarked w'.mark_all.new.marks.items atoms) w'.as_slice-then-has_marked.ensures w'.in_ok-mark_all.ensures.all))
            | else-has_marked-via-else-has_marked w' ↦
                rw (w.marks-is, w.grew-is, w'.marks-is)
                (round_on rules i old now c.loop-rule.grew c.loop-rule.invariant rule got
                (λ head body of_head of_body on. absurd (c.has_marked.ensures w'.if-has_marked.false head (subst (λ (atoms : List Atom). Contains atoms head) (sym c.as_slice-in-loop-rule.ensures) of_head)
                (subst (λ (marks : List Bool). IsMarked marks head.rel) (sym c.as_slice.ensures.value) on))))
          ]
    ]

pub returns-clause-closed : goal.returns-clause-closed
returns-clause-closed c none rule head body among =
    c.loop-rule.invariant.closed (ok_is c.loop-rule.grew false none) rule (subst (λ list. Contains list rule) (sym (take_all c.loop-rule.rule-index c.args.rules.now c.loop-rule-test.false)) among) head body
