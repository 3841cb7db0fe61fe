use Rattle.std.proofs.Common.{◌≡◌, ◌≤◌, ◌+◌, ◌∷◌, [], ◌∙◌, Some, length, take, sym, ap, subst, ⊎_elim, arith}
use Rattle.std.specs.Prelude.{Contains, slice_get}
use Rattle.std.proofs.lemmas.List.{take_all}
use Rattle.std.proofs.lemmas.List.Elements.{Contains-push_cases}
use Rattle.lists.proofs.Members.{contains_here, contains_take}
use Rattle.lists.proofs.Places.{take_got, got_none}
use Rattle.meaning.specs.Added.{with_fact}
use Rattle.meaning_laws.proofs.Added.{added_left, added_right}
use Rattle.accessible_copy.specs.declared.entry.Sizes.{Sizes}
use Rattle.proof_search.proofs.attempting.base_facts.Goals.{in-Some+in_ok-copy+in_ok-insert, in_default}
use Rattle.proof_search.proofs.attempting.base_facts.Goals as goal

pub loop-number-preserved : goal.loop-number-preserved
loop-number-preserved c fact among =
    let base = c.args.proof.now.end.base in
    let n = c.loop-number.number in
    let before = c.loop-number.facts in
    elim c.match-base.branch [
      | in-Some+in_ok-copy+in_ok-insert w ↦
          let next = w.in-Some.fact.now in
          let got : slice_get base n ≡ Some next = sym w.in-Some.ensures in
          let now : c.match-base.facts ≡ with_fact before next = w.facts-is ∙ w.in_ok-insert.ensures.kept ∙ ap (with_fact before) w.in_ok-copy.ensures in
          subst (λ facts. Contains facts fact) (sym now)
          (⊎_elim (λ old. added_left before (next ∷ []) fact (c.loop-number.invariant fact old))
          (λ same. added_right before (next ∷ []) fact (subst (Contains (next ∷ [])) same (contains_here next [])))
          (Contains-push_cases (take n base) next fact (subst (λ list. Contains list fact) (take_got base n next got) among)))
      | in_default w ↦
          let all : length base ≤ n = got_none base n (sym w.in_default.ensures) in
          rw w.facts-is
          (c.loop-number.invariant fact (subst (λ list. Contains list fact) (sym (take_all n base all)) (contains_take (n + 1) base fact among)))
    ]

pub returns : goal.returns
returns c fact among =
    let base = c.args.proof.now.end.base in
    let count : c.sizes-number-end.result.base ≡ length base = ap (λ (s : Sizes). s.base) c.sizes-number-end.ensures in
    let test = c.loop-number-test.false in
    let all : length base ≤ c.loop-number.number = omega arith in
    c.loop-number.invariant fact (subst (λ list. Contains list fact) (sym (take_all c.loop-number.number base all)) among)
