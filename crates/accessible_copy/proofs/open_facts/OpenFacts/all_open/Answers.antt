use Rattle.std.proofs.Common.{◌≡◌, ◌∷◌, [], ◌++◌, subst, ⊎_elim, arith}
use Rattle.std.specs.Prelude.{Contains}
use Rattle.std.proofs.lemmas.Bool.{cases_lt}
use Rattle.std.proofs.lemmas.Option.{slice_get_within}
use Rattle.std.proofs.lemmas.List.Elements.{Contains-append_left, Contains-push}
use Rattle.homomorphism.proofs.Covering.{denied}
use Rattle.accessible_copy.specs.Known.{known_values, facts_of}
use Rattle.accessible_copy.specs.OpenFacts.{IsOpen}
use Rattle.accessible_copy.proofs.open_facts.OpenFacts.all_open.Goals.{then-is_open+in_ok-push, else-is_open}
use Rattle.accessible_copy.proofs.open_facts.OpenFacts.all_open.Goals as goal

pub loop-number-preserved : goal.loop-number-preserved
loop-number-preserved c =
    let number = c.loop-number.number in
    let old = c.loop-number.numbers.items in
    elim c.if-is_open.branch [
      | then-is_open+in_ok-push w ↦ rw (w.numbers-is, w.in_ok-push.ensures.items) (λ n low is.
          ⊎_elim (λ before. Contains-append_left old (number ∷ []) n (c.loop-number.invariant n before is))
          (λ not. let same : number ≡ n = omega arith in subst (λ m. Contains (old ++ number ∷ []) m) same (Contains-push old number)) (cases_lt n number))
      | else-is_open w ↦ rw w.numbers-is (λ n low is.
          ⊎_elim (λ before. c.loop-number.invariant n before is)
          (λ not. let same : n ≡ number = omega arith in absurd (denied _ c.is_open.ensures w.if-is_open.false
          (subst (λ k. IsOpen c.args.self.now.ways.items c.args.facts.now (known_values c.args.known.now.constants (facts_of c.args.known.now.exposed)) (facts_of c.args.known.now.exposed) k) same is))) (cases_lt n number))
    ]

pub returns : goal.returns
returns c = λ n is.
    let (fact, got, not, can) = is in
    let within = slice_get_within c.args.facts.now n fact got in
    let t = c.loop-number-test.false in let long = c.len-number-end.ensures in
    c.loop-number.invariant n (omega arith) is
