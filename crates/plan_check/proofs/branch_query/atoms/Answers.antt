use Rattle.std.proofs.Common.{◌≡◌, ◌∙◌, ◌+◌, ◌∷◌, List, drop, sym, ap, arith}
use Rattle.std.proofs.lemmas.List.{drop_more, drop_all}
use Rattle.meaning.specs.declared.types.Step.{Step}
use Rattle.meaning.specs.Judge.{columns_of}
use Rattle.meaning.specs.Plans.{made}
use Rattle.meaning_laws.proofs.Frozen.{columns_grow}
use Rattle.access_schema.specs.Meaning.{meaning_of}
use Rattle.plan_check.proofs.Branching.{atoms_more, atoms_all}
use Rattle.plan_check.proofs.branch_query.atoms.Goals as goal

pub step_atom-requires-clause-named : goal.step_atom-requires-clause-named
step_atom-requires-clause-named c = c.requires.named c.step-item.result (c.loop-step.step-index, c.loop-step-test.true, sym c.step-item.is)

pub step_atom-requires-clause-few : goal.step_atom-requires-clause-few
step_atom-requires-clause-few c =
    let rest : List Step = drop (c.loop-step.step-index + 1) c.args.steps.now in
    let at : drop c.loop-step.step-index c.args.steps.now ≡ c.step-item.result ∷ rest =
    drop_more c.args.steps.now c.loop-step.step-index c.step-item.result c.loop-step-test.true ∙ ap (λ step. step ∷ rest) (sym c.step-item.is) in
    let same = c.loop-step.invariant.columns ∙ ap (columns_of c.loop-step.columns) at in
    let up = columns_grow (made c.loop-step.columns c.step-item.result.places) rest in
    omega (arith, c.requires.few)

pub loop-step-preserved : goal.loop-step-preserved
loop-step-preserved c =
    let rest : List Step = drop (c.loop-step.step-index + 1) c.args.steps.now in
    let at : drop c.loop-step.step-index c.args.steps.now ≡ c.step-item.result ∷ rest =
    drop_more c.args.steps.now c.loop-step.step-index c.step-item.result c.loop-step-test.true ∙ ap (λ step. step ∷ rest) (sym c.step-item.is) in
    record {
      atoms = atoms_more (meaning_of c.args.schema.now) c.args.steps.now (drop c.loop-step.step-index c.args.steps.now) rest c.loop-step.atoms.items c.push.new.self.items c.loop-step.columns c.in_ok-atom.after
          c.step-item.result c.in_ok-atom.atom c.loop-step.invariant.atoms at c.in_ok-atom.ensures.atom c.in_ok-atom.ensures.columns c.in_ok-push.ensures.items;
      columns = c.loop-step.invariant.columns ∙ ap (columns_of c.loop-step.columns) at ∙ ap (λ n. columns_of n rest) (sym c.in_ok-atom.ensures.columns);
    }

pub returns-clause-atoms : goal.returns-clause-atoms
returns-clause-atoms c =
    atoms_all (meaning_of c.args.schema.now) c.args.steps.now (drop c.loop-step.step-index c.args.steps.now) c.loop-step.atoms.items c.loop-step.columns c.loop-step.invariant.atoms
    (drop_all c.loop-step.step-index c.args.steps.now c.loop-step-test.false)
