use Rattle.std.proofs.Common.{◌∙◌, refl, sym, ap, subst}
use Rattle.std.specs.BTreeSet.{contains}
use Rattle.meaning.specs.declared.types.Val.TheVariants.{Const}
use Rattle.meaning.specs.Matching.{MeetsRule, GroundsOf}
use Rattle.data_verify.specs.Breaking.{row_lists_cmp}
use Rattle.data_verify.proofs.Remembering.{met_more}
use Rattle.data_verify.proofs.Stepping.{not_met}
use Rattle.data_verify.proofs.settling.unmet_rest.Goals as goal

pub returns-then-contains-clause-none : goal.returns-then-contains-clause-none
returns-then-contains-clause-none c = c.requires.remembered c.args.values.now refl
    (ap (contains row_lists_cmp c.args.met.now) (sym c.in_ok-key.ensures) ∙ sym c.contains.ensures ∙ c.if-contains.true)

pub returns-in-Some-clause-some : goal.returns-in-Some-clause-some
returns-in-Some-clause-some c = record {
  is = c.in_ok-rest.ensures;
  unmet = not_met c.args.store.now c.in_ok-rest.rest c.in-Some._found.vals
      (rw c.in-Some.is at c.in_ok-_found.ensures.some);
}

pub returns-in_ok-insert-in-None-clause-none : goal.returns-in_ok-insert-in-None-clause-none
returns-in_ok-insert-in-None-clause-none c =
    subst (MeetsRule Const (GroundsOf c.args.store.now)) c.in_ok-rest.ensures
    (rw c.in-None.is at c.in_ok-_found.ensures.none)

pub returns-in_ok-insert-in-None-clause-remembered : goal.returns-in_ok-insert-in-None-clause-remembered
returns-in_ok-insert-in-None-clause-remembered c =
    met_more c.args.store.now c.args.rule.now c.args.values.now c.in_ok-key.key c.args.met.now c.insert.new.self
    c.in_ok-key.ensures
    c.in_ok-insert-in-None.ensures.updates.0
    (subst (MeetsRule Const (GroundsOf c.args.store.now)) c.in_ok-rest.ensures
    (rw c.in-None.is at c.in_ok-_found.ensures.none))
    c.requires.remembered
