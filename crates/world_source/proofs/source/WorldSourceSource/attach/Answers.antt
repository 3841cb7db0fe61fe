-- A relation that is taken with the rows of its formula.
use Rattle.std.proofs.Common.{◌≡◌, ◌++◌, ◌∙◌, List, Some, Ok, refl, ap, sym, subst, length, arith}
use Rattle.meaning.specs.declared.types.Fact.{Fact}
use Rattle.source_trait.specs.Asking.{HaveArity, facts_of}
use Rattle.world_source.specs.Formulas.{offered, rows_of}
use Rattle.world_source.proofs.Rows.{rows_are_pairs}
use Rattle.world_source.proofs.source.WorldSourceSource.attach.Goals as goal

pub returns-in-Ok : goal.returns-in-Ok
returns-in-Ok c =
    let f = c.in_ok-formula.formula in
    let rows = rows_of f.step f.count in
    let columns = length c.args.columns.now in
    let two : columns ≡ 2 = sym c.len.ensures ∙ c.in_ok-formula.ensures.0 in
    let offer : offered c.args.locator.now columns ≡ Ok rows = ap (offered c.args.locator.now) (sym c.len.ensures) ∙ c.in_ok-formula.ensures.1 in
    record {
      attached = c.in-Ok.ensures.attached;
      detached = tt;
      others = λ r apart. c.take.ensures.others r apart ∙ c.detach.ensures.others r apart;
      takes = record {
        rows = rows;
        held = ap Some (c.in-Ok.ensures.facts ∙ ap (λ (l : List Fact). l ++ facts_of c.args.rel rows) c.detach.ensures.facts);
        fit = subst (λ m. HaveArity m rows) (sym two) (rows_are_pairs f.step f.count);
        offered = offer;
      };
      takes_none = tt;
      tells = refl;
      offered = rw offer refl;
      cause = tt;
      column = tt;
      faults = record { later = omega arith; kept = refl; none = λ never. refl };
      offers = refl;
      passes = λ _. refl;
      asked = refl;
    }
