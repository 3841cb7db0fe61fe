use Rattle.std.proofs.Common.{◌≡◌, ◌+◌, ◌++◌, List, Option, Some, Result, Ok, refl, ◌∙◌, ap, subst, arith}
use Rattle.std.specs.Prelude.{IfSome}
use Rattle.meaning.specs.declared.types.Fact.{Fact}
use Rattle.source_trait.specs.Asking.{RowList, AttachCause, facts_of}
use Rattle.source_trait.specs.Causes.{Rose}
use Rattle.source_trait.specs.Holding.{loads_of}
use Rattle.source_trait.specs.declared.source.AttachFault.{AttachFault}
use Rattle.csv_sources.specs.Folder.{Contents, offers, passes_limit}
use Rattle.csv_sources.proofs.Limits.{behind, one_offered, rows_are_ok}
use Rattle.csv_sources.proofs.folder.CsvFolderSource.attach.Goals as goal

pub returns-in-Ok-take-clause-gives : goal.returns-in-Ok-take-clause-gives
returns-in-Ok-take-clause-gives g c =
    let old = c.args.self.now.holding in
    let contents = g.F.Files.contents c.args.self.now.files in
    let loaded = c.in-Ok.ensures.gives in
    let same = one_offered c.args.rel old c.detach.new.self contents c.args.columns.now c.args.locator.now c.detach.ensures.left in
    let offered = subst (λ (o : Option (Result RowList AttachFault)). IfSome o (λ given. given ≡ Ok c.in-Ok.loaded.rows)) same loaded.1 in
    record {
      attached = c.in-Ok-take.ensures.attached;
      detached = tt;
      others = λ r apart. c.in-Ok-take.ensures.others r apart ∙ c.detach.ensures.others r apart;
      takes = record {
        rows = c.in-Ok.loaded.rows;
        held = ap Some (c.in-Ok-take.ensures.facts ∙ ap (λ (l : List Fact). l ++ facts_of c.args.rel c.in-Ok.loaded.rows) c.detach.ensures.facts);
        fit = loaded.0;
        offered = offered;
      };
      takes_none = tt;
      tells = refl;
      offered = rows_are_ok _ c.in-Ok.loaded.rows offered;
      cause = tt;
      column = tt;
      faults = record { later = omega (arith, c.in-Ok.ensures.files_later, c.in-Ok.ensures.data_later); kept = refl; none = λ never. absurd (cc) };
      offers = ap offers c.in-Ok.ensures.same;
      passes = λ more. ap (λ (told : Contents). passes_limit (loads_of c.take.new.self) told more) c.in-Ok.ensures.same
          ∙ behind contents c.args.columns.now c.args.rel c.args.locator.now old c.detach.new.self c.take.new.self c.in-Ok.loaded.size c.in-Ok.loaded.rows c.detach.ensures.left loaded.1 loaded.2
          c.in-Ok-take.ensures.loads more;
      asked = refl;
    }

pub returns-in-Err-clause-gives : goal.returns-in-Err-clause-gives
returns-in-Err-clause-gives g c =
    let contents = g.F.Files.contents c.args.self.now.files in
    let same = one_offered c.args.rel c.args.self.now.holding c.detach.new.self contents c.args.columns.now c.args.locator.now c.detach.ensures.left in
    let rose = Rose (g.F.Files.faults c.args.self.now.files + c.args.self.now.data_faults) (g.F.Files.faults c.load.new.files + c.load.new.data_faults) in
    record {
      attached = tt;
      detached = c.detach.ensures.gone;
      others = c.detach.ensures.others;
      takes = tt;
      takes_none = ap Some c.detach.ensures.facts;
      tells = refl;
      offered = tt;
      cause = subst (λ (o : Option (Result RowList AttachFault)). AttachCause c.in-Err.fault o rose) same c.in-Err.ensures.gives.0;
      column = c.in-Err.ensures.gives.1;
      faults = record { later = omega (arith, c.in-Err.ensures.files_later, c.in-Err.ensures.data_later); kept = refl; none = λ never. absurd (cc) };
      offers = ap offers c.in-Err.ensures.same;
      passes = tt;
      asked = refl;
    }
