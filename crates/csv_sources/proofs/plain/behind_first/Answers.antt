use Rattle.std.proofs.Common.{◌∙◌, sym, ap, drop}
use Rattle.source_trait.specs.Asking.{RowList}
use Rattle.csv_sources.proofs.Cutting.{no_records}
use Rattle.csv_sources.proofs.plain.behind_first.Goals as goal

pub returns-clause-rest : goal.returns-clause-rest
returns-clause-rest c =
    let none = rw c.in-None.is at c.in_ok-rest.ensures in
    no_records ∙ sym (ap (λ (l : RowList). drop 1 l) none)
