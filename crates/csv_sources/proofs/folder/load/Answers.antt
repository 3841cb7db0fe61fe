use Rattle.std.proofs.Common.{◌≡◌, arith, sum, length, cond, Some, Err, rules}
use Rattle.source_trait.specs.Holding.{sizes_of}
use Rattle.source_trait.specs.declared.source.AttachFault.TheVariants.{TooLarge}
use Rattle.csv_sources.specs.DataFile.{file_offer}
use Rattle.csv_sources.specs.Folder.{passes_beside}
use Rattle.csv_sources.proofs.Offers.{data_cause, data_counted, fault_of_data, told_read, told_short}
use Rattle.csv_sources.proofs.folder.load.Goals as goal

pub returns-in-Ok-Err-clause-gives : goal.returns-in-Ok-Err-clause-gives
returns-in-Ok-Err-clause-gives g c =
    let others = sum (sizes_of c.args.holding.now) in
    let read : c.as_slice.result.now ≡ c.in-Ok.bytes = search rules in
    let is : Err c.in-Ok-Err.fault ≡ cond (passes_beside others (Some c.in-Ok.bytes)) (Err TooLarge) (file_offer c.in-Ok.bytes c.args.columns.now) = rw (← read) (search rules) in
    data_cause (length c.args.columns.now) c.in-Ok-Err.fault _ _
    (fault_of_data others c.in-Ok.bytes c.args.columns.now c.in-Ok-Err.fault c.requires.some is)
    (told_read (g.F.Files.contents c.args.files.now) c.args.locator.now c.in-Ok.bytes c.args.columns.now others (Err c.in-Ok-Err.fault) c.in-Ok.ensures.bytes c.in-Ok.ensures.size is)
    (omega (arith, c.in-Ok.ensures.later, c.saturating_add.ensures))

pub returns-in-Ok-Err-clause-counts : goal.returns-in-Ok-Err-clause-counts
returns-in-Ok-Err-clause-counts g c =
    let others = sum (sizes_of c.args.holding.now) in
    let read : c.as_slice.result.now ≡ c.in-Ok.bytes = search rules in
    let is : Err c.in-Ok-Err.fault ≡ cond (passes_beside others (Some c.in-Ok.bytes)) (Err TooLarge) (file_offer c.in-Ok.bytes c.args.columns.now) = rw (← read) (search rules) in
    data_counted (length c.args.columns.now) c.in-Ok-Err.fault _ _ c.args.data_faults.now c.saturating_add.result
    (fault_of_data others c.in-Ok.bytes c.args.columns.now c.in-Ok-Err.fault c.requires.some is)
    (told_short (g.F.Files.contents c.args.files.now) c.args.locator.now c.in-Ok.bytes c.in-Ok.ensures.bytes c.in-Ok.ensures.size)
    c.saturating_add.ensures
