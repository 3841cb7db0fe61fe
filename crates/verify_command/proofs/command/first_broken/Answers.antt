-- What became of the rules, as a command sees it.
use Rattle.std.proofs.Common.{◌≡◌, length, drop, sym, ◌∙◌, ap, subst}
use Rattle.std.specs.Prelude.{Ok, Err}
use Rattle.std.proofs.lemmas.List.{take_at}
use Rattle.rule_rows.specs.RuleRelations.{needed_first}
use Rattle.rule_rows.specs.Verifying.{Verifies, others}
use Rattle.verify_command.proofs.command.first_broken.Goals as goal

pub returns-in-Ok-clause-verifies : goal.returns-in-Ok-clause-verifies
returns-in-Ok-clause-verifies g c =
    let long : length c.verify_rows.new.lanes ≡ c.args.lanes.now.len = c.verify_rows.auto.lanes ∙ c.as_mut_slice.ensures.len in
    let whole = take_at c.verify_rows.new.lanes (drop (length c.verify_rows.new.lanes) c.args.lanes.now.items) c.args.lanes.now.len long in
    subst (λ l. Verifies g.S.Source.seen c.args.schema.now (needed_first c.args.schema.now) c.args.lanes.now.items l (Ok c.in-Ok.found)) (sym whole)
    (subst (λ l. Verifies g.S.Source.seen c.args.schema.now (needed_first c.args.schema.now) l c.verify_rows.new.lanes (Ok c.in-Ok.found))
    c.as_mut_slice.ensures.value c.in-Ok.ensures.verifies)

pub returns-in-Ok-clause-others : goal.returns-in-Ok-clause-others
returns-in-Ok-clause-others g c =
    let long : length c.verify_rows.new.lanes ≡ c.args.lanes.now.len = c.verify_rows.auto.lanes ∙ c.as_mut_slice.ensures.len in
    let whole = take_at c.verify_rows.new.lanes (drop (length c.verify_rows.new.lanes) c.args.lanes.now.items) c.args.lanes.now.len long in
    ap others whole ∙ c.in-Ok.ensures.others ∙ ap others c.as_mut_slice.ensures.value

pub returns-in-Err-clause-verifies : goal.returns-in-Err-clause-verifies
returns-in-Err-clause-verifies g c =
    let long : length c.verify_rows.new.lanes ≡ c.args.lanes.now.len = c.verify_rows.auto.lanes ∙ c.as_mut_slice.ensures.len in
    let whole = take_at c.verify_rows.new.lanes (drop (length c.verify_rows.new.lanes) c.args.lanes.now.items) c.args.lanes.now.len long in (
      c.in-Err.fault,
      subst (λ l. Verifies g.S.Source.seen c.args.schema.now (needed_first c.args.schema.now) c.args.lanes.now.items l (Err c.in-Err.fault)) (sym whole)
          (subst (λ l. Verifies g.S.Source.seen c.args.schema.now (needed_first c.args.schema.now) l c.verify_rows.new.lanes (Err c.in-Err.fault))
          c.as_mut_slice.ensures.value c.in-Err.ensures.verifies),
      c.stop_of_verify.ensures,
    )

pub returns-in-Err-clause-others : goal.returns-in-Err-clause-others
returns-in-Err-clause-others g c =
    let long : length c.verify_rows.new.lanes ≡ c.args.lanes.now.len = c.verify_rows.auto.lanes ∙ c.as_mut_slice.ensures.len in
    let whole = take_at c.verify_rows.new.lanes (drop (length c.verify_rows.new.lanes) c.args.lanes.now.items) c.args.lanes.now.len long in
    ap others whole ∙ c.in-Err.ensures.others ∙ ap others c.as_mut_slice.ensures.value
