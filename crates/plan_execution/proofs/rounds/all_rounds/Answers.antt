use Rattle.std.proofs.Common.{rules, sym, subst, arith}
use Rattle.plan_execution.specs.PlanRounds.{PlanHalts}
use Rattle.plan_execution.specs.Rounding.{MayAsk}
use Rattle.plan_execution.proofs.Coming.{can_name, come_all, going_on, halts_in, halts_unbegun, may_ask_next}
use Rattle.plan_execution.proofs.rounds.all_rounds.Goals as goal

pub start-requires : goal.start-requires
start-requires g c = λ its among. (c.requires.ready.0 its among).output

pub returns-in_default-clause-stops : goal.returns-in_default-clause-stops
returns-in_default-clause-stops g c =
    halts_unbegun g.S.Source.seen c.args.schema.now c.args.plan.now c.requires.ready.0 c.args.cap c.args.lanes.now

pub ask_rounds-requires : goal.ask_rounds-requires
ask_rounds-requires g c = record {
  can = λ n reached middle less went. record {
    turns = (
      c.requires.ready.0,
      (
        n,
        (come_all g.S.Source.seen c.args.schema.now c.args.plan.now c.requires.ready.0 c.args.cap c.args.lanes.now _ _ _
            (λ course turned h. h) (λ shown lent result left h. h) (λ pending answers next h. h)
            c.in-Ok.course c.in-Ok.ensures.at c.in-Ok.ensures.knows
            n reached middle went).at,
        let fits = c.requires.steps in omega (arith, fits, less),
      ),
    );
    asks = λ turned wants shown lent shown_is lent_is. (
      subst (λ p. MayAsk c.args.schema.now g.S.Source.seen p lent.now) (sym shown_is)
          (subst (λ l. MayAsk c.args.schema.now g.S.Source.seen turned.what l) (sym lent_is)
          (may_ask_next g.S.Source.seen c.args.schema.now c.args.plan.now c.requires.ready.0 c.args.cap c.args.lanes.now
          _ _ _ (λ course turned h. h) (λ shown lent result left h. h) (λ pending answers next h. h)
          c.in-Ok.course c.in-Ok.ensures.at c.in-Ok.ensures.knows
          c.requires.lanes.1 (c.requires.lanes.0 (omega (arith, less))) c.requires.cap
          (c.requires.going (omega (arith, less))) c.requires.askable
          n reached middle went turned wants.0 wants.1)),
      search rules,
    );
    takes = λ turned answers after wants asked. (
      (c.args.schema.now, reached.progress, wants.0.is),
      λ its among. (c.requires.ready.0 its among).output,
    );
  };
}

pub fault_of-requires : goal.fault_of-requires
fault_of-requires g c =
    can_name g.S.Source.seen c.args.schema.now c.args.plan.now c.requires.ready.0 c.args.cap c.args.lanes.now _ _ _
    (λ course turned h. h) (λ shown lent result left h. h) (λ pending answers next h. h)
    c.in-Ok.course c.in-Ok.ensures.at c.in-Ok.ensures.knows
    c.args.steps c.requires.steps c.in-Err.halt c.ask_rounds.new.lanes c.in-Err.ensures.halts c.requires.ready.1

pub returns-in-Ok-ask_rounds-clause-come : goal.returns-in-Ok-ask_rounds-clause-come
returns-in-Ok-ask_rounds-clause-come g c =
    come_all g.S.Source.seen c.args.schema.now c.args.plan.now c.requires.ready.0 c.args.cap c.args.lanes.now _ _ _
    (λ course turned h. h) (λ shown lent result left h. h) (λ pending answers next h. h)
    c.in-Ok.course c.in-Ok.ensures.at c.in-Ok.ensures.knows
    c.args.steps c.in-Ok-ask_rounds.reached c.ask_rounds.new.lanes c.in-Ok-ask_rounds.ensures.went

pub returns-in-Ok-ask_rounds-clause-going : goal.returns-in-Ok-ask_rounds-clause-going
returns-in-Ok-ask_rounds-clause-going g c = λ some.
    going_on g.S.Source.seen c.args.schema.now c.args.plan.now c.requires.ready.0 c.args.cap c.args.lanes.now _ _ _
    (λ course turned h. h) (λ shown lent result left h. h) (λ pending answers next h. h)
    c.in-Ok.course c.in-Ok.ensures.at c.in-Ok.ensures.knows
    c.args.steps c.in-Ok-ask_rounds.reached c.ask_rounds.new.lanes c.in-Ok-ask_rounds.ensures.went
    (c.requires.going some)

pub returns-in-Err-clause-stops : goal.returns-in-Err-clause-stops
returns-in-Err-clause-stops g c =
    subst (λ why. PlanHalts g.S.Source.seen c.args.schema.now c.args.plan.now c.args.cap why
    c.args.lanes.now c.ask_rounds.new.lanes) (sym c.fault_of.ensures)
    (halts_in g.S.Source.seen c.args.schema.now c.args.plan.now c.requires.ready.0 c.args.cap c.args.lanes.now _ _ _
    (λ course turned h. h) (λ shown lent result left h. h) (λ pending answers next h. h)
    c.in-Ok.course c.in-Ok.ensures.at c.in-Ok.ensures.knows
    c.args.steps c.requires.steps c.in-Err.halt c.ask_rounds.new.lanes c.in-Err.ensures.halts
    c.requires.cap c.requires.going)
