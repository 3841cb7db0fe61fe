use Rattle.std.proofs.Common.{rules, sym, subst, arith}
use Rattle.request_rounds.proofs.Going.{asked_so}
use Rattle.plan_batches.specs.Asking.{AsksNoted, MayAskNoted}
use Rattle.plan_batches.specs.Batching.{RoundsHalt}
use Rattle.plan_batches.specs.declared.fault.BatchFault.{BatchFault}
use Rattle.plan_batches.proofs.Chaining.{can_name, come_all, going_on, halts_for, may_ask_next, may_note, may_take_next}
use Rattle.plan_batches.proofs.Coming.{halts_unbegun}
use Rattle.plan_batches.proofs.Going.{outputs_there}
use Rattle.plan_batches.proofs.rounds.all_rounds.Goals as goal

pub begin_all-requires : goal.begin_all-requires
begin_all-requires g c = outputs_there c.args.schema.now c.args.plans.now c.requires.plans.0

pub returns-in_default-clause-stops : goal.returns-in_default-clause-stops
returns-in_default-clause-stops g c =
    subst (λ (w : BatchFault). RoundsHalt g.S.Source.seen c.args.schema.now c.args.plans.now c.args.cap w
    c.args.lanes.now c.args.lanes.now) (sym c.no_memory.ensures)
    (halts_unbegun g.S.Source.seen c.args.schema.now c.args.plans.now c.args.lanes.now c.args.cap)

pub ask_rounds-requires : goal.ask_rounds-requires
ask_rounds-requires g c = record {
  can = λ n reached middle less went. record {
    turns =
        may_note g.S.Source.seen c.args.schema.now c.args.plans.now c.requires.plans.0
        c.args.lanes.now c.args.cap c.requires.cap _ _ _
        (λ progress turned h. h)
        (asked_so _ (λ noted b r a. AsksNoted g.S.Source.seen c.args.schema.now noted r b a) (λ shown lent result left h. h))
        (λ noted answers next h. h)
        (record { members = c.in-Ok.members; book = c.new.result; kept = c.new-2.result })
        c.new.ensures.is_book c.new.ensures.empty c.new-2.ensures c.in-Ok.ensures
        (c.requires.some (omega (arith, less))) c.requires.attached n reached middle went;
    asks = λ turned wants shown lent shown_is lent_is. (
      subst (λ noted. MayAskNoted g.S.Source.seen noted lent.now) (sym shown_is)
          (subst (λ l. MayAskNoted g.S.Source.seen turned.what l) (sym lent_is)
          (may_ask_next g.S.Source.seen c.args.schema.now c.args.plans.now c.requires.plans.0
          c.args.lanes.now c.args.cap c.requires.cap _ _ _
          (λ progress turned h. h)
          (asked_so _ (λ noted b r a. AsksNoted g.S.Source.seen c.args.schema.now noted r b a) (λ shown lent result left h. h))
          (λ noted answers next h. h)
          (record { members = c.in-Ok.members; book = c.new.result; kept = c.new-2.result })
          c.new.ensures.is_book c.new.ensures.empty c.new-2.ensures c.in-Ok.ensures
          (c.requires.some (omega (arith, less))) c.requires.attached n reached middle went turned wants.0 wants.1
          c.requires.few c.requires.plans.1)),
      search rules,
    );
    takes = λ turned answers after wants asked.
        may_take_next g.S.Source.seen c.args.schema.now c.args.plans.now c.requires.plans.0
        c.args.lanes.now c.args.cap c.requires.cap _ _ _
        (λ progress turned h. h)
        (asked_so _ (λ noted b r a. AsksNoted g.S.Source.seen c.args.schema.now noted r b a) (λ shown lent result left h. h))
        (λ noted answers next h. h)
        (record { members = c.in-Ok.members; book = c.new.result; kept = c.new-2.result })
        c.new.ensures.is_book c.new.ensures.empty c.new-2.ensures c.in-Ok.ensures
        (c.requires.some (omega (arith, less))) c.requires.attached n reached middle went turned wants.0 wants.1
        answers after asked;
  };
}

pub fault_of-requires : goal.fault_of-requires
fault_of-requires g c =
    can_name g.S.Source.seen c.args.schema.now c.args.plans.now c.requires.plans.0
    c.args.lanes.now c.args.cap c.requires.cap _ _ _
    (λ progress turned h. h)
    (asked_so _ (λ noted b r a. AsksNoted g.S.Source.seen c.args.schema.now noted r b a) (λ shown lent result left h. h))
    (λ noted answers next h. h)
    (record { members = c.in-Ok.members; book = c.new.result; kept = c.new-2.result })
    c.new.ensures.is_book c.new.ensures.empty c.new-2.ensures c.in-Ok.ensures
    c.args.most c.in-Err.halt c.ask_rounds.new.lanes c.in-Err.ensures.halts c.requires.plans.1

pub returns-in-Ok-ask_rounds-clause-come : goal.returns-in-Ok-ask_rounds-clause-come
returns-in-Ok-ask_rounds-clause-come g c =
    come_all g.S.Source.seen c.args.schema.now c.args.plans.now c.requires.plans.0
    c.args.lanes.now c.args.cap c.requires.cap _ _ _
    (λ progress turned h. h)
    (asked_so _ (λ noted b r a. AsksNoted g.S.Source.seen c.args.schema.now noted r b a) (λ shown lent result left h. h))
    (λ noted answers next h. h)
    (record { members = c.in-Ok.members; book = c.new.result; kept = c.new-2.result })
    c.new.ensures.is_book c.new.ensures.empty c.new-2.ensures c.in-Ok.ensures
    c.args.most c.in-Ok-ask_rounds.reached c.ask_rounds.new.lanes c.in-Ok-ask_rounds.ensures.went

pub returns-in-Ok-ask_rounds-clause-going : goal.returns-in-Ok-ask_rounds-clause-going
returns-in-Ok-ask_rounds-clause-going g c = λ some.
    going_on g.S.Source.seen c.args.schema.now c.args.plans.now c.requires.plans.0
    c.args.lanes.now c.args.cap c.requires.cap _ _ _
    (λ progress turned h. h)
    (asked_so _ (λ noted b r a. AsksNoted g.S.Source.seen c.args.schema.now noted r b a) (λ shown lent result left h. h))
    (λ noted answers next h. h)
    (record { members = c.in-Ok.members; book = c.new.result; kept = c.new-2.result })
    c.new.ensures.is_book c.new.ensures.empty c.new-2.ensures c.in-Ok.ensures
    c.args.most c.in-Ok-ask_rounds.reached c.ask_rounds.new.lanes c.in-Ok-ask_rounds.ensures.went
    (c.requires.going some)

pub returns-in-Err-clause-stops : goal.returns-in-Err-clause-stops
returns-in-Err-clause-stops g c =
    halts_for g.S.Source.seen c.args.schema.now c.args.plans.now c.requires.plans.0
    c.args.lanes.now c.args.cap c.requires.cap _ _ _
    (λ progress turned h. h)
    (asked_so _ (λ noted b r a. AsksNoted g.S.Source.seen c.args.schema.now noted r b a) (λ shown lent result left h. h))
    (λ noted answers next h. h)
    (record { members = c.in-Ok.members; book = c.new.result; kept = c.new-2.result })
    c.new.ensures.is_book c.new.ensures.empty c.new-2.ensures c.in-Ok.ensures
    c.args.most c.in-Err.halt c.ask_rounds.new.lanes c.in-Err.ensures.halts
    c.requires.going c.fault_of.result c.fault_of.ensures
