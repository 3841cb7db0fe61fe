-- One relation was asked, its numbers were tested, and its facts added, or where that stopped.
use Rattle.source_trait.specs.Asking.{facts_of}
use Rattle.rule_rows.proofs.Asking.{one_asked, one_dropped, one_full, one_failed, one_bad}
use Rattle.rule_rows.proofs.ask.ask_next.Goals as goal

pub returns-in-Err-Failed-clause-stops : goal.returns-in-Err-Failed-clause-stops
returns-in-Err-Failed-clause-stops g c =
    one_failed g.S.Source.seen c.args.schema.now c.args.rel c.args.lane.now.kinds.items c.ask_one.new.lane.kinds.items
    (rw c.in-Err-Failed.field-0-is at c.in-Err-Failed.ensures.asks)

pub returns-in-Err-NoMemory-clause-stops : goal.returns-in-Err-NoMemory-clause-stops
returns-in-Err-NoMemory-clause-stops g c =
    one_full g.S.Source.seen c.args.schema.now c.args.rel c.args.lane.now.kinds.items c.ask_one.new.lane.kinds.items
    (rw c.in-Err-NoMemory.field-0-is at c.in-Err-NoMemory.ensures.asks)

pub returns-in-Some-clause-stops : goal.returns-in-Some-clause-stops
returns-in-Some-clause-stops g c =
    one_bad g.S.Source.seen c.args.schema.now c.args.rel c.args.lane.now.kinds.items c.ask_one.new.lane.kinds.items
    c.in-Ok.rows c.in-Some.column c.in-Ok.ensures.asks c.in-Some.ensures

pub returns-in-Ok-add_facts-clause-asked : goal.returns-in-Ok-add_facts-clause-asked
returns-in-Ok-add_facts-clause-asked g c = (
  facts_of c.args.rel c.in-Ok.rows,
  c.in-Ok-add_facts.ensures,
  one_asked g.S.Source.seen c.args.schema.now c.args.rel c.args.lane.now.kinds.items c.ask_one.new.lane.kinds.items
      c.in-Ok.rows c.in-Ok.ensures.asks c.in-None.ensures,
)

pub returns-clause-stops : goal.returns-clause-stops
returns-clause-stops g c =
    one_dropped g.S.Source.seen c.args.schema.now c.args.rel c.args.lane.now.kinds.items c.ask_one.new.lane.kinds.items
    c.in-Ok.rows c.in-Ok.ensures.asks c.in-None.ensures
