use Rattle.std.proofs.Common.{◌≡◌, List}
use Rattle.meaning.specs.declared.types.SchemaParts.{SchemaParts}
use Rattle.meaning.specs.declared.types.Fact.{Fact}
use Rattle.meaning.specs.Plans.{IsWellFormed}
use Rattle.plan_course.specs.Courses.{AreReadyBranches, Knows, Stands, steps_done}
use Rattle.plan_course.proofs.course.settle.Given as goal

abbrev pub invariant-loop-number : goal.invariant-loop-number
invariant-loop-number l = record {
  stands : Stands l.plan l.reached;
  place : l.reached.branch ≡ l.number;
  same : steps_done l.plan l.reached ≡ steps_done l.plan l.fn.course;
  knows : (schema : SchemaParts) (facts : List Fact) → IsWellFormed schema → AreReadyBranches schema l.plan
      → Knows schema facts l.plan l.fn.course → Knows schema facts l.plan l.reached;
}
