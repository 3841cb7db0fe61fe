-- What was decided of a statement.
use Rattle.std.proofs.Common.{◌++◌, ℕ, List, [], ◌∷◌, length-append, arith}
use Rattle.lists.proofs.Members.{contains_got}
use Rattle.meaning.specs.declared.types.Firing.{Firing}
use Rattle.meaning.specs.declared.types.Plan.{Plan}
use Rattle.meaning.specs.declared.types.Statement.{Statement}
use Rattle.access_schema.specs.declared.schema.Schema.{Schema}
use Rattle.findings.specs.declared.decision.Chosen.{Chosen}
use Rattle.proof_search.specs.Decisions.{IsUndecided}
use Rattle.run_command.specs.Deciding.{IsPlanned}
use Rattle.pdq_core.specs.Statuses.{HasPlan, RunsOn}

-- the spent firings can be gone on with
pub longer : (schema : Schema) (statement : Statement) (firings select : ℕ) (log : List Firing) →
    IsUndecided schema statement firings select log → RunsOn firings schema statement
longer schema statement firings select log is =
    let (firing, next, more) = is.spent.goes_on in
    let count = is.spent.count in
    let one_more = length-append log (firing ∷ []) in
    record {
      select = is.select;
      query = is.spent.query;
      log = log ++ firing ∷ [];
      end = next;
      of_statement = contains_got statement.selects select is.select is.of_statement;
      form = is.spent.form;
      numbered = is.spent.numbered;
      run = more;
      long = omega (arith, count, one_more);
    }

-- a plan that was found is one
pub has_plan : (schema : Schema) (statement : Statement) (firings search : ℕ) (plan : Plan) (entries : List Chosen) →
    IsPlanned schema statement firings search plan entries → HasPlan schema statement
has_plan schema statement firings search plan entries planned = (plan, planned.is.lawful, planned.is.equivalent)
