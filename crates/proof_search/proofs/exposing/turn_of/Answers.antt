use Rattle.std.proofs.Common.{List, subst}
use Rattle.std.specs.Prelude.{Contains, IfOk}
use Rattle.meaning.specs.declared.types.Firing.{Firing}
use Rattle.proof_search.proofs.exposing.turn_of.Goals as goal

pub returns-in-Cheapest-clause-among : goal.returns-in-Cheapest-clause-among
returns-in-Cheapest-clause-among c =
    subst (λ (found : List Firing). IfOk c.cheapest.result (λ chosen. (firing : Firing) → Contains chosen firing → Contains found firing)) c.as_slice.ensures c.cheapest.ensures.among
