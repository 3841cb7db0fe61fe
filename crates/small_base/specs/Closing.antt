-- Facts closed under the rules of a schema, by firings that may give one label more than once.
use Rattle.std.specs.Prelude.{ℕ, ◌≤◌, List}
use Rattle.meaning.specs.declared.types.Ground.{Ground}
use Rattle.meaning.specs.declared.types.SchemaParts.{SchemaParts}
use Rattle.meaning.specs.Values.{Value}
use Rattle.meaning.specs.Triggers.{State, IsQuiet}
use Rattle.meaning.specs.Naming.{AreNamed}
use Rattle.meaning.specs.Fitting.{RulesHaveConstants, Fit}
use Rattle.meaning_laws.specs.Trims.{AreIn}
use Rattle.integer_laws.specs.Sorted.{AreSortedGrounds, AreSortedRules}

-- A state grows from facts where it has them, its next label is not lower, and its facts are named, fit and are sorted where these are.
pub record GrowsFrom (schema : SchemaParts) (facts : List Ground) (next : ℕ) (state : State) : Type 0 where
  pub within : AreIn facts state.facts
  pub later : next ≤ state.next
  pub named : (constants : List Value) → RulesHaveConstants constants schema.rules → AreNamed constants next facts →
      AreNamed constants state.next state.facts
  pub fits : Fit schema facts → Fit schema state.facts
  pub sorted : AreSortedRules schema → AreSortedGrounds schema facts → AreSortedGrounds schema state.facts

-- A state closes facts where it grows from them and no trigger is active in it, whatever made it.
pub record IsClosing (schema : SchemaParts) (facts : List Ground) (next : ℕ) (state : State) : Type 0 where
  pub grows : GrowsFrom schema facts next state
  pub quiet : IsQuiet schema.rules state
