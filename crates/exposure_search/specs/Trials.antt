-- What a search can spend units on: sets of exposures, and firings in their copies.
use Rattle.std.specs.Prelude.{◌≡◌, ◌↔◌, ◌<◌, ◌+◌, ℕ, List, [], ◌∷◌, Contains, length}
use Rattle.meaning.specs.declared.types.SchemaParts.{SchemaParts}
use Rattle.meaning.specs.declared.types.Ground.{Ground}
use Rattle.meaning.specs.declared.types.Trigger.{Trigger}
use Rattle.meaning.specs.Values.{Value}
use Rattle.meaning.specs.Triggers.{State}
use Rattle.meaning.specs.Runs.{IsBaseRun}
use Rattle.meaning.specs.Extract.{Exposure, exposed_facts, IsExposing, exposures_cost}
use Rattle.least_search.specs.declared.space.Move.{Move}
use Rattle.least_search.specs.Walks.{walk_cost}
use Rattle.exposure_search.specs.Ahead.{facts_along}

-- Exposures, and firings in the copy that has their facts.
pub record Trial : Type 0 where
  pub exposures : List Exposure
  pub copy : List Trigger

-- The exposures are possible in order from these base facts, and behind them the firings are due one after another, each as the first
-- active one.
pub record IsTrial (schema : SchemaParts) (constants : List Value) (base : State) (trial : Trial) : Type 0 where
  pub end : State
  pub exposing : IsExposing schema constants base.facts [] trial.exposures
  pub copies : IsBaseRun schema.rules (record { facts = exposed_facts trial.exposures; next = base.next }) trial.copy end

-- Some trial exposes the facts of the path, in order and at its cost, and makes so many firings.
pub record IsTrialAlong (schema : SchemaParts) (constants : List Value) (base : State) (path : List Move) (firings : ℕ) : Type 0 where
  pub trial : Trial
  pub is : IsTrial schema constants base trial
  pub along : exposed_facts trial.exposures ≡ facts_along base.facts path
  pub cost : exposures_cost trial.exposures ≡ walk_cost path
  pub many : firings ≡ length trial.copy

-- Trials take one unit for each set of exposures, and one for each firing.
abbrev pub units_of : List Trial → ℕ
units_of [] = 0
units_of (trial ∷ trials) = 1 + length trial.copy + units_of trials

-- Both trials expose the same facts.
abbrev pub ExposeAlike : Trial → Trial → Type 0
ExposeAlike first second =
    (fact : Ground) → Contains (exposed_facts first.exposures) fact ↔ Contains (exposed_facts second.exposures) fact

-- No two trials expose the same facts.
abbrev pub AreApart : List Trial → Type 0
AreApart [] = Unit {0}
AreApart (trial ∷ trials) = ((other : Trial) → Contains trials other → ExposeAlike trial other → ⊥) × AreApart trials

-- There is more to do than so many units allow: sets of exposures of which no two are the same, each at less than the bound, and the
-- firings that are due in their copies.
pub record HasMoreToDo (schema : SchemaParts) (constants : List Value) (base : State) (bound units : ℕ) : Type 0 where
  pub trials : List Trial
  pub are : (trial : Trial) → Contains trials trial → IsTrial schema constants base trial
  pub low : (trial : Trial) → Contains trials trial → exposures_cost trial.exposures < bound
  pub apart : AreApart trials
  pub more : units < units_of trials
