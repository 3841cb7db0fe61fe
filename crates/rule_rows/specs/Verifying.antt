-- What testing the rules of a schema does on the lanes, and what it finds.
use Rattle.std.specs.Prelude.{◌≡◌, ◌↔◌, ℕ, List, [], ◌∷◌, Option, IfSome, IsNone, Result, Ok, Err}
use Rattle.meaning.specs.declared.types.Fact.{Fact}
use Rattle.meaning.specs.Matching.{Meets}
use Rattle.access_schema.specs.declared.schema.Schema.{Schema}
use Rattle.access_schema.specs.Meaning.{meaning_of}
use Rattle.source_trait.specs.Asking.{Seen}
use Rattle.source_trait.specs.Lanes.{LanesStay}
use Rattle.source_trait.specs.declared.lanes.Kind.{Kind}
use Rattle.source_trait.specs.declared.lanes.Lane.{Lane}
use Rattle.middleware.specs.Held.{HoldNeeded}
use Rattle.middleware.specs.Needs.{AreNeeded, AttachesNeeded}
use Rattle.middleware.specs.declared.fault.RunFault.{RunFault}
use Rattle.data_verify.specs.declared.broken.Broken.{Broken}
use Rattle.data_verify.specs.Breaking.{IsFirstBroken}
use Rattle.rule_rows.specs.RuleRelations.{RulesName}
use Rattle.rule_rows.specs.Asking.{AsksInOrder, AsksPart, AskBreaks, NumberBreaks}
use Rattle.rule_rows.specs.declared.fault.WholeFault.{WholeFault}
use Rattle.rule_rows.specs.declared.fault.WholeFault.TheVariants as whole
use Rattle.rule_rows.specs.declared.fault.VerifyFault.{VerifyFault}
use Rattle.rule_rows.specs.declared.fault.VerifyFault.TheVariants as fault

-- The kinds of the used lane, which is the first; there are none without a lane.
abbrev pub used : {S : Type 0} → List (Lane S) → List (Kind S)
used [] = []
used (lane ∷ rest) = lane.kinds.items

-- The lanes behind the used one.
abbrev pub others : {S : Type 0} → List (Lane S) → List (Lane S)
others [] = []
others (lane ∷ rest) = rest

-- Nothing is found exactly where the instance meets the rules, and otherwise the first rule that it breaks with the least facts.
pub record IsVerified (schema : Schema) (instance : List Fact) (found : Option Broken) : Type 0 where
  pub met : IsNone found ↔ Meets instance (meaning_of schema)
  pub broken : IfSome found (IsFirstBroken instance schema.rules)

module _ {S : Type 0} (seen : S → Seen) (schema : Schema) where
  -- These relations were asked for whole, in order, and nothing else changed. What is found holds of the facts that came, and of whatever
  -- instance the sources hold.
  pub record Finds (rels : List ℕ) (old new : List (Kind S)) (found : Option Broken) : Type 0 where
    pub facts : List Fact
    pub asked : AsksInOrder seen schema rels facts old new
    pub of_facts : IsVerified schema facts found
    pub of_held : (instance : List Fact) → HoldNeeded seen schema (RulesName schema) new instance → IsVerified schema instance found

  -- What testing the rules on the rows of these relations gave: some first ones were asked for whole, and memory was wanted; or the request
  -- for one failed; or one has a bad number; or all were asked.
  pub data Tests (rels : List ℕ) (old new : List (Kind S)) : Result (Option Broken) WholeFault → Type 0 where
    no_memory : AsksPart seen schema rels old new → Tests rels old new (Err whole.NoMemory)
    not_asked : (rel : ℕ) → AskBreaks seen schema rels rel old new → Tests rels old new (Err (whole.CallFailed rel))
    bad_number : (rel column : ℕ) → NumberBreaks seen schema rels rel column old new → Tests rels old new (Err (whole.BadNumber rel column))
    done : (found : Option Broken) → Finds rels old new found → Tests rels old new (Ok found)

  -- The rules were tested on the rows of the relations that the first lane needs, in ascending order; the lanes behind it stay.
  pub record TestsFirst (IsNeeded : ℕ → ℕ → Type 0) (old new : List (Lane S)) (result : Result (Option Broken) WholeFault) : Type 0 where
    pub rels : List ℕ
    pub are : AreNeeded IsNeeded 0 rels
    pub tests : Tests rels (used old) (used new) result
    pub behind : others new ≡ others old
    pub stay : LanesStay seen old new

  -- What verifying gave: it stopped at the attaches of the relations that the lanes need; or these were attached, and the rules were tested
  -- on the first lane.
  pub data Verifies (IsNeeded : ℕ → ℕ → Type 0) (old new : List (Lane S)) : Result (Option Broken) VerifyFault → Type 0 where
    not_attached : (why : RunFault) → AttachesNeeded seen schema IsNeeded old new (Err why) → Verifies IsNeeded old new (Err (fault.NotAttached why))
    not_asked : (middle : List (Lane S)) (why : WholeFault) → AttachesNeeded seen schema IsNeeded old middle (Ok tt)
        → TestsFirst IsNeeded middle new (Err why) → Verifies IsNeeded old new (Err (fault.NotAsked why))
    tested : (middle : List (Lane S)) (found : Option Broken) → AttachesNeeded seen schema IsNeeded old middle (Ok tt)
        → TestsFirst IsNeeded middle new (Ok found) → Verifies IsNeeded old new (Ok found)
