-- Rules that an instance does not meet, and the facts that show it
-- (Fagin, Kolaitis, Miller and Popa 2005, satisfaction of dependencies).
use Rattle.std.specs.Prelude.{◌≡◌, ◌≢◌, ℕ, ◌<◌, List, map, slice_get, Some}
use Rattle.std.specs.Ordering.{nat_cmp}
use Rattle.std.specs.Cmp.Lexicographic.{slice_cmp}
use Rattle.std.specs.declared.cmp.Ordering.{Ordering}
use Rattle.std.specs.declared.cmp.Ordering.TheVariants.{Greater}
use Rattle.meaning.specs.declared.types.Atom.{Atom}
use Rattle.meaning.specs.declared.types.Rule.{Rule}
use Rattle.meaning.specs.declared.types.Fact.{Fact}
use Rattle.meaning.specs.Values.{Value, Row}
use Rattle.meaning.specs.Matching.{value_of, AreFacts, Extends, MeetsRule, itself, FactsOf}
use Rattle.data_verify.specs.declared.broken.Broken.{Broken}

-- An assignment breaks a rule where it makes the body facts and no assignment that extends it makes the head facts.
pub record Breaks (instance : List Fact) (rule : Rule) (a : ℕ → Value) : Type 0 where
  pub body : AreFacts itself (FactsOf instance) a rule.body
  pub unmet : (b : ℕ → Value) → Extends itself (FactsOf instance) rule a b → ⊥

-- The row of an atom under an assignment has the values of its terms.
abbrev pub row_under : (ℕ → Value) → Atom → Row
row_under a atom = map (value_of itself a) atom.terms

-- The facts of atoms under an assignment, atom by atom.
abbrev pub facts_under : (ℕ → Value) → List Atom → List Fact
facts_under a atoms = map (λ atom. record { rel = atom.rel; row = row_under a atom }) atoms

-- Lists of rows are ordered row by row, rows column by column, and values by their bytes.
abbrev pub row_lists_cmp : List Row → List Row → Ordering
row_lists_cmp = slice_cmp (slice_cmp (slice_cmp nat_cmp))

-- Facts are the least that break a rule where they are the body's facts under an assignment that breaks it, and the
-- body's rows under no other such assignment are before theirs.
pub record AreLeastBreaking (instance : List Fact) (rule : Rule) (facts : List Fact) : Type 0 where
  pub come : (a : ℕ → Value) × Breaks instance rule a × (facts ≡ facts_under a rule.body)
  pub least : (a : ℕ → Value) → Breaks instance rule a →
      row_lists_cmp (map (λ fact. fact.row) facts) (map (row_under a) rule.body) ≢ Greater

-- A rule with facts is the first broken where it is the first rule that is not met, with the least facts that break it.
pub record IsFirstBroken (instance : List Fact) (rules : List Rule) (broken : Broken) : Type 0 where
  pub rule : Rule
  pub numbered : slice_get rules broken.rule ≡ Some rule
  pub before : (k : ℕ) (other : Rule) → k < broken.rule → slice_get rules k ≡ Some other →
      MeetsRule itself (FactsOf instance) other
  pub least : AreLeastBreaking instance rule broken.rows
