-- The first atom of a broken rule, settled, and the least facts of the rule that remains.
use Rattle.std.specs.Prelude.{◌≡◌, ◌+◌, ◌++◌, ℕ, true, List, ◌∷◌, map, drop, Contains, length, Option, Some, None}
use Rattle.std.specs.BTreeSet.{BTreeSet, contains}
use Rattle.std.specs.declared.cmp.Ordering.TheVariants.{Less}
use Rattle.meaning.specs.declared.types.Atom.{Atom}
use Rattle.meaning.specs.declared.types.Rule.{Rule}
use Rattle.meaning.specs.declared.types.Fact.{Fact}
use Rattle.meaning.specs.declared.types.Val.{Val}
use Rattle.meaning.specs.declared.types.Val.TheVariants.{Const}
use Rattle.meaning.specs.declared.types.Ground.{Ground}
use Rattle.meaning.specs.Values.{Value, Row}
use Rattle.meaning.specs.Matching.{MeetsRule, GroundsOf}
use Rattle.meaning.specs.Triggers.{IsNumbered}
use Rattle.homomorphism.specs.declared.assignment.Assignment.{Assignment}
use Rattle.homomorphism.specs.Instances.{AreFactsOf}
use Rattle.homomorphism.specs.Texts.{text_at}
use Rattle.data_verify.specs.declared.settling.Settled.{Settled}
use Rattle.data_verify.specs.Breaking.{row_under, row_lists_cmp, AreLeastBreaking}
use Rattle.data_verify.specs.Keys.{row_cmp}
use Rattle.data_verify.specs.Remaining.{remaining_rule}

-- The facts are the least that break the rule in each instance whose facts these are.
abbrev pub AreLeastIn : List Ground → Rule → List Fact → Type 0
AreLeastIn facts rule found = (instance : List Fact) → AreFactsOf instance facts → AreLeastBreaking instance rule found

-- What remains of a rule is not met, and its least facts come behind the first atom's in the least facts of the rule.
pub record IsSettled (facts : List Ground) (rule : Rule) (settled : Settled) : Type 0 where
  pub shorter : length rule.body ≡ length settled.rest.body + 1
  pub numbered : IsNumbered settled.rest
  pub unmet : MeetsRule Const (GroundsOf facts) settled.rest → ⊥
  pub least : (found : List Fact) → AreLeastIn facts settled.rest found → AreLeastIn facts rule (settled.fact ∷ found)

-- What remains of a rule under the values of a match of its first atom.
abbrev pub rest_under : Rule → List Val → Rule
rest_under rule values = remaining_rule (length values) (text_at values) rule

-- The rows of the atoms behind the first and of the head.
abbrev pub rows_behind : Rule → (ℕ → Value) → List Row
rows_behind rule a = map (row_under a) (drop 1 rule.body) ++ map (row_under a) rule.head

-- What remains of the rule is met under all values of a width whose rows the set has.
abbrev pub AreMet : List Ground → Rule → ℕ → BTreeSet (List Row) → Type 0
AreMet facts rule width met = (values : List Val) → length values ≡ width →
    contains row_lists_cmp met (rows_behind rule (text_at values)) ≡ true → MeetsRule Const (GroundsOf facts) (rest_under rule values)

-- A row is below that of the least so far, if there is one.
abbrev pub IsBelow : Row → Option Settled → Type 0
IsBelow row None = Unit {0}
IsBelow row (Some least) = row_cmp row least.fact.row ≡ Less

-- What remains of the rule under values, where it is not met.
pub record IsUnmetRest (facts : List Ground) (rule : Rule) (values : List Val) (rest : Rule) : Type 0 where
  pub is : rest ≡ rest_under rule values
  pub unmet : MeetsRule Const (GroundsOf facts) rest → ⊥

-- The first atom is settled by values where its fact and what remains are those under the values, and that is not met.
pub record IsSettledBy (facts : List Ground) (rule : Rule) (first : Atom) (values : List Val) (settled : Settled) : Type 0 where
  pub fact : settled.fact ≡ record { rel = first.rel; row = row_under (text_at values) first }
  pub rest : IsUnmetRest facts rule values settled.rest

-- The first atom is settled by values, with a row below the least so far; none comes only where that cannot be.
abbrev pub IsLower : List Ground → Rule → Atom → List Val → Option Settled → Option Settled → Type 0
IsLower facts rule first values least None =
    IsBelow (row_under (text_at values) first) least → MeetsRule Const (GroundsOf facts) (rest_under rule values)
IsLower facts rule first values least (Some settled) =
    IsBelow (row_under (text_at values) first) least × IsSettledBy facts rule first values settled

-- The first atom is settled by one of the matches, and what remains is met under each whose row is below.
pub record IsLeastOf (facts : List Ground) (rule : Rule) (first : Atom) (matches : List Assignment) (settled : Settled) : Type 0 where
  pub come : (one : Assignment) × Contains matches one × IsSettledBy facts rule first one.vals settled
  pub lowest : (one : Assignment) → Contains matches one →
      row_cmp (row_under (text_at one.vals) first) settled.fact.row ≡ Less → MeetsRule Const (GroundsOf facts) (rest_under rule one.vals)

-- The least of the matches by which the first atom is settled, and none where what remains is met under each.
abbrev pub IsLeast : List Ground → Rule → Atom → List Assignment → Option Settled → Type 0
IsLeast facts rule first matches None =
    (one : Assignment) → Contains matches one → MeetsRule Const (GroundsOf facts) (rest_under rule one.vals)
IsLeast facts rule first matches (Some settled) = IsLeastOf facts rule first matches settled
