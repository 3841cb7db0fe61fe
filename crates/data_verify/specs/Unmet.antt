-- The least rows of unmet matches.
use Rattle.std.specs.Prelude.{◌≡◌, ◌≢◌, List, Contains, map, Option, Some, None}
use Rattle.std.specs.Ordering.{ord_min}
use Rattle.std.specs.declared.cmp.Ordering.TheVariants.{Greater}
use Rattle.meaning.specs.declared.types.Rule.{Rule}
use Rattle.meaning.specs.declared.types.Fact.{Fact}
use Rattle.meaning.specs.declared.types.Val.{Val}
use Rattle.meaning.specs.declared.types.Ground.{Ground}
use Rattle.meaning.specs.Values.{Row}
use Rattle.homomorphism.specs.declared.assignment.Assignment.{Assignment}
use Rattle.homomorphism.specs.Texts.{text_at}
use Rattle.homomorphism.specs.Rules.{IsMet, IsUnmet, IsUnmetMatch}
use Rattle.data_verify.specs.Breaking.{row_under, facts_under, row_lists_cmp}

-- The first of two lists of rows in their order.
abbrev pub lesser : Option (List Row) → List Row → List Row
lesser None rows = rows
lesser (Some first) rows = ord_min row_lists_cmp first rows

-- The rows are those of an unmet match among these, and the rows of no other such match are before them.
pub record AreLeastRows (facts : List Ground) (rule : Rule) (done : List Assignment) (rows : List Row) : Type 0 where
  pub come : (one : Assignment) × Contains done one × IsUnmet facts rule one.vals
      × (rows ≡ map (row_under (text_at one.vals)) rule.body)
  pub least : (one : Assignment) → Contains done one → IsUnmet facts rule one.vals →
      row_lists_cmp rows (map (row_under (text_at one.vals)) rule.body) ≢ Greater

-- The least rows of the unmet matches among these, and none where each is met.
abbrev pub AreLeastRowsIf : List Ground → Rule → List Assignment → Option (List Row) → Type 0
AreLeastRowsIf facts rule done None = (one : Assignment) → Contains done one → IsMet facts rule one.vals
AreLeastRowsIf facts rule done (Some rows) = AreLeastRows facts rule done rows

-- Facts are those of an unmet match, and the rows of no other unmet match are before theirs.
pub record AreLeastUnmet (facts : List Ground) (rule : Rule) (found : List Fact) : Type 0 where
  pub come : (values : List Val) × IsUnmetMatch facts rule values × (found ≡ facts_under (text_at values) rule.body)
  pub least : (values : List Val) → IsUnmetMatch facts rule values →
      row_lists_cmp (map (λ fact. fact.row) found) (map (row_under (text_at values)) rule.body) ≢ Greater
