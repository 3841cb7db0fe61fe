-- The worked example: items with a number and a word.
use Rattle.std.specs.Prelude.{[], ◌∷◌, codes}
use Rattle.meaning.specs.declared.types.Fact.{Fact}
use Rattle.meaning.specs.declared.types.Ground.{Ground}
use Rattle.meaning.specs.declared.types.Relation.{Relation}
use Rattle.meaning.specs.declared.types.Rule.{Rule}
use Rattle.meaning.specs.declared.types.SchemaParts.{SchemaParts}
use Rattle.meaning.specs.declared.types.Val.{Val}
use Rattle.meaning.specs.declared.types.Sort.TheVariants.{Int, Text}
use Rattle.meaning.specs.declared.types.Term.TheVariants.{Var}
use Rattle.meaning.specs.Values.{Value}

-- relation item(number int, word)
abbrev pub item_relation : Relation
item_relation = record { name = codes "item"; columns = codes "number" ∷ codes "word" ∷ []; sorts = Int ∷ Text ∷ [] }

abbrev pub items : SchemaParts
items = record { relations = item_relation ∷ []; methods = []; rules = []; constants = [] }

-- rule item(x, y) -> item(y, x)
abbrev pub swap : Rule
swap = record {
  line = 2;
  body = record { rel = 0; terms = Var 0 ∷ Var 1 ∷ [] } ∷ [];
  head = record { rel = 0; terms = Var 1 ∷ Var 0 ∷ [] } ∷ [];
}

abbrev pub item : Value → Value → Fact
item number word = record { rel = 0; row = number ∷ word ∷ [] }

abbrev pub labelled_item : Val → Val → Ground
labelled_item number word = record { rel = 0; vals = number ∷ word ∷ [] }
