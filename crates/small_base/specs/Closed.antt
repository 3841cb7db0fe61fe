-- A query with more atoms, over which no base firing is due.
use Rattle.std.specs.Prelude.{◌≡◌, List, map, Contains}
use Rattle.meaning.specs.declared.types.Atom.{Atom}
use Rattle.meaning.specs.declared.types.Ground.{Ground}
use Rattle.meaning.specs.declared.types.Query.{Query}
use Rattle.meaning.specs.declared.types.SchemaParts.{SchemaParts}
use Rattle.meaning.specs.declared.types.Term.{Term}
use Rattle.meaning.specs.declared.types.Term.TheVariants.{Var, Const as Said}
use Rattle.meaning.specs.declared.types.Val.{Val}
use Rattle.meaning.specs.declared.types.Val.TheVariants.{Const, Label}
use Rattle.meaning.specs.Values.{Value}
use Rattle.meaning.specs.Sorts.{AtomsAreSorted}
use Rattle.meaning.specs.Triggers.{State, IsQuiet}
use Rattle.meaning.specs.Runs.{opening_state}
use Rattle.meaning.specs.Fitting.{RulesHaveConstants, QueryHasConstants, QueryFits}
use Rattle.integer_laws.specs.Sorted.{AreSortedRules}

-- Label k as variable k, and a constant as itself.
abbrev pub term_of : Val → Term
term_of (Const c) = Said c
term_of (Label k) = Var k

-- A fact as an atom.
abbrev pub atom_of : Ground → Atom
atom_of fact = record { rel = fact.rel; terms = map term_of fact.vals }

-- The query whose atoms are the facts of a state, with the head of another.
abbrev pub query_of : Query → State → Query
query_of query state = record { atoms = map atom_of state.facts; head = query.head; variables = state.next }

-- A query has more atoms than another, with the same head.
pub record HasMore (query more : Query) : Type 0 where
  pub head : more.head ≡ query.head
  pub atoms : (atom : Atom) → Contains query.atoms atom → Contains more.atoms atom

-- A query closes another under a schema's rules where it has more atoms, it fits, has known constants and has sorted atoms where the
-- other does, and no trigger is active in its opening state.
pub record IsClosed (schema : SchemaParts) (query more : Query) : Type 0 where
  pub more_atoms : HasMore query more
  pub fits : QueryFits schema query → QueryFits schema more
  pub constants : (constants : List Value) → RulesHaveConstants constants schema.rules → QueryHasConstants constants query →
      QueryHasConstants constants more
  pub sorted : AreSortedRules schema → AtomsAreSorted schema query.atoms → AtomsAreSorted schema more.atoms
  pub quiet : IsQuiet schema.rules (opening_state more)
