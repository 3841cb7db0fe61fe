-- A small schema with two relations, r and s, and the rule that each value of r is one of s.
use Rattle.std.specs.Prelude.{List, [], ◌∷◌, codes}
use Rattle.meaning.specs.declared.types.Atom.{Atom}
use Rattle.meaning.specs.declared.types.Rule.{Rule}
use Rattle.meaning.specs.declared.types.Method.{Method}
use Rattle.meaning.specs.declared.types.Relation.{Relation}
use Rattle.meaning.specs.declared.types.SchemaParts.{SchemaParts}
use Rattle.meaning.specs.declared.types.Query.{Query}
use Rattle.meaning.specs.declared.types.Select.{Select}
use Rattle.meaning.specs.declared.types.Statement.{Statement}
use Rattle.meaning.specs.declared.types.Ground.{Ground}
use Rattle.meaning.specs.declared.types.Trigger.{Trigger}
use Rattle.meaning.specs.declared.types.Firing.{Firing}
use Rattle.meaning.specs.declared.types.Sort.TheVariants.{Text}
use Rattle.meaning.specs.declared.types.Term.TheVariants.{Var}
use Rattle.meaning.specs.declared.types.Val.TheVariants.{Label}
use Rattle.meaning.specs.declared.types.Operand.TheVariants.{Column}
use Rattle.meaning.specs.declared.types.Firing.TheVariants.{Base, Copy, Expose}
use Rattle.meaning.specs.Triggers.{State}
use Rattle.meaning.specs.Runs.{Proof}

-- relation r(a)
abbrev pub r_relation : Relation
r_relation = record { name = codes "r"; columns = codes "a" ∷ []; sorts = Text ∷ [] }

-- relation s(a)
abbrev pub s_relation : Relation
s_relation = record { name = codes "s"; columns = codes "a" ∷ []; sorts = Text ∷ [] }

-- method all_s on s() cost 1
abbrev pub all_s : Method
all_s = record { name = codes "all_s"; rel = 1; inputs = []; cost = 1 }

-- method all_r on r() cost 2
abbrev pub all_r : Method
all_r = record { name = codes "all_r"; rel = 0; inputs = []; cost = 2 }

abbrev pub r_atom : Atom
r_atom = record { rel = 0; terms = Var 0 ∷ [] }

abbrev pub s_atom : Atom
s_atom = record { rel = 1; terms = Var 0 ∷ [] }

-- rule r(x) -> s(x)
abbrev pub r_to_s : Rule
r_to_s = record { line = 4; body = r_atom ∷ []; head = s_atom ∷ [] }

-- The schema in which s alone can be asked.
abbrev pub closed_schema : SchemaParts
closed_schema = record {
  relations = r_relation ∷ s_relation ∷ [];
  methods = all_s ∷ [];
  rules = r_to_s ∷ [];
  constants = [];
}

-- The schema in which both can be asked.
abbrev pub open_schema : SchemaParts
open_schema = record closed_schema { methods = all_s ∷ all_r ∷ [] }

-- SELECT DISTINCT a FROM r
abbrev pub all_of_r : Select
all_of_r = record { froms = 0 ∷ []; conditions = []; items = Column 0 0 ∷ []; names = codes "a" ∷ [] }

abbrev pub r_statement : Statement
r_statement = record { selects = all_of_r ∷ [] }

-- Its conjunctive form.
abbrev pub r_query : Query
r_query = record { atoms = r_atom ∷ []; head = Var 0 ∷ []; variables = 1 }

-- The fact r(#0), and the fact s(#0) that the rule adds.
abbrev pub r_fact : Ground
r_fact = record { rel = 0; vals = Label 0 ∷ [] }

abbrev pub s_fact : Ground
s_fact = record { rel = 1; vals = Label 0 ∷ [] }

abbrev pub r_trigger : Trigger
r_trigger = record { rule = 0; values = Label 0 ∷ []; fresh = 1 }

-- The only run of the closed schema: the rule fires, and s(#0) is exposed.
abbrev pub closed_log : List Firing
closed_log = Base r_trigger ∷ Expose 0 s_fact ∷ []

abbrev pub closed_end : Proof
closed_end = record { base = r_fact ∷ s_fact ∷ []; exposed = s_fact ∷ []; copy = s_fact ∷ []; next = 1 }

-- A run of the open schema that reaches the goal: the rule fires, and r(#0) is exposed.
abbrev pub open_log : List Firing
open_log = Base r_trigger ∷ Expose 1 r_fact ∷ []

abbrev pub open_end : Proof
open_end = record { base = r_fact ∷ s_fact ∷ []; exposed = r_fact ∷ []; copy = r_fact ∷ []; next = 1 }

-- The same run with a copy firing, while the exposure of s(#0) waits.
abbrev pub hasty_log : List Firing
hasty_log = Base r_trigger ∷ Expose 1 r_fact ∷ Copy r_trigger ∷ []

abbrev pub hasty_end : Proof
hasty_end = record { base = r_fact ∷ s_fact ∷ []; exposed = r_fact ∷ []; copy = r_fact ∷ s_fact ∷ []; next = 1 }

-- Two rules whose order is not that of their numbers: r(x), s(x) -> t(x) is rule 0, and r(x) -> s(x), which feeds it,
-- is rule 1.
abbrev pub t_atom : Atom
t_atom = record { rel = 2; terms = Var 0 ∷ [] }

abbrev pub s_to_t : Rule
s_to_t = record { line = 4; body = r_atom ∷ s_atom ∷ []; head = t_atom ∷ [] }

abbrev pub fed_first : List Rule
fed_first = s_to_t ∷ record r_to_s { line = 5 } ∷ []

-- Both rules have an active trigger on r(#0), r(#1) and s(#1).
abbrev pub r_one : Ground
r_one = record { rel = 0; vals = Label 1 ∷ [] }

abbrev pub s_one : Ground
s_one = record { rel = 1; vals = Label 1 ∷ [] }

abbrev pub both_active : State
both_active = record { facts = r_fact ∷ r_one ∷ s_one ∷ []; next = 2 }

abbrev pub t_trigger : Trigger
t_trigger = record { rule = 0; values = Label 1 ∷ []; fresh = 2 }

abbrev pub s_trigger : Trigger
s_trigger = record { rule = 1; values = Label 0 ∷ []; fresh = 2 }

-- The state after the rule r(x) -> s(x).
abbrev pub fed : State
fed = record { facts = r_fact ∷ r_one ∷ s_one ∷ s_fact ∷ []; next = 2 }
