-- The worked example: profiles of employees, which can be asked by an employee's number alone, and a directory.
use Rattle.std.specs.Prelude.{List, [], ◌∷◌, codes}
use Rattle.meaning.specs.declared.types.Rule.{Rule}
use Rattle.meaning.specs.declared.types.Method.{Method}
use Rattle.meaning.specs.declared.types.Relation.{Relation}
use Rattle.meaning.specs.declared.types.SchemaParts.{SchemaParts}
use Rattle.meaning.specs.declared.types.Query.{Query}
use Rattle.meaning.specs.declared.types.Select.{Select}
use Rattle.meaning.specs.declared.types.Statement.{Statement}
use Rattle.meaning.specs.declared.types.Fact.{Fact}
use Rattle.meaning.specs.declared.types.Step.{Step}
use Rattle.meaning.specs.declared.types.Branch.{Branch}
use Rattle.meaning.specs.declared.types.Plan.{Plan}
use Rattle.meaning.specs.declared.types.Request.{Request}
use Rattle.meaning.specs.declared.types.Ground.{Ground}
use Rattle.meaning.specs.declared.types.Trigger.{Trigger}
use Rattle.meaning.specs.declared.types.Firing.{Firing}
use Rattle.meaning.specs.declared.types.Sort.TheVariants.{Text}
use Rattle.meaning.specs.declared.types.Term.TheVariants.{Var, Const as Said}
use Rattle.meaning.specs.declared.types.Val.TheVariants.{Label, Const as Known}
use Rattle.meaning.specs.declared.types.Operand.TheVariants.{Column, Literal}
use Rattle.meaning.specs.declared.types.Place.TheVariants.{Const, Col, New}
use Rattle.meaning.specs.declared.types.Out.TheVariants.{Col as Made}
use Rattle.meaning.specs.declared.types.Firing.TheVariants.{Base, Expose}
use Rattle.meaning.specs.Values.{Value, Row}
use Rattle.meaning.specs.Runs.{Proof}

-- relation profinfo(eid, onum, lname)
abbrev pub profinfo : Relation
profinfo = record { name = codes "profinfo"; columns = codes "eid" ∷ codes "onum" ∷ codes "lname" ∷ []; sorts = Text ∷ Text ∷ Text ∷ [] }

-- relation udirect(eid, lname)
abbrev pub udirect : Relation
udirect = record { name = codes "udirect"; columns = codes "eid" ∷ codes "lname" ∷ []; sorts = Text ∷ Text ∷ [] }

-- method prof_by_eid on profinfo(eid) cost 2
abbrev pub prof_by_eid : Method
prof_by_eid = record { name = codes "prof_by_eid"; rel = 0; inputs = 0 ∷ []; cost = 2 }

-- method all_direct on udirect() cost 5
abbrev pub all_direct : Method
all_direct = record { name = codes "all_direct"; rel = 1; inputs = []; cost = 5 }

-- rule profinfo(e, o, l) -> udirect(e, l)
abbrev pub in_directory : Rule
in_directory = record {
  line = 5;
  body = record { rel = 0; terms = Var 0 ∷ Var 1 ∷ Var 2 ∷ [] } ∷ [];
  head = record { rel = 1; terms = Var 0 ∷ Var 2 ∷ [] } ∷ [];
}

-- The schema, and the schema without its rule.
abbrev pub staff : SchemaParts
staff = record {
  relations = profinfo ∷ udirect ∷ [];
  methods = prof_by_eid ∷ all_direct ∷ [];
  rules = in_directory ∷ [];
  constants = [];
}

abbrev pub ruleless : SchemaParts
ruleless = record staff { rules = [] }

abbrev pub smith : Value
smith = codes "smith"

abbrev pub jones : Value
jones = codes "jones"

-- SELECT DISTINCT eid, onum FROM profinfo WHERE lname = 'smith'
abbrev pub smiths : Select
smiths = record {
  froms = 0 ∷ [];
  conditions = record { left = Column 0 2; right = Literal smith } ∷ [];
  items = Column 0 0 ∷ Column 0 1 ∷ [];
  names = codes "eid" ∷ codes "onum" ∷ [];
}

abbrev pub smiths_statement : Statement
smiths_statement = record { selects = smiths ∷ [] }

-- Its conjunctive form, and the constants that are known.
abbrev pub smiths_query : Query
smiths_query = record {
  atoms = record { rel = 0; terms = Var 0 ∷ Var 1 ∷ Said smith ∷ [] } ∷ [];
  head = Var 0 ∷ Var 1 ∷ [];
  variables = 2;
}

abbrev pub known : List Value
known = smith ∷ []

abbrev pub profile : Value → Value → Value → Fact
profile eid onum lname = record { rel = 0; row = eid ∷ onum ∷ lname ∷ [] }

abbrev pub entry : Value → Value → Fact
entry eid lname = record { rel = 1; row = eid ∷ lname ∷ [] }

-- The instance of the example.
abbrev pub office : List Fact
office =
    profile (codes "1") (codes "101") smith ∷ profile (codes "3") (codes "103") smith
    ∷ entry (codes "1") smith ∷ entry (codes "2") jones ∷ entry (codes "3") smith ∷ []

-- The same with a profile that is not in the directory.
abbrev pub unlisted : List Fact
unlisted = profile (codes "4") (codes "104") smith ∷ office

-- access all_direct(new, 'smith'), access prof_by_eid($0, new, 'smith'), output $0, $1
abbrev pub ask_directory : Step
ask_directory = record { method = codes "all_direct"; places = New ∷ Const smith ∷ [] }

abbrev pub ask_profile : Step
ask_profile = record { method = codes "prof_by_eid"; places = Col 0 ∷ New ∷ Const smith ∷ [] }

abbrev pub smiths_branch : Branch
smiths_branch = record { steps = ask_directory ∷ ask_profile ∷ []; output = Made 0 ∷ Made 1 ∷ [] }

abbrev pub smiths_plan : Plan
smiths_plan = record { width = 2; branches = smiths_branch ∷ [] }

-- A plan that asks for profiles without knowing a number.
abbrev pub guessing_plan : Plan
guessing_plan = record {
  width = 2;
  branches = record {
    steps = record { method = codes "prof_by_eid"; places = New ∷ New ∷ Const smith ∷ [] } ∷ [];
    output = Made 0 ∷ Made 1 ∷ [];
  } ∷ [];
}

-- A plan that compares no name: access all_direct(new, new), access prof_by_eid($0, new, new), output $0, $2
abbrev pub careless_plan : Plan
careless_plan = record {
  width = 2;
  branches = record {
    steps = record { method = codes "all_direct"; places = New ∷ New ∷ [] }
        ∷ record { method = codes "prof_by_eid"; places = Col 0 ∷ New ∷ New ∷ [] } ∷ [];
    output = Made 0 ∷ Made 2 ∷ [];
  } ∷ [];
}

-- An instance on which that plan has a row too many.
abbrev pub adding : List Fact
adding =
    profile (codes "_1") (codes "_3") (codes "_4") ∷ entry (codes "_1") (codes "_2")
    ∷ entry (codes "_1") (codes "_4") ∷ []

-- The request for the profile with a number.
abbrev pub profile_request : Value → Request
profile_request eid = record { rel = 0; positions = 0 ∷ []; values = eid ∷ [] }

-- The request for the whole directory.
abbrev pub directory_request : Request
directory_request = record { rel = 1; positions = []; values = [] }

-- The requests of the plan on the instance.
abbrev pub smiths_requests : List Request
smiths_requests = directory_request ∷ profile_request (codes "1") ∷ profile_request (codes "3") ∷ []

-- The requests of a crawl of the instance, round by round: the directory, the profiles of all that it gives, and those
-- of what these give.
abbrev pub office_rounds : List (List Request)
office_rounds =
    (directory_request ∷ [])
    ∷ (profile_request (codes "1") ∷ profile_request (codes "2") ∷ profile_request (codes "3")
    ∷ profile_request jones ∷ profile_request smith ∷ [])
    ∷ (profile_request (codes "101") ∷ profile_request (codes "103") ∷ []) ∷ []

-- The same in one list.
abbrev pub office_requests : List Request
office_requests =
    directory_request ∷ profile_request (codes "1") ∷ profile_request (codes "2") ∷ profile_request (codes "3")
    ∷ profile_request jones ∷ profile_request smith ∷ profile_request (codes "101") ∷ profile_request (codes "103") ∷ []

-- The run that finds the plan: the rule fires, and the directory and then the profile are exposed.
abbrev pub smith_profile : Ground
smith_profile = record { rel = 0; vals = Label 0 ∷ Label 1 ∷ Known smith ∷ [] }

abbrev pub smith_entry : Ground
smith_entry = record { rel = 1; vals = Label 0 ∷ Known smith ∷ [] }

abbrev pub smiths_trigger : Trigger
smiths_trigger = record { rule = 0; values = Label 0 ∷ Label 1 ∷ Known smith ∷ []; fresh = 2 }

abbrev pub smiths_log : List Firing
smiths_log = Base smiths_trigger ∷ Expose 1 smith_entry ∷ Expose 0 smith_profile ∷ []

abbrev pub smiths_end : Proof
smiths_end = record {
  base = smith_profile ∷ smith_entry ∷ [];
  exposed = smith_entry ∷ smith_profile ∷ [];
  copy = smith_entry ∷ smith_profile ∷ [];
  next = 2;
}

-- The pair that refutes the query where there is no rule.
abbrev pub unreachable : List Fact
unreachable = profile (codes "_1") (codes "_2") smith ∷ []

abbrev pub unreachable_answer : Row
unreachable_answer = codes "_1" ∷ codes "_2" ∷ []
