-- What is looked for in the space of a proof, and what is kept for that.
use Rattle.std.specs.Prelude.{ℕ, List, Bool, Contains}
use Rattle.meaning.specs.declared.types.Ground.{Ground}
use Rattle.meaning.specs.declared.types.Query.{Query}
use Rattle.meaning.specs.declared.types.SchemaParts.{SchemaParts}
use Rattle.meaning.specs.declared.types.Val.{Val}
use Rattle.meaning.specs.Values.{Value}
use Rattle.meaning.specs.Naming.{IsNamed, AreNamed}
use Rattle.meaning.specs.Fitting.{Fit, RulesFit, QueryHasConstants}
use Rattle.access_schema.specs.Meaning.{meaning_of}
use Rattle.accessible_copy.specs.Proving.{Proving}
use Rattle.least_search.specs.declared.space.Move.{Move}
use Rattle.least_search.specs.Walks.{IsWalk, no_facts}
use Rattle.exposure_search.specs.declared.aiming.Aim.{Aim}
use Rattle.exposure_search.specs.Tries.{IsOpen}
use Rattle.exposure_search.specs.Making.{IsReady}
use Rattle.exposure_search.specs.Ahead.{AreTheMarked}
use Rattle.exposure_search.specs.Candidates.{AreCandidates, IsCandidateIndex}
use Rattle.exposure_search.specs.Exploring.{Exploring, exploring_of, space_size}

-- The space of the proof.
abbrev pub space_of : Aim → Proving → Exploring
space_of aim proof = exploring_of (meaning_of aim.schema.now) proof aim.queries.now aim.head.now aim.budget aim.marks

-- The rules fit and, as the queries, have known constants, the values of the base facts and of the head are known constants or labels
-- below the next one, and the base facts have the relations' arities.
pub record AreNamedFor (schema : SchemaParts) (constants : List Value) (base : List Ground) (next : ℕ) (queries : List Query)
    (head : List Val) : Type 0 where
  pub rules : RulesFit schema constants
  pub asked : (query : Query) → Contains queries query → QueryHasConstants constants query
  pub facts : AreNamed constants next base
  pub fits : Fit schema base
  pub values : (v : Val) → Contains head v → IsNamed constants next v

-- The proof can be visited, and what is kept is right for it: the numbers are those of the marked rules, and the candidates expose the
-- relevant base facts and are listed by fact. The values of these facts have names, and as many as their relations have columns.
pub record IsAimed (aim : Aim) (proof : Proving) : Type 0 where
  pub ready : IsReady (meaning_of aim.schema.now) proof aim.facts.items aim.methods aim.bases aim.queries.now aim.head.now aim.budget
      aim.marks
  pub makers : AreTheMarked aim.marks.makers.items aim.makers.items
  pub candidates : AreCandidates aim.schema.now.methods proof.constants aim.facts.items aim.marks aim.candidates.items
  pub named : AreNamedFor (meaning_of aim.schema.now) proof.constants proof.end.base proof.end.next aim.queries.now aim.head.now
  pub index : IsCandidateIndex aim.candidates.items aim.index

-- The path leads from the empty set to this one, by moves that are possible.
abbrev pub LeadsTo : Exploring → List Move → List Bool → Type 0
LeadsTo space path set = IsWalk (IsOpen space.schema space.constants space.base.facts) (no_facts (space_size space)) path set
