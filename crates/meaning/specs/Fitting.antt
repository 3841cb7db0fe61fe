-- What a run needs of the schema and of the query, and what it keeps.
use Rattle.std.specs.Prelude.{ℕ, ◌≤◌, List, Contains}
use Rattle.meaning.specs.declared.types.Atom.{Atom}
use Rattle.meaning.specs.declared.types.Rule.{Rule}
use Rattle.meaning.specs.declared.types.SchemaParts.{SchemaParts}
use Rattle.meaning.specs.declared.types.Query.{Query}
use Rattle.meaning.specs.declared.types.Val.{Val}
use Rattle.meaning.specs.declared.types.Ground.{Ground}
use Rattle.meaning.specs.declared.types.Term.TheVariants.{Var, Const as Said}
use Rattle.meaning.specs.declared.types.Val.TheVariants.{Const}
use Rattle.meaning.specs.Values.{Value}
use Rattle.meaning.specs.Instances.{FitsRelation}
use Rattle.meaning.specs.Matching.{OccursIn, IsQueryAnswer, GroundsOf}
use Rattle.meaning.specs.Triggers.{bound, AreNumbered}
use Rattle.meaning.specs.Runs.{Proof, frozen_head}
use Rattle.meaning.specs.Naming.{IsNamed, AreNamed}

-- The list has each constant of the atoms.
abbrev pub HaveConstants : List Value → List Atom → Type 0
HaveConstants constants atoms =
    (atom : Atom) (c : Value) → Contains atoms atom → Contains atom.terms (Said c) → Contains constants c

-- The list has each constant of the rules.
abbrev pub RulesHaveConstants : List Value → List Rule → Type 0
RulesHaveConstants constants rules =
    (rule : Rule) → Contains rules rule → HaveConstants constants rule.body × HaveConstants constants rule.head

-- The list has each constant of the query.
pub record QueryHasConstants (constants : List Value) (query : Query) : Type 0 where
  pub atoms : HaveConstants constants query.atoms
  pub head : (c : Value) → Contains query.head (Said c) → Contains constants c

-- Labelled facts fit a schema where each has values that fit its relation.
abbrev pub Fit : SchemaParts → List Ground → Type 0
Fit schema facts = (fact : Ground) → Contains facts fact → FitsRelation schema fact.rel fact.vals

-- Rules fit where they are numbered, the list has their constants, and their heads have the relations' arities.
pub record RulesFit (schema : SchemaParts) (constants : List Value) : Type 0 where
  pub numbered : AreNumbered schema.rules
  pub have : RulesHaveConstants constants schema.rules
  pub heads : (rule : Rule) (atom : Atom) → Contains schema.rules rule → Contains rule.head atom →
      FitsRelation schema atom.rel atom.terms

-- A query fits where its atoms have the relations' arities, its variables are counted, and those of the head occur.
pub record QueryFits (schema : SchemaParts) (query : Query) : Type 0 where
  pub arity : (atom : Atom) → Contains query.atoms atom → FitsRelation schema atom.rel atom.terms
  pub variables : bound query.atoms ≤ query.variables
  pub head : (x : ℕ) → Contains query.head (Var x) → OccursIn query.atoms x

-- What every run from the opening proof of a query keeps.
pub record IsKept (schema : SchemaParts) (constants : List Value) (query : Query) (proof : Proof) : Type 0 where
  pub base_fits : Fit schema proof.base
  pub copy_fits : Fit schema proof.copy
  pub base_named : AreNamed constants proof.next proof.base
  pub copy_named : AreNamed constants proof.next proof.copy
  pub head_named : (v : Val) → Contains (frozen_head query) v → IsNamed constants proof.next v
  pub exposed_base : (fact : Ground) → Contains proof.exposed fact → Contains proof.base fact
  pub exposed_copy : (fact : Ground) → Contains proof.exposed fact → Contains proof.copy fact
  pub answered : IsQueryAnswer Const (GroundsOf proof.base) query (frozen_head query)
