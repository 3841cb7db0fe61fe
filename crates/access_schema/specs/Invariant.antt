-- What every schema keeps: numbers in range, arities and sorts that fit, distinct names, rules that are not recursive, and the limits.
use Rattle.std.specs.Prelude.{◌≡◌, ◌≢◌, ◌<◌, ◌≤◌, ◌+◌, ℕ, List, [], ◌++◌, Contains, IsTrue, length, map, take, flat_map, slice_get, Some}
use Rattle.meaning.specs.declared.types.Term.{Term}
use Rattle.meaning.specs.declared.types.Term.TheVariants.{Var, Const}
use Rattle.meaning.specs.declared.types.Atom.{Atom}
use Rattle.meaning.specs.declared.types.Rule.{Rule}
use Rattle.meaning.specs.declared.types.Method.{Method}
use Rattle.meaning.specs.declared.types.Relation.{Relation}
use Rattle.meaning.specs.declared.types.SchemaParts.{SchemaParts}
use Rattle.meaning.specs.Triggers.{terms_bound}
use Rattle.meaning.specs.Sorts.{RuleIsSorted}
use Rattle.access_schema.specs.declared.schema.SourceLine.{SourceLine}
use Rattle.access_schema.specs.declared.limits.TheConstants.{MOST_RELATIONS, MOST_METHODS, MOST_RULES, MOST_COLUMNS, MOST_BODY_ATOMS, MOST_HEAD_ATOMS, MOST_VARIABLES, MOST_COST, MOST_CONSTANTS}
use Rattle.access_schema.specs.Names.{relation_names, method_names, AllDiffer}
use Rattle.access_schema.specs.Lists.{is_among}
use Rattle.access_schema.specs.Feeding.{AreNonRecursive}

-- one or more columns, each with a name of its own
pub record AreColumns (columns : List (List ℕ)) : Type 0 where
  pub some : 1 ≤ length columns
  pub few : length columns ≤ MOST_COLUMNS
  pub differ : AllDiffer columns
  pub named : (column : List ℕ) → Contains columns column → column ≢ []

-- relations with names of their own, each with as many sorts as columns
pub record AreRelations (relations : List Relation) : Type 0 where
  pub few : length relations ≤ MOST_RELATIONS
  pub differ : AllDiffer (relation_names relations)
  pub named : (relation : Relation) → Contains relations relation → relation.name ≢ []
  pub columns : (relation : Relation) → Contains relations relation → AreColumns relation.columns
  pub sorts : (relation : Relation) → Contains relations relation → length relation.sorts ≡ length relation.columns

-- access methods with names of their own, each of a relation, with rising input columns of that relation
pub record AreMethods (relations : List Relation) (methods : List Method) : Type 0 where
  pub few : length methods ≤ MOST_METHODS
  pub differ : AllDiffer (method_names methods)
  pub named : (method : Method) → Contains methods method → method.name ≢ []
  pub placed : (method : Method) → Contains methods method → method.rel < length relations
  pub inputs : (method : Method) (relation : Relation) (p : ℕ) → Contains methods method → slice_get relations method.rel ≡ Some relation → Contains method.inputs p → p < length relation.columns
  pub rising : (method : Method) (i p q : ℕ) → Contains methods method → slice_get method.inputs i ≡ Some p → slice_get method.inputs (i + 1) ≡ Some q → p < q
  pub cost : (method : Method) → Contains methods method → method.cost ≤ MOST_COST

-- an atom of a relation, with a term for each of its columns
pub record AtomFits (relations : List Relation) (atom : Atom) : Type 0 where
  pub placed : atom.rel < length relations
  pub arity : (relation : Relation) → slice_get relations atom.rel ≡ Some relation → length atom.terms ≡ length relation.columns

-- the terms of the atoms, in order
abbrev pub terms_of : List Atom → List Term
terms_of atoms = flat_map (λ atom. atom.terms) atoms

-- each variable is one that occurs before, or the next number
abbrev pub AreInOrder : List Term → Type 0
AreInOrder terms = (i x : ℕ) → slice_get terms i ≡ Some (Var x) → x ≤ terms_bound (take i terms)

-- a rule over the relations, with its variables numbered by first occurrence and its constants among the schema's
pub record IsRule (relations : List Relation) (constants : List (List ℕ)) (rule : Rule) : Type 0 where
  pub body_some : 1 ≤ length rule.body
  pub body_few : length rule.body ≤ MOST_BODY_ATOMS
  pub head_some : 1 ≤ length rule.head
  pub head_few : length rule.head ≤ MOST_HEAD_ATOMS
  pub atoms : (atom : Atom) → Contains (rule.body ++ rule.head) atom → AtomFits relations atom
  pub in_order : AreInOrder (terms_of (rule.body ++ rule.head))
  pub variables : terms_bound (terms_of (rule.body ++ rule.head)) ≤ MOST_VARIABLES
  pub constants_are : (c : List ℕ) → Contains (terms_of (rule.body ++ rule.head)) (Const c) → IsTrue (is_among constants c)

-- rules over the relations, which are not recursive
pub record AreRules (relations : List Relation) (constants : List (List ℕ)) (rules : List Rule) : Type 0 where
  pub few : length rules ≤ MOST_RULES
  pub fit : (rule : Rule) → Contains rules rule → IsRule relations constants rule
  pub non_recursive : AreNonRecursive rules

-- at most one source line for each relation
pub record AreSources (relations : List Relation) (sources : List SourceLine) : Type 0 where
  pub differ : AllDiffer (map (λ source. source.rel) sources)
  pub placed : (source : SourceLine) → Contains sources source → source.rel < length relations
  pub named : (source : SourceLine) → Contains sources source → source.kind ≢ []

-- the lists make a schema
pub record IsSchema (relations : List Relation) (methods : List Method) (rules : List Rule) (constants : List (List ℕ)) (sources : List SourceLine) : Type 0 where
  pub relations_are : AreRelations relations
  pub methods_are : AreMethods relations methods
  pub rules_are : AreRules relations constants rules
  pub constants_few : length constants ≤ MOST_CONSTANTS
  pub constants_differ : AllDiffer constants
  pub sources_are : AreSources relations sources
  pub sorted : (rule : Rule) → Contains rules rule → ∥ RuleIsSorted (record { relations = relations; methods = methods; rules = rules; constants = constants }) rule ∥₁
