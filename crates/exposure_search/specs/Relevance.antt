-- On which relations and base facts a match can rest, as marks.
use Rattle.std.specs.Prelude.{◌≡◌, ◌⊎◌, ◌≤◌, ℕ, List, Contains, Bool, Option, slice_get, length, map, Some}
use Rattle.meaning.specs.declared.types.SchemaParts.{SchemaParts}
use Rattle.meaning.specs.declared.types.Atom.{Atom}
use Rattle.meaning.specs.declared.types.Ground.{Ground}
use Rattle.meaning.specs.declared.types.Method.{Method}
use Rattle.meaning.specs.declared.types.Query.{Query}
use Rattle.meaning.specs.declared.types.Rule.{Rule}
use Rattle.meaning.specs.declared.types.Term.{Term}
use Rattle.meaning.specs.declared.types.Trigger.{Trigger}
use Rattle.meaning.specs.declared.types.Val.{Val}
use Rattle.meaning.specs.declared.types.Val.TheVariants.{Const}
use Rattle.meaning.specs.Values.{Value}
use Rattle.meaning.specs.Matching.{value_of}
use Rattle.meaning.specs.Triggers.{bound, ground, assigned}
use Rattle.meaning_laws.specs.Trims.{Asks, IsImage, AreClosed}
use Rattle.homomorphism.specs.Bindings.{Agrees}
use Rattle.accessible_copy.specs.declared.holders.Holders.{Holders}
use Rattle.accessible_copy.specs.OpenFacts.{held_by}
use Rattle.exposure_search.specs.declared.marks.Marks.{Marks}
use Rattle.exposure_search.specs.declared.relevance.Marking.{Marking}
use Rattle.exposure_search.specs.Tries.{picked, IsMarked}

-- A match of the query with this head makes the fact of one of the query's atoms.
abbrev pub IsImageOf : Query → List Val → Ground → Type 0
IsImageOf query head fact = (atom : Atom) × Contains query.atoms atom × IsImage query head atom fact

-- The same of one of the queries.
abbrev pub IsImageAmong : List Query → List Val → Ground → Type 0
IsImageAmong queries head fact = (query : Query) × Contains queries query × IsImageOf query head fact

-- The fact is one that a match makes of an atom, or its relation is marked.
abbrev pub IsWanted : List Query → List Val → List Bool → Ground → Type 0
IsWanted queries head wanted fact = IsImageAmong queries head fact ⊎ IsMarked wanted fact.rel

-- An assignment that agrees with what is given makes one of the atoms the fact.
pub record IsMade (given : List (Option Val)) (atoms : List Atom) (fact : Ground) : Type 0 where
  pub atom : Atom
  pub assignment : ℕ → Val
  pub of_atoms : Contains atoms atom
  pub agrees : Agrees given assignment
  pub makes : ground assignment atom ≡ fact

-- What a match with this head makes of the query's atoms is made with these given values.
pub record AreGiven (query : Query) (head : List Val) (given : List (Option Val)) : Type 0 where
  pub covers : bound query.atoms ≤ length given
  pub images : (fact : Ground) → IsImageOf query head fact → IsMade given query.atoms fact

-- A trigger of the rule with labels from `next` on makes the fact.
pub record Makes (next : ℕ) (rule : Rule) (fact : Ground) : Type 0 where
  pub trigger : Trigger
  pub head : Atom
  pub width : length trigger.values ≡ bound rule.body
  pub fresh : next ≤ trigger.fresh
  pub of_rule : Contains rule.head head
  pub makes : ground (assigned trigger) head ≡ fact

-- Each rule that can make a fact of a kind is marked.
abbrev pub MakersMarked : List Rule → ℕ → (Ground → Type 0) → List Bool → Type 0
MakersMarked rules next Kind makers =
    (number : ℕ) (rule : Rule) (fact : Ground) → slice_get rules number ≡ Some rule → Makes next rule fact → Kind fact → IsMarked makers number

-- With marks of some relations the relevant base facts are closed, so that matches rest on no others; those on which a match can rest
-- directly or by rules are marked as needed, and so are the rules that can make such a fact.
pub record AreRelevant (schema : SchemaParts) (constants : List Value) (base : List Ground) (next : ℕ) (queries : List Query)
    (head : List Val) (marks : Marks) : Type 0 where
  pub wanted : List Bool
  pub closed : AreClosed schema constants base next queries head (IsWanted queries head wanted)
      (Contains (picked base marks.relevant.items))
  pub needed : (fact : Ground) → Contains base fact → IsWanted queries head wanted fact →
      Contains (picked base marks.needed.items) fact
  pub makers : MakersMarked schema.rules next (IsWanted queries head wanted) marks.makers.items

-- A term of a rule's head has at no trigger, with so many values and labels from `next` on, the value of the other term.
abbrev pub NeverMeet : List (Option Val) → ℕ → ℕ → Term → Term → Type 0
NeverMeet given next width made asked =
    (trigger : Trigger) (a : ℕ → Val) → length trigger.values ≡ width → next ≤ trigger.fresh → Agrees given a →
    value_of Const (assigned trigger) made ≡ value_of Const a asked → ⊥

-- The same of the terms of two atoms.
abbrev pub NeverMatch : List (Option Val) → ℕ → ℕ → List Term → List Term → Type 0
NeverMatch given next width made asked =
    (trigger : Trigger) (a : ℕ → Val) → length trigger.values ≡ width → next ≤ trigger.fresh → Agrees given a →
    map (value_of Const (assigned trigger)) made ≡ map (value_of Const a) asked → ⊥

-- What is marked stays marked.
abbrev pub Keeps : List Bool → List Bool → Type 0
Keeps old new = (number : ℕ) → IsMarked old number → IsMarked new number

-- The relation of each atom is marked.
abbrev pub AllMarked : List Bool → List Atom → Type 0
AllMarked marks atoms = (atom : Atom) → Contains atoms atom → IsMarked marks atom.rel

-- Where a trigger of one of the rules makes a fact of a kind, the relations of the rule's body are marked.
abbrev pub BodiesMarked : List Rule → ℕ → (Ground → Type 0) → List Bool → Type 0
BodiesMarked rules next Kind marks =
    (rule : Rule) → Contains rules rule → (fact : Ground) → Makes next rule fact → Kind fact → AllMarked marks rule.body

-- Where a fact of a marked relation has one of the rules' heads, the relations of the rule's body are marked.
abbrev pub AreFed : List Rule → List Bool → Type 0
AreFed rules marks =
    (rule : Rule) (head body : Atom) → Contains rules rule → Contains rule.head head → Contains rule.body body →
    IsMarked marks head.rel → IsMarked marks body.rel

-- Each fact of a wanted relation is marked.
abbrev pub WantedMarked : List Bool → List Ground → List Bool → Type 0
WantedMarked wanted facts marks =
    (number : ℕ) (fact : Ground) → slice_get facts number ≡ Some fact → IsMarked wanted fact.rel → IsMarked marks number

-- The fact with that number holds a value at one of the places that is not among the known ones.
abbrev pub HoldsInput : Holders → List Val → List Val → List ℕ → ℕ → Type 0
HoldsInput holders known vals places number =
    (place : ℕ) × (v : Val) × Contains places place × (slice_get vals place ≡ Some v) × (Contains known v → ⊥)
    × Contains (held_by holders v) number

-- The fact with that number holds a value that the other has at an input of one of the methods with these numbers, and that is
-- not among the known ones.
abbrev pub IsAskedBy : List Method → Holders → List Val → List Val → List ℕ → ℕ → Type 0
IsAskedBy methods holders known vals numbers number =
    (of : ℕ) × (method : Method) × Contains numbers of × (slice_get methods of ≡ Some method)
    × HoldsInput holders known vals method.inputs number

-- What is marked and what waits stay, and what is newly marked waits.
pub record Grows (old new : Marking) : Type 0 where
  pub long : length new.marks.items ≡ length old.marks.items
  pub stays : Keeps old.marks.items new.marks.items
  pub waits : (number : ℕ) → Contains old.waiting.items number → Contains new.waiting.items number
  pub news : (number : ℕ) → IsMarked new.marks.items number →
      IsMarked old.marks.items number ⊎ Contains new.waiting.items number

-- The fact with that number is of a kind.
abbrev pub IsOfKind : List Ground → (Ground → Type 0) → ℕ → Type 0
IsOfKind facts Kind number = (fact : Ground) × (slice_get facts number ≡ Some fact) × Kind fact

-- Each fact that has a value for which the fact with that number asks is marked.
abbrev pub IsFollowed : SchemaParts → List Value → List Ground → List Bool → ℕ → Type 0
IsFollowed schema constants facts marks number =
    (fact other : Ground) (place : ℕ) (v : Val) → slice_get facts number ≡ Some fact → Asks schema constants fact v →
    slice_get facts place ≡ Some other → Contains other.vals v → IsMarked marks place

-- Each fact that is marked waits or was followed.
pub record IsFollowing (schema : SchemaParts) (constants : List Value) (facts : List Ground) (marking : Marking) : Type 0 where
  pub long : length marking.marks.items ≡ length facts
  pub followed : (number : ℕ) → IsMarked marking.marks.items number →
      Contains marking.waiting.items number ⊎ IsFollowed schema constants facts marking.marks.items number
