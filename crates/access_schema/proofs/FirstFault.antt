-- The first faulty part: no part before it has a fault.
use Rattle.std.proofs.Common.{◌≡◌, ◌+◌, ◌<◌, ◌≤◌, ◌∙◌, sym, ap, subst, ℕ, List, [], ◌∷◌, Option, Some, None, length, slice_get, take, refl, arith, ⊎_elim}
use Rattle.std.specs.List.{filter_map, cons_option}
use Rattle.std.proofs.lemmas.Bool.{cases_eq}
use Rattle.std.proofs.lemmas.Option.{slice_get_within}
use Rattle.meaning.specs.declared.types.Relation.{Relation}
use Rattle.access_schema.specs.declared.part.Part.{Part}
use Rattle.access_schema.specs.declared.fault.SchemaFault.{SchemaFault}
use Rattle.access_schema.specs.Content.{relations_of, relation_of}
use Rattle.access_schema.specs.Feeding.{IsChain}
use Rattle.access_schema.specs.Faults.{IsFaultOf, IsLeastFault, IsFaultless, HasFault, IsFirstFault, AreFaultless}
use Rattle.access_schema.specs.Links.{Joins}
use Rattle.access_schema.specs.Progress.{StandsFor}
use Rattle.lists.proofs.Members.{some_injective}
use Rattle.lists.proofs.Places.{take_got}

-- no part before the index has a fault
abbrev pub FaultlessBelow : List Part → ℕ → Type 0
FaultlessBelow parts index = (before : ℕ) (fault : SchemaFault) → before < index → HasFault parts before fault → ⊥

no_joins : (source target : ℕ) → Joins [] source target → ⊥
no_joins source target joins = let lt = joins.of_links.1 in omega arith

no_round : (source : ℕ) (between : List ℕ) (target : ℕ) → IsChain (Joins []) source between target → ⊥
no_round source [] target chain = no_joins source target chain
no_round source (next ∷ between) target chain = no_joins source next chain.0

pub stands_none : (relations : List Relation) → StandsFor relations [] [] []
stands_none relations = record { constants = refl; few = omega arith; links_are = refl; below = tt; straight = λ (number, between, chain). no_round number between number chain }

pub faultless_more : (parts : List Part) (index : ℕ) (part : Part) → slice_get parts index ≡ Some part → FaultlessBelow parts index → IsFaultless (relations_of parts) (take index parts) part → FaultlessBelow parts (index + 1)
faultless_more parts index part at below here before fault lt (other, there, has) = ⊎_elim
    (λ same.
    let is : other ≡ part = some_injective other part (sym there ∙ ap (slice_get parts) same ∙ at) in
    let back : IsFaultOf (relations_of parts) (take index parts) part fault = subst (λ (p : Part). IsFaultOf (relations_of parts) (take index parts) p fault) is (subst (λ k. IsFaultOf (relations_of parts) (take k parts) other fault) same has) in
    here fault back)
    (λ apart. below before fault (omega arith) (other, there, has))
    (cases_eq before index)

pub first_is : (parts : List Part) (index : ℕ) (part : Part) (fault : SchemaFault) → slice_get parts index ≡ Some part → FaultlessBelow parts index → IsLeastFault (relations_of parts) (take index parts) part fault → IsFirstFault parts index fault
first_is parts index part fault at below least = record {
  has = (part, at, least.has);
  least = λ other (owner, there, has). least.least other (subst (λ (p : Part). IsFaultOf (relations_of parts) (take index parts) p other) (some_injective owner part (sym there ∙ at)) has);
  first = below;
}

pub faultless_all : (parts : List Part) (index : ℕ) → length parts ≤ index → FaultlessBelow parts index → AreFaultless parts
faultless_all parts index end below at fault (part, there, has) = below at fault (let lt = slice_get_within parts at part there in omega arith) (part, there, has)

cons_few : {X Y : Type 0} (o : Option Y) (x : X) (ys : List Y) (xs : List X) → length ys ≤ length xs → length (cons_option o ys) ≤ length (x ∷ xs)
cons_few None x ys xs rest = omega arith
cons_few (Some y) x ys xs rest = omega arith

mapped_few : {X Y : Type 0} (h : X → Option Y) (xs : List X) → length (filter_map h xs) ≤ length xs
mapped_few h [] = omega arith
mapped_few h (x ∷ xs) = cons_few (h x) x (filter_map h xs) xs (mapped_few h xs)

pub relations_few : (parts : List Part) → length (relations_of parts) ≤ length parts
relations_few parts = mapped_few relation_of parts
