-- What a match with given head values makes of a query's atoms, and the atoms that make a fact.
use Rattle.std.proofs.Common.{◌≡◌, ◌⊎◌, ℕ, ◌+◌, List, [], length, take, Some, None, Option, replicate, sym, ap, subst, inl, inr, ⊎_elim, arith}
use Rattle.std.specs.Prelude.{Contains, IfSome, IfNone, slice_get}
use Rattle.std.proofs.lemmas.List.Elements.{Contains-push_cases}
use Rattle.lists.proofs.Places.{take_got}
use Rattle.meaning.specs.declared.types.Atom.{Atom}
use Rattle.meaning.specs.declared.types.Ground.{Ground}
use Rattle.meaning.specs.declared.types.Query.{Query}
use Rattle.meaning.specs.declared.types.Val.{Val}
use Rattle.meaning.specs.Triggers.{ground}
use Rattle.homomorphism.specs.Bindings.{Agrees}
use Rattle.homomorphism.specs.Narrowing.{Narrows, Differs, NarrowsIf}
use Rattle.accessible_copy.specs.Goals.{IsCounted}
use Rattle.accessible_copy.proofs.HeadMatches.{agrees_all, long}
use Rattle.exposure_search.specs.Relevance.{IsImageOf, IsImageAmong, IsMade, AreGiven}

given_images : (query : Query) (head : List Val) (given : List (Option Val)) → IsCounted query → Narrows query.head head (replicate query.variables None) given → AreGiven query head given
given_images query head given counted n = record {
  covers = let w : length given ≡ length (replicate query.variables None) = n.width in let l = long query.variables in let b = counted.atoms in omega arith;
  images = λ fact (atom, among, is). record {
    atom = atom;
    assignment = is.assignment;
    of_atoms = among;
    agrees = n.complete is.assignment (agrees_all query.variables is.assignment) (sym is.heads);
    makes = is.makes;
  };
}

pub bindings_some : (query : Query) (head : List Val) (found : Option (List (Option Val))) → IsCounted query → NarrowsIf query.head head (replicate query.variables None) found → IfSome found (λ given. AreGiven query head given)
bindings_some query head None counted n = tt
bindings_some query head (Some given) counted n = given_images query head given counted n

pub bindings_none : (query : Query) (head : List Val) (found : Option (List (Option Val))) → NarrowsIf query.head head (replicate query.variables None) found → IfNone found ((fact : Ground) → IsImageOf query head fact → ⊥)
bindings_none query head None n = λ fact (atom, among, is). n is.assignment (agrees_all query.variables is.assignment) (sym is.heads)
bindings_none query head (Some given) n = tt

-- no assignment makes the atom the fact
abbrev pub NeverIs : List (Option Val) → Ground → Atom → Type 0
NeverIs given fact atom = (a : ℕ → Val) → Agrees given a → ground a atom ≡ fact → ⊥

pub never_made : (given : List (Option Val)) (atoms : List Atom) (fact : Ground) → ((atom : Atom) → Contains atoms atom → NeverIs given fact atom) → IsMade given atoms fact → ⊥
never_made given atoms fact none is = none is.atom is.of_atoms is.assignment is.agrees is.makes

-- an image of one of the first queries, or of the next one
pub image_next : (queries : List Query) (head : List Val) (i : ℕ) (query : Query) (fact : Ground) → slice_get queries i ≡ Some query → IsImageAmong (take (i + 1) queries) head fact → IsImageAmong (take i queries) head fact ⊎ IsImageOf query head fact
image_next queries head i query fact got (other, among, image) =
    ⊎_elim (λ old. inl (other, old, image)) (λ same. inr (subst (λ (q : Query). IsImageOf q head fact) (sym same) image)) (Contains-push_cases (take i queries) query other (subst (λ l. Contains l other) (take_got queries i query got) among))

pub image_none : (head : List Val) (fact : Ground) → IsImageAmong [] head fact → ⊥
image_none head fact (query, among, image) = let c : Contains [] query = among in omega arith
