-- A match of atoms in another order, and a way along their links.
use Rattle.std.proofs.Common.{◌≤◌, List, [], refl}
use Rattle.std.specs.Prelude.{Option}
use Rattle.meaning.specs.declared.types.Atom.{Atom}
use Rattle.meaning.specs.declared.types.Val.{Val}
use Rattle.meaning.specs.declared.types.Ground.{Ground}
use Rattle.meaning.specs.Triggers.{bound}
use Rattle.homomorphism.specs.Matches.{NoMatch}
use Rattle.connected_match.specs.declared.chain.Link.{Link}
use Rattle.connected_match.specs.Chains.{SomeMatch, Completes, IsChain}
use Rattle.connected_match.specs.Orders.{HasSame}
use Rattle.connected_match.proofs.Bounds.{member_bound, all_bound}
use Rattle.connected_match.proofs.Going.{sound, complete}

pub same_bound : (atoms ordered : List Atom) → HasSame atoms ordered → bound ordered ≤ bound atoms
same_bound atoms ordered same = all_bound (bound atoms) ordered (λ atom among. member_bound atoms atom ((same atom).1 among))

pub some_match : (facts : List Ground) (given : List (Option Val)) (atoms ordered : List Atom) (links : List Link) → HasSame atoms ordered → IsChain given [] ordered links →
    Completes facts links [] → SomeMatch facts atoms given
some_match facts given atoms ordered links same chain goes =
    let (a, agrees, made, row) = sound facts given ordered links [] [] chain refl goes in
    (a, agrees, (λ atom among. made atom ((same atom).0 among)))

pub no_match : (facts : List Ground) (given : List (Option Val)) (atoms ordered : List Atom) (links : List Link) → HasSame atoms ordered → IsChain given [] ordered links →
    (Completes facts links [] → ⊥) → NoMatch facts atoms given
no_match facts given atoms ordered links same chain never a agrees made =
    never (complete facts given a ordered links [] chain agrees (λ atom among. made atom ((same atom).1 among)))
