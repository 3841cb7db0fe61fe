-- What a source is seen as, and what attaching a relation and asking a request do (access methods, Benedikt and others 2016).
use Rattle.std.specs.Prelude.{◌≡◌, ◌<◌, ◌≤◌, ◌≢◌, ◌&&◌, ℕ, Bool, true, false, not, nat_eq, if◌then◌else◌, List, [], ◌∷◌, ◌++◌, length, map, slice_get, Option, None, Some, IfSome, IsSomeAnd, MatchOption, option_map, is_some, Result, Ok, Err, IsOk, IfOk, OnOk, OnErr, IfErr, IsErrOf, IsTrue}
use Rattle.std.specs.List.{AllByRecursion, filter}
use Rattle.std.specs.Cmp.Lexicographic.{pointwise}
use Rattle.meaning.specs.declared.types.Fact.{Fact}
use Rattle.meaning.specs.declared.types.Request.{Request}
use Rattle.source_trait.specs.declared.source.AttachFault.{AttachFault}
use Rattle.source_trait.specs.declared.source.AttachFault.TheVariants.{Failed, BadHeader, TooLarge, NoMemory}
use Rattle.source_trait.specs.declared.source.CallFault.{CallFault}
use Rattle.source_trait.specs.declared.source.CallFault.TheVariants as fault
use Rattle.source_trait.specs.Causes.{Rose}

-- a list of rows
abbrev pub RowList : Type 0
RowList = List (List (List ℕ))

-- columns and locator of a relation's last attach
abbrev pub Attached : Type 0
Attached = List (List ℕ) × List ℕ

-- what a source is seen as
pub record Seen : Type 0 where
  -- the facts of the attached relations, where they are told
  pub held : Option (List Fact)
  -- the rows that the data at a locator give for a relation and its columns, or what is wrong with them, where that is told
  pub offer : ℕ → List (List ℕ) → List ℕ → Option (Result RowList AttachFault)
  -- whether attaching these relations from these locators, one after another, would pass the limit on all attached data
  pub passes : List (ℕ × List ℕ) → Bool
  -- the requests so far, in order, where they are told
  pub asked : Option (List Request)
  -- the columns and the locator of each attached relation
  pub attached : ℕ → Option Attached
  -- how often it failed
  pub faults : ℕ
  -- whether it is said never to fail
  pub never_fails : Bool

-- how the count of faults goes on, from before one or more attaches and calls to after them
pub record FaultsGoOn (old new : Seen) : Type 0 where
  -- the count does not fall
  pub later : old.faults ≤ new.faults
  -- whether the source is said never to fail stays
  pub kept : new.never_fails ≡ old.never_fails
  -- the count of a source that never fails stays
  pub none : IsTrue old.never_fails → new.faults ≡ old.faults

-- the rows that an attach would take, or the fault of the data that it would answer, where that is told
abbrev pub offered_now : Seen → ℕ → List (List ℕ) → List ℕ → Option (Result RowList AttachFault)
offered_now seen rel columns locator = option_map (λ given. if seen.passes ((rel, locator) ∷ []) then Err TooLarge else given) (seen.offer rel columns locator)

-- each row has this many values
abbrev pub HaveArity : ℕ → RowList → Type 0
HaveArity arity rows = AllByRecursion (λ row. length row ≡ arity) rows

-- the facts of the other relations
abbrev pub without : ℕ → List Fact → List Fact
without rel facts = filter (λ f. not (nat_eq f.rel rel)) facts

-- the facts of a relation with these rows
abbrev pub facts_of : ℕ → RowList → List Fact
facts_of rel rows = map (λ row. record { rel = rel; row = row }) rows

-- the row has the values at the positions
abbrev pub agrees : List ℕ → List (List ℕ) → List (List ℕ) → Bool
agrees [] values row = true
agrees (p ∷ ps) [] row = false
agrees (p ∷ ps) (v ∷ vs) row = has_at (slice_get row p) v && agrees ps vs row
  where
    has_at : Option (List ℕ) → List ℕ → Bool
    has_at None v = false
    has_at (Some w) v = pointwise nat_eq w v

-- the rows of a relation that have the values at the positions, in order
abbrev pub pick : List Fact → ℕ → List ℕ → List (List ℕ) → RowList
pick facts rel positions values = map (λ f. f.row) (filter (λ f. nat_eq f.rel rel && agrees positions values f.row) facts)

-- each number is below those after it
abbrev pub Rises : List ℕ → Type 0
Rises [] = Unit {0}
Rises (p ∷ ps) = AllByRecursion (λ q. p < q) ps × Rises ps

-- the relation is attached, and the positions rise, are columns of it and have one value each
abbrev pub CanAsk : Option Attached → List ℕ → List (List ℕ) → Type 0
CanAsk attached positions values = IsSomeAnd attached (λ a. Rises positions × AllByRecursion (λ p. p < length a.0) positions × (length values ≡ length positions))

-- why an attach is refused: memory is free; a failure raises the count; another fault is just what is offered,
-- and where no offer is told it raises the count
abbrev pub AttachCause : AttachFault → Option (Result RowList AttachFault) → Type 0 → Type 0
AttachCause NoMemory offer rose = Unit {0}
AttachCause Failed offer rose = rose
AttachCause e offer rose = MatchOption offer rose (λ o. o ≡ Err e)

-- the column that a fault names is one of so many
abbrev pub ColumnBelow : AttachFault → ℕ → Type 0
ColumnBelow (BadHeader column) count = column < count
ColumnBelow e count = Unit {0}

-- the requests grow by this one, or stay where memory ran out
abbrev pub Asks : {T : Type 0} → Request → Option (List Request) → Option (List Request) → Result T CallFault → Type 0
Asks request old new (Ok x) = new ≡ option_map (λ list. list ++ request ∷ []) old
Asks request old new (Err fault.Failed) = new ≡ option_map (λ list. list ++ request ∷ []) old
Asks request old new (Err fault.NoMemory) = new ≡ old

-- the relation's facts are replaced by those of new rows of its arity, which are the offered ones where an offer is told
pub record Takes (old : List Fact) (new : Option (List Fact)) (rel arity : ℕ) (offer : Option (Result RowList AttachFault)) : Type 0 where
  pub rows : RowList
  pub held : new ≡ Some (without rel old ++ facts_of rel rows)
  pub fit : HaveArity arity rows
  pub offered : IfSome offer (λ o. o ≡ Ok rows)

-- what an attach does
pub record AttachGives (old new : Seen) (rel : ℕ) (columns : List (List ℕ)) (locator : List ℕ) (result : Result (Unit {0}) AttachFault) : Type 0 where
  -- an attach that succeeds makes the relation attached with these columns and this locator
  pub attached : OnOk result (new.attached rel ≡ Some (columns, locator))
  -- after a refusal the relation is not attached
  pub detached : OnErr result (new.attached rel ≡ None)
  -- every other relation stays as it was
  pub others : (r : ℕ) → r ≢ rel → new.attached r ≡ old.attached r
  -- on success the held facts of the relation are those of the rows that it takes
  pub takes : OnOk result (IfSome old.held (λ facts. Takes facts new.held rel (length columns) (offered_now old rel columns locator)))
  -- after a refusal the relation has no rows
  pub takes_none : OnErr result (new.held ≡ option_map (without rel) old.held)
  -- what it holds is told after the attach exactly where it was told before
  pub tells : is_some new.held ≡ is_some old.held
  -- it succeeds only where a told offer is one of rows
  pub offered : OnOk result (IfSome (offered_now old rel columns locator) IsOk)
  -- it refuses only for one of these causes
  pub cause : IfErr result (λ fault. AttachCause fault (offered_now old rel columns locator) (Rose old.faults new.faults))
  -- the column of a bad header is one of the columns
  pub column : IfErr result (λ fault. ColumnBelow fault (length columns))
  -- the count of faults goes on
  pub faults : FaultsGoOn old new
  -- the offers of the data stay
  pub offers : new.offer ≡ old.offer
  -- after an attach that succeeds, just what would have passed the limit behind it passes it
  pub passes : OnOk result ((more : List (ℕ × List ℕ)) → new.passes more ≡ old.passes ((rel, locator) ∷ more))
  -- the requests stay
  pub asked : new.asked ≡ old.asked

-- what a call does
pub record CallGives (old new : Seen) (rel : ℕ) (positions : List ℕ) (values : List (List ℕ)) (result : Result RowList CallFault) : Type 0 where
  -- each row has the relation's arity and the given values at the positions
  pub fits : IfOk result (λ rows. IfSome (old.attached rel) (λ a. AllByRecursion (λ row. (length row ≡ length a.0) × (agrees positions values row ≡ true)) rows))
  -- the rows are just those of the held ones that have the values, in order
  pub picks : IfOk result (λ rows. IfSome old.held (λ facts. rows ≡ pick facts rel positions values))
  -- a failure raises the count of faults
  pub failed : IsErrOf result fault.Failed → Rose old.faults new.faults
  -- the count of faults goes on
  pub faults : FaultsGoOn old new
  -- the requests grow by just this one, unless memory ran out
  pub asks : Asks (record { rel = rel; positions = positions; values = values }) old.asked new.asked result
  -- what it holds stays
  pub held : new.held ≡ old.held
  -- the attached relations stay
  pub attached : new.attached ≡ old.attached
  -- the offers of the data stay
  pub offers : new.offer ≡ old.offer
  -- whether an attach would pass the limit stays
  pub passes : new.passes ≡ old.passes
