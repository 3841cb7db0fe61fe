-- Rounds of requests that are asked one after another, with a limit on how many are made. What a round wants, how it is asked and what
-- becomes of its answers are calls of three functions: `turn`, `ask` and `take` relate what each is called with to what it may give.
use Rattle.std.specs.Prelude.{◌≡◌, ◌+◌, ◌-◌, ◌^◌, ◌<◌, ◌≤◌, ℕ, zero, suc, min, List, Result, Ok, Err, length}
use denote.Ref.{Bor, MutBor}
use Rattle.request_rounds.specs.declared.rounds.Turned.{Turned}
use Rattle.request_rounds.specs.declared.rounds.Reached.{Reached}
use Rattle.request_rounds.specs.declared.rounds.Halt.{Halt}
use Rattle.request_rounds.specs.declared.rounds.Halt.TheVariants as halt

-- What a round wants was asked of the lanes, with this result.
pub record AsksSo {T A E L : Type 0} (ask : Bor T → MutBor (List L) → Result A E → MutBor (List L) → Type 0)
    (what : T) (before : List L) (result : Result A E) (after : List L) : Type 0 where
  pub shown : Bor T
  pub lent : MutBor (List L)
  pub left : MutBor (List L)
  pub called : ask shown lent result left
  pub shown_is : shown.now ≡ what
  pub lent_is : lent.now ≡ before
  pub left_is : left.now ≡ after

module _ {P T A E L M N : Type 0} (turn : P → Result (Turned T) M → Type 0)
    (ask : Bor T → MutBor (List L) → Result A E → MutBor (List L) → Type 0) (take : T → A → Result P N → Type 0) (cap : ℕ) where
  -- what the next round wants, and that the limit has room for it
  abbrev pub WantsWithin : Reached P → Turned T → Type 0
  WantsWithin old turned = turn old.progress (Ok turned) × (old.made + turned.wanted ≤ cap)

  -- The next round was asked whole, and its answers were taken.
  pub record Goes (old : Reached P) (before : List L) (new : Reached P) (after : List L) : Type 0 where
    pub turned : Turned T
    pub wants : WantsWithin old turned
    pub answers : A
    pub asked : AsksSo ask turned.what before (Ok answers) after
    pub taken : take turned.what answers (Ok new.progress)
    pub made : new.made ≡ old.made + turned.wanted
    pub long : length after ≡ length before

  -- The next round was not asked whole, or its answers were not taken.
  pub data Stops (old : Reached P) (before : List L) : Halt T E → List L → Type 0 where
    unturned : Stops old before halt.NoMemory before
    over : (turned : Turned T) (wanted : ℕ) → turn old.progress (Ok turned) → cap < old.made + turned.wanted
        → wanted ≡ min turned.wanted (2 ^ 32 - 1) → Stops old before (halt.Over turned.what old.made wanted) before
    refused : (turned : Turned T) (why : E) (after : List L) → WantsWithin old turned → AsksSo ask turned.what before (Err why) after
        → Stops old before (halt.Refused turned.what why) after
    untaken : (turned : Turned T) (answers : A) (after : List L) → WantsWithin old turned → AsksSo ask turned.what before (Ok answers) after
        → Stops old before halt.NoMemory after

  -- n rounds were asked whole, one after another
  abbrev pub Went : ℕ → Reached P → List L → Reached P → List L → Type 0
  Went zero start old reached new = (reached ≡ start) × (new ≡ old)
  Went (suc n) start old reached new = (r : Reached P) × (middle : List L) × Went n start old r middle × Goes r middle reached new

  -- Fewer rounds than these were asked whole, and the next one stopped.
  pub record Halts (rounds : ℕ) (start : Reached P) (old : List L) (why : Halt T E) (new : List L) : Type 0 where
    pub n : ℕ
    pub less : n < rounds
    pub reached : Reached P
    pub middle : List L
    pub went : Went n start old reached middle
    pub stops : Stops reached middle why new

  -- the three calls of the next round may be made, where these are what they require
  pub record CanGo (turn_pre : P → Type 0) (ask_pre : Bor T → MutBor (List L) → Type 0) (take_pre : T → A → Type 0)
      (old : Reached P) (before : List L) : Type 0 where
    pub turns : turn_pre old.progress
    pub asks : (turned : Turned T) → WantsWithin old turned → (shown : Bor T) (lent : MutBor (List L)) → shown.now ≡ turned.what
        → lent.now ≡ before → ask_pre shown lent
    pub takes : (turned : Turned T) (answers : A) (after : List L) → WantsWithin old turned
        → AsksSo ask turned.what before (Ok answers) after → take_pre turned.what answers
