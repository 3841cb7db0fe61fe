-- One round of a batch: what asking its requests and taking their answers need, and what they come to.
use Rattle.std.proofs.Common.{◌≡◌, ℕ, ◌+◌, ◌-◌, ◌<◌, ◌≤◌, ◌^◌, List, ◌++◌, length, length-drop, drop, take, Some, refl, sym, ◌∙◌, ap, subst, arith}
use Rattle.std.specs.Prelude.{Contains, slice_get}
use Rattle.std.proofs.lemmas.List.{map-append, take_all}
use Rattle.std.proofs.lemmas.List.Elements.{Contains-append_right}
use Rattle.std.proofs.lemmas.Option.{slice_get_within}
use Rattle.meaning.specs.declared.types.Plan.{Plan}
use Rattle.meaning.specs.declared.types.Request.{Request}
use Rattle.access_schema.specs.declared.schema.Schema.{Schema}
use Rattle.lane_pool.specs.Work.{AllReady}
use Rattle.source_trait.specs.Asking.{RowList, Seen}
use Rattle.source_trait.specs.Works.{MayAsk}
use Rattle.source_trait.specs.declared.lanes.Lane.{Lane}
use Rattle.source_trait.specs.declared.work.Ask.{Ask}
use Rattle.middleware.specs.LaneBranches.{OnEach}
use Rattle.middleware.specs.LaneRounds.{AreAnswers, AskCause, AsksEach, AsksSome, HaveTheirKinds, NoneStopped, requests_in}
use Rattle.middleware.specs.LaneRunning.{IsAttachedTo}
use Rattle.middleware.specs.declared.lane_round.AskFault.{AskFault}
use Rattle.request_rounds.specs.declared.rounds.Turned.{Turned}
use Rattle.shared_rounds.specs.Books.{asked_in}
use Rattle.shared_rounds.specs.declared.book.Book.{Book}
use Rattle.plan_course.specs.Courses.{HaveOutputs}
use Rattle.plan_batches.specs.Asking.{AsksPart, AsksWhole, HasTaken, MayAskNoted, MayTake, asks_in}
use Rattle.plan_batches.specs.Batching.{NeedsOf}
use Rattle.plan_batches.specs.Naming.{CanName, HasFirst, NumbersBelow}
use Rattle.plan_batches.specs.Receiving.{HaveNoBad}
use Rattle.plan_batches.specs.Rounding.{AreReadyPlans, IsStanding, NotesRound, TurnsNoted}
use Rattle.plan_batches.specs.declared.member.Going.{Going}
use Rattle.plan_batches.specs.declared.round.Noted.{Noted}
use Rattle.plan_batches.specs.declared.round.Progress.{Progress}
use Rattle.plan_batches.proofs.Readying.{all_ready}
use Rattle.plan_batches.proofs.Standing.{RoundAsked, RoundGoes, all_named, kinds_behind, new_of_plans, was_next}
use Rattle.plan_batches.proofs.Wanting.{below, distinct_asked, dropped, wanted_number}

pub outputs_there : (schema : Schema) (plans : List Plan) → AreReadyPlans schema plans → (plan : Plan)
    → Contains plans plan → HaveOutputs plan
outputs_there schema plans ready plan c its of = ((ready plan c).0 its of).output

-- the last ones of a list that is lent
pub rest_is : {X : Type 0} (made : ℕ) (xs lent : List X) → lent ≡ xs
    → take (length lent - made) (drop made lent) ≡ drop made xs
rest_is made xs lent is =
    let long = length-drop made lent in
    take_all (length lent - made) (drop made lent) (omega (arith, long)) ∙ ap (drop made) is

-- what asking the requests that are lent does, which are those of the round
module _ {S : Type 0} (seen : S → Seen) (schema : Schema) (noted : Noted) (lent : List Ask) (is : lent ≡ asks_in noted)
    (old new : List (Lane S)) where
  pub asks_whole : (answers : List RowList)
      → ((s : Schema) → HaveTheirKinds s lent → AsksEach seen s (requests_in lent) old new) → AreAnswers seen old lent answers
      → NoneStopped new → AsksWhole seen schema noted answers old new
  asks_whole answers asks are going = record {
    asks = subst (λ (l : List Ask). HaveTheirKinds schema l → AsksEach seen schema (requests_in l) old new) is (asks schema);
    are = subst (λ (l : List Ask). AreAnswers seen old l answers) is are;
    going = going;
  }

  pub asks_part : (why : AskFault) → ((s : Schema) → HaveTheirKinds s lent → AsksSome seen s (requests_in lent) old new)
      → ((s : Schema) → HaveTheirKinds s lent → AskCause seen s lent why old new) → AsksPart seen schema noted why old new
  asks_part why asks cause = record {
    asks = subst (λ (l : List Ask). HaveTheirKinds schema l → AsksSome seen schema (requests_in l) old new) is (asks schema);
    cause = subst (λ (l : List Ask). HaveTheirKinds schema l → AskCause seen schema l why old new) is (cause schema);
  }

-- a request behind the first ones has a number behind theirs
rest_number : {X : Type 0} (made k : ℕ) (xs : List X) (x : X) → made ≤ length xs → slice_get (drop made xs) k ≡ Some x
    → made + k < length xs
rest_number made k xs x fits at =
    let within = slice_get_within (drop made xs) k x at in
    let long = length-drop made xs in
    omega (arith, within, long, fits)

module _ (schema : Schema) (plans : List Plan) (n : ℕ) (progress : Progress) (st : IsStanding schema plans n progress)
    (turned : Turned Noted) (is : NotesRound schema plans progress turned) where
  abbrev new : Book
  new = turned.what.book

  abbrev goings : List Going
  goings = turned.what.goings.items

  pub made_fits : turned.what.made ≤ length new.asked.items
  made_fits = let count = is.count in omega (arith, count)

  -- the requests of the round are those that were added to the book
  pub asks_are : asks_in turned.what ≡ is.noted.onward.0
  asks_are = ap (λ m. drop m new.asked.items) is.made
      ∙ dropped schema plans progress.members.items progress.book new goings is.noted

  pub asks_kinds : HaveTheirKinds schema (asks_in turned.what)
  asks_kinds = subst (HaveTheirKinds schema) (sym asks_are)
      (kinds_behind schema new.asked.items progress.book.asked.items is.noted.onward.0 is.noted.onward.1
      (is.noted.kinds st.kinds))

  asks_ready : {S : Type 0} (seen : S → Seen) (lanes : List (Lane S))
      → ((rel : ℕ) → NeedsOf schema plans rel → OnEach lanes (IsAttachedTo seen schema rel))
      → AllReady (MayAsk seen) (asks_in turned.what) lanes
  asks_ready seen lanes attached =
      subst (λ (l : List Ask). AllReady (MayAsk seen) l lanes) (sym asks_are)
      (all_ready schema seen plans lanes attached is.noted.onward.0
      (kinds_behind schema new.asked.items progress.book.asked.items is.noted.onward.0 is.noted.onward.1
      (is.noted.kinds st.kinds))
      (λ request c. new_of_plans schema plans n progress st new goings is.noted request
      (subst (λ (l : List Request). Contains l request) (sym all)
      (Contains-append_right (asked_in progress.book.asked.items) (asked_in is.noted.onward.0) request c))))
    where
      all : asked_in new.asked.items ≡ asked_in progress.book.asked.items ++ asked_in is.noted.onward.0
      all = ap asked_in is.noted.onward.1
          ∙ map-append (λ (a : Ask). a.request) progress.book.asked.items is.noted.onward.0

  -- what the plans want has numbers below those of all answers
  numbers_there : (count : ℕ) → count ≡ length (asks_in turned.what) → NumbersBelow (length turned.what.kept + count) goings
  numbers_there count long going number among c =
      let less = below schema plans progress.members.items progress.book new goings is.noted going number among c in
      let kept = ap length is.kept in
      let before = st.kept in
      let made = is.made in
      let rest = length-drop turned.what.made new.asked.items in
      let fits = made_fits in
      omega (arith, less, kept, before, made, long, rest, fits)

  -- the requests of the round may be asked
  pub may_ask : {S : Type 0} (seen : S → Seen) (lanes : List (Lane S)) → (0 < length lanes) × (length lanes ≤ 8)
      → ((rel : ℕ) → NeedsOf schema plans rel → OnEach lanes (IsAttachedTo seen schema rel))
      → length new.asked.items ≤ 1000000 → length plans < 2 ^ 32
      → MayAskNoted seen turned.what lanes
  may_ask seen lanes some attached few short = record {
    some = some;
    fits = made_fits;
    few = few;
    ready = asks_ready seen lanes attached;
    plans = let third = is.noted.wants.third in omega (arith, short, third);
    numbers = numbers_there (length (asks_in turned.what)) refl;
  }

  -- an answer to each of them may be taken
  pub may_take : AreReadyPlans schema plans → (answers : List RowList) → length answers ≡ length (asks_in turned.what)
      → MayTake plans turned.what answers
  may_take ready answers long = record {
    goings = was_next schema plans n progress st goings is.noted.wants;
    outputs = outputs_there schema plans ready;
    numbers = numbers_there (length answers) long;
  }

  -- ---- who is named where it stops

  pub goings_named : AreReadyPlans schema plans → (going : Going) → Contains goings going → CanName going
  goings_named ready = all_named schema plans n progress st goings is.noted.wants ready
      (asked_in new.asked.items) is.noted.are

  -- a plan wants each request of the round
  pub has_first : length plans < 2 ^ 32 → (number : ℕ) → number < 2 ^ 32 → turned.what.made ≤ number
      → number < length new.asked.items
      → HasFirst goings number
  has_first few number small over under =
      let made = is.made in
      let third = is.noted.wants.third in
      record {
        wanted = wanted_number schema plans progress.members.items progress.book new goings is.noted
            (distinct_asked schema plans progress.members.items progress.book new goings is.noted st.distinct)
            number (omega (arith, over, made)) under;
        small = small;
        few = omega (arith, few, third);
      }

  pub first_refused : length plans < 2 ^ 32 → length new.asked.items ≤ 1000000 → (k : ℕ) (ask : Ask)
      → slice_get (asks_in turned.what) k ≡ Some ask
      → HasFirst goings (turned.what.made + k)
  first_refused few short k ask at =
      let under = rest_number turned.what.made k new.asked.items ask made_fits at in
      has_first few (turned.what.made + k) (omega (arith, under, short)) (omega arith) under

  -- ---- the round was asked whole

  module _ {S : Type 0} (seen : S → Seen) (cap : ℕ) (before after : List (Lane S)) (within : length new.asked.items ≤ cap)
      (answers : List RowList) (asked : AsksWhole seen schema turned.what answers before after) where
    abbrev pub round_asked : (book : Book) → book ≡ new → RoundAsked schema plans seen cap progress book before after
    round_asked book same = record {
      goings = goings;
      noted = subst (λ (b : Book). TurnsNoted schema plans progress.members.items progress.book b goings) (sym same) is.noted;
      within = subst (λ (b : Book). length b.asked.items ≤ cap) (sym same) within;
      asks = asks_in turned.what;
      more = ap (λ (b : Book). b.asked.items) same ∙ is.noted.onward.1
          ∙ ap (λ (l : List Ask). progress.book.asked.items ++ l) (sym asks_are);
      asked = asked.asks asks_kinds;
      going = asked.going;
      answers = answers;
      answered = asked.are;
    }

    pub round_goes : HaveNoBad schema (turned.what.kept ++ answers) goings → (next : Progress) → HasTaken plans turned.what answers next
        → RoundGoes schema plans seen cap progress next before after
    round_goes no_bad next taken = record {
      whole = round_asked next.book taken.book_is;
      no_bad = subst (λ (l : List RowList). HaveNoBad schema (l ++ answers) goings) is.kept no_bad;
      kept = taken.kept_is ∙ ap (λ (l : List RowList). l ++ answers) is.kept;
      takes = taken.takes;
    }
