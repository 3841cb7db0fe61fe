-- What asking the requests of a round does, and what becomes of the answers.
use Rattle.std.specs.Prelude.{◌≡◌, ◌+◌, ◌<◌, ◌≤◌, ◌^◌, ◌++◌, List, Contains, Result, Ok, Err, drop, length}
use Rattle.meaning.specs.declared.types.Plan.{Plan}
use Rattle.access_schema.specs.declared.schema.Schema.{Schema}
use Rattle.lane_pool.specs.Work.{AllReady}
use Rattle.source_trait.specs.Asking.{RowList, Seen}
use Rattle.source_trait.specs.Works.{MayAsk}
use Rattle.source_trait.specs.declared.lanes.Lane.{Lane}
use Rattle.source_trait.specs.declared.work.Ask.{Ask}
use Rattle.middleware.specs.LaneRounds.{requests_in, HaveTheirKinds, AsksEach, AsksSome, AreAnswers, AskCause, NoneStopped}
use Rattle.middleware.specs.declared.lane_round.AskFault.{AskFault}
use Rattle.plan_course.specs.Courses.{HaveOutputs}
use Rattle.plan_course.specs.Turns.{IsNext}
use Rattle.plan_course.specs.declared.course.Course.{Course}
use Rattle.plan_batches.specs.Each.{Both, Each}
use Rattle.plan_batches.specs.Members.{Takes}
use Rattle.plan_batches.specs.Naming.{NumbersBelow}
use Rattle.plan_batches.specs.Receiving.{HaveNoBad, IsFirstBad}
use Rattle.plan_batches.specs.declared.member.Going.{Going}
use Rattle.plan_batches.specs.declared.round.Noted.{Noted}
use Rattle.plan_batches.specs.declared.round.NotedFault.{NotedFault}
use Rattle.plan_batches.specs.declared.round.NotedFault.TheVariants as noted_fault
use Rattle.plan_batches.specs.declared.round.Progress.{Progress}

-- the requests of a round
abbrev pub asks_in : Noted → List Ask
asks_in noted = drop noted.made noted.book.asked.items

-- what the plan wants is what some course of it asks
abbrev pub WasNext : Plan → Going → Type 0
WasNext plan going = (schema : Schema) × (course : Course) × IsNext schema plan course going.next

module _ {S : Type 0} (seen : S → Seen) where
  -- the requests of a round may be asked of the lanes
  pub record MayAskNoted (noted : Noted) (lanes : List (Lane S)) : Type 0 where
    pub some : (0 < length lanes) × (length lanes ≤ 8)
    pub fits : noted.made ≤ length noted.book.asked.items
    pub few : length noted.book.asked.items ≤ 1000000
    pub ready : AllReady (MayAsk seen) (asks_in noted) lanes
    pub plans : length noted.goings.items < 2 ^ 32
    pub numbers : NumbersBelow (length noted.kept + length (asks_in noted)) noted.goings.items

  module _ (schema : Schema) (noted : Noted) where
    -- Each request of the round was asked once, by one of the lanes, and these are the answers.
    pub record AsksWhole (answers : List RowList) (old new : List (Lane S)) : Type 0 where
      pub asks : HaveTheirKinds schema (asks_in noted) → AsksEach seen schema (requests_in (asks_in noted)) old new
      pub are : AreAnswers seen old (asks_in noted) answers
      pub going : NoneStopped new

    -- Each was asked at most once, and for this there are no answers.
    pub record AsksPart (why : AskFault) (old new : List (Lane S)) : Type 0 where
      pub asks : HaveTheirKinds schema (asks_in noted) → AsksSome seen schema (requests_in (asks_in noted)) old new
      pub cause : HaveTheirKinds schema (asks_in noted) → AskCause seen schema (asks_in noted) why old new

    -- The requests of a round were asked. On success no step received a bad number.
    abbrev pub AsksNoted : Result (List RowList) NotedFault → List (Lane S) → List (Lane S) → Type 0
    AsksNoted (Ok answers) old new = AsksWhole answers old new × HaveNoBad schema (noted.kept ++ answers) noted.goings.items
    AsksNoted (Err (noted_fault.NotAsked why)) old new = AsksPart why old new
    AsksNoted (Err (noted_fault.BadNumber bad)) old new =
        (answers : List RowList) × AsksWhole answers old new × IsFirstBad schema (noted.kept ++ answers) noted.goings.items bad

-- the plans may take the answers of a round
pub record MayTake (plans : List Plan) (noted : Noted) (answers : List RowList) : Type 0 where
  pub goings : Both WasNext plans noted.goings.items
  pub outputs : (plan : Plan) → Contains plans plan → HaveOutputs plan
  pub numbers : NumbersBelow (length noted.kept + length answers) noted.goings.items

-- The answers of a round were kept behind the earlier ones, and the plans took theirs.
pub record HasTaken (plans : List Plan) (noted : Noted) (answers : List RowList) (next : Progress) : Type 0 where
  pub book_is : next.book ≡ noted.book
  pub kept_is : next.kept ≡ noted.kept ++ answers
  pub takes : Each (Takes next.kept) plans noted.goings.items next.members.items
