-- How one round of a crawl ends.
use Rattle.std.proofs.Common.{◌≡◌, ◌+◌, ◌-◌, ◌^◌, ◌<◌, ◌≤◌, min, ℕ, List, [], ◌∷◌, length, refl, subst, arith}
use Rattle.meaning.specs.declared.types.Request.{Request}
use Rattle.access_schema.specs.declared.schema.Schema.{Schema}
use Rattle.access_schema.specs.Meaning.{meaning_of}
use Rattle.source_trait.specs.Asking.{RowList, Seen}
use Rattle.source_trait.specs.declared.lanes.Lane.{Lane}
use Rattle.source_trait.specs.declared.work.Ask.{Ask}
use Rattle.middleware.specs.LaneRounds.{requests_in, HaveTheirKinds, AsksEach, AsksSome, AreAnswers, NoneStopped}
use Rattle.middleware.specs.declared.fault.RunFault.{RunFault}
use Rattle.middleware.specs.declared.fault.RunFault.TheVariants as fault
use Rattle.middleware.proofs.LaneShares.{AsksSome-none, each_some}
use Rattle.crawl_rounds.specs.Rounds.{Class}
use Rattle.crawl.specs.declared.progress.Progress.{Progress}
use Rattle.crawl.specs.Numbers.{BringIntegers, BringFirstBad}
use Rattle.crawl.specs.Pieces.{PieceCause, PiecesStop}
use Rattle.crawl.specs.Progress.{answered_by, TakesRound}
use Rattle.crawl.specs.Rounding.{AreOrdered, next_requests, RoundAsked, RoundGoes, RoundCause, RoundStops}

-- nothing is wanted
pub none_left : (xs : List Request) (n : ℕ) → n ≡ min (length xs) (2 ^ 32 - 1) → n ≡ 0 → xs ≡ []
none_left [] n is zero = refl
none_left (x ∷ xs) n is zero = absurd (omega (arith, is, zero))

module _ {S : Type 0} (seen : S → Seen) (schema : Schema) (classes : List Class) (cap : ℕ) (progress : Progress) (ordered : AreOrdered progress.known) where
  pub stops_unasked : (lanes : List (Lane S)) → RoundStops seen schema classes cap fault.NoMemory progress lanes lanes
  stops_unasked lanes = record { ordered = ordered; asked = AsksSome-none seen schema (next_requests classes progress) lanes; cause = tt }

  pub stops_over : (wanted : ℕ) → wanted ≡ min (length (next_requests classes progress)) (2 ^ 32 - 1) → cap < progress.made + wanted → (lanes : List (Lane S))
      → RoundStops seen schema classes cap (fault.OverCalls progress.made wanted cap) progress lanes lanes
  stops_over wanted is over lanes = record {
    ordered = ordered;
    asked = AsksSome-none seen schema (next_requests classes progress) lanes;
    cause = (refl, refl, is, over, refl);
  }

  -- it stopped at its requests, for which there was room
  pub stops_pieces : progress.made + length (next_requests classes progress) ≤ cap → (before after : List (Lane S)) (why : RunFault)
      → PiecesStop seen schema (next_requests classes progress) why progress.rounds before after → RoundStops seen schema classes cap why progress before after
  stops_pieces fits before after why stops = record { ordered = ordered; asked = stops.asked; cause = cause_of why stops.cause }
    where
      cause_of : (why : RunFault) → PieceCause seen schema (next_requests classes progress) progress.rounds before after why
          → RoundCause seen schema classes cap progress (next_requests classes progress) before after why
      cause_of fault.NoMemory c = tt
      cause_of (fault.NoSource rel) c = absurd c
      cause_of (fault.UnknownKind rel) c = absurd c
      cause_of (fault.Attach rel e) c = absurd c
      cause_of (fault.CallFailed branch step) (first, its, failed) = (first, its, fits, failed)
      cause_of (fault.OverCalls made wanted its) c = absurd c
      cause_of (fault.BadNumber rel column) c = absurd c

  module _ (asks : List Ask) (are : requests_in asks ≡ next_requests classes progress) (before after : List (Lane S)) where
    -- there was no memory for what it brought
    pub stops_asked : AsksEach seen schema (requests_in asks) before after → RoundStops seen schema classes cap fault.NoMemory progress before after
    stops_asked each = record {
      ordered = ordered;
      asked = subst (λ r. AsksSome seen schema r before after) are (each_some seen schema (requests_in asks) before after each);
      cause = tt;
    }

    module _ (kinds : HaveTheirKinds schema asks) (some : 0 < length asks) (fits : progress.made + length asks ≤ cap) (asked : AsksEach seen schema (requests_in asks) before after) (going : NoneStopped after)
        (answers : List RowList) (answered : AreAnswers seen before asks answers) where
      abbrev round_asked : RoundAsked seen schema classes cap progress before after
      round_asked = record {
        ordered = ordered;
        asks = asks;
        are = are;
        kinds = kinds;
        some = some;
        fits = fits;
        asked = asked;
        going = going;
        answers = answers;
        answered = answered;
      }

      pub goes : (next : Progress) → BringIntegers (meaning_of schema) (answered_by asks answers) → TakesRound (answered_by asks answers) progress next → RoundGoes seen schema classes cap progress next before after
      goes next integers takes = record { round = round_asked; integers = integers; takes = takes }

      -- a bad number stands in the answers
      pub stops_bad : (rel column : ℕ) → BringFirstBad (meaning_of schema) (answered_by asks answers) rel column
          → RoundStops seen schema classes cap (fault.BadNumber rel column) progress before after
      stops_bad rel column bad = record {
        ordered = ordered;
        asked = subst (λ r. AsksSome seen schema r before after) are (each_some seen schema (requests_in asks) before after asked);
        cause = record { round = round_asked; bad = bad };
      }
