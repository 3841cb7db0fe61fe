-- What printing the text of an execution makes of a delivery, and what its text is.
use Rattle.std.proofs.Common.{◌≡◌, ◌⊎◌, ℕ, List, Option, Result, Ok, Err, inl, inr, sym, subst}
use Rattle.std.specs.Prelude.{OnOk, OnErr, IfErr}
use Rattle.command_io.specs.declared.stop.Stop.{Stop}
use Rattle.command_io.specs.declared.stop.Stop.TheVariants as stop
use Rattle.command_io.specs.Moments.{ResultStop}
use Rattle.command_io.specs.Moments.ResultStop.{no_memory, sink_failed}
use Rattle.command_io.specs.Writing.{TookAll, TookPart}
use Rattle.command_io.specs.Executing.{Delivers}
use Rattle.command_io.specs.Executing.Delivers.{done, no_rows, no_text, cut}

-- why a result was not printed
pub result_stop : (rose : Type 0) (end : Stop) → (end ≡ stop.Memory) ⊎ ((end ≡ stop.ResultWrite) × rose) → ResultStop rose end
result_stop rose end (inl memory) = rw memory no_memory
result_stop rose end (inr (failed, rises)) = rw failed (sink_failed rises)

pub result_stops : (rose : Type 0) (result : Result (Unit {0}) Stop) →
    IfErr result (λ end. (end ≡ stop.Memory) ⊎ ((end ≡ stop.ResultWrite) × rose)) → IfErr result (ResultStop rose)
result_stops rose (Ok done_it) cause = tt
result_stops rose (Err end) cause = result_stop rose end cause

module _ {A : Type 0} (Ran : Result A Stop → Type 0) (IsText : A → List ℕ → Type 0) (out_old out_new : Option (List ℕ)) (rose : Type 0) where
  pub printed : (run : A) (text : List ℕ) (result : Result (Unit {0}) Stop) → Ran (Ok run) → IsText run text →
      OnOk result (TookAll out_old out_new text) → OnErr result (TookPart out_old out_new text) →
      IfErr result (λ end. (end ≡ stop.Memory) ⊎ ((end ≡ stop.ResultWrite) × rose)) →
      Delivers Ran IsText out_old out_new rose result
  printed run text (Ok done_it) ran is whole part cause = done run text ran is whole
  printed run text (Err end) ran is whole part cause = cut run text end ran is part (result_stop rose end cause)

  -- what a text is of an execution, it is of a delivery
  pub delivers_as : (Does : Result A Stop → Type 0) (IsRight : A → List ℕ → Type 0) → ((ended : Result A Stop) → Ran ended → Does ended) →
      ((run : A) (text : List ℕ) → Ran (Ok run) → IsText run text → IsRight run text) →
      (result : Result (Unit {0}) Stop) → Delivers Ran IsText out_old out_new rose result → Delivers Does IsRight out_old out_new rose result
  delivers_as Does IsRight does says result (done run text ran is took) = done run text (does (Ok run) ran) (says run text ran is) took
  delivers_as Does IsRight does says result (no_rows end ran same) = no_rows end (does (Err end) ran) same
  delivers_as Does IsRight does says result (no_text run ran same) = no_text run (does (Ok run) ran) same
  delivers_as Does IsRight does says result (cut run text end ran is took why) = cut run text end (does (Ok run) ran) (says run text ran is) took why

-- the report of rows that were given
pub reported : {A : Type 0} (Ran : Result A Stop → Type 0) (IsText : A → List ℕ → Type 0) (out_old out_new : Option (List ℕ)) (rose : Type 0) (run : A) →
    Ran (Ok run) → (result : Result (Unit {0}) Stop) → Delivers (λ ended. ended ≡ Ok run) IsText out_old out_new rose result →
    Delivers Ran IsText out_old out_new rose result
reported {A} Ran IsText out_old out_new rose run ran = delivers_as (λ (ended : Result A Stop). ended ≡ Ok run) IsText out_old out_new rose Ran IsText
    (λ ended is. subst Ran (sym is) ran) (λ its text is given. given)
