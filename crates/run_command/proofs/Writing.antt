-- What a sink took of the text of a decision.
use Rattle.std.proofs.Common.{ℕ, List, Option, Result, Ok, Err, inr}
use Rattle.std.specs.Prelude.{OnOk, OnErr}
use Rattle.std.specs.Str.{IsUtf8}
use Rattle.access_schema.specs.declared.schema.Schema.{Schema}
use Rattle.command_io.specs.declared.stop.Stop.{Stop}
use Rattle.command_io.specs.Writing.{TookAll, TookPart}
use Rattle.findings.specs.declared.decision.Decision.{Decision}
use Rattle.explain.specs.Printing.{IsDecisionText}
use Rattle.run_command.specs.Deciding.{Written, TookPartOf}

module _ (schema : Schema) (decision : Decision) (text : List ℕ) (is : IsDecisionText schema decision text) (old new : Option (List ℕ)) where
  pub on_whole : IsUtf8 text → (result : Result (Unit {0}) Stop) → OnOk result (TookAll old new text) → OnOk result (Written schema decision old new)
  on_whole utf8 (Ok done) took = record { text = text; is = is; utf8 = utf8; took = took }
  on_whole utf8 (Err end) took = tt

  pub on_part : (result : Result (Unit {0}) Stop) → OnErr result (TookPart old new text) → OnErr result (TookPartOf old new (IsDecisionText schema decision))
  on_part (Ok done) took = tt
  on_part (Err end) took = inr (text, is, took)
