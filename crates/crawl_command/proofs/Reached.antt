-- What the answers on the facts of a crawl say of the instance that the lanes hold.
use Rattle.std.proofs.Common.{◌≡◌, ◌↔◌, ℕ, List, Option, Result, Ok}
use Rattle.std.specs.List.{All}
use Rattle.std.specs.Prelude.{Contains}
use Rattle.std.proofs.lemmas.List.Elements.{All-from_recursion}
use Rattle.lists.proofs.Members.{all_from}
use Rattle.meaning.specs.declared.types.Fact.{Fact}
use Rattle.meaning.specs.declared.types.Statement.{Statement}
use Rattle.meaning.specs.Answers.{Answers}
use Rattle.meaning_laws.proofs.Members.{answers_within}
use Rattle.access_schema.specs.declared.schema.Schema.{Schema}
use Rattle.access_schema.specs.Meaning.{meaning_of}
use Rattle.row_text.specs.RowText.{IsRowText}
use Rattle.row_text.proofs.Texts.{IsRowText-alike}
use Rattle.sql_select.specs.Statements.{StatementFits, result_names}
use Rattle.sql_conjunctive.specs.Rows.{FitsWithFew}
use Rattle.source_trait.specs.Asking.{Seen}
use Rattle.source_trait.specs.declared.lanes.Lane.{Lane}
use Rattle.command_io.specs.declared.stop.Stop.{Stop}
use Rattle.command_io.specs.Executing.{Delivers}
use Rattle.command_io.proofs.Delivering.{delivers_as}
use Rattle.crawl_command.specs.Ends.{CrawlsOrStops}
use Rattle.crawl_command.specs.Reach.{IsReached}

-- each select of a statement that fits fits too, and has few FROM items
pub each_fits : (schema : Schema) (statement : Statement) → StatementFits schema statement →
    All (FitsWithFew (meaning_of schema)) statement.selects
each_fits schema statement fits = All-from_recursion (FitsWithFew (meaning_of schema)) statement.selects
    (all_from (FitsWithFew (meaning_of schema)) statement.selects
    (λ select among. record { fits = fits.fits select among; few = (fits.bounded select among).froms }))

-- the text of rows that are the answers
pub answers_told : (statement : Statement) (part : List Fact) (names : List (List ℕ)) (packed rows : List (List (List ℕ))) →
    names ≡ result_names statement.selects → packed ≡ rows → ((row : List (List ℕ)) → Contains rows row ↔ Answers statement part row) →
    (text : List ℕ) → IsRowText names (Contains packed) text → IsRowText (result_names statement.selects) (Answers statement part) text
answers_told statement part names packed rows named same members text is =
    IsRowText-alike (result_names statement.selects) (Contains rows) (Answers statement part) text members (rw (named, same) at is)

module _ {S : Type 0} (seen : S → Seen) (schema : Schema) (statement : Statement) (calls : ℕ) (old new : List (Lane S)) where
  -- the text of the answers on the facts that came is the result
  reached_by : (part : List Fact) (text : List ℕ) → CrawlsOrStops seen schema calls old new (Ok part) →
      IsRowText (result_names statement.selects) (Answers statement part) text → IsReached seen schema statement new part text
  reached_by part text crawls given = record {
    given = given;
    reached = λ instance facts holds are.
        IsRowText-alike (result_names statement.selects) (Answers statement part) (Answers statement facts) text
        (λ row. (
          answers_within part facts statement row (λ fact among. (are fact).1 ((crawls.facts instance holds fact).0 among)),
          answers_within facts part statement row (λ fact among. (crawls.facts instance holds fact).1 ((are fact).0 among)),
        )) given;
    sound = λ instance holds row.
        answers_within part instance statement row (λ fact among. ((crawls.facts instance holds fact).0 among).1.0);
  }

  -- so the answers are delivered as the result
  pub delivered : (out_old out_new : Option (List ℕ)) (rose : Type 0) (result : Result (Unit {0}) Stop) →
      Delivers (CrawlsOrStops seen schema calls old new) (λ part. IsRowText (result_names statement.selects) (Answers statement part))
      out_old out_new rose result →
      Delivers (CrawlsOrStops seen schema calls old new) (IsReached seen schema statement new) out_old out_new rose result
  delivered out_old out_new rose =
      delivers_as (CrawlsOrStops seen schema calls old new) (λ part. IsRowText (result_names statement.selects) (Answers statement part))
      out_old out_new rose (CrawlsOrStops seen schema calls old new) (IsReached seen schema statement new) (λ ended ran. ran) reached_by
