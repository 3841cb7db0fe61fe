-- The bad numbers of answers: found answer by answer, and received of an instance that gave the answers.
use Rattle.std.proofs.Common.{ℕ, List, [], ◌∷◌, ◌++◌, Option, None, Some}
use Rattle.lists.proofs.Members.{contains_none}
use Rattle.meaning.specs.declared.types.Fact.{Fact}
use Rattle.meaning.specs.declared.types.SchemaParts.{SchemaParts}
use Rattle.bad_numbers.specs.declared.found.BadNumber.{BadNumber}
use Rattle.bad_numbers.specs.Found.{of_relation, earlier_of, FindsAmong}
use Rattle.bad_numbers.specs.Numbers.{FindsBad, ReceiveIntegers, ReceiveFirstBad}
use Rattle.bad_numbers.proofs.Among.{nothing_found, earlier_found, same_found, rows_found}
use Rattle.bad_numbers.proofs.Received.{found_among}
use Rattle.crawl_rounds.specs.Log.{Answered, requests_of, AreOf, IsAmong}
use Rattle.crawl_rounds.proofs.Logging.{among_received}
use Rattle.crawl.specs.Numbers.{BringIntegers, BringFirstBad}
use Rattle.crawl.specs.Progress.{IsRowOf}
use Rattle.crawl.proofs.Gaining.{among_push}

module _ (schema : SchemaParts) where
  -- ---- answer by answer

  pub found_first : FindsAmong schema (IsAmong []) None
  found_first = nothing_found schema (IsAmong []) (λ f (a, c, rel, has). contains_none a c)

  pub found_more : (answers : List Answered) (one : Answered) (found : Option BadNumber) (column : Option ℕ) → FindsAmong schema (IsAmong answers) found → FindsBad schema one.request.rel one.rows column
      → FindsAmong schema (IsAmong (answers ++ one ∷ [])) (earlier_of found (of_relation one.request.rel column))
  found_more answers one found column first last =
      same_found schema _ (IsAmong (answers ++ one ∷ [])) (earlier_of found (of_relation one.request.rel column)) (λ f. ((among_push answers one f).1, (among_push answers one f).0))
      (earlier_found schema (IsAmong answers) (IsRowOf one.request.rel one.rows) found (of_relation one.request.rel column) first (rows_found schema one.request.rel one.rows column last))

  -- ---- of an instance that gave them

  module _ (facts : List Fact) (answers : List Answered) (are : AreOf facts answers) where
    pub receive_integers : BringIntegers schema answers → ReceiveIntegers schema facts (requests_of answers)
    receive_integers = found_among schema facts (requests_of answers) (IsAmong answers) None (among_received facts answers are)

    pub receive_first : (rel column : ℕ) → BringFirstBad schema answers rel column → ReceiveFirstBad schema facts (requests_of answers) rel column
    receive_first rel column =
        found_among schema facts (requests_of answers) (IsAmong answers) (Some (record { rel = rel; column = column })) (among_received facts answers are)
