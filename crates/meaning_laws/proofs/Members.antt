-- Of an instance only membership counts.
use Rattle.std.proofs.Common.{ℕ, List, [], ◌∷◌}
use Rattle.meaning.specs.declared.types.Fact.{Fact}
use Rattle.meaning.specs.declared.types.SchemaParts.{SchemaParts}
use Rattle.meaning.specs.declared.types.Statement.{Statement}
use Rattle.meaning.specs.Instances.{IsWithin}
use Rattle.meaning.specs.Answers.{IsChoice, Answers}
use Rattle.meaning.specs.Access.{IsAccessPath}
use Rattle.meaning.specs.Claims.{IsModel, Refutes}

choice_within : (first second : List Fact) → IsWithin first second → (froms : List ℕ) (rows : List (List (List ℕ))) → IsChoice first froms rows → IsChoice second froms rows
choice_within first second within [] [] z = tt
choice_within first second within [] (row ∷ rows) z = absurd z
choice_within first second within (rel ∷ froms) [] z = absurd z
choice_within first second within (rel ∷ froms) (row ∷ rows) (holds, z) = (within (record { rel = rel; row = row }) holds, choice_within first second within froms rows z)

pub answers_within : (first second : List Fact) (statement : Statement) (row : List (List ℕ)) → IsWithin first second → Answers statement first row → Answers statement second row
answers_within first second statement row within (select, among, (rows, choice, hold, e)) = (select, among, (rows, choice_within first second within select.froms rows choice, hold, e))

trail_within : (schema : SchemaParts) (constants : List (List ℕ)) (first second trail : List Fact) → IsWithin first second → IsAccessPath schema constants first trail → IsAccessPath schema constants second trail
trail_within schema constants first second [] within t = tt
trail_within schema constants first second (fact ∷ earlier) within (holds, access, t) = (within fact holds, access, trail_within schema constants first second earlier within t)

model_alike : (schema : SchemaParts) (first second : List Fact) → IsWithin first second → IsWithin second first → IsModel schema first → IsModel schema second
model_alike schema first second to from model = record {
  fits = λ fact c. model.fits fact (from fact c);
  meets = λ rule among a body. let (b, ext) = model.meets rule among a (λ atom c. from _ (body atom c)) in
      (b, record { agrees = ext.agrees; head = λ atom c. to _ (ext.head atom c) });
}

-- a pair refutes whatever lists hold its facts
pub refutes_alike : (schema : SchemaParts) (constants : List (List ℕ)) (statement : Statement) (first second other another : List Fact) (row : List (List ℕ)) → IsWithin first other → IsWithin other first → IsWithin second another → IsWithin another second → Refutes schema constants statement first second row → Refutes schema constants statement other another row
refutes_alike schema constants statement first second other another row to from on back pair = record {
  first_meets = model_alike schema first other to from pair.first_meets;
  second_meets = model_alike schema second another on back pair.second_meets;
  included = λ fact (earlier, t). let (before, u) = pair.included fact (earlier, trail_within schema constants other first (fact ∷ earlier) from t) in (before, trail_within schema constants second another (fact ∷ before) on u);
  answered = answers_within first other statement row to pair.answered;
  not_answered = λ answer. pair.not_answered (answers_within another second statement row back answer);
}
