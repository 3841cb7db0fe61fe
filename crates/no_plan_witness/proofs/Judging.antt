-- The first rule that is not met, and the first fact that is missing.
use Rattle.std.proofs.Common.{◌≡◌, ◌↔◌, ◌<◌, ◌≤◌, ◌+◌, ◌∙◌, sym, ap, subst, ℕ, List, Bool, true, false, length, get_or, Some, refl, ⊎_elim, arith, slice_get}
use Rattle.std.specs.Prelude.{IsTrue}
use Rattle.std.proofs.lemmas.Bool.{cases_lt}
use Rattle.std.proofs.lemmas.Option.{slice_get_read}
use Rattle.lists.proofs.Members.{some_injective, contains_got}
use Rattle.lists.proofs.Places.{got_contained}
use Rattle.meaning.specs.declared.types.Fact.{Fact}
use Rattle.meaning.specs.declared.types.SchemaParts.{SchemaParts}
use Rattle.meaning.specs.declared.types.Statement.{Statement}
use Rattle.meaning.specs.Instances.{IsInstance}
use Rattle.meaning.specs.Matching.{Meets}
use Rattle.meaning.specs.Answers.{Answers}
use Rattle.meaning.specs.Access.{IsAccessible}
use Rattle.meaning.specs.Claims.{Refutes}
use Rattle.data_verify.specs.declared.broken.Broken.{Broken}
use Rattle.data_verify.specs.Breaking.{IsFirstBroken}
use Rattle.findings.specs.declared.refutation.Witness.{Witness}
use Rattle.no_plan_witness.specs.declared.fault.WitnessFault.{WitnessFault}
use Rattle.no_plan_witness.specs.declared.fault.WitnessFault.TheVariants.{NoMemory, RuleBroken, NotIncluded, NotAnswered, StillAnswered}
use Rattle.no_plan_witness.specs.declared.fault.Which.TheVariants.{First, Second}
use Rattle.no_plan_witness.specs.Judging.{IsFirstUnmet, IsIncluded, IsFirstMissing, IsFault}

-- a rule that some assignment breaks is not met
pub broken_unmet : (schema : SchemaParts) (facts : List Fact) (broken : Broken) → IsFirstBroken facts schema.rules broken → IsFirstUnmet schema facts broken.rule
broken_unmet schema facts broken is = record {
  rule = is.rule;
  numbered = is.numbered;
  unmet = λ meets. let (a, breaks, e) = is.least.come in let (b, extends) = meets a breaks.body in breaks.unmet b extends;
  before = is.before;
}

-- the first facts up to a place are accessible of the second where they are of the first
abbrev pub SharedBefore : SchemaParts → List (List ℕ) → List Fact → List Fact → ℕ → Type 0
SharedBefore schema constants first second n =
    (k : ℕ) (other : Fact) → k < n → slice_get first k ≡ Some other → IsAccessible schema constants first other → IsAccessible schema constants second other

module _ (schema : SchemaParts) (constants : List (List ℕ)) (first second : List Fact) where
  pub shared_more : (items : List Fact) (n : ℕ) (fact : Fact) → items ≡ first → n < length items → fact ≡ get_or items n fact → SharedBefore schema constants first second n → (IsAccessible schema constants first fact → IsAccessible schema constants second fact) → SharedBefore schema constants first second (n + 1)
  shared_more items n fact same l is shared here k other low at accessible = ⊎_elim
      (λ (less : k < n). shared k other less at accessible)
      (λ (more : n ≤ k).
      let place : k ≡ n = omega arith in
      let there : slice_get first n ≡ Some fact = ap (λ facts. slice_get facts n) (sym same) ∙ slice_get_read items (length items) n fact refl l is in
      let e : fact ≡ other = some_injective fact other (sym there ∙ sym (ap (slice_get first) place) ∙ at) in
      subst (IsAccessible schema constants second) e (here (subst (IsAccessible schema constants first) (sym e) accessible)))
      (cases_lt k n)

  pub shared_all : (items : List Fact) (n : ℕ) → items ≡ first → length items ≤ n → SharedBefore schema constants first second n → IsIncluded schema constants first second
  shared_all items n same l shared fact (earlier, path) =
      let many : length items ≡ length first = ap length same in
      let (k, low, e) = path.0 in
      shared k fact (omega arith) (got_contained first fact path.0) (earlier, path)

  pub missing_at : (items : List Fact) (n : ℕ) (fact : Fact) → items ≡ first → n < length items → fact ≡ get_or items n fact → SharedBefore schema constants first second n → IsAccessible schema constants first fact → (IsAccessible schema constants second fact → ⊥) → IsFirstMissing schema constants first second fact
  missing_at items n fact same l is shared accessible missing = record {
    place = n;
    there = ap (λ facts. slice_get facts n) (sym same) ∙ slice_get_read items (length items) n fact refl l is;
    accessible = accessible;
    missing = missing;
    before = shared;
  }

-- what the tests together say of a pair
module _ (schema : SchemaParts) (constants known : List (List ℕ)) (same : constants ≡ known) (statement : Statement) (pair : Witness) (one : Meets pair.first schema) (two : Meets pair.second schema) (included : IsIncluded schema constants pair.first pair.second) (answers : Bool) (answered : IsTrue answers ↔ Answers statement pair.first pair.answer) where
  within : IsIncluded schema known pair.first pair.second
  within = subst (λ (texts : List (List ℕ)). IsIncluded schema texts pair.first pair.second) same included

  pub not_answered : answers ≡ false → IsFault schema known statement pair NotAnswered
  not_answered other = ((one, two), within, λ a. let holds = answered.1 a in (cc))

  pub still_answered : answers ≡ true → (still : Bool) → still ≡ true → (IsTrue still ↔ Answers statement pair.second pair.answer) → IsFault schema known statement pair StillAnswered
  still_answered holds still is answers_still = ((one, two), within, answered.0 holds, answers_still.0 is)

  pub refuted : answers ≡ true → (still : Bool) → still ≡ false → (IsTrue still ↔ Answers statement pair.second pair.answer) → IsInstance schema pair.first → IsInstance schema pair.second → Refutes schema known statement pair.first pair.second pair.answer
  refuted holds still other answers_still fits fits_too = record {
    first_meets = record { fits = fits; meets = one };
    second_meets = record { fits = fits_too; meets = two };
    included = within;
    answered = answered.0 holds;
    not_answered = λ a. let is = answers_still.1 a in (cc);
  }

-- each fault but a lack of memory contradicts a part of a refutation
pub faulty : (schema : SchemaParts) (constants : List (List ℕ)) (statement : Statement) (pair : Witness) (fault : WitnessFault) → IsFault schema constants statement pair fault → Refutes schema constants statement pair.first pair.second pair.answer → fault ≡ NoMemory
faulty schema constants statement pair NoMemory is refutes = refl
faulty schema constants statement pair (RuleBroken number First) is refutes =
    absurd (is.unmet (refutes.first_meets.meets is.rule (contains_got schema.rules number is.rule is.numbered)))
faulty schema constants statement pair (RuleBroken number Second) (one, is) refutes =
    absurd (is.unmet (refutes.second_meets.meets is.rule (contains_got schema.rules number is.rule is.numbered)))
faulty schema constants statement pair (NotIncluded fact) (both, is) refutes = absurd (is.missing (refutes.included fact is.accessible))
faulty schema constants statement pair NotAnswered (both, within, none) refutes = absurd (none refutes.answered)
faulty schema constants statement pair StillAnswered (both, within, one, still) refutes = absurd (refutes.not_answered still)
