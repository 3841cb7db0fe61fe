-- What is found of facts that came in several parts.
use Rattle.std.proofs.Common.{◌≡◌, ◌↔◌, ◌⊎◌, ◌∙◌, ◌<◌, ◌≤◌, ℕ, Bool, true, false, cond, List, Option, None, Some, refl, sym, subst, inl, inr, ⊎_elim, arith}
use Rattle.std.specs.Prelude.{◌&&◌, Contains, nat_eq, nat_lt, nat_le}
use Rattle.std.proofs.lemmas.Bool.{cases_lt}
use Rattle.std.proofs.lemmas.Bool.Decides.{nat_tests}
use Rattle.lists.proofs.Booleans.{both_true, both_false, one_true}
use Rattle.meaning.specs.declared.types.Fact.{Fact}
use Rattle.meaning.specs.declared.types.SchemaParts.{SchemaParts}
use Rattle.meaning.specs.Matching.{itself}
use Rattle.meaning.specs.Sorts.{AreSorted}
use Rattle.meaning.specs.Values.{Row}
use Rattle.access_schema.specs.BadValues.{IsOtherAt}
use Rattle.bad_numbers.specs.declared.found.BadNumber.{BadNumber}
use Rattle.bad_numbers.specs.Numbers.{FindsBad}
use Rattle.bad_numbers.specs.Found.{of_relation, stands_first, earlier_of, IsBadAmong, IsFirstBad, FindsAmong}

-- the bad number is not behind this column of this relation
abbrev Leads : BadNumber → ℕ → ℕ → Type 0
Leads found rel column = (found.rel < rel) ⊎ ((found.rel ≡ rel) × (found.column ≤ column))

leads_through : (one other : BadNumber) (rel column : ℕ) → Leads one other.rel other.column → Leads other rel column → Leads one rel column
leads_through one other rel column first second = ⊎_elim
    (λ low. ⊎_elim (λ lower. inl (omega arith)) (λ (same, left). inl (omega arith)) second)
    (λ (same, left). ⊎_elim (λ lower. inl (omega arith)) (λ (too, right). inr (omega arith, omega arith)) second)
    first

first_leads : (one other : BadNumber) → stands_first one other ≡ true → Leads one other.rel other.column
first_leads one other is = ⊎_elim
    (λ low. inl (grind (arith, nat_tests)))
    (λ both. let parts = both_true (nat_eq one.rel other.rel) (nat_le one.column other.column) both in inr (grind (arith, nat_tests, parts.0), grind (arith, nat_tests, parts.1)))
    (one_true (nat_lt one.rel other.rel) (nat_eq one.rel other.rel && nat_le one.column other.column) is)

other_leads : (one other : BadNumber) → stands_first one other ≡ false → Leads other one.rel one.column
other_leads one other is =
    let parts = both_false (nat_lt one.rel other.rel) (nat_eq one.rel other.rel && nat_le one.column other.column) is in
    let high : other.rel ≤ one.rel = grind (arith, nat_tests, parts.0) in
    ⊎_elim inl
    (λ low. let same : other.rel ≡ one.rel = omega arith in inr (same, grind (arith, nat_tests, parts.1)))
    (cases_lt other.rel one.rel)

module _ (schema : SchemaParts) where
  none_among : (IsOne : Fact → Type 0) (rel column : ℕ) → ((fact : Fact) → IsOne fact → AreSorted itself schema fact.rel fact.row) → IsBadAmong schema IsOne rel column → ⊥
  none_among IsOne rel column each (fact, is, of, (value, holds, got, other)) = other (each fact is column value holds got)

  among_cases : (P Q : Fact → Type 0) (rel column : ℕ) → IsBadAmong schema (λ fact. P fact ⊎ Q fact) rel column → IsBadAmong schema P rel column ⊎ IsBadAmong schema Q rel column
  among_cases P Q rel column (fact, is, of, other) = ⊎_elim (λ p. inl (fact, p, of, other)) (λ q. inr (fact, q, of, other)) is

  among_left : (P Q : Fact → Type 0) (rel column : ℕ) → IsBadAmong schema P rel column → IsBadAmong schema (λ fact. P fact ⊎ Q fact) rel column
  among_left P Q rel column (fact, is, of, other) = (fact, inl is, of, other)

  among_right : (P Q : Fact → Type 0) (rel column : ℕ) → IsBadAmong schema Q rel column → IsBadAmong schema (λ fact. P fact ⊎ Q fact) rel column
  among_right P Q rel column (fact, is, of, other) = (fact, inr is, of, other)

  -- of no facts nothing is found
  pub nothing_found : (IsOne : Fact → Type 0) → ((fact : Fact) → IsOne fact → ⊥) → FindsAmong schema IsOne None
  nothing_found IsOne none = λ fact is. absurd (none fact is)

  -- of the facts of two parts the earlier one is found
  pub earlier_found : (P Q : Fact → Type 0) (first second : Option BadNumber) → FindsAmong schema P first → FindsAmong schema Q second
      → FindsAmong schema (λ fact. P fact ⊎ Q fact) (earlier_of first second)
  earlier_found P Q None None left right = λ fact. ⊎_elim (left fact) (right fact)
  earlier_found P Q None (Some other) left right = record {
    bad = among_right P Q other.rel other.column right.bad;
    first = λ rel column bad. ⊎_elim (λ b. absurd (none_among P rel column left b)) (right.first rel column) (among_cases P Q rel column bad);
  }
  earlier_found P Q (Some one) None left right = record {
    bad = among_left P Q one.rel one.column left.bad;
    first = λ rel column bad. ⊎_elim (left.first rel column) (λ b. absurd (none_among Q rel column right b)) (among_cases P Q rel column bad);
  }
  earlier_found P Q (Some one) (Some other) left right = by (stands_first one other) refl
    where
      by : (b : Bool) → stands_first one other ≡ b → IsFirstBad schema (λ fact. P fact ⊎ Q fact) (cond b one other)
      by true is = record {
        bad = among_left P Q one.rel one.column left.bad;
        first = λ rel column bad. ⊎_elim (left.first rel column) (λ b. leads_through one other rel column (first_leads one other is) (right.first rel column b)) (among_cases P Q rel column bad);
      }
      by false is = record {
        bad = among_right P Q other.rel other.column right.bad;
        first = λ rel column bad. ⊎_elim (λ b. leads_through other one rel column (other_leads one other is) (left.first rel column b)) (right.first rel column) (among_cases P Q rel column bad);
      }

  -- of the same facts the same is found
  pub same_found : (P Q : Fact → Type 0) (found : Option BadNumber) → ((fact : Fact) → P fact ↔ Q fact) → FindsAmong schema P found → FindsAmong schema Q found
  same_found P Q None same each = λ fact is. each fact ((same fact).1 is)
  same_found P Q (Some one) same is = record {
    bad = let (fact, its, of, other) = is.bad in (fact, (same fact).0 its, of, other);
    first = λ rel column (fact, its, of, other). is.first rel column (fact, (same fact).1 its, of, other);
  }

  -- of the facts of a relation that have these rows the column is found that is found of the rows
  pub rows_found : (rel : ℕ) (rows : List Row) (found : Option ℕ) → FindsBad schema rel rows found
      → FindsAmong schema (λ fact. (rel ≡ fact.rel) × Contains rows fact.row) (of_relation rel found)
  rows_found rel rows None each = λ fact (same, among). subst (λ r. AreSorted itself schema r fact.row) same (each fact.row among)
  rows_found rel rows (Some column) is = record {
    bad = let (row, among, other) = is.bad in (record { rel = rel; row = row }, (refl, among), refl, other);
    first = λ its column (fact, (same, among), of, other). inr (
      same ∙ of,
      is.least column (fact.row, among, subst (λ (f : Fact). IsOtherAt schema f column) (λ i. record { rel = sym same i; row = fact.row }) other),
    );
  }
