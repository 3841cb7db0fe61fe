-- The first condition that is not sorted, and what is read where there is none.
use Rattle.std.proofs.Common.{◌≡◌, ℕ, zero, suc, ◌+◌, ◌<◌, ◌≤◌, List, [], ◌∷◌, length, Result, Ok, Err}
use Rattle.std.proofs.Common.{Bool, true, false, ap, subst, sym, ◌∙◌, ⊎_elim, arith}
use Rattle.std.specs.Prelude.{◌↔◌, Contains, Some, IfOk, IfErr, IsTrue, slice_get, slice_index_or}
use Rattle.std.specs.List.{AllZip}
use Rattle.std.proofs.lemmas.Bool.{cases_lt}
use Rattle.std.proofs.lemmas.List.{length-map}
use Rattle.std.proofs.lemmas.Option.{slice_get_within}
use Rattle.std.proofs.lemmas.Slice.Zip.{AllZip-long}
use Rattle.lists.proofs.Members.{some_injective, contains_got}
use Rattle.lists.proofs.Places.{got_indexed, got_member}
use Rattle.meaning.specs.declared.types.SchemaParts.{SchemaParts}
use Rattle.meaning.specs.declared.types.Condition.{Condition}
use Rattle.meaning.specs.declared.types.Select.{Select}
use Rattle.meaning.specs.declared.types.Statement.{Statement}
use Rattle.meaning.specs.declared.types.Operand.{Operand}
use Rattle.meaning.specs.declared.types.Operand.TheVariants.{Column, Literal}
use Rattle.meaning.specs.Sorts.{HoldsIntegers}
use Rattle.meaning.specs.Conjunctive.{IsIntegerColumn, ConditionIsSorted, SelectIsSorted}
use Rattle.access_schema.specs.declared.schema.Schema.{Schema}
use Rattle.access_schema.specs.Meaning.{meaning_of}
use Rattle.sql_select.specs.declared.fault.SqlFault.{SqlFault}
use Rattle.sql_select.specs.declared.fault.SqlFault.TheVariants as fault
use Rattle.sql_select.specs.declared.piece.RawSelect.{RawSelect}
use Rattle.sql_select.specs.Limits.{AreWithinLimits}
use Rattle.sql_select.specs.Widths.{AreAlikeWide}
use Rattle.sql_select.specs.Naming.{named_condition, named_select}
use Rattle.sql_select.specs.Statements.{IsWritten, Means, IsStatementText, IsSqlFault}
use Rattle.sql_select.specs.Sorts.{SelectsAreSorted, IsFirstWithout, condition_starts, IsFirstUnsorted}
use Rattle.sql_select.specs.Sorts.{HaveAllConditions, IsSortFault}

-- what does not hold where a test says no
pub denied : {P : Type 0} (b : Bool) → (IsTrue b ↔ P) → b ≡ false → P → ⊥
denied b iff e p = let yes : b ≡ true = iff.1 p in absurd (cc)

-- ---- the first member that is not such a one

-- each of the members before the place is one
abbrev pub AreBefore : {X : Type 0} → (X → Type 0) → List X → ℕ → Type 0
AreBefore {X} IsOne members n = (k : ℕ) (y : X) → k < n → slice_get members k ≡ Some y → IsOne y

module _ {X : Type 0} (IsOne : X → Type 0) (members : List X) where
  pub one_place : (m n : ℕ) → IsFirstWithout IsOne members m → IsFirstWithout IsOne members n → m ≡ n
  one_place m n is is' = ⊎_elim
      (λ less. absurd (is.without (is'.before m is.member less is.at)))
      (λ most. ⊎_elim
      (λ less. absurd (is'.without (is.before n is'.member less is'.at)))
      (λ least. omega (arith, most, least))
      (cases_lt n m))
      (cases_lt m n)

  pub one_member : (m n : ℕ) (is : IsFirstWithout IsOne members m) (is' : IsFirstWithout IsOne members n) →
      m ≡ n → is.member ≡ is'.member
  one_member m n is is' e =
      some_injective is.member is'.member (sym is.at ∙ ap (λ k. slice_get members k) e ∙ is'.at)

  -- the member that is looked at
  member_at : (items : List X) (n : ℕ) (x : X) → items ≡ members → n < length items →
      x ≡ slice_index_or items n x → slice_get members n ≡ Some x
  member_at items n x same low is = subst (λ xs. slice_get xs n ≡ Some x) same (got_indexed items n x low is)

  pub before_more : (items : List X) (n : ℕ) (x : X) → items ≡ members → n < length items →
      x ≡ slice_index_or items n x → AreBefore IsOne members n → IsOne x → AreBefore IsOne members (n + 1)
  before_more items n x same low is before now k y less got = ⊎_elim
      (λ earlier. before k y earlier got)
      (λ most.
      let here : n ≡ k = omega (arith, most, less) in
      let at = member_at items n x same low is in
      subst IsOne (some_injective x y (sym at ∙ ap (λ m. slice_get members m) here ∙ got)) now)
      (cases_lt k n)

  pub first_without : (items : List X) (n : ℕ) (x : X) → items ≡ members → n < length items →
      x ≡ slice_index_or items n x → AreBefore IsOne members n → (IsOne x → ⊥) → IsFirstWithout IsOne members n
  first_without items n x same low is before without =
      record { member = x; at = member_at items n x same low is; without = without; before = before }

  pub all_ones : (items : List X) (n : ℕ) → items ≡ members → length items ≤ n → AreBefore IsOne members n →
      (x : X) → Contains members x → IsOne x
  all_ones items n same most before x there =
      let (k, got) = got_member members x there in
      let within = slice_get_within members k x got in
      let long : length items ≡ length members = ap length same in
      before k x (omega (arith, within, long, most)) got

-- ---- conditions

module _ (schema : SchemaParts) (raws : List RawSelect) (selects : List Select) where
  -- selects have one first condition that is not sorted, which begins at one place
  pub one_offset : (o p : ℕ) → IsFirstUnsorted schema raws selects o → IsFirstUnsorted schema raws selects p → o ≡ p
  one_offset o p is is' =
      let here = is.in_select in
      let there = is'.in_select in
      let number : is.number ≡ is'.number = one_place (SelectIsSorted schema) selects is.number is'.number here there in
      let select : here.member ≡ there.member =
      one_member (SelectIsSorted schema) selects is.number is'.number here there number in
      let raw : is.raw ≡ is'.raw =
      some_injective is.raw is'.raw (sym is.written ∙ ap (λ k. slice_get raws k) number ∙ is'.written) in
      let first : IsFirstWithout (ConditionIsSorted schema there.member) there.member.conditions is.place =
      subst (λ (s : Select). IsFirstWithout (ConditionIsSorted schema s) s.conditions is.place) select
      is.in_condition in
      let place : is.place ≡ is'.place =
      one_place (ConditionIsSorted schema there.member) there.member.conditions is.place is'.place first
      is'.in_condition in
      let starts : slice_get (condition_starts is'.raw) is'.place ≡ Some o =
      subst (λ k. slice_get (condition_starts is'.raw) k ≡ Some o) place
      (subst (λ (r : RawSelect). slice_get (condition_starts r) is.place ≡ Some o) raw is.begins) in
      some_injective o p (sym starts ∙ is'.begins)

  pub sorted_clash : (o : ℕ) → SelectsAreSorted schema selects → IsFirstUnsorted schema raws selects o → ⊥
  sorted_clash o sorted is =
      let here = is.in_select in
      here.without (sorted here.member (contains_got selects is.number here.member here.at))

  -- each of the selects is written
  pub raw_there : (n : ℕ) → HaveAllConditions raws selects → n < length selects → n < length raws
  raw_there n have low = let long = AllZip-long _ raws selects have in omega (arith, long, low)

-- and has as many conditions as it is written with
as_many : (raws : List RawSelect) (selects : List Select) (n : ℕ) (raw : RawSelect) (select : Select) →
    HaveAllConditions raws selects → slice_get raws n ≡ Some raw → slice_get selects n ≡ Some select →
    length select.conditions ≡ length raw.conditions
as_many [] selects n raw select have at at' = absurd (cc)
as_many (r ∷ raws) [] n raw select have at at' = absurd have
as_many (r ∷ raws) (s ∷ selects) zero raw select (long, have) at at' =
    let one : r ≡ raw = some_injective r raw at in
    let other : s ≡ select = some_injective s select at' in
    ap (λ (t : Select). length t.conditions) (sym other) ∙ long ∙ ap (λ (t : RawSelect). length t.conditions) one
as_many (r ∷ raws) (s ∷ selects) (suc n) raw select (long, have) at at' =
    as_many raws selects n raw select have at at'

pub condition_there : (raws : List RawSelect) (selects : List Select) (n : ℕ) (raw : RawSelect) (select : Select)
    (IsOne : Condition → Type 0) (place : ℕ) → HaveAllConditions raws selects → slice_get raws n ≡ Some raw →
    slice_get selects n ≡ Some select → IsFirstWithout IsOne select.conditions place → place < length raw.conditions
condition_there raws selects n raw select IsOne place have at at' first =
    let long = as_many raws selects n raw select have at at' in
    let within = slice_get_within select.conditions place first.member first.at in
    omega (arith, long, within)

-- a condition that is not sorted, behind selects and conditions that are
pub first_unsorted : (schema : SchemaParts) (raws : List RawSelect) (selects : List Select) (n : ℕ) (raw : RawSelect)
    (select : Select) (place offset : ℕ) → slice_get raws n ≡ Some raw → slice_get selects n ≡ Some select →
    AreBefore (SelectIsSorted schema) selects n →
    IsFirstWithout (ConditionIsSorted schema select) select.conditions place →
    slice_get (condition_starts raw) place ≡ Some offset → IsFirstUnsorted schema raws selects offset
first_unsorted schema raws selects n raw select place offset written at before first begins = record {
  number = n;
  in_select = record {
    member = select;
    at = at;
    without = λ sorted. first.without (sorted first.member (contains_got select.conditions place first.member first.at));
    before = before;
  };
  place = place;
  in_condition = first;
  raw = raw;
  written = written;
  begins = begins;
}

-- where no column holds integers, each select is sorted
module _ (schema : SchemaParts) (none : (rel place : ℕ) → HoldsIntegers schema rel place → ⊥) where
  no_integer_column : (select : Select) (o : Operand) → IsIntegerColumn schema select o → ⊥
  no_integer_column select (Literal text) is = is
  no_integer_column select (Column from column) (rel, got, holds) = none rel column holds

  pub texts_sorted : (select : Select) → SelectIsSorted schema select
  texts_sorted select condition there = record {
    right = λ is. absurd (no_integer_column select condition.left is);
    left = λ is. absurd (no_integer_column select condition.right is);
  }

-- ---- statements

module _ (schema : Schema) (bytes : List ℕ) where
  -- what selects mean has as many conditions as they are written with
  pub all_conditions : (raws : List RawSelect) (selects : List Select) →
      AllZip (Means schema.relations bytes) raws selects → HaveAllConditions raws selects
  all_conditions [] [] means = tt
  all_conditions [] (s ∷ selects) means = absurd means
  all_conditions (raw ∷ raws) [] means = absurd means
  all_conditions (raw ∷ raws) (s ∷ selects) (m, means) =
      let long = AllZip-long _ (named_select bytes raw).conditions s.conditions m.conditions in
      (long ∙ length-map raw.conditions (named_condition bytes), all_conditions raws selects means)

  module _ (raws : List RawSelect) (selects : List Select) (written : IsWritten bytes raws)
      (within : AreWithinLimits raws) (wide : AreAlikeWide raws)
      (means : AllZip (Means schema.relations bytes) raws selects) where
    pub sorted_text : (result : Result Statement SqlFault) →
        IfOk result (λ statement. statement.selects ≡ selects) →
        IfOk result (λ statement. SelectsAreSorted (meaning_of schema) selects) →
        IfOk result (IsStatementText schema bytes)
    sorted_text (Ok statement) same sorted = record {
      raws = raws;
      written = written;
      within = within;
      wide = wide;
      means = subst (λ ss. AllZip (Means schema.relations bytes) raws ss) (sym same) means;
      sorted = subst (λ ss. SelectsAreSorted (meaning_of schema) ss) (sym same) sorted;
    }
    sorted_text (Err f) same sorted = tt

    sort_fault : (f : SqlFault) → IsSortFault (meaning_of schema) raws selects f → IsSqlFault schema bytes f
    sort_fault (fault.WrongSort o) h = record {
      raws = raws;
      written = written;
      within = within;
      wide = wide;
      selects = selects;
      means = means;
      first = h;
    }
    sort_fault _ h = absurd h

    pub sort_is_sql : (result : Result Statement SqlFault) →
        IfErr result (IsSortFault (meaning_of schema) raws selects) → IfErr result (IsSqlFault schema bytes)
    sort_is_sql (Ok statement) h = tt
    sort_is_sql (Err f) h = sort_fault f h
