-- The labels that stand for integers, and those that stand for texts, with their texts.
use Rattle.std.proofs.Common.{◌≡◌, ◌↔◌, sym, subst, ℕ, List, length}
use Rattle.std.specs.Prelude.{Contains}
use Rattle.std.specs.List.Sorted.{IsStrictlyIncreasing}
use Rattle.meaning.specs.declared.types.Ground.{Ground}
use Rattle.meaning.specs.declared.types.SchemaParts.{SchemaParts}
use Rattle.meaning.specs.declared.types.Sort.TheVariants.{Text, Int}
use Rattle.no_plan_witness.specs.Texts.{labels_in, StandsForInteger, StandsForText, AreFirstFree, Column, IsColumnOf}
use Rattle.no_plan_witness.specs.Standing.{integers_in}
use Rattle.no_plan_witness.proofs.Standing.{stands}

module _ (schema : SchemaParts) (constants : List (List ℕ)) (facts : List Ground) where
  pub integers_column : (integers : List ℕ) (column : Column) → IsStrictlyIncreasing integers → ((k : ℕ) → Contains integers k ↔ Contains (integers_in schema facts) k) → column.labels ≡ integers → AreFirstFree Int constants column.texts → length column.texts ≡ length column.labels → IsColumnOf (StandsForInteger schema facts) Int constants column
  integers_column integers column ascend exactly is free many = record {
    ascend = subst IsStrictlyIncreasing (sym is) ascend;
    exactly = λ k. (
      (λ c. (stands schema facts k).0 ((exactly k).0 (subst (λ l. Contains l k) is c))),
      (λ s. subst (λ l. Contains l k) (sym is) ((exactly k).1 ((stands schema facts k).1 s))),
    );
    texts_are = free;
    as_many = many;
  }

  pub others_column : (labels shown integers hidden others : List ℕ) (column : Column) → shown ≡ labels → hidden ≡ integers → ((k : ℕ) → Contains labels k ↔ Contains (labels_in facts) k) → ((k : ℕ) → Contains integers k ↔ Contains (integers_in schema facts) k) → IsStrictlyIncreasing others → ((k : ℕ) → Contains others k → Contains shown k) → ((k : ℕ) → Contains others k → Contains hidden k → ⊥) → ((k : ℕ) → Contains shown k → (Contains hidden k → ⊥) → Contains others k) → column.labels ≡ others → AreFirstFree Text constants column.texts → length column.texts ≡ length column.labels → IsColumnOf (StandsForText schema facts) Text constants column
  others_column labels shown integers hidden others column same alike occur exactly ascend within apart all is free many = record {
    ascend = subst IsStrictlyIncreasing (sym is) ascend;
    exactly = λ k. (
      (λ c.
          let among : Contains others k = subst (λ l. Contains l k) is c in (
            (occur k).0 (subst (λ l. Contains l k) same (within k among)),
            (λ s. apart k among (subst (λ l. Contains l k) (sym alike) ((exactly k).1 ((stands schema facts k).1 s)))),
          )),
      (λ (c, none). subst (λ l. Contains l k) (sym is)
          (all k (subst (λ l. Contains l k) (sym same) ((occur k).1 c))
          (λ h. none ((stands schema facts k).0 ((exactly k).0 (subst (λ l. Contains l k) alike h)))))),
    );
    texts_are = free;
    as_many = many;
  }
