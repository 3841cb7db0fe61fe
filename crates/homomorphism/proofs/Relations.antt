-- Lists of relations, and lists of values by their codes.
use Rattle.std.proofs.Common.{◌≡◌, ℕ, List, [], Some, None, refl, sym, ap, subst}
use Rattle.std.specs.Prelude.{unwrap_or}
use Rattle.std.specs.Ordering.{nat_cmp}
use Rattle.std.specs.BTreeMap.{BTreeMap, get, is_at}
use Rattle.std.specs.Map.{lookup}
use Rattle.homomorphism.specs.Listed.{listed, found_at, of_relation, IsValue}
use Rattle.homomorphism.specs.declared.key.Key.{Key}
use Rattle.homomorphism.specs.declared.key.Key.TheVariants.{Relation, Value}
use Rattle.homomorphism.specs.declared.key_lists.KeyLists.{KeyLists}

pub found_relation : (relations : BTreeMap ℕ (List ℕ)) (rel : ℕ) (numbers : List ℕ) → Some numbers ≡ get nat_cmp relations rel → numbers ≡ of_relation relations rel
unfolding of_relation
found_relation relations rel numbers at = ap (λ o. unwrap_or o []) at

pub no_relation : (relations : BTreeMap ℕ (List ℕ)) (rel : ℕ) → None ≡ get nat_cmp relations rel → [] ≡ of_relation relations rel
unfolding of_relation
no_relation relations rel at = ap (λ o. unwrap_or o []) at

pub at_relation : (relations : BTreeMap ℕ (List ℕ)) (rel : ℕ) (numbers : List ℕ) → get nat_cmp relations rel ≡ Some numbers → of_relation relations rel ≡ numbers
at_relation relations rel numbers at = sym (found_relation relations rel numbers (sym at))

pub same_relation : (was now : BTreeMap ℕ (List ℕ)) (rel : ℕ) → get nat_cmp now rel ≡ get nat_cmp was rel → of_relation now rel ≡ of_relation was rel
unfolding of_relation
same_relation was now rel e = ap (λ o. unwrap_or o []) e

-- the list of a key is that of the relation, or the one by the key's code
pub listed_relation : (lists : KeyLists) (rel : ℕ) → listed lists (Relation rel) ≡ of_relation lists.relations rel
unfolding listed
listed_relation lists rel = refl

pub listed_value : (lists : KeyLists) (key : Key) → IsValue key → listed lists key ≡ found_at lists.values key
unfolding listed
listed_value lists key (rel, position, val, e) = subst (λ k. listed lists k ≡ found_at lists.values k) (sym e) refl

module _ (was now : KeyLists) where
  -- the list of one relation is changed
  pub relation_apart : (rel : ℕ) → now.values ≡ was.values → ((other : ℕ) → (other ≡ rel → ⊥) → get nat_cmp now.relations other ≡ get nat_cmp was.relations other) →
      (other : Key) → (other ≡ Relation rel → ⊥) → listed now other ≡ listed was other
  unfolding listed
  relation_apart rel same apart (Relation other) differ = same_relation was.relations now.relations other (apart other (λ e. differ (ap Relation e)))
  relation_apart rel same apart (Value other position val) differ = ap (λ lists. found_at lists (Value other position val)) same

  pub relations_same : now.values ≡ was.values → ((other : ℕ) → get nat_cmp now.relations other ≡ get nat_cmp was.relations other) → (other : Key) → listed now other ≡ listed was other
  unfolding listed
  relations_same same all (Relation other) = same_relation was.relations now.relations other (all other)
  relations_same same all (Value other position val) = ap (λ lists. found_at lists (Value other position val)) same

  -- the list of one value is changed
  pub value_apart : (key : Key) → now.relations ≡ was.relations → ((other : Key) → (other ≡ key → ⊥) → found_at now.values other ≡ found_at was.values other) →
      (other : Key) → (other ≡ key → ⊥) → listed now other ≡ listed was other
  unfolding listed
  value_apart key same apart (Relation other) differ = ap (λ relations. of_relation relations other) same
  value_apart key same apart (Value other position val) differ = apart (Value other position val) differ

  pub values_same : now.relations ≡ was.relations → ((other : Key) → found_at now.values other ≡ found_at was.values other) → (other : Key) → listed now other ≡ listed was other
  unfolding listed
  values_same same all (Relation other) = ap (λ relations. of_relation relations other) same
  values_same same all (Value other position val) = all (Value other position val)

pub new_relations : (lists : KeyLists) → lists.relations.entries ≡ [] → ((key : Key) → found_at lists.values key ≡ []) → (key : Key) → listed lists key ≡ []
unfolding listed of_relation
new_relations lists none values (Relation rel) = ap (λ es. unwrap_or (lookup (is_at (nat_cmp rel)) es) []) none
new_relations lists none values (Value rel position val) = values (Value rel position val)
