-- Parts without faults make a schema: its relations, methods and sources.
use Rattle.std.proofs.Common.{◌≡◌, ◌⊎◌, ◌+◌, ◌<◌, ◌≤◌, ◌∙◌, sym, ap, subst, ℕ, zero, suc, List, [], ◌∷◌, Bool, true, false, not, Option, Some, None, length, take, slice_get, refl, arith, inl, inr, ⊎_elim, nat_le, nat_lt}
use Rattle.std.specs.Prelude.{if◌then◌else◌}
use Rattle.std.specs.Prelude.{Contains, filter, filter_map, option_map}
use Rattle.std.specs.List.{list_any}
use Rattle.std.proofs.lemmas.Bool.{cases_Bool}
use Rattle.std.proofs.lemmas.Bool.Decides.{nat_tests}
use Rattle.meaning.specs.declared.types.Relation.{Relation}
use Rattle.meaning.specs.declared.types.Method.{Method}
use Rattle.meaning.specs.declared.types.Sort.{Sort}
use Rattle.access_schema.specs.declared.part.Part.{Part}
use Rattle.access_schema.specs.declared.part.Part.TheVariants.{Relation as RelationPart, Method as MethodPart, Rule as RulePart, ForeignKey as KeyPart, Constant as ConstantPart, Source as SourcePart}
use Rattle.access_schema.specs.declared.schema.SourceLine.{SourceLine}
use Rattle.access_schema.specs.declared.limits.TheConstants.{MOST_RELATIONS, MOST_METHODS, MOST_COLUMNS, MOST_COST}
use Rattle.access_schema.specs.Names.{AllDiffer}
use Rattle.access_schema.specs.Lists.{is_among}
use Rattle.access_schema.specs.Content.{relation_of, relations_of, is_named, is_declared, number_of, columns_in, columns_of, places_from, method_of, methods_of, source_of, sources_of}
use Rattle.std.specs.Prelude.{nat_eq}
use Rattle.std.specs.Cmp.Lexicographic.{pointwise}
use Rattle.access_schema.specs.Invariant.{AreColumns, AreRelations, AreMethods, AreSources}
use Rattle.access_schema.specs.Faults.{is_relation, is_method, is_relation_named, is_method_named, is_source_of, is_outside, is_unknown, repeats_name, AreFaultless, AreNamed, HaveSorts}
use Rattle.lists.proofs.Members.{contains_got, some_injective}
use Rattle.lists.proofs.Booleans.{both_false}
use Rattle.lists.proofs.Orders.{text_is}
use Rattle.lists.proofs.Places.{got_contained}
use Rattle.access_schema.proofs.Texts.{text_same, none_at, place_holds, find_place, differ_from_repeats}
use Rattle.access_schema.proofs.Prefixes.{given_by, differ_all, few_all, given_mapped}
use Rattle.access_schema.proofs.LeastFault.{number_within}
use Rattle.access_schema.proofs.Clean.{clean_at}

-- how many relations the parts declare
cons_counted : {X Y : Type 0} (p : X → Bool) (h : X → Option Y) (x : X) (xs : List X) → ((h x ≡ None) × (p x ≡ false)) ⊎ ((y : Y) × (h x ≡ Some y) × (p x ≡ true)) → length (filter_map h xs) ≡ length (filter p xs) → length (filter_map h (x ∷ xs)) ≡ length (filter p (x ∷ xs))
cons_counted p h x xs agree same = ⊎_elim
    (λ (none, fails). rw (none, fails) same)
    (λ (y, gives, holds). rw (gives, holds) (ap suc same))
    agree

pub counted : {X Y : Type 0} (p : X → Bool) (h : X → Option Y) → ((x : X) → ((h x ≡ None) × (p x ≡ false)) ⊎ ((y : Y) × (h x ≡ Some y) × (p x ≡ true))) → (xs : List X) → length (filter_map h xs) ≡ length (filter p xs)
counted p h agree [] = refl
counted p h agree (x ∷ xs) = cons_counted p h x xs (agree x) (counted p h agree xs)

pub relation_agrees : (part : Part) → ((relation_of part ≡ None) × (is_relation part ≡ false)) ⊎ ((y : Relation) × (relation_of part ≡ Some y) × (is_relation part ≡ true))
relation_agrees (RelationPart name columns sorts) = inr (_, refl, refl)
relation_agrees (MethodPart name relation inputs cost) = inl (refl, refl)
relation_agrees (RulePart line body head) = inl (refl, refl)
relation_agrees (KeyPart line relation columns target target_columns) = inl (refl, refl)
relation_agrees (ConstantPart text) = inl (refl, refl)
relation_agrees (SourcePart relation kind locator) = inl (refl, refl)

-- the part that declares a relation
from_relation : (part : Part) (relation : Relation) → relation_of part ≡ Some relation → part ≡ RelationPart relation.name relation.columns relation.sorts
from_relation (RelationPart name columns sorts) relation is = let same : record { name = name; columns = columns; sorts = sorts } ≡ relation = some_injective _ relation is in ap (λ (r : Relation). RelationPart r.name r.columns r.sorts) same
from_relation (MethodPart name relation inputs cost) other is = absurd (cc)
from_relation (RulePart line body head) relation is = absurd (cc)
from_relation (KeyPart line relation columns target target_columns) other is = absurd (cc)
from_relation (ConstantPart text) relation is = absurd (cc)
from_relation (SourcePart relation kind locator) other is = absurd (cc)

named_relation : (part : Part) (name : List ℕ) → option_map (λ (r : Relation). r.name) (relation_of part) ≡ Some name → (columns : List (List ℕ)) × (sorts : List Sort) × (part ≡ RelationPart name columns sorts)
named_relation (RelationPart other columns sorts) name is = let same : other ≡ name = some_injective other name is in (columns, sorts, ap (λ n. RelationPart n columns sorts) same)
named_relation (MethodPart other relation inputs cost) name is = absurd (cc)
named_relation (RulePart line body head) name is = absurd (cc)
named_relation (KeyPart line relation columns target target_columns) name is = absurd (cc)
named_relation (ConstantPart text) name is = absurd (cc)
named_relation (SourcePart relation kind locator) name is = absurd (cc)

pub method_agrees : (relations : List Relation) (part : Part) → ((method_of relations part ≡ None) × (is_method part ≡ false)) ⊎ ((y : Method) × (method_of relations part ≡ Some y) × (is_method part ≡ true))
method_agrees relations (RelationPart name columns sorts) = inl (refl, refl)
method_agrees relations (MethodPart name relation inputs cost) = inr (_, refl, refl)
method_agrees relations (RulePart line body head) = inl (refl, refl)
method_agrees relations (KeyPart line relation columns target target_columns) = inl (refl, refl)
method_agrees relations (ConstantPart text) = inl (refl, refl)
method_agrees relations (SourcePart relation kind locator) = inl (refl, refl)

-- the part that declares a method
pub record DeclaresMethod (relations : List Relation) (part : Part) (method : Method) : Type 0 where
  pub relation : List ℕ
  pub inputs : List (List ℕ)
  pub part_is : part ≡ MethodPart method.name relation inputs method.cost
  pub rel : method.rel ≡ number_of relations relation
  pub places : method.inputs ≡ places_from 0 inputs (columns_of relations relation)

from_method : (relations : List Relation) (part : Part) (method : Method) → method_of relations part ≡ Some method → DeclaresMethod relations part method
from_method relations (RelationPart name columns sorts) method is = absurd (cc)
from_method relations (MethodPart name relation inputs cost) method is =
    let made : Method = record { name = name; rel = number_of relations relation; inputs = places_from 0 inputs (columns_of relations relation); cost = cost } in
    let same : made ≡ method = some_injective made method is in
    record {
      relation = relation;
      inputs = inputs;
      part_is = ap (λ (m : Method). MethodPart m.name relation inputs m.cost) same;
      rel = ap (λ (m : Method). m.rel) (sym same);
      places = ap (λ (m : Method). m.inputs) (sym same);
    }
from_method relations (RulePart line body head) method is = absurd (cc)
from_method relations (KeyPart line relation columns target target_columns) method is = absurd (cc)
from_method relations (ConstantPart text) method is = absurd (cc)
from_method relations (SourcePart relation kind locator) method is = absurd (cc)

named_method : (relations : List Relation) (part : Part) (name : List ℕ) → option_map (λ (m : Method). m.name) (method_of relations part) ≡ Some name → is_method_named name part ≡ true
named_method relations (RelationPart other columns sorts) name is = absurd (cc)
named_method relations (MethodPart other relation inputs cost) name is = let same : other ≡ name = some_injective other name is in subst (λ n. pointwise nat_eq other n ≡ true) same (text_same other)
named_method relations (RulePart line body head) name is = absurd (cc)
named_method relations (KeyPart line relation columns target target_columns) name is = absurd (cc)
named_method relations (ConstantPart text) name is = absurd (cc)
named_method relations (SourcePart relation kind locator) name is = absurd (cc)

method_declared : (relations : List Relation) (earlier : List Part) (part : Part) (name : List ℕ) → option_map (λ (m : Method). m.name) (method_of relations part) ≡ Some name → repeats_name earlier part ≡ false → list_any (is_method_named name) earlier ≡ false
method_declared relations earlier (RelationPart other columns sorts) name is none = absurd (cc)
method_declared relations earlier (MethodPart other relation inputs cost) name is none = let same : other ≡ name = some_injective other name is in subst (λ n. list_any (is_method_named n) earlier ≡ false) same (both_false _ _ none).0
method_declared relations earlier (RulePart line body head) name is none = absurd (cc)
method_declared relations earlier (KeyPart line relation columns target target_columns) name is none = absurd (cc)
method_declared relations earlier (ConstantPart text) name is none = absurd (cc)
method_declared relations earlier (SourcePart relation kind locator) name is none = absurd (cc)

-- places rise from the first one on, and stay below the number of columns
first_or_later : (from : ℕ) (rest : List ℕ) (i p : ℕ) → slice_get (from ∷ rest) i ≡ Some p → (from ≡ p) ⊎ ((j : ℕ) × (i ≡ suc j) × (slice_get rest j ≡ Some p))
first_or_later from rest zero p at = inl (some_injective from p at)
first_or_later from rest (suc i) p at = inr (i, refl, at)

places_above : (from : ℕ) (names columns : List (List ℕ)) (i p : ℕ) → slice_get (places_from from names columns) i ≡ Some p → from ≤ p
places_above from names [] i p at = absurd (cc)
places_above from names (column ∷ columns) i p at = ⊎_elim
    (λ (yes : is_among names column ≡ true).
    let here : slice_get (from ∷ places_from (from + 1) names columns) i ≡ Some p = rw yes at at in
    ⊎_elim (λ same. omega arith) (λ (j, is, later). let le : from + 1 ≤ p = places_above (from + 1) names columns j p later in omega arith) (first_or_later from (places_from (from + 1) names columns) i p here))
    (λ (other : is_among names column ≡ false).
    let here : slice_get (places_from (from + 1) names columns) i ≡ Some p = rw other at at in
    let le : from + 1 ≤ p = places_above (from + 1) names columns i p here in omega arith)
    (cases_Bool (is_among names column))

places_below : (from : ℕ) (names columns : List (List ℕ)) (i p : ℕ) → slice_get (places_from from names columns) i ≡ Some p → p < from + length columns
places_below from names [] i p at = absurd (cc)
places_below from names (column ∷ columns) i p at = ⊎_elim
    (λ (yes : is_among names column ≡ true).
    let here : slice_get (from ∷ places_from (from + 1) names columns) i ≡ Some p = rw yes at at in
    ⊎_elim (λ same. omega arith) (λ (j, is, later). let lt : p < from + 1 + length columns = places_below (from + 1) names columns j p later in omega arith) (first_or_later from (places_from (from + 1) names columns) i p here))
    (λ (other : is_among names column ≡ false).
    let here : slice_get (places_from (from + 1) names columns) i ≡ Some p = rw other at at in
    let lt : p < from + 1 + length columns = places_below (from + 1) names columns i p here in omega arith)
    (cases_Bool (is_among names column))

places_rise : (from : ℕ) (names columns : List (List ℕ)) (i p q : ℕ) → slice_get (places_from from names columns) i ≡ Some p → slice_get (places_from from names columns) (suc i) ≡ Some q → p < q
places_rise from names [] i p q at_p at_q = absurd (cc)
places_rise from names (column ∷ columns) i p q at_p at_q = ⊎_elim
    (λ (yes : is_among names column ≡ true).
    let here : slice_get (from ∷ places_from (from + 1) names columns) i ≡ Some p = rw yes at at_p in
    let next : slice_get (from ∷ places_from (from + 1) names columns) (suc i) ≡ Some q = rw yes at at_q in
    ⊎_elim
    (λ same. let le : from + 1 ≤ q = places_above (from + 1) names columns i q next in omega arith)
    (λ (j, is, later). places_rise (from + 1) names columns j p q later (subst (λ n. slice_get (places_from (from + 1) names columns) n ≡ Some q) is next))
    (first_or_later from (places_from (from + 1) names columns) i p here))
    (λ (other : is_among names column ≡ false). places_rise (from + 1) names columns i p q (rw other at at_p) (rw other at at_q))
    (cases_Bool (is_among names column))

-- the relation at the number of a declared name has that name, and its columns are those of the name
pub at_number : (relations : List Relation) (name : List ℕ) → is_unknown relations name ≡ false → (relation : Relation) × (slice_get relations (number_of relations name) ≡ Some relation) × (relation.name ≡ name) × (columns_of relations name ≡ relation.columns)
at_number relations name known =
    let declared : is_declared relations name ≡ true = known_is _ known in
    let (relation, at, holds) = place_holds (is_named name) relations declared in
    (relation, at, text_is relation.name name holds, ap columns_in (find_place (is_named name) relations relation at)) where
      known_is : (b : Bool) → not b ≡ false → b ≡ true
      known_is true is = refl
      known_is false is = absurd (cc)

pub columns_at : (relations : List Relation) (name : List ℕ) (relation : Relation) → is_unknown relations name ≡ false → slice_get relations (number_of relations name) ≡ Some relation → columns_of relations name ≡ relation.columns
columns_at relations name relation known at =
    let (other, at_other, is, columns) = at_number relations name known in
    columns ∙ ap (λ (r : Relation). r.columns) (some_injective other relation (sym at_other ∙ at))

-- declared names with one number are the same
pub same_number : (relations : List Relation) (a b : List ℕ) → is_unknown relations a ≡ false → is_unknown relations b ≡ false → number_of relations a ≡ number_of relations b → a ≡ b
same_number relations a b known_a known_b same =
    let (first, at_first, is_first, columns_first) = at_number relations a known_a in
    let (second, at_second, is_second, columns_second) = at_number relations b known_b in
    let one : first ≡ second = some_injective first second (sym at_first ∙ ap (slice_get relations) same ∙ at_second) in
    sym is_first ∙ ap (λ (r : Relation). r.name) one ∙ is_second

sourced : (relations : List Relation) (part : Part) (number : ℕ) → option_map (λ (s : SourceLine). s.rel) (source_of relations part) ≡ Some number → (relation kind locator : List ℕ) × (part ≡ SourcePart relation kind locator) × (number_of relations relation ≡ number)
sourced relations (RelationPart name columns sorts) number is = absurd (cc)
sourced relations (MethodPart name relation inputs cost) number is = absurd (cc)
sourced relations (RulePart line body head) number is = absurd (cc)
sourced relations (KeyPart line relation columns target target_columns) number is = absurd (cc)
sourced relations (ConstantPart text) number is = absurd (cc)
sourced relations (SourcePart relation kind locator) number is = (relation, kind, locator, refl, some_injective _ number is)

from_source : (relations : List Relation) (part : Part) (source : SourceLine) → source_of relations part ≡ Some source → (relation : List ℕ) × (part ≡ SourcePart relation source.kind source.locator) × (number_of relations relation ≡ source.rel)
from_source relations (RelationPart name columns sorts) source is = absurd (cc)
from_source relations (MethodPart name relation inputs cost) source is = absurd (cc)
from_source relations (RulePart line body head) source is = absurd (cc)
from_source relations (KeyPart line relation columns target target_columns) source is = absurd (cc)
from_source relations (ConstantPart text) source is = absurd (cc)
from_source relations (SourcePart relation kind locator) source is =
    let made : SourceLine = record { rel = number_of relations relation; kind = kind; locator = locator } in
    let same : made ≡ source = some_injective made source is in
    (relation, ap (λ (s : SourceLine). SourcePart relation s.kind s.locator) same, ap (λ (s : SourceLine). s.rel) same)

got_taken : {X : Type 0} (k : ℕ) (xs : List X) (j : ℕ) (x : X) → slice_get (take k xs) j ≡ Some x → slice_get xs j ≡ Some x
got_taken zero xs j x at = absurd (cc)
got_taken (suc k) [] j x at = absurd (cc)
got_taken (suc k) (y ∷ xs) zero x at = at
got_taken (suc k) (y ∷ xs) (suc j) x at = got_taken k xs j x at

pub less : (most count : ℕ) → nat_le most count ≡ false → count < most
less most count is = grind (arith, nat_tests)

pub not_more : (most count : ℕ) → nat_lt most count ≡ false → count ≤ most
not_more most count is = grind (arith, nat_tests)

pub two_none : {L : Type 0} (a b : Bool) (x y : L) → (if a then Some x else if b then Some y else None) ≡ None → (a ≡ false) × (b ≡ false)
two_none true b x y is = absurd (cc)
two_none false true x y is = absurd (cc)
two_none false false x y is = (refl, refl)

pub inside : (most count : ℕ) → is_outside most count ≡ false → (1 ≤ count) × (count ≤ most)
inside most zero is = absurd (cc)
inside most (suc count) is = (omega arith, not_more most (suc count) (both_false _ _ is).1)

module _ (parts : List Part) (faultless : AreFaultless parts) (named : AreNamed parts) where
  -- a relation and the part that declares it
  relation_part : (relation : Relation) → Contains (relations_of parts) relation → (k : ℕ) × (slice_get parts k ≡ Some (RelationPart relation.name relation.columns relation.sorts))
  relation_part relation there = let (k, part, at, is) = given_by relation_of parts relation there in (k, at ∙ ap Some (from_relation part relation is))

  relation_columns : (relation : Relation) → Contains (relations_of parts) relation → AreColumns relation.columns
  relation_columns relation there =
      let (k, at) = relation_part relation there in
      let clean = clean_at parts faultless k (RelationPart relation.name relation.columns relation.sorts) at in
      let (room, within) = two_none _ _ _ _ clean.limit in
      let (some, few) = inside MOST_COLUMNS (length relation.columns) within in
      record {
        some = some;
        few = few;
        differ = differ_from_repeats relation.columns (both_false _ _ clean.names).1;
        named = (named (RelationPart relation.name relation.columns relation.sorts) (contains_got parts k _ at)).1;
      }

  relation_new : (k : ℕ) (part : Part) (name : List ℕ) → slice_get parts k ≡ Some part → option_map (λ (r : Relation). r.name) (relation_of part) ≡ Some name → Contains (filter_map (λ p. option_map (λ (r : Relation). r.name) (relation_of p)) (take k parts)) name → ⊥
  relation_new k part name at is there =
      let (columns, sorts, same) = named_relation part name is in
      let (j, other, at_j, gives) = given_by (λ p. option_map (λ (r : Relation). r.name) (relation_of p)) (take k parts) name there in
      let (others, others_sorts, same_other) = named_relation other name gives in
      let clean = clean_at parts faultless k (RelationPart name columns sorts) (at ∙ ap Some same) in
      let free : list_any (is_relation_named name) (take k parts) ≡ false = (both_false _ _ clean.names).0 in
      let fails : is_relation_named name (RelationPart name others others_sorts) ≡ false = none_at (is_relation_named name) (take k parts) (RelationPart name others others_sorts) free (contains_got (take k parts) j (RelationPart name others others_sorts) (at_j ∙ ap Some same_other)) in
      let holds = text_same name in cc

  pub relations_are : HaveSorts parts → AreRelations (relations_of parts)
  relations_are sorted = record {
    few = few_all relation_of MOST_RELATIONS parts (λ k part relation at is.
        let same = from_relation part relation is in
        let clean = clean_at parts faultless k (RelationPart relation.name relation.columns relation.sorts) (at ∙ ap Some same) in
        let room : nat_le MOST_RELATIONS (length (filter is_relation (take k parts))) ≡ false = (two_none _ _ _ _ clean.limit).0 in
        let lt : length (filter is_relation (take k parts)) < MOST_RELATIONS = less MOST_RELATIONS (length (filter is_relation (take k parts))) room in
        let e = counted is_relation relation_of relation_agrees (take k parts) in
        omega arith);
    differ = subst AllDiffer (sym (given_mapped (λ (r : Relation). r.name) relation_of parts)) (differ_all (λ p. option_map (λ (r : Relation). r.name) (relation_of p)) parts relation_new);
    named = λ relation there. let (k, at) = relation_part relation there in (named (RelationPart relation.name relation.columns relation.sorts) (contains_got parts k _ at)).0;
    columns = relation_columns;
    sorts = λ relation there. let (k, at) = relation_part relation there in sorted (RelationPart relation.name relation.columns relation.sorts) (contains_got parts k _ at);
  }

  method_at : (method : Method) → Contains (methods_of (relations_of parts) parts) method → (k : ℕ) × (part : Part) × (slice_get parts k ≡ Some part) × DeclaresMethod (relations_of parts) part method
  method_at method there = let (k, part, at, is) = given_by (method_of (relations_of parts)) parts method there in (k, part, at, from_method (relations_of parts) part method is)

  method_known : (k : ℕ) (part : Part) (method : Method) → slice_get parts k ≡ Some part → (from : DeclaresMethod (relations_of parts) part method) → is_unknown (relations_of parts) from.relation ≡ false
  method_known k part method at from = (clean_at parts faultless k (MethodPart method.name from.relation from.inputs method.cost) (at ∙ ap Some from.part_is)).known

  method_limit : (k : ℕ) (part : Part) (method : Method) → slice_get parts k ≡ Some part → DeclaresMethod (relations_of parts) part method → (length (filter is_method (take k parts)) < MOST_METHODS) × (method.cost ≤ MOST_COST)
  method_limit k part method at from =
      let clean = clean_at parts faultless k (MethodPart method.name from.relation from.inputs method.cost) (at ∙ ap Some from.part_is) in
      let both = two_none _ _ _ _ clean.limit in
      (less MOST_METHODS (length (filter is_method (take k parts))) both.0, not_more MOST_COST method.cost both.1)

  method_new : (k : ℕ) (part : Part) (name : List ℕ) → slice_get parts k ≡ Some part → option_map (λ (m : Method). m.name) (method_of (relations_of parts) part) ≡ Some name → Contains (filter_map (λ p. option_map (λ (m : Method). m.name) (method_of (relations_of parts) p)) (take k parts)) name → ⊥
  method_new k part name at is there =
      let (j, other, at_j, gives) = given_by (λ p. option_map (λ (m : Method). m.name) (method_of (relations_of parts) p)) (take k parts) name there in
      let free : list_any (is_method_named name) (take k parts) ≡ false = method_declared (relations_of parts) (take k parts) part name is (clean_at parts faultless k part at).names in
      let fails : is_method_named name other ≡ false = none_at (is_method_named name) (take k parts) other free (contains_got (take k parts) j other at_j) in
      let holds : is_method_named name other ≡ true = named_method (relations_of parts) other name gives in cc

  pub methods_are : AreMethods (relations_of parts) (methods_of (relations_of parts) parts)
  methods_are = record {
    few = few_all (method_of (relations_of parts)) MOST_METHODS parts (λ k part method at is.
        let lt : length (filter is_method (take k parts)) < MOST_METHODS = (method_limit k part method at (from_method (relations_of parts) part method is)).0 in
        let e = counted is_method (method_of (relations_of parts)) (method_agrees (relations_of parts)) (take k parts) in
        omega arith);
    differ = subst AllDiffer (sym (given_mapped (λ (m : Method). m.name) (method_of (relations_of parts)) parts)) (differ_all (λ p. option_map (λ (m : Method). m.name) (method_of (relations_of parts) p)) parts method_new);
    named = λ method there. let (k, part, at, from) = method_at method there in named (MethodPart method.name from.relation from.inputs method.cost) (contains_got parts k _ (at ∙ ap Some from.part_is));
    placed = λ method there. let (k, part, at, from) = method_at method there in
        subst (λ n. n < length (relations_of parts)) (sym from.rel) (number_within (relations_of parts) from.relation (method_known k part method at from));
    inputs = λ method relation p there owner input. let (k, part, at, from) = method_at method there in
        let of_columns : Contains (places_from 0 from.inputs (columns_of (relations_of parts) from.relation)) p = subst (λ (ps : List ℕ). Contains ps p) from.places input in
        let below : p < 0 + length (columns_of (relations_of parts) from.relation) = places_below 0 from.inputs (columns_of (relations_of parts) from.relation) of_columns.0 p (got_contained _ p of_columns) in
        let columns : columns_of (relations_of parts) from.relation ≡ relation.columns = columns_at (relations_of parts) from.relation relation (method_known k part method at from) (subst (λ n. slice_get (relations_of parts) n ≡ Some relation) from.rel owner) in
        let e = ap length columns in omega arith;
    rising = λ method i p q there first second. let (k, part, at, from) = method_at method there in
        let e : i + 1 ≡ suc i = omega arith in
        places_rise 0 from.inputs (columns_of (relations_of parts) from.relation) i p q
        (subst (λ (ps : List ℕ). slice_get ps i ≡ Some p) from.places first)
        (subst (λ n. slice_get (places_from 0 from.inputs (columns_of (relations_of parts) from.relation)) n ≡ Some q) e (subst (λ (ps : List ℕ). slice_get ps (i + 1) ≡ Some q) from.places second));
    cost = λ method there. let (k, part, at, from) = method_at method there in (method_limit k part method at from).1;
  }

  source_new : (k : ℕ) (part : Part) (number : ℕ) → slice_get parts k ≡ Some part → option_map (λ (s : SourceLine). s.rel) (source_of (relations_of parts) part) ≡ Some number → Contains (filter_map (λ p. option_map (λ (s : SourceLine). s.rel) (source_of (relations_of parts) p)) (take k parts)) number → ⊥
  source_new k part number at is there =
      let (j, other, at_j, gives) = given_by (λ p. option_map (λ (s : SourceLine). s.rel) (source_of (relations_of parts) p)) (take k parts) number there in
      let (relation, kind, locator, part_is, of) = sourced (relations_of parts) part number is in
      let (relation_j, kind_j, locator_j, other_is, of_j) = sourced (relations_of parts) other number gives in
      let clean = clean_at parts faultless k (SourcePart relation kind locator) (at ∙ ap Some part_is) in
      let in_parts : slice_get parts j ≡ Some (SourcePart relation_j kind_j locator_j) = got_taken k parts j other at_j ∙ ap Some other_is in
      let clean_j = clean_at parts faultless j (SourcePart relation_j kind_j locator_j) in_parts in
      let same : relation_j ≡ relation = same_number (relations_of parts) relation_j relation clean_j.known clean.known (of_j ∙ sym of) in
      let fails : is_source_of relation other ≡ false = none_at (is_source_of relation) (take k parts) other clean.names (contains_got (take k parts) j other at_j) in
      let fails_j : pointwise nat_eq relation_j relation ≡ false = subst (λ (p : Part). is_source_of relation p ≡ false) other_is fails in
      let holds : pointwise nat_eq relation_j relation ≡ true = subst (λ n. pointwise nat_eq relation_j n ≡ true) same (text_same relation_j) in
      cc

  pub sources_are : AreSources (relations_of parts) (sources_of (relations_of parts) parts)
  sources_are = record {
    differ = subst AllDiffer (sym (given_mapped (λ (s : SourceLine). s.rel) (source_of (relations_of parts)) parts)) (differ_all (λ p. option_map (λ (s : SourceLine). s.rel) (source_of (relations_of parts) p)) parts source_new);
    placed = λ source there.
        let (k, part, at, is) = given_by (source_of (relations_of parts)) parts source there in
        let (relation, part_is, of) = from_source (relations_of parts) part source is in
        subst (λ n. n < length (relations_of parts)) of (number_within (relations_of parts) relation (clean_at parts faultless k (SourcePart relation source.kind source.locator) (at ∙ ap Some part_is)).known);
    named = λ source there.
        let (k, part, at, is) = given_by (source_of (relations_of parts)) parts source there in
        let (relation, part_is, of) = from_source (relations_of parts) part source is in
        named (SourcePart relation source.kind source.locator) (contains_got parts k _ (at ∙ ap Some part_is));
  }
