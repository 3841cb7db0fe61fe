-- Parts without faults make a schema: its rules and constants.
use Rattle.std.proofs.Common.{◌≡◌, ◌⊎◌, ◌+◌, ◌<◌, ◌≤◌, ◌∙◌, sym, ap, subst, ℕ, List, [], ◌∷◌, ◌++◌, Bool, true, false, not, ◌||◌, Option, Some, None, length, take, slice_get, refl, arith, inl, inr, ⊎_elim}
use Rattle.std.specs.Prelude.{Contains, filter, filter_map, flat_map, option_to_list, ◌==◌, if◌then◌else◌}
use Rattle.std.specs.List.{list_any}
use Rattle.std.proofs.lemmas.Bool.{cases_Bool}
use Rattle.std.proofs.lemmas.Bool.Decides.{nat_tests}
use Rattle.std.proofs.lemmas.List.{append-nil}
use Rattle.std.proofs.lemmas.List.Elements.{Contains-append_cases, Contains-append_right}
use Rattle.meaning.specs.declared.types.Relation.{Relation}
use Rattle.meaning.specs.declared.types.Rule.{Rule}
use Rattle.access_schema.specs.declared.part.Part.{Part}
use Rattle.access_schema.specs.declared.part.Part.TheVariants.{Relation as RelationPart, Method as MethodPart, Rule as RulePart, ForeignKey as KeyPart, Constant as ConstantPart, Source as SourcePart}
use Rattle.access_schema.specs.declared.part.NamedAtom.{NamedAtom}
use Rattle.access_schema.specs.declared.limits.TheConstants.{MOST_RULES, MOST_COLUMNS, MOST_BODY_ATOMS, MOST_HEAD_ATOMS, MOST_VARIABLES, MOST_CONSTANTS, MOST_COST}
use Rattle.access_schema.specs.Names.{AllDiffer}
use Rattle.access_schema.specs.Lists.{is_among, once_after, each_once}
use Rattle.access_schema.specs.Content.{relations_of, is_named, columns_of, constant_of, named_terms, variables_of, numbered_rule, rule_of, rules_of, declared_constants, rule_constants, part_constants, constants_of}
use Rattle.access_schema.specs.Invariant.{IsRule, AreRules}
use Rattle.access_schema.specs.Feeding.{AreNonRecursive}
use Rattle.access_schema.specs.Fits.{IsWithin, AreWithin}
use Rattle.access_schema.specs.Faults.{is_rule, is_unknown, is_misfit, has_many_constants, constant_count, AreFaultless}
use Rattle.lists.proofs.Members.{contains_here, contains_there, contains_got, some_injective, contains_joined, joined_from}
use Rattle.lists.proofs.Places.{got_member}
use Rattle.lists.proofs.Booleans.{both_false}
use Rattle.access_schema.proofs.Texts.{none_at, once_differ, once_taken, once_from, length_le, contains_among}
use Rattle.access_schema.proofs.Prefixes.{prefix_all, given_by, few_all}
use Rattle.access_schema.proofs.LeastFault.{rule_within, none_many, constants_push, mapped_push}
use Rattle.access_schema.proofs.Clean.{clean_at}
use Rattle.access_schema.proofs.Built.{counted, inside, less, not_more, two_none}
use Rattle.access_schema.proofs.First.{no_rules}
use Rattle.access_schema.proofs.NumberedRules.{numbered_is_rule, key_is_rule}

pub either_list : {X : Type 0} (p : X → Bool) (xs ys : List X) → (list_any p xs || list_any p ys) ≡ false → (x : X) → Contains (xs ++ ys) x → p x ≡ false
either_list p xs ys none x there =
    let both = both_false (list_any p xs) (list_any p ys) none in
    ⊎_elim (λ first. none_at p xs x both.0 first) (λ second. none_at p ys x both.1 second) (Contains-append_cases xs ys x there)

pub equal_lengths : (a b : ℕ) → not (a == b) ≡ false → a ≡ b
equal_lengths a b is = grind (arith, nat_tests)

declared_is_constant : (part : Part) (c : List ℕ) → Contains (declared_constants part) c → Contains (part_constants part) c
declared_is_constant (RelationPart name columns sorts) c there = absurd (omega arith)
declared_is_constant (MethodPart name relation inputs cost) c there = absurd (omega arith)
declared_is_constant (RulePart line body head) c there = absurd (omega arith)
declared_is_constant (KeyPart line relation columns target target_columns) c there = absurd (omega arith)
declared_is_constant (ConstantPart text) c there = there
declared_is_constant (SourcePart relation kind locator) c there = absurd (omega arith)

rule_is_constant : (part : Part) (c : List ℕ) → Contains (rule_constants part) c → Contains (part_constants part) c
rule_is_constant (RelationPart name columns sorts) c there = absurd (omega arith)
rule_is_constant (MethodPart name relation inputs cost) c there = absurd (omega arith)
rule_is_constant (RulePart line body head) c there = there
rule_is_constant (KeyPart line relation columns target target_columns) c there = absurd (omega arith)
rule_is_constant (ConstantPart text) c there = absurd (omega arith)
rule_is_constant (SourcePart relation kind locator) c there = absurd (omega arith)

pub constants_differ : (parts : List Part) → AllDiffer (constants_of parts)
constants_differ parts = once_differ [] (flat_map declared_constants parts ++ flat_map rule_constants parts) (λ i j member at_i at_j. absurd (cc))

each_within : (parts : List Part) (c : List ℕ) → Contains (constants_of parts) c → Contains (each_once (flat_map part_constants parts)) c
each_within parts c there = ⊎_elim
    (λ none. absurd (omega arith))
    (λ among. once_taken [] (flat_map part_constants parts) c (⊎_elim
    (λ declared. let (part, of, has) = joined_from declared_constants parts c declared in contains_joined part_constants parts part c of (declared_is_constant part c has))
    (λ used. let (part, of, has) = joined_from rule_constants parts c used in contains_joined part_constants parts part c of (rule_is_constant part c has))
    (Contains-append_cases (flat_map declared_constants parts) (flat_map rule_constants parts) c among)))
    (once_from [] (flat_map declared_constants parts ++ flat_map rule_constants parts) c there)

rule_constant_there : (parts : List Part) (line : ℕ) (body head : List NamedAtom) (c : List ℕ) → Contains parts (RulePart line body head) → Contains (filter_map constant_of (named_terms (body ++ head))) c → is_among (constants_of parts) c ≡ true
rule_constant_there parts line body head c of has =
    contains_among (constants_of parts) c (once_taken [] (flat_map declared_constants parts ++ flat_map rule_constants parts) c
    (Contains-append_right (flat_map declared_constants parts) (flat_map rule_constants parts) c (contains_joined rule_constants parts (RulePart line body head) c of has)))

pub rule_agrees : (relations : List Relation) (part : Part) → ((rule_of relations part ≡ None) × (is_rule part ≡ false)) ⊎ ((y : Rule) × (rule_of relations part ≡ Some y) × (is_rule part ≡ true))
rule_agrees relations (RelationPart name columns sorts) = inl (refl, refl)
rule_agrees relations (MethodPart name relation inputs cost) = inl (refl, refl)
rule_agrees relations (RulePart line body head) = inr (_, refl, refl)
rule_agrees relations (KeyPart line relation columns target target_columns) = inr (_, refl, refl)
rule_agrees relations (ConstantPart text) = inl (refl, refl)
rule_agrees relations (SourcePart relation kind locator) = inl (refl, refl)

pub found_columns : (relations : List Relation) (name : List ℕ) (most : ℕ) → ((relation : Relation) → Contains relations relation → length relation.columns ≤ most) → length (columns_of relations name) ≤ most
found_columns [] name most few = omega arith
found_columns (relation ∷ relations) name most few = ⊎_elim
    (λ (here : is_named name relation ≡ true). rw here (few relation (contains_here relation relations)))
    (λ (other : is_named name relation ≡ false). rw other (found_columns relations name most (λ r there. few r (contains_there relation relations r there))))
    (cases_Bool (is_named name relation))

if_none : {L : Type 0} (b : Bool) (x : L) → (if b then Some x else None) ≡ None → b ≡ false
if_none true x is = absurd (cc)
if_none false x is = refl

all_within : (parts : List Part) → ((part : Part) → Contains parts part → IsWithin part) → AreWithin parts
all_within [] within = tt
all_within (part ∷ parts) within = (within part (contains_here part parts), all_within parts (λ p there. within p (contains_there part parts p there)))

module _ (parts : List Part) (faultless : AreFaultless parts) where
  pub constants_few : length (constants_of parts) ≤ MOST_CONSTANTS
  constants_few =
      let all : length (each_once (flat_map part_constants parts)) ≤ MOST_CONSTANTS = prefix_all (λ ps. length (each_once (flat_map part_constants ps)) ≤ MOST_CONSTANTS) parts (omega arith) (λ k part at few. ⊎_elim
      (λ (none : part_constants part ≡ []).
      let same : each_once (flat_map part_constants (take k parts ++ part ∷ [])) ≡ each_once (flat_map part_constants (take k parts)) = constants_push (take k parts) part ∙ ap (once_after (each_once (flat_map part_constants (take k parts)))) none in
      subst (λ (texts : List (List ℕ)). length texts ≤ MOST_CONSTANTS) (sym same) few)
      (λ many. not_more MOST_CONSTANTS (constant_count (take k parts ++ part ∷ [])) many)
      (none_many (take k parts) part (clean_at parts faultless k part at).limit)) in
      let le = length_le (constants_of parts) (each_once (flat_map part_constants parts)) (constants_differ parts) (each_within parts) in
      omega arith

  rule_there : (k : ℕ) (line : ℕ) (body head : List NamedAtom) → slice_get parts k ≡ Some (RulePart line body head) → IsRule (relations_of parts) (constants_of parts) (numbered_rule (relations_of parts) line body head)
  rule_there k line body head at =
      let clean = clean_at parts faultless k (RulePart line body head) at in
      let (room, in_body, in_head, few, many) = rule_within (take k parts) body head (has_many_constants (take k parts) (RulePart line body head)) clean.limit in
      numbered_is_rule (relations_of parts) (constants_of parts) line body head
      (inside MOST_BODY_ATOMS (length body) in_body) (inside MOST_HEAD_ATOMS (length head) in_head) (not_more MOST_VARIABLES (length (variables_of (body ++ head))) few)
      (λ atom there. either_list (λ (a : NamedAtom). is_unknown (relations_of parts) a.relation) body head clean.known atom there)
      (λ atom there. equal_lengths (length atom.terms) (length (columns_of (relations_of parts) atom.relation)) (either_list (is_misfit (relations_of parts)) body head clean.arity atom there))
      (λ c has. rule_constant_there parts line body head c (contains_got parts k (RulePart line body head) at) has)

  rule_part : (small : (name : List ℕ) → length (columns_of (relations_of parts) name) ≤ MOST_COLUMNS) (k : ℕ) (part : Part) (rule : Rule) → slice_get parts k ≡ Some part → rule_of (relations_of parts) part ≡ Some rule → IsRule (relations_of parts) (constants_of parts) rule
  rule_part small k (RelationPart name columns sorts) rule at is = absurd (cc)
  rule_part small k (MethodPart name relation inputs cost) rule at is = absurd (cc)
  rule_part small k (RulePart line body head) rule at is = subst (IsRule (relations_of parts) (constants_of parts)) (some_injective _ rule is) (rule_there k line body head at)
  rule_part small k (KeyPart line relation columns target target_columns) rule at is =
      let clean = clean_at parts faultless k (KeyPart line relation columns target target_columns) at in
      let both = both_false (is_unknown (relations_of parts) relation) (is_unknown (relations_of parts) target) clean.known in
      subst (IsRule (relations_of parts) (constants_of parts)) (some_injective _ rule is)
      (key_is_rule (relations_of parts) (constants_of parts) line relation columns target target_columns both.0 both.1 (small relation) (small target))
  rule_part small k (ConstantPart text) rule at is = absurd (cc)
  rule_part small k (SourcePart relation kind locator) rule at is = absurd (cc)

  rule_room : (k : ℕ) (part : Part) (rule : Rule) → slice_get parts k ≡ Some part → rule_of (relations_of parts) part ≡ Some rule → length (filter is_rule (take k parts)) < MOST_RULES
  rule_room k (RelationPart name columns sorts) rule at is = absurd (cc)
  rule_room k (MethodPart name relation inputs cost) rule at is = absurd (cc)
  rule_room k (RulePart line body head) rule at is =
      less MOST_RULES (length (filter is_rule (take k parts))) (rule_within (take k parts) body head (has_many_constants (take k parts) (RulePart line body head)) (clean_at parts faultless k (RulePart line body head) at).limit).0
  rule_room k (KeyPart line relation columns target target_columns) rule at is =
      less MOST_RULES (length (filter is_rule (take k parts))) (if_none _ _ (clean_at parts faultless k (KeyPart line relation columns target target_columns) at).limit)
  rule_room k (ConstantPart text) rule at is = absurd (cc)
  rule_room k (SourcePart relation kind locator) rule at is = absurd (cc)

  straight_all : AreNonRecursive (rules_of (relations_of parts) parts)
  straight_all = prefix_all (λ ps. AreNonRecursive (rules_of (relations_of parts) ps)) parts (no_rules (relations_of parts) []).non_recursive (λ k part at straight. ⊎_elim
      (λ (rule : is_rule part ≡ true). (clean_at parts faultless k part at).straight rule)
      (λ (other : is_rule part ≡ false).
      let none : rule_of (relations_of parts) part ≡ None = ⊎_elim (λ (gives, fails). gives) (λ (y, gives, holds). absurd (cc)) (rule_agrees (relations_of parts) part) in
      let same : rules_of (relations_of parts) (take k parts ++ part ∷ []) ≡ rules_of (relations_of parts) (take k parts) = mapped_push (rule_of (relations_of parts)) (take k parts) part ∙ ap (λ (o : Option Rule). rules_of (relations_of parts) (take k parts) ++ option_to_list o) none ∙ append-nil (rules_of (relations_of parts) (take k parts)) in
      subst AreNonRecursive (sym same) straight)
      (cases_Bool (is_rule part)))

  pub rules_are : ((name : List ℕ) → length (columns_of (relations_of parts) name) ≤ MOST_COLUMNS) → AreRules (relations_of parts) (constants_of parts) (rules_of (relations_of parts) parts)
  rules_are small = record {
    few = few_all (rule_of (relations_of parts)) MOST_RULES parts (λ k part rule at is.
        let lt : length (filter is_rule (take k parts)) < MOST_RULES = rule_room k part rule at is in
        let e = counted is_rule (rule_of (relations_of parts)) (rule_agrees (relations_of parts)) (take k parts) in
        omega arith);
    fit = λ rule there. let (k, part, at, is) = given_by (rule_of (relations_of parts)) parts rule there in rule_part small k part rule at is;
    non_recursive = straight_all;
  }

  -- what the numbers of the content rest on
  part_within : (k : ℕ) (part : Part) → slice_get parts k ≡ Some part → IsWithin part
  part_within k (RelationPart name columns sorts) at = tt
  part_within k (MethodPart name relation inputs cost) at = not_more MOST_COST cost (two_none _ _ _ _ (clean_at parts faultless k (MethodPart name relation inputs cost) at).limit).1
  part_within k (RulePart line body head) at =
      not_more MOST_VARIABLES (length (variables_of (body ++ head))) (rule_within (take k parts) body head (has_many_constants (take k parts) (RulePart line body head)) (clean_at parts faultless k (RulePart line body head) at).limit).3
  part_within k (KeyPart line relation columns target target_columns) at = equal_lengths (length columns) (length target_columns) (clean_at parts faultless k (KeyPart line relation columns target target_columns) at).arity
  part_within k (ConstantPart text) at = tt
  part_within k (SourcePart relation kind locator) at = tt

  pub parts_within : AreWithin parts
  parts_within = all_within parts (λ part there. let (k, at) = got_member parts part there in part_within k part at)
