-- Parts without faults make rules that are sorted.
use Rattle.std.proofs.Common.{◌≡◌, ◌∙◌, sym, ap, subst, ℕ, List, [], ◌∷◌, ◌++◌, Bool, true, false, not, Some, length, take, slice_get, refl, inl, inr, ⊎_elim}
use Rattle.std.specs.Prelude.{Contains}
use Rattle.std.proofs.lemmas.Bool.{cases_Bool}
use Rattle.meaning.specs.declared.types.Relation.{Relation}
use Rattle.meaning.specs.declared.types.Method.{Method}
use Rattle.meaning.specs.declared.types.Rule.{Rule}
use Rattle.meaning.specs.declared.types.SchemaParts.{SchemaParts}
use Rattle.meaning.specs.Sorts.{RuleIsSorted}
use Rattle.access_schema.specs.declared.part.Part.{Part}
use Rattle.access_schema.specs.declared.part.Part.TheVariants.{Relation as RelationPart, Method as MethodPart, Rule as RulePart, ForeignKey as KeyPart, Constant as ConstantPart, Source as SourcePart}
use Rattle.access_schema.specs.declared.part.NamedAtom.{NamedAtom}
use Rattle.access_schema.specs.Names.{AllDiffer}
use Rattle.access_schema.specs.Lists.{is_among}
use Rattle.access_schema.specs.Content.{relations_of, is_named, columns_of, sorts_of, numbered_rule, key_rule, rule_of, rules_of}
use Rattle.access_schema.specs.Invariant.{AreRelations}
use Rattle.access_schema.specs.Faults.{is_unknown, is_misfit, AreFaultless}
use Rattle.lists.proofs.Members.{contains_here, contains_there, contains_got, some_injective}
use Rattle.lists.proofs.Booleans.{both_false, not_false, never_true}
use Rattle.access_schema.proofs.Texts.{none_at}
use Rattle.access_schema.proofs.Prefixes.{given_by}
use Rattle.access_schema.proofs.Clean.{clean_at}
use Rattle.access_schema.proofs.Built.{at_number}
use Rattle.access_schema.proofs.BuiltRules.{either_list, equal_lengths}
use Rattle.access_schema.proofs.SortedRules.{numbered_is_sorted}
use Rattle.access_schema.proofs.SortedKeys.{key_is_sorted}

-- each name has as many sorts as columns
sorts_long : (relations : List Relation) → ((relation : Relation) → Contains relations relation → length relation.sorts ≡ length relation.columns)
    → (name : List ℕ) → length (sorts_of relations name) ≡ length (columns_of relations name)
sorts_long [] each name = refl
sorts_long (relation ∷ relations) each name = ⊎_elim
    (λ (here : is_named name relation ≡ true). rw here (each relation (contains_here relation relations)))
    (λ (other : is_named name relation ≡ false). rw other (sorts_long relations (λ r there. each r (contains_there relation relations r there)) name))
    (cases_Bool (is_named name relation))

columns_differ : (relations : List Relation) → AreRelations relations → (name : List ℕ) → is_unknown relations name ≡ false → AllDiffer (columns_of relations name)
columns_differ relations are name known =
    let (relation, at, is, columns) = at_number relations name known in
    subst AllDiffer (sym columns) (are.columns relation (contains_got relations _ relation at)).differ

module _ (parts : List Part) (faultless : AreFaultless parts) (are : AreRelations (relations_of parts)) (methods : List Method) (rules : List Rule) (constants : List (List ℕ)) where
  abbrev schema : SchemaParts
  schema = record { relations = relations_of parts; methods = methods; rules = rules; constants = constants }

  rule_there : (k : ℕ) (line : ℕ) (body head : List NamedAtom) → slice_get parts k ≡ Some (RulePart line body head) → RuleIsSorted schema (numbered_rule (relations_of parts) line body head)
  rule_there k line body head at =
      let clean = clean_at parts faultless k (RulePart line body head) at in
      numbered_is_sorted schema line body head
      (λ atom there. either_list (λ (a : NamedAtom). is_unknown (relations_of parts) a.relation) body head clean.known atom there)
      (λ atom there. equal_lengths (length atom.terms) (length (columns_of (relations_of parts) atom.relation)) (either_list (is_misfit (relations_of parts)) body head clean.arity atom there)
      ∙ sym (sorts_long (relations_of parts) are.sorts atom.relation))
      (λ two. clean.sorted (inl two))
      (λ other. clean.sorted (inr other))

  key_there : (k : ℕ) (line : ℕ) (relation : List ℕ) (columns : List (List ℕ)) (target : List ℕ) (target_columns : List (List ℕ)) → slice_get parts k ≡ Some (KeyPart line relation columns target target_columns)
      → RuleIsSorted schema (key_rule (relations_of parts) line relation columns target target_columns)
  key_there k line relation columns target target_columns at =
      let clean = clean_at parts faultless k (KeyPart line relation columns target target_columns) at in
      let both = both_false (is_unknown (relations_of parts) relation) (is_unknown (relations_of parts) target) clean.known in
      let own = (both_false _ _ clean.columns).0 in
      key_is_sorted schema line relation columns target target_columns both.0 both.1
      (sorts_long (relations_of parts) are.sorts relation) (sorts_long (relations_of parts) are.sorts target)
      (columns_differ (relations_of parts) are target both.1)
      (equal_lengths (length columns) (length target_columns) clean.arity)
      (λ column there. not_false _ (none_at (λ (name : List ℕ). not (is_among (columns_of (relations_of parts) relation) name)) columns column own there))
      (never_true _ clean.sorted)

  rule_part : (k : ℕ) (part : Part) (rule : Rule) → slice_get parts k ≡ Some part → rule_of (relations_of parts) part ≡ Some rule → RuleIsSorted schema rule
  rule_part k (RelationPart name columns sorts) rule at is = absurd (cc)
  rule_part k (MethodPart name relation inputs cost) rule at is = absurd (cc)
  rule_part k (RulePart line body head) rule at is = subst (RuleIsSorted schema) (some_injective _ rule is) (rule_there k line body head at)
  rule_part k (KeyPart line relation columns target target_columns) rule at is =
      subst (RuleIsSorted schema) (some_injective _ rule is) (key_there k line relation columns target target_columns at)
  rule_part k (ConstantPart text) rule at is = absurd (cc)
  rule_part k (SourcePart relation kind locator) rule at is = absurd (cc)

  pub rules_sorted : (rule : Rule) → Contains (rules_of (relations_of parts) parts) rule → RuleIsSorted schema rule
  rules_sorted rule there = let (k, part, at, is) = given_by (rule_of (relations_of parts)) parts rule there in rule_part k part rule at is
