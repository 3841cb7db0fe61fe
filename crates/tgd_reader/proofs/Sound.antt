-- The text of a schema declares the schema again, but for the lines of its rules.
use Rattle.std.proofs.Common.{◌≡◌, ℕ, Bool, true, false, ◌||◌, List, [], ◌∷◌, ◌++◌, Option, Some, refl, sym, ap, subst, ◌∙◌, arith}
use Rattle.std.specs.Prelude.{Contains, map, filter_map, option_map, slice_index_or}
use Rattle.std.specs.List.{list_any}
use Rattle.meaning.specs.declared.types.Relation.{Relation}
use Rattle.meaning.specs.declared.types.Method.{Method}
use Rattle.meaning.specs.declared.types.Sort.{Sort}
use Rattle.lists.proofs.Members.{contains_got, got_below}
use Rattle.lists.proofs.Booleans.{never_true}
use Rattle.lists.proofs.Orders.{text_is}
use Rattle.access_schema.specs.declared.part.Part.{Part}
use Rattle.access_schema.specs.declared.part.Part.TheVariants.{Relation as RelationPart, Method as MethodPart, Rule as RulePart, ForeignKey as KeyPart, Constant as ConstantPart, Source as SourcePart}
use Rattle.access_schema.specs.declared.schema.SourceLine.{SourceLine}
use Rattle.access_schema.specs.declared.schema.Schema.{Schema}
use Rattle.access_schema.specs.Content.{number_of, relation_of, relations_of, method_of, methods_of, source_of, sources_of}
use Rattle.access_schema.specs.Faults.{is_relation_named, is_method_named, is_source_of, repeats_name}
use Rattle.access_schema.specs.Lists.{repeats}
use Rattle.access_schema.specs.Names.{relation_names, method_names, AllDiffer}
use Rattle.access_schema.proofs.Texts.{any_found}
use Rattle.access_schema.proofs.Prefixes.{given_from, given_mapped}
use Rattle.tgd_reader.specs.Printed.{columns_at, columns_in}
use Rattle.tgd_reader.proofs.Places.{rising_of}
use Rattle.tgd_reader.proofs.Reprinted.{IsOf}
use Rattle.tgd_reader.proofs.Faultless.{repeats_none, names_differ, fresh_key}

-- ---- names that stand once

relation_key : (part : Part) (name : List ℕ) → is_relation_named name part ≡ true → option_map (λ (r : Relation). r.name) (relation_of part) ≡ Some name
relation_key (RelationPart other columns sorts) name holds = ap Some (text_is other name holds)
relation_key _ name holds = absurd cc

method_key : (relations : List Relation) (part : Part) (name : List ℕ) → is_method_named name part ≡ true → option_map (λ (m : Method). m.name) (method_of relations part) ≡ Some name
method_key relations (MethodPart other relation inputs cost) name holds = ap Some (text_is other name holds)
method_key relations _ name holds = absurd cc

source_key : (relations : List Relation) (part : Part) (name : List ℕ) → is_source_of name part ≡ true → option_map (λ (x : SourceLine). x.rel) (source_of relations part) ≡ Some (number_of relations name)
source_key relations (SourcePart relation kind locator) name holds = ap (λ (n : List ℕ). Some (number_of relations n)) (text_is relation name holds)
source_key relations _ name holds = absurd cc

module _ (s : Schema) (parts earlier later : List Part) (rs : relations_of parts ≡ s.relations) (ms : methods_of s.relations parts ≡ s.methods) (ss : sources_of s.relations parts ≡ s.sources) where
  relation_new : (name : List ℕ) (columns : List (List ℕ)) (sorts : List Sort) → parts ≡ earlier ++ RelationPart name columns sorts ∷ later → list_any (is_relation_named name) earlier ≡ false
  relation_new name columns sorts split =
      let key : Part → Option (List ℕ) = λ part. option_map (λ (r : Relation). r.name) (relation_of part) in
      let differ : AllDiffer (filter_map key parts) = subst AllDiffer (sym (ap relation_names rs) ∙ given_mapped (λ (r : Relation). r.name) relation_of parts) s.valid.relations_are.differ in
      never_true (list_any (is_relation_named name) earlier) (λ yes.
      let (other, there, holds) = any_found (is_relation_named name) earlier yes in
      fresh_key parts earlier later (RelationPart name columns sorts) split key name differ refl (given_from key earlier other name there (relation_key other name holds)))

  method_new : (name relation : List ℕ) (inputs : List (List ℕ)) (cost : ℕ) → parts ≡ earlier ++ MethodPart name relation inputs cost ∷ later → list_any (is_method_named name) earlier ≡ false
  method_new name relation inputs cost split =
      let key : Part → Option (List ℕ) = λ part. option_map (λ (m : Method). m.name) (method_of s.relations part) in
      let differ : AllDiffer (filter_map key parts) = subst AllDiffer (sym (ap method_names ms) ∙ given_mapped (λ (m : Method). m.name) (method_of s.relations) parts) s.valid.methods_are.differ in
      never_true (list_any (is_method_named name) earlier) (λ yes.
      let (other, there, holds) = any_found (is_method_named name) earlier yes in
      fresh_key parts earlier later (MethodPart name relation inputs cost) split key name differ refl (given_from key earlier other name there (method_key s.relations other name holds)))

  source_new : (relation kind locator : List ℕ) → parts ≡ earlier ++ SourcePart relation kind locator ∷ later → list_any (is_source_of relation) earlier ≡ false
  source_new relation kind locator split =
      let key : Part → Option ℕ = λ part. option_map (λ (x : SourceLine). x.rel) (source_of s.relations part) in
      let numbers : List SourceLine → List ℕ = map (λ (x : SourceLine). x.rel) in
      let differ : AllDiffer (filter_map key parts) = subst AllDiffer (sym (ap numbers ss) ∙ given_mapped (λ (x : SourceLine). x.rel) (source_of s.relations) parts) s.valid.sources_are.differ in
      never_true (list_any (is_source_of relation) earlier) (λ yes.
      let (other, there, holds) = any_found (is_source_of relation) earlier yes in
      fresh_key parts earlier later (SourcePart relation kind locator) split key (number_of s.relations relation) differ refl (given_from key earlier other (number_of s.relations relation) there (source_key s.relations other relation holds)))

  inputs_differ : (method : Method) → Contains s.methods method → AllDiffer (columns_at s.relations method.rel method.inputs)
  inputs_differ method there =
      let methods = s.valid.methods_are in
      let (relation, at) = got_below s.relations method.rel (methods.placed method there) in
      let columns = s.valid.relations_are.columns relation (contains_got s.relations method.rel relation at) in
      let names : AllDiffer (map (λ place. slice_index_or relation.columns place []) method.inputs) =
      names_differ relation.columns method.inputs columns.differ (rising_of method.inputs (λ i p q at_p at_q. methods.rising method i p q there at_p at_q) 0 (λ p first. omega arith)) (λ p among. methods.inputs method relation p there at among) in
      subst (λ (o : Option Relation). AllDiffer (map (λ place. slice_index_or (columns_in o) place []) method.inputs)) (sym at) names

  or_none : (a b : Bool) → a ≡ false → b ≡ false → (a || b) ≡ false
  or_none a b e f = cc

  pub none_repeats : (part : Part) → parts ≡ earlier ++ part ∷ later → IsOf s part → repeats_name earlier part ≡ false
  none_repeats (RelationPart name columns sorts) split of =
      or_none (list_any (is_relation_named name) earlier) (repeats columns) (relation_new name columns sorts split) (repeats_none columns (subst AllDiffer (sym of.3) (s.valid.relations_are.columns of.0 of.1).differ))
  none_repeats (MethodPart name relation inputs cost) split of =
      or_none (list_any (is_method_named name) earlier) (repeats inputs) (method_new name relation inputs cost split) (repeats_none inputs (subst AllDiffer (sym of.4) (inputs_differ of.0 of.1)))
  none_repeats (RulePart line body head) split of = refl
  none_repeats (KeyPart line relation columns target target_columns) split of = absurd of
  none_repeats (ConstantPart text) split of = refl
  none_repeats (SourcePart relation kind locator) split of = source_new relation kind locator split
