-- The declarations of a schema can be printed: no name is empty, and lists have members.
use Rattle.std.proofs.Common.{◌≡◌, ℕ, ◌<◌, Bool, true, false, None, List, [], ◌∷◌, ◌++◌, length, get_or, Option, refl, sym, subst, arith}
use Rattle.std.specs.Prelude.{Contains, map, slice_index_or}
use Rattle.std.specs.List.{AllByRecursion, list_any}
use Rattle.std.proofs.lemmas.List.Elements.{All-contains_itself, Contains-append_left, Contains-append_right}
use Rattle.std.proofs.lemmas.List.{length-map}
use Rattle.meaning.specs.declared.types.Relation.{Relation}
use Rattle.meaning.specs.declared.types.Method.{Method}
use Rattle.meaning.specs.declared.types.Rule.{Rule}
use Rattle.meaning.specs.declared.types.Atom.{Atom}
use Rattle.meaning.specs.declared.types.Sort.{Sort}
use Rattle.meaning.specs.declared.types.Sort.TheVariants.{Text, Int}
use Rattle.meaning.specs.declared.types.Term.{Term}
use Rattle.meaning.specs.declared.types.Term.TheVariants.{Var, Const}
use Rattle.pq_text.specs.Forms.{IsSome}
use Rattle.lists.proofs.Members.{contains_here, contains_there, contains_got, got_below, all_from}
use Rattle.pq_text.proofs.Forms.{some_listed, some_long}
use Rattle.access_schema.specs.declared.part.Part.{Part}
use Rattle.access_schema.specs.declared.part.Part.TheVariants.{Constant as ConstantPart}
use Rattle.access_schema.specs.declared.schema.SourceLine.{SourceLine}
use Rattle.access_schema.specs.declared.schema.Schema.{Schema}
use Rattle.access_schema.specs.Invariant.{AtomFits}
use Rattle.access_schema.proofs.Texts.{any_at}
use Rattle.lists.proofs.Booleans.{never_true}
use Rattle.tgd_reader.specs.Grammar.{IsGiven}
use Rattle.tgd_reader.specs.Printed.{name_in, columns_in, name_at, columns_at, named_term, named_atom, relation_part, method_part, rule_part, source_part, parts_of, is_int, holds_integers, has_integers, word_of}
use Rattle.tgd_reader.proofs.PrintedParts.{IsPlainTerm, IsPlainAtom, AreGiven, IsPlain}

pub all_appended : {X : Type 0} (P : X → Type 0) (xs ys : List X) → AllByRecursion P xs → AllByRecursion P ys → AllByRecursion P (xs ++ ys)
all_appended P [] ys front behind = behind
all_appended P (x ∷ xs) ys front behind = (front.0, all_appended P xs ys front.1 behind)

pub all_mapped : {X Y : Type 0} (P : Y → Type 0) (f : X → Y) (xs : List X) → ((x : X) → Contains xs x → P (f x)) → AllByRecursion P (map f xs)
all_mapped P f [] all = tt
all_mapped P f (x ∷ xs) all = (all x (contains_here x xs), all_mapped P f xs (λ y there. all y (contains_there x xs y there)))

words_none : (sorts : List Sort) → list_any is_int sorts ≡ false → AllByRecursion (λ sort. word_of sort ≡ None) sorts
words_none [] none = tt
words_none (Text ∷ sorts) none = (refl, words_none sorts none)
words_none (Int ∷ sorts) none = absurd (let e = none in cc)

module _ (schema : Schema) where
  name_some : (number : ℕ) → number < length schema.relations → IsSome (name_at schema.relations number)
  name_some number lt =
      let (relation, at) = got_below schema.relations number lt in
      let some : IsSome relation.name = some_listed relation.name (schema.valid.relations_are.named relation (contains_got schema.relations number relation at)) in
      subst (λ (o : Option Relation). IsSome (name_in o)) (sym at) some

  -- in version 1 no column holds integers
  sorts_given : (v : Bool) → has_integers schema.relations ≡ v → (relation : Relation) → Contains schema.relations relation → AreGiven v relation.sorts
  sorts_given true is relation there = all_from (λ sort. IsGiven true (word_of sort)) relation.sorts (λ sort among. tt)
  sorts_given false is relation there =
      words_none relation.sorts (never_true (holds_integers relation) (λ yes. let has = any_at holds_integers schema.relations relation there yes in cc))

  relation_plain : (v : Bool) → has_integers schema.relations ≡ v → (relation : Relation) → Contains schema.relations relation → IsPlain v (relation_part relation)
  relation_plain v is relation there =
      let columns = schema.valid.relations_are.columns relation there in (
        some_listed relation.name (schema.valid.relations_are.named relation there),
        some_long relation.columns columns.some,
        all_from (λ (column : List ℕ). IsSome column) relation.columns (λ column among. some_listed column (columns.named column among)),
        schema.valid.relations_are.sorts relation there,
        sorts_given v is relation there,
      )

  method_plain : (v : Bool) (method : Method) → Contains schema.methods method → IsPlain v (method_part schema.relations method)
  method_plain v method there =
      let placed = schema.valid.methods_are.placed method there in
      let (relation, at) = got_below schema.relations method.rel placed in
      let columns = schema.valid.relations_are.columns relation (contains_got schema.relations method.rel relation at) in
      let names : AllByRecursion IsSome (map (λ place. slice_index_or relation.columns place []) method.inputs) =
      all_mapped IsSome (λ place. slice_index_or relation.columns place []) method.inputs (λ place among.
      let lt = schema.valid.methods_are.inputs method relation place there at among in
      some_listed (get_or relation.columns place []) (columns.named (get_or relation.columns place []) (All-contains_itself relation.columns place [] lt))) in
      let inputs : AllByRecursion IsSome (columns_at schema.relations method.rel method.inputs) =
      subst (λ (o : Option Relation). AllByRecursion IsSome (map (λ place. slice_index_or (columns_in o) place []) method.inputs)) (sym at) names in
      (some_listed method.name (schema.valid.methods_are.named method there), name_some method.rel placed, inputs, schema.valid.methods_are.cost method there)

  term_plain : (term : Term) → IsPlainTerm (named_term term)
  term_plain (Var k) = tt
  term_plain (Const text) = tt

  atom_plain : (atom : Atom) → AtomFits schema.relations atom → IsPlainAtom (named_atom schema.relations atom)
  atom_plain atom fits =
      let (relation, at) = got_below schema.relations atom.rel fits.placed in
      let columns = schema.valid.relations_are.columns relation (contains_got schema.relations atom.rel relation at) in
      let some = columns.some in
      let arity = fits.arity relation at in
      let long = length-map atom.terms named_term in (
        name_some atom.rel fits.placed,
        some_long (map named_term atom.terms) (omega (arith, some, arity, long)),
        all_mapped IsPlainTerm named_term atom.terms (λ term among. term_plain term),
      )

  rule_plain : (v : Bool) (rule : Rule) → Contains schema.rules rule → IsPlain v (rule_part schema.relations rule)
  rule_plain v rule there =
      let fits = schema.valid.rules_are.fit rule there in
      let body_long = length-map rule.body (named_atom schema.relations) in
      let head_long = length-map rule.head (named_atom schema.relations) in
      let body_some = fits.body_some in
      let head_some = fits.head_some in (
        some_long (map (named_atom schema.relations) rule.body) (omega (arith, body_long, body_some)),
        all_mapped IsPlainAtom (named_atom schema.relations) rule.body (λ atom among. atom_plain atom (fits.atoms atom (Contains-append_left rule.body rule.head atom among))),
        some_long (map (named_atom schema.relations) rule.head) (omega (arith, head_long, head_some)),
        all_mapped IsPlainAtom (named_atom schema.relations) rule.head (λ atom among. atom_plain atom (fits.atoms atom (Contains-append_right rule.body rule.head atom among))),
      )

  source_plain : (v : Bool) (source : SourceLine) → Contains schema.sources source → IsPlain v (source_part schema.relations source)
  source_plain v source there = (name_some source.rel (schema.valid.sources_are.placed source there), some_listed source.kind (schema.valid.sources_are.named source there))

  pub schema_plain : (v : Bool) → has_integers schema.relations ≡ v → AllByRecursion (IsPlain v) (parts_of schema)
  schema_plain v is =
      let sources : List Part = map (source_part schema.relations) schema.sources in
      let constants : List Part = map ConstantPart schema.constants in
      let rules : List Part = map (rule_part schema.relations) schema.rules in
      let methods : List Part = map (method_part schema.relations) schema.methods in
      all_appended (IsPlain v) (map relation_part schema.relations) (methods ++ (rules ++ (constants ++ sources))) (all_mapped (IsPlain v) relation_part schema.relations (relation_plain v is))
      (all_appended (IsPlain v) methods (rules ++ (constants ++ sources)) (all_mapped (IsPlain v) (method_part schema.relations) schema.methods (method_plain v))
      (all_appended (IsPlain v) rules (constants ++ sources) (all_mapped (IsPlain v) (rule_part schema.relations) schema.rules (rule_plain v))
      (all_appended (IsPlain v) constants sources (all_mapped (IsPlain v) ConstantPart schema.constants (λ text there. tt)) (all_mapped (IsPlain v) (source_part schema.relations) schema.sources (source_plain v)))))
