-- The schema text of a world declares the schema of the world, and no other.
use Rattle.std.proofs.Common.{◌≡◌, ◌+◌, ◌<◌, ◌≤◌, ◌^◌, ℕ, zero, suc, Bool, true, false, not, List, [], ◌∷◌, ◌++◌, ◌-◌, Ok, ⊎_elim, take, slice_get, Option, None, Some, refl, sym, ap, subst, ◌∙◌, append_assoc, arith}
use Rattle.std.specs.Prelude.{◌&&◌, ◌⊎◌, Contains, codes, flat_map}
use Rattle.std.specs.List.{range_with_len, AllByRecursion}
use Rattle.std.specs.Str.{IsUtf8}
use Rattle.std.specs.Fmt.{decimal}
use Rattle.std.proofs.lemmas.Fmt.{decimal_digit}
use Rattle.std.proofs.lemmas.List.{append-nil}
use Rattle.std.proofs.lemmas.List.Elements.{Contains-append_cases}
use Rattle.std.proofs.lemmas.Str.{IsUtf8-nil, IsUtf8-append}
use Rattle.lists.proofs.Members.{contains_got, some_injective, contains_one, contains_take, all_member}
use Rattle.lists.proofs.Booleans.{both_true}
use Rattle.meaning.specs.declared.types.Term.TheVariants.{Var}
use Rattle.meaning.specs.declared.types.Atom.{Atom}
use Rattle.meaning.specs.declared.types.Relation.{Relation}
use Rattle.meaning.specs.declared.types.Sort.{Sort}
use Rattle.meaning.specs.declared.types.Sort.TheVariants.{Text, Int}
use Rattle.meaning.specs.declared.types.Rule.{Rule}
use Rattle.meaning.specs.declared.types.Method.{Method}
use Rattle.meaning.specs.declared.types.SchemaParts.{SchemaParts}
use Rattle.meaning.specs.RuleOrder.{Feeds}
use Rattle.meaning.specs.Plans.{IsWellFormed}
use Rattle.pq_text.proofs.PrintedTexts.{number_utf8, ascii_utf8}
use Rattle.access_schema.specs.declared.part.Part.{Part}
use Rattle.access_schema.specs.declared.part.NamedTerm.{NamedTerm}
use Rattle.access_schema.specs.declared.part.NamedTerm.TheVariants.{Var as Named, Const as Said}
use Rattle.access_schema.specs.declared.fault.Limit.{Limit}
use Rattle.access_schema.specs.declared.fault.SchemaFault.{SchemaFault}
use Rattle.access_schema.specs.declared.fault.SchemaFault.TheVariants.{DuplicateName, UnknownRelation, WrongArity, UnknownColumn, OverLimit, Recursive, WrongSort}
use Rattle.access_schema.specs.declared.schema.Schema.{Schema}
use Rattle.access_schema.specs.Content.{Builds, relations_of, rule_of, rules_of}
use Rattle.access_schema.specs.Feeding.{IsChain, AreRecursive}
use Rattle.access_schema.specs.Faults.{repeats_name, uses_unknown, has_wrong_arity, has_unknown_column, passed_limit, IsFaultOf, AreFaultless, IsNamed, AreNamed, HasSorts, HaveSorts}
use Rattle.access_schema.specs.SortFaults.{sorted_terms, HasTwoSorts, HasOtherConstant, HasWrongSort}
use Rattle.access_schema.specs.Invariant.{IsSchema}
use Rattle.access_schema.proofs.Prefixes.{given_by, given_from}
use Rattle.access_schema.specs.Meaning.{meaning_of}
use Rattle.access_schema.proofs.Keeping.{well_formed}
use Rattle.access_schema.proofs.BuiltSchema.{is_schema}
use Rattle.tgd_reader.specs.Grammar.{HasParts}
use Rattle.tgd_reader.specs.SchemaText.{DeclaresSchema, IsSchemaText, IsReadFault}
use Rattle.tgd_reader.specs.Printed.{atom_pieces, listing_pieces, printed_parts}
use Rattle.tgd_reader.proofs.PrintedParts.{IsPlainAtom, IsPlain, parts_again}
use Rattle.tgd_reader.specs.declared.fault.ReadFault.{ReadFault}
use Rattle.tgd_reader.specs.declared.fault.ReadFault.TheVariants.{NoMemory}
use Rattle.tgd_reader.proofs.Exactly.{read_only, no_fault as only_memory}
use Rattle.tgd_reader.proofs.Plain.{all_appended, all_mapped}
use Rattle.world_source.specs.Formulas.{locator}
use Rattle.world_source.specs.Texts.{relation_lines, method_lines, rule_lines, source_line, source_lines, schema_text}
use Rattle.world_laws.specs.World.{columns, rule_from, world_relations, world_methods, world_rules, world_sources, IsWorldSchema}
use Rattle.world_laws.specs.Plan.{world}
use Rattle.world_laws.proofs.Parts.{relation_part, method_part, atom, rule_part, source_part, relation_parts, method_parts, rule_parts, source_parts, world_parts, steps_small, world_text}

-- ---- the parts on their lines

atom_plain : (k : ℕ) (first second : ℕ) → IsPlainAtom (atom k (first ∷ []) (second ∷ []))
atom_plain k first second = (tt, tt, (tt, (tt, tt)))

-- a part that can be printed, with columns of texts
abbrev IsOfTexts : Part → Type 0
IsOfTexts part = IsPlain false part

world_plain : (n : ℕ) → AllByRecursion IsOfTexts (world_parts n)
world_plain n =
    all_appended IsOfTexts relation_parts (method_parts ++ (rule_parts ++ source_parts n)) (all_mapped IsOfTexts relation_part (range_with_len 1 8) (λ k _. (tt, tt, (tt, (tt, tt)), refl, (refl, (refl, tt)))))
    (all_appended IsOfTexts method_parts (rule_parts ++ source_parts n) ((tt, tt, tt, omega arith), all_mapped IsOfTexts (method_part (codes "a" ∷ [])) (range_with_len 2 7) (λ k _. (tt, tt, (tt, tt), omega arith)))
    (all_appended IsOfTexts rule_parts (source_parts n) (all_mapped IsOfTexts rule_part (range_with_len 1 7) (λ k _. (tt, (atom_plain k 120 121, tt), tt, (atom_plain (k + 1) 121 122, tt))))
    (all_mapped IsOfTexts (source_part n) (range_with_len 1 8) (λ k _. (tt, tt)))))

on_lines : (n : ℕ) → (printed_parts false (world_parts n)).parts ≡ world_parts n
unfolding atom_pieces listing_pieces
on_lines n = rw (decimal_digit 1 (omega arith)) refl

-- ---- no part has a fault

abbrev is_none : {X : Type 0} → Option X → Bool
is_none None = true
is_none (Some x) = false

abbrev is_clean : List Relation → List Part → Part → Bool
is_clean relations earlier part =
    not (repeats_name earlier part) && (not (uses_unknown relations part) && (not (has_wrong_arity relations part) && (not (has_unknown_column relations part) && is_none (passed_limit earlier part))))

abbrev are_clean : List Relation → List Part → List Part → Bool
are_clean relations earlier [] = true
are_clean relations earlier (part ∷ parts) = is_clean relations earlier part && are_clean relations (earlier ++ part ∷ []) parts

world_clean : (n : ℕ) → are_clean (relations_of (world_parts n)) [] (world_parts n) ≡ true
world_clean n = refl

abbrev passes_all : Bool → Bool → Bool → Bool → Option Limit → Bool
passes_all a b c d o = not a && (not b && (not c && (not d && is_none o)))

record Free (a b c d : Bool) (o : Option Limit) : Type 0 where
  names : a ≡ false
  known : b ≡ false
  arity : c ≡ false
  columns : d ≡ false
  limit : o ≡ None

free : (a b c d : Bool) (o : Option Limit) → passes_all a b c d o ≡ true → Free a b c d o
free true b c d o is = absurd cc
free false true c d o is = absurd cc
free false false true d o is = absurd cc
free false false false true o is = absurd cc
free false false false false None is = record { names = refl; known = refl; arity = refl; columns = refl; limit = refl }
free false false false false (Some l) is = absurd cc

part_clean : (relations : List Relation) (earlier parts : List Part) (index : ℕ) (part : Part) → are_clean relations earlier parts ≡ true → slice_get parts index ≡ Some part → is_clean relations (earlier ++ take index parts) part ≡ true
part_clean relations earlier [] index part clean at = absurd cc
part_clean relations earlier (p ∷ parts) zero part clean at =
    let both = both_true (is_clean relations earlier p) (are_clean relations (earlier ++ p ∷ []) parts) clean in
    subst (λ (e : List Part). is_clean relations e part ≡ true) (sym (append-nil earlier)) (subst (λ q. is_clean relations earlier q ≡ true) (some_injective p part at) both.0)
part_clean relations earlier (p ∷ parts) (suc k) part clean at =
    let both = both_true (is_clean relations earlier p) (are_clean relations (earlier ++ p ∷ []) parts) clean in
    subst (λ (e : List Part). is_clean relations e part ≡ true) (append_assoc earlier (p ∷ []) (take k parts)) (part_clean relations (earlier ++ p ∷ []) parts k part both.1 at)

-- each rule leads to the next relation
abbrev IsStep : Rule → Type 0
IsStep rule = (body head : Atom) → Contains rule.body body → Contains rule.head head → body.rel < head.rel

rule_steps : (k : ℕ) → 1 ≤ k → IsStep (rule_from k)
rule_steps k some body head in_body in_head =
    let b = ap (λ (a : Atom). a.rel) (contains_one (the_body k) body in_body) in
    let h = ap (λ (a : Atom). a.rel) (contains_one (the_head k) head in_head) in
    omega (arith, some, b, h)
  where
    the_body : ℕ → Atom
    the_body k = record { rel = k - 1; terms = Var 0 ∷ Var 1 ∷ [] }

    the_head : ℕ → Atom
    the_head k = record { rel = k; terms = Var 1 ∷ Var 2 ∷ [] }

world_steps : AllByRecursion IsStep world_rules
world_steps = (rule_steps 1 (omega arith), (rule_steps 2 (omega arith), (rule_steps 3 (omega arith), (rule_steps 4 (omega arith), (rule_steps 5 (omega arith), (rule_steps 6 (omega arith), (rule_steps 7 (omega arith), tt)))))))

module _ (rules : List Rule) (steps : (rule : Rule) → Contains rules rule → IsStep rule) where
  feeds_rises : (source target : ℕ) → Feeds rules source target → source < target
  feeds_rises source target feeds =
      let rises = steps feeds.rule feeds.of_rules feeds.body feeds.head feeds.in_body feeds.in_head in
      let reads = feeds.reads in
      let makes = feeds.makes in
      omega (arith, rises, reads, makes)

  chain_rises : (source : ℕ) (between : List ℕ) (target : ℕ) → IsChain (Feeds rules) source between target → source < target
  chain_rises source [] target feeds = feeds_rises source target feeds
  chain_rises source (next ∷ between) target chain =
      let first = feeds_rises source next chain.0 in
      let rest = chain_rises next between target chain.1 in
      omega (arith, first, rest)

  straight : AreRecursive rules → ⊥
  straight (number, between, chain) = let rises = chain_rises number between number chain in omega (arith, rises)

module _ (n : ℕ) where
  built_rules : rules_of (relations_of (world_parts n)) (world_parts n) ≡ world_rules
  built_rules = refl

  front_steps : (front : List Part) → ((part : Part) → Contains front part → Contains (world_parts n) part) → (rule : Rule) → Contains (rules_of (relations_of (world_parts n)) front) rule → IsStep rule
  front_steps front within rule there =
      let (k, part, at, gives) = given_by (rule_of (relations_of (world_parts n))) front rule there in
      let all : Contains (rules_of (relations_of (world_parts n)) (world_parts n)) rule = given_from (rule_of (relations_of (world_parts n))) (world_parts n) part rule (within part (contains_got front k part at)) gives in
      all_member IsStep world_rules rule world_steps (subst (λ (rules : List Rule). Contains rules rule) built_rules all)

  -- no rule has a variable or a constant at an integer column
  rule_texts : (terms : List (NamedTerm × Sort)) → AllByRecursion (λ pair. pair.1 ≡ Text) terms → HasTwoSorts terms ⊎ HasOtherConstant terms → ⊥
  rule_texts terms all has = ⊎_elim
      (λ two. let never : Int ≡ Text = all_member (λ pair. pair.1 ≡ Text) terms (Named two.0, Int) all two.1 in absurd (cc))
      (λ other. let never : Int ≡ Text = all_member (λ pair. pair.1 ≡ Text) terms (Said other.0, Int) all other.1 in absurd (cc))
      has

  abbrev HasNone : Part → Type 0
  HasNone part = HasWrongSort (relations_of (world_parts n)) part → ⊥

  texts : (k : ℕ) → AllByRecursion (λ pair. pair.1 ≡ Text) (sorted_terms (relations_of (world_parts n)) (atom k (codes "x") (codes "y") ∷ atom (k + 1) (codes "y") (codes "z") ∷ [])) → HasNone (rule_part k)
  texts k all = rule_texts (sorted_terms (relations_of (world_parts n)) (atom k (codes "x") (codes "y") ∷ atom (k + 1) (codes "y") (codes "z") ∷ [])) all

  no_wrong_sort : (part : Part) → Contains (world_parts n) part → HasNone part
  no_wrong_sort part there = all_member HasNone (world_parts n) part all there
    where
      rules : AllByRecursion HasNone rule_parts
      rules = (
        texts 1 (refl, (refl, (refl, (refl, tt)))),
        (
          texts 2 (refl, (refl, (refl, (refl, tt)))),
          (
            texts 3 (refl, (refl, (refl, (refl, tt)))),
            (
              texts 4 (refl, (refl, (refl, (refl, tt)))),
              (
                texts 5 (refl, (refl, (refl, (refl, tt)))),
                (
                  texts 6 (refl, (refl, (refl, (refl, tt)))),
                  (texts 7 (refl, (refl, (refl, (refl, tt)))), tt),
                ),
              ),
            ),
          ),
        ),
      )

      all : AllByRecursion HasNone (world_parts n)
      all =
          all_appended HasNone relation_parts (method_parts ++ (rule_parts ++ source_parts n)) (all_mapped HasNone relation_part (range_with_len 1 8) (λ k _ is. is))
          (all_appended HasNone method_parts (rule_parts ++ source_parts n) (λ is. is, all_mapped HasNone (method_part (codes "a" ∷ [])) (range_with_len 2 7) (λ k _ is. is))
          (all_appended HasNone rule_parts (source_parts n) rules
          (all_mapped HasNone (source_part n) (range_with_len 1 8) (λ k _ is. is))))

  no_fault : (index : ℕ) (part : Part) → slice_get (world_parts n) index ≡ Some part → Free (repeats_name (take index (world_parts n)) part) (uses_unknown (relations_of (world_parts n)) part) (has_wrong_arity (relations_of (world_parts n)) part) (has_unknown_column (relations_of (world_parts n)) part) (passed_limit (take index (world_parts n)) part) →
      (fault : SchemaFault) → IsFaultOf (relations_of (world_parts n)) (take index (world_parts n)) part fault → ⊥
  no_fault index part at none DuplicateName has = let e = none.names in cc
  no_fault index part at none UnknownRelation has = let e = none.known in cc
  no_fault index part at none WrongArity has = let e = none.arity in cc
  no_fault index part at none UnknownColumn has = let e = none.columns in cc
  no_fault index part at none (OverLimit limit) has = let e = none.limit in cc
  no_fault index part at none Recursive has =
      straight (rules_of (relations_of (world_parts n)) (take index (world_parts n) ++ part ∷ []))
      (front_steps (take index (world_parts n) ++ part ∷ []) (λ other there. ⊎_elim (contains_take index (world_parts n) other) (λ last. subst (Contains (world_parts n)) (contains_one part other last) (contains_got (world_parts n) index part at))
      (Contains-append_cases (take index (world_parts n)) (part ∷ []) other there)))
      has.1
  no_fault index part at none WrongSort has = no_wrong_sort part (contains_got (world_parts n) index part at) has

  world_faultless : AreFaultless (world_parts n)
  world_faultless index fault (part, at, has) =
      no_fault index part at (free _ _ _ _ _ (part_clean (relations_of (world_parts n)) [] (world_parts n) index part (world_clean n) at)) fault has

  world_named : AreNamed (world_parts n)
  world_named part there = all_member IsNamed (world_parts n) part all there
    where
      listed : {X : Type 0} (x : X) (xs : List X) → (x ∷ xs ≡ []) → ⊥
      listed x xs e = absurd cc

      columns_named : (column : List ℕ) → Contains columns column → column ≡ [] → ⊥
      columns_named column there = all_member (λ (c : List ℕ). c ≡ [] → ⊥) columns column (listed 97 [], (listed 98 [], tt)) there

      all : AllByRecursion IsNamed (world_parts n)
      all =
          all_appended IsNamed relation_parts (method_parts ++ (rule_parts ++ source_parts n)) (all_mapped IsNamed relation_part (range_with_len 1 8) (λ k _. (listed 99 ((48 + k) ∷ []), columns_named)))
          (all_appended IsNamed method_parts (rule_parts ++ source_parts n) (listed 109 (49 ∷ []), all_mapped IsNamed (method_part (codes "a" ∷ [])) (range_with_len 2 7) (λ k _. listed 109 ((48 + k) ∷ [])))
          (all_appended IsNamed rule_parts (source_parts n) (all_mapped IsNamed rule_part (range_with_len 1 7) (λ k _. tt))
          (all_mapped IsNamed (source_part n) (range_with_len 1 8) (λ k _. listed 119 (codes "orld")))))

  world_sorted : HaveSorts (world_parts n)
  world_sorted part there = all_member HasSorts (world_parts n) part all there
    where
      all : AllByRecursion HasSorts (world_parts n)
      all =
          all_appended HasSorts relation_parts (method_parts ++ (rule_parts ++ source_parts n)) (all_mapped HasSorts relation_part (range_with_len 1 8) (λ k _. refl))
          (all_appended HasSorts method_parts (rule_parts ++ source_parts n) (tt, all_mapped HasSorts (method_part (codes "a" ∷ [])) (range_with_len 2 7) (λ k _. tt))
          (all_appended HasSorts rule_parts (source_parts n) (all_mapped HasSorts rule_part (range_with_len 1 7) (λ k _. tt))
          (all_mapped HasSorts (source_part n) (range_with_len 1 8) (λ k _. tt))))

  world_valid : IsSchema world_relations world_methods world_rules [] (world_sources n)
  world_valid = is_schema (world_parts n) world_faultless world_named world_sorted

  pub world_schema : Schema
  world_schema = record { relations = world_relations; methods = world_methods; rules = world_rules; constants = []; sources = world_sources n; valid = world_valid }

  -- ---- the text

  line_utf8 : n < 2 ^ 64 → (k : ℕ) → k < 2 ^ 64 → IsUtf8 (source_line n k)
  line_utf8 fits k small =
      let own : List ℕ = decimal k in
      let place : IsUtf8 (locator k n) = IsUtf8-append (own ++ codes "/") (decimal n) (IsUtf8-append own (codes "/") (number_utf8 k small) (ascii_utf8 (codes "/") refl)) (number_utf8 n fits) in
      IsUtf8-append (((codes "source c" ++ own) ++ codes " world '") ++ locator k n) (codes "'\n")
      (IsUtf8-append ((codes "source c" ++ own) ++ codes " world '") (locator k n)
      (IsUtf8-append (codes "source c" ++ own) (codes " world '") (IsUtf8-append (codes "source c") own (ascii_utf8 (codes "source c") refl) (number_utf8 k small)) (ascii_utf8 (codes " world '") refl)) place)
      (ascii_utf8 (codes "'\n") refl)

  lines_utf8 : n < 2 ^ 64 → (ks : List ℕ) → AllByRecursion (λ k. k < 10) ks → IsUtf8 (flat_map (source_line n) ks)
  lines_utf8 fits [] all = IsUtf8-nil
  lines_utf8 fits (k ∷ ks) (small, all) = IsUtf8-append (source_line n k) (flat_map (source_line n) ks) (line_utf8 fits k (omega (arith, small))) (lines_utf8 fits ks all)

  text_utf8 : n < 2 ^ 64 → IsUtf8 (schema_text n)
  text_utf8 fits = IsUtf8-append ((relation_lines ++ method_lines) ++ rule_lines) (source_lines n) (ascii_utf8 ((relation_lines ++ method_lines) ++ rule_lines) refl) (lines_utf8 fits (range_with_len 1 8) steps_small)

  has_parts : n < 2 ^ 64 → HasParts (schema_text n) (printed_parts false (world_parts n))
  has_parts fits = subst (λ (text : List ℕ). HasParts text (printed_parts false (world_parts n))) (world_text n fits) (parts_again false (world_parts n) (world_plain n))

  declares : n < 2 ^ 64 → DeclaresSchema (schema_text n) world_schema
  unfolding world_schema
  declares fits = record {
    declared = printed_parts false (world_parts n);
    parts = has_parts fits;
    faultless = subst AreFaultless (sym (on_lines n)) world_faultless;
    builds = subst (λ (parts : List Part). Builds parts world_schema) (sym (on_lines n)) (record { relations = refl; methods = refl; rules = refl; constants = refl; sources = refl });
  }

  pub world_is_read : n < 2 ^ 64 → IsSchemaText (schema_text n) world_schema
  world_is_read fits = (text_utf8 fits, declares fits)

  pub world_is_itself : IsWorldSchema n world_schema
  unfolding world_schema
  world_is_itself = record { relations = refl; methods = refl; rules = refl; constants = refl; sources = refl }

  pub world_alone : n < 2 ^ 64 → (schema : Schema) → IsSchemaText (schema_text n) schema → IsWorldSchema n schema
  world_alone fits schema is = subst (IsWorldSchema n) (sym (read_only (schema_text n) (Ok schema) is tt world_schema (world_is_read fits))) world_is_itself

  pub world_no_fault : n < 2 ^ 64 → (fault : ReadFault) → IsReadFault (schema_text n) fault → fault ≡ NoMemory
  world_no_fault fits fault has = only_memory (schema_text n) world_schema fault (world_is_read fits) has

pub world_meaning : (n : ℕ) (schema : Schema) → IsWorldSchema n schema → meaning_of schema ≡ world
world_meaning n schema is =
    let make : List Relation → List Method → List Rule → List (List ℕ) → SchemaParts = λ rs ms us cs. record { relations = rs; methods = ms; rules = us; constants = cs } in
    ap (λ rs. make rs schema.methods schema.rules schema.constants) is.relations ∙ ap (λ ms. make world_relations ms schema.rules schema.constants) is.methods
    ∙ ap (λ us. make world_relations world_methods us schema.constants) is.rules ∙ ap (make world_relations world_methods world_rules) is.constants

pub world_well_formed : IsWellFormed world
world_well_formed = subst IsWellFormed (world_meaning 1 (world_schema 1) (world_is_itself 1)) (well_formed (world_schema 1))
