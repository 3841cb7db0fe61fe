-- The text of a schema declares the schema again.
use Rattle.std.proofs.Common.{◌≡◌, ℕ, zero, suc, ◌+◌, ◌<◌, ◌≤◌, max, Bool, true, false, not, List, [], ◌∷◌, ◌++◌, length, take, drop, slice_get, Option, None, Some, refl, sym, ap, subst, ◌∙◌, arith, ⊎_elim, nat_le, nat_lt}
use Rattle.std.specs.Prelude.{Contains, map, filter, filter_map, flat_map, slice_index_or, ◌==◌}
use Rattle.std.specs.Str.{IsUtf8}
use Rattle.std.specs.List.{AllByRecursion, list_any, range_with_len}
use Rattle.std.proofs.lemmas.Bool.Decides.{nat_tests}
use Rattle.std.proofs.lemmas.List.{length-map, map-append}
use Rattle.std.proofs.lemmas.List.Elements.{Contains-append_left, Contains-append_right}
use Rattle.meaning.specs.declared.types.Relation.{Relation}
use Rattle.meaning.specs.declared.types.Method.{Method}
use Rattle.meaning.specs.declared.types.Atom.{Atom}
use Rattle.lists.proofs.Members.{contains_got, got_below, all_member, all_from}
use Rattle.lists.proofs.Booleans.{neither_true}
use Rattle.access_schema.specs.declared.part.NamedAtom.{NamedAtom}
use Rattle.access_schema.specs.declared.part.Part.{Part}
use Rattle.access_schema.specs.declared.part.Part.TheVariants.{Relation as RelationPart, Method as MethodPart, Rule as RulePart, ForeignKey as KeyPart, Constant as ConstantPart, Source as SourcePart}
use Rattle.access_schema.specs.declared.schema.Schema.{Schema}
use Rattle.access_schema.specs.declared.fault.SchemaFault.{SchemaFault}
use Rattle.access_schema.specs.declared.fault.SchemaFault.TheVariants.{DuplicateName, UnknownRelation, WrongArity, UnknownColumn, OverLimit, Recursive, WrongSort}
use Rattle.access_schema.specs.declared.limits.TheConstants.{MOST_RELATIONS, MOST_METHODS, MOST_RULES, MOST_COLUMNS, MOST_BODY_ATOMS, MOST_HEAD_ATOMS, MOST_VARIABLES, MOST_COST, MOST_CONSTANTS}
use Rattle.access_schema.specs.Content.{columns_of, relation_of, relations_of, method_of, methods_of, rule_of, rules_of, sources_of, constants_of, variable_of, variables_of, part_constants}
use Rattle.meaning.specs.declared.types.Rule.{Rule}
use Rattle.meaning.specs.Triggers.{terms_bound}
use Rattle.access_schema.proofs.Built.{counted, relation_agrees, method_agrees}
use Rattle.access_schema.proofs.BuiltRules.{rule_agrees}
use Rattle.access_schema.proofs.BuiltSchema.{is_schema}
use Rattle.access_schema.proofs.Ordered.{ordered_from}
use Rattle.access_schema.specs.Invariant.{AtomFits, terms_of}
use Rattle.access_schema.specs.Lists.{is_among, once_after, each_once}
use Rattle.access_schema.specs.Faults.{is_relation, is_method, is_rule, is_outside, has_many_constants, passed_limit, IsFaultOf, AreFaultless, IsNamed, AreNamed, HasSorts, HaveSorts, is_unknown, uses_unknown, is_misfit, has_wrong_arity, lacks, has_unknown_column}
use Rattle.access_schema.proofs.Texts.{contains_among, once_differ, once_from, length_le}
use Rattle.access_schema.specs.declared.part.NamedTerm.{NamedTerm}
use Rattle.access_schema.specs.Meaning.{meaning_of}
use Rattle.access_schema.specs.SortFaults.{HasWrongSort}
use Rattle.access_schema.proofs.Keeping.{rules_sorted}
use Rattle.tgd_reader.proofs.SortedParts.{no_wrong_sort}
use Rattle.tgd_reader.specs.SchemaText.{DeclaresSchema, IsSchemaText}
use Rattle.tgd_reader.specs.Printed.{name_at, columns_at, columns_in, named_term, named_atom, variable_name, without_line, parts_of, placed_from, printed_parts, has_integers, first_line, text_of_schema, AreSameButLines}
use Rattle.tgd_reader.proofs.PrintedParts.{parts_again}
use Rattle.tgd_reader.proofs.Plain.{schema_plain}
use Rattle.tgd_reader.proofs.Rebuilt.{first_names, names_once, terms_named}
use Rattle.tgd_reader.proofs.Redeclared.{relations_placed, methods_on_lines, sources_on_lines, rules_on_lines}
use Rattle.tgd_reader.proofs.Sound.{none_repeats}
use Rattle.tgd_reader.proofs.Places.{got_read}
use Rattle.tgd_reader.proofs.Reprinted.{IsOf, placed_declared, constants_within, constants_on_lines}
use Rattle.tgd_reader.proofs.Faultless.{room, stands_there, not_recursive, none_mapped, name_known, name_columns}

le_false : (most count : ℕ) → count < most → nat_le most count ≡ false
le_false most count lt = grind (arith, nat_tests)

lt_false : (most count : ℕ) → count ≤ most → nat_lt most count ≡ false
lt_false most count le = grind (arith, nat_tests)

outside_false : (most count : ℕ) → 1 ≤ count → count ≤ most → is_outside most count ≡ false
outside_false most count some few = grind (arith, nat_tests)

same_lengths : (a b : ℕ) → a ≡ b → not (a == b) ≡ false
same_lengths a b e = grind (arith, nat_tests)

module _ (s : Schema) where
  atom_known : (atom : Atom) → AtomFits s.relations atom → is_unknown s.relations (name_at s.relations atom.rel) ≡ false
  atom_known atom fits = name_known s atom.rel fits.placed

  atom_fit : (atom : Atom) → AtomFits s.relations atom → is_misfit s.relations (named_atom s.relations atom) ≡ false
  atom_fit atom fits =
      let (relation, at) = got_below s.relations atom.rel fits.placed in
      same_lengths (length (map named_term atom.terms)) (length (columns_of s.relations (name_at s.relations atom.rel)))
      (length-map atom.terms named_term ∙ fits.arity relation at ∙ sym (ap length (name_columns s atom.rel relation at)))

  pub none_unknown : (part : Part) → IsOf s part → uses_unknown s.relations part ≡ false
  none_unknown (RelationPart name columns sorts) of = refl
  none_unknown (MethodPart name relation inputs cost) of = ap (is_unknown s.relations) of.3 ∙ name_known s of.0.rel (s.valid.methods_are.placed of.0 of.1)
  none_unknown (RulePart line body head) of =
      let fits = s.valid.rules_are.fit of.0 of.1 in
      let p : NamedAtom → Bool = λ atom. is_unknown s.relations atom.relation in
      neither_true (list_any p body) (list_any p head)
      (ap (list_any p) of.2 ∙ none_mapped p (named_atom s.relations) of.0.body (λ atom there. atom_known atom (fits.atoms atom (Contains-append_left of.0.body of.0.head atom there))))
      (ap (list_any p) of.3 ∙ none_mapped p (named_atom s.relations) of.0.head (λ atom there. atom_known atom (fits.atoms atom (Contains-append_right of.0.body of.0.head atom there))))
  none_unknown (KeyPart line relation columns target target_columns) of = absurd of
  none_unknown (ConstantPart text) of = refl
  none_unknown (SourcePart relation kind locator) of = ap (is_unknown s.relations) of.2 ∙ name_known s of.0.rel (s.valid.sources_are.placed of.0 of.1)

  pub none_misfit : (part : Part) → IsOf s part → has_wrong_arity s.relations part ≡ false
  none_misfit (RelationPart name columns sorts) of = refl
  none_misfit (MethodPart name relation inputs cost) of = refl
  none_misfit (RulePart line body head) of =
      let fits = s.valid.rules_are.fit of.0 of.1 in
      let p : NamedAtom → Bool = is_misfit s.relations in
      neither_true (list_any p body) (list_any p head)
      (ap (list_any p) of.2 ∙ none_mapped p (named_atom s.relations) of.0.body (λ atom there. atom_fit atom (fits.atoms atom (Contains-append_left of.0.body of.0.head atom there))))
      (ap (list_any p) of.3 ∙ none_mapped p (named_atom s.relations) of.0.head (λ atom there. atom_fit atom (fits.atoms atom (Contains-append_right of.0.body of.0.head atom there))))
  none_misfit (KeyPart line relation columns target target_columns) of = absurd of
  none_misfit (ConstantPart text) of = refl
  none_misfit (SourcePart relation kind locator) of = refl

  method_columns : (method : Method) → Contains s.methods method → lacks s.relations (name_at s.relations method.rel) (columns_at s.relations method.rel method.inputs) ≡ false
  method_columns method there =
      let (relation, at) = got_below s.relations method.rel (s.valid.methods_are.placed method there) in
      let own : columns_of s.relations (name_at s.relations method.rel) ≡ relation.columns = name_columns s method.rel relation at in
      let name : ℕ → List ℕ = λ place. slice_index_or (columns_in (slice_get s.relations method.rel)) place [] in
      none_mapped (λ n. not (is_among (columns_of s.relations (name_at s.relations method.rel)) n)) name method.inputs (λ place among.
      let lt = s.valid.methods_are.inputs method relation place there at among in
      let (column, got) = got_below relation.columns place lt in
      let is : name place ≡ column = ap (λ (o : Option Relation). slice_index_or (columns_in o) place []) at ∙ got_read relation.columns place column [] got in
      let yes : is_among relation.columns column ≡ true = contains_among relation.columns column (contains_got relation.columns place column got) in
      ap (λ (n : List ℕ). not (is_among (columns_of s.relations (name_at s.relations method.rel)) n)) is ∙ ap (λ (cs : List (List ℕ)). not (is_among cs column)) own ∙ ap not yes)

  pub none_lacking : (part : Part) → IsOf s part → has_unknown_column s.relations part ≡ false
  none_lacking (RelationPart name columns sorts) of = refl
  none_lacking (MethodPart name relation inputs cost) of =
      ap (λ (n : List ℕ). lacks s.relations n inputs) of.3 ∙ ap (lacks s.relations (name_at s.relations of.0.rel)) of.4 ∙ method_columns of.0 of.1
  none_lacking (RulePart line body head) of = refl
  none_lacking (KeyPart line relation columns target target_columns) of = absurd of
  none_lacking (ConstantPart text) of = refl
  none_lacking (SourcePart relation kind locator) of = refl

  pub sorts_fit : (part : Part) → IsOf s part → HasWrongSort s.relations part → ⊥
  sorts_fit (RelationPart name columns sorts) of wrong = wrong
  sorts_fit (MethodPart name relation inputs cost) of wrong = wrong
  sorts_fit (RulePart line body head) of wrong =
      let is = s.valid.rules_are.fit of.0 of.1 in
      no_wrong_sort (meaning_of s) s.valid.relations_are of.0 (rules_sorted s of.0 of.1) is.atoms is.variables body head of.2 of.3 wrong
  sorts_fit (KeyPart line relation columns target target_columns) of wrong = absurd of
  sorts_fit (ConstantPart text) of wrong = wrong
  sorts_fit (SourcePart relation kind locator) of wrong = wrong

-- ---- limits

range_long : (from count : ℕ) → length (range_with_len from count) ≡ count
range_long from zero = refl
range_long from (suc count) = let e = range_long (from + 1) count in omega (arith, e)

variables_few : (s : Schema) (rule : Rule) (body head : List NamedAtom) → Contains s.rules rule → body ≡ map (named_atom s.relations) rule.body → head ≡ map (named_atom s.relations) rule.head → length (variables_of (body ++ head)) ≤ MOST_VARIABLES
variables_few s rule body head there in_body in_head =
    let is = s.valid.rules_are.fit rule there in
    let atoms : List Atom = rule.body ++ rule.head in
    let n = terms_bound (terms_of atoms) in
    let few = is.variables in
    let all : body ++ head ≡ map (named_atom s.relations) atoms = ap (λ (b : List NamedAtom). b ++ head) in_body ∙ ap (λ (h : List NamedAtom). map (named_atom s.relations) rule.body ++ h) in_head ∙ sym (map-append (named_atom s.relations) rule.body rule.head) in
    let variables : variables_of (body ++ head) ≡ first_names (max 0 n) =
    ap variables_of all ∙ ap (λ (ts : List NamedTerm). once_after [] (filter_map variable_of ts)) (terms_named s.relations atoms) ∙ names_once 0 (terms_of atoms) (ordered_from (terms_of atoms) is.in_order) (omega arith) (omega (arith, few)) in
    let a = ap length variables in
    let b = length-map (range_with_len 0 (max 0 n)) variable_name in
    let c = range_long 0 (max 0 n) in
    omega (arith, a, b, c, few)

-- a list is what stands before a member, it, and what stands behind it
pub split_at : {X : Type 0} (xs : List X) (k : ℕ) (x : X) → slice_get xs k ≡ Some x → xs ≡ take k xs ++ x ∷ drop (suc k) xs
split_at [] k x at = absurd cc
split_at (y ∷ xs) zero x at = let e : y ≡ x = cc in ap (λ z. z ∷ xs) e
split_at (y ∷ xs) (suc k) x at = ap (λ zs. y ∷ zs) (split_at xs k x at)

module _ (s : Schema) (parts : List Part) (all : AllByRecursion (IsOf s) parts) (rs : relations_of parts ≡ s.relations) (ms : methods_of s.relations parts ≡ s.methods) (us : map without_line (rules_of s.relations parts) ≡ map without_line s.rules) where
  rules_few : length (rules_of s.relations parts) ≤ MOST_RULES
  rules_few =
      let a = length-map (rules_of s.relations parts) without_line in
      let b = length-map s.rules without_line in
      let c = ap length us in
      let d = s.valid.rules_are.few in
      omega (arith, a, b, c, d)

  front_of : (front : List Part) → ((x : Part) → Contains front x → Contains parts x) → AllByRecursion (IsOf s) front
  front_of front within = all_from (IsOf s) front (λ x there. all_member (IsOf s) parts x all (within x there))

  no_many : (earlier : List Part) (part : Part) → ((x : Part) → Contains (earlier ++ part ∷ []) x → Contains parts x) → has_many_constants earlier part ≡ false
  no_many earlier part within =
      let texts : List (List ℕ) = flat_map part_constants (earlier ++ part ∷ []) in
      let le = length_le (each_once texts) s.constants (once_differ [] texts (λ i j member at_i at_j. absurd cc)) (λ c there. ⊎_elim (λ none. absurd (omega arith)) (λ among. constants_within s (earlier ++ part ∷ []) (front_of (earlier ++ part ∷ []) within) c among) (once_from [] texts c there)) in
      let few = s.valid.constants_few in
      lt_false MOST_CONSTANTS (length (each_once texts)) (omega (arith, le, few))

  pub none_over : (earlier later : List Part) (part : Part) → parts ≡ earlier ++ part ∷ later → IsOf s part → passed_limit earlier part ≡ None
  none_over earlier later (RelationPart name columns sorts) split of =
      let lt = room parts earlier later (RelationPart name columns sorts) split relation_of _ MOST_RELATIONS refl (let e = ap length rs in let few = s.valid.relations_are.few in omega (arith, e, few)) in
      let e = counted is_relation relation_of relation_agrees earlier in
      let own = s.valid.relations_are.columns of.0 of.1 in
      let long = ap length of.3 in
      let some = own.some in
      let few = own.few in
      rw (le_false MOST_RELATIONS (length (filter is_relation earlier)) (omega (arith, lt, e)), outside_false MOST_COLUMNS (length columns) (omega (arith, long, some)) (omega (arith, long, few))) refl
  none_over earlier later (MethodPart name relation inputs cost) split of =
      let lt = room parts earlier later (MethodPart name relation inputs cost) split (method_of s.relations) _ MOST_METHODS refl (let e = ap length ms in let few = s.valid.methods_are.few in omega (arith, e, few)) in
      let e = counted is_method (method_of s.relations) (method_agrees s.relations) earlier in
      let own = s.valid.methods_are.cost of.0 of.1 in
      let is = of.5 in
      rw (le_false MOST_METHODS (length (filter is_method earlier)) (omega (arith, lt, e)), lt_false MOST_COST cost (omega (arith, is, own))) refl
  none_over earlier later (RulePart line body head) split of =
      let lt = room parts earlier later (RulePart line body head) split (rule_of s.relations) _ MOST_RULES refl rules_few in
      let e = counted is_rule (rule_of s.relations) (rule_agrees s.relations) earlier in
      let is = s.valid.rules_are.fit of.0 of.1 in
      let long_body = ap length of.2 ∙ length-map of.0.body (named_atom s.relations) in
      let long_head = ap length of.3 ∙ length-map of.0.head (named_atom s.relations) in
      let b1 = is.body_some in
      let b2 = is.body_few in
      let h1 = is.head_some in
      let h2 = is.head_few in
      rw (
        le_false MOST_RULES (length (filter is_rule earlier)) (omega (arith, lt, e)),
        outside_false MOST_BODY_ATOMS (length body) (omega (arith, long_body, b1)) (omega (arith, long_body, b2)),
        outside_false MOST_HEAD_ATOMS (length head) (omega (arith, long_head, h1)) (omega (arith, long_head, h2)),
        lt_false MOST_VARIABLES (length (variables_of (body ++ head))) (variables_few s of.0 body head of.1 of.2 of.3),
        no_many earlier (RulePart line body head) (stands_there parts earlier later (RulePart line body head) split),
      ) refl
  none_over earlier later (KeyPart line relation columns target target_columns) split of = absurd of
  none_over earlier later (ConstantPart text) split of = rw (no_many earlier (ConstantPart text) (stands_there parts earlier later (ConstantPart text) split)) refl
  none_over earlier later (SourcePart relation kind locator) split of = refl

  part_faultless : (earlier later : List Part) (part : Part) → sources_of s.relations parts ≡ s.sources → parts ≡ earlier ++ part ∷ later → IsOf s part → (fault : SchemaFault) → IsFaultOf s.relations earlier part fault → ⊥
  part_faultless earlier later part ss split of DuplicateName has = let none = none_repeats s parts earlier later rs ms ss part split of in cc
  part_faultless earlier later part ss split of UnknownRelation has = let none = none_unknown s part of in cc
  part_faultless earlier later part ss split of WrongArity has = let none = none_misfit s part of in cc
  part_faultless earlier later part ss split of UnknownColumn has = let none = none_lacking s part of in cc
  part_faultless earlier later part ss split of (OverLimit limit) has = let none = none_over earlier later part split of in cc
  part_faultless earlier later part ss split of WrongSort has = sorts_fit s part of has
  part_faultless earlier later part ss split of Recursive has = not_recursive s parts (earlier ++ part ∷ []) us (stands_there parts earlier later part split) has.1

  pub faultless : sources_of s.relations parts ≡ s.sources → AreFaultless parts
  faultless ss index fault has =
      let (part, at, is) = has in
      part_faultless (take index parts) (drop (suc index) parts) part ss (split_at parts index part at) (all_member (IsOf s) parts part all (contains_got parts index part at)) fault
      (subst (λ (relations : List Relation). IsFaultOf relations (take index parts) part fault) rs is)

  part_named : (part : Part) → IsOf s part → IsNamed part
  part_named (RelationPart name columns sorts) of = (
    λ none. s.valid.relations_are.named of.0 of.1 (sym of.2 ∙ none),
    λ column there none. (s.valid.relations_are.columns of.0 of.1).named column (subst (λ (cs : List (List ℕ)). Contains cs column) of.3 there) none,
  )
  part_named (MethodPart name relation inputs cost) of = λ none. s.valid.methods_are.named of.0 of.1 (sym of.2 ∙ none)
  part_named (SourcePart relation kind locator) of = λ none. s.valid.sources_are.named of.0 of.1 (sym of.3 ∙ none)
  part_named _ of = tt

  pub named : AreNamed parts
  named = λ part there. part_named part (all_member (IsOf s) parts part all there)

  part_sorted : (part : Part) → IsOf s part → HasSorts part
  part_sorted (RelationPart name columns sorts) of = ap length of.4 ∙ s.valid.relations_are.sorts of.0 of.1 ∙ sym (ap length of.3)
  part_sorted _ of = tt

  pub sorted : HaveSorts parts
  sorted = λ part there. part_sorted part (all_member (IsOf s) parts part all there)

-- ---- the law

pub declares_again : (s : Schema) → (again : Schema) × DeclaresSchema (text_of_schema s) again × AreSameButLines again s
declares_again s =
    let v : Bool = has_integers s.relations in
    let from : ℕ = first_line v in
    let parts : List Part = placed_from from (parts_of s) in
    let all = placed_declared s from in
    let rs : relations_of parts ≡ s.relations = relations_placed s from in
    let ms = methods_on_lines s from in
    let us = rules_on_lines s from in
    let ss = sources_on_lines s from in
    let sound : AreFaultless parts = faultless s parts all rs ms us ss in
    let relations : List Relation = relations_of parts in
    let again : Schema = record { relations = relations; methods = methods_of relations parts; rules = rules_of relations parts; constants = constants_of parts; sources = sources_of relations parts; valid = is_schema parts sound (named s parts all rs ms us) (sorted s parts all rs ms us) } in
    let declares : DeclaresSchema (text_of_schema s) again = record { declared = printed_parts v (parts_of s); parts = parts_again v (parts_of s) (schema_plain s v refl); faultless = sound; builds = record { relations = refl; methods = refl; rules = refl; constants = refl; sources = refl } } in
    let same : AreSameButLines again s = record {
      relations = rs;
      methods = ap (λ (r : List Relation). methods_of r parts) rs ∙ ms;
      rules = ap (λ (r : List Relation). map without_line (rules_of r parts)) rs ∙ us;
      constants = constants_on_lines s from;
      sources = ap (λ (r : List Relation). sources_of r parts) rs ∙ ss;
    } in
    (again, declares, same)

-- The text of a schema, where it is UTF-8, is read as the same schema but for the lines of its rules.
pub read_again : (s : Schema) (bytes : List ℕ) → bytes ≡ text_of_schema s → IsUtf8 bytes → (again : Schema) × IsSchemaText bytes again × AreSameButLines again s
read_again s bytes is utf8 =
    let (again, declares, same) = declares_again s in
    (again, (utf8, subst (λ (text : List ℕ). DeclaresSchema text again) (sym is) declares), same)
