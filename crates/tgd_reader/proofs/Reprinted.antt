-- The declarations of a schema, on any lines, have no fault, and build the schema again.
use Rattle.std.proofs.Common.{◌≡◌, ℕ, true, false, List, [], ◌∷◌, ◌++◌, length, slice_get, Some, refl, sym, ap, subst, ◌∙◌, append_assoc, arith, ⊎_elim}
use Rattle.std.specs.Prelude.{Contains, map, filter_map, flat_map}
use Rattle.std.specs.List.{AllByRecursion}
use Rattle.std.proofs.lemmas.List.{append-nil, map-append}
use Rattle.std.proofs.lemmas.List.Concat.{flat_map-append}
use Rattle.std.proofs.lemmas.List.Elements.{Contains-append_cases}
use Rattle.meaning.specs.declared.types.Relation.{Relation}
use Rattle.meaning.specs.declared.types.Method.{Method}
use Rattle.meaning.specs.declared.types.Rule.{Rule}
use Rattle.meaning.specs.declared.types.Atom.{Atom}
use Rattle.meaning.specs.declared.types.Term.{Term}
use Rattle.meaning.specs.declared.types.Term.TheVariants.{Var, Const}
use Rattle.lists.proofs.Members.{contains_here, contains_there, contains_cases, got_before}
use Rattle.lists.proofs.Places.{got_seam, got_contained}
use Rattle.access_schema.specs.declared.part.NamedTerm.{NamedTerm}
use Rattle.access_schema.specs.declared.part.NamedAtom.{NamedAtom}
use Rattle.access_schema.specs.declared.part.Part.{Part}
use Rattle.access_schema.specs.declared.part.Part.TheVariants.{Relation as RelationPart, Method as MethodPart, Rule as RulePart, ForeignKey as KeyPart, Constant as ConstantPart, Source as SourcePart}
use Rattle.access_schema.specs.declared.schema.SourceLine.{SourceLine}
use Rattle.access_schema.specs.declared.schema.Schema.{Schema}
use Rattle.access_schema.specs.Names.{AllDiffer}
use Rattle.access_schema.specs.Lists.{is_among, once_after, each_once}
use Rattle.access_schema.specs.Invariant.{terms_of}
use Rattle.access_schema.specs.Content.{constant_of, named_terms, declared_constants, rule_constants, part_constants, constants_of}
use Rattle.access_schema.proofs.Texts.{among_contains, contains_among, none_among}
use Rattle.access_schema.proofs.Collected.{once_on}
use Rattle.tgd_reader.specs.Printed.{name_at, columns_at, named_term, named_atom, relation_part, method_part, rule_part, source_part, parts_of, on_line, line_behind, placed_from}
use Rattle.tgd_reader.proofs.Plain.{all_appended, all_mapped}
use Rattle.tgd_reader.proofs.Rebuilt.{terms_named}
use Rattle.tgd_reader.proofs.Redeclared.{constants_placed}

-- ---- declarations of a schema

-- the part is a declaration of the schema, on some line
abbrev pub IsOf : Schema → Part → Type 0
IsOf s (RelationPart name columns sorts) = (r : Relation) × Contains s.relations r × (name ≡ r.name) × (columns ≡ r.columns) × (sorts ≡ r.sorts)
IsOf s (MethodPart name relation inputs cost) = (m : Method) × Contains s.methods m × (name ≡ m.name) × (relation ≡ name_at s.relations m.rel) × (inputs ≡ columns_at s.relations m.rel m.inputs) × (cost ≡ m.cost)
IsOf s (RulePart line body head) = (r : Rule) × Contains s.rules r × (body ≡ map (named_atom s.relations) r.body) × (head ≡ map (named_atom s.relations) r.head)
IsOf s (KeyPart line relation columns target target_columns) = ⊥
IsOf s (ConstantPart text) = Contains s.constants text
IsOf s (SourcePart relation kind locator) = (x : SourceLine) × Contains s.sources x × (relation ≡ name_at s.relations x.rel) × (kind ≡ x.kind)

on_line_of : (s : Schema) (n : ℕ) (part : Part) → IsOf s part → IsOf s (on_line n part)
on_line_of s n (RulePart line body head) of = of
on_line_of s n _ of = of

placed_of : (s : Schema) (n : ℕ) (parts : List Part) → AllByRecursion (IsOf s) parts → AllByRecursion (IsOf s) (placed_from n parts)
placed_of s n [] all = tt
placed_of s n (part ∷ parts) all = (on_line_of s n part all.0, placed_of s (line_behind n part) parts all.1)

declared_of : (s : Schema) → AllByRecursion (IsOf s) (parts_of s)
declared_of s =
    let sources : List Part = map (source_part s.relations) s.sources in
    let constants : List Part = map ConstantPart s.constants in
    let rules : List Part = map (rule_part s.relations) s.rules in
    let methods : List Part = map (method_part s.relations) s.methods in
    all_appended (IsOf s) (map relation_part s.relations) (methods ++ (rules ++ (constants ++ sources))) (all_mapped (IsOf s) relation_part s.relations (λ r there. (r, there, refl, refl, refl)))
    (all_appended (IsOf s) methods (rules ++ (constants ++ sources)) (all_mapped (IsOf s) (method_part s.relations) s.methods (λ m there. (m, there, refl, refl, refl, refl)))
    (all_appended (IsOf s) rules (constants ++ sources) (all_mapped (IsOf s) (rule_part s.relations) s.rules (λ r there. (r, there, refl, refl)))
    (all_appended (IsOf s) constants sources (all_mapped (IsOf s) ConstantPart s.constants (λ text there. there)) (all_mapped (IsOf s) (source_part s.relations) s.sources (λ x there. (x, there, refl, refl))))))

pub placed_declared : (s : Schema) (n : ℕ) → AllByRecursion (IsOf s) (placed_from n (parts_of s))
placed_declared s n = placed_of s n (parts_of s) (declared_of s)

-- ---- constants

constant_in : (terms : List Term) (c : List ℕ) → Contains (filter_map constant_of (map named_term terms)) c → Contains terms (Const c)
constant_in [] c there = absurd (omega arith)
constant_in (Var x ∷ terms) c there = contains_there (Var x) terms (Const c) (constant_in terms c there)
constant_in (Const text ∷ terms) c there = ⊎_elim
    (λ same. subst (λ (t : List ℕ). Contains (Const text ∷ terms) (Const t)) same (contains_here (Const text) terms))
    (λ later. contains_there (Const text) terms (Const c) (constant_in terms c later))
    (contains_cases text (filter_map constant_of (map named_term terms)) c there)

rule_constant : (s : Schema) (body head : List NamedAtom) (rule : Rule) → Contains s.rules rule → body ≡ map (named_atom s.relations) rule.body → head ≡ map (named_atom s.relations) rule.head →
    (c : List ℕ) → Contains (filter_map constant_of (named_terms (body ++ head))) c → Contains s.constants c
rule_constant s body head rule of in_body in_head c there =
    let atoms : List Atom = rule.body ++ rule.head in
    let all : body ++ head ≡ map (named_atom s.relations) atoms = ap (λ (b : List NamedAtom). b ++ head) in_body ∙ ap (λ (h : List NamedAtom). map (named_atom s.relations) rule.body ++ h) in_head ∙ sym (map-append (named_atom s.relations) rule.body rule.head) in
    let terms : named_terms (body ++ head) ≡ map named_term (terms_of atoms) = ap named_terms all ∙ terms_named s.relations atoms in
    let used : Contains (terms_of atoms) (Const c) = constant_in (terms_of atoms) c (subst (λ (ts : List NamedTerm). Contains (filter_map constant_of ts) c) terms there) in
    among_contains s.constants c ((s.valid.rules_are.fit rule of).constants_are c used)

part_constant : (s : Schema) (part : Part) → IsOf s part → (c : List ℕ) → Contains (part_constants part) c → Contains s.constants c
part_constant s (RulePart line body head) of c there = rule_constant s body head of.0 of.1 of.2 of.3 c there
part_constant s (KeyPart line relation columns target target_columns) of c there = absurd of
part_constant s (ConstantPart text) of c there = ⊎_elim (λ same. subst (λ (t : List ℕ). Contains s.constants t) same of) (λ later. absurd (omega arith)) (contains_cases text [] c there)
part_constant s _ of c there = absurd (omega arith)

only_rule : (s : Schema) (part : Part) → IsOf s part → (c : List ℕ) → Contains (rule_constants part) c → Contains s.constants c
only_rule s (RulePart line body head) of c there = rule_constant s body head of.0 of.1 of.2 of.3 c there
only_rule s (KeyPart line relation columns target target_columns) of c there = absurd of
only_rule s _ of c there = absurd (omega arith)

pub flat_within : (s : Schema) (g : Part → List (List ℕ)) → ((part : Part) → IsOf s part → (c : List ℕ) → Contains (g part) c → Contains s.constants c) → (parts : List Part) → AllByRecursion (IsOf s) parts → (c : List ℕ) → Contains (flat_map g parts) c → Contains s.constants c
flat_within s g go [] all c there = absurd (omega arith)
flat_within s g go (part ∷ parts) all c there = ⊎_elim (λ here. go part all.0 c here) (λ later. flat_within s g go parts all.1 c later) (Contains-append_cases (g part) (flat_map g parts) c there)

pub constants_within : (s : Schema) (parts : List Part) → AllByRecursion (IsOf s) parts → (c : List ℕ) → Contains (flat_map part_constants parts) c → Contains s.constants c
constants_within s parts all c there = flat_within s part_constants (part_constant s) parts all c there

-- what stands before a member of a list without repetition is another
pub differ_split : {X : Type 0} (xs : List X) (y : X) (ys : List X) → AllDiffer (xs ++ y ∷ ys) → Contains xs y → ⊥
differ_split xs y ys differ there =
    let (i, lt, is) = there in
    let at : slice_get xs i ≡ Some y = got_contained xs y there in
    let e = differ i (length xs) y (got_before xs (y ∷ ys) i lt ∙ at) (got_seam xs y ys) in
    omega (arith, e, lt)

once_apart : (known texts : List (List ℕ)) → AllDiffer (known ++ texts) → once_after known texts ≡ known ++ texts
once_apart known [] differ = sym (append-nil known)
once_apart known (text ∷ texts) differ =
    let fresh : is_among known text ≡ false = none_among known text (differ_split known text texts differ) in
    let same : (known ++ text ∷ []) ++ texts ≡ known ++ text ∷ texts = append_assoc known (text ∷ []) texts in
    rw fresh (once_apart (known ++ text ∷ []) texts (subst AllDiffer (sym same) differ) ∙ same)

once_within : (known texts : List (List ℕ)) → ((c : List ℕ) → Contains texts c → Contains known c) → once_after known texts ≡ known
once_within known [] within = refl
once_within known (text ∷ texts) within =
    let here : is_among known text ≡ true = contains_among known text (within text (contains_here text texts)) in
    rw here (once_within known texts (λ c there. within c (contains_there text texts c there)))

flat_none : {X : Type 0} (f : X → Part) (xs : List X) → ((x : X) → declared_constants (f x) ≡ []) → flat_map declared_constants (map f xs) ≡ []
flat_none f [] none = refl
flat_none f (x ∷ xs) none = ap (λ (a : List (List ℕ)). a ++ flat_map declared_constants (map f xs)) (none x) ∙ flat_none f xs none

flat_constants : (xs : List (List ℕ)) → flat_map declared_constants (map ConstantPart xs) ≡ xs
flat_constants [] = refl
flat_constants (x ∷ xs) = ap (λ (a : List (List ℕ)). x ∷ a) (flat_constants xs)

flat_front : (a b : List Part) → flat_map declared_constants a ≡ [] → flat_map declared_constants (a ++ b) ≡ flat_map declared_constants b
flat_front a b none = flat_map-append declared_constants a b ∙ ap (λ (x : List (List ℕ)). x ++ flat_map declared_constants b) none

constants_declared : (s : Schema) → flat_map declared_constants (parts_of s) ≡ s.constants
constants_declared s =
    let sources : List Part = map (source_part s.relations) s.sources in
    let constants : List Part = map ConstantPart s.constants in
    let rules : List Part = map (rule_part s.relations) s.rules in
    let methods : List Part = map (method_part s.relations) s.methods in
    flat_front (map relation_part s.relations) (methods ++ (rules ++ (constants ++ sources))) (flat_none relation_part s.relations (λ x. refl))
    ∙ flat_front methods (rules ++ (constants ++ sources)) (flat_none (method_part s.relations) s.methods (λ x. refl))
    ∙ flat_front rules (constants ++ sources) (flat_none (rule_part s.relations) s.rules (λ x. refl))
    ∙ flat_map-append declared_constants constants sources ∙ ap (λ (x : List (List ℕ)). x ++ flat_map declared_constants sources) (flat_constants s.constants)
    ∙ ap (λ (x : List (List ℕ)). s.constants ++ x) (flat_none (source_part s.relations) s.sources (λ x. refl)) ∙ append-nil s.constants

pub constants_on_lines : (s : Schema) (n : ℕ) → constants_of (placed_from n (parts_of s)) ≡ s.constants
constants_on_lines s n =
    let parts : List Part = placed_from n (parts_of s) in
    let used : List (List ℕ) = flat_map rule_constants parts in
    let declared : flat_map declared_constants parts ≡ s.constants = constants_placed n (parts_of s) ∙ constants_declared s in
    ap (λ (k : List (List ℕ)). each_once (k ++ used)) declared ∙ once_on [] s.constants used
    ∙ ap (λ (k : List (List ℕ)). once_after k used) (once_apart [] s.constants s.valid.constants_differ)
    ∙ once_within s.constants used (flat_within s rule_constants (only_rule s) parts (placed_declared s n))
