-- The declarations of a schema have its relations, methods, constants and sources, and its rules on other lines.
use Rattle.std.proofs.Common.{◌≡◌, ℕ, zero, suc, ◌+◌, ◌-◌, ◌<◌, ◌≤◌, ◌^◌, max, true, false, List, [], ◌∷◌, ◌++◌, slice_get, Some, refl, sym, ap, subst, ◌∙◌, arith, ⊎_elim}
use Rattle.std.specs.Prelude.{Contains, map, filter_map, nat_eq}
use Rattle.std.specs.List.{range_with_len}
use Rattle.std.specs.Fmt.{decimal}
use Rattle.std.specs.Cmp.Lexicographic.{pointwise}
use Rattle.std.proofs.lemmas.Bool.{cases_Bool, cases_lt}
use Rattle.std.proofs.lemmas.Fmt.{decimal_injective}
use Rattle.std.proofs.lemmas.List.{map-append}
use Rattle.std.proofs.lemmas.List.Concat.{flat_map-append}
use Rattle.std.proofs.lemmas.List.Elements.{Contains-append_left, Contains-append_right}
use Rattle.meaning.specs.declared.types.Relation.{Relation}
use Rattle.meaning.specs.declared.types.Rule.{Rule}
use Rattle.meaning.specs.declared.types.Atom.{Atom}
use Rattle.meaning.specs.declared.types.Term.{Term}
use Rattle.meaning.specs.declared.types.Term.TheVariants.{Var, Const}
use Rattle.meaning.specs.Triggers.{terms_bound}
use Rattle.lists.proofs.Members.{contains_here, contains_there, contains_cases, contains_got, got_below, map_got, some_injective}
use Rattle.lists.proofs.Places.{range_push}
use Rattle.lists.proofs.Orders.{text_is}
use Rattle.access_schema.specs.declared.part.NamedTerm.{NamedTerm}
use Rattle.access_schema.specs.Names.{relation_names}
use Rattle.access_schema.specs.Lists.{is_among, place_of, once_after}
use Rattle.access_schema.specs.Invariant.{terms_of, AtomFits, AreRelations, IsRule}
use Rattle.access_schema.specs.Content.{is_named, is_declared, number_of, columns_of, variable_of, named_terms, variables_of, term_of, atom_of, numbered_rule}
use Rattle.access_schema.specs.Faults.{is_unknown}
use Rattle.access_schema.proofs.Texts.{text_same, any_at, contains_among, none_among}
use Rattle.access_schema.proofs.Built.{at_number}
use Rattle.access_schema.proofs.Ordered.{OrderedFrom, ordered_from}
use Rattle.tgd_reader.specs.Printed.{name_in, name_at, variable_name, named_term, named_atom}

-- ---- numbers of relations

module _ (relations : List Relation) (are : AreRelations relations) where
  declared_at : (number : ℕ) (relation : Relation) → slice_get relations number ≡ Some relation → is_declared relations relation.name ≡ true
  declared_at number relation at = any_at (is_named relation.name) relations relation (contains_got relations number relation at) (text_same relation.name)

  pub known_at : (number : ℕ) (relation : Relation) → slice_get relations number ≡ Some relation → is_unknown relations relation.name ≡ false
  known_at number relation at = let d = declared_at number relation at in rw d refl

  -- a relation's name leads back to its number
  pub number_again : (number : ℕ) (relation : Relation) → slice_get relations number ≡ Some relation → number_of relations relation.name ≡ number
  number_again number relation at =
      let (found, at_found, named, columns) = at_number relations relation.name (known_at number relation at) in
      let one : slice_get (relation_names relations) (number_of relations relation.name) ≡ Some relation.name = map_got (λ (r : Relation). r.name) relations (number_of relations relation.name) found at_found ∙ ap Some named in
      let two : slice_get (relation_names relations) number ≡ Some relation.name = map_got (λ (r : Relation). r.name) relations number relation at in
      are.differ (number_of relations relation.name) number relation.name one two

  pub columns_again : (number : ℕ) (relation : Relation) → slice_get relations number ≡ Some relation → columns_of relations relation.name ≡ relation.columns
  columns_again number relation at =
      let (found, at_found, named, columns) = at_number relations relation.name (known_at number relation at) in
      let same : found ≡ relation = some_injective found relation (sym at_found ∙ ap (slice_get relations) (number_again number relation at) ∙ at) in
      columns ∙ ap (λ (r : Relation). r.columns) same

-- ---- variables

-- the names of the first variables
abbrev pub first_names : ℕ → List (List ℕ)
first_names n = map variable_name (range_with_len 0 n)

names_push : (n : ℕ) → first_names (n + 1) ≡ first_names n ++ variable_name n ∷ []
names_push n =
    let e : n + 1 ≡ suc n = omega arith in
    let z : 0 + n ≡ n = omega arith in
    ap first_names e ∙ ap (map variable_name) (range_push 0 n) ∙ map-append variable_name (range_with_len 0 n) ((0 + n) ∷ []) ∙ ap (λ m. first_names n ++ variable_name m ∷ []) z

pub same_variable : (m n : ℕ) → m < 2 ^ 64 → n < 2 ^ 64 → variable_name m ≡ variable_name n → m ≡ n
same_variable m n low high e = let d : decimal m ≡ decimal n = cc in decimal_injective m n low high d

-- the place of a name behind those of smaller numbers
place_names : (from count x : ℕ) → from ≤ x → x < from + count → from + count < 2 ^ 64 → place_of (map variable_name (range_with_len from count)) (variable_name x) ≡ x - from
place_names from zero x le lt fits = absurd (omega arith)
place_names from (suc count) x le lt fits = ⊎_elim
    (λ (here : pointwise nat_eq (variable_name from) (variable_name x) ≡ true).
    let same : from ≡ x = same_variable from x (omega arith) (omega arith) (text_is (variable_name from) (variable_name x) here) in
    rw here (omega arith))
    (λ (other : pointwise nat_eq (variable_name from) (variable_name x) ≡ false).
    let apart : from ≡ x → ⊥ = λ e. let yes : pointwise nat_eq (variable_name from) (variable_name x) ≡ true = subst (λ m. pointwise nat_eq (variable_name from) (variable_name m) ≡ true) e (text_same (variable_name from)) in cc in
    let more : from + 1 ≤ x = omega (arith, apart) in
    let rest : place_of (map variable_name (range_with_len (from + 1) count)) (variable_name x) ≡ x - (from + 1) = place_names (from + 1) count x more (omega arith) (omega arith) in
    rw other (omega arith))
    (cases_Bool (pointwise nat_eq (variable_name from) (variable_name x)))

among_names : (from count x : ℕ) → from ≤ x → x < from + count → Contains (map variable_name (range_with_len from count)) (variable_name x)
among_names from zero x le lt = absurd (omega arith)
among_names from (suc count) x le lt = ⊎_elim
    (λ (small : x < from + 1). let same : from ≡ x = omega arith in subst (λ m. Contains (map variable_name (range_with_len from (suc count))) (variable_name m)) same (contains_here (variable_name from) (map variable_name (range_with_len (from + 1) count))))
    (λ (large : from + 1 ≤ x). contains_there (variable_name from) (map variable_name (range_with_len (from + 1) count)) (variable_name x) (among_names (from + 1) count x large (omega arith)))
    (cases_lt x (from + 1))

no_name : (from count x : ℕ) → from + count ≤ x → x < 2 ^ 64 → Contains (map variable_name (range_with_len from count)) (variable_name x) → ⊥
no_name from zero x le fits there = omega arith
no_name from (suc count) x le fits there = ⊎_elim
    (λ same. let e : from ≡ x = same_variable from x (omega arith) fits same in omega arith)
    (λ later. no_name (from + 1) count x (omega arith) fits later)
    (contains_cases (variable_name from) (map variable_name (range_with_len (from + 1) count)) (variable_name x) there)

abbrev names_of : List Term → List (List ℕ)
names_of terms = filter_map variable_of (map named_term terms)

-- ordered variables add their names one by one
pub names_once : (n : ℕ) (terms : List Term) → OrderedFrom n terms → n < 2 ^ 60 → terms_bound terms < 2 ^ 60 → once_after (first_names n) (names_of terms) ≡ first_names (max n (terms_bound terms))
names_once n [] ordered small few = let e : n ≡ max n 0 = omega arith in ap first_names e
names_once n (Const c ∷ terms) ordered small few = names_once n terms ordered small few
names_once n (Var x ∷ terms) ordered small few = ⊎_elim
    (λ (old : x < n).
    let here : is_among (first_names n) (variable_name x) ≡ true = contains_among (first_names n) (variable_name x) (among_names 0 n x (omega arith) (omega arith)) in
    let top : max (x + 1) n ≡ n = omega arith in
    let rest : once_after (first_names n) (names_of terms) ≡ first_names (max n (terms_bound terms)) = names_once n terms (subst (λ m. OrderedFrom m terms) top ordered.1) small (omega arith) in
    let all : max n (terms_bound terms) ≡ max n (max (x + 1) (terms_bound terms)) = omega arith in
    rw here (rest ∙ ap first_names all))
    (λ (next : n ≤ x).
    let le = ordered.0 in
    let is : x ≡ n = omega arith in
    let fresh : is_among (first_names n) (variable_name x) ≡ false = none_among (first_names n) (variable_name x) (no_name 0 n x (omega arith) (omega arith)) in
    let grown : first_names n ++ variable_name x ∷ [] ≡ first_names (n + 1) = ap (λ m. first_names n ++ variable_name m ∷ []) is ∙ sym (names_push n) in
    let top : max (x + 1) n ≡ n + 1 = omega arith in
    let rest : once_after (first_names (n + 1)) (names_of terms) ≡ first_names (max (n + 1) (terms_bound terms)) = names_once (n + 1) terms (subst (λ m. OrderedFrom m terms) top ordered.1) (omega arith) (omega arith) in
    let all : max (n + 1) (terms_bound terms) ≡ max n (max (x + 1) (terms_bound terms)) = omega arith in
    rw fresh (ap (λ (known : List (List ℕ)). once_after known (names_of terms)) grown ∙ rest ∙ ap first_names all))
    (cases_lt x n)

terms_again : (n : ℕ) (terms : List Term) → terms_bound terms ≤ n → n < 2 ^ 60 → map (term_of (first_names n)) (map named_term terms) ≡ terms
terms_again n [] le small = refl
terms_again n (Const c ∷ terms) le small = ap (λ ts. Const c ∷ ts) (terms_again n terms le small)
terms_again n (Var x ∷ terms) le small =
    let place : place_of (first_names n) (variable_name x) ≡ x - 0 = place_names 0 n x (omega arith) (omega arith) (omega arith) in
    let is : place_of (first_names n) (variable_name x) ≡ x = place ∙ (let z : x - 0 ≡ x = omega arith in z) in
    let rest = terms_again n terms (omega arith) small in
    ap (λ m. Var m ∷ map (term_of (first_names n)) (map named_term terms)) is ∙ ap (λ ts. Var x ∷ ts) rest

pub terms_named : (relations : List Relation) (atoms : List Atom) → named_terms (map (named_atom relations) atoms) ≡ map named_term (terms_of atoms)
terms_named relations [] = refl
terms_named relations (atom ∷ atoms) = ap (λ rest. map named_term atom.terms ++ rest) (terms_named relations atoms) ∙ sym (map-append named_term atom.terms (terms_of atoms))

-- ---- rules

bound_split : (first second : List Term) (n : ℕ) → terms_bound (first ++ second) ≤ n → (terms_bound first ≤ n) × (terms_bound second ≤ n)
bound_split [] second n le = (omega arith, le)
bound_split (Const c ∷ first) second n le = bound_split first second n le
bound_split (Var x ∷ first) second n le = let r = bound_split first second n (omega arith) in (omega (arith, r.0), r.1)

module _ (relations : List Relation) (are : AreRelations relations) where
  atom_again : (n : ℕ) (atom : Atom) → AtomFits relations atom → terms_bound atom.terms ≤ n → n < 2 ^ 60 → atom_of relations (first_names n) (named_atom relations atom) ≡ atom
  atom_again n atom fits le small =
      let (relation, at) = got_below relations atom.rel fits.placed in
      let named : name_at relations atom.rel ≡ relation.name = ap name_in at in
      let number : number_of relations (name_at relations atom.rel) ≡ atom.rel = ap (number_of relations) named ∙ number_again relations are atom.rel relation at in
      let terms = terms_again n atom.terms le small in
      let make : ℕ → List Term → Atom = λ r ts. record { rel = r; terms = ts } in
      ap (λ r. make r (map (term_of (first_names n)) (map named_term atom.terms))) number ∙ ap (make atom.rel) terms

  atoms_again : (n : ℕ) (atoms : List Atom) → ((atom : Atom) → Contains atoms atom → AtomFits relations atom) → terms_bound (terms_of atoms) ≤ n → n < 2 ^ 60 → map (atom_of relations (first_names n)) (map (named_atom relations) atoms) ≡ atoms
  atoms_again n [] fits le small = refl
  atoms_again n (atom ∷ atoms) fits le small =
      let both = bound_split atom.terms (terms_of atoms) n le in
      let one = atom_again n atom (fits atom (contains_here atom atoms)) both.0 small in
      let rest = atoms_again n atoms (λ a there. fits a (contains_there atom atoms a there)) both.1 small in
      cc

  -- a rule is numbered as it was
  pub rule_again : (constants : List (List ℕ)) (rule : Rule) (line : ℕ) → IsRule relations constants rule → numbered_rule relations line (map (named_atom relations) rule.body) (map (named_atom relations) rule.head) ≡ record rule { line = line }
  rule_again constants rule line is =
      let atoms : List Atom = rule.body ++ rule.head in
      let n = terms_bound (terms_of atoms) in
      let few = is.variables in
      let small : n < 2 ^ 60 = omega (arith, few) in
      let all : map (named_atom relations) rule.body ++ map (named_atom relations) rule.head ≡ map (named_atom relations) atoms = sym (map-append (named_atom relations) rule.body rule.head) in
      let top : max 0 n ≡ n = omega arith in
      let once : once_after (first_names 0) (names_of (terms_of atoms)) ≡ first_names n = names_once 0 (terms_of atoms) (ordered_from (terms_of atoms) is.in_order) (omega arith) small ∙ ap first_names top in
      let variables : variables_of (map (named_atom relations) rule.body ++ map (named_atom relations) rule.head) ≡ first_names n =
      ap variables_of all ∙ ap (λ (ts : List NamedTerm). once_after [] (filter_map variable_of ts)) (terms_named relations atoms) ∙ once in
      let split : terms_of atoms ≡ terms_of rule.body ++ terms_of rule.head = flat_map-append (λ (atom : Atom). atom.terms) rule.body rule.head in
      let both = bound_split (terms_of rule.body) (terms_of rule.head) n (let e = ap terms_bound split in omega (arith, e)) in
      let body = atoms_again n rule.body (λ atom there. is.atoms atom (Contains-append_left rule.body rule.head atom there)) both.0 small in
      let head = atoms_again n rule.head (λ atom there. is.atoms atom (Contains-append_right rule.body rule.head atom there)) both.1 small in
      let make : List Atom → List Atom → Rule = λ b h. record { line = line; body = b; head = h } in
      ap (λ (vs : List (List ℕ)). make (map (atom_of relations vs) (map (named_atom relations) rule.body)) (map (atom_of relations vs) (map (named_atom relations) rule.head))) variables
      ∙ ap (λ b. make b (map (atom_of relations (first_names n)) (map (named_atom relations) rule.head))) body ∙ ap (make rule.body) head
