-- A rule whose variables are numbered by their places is a rule, and so is the rule of a foreign key.
use Rattle.std.proofs.Common.{◌≡◌, ◌⊎◌, ◌+◌, ◌<◌, ◌≤◌, ◌∙◌, sym, ap, subst, max, ℕ, zero, suc, List, [], ◌∷◌, ◌++◌, Bool, true, false, cond, length, map, get_or, refl, arith, ⊎_elim, nat_eq}
use Rattle.std.specs.Prelude.{Contains, filter_map}
use Rattle.std.specs.List.{range_with_len}
use Rattle.std.specs.Cmp.Lexicographic.{pointwise}
use Rattle.std.proofs.lemmas.Bool.{cases_Bool}
use Rattle.std.proofs.lemmas.List.{map-append, length-append, length-map}
use Rattle.std.proofs.lemmas.List.Elements.{Contains-append_cases, Contains-append_left, Contains-push}
use Rattle.meaning.specs.declared.types.Relation.{Relation}
use Rattle.meaning.specs.declared.types.Atom.{Atom}
use Rattle.meaning.specs.declared.types.Term.{Term}
use Rattle.meaning.specs.declared.types.Term.TheVariants.{Var, Const}
use Rattle.meaning.specs.Triggers.{terms_bound}
use Rattle.access_schema.specs.declared.part.NamedAtom.{NamedAtom}
use Rattle.access_schema.specs.declared.part.NamedTerm.{NamedTerm}
use Rattle.access_schema.specs.declared.part.NamedTerm.TheVariants.{Var as NamedVar, Const as NamedConst}
use Rattle.access_schema.specs.declared.limits.TheConstants.{MOST_COLUMNS, MOST_BODY_ATOMS, MOST_HEAD_ATOMS, MOST_VARIABLES}
use Rattle.access_schema.specs.Lists.{is_among, place_of, once_after}
use Rattle.access_schema.specs.Content.{number_of, columns_of, variable_of, constant_of, named_terms, variables_of, term_of, atom_of, numbered_rule, key_number, next_number, key_terms, key_rule}
use Rattle.access_schema.specs.Invariant.{AtomFits, terms_of, AreInOrder, IsRule}
use Rattle.access_schema.specs.Faults.{is_unknown}
use Rattle.lists.proofs.Members.{contains_here, contains_there, contains_cases, contains_mapped}
use Rattle.lists.proofs.Booleans.{both_false}
use Rattle.access_schema.proofs.Texts.{text_same, once_taken, contains_among, among_contains}
use Rattle.access_schema.proofs.LeastFault.{number_within}
use Rattle.access_schema.proofs.Numbering.{place_among}
use Rattle.access_schema.proofs.Ordered.{OrderedFrom, in_order}
use Rattle.access_schema.proofs.Built.{columns_at}

-- the place of a known text stays, whatever is taken behind it
place_front : (front back : List (List ℕ)) (text : List ℕ) → is_among front text ≡ true → place_of (front ++ back) text ≡ place_of front text
place_front [] back text among = absurd (cc)
place_front (first ∷ front) back text among = ⊎_elim
    (λ (here : pointwise nat_eq first text ≡ true). rw here refl)
    (λ (other : pointwise nat_eq first text ≡ false).
    let rest : is_among front text ≡ true = rw other at among in
    let same : place_of (front ++ back) text ≡ place_of front text = place_front front back text rest in
    rw other (ap (λ n. 1 + n) same))
    (cases_Bool (pointwise nat_eq first text))

among_front : (front back : List (List ℕ)) (text : List ℕ) → is_among front text ≡ true → is_among (front ++ back) text ≡ true
among_front front back text among = contains_among (front ++ back) text (Contains-append_left front back text (among_contains front text among))

place_kept : (known texts : List (List ℕ)) (text : List ℕ) → is_among known text ≡ true → place_of (once_after known texts) text ≡ place_of known text
place_kept known [] text among = refl
place_kept known (other ∷ texts) text among = ⊎_elim
    (λ (here : is_among known other ≡ true). rw here (place_kept known texts text among))
    (λ (new : is_among known other ≡ false). rw new (place_kept (known ++ other ∷ []) texts text (among_front known (other ∷ []) text among) ∙ place_front known (other ∷ []) text among))
    (cases_Bool (is_among known other))

place_new : (known : List (List ℕ)) (text : List ℕ) → is_among known text ≡ false → place_of (known ++ text ∷ []) text ≡ length known
place_new [] text none = let same = text_same text in rw same refl
place_new (first ∷ known) text none =
    let both = both_false (pointwise nat_eq first text) (is_among known text) none in
    let apart : pointwise nat_eq first text ≡ false = both.0 in
    let rest : place_of (known ++ text ∷ []) text ≡ length known = place_new known text both.1 in
    rw apart (omega arith)

-- the names of the variables of terms
abbrev names_in : List NamedTerm → List (List ℕ)
names_in terms = filter_map variable_of terms

-- numbered by their places, the variables are in order
numbered_from : (known variables : List (List ℕ)) (terms : List NamedTerm) → variables ≡ once_after known (names_in terms) → OrderedFrom (length known) (map (term_of variables) terms)
numbered_from known variables [] are = tt
numbered_from known variables (NamedConst c ∷ terms) are = numbered_from known variables terms are
numbered_from known variables (NamedVar name ∷ terms) are = ⊎_elim
    (λ (here : is_among known name ≡ true).
    let same : variables ≡ once_after known (names_in terms) = are ∙ ap (λ (b : Bool). once_after (cond b known (known ++ name ∷ [])) (names_in terms)) here in
    let lt : place_of known name < length known = place_among known name here in
    let kept : place_of variables name ≡ place_of known name = ap (λ (vs : List (List ℕ)). place_of vs name) same ∙ place_kept known (names_in terms) name here in
    let top : max (place_of variables name + 1) (length known) ≡ length known = omega arith in
    let le : place_of variables name ≤ length known = omega arith in
    (le, subst (λ n. OrderedFrom n (map (term_of variables) terms)) (sym top) (numbered_from known variables terms same)))
    (λ (new : is_among known name ≡ false).
    let more : List (List ℕ) = known ++ name ∷ [] in
    let same : variables ≡ once_after more (names_in terms) = are ∙ ap (λ (b : Bool). once_after (cond b known (known ++ name ∷ [])) (names_in terms)) new in
    let long : length more ≡ length known + 1 = length-append known (name ∷ []) in
    let inside_more : is_among more name ≡ true = contains_among more name (Contains-push known name) in
    let kept : place_of variables name ≡ length known = ap (λ (vs : List (List ℕ)). place_of vs name) same ∙ place_kept more (names_in terms) name inside_more ∙ place_new known name new in
    let top : max (place_of variables name + 1) (length known) ≡ length more = omega arith in
    let le : place_of variables name ≤ length known = omega arith in
    (le, subst (λ n. OrderedFrom n (map (term_of variables) terms)) (sym top) (numbered_from more variables terms same)))
    (cases_Bool (is_among known name))

bounded : (variables : List (List ℕ)) (terms : List NamedTerm) → ((name : List ℕ) → Contains (names_in terms) name → is_among variables name ≡ true) → terms_bound (map (term_of variables) terms) ≤ length variables
bounded variables [] among = omega arith
bounded variables (NamedConst c ∷ terms) among = bounded variables terms among
bounded variables (NamedVar name ∷ terms) among =
    let lt : place_of variables name < length variables = place_among variables name (among name (contains_here name (names_in terms))) in
    let rest : terms_bound (map (term_of variables) terms) ≤ length variables = bounded variables terms (λ n there. among n (contains_there name (names_in terms) n there)) in
    omega arith

constants_in_terms : (variables : List (List ℕ)) (terms : List NamedTerm) (c : List ℕ) → Contains (map (term_of variables) terms) (Const c) → Contains (filter_map constant_of terms) c
constants_in_terms variables [] c there = absurd (omega arith)
constants_in_terms variables (NamedConst text ∷ terms) c there = ⊎_elim
    (λ same. let is : text ≡ c = cc in subst (Contains (text ∷ filter_map constant_of terms)) is (contains_here text (filter_map constant_of terms)))
    (λ later. contains_there text (filter_map constant_of terms) c (constants_in_terms variables terms c later))
    (contains_cases (Const text) (map (term_of variables) terms) (Const c) there)
constants_in_terms variables (NamedVar name ∷ terms) c there = ⊎_elim
    (λ same. absurd (cc))
    (λ later. constants_in_terms variables terms c later)
    (contains_cases (Var (place_of variables name)) (map (term_of variables) terms) (Const c) there)

terms_are : (relations : List Relation) (variables : List (List ℕ)) (atoms : List NamedAtom) → terms_of (map (atom_of relations variables) atoms) ≡ map (term_of variables) (named_terms atoms)
terms_are relations variables [] = refl
terms_are relations variables (atom ∷ atoms) =
    ap (λ rest. map (term_of variables) atom.terms ++ rest) (terms_are relations variables atoms) ∙ sym (map-append (term_of variables) atom.terms (named_terms atoms))

-- a numbered rule is one
module _ (relations : List Relation) (constants : List (List ℕ)) (line : ℕ) (body head : List NamedAtom)
    (body_within : (1 ≤ length body) × (length body ≤ MOST_BODY_ATOMS)) (head_within : (1 ≤ length head) × (length head ≤ MOST_HEAD_ATOMS)) (few : length (variables_of (body ++ head)) ≤ MOST_VARIABLES)
    (known : (atom : NamedAtom) → Contains (body ++ head) atom → is_unknown relations atom.relation ≡ false)
    (fits : (atom : NamedAtom) → Contains (body ++ head) atom → length atom.terms ≡ length (columns_of relations atom.relation))
    (of_constants : (c : List ℕ) → Contains (filter_map constant_of (named_terms (body ++ head))) c → is_among constants c ≡ true) where
  atom_fits : (atom : NamedAtom) → Contains (body ++ head) atom → AtomFits relations (atom_of relations (variables_of (body ++ head)) atom)
  atom_fits atom there = record {
    placed = number_within relations atom.relation (known atom there);
    arity = λ relation at. length-map atom.terms (term_of (variables_of (body ++ head))) ∙ fits atom there ∙ ap length (columns_at relations atom.relation relation (known atom there) at);
  }

  all_atoms : map (atom_of relations (variables_of (body ++ head))) body ++ map (atom_of relations (variables_of (body ++ head))) head ≡ map (atom_of relations (variables_of (body ++ head))) (body ++ head)
  all_atoms = sym (map-append (atom_of relations (variables_of (body ++ head))) body head)

  all_terms : terms_of (map (atom_of relations (variables_of (body ++ head))) body ++ map (atom_of relations (variables_of (body ++ head))) head) ≡ map (term_of (variables_of (body ++ head))) (named_terms (body ++ head))
  all_terms = ap terms_of all_atoms ∙ terms_are relations (variables_of (body ++ head)) (body ++ head)

  pub numbered_is_rule : IsRule relations constants (numbered_rule relations line body head)
  numbered_is_rule =
      let body_long = length-map body (atom_of relations (variables_of (body ++ head))) in
      let head_long = length-map head (atom_of relations (variables_of (body ++ head))) in
      record {
        body_some = let w = body_within.0 in omega arith;
        body_few = let w = body_within.1 in omega arith;
        head_some = let w = head_within.0 in omega arith;
        head_few = let w = head_within.1 in omega arith;
        atoms = λ atom there.
            let (named, among, is) = contains_mapped (atom_of relations (variables_of (body ++ head))) (body ++ head) atom (subst (λ (atoms : List Atom). Contains atoms atom) all_atoms there) in
            subst (AtomFits relations) is (atom_fits named among);
        in_order = subst AreInOrder (sym all_terms) (in_order _ (numbered_from [] (variables_of (body ++ head)) (named_terms (body ++ head)) refl));
        variables =
            let le : terms_bound (map (term_of (variables_of (body ++ head))) (named_terms (body ++ head))) ≤ length (variables_of (body ++ head)) =
            bounded (variables_of (body ++ head)) (named_terms (body ++ head)) (λ name there. contains_among (variables_of (body ++ head)) name (once_taken [] (names_in (named_terms (body ++ head))) name there)) in
            let e = ap terms_bound all_terms in omega arith;
        constants_are = λ c there. of_constants c (constants_in_terms (variables_of (body ++ head)) (named_terms (body ++ head)) c (subst (λ (terms : List Term). Contains terms (Const c)) all_terms there));
      }

-- a foreign key's terms
range_ordered : (from count : ℕ) (terms : List Term) → OrderedFrom (from + count) terms → OrderedFrom from (map Var (range_with_len from count) ++ terms)
range_ordered from zero terms ordered = let e : from + 0 ≡ from = omega arith in subst (λ n. OrderedFrom n terms) e ordered
range_ordered from (suc count) terms ordered =
    let e : from + suc count ≡ from + 1 + count = omega arith in
    let top : from + 1 ≡ max (from + 1) from = omega arith in
    (omega arith, subst (λ n. OrderedFrom n (map Var (range_with_len (from + 1) count) ++ terms)) top (range_ordered (from + 1) count terms (subst (λ n. OrderedFrom n terms) e ordered)))

range_bound : (from count : ℕ) → terms_bound (map Var (range_with_len from count)) ≤ from + count
range_bound from zero = omega arith
range_bound from (suc count) = let rest : terms_bound (map Var (range_with_len (from + 1) count)) ≤ from + 1 + count = range_bound (from + 1) count in omega arith

range_long : (from count : ℕ) → length (map Var (range_with_len from count)) ≡ count
range_long from zero = refl
range_long from (suc count) = ap suc (range_long (from + 1) count)

place_le : (texts : List (List ℕ)) (text : List ℕ) → place_of texts text ≤ length texts
place_le [] text = omega arith
place_le (first ∷ texts) text = ⊎_elim
    (λ (here : pointwise nat_eq first text ≡ true). rw here (omega arith))
    (λ (other : pointwise nat_eq first text ≡ false). let rest : place_of texts text ≤ length texts = place_le texts text in rw other (omega arith))
    (cases_Bool (pointwise nat_eq first text))

key_number_le : (own columns targets : List (List ℕ)) (next : ℕ) (column : List ℕ) → length own ≤ next → key_number own columns targets next column ≤ next
key_number_le own columns targets next column above = ⊎_elim
    (λ (here : is_among targets column ≡ true). let le = place_le own (get_or columns (place_of targets column) []) in rw here (omega arith))
    (λ (other : is_among targets column ≡ false). rw other (omega arith))
    (cases_Bool (is_among targets column))

key_next : (own columns targets : List (List ℕ)) (next : ℕ) (column : List ℕ) → length own ≤ next → (next ≤ next_number targets next column) × (next_number targets next column ≤ max (key_number own columns targets next column + 1) next) × (next_number targets next column ≤ next + 1)
key_next own columns targets next column above = ⊎_elim
    (λ (here : is_among targets column ≡ true). rw here (omega arith, omega arith, omega arith))
    (λ (other : is_among targets column ≡ false). rw other (omega arith, omega arith, omega arith))
    (cases_Bool (is_among targets column))

key_ordered : (own columns targets : List (List ℕ)) (reached next : ℕ) (left : List (List ℕ)) → length own ≤ next → next ≤ reached → OrderedFrom reached (key_terms own columns targets next left ++ [])
key_ordered own columns targets reached next [] above le = tt
key_ordered own columns targets reached next (column ∷ left) above le =
    let small = key_number_le own columns targets next column above in
    let (up, on, step) = key_next own columns targets next column above in
    (omega arith, key_ordered own columns targets (max (key_number own columns targets next column + 1) reached) (next_number targets next column) left (omega arith) (omega arith))

key_bound : (own columns targets : List (List ℕ)) (next : ℕ) (left : List (List ℕ)) → length own ≤ next → terms_bound (key_terms own columns targets next left) ≤ next + length left
key_bound own columns targets next [] above = omega arith
key_bound own columns targets next (column ∷ left) above =
    let small = key_number_le own columns targets next column above in
    let (up, on, step) = key_next own columns targets next column above in
    let rest : terms_bound (key_terms own columns targets (next_number targets next column) left) ≤ next_number targets next column + length left = key_bound own columns targets (next_number targets next column) left (omega arith) in
    omega arith

key_long : (own columns targets : List (List ℕ)) (next : ℕ) (left : List (List ℕ)) → length (key_terms own columns targets next left) ≡ length left
key_long own columns targets next [] = refl
key_long own columns targets next (column ∷ left) = ap suc (key_long own columns targets (next_number targets next column) left)

no_range_constant : (from count : ℕ) (c : List ℕ) → Contains (map Var (range_with_len from count)) (Const c) → ⊥
no_range_constant from zero c there = omega arith
no_range_constant from (suc count) c there = ⊎_elim (λ same. cc) (λ later. no_range_constant (from + 1) count c later) (contains_cases (Var from) (map Var (range_with_len (from + 1) count)) (Const c) there)

no_key_constant : (own columns targets : List (List ℕ)) (next : ℕ) (left : List (List ℕ)) (c : List ℕ) → Contains (key_terms own columns targets next left) (Const c) → ⊥
no_key_constant own columns targets next [] c there = omega arith
no_key_constant own columns targets next (column ∷ left) c there = ⊎_elim (λ same. cc) (λ later. no_key_constant own columns targets (next_number targets next column) left c later)
    (contains_cases (Var (key_number own columns targets next column)) (key_terms own columns targets (next_number targets next column) left) (Const c) there)

terms_bound-both : (first second : List Term) (most : ℕ) → terms_bound first ≤ most → terms_bound second ≤ most → terms_bound (first ++ second) ≤ most
terms_bound-both [] second most one two = two
terms_bound-both (Var x ∷ first) second most one two = let rest : terms_bound (first ++ second) ≤ most = terms_bound-both first second most (omega arith) two in omega arith
terms_bound-both (Const c ∷ first) second most one two = terms_bound-both first second most one two

-- the rule of a foreign key is one
pub key_is_rule : (relations : List Relation) (constants : List (List ℕ)) (line : ℕ) (relation : List ℕ) (columns : List (List ℕ)) (target : List ℕ) (targets : List (List ℕ))
    → is_unknown relations relation ≡ false → is_unknown relations target ≡ false → length (columns_of relations relation) ≤ MOST_COLUMNS → length (columns_of relations target) ≤ MOST_COLUMNS
    → IsRule relations constants (key_rule relations line relation columns target targets)
key_is_rule relations constants line relation columns target targets known known_target few few_target =
    let own : List (List ℕ) = columns_of relations relation in
    let others : List (List ℕ) = columns_of relations target in
    let body : Atom = record { rel = number_of relations relation; terms = map Var (range_with_len 0 (length own)) } in
    let head : Atom = record { rel = number_of relations target; terms = key_terms own columns targets (length own) others } in
    let body_fits : AtomFits relations body = record {
      placed = number_within relations relation known;
      arity = λ owner at. range_long 0 (length own) ∙ ap length (columns_at relations relation owner known at);
    } in
    let head_fits : AtomFits relations head = record {
      placed = number_within relations target known_target;
      arity = λ owner at. key_long own columns targets (length own) others ∙ ap length (columns_at relations target owner known_target at);
    } in
    record {
      body_some = omega arith;
      body_few = omega arith;
      head_some = omega arith;
      head_few = omega arith;
      atoms = λ atom there. ⊎_elim
          (λ same. subst (AtomFits relations) same body_fits)
          (λ later. ⊎_elim (λ same. subst (AtomFits relations) same head_fits) (λ none. absurd (omega arith)) (contains_cases head [] atom later))
          (contains_cases body (head ∷ []) atom there);
      in_order = in_order (body.terms ++ (head.terms ++ [])) (range_ordered 0 (length own) (head.terms ++ [])
          (key_ordered own columns targets (0 + length own) (length own) others (omega arith) (omega arith)));
      variables = terms_bound-both body.terms (head.terms ++ []) MOST_VARIABLES
          (let le : terms_bound body.terms ≤ 0 + length own = range_bound 0 (length own) in omega arith)
          (terms_bound-both head.terms [] MOST_VARIABLES (let le : terms_bound head.terms ≤ length own + length others = key_bound own columns targets (length own) others (omega arith) in omega arith) (omega arith));
      constants_are = λ c there. ⊎_elim
          (λ first. absurd (no_range_constant 0 (length own) c first))
          (λ later. ⊎_elim (λ second. absurd (no_key_constant own columns targets (length own) others c second)) (λ none. absurd (omega arith)) (Contains-append_cases head.terms [] (Const c) later))
          (Contains-append_cases body.terms (head.terms ++ []) (Const c) there);
    }
