-- The form of a select: its query is conjunctive, numbered and fits, Never comes exactly where two literals clash, and the answers are the select's.
use Rattle.std.proofs.Common.{◌≡◌, ◌↔◌, ℕ, zero, suc, ◌<◌, ◌≤◌, ◌+◌, ◌*◌, ◌^◌, List, [], ◌∷◌, ◌++◌, length, ap, subst, sym, ◌∙◌, refl, arith}
use Rattle.std.specs.Prelude.{Contains, slice_get, Option, Some, None, map, max, MatchOption}
use Rattle.std.proofs.lemmas.List.{length-append}
use Rattle.std.proofs.lemmas.List.Elements.{Contains-append_left, Contains-append_right}
use Rattle.meaning.specs.declared.types.Term.{Term}
use Rattle.meaning.specs.declared.types.Term.TheVariants.{Var, Const}
use Rattle.meaning.specs.declared.types.Atom.{Atom}
use Rattle.meaning.specs.declared.types.Fact.{Fact}
use Rattle.meaning.specs.declared.types.Query.{Query}
use Rattle.meaning.specs.declared.types.Relation.{Relation}
use Rattle.meaning.specs.declared.types.SchemaParts.{SchemaParts}
use Rattle.meaning.specs.declared.types.Operand.{Operand}
use Rattle.meaning.specs.declared.types.Operand.TheVariants.{Column, Literal}
use Rattle.meaning.specs.declared.types.Condition.{Condition}
use Rattle.meaning.specs.declared.types.Select.{Select}
use Rattle.meaning.specs.Values.{Value, Row}
use Rattle.meaning.specs.Instances.{FitsRelation, IsInstance}
use Rattle.meaning.specs.Answers.{operand_value, MeetsConditions, AnswersSelect}
use Rattle.meaning.specs.Triggers.{terms_bound, bound}
use Rattle.meaning.specs.Conjunctive.{AreJoined, given, alike, turned, chained, OperandFits, SelectFits, or_empty, term_in, term_of, IsConjunctive}
use Rattle.meaning.specs.Fitting.{QueryFits, QueryHasConstants}
use Rattle.meaning_laws.proofs.Choosing.{select_sound, select_complete}
use Rattle.access_schema.specs.declared.schema.Schema.{Schema}
use Rattle.access_schema.specs.Invariant.{terms_of}
use Rattle.access_schema.proofs.Ordered.{OrderedFrom, in_order, bound_is, occurs_in}
use Rattle.lists.proofs.Members.{contains_got, contains_mapped, got_below, some_injective}
use Rattle.lists.proofs.Places.{got_contained}
use Rattle.sql_conjunctive.specs.Form.{Clashes, IsNever, IfQuery, IsNumbered, HaveLiterals, AnswersForm}
use Rattle.sql_conjunctive.specs.Making.{numbered_atoms, made_query, form_from, made_form}
use Rattle.sql_conjunctive.specs.Merging.{AreNarrow, opening_from, with_terms, met_all}
use Rattle.sql_conjunctive.specs.Numbering.{place_from, order_in, order_through, number_in}
use Rattle.sql_conjunctive.proofs.Numbers.{placed, placed_once, numbered, order_length, through_all, terms_of_map}
use Rattle.sql_conjunctive.proofs.Joining.{term_of_map, named, IsSound, Shapes, all_joined, all_sound, all_shaped, opening_sound, opening_shaped, shaped_map}
use Rattle.sql_conjunctive.proofs.Literals.{shaped_from, constants_known}

pub made_is : (merged atoms : List Atom) (items : List Operand) (order : List ℕ) (head : List Term) (variables : ℕ) → order ≡ order_through [] merged → atoms ≡ map (with_terms (number_in order)) merged → head ≡ map (term_of atoms) items → variables ≡ length order →
    ◌≡◌ {A = Query} (record { atoms = atoms; head = head; variables = variables }) (made_query merged items)
made_is merged atoms items order head variables ordered numbered' headed counted =
    let atoms_are : atoms ≡ numbered_atoms merged = numbered' ∙ ap (λ o. map (with_terms (number_in o)) merged) ordered in
    let head_is : head ≡ map (term_of (numbered_atoms merged)) items = headed ∙ ap (λ a. map (term_of a) items) atoms_are in
    let count : length order ≡ length (order_through [] merged) = ap length ordered in
    cc

-- the relations of a schema have at most 64 columns
pub narrow : (schema : Schema) → AreNarrow schema.relations
narrow schema relation among = (schema.valid.relations_are.columns relation among).few

-- the terms of joined operands are one
one_term : (conditions : List Condition) (term : Operand → Term) → ((condition : Condition) → Contains conditions condition → term condition.left ≡ term condition.right) → {o p : Operand} → AreJoined conditions o p → term o ≡ term p
one_term conditions term joined (given condition among) = joined condition among
one_term conditions term joined (alike o) = refl
one_term conditions term joined (turned j) = sym (one_term conditions term joined j)
one_term conditions term joined (chained i j) = one_term conditions term joined i ∙ one_term conditions term joined j

-- the values of joined operands are one where the conditions are met
one_value : (rows : List Row) (conditions : List Condition) → MeetsConditions rows conditions → {o p : Operand} → AreJoined conditions o p → operand_value rows o ≡ operand_value rows p
one_value rows conditions hold (given condition among) = hold condition among
one_value rows conditions hold (alike o) = refl
one_value rows conditions hold (turned j) = sym (one_value rows conditions hold j)
one_value rows conditions hold (chained i j) = one_value rows conditions hold i ∙ one_value rows conditions hold j

module _ (schema : SchemaParts) (select : Select) where
  pub shaped_length : (froms : List ℕ) (atoms : List Atom) → AreNarrow schema.relations → Shapes schema select froms atoms → length (terms_of atoms) ≤ 64 * length froms
  shaped_length [] [] narrow is = omega arith
  shaped_length [] (atom ∷ atoms) narrow is = absurd is
  shaped_length (rel ∷ froms) [] narrow is = absurd is
  shaped_length (rel ∷ froms) (atom ∷ atoms) narrow ((same, fit), is) =
      let both : length (atom.terms ++ terms_of atoms) ≡ length atom.terms + length (terms_of atoms) = length-append atom.terms (terms_of atoms) in
      omega (arith, fit.width, narrow fit.relation (contains_got schema.relations rel fit.relation fit.there), shaped_length froms atoms narrow is)

  -- a column's term is one of the terms of the atoms
  in_terms : (froms : List ℕ) (atoms : List Atom) (from column rel : ℕ) (relation : Relation) → Shapes schema select froms atoms → slice_get froms from ≡ Some rel → slice_get schema.relations rel ≡ Some relation → column < length relation.columns →
      Contains (terms_of atoms) (term_in (slice_get atoms from) column)
  in_terms [] atoms from column rel relation is got got' below = absurd (cc)
  in_terms (r ∷ froms) [] from column rel relation is got got' below = absurd is
  in_terms (r ∷ froms) (atom ∷ atoms) zero column rel relation ((same, fit), is) got got' below =
      let at : Some fit.relation ≡ Some relation = sym fit.there ∙ ap (λ n. slice_get schema.relations n) (some_injective r rel got) ∙ got' in
      let width : length atom.terms ≡ length relation.columns = fit.width ∙ ap (λ (x : Relation). length x.columns) (some_injective fit.relation relation at) in
      let (term, there) = got_below atom.terms column (omega arith) in
      Contains-append_left atom.terms (terms_of atoms) (or_empty (slice_get atom.terms column)) (subst (λ t. Contains atom.terms t) (sym (ap or_empty there)) (contains_got atom.terms column term there))
  in_terms (r ∷ froms) (atom ∷ atoms) (suc from) column rel relation (first, is) got got' below =
      Contains-append_right atom.terms (terms_of atoms) (term_in (slice_get atoms from) column) (in_terms froms atoms from column rel relation is got got' below)

  -- a variable that an operand has is one of the terms of the atoms
  occurs : (atoms : List Atom) → Shapes schema select select.froms atoms → (o : Operand) (k : ℕ) → OperandFits schema select o → term_of atoms o ≡ Var k → Contains (terms_of atoms) (Var k)
  occurs atoms shaped (Literal text) k o_fits e = absurd (cc)
  occurs atoms shaped (Column from column) k (rel, relation, got, got', below) e =
      subst (λ t. Contains (terms_of atoms) t) e (in_terms select.froms atoms from column rel relation shaped got got' below)

  module _ (fits : SelectFits schema select) (narrow : AreNarrow schema.relations) (merged : List Atom) (made : met_all (opening_from schema.relations 0 select.froms) select.conditions ≡ Some merged) where
    merged_shaped : Shapes schema select select.froms merged
    merged_shaped = all_shaped schema select select.conditions (opening_from schema.relations 0 select.froms) merged made (opening_shaped schema select 0 select.froms fits.froms)

    merged_sound : IsSound schema select merged
    merged_sound = subst (λ found. MatchOption found (Clashes select.conditions) (λ final. IsSound schema select final)) made
        (all_sound schema select fits select.conditions (opening_from schema.relations 0 select.froms) (λ condition c. c) (opening_sound schema select narrow))

    pub small_order : length select.froms ≤ 16 → length (order_through [] merged) < 2 ^ 32
    small_order few =
        let e : length (order_through [] merged) ≡ length (order_in [] (terms_of merged)) = ap length (through_all [] merged) in
        omega (arith, order_length [] (terms_of merged), shaped_length select.froms merged narrow merged_shaped)

    term_is : (o : Operand) → term_of (numbered_atoms merged) o ≡ number_in (order_through [] merged) (term_of merged o)
    term_is o = term_of_map (number_in (order_through [] merged)) (λ text. refl) merged o

    numbered_shaped : Shapes schema select select.froms (numbered_atoms merged)
    numbered_shaped = shaped_map schema select (number_in (order_through [] merged)) select.froms merged merged_shaped

    within : (x : ℕ) → Contains (terms_of merged) (Var x) → place_from 0 (order_through [] merged) x < length (order_through [] merged)
    within x among = subst (λ o. place_from 0 o x < length o) (sym (through_all [] merged)) (placed [] (terms_of merged) x among)

    -- terms with one number are one term
    one_numbered : (s t : Term) → ((x : ℕ) → s ≡ Var x → Contains (terms_of merged) (Var x)) → number_in (order_through [] merged) s ≡ number_in (order_through [] merged) t → s ≡ t
    one_numbered (Var x) (Var y) there e = let same : place_from 0 (order_through [] merged) x ≡ place_from 0 (order_through [] merged) y = cc in ap Var (placed_once (order_through [] merged) x y (within x (there x refl)) same)
    one_numbered (Var x) (Const b) there e = absurd (cc)
    one_numbered (Const a) (Var y) there e = absurd (cc)
    one_numbered (Const a) (Const b) there e = e

    only : (o p : Operand) → OperandFits schema select o → OperandFits schema select p → term_of (numbered_atoms merged) o ≡ term_of (numbered_atoms merged) p → AreJoined select.conditions o p
    only o p o_fits p_fits e =
        let same : term_of merged o ≡ term_of merged p = one_numbered (term_of merged o) (term_of merged p) (λ x is. occurs merged merged_shaped o x o_fits is) (sym (term_is o) ∙ e ∙ term_is p) in
        chained (merged_sound o o_fits) (subst (λ t. AreJoined select.conditions (named schema select t) p) (sym same) (turned (merged_sound p p_fits)))

    pub is_conjunctive : IsConjunctive schema select (made_query merged select.items)
    is_conjunctive = record {
      atoms = numbered_shaped;
      joined = λ condition c. term_is condition.left ∙ ap (number_in (order_through [] merged)) (all_joined schema select select.conditions (opening_from schema.relations 0 select.froms) merged made condition c) ∙ sym (term_is condition.right);
      only = only;
      head = refl;
    }

    variables_are : OrderedFrom 0 (terms_of (numbered_atoms merged)) × (length (order_through [] merged) ≡ bound (numbered_atoms merged))
    variables_are =
        let flat = numbered (order_through [] merged) [] (terms_of merged) (through_all [] merged) in
        let same : map (number_in (order_through [] merged)) (terms_of merged) ≡ terms_of (numbered_atoms merged) = sym (terms_of_map (number_in (order_through [] merged)) merged) in
        let count : terms_bound (map (number_in (order_through [] merged)) (terms_of merged)) ≡ bound (numbered_atoms merged) = ap terms_bound same ∙ sym (bound_is (numbered_atoms merged)) in
        let most : max 0 (terms_bound (map (number_in (order_through [] merged)) (terms_of merged))) ≡ length (order_through [] merged) = flat.1 in
        (subst (λ ts. OrderedFrom 0 ts) same flat.0, omega arith)

    pub is_numbered : IsNumbered (made_query merged select.items)
    is_numbered = record { in_order = in_order (terms_of (numbered_atoms merged)) variables_are.0; variables = variables_are.1 }

    pub query_fits : QueryFits schema (made_query merged select.items)
    query_fits = record {
      arity = λ atom among.
          let (rel, from, same, fit) = shaped_from schema select.froms (numbered_atoms merged) among.0 atom numbered_shaped (got_contained (numbered_atoms merged) atom among) in
          subst (λ n. FitsRelation schema n atom.terms) (sym same) fit;
      variables = let e = variables_are.1 in omega arith;
      head = λ x among. let (o, item, e) = contains_mapped (term_of (numbered_atoms merged)) select.items (Var x) among in
          occurs_in (numbered_atoms merged) x (occurs (numbered_atoms merged) numbered_shaped o x (fits.items o item) e);
    }

    no_clash : Clashes select.conditions → ⊥
    no_clash (a, b, apart, j) = let same : Const a ≡ Const b = one_term select.conditions (term_of (numbered_atoms merged)) (is_conjunctive.joined) j in apart (cc)

  module _ (fits : SelectFits schema select) (narrow : AreNarrow schema.relations) where
    sound_in_the_end : MatchOption (met_all (opening_from schema.relations 0 select.froms) select.conditions) (Clashes select.conditions) (λ final. IsSound schema select final)
    sound_in_the_end = all_sound schema select fits select.conditions (opening_from schema.relations 0 select.froms) (λ condition c. c) (opening_sound schema select narrow)

    -- what each query that is made has, the query that is made has
    made_has : (P : Query → Type 0) → ((merged : List Atom) → met_all (opening_from schema.relations 0 select.froms) select.conditions ≡ Some merged → P (made_query merged select.items)) → IfQuery (made_form schema.relations select) P
    made_has P each = go (met_all (opening_from schema.relations 0 select.froms) select.conditions) refl
      where
        go : (found : Option (List Atom)) → met_all (opening_from schema.relations 0 select.froms) select.conditions ≡ found → IfQuery (form_from found select.items) P
        go None e = tt
        go (Some merged) e = each merged e

    pub never_is : IsNever (made_form schema.relations select) ↔ Clashes select.conditions
    never_is = go (met_all (opening_from schema.relations 0 select.froms) select.conditions) refl sound_in_the_end
      where
        go : (found : Option (List Atom)) → met_all (opening_from schema.relations 0 select.froms) select.conditions ≡ found → MatchOption found (Clashes select.conditions) (λ final. IsSound schema select final) → IsNever (form_from found select.items) ↔ Clashes select.conditions
        go None e clash = ((λ _. clash), (λ _. tt))
        go (Some merged) e sound = ((λ never. absurd never), (λ clash. absurd (no_clash fits narrow merged e clash)))

    pub conjunctive_is : IfQuery (made_form schema.relations select) (IsConjunctive schema select)
    conjunctive_is = made_has (IsConjunctive schema select) (is_conjunctive fits narrow)

    pub numbered_is : IfQuery (made_form schema.relations select) IsNumbered
    numbered_is = made_has IsNumbered (is_numbered fits narrow)

    pub fits_is : IfQuery (made_form schema.relations select) (QueryFits schema)
    fits_is = made_has (QueryFits schema) (query_fits fits narrow)

    pub constants_are : IfQuery (made_form schema.relations select) (λ query. (constants : List Value) → HaveLiterals constants select → QueryHasConstants constants query)
    constants_are = made_has (λ query. (constants : List Value) → HaveLiterals constants select → QueryHasConstants constants query)
        (λ merged e. constants_known schema select (made_query merged select.items) (is_conjunctive fits narrow merged e) fits)

    pub answers_are : (facts : List Fact) → IsInstance schema facts → (row : Row) → AnswersForm (made_form schema.relations select) facts row ↔ AnswersSelect select facts row
    answers_are facts holds row = go (met_all (opening_from schema.relations 0 select.froms) select.conditions) refl sound_in_the_end
      where
        go : (found : Option (List Atom)) → met_all (opening_from schema.relations 0 select.froms) select.conditions ≡ found → MatchOption found (Clashes select.conditions) (λ final. IsSound schema select final) → AnswersForm (form_from found select.items) facts row ↔ AnswersSelect select facts row
        go None e (a, b, apart, j) = ((λ none. absurd none), (λ (rows, choice, hold, is). absurd (apart (one_value rows select.conditions hold j))))
        go (Some merged) e sound = (
          select_sound schema select (made_query merged select.items) (is_conjunctive fits narrow merged e) facts row fits,
          select_complete schema select (made_query merged select.items) (is_conjunctive fits narrow merged e) facts row fits holds,
        )
