-- A select and its conjunctive form have the same answers: for each variable some column has it, or none does.
use Rattle.std.proofs.Common.{◌≡◌, ℕ, zero, suc, ◌+◌, ◌<◌, List, [], ◌∷◌, ◌++◌, length, Option, Some, None, refl, sym, ap, ◌∙◌, subst, arith, append_assoc}
use Rattle.std.specs.Prelude.{Contains, slice_get, map}
use Rattle.std.specs.List.{AllZip, range_with_len}
use Rattle.std.proofs.Math.Decide.{ℕ_discrete}
use Rattle.std.proofs.lemmas.Option.{slice_get-get_or, slice_get_within}
use Rattle.std.proofs.lemmas.List.{same_lists, length_push}
use Rattle.std.proofs.lemmas.List.FromFn.{length-map-range_with_len, get_or-map-range_with_len}
use Rattle.lists.proofs.Members.{contains_got, got_below, some_injective}
use Rattle.meaning_laws.proofs.Deciding.{dec_some}
use Rattle.meaning_laws.proofs.Conjoining.{AtomsFrom, IsTermed, termed_sound, termed_complete, in_range, range_at}
use Rattle.meaning.specs.declared.types.Term.{Term}
use Rattle.meaning.specs.declared.types.Term.TheVariants.{Var, Const}
use Rattle.meaning.specs.declared.types.Atom.{Atom}
use Rattle.meaning.specs.declared.types.Fact.{Fact}
use Rattle.meaning.specs.declared.types.Query.{Query}
use Rattle.meaning.specs.declared.types.Relation.{Relation}
use Rattle.meaning.specs.declared.types.SchemaParts.{SchemaParts}
use Rattle.meaning.specs.declared.types.Operand.{Operand}
use Rattle.meaning.specs.declared.types.Operand.TheVariants.{Column, Literal}
use Rattle.meaning.specs.declared.types.Select.{Select}
use Rattle.meaning.specs.Instances.{FitsRelation, IsInstance}
use Rattle.meaning.specs.Matching.{AnswersQuery}
use Rattle.meaning.specs.Answers.{AnswersSelect}
use Rattle.meaning.specs.Conjunctive.{AreJoined, OperandFits, SelectFits, or_empty, term_in, term_of, IsConjunctive}

-- the terms at the columns one after another are the terms
all_terms : (terms : List Term) → map (λ c. or_empty (slice_get terms c)) (range_with_len 0 (length terms)) ≡ terms
all_terms terms = same_lists (map (λ c. or_empty (slice_get terms c)) (range_with_len 0 (length terms))) terms (length-map-range_with_len (λ c. or_empty (slice_get terms c)) 0 (length terms))
    (λ k d below. let l : k < length terms = rw (← length-map-range_with_len (λ c. or_empty (slice_get terms c)) 0 (length terms)) below in
    get_or-map-range_with_len (λ c. or_empty (slice_get terms c)) 0 (length terms) k k d l (omega arith) ∙ ap or_empty (slice_get-get_or terms k d l))

got_middle : (done : List Atom) (atom : Atom) (rest : List Atom) → slice_get (done ++ atom ∷ rest) (length done) ≡ Some atom
got_middle [] atom rest = refl
got_middle (x ∷ done) atom rest = got_middle done atom rest

-- how many terms an atom has
width_in : Option Atom → ℕ
width_in None = 0
width_in (Some atom) = length atom.terms

dec_var : (t : Term) (k : ℕ) → Dec (t ≡ Var k)
dec_var (Const text) k = no (λ e. differ e)
  where
    differ : Const text ≡ Var k → ⊥
    differ e = cc
dec_var (Var x) k = elim (ℕ_discrete x k) [ yes e ↦ yes (ap Var e) | no n ↦ no (λ e. n (variable_is e)) ]
  where
    variable_is : Var x ≡ Var k → x ≡ k
    variable_is e = cc

module _ (schema : SchemaParts) (select : Select) where
  abbrev Shapes : List ℕ → List Atom → Type 0
  Shapes froms atoms = AllZip (λ rel (atom : Atom). (atom.rel ≡ rel) × FitsRelation schema rel atom.terms) froms atoms

  -- atoms of that shape are those of their own terms
  shaped_atoms : (all done : List Atom) (i : ℕ) (froms : List ℕ) (atoms : List Atom) → all ≡ done ++ atoms → length done ≡ i → Shapes froms atoms → AtomsFrom schema (term_of all) i froms atoms
  shaped_atoms all done i [] [] whole long is = tt
  shaped_atoms all done i [] (atom ∷ atoms) whole long is = absurd is
  shaped_atoms all done i (rel ∷ froms) [] whole long is = absurd is
  shaped_atoms all done i (rel ∷ froms) (atom ∷ atoms) whole long ((same, fit), is) =
      let here : slice_get all i ≡ Some atom = ap (λ a. slice_get a i) whole ∙ ap (λ n. slice_get (done ++ atom ∷ atoms) n) (sym long) ∙ got_middle done atom atoms in
      let terms : map (λ c. term_of all (Column i c)) (range_with_len 0 (length fit.relation.columns)) ≡ atom.terms =
      ap (λ found. map (λ c. term_in found c) (range_with_len 0 (length fit.relation.columns))) here ∙ ap (λ n. map (λ c. or_empty (slice_get atom.terms c)) (range_with_len 0 n)) (sym fit.width) ∙ all_terms atom.terms in
      let made : atom ≡ record { rel = rel; terms = map (λ c. term_of all (Column i c)) (range_with_len 0 (length fit.relation.columns)) } =
      ap (λ r. record { rel = r; terms = atom.terms }) same ∙ ap (λ t. record { rel = rel; terms = t }) (sym terms) in
      ((fit.relation, fit.there, made), shaped_atoms all (done ++ atom ∷ []) (i + 1) froms atoms (whole ∙ sym (append_assoc done (atom ∷ []) atoms)) (length_push done atom ∙ ap (λ n. n + 1) long) is)

  shaped_at : (froms : List ℕ) (atoms : List Atom) (from rel : ℕ) → Shapes froms atoms → slice_get froms from ≡ Some rel → (atom : Atom) × (slice_get atoms from ≡ Some atom) × FitsRelation schema rel atom.terms
  shaped_at [] atoms from rel is got = absurd (cc)
  shaped_at (r ∷ froms) [] from rel is got = absurd is
  shaped_at (r ∷ froms) (atom ∷ atoms) zero rel ((same, fit), is) got = (atom, refl, subst (λ n. FitsRelation schema n atom.terms) (some_injective r rel got) fit)
  shaped_at (r ∷ froms) (atom ∷ atoms) (suc from) rel (first, is) got = shaped_at froms atoms from rel is got

  module _ (query : Query) (is : IsConjunctive schema select query) where
    -- a column of some FROM item has the variable
    abbrev Holder : ℕ → Type 0
    Holder k = (i : ℕ) × Contains (range_with_len 0 (length select.froms)) i × ((c : ℕ) × Contains (range_with_len 0 (width_in (slice_get query.atoms i))) c × (term_of query.atoms (Column i c) ≡ Var k))

    holder : (k : ℕ) → Dec (Holder k)
    holder k =
        dec_some (λ i. (c : ℕ) × Contains (range_with_len 0 (width_in (slice_get query.atoms i))) c × (term_of query.atoms (Column i c) ≡ Var k))
        (λ i. dec_some (λ c. term_of query.atoms (Column i c) ≡ Var k) (λ c. dec_var (term_of query.atoms (Column i c)) k) (range_with_len 0 (width_in (slice_get query.atoms i))))
        (range_with_len 0 (length select.froms))

    held : {k : ℕ} → Dec (Holder k) → Operand
    held (yes (i, among, (c, inside, e))) = Column i c
    held (no none) = Literal []

    column_fits : (i c : ℕ) → Contains (range_with_len 0 (length select.froms)) i → Contains (range_with_len 0 (width_in (slice_get query.atoms i))) c → OperandFits schema select (Column i c)
    unfolding width_in
    column_fits i c among inside =
        let (rel, got) = got_below select.froms i (in_range (length select.froms) i among) in
        let (atom, at, fit) = shaped_at select.froms query.atoms i rel is.atoms got in
        let low : c < width_in (slice_get query.atoms i) = in_range (width_in (slice_get query.atoms i)) c inside in
        let wide : width_in (slice_get query.atoms i) ≡ length fit.relation.columns = ap width_in at ∙ fit.width in
        (rel, fit.relation, got, fit.there, subst (λ n. c < n) wide low)

    column_held : (from column : ℕ) → OperandFits schema select (Column from column) → Contains (range_with_len 0 (length select.froms)) from × Contains (range_with_len 0 (width_in (slice_get query.atoms from))) column
    unfolding width_in
    column_held from column (rel, relation, got, got', below) =
        let (atom, at, fit) = shaped_at select.froms query.atoms from rel is.atoms got in
        let wide : width_in (slice_get query.atoms from) ≡ length relation.columns = ap width_in at ∙ fit.width ∙ ap (λ (r : Relation). length r.columns) (some_injective fit.relation relation (sym fit.there ∙ got')) in
        let low : from < length select.froms = slice_get_within select.froms from rel got in
        let low' : column < width_in (slice_get query.atoms from) = subst (λ n. column < n) (sym wide) below in (
          contains_got (range_with_len 0 (length select.froms)) from from (range_at (length select.froms) from low),
          contains_got (range_with_len 0 (width_in (slice_get query.atoms from))) column column (range_at (width_in (slice_get query.atoms from)) column low'),
        )

    variable_is : (o : Operand) (k : ℕ) → OperandFits schema select o → term_of query.atoms o ≡ Var k → AreJoined select.conditions o (held (holder k))
    unfolding held
    variable_is (Literal text) k fits e = absurd (cc)
    variable_is (Column from column) k fits e = go (holder k)
      where
        go : (found : Dec (Holder k)) → AreJoined select.conditions (Column from column) (held found)
        go (yes (i, among, (c, inside, same))) = is.only (Column from column) (Column i c) fits (column_fits i c among inside) (e ∙ sym same)
        go (no none) = let (among, inside) = column_held from column fits in absurd (none (from, among, (column, inside, e)))

    termed : IsTermed schema select query (term_of query.atoms) (λ k. held (holder k))
    termed = record {
      literal = λ text. refl;
      joined = is.joined;
      constant = λ o text fits e. is.only o (Literal text) fits tt e;
      variable = variable_is;
      atoms = shaped_atoms query.atoms [] 0 select.froms query.atoms refl refl is.atoms;
      head = is.head;
    }

pub select_sound : (schema : SchemaParts) (select : Select) (query : Query) → IsConjunctive schema select query → (facts : List Fact) (row : List (List ℕ)) → SelectFits schema select → AnswersQuery query facts row → AnswersSelect select facts row
select_sound schema select query is facts row fits answer = termed_sound schema select query (term_of query.atoms) (λ k. held schema select query is (holder schema select query is k)) (termed schema select query is) facts row fits answer

pub select_complete : (schema : SchemaParts) (select : Select) (query : Query) → IsConjunctive schema select query → (facts : List Fact) (row : List (List ℕ)) → SelectFits schema select → IsInstance schema facts → AnswersSelect select facts row → AnswersQuery query facts row
select_complete schema select query is facts row fits holds answer = termed_complete schema select query (term_of query.atoms) (λ k. held schema select query is (holder schema select query is k)) (termed schema select query is) facts row fits holds answer
