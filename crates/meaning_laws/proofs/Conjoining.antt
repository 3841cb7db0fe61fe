-- A select has the answers of a query that has one term for the operands that its conditions make equal.
use Rattle.std.proofs.Common.{◌≡◌, ℕ, zero, suc, ◌+◌, ◌<◌, List, [], ◌∷◌, ◌++◌, length, Some, refl, sym, ap, ◌∙◌, subst, ⊎_elim, arith, append_assoc}
use Rattle.std.specs.Prelude.{Contains, slice_get, slice_index_or, map}
use Rattle.std.specs.List.{range_with_len}
use Rattle.std.proofs.lemmas.Option.{get_or_from_slice_get, slice_get-get_or}
use Rattle.std.proofs.lemmas.List.{get_or_default, get_or_at, same_lists, length_push}
use Rattle.std.proofs.lemmas.List.FromFn.{length-range_with_len, get_or-range_with_len, length-map-range_with_len, get_or-map-range_with_len}
use Rattle.lists.proofs.Members.{contains_here, contains_there, contains_cases, map_same, map_got, some_injective}
use Rattle.meaning.specs.declared.types.Term.{Term}
use Rattle.meaning.specs.declared.types.Term.TheVariants.{Var, Const}
use Rattle.meaning.specs.declared.types.Atom.{Atom}
use Rattle.meaning.specs.declared.types.Fact.{Fact}
use Rattle.meaning.specs.declared.types.Query.{Query}
use Rattle.meaning.specs.declared.types.Relation.{Relation}
use Rattle.meaning.specs.declared.types.SchemaParts.{SchemaParts}
use Rattle.meaning.specs.declared.types.Operand.{Operand}
use Rattle.meaning.specs.declared.types.Operand.TheVariants.{Column, Literal}
use Rattle.meaning.specs.declared.types.Condition.{Condition}
use Rattle.meaning.specs.declared.types.Select.{Select}
use Rattle.meaning.specs.Instances.{IsInstance}
use Rattle.meaning.specs.Matching.{value_of, AreFacts, itself, FactsOf, AnswersQuery}
use Rattle.meaning.specs.Answers.{IsChoice, operand_value, AnswersSelect}
use Rattle.meaning.specs.Conjunctive.{AreJoined, given, alike, turned, chained, OperandFits, SelectFits}

-- operands that are joined have one value under a choice that meets the conditions
joined_values : (rows : List (List (List ℕ))) (conditions : List Condition) → ((condition : Condition) → Contains conditions condition → operand_value rows condition.left ≡ operand_value rows condition.right) → {o p : Operand} → AreJoined conditions o p → operand_value rows o ≡ operand_value rows p
joined_values rows conditions hold (given condition among) = hold condition among
joined_values rows conditions hold (alike o) = refl
joined_values rows conditions hold (turned j) = sym (joined_values rows conditions hold j)
joined_values rows conditions hold (chained i j) = joined_values rows conditions hold i ∙ joined_values rows conditions hold j

map_map : {X Y Z : Type 0} (f : X → Y) (g : Y → Z) (xs : List X) → map g (map f xs) ≡ map (λ x. g (f x)) xs
map_map f g [] = refl
map_map f g (x ∷ xs) = ap (λ ys. g (f x) ∷ ys) (map_map f g xs)

pub in_range : (n c : ℕ) → Contains (range_with_len 0 n) c → c < n
in_range n c (k, l, e) =
    let l' : k < n = rw (length-range_with_len) at l in
    let is : 0 + k ≡ c = sym (get_or-range_with_len 0 n k c l') ∙ e in
    omega arith

pub range_at : (n c : ℕ) → c < n → slice_get (range_with_len 0 n) c ≡ Some c
range_at n c l =
    slice_get-get_or (range_with_len 0 n) c 0 (rw (length-range_with_len) l) ∙ ap Some (get_or-range_with_len 0 n c 0 l ∙ plain c)
  where
    plain : (c : ℕ) → 0 + c ≡ c
    plain c = omega arith

-- One atom for each FROM item, from item i on, with the columns' terms.
abbrev pub AtomsFrom : SchemaParts → (Operand → Term) → ℕ → List ℕ → List Atom → Type 0
AtomsFrom schema term i [] [] = Unit {0}
AtomsFrom schema term i [] (atom ∷ atoms) = ⊥
AtomsFrom schema term i (rel ∷ froms) [] = ⊥
AtomsFrom schema term i (rel ∷ froms) (atom ∷ atoms) = ((relation : Relation) × (slice_get schema.relations rel ≡ Some relation) × (atom ≡ record { rel = rel; terms = map (λ c. term (Column i c)) (range_with_len 0 (length relation.columns)) })) × AtomsFrom schema term (i + 1) froms atoms

-- The form with a term for each operand, and a column for each variable.
pub record IsTermed (schema : SchemaParts) (select : Select) (query : Query) (term : Operand → Term) (first : ℕ → Operand) : Type 0 where
  pub literal : (text : List ℕ) → term (Literal text) ≡ Const text
  pub joined : (condition : Condition) → Contains select.conditions condition → term condition.left ≡ term condition.right
  pub constant : (o : Operand) (text : List ℕ) → OperandFits schema select o → term o ≡ Const text → AreJoined select.conditions o (Literal text)
  pub variable : (o : Operand) (k : ℕ) → OperandFits schema select o → term o ≡ Var k → AreJoined select.conditions o (first k)
  pub atoms : AtomsFrom schema term 0 select.froms query.atoms
  pub head : query.head ≡ map term select.items

module _ (schema : SchemaParts) (select : Select) (query : Query) (term : Operand → Term) (first : ℕ → Operand) (is : IsTermed schema select query term first) (facts : List Fact) where
  -- the term has the operand's value
  term_value : (rows : List (List (List ℕ))) → ((condition : Condition) → Contains select.conditions condition → operand_value rows condition.left ≡ operand_value rows condition.right) → (o : Operand) → OperandFits schema select o → value_of itself (λ k. operand_value rows (first k)) (term o) ≡ operand_value rows o
  term_value rows hold o fits = go (term o) refl
    where
      go : (t : Term) → term o ≡ t → value_of itself (λ k. operand_value rows (first k)) t ≡ operand_value rows o
      go (Var k) e = sym (joined_values rows select.conditions hold (is.variable o k fits e))
      go (Const text) e = sym (joined_values rows select.conditions hold (is.constant o text fits e))

  -- a row is the list of its values
  row_values : (row : List (List ℕ)) (n : ℕ) → length row ≡ n → map (λ c. slice_index_or row c []) (range_with_len 0 n) ≡ row
  row_values row n l =
      same_lists (map (λ c. slice_index_or row c []) (range_with_len 0 n)) row (length-map-range_with_len (λ c. slice_index_or row c []) 0 n ∙ sym l)
      (λ k d below. get_or-map-range_with_len (λ c. slice_index_or row c []) 0 n k k d (rw (← length-map-range_with_len (λ c. slice_index_or row c []) 0 n) below) (omega arith) ∙ get_or_default row k [] d (rw (l, ← length-map-range_with_len (λ c. slice_index_or row c []) 0 n) below))

  -- the terms of the columns of these FROM items, from item i on, have the columns' values
  abbrev Values : (ℕ → List ℕ) → List (List (List ℕ)) → ℕ → List ℕ → Type 0
  Values a rows i froms = (j rel c : ℕ) (relation : Relation) → slice_get froms j ≡ Some rel → slice_get schema.relations rel ≡ Some relation → c < length relation.columns → value_of itself a (term (Column (i + j) c)) ≡ operand_value rows (Column (i + j) c)

  facts_from : (a : ℕ → List ℕ) (rows done rest : List (List (List ℕ))) (i : ℕ) (froms : List ℕ) (atoms : List Atom) → IsInstance schema facts → Values a rows i froms → rows ≡ done ++ rest → length done ≡ i → IsChoice facts froms rest → AtomsFrom schema term i froms atoms → AreFacts itself (FactsOf facts) a atoms
  facts_from a rows done rest i [] [] fits value whole long choice are atom c = absurd (no_atom c)
    where
      no_atom : {atom : Atom} → Contains [] atom → ⊥
      no_atom c = omega arith
  facts_from a rows done rest i [] (first' ∷ atoms) fits value whole long choice are atom c = absurd are
  facts_from a rows done rest i (rel ∷ froms) [] fits value whole long choice are atom c = absurd are
  facts_from a rows done [] i (rel ∷ froms) (first' ∷ atoms) fits value whole long choice are atom c = absurd choice
  facts_from a rows done (row ∷ rest) i (rel ∷ froms) (first' ∷ atoms) fits value whole long (holds, choice) ((relation, got, e), are) atom c =
      let its = fits (record { rel = rel; row = row }) holds in
      let width : length row ≡ length relation.columns = its.width ∙ ap (λ (r : Relation). length r.columns) (some_injective its.relation relation (sym its.there ∙ got)) in
      let here : slice_index_or rows i [] ≡ row = ap (λ rs. slice_index_or rs i []) whole ∙ get_or_at done row rest [] i long in
      let zeroth : i + 0 ≡ i = omega arith in
      let here_value : (c : ℕ) → c < length relation.columns → value_of itself a (term (Column i c)) ≡ operand_value rows (Column i c) =
      λ c l. subst (λ n. value_of itself a (term (Column n c)) ≡ operand_value rows (Column n c)) zeroth (value 0 rel c relation refl got l) in
      let later : Values a rows (i + 1) froms = λ j r c its at at' l. subst (λ n. value_of itself a (term (Column n c)) ≡ operand_value rows (Column n c)) (shift j) (value (suc j) r c its at at' l) in
      let vals : map (value_of itself a) (map (λ c. term (Column i c)) (range_with_len 0 (length relation.columns))) ≡ row =
      map_map (λ c. term (Column i c)) (value_of itself a) (range_with_len 0 (length relation.columns))
      ∙ map_same (λ c. value_of itself a (term (Column i c))) (λ c. slice_index_or row c []) (range_with_len 0 (length relation.columns)) (λ c among. here_value c (in_range (length relation.columns) c among) ∙ ap (λ r. slice_index_or r c []) here)
      ∙ row_values row (length relation.columns) width in
      ⊎_elim (λ same. subst (λ (x : Atom). FactsOf facts x.rel (map (value_of itself a) x.terms)) (sym e ∙ same) (subst (λ r. FactsOf facts rel r) (sym vals) holds))
      (λ h. facts_from a rows (done ++ row ∷ []) rest (i + 1) froms atoms fits later (whole ∙ sym (append_assoc done (row ∷ []) rest)) (length_push done row ∙ ap (λ n. n + 1) long) choice are atom h)
      (contains_cases first' atoms atom c)
    where
      shift : (j : ℕ) → i + suc j ≡ (i + 1) + j
      shift j = omega arith

  pub termed_complete : (row : List (List ℕ)) → SelectFits schema select → IsInstance schema facts → AnswersSelect select facts row → AnswersQuery query facts row
  termed_complete row select_fits fits (rows, choice, hold, e) = (
    (λ k. operand_value rows (first k)),
    facts_from (λ k. operand_value rows (first k)) rows [] rows 0 select.froms query.atoms fits (λ j rel c relation got got' l. term_value rows hold (Column (0 + j) c) (rel, relation, plain j got, got', l)) refl refl choice is.atoms,
    e ∙ sym (map_map term (value_of itself (λ k. operand_value rows (first k))) select.items ∙ map_same (λ o. value_of itself (λ k. operand_value rows (first k)) (term o)) (operand_value rows) select.items (λ o c. term_value rows hold o (select_fits.items o c)))
        ∙ ap (map (value_of itself (λ k. operand_value rows (first k)))) (sym is.head),
  )
    where
      plain : (j : ℕ) {rel : ℕ} → slice_get select.froms j ≡ Some rel → slice_get select.froms (0 + j) ≡ Some rel
      plain j {rel} g = let e : j ≡ 0 + j = omega arith in subst (λ n. slice_get select.froms n ≡ Some rel) e g

  choice_from : (a : ℕ → List ℕ) (i : ℕ) (froms : List ℕ) (atoms : List Atom) → AtomsFrom schema term i froms atoms → AreFacts itself (FactsOf facts) a atoms → IsChoice facts froms (map (λ atom. map (value_of itself a) atom.terms) atoms)
  choice_from a i [] [] are holds = tt
  choice_from a i [] (atom ∷ atoms) are holds = absurd are
  choice_from a i (rel ∷ froms) [] are holds = absurd are
  choice_from a i (rel ∷ froms) (atom ∷ atoms) ((relation, got, e), are) holds = (
    subst (λ r. Contains facts (record { rel = r; row = map (value_of itself a) atom.terms })) (ap (λ (x : Atom). x.rel) e) (holds atom (contains_here atom atoms)),
    choice_from a (i + 1) froms atoms are (λ x c. holds x (contains_there atom atoms x c)),
  )

  atom_at : (i : ℕ) (froms : List ℕ) (atoms : List Atom) (j rel : ℕ) (relation : Relation) → AtomsFrom schema term i froms atoms → slice_get froms j ≡ Some rel → slice_get schema.relations rel ≡ Some relation → slice_get atoms j ≡ Some (record { rel = rel; terms = map (λ c. term (Column (i + j) c)) (range_with_len 0 (length relation.columns)) })
  atom_at i [] atoms j rel relation are got got' = absurd (cc)
  atom_at i (r ∷ froms) [] j rel relation are got got' = absurd are
  atom_at i (r ∷ froms) (atom ∷ atoms) zero rel relation ((its, its_got, e), are) got got' =
      let same : r ≡ rel = some_injective r rel got in
      let one : its ≡ relation = some_injective its relation (sym its_got ∙ ap (slice_get schema.relations) same ∙ got') in
      let there : i ≡ i + zero = omega arith in
      ap Some (e ∙ (λ t. record { rel = same t; terms = map (λ c. term (Column (there t) c)) (range_with_len 0 (length (one t).columns)) }))
  atom_at i (r ∷ froms) (atom ∷ atoms) (suc j) rel relation (its, are) got got' =
      let later : (i + 1) + j ≡ i + suc j = omega arith in
      atom_at (i + 1) froms atoms j rel relation are got got' ∙ ap (λ n. Some (record { rel = rel; terms = map (λ c. term (Column n c)) (range_with_len 0 (length relation.columns)) })) later

  operand_is : (a : ℕ → List ℕ) (o : Operand) → OperandFits schema select o → operand_value (map (λ atom. map (value_of itself a) atom.terms) query.atoms) o ≡ value_of itself a (term o)
  operand_is a (Literal text) fits = ap (value_of itself a) (sym (is.literal text))
  operand_is a (Column from column) (rel, relation, got, got', below) =
      let terms : List Term = map (λ c. term (Column from c)) (range_with_len 0 (length relation.columns)) in
      let zeroth : 0 + from ≡ from = omega arith in
      let at : slice_get query.atoms from ≡ Some (record { rel = rel; terms = terms }) =
      atom_at 0 select.froms query.atoms from rel relation is.atoms got got' ∙ ap (λ n. Some (record { rel = rel; terms = map (λ c. term (Column n c)) (range_with_len 0 (length relation.columns)) })) zeroth in
      let row : slice_index_or (map (λ atom. map (value_of itself a) atom.terms) query.atoms) from [] ≡ map (value_of itself a) terms =
      get_or_from_slice_get (map (λ (atom : Atom). map (value_of itself a) atom.terms) query.atoms) from (map (value_of itself a) terms) [] (map_got (λ (atom : Atom). map (value_of itself a) atom.terms) query.atoms from (record { rel = rel; terms = terms }) at) in
      ap (λ r. slice_index_or r column []) row
      ∙ get_or_from_slice_get (map (value_of itself a) terms) column (value_of itself a (term (Column from column))) []
      (map_got (value_of itself a) terms column (term (Column from column)) (map_got (λ c. term (Column from c)) (range_with_len 0 (length relation.columns)) column column (range_at (length relation.columns) column below)))

  pub termed_sound : (row : List (List ℕ)) → SelectFits schema select → AnswersQuery query facts row → AnswersSelect select facts row
  termed_sound row fits (a, are, e) = (
    map (λ atom. map (value_of itself a) atom.terms) query.atoms,
    choice_from a 0 select.froms query.atoms is.atoms are,
    (λ condition c. let both = fits.conditions condition c in operand_is a condition.left both.0 ∙ ap (value_of itself a) (is.joined condition c) ∙ sym (operand_is a condition.right both.1)),
    e ∙ ap (map (value_of itself a)) is.head ∙ map_map term (value_of itself a) select.items
        ∙ map_same (λ o. value_of itself a (term o)) (operand_value (map (λ atom. map (value_of itself a) atom.terms) query.atoms)) select.items (λ o c. sym (operand_is a o (fits.items o c))),
  )
