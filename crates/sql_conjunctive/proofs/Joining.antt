-- Joining the terms of a select's columns: what each condition keeps, and what the whole leaves.
use Rattle.std.proofs.Common.{◌≡◌, ◌≢◌, ◌⊎◌, ℕ, zero, suc, ◌<◌, ◌+◌, ◌*◌, ◌/◌, ◌%◌, List, [], ◌∷◌, length, ap, subst, sym, ◌∙◌, refl, inl, inr, ⊎_elim, arith, Bool, true, false}
use Rattle.std.specs.Prelude.{Contains, slice_get, Option, Some, None, map, option_map, nat_eq, if◌then◌else◌, MatchOption}
use Rattle.std.specs.List.{AllZip, range_with_len}
use Rattle.std.specs.Cmp.Lexicographic.{pointwise}
use Rattle.std.proofs.lemmas.Option.{slice_get-map}
use Rattle.std.proofs.lemmas.List.{length-map}
use Rattle.std.proofs.lemmas.List.FromFn.{length-map-range_with_len}
use Rattle.std.proofs.lemmas.Nat.{div-mul-add, mod-mul-add}
use Rattle.std.proofs.lemmas.Bool.Decides.{nat_tests}
use Rattle.std.proofs.lemmas.Slice.Eq.{bytes_eq-Decides}
use Rattle.std.specs.Bool.{Decides}
use Rattle.meaning.specs.declared.types.Term.{Term}
use Rattle.meaning.specs.declared.types.Term.TheVariants.{Var, Const}
use Rattle.meaning.specs.declared.types.Atom.{Atom}
use Rattle.meaning.specs.declared.types.Relation.{Relation}
use Rattle.meaning.specs.declared.types.SchemaParts.{SchemaParts}
use Rattle.meaning.specs.declared.types.Operand.{Operand}
use Rattle.meaning.specs.declared.types.Operand.TheVariants.{Column, Literal}
use Rattle.meaning.specs.declared.types.Condition.{Condition}
use Rattle.meaning.specs.declared.types.Select.{Select}
use Rattle.meaning.specs.Conjunctive.{AreJoined, given, alike, turned, chained, OperandFits, SelectFits, or_empty, term_in, term_of, IsAtomFor}
use Rattle.sql_conjunctive.specs.Form.{Clashes}
use Rattle.sql_conjunctive.specs.Merging.{AreNarrow, width_in, width_of, opened, opening_from, replaced, with_terms, met, met_on, met_all}
use Rattle.meaning_laws.proofs.Conjoining.{range_at}
use Rattle.lists.proofs.Members.{contains_here, contains_there, contains_cases, contains_got, map_got, some_injective}

-- a map of the terms that keeps constants maps the term of each operand
pub term_of_map : (f : Term → Term) → ((text : List ℕ) → f (Const text) ≡ Const text) → (atoms : List Atom) (o : Operand) → term_of (map (with_terms f) atoms) o ≡ f (term_of atoms o)
term_of_map f fixes atoms (Literal text) = sym (fixes text)
term_of_map f fixes atoms (Column from column) = ap (λ found. term_in found column) (slice_get-map (with_terms f) atoms from) ∙ at_atom (slice_get atoms from)
  where
    at_term : (found : Option Term) → or_empty (option_map f found) ≡ f (or_empty found)
    at_term None = sym (fixes [])
    at_term (Some term) = refl

    at_atom : (found : Option Atom) → term_in (option_map (with_terms f) found) column ≡ f (term_in found column)
    at_atom None = sym (fixes [])
    at_atom (Some atom) = ap or_empty (slice_get-map f atom.terms column) ∙ at_term (slice_get atom.terms column)

-- what one condition does to the terms: each stays, or is one side and becomes the other
pub record IsMeeting (atoms next : List Atom) (l r : Term) (f : Term → Term) : Type 0 where
  pub whole : (o : Operand) → term_of next o ≡ f (term_of atoms o)
  pub meets : f l ≡ f r
  pub each : (t : Term) → (f t ≡ t) ⊎ (((t ≡ l) × (f t ≡ r)) ⊎ ((t ≡ r) × (f t ≡ l)))

replaced_same : (k : ℕ) (to : Term) → replaced k to (Var k) ≡ to
replaced_same k to = grind (arith, nat_tests)

replaced_itself : (k : ℕ) (to : Term) → replaced k to to ≡ to
replaced_itself k (Const text) = refl
replaced_itself k (Var m) = go (nat_eq m k) refl
  where
    go : (b : Bool) → nat_eq m k ≡ b → (if b then Var m else Var m) ≡ Var m
    go true e = refl
    go false e = refl

replaced_each : (k : ℕ) (to t : Term) → (replaced k to t ≡ t) ⊎ ((t ≡ Var k) × (replaced k to t ≡ to))
replaced_each k to (Const text) = inl refl
replaced_each k to (Var m) = go (nat_eq m k) refl
  where
    go : (b : Bool) → nat_eq m k ≡ b → ((if b then to else Var m) ≡ Var m) ⊎ ((Var m ≡ Var k) × ((if b then to else Var m) ≡ to))
    go true e = let same : m ≡ k = grind (arith, nat_tests) in inr (ap Var same, refl)
    go false e = inl refl

left_meeting : (atoms : List Atom) (k : ℕ) (to : Term) → IsMeeting atoms (map (with_terms (replaced k to)) atoms) (Var k) to (replaced k to)
left_meeting atoms k to = record {
  whole = term_of_map (replaced k to) (λ text. refl) atoms;
  meets = replaced_same k to ∙ sym (replaced_itself k to);
  each = λ t. ⊎_elim (λ e. inl e) (λ h. inr (inl h)) (replaced_each k to t);
}

right_meeting : (atoms : List Atom) (k : ℕ) (to : Term) → IsMeeting atoms (map (with_terms (replaced k to)) atoms) to (Var k) (replaced k to)
right_meeting atoms k to = record {
  whole = term_of_map (replaced k to) (λ text. refl) atoms;
  meets = replaced_itself k to ∙ sym (replaced_same k to);
  each = λ t. ⊎_elim (λ e. inl e) (λ h. inr (inr h)) (replaced_each k to t);
}

still_meeting : (atoms : List Atom) (l r : Term) → l ≡ r → IsMeeting atoms atoms l r (λ t. t)
still_meeting atoms l r same = record { whole = λ o. refl; meets = same; each = λ t. inl refl }

met_left : (atoms next : List Atom) (l r : Term) → met atoms l r ≡ Some next → (f : Term → Term) × IsMeeting atoms next l r f
met_left atoms next (Var k) r e = (replaced k r, subst (λ n. IsMeeting atoms n (Var k) r (replaced k r)) (some_injective _ _ e) (left_meeting atoms k r))
met_left atoms next (Const a) (Var k) e = (replaced k (Const a), subst (λ n. IsMeeting atoms n (Const a) (Var k) (replaced k (Const a))) (some_injective _ _ e) (right_meeting atoms k (Const a)))
met_left atoms next (Const a) (Const b) e = go (pointwise nat_eq a b) (bytes_eq-Decides a b) e
  where
    go : (same : Bool) → Decides same (a ≡ b) → (if same then Some atoms else None) ≡ Some next → (f : Term → Term) × IsMeeting atoms next (Const a) (Const b) f
    go true d e = ((λ t. t), subst (λ n. IsMeeting atoms n (Const a) (Const b) (λ t. t)) (some_injective _ _ e) (still_meeting atoms (Const a) (Const b) (ap Const (d.0 refl))))
    go false d e = absurd (cc)

-- two terms that cannot be one are different constants
met_none : (atoms : List Atom) (l r : Term) → met atoms l r ≡ None → (a : List ℕ) × (b : List ℕ) × (a ≢ b) × (l ≡ Const a) × (r ≡ Const b)
met_none atoms (Var k) r e = absurd (cc)
met_none atoms (Const a) (Var k) e = absurd (cc)
met_none atoms (Const a) (Const b) e = (a, b, go (pointwise nat_eq a b) (bytes_eq-Decides a b) e, refl, refl)
  where
    go : (same : Bool) → Decides same (a ≡ b) → (if same then Some atoms else None) ≡ None → a ≢ b
    go true d e = absurd (cc)
    go false d e = λ same. let t : false ≡ true = d.1 same in absurd (cc)

module _ (schema : SchemaParts) (select : Select) where
  -- the column that a variable stands for
  abbrev pub column_of : ℕ → Operand
  column_of k = Column (k / 64) (k % 64)

  -- the operand that a term names
  abbrev pub named : Term → Operand
  named (Var k) = column_of k
  named (Const text) = Literal text

  -- each operand is joined with the one that its term names
  abbrev pub IsSound : List Atom → Type 0
  IsSound atoms = (o : Operand) → OperandFits schema select o → AreJoined select.conditions o (named (term_of atoms o))

  sound_step : (atoms next : List Atom) (f : Term → Term) (p q : Operand) → AreJoined select.conditions p q → OperandFits schema select p → OperandFits schema select q →
      IsMeeting atoms next (term_of atoms p) (term_of atoms q) f → IsSound atoms → IsSound next
  sound_step atoms next f p q pair p_fits q_fits is sound o fits =
      subst (λ t. AreJoined select.conditions o (named t)) (sym (is.whole o)) (⊎_elim
      (λ e. subst (λ t. AreJoined select.conditions o (named t)) (sym e) (sound o fits))
      (λ h. ⊎_elim (λ (at, becomes). via p q pair p_fits q_fits at becomes) (λ (at, becomes). via q p (turned pair) q_fits p_fits at becomes) h)
      (is.each (term_of atoms o)))
    where
      via : (p q : Operand) → AreJoined select.conditions p q → OperandFits schema select p → OperandFits schema select q → term_of atoms o ≡ term_of atoms p → f (term_of atoms o) ≡ term_of atoms q → AreJoined select.conditions o (named (f (term_of atoms o)))
      via p q pair p_fits q_fits at becomes =
          subst (λ t. AreJoined select.conditions o (named t)) (sym becomes) (chained
          (subst (λ t. AreJoined select.conditions o (named t)) at (sound o fits))
          (chained (turned (sound p p_fits)) (chained pair (sound q q_fits))))

  -- what is one term stays one term
  kept : (rest : List Condition) (atoms final : List Atom) (p q : Operand) → met_all atoms rest ≡ Some final → term_of atoms p ≡ term_of atoms q → term_of final p ≡ term_of final q
  kept [] atoms final p q e same = subst (λ a. term_of a p ≡ term_of a q) (some_injective _ _ e) same
  kept (condition ∷ rest) atoms final p q e same = go (met atoms (term_of atoms condition.left) (term_of atoms condition.right)) refl e (λ next e' s. kept rest next final p q e' s)
    where
      go : (found : Option (List Atom)) → met atoms (term_of atoms condition.left) (term_of atoms condition.right) ≡ found → met_on found (λ new. met_all new rest) ≡ Some final →
          ((next : List Atom) → met_all next rest ≡ Some final → term_of next p ≡ term_of next q → term_of final p ≡ term_of final q) → term_of final p ≡ term_of final q
      go None is e rec = absurd (cc)
      go (Some next) is e rec =
          let (f, meeting) = met_left atoms next (term_of atoms condition.left) (term_of atoms condition.right) is in
          rec next e (meeting.whole p ∙ ap f same ∙ sym (meeting.whole q))

  -- each condition is met in the end
  pub all_joined : (rest : List Condition) (atoms final : List Atom) → met_all atoms rest ≡ Some final → (condition : Condition) → Contains rest condition → term_of final condition.left ≡ term_of final condition.right
  all_joined [] atoms final e condition c = absurd (omega arith)
  all_joined (first ∷ rest) atoms final e condition c = go (met atoms (term_of atoms first.left) (term_of atoms first.right)) refl e (λ next e' c'. all_joined rest next final e' condition c')
    where
      go : (found : Option (List Atom)) → met atoms (term_of atoms first.left) (term_of atoms first.right) ≡ found → met_on found (λ new. met_all new rest) ≡ Some final →
          ((next : List Atom) → met_all next rest ≡ Some final → Contains rest condition → term_of final condition.left ≡ term_of final condition.right) → term_of final condition.left ≡ term_of final condition.right
      go None is e rec = absurd (cc)
      go (Some next) is e rec =
          let (f, meeting) = met_left atoms next (term_of atoms first.left) (term_of atoms first.right) is in
          let first_kept : term_of final first.left ≡ term_of final first.right = kept rest next final first.left first.right e (meeting.whole first.left ∙ meeting.meets ∙ sym (meeting.whole first.right)) in
          ⊎_elim (λ same. subst (λ (x : Condition). term_of final x.left ≡ term_of final x.right) same first_kept) (λ h. rec next e h) (contains_cases first rest condition c)

  -- the terms stay sound, and where there are none two literals clash
  pub all_sound : SelectFits schema select → (rest : List Condition) (atoms : List Atom) → ((condition : Condition) → Contains rest condition → Contains select.conditions condition) → IsSound atoms →
      MatchOption (met_all atoms rest) (Clashes select.conditions) (λ final. IsSound final)
  all_sound fits [] atoms among sound = sound
  all_sound fits (first ∷ rest) atoms among sound = go (met atoms (term_of atoms first.left) (term_of atoms first.right)) refl (λ next s. all_sound fits rest next (λ condition c. among condition (contains_there first rest condition c)) s)
    where
      here : Contains select.conditions first
      here = among first (contains_here first rest)

      go : (found : Option (List Atom)) → met atoms (term_of atoms first.left) (term_of atoms first.right) ≡ found → ((next : List Atom) → IsSound next → MatchOption (met_all next rest) (Clashes select.conditions) (λ final. IsSound final)) →
          MatchOption (met_on found (λ new. met_all new rest)) (Clashes select.conditions) (λ final. IsSound final)
      go None is rec =
          let (a, b, apart, left, right) = met_none atoms (term_of atoms first.left) (term_of atoms first.right) is in
          let both = fits.conditions first here in (
            a,
            b,
            apart,
            chained (turned (subst (λ t. AreJoined select.conditions first.left (named t)) left (sound first.left both.0)))
                (chained (given first here) (subst (λ t. AreJoined select.conditions first.right (named t)) right (sound first.right both.1))),
          )
      go (Some next) is rec =
          let (f, meeting) = met_left atoms next (term_of atoms first.left) (term_of atoms first.right) is in
          let both = fits.conditions first here in
          rec next (sound_step atoms next f first.left first.right (given first here) both.0 both.1 meeting sound)

  -- at the beginning each column has its own variable
  opening_at : (from : ℕ) (froms : List ℕ) (j rel : ℕ) → slice_get froms j ≡ Some rel → slice_get (opening_from schema.relations from froms) j ≡ Some (opened schema.relations (from + j) rel)
  opening_at from [] j rel e = absurd (cc)
  opening_at from (r ∷ froms) zero rel e = let same : r ≡ rel = some_injective r rel e in let zeroth : from ≡ from + 0 = omega arith in ap (λ r. Some (opened schema.relations from r)) same ∙ ap (λ n. Some (opened schema.relations n rel)) zeroth
  opening_at from (r ∷ froms) (suc j) rel e = let shift : from + 1 + j ≡ from + suc j = omega arith in opening_at (from + 1) froms j rel e ∙ ap (λ n. Some (opened schema.relations n rel)) shift

  pub opening_sound : AreNarrow schema.relations → IsSound (opening_from schema.relations 0 select.froms)
  opening_sound narrow (Literal text) fits = alike (Literal text)
  opening_sound narrow (Column from column) (rel, relation, got, got', below) =
      let zeroth : 0 + from ≡ from = omega arith in
      let few : column < 64 = omega (arith, narrow relation (contains_got schema.relations rel relation got')) in
      let at : term_of (opening_from schema.relations 0 select.froms) (Column from column) ≡ Var (from * 64 + column) =
      ap (λ found. term_in found column) (opening_at 0 select.froms from rel got)
      ∙ ap (λ n. or_empty (slice_get (map (λ c. Var (n * 64 + c)) (range_with_len 0 (width_of schema.relations rel))) column)) zeroth
      ∙ ap (λ found. or_empty (slice_get (map (λ c. Var (from * 64 + c)) (range_with_len 0 (width_in found))) column)) got'
      ∙ ap or_empty (map_got (λ c. Var (from * 64 + c)) (range_with_len 0 (length relation.columns)) column column (range_at (length relation.columns) column below)) in
      let whole : (from * 64 + column) / 64 ≡ from = div-mul-add from 64 column few in
      let part : (from * 64 + column) % 64 ≡ column = mod-mul-add from 64 column few in
      subst (λ t. AreJoined select.conditions (Column from column) (named t)) (sym at)
      (subst (λ n. AreJoined select.conditions (Column from column) (Column n ((from * 64 + column) % 64))) (sym whole)
      (subst (λ n. AreJoined select.conditions (Column from column) (Column from n)) (sym part) (alike (Column from column))))

  -- the atoms of the FROM items: one for each, of its relation and as wide
  abbrev pub Shapes : List ℕ → List Atom → Type 0
  Shapes froms atoms = AllZip (IsAtomFor schema) froms atoms

  pub opening_shaped : (from : ℕ) (froms : List ℕ) → ((rel : ℕ) → Contains froms rel → (relation : Relation) × (slice_get schema.relations rel ≡ Some relation)) → Shapes froms (opening_from schema.relations from froms)
  opening_shaped from [] fit = tt
  opening_shaped from (rel ∷ froms) fit =
      let (relation, got) = fit rel (contains_here rel froms) in
      let wide : length (map (λ c. Var (from * 64 + c)) (range_with_len 0 (width_of schema.relations rel))) ≡ length relation.columns = length-map-range_with_len (λ c. Var (from * 64 + c)) 0 (width_of schema.relations rel) ∙ ap width_in got in
      ((refl, record { relation = relation; there = got; width = wide }), opening_shaped (from + 1) froms (λ r c. fit r (contains_there rel froms r c)))

  pub shaped_map : (f : Term → Term) (froms : List ℕ) (atoms : List Atom) → Shapes froms atoms → Shapes froms (map (with_terms f) atoms)
  shaped_map f [] [] is = tt
  shaped_map f [] (atom ∷ atoms) is = absurd is
  shaped_map f (rel ∷ froms) [] is = absurd is
  shaped_map f (rel ∷ froms) (atom ∷ atoms) ((same, fit), is) = ((same, record { relation = fit.relation; there = fit.there; width = length-map atom.terms f ∙ fit.width }), shaped_map f froms atoms is)

  met_shaped : (atoms next : List Atom) (l r : Term) → met atoms l r ≡ Some next → Shapes select.froms atoms → Shapes select.froms next
  met_shaped atoms next (Var k) r e is = subst (λ n. Shapes select.froms n) (some_injective _ _ e) (shaped_map (replaced k r) select.froms atoms is)
  met_shaped atoms next (Const a) (Var k) e is = subst (λ n. Shapes select.froms n) (some_injective _ _ e) (shaped_map (replaced k (Const a)) select.froms atoms is)
  met_shaped atoms next (Const a) (Const b) e is = go (pointwise nat_eq a b) e
    where
      go : (same : Bool) → (if same then Some atoms else None) ≡ Some next → Shapes select.froms next
      go true e = subst (λ n. Shapes select.froms n) (some_injective _ _ e) is
      go false e = absurd (cc)

  pub all_shaped : (rest : List Condition) (atoms final : List Atom) → met_all atoms rest ≡ Some final → Shapes select.froms atoms → Shapes select.froms final
  all_shaped [] atoms final e is = subst (λ n. Shapes select.froms n) (some_injective _ _ e) is
  all_shaped (first ∷ rest) atoms final e is = go (met atoms (term_of atoms first.left) (term_of atoms first.right)) refl e (λ next e' s. all_shaped rest next final e' s)
    where
      go : (found : Option (List Atom)) → met atoms (term_of atoms first.left) (term_of atoms first.right) ≡ found → met_on found (λ new. met_all new rest) ≡ Some final →
          ((next : List Atom) → met_all next rest ≡ Some final → Shapes select.froms next → Shapes select.froms final) → Shapes select.froms final
      go None at e rec = absurd (cc)
      go (Some next) at e rec = rec next e (met_shaped atoms next (term_of atoms first.left) (term_of atoms first.right) at is)
