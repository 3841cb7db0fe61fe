-- The instance of a world by its numbers, and the columns of the partial rows: after some steps each has every number once.
use Rattle.std.proofs.Common.{◌≡◌, ◌⊎◌, ◌+◌, ◌-◌, ◌%◌, ◌<◌, ◌≤◌, ℕ, zero, suc, List, [], ◌∷◌, ◌++◌, length, slice_get, Some, refl, sym, ap, subst, ◌∙◌, inl, inr, ⊎_elim, append_assoc, arith}
use Rattle.std.specs.Prelude.{Contains, map, slice_index_or}
use Rattle.std.specs.List.{AllZip, AllByRecursion, range_with_len}
use Rattle.std.specs.Fmt.{decimal}
use Rattle.std.proofs.lemmas.Fmt.{decimal_injective}
use Rattle.std.proofs.lemmas.Nat.{mod_below}
use Rattle.std.proofs.lemmas.List.{append-nil, length-append, map-append}
use Rattle.std.proofs.lemmas.Option.{slice_get_within}
use Rattle.tgd_reader.proofs.Plain.{all_appended}
use Rattle.lists.proofs.Members.{contains_got, contains_here, contains_there, contains_map, contains_mapped, contains_joined, joined_from, all_member, got_below, got_before, map_got, some_injective, got_mapped}
use Rattle.meaning.specs.declared.types.Method.{Method}
use Rattle.meaning.specs.declared.types.Fact.{Fact}
use Rattle.meaning.specs.declared.types.Step.{Step}
use Rattle.meaning.specs.declared.types.Place.{Place}
use Rattle.meaning.specs.declared.types.Place.TheVariants.{Const, Col, New}
use Rattle.meaning.specs.declared.types.Out.{Out}
use Rattle.meaning.specs.declared.types.Out.TheVariants.{Col as Made, Const as Fixed}
use Rattle.meaning.specs.declared.types.Branch.{Branch}
use Rattle.meaning.specs.Values.{Value, Row}
use Rattle.meaning.specs.Plans.{IsMethod, made, AreLawfulPlaces, IsLawfulOut, IsLawfulStep, AreLawfulFrom}
use Rattle.meaning.specs.Rows.{Joins, StepsTo, LeadsTo, IsOut, IsBranchRow}
use Rattle.world_source.specs.Formulas.{row_of, rows_of}
use Rattle.access_schema.specs.Names.{AllDiffer}
use Rattle.world_source.proofs.Rounds.{leads, lead_apart}
use Rattle.meaning.specs.Answers.{AnswersSelect}
use Rattle.world_laws.specs.World.{world_select}
use Rattle.world_laws.specs.Plan.{world}
use Rattle.world_laws.specs.Instance.{facts_of, world_facts}
use Rattle.world_laws.proofs.Paths.{edge, IsPath, ends_answer, inputs_at, IsOwn, own, two_columns, col_joins, new_joins, edge_of}
use Rattle.world_laws.proofs.Counting.{AreLater, named_one}
use Rattle.world_laws.proofs.Chases.{range_bounds, range_got, range_so}
use Rattle.world_laws.proofs.Models.{IsChain}

module _ (n : ℕ) (some : 1 ≤ n) (few : n ≤ 10000) where
  -- the number that a relation leads to
  abbrev pub on : ℕ → ℕ → ℕ
  on rel i = (i + (rel + 1)) % n

  pub on_below : (rel i : ℕ) → on rel i < n
  on_below rel i = mod_below (i + (rel + 1)) n some

  pub number_once : (i j : ℕ) → i < n → j < n → decimal i ≡ decimal j → i ≡ j
  number_once i j low high e = decimal_injective i j (omega (arith, low, few)) (omega (arith, high, few)) e

  -- a fact of the instance
  pub record IsNumbered (fact : Fact) : Type 0 where
    pub rel : ℕ
    pub i : ℕ
    pub few_rel : rel < 8
    pub below : i < n
    pub fact_is : fact ≡ edge rel (decimal i) (decimal (on rel i))

  pub found : (fact : Fact) → Contains (world_facts n) fact → IsNumbered fact
  found fact there =
      let (k, ranged, among) = joined_from (facts_of n) (range_with_len 1 8) fact there in
      let bounds = range_bounds 1 8 k ranged in
      let low = bounds.0 in
      let high = bounds.1 in
      let make : Row → Fact = λ row. record { rel = k - 1; row = row } in
      let (row, in_rows, is) = contains_mapped make (rows_of k n) fact among in
      let (i, numbered, is_row) = contains_mapped (row_of k n) (range_with_len 0 n) row in_rows in
      let below = (range_bounds 0 n i numbered).1 in
      let step : k ≡ k - 1 + 1 = omega (arith, low) in
      record {
        rel = k - 1;
        i = i;
        few_rel = omega (arith, low, high);
        below = omega (arith, below);
        fact_is = sym is ∙ ap make (sym is_row) ∙ ap (λ m. edge (k - 1) (decimal i) (decimal ((i + m) % n))) step;
      }

  pub edge_there : (rel i : ℕ) → rel < 8 → i < n → Contains (world_facts n) (edge rel (decimal i) (decimal (on rel i)))
  edge_there rel i low below =
      let k : ℕ = rel + 1 in
      let e : 1 + rel ≡ rel + 1 = omega arith in
      let f : 0 + i ≡ i = omega arith in
      let make : Row → Fact = λ row. record { rel = rel + 1 - 1; row = row } in
      let row : Contains (rows_of (rel + 1) n) (row_of (rel + 1) n i) = contains_map (row_of (rel + 1) n) (range_with_len 0 n) i (contains_got (range_with_len 0 n) i i (range_got 0 n i below ∙ ap Some f)) in
      let there : Contains (facts_of n (rel + 1)) (make (row_of (rel + 1) n i)) = contains_map make (rows_of (rel + 1) n) (row_of (rel + 1) n i) row in
      let back : rel + 1 - 1 ≡ rel = omega arith in
      contains_joined (facts_of n) (range_with_len 1 8) (rel + 1) (edge rel (decimal i) (decimal (on rel i))) (contains_got (range_with_len 1 8) rel (rel + 1) (range_got 1 8 rel low ∙ ap Some e))
      (subst (λ r. Contains (facts_of n (rel + 1)) (edge r (decimal i) (decimal (on rel i)))) back there)

  -- where an edge from a number ends
  pub edge_ends : (rel i : ℕ) (a b : Value) → i < n → a ≡ decimal i → Contains (world_facts n) (edge rel a b) → b ≡ decimal (on rel i)
  edge_ends rel i a b below is there =
      let numbered = found (edge rel a b) there in
      let same_rel : rel ≡ numbered.rel = ap (λ (f : Fact). f.rel) numbered.fact_is in
      let same : i ≡ numbered.i = number_once i numbered.i below numbered.below (sym is ∙ ap (λ (f : Fact). slice_index_or f.row 0 []) numbered.fact_is) in
      ap (λ (f : Fact). slice_index_or f.row 1 []) numbered.fact_is ∙ ap (λ r. decimal (on r numbered.i)) (sym same_rel) ∙ ap (λ j. decimal (on rel j)) (sym same)

  pub chain : IsChain (world_facts n)
  chain = record {
    edges = λ fact there. let numbered = found fact there in (numbered.rel, decimal numbered.i, decimal (on numbered.rel numbered.i), numbered.few_rel, numbered.fact_is);
    goes_on = λ rel a b low there.
        let numbered = found (edge rel a b) there in
        let j : ℕ = on numbered.rel numbered.i in
        let end : b ≡ decimal j = ap (λ (f : Fact). slice_index_or f.row 1 []) numbered.fact_is in
        (decimal (on (rel + 1) j), subst (λ (v : Value). Contains (world_facts n) (edge (rel + 1) v (decimal (on (rel + 1) j)))) (sym end) (edge_there (rel + 1) j (omega (arith, low)) (on_below numbered.rel numbered.i)));
  }

  -- the numbers, each once
  unfoldable pub numbers : List Value
  numbers = map decimal (range_with_len 0 n)

  pub numbers_differ : AllDiffer numbers
  unfolding numbers
  numbers_differ i j member at_i at_j =
      let (one, got_one, is_one) = got_mapped decimal (range_with_len 0 n) i member at_i in
      let (two, got_two, is_two) = got_mapped decimal (range_with_len 0 n) j member at_j in
      let (first, low) = range_so 0 n i one got_one in
      let (second, high) = range_so 0 n j two got_two in
      let same = number_once one two (omega (arith, first, low)) (omega (arith, second, high)) (is_one ∙ sym is_two) in
      omega (arith, first, second, same)

  -- ---- columns

  -- a column has each number once
  pub record IsTurn (col : ℕ → ℕ) : Type 0 where
    pub below : (i : ℕ) → i < n → col i < n
    pub apart : (i j : ℕ) → i < n → j < n → col i ≡ col j → i ≡ j
    pub onto : (m : ℕ) → m < n → (i : ℕ) × (i < n) × (col i ≡ m)

  pub turn_on : (rel : ℕ) (col : ℕ → ℕ) → IsTurn col → IsTurn (λ i. on rel (col i))
  turn_on rel col turn = record {
    below = λ i low. on_below rel (col i);
    apart = λ i j low high same. turn.apart i j low high (lead_apart (rel + 1) n some (col i) (col j) (turn.below i low) (turn.below j high) same);
    onto = λ m low.
        let back : ℕ = (m + n - (rel + 1) % n) % n in
        let (i, below, is) = turn.onto back (mod_below (m + n - (rel + 1) % n) n some) in
        (i, below, ap (on rel) is ∙ leads (rel + 1) n some m low);
  }

  pub turn_self : IsTurn (λ i. i)
  turn_self = record { below = λ i low. low; apart = λ i j low high same. same; onto = λ m low. (m, low, refl) }

  -- ---- partial rows

  abbrev pub row_at : List (ℕ → ℕ) → ℕ → Row
  row_at cols i = map (λ col. decimal (col i)) cols

  -- The partial rows after some steps are each the numbers of the columns at some number, of which the first is that number itself.
  pub record IsAt (before : List Step) (cols : List (ℕ → ℕ)) : Type 0 where
    pub turns : AllByRecursion IsTurn cols
    pub first : slice_get cols 0 ≡ Some (λ i. i)
    pub rows : (row : Row) → LeadsTo world (world_facts n) before [] row → (i : ℕ) × (i < n) × (row ≡ row_at cols i)

  pub leads_split : (before steps : List Step) (row last : Row) → LeadsTo world (world_facts n) (before ++ steps) row last → (middle : Row) × LeadsTo world (world_facts n) before row middle × LeadsTo world (world_facts n) steps middle last
  leads_split [] steps row last all = (row, refl, all)
  leads_split (step ∷ before) steps row last (next, taken, more) =
      let (middle, first, rest) = leads_split before steps next last more in
      (middle, (next, taken, first), rest)

  pub turn_got : (cols : List (ℕ → ℕ)) (c : ℕ) (col : ℕ → ℕ) → AllByRecursion IsTurn cols → slice_get cols c ≡ Some col → IsTurn col
  turn_got cols c col turns at = all_member IsTurn cols col turns (contains_got cols c col at)

  pub col_got : (cols : List (ℕ → ℕ)) (c i : ℕ) (col : ℕ → ℕ) (v : Value) → slice_get cols c ≡ Some col → slice_get (row_at cols i) c ≡ Some v → v ≡ decimal (col i)
  col_got cols c i col v at got = some_injective v (decimal (col i)) (sym got ∙ map_got (λ (g : ℕ → ℕ). decimal (g i)) cols c col at)

  -- the places of a step by a method with an input
  pub record IsLaterShape (columns : ℕ) (places : List Place) : Type 0 where
    pub c : ℕ
    pub low : c < columns
    pub second : (places ≡ Col c ∷ New ∷ []) ⊎ ((d : ℕ) × (places ≡ Col c ∷ Col d ∷ []))

  later_shape : (columns : ℕ) (places : List Place) → length places ≡ 2 → AreLawfulPlaces [] (0 ∷ []) columns 0 columns places → IsLaterShape columns places
  later_shape columns [] two lawful = absurd (omega (arith, two))
  later_shape columns (Const v ∷ places) two lawful = absurd (let none = lawful.0 in omega arith)
  later_shape columns (New ∷ places) two lawful = absurd (lawful.0 (contains_here 0 []))
  later_shape columns (Col c ∷ []) two lawful = absurd (omega (arith, two))
  later_shape columns (Col c ∷ Const v ∷ places) two lawful = absurd (let none = lawful.2.0 in omega arith)
  later_shape columns (Col c ∷ New ∷ []) two lawful = record { c = c; low = lawful.0; second = inl refl }
  later_shape columns (Col c ∷ Col d ∷ []) two lawful = record { c = c; low = lawful.0; second = inr (d, refl) }
  later_shape columns (Col c ∷ New ∷ p ∷ places) two lawful = absurd (omega (arith, two))
  later_shape columns (Col c ∷ Col d ∷ p ∷ places) two lawful = absurd (omega (arith, two))

  pub inputs_later : (method : Method) → IsOwn method → 1 ≤ method.rel → method.inputs ≡ 0 ∷ []
  inputs_later method is later = go method.rel is.inputs later
    where
      go : (rel : ℕ) → method.inputs ≡ inputs_at rel → 1 ≤ rel → method.inputs ≡ 0 ∷ []
      go zero inputs later = absurd (omega (arith, later))
      go (suc rel) inputs later = inputs

  pub shape_of : (columns : ℕ) (step : Step) (method : Method) → IsLawfulStep world [] columns step method → 1 ≤ method.rel → IsLaterShape columns step.places
  shape_of columns step method lawful later =
      let is = own method lawful.named.0 in
      later_shape columns step.places (lawful.arity.width ∙ two_columns method.rel lawful.arity.relation lawful.arity.there)
      (subst (λ (inputs : List ℕ). AreLawfulPlaces [] inputs columns 0 columns step.places) (inputs_later method is later) lawful.places)

  cols_joins : (c d : ℕ) (values row next : Row) → Joins (Col c ∷ Col d ∷ []) values row next → next ≡ row
  cols_joins c d [] row next joins = absurd joins
  cols_joins c d (a ∷ []) row next joins = absurd joins.1
  cols_joins c d (a ∷ b ∷ []) row next joins = joins.1.1
  cols_joins c d (a ∷ b ∷ e ∷ values) row next joins = absurd joins.1.1

  -- a later step leads on from each partial row in one way
  pub record IsNext (before : List Step) (cols : List (ℕ → ℕ)) (step : Step) : Type 0 where
    pub after : List (ℕ → ℕ)
    pub long : length after ≡ made (length cols) step.places
    pub at : IsAt (before ++ step ∷ []) after

  module _ (before : List Step) (cols : List (ℕ → ℕ)) (is_at : IsAt before cols) (step : Step) (method : Method) (lawful : IsLawfulStep world [] (length cols) step method) (later : 1 ≤ method.rel) where
    -- what follows a partial row
    follows : (row : Row) → LeadsTo world (world_facts n) (before ++ step ∷ []) [] row → (i : ℕ) × (i < n) × StepsTo world (world_facts n) step (row_at cols i) row
    follows row all =
        let (middle, first, (next, taken, is)) = leads_split before (step ∷ []) [] row all in
        let (i, low, row_is) = is_at.rows middle first in
        (i, low, subst (λ (r : Row). StepsTo world (world_facts n) step (row_at cols i) r) (sym is) (subst (λ (m : Row). StepsTo world (world_facts n) step m next) row_is taken))

    step_new : (c : ℕ) (col : ℕ → ℕ) → slice_get cols c ≡ Some col → step.places ≡ Col c ∷ New ∷ [] → IsNext before cols step
    step_new c col at places =
        let turn = turn_got cols c col is_at.turns at in
        let new : ℕ → ℕ = λ i. on method.rel (col i) in
        record {
          after = cols ++ new ∷ [];
          long = length-append cols (new ∷ []) ∙ ap (made (length cols)) (sym places);
          at = record {
            turns = all_appended IsTurn cols (new ∷ []) is_at.turns (turn_on method.rel col turn, tt);
            first = got_before cols (new ∷ []) 0 (slice_get_within cols 0 (λ i. i) is_at.first) ∙ is_at.first;
            rows = λ row all.
                let (i, low, taken) = follows row all in
                let (a, b, fact_row, got, row_is) = col_joins c taken.fact.row (row_at cols i) row (subst (λ (ps : List Place). Joins ps taken.fact.row (row_at cols i) row) places taken.joins) in
                let same : taken.method.rel ≡ method.rel = named_one step.method taken.method method taken.named lawful.named in
                let there : Contains (world_facts n) (edge method.rel a b) = edge_of (world_facts n) method.rel taken.fact a b taken.holds (taken.of_relation ∙ same) fact_row in
                let from : a ≡ decimal (col i) = col_got cols c i col a at got in
                let to : b ≡ decimal (new i) = edge_ends method.rel (col i) a b (turn.below i low) from there in
                (i, low, row_is ∙ ap (λ (v : Value). row_at cols i ++ v ∷ []) to ∙ sym (map-append (λ (g : ℕ → ℕ). decimal (g i)) cols (new ∷ [])));
          };
        }

    step_old : (c d : ℕ) → step.places ≡ Col c ∷ Col d ∷ [] → IsNext before cols step
    step_old c d places = record {
      after = cols;
      long = ap (made (length cols)) (sym places);
      at = record {
        turns = is_at.turns;
        first = is_at.first;
        rows = λ row all.
            let (i, low, taken) = follows row all in
            (i, low, cols_joins c d taken.fact.row (row_at cols i) row (subst (λ (ps : List Place). Joins ps taken.fact.row (row_at cols i) row) places taken.joins));
      };
    }

    pub step_at : IsNext before cols step
    step_at =
        let shape = shape_of (length cols) step method lawful later in
        let (col, at) = got_below cols shape.c shape.low in
        ⊎_elim (λ new. step_new shape.c col at new) (λ old. step_old shape.c old.0 old.1) shape.second

  -- ---- all steps

  pub made_first : (step : Step) (method : Method) → IsLawfulStep world [] 0 step method → method.rel ≡ 0 → (cols : List (ℕ → ℕ)) × IsAt (step ∷ []) cols × (length cols ≡ made 0 step.places)
  made_first step method lawful nought = shape step.places refl (lawful.arity.width ∙ two_columns method.rel lawful.arity.relation lawful.arity.there) places
    where
      places : AreLawfulPlaces [] [] 0 0 0 step.places
      places = subst (λ (inputs : List ℕ). AreLawfulPlaces [] inputs 0 0 0 step.places) ((own method lawful.named.0).inputs ∙ ap inputs_at nought) lawful.places

      taken_first : (row : Row) → LeadsTo world (world_facts n) (step ∷ []) [] row → StepsTo world (world_facts n) step [] row
      taken_first row (next, taken, is) = subst (λ (r : Row). StepsTo world (world_facts n) step [] r) (sym is) taken

      rel_first : (other : Method) → IsMethod world step.method other → other.rel ≡ 0
      rel_first other named = named_one step.method other method named lawful.named ∙ nought

      whole : step.places ≡ New ∷ New ∷ [] → IsAt (step ∷ []) ((λ i. i) ∷ (λ i. on 0 i) ∷ [])
      whole is = record {
        turns = (turn_self, (turn_on 0 (λ i. i) turn_self, tt));
        first = refl;
        rows = λ row all.
            let taken = taken_first row all in
            let (a, b, fact_row, row_is) = new_joins taken.fact.row [] row (subst (λ (ps : List Place). Joins ps taken.fact.row [] row) is taken.joins) in
            let there : Contains (world_facts n) (edge 0 a b) = edge_of (world_facts n) 0 taken.fact a b taken.holds (taken.of_relation ∙ rel_first taken.method taken.named) fact_row in
            let numbered = found (edge 0 a b) there in
            let from : a ≡ decimal numbered.i = ap (λ (f : Fact). slice_index_or f.row 0 []) numbered.fact_is in
            let to : b ≡ decimal (on 0 numbered.i) = edge_ends 0 numbered.i a b numbered.below from there in
            (numbered.i, numbered.below, row_is ∙ ap (λ (v : Value). v ∷ b ∷ []) from ∙ ap (λ (v : Value). decimal numbered.i ∷ v ∷ []) to);
      }

      single_joins : (d : ℕ) (values next : Row) → Joins (New ∷ Col d ∷ []) values [] next → (a : Value) × (b : Value) × (values ≡ a ∷ b ∷ []) × (next ≡ a ∷ [])
      single_joins d [] next joins = absurd joins
      single_joins d (a ∷ []) next joins = absurd joins
      single_joins d (a ∷ b ∷ []) next joins = (a, b, refl, joins.1)
      single_joins d (a ∷ b ∷ e ∷ values) next joins = absurd joins.1

      single : (d : ℕ) → step.places ≡ New ∷ Col d ∷ [] → IsAt (step ∷ []) ((λ i. i) ∷ [])
      single d is = record {
        turns = (turn_self, tt);
        first = refl;
        rows = λ row all.
            let taken = taken_first row all in
            let (a, b, fact_row, row_is) = single_joins d taken.fact.row row (subst (λ (ps : List Place). Joins ps taken.fact.row [] row) is taken.joins) in
            let there : Contains (world_facts n) (edge 0 a b) = edge_of (world_facts n) 0 taken.fact a b taken.holds (taken.of_relation ∙ rel_first taken.method taken.named) fact_row in
            let numbered = found (edge 0 a b) there in
            let from : a ≡ decimal numbered.i = ap (λ (f : Fact). slice_index_or f.row 0 []) numbered.fact_is in
            (numbered.i, numbered.below, row_is ∙ ap (λ (v : Value). v ∷ []) from);
      }

      shape : (ps : List Place) → step.places ≡ ps → length step.places ≡ 2 → AreLawfulPlaces [] [] 0 0 0 step.places → (cols : List (ℕ → ℕ)) × IsAt (step ∷ []) cols × (length cols ≡ made 0 step.places)
      shape ps is two lawful = go ps is (sym (ap length is) ∙ two) (subst (AreLawfulPlaces [] [] 0 0 0) is lawful)
        where
          go : (ps : List Place) → step.places ≡ ps → length ps ≡ 2 → AreLawfulPlaces [] [] 0 0 0 ps → (cols : List (ℕ → ℕ)) × IsAt (step ∷ []) cols × (length cols ≡ made 0 step.places)
          go [] is two lawful = absurd (omega (arith, two))
          go (Const v ∷ ps) is two lawful = absurd (let none = lawful.0 in omega arith)
          go (Col c ∷ ps) is two lawful = absurd (let none = lawful.0 in omega (arith, none))
          go (New ∷ []) is two lawful = absurd (omega (arith, two))
          go (New ∷ Const v ∷ ps) is two lawful = absurd (let none = lawful.1.0 in omega arith)
          go (New ∷ New ∷ []) is two lawful = ((λ i. i) ∷ (λ i. on 0 i) ∷ [], whole is, ap (made 0) (sym is))
          go (New ∷ Col d ∷ []) is two lawful = ((λ i. i) ∷ [], single d is, ap (made 0) (sym is))
          go (New ∷ New ∷ p ∷ ps) is two lawful = absurd (omega (arith, two))
          go (New ∷ Col d ∷ p ∷ ps) is two lawful = absurd (omega (arith, two))

  -- the columns after some more steps
  pub record IsEnd (steps : List Step) (output : List Out) : Type 0 where
    pub cols : List (ℕ → ℕ)
    pub at : IsAt steps cols
    pub lawful : (out : Out) → Contains output out → IsLawfulOut [] (length cols) out

  pub steps_at : (steps before : List Step) (cols : List (ℕ → ℕ)) (output : List Out) → IsAt before cols → AreLawfulFrom world [] (length cols) steps output → AreLater steps → IsEnd (before ++ steps) output
  steps_at [] before cols output is_at lawful later = subst (λ (steps : List Step). IsEnd steps output) (sym (append-nil before)) (record { cols = cols; at = is_at; lawful = lawful })
  steps_at (step ∷ steps) before cols output is_at (method, own_lawful, more) later =
      let next = step_at before cols is_at step method own_lawful (later step method (contains_here step steps) own_lawful.named) in
      let rest = steps_at steps (before ++ step ∷ []) next.after output next.at (subst (λ columns. AreLawfulFrom world [] columns steps output) (sym next.long) more) (λ other its there named. later other its (contains_there step steps other there) named) in
      subst (λ (all : List Step). IsEnd all output) (append_assoc before (step ∷ []) steps) rest

  -- each number goes through all relations
  pub path_on : (count rel i : ℕ) → rel + count ≤ 8 → i < n → (m : ℕ) × IsPath (world_facts n) rel count (decimal i) (decimal m)
  path_on zero rel i low below = (i, refl)
  path_on (suc count) rel i low below =
      let (m, path) = path_on count (rel + 1) (on rel i) (omega (arith, low)) (on_below rel i) in
      (m, (decimal (on rel i), edge_there rel i (omega (arith, low)) below, path))

  -- Some row of all the steps begins with each number.
  abbrev pub IsWhole : List Step → Type 0
  IsWhole steps = (t : ℕ) → t < n → (last : Row) × LeadsTo world (world_facts n) steps [] last × (slice_get last 0 ≡ Some (decimal t))

  module _ (branch : Branch) (complete : (row : Row) → AnswersSelect world_select (world_facts n) row → IsBranchRow world branch (world_facts n) row) (end : IsEnd branch.steps branch.output) where
    out_column : (output : List Out) → ((out : Out) → Contains output out → IsLawfulOut [] (length end.cols) out) → 1 ≤ length output → (c : ℕ) × (c < length end.cols) × ((last : Row) (row : Row) (v : Value) → AllZip (IsOut last) output (v ∷ row) → slice_get last c ≡ Some v)
    out_column [] lawful long = absurd (omega (arith, long))
    out_column (Fixed x ∷ output) lawful long = absurd (let none = lawful (Fixed x) (contains_here (Fixed x) output) in omega arith)
    out_column (Made c ∷ output) lawful long = (c, lawful (Made c) (contains_here (Made c) output), λ last row v outs. outs.0)

    answered : (i : ℕ) → i < n → (w : Value) × IsBranchRow world branch (world_facts n) (decimal i ∷ w ∷ [])
    answered i low =
        let (m, path) = path_on 8 0 i (omega arith) low in
        (decimal m, complete (decimal i ∷ decimal m ∷ []) (ends_answer (world_facts n) (decimal i ∷ decimal m ∷ []) (decimal i, decimal m, path, refl)))

    some_out : 1 ≤ length branch.output
    some_out = go branch.output ((answered 0 (omega (arith, some))).1.2)
      where
        go : (output : List Out) → AllZip (IsOut (answered 0 (omega (arith, some))).1.0) output (decimal 0 ∷ (answered 0 (omega (arith, some))).0 ∷ []) → 1 ≤ length output
        go [] outs = absurd outs
        go (out ∷ output) outs = omega arith

    pub branch_whole : IsWhole branch.steps
    branch_whole t low =
        let (c, below, out) = out_column branch.output end.lawful some_out in
        let (col, at) = got_below end.cols c below in
        let turn = turn_got end.cols c col end.at.turns at in
        let (w, (last, all, outs)) = answered (col t) (turn.below t low) in
        let (i, high, row_is) = end.at.rows last all in
        let shown : slice_get last c ≡ Some (decimal (col t)) = out last (w ∷ []) (decimal (col t)) outs in
        let same : decimal (col t) ≡ decimal (col i) = col_got end.cols c i col (decimal (col t)) at (sym (ap (λ (r : Row). slice_get r c) row_is) ∙ shown) in
        let is : t ≡ i = turn.apart t i low high (number_once (col t) (col i) (turn.below t low) (turn.below i high) same) in
        (last, all, ap (λ (r : Row). slice_get r 0) row_is ∙ map_got (λ (g : ℕ → ℕ). decimal (g i)) end.cols 0 (λ i. i) end.at.first ∙ ap (λ j. Some (decimal j)) (sym is))
