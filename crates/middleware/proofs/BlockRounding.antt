-- The round of a step over blocks, and the outputs of blocks.
use Rattle.std.proofs.Common.{◌≡◌, ◌↔◌, inl, inr, ⊎_elim, ℕ, zero, suc, ◌+◌, ◌<◌, ◌≤◌, List, [], ◌∷◌, ◌++◌, length, map, take, get_or, Option, Some, Bool, true, nat_eq, refl, sym, ◌∙◌, ap, subst, arith}
use Rattle.std.specs.Prelude.{Contains, slice_get}
use Rattle.std.specs.List.{AllZip}
use Rattle.std.proofs.lemmas.Bool.Decides.{nat_tests}
use Rattle.std.proofs.lemmas.List.{map-append, take_more}
use Rattle.lists.proofs.Members.{contains_here, contains_there, contains_cases, contains_mapped, map_got, map_same, contains_none}
use Rattle.lists.proofs.Booleans.{cond_true}
use Rattle.meaning.specs.declared.types.Fact.{Fact}
use Rattle.meaning.specs.declared.types.Method.{Method}
use Rattle.meaning.specs.declared.types.Place.{Place}
use Rattle.meaning.specs.declared.types.Place.TheVariants.{Const, Col, New}
use Rattle.meaning.specs.declared.types.Out.{Out}
use Rattle.meaning.specs.declared.types.Out.TheVariants.{Const as Fixed, Col as Made}
use Rattle.meaning.specs.declared.types.Step.{Step}
use Rattle.meaning.specs.declared.types.Request.{Request}
use Rattle.meaning.specs.Plans.{made, IsWellFormed, IsMethod}
use Rattle.meaning_laws.proofs.Conjoining.{range_at}
use Rattle.meaning_laws.proofs.Frozen.{made_grows}
use Rattle.access_schema.specs.declared.schema.Schema.{Schema}
use Rattle.access_schema.specs.Meaning.{meaning_of}
use Rattle.source_trait.specs.Asking.{RowList, pick}
use Rattle.middleware.specs.Asked.{HasConstant, IsStepRequest}
use Rattle.middleware.specs.Joining.{input_row_of, input_value_or, text_or}
use Rattle.middleware.specs.Rounds.{requests_of, IsWanted, next_rows}
use Rattle.middleware.specs.Live.{is_named, is_shown, is_live}
use Rattle.middleware.specs.Naming.{Texts, AreAsked, IsLocal}
use Rattle.middleware.specs.Blocks.{HasColumn, AreTables, HaveLive, AreBlocks, Gathers}
use Rattle.middleware.specs.Branches.{HasAdded, IsInput, IsReady, IsReadyOut, out_value, output_of}
use Rattle.middleware.specs.BlockRounds.{Asks, Checks, out_of, AddsOutputs}
use Rattle.middleware.specs.declared.blocks.Block.{Block}
use Rattle.middleware.specs.declared.block_round.Asking.{Asking}
use Rattle.middleware.proofs.Blocking.{OfNames, names_below, local_from}
use Rattle.middleware.proofs.BlockSteps.{first_columns, has_asked, asks_same, tables_next, live_next, blocks_next, same_images}
use Rattle.middleware.proofs.Branching.{inputs_for}

-- ---- places and live columns

pub named_at : (places : List Place) (p k : ℕ) → slice_get places p ≡ Some (Col k) → is_named places k ≡ true
named_at [] p k e = absurd (cc)
named_at (Const c ∷ places) zero k e = absurd (cc)
named_at (Const c ∷ places) (suc p) k e = named_at places p k e
named_at (Col j ∷ places) zero k e =
    let same : j ≡ k = cc in
    let test : nat_eq j k ≡ true = grind (arith, nat_tests) in
    rw test refl
named_at (Col j ∷ places) (suc p) k e = cond_true (nat_eq j k) (is_named places k) (named_at places p k e)
named_at (New ∷ places) zero k e = absurd (cc)
named_at (New ∷ places) (suc p) k e = named_at places p k e

-- each column that a place names, of those before the step, is live
pub places_live : (n m : ℕ) → n ≤ m → (P : ℕ → Type 0) (places : List Place) → ((k : ℕ) → is_named places k ≡ true → P k) → OfNames (λ k. k < n → P k) m places
places_live n m more P [] are = tt
places_live n m more P (Const c ∷ places) are = places_live n m more P places are
places_live n m more P (Col j ∷ places) are = (
  (λ l. let test : nat_eq j j ≡ true = grind (arith, nat_tests) in are j (rw test refl)),
  places_live n m more P places (λ k is. are k (cond_true (nat_eq j k) (is_named places k) is)),
)
places_live n m more P (New ∷ places) are = ((λ l. absurd (omega (arith, l, more))), places_live n (m + 1) (omega (arith, more)) P places are)

-- a constant at an input place is one of the table's place, too
local_constant : (row : List (List ℕ)) (columns : List ℕ) (n : ℕ) (places locals : List Place) (after : List ℕ) (p began : ℕ) → IsLocal columns n places locals after → IsInput began (slice_get places p)
    → HasConstant (slice_get places p) (input_value_or row (slice_get locals p))
local_constant row columns n [] locals after p began i h = absurd h
local_constant row columns n (Const a ∷ places) [] after p began i h = absurd i
local_constant row columns n (Const a ∷ places) (Const b ∷ locals) after zero began i h = i.0
local_constant row columns n (Const a ∷ places) (Const b ∷ locals) after (suc p) began i h = local_constant row columns n places locals after p began i.1 h
local_constant row columns n (Const a ∷ places) (Col b ∷ locals) after p began i h = absurd i
local_constant row columns n (Const a ∷ places) (New ∷ locals) after p began i h = absurd i
local_constant row columns n (Col a ∷ places) [] after p began i h = absurd i
local_constant row columns n (Col a ∷ places) (Const b ∷ locals) after p began i h = absurd i
local_constant row columns n (Col a ∷ places) (Col b ∷ locals) after zero began i h = tt
local_constant row columns n (Col a ∷ places) (Col b ∷ locals) after (suc p) began i h = local_constant row columns n places locals after p began i.1 h
local_constant row columns n (Col a ∷ places) (New ∷ locals) after zero began i h = tt
local_constant row columns n (Col a ∷ places) (New ∷ locals) after (suc p) began i h = local_constant row (columns ++ a ∷ []) n places locals after p began i.1 h
local_constant row columns n (New ∷ places) [] after p began i h = absurd i
local_constant row columns n (New ∷ places) (Const b ∷ locals) after p began i h = absurd i
local_constant row columns n (New ∷ places) (Col b ∷ locals) after p began i h = absurd i
local_constant row columns n (New ∷ places) (New ∷ locals) after zero began i h = absurd h
local_constant row columns n (New ∷ places) (New ∷ locals) after (suc p) began i h = local_constant row (columns ++ n ∷ []) (n + 1) places locals after p began i h

pub constants_of : (row : List (List ℕ)) (columns : List ℕ) (n : ℕ) (places locals : List Place) (after : List ℕ) (began : ℕ) (inputs : List ℕ) → IsLocal columns n places locals after
    → ((p : ℕ) → Contains inputs p → IsInput began (slice_get places p)) → AllZip (λ p value. HasConstant (slice_get places p) value) inputs (input_row_of locals inputs row)
constants_of row columns n places locals after began [] i are = tt
constants_of row columns n places locals after began (p ∷ inputs) i are =
    (local_constant row columns n places locals after p began i (are p (contains_here p inputs)), constants_of row columns n places locals after began inputs i (λ q c. are q (contains_there p inputs q c)))

-- ---- the round of a step

module _ (schema : Schema) (well : IsWellFormed (meaning_of schema)) (step : Step) (steps : List Step) (outs : List Out) (n : ℕ) (blocks : List Block)
    (ready : IsReady (meaning_of schema) n step) (have : HaveLive (is_live (step ∷ steps) outs) n blocks) where
  abbrev live : ℕ → Bool
  live = is_live (step ∷ steps) outs

  named_live : (k : ℕ) → is_named step.places k ≡ true → live k ≡ true
  named_live k named = rw named refl

  less_live : (k : ℕ) → is_live steps outs k ≡ true → live k ≡ true
  less_live k is = cond_true (is_named step.places k) (is_live steps outs k) is

  names_live : OfNames (λ k. k < n → live k ≡ true) n step.places
  names_live = places_live n n (omega arith) (λ k. live k ≡ true) step.places named_live

  module _ (method : Method) (named : IsMethod (meaning_of schema) step.method method) (asking : Asking) (a : Asks step method.inputs n blocks asking) where
    known : (p : ℕ) → Contains method.inputs p → IsInput n (slice_get step.places p)
    known = inputs_for (meaning_of schema) well n step method named ready

    input_live : (p k : ℕ) → Contains method.inputs p → slice_get step.places p ≡ Some (Col k) → (k < n) × (live k ≡ true)
    input_live p k c e = (subst (λ (o : Option Place). IsInput n o) e (known p c), named_live k (named_at step.places p k e))

    has : AreAsked a.table.columns step.places method.inputs
    has p k c e = let (l, is) = input_live p k c e in has_asked live n blocks a.columns a.first a.table asking.rest.items a.gathers have k l is (a.asked p k c e)

    module _ (list : RowList) (wanted : IsWanted asking.step.places method.inputs asking.rows list) where
      at_table : IsWanted asking.step.places method.inputs a.table.rows list
      at_table = subst (λ (r : RowList). IsWanted asking.step.places method.inputs r list) a.rows_are wanted

      pub wants : (partial : RowList) → AreBlocks live n partial blocks → IsWanted step.places method.inputs partial list
      wants partial m = record {
        ascends = wanted.ascends;
        same = λ values.
            let images = asks_same live (is_live steps outs) n step.places method.inputs ready.names names_live less_live input_live blocks a.columns a.first a.table asking.rest.items a.gathers a.first_rows a.first_columns
            has asking.step.places asking.columns a.local partial m values in (
              (λ c. images.0 ((at_table.same values).0 c)),
              (λ c. (at_table.same values).1 (images.1 c)),
            );
      }

      pub of_step : (request : Request) → Contains (requests_of method.rel method.inputs list) request → IsStepRequest (meaning_of schema) step request
      of_step request c =
          let (values, among, is) = contains_mapped (λ v. record { rel = method.rel; positions = method.inputs; values = v }) list request c in
          let (row, of, e) = contains_mapped (input_row_of asking.step.places method.inputs) a.table.rows values ((at_table.same values).0 among) in
          subst (λ (q : Request). IsStepRequest (meaning_of schema) step q) is (record {
            method = method;
            named = named;
            of_relation = refl;
            positions = refl;
            constants = subst (λ (v : List (List ℕ)). AllZip (λ p value. HasConstant (slice_get step.places p) value) method.inputs v) e
                (constants_of row a.table.columns n step.places asking.step.places asking.columns n method.inputs a.local known);
          })

    -- the round was asked, and the blocks were checked
    module _ (grown : Block) (grown_columns : grown.columns ≡ asking.columns) (others : List Block) (c : Checks (is_live steps outs) asking.count grown asking.rest.items others) where
      abbrev grown_at : Gathers (made n step.places) asking.columns grown asking.rest.items c.both [] c.rest
      grown_at = subst (λ (l : List ℕ). Gathers (made n step.places) l grown asking.rest.items c.both [] c.rest) grown_columns
          (subst (λ k. Gathers k grown.columns grown asking.rest.items c.both [] c.rest) a.count_is c.gathers)

      pub go_tables : AreTables asking.count others
      go_tables = subst (λ k. AreTables k others) (sym a.count_is) (subst (λ (l : List Block). AreTables (made n step.places) l) (sym c.blocks_are)
          (tables_next live (is_live steps outs) n step.places method.inputs ready.names names_live less_live input_live blocks a.columns a.first a.table asking.rest.items a.gathers a.first_rows a.first_columns
          has asking.step.places asking.columns a.local grown c.both c.cut c.rest grown_columns grown_at c.cuts))

      pub go_live : HaveLive (is_live steps outs) asking.count others
      go_live = subst (λ k. HaveLive (is_live steps outs) k others) (sym a.count_is) (subst (λ (l : List Block). HaveLive (is_live steps outs) (made n step.places) l) (sym c.blocks_are)
          (live_next live (is_live steps outs) n step.places method.inputs ready.names names_live less_live input_live blocks a.columns a.first a.table asking.rest.items a.gathers a.first_rows a.first_columns
          has asking.step.places asking.columns a.local grown c.both c.cut c.rest grown_columns grown_at c.cuts have))

      pub go_blocks : (instance : List Fact) (partial : RowList) → AreBlocks live n partial blocks
          → ((row : List (List ℕ)) → Contains grown.rows row ↔ Contains (next_rows asking.step.places method instance asking.rows) row)
          → AreBlocks (is_live steps outs) asking.count (next_rows step.places method instance partial) others
      go_blocks instance partial m rows_are =
          subst (λ k. AreBlocks (is_live steps outs) k (next_rows step.places method instance partial) others) (sym a.count_is)
          (subst (λ (l : List Block). AreBlocks (is_live steps outs) (made n step.places) (next_rows step.places method instance partial) l) (sym c.blocks_are)
          (blocks_next live (is_live steps outs) n step.places method.inputs ready.names names_live less_live input_live blocks a.columns a.first a.table asking.rest.items a.gathers a.first_rows a.first_columns
          has asking.step.places asking.columns a.local grown c.both c.cut c.rest grown_columns grown_at c.cuts partial (λ v. pick instance method.rel method.inputs v) m
          (subst (λ (r : RowList). (row : List (List ℕ)) → Contains grown.rows row ↔ Contains (next_rows asking.step.places method instance r) row) a.rows_are rows_are)))

  module _ (method : Method) (named : IsMethod (meaning_of schema) step.method method) (asking : Asking) (a : Asks step method.inputs n blocks asking) where
    -- what is asked is over the columns that there are behind the step
    pub asking_below : (k : ℕ) → Contains asking.columns k → k < asking.count
    asking_below k c = subst (λ n. k < n) (sym a.count_is) (⊎_elim
        (λ h. let l = a.gathers.below k h in let more = made_grows n step.places in omega (arith, l, more))
        (λ l. l)
        (local_from (λ k. k < made n step.places) a.table.columns n step.places asking.step.places asking.columns (names_below n step.places ready.names) a.local k c))

    pub rest_below : AreTables asking.count asking.rest.items
    rest_below = subst (λ n. AreTables n asking.rest.items) (sym a.count_is) (record {
      below = λ b c k h. let l = a.gathers.rest_tables.below b c k h in let more = made_grows n step.places in omega (arith, l, more);
      apart = a.gathers.rest_tables.apart;
    })

-- ---- the outputs

shown_here : (outs : List Out) (k : ℕ) → Contains outs (Made k) → is_shown outs k ≡ true
shown_here [] k c = absurd (contains_none (Made k) c)
shown_here (Fixed t ∷ outs) k c = ⊎_elim (λ e. absurd (cc)) (λ h. shown_here outs k h) (contains_cases (Fixed t) outs (Made k) c)
shown_here (Made j ∷ outs) k c = ⊎_elim
    (λ e. let same : j ≡ k = cc in let test : nat_eq j k ≡ true = grind (arith, nat_tests) in rw test refl)
    (λ h. cond_true (nat_eq j k) (is_shown outs k) (shown_here outs k h))
    (contains_cases (Made j) outs (Made k) c)

-- one output place more
pub outs_more : (columns : List ℕ) (outs : List Out) (i : ℕ) (out : Out) → i < length outs → out ≡ get_or outs i out → (old new : List Out) (local : Out) → new ≡ old ++ local ∷ []
    → ((texts : Texts) → out_value (map texts columns) local ≡ out_of texts out)
    → ((texts : Texts) → output_of old (map texts columns) ≡ map (out_of texts) (take i outs))
    → (texts : Texts) → output_of new (map texts columns) ≡ map (out_of texts) (take (i + 1) outs)
outs_more columns outs i out less at old new local new_is reads so_far texts =
    let value : Out → List ℕ = out_value (map texts columns) in
    ap (λ (l : List Out). map value l) new_is
    ∙ map-append value old (local ∷ [])
    ∙ ap (λ (l : List (List ℕ)). l ++ value local ∷ []) (so_far texts)
    ∙ ap (λ (t : List ℕ). map (out_of texts) (take i outs) ++ t ∷ []) (reads texts)
    ∙ sym (map-append (out_of texts) (take i outs) (out ∷ []))
    ∙ ap (λ (o : Out). map (out_of texts) (take i outs ++ o ∷ [])) at
    ∙ ap (λ (l : List Out). map (out_of texts) l) (sym (take_more outs i out less))

module _ (outs : List Out) (n : ℕ) (blocks : List Block) (have : HaveLive (is_shown outs) n blocks) (ready : (out : Out) → Contains outs out → IsReadyOut n out)
    (columns : List ℕ) (first table : Block) (rest : List Block) (g : Gathers n columns first blocks table [] rest)
    (shown : (k : ℕ) → is_shown outs k ≡ true → Contains columns k) where
  pub shown_in : (k : ℕ) → Contains outs (Made k) → HasColumn table k
  shown_in k c = let is = shown_here outs k c in has_asked (is_shown outs) n blocks columns first table rest g have k (ready (Made k) c) is (shown k is)

  module _ (first_rows : first.rows ≡ [] ∷ []) (first_columns_are : first.columns ≡ []) (locals : List Out)
      (reads : (texts : Texts) → output_of locals (map texts table.columns) ≡ map (out_of texts) outs) where
    whole_reads : (texts : Texts) → output_of outs (map texts (first_columns n)) ≡ map (out_of texts) outs
    whole_reads texts = map_same (out_value (map texts (first_columns n))) (out_of texts) outs (λ out c. go out (ready out c))
      where
        go : (out : Out) → IsReadyOut n out → out_value (map texts (first_columns n)) out ≡ out_of texts out
        go (Fixed t) h = refl
        go (Made k) h = ap text_or (map_got texts (first_columns n) k k (range_at n k h))

    same_outs : (texts others : Texts) → ((k : ℕ) → k < n → is_shown outs k ≡ true → HasColumn table k → others k ≡ texts k) → map (out_of others) outs ≡ map (out_of texts) outs
    same_outs texts others same = map_same (out_of others) (out_of texts) outs (λ out c. go out (ready out c) c)
      where
        go : (out : Out) → IsReadyOut n out → Contains outs out → out_of others out ≡ out_of texts out
        go (Fixed t) h c = refl
        go (Made k) h c = same k h (shown_here outs k c) (shown_in k c)

    pub adds_outputs : (into more : RowList) → HasAdded into (map (output_of locals) table.rows) more → AddsOutputs outs n blocks into more
    adds_outputs into more added partial m row =
        let images = same_images (is_shown outs) n partial blocks m columns first table rest g first_rows first_columns_are (output_of outs) (output_of locals) (λ texts. map (out_of texts) outs)
        whole_reads reads same_outs row in (
          (λ c. ⊎_elim (λ h. inl h) (λ h. inr (images.0 h)) ((added row).0 c)),
          (λ c. (added row).1 (⊎_elim (λ h. inl h) (λ h. inr (images.1 h)) c)),
        )
