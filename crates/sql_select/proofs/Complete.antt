-- A query as it is written is read as its selects.
use Rattle.std.proofs.Common.{◌≡◌, ◌≢◌, ◌≤◌, List, [], ◌∷◌, ◌++◌, length, ap, subst, sym, ◌∙◌, refl, ⊎_elim, append_assoc, arith}
use Rattle.std.proofs.lemmas.List.{append-nil}
use Rattle.std.specs.Prelude.{Result, Ok}
use Rattle.lists.proofs.Members.{contains_here, contains_there}
use Rattle.sql_select.specs.declared.piece.Piece.{Piece}
use Rattle.sql_select.specs.declared.piece.Piece.TheVariants as piece
use Rattle.sql_select.specs.declared.piece.RawOperand.{RawOperand}
use Rattle.sql_select.specs.declared.piece.RawOperand.TheVariants as operand
use Rattle.sql_select.specs.declared.piece.Alias.{Alias}
use Rattle.sql_select.specs.declared.piece.Alias.TheVariants as alias
use Rattle.sql_select.specs.declared.piece.RawItem.{RawItem}
use Rattle.sql_select.specs.declared.piece.RawFrom.{RawFrom}
use Rattle.sql_select.specs.declared.piece.RawCondition.{RawCondition}
use Rattle.sql_select.specs.declared.state.State.{State}
use Rattle.sql_select.specs.declared.state.State.TheVariants as state
use Rattle.sql_select.specs.declared.state.Done.TheVariants as done
use Rattle.sql_select.specs.declared.piece.RawSelect.{RawSelect}
use Rattle.sql_select.specs.Reading.{empty, added, started, read}
use Rattle.sql_select.specs.Grammar.{shown_item, shown_from, shown_condition, parted, shown, shown_query, IsText}
use Rattle.sql_select.proofs.Said.{AreWhole}

-- what is read on behind the selects that are finished, while this one is read
abbrev on : List RawSelect → State → RawSelect → List Piece → Result (List RawSelect) (List Piece)
on finished s raw pieces = read s (record { finished = finished; raw = raw }) pieces

-- the selects that are finished and this one are all
abbrev all : List RawSelect → RawSelect → Result (List RawSelect) (List Piece)
all finished raw = Ok (finished ++ raw ∷ [])

-- another select is read behind this one
abbrev next : List RawSelect → RawSelect → List Piece → Result (List RawSelect) (List Piece)
next finished raw rest = on (finished ++ raw ∷ []) state.Start empty rest

cons_of : {X : Type 0} (xs : List X) → xs ≢ [] → (x : X) × (ys : List X) × (xs ≡ x ∷ ys)
cons_of [] some = absurd (some refl)
cons_of (x ∷ xs) some = (x, xs, refl)

module _ (finished : List RawSelect) where
  -- one part, and the piece that closes it
  abbrev ItemRead : RawSelect → RawItem → List Piece → Type 0
  ItemRead raw item rest = (on finished state.Item raw (shown_item item ++ piece.Comma ∷ rest) ≡ on finished state.Item (added (done.Item item) raw) rest)
      × (on finished state.Item raw (shown_item item ++ piece.From ∷ rest) ≡ on finished state.From (added (done.Item item) raw) rest)

  item_read : (raw : RawSelect) (o : RawOperand) (a : Alias) (rest : List Piece) → ItemRead raw (record { operand = o; alias = a }) rest
  item_read raw (operand.Plain n) alias.Missing rest = (refl, refl)
  item_read raw (operand.Prefixed p n) alias.Missing rest = (refl, refl)
  item_read raw (operand.Value v) alias.Missing rest = (refl, refl)
  item_read raw _ _ rest = (refl, refl)

  -- what may close a FROM item
  pub record FromRead (raw : RawSelect) (from : RawFrom) (rest : List Piece) : Type 0 where
    pub comma : on finished state.From raw (shown_from from ++ piece.Comma ∷ rest) ≡ on finished state.From (added (done.From from) raw) rest
    pub asks : on finished state.From raw (shown_from from ++ piece.Where ∷ rest) ≡ on finished state.Left (added (done.From from) raw) rest
    pub union : on finished state.From raw (shown_from from ++ piece.Union ∷ rest) ≡ next finished (added (done.From from) raw) rest
    pub semicolon : on finished state.From raw (shown_from from ++ piece.Semicolon ∷ []) ≡ all finished (added (done.From from) raw)
    pub end : on finished state.From raw (shown_from from) ≡ all finished (added (done.From from) raw)

  from_read : (raw : RawSelect) (from : RawFrom) (a : Alias) (rest : List Piece) → from.alias ≡ a → FromRead raw from rest
  from_read raw from a rest e = subst (λ f. FromRead raw f rest) (ap (λ b. record { relation = from.relation; alias = b }) (sym e)) (go a)
    where
      go : (a : Alias) → FromRead raw (record { relation = from.relation; alias = a }) rest
      go alias.Missing = record { comma = refl; asks = refl; union = refl; semicolon = refl; end = refl }
      go _ = record { comma = refl; asks = refl; union = refl; semicolon = refl; end = refl }

  pub record ConditionRead (raw : RawSelect) (c : RawCondition) (rest : List Piece) : Type 0 where
    pub more : on finished state.Left raw (shown_condition c ++ piece.And ∷ rest) ≡ on finished state.Left (added (done.Condition c) raw) rest
    pub union : on finished state.Left raw (shown_condition c ++ piece.Union ∷ rest) ≡ next finished (added (done.Condition c) raw) rest
    pub semicolon : on finished state.Left raw (shown_condition c ++ piece.Semicolon ∷ []) ≡ all finished (added (done.Condition c) raw)
    pub end : on finished state.Left raw (shown_condition c) ≡ all finished (added (done.Condition c) raw)

  condition_read : (raw : RawSelect) (l r : RawOperand) (rest : List Piece) → ConditionRead raw (record { left = l; right = r }) rest
  condition_read raw (operand.Plain a) (operand.Plain d) rest = record { more = refl; union = refl; semicolon = refl; end = refl }
  condition_read raw (operand.Prefixed b a) (operand.Plain d) rest = record { more = refl; union = refl; semicolon = refl; end = refl }
  condition_read raw (operand.Value c) (operand.Plain d) rest = record { more = refl; union = refl; semicolon = refl; end = refl }
  condition_read raw _ _ rest = record { more = refl; union = refl; semicolon = refl; end = refl }

  -- a select with these items, and FROM items so far
  abbrev with_froms : RawSelect → List RawFrom → RawSelect
  with_froms raw froms = record { items = raw.items; froms = froms; conditions = [] }

  abbrev with_conditions : RawSelect → List RawCondition → RawSelect
  with_conditions raw conditions = record { items = raw.items; froms = raw.froms; conditions = conditions }

  abbrev with_items : List RawItem → RawSelect
  with_items items = record { items = items; froms = []; conditions = [] }

  items_read : (before : List RawItem) (x : RawItem) (xs : List RawItem) (rest : List Piece) →
      on finished state.Item (with_items before) (parted shown_item piece.Comma (x ∷ xs) ++ piece.From ∷ rest) ≡ on finished state.From (with_items (before ++ x ∷ xs)) rest
  items_read before x [] rest = ap (λ q. on finished state.Item (with_items before) (q ++ piece.From ∷ rest)) (append-nil (shown_item x)) ∙ (item_read (with_items before) x.operand x.alias rest).1
  items_read before x (y ∷ xs) rest =
      ap (λ q. on finished state.Item (with_items before) q) (append_assoc (shown_item x) (piece.Comma ∷ parted shown_item piece.Comma (y ∷ xs)) (piece.From ∷ rest))
      ∙ (item_read (with_items before) x.operand x.alias (parted shown_item piece.Comma (y ∷ xs) ++ piece.From ∷ rest)).0
      ∙ items_read (before ++ x ∷ []) y xs rest
      ∙ ap (λ is. on finished state.From (with_items is) rest) (append_assoc before (x ∷ []) (y ∷ xs))

  module _ (raw : RawSelect) where
    -- the FROM items from this one on, and what may close them
    pub record FromsRead (before : List RawFrom) (x : RawFrom) (xs : List RawFrom) (rest : List Piece) : Type 0 where
      pub asks : on finished state.From (with_froms raw before) (parted shown_from piece.Comma (x ∷ xs) ++ piece.Where ∷ rest) ≡ on finished state.Left (with_froms raw (before ++ x ∷ xs)) rest
      pub union : on finished state.From (with_froms raw before) (parted shown_from piece.Comma (x ∷ xs) ++ piece.Union ∷ rest) ≡ next finished (with_froms raw (before ++ x ∷ xs)) rest
      pub semicolon : on finished state.From (with_froms raw before) (parted shown_from piece.Comma (x ∷ xs) ++ piece.Semicolon ∷ []) ≡ all finished (with_froms raw (before ++ x ∷ xs))
      pub end : on finished state.From (with_froms raw before) (parted shown_from piece.Comma (x ∷ xs)) ≡ all finished (with_froms raw (before ++ x ∷ xs))

    froms_read : (before : List RawFrom) (x : RawFrom) (xs : List RawFrom) (rest : List Piece) → FromsRead before x xs rest
    froms_read before x [] rest =
        let one = from_read (with_froms raw before) x x.alias rest refl in
        record {
          asks = ap (λ q. on finished state.From (with_froms raw before) (q ++ piece.Where ∷ rest)) (append-nil (shown_from x)) ∙ one.asks;
          union = ap (λ q. on finished state.From (with_froms raw before) (q ++ piece.Union ∷ rest)) (append-nil (shown_from x)) ∙ one.union;
          semicolon = ap (λ q. on finished state.From (with_froms raw before) (q ++ piece.Semicolon ∷ [])) (append-nil (shown_from x)) ∙ one.semicolon;
          end = ap (λ q. on finished state.From (with_froms raw before) q) (append-nil (shown_from x)) ∙ one.end;
        }
    froms_read before x (y ∷ xs) rest =
        let later = froms_read (before ++ x ∷ []) y xs rest in
        let start : RawSelect = with_froms raw before in
        let F : List Piece = parted shown_from piece.Comma (y ∷ xs) in
        let step : (last : List Piece) → on finished state.From start (parted shown_from piece.Comma (x ∷ y ∷ xs) ++ last) ≡ on finished state.From (with_froms raw (before ++ x ∷ [])) (F ++ last) =
        λ last. ap (λ q. on finished state.From start q) (append_assoc (shown_from x) (piece.Comma ∷ F) last) ∙ (from_read start x x.alias (F ++ last) refl).comma in
        let whole : before ++ x ∷ y ∷ xs ≡ (before ++ x ∷ []) ++ y ∷ xs = sym (append_assoc before (x ∷ []) (y ∷ xs)) in
        record {
          asks = step (piece.Where ∷ rest) ∙ later.asks ∙ ap (λ fs. on finished state.Left (with_froms raw fs) rest) (sym whole);
          union = step (piece.Union ∷ rest) ∙ later.union ∙ ap (λ fs. next finished (with_froms raw fs) rest) (sym whole);
          semicolon = step (piece.Semicolon ∷ []) ∙ later.semicolon ∙ ap (λ fs. all finished (with_froms raw fs)) (sym whole);
          end = (from_read start x x.alias F refl).comma ∙ later.end ∙ ap (λ fs. all finished (with_froms raw fs)) (sym whole);
        }

    -- the conditions from this one on, and what may close them
    pub record ConditionsRead (before : List RawCondition) (x : RawCondition) (xs : List RawCondition) (rest : List Piece) : Type 0 where
      pub union : on finished state.Left (with_conditions raw before) (parted shown_condition piece.And (x ∷ xs) ++ piece.Union ∷ rest) ≡ next finished (with_conditions raw (before ++ x ∷ xs)) rest
      pub semicolon : on finished state.Left (with_conditions raw before) (parted shown_condition piece.And (x ∷ xs) ++ piece.Semicolon ∷ []) ≡ all finished (with_conditions raw (before ++ x ∷ xs))
      pub end : on finished state.Left (with_conditions raw before) (parted shown_condition piece.And (x ∷ xs)) ≡ all finished (with_conditions raw (before ++ x ∷ xs))

    conditions_read : (before : List RawCondition) (x : RawCondition) (xs : List RawCondition) (rest : List Piece) → ConditionsRead before x xs rest
    conditions_read before x [] rest =
        let one = condition_read (with_conditions raw before) x.left x.right rest in
        record {
          union = ap (λ q. on finished state.Left (with_conditions raw before) (q ++ piece.Union ∷ rest)) (append-nil (shown_condition x)) ∙ one.union;
          semicolon = ap (λ q. on finished state.Left (with_conditions raw before) (q ++ piece.Semicolon ∷ [])) (append-nil (shown_condition x)) ∙ one.semicolon;
          end = ap (λ q. on finished state.Left (with_conditions raw before) q) (append-nil (shown_condition x)) ∙ one.end;
        }
    conditions_read before x (y ∷ xs) rest =
        let later = conditions_read (before ++ x ∷ []) y xs rest in
        let start : RawSelect = with_conditions raw before in
        let C : List Piece = parted shown_condition piece.And (y ∷ xs) in
        let step : (last : List Piece) → on finished state.Left start (parted shown_condition piece.And (x ∷ y ∷ xs) ++ last) ≡ on finished state.Left (with_conditions raw (before ++ x ∷ [])) (C ++ last) =
        λ last. ap (λ q. on finished state.Left start q) (append_assoc (shown_condition x) (piece.And ∷ C) last) ∙ (condition_read start x.left x.right (C ++ last)).more in
        let whole : before ++ x ∷ y ∷ xs ≡ (before ++ x ∷ []) ++ y ∷ xs = sym (append_assoc before (x ∷ []) (y ∷ xs)) in
        record {
          union = step (piece.Union ∷ rest) ∙ later.union ∙ ap (λ cs. next finished (with_conditions raw cs) rest) (sym whole);
          semicolon = step (piece.Semicolon ∷ []) ∙ later.semicolon ∙ ap (λ cs. all finished (with_conditions raw cs)) (sym whole);
          end = (condition_read start x.left x.right C).more ∙ later.end ∙ ap (λ cs. all finished (with_conditions raw cs)) (sym whole);
        }

  -- a select, and what may stand behind it
  pub record SelectRead (raw : RawSelect) (rest : List Piece) : Type 0 where
    pub union : on finished state.Start empty (shown raw ++ piece.Union ∷ rest) ≡ next finished raw rest
    pub semicolon : on finished state.Start empty (shown raw ++ piece.Semicolon ∷ []) ≡ all finished raw
    pub end : on finished state.Start empty (shown raw) ≡ all finished raw

  parts_read : (x : RawItem) (xs : List RawItem) (y : RawFrom) (ys : List RawFrom) (cs : List RawCondition) (rest : List Piece) → SelectRead (record { items = x ∷ xs; froms = y ∷ ys; conditions = cs }) rest
  parts_read x xs y ys [] rest =
      let raw : RawSelect = record { items = x ∷ xs; froms = y ∷ ys; conditions = [] } in
      let P : List Piece = parted shown_item piece.Comma (x ∷ xs) in
      let F : List Piece = parted shown_from piece.Comma (y ∷ ys) in
      let froms = froms_read raw [] y ys rest in
      let behind : (last : List Piece) → on finished state.Start empty (shown raw ++ last) ≡ on finished state.From (with_items (x ∷ xs)) (F ++ last) =
      λ last. ap (λ q. on finished state.Start empty (piece.Select ∷ piece.Distinct ∷ ((P ++ piece.From ∷ q) ++ last))) (append-nil F)
      ∙ ap (λ q. on finished state.Start empty (piece.Select ∷ piece.Distinct ∷ q)) (append_assoc P (piece.From ∷ F) last)
      ∙ items_read [] x xs (F ++ last) in
      record {
        union = behind (piece.Union ∷ rest) ∙ froms.union;
        semicolon = behind (piece.Semicolon ∷ []) ∙ froms.semicolon;
        end = ap (λ q. on finished state.Start empty (piece.Select ∷ piece.Distinct ∷ (P ++ piece.From ∷ q))) (append-nil F) ∙ items_read [] x xs F ∙ froms.end;
      }
  parts_read x xs y ys (c ∷ cs) rest =
      let raw : RawSelect = record { items = x ∷ xs; froms = y ∷ ys; conditions = c ∷ cs } in
      let P : List Piece = parted shown_item piece.Comma (x ∷ xs) in
      let F : List Piece = parted shown_from piece.Comma (y ∷ ys) in
      let C : List Piece = parted shown_condition piece.And (c ∷ cs) in
      let conditions = conditions_read raw [] c cs rest in
      let behind : (last : List Piece) → on finished state.Start empty (shown raw ++ last) ≡ on finished state.Left (with_conditions raw []) (C ++ last) =
      λ last. ap (λ q. on finished state.Start empty (piece.Select ∷ piece.Distinct ∷ q)) (append_assoc P (piece.From ∷ (F ++ piece.Where ∷ C)) last ∙ ap (λ q. P ++ piece.From ∷ q) (append_assoc F (piece.Where ∷ C) last))
      ∙ items_read [] x xs (F ++ piece.Where ∷ (C ++ last)) ∙ (froms_read raw [] y ys (C ++ last)).asks in
      record {
        union = behind (piece.Union ∷ rest) ∙ conditions.union;
        semicolon = behind (piece.Semicolon ∷ []) ∙ conditions.semicolon;
        end = items_read [] x xs (F ++ piece.Where ∷ C) ∙ (froms_read raw [] y ys C).asks ∙ conditions.end;
      }

  select_read : (raw : RawSelect) (rest : List Piece) → raw.items ≢ [] → raw.froms ≢ [] → SelectRead raw rest
  select_read raw rest has_items has_froms =
      let (x, xs, items) = cons_of raw.items has_items in
      let (y, ys, froms) = cons_of raw.froms has_froms in
      let same : ◌≡◌ {A = RawSelect} (record { items = x ∷ xs; froms = y ∷ ys; conditions = raw.conditions }) raw = ap (λ i. record { items = i; froms = y ∷ ys; conditions = raw.conditions }) (sym items) ∙ ap (λ f. record { items = raw.items; froms = f; conditions = raw.conditions }) (sym froms) in
      subst (λ r. SelectRead r rest) same (parts_read x xs y ys raw.conditions rest)

-- ---- several selects

-- both forms of a query with these selects
abbrev BothRead : List RawSelect → List RawSelect → Type 0
BothRead finished raws = (on finished state.Start empty (shown_query raws) ≡ Ok (finished ++ raws))
    × (on finished state.Start empty (shown_query raws ++ piece.Semicolon ∷ []) ≡ Ok (finished ++ raws))

selects_read : (finished : List RawSelect) (raw : RawSelect) (raws : List RawSelect) → AreWhole (raw ∷ raws) → BothRead finished (raw ∷ raws)
selects_read finished raw [] whole =
    let one = select_read finished raw [] (whole.items raw (contains_here raw [])) (whole.froms raw (contains_here raw [])) in (
      ap (λ q. on finished state.Start empty q) (append-nil (shown raw)) ∙ one.end,
      ap (λ q. on finished state.Start empty (q ++ piece.Semicolon ∷ [])) (append-nil (shown raw)) ∙ one.semicolon,
    )
selects_read finished raw (other ∷ raws) whole =
    let Q : List Piece = shown_query (other ∷ raws) in
    let step : (last : List Piece) → on finished state.Start empty (shown_query (raw ∷ other ∷ raws) ++ last) ≡ next finished raw (Q ++ last) =
    λ last. ap (λ q. on finished state.Start empty q) (append_assoc (shown raw) (piece.Union ∷ Q) last)
    ∙ (select_read finished raw (Q ++ last) (whole.items raw (contains_here raw (other ∷ raws))) (whole.froms raw (contains_here raw (other ∷ raws)))).union in
    let later = selects_read (finished ++ raw ∷ []) other raws (record {
      items = λ r c. whole.items r (contains_there raw (other ∷ raws) r c);
      froms = λ r c. whole.froms r (contains_there raw (other ∷ raws) r c);
    }) in
    let same : (finished ++ raw ∷ []) ++ other ∷ raws ≡ finished ++ raw ∷ other ∷ raws = append_assoc finished (raw ∷ []) (other ∷ raws) in (
      (select_read finished raw Q (whole.items raw (contains_here raw (other ∷ raws))) (whole.froms raw (contains_here raw (other ∷ raws)))).union ∙ later.0 ∙ ap (λ rs. Ok rs) same,
      step (piece.Semicolon ∷ []) ∙ later.1 ∙ ap (λ rs. Ok rs) same,
    )

all_read : (raws : List RawSelect) → 1 ≤ length raws → AreWhole raws → BothRead [] raws
all_read [] some whole = absurd (omega (arith, some))
all_read (raw ∷ raws) some whole = selects_read [] raw raws whole

-- what is written as a query is read as its selects
pub complete : (raws : List RawSelect) (pieces : List Piece) → IsText raws pieces → read state.Start started pieces ≡ Ok raws
complete raws pieces is =
    let both = all_read raws is.some (record { items = is.items; froms = is.froms }) in
    ⊎_elim (λ e. ap (λ q. read state.Start started q) e ∙ both.0) (λ e. ap (λ q. read state.Start started q) e ∙ both.1) is.written

-- and as no others
pub one_reading : (first second : List RawSelect) (pieces : List Piece) → IsText first pieces → IsText second pieces → first ≡ second
one_reading first second pieces is is' = let same : ◌≡◌ {A = Result (List RawSelect) (List Piece)} (Ok first) (Ok second) = sym (complete first pieces is) ∙ complete second pieces is' in ok_same first second same
  where
    ok_same : (a b : List RawSelect) → ◌≡◌ {A = Result (List RawSelect) (List Piece)} (Ok a) (Ok b) → a ≡ b
    ok_same a b e = cc
