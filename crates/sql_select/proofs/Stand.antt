-- The tokens of the parts of a select stand in the text.
use Rattle.std.proofs.Common.{ℕ, List, [], ◌∷◌, ◌++◌, map, subst, ⊎_elim, Bool, true, false}
use Rattle.std.specs.Prelude.{codes, nat_eq, Result, Ok, Err, IfOk, if◌then◌else◌}
use Rattle.sql_select.specs.declared.reading.WalkFault.{WalkFault}
use Rattle.std.specs.List.{AllByRecursion}
use Rattle.std.specs.Cmp.Lexicographic.{pointwise}
use Rattle.pq_text.specs.declared.token.Token.{Token}
use Rattle.pq_text.specs.declared.token.TokenKind.{TokenKind}
use Rattle.pq_text.specs.declared.token.TokenKind.TheVariants as kind
use Rattle.pq_text.specs.Spans.{IsSpan}
use Rattle.pq_text.specs.Standing.{lowered}
use Rattle.sql_select.specs.declared.piece.Piece.{Piece}
use Rattle.sql_select.specs.declared.piece.Piece.TheVariants as piece
use Rattle.sql_select.specs.declared.piece.RawOperand.{RawOperand}
use Rattle.sql_select.specs.declared.piece.RawOperand.TheVariants as operand
use Rattle.sql_select.specs.declared.piece.Alias.{Alias}
use Rattle.sql_select.specs.declared.piece.Alias.TheVariants as alias
use Rattle.sql_select.specs.declared.piece.RawItem.{RawItem}
use Rattle.sql_select.specs.declared.piece.RawFrom.{RawFrom}
use Rattle.sql_select.specs.declared.piece.RawCondition.{RawCondition}
use Rattle.sql_select.specs.declared.piece.RawSelect.{RawSelect}
use Rattle.sql_select.specs.Words.{written, is_refused_word, name_or_other, word_piece, symbol_piece, piece_for, pieces_of}
use Rattle.sql_select.specs.Grammar.{shown_operand, shown_alias, shown_item, shown_from, shown_condition, further, parted, shown_where, shown, shown_query, IsText}
use Rattle.sql_select.specs.Spanning.{OperandStands, AliasStands, ItemStands, FromStands, ConditionStands, SelectStands}

all_left : {X : Type 0} (P : X → Type 0) (xs ys : List X) → AllByRecursion P (xs ++ ys) → AllByRecursion P xs
all_left P [] ys all = tt
all_left P (x ∷ xs) ys (h, all) = (h, all_left P xs ys all)

all_right : {X : Type 0} (P : X → Type 0) (xs ys : List X) → AllByRecursion P (xs ++ ys) → AllByRecursion P ys
all_right P [] ys all = all
all_right P (x ∷ xs) ys (h, all) = all_right P xs ys all

module _ (text : List ℕ) where
  -- a name or a value is a token of the text
  abbrev PieceStands : Piece → Type 0
  PieceStands (piece.Name t) = IsSpan text t
  PieceStands (piece.Value t) = IsSpan text t
  PieceStands _ = Unit {0}

  pick : (b : Bool) (p q : Piece) → PieceStands p → PieceStands q → PieceStands (if b then p else q)
  pick true p q h h' = h
  pick false p q h h' = h'

  word_stands : (t : Token) (word : List ℕ) → IsSpan text t → PieceStands (word_piece t word)
  word_stands t word span =
      let last : Piece = name_or_other t word in
      let from_union : Piece = if pointwise nat_eq (codes "union") word then piece.Union else last in
      let from_as : Piece = if pointwise nat_eq (codes "as") word then piece.As else from_union in
      let from_and : Piece = if pointwise nat_eq (codes "and") word then piece.And else from_as in
      let from_where : Piece = if pointwise nat_eq (codes "where") word then piece.Where else from_and in
      let from_from : Piece = if pointwise nat_eq (codes "from") word then piece.From else from_where in
      let from_distinct : Piece = if pointwise nat_eq (codes "distinct") word then piece.Distinct else from_from in
      pick (pointwise nat_eq (codes "select") word) piece.Select from_distinct tt
      (pick (pointwise nat_eq (codes "distinct") word) piece.Distinct from_from tt
      (pick (pointwise nat_eq (codes "from") word) piece.From from_where tt
      (pick (pointwise nat_eq (codes "where") word) piece.Where from_and tt
      (pick (pointwise nat_eq (codes "and") word) piece.And from_as tt
      (pick (pointwise nat_eq (codes "as") word) piece.As from_union tt
      (pick (pointwise nat_eq (codes "union") word) piece.Union last tt
      (pick (is_refused_word word) piece.Other (piece.Name t) tt span)))))))

  symbol_stands : (bytes : List ℕ) → PieceStands (symbol_piece bytes)
  symbol_stands bytes =
      let from_semicolon : Piece = if pointwise nat_eq (codes ";") bytes then piece.Semicolon else piece.Other in
      let from_equals : Piece = if pointwise nat_eq (codes "=") bytes then piece.Equals else from_semicolon in
      let from_dot : Piece = if pointwise nat_eq (codes ".") bytes then piece.Dot else from_equals in
      pick (pointwise nat_eq (codes ",") bytes) piece.Comma from_dot tt
      (pick (pointwise nat_eq (codes ".") bytes) piece.Dot from_equals tt
      (pick (pointwise nat_eq (codes "=") bytes) piece.Equals from_semicolon tt
      (pick (pointwise nat_eq (codes ";") bytes) piece.Semicolon piece.Other tt tt)))

  piece_stands : (k : TokenKind) (t : Token) (bytes : List ℕ) → IsSpan text t → PieceStands (piece_for k t bytes)
  piece_stands kind.Word t bytes span = word_stands t (map lowered bytes) span
  piece_stands kind.Quoted t bytes span = span
  piece_stands kind.Text t bytes span = span
  piece_stands kind.Number t bytes span = span
  piece_stands kind.Symbol t bytes span = symbol_stands bytes
  piece_stands kind.Eol t bytes span = tt

  pieces_stand : (tokens : List Token) → AllByRecursion (IsSpan text) tokens → AllByRecursion PieceStands (pieces_of text tokens)
  pieces_stand [] all = tt
  pieces_stand (t ∷ tokens) (span, all) = (piece_stands t.kind t (written text t) span, pieces_stand tokens all)

  operand_stands : (o : RawOperand) → AllByRecursion PieceStands (shown_operand o) → OperandStands text o
  operand_stands (operand.Plain t) all = all.0
  operand_stands (operand.Prefixed p t) all = (all.0, all.1.1.0)
  operand_stands (operand.Value t) all = all.0

  alias_stands : (a : Alias) → AllByRecursion PieceStands (shown_alias a) → AliasStands text a
  alias_stands alias.Missing all = tt
  alias_stands (alias.Alone t) all = all.0
  alias_stands (alias.After t) all = all.1.0

  item_stands : (item : RawItem) → AllByRecursion PieceStands (shown_item item) → ItemStands text item
  item_stands item all = (
    operand_stands item.operand (all_left PieceStands (shown_operand item.operand) (shown_alias item.alias) all),
    alias_stands item.alias (all_right PieceStands (shown_operand item.operand) (shown_alias item.alias) all),
  )

  from_stands : (from : RawFrom) → AllByRecursion PieceStands (shown_from from) → FromStands text from
  from_stands from all = (all.0, alias_stands from.alias all.1)

  condition_stands : (c : RawCondition) → AllByRecursion PieceStands (shown_condition c) → ConditionStands text c
  condition_stands c all =
      let right = all_right PieceStands (shown_operand c.left) (piece.Equals ∷ shown_operand c.right) all in
      (operand_stands c.left (all_left PieceStands (shown_operand c.left) (piece.Equals ∷ shown_operand c.right) all), operand_stands c.right right.1)

  module _ {X : Type 0} (f : X → List Piece) (sep : Piece) (Q : X → Type 0) (part : (x : X) → AllByRecursion PieceStands (f x) → Q x) where
    further_stand : (xs : List X) → AllByRecursion PieceStands (further f sep xs) → AllByRecursion Q xs
    further_stand [] all = tt
    further_stand (x ∷ xs) (h, all) = (part x (all_left PieceStands (f x) (further f sep xs) all), further_stand xs (all_right PieceStands (f x) (further f sep xs) all))

    parted_stand : (xs : List X) → AllByRecursion PieceStands (parted f sep xs) → AllByRecursion Q xs
    parted_stand [] all = tt
    parted_stand (x ∷ xs) all = (part x (all_left PieceStands (f x) (further f sep xs) all), further_stand xs (all_right PieceStands (f x) (further f sep xs) all))

  where_stands : (cs : List RawCondition) → AllByRecursion PieceStands (shown_where cs) → AllByRecursion (ConditionStands text) cs
  where_stands [] all = tt
  where_stands (c ∷ cs) all = parted_stand shown_condition piece.And (ConditionStands text) condition_stands (c ∷ cs) all.1

  shown_stands : (raw : RawSelect) → AllByRecursion PieceStands (shown raw) → SelectStands text raw
  shown_stands raw all =
      let A : List Piece = parted shown_item piece.Comma raw.items in
      let B : List Piece = parted shown_from piece.Comma raw.froms in
      let W : List Piece = shown_where raw.conditions in
      let behind = all_right PieceStands A (piece.From ∷ (B ++ W)) all.1.1 in
      record {
        items = parted_stand shown_item piece.Comma (ItemStands text) item_stands raw.items (all_left PieceStands A (piece.From ∷ (B ++ W)) all.1.1);
        froms = parted_stand shown_from piece.Comma (FromStands text) from_stands raw.froms (all_left PieceStands B W behind.1);
        conditions = where_stands raw.conditions (all_right PieceStands B W behind.1);
      }

  pub selects_stand : (raws : List RawSelect) (tokens : List Token) → AllByRecursion (IsSpan text) tokens → IsText raws (pieces_of text tokens) → AllByRecursion (SelectStands text) raws
  selects_stand raws tokens spans is =
      let all = pieces_stand tokens spans in
      parted_stand shown piece.Union (SelectStands text) shown_stands raws (⊎_elim
      (λ e. subst (λ ps. AllByRecursion PieceStands ps) e all)
      (λ e. all_left PieceStands (shown_query raws) (piece.Semicolon ∷ []) (subst (λ ps. AllByRecursion PieceStands ps) e all))
      is.written)

pub all_stand : (text : List ℕ) (tokens : List Token) (result : Result (List RawSelect) WalkFault) → AllByRecursion (IsSpan text) tokens → IfOk result (λ raws. IsText raws (pieces_of text tokens)) → IfOk result (AllByRecursion (SelectStands text))
all_stand text tokens (Ok raws) spans is = selects_stand text raws tokens spans is
all_stand text tokens (Err f) spans is = tt
