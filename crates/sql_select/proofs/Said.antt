-- The pieces that were read to reach a state are those of the parts so far.
use Rattle.std.proofs.Common.{◌≡◌, ◌≢◌, ◌⊎◌, ◌≤◌, List, [], ◌∷◌, ◌++◌, length, ap, subst, sym, ◌∙◌, refl, inl, inr, ⊎_elim, arith, append_assoc}
use Rattle.std.proofs.lemmas.List.{append-nil}
use Rattle.std.proofs.lemmas.List.Elements.{Contains-append_cases}
use Rattle.std.specs.Prelude.{Option, Some, None, Ok, Contains}
use Rattle.lists.proofs.Members.{contains_none, contains_one}
use Rattle.sql_select.specs.declared.piece.Piece.{Piece}
use Rattle.sql_select.specs.declared.piece.Piece.TheVariants as piece
use Rattle.sql_select.specs.declared.piece.RawOperand.{RawOperand}
use Rattle.sql_select.specs.declared.piece.RawOperand.TheVariants as operand
use Rattle.sql_select.specs.declared.piece.Alias.TheVariants as alias
use Rattle.sql_select.specs.declared.piece.RawItem.{RawItem}
use Rattle.sql_select.specs.declared.piece.RawFrom.{RawFrom}
use Rattle.sql_select.specs.declared.piece.RawCondition.{RawCondition}
use Rattle.sql_select.specs.declared.state.State.{State}
use Rattle.sql_select.specs.declared.state.State.TheVariants as state
use Rattle.sql_select.specs.declared.state.Done.{Done}
use Rattle.sql_select.specs.declared.state.Done.TheVariants as done
use Rattle.sql_select.specs.declared.piece.RawSelect.{RawSelect}
use Rattle.sql_select.specs.Steps.{step_of, ending_of, after_item, after_operand, after_from, after_left, after_condition}
use Rattle.sql_select.specs.declared.reading.Walk.{Walk}
use Rattle.sql_select.specs.Reading.{empty, added, started, kept, entered, ended, moved, read}
use Rattle.sql_select.specs.Grammar.{shown_operand, shown_item, shown_from, shown_condition, further, parted, shown_where, shown, IsText}

-- members, each followed by the separator
abbrev pub closed : {X : Type 0} → (X → List Piece) → Piece → List X → List Piece
closed f sep [] = []
closed f sep (x ∷ xs) = f x ++ sep ∷ closed f sep xs

closed_push : {X : Type 0} (f : X → List Piece) (sep : Piece) (xs : List X) (x : X) → closed f sep (xs ++ x ∷ []) ≡ (closed f sep xs ++ f x) ++ sep ∷ []
closed_push f sep [] x = refl
closed_push f sep (y ∷ xs) x = ap (λ r. f y ++ sep ∷ r) (closed_push f sep xs x ∙ append_assoc (closed f sep xs) (f x) (sep ∷ [])) ∙ sym (append_assoc (f y) (sep ∷ closed f sep xs) (f x ++ sep ∷ [])) ∙ sym (append_assoc (f y ++ sep ∷ closed f sep xs) (f x) (sep ∷ []))

closed_further : {X : Type 0} (f : X → List Piece) (sep : Piece) (xs : List X) (x : X) → sep ∷ closed f sep xs ++ f x ≡ further f sep (xs ++ x ∷ [])
closed_further f sep [] x = ap (λ r. sep ∷ r) (sym (append-nil (f x)))
closed_further f sep (y ∷ xs) x = ap (λ r. sep ∷ r) (append_assoc (f y) (sep ∷ closed f sep xs) (f x) ∙ ap (λ r. f y ++ r) (closed_further f sep xs x))

parted_push : {X : Type 0} (f : X → List Piece) (sep : Piece) (xs : List X) (x : X) → closed f sep xs ++ f x ≡ parted f sep (xs ++ x ∷ [])
parted_push f sep [] x = sym (append-nil (f x))
parted_push f sep (y ∷ xs) x = append_assoc (f y) (sep ∷ closed f sep xs) (f x) ∙ ap (λ r. f y ++ r) (closed_further f sep xs x)

where_push : (xs : List RawCondition) (x : RawCondition) → piece.Where ∷ closed shown_condition piece.And xs ++ shown_condition x ≡ shown_where (xs ++ x ∷ [])
where_push [] x = ap (λ r. piece.Where ∷ r) (parted_push shown_condition piece.And [] x)
where_push (y ∷ xs) x = ap (λ r. piece.Where ∷ r) (parted_push shown_condition piece.And (y ∷ xs) x)

not_empty : {X : Type 0} (xs : List X) (x : X) → xs ++ x ∷ [] ≢ []
not_empty [] x e = absurd (cc)
not_empty (y ∷ xs) x e = absurd (cc)

abbrev pub opened : RawSelect → List Piece
opened raw = piece.Select ∷ piece.Distinct ∷ closed shown_item piece.Comma raw.items

abbrev pub begun : RawSelect → List Piece
begun raw = piece.Select ∷ piece.Distinct ∷ parted shown_item piece.Comma raw.items ++ piece.From ∷ closed shown_from piece.Comma raw.froms

abbrev pub asked : RawSelect → List Piece
asked raw = piece.Select ∷ piece.Distinct ∷ (parted shown_item piece.Comma raw.items ++ piece.From ∷ (parted shown_from piece.Comma raw.froms ++ piece.Where ∷ closed shown_condition piece.And raw.conditions))

pub record AtItem (raw : RawSelect) (ps now : List Piece) : Type 0 where
  pub froms : raw.froms ≡ []
  pub conditions : raw.conditions ≡ []
  pub is : ps ≡ opened raw ++ now

pub record AtFrom (raw : RawSelect) (ps now : List Piece) : Type 0 where
  pub items : raw.items ≢ []
  pub conditions : raw.conditions ≡ []
  pub is : ps ≡ begun raw ++ now

pub record AtCondition (raw : RawSelect) (ps now : List Piece) : Type 0 where
  pub items : raw.items ≢ []
  pub froms : raw.froms ≢ []
  pub is : ps ≡ asked raw ++ now

-- the select, and what closes it
pub record AtEnd (raw : RawSelect) (ps : List Piece) (last : Piece) : Type 0 where
  pub items : raw.items ≢ []
  pub froms : raw.froms ≢ []
  pub is : ps ≡ shown raw ++ last ∷ []

-- a state, the parts that are finished, and the pieces that were read
abbrev pub IsAt : State → RawSelect → List Piece → Type 0
IsAt state.Start raw ps = (raw ≡ empty) × (ps ≡ [])
IsAt state.Selected raw ps = (raw ≡ empty) × (ps ≡ piece.Select ∷ [])
IsAt state.Item raw ps = AtItem raw ps []
IsAt (state.ItemName n) raw ps = AtItem raw ps (piece.Name n ∷ [])
IsAt (state.ItemDot n) raw ps = AtItem raw ps (piece.Name n ∷ piece.Dot ∷ [])
IsAt (state.ItemOperand o) raw ps = AtItem raw ps (shown_operand o)
IsAt (state.ItemAs o) raw ps = AtItem raw ps (shown_operand o ++ piece.As ∷ [])
IsAt (state.ItemEnd item) raw ps = AtItem raw ps (shown_item item)
IsAt state.From raw ps = AtFrom raw ps []
IsAt (state.FromName n) raw ps = AtFrom raw ps (piece.Name n ∷ [])
IsAt (state.FromAs n) raw ps = AtFrom raw ps (piece.Name n ∷ piece.As ∷ [])
IsAt (state.FromEnd from) raw ps = AtFrom raw ps (shown_from from)
IsAt state.Left raw ps = AtCondition raw ps []
IsAt (state.LeftName n) raw ps = AtCondition raw ps (piece.Name n ∷ [])
IsAt (state.LeftDot n) raw ps = AtCondition raw ps (piece.Name n ∷ piece.Dot ∷ [])
IsAt (state.LeftEnd l) raw ps = AtCondition raw ps (shown_operand l)
IsAt (state.Right l) raw ps = AtCondition raw ps (shown_operand l ++ piece.Equals ∷ [])
IsAt (state.RightName l n) raw ps = AtCondition raw ps (shown_operand l ++ piece.Equals ∷ piece.Name n ∷ [])
IsAt (state.RightDot l n) raw ps = AtCondition raw ps (shown_operand l ++ piece.Equals ∷ piece.Name n ∷ piece.Dot ∷ [])
IsAt (state.RightEnd c) raw ps = AtCondition raw ps (shown_condition c)
IsAt state.End raw ps = AtEnd raw ps piece.Semicolon

-- a state that was reached, where the start is reached behind a select
abbrev IsReached : State → RawSelect → List Piece → Type 0
IsReached state.Start raw ps = AtEnd raw ps piece.Union
IsReached s raw ps = IsAt s raw ps

abbrev Moved : RawSelect → List Piece → Option (State × Done) → Type 0
Moved raw ps None = Unit {0}
Moved raw ps (Some (s, d)) = IsReached s (added d raw) ps

item_more : (raw : RawSelect) (ps now now' : List Piece) (p : Piece) → now ++ p ∷ [] ≡ now' → AtItem raw ps now → AtItem raw (ps ++ p ∷ []) now'
item_more raw ps now now' p e at = record { froms = at.froms; conditions = at.conditions; is = ap (λ q. q ++ p ∷ []) at.is ∙ append_assoc (opened raw) now (p ∷ []) ∙ ap (λ q. opened raw ++ q) e }

from_more : (raw : RawSelect) (ps now now' : List Piece) (p : Piece) → now ++ p ∷ [] ≡ now' → AtFrom raw ps now → AtFrom raw (ps ++ p ∷ []) now'
from_more raw ps now now' p e at = record { items = at.items; conditions = at.conditions; is = ap (λ q. q ++ p ∷ []) at.is ∙ append_assoc (begun raw) now (p ∷ []) ∙ ap (λ q. begun raw ++ q) e }

condition_more : (raw : RawSelect) (ps now now' : List Piece) (p : Piece) → now ++ p ∷ [] ≡ now' → AtCondition raw ps now → AtCondition raw (ps ++ p ∷ []) now'
condition_more raw ps now now' p e at = record { items = at.items; froms = at.froms; is = ap (λ q. q ++ p ∷ []) at.is ∙ append_assoc (asked raw) now (p ∷ []) ∙ ap (λ q. asked raw ++ q) e }

-- what is before, the separator, the members so far and one more, and what closes it
regroup : {X : Type 0} (before members one : List X) (x : X) → (before ++ x ∷ members) ++ one ≡ before ++ x ∷ (members ++ one)
regroup before members one x = append_assoc before (x ∷ members) one

item_closed : (raw : RawSelect) (ps : List Piece) (item : RawItem) → AtItem raw ps (shown_item item) → AtItem (added (done.Item item) raw) (ps ++ piece.Comma ∷ []) []
item_closed raw ps item at = record {
  froms = at.froms;
  conditions = at.conditions;
  is = ap (λ q. q ++ piece.Comma ∷ []) at.is ∙ ap (λ q. piece.Select ∷ piece.Distinct ∷ q) (sym (closed_push shown_item piece.Comma raw.items item)) ∙ sym (append-nil (opened (added (done.Item item) raw)));
}

item_last : (raw : RawSelect) (ps : List Piece) (item : RawItem) → AtItem raw ps (shown_item item) → AtFrom (added (done.Item item) raw) (ps ++ piece.From ∷ []) []
item_last raw ps item at = record {
  items = not_empty raw.items item;
  conditions = at.conditions;
  is = ap (λ q. q ++ piece.From ∷ []) at.is
      ∙ ap (λ q. piece.Select ∷ piece.Distinct ∷ q ++ piece.From ∷ []) (parted_push shown_item piece.Comma raw.items item)
      ∙ ap (λ fs. piece.Select ∷ piece.Distinct ∷ parted shown_item piece.Comma (raw.items ++ item ∷ []) ++ piece.From ∷ closed shown_from piece.Comma fs) (sym at.froms)
      ∙ sym (append-nil (begun (added (done.Item item) raw)));
}

from_closed : (raw : RawSelect) (ps : List Piece) (from : RawFrom) → AtFrom raw ps (shown_from from) → AtFrom (added (done.From from) raw) (ps ++ piece.Comma ∷ []) []
from_closed raw ps from at =
    let P : List Piece = parted shown_item piece.Comma raw.items in
    let C : List Piece = closed shown_from piece.Comma raw.froms in
    record {
      items = at.items;
      conditions = at.conditions;
      is = ap (λ q. q ++ piece.Comma ∷ []) at.is
          ∙ ap (λ q. piece.Select ∷ piece.Distinct ∷ q ++ piece.Comma ∷ []) (regroup P C (shown_from from) piece.From)
          ∙ ap (λ q. piece.Select ∷ piece.Distinct ∷ q) (append_assoc P (piece.From ∷ C ++ shown_from from) (piece.Comma ∷ []))
          ∙ ap (λ q. piece.Select ∷ piece.Distinct ∷ P ++ piece.From ∷ q) (sym (closed_push shown_from piece.Comma raw.froms from))
          ∙ sym (append-nil (begun (added (done.From from) raw)));
    }

-- the pieces once the last FROM item is finished
from_pieces : (raw : RawSelect) (ps : List Piece) (from : RawFrom) → AtFrom raw ps (shown_from from) → ps ≡ piece.Select ∷ piece.Distinct ∷ parted shown_item piece.Comma raw.items ++ piece.From ∷ parted shown_from piece.Comma (raw.froms ++ from ∷ [])
from_pieces raw ps from at = at.is
    ∙ ap (λ q. piece.Select ∷ piece.Distinct ∷ q) (regroup (parted shown_item piece.Comma raw.items) (closed shown_from piece.Comma raw.froms) (shown_from from) piece.From)
    ∙ ap (λ q. piece.Select ∷ piece.Distinct ∷ parted shown_item piece.Comma raw.items ++ piece.From ∷ q) (parted_push shown_from piece.Comma raw.froms from)

from_shown : (raw : RawSelect) (ps : List Piece) (from : RawFrom) → AtFrom raw ps (shown_from from) → ps ≡ shown (added (done.From from) raw)
from_shown raw ps from at = from_pieces raw ps from at
    ∙ ap (λ q. piece.Select ∷ piece.Distinct ∷ parted shown_item piece.Comma raw.items ++ piece.From ∷ q) (sym (append-nil (parted shown_from piece.Comma (raw.froms ++ from ∷ []))))
    ∙ ap (λ cs. piece.Select ∷ piece.Distinct ∷ (parted shown_item piece.Comma raw.items ++ piece.From ∷ (parted shown_from piece.Comma (raw.froms ++ from ∷ []) ++ shown_where cs))) (sym at.conditions)

from_last : (raw : RawSelect) (ps : List Piece) (from : RawFrom) → AtFrom raw ps (shown_from from) → AtCondition (added (done.From from) raw) (ps ++ piece.Where ∷ []) []
from_last raw ps from at =
    let P : List Piece = parted shown_item piece.Comma raw.items in
    let F : List Piece = parted shown_from piece.Comma (raw.froms ++ from ∷ []) in
    record {
      items = at.items;
      froms = not_empty raw.froms from;
      is = ap (λ q. q ++ piece.Where ∷ []) (from_pieces raw ps from at)
          ∙ ap (λ q. piece.Select ∷ piece.Distinct ∷ q) (append_assoc P (piece.From ∷ F) (piece.Where ∷ []))
          ∙ ap (λ cs. piece.Select ∷ piece.Distinct ∷ (P ++ piece.From ∷ (F ++ piece.Where ∷ closed shown_condition piece.And cs))) (sym at.conditions)
          ∙ sym (append-nil (asked (added (done.From from) raw)));
    }

from_end : (raw : RawSelect) (ps : List Piece) (from : RawFrom) (last : Piece) → AtFrom raw ps (shown_from from) → AtEnd (added (done.From from) raw) (ps ++ last ∷ []) last
from_end raw ps from last at = record { items = at.items; froms = not_empty raw.froms from; is = ap (λ q. q ++ last ∷ []) (from_shown raw ps from at) }

-- the members of WHERE, regrouped behind what stands before them
asked_more : (P F C one : List Piece) → (P ++ piece.From ∷ (F ++ piece.Where ∷ C)) ++ one ≡ P ++ piece.From ∷ (F ++ piece.Where ∷ (C ++ one))
asked_more P F C one = append_assoc P (piece.From ∷ (F ++ piece.Where ∷ C)) one ∙ ap (λ q. P ++ piece.From ∷ q) (append_assoc F (piece.Where ∷ C) one)

condition_closed : (raw : RawSelect) (ps : List Piece) (c : RawCondition) → AtCondition raw ps (shown_condition c) → AtCondition (added (done.Condition c) raw) (ps ++ piece.And ∷ []) []
condition_closed raw ps c at =
    let P : List Piece = parted shown_item piece.Comma raw.items in
    let F : List Piece = parted shown_from piece.Comma raw.froms in
    let C : List Piece = closed shown_condition piece.And raw.conditions in
    record {
      items = at.items;
      froms = at.froms;
      is = ap (λ q. q ++ piece.And ∷ []) at.is
          ∙ ap (λ q. piece.Select ∷ piece.Distinct ∷ q ++ piece.And ∷ []) (asked_more P F C (shown_condition c))
          ∙ ap (λ q. piece.Select ∷ piece.Distinct ∷ q) (asked_more P F (C ++ shown_condition c) (piece.And ∷ []))
          ∙ ap (λ q. piece.Select ∷ piece.Distinct ∷ (P ++ piece.From ∷ (F ++ piece.Where ∷ q))) (sym (closed_push shown_condition piece.And raw.conditions c))
          ∙ sym (append-nil (asked (added (done.Condition c) raw)));
    }

condition_shown : (raw : RawSelect) (ps : List Piece) (c : RawCondition) → AtCondition raw ps (shown_condition c) → ps ≡ shown (added (done.Condition c) raw)
condition_shown raw ps c at = at.is
    ∙ ap (λ q. piece.Select ∷ piece.Distinct ∷ q) (asked_more (parted shown_item piece.Comma raw.items) (parted shown_from piece.Comma raw.froms) (closed shown_condition piece.And raw.conditions) (shown_condition c))
    ∙ ap (λ q. piece.Select ∷ piece.Distinct ∷ (parted shown_item piece.Comma raw.items ++ piece.From ∷ (parted shown_from piece.Comma raw.froms ++ q))) (where_push raw.conditions c)

condition_end : (raw : RawSelect) (ps : List Piece) (c : RawCondition) (last : Piece) → AtCondition raw ps (shown_condition c) → AtEnd (added (done.Condition c) raw) (ps ++ last ∷ []) last
condition_end raw ps c last at = record { items = at.items; froms = at.froms; is = ap (λ q. q ++ last ∷ []) (condition_shown raw ps c at) }

-- a state's part without a second name
item_bare : (raw : RawSelect) (ps : List Piece) (o : RawOperand) → AtItem raw ps (shown_operand o) → AtItem raw ps (shown_item (record { operand = o; alias = alias.Missing }))
item_bare raw ps o at = record { froms = at.froms; conditions = at.conditions; is = at.is ∙ ap (λ q. opened raw ++ q) (sym (append-nil (shown_operand o))) }

item_moves : (raw : RawSelect) (ps : List Piece) (item : RawItem) (p : Piece) → AtItem raw ps (shown_item item) → Moved raw (ps ++ p ∷ []) (after_item item p)
item_moves raw ps item piece.Comma at = item_closed raw ps item at
item_moves raw ps item piece.From at = item_last raw ps item at
item_moves raw ps item _ at = tt

operand_moves : (raw : RawSelect) (ps : List Piece) (o : RawOperand) (p : Piece) → AtItem raw ps (shown_operand o) → Moved raw (ps ++ p ∷ []) (after_operand o p)
operand_moves raw ps o piece.As at = item_more raw ps (shown_operand o) (shown_operand o ++ piece.As ∷ []) piece.As refl at
operand_moves raw ps o (piece.Name t) at = item_more raw ps (shown_operand o) (shown_operand o ++ piece.Name t ∷ []) (piece.Name t) refl at
operand_moves raw ps o piece.Comma at = item_moves raw ps (record { operand = o; alias = alias.Missing }) piece.Comma (item_bare raw ps o at)
operand_moves raw ps o piece.From at = item_moves raw ps (record { operand = o; alias = alias.Missing }) piece.From (item_bare raw ps o at)
operand_moves raw ps o _ at = tt

from_moves : (raw : RawSelect) (ps : List Piece) (from : RawFrom) (p : Piece) → AtFrom raw ps (shown_from from) → Moved raw (ps ++ p ∷ []) (after_from from p)
from_moves raw ps from piece.Comma at = from_closed raw ps from at
from_moves raw ps from piece.Where at = from_last raw ps from at
from_moves raw ps from piece.Union at = from_end raw ps from piece.Union at
from_moves raw ps from piece.Semicolon at = from_end raw ps from piece.Semicolon at
from_moves raw ps from _ at = tt

left_moves : (raw : RawSelect) (ps : List Piece) (l : RawOperand) (p : Piece) → AtCondition raw ps (shown_operand l) → Moved raw (ps ++ p ∷ []) (after_left l p)
left_moves raw ps l piece.Equals at = condition_more raw ps (shown_operand l) (shown_operand l ++ piece.Equals ∷ []) piece.Equals refl at
left_moves raw ps l _ at = tt

condition_moves : (raw : RawSelect) (ps : List Piece) (c : RawCondition) (p : Piece) → AtCondition raw ps (shown_condition c) → Moved raw (ps ++ p ∷ []) (after_condition c p)
condition_moves raw ps c piece.And at = condition_closed raw ps c at
condition_moves raw ps c piece.Union at = condition_end raw ps c piece.Union at
condition_moves raw ps c piece.Semicolon at = condition_end raw ps c piece.Semicolon at
condition_moves raw ps c _ at = tt

moves : (s : State) (raw : RawSelect) (ps : List Piece) (p : Piece) → IsAt s raw ps → Moved raw (ps ++ p ∷ []) (step_of s p)
moves state.Start raw ps piece.Select (e, none) = (e, ap (λ q. q ++ piece.Select ∷ []) none)
moves state.Start raw ps _ at = tt
moves state.Selected raw ps piece.Distinct (e, one) = record { froms = ap (λ (r : RawSelect). r.froms) e; conditions = ap (λ (r : RawSelect). r.conditions) e; is = ap (λ q. q ++ piece.Distinct ∷ []) one ∙ ap (λ (r : RawSelect). opened r ++ []) (sym e) }
moves state.Selected raw ps _ at = tt
moves state.Item raw ps (piece.Name t) at = item_more raw ps [] (piece.Name t ∷ []) (piece.Name t) refl at
moves state.Item raw ps (piece.Value t) at = item_more raw ps [] (piece.Value t ∷ []) (piece.Value t) refl at
moves state.Item raw ps _ at = tt
moves (state.ItemName n) raw ps piece.Dot at = item_more raw ps (piece.Name n ∷ []) (piece.Name n ∷ piece.Dot ∷ []) piece.Dot refl at
moves (state.ItemName n) raw ps p at = operand_moves raw ps (operand.Plain n) p at
moves (state.ItemDot n) raw ps (piece.Name t) at = item_more raw ps (piece.Name n ∷ piece.Dot ∷ []) (piece.Name n ∷ piece.Dot ∷ piece.Name t ∷ []) (piece.Name t) refl at
moves (state.ItemDot n) raw ps _ at = tt
moves (state.ItemOperand o) raw ps p at = operand_moves raw ps o p at
moves (state.ItemAs o) raw ps (piece.Name t) at = item_more raw ps (shown_operand o ++ piece.As ∷ []) (shown_operand o ++ piece.As ∷ piece.Name t ∷ []) (piece.Name t) (append_assoc (shown_operand o) (piece.As ∷ []) (piece.Name t ∷ [])) at
moves (state.ItemAs o) raw ps _ at = tt
moves (state.ItemEnd item) raw ps p at = item_moves raw ps item p at
moves state.From raw ps (piece.Name t) at = from_more raw ps [] (piece.Name t ∷ []) (piece.Name t) refl at
moves state.From raw ps _ at = tt
moves (state.FromName n) raw ps piece.As at = from_more raw ps (piece.Name n ∷ []) (piece.Name n ∷ piece.As ∷ []) piece.As refl at
moves (state.FromName n) raw ps (piece.Name t) at = from_more raw ps (piece.Name n ∷ []) (piece.Name n ∷ piece.Name t ∷ []) (piece.Name t) refl at
moves (state.FromName n) raw ps p at = from_moves raw ps (record { relation = n; alias = alias.Missing }) p at
moves (state.FromAs n) raw ps (piece.Name t) at = from_more raw ps (piece.Name n ∷ piece.As ∷ []) (piece.Name n ∷ piece.As ∷ piece.Name t ∷ []) (piece.Name t) refl at
moves (state.FromAs n) raw ps _ at = tt
moves (state.FromEnd from) raw ps p at = from_moves raw ps from p at
moves state.Left raw ps (piece.Name t) at = condition_more raw ps [] (piece.Name t ∷ []) (piece.Name t) refl at
moves state.Left raw ps (piece.Value t) at = condition_more raw ps [] (piece.Value t ∷ []) (piece.Value t) refl at
moves state.Left raw ps _ at = tt
moves (state.LeftName n) raw ps piece.Dot at = condition_more raw ps (piece.Name n ∷ []) (piece.Name n ∷ piece.Dot ∷ []) piece.Dot refl at
moves (state.LeftName n) raw ps p at = left_moves raw ps (operand.Plain n) p at
moves (state.LeftDot n) raw ps (piece.Name t) at = condition_more raw ps (piece.Name n ∷ piece.Dot ∷ []) (piece.Name n ∷ piece.Dot ∷ piece.Name t ∷ []) (piece.Name t) refl at
moves (state.LeftDot n) raw ps _ at = tt
moves (state.LeftEnd l) raw ps p at = left_moves raw ps l p at
moves (state.Right l) raw ps (piece.Name t) at = condition_more raw ps (shown_operand l ++ piece.Equals ∷ []) (shown_operand l ++ piece.Equals ∷ piece.Name t ∷ []) (piece.Name t) (append_assoc (shown_operand l) (piece.Equals ∷ []) (piece.Name t ∷ [])) at
moves (state.Right l) raw ps (piece.Value t) at = condition_more raw ps (shown_operand l ++ piece.Equals ∷ []) (shown_operand l ++ piece.Equals ∷ piece.Value t ∷ []) (piece.Value t) (append_assoc (shown_operand l) (piece.Equals ∷ []) (piece.Value t ∷ [])) at
moves (state.Right l) raw ps _ at = tt
moves (state.RightName l n) raw ps piece.Dot at = condition_more raw ps (shown_operand l ++ piece.Equals ∷ piece.Name n ∷ []) (shown_operand l ++ piece.Equals ∷ piece.Name n ∷ piece.Dot ∷ []) piece.Dot (append_assoc (shown_operand l) (piece.Equals ∷ piece.Name n ∷ []) (piece.Dot ∷ [])) at
moves (state.RightName l n) raw ps p at = condition_moves raw ps (record { left = l; right = operand.Plain n }) p at
moves (state.RightDot l n) raw ps (piece.Name t) at = condition_more raw ps (shown_operand l ++ piece.Equals ∷ piece.Name n ∷ piece.Dot ∷ []) (shown_operand l ++ piece.Equals ∷ piece.Name n ∷ piece.Dot ∷ piece.Name t ∷ []) (piece.Name t) (append_assoc (shown_operand l) (piece.Equals ∷ piece.Name n ∷ piece.Dot ∷ []) (piece.Name t ∷ [])) at
moves (state.RightDot l n) raw ps _ at = tt
moves (state.RightEnd c) raw ps p at = condition_moves raw ps c p at
moves state.End raw ps p at = tt

-- the pieces are this select, and one semicolon may follow
pub record IsSelectText (raw : RawSelect) (pieces : List Piece) : Type 0 where
  pub items : raw.items ≢ []
  pub froms : raw.froms ≢ []
  pub written : (pieces ≡ shown raw) ⊎ (pieces ≡ shown raw ++ piece.Semicolon ∷ [])

-- where the end is listed, the pieces are the select
abbrev IsEnded : RawSelect → List Piece → Option Done → Type 0
IsEnded raw ps None = Unit {0}
IsEnded raw ps (Some d) = IsSelectText (added d raw) ps

ends : (s : State) (raw : RawSelect) (ps : List Piece) → IsAt s raw ps → IsEnded raw ps (ending_of s)
ends (state.FromName n) raw ps at = record { items = at.items; froms = not_empty raw.froms (record { relation = n; alias = alias.Missing }); written = inl (from_shown raw ps (record { relation = n; alias = alias.Missing }) at) }
ends (state.FromEnd from) raw ps at = record { items = at.items; froms = not_empty raw.froms from; written = inl (from_shown raw ps from at) }
ends (state.RightName l n) raw ps at = record { items = at.items; froms = at.froms; written = inl (condition_shown raw ps (record { left = l; right = operand.Plain n }) at) }
ends (state.RightEnd c) raw ps at = record { items = at.items; froms = at.froms; written = inl (condition_shown raw ps c at) }
ends state.End raw ps at = record { items = at.items; froms = at.froms; written = inr at.is }
ends _ raw ps at = tt

-- what the selects that are finished have
pub record AreWhole (raws : List RawSelect) : Type 0 where
  pub items : (raw : RawSelect) → Contains raws raw → raw.items ≢ []
  pub froms : (raw : RawSelect) → Contains raws raw → raw.froms ≢ []

-- one select more
one_more : (raws : List RawSelect) (raw : RawSelect) → AreWhole raws → raw.items ≢ [] → raw.froms ≢ [] → AreWhole (raws ++ raw ∷ [])
one_more raws raw whole items froms = record {
  items = λ other c. ⊎_elim (λ h. whole.items other h) (λ h. subst (λ (r : RawSelect). r.items ≢ []) (contains_one raw other h) items) (Contains-append_cases raws (raw ∷ []) other c);
  froms = λ other c. ⊎_elim (λ h. whole.froms other h) (λ h. subst (λ (r : RawSelect). r.froms ≢ []) (contains_one raw other h) froms) (Contains-append_cases raws (raw ∷ []) other c);
}

push_long : {X : Type 0} (xs : List X) (x : X) → 1 ≤ length (xs ++ x ∷ [])
push_long [] x = omega arith
push_long (y ∷ xs) x = omega arith

-- the selects that are finished and the last one are a query
query_of : (raws : List RawSelect) (raw : RawSelect) (ps : List Piece) → AreWhole raws → IsSelectText raw ps → IsText (raws ++ raw ∷ []) (closed shown piece.Union raws ++ ps)
query_of raws raw ps whole is = let more = one_more raws raw whole is.items is.froms in record {
  some = push_long raws raw;
  items = more.items;
  froms = more.froms;
  written = ⊎_elim
      (λ e. inl (ap (λ q. closed shown piece.Union raws ++ q) e ∙ parted_push shown piece.Union raws raw))
      (λ e. inr (ap (λ q. closed shown piece.Union raws ++ q) e ∙ sym (append_assoc (closed shown piece.Union raws) (shown raw) (piece.Semicolon ∷ [])) ∙ ap (λ q. q ++ piece.Semicolon ∷ []) (parted_push shown piece.Union raws raw)))
      is.written;
}

-- where reading stands: the selects that are finished, each with `union`, and the one that is being read
pub record Stands (s : State) (walk : Walk) (before : List Piece) : Type 0 where
  pub whole : AreWhole walk.finished
  pub now : List Piece
  pub is : IsAt s walk.raw now
  pub all : before ≡ closed shown piece.Union walk.finished ++ now

-- a step leads to where the next one stands
stands_next : (s : State) (walk : Walk) (ps : List Piece) (before : List Piece) → AreWhole walk.finished → IsReached s walk.raw ps → before ≡ closed shown piece.Union walk.finished ++ ps → Stands s (entered s walk) before
stands_next state.Start walk ps before whole at e = record {
  whole = one_more walk.finished walk.raw whole at.items at.froms;
  now = [];
  is = (refl, refl);
  all = e ∙ ap (λ q. closed shown piece.Union walk.finished ++ q) at.is
      ∙ sym (append_assoc (closed shown piece.Union walk.finished) (shown walk.raw) (piece.Union ∷ []))
      ∙ sym (closed_push shown piece.Union walk.finished walk.raw)
      ∙ sym (append-nil (closed shown piece.Union (walk.finished ++ walk.raw ∷ [])));
}
stands_next _ walk ps before whole at e = record { whole = whole; now = ps; is = at; all = e }

-- what is read is a query as it is written
pub read_sound : (s : State) (walk : Walk) (before left : List Piece) (final : List RawSelect) → Stands s walk before → read s walk left ≡ Ok final → IsText final (before ++ left)
read_sound s walk before [] final at e = go (ending_of s) (ends s walk.raw at.now at.is) e
  where
    go : (found : Option Done) → IsEnded walk.raw at.now found → ended found walk ≡ Ok final → IsText final (before ++ [])
    go None is e = absurd (cc)
    go (Some d) is e =
        let same : walk.finished ++ added d walk.raw ∷ [] ≡ final = cc in
        subst (λ r. IsText r (before ++ [])) same
        (subst (λ q. IsText (walk.finished ++ added d walk.raw ∷ []) q) (sym (append-nil before ∙ at.all)) (query_of walk.finished (added d walk.raw) at.now at.whole is))
read_sound s walk before (p ∷ left) final at e = go (step_of s p) (moves s walk.raw at.now p at.is) e (λ s' walk' at' e'. read_sound s' walk' (before ++ p ∷ []) left final at' e')
  where
    go : (found : Option (State × Done)) → Moved walk.raw (at.now ++ p ∷ []) found → moved found walk (p ∷ left) (λ s' walk'. read s' walk' left) ≡ Ok final →
        ((s' : State) (walk' : Walk) → Stands s' walk' (before ++ p ∷ []) → read s' walk' left ≡ Ok final → IsText final ((before ++ p ∷ []) ++ left)) → IsText final (before ++ p ∷ left)
    go None is e rec = absurd (cc)
    go (Some (s', d)) is e rec = subst (λ q. IsText final q) (append_assoc before (p ∷ []) left)
        (rec s' (entered s' (kept d walk)) (stands_next s' (kept d walk) (at.now ++ p ∷ []) (before ++ p ∷ []) at.whole is (ap (λ q. q ++ p ∷ []) at.all ∙ append_assoc (closed shown piece.Union walk.finished) at.now (p ∷ []))) e)

nothing_whole : AreWhole []
nothing_whole = record { items = λ raw c. absurd (contains_none raw c); froms = λ raw c. absurd (contains_none raw c) }

pub all_sound : (left : List Piece) (final : List RawSelect) → read state.Start started left ≡ Ok final → IsText final left
all_sound left final e = read_sound state.Start started [] left final (record { whole = nothing_whole; now = []; is = (refl, refl); all = refl }) e
