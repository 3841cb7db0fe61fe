-- One step of the table of places, with what has been read of the part that stands there.
use Rattle.std.specs.Prelude.{Option, Some, None}
use Rattle.sql_select.specs.declared.piece.Piece.{Piece}
use Rattle.sql_select.specs.declared.piece.Piece.TheVariants as piece
use Rattle.sql_select.specs.declared.piece.RawOperand.{RawOperand}
use Rattle.sql_select.specs.declared.piece.RawOperand.TheVariants as operand
use Rattle.sql_select.specs.declared.piece.Alias.TheVariants as alias
use Rattle.sql_select.specs.declared.piece.RawItem.{RawItem}
use Rattle.sql_select.specs.declared.piece.RawFrom.{RawFrom}
use Rattle.sql_select.specs.declared.piece.RawCondition.{RawCondition}
use Rattle.sql_select.specs.declared.state.State.{State}
use Rattle.sql_select.specs.declared.state.State.TheVariants as state
use Rattle.sql_select.specs.declared.state.Done.{Done}
use Rattle.sql_select.specs.declared.state.Done.TheVariants as done

abbrev pub to : State → Option (State × Done)
to s = Some (s, done.Nothing)

abbrev pub after_item : RawItem → Piece → Option (State × Done)
after_item item piece.Comma = Some (state.Item, done.Item item)
after_item item piece.From = Some (state.From, done.Item item)
after_item item _ = None

abbrev pub after_operand : RawOperand → Piece → Option (State × Done)
after_operand o piece.As = to (state.ItemAs o)
after_operand o (piece.Name token) = to (state.ItemEnd (record { operand = o; alias = alias.Alone token }))
after_operand o p = after_item (record { operand = o; alias = alias.Missing }) p

abbrev pub after_from : RawFrom → Piece → Option (State × Done)
after_from from piece.Comma = Some (state.From, done.From from)
after_from from piece.Where = Some (state.Left, done.From from)
after_from from piece.Union = Some (state.Start, done.From from)
after_from from piece.Semicolon = Some (state.End, done.From from)
after_from from _ = None

abbrev pub after_left : RawOperand → Piece → Option (State × Done)
after_left left piece.Equals = to (state.Right left)
after_left left _ = None

abbrev pub after_condition : RawCondition → Piece → Option (State × Done)
after_condition condition piece.And = Some (state.Left, done.Condition condition)
after_condition condition piece.Union = Some (state.Start, done.Condition condition)
after_condition condition piece.Semicolon = Some (state.End, done.Condition condition)
after_condition condition _ = None

abbrev pub step_of : State → Piece → Option (State × Done)
step_of state.Start piece.Select = to state.Selected
step_of state.Start _ = None
step_of state.Selected piece.Distinct = to state.Item
step_of state.Selected _ = None
step_of state.Item (piece.Name token) = to (state.ItemName token)
step_of state.Item (piece.Value token) = to (state.ItemOperand (operand.Value token))
step_of state.Item _ = None
step_of (state.ItemName name) piece.Dot = to (state.ItemDot name)
step_of (state.ItemName name) p = after_operand (operand.Plain name) p
step_of (state.ItemDot prefix) (piece.Name token) = to (state.ItemOperand (operand.Prefixed prefix token))
step_of (state.ItemDot prefix) _ = None
step_of (state.ItemOperand o) p = after_operand o p
step_of (state.ItemAs o) (piece.Name token) = to (state.ItemEnd (record { operand = o; alias = alias.After token }))
step_of (state.ItemAs o) _ = None
step_of (state.ItemEnd item) p = after_item item p
step_of state.From (piece.Name token) = to (state.FromName token)
step_of state.From _ = None
step_of (state.FromName relation) piece.As = to (state.FromAs relation)
step_of (state.FromName relation) (piece.Name token) = to (state.FromEnd (record { relation = relation; alias = alias.Alone token }))
step_of (state.FromName relation) p = after_from (record { relation = relation; alias = alias.Missing }) p
step_of (state.FromAs relation) (piece.Name token) = to (state.FromEnd (record { relation = relation; alias = alias.After token }))
step_of (state.FromAs relation) _ = None
step_of (state.FromEnd from) p = after_from from p
step_of state.Left (piece.Name token) = to (state.LeftName token)
step_of state.Left (piece.Value token) = to (state.LeftEnd (operand.Value token))
step_of state.Left _ = None
step_of (state.LeftName name) piece.Dot = to (state.LeftDot name)
step_of (state.LeftName name) p = after_left (operand.Plain name) p
step_of (state.LeftDot prefix) (piece.Name token) = to (state.LeftEnd (operand.Prefixed prefix token))
step_of (state.LeftDot prefix) _ = None
step_of (state.LeftEnd left) p = after_left left p
step_of (state.Right left) (piece.Name token) = to (state.RightName left token)
step_of (state.Right left) (piece.Value token) = to (state.RightEnd (record { left = left; right = operand.Value token }))
step_of (state.Right left) _ = None
step_of (state.RightName left name) piece.Dot = to (state.RightDot left name)
step_of (state.RightName left name) p = after_condition (record { left = left; right = operand.Plain name }) p
step_of (state.RightDot left prefix) (piece.Name token) = to (state.RightEnd (record { left = left; right = operand.Prefixed prefix token }))
step_of (state.RightDot left prefix) _ = None
step_of (state.RightEnd condition) p = after_condition condition p
step_of state.End _ = None

-- what ends with the text
abbrev pub ending_of : State → Option Done
ending_of (state.FromName relation) = Some (done.From (record { relation = relation; alias = alias.Missing }))
ending_of (state.FromEnd from) = Some (done.From from)
ending_of (state.RightName left name) = Some (done.Condition (record { left = left; right = operand.Plain name }))
ending_of (state.RightEnd condition) = Some (done.Condition condition)
ending_of state.End = Some done.Nothing
ending_of _ = None
