-- The states follow the table of places.
use Rattle.std.proofs.Common.{◌≡◌, refl}
use Rattle.std.specs.Prelude.{Option, Some, None}
use Rattle.sql_select.specs.declared.piece.Piece.{Piece}
use Rattle.sql_select.specs.declared.piece.Piece.TheVariants as piece
use Rattle.sql_select.specs.declared.state.State.{State}
use Rattle.sql_select.specs.declared.state.State.TheVariants as state
use Rattle.sql_select.specs.declared.state.Done.{Done}
use Rattle.sql_select.specs.Steps.{step_of}
use Rattle.sql_select.specs.Grammar.{Place, S0, S1, I0, I1, I2, I3, I4, I5, F0, F1, F2, F3, C0, C1, C2, C3, C4, C5, C6, C7, E, next}

abbrev pub place_of : State → Place
place_of state.Start = S0
place_of state.Selected = S1
place_of state.Item = I0
place_of (state.ItemName n) = I1
place_of (state.ItemDot n) = I2
place_of (state.ItemOperand o) = I3
place_of (state.ItemAs o) = I4
place_of (state.ItemEnd item) = I5
place_of state.From = F0
place_of (state.FromName n) = F1
place_of (state.FromAs n) = F2
place_of (state.FromEnd from) = F3
place_of state.Left = C0
place_of (state.LeftName n) = C1
place_of (state.LeftDot n) = C2
place_of (state.LeftEnd l) = C3
place_of (state.Right l) = C4
place_of (state.RightName l n) = C5
place_of (state.RightDot l n) = C6
place_of (state.RightEnd c) = C7
place_of state.End = E

abbrev pub placed : Option (State × Done) → Option Place
placed None = None
placed (Some (s, d)) = Some (place_of s)

-- a step leads to the place that the table lists, and there is none where it lists nothing
pub follows : (s : State) (p : Piece) → placed (step_of s p) ≡ next (place_of s) p
follows state.Start piece.Other = refl
follows state.Start _ = refl
follows state.Selected piece.Other = refl
follows state.Selected _ = refl
follows state.Item piece.Other = refl
follows state.Item _ = refl
follows (state.ItemName n) piece.Other = refl
follows (state.ItemName n) _ = refl
follows (state.ItemDot n) piece.Other = refl
follows (state.ItemDot n) _ = refl
follows (state.ItemOperand o) piece.Other = refl
follows (state.ItemOperand o) _ = refl
follows (state.ItemAs o) piece.Other = refl
follows (state.ItemAs o) _ = refl
follows (state.ItemEnd item) piece.Other = refl
follows (state.ItemEnd item) _ = refl
follows state.From piece.Other = refl
follows state.From _ = refl
follows (state.FromName n) piece.Other = refl
follows (state.FromName n) _ = refl
follows (state.FromAs n) piece.Other = refl
follows (state.FromAs n) _ = refl
follows (state.FromEnd from) piece.Other = refl
follows (state.FromEnd from) _ = refl
follows state.Left piece.Other = refl
follows state.Left _ = refl
follows (state.LeftName n) piece.Other = refl
follows (state.LeftName n) _ = refl
follows (state.LeftDot n) piece.Other = refl
follows (state.LeftDot n) _ = refl
follows (state.LeftEnd l) piece.Other = refl
follows (state.LeftEnd l) _ = refl
follows (state.Right l) piece.Other = refl
follows (state.Right l) _ = refl
follows (state.RightName l n) piece.Other = refl
follows (state.RightName l n) _ = refl
follows (state.RightDot l n) piece.Other = refl
follows (state.RightDot l n) _ = refl
follows (state.RightEnd c) piece.Other = refl
follows (state.RightEnd c) _ = refl
follows state.End piece.Other = refl
follows state.End _ = refl
