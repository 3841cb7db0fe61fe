-- How rounds that were asked whole follow one another.
use Rattle.std.proofs.Common.{◌≡◌, ◌∙◌, ℕ, zero, suc, List, length, ap, subst}
use Rattle.std.specs.Prelude.{Result}
use denote.Ref.{Bor, MutBor}
use Rattle.request_rounds.specs.Rounds.{AsksSo, Went}
use Rattle.request_rounds.specs.declared.rounds.Turned.{Turned}
use Rattle.request_rounds.specs.declared.rounds.Reached.{Reached}

-- what holds behind each call of `ask` holds of what was asked
pub asked_so : {T A E L : Type 0} (ask : Bor T → MutBor (List L) → Result A E → MutBor (List L) → Type 0)
    (Q : T → List L → Result A E → List L → Type 0)
    → ((shown : Bor T) (lent : MutBor (List L)) (result : Result A E) (left : MutBor (List L)) → ask shown lent result left
    → Q shown.now lent.now result left.now)
    → (what : T) (before : List L) (result : Result A E) (after : List L) → AsksSo ask what before result after
    → Q what before result after
asked_so {L = L} ask Q holds what before result after a =
    subst (λ l. Q what before result l) a.left_is
    (subst (λ l. Q what l result a.left.now) a.lent_is
    (subst (λ t. Q t a.lent.now result a.left.now) a.shown_is (holds a.shown a.lent result a.left a.called)))

module _ {P T A E L M N : Type 0} (turn : P → Result (Turned T) M → Type 0)
    (ask : Bor T → MutBor (List L) → Result A E → MutBor (List L) → Type 0) (take : T → A → Result P N → Type 0)
    (cap : ℕ) (start : Reached P) (old : List L) where
  -- there are as many lanes behind them
  pub went_long : (n : ℕ) (reached : Reached P) (new : List L) → Went turn ask take cap n start old reached new → length new ≡ length old
  went_long zero reached new (is, same) = ap length same
  went_long (suc n) reached new (r, middle, went, goes) = goes.long ∙ went_long n r middle went
