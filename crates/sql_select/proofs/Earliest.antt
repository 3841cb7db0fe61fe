-- The first of faults, by their ranks.
use Rattle.std.proofs.Common.{◌≡◌, ◌⊎◌, ◌≤◌, ◌<◌, ap, inl, inr, ⊎_elim, arith, Bool, true, false}
use Rattle.std.specs.Prelude.{Option, Some, None, nat_le, if◌then◌else◌}
use Rattle.std.proofs.lemmas.Bool.Decides.{leb_tells}
use Rattle.sql_select.specs.declared.named.NameFault.{NameFault}
use Rattle.sql_select.specs.declared.named.NameFault.TheVariants as fault
use Rattle.sql_select.specs.Names.{rank_of, IsFirst}
use Rattle.sql_select.specs.Resolving.{earlier}

-- The answer is the first of the faults, and none comes exactly where there is none.
abbrev pub Answers : (NameFault → Type 0) → Option NameFault → Type 0
Answers IsOne None = (f : NameFault) → IsOne f → ⊥
Answers IsOne (Some f) = IsFirst IsOne f

pub same_answer : (P Q : NameFault → Type 0) → ((f : NameFault) → P f → Q f) → ((f : NameFault) → Q f → P f) → (r : Option NameFault) → Answers P r → Answers Q r
same_answer P Q to from None none = λ f is. none f (from f is)
same_answer P Q to from (Some f) (is, least) = (to f is, (λ other o. least other (from other o)))

pub either_answer : (P Q : NameFault → Type 0) (new first : Option NameFault) → Answers P new → Answers Q first → Answers (λ f. Q f ⊎ P f) (earlier new first)
either_answer P Q None None none clean = λ f is. ⊎_elim (clean f) (none f) is
either_answer P Q None (Some g) none (is, least) = (inl is, (λ other o. ⊎_elim (least other) (λ p. absurd (none other p)) o))
either_answer P Q (Some f) None (is, least) clean = (inr is, (λ other o. ⊎_elim (λ q. absurd (clean other q)) (least other) o))
either_answer P Q (Some f) (Some g) (is, least) (is', least') = go (nat_le (rank_of g) (rank_of f)) (leb_tells (rank_of g) (rank_of f))
  where
    go : (below : Bool) → ((below ≡ true) × (rank_of g ≤ rank_of f)) ⊎ ((below ≡ false) × (rank_of f < rank_of g)) →
        Answers (λ h. Q h ⊎ P h) (if below then Some g else Some f)
    go true told = (inl is', (λ other o. ⊎_elim (least' other) (λ p. ⊎_elim (λ t. let l = least other p in let b = t.1 in omega (arith, l, b)) (λ t. let never : true ≡ false = t.0 in absurd (cc)) told) o))
    go false told = (inr is, (λ other o. ⊎_elim (λ q. ⊎_elim (λ t. let never : false ≡ true = t.0 in absurd (cc)) (λ t. let l = least' other q in let b = t.1 in omega (arith, l, b)) told) (least other) o))

-- a rank is that of one fault
pub one_rank : (f g : NameFault) → rank_of f ≡ rank_of g → f ≡ g
one_rank (fault.Unknown a) (fault.Unknown b) e = ap (λ n. fault.Unknown n) (omega arith)
one_rank (fault.Unknown a) (fault.Ambiguous b) e = absurd (omega arith)
one_rank (fault.Ambiguous a) (fault.Unknown b) e = absurd (omega arith)
one_rank (fault.Ambiguous a) (fault.Ambiguous b) e = ap (λ n. fault.Ambiguous n) (omega arith)

-- and so there is one first fault
pub one_first : (P : NameFault → Type 0) (f g : NameFault) → IsFirst P f → IsFirst P g → f ≡ g
one_first P f g (is, least) (is', least') = let l = least g is' in let l' = least' f is in one_rank f g (omega (arith, l, l'))
