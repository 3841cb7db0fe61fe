-- What a pass uses of the rule order: rules that stand before a rule come earlier, and no rule feeds itself or an
-- earlier one.
use Rattle.std.proofs.Common.{◌≡◌, ℕ, zero, suc, ◌+◌, ◌<◌, ◌≤◌, List, [], ◌∷◌, length, Some, refl, sym, ap, ◌∙◌, subst, ⊎_elim, arith, Contains, take, slice_get, slice_index_or}
use Rattle.std.proofs.lemmas.Bool.{cases_lt}
use Rattle.std.proofs.lemmas.Option.{slice_get_within}
use Rattle.lists.proofs.Members.{contains_got, some_injective}
use Rattle.meaning.specs.declared.types.Atom.{Atom}
use Rattle.meaning.specs.declared.types.Rule.{Rule}
use Rattle.meaning.specs.RuleOrder.{IsFed, IsRuleLevel, StandsBefore}
use Rattle.rule_pass.specs.Order.{IsRuleOrder}

-- The rule makes no fact of a relation of the other's body.
abbrev pub FeedsNot : Rule → Rule → Type 0
FeedsNot rule other = (made read : Atom) → Contains rule.head made → Contains other.body read → made.rel ≡ read.rel → ⊥

levels_same : (rules : List Rule) (rule : Rule) (m n : ℕ) → IsRuleLevel rules rule m → IsRuleLevel rules rule n → m ≡ n
levels_same rules rule m n a b =
    let (x, in_x, lx) = a.reached in let (y, in_y, ly) = b.reached in
    let p : m ≤ n = b.greatest x m in_x lx in let q : n ≤ m = a.greatest y n in_y ly in omega arith

not_both : (rules : List Rule) (i j : ℕ) → StandsBefore rules i j → StandsBefore rules j i → ⊥
not_both rules i j a b =
    let one : a.first ≡ b.second = some_injective a.first b.second (sym a.first_is ∙ b.second_is) in
    let two : a.second ≡ b.first = some_injective a.second b.first (sym a.second_is ∙ b.first_is) in
    let low : a.low ≡ b.high = levels_same rules b.second a.low b.high (subst (λ r. IsRuleLevel rules r a.low) one a.first_level) b.second_level in
    let high : a.high ≡ b.low = levels_same rules b.first a.high b.low (subst (λ r. IsRuleLevel rules r a.high) two a.second_level) b.first_level in
    ⊎_elim (λ x. ⊎_elim (λ y. omega arith) (λ (y, z). omega arith) b.before) (λ (x, w). ⊎_elim (λ y. omega arith) (λ (y, z). omega arith) b.before) a.before

default : (xs : List ℕ) (i d e : ℕ) → i < length xs → slice_index_or xs i d ≡ slice_index_or xs i e
default [] i d e l = absurd (omega arith)
default (x ∷ xs) zero d e l = refl
default (x ∷ xs) (suc i) d e l = default xs i d e (omega arith)

in_take : (order : List ℕ) (p k j : ℕ) → p < k → p < length order → slice_index_or order p 0 ≡ j → Contains (take k order) j
in_take [] p k j l m e = absurd (omega arith)
in_take (x ∷ order) p zero j l m e = absurd (omega arith)
in_take (x ∷ order) zero (suc k) j l m e = (0, omega arith, e)
in_take (x ∷ order) (suc p) (suc k) j l m e = let (q, n, f) = in_take order p k j (omega arith) (omega arith) e in (suc q, omega arith, f)

from_take : (order : List ℕ) (k j : ℕ) → Contains (take k order) j → (p : ℕ) × (p < k) × (p < length order) × (slice_index_or order p 0 ≡ j)
from_take [] zero j (q, n, f) = absurd (omega arith)
from_take [] (suc k) j (q, n, f) = absurd (omega arith)
from_take (x ∷ order) zero j (q, n, f) = absurd (omega arith)
from_take (x ∷ order) (suc k) j (zero, n, f) = (0, omega arith, omega arith, f)
from_take (x ∷ order) (suc k) j (suc q, n, f) = let (p, a, b, e) = from_take order k j (q, omega arith, f) in (suc p, omega arith, omega arith, e)

pub stands_earlier : (rules : List Rule) (order : List ℕ) → IsRuleOrder rules order → (k i j : ℕ) → k < length order → i ≡ slice_index_or order k 0 → StandsBefore rules j i → Contains (take k order) j
stands_earlier rules order ordered k i j l is stands =
    let (p, fits, e) = ordered.each j (slice_get_within rules j stands.first stands.first_is) in
    let at : slice_index_or order p 0 ≡ j = default order p 0 j fits ∙ e in
    ⊎_elim (λ earlier. in_take order p k j earlier fits at)
    (λ not. ⊎_elim
    (λ later. absurd (not_both rules i j (subst (λ m. StandsBefore rules m j) (sym is) (subst (StandsBefore rules (slice_index_or order k 0)) at (ordered.ascends k p later fits))) stands))
    (λ not_later.
    let here : p ≡ k = omega arith in
    let same : j ≡ i = sym at ∙ ap (λ z. slice_index_or order z 0) here ∙ sym is in
    let itself : StandsBefore rules i i = subst (λ m. StandsBefore rules m i) same stands in
    absurd (not_both rules i i itself itself))
    (cases_lt k p))
    (cases_lt p k)

-- a rule that feeds another has a lower level
feeding : (rules : List Rule) (order : List ℕ) (rule other : Rule) (low high : ℕ) (made read : Atom) → IsRuleOrder rules order → Contains rules rule → IsRuleLevel rules other low → IsRuleLevel rules rule high
    → Contains rule.head made → Contains other.body read → made.rel ≡ read.rel → high < low
feeding rules order rule other low high made read ordered of_rules its_level level in_head in_body same =
    let (atom, in_rule, reached) = level.reached in
    let fed : IsFed rules read.rel (suc high) = (
      atom.rel,
      record { rule = rule; body = atom; head = made; of_rules = of_rules; in_body = in_rule; in_head = in_head; reads = refl; makes = same },
      reached.reached,
    ) in
    let (top, is) = ordered.levels read.rel in
    let up : suc high ≤ top = is.greatest (suc high) fed in
    let most : top ≤ low = its_level.greatest read top in_body is in
    omega arith

-- no rule feeds itself
feeds_not_itself : (rules : List Rule) (order : List ℕ) (rule : Rule) → IsRuleOrder rules order → Contains rules rule → FeedsNot rule rule
feeds_not_itself rules order rule ordered of_rules made read in_head in_body same =
    let (top, is) = ordered.levels read.rel in
    let fed : IsFed rules read.rel (suc top) = (
      read.rel,
      record { rule = rule; body = read; head = made; of_rules = of_rules; in_body = in_body; in_head = in_head; reads = refl; makes = same },
      is.reached,
    ) in
    let up : suc top ≤ top = is.greatest (suc top) fed in
    omega arith

pub feeds_no_earlier : (rules : List Rule) (order : List ℕ) → IsRuleOrder rules order → (k i j : ℕ) (rule other : Rule) → k < length order → i ≡ slice_index_or order k 0 → Contains (take (k + 1) order) j
    → slice_get rules i ≡ Some rule → slice_get rules j ≡ Some other → FeedsNot rule other
feeds_no_earlier rules order ordered k i j rule other l is among got other_got =
    let (p, below, fits, at) = from_take order (k + 1) j among in
    ⊎_elim
    (λ earlier.
    let stands : StandsBefore rules j i = subst (StandsBefore rules j) (sym is) (subst (λ m. StandsBefore rules m (slice_index_or order k 0)) at (ordered.ascends p k earlier l)) in
    let one : stands.first ≡ other = some_injective stands.first other (sym stands.first_is ∙ other_got) in
    let two : stands.second ≡ rule = some_injective stands.second rule (sym stands.second_is ∙ got) in
    λ made read in_head in_body same.
    let less = feeding rules order rule other stands.low stands.high made read ordered (contains_got rules i rule got)
    (subst (λ r. IsRuleLevel rules r stands.low) one stands.first_level) (subst (λ r. IsRuleLevel rules r stands.high) two stands.second_level) in_head in_body same in
    ⊎_elim (λ x. omega arith) (λ (x, y). omega arith) stands.before)
    (λ not.
    let here : p ≡ k = omega arith in
    let equal : j ≡ i = sym at ∙ ap (λ z. slice_index_or order z 0) here ∙ sym is in
    let one : rule ≡ other = some_injective rule other (sym got ∙ ap (slice_get rules) (sym equal) ∙ other_got) in
    subst (FeedsNot rule) one (feeds_not_itself rules order rule ordered (contains_got rules i rule got)))
    (cases_lt p k)

-- what stands at a place of the order is a rule's number
pub order_below : (rules : List Rule) (order : List ℕ) (k : ℕ) → IsRuleOrder rules order → k < length order → slice_index_or order k 0 < length rules
order_below rules order k ordered l = ordered.within (slice_index_or order k 0) (k, l, default order k (slice_index_or order k 0) 0 l)
