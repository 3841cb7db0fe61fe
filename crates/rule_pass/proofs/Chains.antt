-- A chain of feeding through rules that are not recursive fires each rule at most once, so it has no more steps than
-- there are rules. Each rule of a chain makes a relation that leads to the chain's end; a rule that came twice would
-- make a relation that leads to one that it reads.
use Rattle.std.proofs.Common.{◌≡◌, ◌⊎◌, ◌∙◌, ◌≤◌, ℕ, zero, suc, List, [], ◌∷◌, ◌++◌, true, false, Some, length, slice_get, eqb, refl, sym, ap, subst, inl, inr, ⊎_elim, arith}
use Rattle.std.specs.Prelude.{Contains}
use Rattle.std.specs.List.{AllByRecursion, IsDistinct, list_any}
use Rattle.std.proofs.lemmas.Bool.{cases_Bool}
use Rattle.std.proofs.lemmas.Bool.Decides.{nat_tests}
use Rattle.std.proofs.lemmas.Map.Steps.{length-le_from_distinct_below}
use Rattle.std.proofs.lemmas.Option.{slice_get-get_or, slice_get_within}
use Rattle.lists.proofs.Members.{contains_got, some_injective}
use Rattle.meaning.specs.declared.types.Atom.{Atom}
use Rattle.meaning.specs.declared.types.Rule.{Rule}
use Rattle.meaning.specs.RuleOrder.{Feeds, IsFed}
use Rattle.access_schema.specs.Feeding.{IsChain, AreNonRecursive}
use Rattle.access_schema.proofs.Circles.{chain_on}
use Rattle.rule_pass.specs.Levels.{AreShort}

-- The one relation is the other, or a chain of feeding leads from it to the other.
Leads : List Rule → ℕ → ℕ → Type 0
Leads rules source target = (source ≡ target) ⊎ ((between : List ℕ) × IsChain (Feeds rules) source between target)

leads_on : (rules : List Rule) (source middle target : ℕ) → Leads rules source middle → Feeds rules middle target → Leads rules source target
unfolding Leads
leads_on rules source middle target (inl same) step = inr ([], subst (λ r. Feeds rules r target) (sym same) step)
leads_on rules source middle target (inr (between, chain)) step = inr (between ++ middle ∷ [], chain_on (Feeds rules) source between middle target chain step)

-- The rule of this number makes a relation that leads to this one.
record IsUsed (rules : List Rule) (rel number : ℕ) : Type 0 where
  rule : Rule
  numbered : slice_get rules number ≡ Some rule
  head : Atom
  in_head : Contains rule.head head
  leads : Leads rules head.rel rel

used_on : (rules : List Rule) (source target number : ℕ) → Feeds rules source target → IsUsed rules source number → IsUsed rules target number
used_on rules source target number step used = record {
  rule = used.rule;
  numbered = used.numbered;
  head = used.head;
  in_head = used.in_head;
  leads = leads_on rules used.head.rel source target used.leads step;
}

-- The distinct rules of a chain.
record IsChained (rules : List Rule) (rel n : ℕ) : Type 0 where
  used : List ℕ
  long : length used ≡ n
  apart : IsDistinct eqb used
  each : (number : ℕ) → list_any (eqb number) used ≡ true → IsUsed rules rel number

fresh : (number : ℕ) (used : List ℕ) → (list_any (eqb number) used ≡ true → ⊥) → AllByRecursion (λ other. eqb number other ≡ false) used
fresh number [] not = tt
fresh number (other ∷ used) not = ⊎_elim
    (λ same. absurd (not (rw same refl)))
    (λ differs. (differs, fresh number used (λ among. not (rw differs among))))
    (cases_Bool (eqb number other))

-- A rule that is used cannot read the relation that its own lead to.
not_again : (rules : List Rule) (source number : ℕ) (rule : Rule) (body : Atom) → AreNonRecursive rules → slice_get rules number ≡ Some rule → Contains rule.body body → body.rel ≡ source → IsUsed rules source number → ⊥
unfolding Leads
not_again rules source number rule body straight numbered in_body reads used =
    let same : used.rule ≡ rule = some_injective used.rule rule (sym used.numbered ∙ numbered) in
    let step : Feeds rules source used.head.rel = record {
      rule = rule;
      body = body;
      head = used.head;
      of_rules = contains_got rules number rule numbered;
      in_body = in_body;
      in_head = subst (λ (r : Rule). Contains r.head used.head) same used.in_head;
      reads = reads;
      makes = refl;
    } in
    straight (⊎_elim
    (λ e. (source, [], subst (Feeds rules source) e step))
    (λ (between, chain). (source, used.head.rel ∷ between, (step, chain)))
    used.leads)

chained : (rules : List Rule) → AreNonRecursive rules → (n rel : ℕ) → IsFed rules rel n → IsChained rules rel n
unfolding Leads IsDistinct
chained rules straight zero rel fed = record { used = []; long = refl; apart = tt; each = λ number among. absurd (cc) }
chained rules straight (suc n) rel (source, feeds, fed) =
    let before = chained rules straight n source fed in
    let number : ℕ = feeds.of_rules.0 in
    let numbered : slice_get rules number ≡ Some feeds.rule = slice_get-get_or rules number feeds.rule feeds.of_rules.1 ∙ ap Some feeds.of_rules.2 in
    let here : IsUsed rules rel number = record { rule = feeds.rule; numbered = numbered; head = feeds.head; in_head = feeds.in_head; leads = inl feeds.makes } in
    record {
      used = number ∷ before.used;
      long = omega (arith, before.long);
      apart = (fresh number before.used (λ among. not_again rules source number feeds.rule feeds.body straight numbered feeds.in_body feeds.reads (before.each number among)), before.apart);
      each = λ other among. ⊎_elim
          (λ same. subst (IsUsed rules rel) (equal other number same) here)
          (λ differs. used_on rules source rel other feeds (before.each other (rw differs at among)))
          (cases_Bool (eqb other number));
    }
  where
    equal : (other number : ℕ) → eqb other number ≡ true → number ≡ other
    equal other number same = grind (arith, nat_tests)

-- no chain of feeding has more steps than there are rules
pub are_short : (rules : List Rule) → AreNonRecursive rules → AreShort rules
are_short rules straight rel n fed =
    let chain = chained rules straight n rel fed in
    let most : length chain.used ≤ length rules = length-le_from_distinct_below chain.used (length rules) chain.apart (λ number among. let used = chain.each number among in slice_get_within rules number used.rule used.numbered) in
    omega (arith, chain.long)
