-- How facts grow by firings with shared labels.
use Rattle.std.proofs.Common.{◌≡◌, ℕ, ◌+◌, ◌-◌, ◌<◌, ◌≤◌, List, [], ◌∷◌, length, slice_get, slice_index_or, Some, refl, sym, ◌∙◌, subst, ⊎_elim, arith}
use Rattle.std.specs.Prelude.{Contains, map}
use Rattle.std.proofs.lemmas.Option.{slice_get_within}
use Rattle.lists.proofs.Members.{contains_here, contains_there, some_injective}
use Rattle.meaning.specs.declared.types.Term.TheVariants.{Const as Said}
use Rattle.meaning.specs.declared.types.Val.{Val}
use Rattle.meaning.specs.declared.types.Val.TheVariants.{Label}
use Rattle.meaning.specs.declared.types.Atom.{Atom}
use Rattle.meaning.specs.declared.types.Rule.{Rule}
use Rattle.meaning.specs.declared.types.Ground.{Ground}
use Rattle.meaning.specs.declared.types.SchemaParts.{SchemaParts}
use Rattle.meaning.specs.declared.types.Trigger.{Trigger}
use Rattle.meaning.specs.Added.{with_facts}
use Rattle.meaning.specs.Sorts.{RuleIsSorted}
use Rattle.meaning.specs.Triggers.{bound, IsNumbered, State, LabelsBelow, assigned, ground, IsTrigger}
use Rattle.meaning.specs.Naming.{IsNamed, AreNamed}
use Rattle.meaning.specs.Fitting.{RulesFit, Fit}
use Rattle.meaning_laws.specs.Trims.{AreIn}
use Rattle.meaning_laws.proofs.Added.{added_left, added_right, added_cases}
use Rattle.meaning_laws.proofs.Carrying.{occurs_below}
use Rattle.meaning_laws.proofs.Deciding.{same_facts}
use Rattle.meaning_laws.proofs.Joined.{joined_below}
use Rattle.meaning_laws.proofs.Keeping.{named_more, head_values, head_fits}
use Rattle.integer_laws.specs.Sorted.{AreSortedGrounds}
use Rattle.integer_laws.proofs.Firings.{firing_sorted}
use Rattle.homomorphism.specs.declared.assignment.Assignment.{Assignment}
use Rattle.homomorphism.specs.Bindings.{at}
use Rattle.homomorphism.specs.Frontier.{StandForAll}
use Rattle.access_schema.specs.declared.limits.TheConstants.{MOST_VARIABLES}
use Rattle.access_schema.specs.declared.schema.Schema.{Schema}
use Rattle.rule_pass.proofs.Bounds.{orderly}
use Rattle.rule_pass.proofs.OnePass.{numbered_at}
use Rattle.small_base.specs.Closing.{GrowsFrom}
use Rattle.small_base.specs.Shared.{IsSharedTrigger}

pub grows_itself : (schema : SchemaParts) (state : State) → GrowsFrom schema state.facts state.next state
grows_itself schema state = record {
  within = λ fact c. c;
  later = omega arith;
  named = λ constants have named. named;
  fits = λ fit. fit;
  sorted = λ rules are. are;
}

pub grows_on : (schema : SchemaParts) (facts : List Ground) (next : ℕ) (middle end : State) → GrowsFrom schema facts next middle → GrowsFrom schema middle.facts middle.next end → GrowsFrom schema facts next end
grows_on schema facts next middle end first second = record {
  within = λ fact c. second.within fact (first.within fact c);
  later = let l = first.later in let m = second.later in omega arith;
  named = λ constants have named. second.named constants have (first.named constants have named);
  fits = λ fit. second.fits (first.fits fit);
  sorted = λ rules are. second.sorted rules (first.sorted rules are);
}

-- facts that are put into a store, each once
pub grows_start : (schema : SchemaParts) (facts : List Ground) (next : ℕ) → GrowsFrom schema facts next (record { facts = with_facts [] facts; next = next })
grows_start schema facts next = record {
  within = λ fact c. added_right [] facts fact c;
  later = omega arith;
  named = λ constants have named fact v c i. named fact v (from fact c) i;
  fits = λ fit fact c. fit fact (from fact c);
  sorted = λ rules are fact c. are fact (from fact c);
}
  where
    from : (fact : Ground) → Contains (with_facts [] facts) fact → Contains facts fact
    from fact c = ⊎_elim (λ none. absurd (omega arith)) (λ h. h) (added_cases [] facts fact c)

module _ (rules : List Rule) (facts : List Ground) (trigger : Trigger) (rule : Rule) (is : IsTrigger rules (record { facts = facts; next = trigger.fresh }) trigger rule) (numbered : IsNumbered rule) where
  -- the labels of the head's facts
  pub shared_below : (old next : ℕ) → LabelsBelow facts old → old ≤ next → trigger.fresh + (bound rule.head - bound rule.body) ≤ next → LabelsBelow (map (ground (assigned trigger)) rule.head) next
  shared_below old next below later enough fact k c inside =
      head_values rules (record { facts = facts; next = trigger.fresh }) trigger rule is numbered (λ v. (j : ℕ) → v ≡ Label j → j < next) (λ f v a h j e. let l : j < old = below f j a (subst (λ w. Contains f.vals w) e h) in omega arith) (λ atom t a h j e. absurd (cc))
      (λ i l j e. let same : trigger.fresh + i ≡ j = label_is e in omega arith) fact (Label k) c inside k refl
    where
      label_is : {m n : ℕ} → Label m ≡ Label n → m ≡ n
      label_is {m} {n} e = cc

  module _ (schema : SchemaParts) (state now : State) (from : state.facts ≡ facts) (news : now.facts ≡ with_facts facts (map (ground (assigned trigger)) rule.head)) where
    shared_named : (constants : List (List ℕ)) → ((atom : Atom) (t : List ℕ) → Contains rule.head atom → Contains atom.terms (Said t) → Contains constants t) → state.next ≤ now.next → trigger.fresh + (bound rule.head - bound rule.body) ≤ now.next → AreNamed constants state.next state.facts → AreNamed constants now.next now.facts
    shared_named constants have later enough named fact v c inside =
        ⊎_elim (λ old. was fact v old inside)
        (λ new. head_values rules (record { facts = facts; next = trigger.fresh }) trigger rule is numbered (λ w. IsNamed constants now.next w) was have (λ i l. omega arith) fact v new inside)
        (added_cases facts (map (ground (assigned trigger)) rule.head) fact (subst (λ fs. Contains fs fact) news c))
      where
        was : (f : Ground) (w : Val) → Contains facts f → Contains f.vals w → IsNamed constants now.next w
        was f w a h = named_more constants state.next now.next w later (named f w (subst (λ fs. Contains fs f) (sym from) a) h)

    shared_fits : RulesFit schema schema.constants → Contains schema.rules rule → Fit schema state.facts → Fit schema now.facts
    shared_fits fits of_rules fit fact c =
        ⊎_elim (λ old. fit fact (subst (λ fs. Contains fs fact) (sym from) old))
        (λ new. head_fits schema trigger rule (λ atom among. fits.heads rule atom of_rules among) fact new)
        (added_cases facts (map (ground (assigned trigger)) rule.head) fact (subst (λ fs. Contains fs fact) news c))

    -- sorts are those of the relations, whatever the rules
    shared_sorted : RuleIsSorted schema rule → AreSortedGrounds schema state.facts → AreSortedGrounds schema now.facts
    shared_sorted sorted are =
        subst (λ fs. AreSortedGrounds schema fs) (sym news)
        (firing_sorted (record schema { rules = rules }) (record { facts = facts; next = trigger.fresh }) trigger rule is numbered
        (record { constants = sorted.constants; variables = sorted.variables }) (subst (λ fs. AreSortedGrounds schema fs) from are))

    -- a firing with shared labels
    pub shared_grows : RulesFit schema schema.constants → Contains schema.rules rule → state.next ≤ now.next → trigger.fresh + (bound rule.head - bound rule.body) ≤ now.next → GrowsFrom schema state.facts state.next now
    shared_grows fits of_rules later enough = record {
      within = λ fact c. subst (λ fs. Contains fs fact) (sym news) (added_left facts (map (ground (assigned trigger)) rule.head) fact (subst (λ fs. Contains fs fact) from c));
      later = later;
      named = λ constants have named. shared_named constants (λ atom t among has. (have rule of_rules).1 atom t among has) later enough named;
      fits = shared_fits fits of_rules;
      sorted = λ rules_are. shared_sorted (rules_are rule of_rules);
    }

-- matches that are left of those that were found in earlier facts
pub record AreLeft (first : List Ground) (rule : Rule) (left : List Assignment) : Type 0 where
  pub found : List Assignment
  pub matches : StandForAll first rule found
  pub among : (one : Assignment) → Contains left one → Contains found one

pub left_all : (first : List Ground) (rule : Rule) (left : List Assignment) → StandForAll first rule left → AreLeft first rule left
left_all first rule left m = record { found = left; matches = m; among = λ one c. c }

pub left_first : (first : List Ground) (rule : Rule) (left more : List Assignment) (one : Assignment) (a : AreLeft first rule left) →
    left ≡ one ∷ more → Contains a.found one
left_first first rule left more one a e = a.among one (subst (λ z. Contains z one) (sym e) (contains_here one more))

pub left_more : (first : List Ground) (rule : Rule) (left more : List Assignment) (one : Assignment) → left ≡ one ∷ more →
    AreLeft first rule left → AreLeft first rule more
left_more first rule left more one e a = record {
  found = a.found;
  matches = a.matches;
  among = λ other c. a.among other (subst (λ z. Contains z other) (sym e) (contains_there one more other c));
}

-- the trigger of a match of the body, found in earlier facts
pub match_trigger : (rules : List Rule) (first facts : List Ground) (number fresh : ℕ) (rule : Rule) (found : List Assignment) (one : Assignment) → slice_get rules number ≡ Some rule → StandForAll first rule found → Contains found one → AreIn first facts →
    IsTrigger rules (record { facts = facts; next = fresh }) (record { rule = number; values = one.vals; fresh = fresh }) rule
match_trigger rules first facts number fresh rule found one numbered matches among within = record {
  numbered = numbered;
  width = matches.width one among;
  fresh = omega arith;
  body = same_facts facts (at one.vals) (assigned (record { rule = number; values = one.vals; fresh = fresh })) rule.body
      (λ x occurs. sym (joined_below (length one.vals) (λ y. slice_index_or one.vals y (Label 0)) (λ i. Label (fresh + i)) x
      (let l = occurs_below rule.body x occurs in let w : length one.vals ≡ bound rule.body = matches.width one among in omega arith)))
      (λ atom c. within (ground (at one.vals) atom) (matches.each one among atom c));
}

-- the rule at the trigger's number is the trigger's
pub shared_at : (rules : List Rule) (facts : List Ground) (trigger : Trigger) (rule : Rule) → IsSharedTrigger rules facts trigger → rule ≡ slice_index_or rules trigger.rule rule → IsTrigger rules (record { facts = facts; next = trigger.fresh }) trigger rule
shared_at rules facts trigger rule (other, is) e =
    let got : slice_get rules trigger.rule ≡ Some rule = numbered_at rules trigger.rule rule (slice_get_within rules trigger.rule other is.numbered) e in
    subst (λ r. IsTrigger rules (record { facts = facts; next = trigger.fresh }) trigger r) (some_injective other rule (sym is.numbered ∙ got)) is

-- a rule of a schema has few variables
pub few_variables : (schema : Schema) (rule : Rule) → Contains schema.rules rule → bound rule.head ≤ MOST_VARIABLES
few_variables schema rule among = (orderly schema).variables rule among
