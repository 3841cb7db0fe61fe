-- Heads of which nothing has to be looked for.
use Rattle.std.proofs.Common.{◌≡◌, ℕ, ◌+◌, ◌<◌, ◌≤◌, List, [], ◌∷◌, length, refl, subst, ⊎_elim, arith, Contains, take, slice_index_or}
use Rattle.std.proofs.lemmas.List.Elements.{Contains-push_cases}
use Rattle.lists.proofs.Members.{contains_here}
use Rattle.lists.proofs.Places.{take_indexed}
use Rattle.meaning_laws.proofs.Carrying.{occurs_below}
use Rattle.meaning_laws.proofs.Deciding.{same_facts}
use Rattle.meaning.specs.declared.types.Term.TheVariants.{Var}
use Rattle.meaning.specs.declared.types.Val.{Val}
use Rattle.meaning.specs.declared.types.Val.TheVariants.{Const}
use Rattle.meaning.specs.declared.types.Atom.{Atom}
use Rattle.meaning.specs.declared.types.Ground.{Ground}
use Rattle.meaning.specs.declared.types.Rule.{Rule}
use Rattle.meaning.specs.Matching.{AreFacts, GroundsOf}
use Rattle.meaning.specs.Triggers.{ground, bound, terms_bound, IsNumbered}
use Rattle.homomorphism.specs.Bindings.{at}
use Rattle.homomorphism.specs.Rules.{IsMet, IsUnmet}

pub known_met : (facts : List Ground) (rule : Rule) (values : List Val) → AreFacts Const (GroundsOf facts) (at values) rule.head → IsMet facts rule values
known_met facts rule values are = (at values, record { agrees = λ x occurs. refl; head = are })

pub known_unmet : (facts : List Ground) (rule : Rule) (values : List Val) → IsNumbered rule → bound rule.head ≤ bound rule.body → (AreFacts Const (GroundsOf facts) (at values) rule.head → ⊥) → IsUnmet facts rule values
known_unmet facts rule values numbered known not b ext =
    not (same_facts facts b (at values) rule.head (λ x occurs. ext.agrees x (numbered.body x (let l = occurs_below rule.head x occurs in omega arith))) ext.head)

pub variable_below : (atom : Atom) (x n : ℕ) → Contains atom.terms (Var x) → terms_bound atom.terms ≤ n → x < n
variable_below atom x n c fits = let l : x < bound (atom ∷ []) = occurs_below (atom ∷ []) x (atom, contains_here atom [], c) in omega arith

-- one atom more that is a fact
pub are_more : (facts : List Ground) (atoms : List Atom) (i : ℕ) (atom : Atom) (a : ℕ → Val) → i < length atoms → atom ≡ slice_index_or atoms i atom →
    AreFacts Const (GroundsOf facts) a (take i atoms) → Contains facts (ground a atom) → AreFacts Const (GroundsOf facts) a (take (i + 1) atoms)
are_more facts atoms i atom a l is before now other c =
    ⊎_elim (λ h. before other h) (λ same. subst (λ (t : Atom). Contains facts (ground a t)) same now) (Contains-push_cases (take i atoms) atom other (subst (λ z. Contains z other) (take_indexed atoms i atom l is) c))
