-- A match in some run is one in every state at rest.
use Rattle.std.proofs.Common.{◌≡◌, ℕ, ◌<◌, List, refl, subst}
use Rattle.std.specs.Prelude.{Contains, map}
use Rattle.lists.proofs.Members.{contains_map, map_same}
use Rattle.meaning_laws.proofs.Carrying.{extend_run}
use Rattle.meaning_laws.proofs.Extracted.{carries_answer}
use Rattle.meaning_laws.proofs.Deciding.{quiet_meets}
use Rattle.meaning_laws.proofs.Renaming.{naming_exists, renamed_meets, answer_back}
use Rattle.meaning_laws.proofs.Keeping.{named_more}
use Rattle.meaning.specs.declared.types.Val.{Val}
use Rattle.meaning.specs.declared.types.Val.TheVariants.{Const, Label}
use Rattle.meaning.specs.declared.types.Query.{Query}
use Rattle.meaning.specs.declared.types.SchemaParts.{SchemaParts}
use Rattle.meaning.specs.declared.types.Trigger.{Trigger}
use Rattle.meaning.specs.Matching.{GroundsOf, IsQueryAnswer, AnswersQuery}
use Rattle.meaning.specs.Homomorphisms.{image, fact_of, renamed, Carries}
use Rattle.meaning.specs.Triggers.{LabelsBelow, State, IsFiringRun}
use Rattle.meaning.specs.Naming.{IsNamed, AreNamed}
use Rattle.meaning.specs.Fitting.{RulesFit, QueryHasConstants}
use Rattle.meaning_laws.specs.Rests.{HasGoalOver}

pub goal_everywhere : (schema : SchemaParts) (constants : List (List ℕ)) (queries : List Query) (state : State) (head : List Val) (log : List Trigger) (some : State) (goal : Query) (most : ℕ) →
    RulesFit schema constants → ((q : Query) → Contains queries q → QueryHasConstants constants q) → AreNamed constants state.next state.facts → ((v : Val) → Contains head v → IsNamed constants state.next v) →
    IsFiringRun schema.rules state log some → Contains queries goal → IsQueryAnswer Const (GroundsOf some.facts) goal head → HasGoalOver schema constants queries head state.next most state.facts
goal_everywhere schema constants queries state head log some goal most rules have named head_named run among matched end rest =
    let (h, naming) = naming_exists constants in
    let meets = renamed_meets constants end.next h (naming end.next) end.facts rest.named schema.rules rules.have (quiet_meets schema.rules end rules.numbered rest.quiet) in
    let carries : Carries h state.facts (renamed h end.facts) = λ fact c. contains_map (fact_of h) end.facts fact (rest.grows fact c) in
    let below : LabelsBelow state.facts state.next = λ f k c i. named f (Label k) c i in
    let (g, same, carried) = extend_run schema.rules log state some (renamed h end.facts) h rules.numbered meets below run carries in
    let answer : AnswersQuery goal (renamed h end.facts) (map (image g) head) = carries_answer g some.facts (renamed h end.facts) goal head carried matched in
    let heads : map (image g) head ≡ map (image h) head = map_same (image g) (image h) head (λ v c. alike g h same v (head_named v c)) in
    let its = have goal among in
    (goal, among, answer_back constants end.next h (naming end.next) end.facts rest.named goal head its.atoms its.head (λ v c. named_more constants state.next end.next v rest.low (head_named v c)) (subst (λ row. AnswersQuery goal (renamed h end.facts) row) heads answer))
  where
    alike : (g h : ℕ → List ℕ) → ((k : ℕ) → k < state.next → g k ≡ h k) → (v : Val) → IsNamed constants state.next v → image g v ≡ image h v
    alike g h same (Const c) named = refl
    alike g h same (Label k) named = same k named
