-- A rival on sorted models gives exposures whose facts have a goal among the queries that have an answer on the base.
use Rattle.std.proofs.Common.{ℕ, ◌+◌, ◌*◌, ◌^◌, ◌≤◌, List, [], ◌∷◌, ◌++◌, length, subst, ⊎_elim, arith}
use Rattle.std.specs.Prelude.{Contains}
use Rattle.lists.proofs.Members.{contains_cases, contains_none}
use Rattle.meaning.specs.declared.types.Branch.{Branch}
use Rattle.meaning.specs.declared.types.Ground.{Ground}
use Rattle.meaning.specs.declared.types.Query.{Query}
use Rattle.meaning.specs.declared.types.SchemaParts.{SchemaParts}
use Rattle.meaning.specs.declared.types.Val.{Val}
use Rattle.meaning.specs.declared.types.Val.TheVariants.{Const}
use Rattle.meaning.specs.Values.{Value}
use Rattle.meaning.specs.Matching.{IsQueryAnswer, GroundsOf}
use Rattle.meaning.specs.Plans.{IsWellFormed}
use Rattle.meaning.specs.Costs.{IsCost}
use Rattle.meaning.specs.Triggers.{State}
use Rattle.meaning.specs.Fitting.{RulesFit, QueryHasConstants}
use Rattle.meaning.specs.Extract.{Exposure, exposed_facts, IsExposing, exposures_cost, IsBase}
use Rattle.meaning_laws.specs.Rests.{HasGoalOver}
use Rattle.meaning_laws.specs.Trims.{AreIn}
use Rattle.integer_laws.proofs.Products.{possible_goals}
use Rattle.integer_laws.proofs.Rivals.{rival_exposes_sorted}
use Rattle.integer_laws.specs.Sorted.{AreSortedGrounds}
use Rattle.integer_laws.specs.Claimed.{IsSortedRival, IsSortedRest}

-- what is exposed are base facts
exposed_within : (schema : SchemaParts) (constants : List Value) (base exposed : List Ground) (exposures : List Exposure) →
    IsExposing schema constants base exposed exposures → AreIn (exposed_facts exposures) base
exposed_within schema constants base exposed [] exposing fact c = absurd (contains_none fact c)
exposed_within schema constants base exposed (e ∷ exposures) (is, exposing) fact c =
    ⊎_elim (λ same. subst (Contains base) same is.of_base)
    (λ later. exposed_within schema constants base (exposed ++ e.fact ∷ []) exposures exposing fact later)
    (contains_cases e.fact (exposed_facts exposures) fact c)

pub rival_exposes_possible : (schema : SchemaParts) (constants : List Value) (queries goals : List Query) (query : Query)
    (base : State) (head : List Val) (rival : Branch) (cost : ℕ) → IsWellFormed schema → RulesFit schema constants →
    ((q : Query) → Contains queries q → QueryHasConstants constants q) → IsBase schema constants query base head →
    AreSortedGrounds schema base.facts →
    ((q : Query) → Contains queries q → IsQueryAnswer Const (GroundsOf base.facts) q head → Contains goals q) →
    IsSortedRival schema constants queries query rival → IsCost schema rival cost →
    (exposures : List Exposure) × IsExposing schema constants base.facts [] exposures × (exposures_cost exposures ≤ cost)
    × ((most : ℕ) →
    base.next + (most + length constants) * (base.next + length constants) + length constants ≤ 2 ^ 63 →
    HasGoalOver schema constants goals head base.next most (exposed_facts exposures))
rival_exposes_possible schema constants queries goals query base head rival cost well rules have is_base sorted answered
    is_rival is_cost =
    let (exposures, exposing, cheap, has) = rival_exposes_sorted schema constants queries query base head rival cost well
    rules have is_base sorted is_rival is_cost in
    let within : AreIn (exposed_facts exposures) base.facts =
    exposed_within schema constants base.facts [] exposures exposing in
    let rests : IsSortedRest schema constants base.next base.next (exposed_facts exposures) base = record {
      rest = record {
        grows = within;
        low = omega arith;
        few = omega arith;
        named = is_base.named;
        fits = is_base.fits;
        quiet = is_base.quiet;
      };
      sorted = sorted;
    } in (
      exposures,
      exposing,
      cheap,
      λ most few. possible_goals schema constants queries goals head base.next most base.next (exposed_facts exposures) base
          rules (λ fact v c inside. is_base.named fact v (within fact c) inside) is_base.head_named rests answered
          (has (base.next + (most + length constants) * (base.next + length constants)) few),
    )
