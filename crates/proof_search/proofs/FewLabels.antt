-- How many labels a base and the states over it have: few enough for an integer for each pair of values.
use Rattle.std.proofs.Common.{◌≡◌, ℕ, ◌+◌, ◌*◌, ◌^◌, ◌≤◌, List, [], ◌∷◌, length, sym, subst, arith, mul-le-mul}
use Rattle.std.specs.Prelude.{Contains}
use Rattle.lists.proofs.Members.{contains_here, contains_there}
use Rattle.meaning.specs.declared.types.Query.{Query}
use Rattle.meaning.specs.declared.types.Rule.{Rule}
use Rattle.meaning.specs.declared.types.Val.{Val}
use Rattle.meaning.specs.Triggers.{bound}
use Rattle.meaning_laws.specs.Rests.{new_labels}
use Rattle.access_schema.specs.declared.limits.TheConstants.{MOST_VARIABLES}
use Rattle.access_schema.specs.declared.schema.Schema.{Schema}
use Rattle.access_schema.specs.Meaning.{meaning_of}
use Rattle.rule_pass.specs.declared.pass.TheConstants.{HIGHEST_FIRST_LABEL, MOST_FIRINGS}
use Rattle.rule_pass.specs.Orderly.{AreOrderly}
use Rattle.rule_pass.proofs.Bounds.{orderly}
use Rattle.accessible_copy.specs.Proving.{Proving, IsProofOf}
use Rattle.accessible_copy.proofs.PassEntries.{written_labels}
use Rattle.exposure_search.specs.Exploring.{Exploring, exploring_of, most_labels}
use Rattle.proof_search.specs.Questions.{MOST_KNOWN}

-- ---- the labels of a base

-- a proof of few firings has few labels
few_written : (schema : Schema) (proof : Proving) (firings : ℕ) → IsProofOf (meaning_of schema) proof →
    length proof.entries ≤ firings → proof.end.next ≤ HIGHEST_FIRST_LABEL + firings * MOST_VARIABLES
few_written schema proof firings is few =
    let far = written_labels (meaning_of schema) proof.constants 0 proof.start proof.entries proof.end (orderly schema)
    is.written in
    let low = is.low in
    omega arith

-- and so has its space
pub labels_in : (schema : Schema) (base : Proving) (goals : List Query) (head : List Val) (firings : ℕ) →
    IsProofOf (meaning_of schema) base → length base.entries ≤ firings → (space : Exploring) →
    space ≡ exploring_of (meaning_of schema) base goals head firings space.marks →
    space.base.next ≤ HIGHEST_FIRST_LABEL + firings * MOST_VARIABLES
labels_in schema base goals head firings is few space e =
    subst (λ (x : Exploring). x.base.next ≤ HIGHEST_FIRST_LABEL + firings * MOST_VARIABLES) (sym e)
    (few_written schema base firings is few)

-- ---- the labels of the states over it

-- a firing of one of the rules gives few labels
few_new : (rules : List Rule) → ((rule : Rule) → Contains rules rule → bound rule.head ≤ MOST_VARIABLES) →
    new_labels rules ≤ MOST_VARIABLES
few_new [] low = omega arith
few_new (rule ∷ rules) low =
    let here = low rule (contains_here rule rules) in
    let later : new_labels rules ≤ MOST_VARIABLES =
    few_new rules (λ r among. low r (contains_there rule rules r among)) in
    omega arith

-- pairs of values of both sizes, with the labels below them and the constants
few_pairs : (next most known : ℕ) → next + known ≤ 2 ^ 24 → most + known ≤ 2 ^ 33 →
    next + (most + known) * (next + known) + known ≤ 2 ^ 63
few_pairs next most known low wide =
    let pairs : (most + known) * (next + known) ≤ 2 ^ 33 * 2 ^ 24 = mul-le-mul wide low in
    omega arith

-- each pair of a value of the base and one of a state of which a search asks may have a label that an integer names
pub few_labels : (rules : List Rule) (next firings known : ℕ) → AreOrderly rules → firings ≤ MOST_FIRINGS →
    next ≤ HIGHEST_FIRST_LABEL + firings * MOST_VARIABLES → known ≤ MOST_KNOWN →
    next + (most_labels rules + new_labels rules + known) * (next + known) + known ≤ 2 ^ 63
few_labels rules next firings known are few labels low =
    let new : new_labels rules ≤ MOST_VARIABLES = few_new rules are.variables in
    few_pairs next (most_labels rules + new_labels rules) known (omega arith) (omega arith)
