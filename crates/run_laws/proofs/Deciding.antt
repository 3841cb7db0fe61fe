-- What is decided of the statement of a world is a plan of one branch that costs 8.
use Rattle.std.proofs.Common.{◌≡◌, ◌+◌, ℕ, List, [], ◌∷◌, refl, sym, ap, subst, ◌∙◌, arith}
use Rattle.std.specs.Prelude.{Contains}
use Rattle.std.specs.List.{AllByRecursion, range_with_len}
use Rattle.lists.proofs.Members.{contains_here, contains_got, contains_one, all_member}
use Rattle.tgd_reader.proofs.Plain.{all_mapped}
use Rattle.meaning.specs.declared.types.Operand.{Operand}
use Rattle.meaning.specs.declared.types.Operand.TheVariants.{Column, Literal}
use Rattle.meaning.specs.declared.types.Condition.{Condition}
use Rattle.meaning.specs.declared.types.Select.{Select}
use Rattle.meaning.specs.declared.types.Query.{Query}
use Rattle.meaning.specs.declared.types.Branch.{Branch}
use Rattle.meaning.specs.declared.types.Plan.{Plan}
use Rattle.meaning.specs.declared.types.SchemaParts.{SchemaParts}
use Rattle.meaning.specs.declared.types.Firing.{Firing}
use Rattle.meaning.specs.declared.types.Firing.TheVariants.{Base, Copy, Expose}
use Rattle.meaning.specs.Values.{Value}
use Rattle.meaning.specs.Rows.{IsBranchRow}
use Rattle.meaning.specs.Plans.{IsLawful}
use Rattle.meaning.specs.Claims.{IsEquivalent}
use Rattle.meaning.specs.Costs.{IsCost, IsRival}
use Rattle.meaning.specs.Conjunctive.{AreJoined, given, alike, turned, chained, IsConjunctive}
use Rattle.meaning.specs.Runs.{IsRun, opening}
use Rattle.meaning_laws.proofs.Kept.{ordered_is_run}
use Rattle.integer_laws.specs.Claimed.{IsSortedSelectRival, IsSortedLeast}
use Rattle.access_schema.specs.declared.schema.Schema.{Schema}
use Rattle.access_schema.specs.Meaning.{meaning_of}
use Rattle.access_schema.specs.Lists.{once_after}
use Rattle.sql_select.specs.Known.{literals_in}
use Rattle.sql_conjunctive.specs.Form.{Clashes}
use Rattle.findings.specs.declared.least.Least.{Least}
use Rattle.findings.specs.declared.least.Least.TheVariants.{Shown, SearchSpent, FiringsSpent}
use Rattle.exposure_search.specs.Tries.{exposures_in}
use Rattle.findings.specs.declared.decision.Chosen.{Chosen as Entry}
use Rattle.findings.specs.declared.decision.Chosen.TheVariants as chosen
use Rattle.findings.specs.declared.decision.Decision.{Decision}
use Rattle.findings.specs.declared.refutation.Witness.{Witness}
use Rattle.proof_search.specs.Plans.{known_of, IsPlanFor}
use Rattle.proof_search.specs.Chosen.{IsEnough, NoneIsEnough, HasLongRun, IsSaid, AreChosen}
use Rattle.proof_search.specs.Decisions.{IsRefutation, IsUndecided}
use Rattle.run_command.specs.Deciding.{IsDecided, plan, no_plan, undecided}
use Rattle.run_command.specs.declared.world.TheConstants.{FIRINGS, UNITS}
use Rattle.run_command.proofs.Sorted.{sorted_equivalent}
use Rattle.world_laws.specs.World.{IsWorldSchema, joined, world_select, world_statement}
use Rattle.world_laws.specs.Plan.{world, world_branch, world_plan}
use Rattle.world_laws.proofs.Read.{world_meaning}
use Rattle.world_laws.proofs.Paths.{plan_lawful, plan_equivalent, branch_rival, branch_cost}
use Rattle.world_laws.proofs.Chases.{runs_short, exposures_in as counted}
use Rattle.world_laws.proofs.Counts.{least_cost}
use Rattle.run_laws.specs.Deciding.{HasOneBranch, IsLeastPlan}

-- ---- no literal is joined

abbrev IsAlike : Operand → Operand → Type 0
IsAlike (Literal a) (Literal b) = a ≡ b
IsAlike (Column from column) (Column other place) = Unit {0}
IsAlike _ _ = ⊥

alike_self : (o : Operand) → IsAlike o o
alike_self (Literal a) = refl
alike_self (Column from column) = tt

alike_turned : (o p : Operand) → IsAlike o p → IsAlike p o
alike_turned (Literal a) (Literal b) e = sym e
alike_turned (Literal a) (Column from column) e = absurd e
alike_turned (Column from column) (Literal a) e = absurd e
alike_turned (Column from column) (Column other place) e = tt

alike_chained : (o p q : Operand) → IsAlike o p → IsAlike p q → IsAlike o q
alike_chained (Literal a) (Literal b) (Literal c) e f = e ∙ f
alike_chained (Literal a) (Literal b) (Column from column) e f = absurd f
alike_chained (Literal a) (Column from column) q e f = absurd e
alike_chained (Column from column) (Literal a) q e f = absurd e
alike_chained (Column from column) (Column other place) (Literal a) e f = absurd f
alike_chained (Column from column) (Column other place) (Column third spot) e f = tt

abbrev JoinsColumns : Condition → Type 0
JoinsColumns condition = IsAlike condition.left condition.right

all_columns : AllByRecursion JoinsColumns world_select.conditions
all_columns = all_mapped JoinsColumns joined (range_with_len 0 7) (λ k _. tt)

joined_alike : (o p : Operand) → AreJoined world_select.conditions o p → IsAlike o p
joined_alike _ _ (given condition there) = all_member JoinsColumns world_select.conditions condition all_columns there
joined_alike _ _ (alike o) = alike_self o
joined_alike _ _ (turned {o} {p} joins) = alike_turned o p (joined_alike o p joins)
joined_alike _ _ (chained {o} {p} {q} one two) = alike_chained o p q (joined_alike o p one) (joined_alike p q two)

no_clash : Clashes world_select.conditions → ⊥
no_clash (a, b, apart, joins) = apart (joined_alike (Literal a) (Literal b) joins)

-- ---- runs are short

counted_so : (log : List Firing) → counted log ≡ exposures_in log
counted_so [] = refl
counted_so (Base trigger ∷ log) = counted_so log
counted_so (Copy trigger ∷ log) = counted_so log
counted_so (Expose number fact ∷ log) = ap (λ m. m + 1) (counted_so log)

enough : (query : Query) → IsConjunctive world world_select query → IsEnough world [] query FIRINGS UNITS 8 8
enough query form = record {
  within = omega arith;
  few_firings = λ log (end, run). (runs_short query form log end run).0;
  few_exposures = λ log (end, run). let few = (runs_short query form log end run).1 in let same = counted_so log in omega (arith, few, same);
  units = omega arith;
}

no_long_run : (query : Query) → IsConjunctive world world_select query → HasLongRun world [] FIRINGS query → ⊥
no_long_run query form (log, (end, run), long) = let short = (runs_short query form log end run).0 in omega (arith, short, long)

-- ---- the decision

-- the branch of the world's plan is a rival on instances of integers, as it is one on all
sorted_rival : IsSortedSelectRival world [] world_statement world_select world_branch
sorted_rival = record {
  lawful = branch_rival.lawful;
  sound = λ facts row model. branch_rival.sound facts row model.model;
  complete = λ facts row model. branch_rival.complete facts row model.model;
}

known_none : (n : ℕ) (schema : Schema) → IsWorldSchema n schema → known_of schema world_statement ≡ []
known_none n schema is = ap (λ (known : List Value). once_after known (literals_in world_statement.selects)) is.constants

module _ (n : ℕ) (schema : Schema) (is : IsWorldSchema n schema) where
  meant : meaning_of schema ≡ world
  meant = world_meaning n schema is

  known : known_of schema world_statement ≡ []
  known = known_none n schema is

  said_least : (branch : Branch) (least : Least) (cost : ℕ) → IsRival world [] world_statement world_select branch → IsCost world branch cost → IsSaid schema world_statement FIRINGS UNITS world_select branch least → (cost ≡ 8) × (least ≡ Shown)
  said_least branch Shown cost rival costs said =
      let said_of : IsSortedLeast world (known_of schema world_statement) world_statement world_select branch =
      subst (λ (s : SchemaParts). IsSortedLeast s (known_of schema world_statement) world_statement world_select branch)
      meant said in
      let said_here : IsSortedLeast world [] world_statement world_select branch =
      subst (λ (cs : List Value). IsSortedLeast world cs world_statement world_select branch) known said_of in
      let most = said_here world_branch cost 8 sorted_rival costs branch_cost in
      let least = least_cost branch cost rival costs in
      (omega (arith, most, least), refl)
  said_least branch (SearchSpent units) cost rival costs (spent, of_form) =
      let form = subst (λ (s : SchemaParts). IsConjunctive s world_select of_form.query) meant of_form.form in
      let so : NoneIsEnough world [] FIRINGS UNITS of_form.query = subst (λ (cs : List Value). NoneIsEnough world cs FIRINGS UNITS of_form.query) known (subst (λ (s : SchemaParts). NoneIsEnough s (known_of schema world_statement) FIRINGS UNITS of_form.query) meant of_form.so.none_enough) in
      absurd (so 8 8 (enough of_form.query form))
  said_least branch (FiringsSpent firings) cost rival costs (spent, of_form) =
      let form = subst (λ (s : SchemaParts). IsConjunctive s world_select of_form.query) meant of_form.form in
      let so : HasLongRun world [] FIRINGS of_form.query = subst (λ (cs : List Value). HasLongRun world cs FIRINGS of_form.query) known (subst (λ (s : SchemaParts). HasLongRun s (known_of schema world_statement) FIRINGS of_form.query) meant of_form.so) in
      absurd (no_long_run of_form.query form so)

  module _ (its : Plan) (for : IsPlanFor schema world_statement its) where
    lawful_here : IsLawful its world []
    lawful_here = subst (λ (cs : List Value). IsLawful its world cs) known (subst (λ (s : SchemaParts). IsLawful its s (known_of schema world_statement)) meant for.lawful)

    equivalent_here : IsEquivalent its world_statement world
    equivalent_here = subst (λ (s : SchemaParts). IsEquivalent its world_statement s) meant for.equivalent

    rival_here : (branch : Branch) → its.branches ≡ branch ∷ [] → IsRival world [] world_statement world_select branch
    rival_here branch only =
        let among : Contains its.branches branch = subst (λ (bs : List Branch). Contains bs branch) (sym only) (contains_here branch []) in
        record {
          lawful = (lawful_here branch among).1;
          sound = λ facts row model rows. equivalent_here.sound facts row model (branch, among, rows);
          complete = λ facts row model answer.
              let (other, there, rows) = equivalent_here.complete facts row model (world_select, contains_here world_select [], answer) in
              let same : branch ≡ other = contains_one branch other (subst (λ (bs : List Branch). Contains bs other) only there) in
              subst (λ (b : Branch). IsBranchRow world b facts row) (sym same) rows;
        }

    one_branch : (branches : List Branch) (entries : List Entry) → its.branches ≡ branches → AreChosen schema world_statement FIRINGS UNITS (world_select ∷ []) branches entries → HasOneBranch its × (entries ≡ chosen.Branch 8 Shown ∷ [])
    one_branch [] [] only are = absurd are
    one_branch (b ∷ bs) [] only are = absurd are
    one_branch [] (chosen.NoRow ∷ entries) only are = absurd (no_clash are.0)
    one_branch (b ∷ bs) (chosen.NoRow ∷ entries) only are = absurd (no_clash are.0)
    one_branch [] (chosen.Branch cost least ∷ entries) only are = absurd are
    one_branch (branch ∷ []) (chosen.Branch cost least ∷ []) only are =
        let rival = rival_here branch only in
        let costs : IsCost world branch cost = subst (λ (s : SchemaParts). IsCost s branch cost) meant are.1 in
        let (eight, shown) = said_least branch least cost rival costs are.2 in (
          record { branch = branch; only = only; rival = rival; cost = subst (IsCost world branch) eight costs },
          ap (λ c. chosen.Branch c least ∷ []) eight ∙ ap (λ (l : Least). chosen.Branch 8 l ∷ []) shown,
        )
    one_branch (branch ∷ []) (chosen.Branch cost least ∷ e ∷ entries) only are = absurd are.3
    one_branch (branch ∷ b ∷ bs) (chosen.Branch cost least ∷ []) only are = absurd are.3
    one_branch (branch ∷ b ∷ bs) (chosen.Branch cost least ∷ e ∷ entries) only are = absurd are.3

  pub never_refuted : (pair : Witness) → IsRefutation schema world_statement FIRINGS pair → ⊥
  never_refuted pair refutation = refutation.none world_plan
      (subst (λ (s : SchemaParts). IsLawful world_plan s (known_of schema world_statement)) (sym meant) (subst (λ (cs : List Value). IsLawful world_plan world cs) (sym known) plan_lawful))
      (sorted_equivalent (meaning_of schema) world_plan world_statement
      (subst (λ (s : SchemaParts). IsEquivalent world_plan world_statement s) (sym meant) plan_equivalent))

  pub never_undecided : (select : ℕ) (log : List Firing) → IsUndecided schema world_statement FIRINGS select log → ⊥
  never_undecided select log is =
      let spent = is.spent in
      let same : world_select ≡ is.select = contains_one world_select is.select (contains_got world_statement.selects select is.select is.of_statement) in
      let form = subst (λ (s : Select). IsConjunctive world s spent.query) (sym same) (subst (λ (s : SchemaParts). IsConjunctive s is.select spent.query) meant spent.form) in
      let run = ordered_is_run (meaning_of schema) (known_of schema world_statement) 0 (opening spent.query) log spent.end spent.run in
      let own : IsRun world [] 0 (opening spent.query) log spent.end = subst (λ (cs : List Value). IsRun world cs 0 (opening spent.query) log spent.end) known (subst (λ (s : SchemaParts). IsRun s (known_of schema world_statement) 0 (opening spent.query) log spent.end) meant run) in
      let short = (runs_short spent.query form log spent.end own).0 in
      let count = spent.count in
      omega (arith, short, count)

  pub decided : (given : Decision) → IsDecided schema world_statement FIRINGS UNITS given → IsLeastPlan given
  decided _ (plan its entries for fits are) = one_branch its for its.branches entries refl are
  decided _ (no_plan pair refutation) = never_refuted pair refutation
  decided _ (undecided select log spent) = never_undecided select log spent
