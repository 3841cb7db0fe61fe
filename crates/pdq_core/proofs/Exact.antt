-- The status is exact where the texts are given and no run is longer than the firings.
use Rattle.std.proofs.Common.{◌≡◌, ◌≢◌, ◌↔◌, ◌++◌, ◌∷◌, ℕ, true, false, List, take, Option, refl, sym, subst}
use Rattle.std.specs.Prelude.{Contains}
use Rattle.std.proofs.lemmas.List.Elements.{Contains-append_right}
use Rattle.lists.proofs.Members.{contains_here}
use Rattle.meaning.specs.declared.types.Plan.{Plan}
use Rattle.meaning.specs.declared.types.Statement.{Statement}
use Rattle.access_schema.specs.declared.schema.Schema.{Schema}
use Rattle.access_schema.specs.Meaning.{meaning_of}
use Rattle.proof_search.specs.Plans.{HasNoPlan}
use Rattle.source_trait.specs.Asking.{Seen}
use Rattle.source_trait.specs.declared.lanes.Lane.{Lane}
use Rattle.command_io.specs.declared.exit_status.Status.{Status}
use Rattle.command_io.specs.declared.exit_status.Status.TheVariants as ends_in
use Rattle.command_io.specs.Inputs.{Contents}
use Rattle.command_io.specs.Moments.{Moment}
use Rattle.command_words.specs.Words.{Command, IsCommand}
use Rattle.command_words.specs.Words.Command.{Help, Schema as Print, Explain, Run, Batch, Exec, Check, Verify, Crawl, Reach, World}
use Rattle.run_command.proofs.Sorted.{sorted_equivalent}
use Rattle.pdq_core.specs.Runs.{Runs}
use Rattle.pdq_core.specs.Complete.{IsAnswered, QueryIsGiven, BatchIsGiven, TextsAreGiven, BatchTextsAreGiven, CheckIsSupplied}
use Rattle.pdq_core.specs.Complete.IsAnswered.{done, no, undecided, no_memory}
use Rattle.pdq_core.specs.Statuses.{RunsOn, ReadAs, Says, ComesTo, ReadAll, SaysOfBatch, IsWrong, FiresOn, ReadWith, SaysOfPlan, SaysOf}
use Rattle.pdq_core.specs.Verified.{SaysVerified, SaysOfVerified}
use Rattle.pdq_core.specs.Exact.{GivenAs, GivenAll, SomeIs, GivenWith, HasNoLongRun, DecidesAlone, HasNone}
use Rattle.pdq_core.proofs.CompleteTexts.{same_schema, same_statement, same_batch, same_plan}
use Rattle.pdq_core.proofs.Statuses.{whole}
use Rattle.pdq_core.proofs.VerifiedStatuses.{verified_whole}

-- what is so of what was read is so of what is given
of_given : (told : Option Contents) (name query : List ℕ) (P : Schema → Statement → Type 0) (texts : TextsAreGiven told name query) → ReadAs told name query P → P texts.schema texts.statement
of_given told name query P texts read =
    let schemas : texts.schema ≡ read.schema = same_schema told name texts.schema read.schema texts.schema_given read.schema_is in
    let statements : texts.statement ≡ read.statement =
    same_statement told query read.schema texts.statement read.statement (subst (λ (s : Schema). QueryIsGiven told query s texts.statement) schemas texts.query_given) read.statement_is in
    subst (λ (s : Schema). P s texts.statement) (sym schemas) (subst (λ (t : Statement). P read.schema t) (sym statements) read.so)

of_all : (told : Option Contents) (name queries : List ℕ) (P : Schema → List Statement → Type 0) (texts : BatchTextsAreGiven told name queries) →
    ReadAll told name queries P → P texts.schema texts.statements
of_all told name queries P texts read =
    let schemas : texts.schema ≡ read.schema = same_schema told name texts.schema read.schema texts.schema_given read.schema_is in
    let batch_is : BatchIsGiven told queries read.schema texts.statements =
    subst (λ (s : Schema). BatchIsGiven told queries s texts.statements) schemas texts.batch_given in
    let statements : texts.statements ≡ read.statements =
    same_batch told queries read.schema texts.statements read.statements batch_is read.statements_are in
    subst (λ (s : Schema). P s texts.statements) (sym schemas) (subst (λ (l : List Statement). P read.schema l) (sym statements) read.so)

of_three : (told : Option Contents) (name query its : List ℕ) (P : Schema → Statement → Plan → Type 0) (given : CheckIsSupplied told name query its) → ReadWith told name query its P →
    P given.texts.schema given.texts.statement given.plan
of_three told name query its P given read =
    let plans : given.plan ≡ read.plan = same_plan told its given.plan read.plan given.plan_given read.plan_is in
    subst (λ (p : Plan). P given.texts.schema given.texts.statement p) (sym plans)
    (of_given told name query (λ schema statement. P schema statement read.plan) given.texts (record { schema = read.schema; statement = read.statement; schema_is = read.schema_is; statement_is = read.statement_is; so = read.so }))

-- ---- the commands that decide a statement

module _ (told : Option Contents) (name query : List ℕ) (firings : ℕ) where
  decides : (status : Status) → Says status told name query firings → GivenAs told name query (λ schema statement. RunsOn firings schema statement → ⊥) → status ≢ ends_in.Undecided
  decides status says given same = given.so (of_given told name query (RunsOn firings) given.texts (subst (λ (s : Status). Says s told name query firings) same says))

  finds_none : (status : Status) → Says status told name query firings → TextsAreGiven told name query → status ≡ ends_in.No → GivenAs told name query HasNoPlan
  finds_none status says texts same = record { texts = texts; so = of_given told name query HasNoPlan texts (subst (λ (s : Status). Says s told name query firings) same says) }

  none_found : (status : Status) → Says status told name query firings → IsAnswered status → status ≢ ends_in.Memory → status ≢ ends_in.Undecided → GivenAs told name query HasNoPlan → status ≡ ends_in.No
  none_found _ says done memory spent none =
      let (plan, lawful, equivalent) = of_given told name query _ none.texts says in
      let same = sorted_equivalent (meaning_of none.texts.schema) plan none.texts.statement equivalent in
      absurd (none.so plan lawful same)
  none_found _ says no memory spent none = refl
  none_found _ says undecided memory spent none = absurd (spent refl)
  none_found _ says no_memory memory spent none = absurd (memory refl)

-- ---- the command that decides several

some_is : (P : Schema → Statement → Type 0) (schema : Schema) (statements : List Statement) → ComesTo P schema statements → SomeIs P schema statements
some_is P schema statements comes =
    let among : Contains (comes.front ++ comes.statement ∷ comes.rest) comes.statement =
    Contains-append_right comes.front (comes.statement ∷ comes.rest) comes.statement (contains_here comes.statement comes.rest) in
    (comes.statement, subst (λ (l : List Statement). Contains l comes.statement) (sym comes.all) among, comes.so)

module _ (told : Option Contents) (name queries : List ℕ) (firings : ℕ) where
  decides_all : (status : Status) → SaysOfBatch status told name queries firings →
      GivenAll told name queries (λ schema statements. SomeIs (RunsOn firings) schema statements → ⊥) → status ≢ ends_in.Undecided
  decides_all status says given same =
      let its = of_all told name queries (ComesTo (RunsOn firings)) given.texts
      (subst (λ (s : Status). SaysOfBatch s told name queries firings) same says) in
      given.so (some_is (RunsOn firings) given.texts.schema given.texts.statements its)

  finds_one : (status : Status) → SaysOfBatch status told name queries firings → BatchTextsAreGiven told name queries → status ≡ ends_in.No →
      GivenAll told name queries (SomeIs HasNoPlan)
  finds_one status says texts same =
      let its = of_all told name queries (ComesTo HasNoPlan) texts (subst (λ (s : Status). SaysOfBatch s told name queries firings) same says) in
      record { texts = texts; so = some_is HasNoPlan texts.schema texts.statements its }

  one_found : (status : Status) → SaysOfBatch status told name queries firings → IsAnswered status → status ≢ ends_in.Memory →
      status ≢ ends_in.Undecided → GivenAll told name queries (SomeIs HasNoPlan) → status ≡ ends_in.No
  one_found _ says done memory spent none =
      let (statement, among, lacks) = none.so in
      let (plan, lawful, equivalent) = of_all told name queries _ none.texts says statement among in
      absurd (lacks plan lawful (sorted_equivalent (meaning_of none.texts.schema) plan statement equivalent))
  one_found _ says no memory spent none = refl
  one_found _ says undecided memory spent none = absurd (spent refl)
  one_found _ says no_memory memory spent none = absurd (memory refl)

-- ---- the command that judges a plan

module _ (told : Option Contents) (name query its : List ℕ) (firings : ℕ) where
  judges : (status : Status) → SaysOfPlan status told name query its firings → GivenWith told name query its (λ schema statement plan. FiresOn firings schema statement plan → ⊥) → status ≢ ends_in.Undecided
  judges status says given same = given.so (of_three told name query its (FiresOn firings) given.given (subst (λ (s : Status). SaysOfPlan s told name query its firings) same says))

  finds_wrong : (status : Status) → SaysOfPlan status told name query its firings → CheckIsSupplied told name query its → status ≡ ends_in.No → GivenWith told name query its IsWrong
  finds_wrong status says given same = record { given = given; so = of_three told name query its IsWrong given (subst (λ (s : Status). SaysOfPlan s told name query its firings) same says) }

  wrong_found : (status : Status) → SaysOfPlan status told name query its firings → IsAnswered status → status ≢ ends_in.Memory → status ≢ ends_in.Undecided → GivenWith told name query its IsWrong → status ≡ ends_in.No
  wrong_found _ says done memory spent wrong = absurd (wrong.so (of_three told name query its _ wrong.given says))
  wrong_found _ says no memory spent wrong = refl
  wrong_found _ says undecided memory spent wrong = absurd (spent refl)
  wrong_found _ says no_memory memory spent wrong = absurd (memory refl)

-- ---- `run` with the rules tested first

decides_verified : {S : Type 0} (seen : S → Seen) (lanes : List (Lane S)) (told : Option Contents) (name query : List ℕ) (firings : ℕ) (status : Status) →
    SaysVerified seen lanes status told name query firings → GivenAs told name query (λ schema statement. RunsOn firings schema statement → ⊥) → status ≢ ends_in.Undecided
decides_verified seen lanes told name query firings status says given same =
    given.so (of_given told name query (RunsOn firings) given.texts (subst (λ (s : Status). SaysVerified seen lanes s told name query firings) same says))

-- ---- all of them

never_spent : {S : Type 0} (seen : S → Seen) (lanes : List (Lane S)) (command : Command) (told : Option Contents) (status : Status) → SaysOf command told status →
    SaysOfVerified seen command told lanes status → HasNoLongRun command told → status ≢ ends_in.Undecided
never_spent seen lanes Help told status says verified short = absurd short
never_spent seen lanes (Print name) told status says verified short = absurd short
never_spent seen lanes (Explain name query firings search) told status says verified short = decides told name query firings status says short
never_spent seen lanes (Run name query firings search workers calls false) told status says verified short = decides told name query firings status says short
never_spent seen lanes (Run name query firings search workers calls true) told status says verified short =
    decides_verified seen (take workers lanes) told name query firings status verified short
never_spent seen lanes (Batch name queries firings search workers calls) told status says verified short =
    decides_all told name queries firings status says short
never_spent seen lanes (Exec name plan workers calls) told status says verified short = absurd short
never_spent seen lanes (Check name query plan firings) told status says verified short = judges told name query plan firings status says short
never_spent seen lanes (Verify name) told status says verified short = absurd short
never_spent seen lanes (Crawl name workers calls) told status says verified short = absurd short
never_spent seen lanes (Reach name query workers calls) told status says verified short = absurd short
never_spent seen lanes (World size workers) told status says verified short = absurd short

says_none : (command : Command) (told : Option Contents) (status : Status) → SaysOf command told status → IsAnswered status → status ≢ ends_in.Memory → HasNoLongRun command told →
    DecidesAlone command → (status ≡ ends_in.No) ↔ HasNone command told
says_none Help told status says answered memory short alone = absurd short
says_none (Print name) told status says answered memory short alone = absurd short
says_none (Explain name query firings search) told status says answered memory short alone =
    (finds_none told name query firings status says short.texts, none_found told name query firings status says answered memory (decides told name query firings status says short))
says_none (Run name query firings search workers calls false) told status says answered memory short alone =
    (finds_none told name query firings status says short.texts, none_found told name query firings status says answered memory (decides told name query firings status says short))
says_none (Run name query firings search workers calls true) told status says answered memory short alone = absurd alone
says_none (Batch name queries firings search workers calls) told status says answered memory short alone = (
  finds_one told name queries firings status says short.texts,
  one_found told name queries firings status says answered memory (decides_all told name queries firings status says short),
)
says_none (Exec name plan workers calls) told status says answered memory short alone = absurd short
says_none (Check name query plan firings) told status says answered memory short alone =
    (finds_wrong told name query plan firings status says short.given, wrong_found told name query plan firings status says answered memory (judges told name query plan firings status says short))
says_none (Verify name) told status says answered memory short alone = absurd short
says_none (Crawl name workers calls) told status says answered memory short alone = absurd short
says_none (Reach name query workers calls) told status says answered memory short alone = absurd short
says_none (World size workers) told status says answered memory short alone = absurd short

module _ {S : Type 0} (seen : S → Seen) (one : (words : List (List ℕ)) (command other : Command) → IsCommand words command → IsCommand words other → command ≡ other) where
  pub not_undecided : (words : List (List ℕ)) (command : Command) (before after : Moment) (old new : List (Lane S)) (status : Status) →
      Runs seen words before after old new status → IsCommand words command → HasNoLongRun command before.files → status ≢ ends_in.Undecided
  not_undecided words command before after old new status runs is short =
      never_spent seen new command before.files status (whole seen one words command before after old new status runs is)
      (verified_whole seen one words command before after old new status runs is) short

  pub exactly_none : (words : List (List ℕ)) (command : Command) (before after : Moment) (old new : List (Lane S)) (status : Status) →
      Runs seen words before after old new status → IsCommand words command → IsAnswered status → status ≢ ends_in.Memory → HasNoLongRun command before.files →
      DecidesAlone command → (status ≡ ends_in.No) ↔ HasNone command before.files
  exactly_none words command before after old new status runs is answered memory short alone =
      says_none command before.files status (whole seen one words command before after old new status runs is) answered memory short alone
