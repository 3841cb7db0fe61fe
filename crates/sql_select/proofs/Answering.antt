-- What the reading of bytes says to its caller.
use Rattle.std.proofs.Common.{◌≡◌, ◌≤◌, ◌<◌, ◌-◌, ℕ, List, [], ◌∷◌, ◌++◌, length, take, drop, Result, Ok, Err, ap, sym, subst, ◌∙◌, inl, inr, arith, append_assoc}
use Rattle.std.proofs.lemmas.List.{append-nil}
use Rattle.std.proofs.Math.Seq.{take-length}
use Rattle.std.specs.Prelude.{IfOk, IfErr, MatchResult, slice_index_or}
use Rattle.std.specs.List.{AllByRecursion, AllZip}
use Rattle.meaning.specs.declared.types.Select.{Select}
use Rattle.meaning.specs.declared.types.Statement.{Statement}
use Rattle.access_schema.specs.declared.schema.Schema.{Schema}
use Rattle.sql_select.specs.declared.fault.SqlFault.{SqlFault}
use Rattle.sql_select.specs.declared.fault.SqlFault.TheVariants.{NoMemory}
use Rattle.sql_select.specs.Statements.{IsWritten, Means, IsStatementText, StatementFits, IsFirstNameFault, IsSqlFault}
use Rattle.sql_select.specs.declared.fault.SqlFault.TheVariants as fault
use Rattle.meaning.specs.declared.types.Relation.{Relation}
use Rattle.sql_select.specs.declared.piece.RawSelect.{RawSelect}
use Rattle.sql_select.specs.declared.named.NameFault.{NameFault}
use Rattle.sql_select.specs.declared.named.NameFault.TheVariants as name
use Rattle.sql_select.specs.Limits.{AreWithinLimits}
use Rattle.sql_select.specs.Widths.{AreAlikeWide}
use Rattle.sql_select.specs.Naming.{named_select}
use Rattle.sql_select.specs.Names.{IsNameFault}
use Rattle.sql_select.specs.Select.{IsNamesFault, IsNamingFault}
use Rattle.sql_select.proofs.Unique.{one_statement, no_fault}
use Rattle.sql_select.proofs.Fitting.{statement_fits}

pub only : (schema : Schema) (bytes : List ℕ) (result : Result Statement SqlFault) → IfOk result (IsStatementText schema bytes) → IfErr result (IsSqlFault schema bytes) →
    (statement : Statement) → IsStatementText schema bytes statement → MatchResult result (λ found. found ≡ statement) (λ fault. fault ≡ NoMemory)
only schema bytes (Ok found) read fault statement is = one_statement schema bytes found statement read is
only schema bytes (Err f) read fault statement is = no_fault schema bytes statement f is fault

pub fits : (schema : Schema) (bytes : List ℕ) (result : Result Statement SqlFault) → IfOk result (IsStatementText schema bytes) → IfOk result (StatementFits schema)
fits schema bytes (Ok found) read = statement_fits schema bytes found read
fits schema bytes (Err f) read = tt

-- the fault of the names of a query's selects is one of the bytes
pub names_are_sql : (schema : Schema) (bytes : List ℕ) (raws : List RawSelect) (f : SqlFault) → IsWritten bytes raws → AreWithinLimits raws → AreAlikeWide raws → IsNamesFault schema.relations bytes raws f → IsSqlFault schema bytes f
names_are_sql schema bytes raws fault.NoMemory w within wide h = tt
names_are_sql schema bytes raws (fault.UnknownName o) w within wide h = (raws, w, within, wide, h)
names_are_sql schema bytes raws (fault.Ambiguous o) w within wide h = (raws, w, within, wide, h)
names_are_sql schema bytes raws _ w within wide h = absurd h

-- ---- selects that are resolved one after another

-- the selects that are left behind the first one
rest_is : {X : Type 0} (left : List X) (x : X) (n : ℕ) → n ≡ length (x ∷ left) - 1 → take n (drop 1 (x ∷ left)) ≡ left
rest_is left x n count = let all : n ≡ length left = omega (arith, count) in ap (λ (m : ℕ). take m left) all ∙ take-length left

pub rest_all : {X : Type 0} (P : X → Type 0) (left : List X) (n : ℕ) → AllByRecursion P left → 1 ≤ length left → n ≡ length left - 1 → AllByRecursion P (take n (drop 1 left))
rest_all P [] n all some count = absurd (omega (arith, some))
rest_all P (x ∷ left) n all some count = subst (λ xs. AllByRecursion P xs) (sym (rest_is left x n count)) all.1

module _ (relations : List Relation) (bytes : List ℕ) (all : List RawSelect) where
  -- what the selects that are left mean goes on from these
  abbrev pub MeansOn : List RawSelect → List Select → Type 0
  MeansOn left selects = (more : List Select) → AllZip (Means relations bytes) left more → AllZip (Means relations bytes) all (selects ++ more)

  -- their first fault is that of all
  abbrev pub FaultsOn : List RawSelect → Type 0
  FaultsOn left = (f : NameFault) → IsFirstNameFault relations bytes left f → IsFirstNameFault relations bytes all f

  pub means_on : (left : List RawSelect) (n : ℕ) (raw : RawSelect) (selects now : List Select) (select : Select) → 1 ≤ length left → raw ≡ slice_index_or left 0 raw → n ≡ length left - 1 → Means relations bytes raw select →
      now ≡ selects ++ select ∷ [] → MeansOn left selects → MeansOn (take n (drop 1 left)) now
  means_on [] n raw selects now select some at count means e on = absurd (omega (arith, some))
  means_on (x ∷ left) n raw selects now select some at count means e on = λ more zip.
      let here : Means relations bytes x select = subst (λ (r : RawSelect). Means relations bytes r select) at means in
      let rest : AllZip (Means relations bytes) left more = subst (λ rs. AllZip (Means relations bytes) rs more) (rest_is left x n count) zip in
      let whole : selects ++ select ∷ more ≡ now ++ more = sym (append_assoc selects (select ∷ []) more) ∙ ap (λ ss. ss ++ more) (sym e) in
      subst (λ ss. AllZip (Means relations bytes) all ss) whole (on (select ∷ more) (here, rest))

  pub faults_on : (left : List RawSelect) (n : ℕ) (raw : RawSelect) (select : Select) → 1 ≤ length left → raw ≡ slice_index_or left 0 raw → n ≡ length left - 1 → Means relations bytes raw select →
      FaultsOn left → FaultsOn (take n (drop 1 left))
  faults_on [] n raw select some at count means on = absurd (omega (arith, some))
  faults_on (x ∷ left) n raw select some at count means on = λ f is.
      let here : Means relations bytes x select = subst (λ (r : RawSelect). Means relations bytes r select) at means in
      on f (inr (select, here, subst (λ rs. IsFirstNameFault relations bytes rs f) (rest_is left x n count) is))

  -- nothing is left
  pub means_all : (left : List RawSelect) (selects : List Select) → length left < 1 → MeansOn left selects → AllZip (Means relations bytes) all selects
  means_all [] selects none on = subst (λ ss. AllZip (Means relations bytes) all ss) (append-nil selects) (on [] tt)
  means_all (x ∷ left) selects none on = absurd (omega (arith, none))

  -- the fault of the first select that is left
  pub here_first : (left : List RawSelect) (raw : RawSelect) (f : SqlFault) → 1 ≤ length left → raw ≡ slice_index_or left 0 raw → FaultsOn left → IsNamingFault relations (named_select bytes raw) f → IsNamesFault relations bytes all f
  here_first [] raw f some at on h = absurd (omega (arith, some))
  here_first (x ∷ left) raw fault.NoMemory some at on h = tt
  here_first (x ∷ left) raw (fault.UnknownName o) some at on h = on (name.Unknown o) (inl (subst (λ (r : RawSelect). IsNameFault relations (named_select bytes r) (name.Unknown o)) at h))
  here_first (x ∷ left) raw (fault.Ambiguous o) some at on h = on (name.Ambiguous o) (inl (subst (λ (r : RawSelect). IsNameFault relations (named_select bytes r) (name.Ambiguous o)) at h))
  here_first (x ∷ left) raw _ some at on h = absurd h
