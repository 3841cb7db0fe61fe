-- What the reading of the parts says to its callers.
use Rattle.std.proofs.Common.{◌≡◌, ◌⊎◌, ◌≤◌, ◌<◌, ℕ, List, [], ◌∷◌, length, Result, Ok, Err, subst, sym, refl, ⊎_elim, arith, Bool, true, false}
use Rattle.std.specs.Prelude.{IfOk, IfErr, nat_le, nat_lt, if◌then◌else◌}
use Rattle.std.proofs.lemmas.Bool.{ltb-true, ltb-false, leb-true}
use Rattle.std.proofs.lemmas.Slice.Zip.{AllZip-long}
use Rattle.pq_text.specs.declared.token.Token.{Token}
use Rattle.meaning.specs.declared.types.Statement.{Statement}
use Rattle.access_schema.specs.declared.schema.Schema.{Schema}
use Rattle.access_schema.specs.declared.fault.Limit.TheVariants as limit
use Rattle.sql_select.specs.declared.fault.SqlFault.{SqlFault}
use Rattle.sql_select.specs.declared.fault.SqlFault.TheVariants as fault
use Rattle.sql_select.specs.Statements.{AreTokens}
use Rattle.sql_batch.specs.declared.cutting.Part.{Part}
use Rattle.sql_batch.specs.declared.reading.TheConstants.{WIDTHS}
use Rattle.sql_batch.specs.declared.batch.TheConstants.{MOST_STATEMENTS}
use Rattle.sql_batch.specs.Cutting.{ends_query, cut_from, cut, alone}
use Rattle.sql_batch.specs.Batches.{kind_of, AreQueries, IsFirstFault, IsBatchText, IsFaultOfQueries, too_many, IsBatchFault, of_text, of_queries}
use Rattle.sql_batch.specs.Reading.{are_too_many}
use Rattle.sql_batch.proofs.Queries.{queries_reach, fault_reaches, weaker}

-- there is a part
pub cut_some : (bytes : List ℕ) (from : ℕ) (tokens : List Token) → 1 ≤ length (cut_from bytes from tokens)
cut_some bytes from [] = omega arith
cut_some bytes from (t ∷ ts) = go (ends_query bytes t ts) (cut_some bytes from ts)
  where
    go : (ends : Bool) → 1 ≤ length (cut_from bytes from ts) → 1 ≤ length (if ends then record { from = from; to = t.end } ∷ cut_from bytes t.end ts else cut_from bytes from ts)
    go true more = omega arith
    go false more = more

module _ (schema : Schema) (bytes : List ℕ) where
  abbrev pub FaultOrMemory : List Part → SqlFault → Type 0
  FaultOrMemory parts f = (f ≡ fault.NoMemory) ⊎ IsFaultOfQueries schema bytes parts f

  -- the reading of parts that are not too many, or have a fault that is looked for before
  pub few : (parts : List Part) (result : Result (List Statement) SqlFault) → IfOk result (AreQueries schema bytes parts) → are_too_many (length parts) result ≡ false →
      IfOk result (λ list. length list ≤ MOST_STATEMENTS)
  few parts (Ok list) z none = let long = AllZip-long _ parts list z in let most = ltb-false MOST_STATEMENTS (length parts) none in omega (arith, long, most)
  few parts (Err f) z none = tt

  -- too many parts
  pub of_many : (parts : List Part) (result : Result (List Statement) SqlFault) → IfOk result (AreQueries schema bytes parts) → IfErr result (λ f. (f ≡ fault.NoMemory) ⊎ IsFirstFault schema bytes parts f) →
      are_too_many (length parts) result ≡ true → IsFaultOfQueries schema bytes parts (fault.OverLimit limit.Statements)
  of_many parts (Ok list) z h many = too_many refl (λ part c. queries_reach schema bytes parts list z part c WIDTHS) (ltb-true MOST_STATEMENTS (length parts) many)
  of_many parts (Err f) z h many = both (nat_le WIDTHS (kind_of f)) refl many
    where
      reach : WIDTHS ≤ kind_of f → IsFirstFault schema bytes parts f → MOST_STATEMENTS < length parts → IsFaultOfQueries schema bytes parts (fault.OverLimit limit.Statements)
      reach names first more = too_many refl (λ part c. weaker schema bytes (alone bytes part) WIDTHS (kind_of f) names (fault_reaches schema bytes parts f first part c)) more

      never : f ≡ fault.NoMemory → WIDTHS ≤ kind_of f → ⊥
      never e names = let none : WIDTHS ≤ kind_of fault.NoMemory = subst (λ (g : SqlFault). WIDTHS ≤ kind_of g) e names in omega (arith, none)

      both : (names : Bool) → nat_le WIDTHS (kind_of f) ≡ names → (if names then nat_lt MOST_STATEMENTS (length parts) else false) ≡ true → IsFaultOfQueries schema bytes parts (fault.OverLimit limit.Statements)
      both true e many = ⊎_elim (λ none. absurd (never none (leb-true WIDTHS (kind_of f) e))) (λ first. reach (leb-true WIDTHS (kind_of f) e) first (ltb-true MOST_STATEMENTS (length parts) many)) h
      both false e many = absurd (cc)

  -- parts that were cut from the tokens of the bytes
  pub as_fault : (tokens : List Token) (parts : List Part) (result : Result (List Statement) SqlFault) → AreTokens bytes tokens → parts ≡ cut bytes tokens →
      IfErr result (FaultOrMemory parts) → IfErr result (IsBatchFault schema bytes)
  as_fault tokens parts (Ok list) are e h = tt
  as_fault tokens parts (Err f) are e h = ⊎_elim
      (λ none. subst (λ (g : SqlFault). IsBatchFault schema bytes g) (sym none) (of_text tt (omega arith)))
      (λ q. of_queries tokens are (subst (λ (ps : List Part). IsFaultOfQueries schema bytes ps f) e q))
      h

  at_least_one : (statements : List Statement) → IsBatchText schema bytes statements → 1 ≤ length statements
  at_least_one statements is = let long = AllZip-long _ (cut bytes is.tokens) statements is.queries in let some = cut_some bytes 0 is.tokens in omega (arith, long, some)

  pub counted : (result : Result (List Statement) SqlFault) → IfOk result (IsBatchText schema bytes) → IfOk result (λ list. (1 ≤ length list) × (length list ≤ MOST_STATEMENTS))
  counted (Ok list) is = (at_least_one list is, is.few)
  counted (Err f) is = tt
