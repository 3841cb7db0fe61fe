-- Bytes are one batch at most, and have one fault at most.
use Rattle.std.proofs.Common.{◌≡◌, ◌≢◌, ◌⊎◌, ◌≤◌, ◌<◌, ◌+◌, ℕ, List, [], ◌∷◌, ◌++◌, length, Result, Ok, Err, ap, subst, sym, refl, ◌∙◌, inl, inr, ⊎_elim, arith}
use Rattle.std.specs.Prelude.{Contains, IfOk, IfErr, MatchResult}
use Rattle.std.proofs.lemmas.List.Elements.{Contains-append_right}
use Rattle.std.proofs.lemmas.Slice.Zip.{AllZip-long}
use Rattle.lists.proofs.Members.{contains_here, contains_there, head_is, tail_is}
use Rattle.pq_text.specs.declared.token.Token.{Token}
use Rattle.pq_text.specs.declared.token.Style.TheVariants.{Sql}
use Rattle.pq_text.specs.declared.token.LexFault.TheVariants as lex
use Rattle.pq_text.proofs.Lexing.{tokens_only}
use Rattle.pq_text.proofs.FirstBad.{utf8_clash}
use Rattle.meaning.specs.declared.types.Statement.{Statement}
use Rattle.access_schema.specs.declared.schema.Schema.{Schema}
use Rattle.sql_select.specs.declared.fault.SqlFault.{SqlFault}
use Rattle.sql_select.specs.declared.fault.SqlFault.TheVariants as fault
use Rattle.sql_select.specs.Statements.{AreTokens, IsSqlFault}
use Rattle.sql_select.proofs.Unique as select
use Rattle.sql_batch.specs.declared.cutting.Part.{Part}
use Rattle.sql_batch.specs.declared.reading.TheConstants.{TOKENS, WIDTHS}
use Rattle.sql_batch.specs.declared.batch.TheConstants.{MOST_STATEMENTS}
use Rattle.sql_batch.specs.Cutting.{cut, alone}
use Rattle.sql_batch.specs.Batches.{kind_of, AreQueries, Reaches, IsFirstFault, IsBatchText, IsFaultOfQueries, of_one, too_many, IsBatchFault, of_text, of_queries}
use Rattle.sql_batch.proofs.Queries.{statement_of, fault_reaches}

-- where two places of one list are the same, or one lies before the other
apart : (before before' after after' : List Part) (p p' : Part) → before ++ p ∷ after ≡ before' ++ p' ∷ after' → (p ≡ p') ⊎ (Contains before' p ⊎ Contains before p')
apart [] [] after after' p p' e = inl (head_is p p' after after' e)
apart [] (x ∷ before') after after' p p' e = inr (inl (subst (λ (q : Part). Contains (x ∷ before') q) (sym (head_is p x after (before' ++ p' ∷ after') e)) (contains_here x before')))
apart (x ∷ before) [] after after' p p' e = inr (inr (subst (λ (q : Part). Contains (x ∷ before) q) (head_is x p' (before ++ p ∷ after) after' e) (contains_here x before)))
apart (x ∷ before) (y ∷ before') after after' p p' e = ⊎_elim
    (λ same. inl same)
    (λ one. inr (⊎_elim (λ h. inl (contains_there y before' p h)) (λ h. inr (contains_there x before p' h)) one))
    (apart before before' after after' p p' (tail_is x y (before ++ p ∷ after) (before' ++ p' ∷ after') e))

module _ (schema : Schema) (bytes : List ℕ) where
  one_tokens : (ts us : List Token) → AreTokens bytes ts → AreTokens bytes us → ts ≡ us
  one_tokens ts us are are' = tokens_only Sql bytes (Ok ts) are.lexes tt us are'.lexes

  -- bytes with tokens have no fault of the text as a whole
  clash : (f : SqlFault) (tokens : List Token) → IsSqlFault schema bytes f → kind_of f ≤ TOKENS → AreTokens bytes tokens → f ≡ fault.NoMemory
  clash fault.NoMemory tokens h k are = refl
  clash (fault.NotUtf8 o) tokens h k are = absurd (utf8_clash bytes o h are.utf8)
  clash (fault.Lex lex.NoMemory) tokens h k are = absurd h.1
  clash (fault.Lex (lex.BadByte o)) tokens h k are = let e : lex.BadByte o ≡ lex.NoMemory = tokens_only Sql bytes (Err (lex.BadByte o)) tt h.1 tokens are.lexes in absurd (cc)
  clash (fault.Lex (lex.OpenQuote o)) tokens h k are = let e : lex.OpenQuote o ≡ lex.NoMemory = tokens_only Sql bytes (Err (lex.OpenQuote o)) tt h.1 tokens are.lexes in absurd (cc)
  clash _ tokens h k are = absurd (omega (arith, k))

  queries_one : (parts : List Part) (ss ts : List Statement) → AreQueries schema bytes parts ss → AreQueries schema bytes parts ts → ss ≡ ts
  queries_one [] [] [] a b = refl
  queries_one [] [] (y ∷ ys) a b = absurd b
  queries_one [] (x ∷ xs) ts a b = absurd a
  queries_one (p ∷ ps) [] ts a b = absurd a
  queries_one (p ∷ ps) (x ∷ xs) [] a b = absurd b
  queries_one (p ∷ ps) (x ∷ xs) (y ∷ ys) (h, a) (h', b) =
      ap (λ (w : Statement). w ∷ xs) (select.one_statement schema (alone bytes p) x y h h') ∙ ap (λ (ws : List Statement). y ∷ ws) (queries_one ps xs ys a b)

  pub one_batch : (ss ts : List Statement) → IsBatchText schema bytes ss → IsBatchText schema bytes ts → ss ≡ ts
  one_batch ss ts is is' =
      queries_one (cut bytes is.tokens) ss ts is.queries
      (subst (λ (us : List Token). AreQueries schema bytes (cut bytes us) ts) (one_tokens is'.tokens is.tokens is'.lexed is.lexed) is'.queries)

  -- ---- faults of the parts

  -- a text with this fault has none of an earlier kind
  kind_reached : (text : List ℕ) (f : SqlFault) (k : ℕ) → IsSqlFault schema text f → f ≢ fault.NoMemory → Reaches schema text k → k ≤ kind_of f
  kind_reached text f k h one r = ⊎_elim
      (λ (s, is). absurd (one (select.no_fault schema text s f is h)))
      (λ (g, is, one', far). subst (λ (q : SqlFault). k ≤ kind_of q) (select.one_fault schema text g f is h one' one) far)
      r

  module _ (parts : List Part) where
    its_part : (f : SqlFault) (first : IsFirstFault schema bytes parts f) → Contains parts first.part
    its_part f first = subst (λ (ps : List Part). Contains ps first.part) (sym first.whole) (Contains-append_right first.before (first.part ∷ first.after) first.part (contains_here first.part first.after))

    no_later : (f g : SqlFault) (first : IsFirstFault schema bytes parts f) → IsFirstFault schema bytes parts g → kind_of g ≤ kind_of f
    no_later f g first other = kind_reached (alone bytes first.part) f (kind_of g) first.is first.one (fault_reaches schema bytes parts g other first.part (its_part f first))

    one_first : (f g : SqlFault) → IsFirstFault schema bytes parts f → IsFirstFault schema bytes parts g → f ≡ g
    one_first f g first other =
        let le = no_later f g first other in
        let ge = no_later g f other first in
        ⊎_elim
        (λ same. select.one_fault schema (alone bytes other.part) f g (subst (λ (q : Part). IsSqlFault schema (alone bytes q) f) same first.is) other.is first.one other.one)
        (λ unequal. ⊎_elim
        (λ h. let more = kind_reached (alone bytes first.part) f (kind_of g + 1) first.is first.one (other.earlier first.part h) in absurd (omega (arith, more, ge)))
        (λ h. let more = kind_reached (alone bytes other.part) g (kind_of f + 1) other.is other.one (first.earlier other.part h) in absurd (omega (arith, more, le)))
        unequal)
        (apart first.before other.before first.after other.after first.part other.part (sym first.whole ∙ other.whole))

    few_clash : (f : SqlFault) → IsFirstFault schema bytes parts f → (WIDTHS ≤ kind_of f → length parts ≤ MOST_STATEMENTS) →
        ((part : Part) → Contains parts part → Reaches schema (alone bytes part) WIDTHS) → MOST_STATEMENTS < length parts → ⊥
    few_clash f first few reach many =
        let names = kind_reached (alone bytes first.part) f WIDTHS first.is first.one (reach first.part (its_part f first)) in
        let most = few names in
        omega (arith, most, many)

    one_of_queries : (f g : SqlFault) → IsFaultOfQueries schema bytes parts f → IsFaultOfQueries schema bytes parts g → f ≡ g
    one_of_queries f g (of_one first few) (of_one other few') = one_first f g first other
    one_of_queries f g (of_one first few) (too_many e reach many) = absurd (few_clash f first few reach many)
    one_of_queries f g (too_many e reach many) (of_one other few) = absurd (few_clash g other few reach many)
    one_of_queries f g (too_many e reach many) (too_many e' reach' many') = e ∙ sym e'

    no_fault_of : (ss : List Statement) (f : SqlFault) → AreQueries schema bytes parts ss → length ss ≤ MOST_STATEMENTS → IsFaultOfQueries schema bytes parts f → ⊥
    no_fault_of ss f z few (of_one first names) =
        let (s, is) = statement_of schema bytes parts ss z first.part (its_part f first) in
        first.one (select.no_fault schema (alone bytes first.part) s f is first.is)
    no_fault_of ss f z few (too_many e reach many) = let long = AllZip-long _ parts ss z in omega (arith, long, few, many)

  pub no_fault : (ss : List Statement) (f : SqlFault) → IsBatchText schema bytes ss → IsBatchFault schema bytes f → f ≡ fault.NoMemory
  no_fault ss f is (of_text h k) = clash f is.tokens h k is.lexed
  no_fault ss f is (of_queries tokens are q) =
      absurd (no_fault_of (cut bytes is.tokens) ss f is.queries is.few (subst (λ (us : List Token). IsFaultOfQueries schema bytes (cut bytes us) f) (one_tokens tokens is.tokens are is.lexed) q))

  pub one_fault : (f g : SqlFault) → IsBatchFault schema bytes f → IsBatchFault schema bytes g → f ≢ fault.NoMemory → g ≢ fault.NoMemory → f ≡ g
  one_fault f g (of_text h k) (of_text h' k') some some' = select.one_fault schema bytes f g h h' some some'
  one_fault f g (of_text h k) (of_queries tokens are q) some some' = absurd (some (clash f tokens h k are))
  one_fault f g (of_queries tokens are q) (of_text h k) some some' = absurd (some' (clash g tokens h k are))
  one_fault f g (of_queries tokens are q) (of_queries others are' q') some some' =
      one_of_queries (cut bytes tokens) f g q (subst (λ (us : List Token). IsFaultOfQueries schema bytes (cut bytes us) g) (one_tokens others tokens are' are) q')

pub only : (schema : Schema) (bytes : List ℕ) (result : Result (List Statement) SqlFault) → IfOk result (IsBatchText schema bytes) → IfErr result (IsBatchFault schema bytes) →
    (statements : List Statement) → IsBatchText schema bytes statements → MatchResult result (λ found. found ≡ statements) (λ f. f ≡ fault.NoMemory)
only schema bytes (Ok found) read fault statements is = one_batch schema bytes found statements read is
only schema bytes (Err f) read fault statements is = no_fault schema bytes statements f is fault
