-- The parts of a batch read one after another.
use Rattle.std.proofs.Common.{◌≡◌, ◌≢◌, ◌⊎◌, ◌≤◌, ◌<◌, ◌+◌, ◌-◌, ℕ, List, [], ◌∷◌, ◌++◌, length, take, drop, Result, Ok, Err, ap, subst, sym, ◌∙◌, refl, inl, inr, ⊎_elim, arith, append_assoc, Bool, true, false}
use Rattle.std.specs.Prelude.{Contains, Option, Some, None, IfOk, IfErr, nat_le, slice_index_or, if◌then◌else◌}
use Rattle.std.specs.List.{AllByRecursion}
use Rattle.std.proofs.Math.Seq.{take-length}
use Rattle.std.proofs.lemmas.Bool.Decides.{leb_tells}
use Rattle.std.proofs.lemmas.List.Elements.{Contains-append_cases}
use Rattle.lists.proofs.Members.{contains_cases, contains_none, contains_one}
use Rattle.meaning.specs.declared.types.Statement.{Statement}
use Rattle.access_schema.specs.declared.schema.Schema.{Schema}
use Rattle.sql_select.specs.declared.fault.SqlFault.{SqlFault}
use Rattle.sql_select.specs.declared.fault.SqlFault.TheVariants as fault
use Rattle.sql_select.specs.Statements.{IsStatementText, StatementFits, IsSqlFault}
use Rattle.sql_batch.specs.declared.cutting.Part.{Part}
use Rattle.sql_batch.specs.declared.reading.Progress.{Progress}
use Rattle.sql_batch.specs.Cutting.{IsPart, alone}
use Rattle.sql_batch.specs.Batches.{kind_of, AreQueries, AllFit, Reaches, IsFirstFault}
use Rattle.sql_batch.specs.Reading.{first_of, AreRead, IsRead, result_of, outcome_of}

-- one more statement
one_more_fits : (schema : Schema) (statements : List Statement) (s : Statement) → AllFit schema statements → StatementFits schema s → AllFit schema (statements ++ s ∷ [])
one_more_fits schema statements s fit fits other c =
    ⊎_elim (λ h. fit other h) (λ h. subst (λ (t : Statement). StatementFits schema t) (contains_one s other h) fits) (Contains-append_cases statements (s ∷ []) other c)

module _ (schema : Schema) (bytes : List ℕ) where
  pub weaker : (text : List ℕ) (k n : ℕ) → k ≤ n → Reaches schema text n → Reaches schema text k
  weaker text k n l r = ⊎_elim (λ s. inl s) (λ (f, is, one, far). inr (f, is, one, (omega (arith, l, far)))) r

  pub statement_of : (parts : List Part) (statements : List Statement) → AreQueries schema bytes parts statements → (part : Part) → Contains parts part →
      (s : Statement) × IsStatementText schema (alone bytes part) s
  statement_of [] statements z part c = absurd (contains_none part c)
  statement_of (p ∷ ps) [] z part c = absurd z
  statement_of (p ∷ ps) (s ∷ ss) (is, z) part c =
      ⊎_elim (λ e. (s, subst (λ (q : Part). IsStatementText schema (alone bytes q) s) e is)) (λ later. statement_of ps ss z part later) (contains_cases p ps part c)

  pub queries_reach : (parts : List Part) (statements : List Statement) → AreQueries schema bytes parts statements → (part : Part) → Contains parts part → (k : ℕ) → Reaches schema (alone bytes part) k
  queries_reach parts statements z part c k = inl (statement_of parts statements z part c)

  pub fault_reaches : (parts : List Part) (f : SqlFault) → IsFirstFault schema bytes parts f → (part : Part) → Contains parts part → Reaches schema (alone bytes part) (kind_of f)
  fault_reaches parts f first part c =
      let among : Contains (first.before ++ first.part ∷ first.after) part = subst (λ (ps : List Part). Contains ps part) first.whole c in
      ⊎_elim
      (λ h. weaker (alone bytes part) (kind_of f) (kind_of f + 1) (omega arith) (first.earlier part h))
      (λ h. ⊎_elim
      (λ e. inr (f, subst (λ (q : Part). IsSqlFault schema (alone bytes q) f) e first.is, first.one, (omega arith)))
      (λ later. first.later part later)
      (contains_cases first.part first.after part h))
      (Contains-append_cases first.before (first.part ∷ first.after) part among)

  zip_push : (parts : List Part) (statements : List Statement) (part : Part) (s : Statement) → AreQueries schema bytes parts statements → IsStatementText schema (alone bytes part) s →
      AreQueries schema bytes (parts ++ part ∷ []) (statements ++ s ∷ [])
  zip_push [] [] part s z is = (is, tt)
  zip_push [] (x ∷ xs) part s z is = absurd z
  zip_push (p ∷ ps) [] part s z is = absurd z
  zip_push (p ∷ ps) (x ∷ xs) part s (h, z) is = (h, zip_push ps xs part s z is)

  -- one part more, which has no fault of an earlier kind
  later_part : (parts : List Part) (f : SqlFault) (part : Part) → IsFirstFault schema bytes parts f → Reaches schema (alone bytes part) (kind_of f) → IsFirstFault schema bytes (parts ++ part ∷ []) f
  later_part parts f part first reaches = record {
    before = first.before;
    part = first.part;
    after = first.after ++ part ∷ [];
    whole = ap (λ (ps : List Part). ps ++ part ∷ []) first.whole ∙ append_assoc first.before (first.part ∷ first.after) (part ∷ []);
    is = first.is;
    one = first.one;
    earlier = first.earlier;
    later = λ other c. ⊎_elim
        (λ h. first.later other h)
        (λ h. subst (λ (q : Part). Reaches schema (alone bytes q) (kind_of f)) (contains_one part other h) reaches)
        (Contains-append_cases first.after (part ∷ []) other c);
  }

  -- one part more, whose fault is of an earlier kind than those before
  new_fault : (parts : List Part) (part : Part) (g : SqlFault) → g ≢ fault.NoMemory → IsSqlFault schema (alone bytes part) g →
      ((other : Part) → Contains parts other → Reaches schema (alone bytes other) (kind_of g + 1)) → IsFirstFault schema bytes (parts ++ part ∷ []) g
  new_fault parts part g one is earlier = record {
    before = parts;
    part = part;
    after = [];
    whole = refl;
    is = is;
    one = one;
    earlier = earlier;
    later = λ other c. absurd (contains_none other c);
  }

  with_statement : (parts : List Part) (statements : List Statement) (first : Option SqlFault) (part : Part) (s : Statement) →
      AreRead schema bytes parts statements first → IsStatementText schema (alone bytes part) s → AreRead schema bytes (parts ++ part ∷ []) (statements ++ s ∷ []) first
  with_statement parts statements None part s z is = zip_push parts statements part s z is
  with_statement parts statements (Some f) part s first is = later_part parts f part first (inl (s, is))

  with_fault : (parts : List Part) (statements : List Statement) (first : Option SqlFault) (part : Part) (g : SqlFault) →
      AreRead schema bytes parts statements first → g ≢ fault.NoMemory → IsSqlFault schema (alone bytes part) g → IsFirstFault schema bytes (parts ++ part ∷ []) (first_of first g)
  with_fault parts statements None part g z one is = new_fault parts part g one is (λ other c. queries_reach parts statements z other c (kind_of g + 1))
  with_fault parts statements (Some f) part g first one is = go (nat_le (kind_of f) (kind_of g)) (leb_tells (kind_of f) (kind_of g))
    where
      go : (below : Bool) → ((below ≡ true) × (kind_of f ≤ kind_of g)) ⊎ ((below ≡ false) × (kind_of g < kind_of f)) →
          IsFirstFault schema bytes (parts ++ part ∷ []) (if below then f else g)
      go true told = later_part parts f part first (inr (g, is, one, ⊎_elim (λ t. t.1) (λ t. let never : true ≡ false = t.0 in absurd (cc)) told))
      go false told = new_fault parts part g one is (λ other c.
          let less : kind_of g < kind_of f = ⊎_elim (λ t. let never : false ≡ true = t.0 in absurd (cc)) (λ t. t.1) told in
          weaker (alone bytes other) (kind_of g + 1) (kind_of f) (omega (arith, less)) (fault_reaches parts f first other c))

  -- ---- what the steps say

  pub after_statement : (part : Part) (s : Statement) (read : Progress) (result : Result Progress SqlFault) → IfOk result (λ new. new ≡ record { statements = read.statements ++ s ∷ []; first = read.first }) →
      IsStatementText schema (alone bytes part) s → StatementFits schema s → IfOk result (λ new. (parts : List Part) → IsRead schema bytes parts read → IsRead schema bytes (parts ++ part ∷ []) new)
  after_statement part s read (Ok new) e is fits = λ parts was. subst (λ (n : Progress). IsRead schema bytes (parts ++ part ∷ []) n) (sym e) (record {
    so_far = with_statement parts read.statements read.first part s was.so_far is;
    fit = one_more_fits schema read.statements s was.fit fits;
  })
  after_statement part s read (Err f) e is fits = tt

  pub after_fault : (part : Part) (g : SqlFault) (read : Progress) (result : Result Progress SqlFault) →
      IfOk result (λ new. (kind_of g ≢ 0) × (new ≡ record { statements = read.statements; first = Some (first_of read.first g) })) → IsSqlFault schema (alone bytes part) g →
      IfOk result (λ new. (parts : List Part) → IsRead schema bytes parts read → IsRead schema bytes (parts ++ part ∷ []) new)
  after_fault part g read (Ok new) (some, e) is = λ parts was. subst (λ (n : Progress). IsRead schema bytes (parts ++ part ∷ []) n) (sym e) (record {
    so_far = with_fault parts read.statements read.first part g was.so_far (λ none. some (ap kind_of none)) is;
    fit = was.fit;
  })
  after_fault part g read (Err f) e is = tt

  pub ends_with : (parts : List Part) (read : Progress) (result : Result (List Statement) SqlFault) → result ≡ outcome_of read → IsRead schema bytes parts read →
      IfOk result (AreQueries schema bytes parts) × IfOk result (AllFit schema) × IfErr result (λ f. (f ≡ fault.NoMemory) ⊎ IsFirstFault schema bytes parts f)
  ends_with parts read result e is = go read.statements read.first e is.so_far is.fit
    where
      go : (statements : List Statement) (first : Option SqlFault) → result ≡ result_of statements first → AreRead schema bytes parts statements first → AllFit schema statements →
          IfOk result (AreQueries schema bytes parts) × IfOk result (AllFit schema) × IfErr result (λ f. (f ≡ fault.NoMemory) ⊎ IsFirstFault schema bytes parts f)
      go statements None e so_far fit = rw e (so_far, fit, tt)
      go statements (Some f) e so_far fit = rw e (tt, tt, inr so_far)

-- the first of the parts that are left goes to those that were passed
pub passed_on : (parts passed left : List Part) (n : ℕ) (d : Part) → parts ≡ passed ++ left → 1 ≤ length left → n ≡ length left - 1 →
    parts ≡ (passed ++ slice_index_or left 0 d ∷ []) ++ take n (drop 1 left)
passed_on parts passed [] n d e some k = absurd (omega (arith, some))
passed_on parts passed (x ∷ left) n d e some k =
    let all : n ≡ length left = omega (arith, k) in
    let rest : take n left ≡ left = ap (λ (m : ℕ). take m left) all ∙ take-length left in
    e ∙ sym (append_assoc passed (x ∷ []) left) ∙ ap (λ (xs : List Part). (passed ++ x ∷ []) ++ xs) (sym rest)

pub rest_stands : (bytes : List ℕ) (left : List Part) (n : ℕ) → AllByRecursion (IsPart bytes) left → 1 ≤ length left → n ≡ length left - 1 → AllByRecursion (IsPart bytes) (take n (drop 1 left))
rest_stands bytes [] n all some k = absurd (omega (arith, some))
rest_stands bytes (x ∷ left) n all some k =
    let count : n ≡ length left = omega (arith, k) in
    let rest : take n left ≡ left = ap (λ (m : ℕ). take m left) count ∙ take-length left in
    subst (λ (xs : List Part). AllByRecursion (IsPart bytes) xs) (sym rest) all.1
