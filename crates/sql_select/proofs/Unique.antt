-- Bytes are one statement at most, and have one fault at most.
use Rattle.std.proofs.Common.{◌≡◌, ◌≢◌, ℕ, List, [], ◌∷◌, ◌++◌, length, drop, ap, subst, sym, ◌∙◌, refl, ⊎_elim, arith, true, false, Ok, Err, length-append}
use Rattle.std.specs.Prelude.{Some, slice_get}
use Rattle.std.specs.List.{AllZip}
use Rattle.lists.proofs.Members.{some_injective}
use Rattle.access_schema.specs.declared.fault.Limit.{Limit}
use Rattle.access_schema.specs.declared.fault.Limit.TheVariants as limit
use Rattle.access_schema.specs.declared.schema.Schema.{Schema}
use Rattle.meaning.specs.declared.types.Select.{Select}
use Rattle.meaning.specs.declared.types.Statement.{Statement}
use Rattle.pq_text.specs.declared.token.Token.{Token}
use Rattle.pq_text.specs.declared.token.TokenKind.{TokenKind}
use Rattle.pq_text.specs.declared.token.Style.TheVariants.{Sql}
use Rattle.pq_text.specs.declared.token.LexFault.{LexFault}
use Rattle.pq_text.specs.declared.token.LexFault.TheVariants as lex
use Rattle.pq_text.specs.declared.scan.Found.{Found}
use Rattle.pq_text.specs.declared.scan.Found.TheVariants.{Begins, Bad, Open}
use Rattle.pq_text.specs.Tokens.{token_at}
use Rattle.pq_text.proofs.Lexing.{tokens_only, Lexes-one}
use Rattle.sql_select.specs.declared.piece.RawSelect.{RawSelect}
use Rattle.sql_select.specs.declared.named.NameFault.{NameFault}
use Rattle.sql_select.specs.declared.named.NameFault.TheVariants as name
use Rattle.sql_select.specs.declared.fault.SqlFault.{SqlFault}
use Rattle.sql_select.specs.declared.fault.SqlFault.TheVariants as fault
use Rattle.sql_select.specs.Words.{pieces_of}
use Rattle.sql_select.specs.Grammar.{IsText, S0, StopsAt}
use Rattle.sql_select.specs.Limits.{AreWithinLimits, IsOver}
use Rattle.sql_select.specs.Widths.{AreAlikeWide, IsFirstOtherWide, select_offsets}
use Rattle.sql_select.specs.Naming.{named_select}
use Rattle.sql_select.specs.Statements.{AreTokens, IsWritten, Means, IsStatementText, IsFirstNameFault, IsLexFault, IsMisfit, offset_of, begins_unsupported, first_written, IsWrongWidth, IsWrongSort, IsSqlFault}
use Rattle.sql_select.proofs.Complete.{one_reading}
use Rattle.sql_select.proofs.Leading.{one_rest}
use Rattle.sql_select.proofs.Faults.{no_misfit, pieces_long}
use Rattle.sql_select.specs.Sorts.{IsFirstUnsorted}
use Rattle.access_schema.specs.Meaning.{meaning_of}
use Rattle.sql_select.proofs.Wide.{width_clash, one_number}
use Rattle.sql_select.proofs.Sorted.{one_offset, sorted_clash}
use Rattle.sql_select.proofs.Meanings.{one_select, no_name_fault, one_name_fault}
use Rattle.pq_text.proofs.FirstBad.{utf8_clash, one_bad}

module _ (bytes : List ℕ) where
  one_tokens : (ts us : List Token) → AreTokens bytes ts → AreTokens bytes us → ts ≡ us
  one_tokens ts us are are' = tokens_only Sql bytes (Ok ts) are.lexes tt us are'.lexes

  one_raws : (raws raws' : List RawSelect) → IsWritten bytes raws → IsWritten bytes raws' → raws ≡ raws'
  one_raws raws raws' w w' = one_reading raws raws' (pieces_of bytes w'.tokens) (subst (λ ts. IsText raws (pieces_of bytes ts)) (one_tokens w.tokens w'.tokens w.lexed w'.lexed) w.text) w'.text

  -- bytes with a fault of tokens have none
  lex_clash : (f : LexFault) (ts : List Token) → IsLexFault bytes f → AreTokens bytes ts → ⊥
  lex_clash lex.NoMemory ts h are = h
  lex_clash (lex.BadByte o) ts h are = let e : lex.BadByte o ≡ lex.NoMemory = tokens_only Sql bytes (Err (lex.BadByte o)) tt h ts are.lexes in absurd (cc)
  lex_clash (lex.OpenQuote o) ts h are = let e : lex.OpenQuote o ≡ lex.NoMemory = tokens_only Sql bytes (Err (lex.OpenQuote o)) tt h ts are.lexes in absurd (cc)

  no_bad : (o : ℕ) (found : Found) → found ≡ Bad → (k : TokenKind) (e : ℕ) → found ≡ Begins k e → ⊥
  no_bad o found is k e h = absurd (cc)

  no_open : (o : ℕ) (found : Found) → found ≡ Open → (k : TokenKind) (e : ℕ) → found ≡ Begins k e → ⊥
  no_open o found is k e h = absurd (cc)

  bad_or_open : (found : Found) → found ≡ Bad → found ≡ Open → ⊥
  bad_or_open found is is' = absurd (cc)

  one_lex : (f g : LexFault) → IsLexFault bytes f → IsLexFault bytes g → f ≡ g
  one_lex lex.NoMemory g h h' = absurd h
  one_lex (lex.BadByte o) lex.NoMemory h h' = absurd h'
  one_lex (lex.OpenQuote o) lex.NoMemory h h' = absurd h'
  one_lex (lex.BadByte o) (lex.BadByte p) (l, bad, ts, lexes) (l', bad', us, lexes') =
      ap (λ n. lex.BadByte n) (Lexes-one Sql bytes 0 ts us o p lexes (no_bad o _ bad) lexes' (no_bad p _ bad')).1
  one_lex (lex.OpenQuote o) (lex.OpenQuote p) (l, open_, ts, lexes) (l', open', us, lexes') =
      ap (λ n. lex.OpenQuote n) (Lexes-one Sql bytes 0 ts us o p lexes (no_open o _ open_) lexes' (no_open p _ open')).1
  one_lex (lex.BadByte o) (lex.OpenQuote p) (l, bad, ts, lexes) (l', open', us, lexes') =
      let same : o ≡ p = (Lexes-one Sql bytes 0 ts us o p lexes (no_bad o _ bad) lexes' (no_open p _ open')).1 in
      absurd (bad_or_open _ (subst (λ n. token_at Sql n (drop n bytes) ≡ Bad) same bad) open')
  one_lex (lex.OpenQuote o) (lex.BadByte p) (l, open_, ts, lexes) (l', bad', us, lexes') =
      let same : p ≡ o = (Lexes-one Sql bytes 0 us ts p o lexes' (no_bad p _ bad') lexes (no_open o _ open_)).1 in
      absurd (bad_or_open _ (subst (λ n. token_at Sql n (drop n bytes) ≡ Bad) same bad') open_)

  -- a query that is written stops nowhere
  misfit_clash : (raws : List RawSelect) (after : List Token) → IsWritten bytes raws → IsMisfit bytes after → ⊥
  misfit_clash raws after w m =
      no_misfit raws (pieces_of bytes w.tokens) (pieces_of bytes after) w.text
      (subst (λ ts. StopsAt S0 (pieces_of bytes ts) (pieces_of bytes after)) (one_tokens m.tokens w.tokens m.lexed w.lexed) m.stops)

  -- what is left of one list, as long as something else that is left of it, is that
  same_suffix : (before before' after after' : List Token) → before ++ after ≡ before' ++ after' → length after ≡ length after' → after ≡ after'
  same_suffix [] [] after after' e l = e
  same_suffix [] (x ∷ before') after after' e l =
      let long : length after ≡ length (x ∷ before' ++ after') = ap length e in let sum = length-append before' after' in absurd (omega (arith, long, sum))
  same_suffix (x ∷ before) [] after after' e l =
      let long : length (x ∷ before ++ after) ≡ length after' = ap length e in let sum = length-append before after in absurd (omega (arith, long, sum))
  same_suffix (x ∷ before) (y ∷ before') after after' e l = same_suffix before before' after after' (let rest : before ++ after ≡ before' ++ after' = cc in rest) l

  one_after : (after after' : List Token) → IsMisfit bytes after → IsMisfit bytes after' → after ≡ after'
  one_after after after' m m' =
      let tokens : m.tokens ≡ m'.tokens = one_tokens m.tokens m'.tokens m.lexed m'.lexed in
      let pieces : pieces_of bytes after ≡ pieces_of bytes after' = one_rest (pieces_of bytes m'.tokens) (pieces_of bytes after) (pieces_of bytes after')
      (subst (λ ts. StopsAt S0 (pieces_of bytes ts) (pieces_of bytes after)) tokens m.stops) m'.stops in
      same_suffix m.before m'.before after after' (sym m.whole ∙ tokens ∙ m'.whole) (sym (pieces_long bytes after) ∙ ap length pieces ∙ pieces_long bytes after')

  over_clash : (raws : List RawSelect) (l : Limit) → IsOver raws l → AreWithinLimits raws → ⊥
  over_clash raws limit.Froms (raw, among, over) w = let few = (w.each raw among).froms in omega (arith, few, over)
  over_clash raws limit.Conditions (few, (raw, among, over)) w = let most = (w.each raw among).conditions in omega (arith, most, over)
  over_clash raws limit.Items (few, (raw, among, over)) w = let most = (w.each raw among).items in omega (arith, most, over)
  over_clash raws limit.Selects (each, over) w = let few = w.few in omega (arith, few, over)
  over_clash raws _ h w = absurd h

  one_limit : (raws : List RawSelect) (l m : Limit) → IsOver raws l → IsOver raws m → l ≡ m
  one_limit raws limit.Froms limit.Froms h h' = refl
  one_limit raws limit.Conditions limit.Conditions h h' = refl
  one_limit raws limit.Items limit.Items h h' = refl
  one_limit raws limit.Selects limit.Selects h h' = refl
  one_limit raws limit.Froms limit.Selects (raw, among, over) h' = let few = (h'.0 raw among).froms in absurd (omega (arith, over, few))
  one_limit raws limit.Conditions limit.Selects (few', (raw, among, over)) h' = let few = (h'.0 raw among).conditions in absurd (omega (arith, over, few))
  one_limit raws limit.Items limit.Selects (few', (raw, among, over)) h' = let few = (h'.0 raw among).items in absurd (omega (arith, over, few))
  one_limit raws limit.Selects limit.Froms h (raw, among, over) = let few = (h.0 raw among).froms in absurd (omega (arith, over, few))
  one_limit raws limit.Selects limit.Conditions h (few', (raw, among, over)) = let few = (h.0 raw among).conditions in absurd (omega (arith, over, few))
  one_limit raws limit.Selects limit.Items h (few', (raw, among, over)) = let few = (h.0 raw among).items in absurd (omega (arith, over, few))
  one_limit raws limit.Froms limit.Conditions (raw, among, over) h' = let few = h'.0 raw among in absurd (omega (arith, over, few))
  one_limit raws limit.Froms limit.Items (raw, among, over) h' = let few = (h'.0 raw among).0 in absurd (omega (arith, over, few))
  one_limit raws limit.Conditions limit.Froms h (raw, among, over) = let few = h.0 raw among in absurd (omega (arith, over, few))
  one_limit raws limit.Items limit.Froms h (raw, among, over) = let few = (h.0 raw among).0 in absurd (omega (arith, over, few))
  one_limit raws limit.Conditions limit.Items (few', (raw, among, over)) h' = let few = (h'.0 raw among).1 in absurd (omega (arith, over, few))
  one_limit raws limit.Items limit.Conditions h (few', (raw, among, over)) = let few = (h.0 raw among).1 in absurd (omega (arith, over, few))
  one_limit raws limit.Froms _ h h' = absurd h'
  one_limit raws limit.Conditions _ h h' = absurd h'
  one_limit raws limit.Items _ h h' = absurd h'
  one_limit raws limit.Selects _ h h' = absurd h'
  one_limit raws _ m h h' = absurd h

  -- ---- widths

  width_written : (offset : ℕ) (w : IsWrongWidth bytes offset) → IsWritten bytes w.0
  width_written offset (raws, tokens, are, text, within, (number, other, at)) = record { tokens = tokens; lexed = are; text = text }

  -- selects of one width have no fault of widths
  alike_clash : (raws : List RawSelect) (offset : ℕ) → IsWritten bytes raws → AreAlikeWide raws → IsWrongWidth bytes offset → ⊥
  alike_clash raws offset w alike (others, tokens, are, text, within, (number, other, at)) =
      width_clash others number (subst AreAlikeWide (one_raws raws others w (record { tokens = tokens; lexed = are; text = text })) alike) other

  same_offset : (raws : List RawSelect) (tokens : List Token) (m n o p : ℕ) → IsFirstOtherWide raws m → IsFirstOtherWide raws n →
      slice_get (select_offsets bytes tokens) m ≡ Some o → slice_get (select_offsets bytes tokens) n ≡ Some p → o ≡ p
  same_offset raws tokens m n o p is is' at at' = some_injective o p (sym at ∙ ap (λ k. slice_get (select_offsets bytes tokens) k) (one_number raws m n is is') ∙ at')

  one_width : (o p : ℕ) → IsWrongWidth bytes o → IsWrongWidth bytes p → o ≡ p
  one_width o p (raws, tokens, are, text, within, (m, other, at)) (raws', tokens', are', text', within', (n, other', at')) =
      let same : raws' ≡ raws = one_raws raws' raws (record { tokens = tokens'; lexed = are'; text = text' }) (record { tokens = tokens; lexed = are; text = text }) in
      let all : tokens' ≡ tokens = one_tokens tokens' tokens are' are in
      same_offset raws tokens m n o p other (subst (λ rs. IsFirstOtherWide rs n) same other') at (subst (λ ts. slice_get (select_offsets bytes ts) n ≡ Some p) all at')

module _ (schema : Schema) (bytes : List ℕ) where
  -- what selects mean is one list
  one_meaning : (raws : List RawSelect) (selects others : List Select) → AllZip (Means schema.relations bytes) raws selects → AllZip (Means schema.relations bytes) raws others → selects ≡ others
  one_meaning [] [] [] z z' = refl
  one_meaning [] [] (y ∷ ys) z z' = absurd z'
  one_meaning [] (x ∷ xs) ys z z' = absurd z
  one_meaning (raw ∷ raws) [] ys z z' = absurd z
  one_meaning (raw ∷ raws) (x ∷ xs) [] z z' = absurd z'
  one_meaning (raw ∷ raws) (x ∷ xs) (y ∷ ys) (m, z) (m', z') =
      ap (λ s. s ∷ xs) (one_select schema.relations schema.valid.relations_are (named_select bytes raw) x y m m') ∙ ap (λ ss. y ∷ ss) (one_meaning raws xs ys z z')

  pub one_statement : (s t : Statement) → IsStatementText schema bytes s → IsStatementText schema bytes t → s ≡ t
  one_statement s t is is' =
      let same : is'.raws ≡ is.raws = one_raws bytes is'.raws is.raws is'.written is.written in
      ap (λ (xs : List Select). record { selects = xs }) (one_meaning is.raws s.selects t.selects is.means (subst (λ rs. AllZip (Means schema.relations bytes) rs t.selects) same is'.means))

  -- selects that have meanings have no fault of names
  no_first_fault : (raws : List RawSelect) (selects : List Select) (f : NameFault) → AllZip (Means schema.relations bytes) raws selects → IsFirstNameFault schema.relations bytes raws f → ⊥
  no_first_fault [] selects f z h = h
  no_first_fault (raw ∷ raws) [] f z h = absurd z
  no_first_fault (raw ∷ raws) (x ∷ xs) f (m, z) h = ⊎_elim
      (λ here. no_name_fault schema.relations schema.valid.relations_are (named_select bytes raw) x f m here)
      (λ (_, _, later). no_first_fault raws xs f z later)
      h

  name_clash : (s : Statement) (raws : List RawSelect) (f : NameFault) → IsStatementText schema bytes s → IsWritten bytes raws → IsFirstNameFault schema.relations bytes raws f → ⊥
  name_clash s raws f is w h = no_first_fault is.raws s.selects f is.means (subst (λ rs. IsFirstNameFault schema.relations bytes rs f) (one_raws bytes raws is.raws w is.written) h)

  -- where names have a meaning, what they mean and where the first condition that is not sorted begins is one
  sort_clash : (s : Statement) (o : ℕ) → IsStatementText schema bytes s → IsWrongSort schema bytes o → ⊥
  sort_clash s o is h =
      let same : h.raws ≡ is.raws = one_raws bytes h.raws is.raws h.written is.written in
      let means = subst (λ rs. AllZip (Means schema.relations bytes) rs h.selects) same h.means in
      let selects : h.selects ≡ s.selects = one_meaning is.raws h.selects s.selects means is.means in
      sorted_clash (meaning_of schema) h.raws s.selects o is.sorted (subst (λ ss. IsFirstUnsorted (meaning_of schema) h.raws ss o) selects h.first)

  one_sort : (o p : ℕ) → IsWrongSort schema bytes o → IsWrongSort schema bytes p → o ≡ p
  one_sort o p h h' =
      let same : h'.raws ≡ h.raws = one_raws bytes h'.raws h.raws h'.written h.written in
      let means = subst (λ rs. AllZip (Means schema.relations bytes) rs h'.selects) same h'.means in
      let selects : h'.selects ≡ h.selects = one_meaning h.raws h'.selects h.selects means h.means in
      let first = subst (λ rs. IsFirstUnsorted (meaning_of schema) rs h'.selects p) same h'.first in
      one_offset (meaning_of schema) h.raws h.selects o p h.first (subst (λ ss. IsFirstUnsorted (meaning_of schema) h.raws ss p) selects first)

  name_sort_clash : (raws : List RawSelect) (f : NameFault) (o : ℕ) → IsWritten bytes raws → IsFirstNameFault schema.relations bytes raws f → IsWrongSort schema bytes o → ⊥
  name_sort_clash raws f o w h is =
      no_first_fault is.raws is.selects f is.means (subst (λ rs. IsFirstNameFault schema.relations bytes rs f) (one_raws bytes raws is.raws w is.written) h)

  pub no_fault : (s : Statement) (f : SqlFault) → IsStatementText schema bytes s → IsSqlFault schema bytes f → f ≡ fault.NoMemory
  no_fault s fault.NoMemory is h = refl
  no_fault s (fault.NotUtf8 o) is h = absurd (utf8_clash bytes o h is.written.lexed.utf8)
  no_fault s (fault.Lex f) is h = absurd (lex_clash bytes f is.written.tokens h.1 is.written.lexed)
  no_fault s (fault.Syntax o) is h = absurd (misfit_clash bytes is.raws h.0 is.written h.1)
  no_fault s (fault.Unsupported word o) is h = absurd (misfit_clash bytes is.raws h.0 is.written h.1)
  no_fault s (fault.OverLimit l) is h = absurd (over_clash bytes h.0 l h.2 (subst AreWithinLimits (one_raws bytes is.raws h.0 is.written h.1) is.within))
  no_fault s (fault.WrongWidth o) is h = absurd (alike_clash bytes is.raws o is.written is.wide h)
  no_fault s (fault.UnknownName o) is h = absurd (name_clash s h.0 (name.Unknown o) is h.1 h.4)
  no_fault s (fault.Ambiguous o) is h = absurd (name_clash s h.0 (name.Ambiguous o) is h.1 h.4)
  no_fault s (fault.WrongSort o) is h = absurd (sort_clash s o is h)

  -- two faults of names are one
  one_first_fault : (raws : List RawSelect) (f g : NameFault) → IsFirstNameFault schema.relations bytes raws f → IsFirstNameFault schema.relations bytes raws g → f ≡ g
  one_first_fault [] f g h h' = absurd h
  one_first_fault (raw ∷ raws) f g h h' = ⊎_elim
      (λ here. ⊎_elim
      (λ here'. one_name_fault schema.relations schema.valid.relations_are (named_select bytes raw) f g here here')
      (λ (x, means, _). absurd (no_name_fault schema.relations schema.valid.relations_are (named_select bytes raw) x f means here))
      h')
      (λ (x, means, later). ⊎_elim
      (λ here'. absurd (no_name_fault schema.relations schema.valid.relations_are (named_select bytes raw) x g means here'))
      (λ (_, _, later'). one_first_fault raws f g later later')
      h')
      h

  names_one : (raws raws' : List RawSelect) (f g : NameFault) → IsWritten bytes raws → IsWritten bytes raws' → IsFirstNameFault schema.relations bytes raws f → IsFirstNameFault schema.relations bytes raws' g → f ≡ g
  names_one raws raws' f g w w' h h' = one_first_fault raws f g h (subst (λ rs. IsFirstNameFault schema.relations bytes rs g) (one_raws bytes raws' raws w' w) h')

  unknown_ambiguous : (o p : ℕ) → name.Unknown o ≡ name.Ambiguous p → ⊥
  unknown_ambiguous o p e = absurd (cc)

  unknown_same : (o p : ℕ) → name.Unknown o ≡ name.Unknown p → o ≡ p
  unknown_same o p e = cc

  ambiguous_same : (o p : ℕ) → name.Ambiguous o ≡ name.Ambiguous p → o ≡ p
  ambiguous_same o p e = cc

  pub one_fault : (f g : SqlFault) → IsSqlFault schema bytes f → IsSqlFault schema bytes g → f ≢ fault.NoMemory → g ≢ fault.NoMemory → f ≡ g
  one_fault fault.NoMemory g h h' some some' = absurd (some refl)
  one_fault _ fault.NoMemory h h' some some' = absurd (some' refl)
  one_fault (fault.NotUtf8 ao) (fault.NotUtf8 bo) h h' some some' = ap (λ n. fault.NotUtf8 n) (one_bad bytes ao bo h h')
  one_fault (fault.NotUtf8 ao) (fault.Lex bo) h h' some some' = absurd (utf8_clash bytes ao h h'.0)
  one_fault (fault.NotUtf8 ao) (fault.Syntax bo) h h' some some' = absurd (utf8_clash bytes ao h h'.1.lexed.utf8)
  one_fault (fault.NotUtf8 ao) (fault.Unsupported bw bo) h h' some some' = absurd (utf8_clash bytes ao h h'.1.lexed.utf8)
  one_fault (fault.NotUtf8 ao) (fault.OverLimit bo) h h' some some' = absurd (utf8_clash bytes ao h h'.1.lexed.utf8)
  one_fault (fault.NotUtf8 ao) (fault.WrongWidth bo) h h' some some' = absurd (utf8_clash bytes ao h h'.2.utf8)
  one_fault (fault.NotUtf8 ao) (fault.UnknownName bo) h h' some some' = absurd (utf8_clash bytes ao h h'.1.lexed.utf8)
  one_fault (fault.NotUtf8 ao) (fault.Ambiguous bo) h h' some some' = absurd (utf8_clash bytes ao h h'.1.lexed.utf8)
  one_fault (fault.NotUtf8 ao) (fault.WrongSort bo) h h' some some' = absurd (utf8_clash bytes ao h h'.written.lexed.utf8)
  one_fault (fault.Lex ao) (fault.NotUtf8 bo) h h' some some' = absurd (utf8_clash bytes bo h' h.0)
  one_fault (fault.Lex ao) (fault.Lex bo) h h' some some' = ap (λ n. fault.Lex n) (one_lex bytes ao bo h.1 h'.1)
  one_fault (fault.Lex ao) (fault.Syntax bo) h h' some some' = absurd (lex_clash bytes ao h'.1.tokens h.1 h'.1.lexed)
  one_fault (fault.Lex ao) (fault.Unsupported bw bo) h h' some some' = absurd (lex_clash bytes ao h'.1.tokens h.1 h'.1.lexed)
  one_fault (fault.Lex ao) (fault.OverLimit bo) h h' some some' = absurd (lex_clash bytes ao h'.1.tokens h.1 h'.1.lexed)
  one_fault (fault.Lex ao) (fault.WrongWidth bo) h h' some some' = absurd (lex_clash bytes ao h'.1 h.1 h'.2)
  one_fault (fault.Lex ao) (fault.UnknownName bo) h h' some some' = absurd (lex_clash bytes ao h'.1.tokens h.1 h'.1.lexed)
  one_fault (fault.Lex ao) (fault.Ambiguous bo) h h' some some' = absurd (lex_clash bytes ao h'.1.tokens h.1 h'.1.lexed)
  one_fault (fault.Lex ao) (fault.WrongSort bo) h h' some some' = absurd (lex_clash bytes ao h'.written.tokens h.1 h'.written.lexed)
  one_fault (fault.Syntax ao) (fault.NotUtf8 bo) h h' some some' = absurd (utf8_clash bytes bo h' h.1.lexed.utf8)
  one_fault (fault.Syntax ao) (fault.Lex bo) h h' some some' = absurd (lex_clash bytes bo h.1.tokens h'.1 h.1.lexed)
  one_fault (fault.Syntax ao) (fault.Syntax bo) h h' some some' = ap (λ n. fault.Syntax n) (h.3 ∙ ap (λ ts. offset_of bytes ts) (one_after bytes h.0 h'.0 h.1 h'.1) ∙ sym h'.3)
  one_fault (fault.Syntax ao) (fault.Unsupported bw bo) h h' some some' = let same = one_after bytes h.0 h'.0 h.1 h'.1 in let never : false ≡ true = sym h.2 ∙ ap (λ ts. begins_unsupported bytes ts) same ∙ h'.2 in absurd (cc)
  one_fault (fault.Syntax ao) (fault.OverLimit bo) h h' some some' = absurd (misfit_clash bytes h'.0 h.0 h'.1 h.1)
  one_fault (fault.Syntax ao) (fault.WrongWidth bo) h h' some some' = absurd (misfit_clash bytes h'.0 h.0 (width_written bytes bo h') h.1)
  one_fault (fault.Syntax ao) (fault.UnknownName bo) h h' some some' = absurd (misfit_clash bytes h'.0 h.0 h'.1 h.1)
  one_fault (fault.Syntax ao) (fault.Ambiguous bo) h h' some some' = absurd (misfit_clash bytes h'.0 h.0 h'.1 h.1)
  one_fault (fault.Syntax ao) (fault.WrongSort bo) h h' some some' = absurd (misfit_clash bytes h'.raws h.0 h'.written h.1)
  one_fault (fault.Unsupported aw ao) (fault.NotUtf8 bo) h h' some some' = absurd (utf8_clash bytes bo h' h.1.lexed.utf8)
  one_fault (fault.Unsupported aw ao) (fault.Lex bo) h h' some some' = absurd (lex_clash bytes bo h.1.tokens h'.1 h.1.lexed)
  one_fault (fault.Unsupported aw ao) (fault.Syntax bo) h h' some some' = let same = one_after bytes h.0 h'.0 h.1 h'.1 in let never : true ≡ false = sym h.2 ∙ ap (λ ts. begins_unsupported bytes ts) same ∙ h'.2 in absurd (cc)
  one_fault (fault.Unsupported aw ao) (fault.Unsupported bw bo) h h' some some' = let same = one_after bytes h.0 h'.0 h.1 h'.1 in ap (λ w. fault.Unsupported w ao) (h.4 ∙ ap (λ ts. first_written bytes ts) same ∙ sym h'.4) ∙ ap (λ n. fault.Unsupported bw n) (h.3 ∙ ap (λ ts. offset_of bytes ts) same ∙ sym h'.3)
  one_fault (fault.Unsupported aw ao) (fault.OverLimit bo) h h' some some' = absurd (misfit_clash bytes h'.0 h.0 h'.1 h.1)
  one_fault (fault.Unsupported aw ao) (fault.WrongWidth bo) h h' some some' = absurd (misfit_clash bytes h'.0 h.0 (width_written bytes bo h') h.1)
  one_fault (fault.Unsupported aw ao) (fault.UnknownName bo) h h' some some' = absurd (misfit_clash bytes h'.0 h.0 h'.1 h.1)
  one_fault (fault.Unsupported aw ao) (fault.Ambiguous bo) h h' some some' = absurd (misfit_clash bytes h'.0 h.0 h'.1 h.1)
  one_fault (fault.Unsupported aw ao) (fault.WrongSort bo) h h' some some' = absurd (misfit_clash bytes h'.raws h.0 h'.written h.1)
  one_fault (fault.OverLimit ao) (fault.NotUtf8 bo) h h' some some' = absurd (utf8_clash bytes bo h' h.1.lexed.utf8)
  one_fault (fault.OverLimit ao) (fault.Lex bo) h h' some some' = absurd (lex_clash bytes bo h.1.tokens h'.1 h.1.lexed)
  one_fault (fault.OverLimit ao) (fault.Syntax bo) h h' some some' = absurd (misfit_clash bytes h.0 h'.0 h.1 h'.1)
  one_fault (fault.OverLimit ao) (fault.Unsupported bw bo) h h' some some' = absurd (misfit_clash bytes h.0 h'.0 h.1 h'.1)
  one_fault (fault.OverLimit ao) (fault.OverLimit bo) h h' some some' = ap (λ l. fault.OverLimit l) (one_limit bytes h.0 ao bo h.2 (subst (λ rs. IsOver rs bo) (one_raws bytes h'.0 h.0 h'.1 h.1) h'.2))
  one_fault (fault.OverLimit ao) (fault.WrongWidth bo) h h' some some' = absurd (over_clash bytes h.0 ao h.2 (subst AreWithinLimits (one_raws bytes h'.0 h.0 (width_written bytes bo h') h.1) h'.4))
  one_fault (fault.OverLimit ao) (fault.UnknownName bo) h h' some some' = absurd (over_clash bytes h.0 ao h.2 (subst AreWithinLimits (one_raws bytes h'.0 h.0 h'.1 h.1) h'.2))
  one_fault (fault.OverLimit ao) (fault.Ambiguous bo) h h' some some' = absurd (over_clash bytes h.0 ao h.2 (subst AreWithinLimits (one_raws bytes h'.0 h.0 h'.1 h.1) h'.2))
  one_fault (fault.OverLimit ao) (fault.WrongSort bo) h h' some some' = absurd (over_clash bytes h.0 ao h.2 (subst AreWithinLimits (one_raws bytes h'.raws h.0 h'.written h.1) h'.within))
  one_fault (fault.WrongWidth ao) (fault.NotUtf8 bo) h h' some some' = absurd (utf8_clash bytes bo h' h.2.utf8)
  one_fault (fault.WrongWidth ao) (fault.Lex bo) h h' some some' = absurd (lex_clash bytes bo h.1 h'.1 h.2)
  one_fault (fault.WrongWidth ao) (fault.Syntax bo) h h' some some' = absurd (misfit_clash bytes h.0 h'.0 (width_written bytes ao h) h'.1)
  one_fault (fault.WrongWidth ao) (fault.Unsupported bw bo) h h' some some' = absurd (misfit_clash bytes h.0 h'.0 (width_written bytes ao h) h'.1)
  one_fault (fault.WrongWidth ao) (fault.OverLimit bo) h h' some some' = absurd (over_clash bytes h'.0 bo h'.2 (subst AreWithinLimits (one_raws bytes h.0 h'.0 (width_written bytes ao h) h'.1) h.4))
  one_fault (fault.WrongWidth ao) (fault.WrongWidth bo) h h' some some' = ap (λ n. fault.WrongWidth n) (one_width bytes ao bo h h')
  one_fault (fault.WrongWidth ao) (fault.UnknownName bo) h h' some some' = absurd (alike_clash bytes h'.0 ao h'.1 h'.3 h)
  one_fault (fault.WrongWidth ao) (fault.Ambiguous bo) h h' some some' = absurd (alike_clash bytes h'.0 ao h'.1 h'.3 h)
  one_fault (fault.WrongWidth ao) (fault.WrongSort bo) h h' some some' = absurd (alike_clash bytes h'.raws ao h'.written h'.wide h)
  one_fault (fault.UnknownName ao) (fault.NotUtf8 bo) h h' some some' = absurd (utf8_clash bytes bo h' h.1.lexed.utf8)
  one_fault (fault.UnknownName ao) (fault.Lex bo) h h' some some' = absurd (lex_clash bytes bo h.1.tokens h'.1 h.1.lexed)
  one_fault (fault.UnknownName ao) (fault.Syntax bo) h h' some some' = absurd (misfit_clash bytes h.0 h'.0 h.1 h'.1)
  one_fault (fault.UnknownName ao) (fault.Unsupported bw bo) h h' some some' = absurd (misfit_clash bytes h.0 h'.0 h.1 h'.1)
  one_fault (fault.UnknownName ao) (fault.OverLimit bo) h h' some some' = absurd (over_clash bytes h'.0 bo h'.2 (subst AreWithinLimits (one_raws bytes h.0 h'.0 h.1 h'.1) h.2))
  one_fault (fault.UnknownName ao) (fault.WrongWidth bo) h h' some some' = absurd (alike_clash bytes h.0 bo h.1 h.3 h')
  one_fault (fault.UnknownName ao) (fault.UnknownName bo) h h' some some' = ap (λ n. fault.UnknownName n) (unknown_same ao bo (names_one h.0 h'.0 (name.Unknown ao) (name.Unknown bo) h.1 h'.1 h.4 h'.4))
  one_fault (fault.UnknownName ao) (fault.Ambiguous bo) h h' some some' = absurd (unknown_ambiguous ao bo (names_one h.0 h'.0 (name.Unknown ao) (name.Ambiguous bo) h.1 h'.1 h.4 h'.4))
  one_fault (fault.UnknownName ao) (fault.WrongSort bo) h h' some some' = absurd (name_sort_clash h.0 (name.Unknown ao) bo h.1 h.4 h')
  one_fault (fault.Ambiguous ao) (fault.NotUtf8 bo) h h' some some' = absurd (utf8_clash bytes bo h' h.1.lexed.utf8)
  one_fault (fault.Ambiguous ao) (fault.Lex bo) h h' some some' = absurd (lex_clash bytes bo h.1.tokens h'.1 h.1.lexed)
  one_fault (fault.Ambiguous ao) (fault.Syntax bo) h h' some some' = absurd (misfit_clash bytes h.0 h'.0 h.1 h'.1)
  one_fault (fault.Ambiguous ao) (fault.Unsupported bw bo) h h' some some' = absurd (misfit_clash bytes h.0 h'.0 h.1 h'.1)
  one_fault (fault.Ambiguous ao) (fault.OverLimit bo) h h' some some' = absurd (over_clash bytes h'.0 bo h'.2 (subst AreWithinLimits (one_raws bytes h.0 h'.0 h.1 h'.1) h.2))
  one_fault (fault.Ambiguous ao) (fault.WrongWidth bo) h h' some some' = absurd (alike_clash bytes h.0 bo h.1 h.3 h')
  one_fault (fault.Ambiguous ao) (fault.UnknownName bo) h h' some some' = absurd (unknown_ambiguous bo ao (sym (names_one h.0 h'.0 (name.Ambiguous ao) (name.Unknown bo) h.1 h'.1 h.4 h'.4)))
  one_fault (fault.Ambiguous ao) (fault.Ambiguous bo) h h' some some' = ap (λ n. fault.Ambiguous n) (ambiguous_same ao bo (names_one h.0 h'.0 (name.Ambiguous ao) (name.Ambiguous bo) h.1 h'.1 h.4 h'.4))
  one_fault (fault.Ambiguous ao) (fault.WrongSort bo) h h' some some' = absurd (name_sort_clash h.0 (name.Ambiguous ao) bo h.1 h.4 h')
  one_fault (fault.WrongSort ao) (fault.NotUtf8 bo) h h' some some' = absurd (utf8_clash bytes bo h' h.written.lexed.utf8)
  one_fault (fault.WrongSort ao) (fault.Lex bo) h h' some some' = absurd (lex_clash bytes bo h.written.tokens h'.1 h.written.lexed)
  one_fault (fault.WrongSort ao) (fault.Syntax bo) h h' some some' = absurd (misfit_clash bytes h.raws h'.0 h.written h'.1)
  one_fault (fault.WrongSort ao) (fault.Unsupported bw bo) h h' some some' = absurd (misfit_clash bytes h.raws h'.0 h.written h'.1)
  one_fault (fault.WrongSort ao) (fault.OverLimit bo) h h' some some' = absurd (over_clash bytes h'.0 bo h'.2 (subst AreWithinLimits (one_raws bytes h.raws h'.0 h.written h'.1) h.within))
  one_fault (fault.WrongSort ao) (fault.WrongWidth bo) h h' some some' = absurd (alike_clash bytes h.raws bo h.written h.wide h')
  one_fault (fault.WrongSort ao) (fault.UnknownName bo) h h' some some' = absurd (name_sort_clash h'.0 (name.Unknown bo) ao h'.1 h'.4 h)
  one_fault (fault.WrongSort ao) (fault.Ambiguous bo) h h' some some' = absurd (name_sort_clash h'.0 (name.Ambiguous bo) ao h'.1 h'.4 h)
  one_fault (fault.WrongSort ao) (fault.WrongSort bo) h h' some some' = ap (λ n. fault.WrongSort n) (one_sort ao bo h h')
