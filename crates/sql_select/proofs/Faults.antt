-- What a reading says of the tokens.
use Rattle.std.proofs.Common.{◌≡◌, ℕ, suc, List, [], ◌∷◌, ◌++◌, length, ap, subst, sym, ◌∙◌, refl}
use Rattle.std.specs.Prelude.{Result, Ok, Err, IfOk, IfErr}
use Rattle.pq_text.specs.declared.token.Token.{Token}
use Rattle.sql_select.specs.declared.piece.Piece.{Piece}
use Rattle.sql_select.specs.declared.state.State.TheVariants as state
use Rattle.sql_select.specs.declared.piece.RawSelect.{RawSelect}
use Rattle.sql_select.specs.declared.reading.WalkFault.{WalkFault}
use Rattle.sql_select.specs.declared.reading.WalkFault.TheVariants as fault
use Rattle.sql_select.specs.Words.{piece_of, pieces_of}
use Rattle.sql_select.specs.Reading.{started, read, IsReading, IsFaultOf}
use Rattle.sql_select.specs.Grammar.{IsText, S0, StopsAt}
use Rattle.sql_select.proofs.Said.{all_sound}
use Rattle.sql_select.proofs.Leading.{stops, ends, ends_or_stops}
use Rattle.sql_select.proofs.Complete.{complete}

pub reads : (result : Result (List RawSelect) WalkFault) (pieces : List Piece) → IsReading result (read state.Start started pieces) → IfOk result (λ raws. IsText raws pieces)
reads (Ok raws) pieces is = all_sound pieces raws is
reads (Err fault) pieces is = tt

-- tokens come apart where their pieces do
pub record Apart (text : List ℕ) (tokens : List Token) (before after : List Piece) : Type 0 where
  pub first : List Token
  pub second : List Token
  pub whole : tokens ≡ first ++ second
  pub is_first : pieces_of text first ≡ before
  pub is_second : pieces_of text second ≡ after

apart : (text : List ℕ) (tokens : List Token) (before after : List Piece) → pieces_of text tokens ≡ before ++ after → Apart text tokens before after
apart text tokens [] after e = record { first = []; second = tokens; whole = refl; is_first = refl; is_second = e }
apart text [] (x ∷ before) after e = absurd (cc)
apart text (t ∷ tokens) (x ∷ before) after e =
    let head : piece_of text t ≡ x = cc in
    let rest : pieces_of text tokens ≡ before ++ after = cc in
    let parts = apart text tokens before after rest in
    record {
      first = t ∷ parts.first;
      second = parts.second;
      whole = ap (λ q. t ∷ q) parts.whole;
      is_first = ap (λ q. piece_of text t ∷ q) parts.is_first ∙ ap (λ p. p ∷ before) head;
      is_second = parts.is_second;
    }

pub pieces_long : (text : List ℕ) (tokens : List Token) → length (pieces_of text tokens) ≡ length tokens
pieces_long text [] = refl
pieces_long text (t ∷ tokens) = ap (λ n. suc n) (pieces_long text tokens)

pub faults : (text : List ℕ) (tokens : List Token) (result : Result (List RawSelect) WalkFault) → IsReading result (read state.Start started (pieces_of text tokens)) → IfErr result (IsFaultOf text tokens)
faults text tokens (Ok raws) is = tt
faults text tokens (Err fault.NoMemory) is = tt
faults text tokens (Err (fault.At left)) (after, e, count) =
    let at = stops state.Start started (pieces_of text tokens) after e in
    let parts = apart text tokens at.before after at.whole in
    (parts.first, parts.second, parts.whole, sym (pieces_long text parts.second) ∙ ap length parts.is_second ∙ count, subst (λ q. StopsAt S0 (pieces_of text tokens) q) (sym parts.is_second) at)

-- what is written as a query stops nowhere
pub no_misfit : (raws : List RawSelect) (pieces after : List Piece) → IsText raws pieces → StopsAt S0 pieces after → ⊥
no_misfit raws pieces after is stop = ends_or_stops pieces after (ends state.Start started raws pieces (complete raws pieces is)) stop
