-- A query is a batch of one.
use Rattle.std.proofs.Common.{◌≡◌, ℕ, List, [], ◌∷◌, ◌-◌, length, take, Bool, true, false, Some, ap, subst, sym, ◌∙◌, refl, arith}
use Rattle.std.specs.Prelude.{◌&&◌, codes, nat_eq, if◌then◌else◌}
use Rattle.std.specs.Cmp.Lexicographic.{pointwise}
use Rattle.std.proofs.Math.Seq.{take-length}
use Rattle.lists.proofs.Orders.{text_is}
use Rattle.pq_text.specs.declared.token.Token.{Token}
use Rattle.pq_text.specs.declared.token.TokenKind.{TokenKind}
use Rattle.pq_text.specs.declared.token.TokenKind.TheVariants as kind
use Rattle.meaning.specs.declared.types.Statement.{Statement}
use Rattle.access_schema.specs.declared.schema.Schema.{Schema}
use Rattle.sql_select.specs.declared.piece.Piece.{Piece}
use Rattle.sql_select.specs.declared.piece.Piece.TheVariants as piece
use Rattle.sql_select.specs.declared.state.State.TheVariants as state
use Rattle.sql_select.specs.Words.{written, piece_for, piece_of, pieces_of}
use Rattle.sql_select.specs.Grammar.{Place, S0, E, next, Leads}
use Rattle.sql_select.specs.Reading.{started}
use Rattle.sql_select.specs.Statements.{IsStatementText}
use Rattle.sql_select.proofs.Complete.{complete}
use Rattle.sql_select.proofs.Leading.{ends}
use Rattle.sql_batch.specs.declared.cutting.Part.{Part}
use Rattle.sql_batch.specs.Cutting.{is_symbol, is_semicolon, cut_from, alone}
use Rattle.sql_batch.specs.Batches.{AreQueries, IsBatchText}

semicolon_piece : (k : TokenKind) (t : Token) (w : List ℕ) → (is_symbol k && pointwise nat_eq (codes ";") w) ≡ true → piece_for k t w ≡ piece.Semicolon
semicolon_piece kind.Symbol t w e = subst (λ (bs : List ℕ). piece_for kind.Symbol t bs ≡ piece.Semicolon) (text_is (codes ";") w e) refl
semicolon_piece _ t w e = absurd (cc)

-- a semicolon leads to the place behind a query, and nothing from there
to_end : (p r : Place) → next p piece.Semicolon ≡ Some r → r ≡ E
to_end E r e = cc
to_end _ r e = cc

nothing_behind : (x : Piece) (r : Place) → next E x ≡ Some r → ⊥
nothing_behind piece.Other r e = absurd (cc)
nothing_behind _ r e = absurd (cc)

-- tokens of one query are not cut
uncut : (bytes : List ℕ) (from : ℕ) (tokens : List Token) (p q : Place) → Leads p (pieces_of bytes tokens) q → cut_from bytes from tokens ≡ record { from = from; to = length bytes } ∷ []
uncut bytes from [] p q leads = refl
uncut bytes from (t ∷ []) p q leads = refl
uncut bytes from (t ∷ u ∷ ts) p q (r, to, (r', to', leads)) = go (is_semicolon bytes t) refl (uncut bytes from (u ∷ ts) r q (r', to', leads))
  where
    clash : is_semicolon bytes t ≡ true → ⊥
    clash e =
        let semicolon : piece_of bytes t ≡ piece.Semicolon = semicolon_piece t.kind t (written bytes t) e in
        let last : r ≡ E = to_end p r (subst (λ (x : Piece). next p x ≡ Some r) semicolon to) in
        nothing_behind (piece_of bytes u) r' (subst (λ (s : Place). next s (piece_of bytes u) ≡ Some r') last to')

    go : (semicolon : Bool) → is_semicolon bytes t ≡ semicolon → cut_from bytes from (u ∷ ts) ≡ record { from = from; to = length bytes } ∷ [] →
        (if semicolon then record { from = from; to = t.end } ∷ cut_from bytes t.end (u ∷ ts) else cut_from bytes from (u ∷ ts)) ≡ record { from = from; to = length bytes } ∷ []
    go true e rest = absurd (clash e)
    go false e rest = rest

all : (n : ℕ) → n - 0 ≡ n
all n = omega arith

pub one_query : (schema : Schema) (bytes : List ℕ) (s : Statement) → IsStatementText schema bytes s → IsBatchText schema bytes (s ∷ [])
one_query schema bytes s is =
    let tokens = is.written.tokens in
    let whole = ends state.Start started is.raws (pieces_of bytes tokens) (complete is.raws (pieces_of bytes tokens) is.written.text) in
    let one : cut_from bytes 0 tokens ≡ record { from = 0; to = length bytes } ∷ [] = uncut bytes 0 tokens S0 whole.last whole.leads in
    let same : alone bytes (record { from = 0; to = length bytes }) ≡ bytes = ap (λ (n : ℕ). take n bytes) (all (length bytes)) ∙ take-length bytes in
    record {
      tokens = tokens;
      lexed = is.written.lexed;
      queries = subst (λ (ps : List Part). AreQueries schema bytes ps (s ∷ [])) (sym one) ((subst (λ (bs : List ℕ). IsStatementText schema bs s) (sym same) is), tt);
      few = omega arith;
    }
