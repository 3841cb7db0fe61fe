-- The query text of a world is its statement.
use Rattle.std.proofs.Common.{◌≡◌, ◌∙◌, ℕ, zero, suc, false, List, [], ◌∷◌, length, drop, ap, refl, sym, subst, arith}
use Rattle.std.specs.Prelude.{Result, Ok, Err}
use Rattle.std.specs.List.{range_with_len}
use Rattle.std.specs.Str.{IsUtf8}
use Rattle.std.specs.Prelude.{Some, slice_get}
use Rattle.lists.proofs.Members.{contains_one, got_mapped, some_injective}
use Rattle.meaning.specs.declared.types.Relation.{Relation}
use Rattle.meaning.specs.declared.types.Sort.TheVariants.{Int}
use Rattle.meaning.specs.Sorts.{HoldsIntegers}
use Rattle.meaning.specs.declared.types.Statement.{Statement}
use Rattle.pq_text.specs.declared.token.Token.{Token}
use Rattle.pq_text.specs.declared.token.Style.TheVariants.{Sql}
use Rattle.pq_text.specs.declared.scan.Found.{Found}
use Rattle.pq_text.specs.declared.scan.Found.TheVariants.{Begins, Bad, Open}
use Rattle.pq_text.specs.Tokens.{gap_from, token_at, Lexes}
use Rattle.pq_text.proofs.PrintedTexts.{ascii_utf8}
use Rattle.access_schema.specs.declared.schema.Schema.{Schema}
use Rattle.access_schema.specs.Meaning.{meaning_of}
use Rattle.sql_select.specs.declared.piece.Piece.{Piece}
use Rattle.sql_select.specs.declared.piece.RawSelect.{RawSelect}
use Rattle.sql_select.specs.declared.state.State.TheVariants as state
use Rattle.sql_select.specs.Words.{pieces_of}
use Rattle.sql_select.specs.Reading.{empty, started, read}
use Rattle.sql_select.specs.Limits.{IsWithinLimits}
use Rattle.sql_select.specs.Naming.{named_select}
use Rattle.sql_select.specs.Names.{IsMeaning}
use Rattle.sql_select.specs.Select.{resolved}
use Rattle.sql_select.specs.Statements.{IsStatementText, IsSqlFault}
use Rattle.sql_select.specs.declared.fault.SqlFault.{SqlFault}
use Rattle.sql_select.specs.declared.fault.SqlFault.TheVariants.{NoMemory}
use Rattle.sql_select.proofs.Said.{all_sound}
use Rattle.sql_select.proofs.Resolved.{means}
use Rattle.sql_select.proofs.Sorted.{texts_sorted}
use Rattle.sql_select.proofs.Unique.{one_statement, no_fault}
use Rattle.world_source.specs.Texts.{query_text}
use Rattle.world_laws.specs.World.{sorts, relation_with, world_relations, world_select, world_statement, IsWorldSchema}

-- ---- the tokens of a text

abbrev with_token : (ℕ → List Token) → ℕ → Found → List Token
with_token go start (Begins kind e) = record { kind = kind; start = start; «end» = e } ∷ go e
with_token go start Bad = []
with_token go start Open = []

-- the tokens from a place on, up to the first place that begins none; at most so many
abbrev tokens_from : ℕ → List ℕ → ℕ → List Token
tokens_from zero text from = []
tokens_from (suc k) text from = let start : ℕ = gap_from from Sql false (drop from text) in with_token (tokens_from k text) start (token_at Sql start (drop start text))

abbrev tokens : List Token
tokens = tokens_from 200 query_text 0

abbrev first_or : RawSelect → List RawSelect → RawSelect
first_or d [] = d
first_or d (raw ∷ raws) = raw

abbrev raw_in : Result (List RawSelect) (List Piece) → RawSelect
raw_in (Ok raws) = first_or empty raws
raw_in (Err left) = empty

abbrev raw : RawSelect
raw = raw_in (read state.Start started (pieces_of query_text tokens))

is_read : read state.Start started (pieces_of query_text tokens) ≡ Ok (raw ∷ [])
is_read = refl

is_resolved : resolved world_relations (named_select query_text raw) ≡ Ok world_select
is_resolved = refl

utf8 : IsUtf8 query_text
utf8 = ascii_utf8 query_text refl

-- where the tokens end
abbrev end_or : (ℕ → ℕ) → ℕ → Found → ℕ
end_or go start (Begins kind e) = go e
end_or go start Bad = start
end_or go start Open = start

abbrev end_from : ℕ → List ℕ → ℕ → ℕ
end_from zero text from = gap_from from Sql false (drop from text)
end_from (suc k) text from = let start : ℕ = gap_from from Sql false (drop from text) in end_or (end_from k text) start (token_at Sql start (drop start text))

are_tokens : (k : ℕ) (text : List ℕ) (from : ℕ) → Lexes Sql text from (tokens_from k text from) (end_from k text from)
are_tokens zero text from = refl
are_tokens (suc k) text from = go (token_at Sql start (drop start text)) refl (λ e. are_tokens k text e)
  where
    start : ℕ
    start = gap_from from Sql false (drop from text)

    go : (found : Found) → token_at Sql start (drop start text) ≡ found → ((e : ℕ) → Lexes Sql text e (tokens_from k text e) (end_from k text e)) → Lexes Sql text from (with_token (tokens_from k text) start found) (end_or (end_from k text) start found)
    go (Begins kind e) is on = (refl, is, on e)
    go Bad is on = refl
    go Open is on = refl

-- ---- the statement

abbrev Stands : List Relation → Type 0
Stands relations = IsMeaning relations (named_select query_text raw) world_select

-- no column of a world holds integers
pub no_integers : (n : ℕ) (schema : Schema) → IsWorldSchema n schema → (rel place : ℕ) → HoldsIntegers (meaning_of schema) rel place → ⊥
no_integers n schema is rel place (relation, got, at) =
    let there : slice_get world_relations rel ≡ Some relation = subst (λ rs. slice_get rs rel ≡ Some relation) is.relations got in
    let (k, _, same) = got_mapped relation_with (range_with_len 1 8) rel relation there in
    none place (subst (λ (r : Relation). slice_get r.sorts place ≡ Some Int) (sym same) at)
  where
    none : (place : ℕ) → slice_get sorts place ≡ Some Int → ⊥
    none zero e = absurd (cc)
    none (suc zero) e = absurd (cc)
    none (suc (suc k)) e = absurd (cc)

pub is_statement : (n : ℕ) (schema : Schema) → IsWorldSchema n schema → IsStatementText schema query_text world_statement
is_statement n schema is = record {
  raws = raw ∷ [];
  written = record {
    tokens = tokens;
    lexed = record { utf8 = utf8; lexes = are_tokens 200 query_text 0 };
    text = all_sound (pieces_of query_text tokens) (raw ∷ []) is_read;
  };
  within = record {
    each = λ other there. subst IsWithinLimits (contains_one raw other there) (record { froms = omega arith; conditions = omega arith; items = omega arith });
    few = omega arith;
  };
  wide = λ first other at there. ap (λ (r : RawSelect). length r.items) (sym (contains_one raw other there) ∙ some_injective raw first at);
  means = (subst Stands (sym is.relations) (means world_relations (named_select query_text raw) (Ok world_select) is_resolved), tt);
  sorted = λ select there. texts_sorted (meaning_of schema) (no_integers n schema is) select;
}

pub statement_alone : (n : ℕ) (schema : Schema) (statement : Statement) → IsWorldSchema n schema → IsStatementText schema query_text statement → statement ≡ world_statement
statement_alone n schema statement is text = one_statement schema query_text statement world_statement text (is_statement n schema is)

pub query_no_fault : (n : ℕ) (schema : Schema) (fault : SqlFault) → IsWorldSchema n schema → IsSqlFault schema query_text fault → fault ≡ NoMemory
query_no_fault n schema fault is has = no_fault schema query_text world_statement fault (is_statement n schema is) has
