-- The widths of selects, and the words with which selects begin.
use Rattle.std.proofs.Common.{◌≡◌, ◌≢◌, ◌<◌, ◌+◌, ℕ, zero, suc, List, [], ◌∷◌, ◌++◌, length, map, cond, Bool, true, false, ap, subst, sym, ◌∙◌, refl, ⊎_elim, arith}
use Rattle.std.specs.Prelude.{Contains, Option, Some, None, MatchOption, nat_eq, slice_get, slice_index_or, if◌then◌else◌}
use Rattle.std.specs.List.{filter}
use Rattle.std.proofs.lemmas.Bool.{eqb-true, eqb-false}
use Rattle.std.proofs.lemmas.Bool.Decides.{leb_tells}
use Rattle.std.proofs.lemmas.Option.{slice_get_within, slice_get-get_or}
use Rattle.lists.proofs.Members.{contains_cases, contains_none, contains_got, some_injective}
use Rattle.pq_text.specs.declared.token.Token.{Token}
use Rattle.sql_select.specs.declared.piece.Piece.{Piece}
use Rattle.sql_select.specs.declared.piece.Piece.TheVariants as piece
use Rattle.sql_select.specs.declared.piece.RawOperand.{RawOperand}
use Rattle.sql_select.specs.declared.piece.RawOperand.TheVariants as operand
use Rattle.sql_select.specs.declared.piece.Alias.{Alias}
use Rattle.sql_select.specs.declared.piece.Alias.TheVariants as alias
use Rattle.sql_select.specs.declared.piece.RawItem.{RawItem}
use Rattle.sql_select.specs.declared.piece.RawFrom.{RawFrom}
use Rattle.sql_select.specs.declared.piece.RawCondition.{RawCondition}
use Rattle.sql_select.specs.declared.piece.RawSelect.{RawSelect}
use Rattle.sql_select.specs.Words.{piece_of, pieces_of}
use Rattle.sql_select.specs.Grammar.{shown_operand, shown_alias, shown_item, shown_from, shown_condition, further, parted, shown_where, shown, shown_query, IsText}
use Rattle.sql_select.specs.Widths.{AreAlikeWide, IsFirstOtherWide, is_select, begins_select, select_offsets, other_from, other_wide}

-- ---- the first select of another width

abbrev Width : RawSelect → ℕ
Width raw = length raw.items

-- what the search says of these selects
abbrev Says : ℕ → ℕ → List RawSelect → Option ℕ → Type 0
Says n width raws None = (raw : RawSelect) → Contains raws raw → length raw.items ≡ width
Says n width raws (Some m) = (k : ℕ) × (raw : RawSelect) × (m ≡ n + k) × (slice_get raws k ≡ Some raw) × (length raw.items ≢ width)
    × ((j : ℕ) (r : RawSelect) → j < k → slice_get raws j ≡ Some r → length r.items ≡ width)

-- a select of this width before those that were searched
before_one : (width : ℕ) (raw : RawSelect) (raws : List RawSelect) (k : ℕ) → length raw.items ≡ width → ((j : ℕ) (r : RawSelect) → j < k → slice_get raws j ≡ Some r → length r.items ≡ width) →
    (j : ℕ) (r : RawSelect) → j < suc k → slice_get (raw ∷ raws) j ≡ Some r → length r.items ≡ width
before_one width raw raws k here before zero r l got = subst (λ (q : RawSelect). length q.items ≡ width) (some_injective raw r got) here
before_one width raw raws k here before (suc j) r l got = before j r (omega (arith, l)) got

says_on : (n width : ℕ) (raw : RawSelect) (raws : List RawSelect) (found : Option ℕ) → length raw.items ≡ width → Says (n + 1) width raws found → Says n width (raw ∷ raws) found
says_on n width raw raws None here rest = λ r c. ⊎_elim (λ same. subst (λ (q : RawSelect). length q.items ≡ width) same here) (λ later. rest r later) (contains_cases raw raws r c)
says_on n width raw raws (Some m) here (k, r, is, got, other, before) = (suc k, r, (omega (arith, is)), got, other, before_one width raw raws k here before)

says : (n width : ℕ) (raws : List RawSelect) → Says n width raws (other_from n width raws)
says n width [] = λ raw c. absurd (contains_none raw c)
says n width (raw ∷ raws) = go (nat_eq (length raw.items) width) refl (says (n + 1) width raws)
  where
    go : (same : Bool) → nat_eq (length raw.items) width ≡ same → Says (n + 1) width raws (other_from (n + 1) width raws) →
        Says n width (raw ∷ raws) (if same then other_from (n + 1) width raws else Some n)
    go true e rest = says_on n width raw raws (other_from (n + 1) width raws) (eqb-true (length raw.items) width e) rest
    go false e rest = (0, raw, (omega arith), refl, eqb-false (length raw.items) width e, (λ j r l got. absurd (omega (arith, l))))

pub wide_says : (raws : List RawSelect) → MatchOption (other_wide raws) (AreAlikeWide raws) (IsFirstOtherWide raws)
wide_says [] = λ first raw at c. absurd (contains_none raw c)
wide_says (first ∷ raws) = go (other_from 1 (length first.items) raws) (says 1 (length first.items) raws)
  where
    go : (found : Option ℕ) → Says 1 (length first.items) raws found → MatchOption found (AreAlikeWide (first ∷ raws)) (IsFirstOtherWide (first ∷ raws))
    go None same = λ other raw at c. subst (λ (q : RawSelect). length raw.items ≡ length q.items) (some_injective first other at)
        (⊎_elim (λ e. ap Width (sym e)) (λ later. same raw later) (contains_cases first raws raw c))
    go (Some m) (k, raw, is, got, other, before) =
        let number : suc k ≡ m = omega (arith, is) in
        subst (λ n. IsFirstOtherWide (first ∷ raws) n) number (record {
          first = first;
          raw = raw;
          at_first = refl;
          at = got;
          other = other;
          before = before_one (length first.items) first raws k refl before;
        })

-- selects of one width have none of another
pub width_clash : (raws : List RawSelect) (number : ℕ) → AreAlikeWide raws → IsFirstOtherWide raws number → ⊥
width_clash raws number alike is = is.other (alike is.first is.raw is.at_first (contains_got raws number is.raw is.at))

pub alike_all : (raws : List RawSelect) (a b : RawSelect) → AreAlikeWide raws → Contains raws a → Contains raws b → length a.items ≡ length b.items
alike_all [] a b alike c d = absurd (contains_none a c)
alike_all (raw ∷ raws) a b alike c d = alike raw a refl c ∙ sym (alike raw b refl d)

not_less : (raws : List RawSelect) (m n : ℕ) → IsFirstOtherWide raws m → IsFirstOtherWide raws n → m < n → ⊥
not_less raws m n is is' l =
    let first : is.first ≡ is'.first = some_injective is.first is'.first (sym is.at_first ∙ is'.at_first) in
    is.other (is'.before m is.raw l is.at ∙ ap Width (sym first))

pub one_number : (raws : List RawSelect) (m n : ℕ) → IsFirstOtherWide raws m → IsFirstOtherWide raws n → m ≡ n
one_number raws m n is is' = ⊎_elim
    (λ (_, le). ⊎_elim (λ (_, ge). omega (arith, le, ge)) (λ (_, less). absurd (not_less raws m n is is' less)) (leb_tells n m))
    (λ (_, more). absurd (not_less raws n m is' is more))
    (leb_tells m n)

-- ---- the words with which selects begin

abbrev word_in : Piece → ℕ
word_in piece.Select = 1
word_in _ = 0

abbrev words_in : List Piece → ℕ
words_in [] = 0
words_in (p ∷ ps) = word_in p + words_in ps

words_append : (xs ys : List Piece) → words_in (xs ++ ys) ≡ words_in xs + words_in ys
words_append [] ys = omega arith
words_append (x ∷ xs) ys = let rest = words_append xs ys in omega (arith, rest)

both_none : (xs ys : List Piece) → words_in xs ≡ 0 → words_in ys ≡ 0 → words_in (xs ++ ys) ≡ 0
both_none xs ys e f = let sum = words_append xs ys in omega (arith, sum, e, f)

operand_none : (o : RawOperand) → words_in (shown_operand o) ≡ 0
operand_none (operand.Plain t) = refl
operand_none (operand.Prefixed p t) = refl
operand_none (operand.Value t) = refl

alias_none : (a : Alias) → words_in (shown_alias a) ≡ 0
alias_none alias.Missing = refl
alias_none (alias.Alone t) = refl
alias_none (alias.After t) = refl

item_none : (item : RawItem) → words_in (shown_item item) ≡ 0
item_none item = both_none (shown_operand item.operand) (shown_alias item.alias) (operand_none item.operand) (alias_none item.alias)

from_none : (from : RawFrom) → words_in (shown_from from) ≡ 0
from_none from = let rest = alias_none from.alias in omega (arith, rest)

condition_none : (c : RawCondition) → words_in (shown_condition c) ≡ 0
condition_none c = let right = operand_none c.right in both_none (shown_operand c.left) (piece.Equals ∷ shown_operand c.right) (operand_none c.left) (omega (arith, right))

further_none : {X : Type 0} (f : X → List Piece) (sep : Piece) → word_in sep ≡ 0 → ((x : X) → words_in (f x) ≡ 0) → (xs : List X) → words_in (further f sep xs) ≡ 0
further_none f sep apart none [] = refl
further_none f sep apart none (x ∷ xs) = let rest = both_none (f x) (further f sep xs) (none x) (further_none f sep apart none xs) in omega (arith, apart, rest)

parted_none : {X : Type 0} (f : X → List Piece) (sep : Piece) → word_in sep ≡ 0 → ((x : X) → words_in (f x) ≡ 0) → (xs : List X) → words_in (parted f sep xs) ≡ 0
parted_none f sep apart none [] = refl
parted_none f sep apart none (x ∷ xs) = both_none (f x) (further f sep xs) (none x) (further_none f sep apart none xs)

where_none : (cs : List RawCondition) → words_in (shown_where cs) ≡ 0
where_none [] = refl
where_none (c ∷ cs) = let rest = parted_none shown_condition piece.And refl condition_none (c ∷ cs) in omega (arith, rest)

-- a select has the word once
shown_one : (raw : RawSelect) → words_in (shown raw) ≡ 1
shown_one raw =
    let W : List Piece = shown_where raw.conditions in
    let F : List Piece = parted shown_from piece.Comma raw.froms in
    let P : List Piece = parted shown_item piece.Comma raw.items in
    let behind : words_in (F ++ W) ≡ 0 = both_none F W (parted_none shown_from piece.Comma refl from_none raw.froms) (where_none raw.conditions) in
    let from_on : words_in (piece.From ∷ (F ++ W)) ≡ 0 = omega (arith, behind) in
    let rest : words_in (P ++ piece.From ∷ (F ++ W)) ≡ 0 = both_none P (piece.From ∷ (F ++ W)) (parted_none shown_item piece.Comma refl item_none raw.items) from_on in
    omega (arith, rest)

further_ones : (raws : List RawSelect) → words_in (further shown piece.Union raws) ≡ length raws
further_ones [] = refl
further_ones (raw ∷ raws) =
    let sum = words_append (shown raw) (further shown piece.Union raws) in
    let one = shown_one raw in
    let rest = further_ones raws in
    omega (arith, sum, one, rest)

query_words : (raws : List RawSelect) → words_in (shown_query raws) ≡ length raws
query_words [] = refl
query_words (raw ∷ raws) = let all = further_ones (raw ∷ raws) in omega (arith, all)

text_words : (raws : List RawSelect) (pieces : List Piece) → IsText raws pieces → words_in pieces ≡ length raws
text_words raws pieces is = ⊎_elim
    (λ e. ap words_in e ∙ query_words raws)
    (λ e. let sum = words_append (shown_query raws) (piece.Semicolon ∷ []) in let all = query_words raws in let same = ap words_in e in omega (arith, same, sum, all))
    is.written

offsets_long : (bytes : List ℕ) (tokens : List Token) → length (select_offsets bytes tokens) ≡ words_in (pieces_of bytes tokens)
offsets_long bytes [] = refl
offsets_long bytes (t ∷ tokens) = go (piece_of bytes t) (offsets_long bytes tokens)
  where
    go : (p : Piece) → length (select_offsets bytes tokens) ≡ words_in (pieces_of bytes tokens) →
        length (map (λ (u : Token). u.start) (cond (is_select p) (t ∷ filter (begins_select bytes) tokens) (filter (begins_select bytes) tokens))) ≡ word_in p + words_in (pieces_of bytes tokens)
    go piece.Select rest = omega (arith, rest)
    go _ rest = omega (arith, rest)

-- the select of a number that is there begins with one of the words
has_offset : (bytes : List ℕ) (tokens : List Token) (raws : List RawSelect) (number : ℕ) → IsText raws (pieces_of bytes tokens) → IsFirstOtherWide raws number → number < length (select_offsets bytes tokens)
has_offset bytes tokens raws number text is =
    let within = slice_get_within raws number is.raw is.at in
    let words = text_words raws (pieces_of bytes tokens) text in
    let long = offsets_long bytes tokens in
    omega (arith, within, words, long)

-- and its place is the one at this number
module _ (bytes : List ℕ) (tokens : List Token) (raws : List RawSelect) (number : ℕ) (offsets : List ℕ) (are : offsets ≡ select_offsets bytes tokens) (text : IsText raws (pieces_of bytes tokens)) (is : IsFirstOtherWide raws number) where
  pub offset_within : number < length offsets
  offset_within = subst (λ (os : List ℕ). number < length os) (sym are) (has_offset bytes tokens raws number text is)

  pub offset_is : (d : ℕ) → slice_get (select_offsets bytes tokens) number ≡ Some (slice_index_or offsets number d)
  offset_is d = subst (λ (os : List ℕ). slice_get os number ≡ Some (slice_index_or offsets number d)) are (slice_get-get_or offsets number d offset_within)
