-- Columns are read exactly where they have their form, and no word of a sort stands behind them.
use Rattle.std.proofs.Common.{◌≡◌, ℕ, zero, suc, ◌<◌, ◌≤◌, Bool, true, false, cond, List, [], ◌∷◌, ◌++◌, length, Option, None, Some, refl, sym, ap, subst, append_assoc, ◌∙◌, arith}
use Rattle.std.specs.Prelude.{codes, nat_eq}
use Rattle.std.specs.Cmp.Lexicographic.{pointwise}
use Rattle.std.specs.List.{AllByRecursion}
use Rattle.lists.proofs.Booleans.{first_true}
use Rattle.lists.proofs.Members.{some_injective}
use Rattle.meaning.specs.declared.types.Sort.{Sort}
use Rattle.meaning.specs.declared.types.Sort.TheVariants.{Text, Int}
use Rattle.pq_text.specs.declared.token.TokenKind.{TokenKind}
use Rattle.pq_text.specs.declared.token.TokenKind.TheVariants as kinds
use Rattle.pq_text.specs.declared.lexeme.Lexeme.{Lexeme}
use Rattle.pq_text.specs.Lexemes.{◌>>=◌, comma, kind_is_symbol, kind_is_word, word_next, symbol_at, word_at, name_at, members}
use Rattle.pq_text.specs.Forms.{Slot, Mark, Name, Takes, list_form, further_form, IsSome}
use Rattle.pq_text.proofs.Forms.{bind_some, Takes-append, Takes-split, Takes-length, symbol_again, word_found, word_again, name_found, name_again, other_word, this_word, Finds, list_found, list_length}
use Rattle.tgd_reader.specs.declared.column.Column.{Column}
use Rattle.tgd_reader.specs.Reading.{sort_at, word_behind, column_at, columns_at}
use Rattle.tgd_reader.specs.Grammar.{sort_form, column_form, IsGiven, IsColumn}

-- ---- found

-- a sort that is given, and the tokens behind its word
abbrev after : Sort → List Lexeme → Option (Option Sort × List Lexeme)
after sort rest = Some (Some sort, rest)

word_choice : (ls : List Lexeme) (i t : Bool) (word : Option Sort) (rest : List Lexeme) →
    cond i (word_at (codes "int") ls >>= after Int) (cond t (word_at (codes "text") ls >>= after Text) (Some (None, ls))) ≡ Some (word, rest) →
    Takes ls (sort_form word) rest
word_choice ls true t word rest e =
    let a = bind_some (word_at (codes "int") ls) (after Int) (word, rest) e in
    let made : Option Sort × List Lexeme = (Some Int, a.0) in
    subst (λ (y : Option Sort × List Lexeme). Takes ls (sort_form y.0) y.1) (some_injective made (word, rest) a.2)
    (word_found (codes "int") ls a.0 a.1)
word_choice ls false true word rest e =
    let a = bind_some (word_at (codes "text") ls) (after Text) (word, rest) e in
    let made : Option Sort × List Lexeme = (Some Text, a.0) in
    subst (λ (y : Option Sort × List Lexeme). Takes ls (sort_form y.0) y.1) (some_injective made (word, rest) a.2)
    (word_found (codes "text") ls a.0 a.1)
word_choice ls false false word rest e =
    let made : Option Sort × List Lexeme = (None, ls) in
    subst (λ (y : Option Sort × List Lexeme). Takes ls (sort_form y.0) y.1) (some_injective made (word, rest) e) refl

behind_found : (v : Bool) (ls : List Lexeme) (word : Option Sort) (rest : List Lexeme) → word_behind v ls ≡ Some (word, rest) →
    Takes ls (sort_form word) rest × IsGiven v word
behind_found true ls word rest e = (word_choice ls (word_next (codes "int") ls) (word_next (codes "text") ls) word rest e, tt)
behind_found false ls word rest e =
    let made : Option Sort × List Lexeme = (None, ls) in
    subst (λ (y : Option Sort × List Lexeme). Takes ls (sort_form y.0) y.1 × (y.0 ≡ None)) (some_injective made (word, rest) e) (refl, refl)

columns_find : (v : Bool) → Finds (column_at v) column_form (IsColumn v)
unfolding column_at
columns_find v ls x rest e =
    let a = bind_some (name_at ls) (λ (n : List ℕ × List Lexeme). word_behind v n.1 >>= λ w. Some (record { name = n.0; word = w.0 }, w.1)) (x, rest) e in
    let b = bind_some (word_behind v a.0.1) (λ (w : Option Sort × List Lexeme). Some (record { name = a.0.0; word = w.0 }, w.1)) (x, rest) a.2 in
    let f = behind_found v a.0.1 b.0.0 b.0.1 b.1 in
    let made : Column × List Lexeme = (record { name = a.0.0; word = b.0.0 }, b.0.1) in
    let whole : Takes ls (column_form made.0) made.1 =
    Takes-append ls (Name a.0.0 ∷ []) (sort_form b.0.0) a.0.1 b.0.1 (name_found ls a.0.0 a.0.1 a.1) f.0 in
    subst (λ (y : Column × List Lexeme). Takes ls (column_form y.0) y.1 × IsColumn v y.0) (some_injective made (x, rest) b.2) (whole, f.1)

pub columns_found : (v : Bool) (ls : List Lexeme) (xs : List Column) (rest : List Lexeme) → columns_at v ls ≡ Some (xs, rest) →
    IsSome xs × AllByRecursion (IsColumn v) xs × Takes ls (list_form column_form xs) rest
columns_found v ls xs rest e = list_found (column_at v) column_form (IsColumn v) (columns_find v) ls xs rest e

-- ---- read again, where no word of a sort stands behind

abbrev pub NoSort : List Lexeme → Type 0
NoSort ls = (word_next (codes "int") ls ≡ false) × (word_next (codes "text") ls ≡ false)

symbol_no_word : (k : TokenKind) → kind_is_symbol k ≡ true → kind_is_word k ≡ false
symbol_no_word kinds.Word e = absurd cc
symbol_no_word _ e = refl

no_word : (text symbol : List ℕ) (ls : List Lexeme) (ss : List Slot) (rest : List Lexeme) → Takes ls (Mark symbol ∷ ss) rest → word_next text ls ≡ false
no_word text symbol [] ss rest t = absurd t
no_word text symbol (l ∷ ls) ss rest t =
    let k = symbol_no_word l.kind (first_true (kind_is_symbol l.kind) (pointwise nat_eq l.text symbol) t.0) in
    rw k refl

-- where a symbol stands, no word of a sort does
pub no_sort : (symbol : List ℕ) (ls : List Lexeme) (ss : List Slot) (rest : List Lexeme) → Takes ls (Mark symbol ∷ ss) rest → NoSort ls
no_sort symbol ls ss rest t = (no_word (codes "int") symbol ls ss rest t, no_word (codes "text") symbol ls ss rest t)

none_behind : (ls : List Lexeme) → NoSort ls → sort_at ls ≡ Some (None, ls)
none_behind ls none = rw (none.0, none.1) refl

behind_again : (v : Bool) (ls : List Lexeme) (word : Option Sort) (rest : List Lexeme) → IsGiven v word → NoSort rest →
    Takes ls (sort_form word) rest → word_behind v ls ≡ Some (word, rest)
behind_again false ls None rest given none t =
    let made : List Lexeme → Option (Option Sort × List Lexeme) = λ r. Some (None, r) in
    ap made t
behind_again false ls (Some sort) rest given none t = absurd (let e = given in cc)
behind_again true ls None rest given none t =
    let made : List Lexeme → Option (Option Sort × List Lexeme) = λ r. Some (None, r) in
    none_behind ls (subst NoSort (sym t) none) ∙ ap made t
behind_again true ls (Some Int) rest given none t =
    let k = this_word (codes "int") ls [] rest t in
    let w = word_again (codes "int") ls [] rest t in
    rw (k, w.1, w.2) refl
behind_again true ls (Some Text) rest given none t =
    let o = other_word (codes "text") (codes "int") ls [] rest refl t in
    let k = this_word (codes "text") ls [] rest t in
    let w = word_again (codes "text") ls [] rest t in
    rw (o, k, w.1, w.2) refl

column_again : (v : Bool) (ls : List Lexeme) (x : Column) (rest : List Lexeme) → IsColumn v x → NoSort rest → Takes ls (column_form x) rest →
    column_at v ls ≡ Some (x, rest)
unfolding column_at
column_again v ls x rest given none t =
    let n = name_again ls x.name (sort_form x.word) rest t in
    let w = behind_again v n.0 x.word rest given none n.2 in
    rw (n.1, w) refl

members_again : (v : Bool) (more : List Column) (x : Column) (k : ℕ) (done : List Column) (ls rest : List Lexeme) →
    AllByRecursion (IsColumn v) (x ∷ more) → symbol_at comma rest ≡ None → NoSort rest → length more < k →
    Takes ls (list_form column_form (x ∷ more)) rest → members (column_at v) k done ls ≡ Some (done ++ x ∷ more, rest)
unfolding members
members_again v more x zero done ls rest w ends none lt t = absurd (omega arith)
members_again v [] x (suc k) done ls rest w ends none lt t =
    let s = Takes-split ls (column_form x) [] rest t in
    let front : NoSort s.0 = subst NoSort (sym s.2) none in
    rw (column_again v ls x s.0 w.0 front s.1, s.2, ends) refl
members_again v (y ∷ ys) x (suc k) done ls rest w ends none lt t =
    let s = Takes-split ls (column_form x) (further_form column_form (y ∷ ys)) rest t in
    let c = symbol_again comma s.0 (list_form column_form (y ∷ ys)) rest s.2 in
    let front : NoSort s.0 = no_sort comma s.0 (list_form column_form (y ∷ ys)) rest s.2 in
    rw (column_again v ls x s.0 w.0 front s.1, c.1)
    (members_again v ys y k (done ++ x ∷ []) c.0 rest w.1 ends none (omega arith) c.2 ∙ ap (λ zs. Some (zs, rest)) (append_assoc done (x ∷ []) (y ∷ ys)))

some_column : (x : Column) → 1 ≤ length (column_form x)
some_column x = omega arith

pub columns_again : (v : Bool) (ls : List Lexeme) (xs : List Column) (rest : List Lexeme) → IsSome xs → AllByRecursion (IsColumn v) xs →
    symbol_at comma rest ≡ None → NoSort rest → Takes ls (list_form column_form xs) rest → columns_at v ls ≡ Some (xs, rest)
columns_again v ls [] rest h w ends none t = absurd h
columns_again v ls (x ∷ xs) rest h w ends none t =
    let len = Takes-length ls (list_form column_form (x ∷ xs)) rest t in
    let more = list_length column_form some_column xs x in
    members_again v xs x (length ls) [] ls rest w ends none (omega arith) t
