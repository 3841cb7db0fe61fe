-- Parts that are printed are read as themselves, each on its line.
use Rattle.std.proofs.Common.{◌≡◌, ℕ, ◌+◌, ◌≤◌, Bool, true, false, List, [], ◌∷◌, ◌++◌, length, Option, None, refl, sym, ap, subst, ◌∙◌, append_assoc, arith}
use Rattle.std.specs.Prelude.{codes, map, nat_eq}
use Rattle.std.specs.Fmt.{decimal}
use Rattle.std.specs.List.{AllByRecursion}
use Rattle.std.proofs.lemmas.Bool.{eq-eqb}
use Rattle.std.proofs.lemmas.Fmt.{decimal_digit}
use Rattle.std.proofs.lemmas.List.{append-nil}
use Rattle.lists.proofs.Members.{all_along}
use Rattle.pq_text.specs.declared.token.Style.TheVariants.{Lines}
use Rattle.meaning.specs.declared.types.Sort.{Sort}
use Rattle.meaning.specs.declared.types.Sort.TheVariants.{Text, Int}
use Rattle.pq_text.specs.declared.lexeme.Lexeme.{Lexeme}
use Rattle.pq_text.specs.declared.lexeme.Line.{Line}
use Rattle.pq_text.specs.Lines.{feeds}
use Rattle.pq_text.specs.Printing.{is_bare, Stops}
use Rattle.pq_text.specs.Forms.{Slot, Key, Mark, Name, Value, Quote, Digits, Takes, list_form, name_form, IsSome}
use Rattle.pq_text.specs.Pieces.{Piece, text_of, piece_lexeme, AreLexed, AreInLine, IsPrintedLine, ArePrintedLines, word_piece, mark_piece, name_piece, value_piece, number_piece, list_pieces, lines_text, numbered}
use Rattle.pq_text.proofs.Pieces.{printed_lines}
use Rattle.pq_text.proofs.PieceLaws.{goes_on, name_is_lexed, value_is_lexed, word_is_lexed, open_is_lexed, close_is_lexed, arrow_is_lexed, number_is_lexed, AreLexed-append, AreInLine-append, Reads, Reads-append, name_reads, value_reads, quote_reads, name_in_line, IsPrinted, list_lexed, list_reads, list_in_line}
use Rattle.pq_text.proofs.Digits.{decimal_value}
use Rattle.access_schema.specs.declared.part.NamedTerm.{NamedTerm}
use Rattle.access_schema.specs.declared.part.NamedTerm.TheVariants.{Var, Const}
use Rattle.access_schema.specs.declared.part.NamedAtom.{NamedAtom}
use Rattle.access_schema.specs.declared.part.Part.{Part}
use Rattle.access_schema.specs.declared.part.Part.TheVariants.{Relation, Method, Rule, ForeignKey, Constant, Source}
use Rattle.tgd_reader.specs.declared.column.Column.{Column}
use Rattle.tgd_reader.specs.Version.{next_version, behind_version, version_of, told_version}
use Rattle.tgd_reader.specs.Reading.{cost_of, name_of, given_sort, sort_of}
use Rattle.tgd_reader.specs.Grammar.{term_form, atom_form, column_form, IsGiven, IsColumn, listing_form, relation_form, method_form, rule_form, IsAtom, IsDeclaration, HasPart, AreParts, HasParts}
use Rattle.tgd_reader.specs.Printed.{word_of, column_of, with_sorts, column_pieces, columns_pieces, version_pieces, version_lines, name_pieces, term_pieces, atom_pieces, listing_pieces, part_pieces, on_line, line_behind, placed_from, lines_from, printed_parts}

-- ---- parts that can be printed: no name is empty, and lists have members

abbrev pub IsPlainTerm : NamedTerm → Type 0
IsPlainTerm (Var name) = IsSome name
IsPlainTerm (Const text) = Unit {0}

abbrev pub IsPlainAtom : NamedAtom → Type 0
IsPlainAtom atom = IsSome atom.relation × IsSome atom.terms × AllByRecursion IsPlainTerm atom.terms

-- the sorts can be printed in the version
abbrev pub AreGiven : Bool → List Sort → Type 0
AreGiven v sorts = AllByRecursion (λ sort. IsGiven v (word_of sort)) sorts

abbrev pub IsPlain : Bool → Part → Type 0
IsPlain v (Relation name columns sorts) = IsSome name × IsSome columns × AllByRecursion IsSome columns × (length sorts ≡ length columns) × AreGiven v sorts
IsPlain v (Method name relation inputs cost) = IsSome name × IsSome relation × AllByRecursion IsSome inputs × (cost ≤ 1000000)
IsPlain v (Rule line body head) = IsSome body × AllByRecursion IsPlainAtom body × IsSome head × AllByRecursion IsPlainAtom head
IsPlain v (ForeignKey line relation columns target target_columns) = ⊥
IsPlain v (Constant text) = Unit {0}
IsPlain v (Source relation kind locator) = IsSome relation × IsSome kind

-- ---- members

name_printed : (name : List ℕ) → IsSome name → IsPrinted name_pieces name_form name
name_printed name some = record { lexed = λ t rest stops. (name_is_lexed t name rest some stops, tt); reads = λ t. name_reads t name some; in_line = λ t. name_in_line t name }

term_printed : (term : NamedTerm) → IsPlainTerm term → IsPrinted term_pieces term_form term
term_printed (Var name) some = record { lexed = λ t rest stops. (name_is_lexed t name rest some stops, tt); reads = λ t. name_reads t name some; in_line = λ t. name_in_line t name }
term_printed (Const text) plain = record { lexed = λ t rest stops. (value_is_lexed t text rest stops, tt); reads = λ t. value_reads t text; in_line = λ t. (refl, tt) }

-- a column with the word of its sort
module _ (word : List ℕ) (bare : is_bare word ≡ true) (reads_word : Reads (word_piece true word ∷ []) (Key word ∷ [])) (name : List ℕ) (some : IsSome name) where
  worded_lexed : (t : Bool) (rest : List ℕ) → Stops goes_on rest → AreLexed Lines (name_piece t name ∷ word_piece true word ∷ []) rest
  worded_lexed t rest stops = (name_is_lexed t name (text_of (word_piece true word ∷ []) ++ rest) some refl, (word_is_lexed true word rest bare stops, tt))

  worded_reads : (t : Bool) → Reads (name_piece t name ∷ word_piece true word ∷ []) (Name name ∷ Key word ∷ [])
  worded_reads t = Reads-append (name_piece t name ∷ []) (word_piece true word ∷ []) (Name name ∷ []) (Key word ∷ []) (name_reads t name some) reads_word

  worded_in_line : (t : Bool) → AreInLine (name_piece t name ∷ word_piece true word ∷ [])
  worded_in_line t = AreInLine-append (name_piece t name ∷ []) (word_piece true word ∷ []) (name_in_line t name) (refl, tt)

column_printed : (name : List ℕ) (sort : Sort) → IsSome name → IsPrinted column_pieces column_form (column_of name sort)
column_printed name Text some = record { lexed = λ t rest stops. (name_is_lexed t name rest some stops, tt); reads = λ t. name_reads t name some; in_line = λ t. name_in_line t name }
column_printed name Int some = record {
  lexed = worded_lexed (codes "int") refl (λ rest. (refl, refl)) name some;
  reads = worded_reads (codes "int") refl (λ rest. (refl, refl)) name some;
  in_line = worded_in_line (codes "int") refl (λ rest. (refl, refl)) name some;
}

columns_printed : (columns : List (List ℕ)) (sorts : List Sort) → AllByRecursion IsSome columns → AllByRecursion (IsPrinted column_pieces column_form) (with_sorts columns sorts)
columns_printed [] sorts all = tt
columns_printed (name ∷ names) [] all = tt
columns_printed (name ∷ names) (sort ∷ sorts) all = (column_printed name sort all.0, columns_printed names sorts all.1)

-- ---- columns with their sorts

written_some : (columns : List (List ℕ)) (sorts : List Sort) → IsSome columns → length sorts ≡ length columns → IsSome (with_sorts columns sorts)
written_some [] sorts some long = absurd some
written_some (name ∷ names) [] some long = absurd (omega arith)
written_some (name ∷ names) (sort ∷ sorts) some long = tt

written_given : (v : Bool) (columns : List (List ℕ)) (sorts : List Sort) → AreGiven v sorts → AllByRecursion (IsColumn v) (with_sorts columns sorts)
written_given v [] sorts given = tt
written_given v (name ∷ names) [] given = tt
written_given v (name ∷ names) (sort ∷ sorts) given = (given.0, written_given v names sorts given.1)

written_names : (columns : List (List ℕ)) (sorts : List Sort) → length sorts ≡ length columns → map name_of (with_sorts columns sorts) ≡ columns
written_names [] sorts long = refl
written_names (name ∷ names) [] long = absurd (omega arith)
written_names (name ∷ names) (sort ∷ sorts) long = ap (λ (ns : List (List ℕ)). name ∷ ns) (written_names names sorts (omega (arith, long)))

sort_again : (sort : Sort) → given_sort (word_of sort) ≡ sort
sort_again Text = refl
sort_again Int = refl

written_sorts : (columns : List (List ℕ)) (sorts : List Sort) → length sorts ≡ length columns → map sort_of (with_sorts columns sorts) ≡ sorts
written_sorts [] [] long = refl
written_sorts [] (sort ∷ sorts) long = absurd (omega arith)
written_sorts (name ∷ names) [] long = absurd (omega arith)
written_sorts (name ∷ names) (sort ∷ sorts) long =
    let more : map sort_of (with_sorts names sorts) ≡ sorts = written_sorts names sorts (omega (arith, long)) in
    ap (λ (s : Sort). s ∷ map sort_of (with_sorts names sorts)) (sort_again sort) ∙ ap (λ (ss : List Sort). sort ∷ ss) more

open_reads : Reads (mark_piece false (codes "(") ∷ []) (Mark (codes "(") ∷ [])
open_reads = λ rest. (refl, refl)

close_reads : Reads (mark_piece false (codes ")") ∷ []) (Mark (codes ")") ∷ [])
close_reads = λ rest. (refl, refl)

arrow_reads : Reads (mark_piece true (codes "->") ∷ []) (Mark (codes "->") ∷ [])
arrow_reads = λ rest. (refl, refl)

-- a name, and members in brackets
module _ {X : Type 0} (item : Bool → X → List Piece) (slots : X → List Slot) (t : Bool) (name : List ℕ) (xs : List X) (some : IsSome name) (all : AllByRecursion (IsPrinted item slots) xs) where
  pub bracket_lexed : (rest : List ℕ) → AreLexed Lines (name_piece t name ∷ mark_piece false (codes "(") ∷ (list_pieces item false xs ++ mark_piece false (codes ")") ∷ [])) rest
  bracket_lexed rest =
      let closing : List Piece = mark_piece false (codes ")") ∷ [] in
      let inside : List Piece = list_pieces item false xs ++ closing in (
        name_is_lexed t name (40 ∷ (text_of inside ++ rest)) some refl,
        (open_is_lexed false (text_of inside ++ rest), AreLexed-append (list_pieces item false xs) closing rest (list_lexed item slots false xs (41 ∷ rest) all refl) (close_is_lexed false rest, tt)),
      )

  pub bracket_reads : Reads (name_piece t name ∷ mark_piece false (codes "(") ∷ (list_pieces item false xs ++ mark_piece false (codes ")") ∷ [])) (Name name ∷ Mark (codes "(") ∷ (list_form slots xs ++ Mark (codes ")") ∷ []))
  bracket_reads =
      let closing : List Piece = mark_piece false (codes ")") ∷ [] in
      let inside : List Piece = list_pieces item false xs ++ closing in
      let close_form : List Slot = Mark (codes ")") ∷ [] in
      let inside_form : List Slot = list_form slots xs ++ close_form in
      Reads-append (name_piece t name ∷ []) (mark_piece false (codes "(") ∷ inside) (Name name ∷ []) (Mark (codes "(") ∷ inside_form) (name_reads t name some)
      (Reads-append (mark_piece false (codes "(") ∷ []) inside (Mark (codes "(") ∷ []) inside_form open_reads
      (Reads-append (list_pieces item false xs) closing (list_form slots xs) close_form (list_reads item slots false xs all) close_reads))

  pub bracket_in_line : AreInLine (name_piece t name ∷ mark_piece false (codes "(") ∷ (list_pieces item false xs ++ mark_piece false (codes ")") ∷ []))
  bracket_in_line =
      let closing : List Piece = mark_piece false (codes ")") ∷ [] in
      let inside : List Piece = list_pieces item false xs ++ closing in
      AreInLine-append (name_piece t name ∷ []) (mark_piece false (codes "(") ∷ inside) (name_in_line t name)
      (refl, AreInLine-append (list_pieces item false xs) closing (list_in_line item slots false xs all) (refl, tt))

atom_printed : (atom : NamedAtom) → IsPlainAtom atom → IsPrinted atom_pieces atom_form atom
unfolding atom_pieces
atom_printed atom plain =
    let all = all_along IsPlainTerm (IsPrinted term_pieces term_form) term_printed atom.terms plain.2 in
    record {
      lexed = λ t rest stops. bracket_lexed term_pieces term_form t atom.relation atom.terms plain.0 all rest;
      reads = λ t. bracket_reads term_pieces term_form t atom.relation atom.terms plain.0 all;
      in_line = λ t. bracket_in_line term_pieces term_form t atom.relation atom.terms plain.0 all;
    }

names_printed : (names : List (List ℕ)) → AllByRecursion IsSome names → AllByRecursion (IsPrinted name_pieces name_form) names
names_printed names all = all_along IsSome (IsPrinted name_pieces name_form) name_printed names all

listing_lexed : (name : List ℕ) (columns : List (List ℕ)) (rest : List ℕ) → IsSome name → AllByRecursion IsSome columns → AreLexed Lines (listing_pieces name columns) rest
unfolding listing_pieces
listing_lexed name columns rest some all = bracket_lexed name_pieces name_form true name columns some (names_printed columns all) rest

listing_reads : (name : List ℕ) (columns : List (List ℕ)) → IsSome name → AllByRecursion IsSome columns → Reads (listing_pieces name columns) (listing_form name columns)
unfolding listing_pieces
listing_reads name columns some all = bracket_reads name_pieces name_form true name columns some (names_printed columns all)

listing_in_line : (name : List ℕ) (columns : List (List ℕ)) → IsSome name → AllByRecursion IsSome columns → AreInLine (listing_pieces name columns)
unfolding listing_pieces
listing_in_line name columns some all = bracket_in_line name_pieces name_form true name columns some (names_printed columns all)

-- ---- numbers

cost_again : (cost : ℕ) → cost ≤ 1000000 → nat_eq (cost_of (decimal cost)) cost ≡ true
cost_again cost few = let v = decimal_value cost (omega (arith, few)) in eq-eqb (cost_of (decimal cost)) cost (omega (arith, v, few))

-- ---- declarations

atoms_printed : (atoms : List NamedAtom) → AllByRecursion IsPlainAtom atoms → AllByRecursion (IsPrinted atom_pieces atom_form) atoms
atoms_printed atoms all = all_along IsPlainAtom (IsPrinted atom_pieces atom_form) atom_printed atoms all

rule_lexed : (body head : List NamedAtom) (rest : List ℕ) → IsSome body → AllByRecursion IsPlainAtom body → AllByRecursion IsPlainAtom head →
    AreLexed Lines (word_piece false (codes "rule") ∷ (list_pieces atom_pieces true body ++ mark_piece true (codes "->") ∷ list_pieces atom_pieces true head)) (10 ∷ rest)
unfolding atom_pieces
rule_lexed [] head rest some in_body in_head = absurd some
rule_lexed (a ∷ more) head rest some in_body in_head =
    let heads : List Piece = list_pieces atom_pieces true head in
    let arrow : List Piece = mark_piece true (codes "->") ∷ heads in
    let bodies : List Piece = list_pieces atom_pieces true (a ∷ more) in (
      word_is_lexed false (codes "rule") (text_of (bodies ++ arrow) ++ 10 ∷ rest) refl refl,
      AreLexed-append bodies arrow (10 ∷ rest) (list_lexed atom_pieces atom_form true (a ∷ more) (text_of arrow ++ 10 ∷ rest) (atoms_printed (a ∷ more) in_body) refl)
          (arrow_is_lexed true (text_of heads ++ 10 ∷ rest), list_lexed atom_pieces atom_form true head (10 ∷ rest) (atoms_printed head in_head) refl),
    )

part_lexed : (v : Bool) (part : Part) (rest : List ℕ) → IsPlain v part → AreLexed Lines (part_pieces part) (10 ∷ rest)
unfolding listing_pieces
part_lexed v (Relation name columns sorts) rest plain =
    let all = columns_printed columns sorts plain.2 in
    (word_is_lexed false (codes "relation") (text_of (columns_pieces name (with_sorts columns sorts)) ++ 10 ∷ rest) refl refl, bracket_lexed column_pieces column_form true name (with_sorts columns sorts) plain.0 all (10 ∷ rest))
part_lexed v (Method name relation inputs cost) rest plain =
    let price : List Piece = word_piece true (codes "cost") ∷ number_piece true cost ∷ [] in
    let listed : List Piece = listing_pieces relation inputs in
    let few = plain.3 in (
      word_is_lexed false (codes "method") (text_of (name_piece true name ∷ word_piece true (codes "on") ∷ (listed ++ price)) ++ 10 ∷ rest) refl refl,
      (
        name_is_lexed true name (text_of (word_piece true (codes "on") ∷ (listed ++ price)) ++ 10 ∷ rest) plain.0 refl,
        (
          word_is_lexed true (codes "on") (text_of (listed ++ price) ++ 10 ∷ rest) refl refl,
          AreLexed-append listed price (10 ∷ rest) (listing_lexed relation inputs (text_of price ++ 10 ∷ rest) plain.1 plain.2)
              (word_is_lexed true (codes "cost") (text_of (number_piece true cost ∷ []) ++ 10 ∷ rest) refl refl, (number_is_lexed true cost (10 ∷ rest) (omega (arith, few)) refl, tt)),
        ),
      ),
    )
part_lexed v (Rule line body head) rest plain = rule_lexed body head rest plain.0 plain.1 plain.3
part_lexed v (ForeignKey line relation columns target target_columns) rest plain = absurd plain
part_lexed v (Constant text) rest plain = (word_is_lexed false (codes "constant") (text_of (value_piece true text ∷ []) ++ 10 ∷ rest) refl refl, (value_is_lexed true text (10 ∷ rest) refl, tt))
part_lexed v (Source relation kind locator) rest plain = (
  word_is_lexed false (codes "source") (text_of (name_piece true relation ∷ name_piece true kind ∷ value_piece true locator ∷ []) ++ 10 ∷ rest) refl refl,
  (
    name_is_lexed true relation (text_of (name_piece true kind ∷ value_piece true locator ∷ []) ++ 10 ∷ rest) plain.0 refl,
    (name_is_lexed true kind (text_of (value_piece true locator ∷ []) ++ 10 ∷ rest) plain.1 refl, (value_is_lexed true locator (10 ∷ rest) refl, tt)),
  ),
)

part_in_line : (v : Bool) (part : Part) → IsPlain v part → AreInLine (part_pieces part)
part_in_line v (Relation name columns sorts) plain = (refl, bracket_in_line column_pieces column_form true name (with_sorts columns sorts) plain.0 (columns_printed columns sorts plain.2))
part_in_line v (Method name relation inputs cost) plain =
    let price : List Piece = word_piece true (codes "cost") ∷ number_piece true cost ∷ [] in
    let listed : List Piece = listing_pieces relation inputs in
    (refl, AreInLine-append (name_piece true name ∷ []) (word_piece true (codes "on") ∷ (listed ++ price)) (name_in_line true name) (refl, AreInLine-append listed price (listing_in_line relation inputs plain.1 plain.2) (refl, (refl, tt))))
part_in_line v (Rule line body head) plain =
    let heads : List Piece = list_pieces atom_pieces true head in
    (refl, AreInLine-append (list_pieces atom_pieces true body) (mark_piece true (codes "->") ∷ heads) (list_in_line atom_pieces atom_form true body (atoms_printed body plain.1)) (refl, list_in_line atom_pieces atom_form true head (atoms_printed head plain.3)))
part_in_line v (ForeignKey line relation columns target target_columns) plain = absurd plain
part_in_line v (Constant text) plain = (refl, (refl, tt))
part_in_line v (Source relation kind locator) plain =
    (refl, AreInLine-append (name_piece true relation ∷ []) (name_piece true kind ∷ value_piece true locator ∷ []) (name_in_line true relation) (AreInLine-append (name_piece true kind ∷ []) (value_piece true locator ∷ []) (name_in_line true kind) (refl, tt)))

-- the tokens of some pieces alone
whole : (xs : List Piece) (form : List Slot) → Reads xs form → Takes (map piece_lexeme xs) form []
whole xs form reads = subst (λ (ls : List Lexeme). Takes ls form []) (append-nil (map piece_lexeme xs)) (reads [])

method_reads : (name relation : List ℕ) (inputs : List (List ℕ)) (cost : ℕ) (v : Bool) → IsPlain v (Method name relation inputs cost) → Reads (part_pieces (Method name relation inputs cost)) (method_form name relation inputs cost)
method_reads name relation inputs cost v plain =
    let test : List ℕ → Bool = λ digits. nat_eq (cost_of digits) cost in
    let price : List Piece = word_piece true (codes "cost") ∷ number_piece true cost ∷ [] in
    let price_form : List Slot = Key (codes "cost") ∷ Digits test ∷ [] in
    let listed : List Piece = listing_pieces relation inputs in
    let closing : List Slot = Mark (codes ")") ∷ [] in
    let members : List Slot = list_form name_form inputs in
    let priced : Reads price price_form = Reads-append (word_piece true (codes "cost") ∷ []) (number_piece true cost ∷ []) (Key (codes "cost") ∷ []) (Digits test ∷ []) (λ rest. (refl, refl)) (λ rest. ((refl, cost_again cost plain.3), refl)) in
    let behind : Reads (listed ++ price) (listing_form relation inputs ++ price_form) = Reads-append listed price (listing_form relation inputs) price_form (listing_reads relation inputs plain.1 plain.2) priced in
    let same : listing_form relation inputs ++ price_form ≡ Name relation ∷ Mark (codes "(") ∷ (members ++ Mark (codes ")") ∷ price_form) =
    ap (λ (ss : List Slot). Name relation ∷ Mark (codes "(") ∷ ss) (append_assoc members closing price_form) in
    let last : List Slot = Name relation ∷ Mark (codes "(") ∷ (members ++ Mark (codes ")") ∷ price_form) in
    let reads_last : Reads (listed ++ price) last = subst (λ (form : List Slot). Reads (listed ++ price) form) same behind in
    Reads-append (word_piece false (codes "method") ∷ []) (name_piece true name ∷ word_piece true (codes "on") ∷ (listed ++ price)) (Key (codes "method") ∷ []) (Name name ∷ Key (codes "on") ∷ last) (λ rest. (refl, refl))
    (Reads-append (name_piece true name ∷ []) (word_piece true (codes "on") ∷ (listed ++ price)) (Name name ∷ []) (Key (codes "on") ∷ last) (name_reads true name plain.0)
    (Reads-append (word_piece true (codes "on") ∷ []) (listed ++ price) (Key (codes "on") ∷ []) last (λ rest. (refl, refl)) reads_last))

rule_reads : (line : ℕ) (body head : List NamedAtom) (v : Bool) → IsPlain v (Rule line body head) → Reads (part_pieces (Rule line body head)) (rule_form body head)
rule_reads line body head v plain =
    let heads : List Piece = list_pieces atom_pieces true head in
    let arrow : List Piece = mark_piece true (codes "->") ∷ heads in
    let head_form : List Slot = list_form atom_form head in
    let arrow_form : List Slot = Mark (codes "->") ∷ head_form in
    Reads-append (word_piece false (codes "rule") ∷ []) (list_pieces atom_pieces true body ++ arrow) (Key (codes "rule") ∷ []) (list_form atom_form body ++ arrow_form) (λ rest. (refl, refl))
    (Reads-append (list_pieces atom_pieces true body) arrow (list_form atom_form body) arrow_form (list_reads atom_pieces atom_form true body (atoms_printed body plain.1))
    (Reads-append (mark_piece true (codes "->") ∷ []) heads (Mark (codes "->") ∷ []) head_form arrow_reads (list_reads atom_pieces atom_form true head (atoms_printed head plain.3))))

are_atoms : (atoms : List NamedAtom) → AllByRecursion IsPlainAtom atoms → AllByRecursion IsAtom atoms
are_atoms atoms all = all_along IsPlainAtom IsAtom (λ atom plain. plain.1) atoms all

part_declared : (v : Bool) (n : ℕ) (part : Part) → IsPlain v part → IsDeclaration v n (map piece_lexeme (part_pieces part)) (on_line n part)
part_declared v n (Relation name columns sorts) plain =
    let columns_are : List Column = with_sorts columns sorts in
    let all = columns_printed columns sorts plain.2 in (
      columns_are,
      written_some columns sorts plain.1 plain.3,
      written_given v columns sorts plain.4,
      sym (written_names columns sorts plain.3),
      sym (written_sorts columns sorts plain.3),
      whole (part_pieces (Relation name columns sorts)) (relation_form name columns_are)
          (Reads-append (word_piece false (codes "relation") ∷ []) (columns_pieces name columns_are) (Key (codes "relation") ∷ []) (Name name ∷ Mark (codes "(") ∷ (list_form column_form columns_are ++ Mark (codes ")") ∷ []))
          (λ rest. (refl, refl)) (bracket_reads column_pieces column_form true name columns_are plain.0 all)),
    )
part_declared v n (Method name relation inputs cost) plain = whole (part_pieces (Method name relation inputs cost)) (method_form name relation inputs cost) (method_reads name relation inputs cost v plain)
part_declared v n (Rule line body head) plain =
    (plain.0, are_atoms body plain.1, plain.2, are_atoms head plain.3, refl, whole (part_pieces (Rule line body head)) (rule_form body head) (rule_reads line body head v plain))
part_declared v n (ForeignKey line relation columns target target_columns) plain = absurd plain
part_declared v n (Constant text) plain =
    whole (part_pieces (Constant text)) (Key (codes "constant") ∷ Value text ∷ []) (Reads-append (word_piece false (codes "constant") ∷ []) (value_piece true text ∷ []) (Key (codes "constant") ∷ []) (Value text ∷ []) (λ rest. (refl, refl)) (value_reads true text))
part_declared v n (Source relation kind locator) plain =
    whole (part_pieces (Source relation kind locator)) (Key (codes "source") ∷ Name relation ∷ Name kind ∷ Quote locator ∷ [])
    (Reads-append (word_piece false (codes "source") ∷ []) (name_piece true relation ∷ name_piece true kind ∷ value_piece true locator ∷ []) (Key (codes "source") ∷ []) (Name relation ∷ Name kind ∷ Quote locator ∷ []) (λ rest. (refl, refl))
    (Reads-append (name_piece true relation ∷ []) (name_piece true kind ∷ value_piece true locator ∷ []) (Name relation ∷ []) (Name kind ∷ Quote locator ∷ []) (name_reads true relation plain.0)
    (Reads-append (name_piece true kind ∷ []) (value_piece true locator ∷ []) (Name kind ∷ []) (Quote locator ∷ []) (name_reads true kind plain.1) (quote_reads true locator))))

-- ---- texts

has_part : (v : Bool) (n : ℕ) (part : Part) (P : List Part → List ℕ → Type 0) (parts : List Part) (lines : List ℕ) → IsPlain v part → P parts lines → HasPart v n (map piece_lexeme (part_pieces part)) (on_line n part ∷ parts) (n ∷ lines) P
has_part v n (ForeignKey line relation columns target target_columns) P parts lines plain more = absurd plain
has_part v n part P parts lines plain more = (part_declared v n part plain, refl, more)

are_parts : (v : Bool) (n : ℕ) (parts : List Part) → AllByRecursion (IsPlain v) parts → AreParts v (numbered n (map part_pieces parts)) (placed_from n parts) (lines_from n parts)
are_parts v n [] all = (refl, refl)
are_parts v n (part ∷ parts) all =
    has_part v n part (AreParts v (numbered (line_behind n part) (map part_pieces parts))) (placed_from (line_behind n part) parts) (lines_from (line_behind n part) parts) all.0 (are_parts v (line_behind n part) parts all.1)

are_printed : (v : Bool) (parts : List Part) → AllByRecursion (IsPlain v) parts → ArePrintedLines Lines (map part_pieces parts)
are_printed v [] all = tt
are_printed v (part ∷ parts) all = (record { lexed = λ rest. part_lexed v part rest all.0; one = part_in_line v part all.0 }, are_printed v parts all.1)

-- ---- the line of the version

two : decimal 2 ≡ codes "2"
two = decimal_digit 2 (omega arith)

version_printed : IsPrintedLine Lines version_pieces
version_printed = record {
  lexed = λ rest. (word_is_lexed false (codes "schema") (text_of (number_piece true 2 ∷ []) ++ 10 ∷ rest) refl refl, (number_is_lexed true 2 (10 ∷ rest) (omega arith) refl, tt));
  one = (refl, (refl, tt));
}

-- a line of this version in front is the one that names it
told_two : (lines : List (List Piece)) → told_version (numbered 1 (version_pieces ∷ lines)) ≡ (true, numbered 2 lines)
told_two lines = rw two refl

-- no declaration names a version
no_version : (v : Bool) (n : ℕ) (part : Part) (more : List Line) (found : Option (List Line)) → IsPlain v part → next_version more (map piece_lexeme (part_pieces part)) found ≡ None
no_version v n (Relation name columns sorts) more found plain = refl
no_version v n (Method name relation inputs cost) more found plain = refl
no_version v n (Rule line body head) more found plain = refl
no_version v n (ForeignKey line relation columns target target_columns) more found plain = absurd plain
no_version v n (Constant text) more found plain = refl
no_version v n (Source relation kind locator) more found plain = refl

none_named : (v : Bool) (n : ℕ) (parts : List Part) → AllByRecursion (IsPlain v) parts → behind_version (numbered n (map part_pieces parts)) ≡ None
none_named v n [] all = refl
none_named v n (part ∷ parts) all =
    let more : List Line = numbered (n + feeds (text_of (part_pieces part)) + 1) (map part_pieces parts) in
    no_version v n part more (behind_version more) all.0

-- a printed text has the parts that were printed
pub parts_again : (v : Bool) (parts : List Part) → AllByRecursion (IsPlain v) parts → HasParts (lines_text (version_lines v ++ map part_pieces parts)) (printed_parts v parts)
parts_again true parts all =
    let lines : List (List Piece) = map part_pieces parts in
    let Parts : Bool × List Line → Type 0 = λ told. AreParts told.0 told.1 (placed_from 2 parts) (lines_from 2 parts) in
    (numbered 1 (version_pieces ∷ lines), printed_lines (version_pieces ∷ lines) (version_printed, are_printed true parts all), subst Parts (sym (told_two lines)) (are_parts true 2 parts all))
parts_again false parts all =
    let lines : List Line = numbered 1 (map part_pieces parts) in
    let Parts : Bool × List Line → Type 0 = λ told. AreParts told.0 told.1 (placed_from 1 parts) (lines_from 1 parts) in
    (lines, printed_lines (map part_pieces parts) (are_printed false parts all), subst Parts (sym (ap (version_of lines) (none_named false 1 parts all))) (are_parts false 1 parts all))
