-- Pieces and declarations that are written one behind another.
use Rattle.std.proofs.Common.{◌≡◌, ℕ, ◌+◌, ◌<◌, ◌^◌, ◌%◌, Bool, true, false, List, [], ◌∷◌, ◌++◌, length, slice_get, get_or, ◌-◌, Option, Some, refl, sym, ap, subst, ◌∙◌, append_assoc, arith}
use Rattle.std.specs.Prelude.{◌&&◌, ◌||◌, map, codes, slice_index_or}
use Rattle.std.specs.Fmt.{decimal}
use Rattle.std.specs.List.{AllByRecursion}
use Rattle.std.proofs.lemmas.Fmt.{decimal_by_steps}
use Rattle.std.proofs.lemmas.List.{append-nil, map-append}
use Rattle.pq_text.specs.Tokens.{is_digit}
use Rattle.pq_text.specs.Printing.{is_small, all_small, is_bare, printed_name}
use Rattle.pq_text.specs.Pieces.{Piece, behind_blank, text_of, lines_text, name_piece, mark_piece, word_piece, number_piece, list_pieces, further_pieces}
use Rattle.pq_text.proofs.PieceLaws.{digit_byte}
use Rattle.std.proofs.lemmas.List.Elements.{All-contains_itself, Contains-append_left, Contains-append_right}
use Rattle.meaning.specs.declared.types.Relation.{Relation}
use Rattle.meaning.specs.declared.types.Method.{Method}
use Rattle.meaning.specs.declared.types.Rule.{Rule}
use Rattle.meaning.specs.declared.types.Sort.{Sort}
use Rattle.meaning.specs.declared.types.Atom.{Atom}
use Rattle.lists.proofs.Members.{got_below, all_from}
use Rattle.pq_text.proofs.Pieces.{text_of-append}
use Rattle.access_schema.specs.declared.part.NamedAtom.{NamedAtom}
use Rattle.access_schema.specs.declared.part.Part.{Part}
use Rattle.access_schema.specs.declared.part.Part.TheVariants.{Method as MethodPart, Rule as RulePart, Constant as ConstantPart}
use Rattle.access_schema.specs.declared.schema.SourceLine.{SourceLine}
use Rattle.access_schema.specs.declared.schema.Schema.{Schema}
use Rattle.tgd_reader.specs.declared.column.Column.{Column}
use Rattle.tgd_reader.specs.Printed.{with_sorts, column_pieces, name_in, columns_in, name_at, variable_name, named_term, named_atom, relation_part, method_part, rule_part, source_part, parts_of, has_integers, version_lines, name_pieces, term_pieces, atom_pieces, listing_pieces, part_pieces, text_of_schema}
use Rattle.tgd_reader.specs.Printing.{Writes, WritesLines, IsPlaced, IsMethodPlaced, IsRulePlaced, IsSourcePlaced}

-- ---- pieces

pub writes_then : (a b c : List ℕ) (xs ys : List Piece) → Writes a b xs → Writes b c ys → Writes a c (xs ++ ys)
writes_then a b c xs ys p q = q ∙ ap (λ (t : List ℕ). t ++ text_of ys) p ∙ append_assoc a (text_of xs) (text_of ys) ∙ ap (λ (t : List ℕ). a ++ t) (sym (text_of-append xs ys))

-- a loop that writes the pieces of its first member and goes on with the others
pub more_pieces : (a b total : List ℕ) (xs ys : List Piece) → Writes a b xs → a ++ text_of (xs ++ ys) ≡ total → b ++ text_of ys ≡ total
more_pieces a b total xs ys w h =
    ap (λ (t : List ℕ). t ++ text_of ys) w ∙ append_assoc a (text_of xs) (text_of ys) ∙ ap (λ (t : List ℕ). a ++ t) (sym (text_of-append xs ys)) ∙ h

-- ---- declarations

pub line_then : (a b c : List ℕ) (part : Part) → Writes a b (part_pieces part) → c ≡ b ++ 10 ∷ [] → WritesLines a c (part ∷ [])
line_then a b c part w e = e ∙ ap (λ (t : List ℕ). t ++ 10 ∷ []) w ∙ append_assoc a (text_of (part_pieces part)) (10 ∷ [])

pub lines_text-append : (xs ys : List (List Piece)) → lines_text (xs ++ ys) ≡ lines_text xs ++ lines_text ys
lines_text-append [] ys = refl
lines_text-append (x ∷ xs) ys = ap (λ (t : List ℕ). text_of x ++ 10 ∷ t) (lines_text-append xs ys) ∙ sym (append_assoc (text_of x) (10 ∷ lines_text xs) (lines_text ys))

pub lines_then : (a b c : List ℕ) (ps qs : List Part) → WritesLines a b ps → WritesLines b c qs → WritesLines a c (ps ++ qs)
lines_then a b c ps qs p q =
    let both : lines_text (map part_pieces (ps ++ qs)) ≡ lines_text (map part_pieces ps) ++ lines_text (map part_pieces qs) =
    ap lines_text (map-append part_pieces ps qs) ∙ lines_text-append (map part_pieces ps) (map part_pieces qs) in
    q ∙ ap (λ (t : List ℕ). t ++ lines_text (map part_pieces qs)) p ∙ append_assoc a (lines_text (map part_pieces ps)) (lines_text (map part_pieces qs)) ∙ ap (λ (t : List ℕ). a ++ t) (sym both)

-- where the loop ends, all is written
pub all_lines : (a b : List ℕ) (ps left : List Part) → length left < 1 → b ++ lines_text (map part_pieces left) ≡ a ++ lines_text (map part_pieces ps) → WritesLines a b ps
all_lines a b ps [] none h = sym (append-nil b) ∙ h
all_lines a b ps (p ∷ left) none h = absurd (omega arith)

-- ---- variables

small_digit : (x d : Bool) → d ≡ true → (x || d) ≡ true
small_digit true d e = refl
small_digit false d e = e

small_push : (ds : List ℕ) (b : ℕ) → all_small ds ≡ true → is_digit b ≡ true → all_small (ds ++ b ∷ []) ≡ true
small_push [] b all digit = rw (small_digit (is_small b) (is_digit b) digit) refl
small_push (d ∷ ds) b all digit = small_cons (is_small d || is_digit d) (all_small ds) (all_small (ds ++ b ∷ [])) all (λ rest. small_push ds b rest digit) where
  small_cons : (x y z : Bool) → (x && y) ≡ true → (y ≡ true → z ≡ true) → (x && z) ≡ true
  small_cons true y z e go = go e
  small_cons false y z e go = absurd cc

small_decimal : (n : ℕ) → n < 2 ^ 64 → all_small (decimal n) ≡ true
small_decimal n fits = decimal_by_steps (λ m ds. all_small ds ≡ true) (λ m low. small_push [] (48 + m) refl (digit_byte m low)) (λ m ds high all. small_push ds (48 + m % 10) all (digit_byte (m % 10) (omega arith))) n fits

pub variable_is_bare : (n : ℕ) → n < 2 ^ 64 → is_bare (variable_name n) ≡ true
variable_is_bare n fits = small_decimal n fits

printed-variable : (n : ℕ) → n < 2 ^ 64 → printed_name (variable_name n) ≡ variable_name n
printed-variable n fits = rw (variable_is_bare n fits) refl

variable_case : (old a b c : List ℕ) (spaced : Bool) (name digits : List ℕ) → name ≡ 120 ∷ digits → a ≡ old ++ behind_blank spaced [] → b ≡ a ++ 120 ∷ [] → c ≡ b ++ digits → c ≡ old ++ behind_blank spaced (name ++ [])
variable_case old a b c true name digits is p q r =
    r ∙ ap (λ (t : List ℕ). t ++ digits) (q ∙ ap (λ (t : List ℕ). t ++ 120 ∷ []) p) ∙ append_assoc (old ++ 32 ∷ []) (120 ∷ []) digits ∙ append_assoc old (32 ∷ []) (120 ∷ digits) ∙ ap (λ (t : List ℕ). old ++ 32 ∷ t) (sym (append-nil name ∙ is))
variable_case old a b c false name digits is p q r =
    r ∙ ap (λ (t : List ℕ). t ++ digits) (q ∙ ap (λ (t : List ℕ). t ++ 120 ∷ []) (p ∙ append-nil old)) ∙ append_assoc old (120 ∷ []) digits ∙ ap (λ (t : List ℕ). old ++ t) (sym (append-nil name ∙ is))

pub variable_written : (old a b c : List ℕ) (spaced : Bool) (n : ℕ) → n < 2 ^ 64 → a ≡ old ++ behind_blank spaced [] → b ≡ a ++ 120 ∷ [] → c ≡ b ++ decimal n → Writes old c (name_piece spaced (variable_name n) ∷ [])
variable_written old a b c spaced n fits p q r = variable_case old a b c spaced (printed_name (variable_name n)) (decimal n) (printed-variable n fits) p q r

-- ---- lists of members

pub further_written : {X : Type 0} (item : Bool → X → List Piece) (x : X) (xs : List X) (a b c total : List ℕ) → Writes a b (mark_piece false (codes ",") ∷ []) → Writes b c (item true x) → a ++ text_of (further_pieces item (x ∷ xs)) ≡ total → c ++ text_of (further_pieces item xs) ≡ total
further_written item x xs a b c total p q h = more_pieces a c total (mark_piece false (codes ",") ∷ item true x) (further_pieces item xs) (writes_then a b c (mark_piece false (codes ",") ∷ []) (item true x) p q) h

-- columns, of which some are without a sort
pub no_columns : (columns : List (List ℕ)) (sorts : List Sort) → length columns < 1 → with_sorts columns sorts ≡ []
no_columns [] sorts few = refl
no_columns (name ∷ names) sorts few = absurd (omega arith)

pub no_sorts : (columns : List (List ℕ)) (sorts : List Sort) → length sorts < 1 → with_sorts columns sorts ≡ []
no_sorts [] sorts few = refl
no_sorts (name ∷ names) [] few = refl
no_sorts (name ∷ names) (sort ∷ sorts) few = absurd (omega arith)

pub nothing_written : (a : List ℕ) (columns : List (List ℕ)) (sorts : List Sort) → with_sorts columns sorts ≡ [] → Writes a a (list_pieces column_pieces false (with_sorts columns sorts))
nothing_written a columns sorts none = sym (append-nil a) ∙ ap (λ (cs : List Column). a ++ text_of (list_pieces column_pieces false cs)) (sym none)

-- where the loop ends, all is written
pub all_columns : (a b : List ℕ) (all left : List Column) → left ≡ [] → b ++ text_of (further_pieces column_pieces left) ≡ a ++ text_of (further_pieces column_pieces all) → Writes a b (further_pieces column_pieces all)
all_columns a b all left none h = sym (append-nil b) ∙ ap (λ (cs : List Column). b ++ text_of (further_pieces column_pieces cs)) (sym none) ∙ h

-- a name, and members in brackets
pub brackets_written : {X : Type 0} (item : Bool → X → List Piece) (name : List ℕ) (xs : List X) (a b c d e : List ℕ) → Writes a b (name_piece true name ∷ []) → Writes b c (mark_piece false (codes "(") ∷ []) →
    Writes c d (list_pieces item false xs) → Writes d e (mark_piece false (codes ")") ∷ []) → Writes a e (name_piece true name ∷ mark_piece false (codes "(") ∷ (list_pieces item false xs ++ mark_piece false (codes ")") ∷ []))
brackets_written item name xs a b c d e p q r s =
    let closing : List Piece = mark_piece false (codes ")") ∷ [] in
    let inside : List Piece = list_pieces item false xs ++ closing in
    writes_then a b e (name_piece true name ∷ []) (mark_piece false (codes "(") ∷ inside) p (writes_then b c e (mark_piece false (codes "(") ∷ []) inside q (writes_then c d e (list_pieces item false xs) closing r s))

pub listing_written : (a b c d e : List ℕ) (relation : List ℕ) (columns : List (List ℕ)) → Writes a b (name_piece true relation ∷ []) → Writes b c (mark_piece false (codes "(") ∷ []) → Writes c d (list_pieces name_pieces false columns) → Writes d e (mark_piece false (codes ")") ∷ []) →
    Writes a e (listing_pieces relation columns)
unfolding listing_pieces
listing_written a b c d e relation columns p q r s = brackets_written name_pieces relation columns a b c d e p q r s

pub atom_written : (relations : List Relation) (atom : Atom) (relation : Relation) (spaced : Bool) (a b c d e : List ℕ) → slice_get relations atom.rel ≡ Some relation → Writes a b (name_piece spaced relation.name ∷ []) → Writes b c (mark_piece false (codes "(") ∷ []) →
    Writes c d (list_pieces term_pieces false (map named_term atom.terms)) → Writes d e (mark_piece false (codes ")") ∷ []) → Writes a e (atom_pieces spaced (named_atom relations atom))
unfolding atom_pieces
atom_written relations atom relation spaced a b c d e is p q r s =
    let closing : List Piece = mark_piece false (codes ")") ∷ [] in
    let inside : List Piece = list_pieces term_pieces false (map named_term atom.terms) ++ closing in
    let named : relation.name ≡ name_at relations atom.rel = sym (ap name_in is) in
    let first : Writes a b (name_piece spaced (name_at relations atom.rel) ∷ []) = subst (λ (n : List ℕ). Writes a b (name_piece spaced n ∷ [])) named p in
    writes_then a b e (name_piece spaced (name_at relations atom.rel) ∷ []) (mark_piece false (codes "(") ∷ inside) first (writes_then b c e (mark_piece false (codes "(") ∷ []) inside q (writes_then c d e (list_pieces term_pieces false (map named_term atom.terms)) closing r s))

-- ---- declarations of each kind

pub rule_written : (line : ℕ) (body head : List NamedAtom) (a b c d e f : List ℕ) → Writes a b (word_piece false (codes "rule") ∷ []) → Writes b c (list_pieces atom_pieces true body) → Writes c d (mark_piece true (codes "->") ∷ []) →
    Writes d e (list_pieces atom_pieces true head) → f ≡ e ++ 10 ∷ [] → WritesLines a f (RulePart line body head ∷ [])
rule_written line body head a b c d e f p q r s t =
    let arrow : List Piece = mark_piece true (codes "->") ∷ list_pieces atom_pieces true head in
    line_then a e f (RulePart line body head)
    (writes_then a b e (word_piece false (codes "rule") ∷ []) (list_pieces atom_pieces true body ++ arrow) p
    (writes_then b c e (list_pieces atom_pieces true body) arrow q (writes_then c d e (mark_piece true (codes "->") ∷ []) (list_pieces atom_pieces true head) r s))) t

method_part_is : (relations : List Relation) (method : Method) (relation : Relation) (inputs : List (List ℕ)) → slice_get relations method.rel ≡ Some relation → inputs ≡ map (λ place. slice_index_or relation.columns place []) method.inputs →
    MethodPart method.name relation.name inputs method.cost ≡ method_part relations method
method_part_is relations method relation inputs is are =
    ap (λ (xs : List (List ℕ)). MethodPart method.name relation.name xs method.cost) are
    ∙ ap (λ (o : Option Relation). MethodPart method.name (name_in o) (map (λ place. slice_index_or (columns_in o) place []) method.inputs) method.cost) (sym is)

pub method_written : (relations : List Relation) (method : Method) (relation : Relation) (inputs : List (List ℕ)) (a b c d e f g h : List ℕ) → slice_get relations method.rel ≡ Some relation → inputs ≡ map (λ place. slice_index_or relation.columns place []) method.inputs →
    Writes a b (word_piece false (codes "method") ∷ []) → Writes b c (name_piece true method.name ∷ []) → Writes c d (word_piece true (codes "on") ∷ []) → Writes d e (listing_pieces relation.name inputs) →
    Writes e f (word_piece true (codes "cost") ∷ []) → Writes f g (number_piece true method.cost ∷ []) → h ≡ g ++ 10 ∷ [] → WritesLines a h (method_part relations method ∷ [])
method_written relations method relation inputs a b c d e f g h is are p q r s t u v =
    let price : List Piece = word_piece true (codes "cost") ∷ number_piece true method.cost ∷ [] in
    let listed : List Piece = listing_pieces relation.name inputs ++ price in
    let all : WritesLines a h (MethodPart method.name relation.name inputs method.cost ∷ []) =
    line_then a g h (MethodPart method.name relation.name inputs method.cost)
    (writes_then a b g (word_piece false (codes "method") ∷ []) (name_piece true method.name ∷ word_piece true (codes "on") ∷ listed) p
    (writes_then b c g (name_piece true method.name ∷ []) (word_piece true (codes "on") ∷ listed) q
    (writes_then c d g (word_piece true (codes "on") ∷ []) listed r
    (writes_then d e g (listing_pieces relation.name inputs) price s
    (writes_then e f g (word_piece true (codes "cost") ∷ []) (number_piece true method.cost ∷ []) t u))))) v in
    subst (λ (part : Part). WritesLines a h (part ∷ [])) (method_part_is relations method relation inputs is are) all

-- ---- a schema

relation_there : (relations : List Relation) (number : ℕ) → number < length relations → (relation : Relation) × (slice_get relations number ≡ Some relation)
relation_there relations number lt = got_below relations number lt

pub methods_placed : (schema : Schema) → AllByRecursion (IsMethodPlaced schema.relations) schema.methods
methods_placed schema = all_from (IsMethodPlaced schema.relations) schema.methods (λ method there.
    let placed = schema.valid.methods_are.placed method there in
    let (relation, at) = relation_there schema.relations method.rel placed in
    let columns : relation.columns ≡ columns_in (slice_get schema.relations method.rel) = sym (ap columns_in at) in
    (placed, λ k d lt. subst (λ (cs : List (List ℕ)). get_or method.inputs k d < length cs) columns (schema.valid.methods_are.inputs method relation (get_or method.inputs k d) there at (All-contains_itself method.inputs k d lt))))

pub rules_placed : (schema : Schema) → AllByRecursion (IsRulePlaced schema.relations) schema.rules
rules_placed schema = all_from (IsRulePlaced schema.relations) schema.rules (λ rule there.
    let fits = schema.valid.rules_are.fit rule there in (
      all_from (IsPlaced schema.relations) rule.body (λ atom among. (fits.atoms atom (Contains-append_left rule.body rule.head atom among)).placed),
      all_from (IsPlaced schema.relations) rule.head (λ atom among. (fits.atoms atom (Contains-append_right rule.body rule.head atom among)).placed),
    ))

pub sources_placed : (schema : Schema) → AllByRecursion (IsSourcePlaced schema.relations) schema.sources
sources_placed schema = all_from (IsSourcePlaced schema.relations) schema.sources (λ source there. schema.valid.sources_are.placed source there)

pub schema_written : (schema : Schema) (relations : List Relation) (methods : List Method) (rules : List Rule) (constants : List (List ℕ)) (sources : List SourceLine) (v : Bool) (z o a b c d e : List ℕ) →
    relations ≡ schema.relations → methods ≡ schema.methods → rules ≡ schema.rules → constants ≡ schema.constants → sources ≡ schema.sources → v ≡ has_integers relations → z ≡ [] →
    o ≡ z ++ lines_text (version_lines v) → WritesLines o a (map relation_part relations) → WritesLines a b (map (method_part relations) methods) → WritesLines b c (map (rule_part relations) rules) →
    WritesLines c d (map ConstantPart constants) → WritesLines d e (map (source_part relations) sources) → e ≡ text_of_schema schema
schema_written schema relations methods rules constants sources v z o a b c d e er em eu ek es ev ez n p q r s t =
    let rs : List Relation = schema.relations in
    let named : List (List Piece) = version_lines (has_integers rs) in
    let first : o ≡ lines_text named =
    n ∙ ap (λ (l : List ℕ). l ++ lines_text (version_lines v)) ez ∙ ap (λ (w : Bool). lines_text (version_lines w)) (ev ∙ ap has_integers er) in
    let p1 : WritesLines o a (map relation_part rs) = subst (λ (x : List Relation). WritesLines o a (map relation_part x)) er p in
    let q1 = subst (λ (x : List Relation). WritesLines a b (map (method_part x) methods)) er q in
    let q2 : WritesLines a b (map (method_part rs) schema.methods) = subst (λ (x : List Method). WritesLines a b (map (method_part rs) x)) em q1 in
    let r1 = subst (λ (x : List Relation). WritesLines b c (map (rule_part x) rules)) er r in
    let r2 : WritesLines b c (map (rule_part rs) schema.rules) = subst (λ (x : List Rule). WritesLines b c (map (rule_part rs) x)) eu r1 in
    let s2 : WritesLines c d (map ConstantPart schema.constants) = subst (λ (x : List (List ℕ)). WritesLines c d (map ConstantPart x)) ek s in
    let t1 = subst (λ (x : List Relation). WritesLines d e (map (source_part x) sources)) er t in
    let t2 : WritesLines d e (map (source_part rs) schema.sources) = subst (λ (x : List SourceLine). WritesLines d e (map (source_part rs) x)) es t1 in
    let last : List Part = map ConstantPart schema.constants ++ map (source_part rs) schema.sources in
    let late : List Part = map (rule_part rs) schema.rules ++ last in
    let all : WritesLines o e (parts_of schema) =
    lines_then o a e (map relation_part rs) (map (method_part rs) schema.methods ++ late) p1
    (lines_then a b e (map (method_part rs) schema.methods) late q2
    (lines_then b c e (map (rule_part rs) schema.rules) last r2 (lines_then c d e (map ConstantPart schema.constants) (map (source_part rs) schema.sources) s2 t2))) in
    let lines : List (List Piece) = map part_pieces (parts_of schema) in
    all ∙ ap (λ (l : List ℕ). l ++ lines_text lines) first ∙ sym (lines_text-append named lines)
