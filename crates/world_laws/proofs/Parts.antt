-- The parts of the schema text of a world: its text is theirs, and none has a fault.
use Rattle.std.proofs.Common.{◌≡◌, ◌+◌, ◌<◌, ◌^◌, ◌%◌, Bool, true, ℕ, false, List, [], ◌∷◌, ◌++◌, refl, sym, ap, ◌∙◌, append_assoc, arith}
use Rattle.std.specs.Prelude.{◌&&◌, ◌||◌, codes, map, nat_eq, flat_map}
use Rattle.std.specs.Fmt.{decimal}
use Rattle.std.specs.List.{range_with_len, AllByRecursion}
use Rattle.std.proofs.lemmas.Bool.{le-leb, ne_eqb}
use Rattle.std.proofs.lemmas.Fmt.{decimal_by_steps, decimal_digit}
use Rattle.std.proofs.lemmas.List.{append-nil}
use Rattle.pq_text.specs.Printing.{doubled, is_small, all_small}
use Rattle.pq_text.specs.Pieces.{Piece, text_of, lines_text}
use Rattle.access_schema.specs.declared.part.NamedTerm.TheVariants.{Var}
use Rattle.access_schema.specs.declared.part.NamedAtom.{NamedAtom}
use Rattle.access_schema.specs.declared.part.Part.{Part}
use Rattle.access_schema.specs.declared.part.Part.TheVariants.{Relation as RelationPart, Method as MethodPart, Rule as RulePart, Source as SourcePart}
use Rattle.tgd_reader.specs.Printed.{part_pieces, atom_pieces, listing_pieces}
use Rattle.tgd_reader.proofs.Writing.{lines_text-append}
use Rattle.world_source.specs.Formulas.{locator}
use Rattle.world_source.specs.Texts.{relation_lines, method_lines, rule_lines, source_line, schema_text}
use Rattle.world_laws.specs.World.{relation_name, method_name, columns, sorts}

abbrev pub relation_part : ℕ → Part
relation_part k = RelationPart (relation_name k) columns sorts

abbrev pub method_part : List (List ℕ) → ℕ → Part
method_part inputs k = MethodPart (method_name k) (relation_name k) inputs 1

abbrev pub atom : ℕ → List ℕ → List ℕ → NamedAtom
atom k first second = record { relation = relation_name k; terms = Var first ∷ Var second ∷ [] }

abbrev pub rule_part : ℕ → Part
rule_part k = RulePart (16 + k) (atom k (codes "x") (codes "y") ∷ []) (atom (k + 1) (codes "y") (codes "z") ∷ [])

abbrev pub source_part : ℕ → ℕ → Part
source_part n k = SourcePart (relation_name k) (codes "world") (locator k n)

abbrev pub relation_parts : List Part
relation_parts = map relation_part (range_with_len 1 8)

abbrev pub method_parts : List Part
method_parts = method_part [] 1 ∷ map (method_part (codes "a" ∷ [])) (range_with_len 2 7)

abbrev pub rule_parts : List Part
rule_parts = map rule_part (range_with_len 1 7)

abbrev pub source_parts : ℕ → List Part
source_parts n = map (source_part n) (range_with_len 1 8)

abbrev pub world_parts : ℕ → List Part
world_parts n = relation_parts ++ (method_parts ++ (rule_parts ++ source_parts n))

-- ---- their text

relations_text : lines_text (map part_pieces relation_parts) ≡ relation_lines
unfolding listing_pieces
relations_text = refl

methods_text : lines_text (map part_pieces method_parts) ≡ method_lines
unfolding listing_pieces
methods_text = rw (decimal_digit 1 (omega arith)) refl

rules_text : lines_text (map part_pieces rule_parts) ≡ rule_lines
unfolding atom_pieces
rules_text = refl

digit_apart : (n : ℕ) → nat_eq (48 + n) 39 ≡ false
digit_apart n = ne_eqb (48 + n) 39 (λ e. omega (arith, e))

-- no digit is a quote
digits_doubled : (n : ℕ) → n < 2 ^ 64 → (rest : List ℕ) → doubled 39 (decimal n ++ rest) ≡ decimal n ++ doubled 39 rest
digits_doubled n fits = decimal_by_steps (λ _ ds. (rest : List ℕ) → doubled 39 (ds ++ rest) ≡ ds ++ doubled 39 rest)
    (λ d lt rest. rw (digit_apart d) refl)
    (λ m ds lt of rest.
    let last : List ℕ = (48 + m % 10) ∷ [] in
    let here : doubled 39 (last ++ rest) ≡ last ++ doubled 39 rest = rw (digit_apart (m % 10)) refl in
    ap (doubled 39) (append_assoc ds last rest) ∙ of (last ++ rest) ∙ ap (λ (bs : List ℕ). ds ++ bs) here ∙ sym (append_assoc ds last (doubled 39 rest)))
    n fits

locator_doubled : (n k : ℕ) → n < 2 ^ 64 → k < 10 → doubled 39 (locator k n) ≡ locator k n
locator_doubled n k fits small =
    let all : doubled 39 (decimal n) ≡ decimal n = ap (doubled 39) (sym (append-nil (decimal n))) ∙ digits_doubled n fits [] ∙ append-nil (decimal n) in
    let own : List ℕ = decimal k in
    let slash : List ℕ = codes "/" in
    let apart : locator k n ≡ own ++ (slash ++ decimal n) = append_assoc own slash (decimal n) in
    ap (doubled 39) apart ∙ digits_doubled k (omega (arith, small)) (slash ++ decimal n) ∙ ap (λ (bs : List ℕ). own ++ (slash ++ bs)) all ∙ sym apart

small_or : (b : Bool) → ((b || true) && true) ≡ true
small_or true = refl
small_or false = refl

digit_small : (k : ℕ) → k < 10 → all_small ((48 + k) ∷ []) ≡ true
digit_small k small = rw (le-leb 48 (48 + k) (omega arith), le-leb (48 + k) 57 (omega (arith, small))) (small_or (is_small (48 + k)))

source_text : (n k : ℕ) → n < 2 ^ 64 → k < 10 → text_of (part_pieces (source_part n k)) ++ 10 ∷ [] ≡ source_line n k
source_text n k fits small =
    let size : List ℕ = decimal n in
    let quote : List ℕ = 39 ∷ [] in
    let behind : ((size ++ quote) ++ []) ++ 10 ∷ [] ≡ size ++ 39 ∷ 10 ∷ [] = ap (λ (bs : List ℕ). bs ++ 10 ∷ []) (append-nil (size ++ quote)) ∙ append_assoc size quote (10 ∷ []) in
    rw (digit_small k small, locator_doubled n k fits small, decimal_digit k small) (ap (λ (bs : List ℕ). codes "source c" ++ ((48 + k) ∷ (codes " world '" ++ ((48 + k) ∷ 47 ∷ bs)))) behind)

sources_text : (n : ℕ) (ks : List ℕ) → n < 2 ^ 64 → AllByRecursion (λ k. k < 10) ks → lines_text (map part_pieces (map (source_part n) ks)) ≡ flat_map (source_line n) ks
sources_text n [] fits all = refl
sources_text n (k ∷ ks) fits all =
    let here : List ℕ = text_of (part_pieces (source_part n k)) in
    let rest : List ℕ = lines_text (map part_pieces (map (source_part n) ks)) in
    sym (append_assoc here (10 ∷ []) rest) ∙ ap (λ (bs : List ℕ). bs ++ rest) (source_text n k fits all.0) ∙ ap (λ (bs : List ℕ). source_line n k ++ bs) (sources_text n ks fits all.1)

pub steps_small : AllByRecursion (λ k. k < 10) (range_with_len 1 8)
steps_small = (omega arith, (omega arith, (omega arith, (omega arith, (omega arith, (omega arith, (omega arith, (omega arith, tt))))))))

module _ (a b c d : List (List Piece)) where
  four : lines_text (a ++ (b ++ (c ++ d))) ≡ ((lines_text a ++ lines_text b) ++ lines_text c) ++ lines_text d
  four =
      let A : List ℕ = lines_text a in
      let B : List ℕ = lines_text b in
      let C : List ℕ = lines_text c in
      let D : List ℕ = lines_text d in
      lines_text-append a (b ++ (c ++ d)) ∙ ap (λ (x : List ℕ). A ++ x) (lines_text-append b (c ++ d) ∙ ap (λ (x : List ℕ). B ++ x) (lines_text-append c d))
      ∙ sym (append_assoc A B (C ++ D)) ∙ sym (append_assoc (A ++ B) C D)

pub world_text : (n : ℕ) → n < 2 ^ 64 → lines_text (map part_pieces (world_parts n)) ≡ schema_text n
world_text n fits =
    four (map part_pieces relation_parts) (map part_pieces method_parts) (map part_pieces rule_parts) (map part_pieces (source_parts n))
    ∙ ap (λ (x : List ℕ). ((x ++ lines_text (map part_pieces method_parts)) ++ lines_text (map part_pieces rule_parts)) ++ lines_text (map part_pieces (source_parts n))) relations_text
    ∙ ap (λ (x : List ℕ). ((relation_lines ++ x) ++ lines_text (map part_pieces rule_parts)) ++ lines_text (map part_pieces (source_parts n))) methods_text
    ∙ ap (λ (x : List ℕ). ((relation_lines ++ method_lines) ++ x) ++ lines_text (map part_pieces (source_parts n))) rules_text
    ∙ ap (λ (x : List ℕ). ((relation_lines ++ method_lines) ++ rule_lines) ++ x) (sources_text n (range_with_len 1 8) fits steps_small)
