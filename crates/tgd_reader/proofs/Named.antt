-- Names that were read are not empty.
use Rattle.std.proofs.Common.{◌≢◌, ℕ, Option, List, [], ◌∷◌, ◌++◌, length, ⊎_elim, sym, ap, subst, ◌∙◌, arith}
use Rattle.std.specs.Prelude.{Contains, codes, map, Bool, nat_eq}
use Rattle.meaning.specs.declared.types.Sort.{Sort}
use Rattle.pq_text.specs.declared.lexeme.Lexeme.{Lexeme}
use Rattle.pq_text.specs.declared.lexeme.Line.{Line}
use Rattle.std.proofs.lemmas.List.{length-map}
use Rattle.pq_text.specs.Lexemes.{comma}
use Rattle.pq_text.specs.Forms.{Slot, Key, Mark, Name, Quote, Digits, Takes, further_form, list_form, name_form}
use Rattle.pq_text.proofs.Forms.{Takes-split, name_some}
use Rattle.lists.proofs.Members.{contains_cases}
use Rattle.access_schema.specs.declared.part.Part.{Part}
use Rattle.access_schema.specs.declared.part.Part.TheVariants.{Relation, Method, Source}
use Rattle.access_schema.specs.Faults.{IsNamed, AreNamed, HasSorts, HaveSorts}
use Rattle.tgd_reader.specs.declared.parts.Declared.{Declared}
use Rattle.tgd_reader.specs.declared.column.Column.{Column}
use Rattle.tgd_reader.specs.Reading.{cost_of, name_of, sort_of}
use Rattle.tgd_reader.specs.Version.{told_version}
use Rattle.tgd_reader.specs.Grammar.{sort_form, column_form, relation_form, IsDeclaration, HasPart, AreParts, HasParts}

-- the tokens behind the first
behind : (ls : List Lexeme) (s : Slot) (ss : List Slot) (rest : List Lexeme) → Takes ls (s ∷ ss) rest → (mid : List Lexeme) × Takes mid ss rest
behind [] s ss rest t = absurd t
behind (l ∷ ls) s ss rest t = (ls, t.1)

-- the tokens behind the word of a sort
behind_sort : (word : Option Sort) (ls : List Lexeme) (ss : List Slot) (rest : List Lexeme) → Takes ls (sort_form word ++ ss) rest → (mid : List Lexeme) × Takes mid ss rest
behind_sort word ls ss rest t = let s = Takes-split ls (sort_form word) ss rest t in (s.0, s.2)

further_named : (xs : List Column) (ls rest : List Lexeme) → Takes ls (further_form column_form xs) rest → (x : List ℕ) → Contains (map name_of xs) x → x ≢ []
further_named [] ls rest t x there none = absurd (omega arith)
further_named (y ∷ xs) ls rest t x there none =
    let after : List Slot = sort_form y.word ++ further_form column_form xs in
    let m = behind ls (Mark comma) (Name y.name ∷ after) rest t in
    let n = behind m.0 (Name y.name) after rest m.1 in
    let w = behind_sort y.word n.0 (further_form column_form xs) rest n.1 in
    ⊎_elim (λ same. name_some m.0 y.name after rest m.1 (same ∙ none)) (λ later. further_named xs w.0 rest w.1 x later none) (contains_cases y.name (map name_of xs) x there)

list_named : (xs : List Column) (ls rest : List Lexeme) → Takes ls (list_form column_form xs) rest → (x : List ℕ) → Contains (map name_of xs) x → x ≢ []
list_named [] ls rest t x there none = absurd (omega arith)
list_named (y ∷ xs) ls rest t x there none =
    let after : List Slot = sort_form y.word ++ further_form column_form xs in
    let n = behind ls (Name y.name) after rest t in
    let w = behind_sort y.word n.0 (further_form column_form xs) rest n.1 in
    ⊎_elim (λ same. name_some ls y.name after rest t (same ∙ none)) (λ later. further_named xs w.0 rest w.1 x later none) (contains_cases y.name (map name_of xs) x there)

relation_named : (name : List ℕ) (written : List Column) (ls rest : List Lexeme) → Takes ls (relation_form name written) rest → (name ≢ []) × ((x : List ℕ) → Contains (map name_of written) x → x ≢ [])
relation_named name written ls rest t =
    let inside : List Slot = list_form column_form written ++ Mark (codes ")") ∷ [] in
    let k = behind ls (Key (codes "relation")) (Name name ∷ Mark (codes "(") ∷ inside) rest t in
    let m = behind k.0 (Name name) (Mark (codes "(") ∷ inside) rest k.1 in
    let n = behind m.0 (Mark (codes "(")) inside rest m.1 in
    let s = Takes-split n.0 (list_form column_form written) (Mark (codes ")") ∷ []) rest n.1 in
    (name_some k.0 name (Mark (codes "(") ∷ inside) rest k.1, list_named written n.0 s.0 s.1)

part_named : (v : Bool) (number : ℕ) (ls : List Lexeme) (part : Part) → IsDeclaration v number ls part → IsNamed part
part_named v number ls (Relation name columns sorts) d =
    let named = relation_named name d.0 ls [] d.5 in
    (named.0, λ column there. named.1 column (subst (λ (cs : List (List ℕ)). Contains cs column) d.3 there))
part_named v number ls (Method name relation inputs cost) d =
    let digits : List ℕ → Bool = λ digits. nat_eq (cost_of digits) cost in
    let after : List Slot = Key (codes "on") ∷ Name relation ∷ Mark (codes "(") ∷ (list_form name_form inputs ++ Mark (codes ")") ∷ Key (codes "cost") ∷ Digits digits ∷ []) in
    let m = behind ls (Key (codes "method")) (Name name ∷ after) [] d in
    name_some m.0 name after [] m.1
part_named v number ls (Source relation kind locator) d =
    let m = behind ls (Key (codes "source")) (Name relation ∷ Name kind ∷ Quote locator ∷ []) [] d in
    let n = behind m.0 (Name relation) (Name kind ∷ Quote locator ∷ []) [] m.1 in
    name_some n.0 kind (Quote locator ∷ []) [] n.1
part_named v number ls _ d = tt

part_sorted : (v : Bool) (number : ℕ) (ls : List Lexeme) (part : Part) → IsDeclaration v number ls part → HasSorts part
part_sorted v number ls (Relation name columns sorts) d = ap length d.4 ∙ length-map d.0 sort_of ∙ sym (length-map d.0 name_of) ∙ sym (ap length d.3)
part_sorted v number ls _ d = tt

-- what holds of each declaration holds of each part of some lines
module _ (v : Bool) (P : Part → Type 0) (each : (number : ℕ) (ls : List Lexeme) (part : Part) → IsDeclaration v number ls part → P part) where
  of_line : (Q : List Part → List ℕ → Type 0) → ((ps : List Part) (ns : List ℕ) → Q ps ns → (part : Part) → Contains ps part → P part) →
      (number : ℕ) (tokens : List Lexeme) (parts : List Part) (numbers : List ℕ) → HasPart v number tokens parts numbers Q → (part : Part) → Contains parts part → P part
  of_line Q go number [] parts numbers h part there = go parts numbers h part there
  of_line Q go number (t ∷ ts) [] numbers h part there = absurd h
  of_line Q go number (t ∷ ts) (p ∷ ps) [] h part there = absurd h
  of_line Q go number (t ∷ ts) (p ∷ ps) (n ∷ ns) h part there =
      ⊎_elim (λ same. subst P same (each number (t ∷ ts) p h.0)) (λ later. go ps ns h.2 part later) (contains_cases p ps part there)

  pub of_lines : (lines : List Line) (parts : List Part) (numbers : List ℕ) → AreParts v lines parts numbers → (part : Part) → Contains parts part → P part
  of_lines [] parts numbers h part there = absurd (let none : Contains [] part = subst (λ (ps : List Part). Contains ps part) h.0 there in omega arith)
  of_lines (line ∷ lines) parts numbers h part there = of_line (AreParts v lines) (of_lines lines) line.number line.tokens parts numbers h part there

-- no name in the parts of a text is empty
pub declared_named : (text : List ℕ) (declared : Declared) → HasParts text declared → AreNamed declared.parts
declared_named text declared has =
    let v = (told_version has.0).0 in
    of_lines v IsNamed (part_named v) (told_version has.0).1 declared.parts declared.lines has.2

-- each relation in the parts of a text has a sort for each of its columns
pub declared_sorted : (text : List ℕ) (declared : Declared) → HasParts text declared → HaveSorts declared.parts
declared_sorted text declared has =
    let v = (told_version has.0).0 in
    of_lines v HasSorts (part_sorted v) (told_version has.0).1 declared.parts declared.lines has.2
