-- A line is read as a declaration exactly where the grammar relates the two.
use Rattle.std.proofs.Common.{◌≡◌, ℕ, Bool, true, false, cond, List, [], ◌∷◌, ◌++◌, Option, None, Some, refl, sym, ap, subst, ◌∙◌, append_assoc}
use Rattle.std.specs.Prelude.{codes, map, nat_eq}
use Rattle.std.specs.List.{AllByRecursion}
use Rattle.std.proofs.lemmas.Bool.{eqb-true, eq-eqb}
use Rattle.lists.proofs.Booleans.{first_true}
use Rattle.lists.proofs.Members.{some_injective}
use Rattle.pq_text.specs.declared.token.TokenKind.{TokenKind}
use Rattle.pq_text.specs.declared.token.TokenKind.TheVariants.{Word, Quoted}
use Rattle.pq_text.specs.declared.lexeme.Lexeme.{Lexeme}
use Rattle.pq_text.specs.Lexemes.{◌>>=◌, comma, kind_names, kind_is_symbol, symbol_at, word_at, name_at, value_at, text_at, number_at, names_at, end_at, word_next}
use Rattle.pq_text.specs.Forms.{Slot, Key, Mark, Name, Value, Quote, Digits, Takes, list_form, further_form, name_form, IsSome}
use Rattle.pq_text.proofs.Forms.{bind_some, Takes-append, Takes-split, symbol_found, symbol_again, word_found, word_again, name_found, name_again, value_found, value_again, text_found, text_again, number_found, number_again, names_found, names_again, other_symbol, other_word, this_word, end_is}
use Rattle.meaning.specs.declared.types.Sort.{Sort}
use Rattle.access_schema.specs.declared.part.NamedAtom.{NamedAtom}
use Rattle.access_schema.specs.declared.part.Part.{Part}
use Rattle.access_schema.specs.declared.part.Part.TheVariants.{Relation, Method, Rule, ForeignKey, Constant, Source}
use Rattle.tgd_reader.specs.declared.column.Column.{Column}
use Rattle.tgd_reader.specs.declared.listed.Listing.{Listing}
use Rattle.tgd_reader.specs.Reading.{listing_at, atoms_at, inputs_at, inputs_or, name_of, sort_of, columns_at, cost_of, cost_at, relation_at, method_at, rule_at, foreign_key_at, constant_at, source_at, part_at, declaration_at}
use Rattle.tgd_reader.specs.Grammar.{atom_form, column_form, IsColumn, listing_form, relation_form, method_form, rule_form, foreign_key_form, constant_form, source_form, IsAtom, Declares, IsDeclaration}
use Rattle.tgd_reader.proofs.Columns.{columns_found, columns_again, no_sort}
use Rattle.tgd_reader.proofs.ReadLists.{atoms_found, atoms_again, listing_found, listing_again}

-- ---- relations

-- the columns and what stands round them, behind the name
abbrev columns_tail : Bool → List ℕ → List Lexeme → Option (Part × List Lexeme)
columns_tail v name ls = symbol_at (codes "(") ls >>= λ i. columns_at v i >>= λ c. symbol_at (codes ")") c.1 >>= λ q. Some (Relation name (map name_of c.0) (map sort_of c.0), q)

abbrev columns_form : List Column → List Slot
columns_form written = Mark (codes "(") ∷ (list_form column_form written ++ Mark (codes ")") ∷ [])

tail_found : (v : Bool) (name : List ℕ) (ls : List Lexeme) (part : Part) (rest : List Lexeme) → columns_tail v name ls ≡ Some (part, rest) →
    (written : List Column) × (Relation name (map name_of written) (map sort_of written) ≡ part) × IsSome written × AllByRecursion (IsColumn v) written × Takes ls (columns_form written) rest
tail_found v name ls part rest e =
    let i = bind_some (symbol_at (codes "(") ls) (λ (i : List Lexeme). columns_at v i >>= λ c. symbol_at (codes ")") c.1 >>= λ q. Some (Relation name (map name_of c.0) (map sort_of c.0), q)) (part, rest) e in
    let c = bind_some (columns_at v i.0) (λ (c : List Column × List Lexeme). symbol_at (codes ")") c.1 >>= λ q. Some (Relation name (map name_of c.0) (map sort_of c.0), q)) (part, rest) i.2 in
    let q = bind_some (symbol_at (codes ")") c.0.1) (λ (q : List Lexeme). Some (Relation name (map name_of c.0.0) (map sort_of c.0.0), q)) (part, rest) c.2 in
    let made : Part × List Lexeme = (Relation name (map name_of c.0.0) (map sort_of c.0.0), q.0) in
    let same = some_injective made (part, rest) q.2 in
    let f = columns_found v i.0 c.0.0 c.0.1 c.1 in
    let inner = Takes-append i.0 (list_form column_form c.0.0) (Mark (codes ")") ∷ []) c.0.1 q.0 f.2 (symbol_found (codes ")") c.0.1 q.0 q.1) in
    let whole : Takes ls (columns_form c.0.0) q.0 = Takes-append ls (Mark (codes "(") ∷ []) (list_form column_form c.0.0 ++ Mark (codes ")") ∷ []) i.0 q.0 (symbol_found (codes "(") ls i.0 i.1) inner in
    (c.0.0, ap (λ (p : Part × List Lexeme). p.0) same, f.0, f.1, subst (λ (r : List Lexeme). Takes ls (columns_form c.0.0) r) (ap (λ (p : Part × List Lexeme). p.1) same) whole)

relation_found : (v : Bool) (number : ℕ) (ls : List Lexeme) (part : Part) (rest : List Lexeme) → relation_at v ls ≡ Some (part, rest) → Declares v number ls part rest
unfolding relation_at
relation_found v number ls part rest e =
    let a = bind_some (word_at (codes "relation") ls) (λ (w : List Lexeme). name_at w >>= λ n. columns_tail v n.0 n.1) (part, rest) e in
    let n = bind_some (name_at a.0) (λ (n : List ℕ × List Lexeme). columns_tail v n.0 n.1) (part, rest) a.2 in
    let c = tail_found v n.0.0 n.0.1 part rest n.2 in
    let named = Takes-append a.0 (Name n.0.0 ∷ []) (columns_form c.0) n.0.1 rest (name_found a.0 n.0.0 n.0.1 n.1) c.4 in
    let whole : Takes ls (relation_form n.0.0 c.0) rest = Takes-append ls (Key (codes "relation") ∷ []) (Name n.0.0 ∷ columns_form c.0) a.0 rest (word_found (codes "relation") ls a.0 a.1) named in
    subst (λ (y : Part). Declares v number ls y rest) c.1 (c.0, c.2, c.3, refl, refl, whole)

relation_again : (v : Bool) (ls : List Lexeme) (name : List ℕ) (written : List Column) (rest : List Lexeme) → IsSome written → AllByRecursion (IsColumn v) written → Takes ls (relation_form name written) rest →
    relation_at v ls ≡ Some (Relation name (map name_of written) (map sort_of written), rest)
unfolding relation_at
relation_again v ls name written rest some all t =
    let inside : List Slot = list_form column_form written ++ Mark (codes ")") ∷ [] in
    let k = word_again (codes "relation") ls (Name name ∷ columns_form written) rest t in
    let n = name_again k.0 name (columns_form written) rest k.2 in
    let i = symbol_again (codes "(") n.0 inside rest n.2 in
    let s = Takes-split i.0 (list_form column_form written) (Mark (codes ")") ∷ []) rest i.2 in
    let c = columns_again v i.0 written s.0 some all (other_symbol (codes ")") comma s.0 [] rest refl s.2) (no_sort (codes ")") s.0 [] rest s.2) s.1 in
    let q = symbol_again (codes ")") s.0 [] rest s.2 in
    rw (k.1, n.1, i.1, c, q.1, q.2) refl

-- ---- rules

rule_found : (v : Bool) (number : ℕ) (ls : List Lexeme) (part : Part) (rest : List Lexeme) → rule_at number ls ≡ Some (part, rest) → Declares v number ls part rest
unfolding rule_at
rule_found v number ls part rest e =
    let a = bind_some (word_at (codes "rule") ls) (λ (w : List Lexeme). atoms_at w >>= λ b. symbol_at (codes "->") b.1 >>= λ i. atoms_at i >>= λ h. Some (Rule number b.0 h.0, h.1)) (part, rest) e in
    let b = bind_some (atoms_at a.0) (λ (b : List NamedAtom × List Lexeme). symbol_at (codes "->") b.1 >>= λ i. atoms_at i >>= λ h. Some (Rule number b.0 h.0, h.1)) (part, rest) a.2 in
    let i = bind_some (symbol_at (codes "->") b.0.1) (λ (i : List Lexeme). atoms_at i >>= λ h. Some (Rule number b.0.0 h.0, h.1)) (part, rest) b.2 in
    let h = bind_some (atoms_at i.0) (λ (h : List NamedAtom × List Lexeme). Some (Rule number b.0.0 h.0, h.1)) (part, rest) i.2 in
    let body = atoms_found a.0 b.0.0 b.0.1 b.1 in
    let head = atoms_found i.0 h.0.0 h.0.1 h.1 in
    let behind = Takes-append b.0.1 (Mark (codes "->") ∷ []) (list_form atom_form h.0.0) i.0 h.0.1 (symbol_found (codes "->") b.0.1 i.0 i.1) head.2 in
    let inner = Takes-append a.0 (list_form atom_form b.0.0) (Mark (codes "->") ∷ list_form atom_form h.0.0) b.0.1 h.0.1 body.2 behind in
    let whole = Takes-append ls (Key (codes "rule") ∷ []) (list_form atom_form b.0.0 ++ Mark (codes "->") ∷ list_form atom_form h.0.0) a.0 h.0.1 (word_found (codes "rule") ls a.0 a.1) inner in
    let made : Part × List Lexeme = (Rule number b.0.0 h.0.0, h.0.1) in
    subst (λ (y : Part × List Lexeme). Declares v number ls y.0 y.1) (some_injective made (part, rest) h.2) (body.0, body.1, head.0, head.1, refl, whole)

rule_again : (number : ℕ) (ls : List Lexeme) (body head : List NamedAtom) → IsSome body → AllByRecursion IsAtom body → IsSome head → AllByRecursion IsAtom head → Takes ls (rule_form body head) [] → rule_at number ls ≡ Some (Rule number body head, [])
unfolding rule_at
rule_again number ls body head w v w' v' t =
    let k = word_again (codes "rule") ls (list_form atom_form body ++ Mark (codes "->") ∷ list_form atom_form head) [] t in
    let s = Takes-split k.0 (list_form atom_form body) (Mark (codes "->") ∷ list_form atom_form head) [] k.2 in
    let b = atoms_again k.0 body s.0 w v (other_symbol (codes "->") comma s.0 (list_form atom_form head) [] refl s.2) s.1 in
    let i = symbol_again (codes "->") s.0 (list_form atom_form head) [] s.2 in
    let h = atoms_again i.0 head [] w' v' refl i.2 in
    rw (k.1, b, i.1, h) refl

-- ---- methods

name_is_no_symbol : (k : TokenKind) → kind_names k ≡ true → kind_is_symbol k ≡ false
name_is_no_symbol Word e = refl
name_is_no_symbol Quoted e = refl
name_is_no_symbol _ e = absurd cc

inputs_cases : (ls : List Lexeme) (o : Option (List Lexeme)) (xs : List (List ℕ)) (rest : List Lexeme) → symbol_at (codes ")") ls ≡ o → inputs_or ls o ≡ Some (xs, rest) → Takes ls (list_form name_form xs ++ Mark (codes ")") ∷ []) rest
inputs_cases ls (Some after) xs rest next e =
    let none : List (List ℕ) × List Lexeme = ([], after) in
    subst (λ (y : List (List ℕ) × List Lexeme). Takes ls (list_form name_form y.0 ++ Mark (codes ")") ∷ []) y.1) (some_injective none (xs, rest) e) (symbol_found (codes ")") ls after next)
inputs_cases ls None xs rest next e =
    let a = bind_some (names_at ls) (λ (t : List (List ℕ) × List Lexeme). symbol_at (codes ")") t.1 >>= λ q. Some (t.0, q)) (xs, rest) e in
    let d = bind_some (symbol_at (codes ")") a.0.1) (λ (q : List Lexeme). Some (a.0.0, q)) (xs, rest) a.2 in
    let n = names_found ls a.0.0 a.0.1 a.1 in
    let made : List (List ℕ) × List Lexeme = (a.0.0, d.0) in
    subst (λ (y : List (List ℕ) × List Lexeme). Takes ls (list_form name_form y.0 ++ Mark (codes ")") ∷ []) y.1) (some_injective made (xs, rest) d.2)
    (Takes-append ls (list_form name_form a.0.0) (Mark (codes ")") ∷ []) a.0.1 d.0 n.1 (symbol_found (codes ")") a.0.1 d.0 d.1))

-- where a name stands, no symbol does
name_no_symbol : (text n : List ℕ) (ls : List Lexeme) (ss : List Slot) (rest : List Lexeme) → Takes ls (Name n ∷ ss) rest → symbol_at text ls ≡ None
name_no_symbol text n [] ss rest t = absurd t
name_no_symbol text n (l ∷ ls) ss rest t = let k = name_is_no_symbol l.kind (first_true (kind_names l.kind) _ t.0.0) in rw k refl

inputs_again : (ls : List Lexeme) (xs : List (List ℕ)) (ss : List Slot) (rest : List Lexeme) → Takes ls (list_form name_form xs ++ Mark (codes ")") ∷ ss) rest → (mid : List Lexeme) × (inputs_at ls ≡ Some (xs, mid)) × Takes mid ss rest
inputs_again ls [] ss rest t = let d = symbol_again (codes ")") ls ss rest t in (d.0, rw d.1 refl, d.2)
inputs_again ls (x ∷ xs) ss rest t =
    let s = Takes-split ls (list_form name_form (x ∷ xs)) (Mark (codes ")") ∷ ss) rest t in
    let n = names_again ls (x ∷ xs) s.0 tt (other_symbol (codes ")") comma s.0 ss rest refl s.2) s.1 in
    let d = symbol_again (codes ")") s.0 ss rest s.2 in
    let o = name_no_symbol (codes ")") x ls (further_form name_form xs) s.0 s.1 in
    (d.0, rw (o, n, d.1) refl, d.2)

abbrev cost_form : ℕ → List Slot
cost_form cost = Key (codes "cost") ∷ Digits (λ digits. nat_eq (cost_of digits) cost) ∷ []

cost_found : (ls : List Lexeme) (cost : ℕ) (rest : List Lexeme) → cost_at ls ≡ Some (cost, rest) → Takes ls (cost_form cost) rest
unfolding cost_at
cost_found ls cost rest e =
    let c = bind_some (word_at (codes "cost") ls) (λ (c : List Lexeme). number_at c >>= λ d. Some (cost_of d.0, d.1)) (cost, rest) e in
    let d = bind_some (number_at c.0) (λ (d : List ℕ × List Lexeme). Some (cost_of d.0, d.1)) (cost, rest) c.2 in
    let made : ℕ × List Lexeme = (cost_of d.0.0, d.0.1) in
    let same = some_injective made (cost, rest) d.2 in
    let is : cost_of d.0.0 ≡ cost = ap (λ (p : ℕ × List Lexeme). p.0) same in
    let t = number_found c.0 d.0.0 d.0.1 (λ digits. nat_eq (cost_of digits) cost) (eq-eqb (cost_of d.0.0) cost is) d.1 in
    let w = Takes-append ls (Key (codes "cost") ∷ []) (Digits (λ digits. nat_eq (cost_of digits) cost) ∷ []) c.0 d.0.1 (word_found (codes "cost") ls c.0 c.1) t in
    subst (λ (q : List Lexeme). Takes ls (cost_form cost) q) (ap (λ (p : ℕ × List Lexeme). p.1) same) w

cost_again : (ls : List Lexeme) (cost : ℕ) (rest : List Lexeme) → Takes ls (cost_form cost) rest → cost_at ls ≡ Some (cost, rest)
unfolding cost_at
cost_again ls cost rest t =
    let c = word_again (codes "cost") ls (Digits (λ digits. nat_eq (cost_of digits) cost) ∷ []) rest t in
    let d = number_again c.0 (λ digits. nat_eq (cost_of digits) cost) [] rest c.2 in
    let e : cost_of d.0 ≡ cost = eqb-true (cost_of d.0) cost d.3 in
    rw (c.1, d.2, e, d.4) refl

-- A long reader is cut into tails, each with a lemma, so that what was found before is a variable there.
abbrev inputs_tail : List ℕ → List ℕ → List Lexeme → Option (Part × List Lexeme)
inputs_tail n r ls = symbol_at (codes "(") ls >>= λ i. inputs_at i >>= λ t. cost_at t.1 >>= λ c. Some (Method n r t.0 c.0, c.1)

abbrev inputs_form : List (List ℕ) → ℕ → List Slot
inputs_form xs cost = Mark (codes "(") ∷ (list_form name_form xs ++ Mark (codes ")") ∷ cost_form cost)

join_inputs : (ls : List Lexeme) (xs : List (List ℕ)) (cost : ℕ) (mid rest : List Lexeme) → Takes ls (list_form name_form xs ++ Mark (codes ")") ∷ []) mid → Takes mid (cost_form cost) rest → Takes ls (list_form name_form xs ++ Mark (codes ")") ∷ cost_form cost) rest
join_inputs ls xs cost mid rest t u =
    subst (λ (ss : List Slot). Takes ls ss rest) (append_assoc (list_form name_form xs) (Mark (codes ")") ∷ []) (cost_form cost)) (Takes-append ls (list_form name_form xs ++ Mark (codes ")") ∷ []) (cost_form cost) mid rest t u)

inputs_found : (n r : List ℕ) (ls : List Lexeme) (part : Part) (rest : List Lexeme) → inputs_tail n r ls ≡ Some (part, rest) → (xs : List (List ℕ)) × (cost : ℕ) × (Method n r xs cost ≡ part) × Takes ls (inputs_form xs cost) rest
inputs_found n r ls part rest e =
    let i = bind_some (symbol_at (codes "(") ls) (λ (i : List Lexeme). inputs_at i >>= λ t. cost_at t.1 >>= λ c. Some (Method n r t.0 c.0, c.1)) (part, rest) e in
    let t = bind_some (inputs_at i.0) (λ (t : List (List ℕ) × List Lexeme). cost_at t.1 >>= λ c. Some (Method n r t.0 c.0, c.1)) (part, rest) i.2 in
    let c = bind_some (cost_at t.0.1) (λ (c : ℕ × List Lexeme). Some (Method n r t.0.0 c.0, c.1)) (part, rest) t.2 in
    let made : Part × List Lexeme = (Method n r t.0.0 c.0.0, c.0.1) in
    let same = some_injective made (part, rest) c.2 in
    let u = join_inputs i.0 t.0.0 c.0.0 t.0.1 c.0.1 (inputs_cases i.0 (symbol_at (codes ")") i.0) t.0.0 t.0.1 refl t.1) (cost_found t.0.1 c.0.0 c.0.1 c.1) in
    let w = Takes-append ls (Mark (codes "(") ∷ []) (list_form name_form t.0.0 ++ Mark (codes ")") ∷ cost_form c.0.0) i.0 c.0.1 (symbol_found (codes "(") ls i.0 i.1) u in
    (t.0.0, c.0.0, ap (λ (p : Part × List Lexeme). p.0) same, subst (λ (q : List Lexeme). Takes ls (inputs_form t.0.0 c.0.0) q) (ap (λ (p : Part × List Lexeme). p.1) same) w)

abbrev on_tail : List ℕ → List Lexeme → Option (Part × List Lexeme)
on_tail n ls = word_at (codes "on") ls >>= λ o. name_at o >>= λ r. inputs_tail n r.0 r.1

abbrev on_form : List ℕ → List (List ℕ) → ℕ → List Slot
on_form r xs cost = Key (codes "on") ∷ Name r ∷ inputs_form xs cost

on_found : (n : List ℕ) (ls : List Lexeme) (part : Part) (rest : List Lexeme) → on_tail n ls ≡ Some (part, rest) → (r : List ℕ) × (xs : List (List ℕ)) × (cost : ℕ) × (Method n r xs cost ≡ part) × Takes ls (on_form r xs cost) rest
on_found n ls part rest e =
    let o = bind_some (word_at (codes "on") ls) (λ (o : List Lexeme). name_at o >>= λ r. inputs_tail n r.0 r.1) (part, rest) e in
    let r = bind_some (name_at o.0) (λ (r : List ℕ × List Lexeme). inputs_tail n r.0 r.1) (part, rest) o.2 in
    let i = inputs_found n r.0.0 r.0.1 part rest r.2 in
    let u = Takes-append o.0 (Name r.0.0 ∷ []) (inputs_form i.0 i.1) r.0.1 rest (name_found o.0 r.0.0 r.0.1 r.1) i.3 in
    (r.0.0, i.0, i.1, i.2, Takes-append ls (Key (codes "on") ∷ []) (Name r.0.0 ∷ inputs_form i.0 i.1) o.0 rest (word_found (codes "on") ls o.0 o.1) u)

method_found : (v : Bool) (number : ℕ) (ls : List Lexeme) (part : Part) (rest : List Lexeme) → method_at ls ≡ Some (part, rest) → Declares v number ls part rest
unfolding method_at
method_found v number ls part rest e =
    let a = bind_some (word_at (codes "method") ls) (λ (w : List Lexeme). name_at w >>= λ n. on_tail n.0 n.1) (part, rest) e in
    let n = bind_some (name_at a.0) (λ (n : List ℕ × List Lexeme). on_tail n.0 n.1) (part, rest) a.2 in
    let o = on_found n.0.0 n.0.1 part rest n.2 in
    let u = Takes-append a.0 (Name n.0.0 ∷ []) (on_form o.0 o.1 o.2) n.0.1 rest (name_found a.0 n.0.0 n.0.1 n.1) o.4 in
    let whole : Takes ls (method_form n.0.0 o.0 o.1 o.2) rest = Takes-append ls (Key (codes "method") ∷ []) (Name n.0.0 ∷ on_form o.0 o.1 o.2) a.0 rest (word_found (codes "method") ls a.0 a.1) u in
    subst (λ (y : Part). Declares v number ls y rest) o.3 whole

method_again : (ls : List Lexeme) (name relation : List ℕ) (inputs : List (List ℕ)) (cost : ℕ) (rest : List Lexeme) → Takes ls (method_form name relation inputs cost) rest → method_at ls ≡ Some (Method name relation inputs cost, rest)
unfolding method_at
method_again ls name relation inputs cost rest t =
    let rest5 : List Slot = list_form name_form inputs ++ Mark (codes ")") ∷ cost_form cost in
    let k = word_again (codes "method") ls (Name name ∷ Key (codes "on") ∷ Name relation ∷ Mark (codes "(") ∷ rest5) rest t in
    let n = name_again k.0 name (Key (codes "on") ∷ Name relation ∷ Mark (codes "(") ∷ rest5) rest k.2 in
    let o = word_again (codes "on") n.0 (Name relation ∷ Mark (codes "(") ∷ rest5) rest n.2 in
    let r = name_again o.0 relation (Mark (codes "(") ∷ rest5) rest o.2 in
    let b = symbol_again (codes "(") r.0 rest5 rest r.2 in
    let i = inputs_again b.0 inputs (cost_form cost) rest b.2 in
    let c = cost_again i.0 cost rest i.2 in
    rw (k.1, n.1, o.1, r.1, b.1, i.1, c) refl

-- ---- foreign keys

abbrev target_tail : ℕ → Listing → List Lexeme → Option (Part × List Lexeme)
target_tail number s ls = word_at (codes "references") ls >>= λ b. listing_at b >>= λ t. Some (ForeignKey number s.relation s.columns t.0.relation t.0.columns, t.1)

target_found : (number : ℕ) (s : Listing) (ls : List Lexeme) (part : Part) (rest : List Lexeme) → target_tail number s ls ≡ Some (part, rest) →
    (t : Listing) × (ForeignKey number s.relation s.columns t.relation t.columns ≡ part) × IsSome t.columns × Takes ls (Key (codes "references") ∷ listing_form t.relation t.columns) rest
target_found number s ls part rest e =
    let b = bind_some (word_at (codes "references") ls) (λ (b : List Lexeme). listing_at b >>= λ t. Some (ForeignKey number s.relation s.columns t.0.relation t.0.columns, t.1)) (part, rest) e in
    let t = bind_some (listing_at b.0) (λ (t : Listing × List Lexeme). Some (ForeignKey number s.relation s.columns t.0.relation t.0.columns, t.1)) (part, rest) b.2 in
    let f = listing_found b.0 t.0.0 t.0.1 t.1 in
    let made : Part × List Lexeme = (ForeignKey number s.relation s.columns t.0.0.relation t.0.0.columns, t.0.1) in
    let same = some_injective made (part, rest) t.2 in
    let w = Takes-append ls (Key (codes "references") ∷ []) (listing_form t.0.0.relation t.0.0.columns) b.0 t.0.1 (word_found (codes "references") ls b.0 b.1) f.1 in
    (t.0.0, ap (λ (p : Part × List Lexeme). p.0) same, f.0, subst (λ (q : List Lexeme). Takes ls (Key (codes "references") ∷ listing_form t.0.0.relation t.0.0.columns) q) (ap (λ (p : Part × List Lexeme). p.1) same) w)

foreign_found : (v : Bool) (number : ℕ) (ls : List Lexeme) (part : Part) (rest : List Lexeme) → foreign_key_at number ls ≡ Some (part, rest) → Declares v number ls part rest
unfolding foreign_key_at
foreign_found v number ls part rest e =
    let a = bind_some (word_at (codes "foreign") ls) (λ (f : List Lexeme). word_at (codes "key") f >>= λ k. listing_at k >>= λ s. target_tail number s.0 s.1) (part, rest) e in
    let k = bind_some (word_at (codes "key") a.0) (λ (k : List Lexeme). listing_at k >>= λ s. target_tail number s.0 s.1) (part, rest) a.2 in
    let s = bind_some (listing_at k.0) (λ (s : Listing × List Lexeme). target_tail number s.0 s.1) (part, rest) k.2 in
    let t = target_found number s.0.0 s.0.1 part rest s.2 in
    let f = listing_found k.0 s.0.0 s.0.1 s.1 in
    let end : List Slot = Key (codes "references") ∷ listing_form t.0.relation t.0.columns in
    let inner = Takes-append k.0 (listing_form s.0.0.relation s.0.0.columns) end s.0.1 rest f.1 t.3 in
    let keyed = Takes-append a.0 (Key (codes "key") ∷ []) (listing_form s.0.0.relation s.0.0.columns ++ end) k.0 rest (word_found (codes "key") a.0 k.0 k.1) inner in
    let whole : Takes ls (foreign_key_form s.0.0.relation s.0.0.columns t.0.relation t.0.columns) rest =
    Takes-append ls (Key (codes "foreign") ∷ []) (Key (codes "key") ∷ (listing_form s.0.0.relation s.0.0.columns ++ end)) a.0 rest (word_found (codes "foreign") ls a.0 a.1) keyed in
    subst (λ (y : Part). Declares v number ls y rest) t.1 (f.0, t.2, refl, whole)

foreign_again : (number : ℕ) (ls : List Lexeme) (relation : List ℕ) (columns : List (List ℕ)) (target : List ℕ) (target_columns : List (List ℕ)) (rest : List Lexeme) → IsSome columns → IsSome target_columns →
    Takes ls (foreign_key_form relation columns target target_columns) rest → foreign_key_at number ls ≡ Some (ForeignKey number relation columns target target_columns, rest)
unfolding foreign_key_at
foreign_again number ls relation columns target target_columns rest w w' t =
    let end : List Slot = Key (codes "references") ∷ listing_form target target_columns in
    let a = word_again (codes "foreign") ls (Key (codes "key") ∷ (listing_form relation columns ++ end)) rest t in
    let k = word_again (codes "key") a.0 (listing_form relation columns ++ end) rest a.2 in
    let s = Takes-split k.0 (listing_form relation columns) end rest k.2 in
    let l = listing_again k.0 relation columns s.0 w s.1 in
    let b = word_again (codes "references") s.0 (listing_form target target_columns) rest s.2 in
    let m = listing_again b.0 target target_columns rest w' b.2 in
    rw (a.1, k.1, l, b.1, m) refl

-- ---- constants and sources

constant_found : (v : Bool) (number : ℕ) (ls : List Lexeme) (part : Part) (rest : List Lexeme) → constant_at ls ≡ Some (part, rest) → Declares v number ls part rest
unfolding constant_at
constant_found v number ls part rest e =
    let a = bind_some (word_at (codes "constant") ls) (λ (w : List Lexeme). value_at w >>= λ v. Some (Constant v.0, v.1)) (part, rest) e in
    let x = bind_some (value_at a.0) (λ (v : List ℕ × List Lexeme). Some (Constant v.0, v.1)) (part, rest) a.2 in
    let made : Part × List Lexeme = (Constant x.0.0, x.0.1) in
    let whole = Takes-append ls (Key (codes "constant") ∷ []) (Value x.0.0 ∷ []) a.0 x.0.1 (word_found (codes "constant") ls a.0 a.1) (value_found a.0 x.0.0 x.0.1 x.1) in
    subst (λ (y : Part × List Lexeme). Declares v number ls y.0 y.1) (some_injective made (part, rest) x.2) whole

constant_again : (ls : List Lexeme) (value : List ℕ) → Takes ls (constant_form value) [] → constant_at ls ≡ Some (Constant value, [])
unfolding constant_at
constant_again ls value t =
    let k = word_again (codes "constant") ls (Value value ∷ []) [] t in
    let v = value_again k.0 value [] [] k.2 in
    rw (k.1, v.1, v.2) refl

source_found : (v : Bool) (number : ℕ) (ls : List Lexeme) (part : Part) (rest : List Lexeme) → source_at ls ≡ Some (part, rest) → Declares v number ls part rest
unfolding source_at
source_found v number ls part rest e =
    let a = bind_some (word_at (codes "source") ls) (λ (w : List Lexeme). name_at w >>= λ r. name_at r.1 >>= λ k. text_at k.1 >>= λ l. Some (Source r.0 k.0 l.0, l.1)) (part, rest) e in
    let r = bind_some (name_at a.0) (λ (r : List ℕ × List Lexeme). name_at r.1 >>= λ k. text_at k.1 >>= λ l. Some (Source r.0 k.0 l.0, l.1)) (part, rest) a.2 in
    let k = bind_some (name_at r.0.1) (λ (k : List ℕ × List Lexeme). text_at k.1 >>= λ l. Some (Source r.0.0 k.0 l.0, l.1)) (part, rest) r.2 in
    let l = bind_some (text_at k.0.1) (λ (l : List ℕ × List Lexeme). Some (Source r.0.0 k.0.0 l.0, l.1)) (part, rest) k.2 in
    let made : Part × List Lexeme = (Source r.0.0 k.0.0 l.0.0, l.0.1) in
    let kinds = Takes-append r.0.1 (Name k.0.0 ∷ []) (Quote l.0.0 ∷ []) k.0.1 l.0.1 (name_found r.0.1 k.0.0 k.0.1 k.1) (text_found k.0.1 l.0.0 l.0.1 l.1) in
    let named = Takes-append a.0 (Name r.0.0 ∷ []) (Name k.0.0 ∷ Quote l.0.0 ∷ []) r.0.1 l.0.1 (name_found a.0 r.0.0 r.0.1 r.1) kinds in
    let whole = Takes-append ls (Key (codes "source") ∷ []) (Name r.0.0 ∷ Name k.0.0 ∷ Quote l.0.0 ∷ []) a.0 l.0.1 (word_found (codes "source") ls a.0 a.1) named in
    subst (λ (y : Part × List Lexeme). Declares v number ls y.0 y.1) (some_injective made (part, rest) l.2) whole

source_again : (ls : List Lexeme) (relation kind locator : List ℕ) → Takes ls (source_form relation kind locator) [] → source_at ls ≡ Some (Source relation kind locator, [])
unfolding source_at
source_again ls relation kind locator t =
    let w = word_again (codes "source") ls (Name relation ∷ Name kind ∷ Quote locator ∷ []) [] t in
    let r = name_again w.0 relation (Name kind ∷ Quote locator ∷ []) [] w.2 in
    let k = name_again r.0 kind (Quote locator ∷ []) [] r.2 in
    let l = text_again k.0 locator [] [] k.2 in
    rw (w.1, r.1, k.1, l.1, l.2) refl

-- ---- declarations

part_found : (v : Bool) (number : ℕ) (ls : List Lexeme) (a b c d f : Bool) (part : Part) (rest : List Lexeme) →
    cond a (relation_at v ls) (cond b (method_at ls) (cond c (rule_at number ls) (cond d (foreign_key_at number ls) (cond f (constant_at ls) (source_at ls))))) ≡ Some (part, rest) → Declares v number ls part rest
part_found v number ls true b c d f part rest e = relation_found v number ls part rest e
part_found v number ls false true c d f part rest e = method_found v number ls part rest e
part_found v number ls false false true d f part rest e = rule_found v number ls part rest e
part_found v number ls false false false true f part rest e = foreign_found v number ls part rest e
part_found v number ls false false false false true part rest e = constant_found v number ls part rest e
part_found v number ls false false false false false part rest e = source_found v number ls part rest e

pub declaration_found : (v : Bool) (number : ℕ) (ls : List Lexeme) (part : Part) (rest : List Lexeme) → declaration_at v number ls ≡ Some (part, rest) → IsDeclaration v number ls part
declaration_found v number ls part rest e =
    let a = bind_some (part_at v number ls) (λ (p : Part × List Lexeme). end_at p.1 >>= λ n. Some (p.0, n)) (part, rest) e in
    let b = bind_some (end_at a.0.1) (λ (n : List Lexeme). Some (a.0.0, n)) (part, rest) a.2 in
    let last = end_is a.0.1 b.0 b.1 in
    let f = part_found v number ls (word_next (codes "relation") ls) (word_next (codes "method") ls) (word_next (codes "rule") ls) (word_next (codes "foreign") ls) (word_next (codes "constant") ls) a.0.0 a.0.1 a.1 in
    let g : Declares v number ls a.0.0 [] = subst (λ (r : List Lexeme). Declares v number ls a.0.0 r) last.0 f in
    let made : Part × List Lexeme = (a.0.0, b.0) in
    subst (λ (y : Part × List Lexeme). Declares v number ls y.0 []) (some_injective made (part, rest) b.2) g

-- the declaration by its first word
whole_line : (v : Bool) (number : ℕ) (ls : List Lexeme) (part : Part) → part_at v number ls ≡ Some (part, []) → declaration_at v number ls ≡ Some (part, [])
whole_line v number ls part e = ap (λ (o : Option (Part × List Lexeme)). o >>= λ p. end_at p.1 >>= λ n. Some (p.0, n)) e

pub declaration_again : (v : Bool) (number : ℕ) (ls : List Lexeme) (part : Part) → IsDeclaration v number ls part → declaration_at v number ls ≡ Some (part, [])
declaration_again v number ls (Relation name columns sorts) d =
    let k = this_word (codes "relation") ls (Name name ∷ columns_form d.0) [] d.5 in
    let made : List (List ℕ) → List Sort → Option (Part × List Lexeme) = λ cs ss. Some (Relation name cs ss, []) in
    let r : relation_at v ls ≡ Some (Relation name columns sorts, []) =
    relation_again v ls name d.0 [] d.1 d.2 d.5 ∙ ap (λ (cs : List (List ℕ)). made cs (map sort_of d.0)) (sym d.3) ∙ ap (made columns) (sym d.4) in
    whole_line v number ls (Relation name columns sorts) (rw k r)
declaration_again v number ls (Method name relation inputs cost) d =
    let ss : List Slot = Name name ∷ on_form relation inputs cost in
    let a = other_word (codes "method") (codes "relation") ls ss [] refl d in
    let k = this_word (codes "method") ls ss [] d in
    whole_line v number ls (Method name relation inputs cost) (rw (a, k) (method_again ls name relation inputs cost [] d))
declaration_again v number ls (Rule line body head) d =
    let ss : List Slot = list_form atom_form body ++ Mark (codes "->") ∷ list_form atom_form head in
    let a = other_word (codes "rule") (codes "relation") ls ss [] refl d.5 in
    let b = other_word (codes "rule") (codes "method") ls ss [] refl d.5 in
    let k = this_word (codes "rule") ls ss [] d.5 in
    let r : rule_at number ls ≡ Some (Rule line body head, []) = subst (λ (n : ℕ). rule_at number ls ≡ Some (Rule n body head, [])) (sym d.4) (rule_again number ls body head d.0 d.1 d.2 d.3 d.5) in
    whole_line v number ls (Rule line body head) (rw (a, b, k) r)
declaration_again v number ls (ForeignKey line relation columns target target_columns) d =
    let ss : List Slot = Key (codes "key") ∷ (listing_form relation columns ++ Key (codes "references") ∷ listing_form target target_columns) in
    let a = other_word (codes "foreign") (codes "relation") ls ss [] refl d.3 in
    let b = other_word (codes "foreign") (codes "method") ls ss [] refl d.3 in
    let c = other_word (codes "foreign") (codes "rule") ls ss [] refl d.3 in
    let k = this_word (codes "foreign") ls ss [] d.3 in
    let r : foreign_key_at number ls ≡ Some (ForeignKey line relation columns target target_columns, []) =
    subst (λ (n : ℕ). foreign_key_at number ls ≡ Some (ForeignKey n relation columns target target_columns, [])) (sym d.2) (foreign_again number ls relation columns target target_columns [] d.0 d.1 d.3) in
    whole_line v number ls (ForeignKey line relation columns target target_columns) (rw (a, b, c, k) r)
declaration_again v number ls (Constant text) d =
    let ss : List Slot = Value text ∷ [] in
    let a = other_word (codes "constant") (codes "relation") ls ss [] refl d in
    let b = other_word (codes "constant") (codes "method") ls ss [] refl d in
    let c = other_word (codes "constant") (codes "rule") ls ss [] refl d in
    let f = other_word (codes "constant") (codes "foreign") ls ss [] refl d in
    let k = this_word (codes "constant") ls ss [] d in
    whole_line v number ls (Constant text) (rw (a, b, c, f, k) (constant_again ls text d))
declaration_again v number ls (Source relation kind locator) d =
    let ss : List Slot = Name relation ∷ Name kind ∷ Quote locator ∷ [] in
    let a = other_word (codes "source") (codes "relation") ls ss [] refl d in
    let b = other_word (codes "source") (codes "method") ls ss [] refl d in
    let c = other_word (codes "source") (codes "rule") ls ss [] refl d in
    let f = other_word (codes "source") (codes "foreign") ls ss [] refl d in
    let g = other_word (codes "source") (codes "constant") ls ss [] refl d in
    whole_line v number ls (Source relation kind locator) (rw (a, b, c, f, g) (source_again ls relation kind locator d))
