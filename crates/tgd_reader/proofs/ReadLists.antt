-- Relations with columns, terms and atoms are read exactly where they have their form.
use Rattle.std.proofs.Common.{◌≡◌, ℕ, ◌≤◌, Bool, true, false, cond, List, [], ◌∷◌, ◌++◌, length, Option, None, Some, refl, subst, arith, lit≤}
use Rattle.std.specs.Prelude.{codes}
use Rattle.std.specs.List.{AllByRecursion}
use Rattle.lists.proofs.Members.{some_injective}
use Rattle.pq_text.specs.declared.lexeme.Lexeme.{Lexeme}
use Rattle.pq_text.specs.declared.token.TokenKind.{TokenKind}
use Rattle.pq_text.specs.declared.token.TokenKind.TheVariants.{Word, Quoted}
use Rattle.pq_text.specs.Lexemes.{◌>>=◌, comma, kind_names, kind_is_value, is_name, is_value, symbol_at, name_at, names_at}
use Rattle.pq_text.specs.Forms.{Mark, Name, Takes, list_form, name_form, IsSome}
use Rattle.pq_text.proofs.Forms.{bind_some, Takes-append, Takes-split, symbol_found, symbol_again, name_found, name_again, Any, all_any, Finds, Rereads, list_found, list_again, names_found, names_again, other_symbol}
use Rattle.access_schema.specs.declared.part.NamedTerm.{NamedTerm}
use Rattle.access_schema.specs.declared.part.NamedTerm.TheVariants.{Var, Const}
use Rattle.access_schema.specs.declared.part.NamedAtom.{NamedAtom}
use Rattle.tgd_reader.specs.declared.listed.Listing.{Listing}
use Rattle.tgd_reader.specs.Reading.{listing_at, term_at, terms_at, atom_at, atoms_at}
use Rattle.tgd_reader.specs.Grammar.{term_form, atom_form, listing_form, IsAtom}

-- ---- terms

-- a kind of values is no kind of names
value_no_name : (k : TokenKind) → kind_is_value k ≡ true → kind_names k ≡ false
value_no_name Word e = absurd cc
value_no_name Quoted e = absurd cc
value_no_name _ e = refl

abbrev front : Lexeme → List Lexeme → Bool → Option (List ℕ × List Lexeme)
front l ls b = cond b (Some (l.text, ls)) None

abbrev variable : List ℕ × List Lexeme → Option (NamedTerm × List Lexeme)
variable x = Some (Var x.0, x.1)

abbrev constant : List ℕ × List Lexeme → Option (NamedTerm × List Lexeme)
constant x = Some (Const x.0, x.1)

term_choice : (l : Lexeme) (ls : List Lexeme) (b v : Bool) (x : NamedTerm) (rest : List Lexeme) → is_name l ≡ b → is_value l ≡ v →
    cond b (front l ls b >>= variable) (front l ls v >>= constant) ≡ Some (x, rest) → Takes (l ∷ ls) (term_form x) rest
term_choice l ls true v x rest n p e =
    let g = some_injective (Var l.text, ls) (x, rest) e in
    subst (λ (y : NamedTerm × List Lexeme). Takes (l ∷ ls) (term_form y.0) y.1) g ((n, refl), refl)
term_choice l ls false true x rest n p e =
    let g = some_injective (Const l.text, ls) (x, rest) e in
    subst (λ (y : NamedTerm × List Lexeme). Takes (l ∷ ls) (term_form y.0) y.1) g ((p, refl), refl)
term_choice l ls false false x rest n p e = absurd cc

terms_find : Finds term_at term_form Any
terms_find [] x rest e = absurd cc
terms_find (l ∷ ls) x rest e = (term_choice l ls (is_name l) (is_value l) x rest refl refl e, tt)

terms_reread : Rereads term_at term_form Any
terms_reread [] (Var n) rest w t = absurd t
terms_reread [] (Const n) rest w t = absurd t
terms_reread (l ∷ ls) (Var n) rest w t = rw (t.0.0, t.0.1, t.1) refl
terms_reread (l ∷ ls) (Const n) rest w t = let f = value_no_name l.kind t.0.0 in rw (f, t.0.0, t.0.1, t.1) refl

some_term : (x : NamedTerm) → 1 ≤ length (term_form x)
some_term (Var n) = lit≤ tt
some_term (Const n) = lit≤ tt

-- ---- atoms

atoms_find : Finds atom_at atom_form IsAtom
unfolding atom_at
atoms_find ls x rest e =
    let a = bind_some (name_at ls) (λ (r : List ℕ × List Lexeme). symbol_at (codes "(") r.1 >>= λ i. terms_at i >>= λ t. symbol_at (codes ")") t.1 >>= λ q. Some (record { relation = r.0; terms = t.0 }, q)) (x, rest) e in
    let b = bind_some (symbol_at (codes "(") a.0.1) (λ (i : List Lexeme). terms_at i >>= λ t. symbol_at (codes ")") t.1 >>= λ q. Some (record { relation = a.0.0; terms = t.0 }, q)) (x, rest) a.2 in
    let c = bind_some (terms_at b.0) (λ (t : List NamedTerm × List Lexeme). symbol_at (codes ")") t.1 >>= λ q. Some (record { relation = a.0.0; terms = t.0 }, q)) (x, rest) b.2 in
    let d = bind_some (symbol_at (codes ")") c.0.1) (λ (q : List Lexeme). Some (record { relation = a.0.0; terms = c.0.0 }, q)) (x, rest) c.2 in
    let terms = list_found term_at term_form Any terms_find b.0 c.0.0 c.0.1 c.1 in
    let inner = Takes-append b.0 (list_form term_form c.0.0) (Mark (codes ")") ∷ []) c.0.1 d.0 terms.2 (symbol_found (codes ")") c.0.1 d.0 d.1) in
    let opened = Takes-append a.0.1 (Mark (codes "(") ∷ []) (list_form term_form c.0.0 ++ Mark (codes ")") ∷ []) b.0 d.0 (symbol_found (codes "(") a.0.1 b.0 b.1) inner in
    let made : NamedAtom × List Lexeme = (record { relation = a.0.0; terms = c.0.0 }, d.0) in
    let whole : Takes ls (atom_form made.0) made.1 = Takes-append ls (Name a.0.0 ∷ []) (Mark (codes "(") ∷ (list_form term_form c.0.0 ++ Mark (codes ")") ∷ [])) a.0.1 d.0 (name_found ls a.0.0 a.0.1 a.1) opened in
    subst (λ (y : NamedAtom × List Lexeme). Takes ls (atom_form y.0) y.1 × IsAtom y.0) (some_injective made (x, rest) d.2) (whole, terms.0)

atoms_reread : Rereads atom_at atom_form IsAtom
unfolding atom_at
atoms_reread ls x rest w t =
    let a = name_again ls x.relation (Mark (codes "(") ∷ (list_form term_form x.terms ++ Mark (codes ")") ∷ [])) rest t in
    let b = symbol_again (codes "(") a.0 (list_form term_form x.terms ++ Mark (codes ")") ∷ []) rest a.2 in
    let s = Takes-split b.0 (list_form term_form x.terms) (Mark (codes ")") ∷ []) rest b.2 in
    let c = list_again term_at term_form Any some_term terms_reread b.0 x.terms s.0 w (all_any x.terms) (other_symbol (codes ")") comma s.0 [] rest refl s.2) s.1 in
    let d = symbol_again (codes ")") s.0 [] rest s.2 in
    rw (a.1, b.1, c, d.1, d.2) refl

some_atom : (x : NamedAtom) → 1 ≤ length (atom_form x)
some_atom x = omega arith

pub atoms_found : (ls : List Lexeme) (xs : List NamedAtom) (rest : List Lexeme) → atoms_at ls ≡ Some (xs, rest) → IsSome xs × AllByRecursion IsAtom xs × Takes ls (list_form atom_form xs) rest
atoms_found ls xs rest e = list_found atom_at atom_form IsAtom atoms_find ls xs rest e

pub atoms_again : (ls : List Lexeme) (xs : List NamedAtom) (rest : List Lexeme) → IsSome xs → AllByRecursion IsAtom xs → symbol_at comma rest ≡ None → Takes ls (list_form atom_form xs) rest → atoms_at ls ≡ Some (xs, rest)
atoms_again ls xs rest h w ends t = list_again atom_at atom_form IsAtom some_atom atoms_reread ls xs rest h w ends t

-- ---- a relation with columns

pub listing_found : (ls : List Lexeme) (x : Listing) (rest : List Lexeme) → listing_at ls ≡ Some (x, rest) → IsSome x.columns × Takes ls (listing_form x.relation x.columns) rest
unfolding listing_at
listing_found ls x rest e =
    let a = bind_some (name_at ls) (λ (r : List ℕ × List Lexeme). symbol_at (codes "(") r.1 >>= λ i. names_at i >>= λ t. symbol_at (codes ")") t.1 >>= λ q. Some (record { relation = r.0; columns = t.0 }, q)) (x, rest) e in
    let b = bind_some (symbol_at (codes "(") a.0.1) (λ (i : List Lexeme). names_at i >>= λ t. symbol_at (codes ")") t.1 >>= λ q. Some (record { relation = a.0.0; columns = t.0 }, q)) (x, rest) a.2 in
    let c = bind_some (names_at b.0) (λ (t : List (List ℕ) × List Lexeme). symbol_at (codes ")") t.1 >>= λ q. Some (record { relation = a.0.0; columns = t.0 }, q)) (x, rest) b.2 in
    let d = bind_some (symbol_at (codes ")") c.0.1) (λ (q : List Lexeme). Some (record { relation = a.0.0; columns = c.0.0 }, q)) (x, rest) c.2 in
    let columns = names_found b.0 c.0.0 c.0.1 c.1 in
    let inner = Takes-append b.0 (list_form name_form c.0.0) (Mark (codes ")") ∷ []) c.0.1 d.0 columns.1 (symbol_found (codes ")") c.0.1 d.0 d.1) in
    let opened = Takes-append a.0.1 (Mark (codes "(") ∷ []) (list_form name_form c.0.0 ++ Mark (codes ")") ∷ []) b.0 d.0 (symbol_found (codes "(") a.0.1 b.0 b.1) inner in
    let made : Listing × List Lexeme = (record { relation = a.0.0; columns = c.0.0 }, d.0) in
    let whole : Takes ls (listing_form made.0.relation made.0.columns) made.1 = Takes-append ls (Name a.0.0 ∷ []) (Mark (codes "(") ∷ (list_form name_form c.0.0 ++ Mark (codes ")") ∷ [])) a.0.1 d.0 (name_found ls a.0.0 a.0.1 a.1) opened in
    subst (λ (y : Listing × List Lexeme). IsSome y.0.columns × Takes ls (listing_form y.0.relation y.0.columns) y.1) (some_injective made (x, rest) d.2) (columns.0, whole)

pub listing_again : (ls : List Lexeme) (relation : List ℕ) (columns : List (List ℕ)) (rest : List Lexeme) → IsSome columns → Takes ls (listing_form relation columns) rest → listing_at ls ≡ Some (record { relation = relation; columns = columns }, rest)
unfolding listing_at
listing_again ls relation columns rest w t =
    let a = name_again ls relation (Mark (codes "(") ∷ (list_form name_form columns ++ Mark (codes ")") ∷ [])) rest t in
    let b = symbol_again (codes "(") a.0 (list_form name_form columns ++ Mark (codes ")") ∷ []) rest a.2 in
    let s = Takes-split b.0 (list_form name_form columns) (Mark (codes ")") ∷ []) rest b.2 in
    let c = names_again b.0 columns s.0 w (other_symbol (codes ")") comma s.0 [] rest refl s.2) s.1 in
    let d = symbol_again (codes ")") s.0 [] rest s.2 in
    rw (a.1, b.1, c, d.1, d.2) refl
