-- The lines of a refutation are read exactly where they have their form.
use Rattle.std.proofs.Common.{◌≡◌, ℕ, true, false, List, [], ◌∷◌, ◌++◌, Option, Some, refl, sym, subst, slice_get}
use Rattle.std.specs.Prelude.{codes, ◌≢◌}
use Rattle.lists.proofs.Members.{some_injective}
use Rattle.pq_text.specs.declared.lexeme.Lexeme.{Lexeme}
use Rattle.pq_text.specs.Lexemes.{◌>>=◌, comma, symbol_at, word_at, name_at, values_at, end_at}
use Rattle.pq_text.specs.Forms.{Slot, Key, Mark, Name, Takes, list_form, value_form, IsSome}
use Rattle.pq_text.proofs.Forms.{bind_some, Takes-append, Takes-split, symbol_found, symbol_again, word_found, word_again, name_found, name_again, values_found, values_again, other_symbol, end_is, some_listed, not_empty}
use Rattle.meaning.specs.declared.types.Relation.{Relation}
use Rattle.meaning.specs.declared.types.Fact.{Fact}
use Rattle.meaning.specs.Instances.{FitsRelation}
use Rattle.access_schema.specs.declared.schema.Schema.{Schema}
use Rattle.access_schema.specs.Meaning.{meaning_of}
use Rattle.plan_form.specs.Grammar.{IsOfForm}
use Rattle.explain.specs.Grammar.{word_form, opening_form, answer_form, row_form, name_of, fact_form}
use Rattle.explain.specs.Reading.{fact_of, is_lone, opening_at, answer_at, fact_at}
use Rattle.explain.proofs.Relations.{IsMade, fact_made, fact_again}

-- ---- lines of words

pub lone_found : (text : List ℕ) (ls : List Lexeme) → is_lone text ls ≡ true → IsOfForm ls (word_form text)
lone_found text [] e = absurd cc
lone_found text (l ∷ []) e = (e, refl)
lone_found text (l ∷ m ∷ ls) e = absurd cc

pub lone_again : (text : List ℕ) (ls : List Lexeme) → IsOfForm ls (word_form text) → is_lone text ls ≡ true
lone_again text [] t = absurd t
lone_again text (l ∷ []) t = t.0
lone_again text (l ∷ m ∷ ls) t = absurd (cons_nil m ls t.1)
  where
    cons_nil : (m : Lexeme) (ls : List Lexeme) → m ∷ ls ≡ [] → ⊥
    cons_nil m ls e = cc

-- a line of a fact is no word alone
pub row_no_lone : (text name : List ℕ) (row : List (List ℕ)) (ls : List Lexeme) → IsOfForm ls (row_form name row) → is_lone text ls ≡ false
row_no_lone text name row [] t = absurd t
row_no_lone text name row (l ∷ []) t = absurd t.1
row_no_lone text name row (l ∷ m ∷ ls) t = refl

pub opening_found : (ls rest : List Lexeme) → opening_at ls ≡ Some rest → IsOfForm ls opening_form
unfolding opening_at
opening_found ls rest e =
    let a = bind_some (word_at (codes "no") ls) (λ (b : List Lexeme). word_at (codes "plan") b >>= λ c. end_at c) rest e in
    let b = bind_some (word_at (codes "plan") a.0) end_at rest a.2 in
    let last = end_is b.0 rest b.2 in
    let plan = subst (λ (m : List Lexeme). Takes a.0 (Key (codes "plan") ∷ []) m) last.0 (word_found (codes "plan") a.0 b.0 b.1) in
    Takes-append ls (Key (codes "no") ∷ []) (Key (codes "plan") ∷ []) a.0 [] (word_found (codes "no") ls a.0 a.1) plan

pub opening_again : (ls : List Lexeme) → IsOfForm ls opening_form → opening_at ls ≡ Some []
unfolding opening_at
opening_again ls t =
    let a = word_again (codes "no") ls (Key (codes "plan") ∷ []) [] t in
    let b = word_again (codes "plan") a.0 [] [] a.2 in
    rw (a.1, b.1, b.2) refl

-- ---- the answer

pub answer_found : (ls : List Lexeme) (answer : List (List ℕ)) (rest : List Lexeme) → answer_at ls ≡ Some (answer, rest) → IsOfForm ls (answer_form answer) × (answer ≢ [])
unfolding answer_at
answer_found ls answer rest e =
    let a = bind_some (word_at (codes "answer") ls) (λ (b : List Lexeme). values_at b >>= λ o. end_at o.1 >>= λ r. Some (o.0, r)) (answer, rest) e in
    let o = bind_some (values_at a.0) (λ (o : List (List ℕ) × List Lexeme). end_at o.1 >>= λ r. Some (o.0, r)) (answer, rest) a.2 in
    let r = bind_some (end_at o.0.1) (λ (r : List Lexeme). Some (o.0.0, r)) (answer, rest) o.2 in
    let last = end_is o.0.1 r.0 r.1 in
    let made : List (List ℕ) × List Lexeme = (o.0.0, r.0) in
    let f = values_found a.0 o.0.0 o.0.1 o.1 in
    let inner = subst (λ (m : List Lexeme). Takes a.0 (list_form value_form o.0.0) m) last.0 f.1 in
    let whole = Takes-append ls (Key (codes "answer") ∷ []) (list_form value_form o.0.0) a.0 [] (word_found (codes "answer") ls a.0 a.1) inner in
    subst (λ (y : List (List ℕ) × List Lexeme). IsOfForm ls (answer_form y.0) × (y.0 ≢ [])) {x = made} (some_injective made (answer, rest) r.2) (whole, not_empty o.0.0 f.0)

pub answer_again : (ls : List Lexeme) (answer : List (List ℕ)) → answer ≢ [] → IsOfForm ls (answer_form answer) → answer_at ls ≡ Some (answer, [])
unfolding answer_at
answer_again ls answer some t =
    let a = word_again (codes "answer") ls (list_form value_form answer) [] t in
    let o = values_again a.0 answer [] (some_listed answer some) refl a.2 in
    rw (a.1, o) refl

-- ---- facts

abbrev row_tail : List Relation → List ℕ → List Lexeme → Option (Fact × List Lexeme)
row_tail relations n ls = symbol_at (codes "(") ls >>= λ i. values_at i >>= λ p. symbol_at (codes ")") p.1 >>= λ c. end_at c >>= λ r. fact_of relations n p.0 >>= λ f. Some (f, r)

abbrev behind_name : List (List ℕ) → List Slot
behind_name row = Mark (codes "(") ∷ (list_form value_form row ++ Mark (codes ")") ∷ [])

-- what has been read behind the name
record IsRowRead (schema : Schema) (n : List ℕ) (ls : List Lexeme) (fact : Fact) : Type 0 where
  pub made : IsMade schema n fact.row fact
  pub takes : Takes ls (behind_name fact.row) []

row_made : (schema : Schema) (n : List ℕ) (row : List (List ℕ)) (ls : List Lexeme) (fact : Fact) → IsMade schema n row fact → Takes ls (behind_name row) [] → IsRowRead schema n ls fact
row_made schema n row ls fact made whole = record {
  made = record { name_is = made.name_is; row_is = refl; fits = made.fits };
  takes = subst (λ (row : List (List ℕ)). Takes ls (behind_name row) []) (sym made.row_is) whole;
}

row_found : (schema : Schema) (n : List ℕ) (ls : List Lexeme) (fact : Fact) (rest : List Lexeme) → row_tail schema.relations n ls ≡ Some (fact, rest) → IsRowRead schema n ls fact
row_found schema n ls fact rest e =
    let i = bind_some (symbol_at (codes "(") ls) (λ (i : List Lexeme). values_at i >>= λ p. symbol_at (codes ")") p.1 >>= λ c. end_at c >>= λ r. fact_of schema.relations n p.0 >>= λ f. Some (f, r)) (fact, rest) e in
    let p = bind_some (values_at i.0) (λ (p : List (List ℕ) × List Lexeme). symbol_at (codes ")") p.1 >>= λ c. end_at c >>= λ r. fact_of schema.relations n p.0 >>= λ f. Some (f, r)) (fact, rest) i.2 in
    let c = bind_some (symbol_at (codes ")") p.0.1) (λ (c : List Lexeme). end_at c >>= λ r. fact_of schema.relations n p.0.0 >>= λ f. Some (f, r)) (fact, rest) p.2 in
    let r = bind_some (end_at c.0) (λ (r : List Lexeme). fact_of schema.relations n p.0.0 >>= λ f. Some (f, r)) (fact, rest) c.2 in
    let f = bind_some (fact_of schema.relations n p.0.0) (λ (f : Fact). Some (f, r.0)) (fact, rest) r.2 in
    let last = end_is c.0 r.0 r.1 in
    let found : Fact × List Lexeme = (f.0, r.0) in
    let made = fact_made schema n p.0.0 f.0 f.1 in
    let v = values_found i.0 p.0.0 p.0.1 p.1 in
    let after : List Lexeme = c.0 in
    let closed = subst (λ (m : List Lexeme). Takes p.0.1 (Mark (codes ")") ∷ []) m) {x = after} last.0 (symbol_found (codes ")") p.0.1 c.0 c.1) in
    let inner = Takes-append i.0 (list_form value_form p.0.0) (Mark (codes ")") ∷ []) p.0.1 [] v.1 closed in
    let whole = Takes-append ls (Mark (codes "(") ∷ []) (list_form value_form p.0.0 ++ Mark (codes ")") ∷ []) i.0 [] (symbol_found (codes "(") ls i.0 i.1) inner in
    subst (λ (y : Fact × List Lexeme). IsRowRead schema n ls y.0) {x = found} (some_injective found (fact, rest) f.2) (row_made schema n p.0.0 ls f.0 made whole)

pub fact_found : (schema : Schema) (ls : List Lexeme) (fact : Fact) (rest : List Lexeme) → fact_at schema.relations ls ≡ Some (fact, rest) → IsOfForm ls (fact_form schema.relations fact) × FitsRelation (meaning_of schema) fact.rel fact.row
unfolding fact_at
fact_found schema ls fact rest e =
    let n = bind_some (name_at ls) (λ (n : List ℕ × List Lexeme). row_tail schema.relations n.0 n.1) (fact, rest) e in
    let i = row_found schema n.0.0 n.0.1 fact rest n.2 in
    let whole = Takes-append ls (Name n.0.0 ∷ []) (behind_name fact.row) n.0.1 [] (name_found ls n.0.0 n.0.1 n.1) i.takes in
    (subst (λ (name : List ℕ). IsOfForm ls (row_form name fact.row)) (sym i.made.name_is) whole, i.made.fits)

pub fact_reread : (schema : Schema) (ls : List Lexeme) (fact : Fact) → IsSome fact.row → FitsRelation (meaning_of schema) fact.rel fact.row → IsOfForm ls (fact_form schema.relations fact) → fact_at schema.relations ls ≡ Some (fact, [])
unfolding fact_at
fact_reread schema ls fact some fits t =
    let n = name_again ls (name_of (slice_get schema.relations fact.rel)) (behind_name fact.row) [] t in
    let i = symbol_again (codes "(") n.0 (list_form value_form fact.row ++ Mark (codes ")") ∷ []) [] n.2 in
    let s = Takes-split i.0 (list_form value_form fact.row) (Mark (codes ")") ∷ []) [] i.2 in
    let p = values_again i.0 fact.row s.0 some (other_symbol (codes ")") comma s.0 [] [] refl s.2) s.1 in
    let c = symbol_again (codes ")") s.0 [] [] s.2 in
    let f = fact_again schema fact fits in
    rw (n.1, i.1, p, c.1, c.2, f) refl
