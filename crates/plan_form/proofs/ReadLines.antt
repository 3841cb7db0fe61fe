-- Places, and the lines of a plan, are read exactly where they have their form.
use Rattle.std.proofs.Common.{◌≡◌, ℕ, ◌≤◌, Bool, true, false, cond, List, [], ◌∷◌, ◌++◌, length, Option, None, Some, refl, sym, ap, subst, ◌∙◌, arith, lit≤}
use Rattle.std.specs.Prelude.{codes, ◌&&◌, ◌≢◌, nat_le, nat_eq}
use Rattle.std.specs.Cmp.Lexicographic.{pointwise}
use Rattle.std.specs.List.{AllByRecursion}
use Rattle.std.proofs.lemmas.Bool.{leb-true, le-leb}
use Rattle.lists.proofs.Booleans.{both_true, and_true}
use Rattle.lists.proofs.Members.{some_injective}
use Rattle.pq_text.specs.declared.token.TokenKind.{TokenKind}
use Rattle.pq_text.specs.declared.token.TokenKind.TheVariants.{Word, Symbol}
use Rattle.pq_text.specs.declared.lexeme.Lexeme.{Lexeme}
use Rattle.pq_text.specs.Lexemes.{◌>>=◌, comma, kind_is_word, kind_is_symbol, kind_is_value, symbol_at, word_at, name_at, value_at, word_next, end_at}
use Rattle.pq_text.specs.Forms.{Slot, Key, Mark, Name, Value, Digits, Takes, list_form, IsSome}
use Rattle.pq_text.proofs.Forms.{bind_some, Takes-append, Takes-split, symbol_found, symbol_again, word_found, word_again, name_found, name_again, name_some, value_found, value_again, Finds, Rereads, list_found, list_again, other_symbol, this_word, end_is, some_listed, not_empty}
use Rattle.meaning.specs.declared.types.Place.{Place}
use Rattle.meaning.specs.declared.types.Place.TheVariants.{Const, Col, New}
use Rattle.meaning.specs.declared.types.Out.{Out}
use Rattle.meaning.specs.declared.types.Out.TheVariants.{Const as Fixed, Col as Made}
use Rattle.meaning.specs.declared.types.Step.{Step}
use Rattle.plan_form.specs.Fitting.{IsWritablePlace, IsWritableOut, IsWritableStep}
use Rattle.plan_form.specs.Grammar.{is_decimal, place_form, out_form, opening_form, access_form, output_form, IsOfForm}
use Rattle.plan_form.specs.Reading.{plain_at, place_or, place_at, out_or, out_at, places_at, outs_at, opening_at, access_at, output_at, lone_at}
use Rattle.plan_form.proofs.Numbers.{plain_at_found, plain_at_again}

-- ---- kinds of tokens

value_no_symbol : (k : TokenKind) → kind_is_value k ≡ true → kind_is_symbol k ≡ false
value_no_symbol Symbol e = absurd cc
value_no_symbol _ e = refl

value_no_word : (k : TokenKind) → kind_is_value k ≡ true → kind_is_word k ≡ false
value_no_word Word e = absurd cc
value_no_word _ e = refl

word_no_symbol : (k : TokenKind) → kind_is_word k ≡ true → kind_is_symbol k ≡ false
word_no_symbol Symbol e = absurd cc
word_no_symbol _ e = refl

no_symbol_value : (text c : List ℕ) (ls : List Lexeme) (ss : List Slot) (rest : List Lexeme) → Takes ls (Value c ∷ ss) rest → symbol_at text ls ≡ None
no_symbol_value text c [] ss rest t = absurd t
no_symbol_value text c (l ∷ ls) ss rest t = let k = value_no_symbol l.kind t.0.0 in rw k refl

no_word_value : (text c : List ℕ) (ls : List Lexeme) (ss : List Slot) (rest : List Lexeme) → Takes ls (Value c ∷ ss) rest → word_next text ls ≡ false
no_word_value text c [] ss rest t = absurd t
no_word_value text c (l ∷ ls) ss rest t = let k = value_no_word l.kind t.0.0 in rw k refl

no_symbol_word : (text word : List ℕ) (ls : List Lexeme) (ss : List Slot) (rest : List Lexeme) → Takes ls (Key word ∷ ss) rest → symbol_at text ls ≡ None
no_symbol_word text word [] ss rest t = absurd t
no_symbol_word text word (l ∷ ls) ss rest t = let k = word_no_symbol l.kind (both_true (kind_is_word l.kind) (pointwise nat_eq l.text word) t.0).0 in rw k refl

-- ---- places

abbrev column_place : ℕ × List Lexeme → Option (Place × List Lexeme)
column_place x = Some (Col x.0, x.1)

abbrev constant_place : List ℕ × List Lexeme → Option (Place × List Lexeme)
constant_place x = Some (Const x.0, x.1)

abbrev new_place : List Lexeme → Option (Place × List Lexeme)
new_place r = Some (New, r)

plain_place_found : (ls : List Lexeme) (b : Bool) (x : Place) (rest : List Lexeme) → cond b (word_at (codes "new") ls >>= new_place) (value_at ls >>= constant_place) ≡ Some (x, rest) → Takes ls (place_form x) rest × IsWritablePlace x
plain_place_found ls true x rest e =
    let a = bind_some (word_at (codes "new") ls) new_place (x, rest) e in
    let made : Place × List Lexeme = (New, a.0) in
    subst (λ (y : Place × List Lexeme). Takes ls (place_form y.0) y.1 × IsWritablePlace y.0) (some_injective made (x, rest) a.2) (word_found (codes "new") ls a.0 a.1, tt)
plain_place_found ls false x rest e =
    let a = bind_some (value_at ls) constant_place (x, rest) e in
    let made : Place × List Lexeme = (Const a.0.0, a.0.1) in
    subst (λ (y : Place × List Lexeme). Takes ls (place_form y.0) y.1 × IsWritablePlace y.0) (some_injective made (x, rest) a.2) (value_found ls a.0.0 a.0.1 a.1, tt)

place_case : (ls : List Lexeme) (o : Option (List Lexeme)) (x : Place) (rest : List Lexeme) → symbol_at (codes "$") ls ≡ o → place_or ls o ≡ Some (x, rest) → Takes ls (place_form x) rest × IsWritablePlace x
place_case ls (Some behind) x rest at e =
    let a = bind_some (plain_at behind) column_place (x, rest) e in
    let made : Place × List Lexeme = (Col a.0.0, a.0.1) in
    let g = plain_at_found behind a.0.0 a.0.1 a.1 in
    let t = Takes-append ls (Mark (codes "$") ∷ []) (Digits (is_decimal a.0.0) ∷ []) behind a.0.1 (symbol_found (codes "$") ls behind at) g.0 in
    subst (λ (y : Place × List Lexeme). Takes ls (place_form y.0) y.1 × IsWritablePlace y.0) (some_injective made (x, rest) a.2) (t, g.1)
place_case ls None x rest at e = plain_place_found ls (word_next (codes "new") ls) x rest e

places_find : Finds place_at place_form IsWritablePlace
places_find ls x rest e = place_case ls (symbol_at (codes "$") ls) x rest refl e

places_reread : Rereads place_at place_form IsWritablePlace
places_reread ls (Const c) rest w t =
    let s = no_symbol_value (codes "$") c ls [] rest t in
    let n = no_word_value (codes "new") c ls [] rest t in
    let v = value_again ls c [] rest t in
    rw (s, n, v.1, v.2) refl
places_reread ls (Col k) rest w t =
    let s = symbol_again (codes "$") ls (Digits (is_decimal k) ∷ []) rest t in
    let p = plain_at_again s.0 k [] rest w s.2 in
    ap (place_or ls) s.1 ∙ ap (λ (o : Option (ℕ × List Lexeme)). o >>= column_place) p.1 ∙ ap (λ (m : List Lexeme). Some (Col k, m)) p.2
places_reread ls New rest w t =
    let s = no_symbol_word (codes "$") (codes "new") ls [] rest t in
    let n = this_word (codes "new") ls [] rest t in
    let v = word_again (codes "new") ls [] rest t in
    rw (s, n, v.1, v.2) refl

pub some_place : (x : Place) → 1 ≤ length (place_form x)
some_place (Const c) = lit≤ tt
some_place (Col k) = lit≤ tt
some_place New = lit≤ tt

-- ---- output places

abbrev column_out : ℕ × List Lexeme → Option (Out × List Lexeme)
column_out x = Some (Made x.0, x.1)

abbrev constant_out : List ℕ × List Lexeme → Option (Out × List Lexeme)
constant_out x = Some (Fixed x.0, x.1)

out_case : (ls : List Lexeme) (o : Option (List Lexeme)) (x : Out) (rest : List Lexeme) → symbol_at (codes "$") ls ≡ o → out_or ls o ≡ Some (x, rest) → Takes ls (out_form x) rest × IsWritableOut x
out_case ls (Some behind) x rest at e =
    let a = bind_some (plain_at behind) column_out (x, rest) e in
    let made : Out × List Lexeme = (Made a.0.0, a.0.1) in
    let g = plain_at_found behind a.0.0 a.0.1 a.1 in
    let t = Takes-append ls (Mark (codes "$") ∷ []) (Digits (is_decimal a.0.0) ∷ []) behind a.0.1 (symbol_found (codes "$") ls behind at) g.0 in
    subst (λ (y : Out × List Lexeme). Takes ls (out_form y.0) y.1 × IsWritableOut y.0) (some_injective made (x, rest) a.2) (t, g.1)
out_case ls None x rest at e =
    let a = bind_some (value_at ls) constant_out (x, rest) e in
    let made : Out × List Lexeme = (Fixed a.0.0, a.0.1) in
    subst (λ (y : Out × List Lexeme). Takes ls (out_form y.0) y.1 × IsWritableOut y.0) (some_injective made (x, rest) a.2) (value_found ls a.0.0 a.0.1 a.1, tt)

outs_find : Finds out_at out_form IsWritableOut
outs_find ls x rest e = out_case ls (symbol_at (codes "$") ls) x rest refl e

outs_reread : Rereads out_at out_form IsWritableOut
outs_reread ls (Fixed c) rest w t =
    let s = no_symbol_value (codes "$") c ls [] rest t in
    let v = value_again ls c [] rest t in
    rw (s, v.1, v.2) refl
outs_reread ls (Made k) rest w t =
    let s = symbol_again (codes "$") ls (Digits (is_decimal k) ∷ []) rest t in
    let p = plain_at_again s.0 k [] rest w s.2 in
    ap (out_or ls) s.1 ∙ ap (λ (o : Option (ℕ × List Lexeme)). o >>= column_out) p.1 ∙ ap (λ (m : List Lexeme). Some (Made k, m)) p.2

pub some_out : (x : Out) → 1 ≤ length (out_form x)
some_out (Fixed c) = lit≤ tt
some_out (Made k) = lit≤ tt

-- ---- lines

pub lone_found : (text : List ℕ) (ls rest : List Lexeme) → lone_at text ls ≡ Some rest → IsOfForm ls (Key text ∷ [])
unfolding lone_at
lone_found text ls rest e =
    let a = bind_some (word_at text ls) end_at rest e in
    let last = end_is a.0 rest a.2 in
    subst (λ (m : List Lexeme). Takes ls (Key text ∷ []) m) last.0 (word_found text ls a.0 a.1)

pub lone_again : (text : List ℕ) (ls : List Lexeme) → IsOfForm ls (Key text ∷ []) → lone_at text ls ≡ Some []
unfolding lone_at
lone_again text ls t =
    let a = word_again text ls [] [] t in
    rw (a.1, a.2) refl

abbrev ranged : Bool → ℕ → List Lexeme → Option (ℕ × List Lexeme)
ranged t w rest = cond t (Some (w, rest)) None

range_is : (t : Bool) (w n : ℕ) (rest end : List Lexeme) → ranged t w rest ≡ Some (n, end) → (t ≡ true) × (w ≡ n)
range_is true w n rest end e = let made : ℕ × List Lexeme = (w, rest) in (refl, ap (λ (y : ℕ × List Lexeme). y.0) (some_injective made (n, end) e))
range_is false w n rest end e = absurd (cc)

abbrev in_range : ℕ → Bool
in_range w = nat_le 1 w && nat_le w 64

pub opening_found : (ls : List Lexeme) (width : ℕ) (rest : List Lexeme) → opening_at ls ≡ Some (width, rest) → IsOfForm ls (opening_form width) × (1 ≤ width) × (width ≤ 64)
unfolding opening_at
opening_found ls width rest e =
    let a = bind_some (word_at (codes "plan") ls) (λ (b : List Lexeme). plain_at b >>= λ w. end_at w.1 >>= λ r. ranged (in_range w.0) w.0 r) (width, rest) e in
    let b = bind_some (plain_at a.0) (λ (w : ℕ × List Lexeme). end_at w.1 >>= λ r. ranged (in_range w.0) w.0 r) (width, rest) a.2 in
    let c = bind_some (end_at b.0.1) (λ (r : List Lexeme). ranged (in_range b.0.0) b.0.0 r) (width, rest) b.2 in
    let last = end_is b.0.1 c.0 c.1 in
    let g = range_is (in_range b.0.0) b.0.0 width c.0 rest c.2 in
    let r = both_true (nat_le 1 b.0.0) (nat_le b.0.0 64) g.0 in
    let p = plain_at_found a.0 b.0.0 b.0.1 b.1 in
    let digits = subst (λ (m : List Lexeme). Takes a.0 (Digits (is_decimal b.0.0) ∷ []) m) last.0 p.0 in
    let whole = Takes-append ls (Key (codes "plan") ∷ []) (Digits (is_decimal b.0.0) ∷ []) a.0 [] (word_found (codes "plan") ls a.0 a.1) digits in
    subst (λ (w : ℕ). IsOfForm ls (opening_form w) × (1 ≤ w) × (w ≤ 64)) g.1 (whole, leb-true 1 b.0.0 r.0, leb-true b.0.0 64 r.1)

pub opening_again : (ls : List Lexeme) (width : ℕ) → 1 ≤ width → width ≤ 64 → IsOfForm ls (opening_form width) → opening_at ls ≡ Some (width, [])
unfolding opening_at
opening_again ls width some most t =
    let a = word_again (codes "plan") ls (Digits (is_decimal width) ∷ []) [] t in
    let b = plain_at_again a.0 width [] [] (omega arith) a.2 in
    let r = and_true (nat_le 1 width) (nat_le width 64) (le-leb 1 width some) (le-leb width 64 most) in
    rw (a.1, b.1, b.2, r) refl

-- ---- access lines

abbrev inside_tail : List ℕ → List Lexeme → Option (Step × List Lexeme)
inside_tail n ls = symbol_at (codes "(") ls >>= λ i. places_at i >>= λ p. symbol_at (codes ")") p.1 >>= λ c. end_at c >>= λ r. Some (record { method = n; places = p.0 }, r)

abbrev inside_form : List Place → List Slot
inside_form places = Mark (codes "(") ∷ (list_form place_form places ++ Mark (codes ")") ∷ [])

inside_found : (n : List ℕ) (ls : List Lexeme) (step : Step) (rest : List Lexeme) → inside_tail n ls ≡ Some (step, rest) →
    (step.method ≡ n) × IsSome step.places × AllByRecursion IsWritablePlace step.places × Takes ls (inside_form step.places) []
inside_found n ls step rest e =
    let i = bind_some (symbol_at (codes "(") ls) (λ (i : List Lexeme). places_at i >>= λ p. symbol_at (codes ")") p.1 >>= λ c. end_at c >>= λ r. Some (record { method = n; places = p.0 }, r)) (step, rest) e in
    let p = bind_some (places_at i.0) (λ (p : List Place × List Lexeme). symbol_at (codes ")") p.1 >>= λ c. end_at c >>= λ r. Some (record { method = n; places = p.0 }, r)) (step, rest) i.2 in
    let c = bind_some (symbol_at (codes ")") p.0.1) (λ (c : List Lexeme). end_at c >>= λ r. Some (record { method = n; places = p.0.0 }, r)) (step, rest) p.2 in
    let r = bind_some (end_at c.0) (λ (r : List Lexeme). Some (record { method = n; places = p.0.0 }, r)) (step, rest) c.2 in
    let last = end_is c.0 r.0 r.1 in
    let made : Step × List Lexeme = (record { method = n; places = p.0.0 }, r.0) in
    let f = list_found place_at place_form IsWritablePlace places_find i.0 p.0.0 p.0.1 p.1 in
    let closed = subst (λ (m : List Lexeme). Takes p.0.1 (Mark (codes ")") ∷ []) m) last.0 (symbol_found (codes ")") p.0.1 c.0 c.1) in
    let inner = Takes-append i.0 (list_form place_form p.0.0) (Mark (codes ")") ∷ []) p.0.1 [] f.2 closed in
    let whole = Takes-append ls (Mark (codes "(") ∷ []) (list_form place_form p.0.0 ++ Mark (codes ")") ∷ []) i.0 [] (symbol_found (codes "(") ls i.0 i.1) inner in
    subst (λ (y : Step × List Lexeme). (y.0.method ≡ n) × IsSome y.0.places × AllByRecursion IsWritablePlace y.0.places × Takes ls (inside_form y.0.places) []) (some_injective made (step, rest) r.2) (refl, f.0, f.1, whole)

pub access_found : (ls : List Lexeme) (step : Step) (rest : List Lexeme) → access_at ls ≡ Some (step, rest) → IsOfForm ls (access_form step) × IsWritableStep step
unfolding access_at
access_found ls step rest e =
    let a = bind_some (word_at (codes "access") ls) (λ (b : List Lexeme). name_at b >>= λ n. inside_tail n.0 n.1) (step, rest) e in
    let n = bind_some (name_at a.0) (λ (n : List ℕ × List Lexeme). inside_tail n.0 n.1) (step, rest) a.2 in
    let i = inside_found n.0.0 n.0.1 step rest n.2 in
    let name : Takes a.0 (Name step.method ∷ []) n.0.1 = subst (λ (m : List ℕ). Takes a.0 (Name m ∷ []) n.0.1) (sym i.0) (name_found a.0 n.0.0 n.0.1 n.1) in
    let named = Takes-append a.0 (Name step.method ∷ []) (inside_form step.places) n.0.1 [] name i.3 in
    let whole = Takes-append ls (Key (codes "access") ∷ []) (Name step.method ∷ inside_form step.places) a.0 [] (word_found (codes "access") ls a.0 a.1) named in
    (whole, record { named = name_some a.0 step.method [] n.0.1 name; some = not_empty step.places i.1; places = i.2 })

pub access_again : (ls : List Lexeme) (step : Step) → IsWritableStep step → IsOfForm ls (access_form step) → access_at ls ≡ Some (step, [])
unfolding access_at
access_again ls step w t =
    let a = word_again (codes "access") ls (Name step.method ∷ inside_form step.places) [] t in
    let n = name_again a.0 step.method (inside_form step.places) [] a.2 in
    let i = symbol_again (codes "(") n.0 (list_form place_form step.places ++ Mark (codes ")") ∷ []) [] n.2 in
    let s = Takes-split i.0 (list_form place_form step.places) (Mark (codes ")") ∷ []) [] i.2 in
    let p = list_again place_at place_form IsWritablePlace some_place places_reread i.0 step.places s.0 (some_listed step.places w.some) w.places (other_symbol (codes ")") comma s.0 [] [] refl s.2) s.1 in
    let c = symbol_again (codes ")") s.0 [] [] s.2 in
    rw (a.1, n.1, i.1, p, c.1, c.2) refl

-- ---- output lines

pub output_found : (ls : List Lexeme) (outs : List Out) (rest : List Lexeme) → output_at ls ≡ Some (outs, rest) → IsOfForm ls (output_form outs) × (outs ≢ []) × AllByRecursion IsWritableOut outs
unfolding output_at
output_found ls outs rest e =
    let a = bind_some (word_at (codes "output") ls) (λ (b : List Lexeme). outs_at b >>= λ o. end_at o.1 >>= λ r. Some (o.0, r)) (outs, rest) e in
    let o = bind_some (outs_at a.0) (λ (o : List Out × List Lexeme). end_at o.1 >>= λ r. Some (o.0, r)) (outs, rest) a.2 in
    let r = bind_some (end_at o.0.1) (λ (r : List Lexeme). Some (o.0.0, r)) (outs, rest) o.2 in
    let last = end_is o.0.1 r.0 r.1 in
    let made : List Out × List Lexeme = (o.0.0, r.0) in
    let f = list_found out_at out_form IsWritableOut outs_find a.0 o.0.0 o.0.1 o.1 in
    let inner = subst (λ (m : List Lexeme). Takes a.0 (list_form out_form o.0.0) m) last.0 f.2 in
    let whole = Takes-append ls (Key (codes "output") ∷ []) (list_form out_form o.0.0) a.0 [] (word_found (codes "output") ls a.0 a.1) inner in
    subst (λ (y : List Out × List Lexeme). IsOfForm ls (output_form y.0) × (y.0 ≢ []) × AllByRecursion IsWritableOut y.0) (some_injective made (outs, rest) r.2) (whole, not_empty o.0.0 f.0, f.1)

pub output_again : (ls : List Lexeme) (outs : List Out) → outs ≢ [] → AllByRecursion IsWritableOut outs → IsOfForm ls (output_form outs) → output_at ls ≡ Some (outs, [])
unfolding output_at
output_again ls outs some w t =
    let a = word_again (codes "output") ls (list_form out_form outs) [] t in
    let o = list_again out_at out_form IsWritableOut some_out outs_reread a.0 outs [] (some_listed outs some) w refl a.2 in
    rw (a.1, o) refl
