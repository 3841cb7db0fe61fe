-- The comment lines of selects in front of a plan's text.
use Rattle.std.proofs.Common.{◌≡◌, ℕ, zero, suc, ◌+◌, ◌%◌, ◌/◌, ◌==◌, Bool, true, false, List, [], ◌∷◌, ◌++◌, refl, sym, ap, subst, ◌∙◌, append_assoc, arith}
use Rattle.std.specs.Prelude.{nat_eq, codes, ◌&&◌, not, if◌then◌else◌}
use Rattle.std.specs.Fmt.{decimal, digits, digits_onto, digit_glyph}
use Rattle.std.proofs.lemmas.Bool.{eqb-true}
use Rattle.meaning.specs.declared.types.Plan.{Plan}
use Rattle.findings.specs.declared.least.Least.{Least}
use Rattle.findings.specs.declared.least.Least.TheVariants.{Shown, SearchSpent, FiringsSpent}
use Rattle.findings.specs.declared.decision.Chosen.{Chosen}
use Rattle.findings.specs.declared.decision.Chosen.TheVariants.{NoRow, Branch}
use Rattle.plan_form.specs.Fitting.{IsWritable}
use Rattle.plan_form.specs.Grammar.{SaysPlan}
use Rattle.plan_form.specs.Printing.{plan_text}
use Rattle.plan_form.proofs.PrintLaws.{printed_again}
use Rattle.explain.specs.Printing.{least_text, entry_text, entry_line, entry_lines, planned_text}
use Rattle.explain.proofs.Comments.{NoFeeds, comment_passed}

-- ---- texts without line feeds

abbrev pub has_none : List ℕ → Bool
has_none [] = true
has_none (b ∷ bs) = not (nat_eq b 10) && has_none bs

none_step : (t : Bool) (bs : List ℕ) → (not t && has_none bs) ≡ true → (t ≡ false) × (has_none bs ≡ true)
none_step true bs e = absurd cc
none_step false bs e = (refl, e)

none_of : (bs : List ℕ) → has_none bs ≡ true → NoFeeds bs
none_of [] e = tt
none_of (b ∷ bs) e = let both = none_step (nat_eq b 10) bs e in (both.0, none_of bs both.1)

none_append : (xs ys : List ℕ) → NoFeeds xs → NoFeeds ys → NoFeeds (xs ++ ys)
none_append [] ys front behind = behind
none_append (x ∷ xs) ys front behind = (front.0, none_append xs ys front.1 behind)

high : (b : ℕ) (t : Bool) → nat_eq (48 + b) 10 ≡ t → t ≡ false
high b true e = absurd (omega (arith, eqb-true (48 + b) 10 e))
high b false e = refl

higher : (b : ℕ) (t : Bool) → nat_eq (87 + b) 10 ≡ t → t ≡ false
higher b true e = absurd (omega (arith, eqb-true (87 + b) 10 e))
higher b false e = refl

glyph_if : (d : ℕ) (t : Bool) → nat_eq (if t then 48 + d else 87 + d) 10 ≡ false
glyph_if d true = high d (nat_eq (48 + d) 10) refl
glyph_if d false = higher d (nat_eq (87 + d) 10) refl

none_if : (t : Bool) (xs ys : List ℕ) → NoFeeds xs → NoFeeds ys → NoFeeds (if t then xs else ys)
none_if true xs ys one other = one
none_if false xs ys one other = other

none_onto : (k n : ℕ) (acc : List ℕ) → NoFeeds acc → NoFeeds (digits_onto k 10 false n acc)
none_onto zero n acc none = none
none_onto (suc k) n acc none =
    let more : NoFeeds (digit_glyph false (n % 10) ∷ acc) = (glyph_if (n % 10) _, none) in
    none_if (n / 10 == 0) (digit_glyph false (n % 10) ∷ acc) (digits_onto k 10 false (n / 10) (digit_glyph false (n % 10) ∷ acc)) more (none_onto k (n / 10) (digit_glyph false (n % 10) ∷ acc) more)

none_decimal : (n : ℕ) → NoFeeds (decimal n)
unfolding digits
none_decimal n = none_onto 64 n [] tt

-- ---- lines

least_none : (least : Least) → NoFeeds (least_text least)
least_none Shown = none_of (codes "least") refl
least_none (SearchSpent units) = none_append (codes "search spent after ") (decimal units) (none_of (codes "search spent after ") refl) (none_decimal units)
least_none (FiringsSpent firings) = none_append (codes "firings spent after ") (decimal firings) (none_of (codes "firings spent after ") refl) (none_decimal firings)

entry_none : (entry : Chosen) → NoFeeds (entry_text entry)
entry_none NoRow = none_of (codes " no row") refl
entry_none (Branch cost least) =
    none_append (codes " cost " ++ decimal cost ++ codes " ") (least_text least)
    (none_append (codes " cost " ++ decimal cost) (codes " ") (none_append (codes " cost ") (decimal cost) (none_of (codes " cost ") refl) (none_decimal cost)) (none_of (codes " ") refl))
    (least_none least)

abbrev body : ℕ → Chosen → List ℕ
body number entry = codes " select " ++ decimal number ++ entry_text entry

body_none : (number : ℕ) (entry : Chosen) → NoFeeds (body number entry)
body_none number entry =
    none_append (codes " select " ++ decimal number) (entry_text entry) (none_append (codes " select ") (decimal number) (none_of (codes " select ") refl) (none_decimal number)) (entry_none entry)

line_is : (number : ℕ) (entry : Chosen) (text : List ℕ) → entry_line number entry ++ text ≡ 35 ∷ (body number entry ++ 10 ∷ text)
line_is number entry text = ap (λ (bytes : List ℕ). 35 ∷ bytes) (append_assoc (body number entry) (10 ∷ []) text)

lines_passed : (entries : List Chosen) (number : ℕ) (text : List ℕ) (plan : Plan) → SaysPlan text plan → SaysPlan (entry_lines number entries ++ text) plan
lines_passed [] number text plan says = says
lines_passed (entry ∷ entries) number text plan says =
    let behind = entry_lines (number + 1) entries ++ text in
    let passed = comment_passed (body number entry) behind (body_none number entry) plan (lines_passed entries (number + 1) text plan says) in
    let same : 35 ∷ (body number entry ++ 10 ∷ behind) ≡ entry_lines number (entry ∷ entries) ++ text =
    sym (line_is number entry behind) ∙ sym (append_assoc (entry_line number entry) (entry_lines (number + 1) entries) text) in
    subst (λ (bytes : List ℕ). SaysPlan bytes plan) same passed

-- a comment line of words without a line feed and a number
pub numbered_passed : (words : List ℕ) (number : ℕ) (text : List ℕ) (plan : Plan) → has_none words ≡ true → SaysPlan text plan →
    SaysPlan (35 ∷ ((words ++ decimal number) ++ 10 ∷ text)) plan
numbered_passed words number text plan none says =
    comment_passed (words ++ decimal number) text (none_append words (decimal number) (none_of words none) (none_decimal number)) plan says

-- A plan's text behind comment lines says the plan.
pub planned_again : (entries : List Chosen) (plan : Plan) → IsWritable plan → SaysPlan (planned_text entries plan) plan
planned_again entries plan writable = lines_passed entries 1 (plan_text plan) plan (printed_again plan writable)
