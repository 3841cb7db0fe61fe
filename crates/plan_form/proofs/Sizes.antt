-- A plan that is read has no more branches, steps and places than its text has bytes.
use Rattle.std.proofs.Common.{◌≡◌, ℕ, ◌+◌, ◌<◌, ◌≤◌, Bool, true, false, cond, List, [], ◌∷◌, ◌++◌, length, drop, map, Option, None, Some, sym, subst, arith}
use Rattle.std.specs.Prelude.{codes, flat_map, nat_eq, ◌||◌, IfSome}
use Rattle.std.specs.List.{AllByRecursion, AllZip}
use Rattle.std.proofs.lemmas.List.{length-append}
use Rattle.pq_text.specs.declared.token.Style.{Style}
use Rattle.pq_text.specs.declared.token.Style.TheVariants.{Lines, Sql}
use Rattle.pq_text.specs.declared.token.TokenKind.{TokenKind}
use Rattle.pq_text.specs.declared.token.TokenKind.TheVariants.{Quoted}
use Rattle.pq_text.specs.declared.token.Token.{Token}
use Rattle.pq_text.specs.declared.token.Stop.{Stop}
use Rattle.pq_text.specs.declared.token.Stop.TheVariants as stop
use Rattle.pq_text.specs.declared.token.Stop.TheVariants.{End}
use Rattle.pq_text.specs.declared.scan.Found.{Found}
use Rattle.pq_text.specs.declared.scan.Found.TheVariants.{Begins, Bad, Open}
use Rattle.pq_text.specs.declared.lexeme.Lexeme.{Lexeme}
use Rattle.pq_text.specs.declared.lexeme.Line.{Line}
use Rattle.pq_text.specs.Tokens.{is_letter, is_digit, is_word_byte, is_blank, in_comment, gap_from, run_from, end_from, first, is_double, is_single, text_found, quoted_found, feed_found, token_at, Lexes, stop_place, StopsAt}
use Rattle.pq_text.specs.Lines.{kind_is_eol, into_first, cut, number_at, Tells, AreLines}
use Rattle.pq_text.specs.Standing.{lexeme_for}
use Rattle.pq_text.specs.Forms.{Slot, Key, Mark, list_form}
use Rattle.pq_text.proofs.Forms.{Takes-length, list_length}
use Rattle.meaning.specs.declared.types.Step.{Step}
use Rattle.meaning.specs.declared.types.Branch.{Branch}
use Rattle.meaning.specs.declared.types.Plan.{Plan}
use Rattle.plan_form.specs.Fitting.{PlanFits}
use Rattle.plan_form.specs.Grammar.{place_form, out_form, access_form, output_form, branch_forms, plan_forms, IsOfForm, behind_tokens, written, SaysPlan, step_places, branch_places, places_of}
use Rattle.plan_form.proofs.ReadLines.{some_place, some_out}

-- ---- a token has a byte or more

chosen : (P : ℕ → Type 0) (t : Bool) (x y : ℕ) → P x → P y → P (cond t x y)
chosen P true x y p q = p
chosen P false x y p q = q

chosen_some : (P : ℕ → Type 0) (t : Bool) (x y : Option ℕ) → IfSome x P → IfSome y P → IfSome (cond t x y) P
chosen_some P true x y p q = p
chosen_some P false x y p q = q

gap_on : (style : Style) (bytes : List ℕ) (m n : ℕ) (comment : Bool) → m ≤ n → m ≤ gap_from n style comment bytes
gap_on style [] m n comment le = le
gap_on style (b ∷ bs) m n comment le =
    chosen (λ k. m ≤ k) (in_comment style comment b bs || is_blank style b) (gap_from (n + 1) style (in_comment style comment b bs) bs) n
    (gap_on style bs m (n + 1) (in_comment style comment b bs) (omega arith)) le

run_on : (p : ℕ → Bool) (bytes : List ℕ) (m n : ℕ) → m < n → m < run_from n p bytes
run_on p [] m n lt = lt
run_on p (b ∷ bs) m n lt = chosen (λ k. m < k) (p b) (run_from (n + 1) p bs) n (run_on p bs m (n + 1) (omega arith)) lt

end_on : (quote : ℕ) (bytes : List ℕ) (m n : ℕ) (last : Option ℕ) (behind : Bool) → m < n → IfSome last (λ k. m < k) → IfSome (end_from n last behind quote bytes) (λ k. m < k)
end_on quote [] m n last false lt so_far = so_far
end_on quote [] m n last true lt so_far = lt
end_on quote (b ∷ bs) m n last false lt so_far = end_on quote bs m (n + 1) last (nat_eq b quote) (omega arith) so_far
end_on quote (b ∷ bs) m n last true lt so_far =
    chosen_some (λ k. m < k) (nat_eq b quote) (end_from (n + 1) (Some n) false quote bs) (Some n) (end_on quote bs m (n + 1) (Some n) false (omega arith) lt) lt

-- where a token begins, it ends behind the place
abbrev Behind : ℕ → Found → Type 0
Behind n (Begins kind e) = n < e
Behind n Bad = Unit {0}
Behind n Open = Unit {0}

found_if : (n : ℕ) (t : Bool) (x y : Found) → Behind n x → Behind n y → Behind n (cond t x y)
found_if n true x y p q = p
found_if n false x y p q = q

text_behind : (n : ℕ) (o : Option ℕ) → IfSome o (λ k. n < k) → Behind n (text_found o)
text_behind n None lt = tt
text_behind n (Some e) lt = lt

quoted_behind : (n : ℕ) (o : Option ℕ) → IfSome o (λ k. n < k) → Behind n (quoted_found n o)
quoted_behind n None lt = tt
quoted_behind n (Some e) lt = found_if n (nat_eq e (n + 2)) Bad (Begins Quoted e) tt lt

feed_behind : (style : Style) (n : ℕ) → Behind n (feed_found style n)
feed_behind Lines n = omega arith
feed_behind Sql n = tt

token_behind : (style : Style) (n : ℕ) (bytes : List ℕ) → Behind n (token_at style n bytes)
token_behind style n [] = tt
token_behind style n (b ∷ bs) =
    let next : n < n + 1 = omega arith in
    found_if n (is_letter b) _ _ (run_on is_word_byte bs n (n + 1) next)
    (found_if n (is_digit b) _ _ (run_on is_digit bs n (n + 1) next)
    (found_if n (nat_eq b 39) _ _ (text_behind n (end_from (n + 1) None false 39 bs) (end_on 39 bs n (n + 1) None false next tt))
    (found_if n (nat_eq b 34) _ _ (quoted_behind n (end_from (n + 1) None false 34 bs) (end_on 34 bs n (n + 1) None false next tt))
    (found_if n (nat_eq b 10) _ _ (feed_behind style n)
    (found_if n (is_double b (first bs)) _ _ (omega arith) (found_if n (is_single b) _ _ next tt))))))

begins_behind : (n e : ℕ) (kind : TokenKind) (found : Found) → Behind n found → found ≡ Begins kind e → n < e
begins_behind n e kind found behind is = subst (Behind n) is behind

-- tokens up to a place are at most as many as the bytes before it
few_tokens : (style : Style) (text : List ℕ) (ts : List Token) (from to : ℕ) → Lexes style text from ts to → length ts + from ≤ to
few_tokens style text [] from to lexes =
    let le = gap_on style (drop from text) from from false (omega arith) in
    let is = lexes in
    omega (arith, le, is)
few_tokens style text (t ∷ ts) from to lexes =
    let le = gap_on style (drop from text) from from false (omega arith) in
    let is = lexes.0 in
    let lt = begins_behind t.start t.end t.kind (token_at style t.start (drop t.start text)) (token_behind style t.start (drop t.start text)) lexes.1 in
    let more = few_tokens style text ts t.end to lexes.2 in
    omega (arith, le, is, lt, more)

stop_within : (style : Style) (text : List ℕ) (s : Stop) → StopsAt style text s → stop_place text s ≤ length text
stop_within style text End stops = omega arith
stop_within style text (stop.BadByte offset) stops = let lt = stops.0 in omega (arith, lt)
stop_within style text (stop.OpenQuote offset) stops = let lt = stops.0 in omega (arith, lt)

-- ---- lines have no more tokens than the text

abbrev tokens_in : List Line → ℕ
tokens_in [] = 0
tokens_in (line ∷ lines) = length line.tokens + tokens_in lines

into_tokens : (l : Lexeme) (lines : List Line) → tokens_in (into_first l lines) ≤ 1 + tokens_in lines
into_tokens l [] = omega arith
into_tokens l (line ∷ lines) = omega arith

cut_tokens : (text : List ℕ) (number : ℕ) (ts : List Token) → tokens_in (cut text number ts) ≤ length ts
cut_tokens text number [] = omega arith
cut_tokens text number (t ∷ ts) = step (kind_is_eol t.kind) (cut_tokens text (number_at text t.end) ts) (cut_tokens text number ts)
  where
    step : (b : Bool) → tokens_in (cut text (number_at text t.end) ts) ≤ length ts → tokens_in (cut text number ts) ≤ length ts →
        tokens_in (cond b (record { number = number; tokens = [] } ∷ cut text (number_at text t.end) ts) (into_first (lexeme_for text t) (cut text number ts))) ≤ length (t ∷ ts)
    step true behind more = omega (arith, behind)
    step false behind more = let into = into_tokens (lexeme_for text t) (cut text number ts) in omega (arith, more, into)

whole_tokens : (text : List ℕ) (lines : List Line) → AreLines text (record { whole = lines; broken = None }) → tokens_in lines ≤ length text
whole_tokens text lines are =
    let few = few_tokens Lines text are.lexed.tokens 0 (stop_place text are.lexed.stop) are.front.lexes in
    let within = stop_within Lines text are.lexed.stop are.front.stops in
    let made = cut_tokens text 1 are.lexed.tokens in
    let same = all_told are.lexed.stop (cut text 1 are.lexed.tokens) are.tells in
    let count : tokens_in (cut text 1 are.lexed.tokens) ≤ length text = omega (arith, few, within, made) in
    subst (λ (ls : List Line). tokens_in ls ≤ length text) (sym same) count
  where
    all_told : (s : Stop) (all : List Line) → Tells s all (record { whole = lines; broken = None }) → lines ≡ all
    all_told End all tells = tells.0
    all_told (stop.BadByte offset) all tells = let none : None ≡ Some tells.0.number = tells.2 in absurd cc
    all_told (stop.OpenQuote offset) all tells = let none : None ≡ Some tells.0.number = tells.2 in absurd cc

-- ---- forms

abbrev slots_in : List (List Slot) → ℕ
slots_in [] = 0
slots_in (form ∷ forms) = length form + slots_in forms

slots-append : (a b : List (List Slot)) → slots_in (a ++ b) ≡ slots_in a + slots_in b
slots-append [] b = omega arith
slots-append (form ∷ a) b = let more = slots-append a b in omega (arith, more)

fit_tokens : (lines : List Line) (forms : List (List Slot)) → AllZip IsOfForm (written lines) forms → slots_in forms ≤ tokens_in lines
fit_tokens [] [] fit = omega arith
fit_tokens [] (form ∷ forms) fit = absurd fit
fit_tokens (line ∷ lines) forms fit = step line.tokens forms (λ others more. fit_tokens lines others more) fit
  where
    step : (tokens : List Lexeme) (forms : List (List Slot)) → ((others : List (List Slot)) → AllZip IsOfForm (written lines) others → slots_in others ≤ tokens_in lines) → AllZip IsOfForm (behind_tokens tokens (written lines)) forms → slots_in forms ≤ length tokens + tokens_in lines
    step [] forms again fit = let more = again forms fit in omega (arith, more)
    step (t ∷ ts) [] again fit = absurd fit
    step (t ∷ ts) (form ∷ forms) again fit =
        let here = Takes-length (t ∷ ts) form [] fit.0 in
        let more = again forms fit.1 in
        omega (arith, here, more)

-- a list has no more members than its form has slots
members_few : {X : Type 0} (slots : X → List Slot) → ((x : X) → 1 ≤ length (slots x)) → (xs : List X) → length xs ≤ length (list_form slots xs)
members_few slots some [] = omega arith
members_few slots some (x ∷ xs) = let more = list_length slots some xs x in omega (arith, more)

access_few : (step : Step) → length step.places + 1 ≤ length (access_form step)
access_few step =
    let places = members_few place_form some_place step.places in
    let all = length-append (list_form place_form step.places) (Mark (codes ")") ∷ []) in
    omega (arith, places, all)

steps_few : (steps : List Step) → step_places steps + length steps ≤ slots_in (map access_form steps)
steps_few [] = omega arith
steps_few (step ∷ steps) =
    let here = access_few step in
    let more = steps_few steps in
    omega (arith, here, more)

branch_few : (branch : Branch) → step_places branch.steps + length branch.output + length branch.steps + 1 ≤ slots_in (branch_forms branch)
branch_few branch =
    let steps = steps_few branch.steps in
    let outs = members_few out_form some_out branch.output in
    let all = slots-append (map access_form branch.steps) (output_form branch.output ∷ []) in
    omega (arith, steps, outs, all)

branches_few : (branches : List Branch) → branch_places branches + length branches ≤ slots_in (flat_map branch_forms branches)
branches_few [] = omega arith
branches_few (branch ∷ branches) =
    let here = branch_few branch in
    let more = branches_few branches in
    let all = slots-append (branch_forms branch) (flat_map branch_forms branches) in
    omega (arith, here, more, all)

each_few : (n : ℕ) (branches : List Branch) → slots_in (flat_map branch_forms branches) ≤ n → AllByRecursion (λ branch. length branch.steps ≤ n) branches
each_few n [] le = tt
each_few n (branch ∷ branches) le =
    let here = branch_few branch in
    let all = slots-append (branch_forms branch) (flat_map branch_forms branches) in
    (omega (arith, here, all, le), each_few n branches (omega (arith, all, le)))

all_slots : (text : List ℕ) (plan : Plan) → SaysPlan text plan → slots_in (flat_map branch_forms plan.branches) ≤ length text
all_slots text plan is =
    let tokens = whole_tokens text is.0 is.1 in
    let forms = fit_tokens is.0 (plan_forms plan) is.2.1 in
    let all = slots-append (flat_map branch_forms plan.branches) ((Key (codes "end") ∷ []) ∷ []) in
    omega (arith, tokens, forms, all)

pub few_places : (text : List ℕ) (plan : Plan) → SaysPlan text plan → places_of plan ≤ length text
few_places text plan is =
    let all = all_slots text plan is in
    let few = branches_few plan.branches in
    omega (arith, all, few)

each_within : (m n : ℕ) (branches : List Branch) → m ≤ n → AllByRecursion (λ branch. length branch.steps ≤ m) branches → AllByRecursion (λ branch. length branch.steps ≤ n) branches
each_within m n [] le all = tt
each_within m n (branch ∷ branches) le all = let here = all.0 in (omega (arith, here, le), each_within m n branches le all.1)

pub text_fits : (text : List ℕ) (plan : Plan) → length text ≤ 1048576 → SaysPlan text plan → PlanFits plan
text_fits text plan short is =
    let all = all_slots text plan is in
    let few = branches_few plan.branches in
    record {
      writable = is.2.0;
      few = record { branches = omega (arith, all, few, short); steps = each_within (length text) 1048576 plan.branches short (each_few (length text) plan.branches all) };
    }
