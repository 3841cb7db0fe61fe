-- A printed plan is cut into the lines of that plan.
use Rattle.std.proofs.Common.{◌≡◌, ℕ, ◌+◌, ◌^◌, ◌<◌, Bool, true, false, List, [], ◌∷◌, ◌++◌, map, refl, sym, ap, subst, ◌∙◌, append_assoc, arith}
use Rattle.std.specs.Prelude.{codes, flat_map}
use Rattle.std.specs.List.{AllByRecursion, AllZip}
use Rattle.std.specs.Fmt.{decimal}
use Rattle.std.specs.Str.{IsUtf8}
use Rattle.std.specs.Cmp.Lexicographic.{nat_list_eq_equiv}
use Rattle.std.proofs.lemmas.List.{append-nil}
use Rattle.lists.proofs.Members.{all_along}
use Rattle.pq_text.specs.declared.token.Style.TheVariants.{Lines}
use Rattle.pq_text.specs.declared.lexeme.Lexeme.{Lexeme}
use Rattle.pq_text.specs.Lines.{feeds}
use Rattle.pq_text.specs.Forms.{Slot, Key, Mark, Takes, list_form, IsSome}
use Rattle.pq_text.specs.Printing.{printed_name, printed_value, Stops}
use Rattle.pq_text.specs.Listed.{listed}
use Rattle.pq_text.specs.Pieces.{Piece, behind_blank, text_of, piece_lexeme, IsPrintedLine, ArePrintedLines, lines_text, numbered, word_piece, mark_piece, name_piece, value_piece, number_piece, further_pieces, list_pieces}
use Rattle.pq_text.proofs.Pieces.{printed_lines, text_of-append}
use Rattle.pq_text.proofs.PieceLaws.{goes_on, name_is_lexed, value_is_lexed, word_is_lexed, open_is_lexed, close_is_lexed, dollar_is_lexed, number_is_lexed, AreLexed-append, AreInLine-append, Reads, Reads-append, name_fits, value_reads, name_in_line, IsPrinted, list_lexed, list_reads, list_in_line}
use Rattle.meaning.specs.declared.types.Place.{Place}
use Rattle.meaning.specs.declared.types.Place.TheVariants.{Const, Col, New}
use Rattle.meaning.specs.declared.types.Out.{Out}
use Rattle.meaning.specs.declared.types.Out.TheVariants.{Const as Fixed, Col as Made}
use Rattle.meaning.specs.declared.types.Step.{Step}
use Rattle.meaning.specs.declared.types.Branch.{Branch}
use Rattle.meaning.specs.declared.types.Plan.{Plan}
use Rattle.pq_text.proofs.Forms.{some_listed}
use Rattle.plan_form.specs.Fitting.{IsWritablePlace, IsWritableOut, IsWritableStep, IsWritableBranch, IsWritable}
use Rattle.plan_form.specs.Printing.{place_text, out_text, step_text, branch_text, plan_text}
use Rattle.plan_form.specs.Grammar.{place_form, out_form, opening_form, access_form, output_form, branch_forms, plan_forms, IsOfForm, behind_tokens, written, SaysPlan, IsPlanText}

-- ---- the pieces of a plan

abbrev place_pieces : Bool → Place → List Piece
place_pieces t (Const c) = value_piece t c ∷ []
place_pieces t (Col k) = mark_piece t (codes "$") ∷ number_piece false k ∷ []
place_pieces t New = word_piece t (codes "new") ∷ []

abbrev out_pieces : Bool → Out → List Piece
out_pieces t (Fixed c) = value_piece t c ∷ []
out_pieces t (Made k) = mark_piece t (codes "$") ∷ number_piece false k ∷ []

abbrev lone_pieces : List ℕ → List Piece
lone_pieces text = word_piece false text ∷ []

abbrev opening_pieces : ℕ → List Piece
opening_pieces width = word_piece false (codes "plan") ∷ number_piece true width ∷ []

abbrev access_pieces : Step → List Piece
access_pieces step = word_piece false (codes "access") ∷ name_piece true step.method ∷ mark_piece false (codes "(") ∷ (list_pieces place_pieces false step.places ++ mark_piece false (codes ")") ∷ [])

abbrev output_pieces : List Out → List Piece
output_pieces outs = word_piece false (codes "output") ∷ list_pieces out_pieces true outs

abbrev branch_lines : Branch → List (List Piece)
branch_lines branch = lone_pieces (codes "branch") ∷ (map access_pieces branch.steps ++ output_pieces branch.output ∷ [])

abbrev plan_lines : Plan → List (List Piece)
plan_lines plan = opening_pieces plan.width ∷ (flat_map branch_lines plan.branches ++ lone_pieces (codes "end") ∷ [])

-- ---- members

column_reads : (t : Bool) (k : ℕ) → Reads (mark_piece t (codes "$") ∷ number_piece false k ∷ []) (place_form (Col k))
column_reads t k = λ rest. (refl, ((refl, nat_list_eq_equiv.refl (decimal k)), refl))

place_printed : (p : Place) → IsWritablePlace p → IsPrinted place_pieces place_form p
place_printed (Const c) w = record { lexed = λ t rest stops. (value_is_lexed t c rest stops, tt); reads = λ t. value_reads t c; in_line = λ t. (refl, tt) }
place_printed (Col k) w = record { lexed = λ t rest stops. (dollar_is_lexed t (text_of (number_piece false k ∷ []) ++ rest), (number_is_lexed false k rest (omega (arith, w)) stops, tt)); reads = λ t. column_reads t k; in_line = λ t. (refl, (refl, tt)) }
place_printed New w = record { lexed = λ t rest stops. (word_is_lexed t (codes "new") rest refl stops, tt); reads = λ t rest. (refl, refl); in_line = λ t. (refl, tt) }

out_printed : (o : Out) → IsWritableOut o → IsPrinted out_pieces out_form o
out_printed (Fixed c) w = record { lexed = λ t rest stops. (value_is_lexed t c rest stops, tt); reads = λ t. value_reads t c; in_line = λ t. (refl, tt) }
out_printed (Made k) w = record { lexed = λ t rest stops. (dollar_is_lexed t (text_of (number_piece false k ∷ []) ++ rest), (number_is_lexed false k rest (omega (arith, w)) stops, tt)); reads = λ t. column_reads t k; in_line = λ t. (refl, (refl, tt)) }

-- ---- lines

-- the pieces are a printed line of the form
pub record IsLineOf (line : List Piece) (form : List Slot) : Type 0 where
  pub some : IsSome line
  pub printed : IsPrintedLine Lines line
  pub reads : Reads line form

opening_is : (width : ℕ) → width < 2 ^ 64 → IsLineOf (opening_pieces width) (opening_form width)
opening_is width fits = record {
  some = tt;
  printed = record { lexed = λ rest. (word_is_lexed false (codes "plan") (text_of (number_piece true width ∷ []) ++ 10 ∷ rest) refl refl, (number_is_lexed true width (10 ∷ rest) fits refl, tt)); one = (refl, (refl, tt)) };
  reads = λ rest. (refl, ((refl, nat_list_eq_equiv.refl (decimal width)), refl));
}

branch_is : IsLineOf (lone_pieces (codes "branch")) (Key (codes "branch") ∷ [])
branch_is = record { some = tt; printed = record { lexed = λ rest. (word_is_lexed false (codes "branch") (10 ∷ rest) refl refl, tt); one = (refl, tt) }; reads = λ rest. (refl, refl) }

end_is : IsLineOf (lone_pieces (codes "end")) (Key (codes "end") ∷ [])
end_is = record { some = tt; printed = record { lexed = λ rest. (word_is_lexed false (codes "end") (10 ∷ rest) refl refl, tt); one = (refl, tt) }; reads = λ rest. (refl, refl) }

abbrev close : List Piece
close = mark_piece false (codes ")") ∷ []

-- the pieces behind the method's name, and behind the bracket
abbrev inside_pieces : Step → List Piece
inside_pieces step = list_pieces place_pieces false step.places ++ close

abbrev bracket_pieces : Step → List Piece
bracket_pieces step = mark_piece false (codes "(") ∷ inside_pieces step

access_is : (step : Step) → IsWritableStep step → IsLineOf (access_pieces step) (access_form step)
access_is step w =
    let all = all_along IsWritablePlace (IsPrinted place_pieces place_form) place_printed step.places w.places in
    let named = some_listed step.method w.named in
    let list = list_pieces place_pieces false step.places in
    let inner = Reads-append list close (list_form place_form step.places) (Mark (codes ")") ∷ []) (list_reads place_pieces place_form false step.places all) (λ rest. (refl, refl)) in
    record {
      some = tt;
      printed = record {
        lexed = λ rest.
            let inside = AreLexed-append list close (10 ∷ rest) (list_lexed place_pieces place_form false step.places (text_of close ++ 10 ∷ rest) all refl) (close_is_lexed false (10 ∷ rest), tt) in
            let bracket = open_is_lexed false (text_of (inside_pieces step) ++ 10 ∷ rest) in
            let name = name_is_lexed true step.method (text_of (bracket_pieces step) ++ 10 ∷ rest) named refl in
            let word = word_is_lexed false (codes "access") (text_of (name_piece true step.method ∷ bracket_pieces step) ++ 10 ∷ rest) refl refl in
            (word, (name, (bracket, inside)));
        one = (refl, ((name_in_line true step.method).0, (refl, AreInLine-append list close (list_in_line place_pieces place_form false step.places all) (refl, tt))));
      };
      reads = λ rest. (refl, (name_fits true step.method named, (refl, inner rest)));
    }

output_stops : (outs : List Out) (rest : List ℕ) → IsSome outs → Stops goes_on (text_of (list_pieces out_pieces true outs) ++ rest)
output_stops [] rest some = absurd some
output_stops (Fixed c ∷ outs) rest some = refl
output_stops (Made k ∷ outs) rest some = refl

output_is : (outs : List Out) → IsSome outs → AllByRecursion IsWritableOut outs → IsLineOf (output_pieces outs) (output_form outs)
output_is outs some w =
    let all = all_along IsWritableOut (IsPrinted out_pieces out_form) out_printed outs w in
    let inner = list_reads out_pieces out_form true outs all in
    record {
      some = tt;
      printed = record {
        lexed = λ rest. (word_is_lexed false (codes "output") (text_of (list_pieces out_pieces true outs) ++ 10 ∷ rest) refl (output_stops outs (10 ∷ rest) some), list_lexed out_pieces out_form true outs (10 ∷ rest) all refl);
        one = (refl, list_in_line out_pieces out_form true outs all);
      };
      reads = λ rest. (refl, inner rest);
    }

-- ---- all lines

abbrev pub AreLinesOf : List (List Piece) → List (List Slot) → Type 0
AreLinesOf lines forms = AllZip IsLineOf lines forms

pub lines-append : (xs ys : List (List Piece)) (a b : List (List Slot)) → AreLinesOf xs a → AreLinesOf ys b → AreLinesOf (xs ++ ys) (a ++ b)
lines-append [] ys [] b p q = q
lines-append [] ys (f ∷ a) b p q = absurd p
lines-append (x ∷ xs) ys [] b p q = absurd p
lines-append (x ∷ xs) ys (f ∷ a) b p q = (p.0, lines-append xs ys a b p.1 q)

steps_are : (steps : List Step) → AllByRecursion IsWritableStep steps → AreLinesOf (map access_pieces steps) (map access_form steps)
steps_are [] all = tt
steps_are (step ∷ steps) all = (access_is step all.0, steps_are steps all.1)

branch_are : (branch : Branch) → IsWritableBranch branch → AreLinesOf (branch_lines branch) (branch_forms branch)
branch_are branch w = (branch_is, lines-append (map access_pieces branch.steps) (output_pieces branch.output ∷ []) (map access_form branch.steps) (output_form branch.output ∷ []) (steps_are branch.steps w.steps) (output_is branch.output (some_listed branch.output w.some) w.outs, tt))

branches_are : (branches : List Branch) → AllByRecursion IsWritableBranch branches → AreLinesOf (flat_map branch_lines branches) (flat_map branch_forms branches)
branches_are [] all = tt
branches_are (branch ∷ branches) all = lines-append (branch_lines branch) (flat_map branch_lines branches) (branch_forms branch) (flat_map branch_forms branches) (branch_are branch all.0) (branches_are branches all.1)

plan_are : (plan : Plan) → IsWritable plan → AreLinesOf (plan_lines plan) (plan_forms plan)
plan_are plan w =
    let most = w.most in
    (opening_is plan.width (omega (arith, most)), lines-append (flat_map branch_lines plan.branches) (lone_pieces (codes "end") ∷ []) (flat_map branch_forms plan.branches) ((Key (codes "end") ∷ []) ∷ []) (branches_are plan.branches w.branches) (end_is, tt))

pub all_printed : (lines : List (List Piece)) (forms : List (List Slot)) → AreLinesOf lines forms → ArePrintedLines Lines lines
all_printed [] forms are = tt
all_printed (line ∷ lines) [] are = absurd are
all_printed (line ∷ lines) (form ∷ forms) are = (are.0.printed, all_printed lines forms are.1)

pub all_fit : (n : ℕ) (lines : List (List Piece)) (forms : List (List Slot)) → AreLinesOf lines forms → AllZip IsOfForm (written (numbered n lines)) forms
all_fit n [] [] are = tt
all_fit n [] (form ∷ forms) are = absurd are
all_fit n (line ∷ lines) [] are = absurd are
all_fit n (line ∷ lines) (form ∷ forms) are = step line (λ m. all_fit m lines forms are.1) are.0.some (subst (λ (ls : List Lexeme). Takes ls form []) (append-nil (map piece_lexeme line)) (are.0.reads []))
  where
    step : (line : List Piece) → ((m : ℕ) → AllZip IsOfForm (written (numbered m lines)) forms) → IsSome line → Takes (map piece_lexeme line) form [] → AllZip IsOfForm (behind_tokens (map piece_lexeme line) (written (numbered (n + feeds (text_of line) + 1) lines))) (form ∷ forms)
    step [] again some t = absurd some
    step (x ∷ xs) again some t = (t, again (n + feeds (text_of (x ∷ xs)) + 1))

-- ---- the text

module _ {X : Type 0} (item : Bool → X → List Piece) (text : X → List ℕ) (each : (t : Bool) (x : X) → text_of (item t x) ≡ behind_blank t (text x)) where
  further_text : (xs : List X) → text_of (further_pieces item xs) ≡ flat_map (λ y. codes ", " ++ text y) xs
  further_text [] = refl
  further_text (x ∷ xs) =
      let F : List ℕ = flat_map (λ y. codes ", " ++ text y) xs in
      ap (λ (r : List ℕ). 44 ∷ r) (text_of-append (item true x) (further_pieces item xs) ∙ ap (λ (r : List ℕ). r ++ text_of (further_pieces item xs)) (each true x) ∙ ap (λ (r : List ℕ). 32 ∷ (text x ++ r)) (further_text xs))

  blank-append : (t : Bool) (a b : List ℕ) → behind_blank t a ++ b ≡ behind_blank t (a ++ b)
  blank-append true a b = refl
  blank-append false a b = refl

  list_text : (t : Bool) (x : X) (xs : List X) → text_of (list_pieces item t (x ∷ xs)) ≡ behind_blank t (listed text (x ∷ xs))
  list_text t x xs =
      text_of-append (item t x) (further_pieces item xs) ∙ ap (λ (r : List ℕ). r ++ text_of (further_pieces item xs)) (each t x)
      ∙ blank-append t (text x) (text_of (further_pieces item xs)) ∙ ap (λ (r : List ℕ). behind_blank t (text x ++ r)) (further_text xs)

value_text : (t : Bool) (c : List ℕ) → behind_blank t (printed_value c ++ []) ≡ behind_blank t (printed_value c)
value_text t c = ap (behind_blank t) (append-nil (printed_value c))

column_is : (t : Bool) (k : ℕ) → behind_blank t (36 ∷ (decimal k ++ [])) ≡ behind_blank t (36 ∷ decimal k)
column_is t k = ap (λ (r : List ℕ). behind_blank t (36 ∷ r)) (append-nil (decimal k))

place_is : (t : Bool) (p : Place) → text_of (place_pieces t p) ≡ behind_blank t (place_text p)
place_is t (Const c) = value_text t c
place_is t (Col k) = column_is t k
place_is t New = refl

out_is : (t : Bool) (o : Out) → text_of (out_pieces t o) ≡ behind_blank t (out_text o)
out_is t (Fixed c) = value_text t c
out_is t (Made k) = column_is t k

opening_text : (width : ℕ) (rest : List ℕ) → text_of (opening_pieces width) ++ 10 ∷ rest ≡ codes "plan " ++ (decimal width ++ 10 ∷ rest)
opening_text width rest = ap (λ (r : List ℕ). codes "plan " ++ (r ++ 10 ∷ rest)) (append-nil (decimal width))

pub line_join : (name list rest : List ℕ) → (name ++ 40 ∷ (list ++ 41 ∷ [])) ++ 10 ∷ rest ≡ (((name ++ 40 ∷ []) ++ list) ++ 41 ∷ 10 ∷ []) ++ rest
line_join name list rest =
    append_assoc name (40 ∷ (list ++ 41 ∷ [])) (10 ∷ rest) ∙ ap (λ (r : List ℕ). name ++ 40 ∷ r) (append_assoc list (41 ∷ []) (10 ∷ rest))
    ∙ sym (append_assoc name (40 ∷ []) (list ++ 41 ∷ 10 ∷ rest)) ∙ sym (append_assoc (name ++ 40 ∷ []) list (41 ∷ 10 ∷ rest)) ∙ sym (append_assoc ((name ++ 40 ∷ []) ++ list) (41 ∷ 10 ∷ []) rest)

places_text : (places : List Place) → IsSome places → text_of (list_pieces place_pieces false places) ≡ listed place_text places
places_text [] some = absurd some
places_text (x ∷ xs) some = list_text place_pieces place_text place_is false x xs

access_text : (step : Step) (rest : List ℕ) → IsSome step.places → text_of (access_pieces step) ++ 10 ∷ rest ≡ step_text step ++ rest
access_text step rest some =
    let name : List ℕ = printed_name step.method in
    let list : List ℕ = listed place_text step.places in
    let inner : text_of (inside_pieces step) ≡ list ++ 41 ∷ [] = text_of-append (list_pieces place_pieces false step.places) close ∙ ap (λ (r : List ℕ). r ++ 41 ∷ []) (places_text step.places some) in
    ap (λ (r : List ℕ). codes "access " ++ ((name ++ 40 ∷ r) ++ 10 ∷ rest)) inner ∙ ap (λ (r : List ℕ). codes "access " ++ r) (line_join name list rest)

output_text : (outs : List Out) (rest : List ℕ) → IsSome outs → text_of (output_pieces outs) ++ 10 ∷ rest ≡ (codes "output " ++ (listed out_text outs ++ codes "\n")) ++ rest
output_text [] rest some = absurd some
output_text (x ∷ xs) rest some =
    let list = listed out_text (x ∷ xs) in
    ap (λ (r : List ℕ). codes "output" ++ (r ++ 10 ∷ rest)) (list_text out_pieces out_text out_is true x xs) ∙ ap (λ (r : List ℕ). codes "output " ++ r) (sym (append_assoc list (10 ∷ []) rest))

steps_text : (steps : List Step) (more : List (List Piece)) → AllByRecursion IsWritableStep steps → lines_text (map access_pieces steps ++ more) ≡ flat_map step_text steps ++ lines_text more
steps_text [] more all = refl
steps_text (step ∷ steps) more all =
    access_text step (lines_text (map access_pieces steps ++ more)) (some_listed step.places all.0.some)
    ∙ ap (λ (r : List ℕ). step_text step ++ r) (steps_text steps more all.1) ∙ sym (append_assoc (step_text step) (flat_map step_text steps) (lines_text more))

branch_join : (front word list behind rest : List ℕ) → front ++ ((word ++ (list ++ behind)) ++ rest) ≡ (((front ++ word) ++ list) ++ behind) ++ rest
branch_join front word list behind rest =
    ap (λ (r : List ℕ). front ++ r) (append_assoc word (list ++ behind) rest ∙ ap (λ (r : List ℕ). word ++ r) (append_assoc list behind rest))
    ∙ sym (append_assoc front word (list ++ (behind ++ rest))) ∙ sym (append_assoc (front ++ word) list (behind ++ rest)) ∙ sym (append_assoc ((front ++ word) ++ list) behind rest)

branch_is_text : (branch : Branch) (more : List (List Piece)) → IsWritableBranch branch → lines_text (branch_lines branch ++ more) ≡ branch_text branch ++ lines_text more
branch_is_text branch more w =
    let front : List ℕ = flat_map step_text branch.steps in
    let list : List ℕ = listed out_text branch.output in
    ap (λ (ls : List (List Piece)). codes "branch\n" ++ lines_text ls) (append_assoc (map access_pieces branch.steps) (output_pieces branch.output ∷ []) more)
    ∙ ap (λ (r : List ℕ). codes "branch\n" ++ r)
    (steps_text branch.steps (output_pieces branch.output ∷ more) w.steps ∙ ap (λ (r : List ℕ). front ++ r) (output_text branch.output (lines_text more) (some_listed branch.output w.some)) ∙ branch_join front (codes "output ") list (codes "\n") (lines_text more))

branches_text : (branches : List Branch) (more : List (List Piece)) → AllByRecursion IsWritableBranch branches → lines_text (flat_map branch_lines branches ++ more) ≡ flat_map branch_text branches ++ lines_text more
branches_text [] more all = refl
branches_text (branch ∷ branches) more all =
    ap lines_text (append_assoc (branch_lines branch) (flat_map branch_lines branches) more)
    ∙ branch_is_text branch (flat_map branch_lines branches ++ more) all.0
    ∙ ap (λ (r : List ℕ). branch_text branch ++ r) (branches_text branches more all.1)
    ∙ sym (append_assoc (branch_text branch) (flat_map branch_text branches) (lines_text more))

plan_join : (digits front behind : List ℕ) → digits ++ 10 ∷ (front ++ behind) ≡ ((digits ++ 10 ∷ []) ++ front) ++ behind
plan_join digits front behind = sym (append_assoc digits (10 ∷ []) (front ++ behind)) ∙ sym (append_assoc (digits ++ 10 ∷ []) front behind)

plan_is_text : (plan : Plan) → IsWritable plan → lines_text (plan_lines plan) ≡ plan_text plan
plan_is_text plan w =
    opening_text plan.width (lines_text (flat_map branch_lines plan.branches ++ lone_pieces (codes "end") ∷ []))
    ∙ ap (λ (r : List ℕ). codes "plan " ++ (decimal plan.width ++ 10 ∷ r)) (branches_text plan.branches (lone_pieces (codes "end") ∷ []) w.branches)
    ∙ ap (λ (r : List ℕ). codes "plan " ++ r) (plan_join (decimal plan.width) (flat_map branch_text plan.branches) (codes "end\n"))

pub printed_again : (plan : Plan) → IsWritable plan → SaysPlan (plan_text plan) plan
printed_again plan w =
    let are = plan_are plan w in
    let cut = printed_lines (plan_lines plan) (all_printed (plan_lines plan) (plan_forms plan) are) in
    subst (λ (text : List ℕ). SaysPlan text plan) (plan_is_text plan w) (numbered 1 (plan_lines plan), cut, (w, all_fit 1 (plan_lines plan) (plan_forms plan) are))

-- What is printed of a plan is the plan's text, where it is UTF-8.
pub printed_read : (plan : Plan) (bytes : List ℕ) → bytes ≡ plan_text plan → IsUtf8 bytes → IsWritable plan → IsPlanText bytes plan
printed_read plan bytes is utf8 w = (utf8, subst (λ (text : List ℕ). SaysPlan text plan) (sym is) (printed_again plan w))
