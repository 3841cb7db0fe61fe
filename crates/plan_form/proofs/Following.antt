-- Lines follow each other as a plan's lines exactly where they are read one behind another.
use Rattle.std.proofs.Common.{◌≡◌, ℕ, ◌≤◌, Bool, true, false, cond, List, [], ◌∷◌, ◌++◌, map, Option, None, Some, refl, sym, ap, subst, ◌∙◌, append_assoc, lit≤}
use Rattle.std.specs.Prelude.{codes, flat_map}
use Rattle.std.specs.List.{AllByRecursion, AllZip}
use Rattle.std.specs.Fmt.{decimal}
use Rattle.std.specs.Cmp.Lexicographic.{nat_list_eq_equiv}
use Rattle.std.proofs.lemmas.List.{append-nil, map-append}
use Rattle.lists.proofs.Members.{some_injective}
use Rattle.pq_text.specs.declared.lexeme.Lexeme.{Lexeme}
use Rattle.pq_text.specs.declared.token.TokenKind.TheVariants.{Word, Text, Number}
use Rattle.pq_text.specs.Lexemes.{◌>>=◌, word_next}
use Rattle.pq_text.specs.Forms.{Slot, Key, Mark, Name, list_form}
use Rattle.pq_text.proofs.Forms.{bind_some, other_word, this_word}
use Rattle.pq_text.proofs.Spans.{all_push}
use Rattle.meaning.specs.declared.types.Out.{Out}
use Rattle.meaning.specs.declared.types.Out.TheVariants.{Const as Fixed}
use Rattle.meaning.specs.declared.types.Step.{Step}
use Rattle.meaning.specs.declared.types.Branch.{Branch}
use Rattle.meaning.specs.declared.types.Plan.{Plan}
use Rattle.plan_form.specs.declared.progress.Progress.{Progress}
use Rattle.plan_form.specs.declared.progress.Progress.TheVariants.{Opening, Between, Inside, Ended}
use Rattle.plan_form.specs.Fitting.{IsWritableStep, IsWritableBranch, IsWritable}
use Rattle.plan_form.specs.Grammar.{opening_form, access_form, place_form, out_form, output_form, branch_forms, plan_forms, IsOfForm, ArePlanLines, BeginPlan}
use Rattle.plan_form.specs.Reading.{opening_at, access_at, output_at, lone_at, next_at}
use Rattle.plan_form.proofs.ByLines as by_lines
use Rattle.plan_form.proofs.ByLines.{Fit, Fit-append, Fit-split}
use Rattle.plan_form.proofs.ReadLines.{lone_found, lone_again, opening_found, opening_again, access_found, access_again, output_found, output_again}

flat-append : {X Y : Type 0} (f : X → List Y) (xs ys : List X) → flat_map f (xs ++ ys) ≡ flat_map f xs ++ flat_map f ys
flat-append f [] ys = refl
flat-append f (x ∷ xs) ys = ap (λ r. f x ++ r) (flat-append f xs ys) ∙ sym (append_assoc (f x) (flat_map f xs) (flat_map f ys))

-- ---- what has been read

abbrev branch_form : List Slot
branch_form = Key (codes "branch") ∷ []

abbrev end_form : List Slot
end_form = Key (codes "end") ∷ []

abbrev pub forms_of : Progress → List (List Slot)
forms_of Opening = []
forms_of (Between width branches) = opening_form width ∷ flat_map branch_forms branches
forms_of (Inside width branches steps) = opening_form width ∷ (flat_map branch_forms branches ++ branch_form ∷ map access_form steps)
forms_of (Ended plan) = plan_forms plan

abbrev IsWidth : ℕ → Type 0
IsWidth width = (1 ≤ width) × (width ≤ 64)

abbrev pub IsSound : Progress → Type 0
IsSound Opening = Unit {0}
IsSound (Between width branches) = IsWidth width × AllByRecursion IsWritableBranch branches
IsSound (Inside width branches steps) = IsWidth width × AllByRecursion IsWritableBranch branches × AllByRecursion IsWritableStep steps
IsSound (Ended plan) = IsWritable plan

-- one line more has been read
abbrev Follows : Progress → List Lexeme → Progress → Type 0
Follows = by_lines.Follows forms_of IsSound

opening_follows : (tokens : List Lexeme) (more : Progress) → next_at Opening tokens ≡ Some more → Follows Opening tokens more
opening_follows tokens more e =
    let a = bind_some (opening_at tokens) (λ (x : ℕ × List Lexeme). Some (Between x.0 [])) more e in
    let f = opening_found tokens a.0.0 a.0.1 a.1 in
    subst (Follows Opening tokens) (some_injective (Between a.0.0 []) more a.2) (record { form = opening_form a.0.0; forms_are = refl; of_form = f.0; sound = ((f.1, f.2), tt) })

between_follows : (width : ℕ) (branches : List Branch) (tokens : List Lexeme) (t : Bool) (more : Progress) → IsSound (Between width branches) →
    cond t (lone_at (codes "branch") tokens >>= λ r. Some (Inside width branches [])) (lone_at (codes "end") tokens >>= λ r. Some (Ended (record { width = width; branches = branches }))) ≡ Some more →
    Follows (Between width branches) tokens more
between_follows width branches tokens true more sound e =
    let a = bind_some (lone_at (codes "branch") tokens) (λ (r : List Lexeme). Some (Inside width branches [])) more e in
    subst (Follows (Between width branches) tokens) (some_injective (Inside width branches []) more a.2)
    (record { form = branch_form; forms_are = refl; of_form = lone_found (codes "branch") tokens a.0 a.1; sound = (sound.0, sound.1, tt) })
between_follows width branches tokens false more sound e =
    let plan : Plan = record { width = width; branches = branches } in
    let a = bind_some (lone_at (codes "end") tokens) (λ (r : List Lexeme). Some (Ended plan)) more e in
    subst (Follows (Between width branches) tokens) (some_injective (Ended plan) more a.2)
    (record { form = end_form; forms_are = refl; of_form = lone_found (codes "end") tokens a.0 a.1; sound = record { some = sound.0.0; most = sound.0.1; branches = sound.1 } })

-- the forms of a branch behind others
branch_behind : (branches : List Branch) (steps : List Step) (output : List Out) →
    flat_map branch_forms (branches ++ record { steps = steps; output = output } ∷ []) ≡ (flat_map branch_forms branches ++ branch_form ∷ map access_form steps) ++ output_form output ∷ []
branch_behind branches steps output =
    let branch : Branch = record { steps = steps; output = output } in
    flat-append branch_forms branches (branch ∷ [])
    ∙ ap (λ (r : List (List Slot)). flat_map branch_forms branches ++ r) (append-nil (branch_forms branch))
    ∙ sym (append_assoc (flat_map branch_forms branches) (branch_form ∷ map access_form steps) (output_form output ∷ []))

step_behind : (branches : List Branch) (steps : List Step) (step : Step) →
    (flat_map branch_forms branches ++ branch_form ∷ map access_form (steps ++ step ∷ [])) ≡ (flat_map branch_forms branches ++ branch_form ∷ map access_form steps) ++ access_form step ∷ []
step_behind branches steps step =
    ap (λ (r : List (List Slot)). flat_map branch_forms branches ++ branch_form ∷ r) (map-append access_form steps (step ∷ []))
    ∙ sym (append_assoc (flat_map branch_forms branches) (branch_form ∷ map access_form steps) (access_form step ∷ []))

inside_follows : (width : ℕ) (branches : List Branch) (steps : List Step) (tokens : List Lexeme) (t : Bool) (more : Progress) → IsSound (Inside width branches steps) →
    cond t (access_at tokens >>= λ x. Some (Inside width branches (steps ++ x.0 ∷ []))) (output_at tokens >>= λ x. Some (Between width (branches ++ record { steps = steps; output = x.0 } ∷ []))) ≡ Some more →
    Follows (Inside width branches steps) tokens more
inside_follows width branches steps tokens true more sound e =
    let a = bind_some (access_at tokens) (λ (x : Step × List Lexeme). Some (Inside width branches (steps ++ x.0 ∷ []))) more e in
    let f = access_found tokens a.0.0 a.0.1 a.1 in
    subst (Follows (Inside width branches steps) tokens) (some_injective (Inside width branches (steps ++ a.0.0 ∷ [])) more a.2)
    (record {
      form = access_form a.0.0;
      forms_are = ap (λ (r : List (List Slot)). opening_form width ∷ r) (step_behind branches steps a.0.0);
      of_form = f.0;
      sound = (sound.0, sound.1, all_push IsWritableStep steps a.0.0 sound.2 f.1);
    })
inside_follows width branches steps tokens false more sound e =
    let a = bind_some (output_at tokens) (λ (x : List Out × List Lexeme). Some (Between width (branches ++ record { steps = steps; output = x.0 } ∷ []))) more e in
    let f = output_found tokens a.0.0 a.0.1 a.1 in
    let branch : Branch = record { steps = steps; output = a.0.0 } in
    let whole : IsWritableBranch branch = record { steps = sound.2; some = f.1; outs = f.2 } in
    subst (Follows (Inside width branches steps) tokens) (some_injective (Between width (branches ++ branch ∷ [])) more a.2)
    (record {
      form = output_form a.0.0;
      forms_are = ap (λ (r : List (List Slot)). opening_form width ∷ r) (branch_behind branches steps a.0.0);
      of_form = f.0;
      sound = (sound.0, all_push IsWritableBranch branches branch sound.1 whole);
    })

next_follows : (done : Progress) (tokens : List Lexeme) (more : Progress) → IsSound done → next_at done tokens ≡ Some more → Follows done tokens more
next_follows Opening tokens more sound e = opening_follows tokens more e
next_follows (Between width branches) tokens more sound e = between_follows width branches tokens (word_next (codes "branch") tokens) more sound e
next_follows (Inside width branches steps) tokens more sound e = inside_follows width branches steps tokens (word_next (codes "access") tokens) more sound e
next_follows (Ended plan) tokens more sound e = absurd cc

-- ---- lines one behind another

abbrev pub read_from : Progress → List (List Lexeme) → Option Progress
read_from = by_lines.read_from next_at

-- what lines that were read have
abbrev pub AreRead : Progress → List (List Lexeme) → Progress → Type 0
AreRead = by_lines.AreRead forms_of IsSound

pub lines_found : (lines : List (List Lexeme)) (done last : Progress) → IsSound done → read_from done lines ≡ Some last → AreRead done lines last
lines_found = by_lines.lines_found next_at forms_of IsSound next_follows

-- ---- a plan's lines are read

abbrev behind_access : Step → List Slot
behind_access step = Name step.method ∷ Mark (codes "(") ∷ (list_form place_form step.places ++ Mark (codes ")") ∷ [])

steps_again : (width : ℕ) (branches : List Branch) (steps : List Step) (done : List Step) (lines : List (List Lexeme)) → AllByRecursion IsWritableStep steps → Fit lines (map access_form steps) →
    read_from (Inside width branches done) lines ≡ Some (Inside width branches (done ++ steps))
steps_again width branches [] done [] w fit = ap (λ (s : List Step). Some (Inside width branches s)) (sym (append-nil done))
steps_again width branches [] done (x ∷ lines) w fit = absurd fit
steps_again width branches (step ∷ steps) done [] w fit = absurd fit
steps_again width branches (step ∷ steps) done (tokens ∷ lines) w fit =
    let k = this_word (codes "access") tokens (behind_access step) [] fit.0 in
    let a = access_again tokens step w.0 fit.0 in
    let one : next_at (Inside width branches done) tokens ≡ Some (Inside width branches (done ++ step ∷ [])) = rw (k, a) refl in
    ap (λ (o : Option Progress). o >>= λ more. read_from more lines) one
    ∙ steps_again width branches steps (done ++ step ∷ []) lines w.1 fit.1
    ∙ ap (λ (s : List Step). Some (Inside width branches s)) (append_assoc done (step ∷ []) steps)

branch_again : (width : ℕ) (done : List Branch) (branch : Branch) (lines : List (List Lexeme)) → IsWritableBranch branch → Fit lines (branch_forms branch) →
    read_from (Between width done) lines ≡ Some (Between width (done ++ branch ∷ []))
branch_again width done branch [] w fit = absurd fit
branch_again width done branch (first ∷ lines) w fit =
    let b = this_word (codes "branch") first [] [] fit.0 in
    let l = lone_again (codes "branch") first fit.0 in
    let opened : next_at (Between width done) first ≡ Some (Inside width done []) = rw (b, l) refl in
    let s = Fit-split lines (map access_form branch.steps) (output_form branch.output ∷ []) fit.1 in
    ap (λ (o : Option Progress). o >>= λ more. read_from more lines) opened
    ∙ ap (read_from (Inside width done [])) s.2
    ∙ by_lines.read-append next_at (Inside width done []) s.0 s.1
    ∙ ap (λ (o : Option Progress). o >>= λ more. read_from more s.1) (steps_again width done branch.steps [] s.0 w.steps s.3)
    ∙ last_again s.1 s.4
  where
    last_again : (ys : List (List Lexeme)) → Fit ys (output_form branch.output ∷ []) → read_from (Inside width done branch.steps) ys ≡ Some (Between width (done ++ branch ∷ []))
    last_again [] fit = absurd fit
    last_again (tokens ∷ []) fit =
        let k = other_word (codes "output") (codes "access") tokens (list_form out_form branch.output) [] refl fit.0 in
        let o = output_again tokens branch.output w.some w.outs fit.0 in
        rw (k, o) refl
    last_again (tokens ∷ more ∷ ys) fit = absurd fit.1

branches_again : (width : ℕ) (branches done : List Branch) (lines : List (List Lexeme)) → AllByRecursion IsWritableBranch branches → Fit lines (flat_map branch_forms branches) →
    read_from (Between width done) lines ≡ Some (Between width (done ++ branches))
branches_again width [] done [] w fit = ap (λ (b : List Branch). Some (Between width b)) (sym (append-nil done))
branches_again width [] done (x ∷ lines) w fit = absurd fit
branches_again width (branch ∷ branches) done lines w fit =
    let s = Fit-split lines (branch_forms branch) (flat_map branch_forms branches) fit in
    ap (read_from (Between width done)) s.2
    ∙ by_lines.read-append next_at (Between width done) s.0 s.1
    ∙ ap (λ (o : Option Progress). o >>= λ more. read_from more s.1) (branch_again width done branch s.0 w.0 s.3)
    ∙ branches_again width branches (done ++ branch ∷ []) s.1 w.1 s.4
    ∙ ap (λ (b : List Branch). Some (Between width b)) (append_assoc done (branch ∷ []) branches)

end_again : (plan : Plan) (ys : List (List Lexeme)) → Fit ys (end_form ∷ []) → read_from (Between plan.width plan.branches) ys ≡ Some (Ended plan)
end_again plan [] fit = absurd fit
end_again plan (tokens ∷ []) fit =
    let k = other_word (codes "end") (codes "branch") tokens [] [] refl fit.0 in
    let l = lone_again (codes "end") tokens fit.0 in
    rw (k, l) refl
end_again plan (tokens ∷ more ∷ ys) fit = absurd fit.1

pub plan_again : (plan : Plan) (lines : List (List Lexeme)) → ArePlanLines lines plan → read_from Opening lines ≡ Some (Ended plan)
plan_again plan [] are = absurd are.1
plan_again plan (first ∷ lines) are =
    let w = are.0 in
    let o = opening_again first plan.width w.some w.most are.1.0 in
    let opened : next_at Opening first ≡ Some (Between plan.width []) = rw o refl in
    let s = Fit-split lines (flat_map branch_forms plan.branches) (end_form ∷ []) are.1.1 in
    ap (λ (q : Option Progress). q >>= λ more. read_from more lines) opened
    ∙ ap (read_from (Between plan.width [])) s.2
    ∙ by_lines.read-append next_at (Between plan.width []) s.0 s.1
    ∙ ap (λ (q : Option Progress). q >>= λ more. read_from more s.1) (branches_again plan.width plan.branches [] s.0 w.branches s.3)
    ∙ end_again plan s.1 s.4

-- ---- the beginning of a plan

abbrev word_token : List ℕ → Lexeme
word_token text = record { kind = Word; text = text }

abbrev end_line : List Lexeme
end_line = word_token (codes "end") ∷ []

abbrev output_line : List Lexeme
output_line = word_token (codes "output") ∷ record { kind = Text; text = [] } ∷ []

abbrev opening_line : List Lexeme
opening_line = word_token (codes "plan") ∷ record { kind = Number; text = decimal 1 } ∷ []

abbrev least_output : List Out
least_output = Fixed [] ∷ []

abbrev IsLine : List Lexeme → List Slot → Type 0
IsLine tokens form = IsOfForm tokens form

opening_is : IsLine opening_line (opening_form 1)
opening_is = (refl, ((refl, nat_list_eq_equiv.refl (decimal 1)), refl))

end_is : IsLine end_line end_form
end_is = (refl, refl)

output_is : IsLine output_line (output_form least_output)
output_is = (refl, ((refl, refl), refl))

-- lines that were read begin a plan
pub read_begin : (lines : List (List Lexeme)) (last : Progress) → AreRead Opening lines last → BeginPlan lines
read_begin lines Opening r =
    let plan : Plan = record { width = 1; branches = [] } in
    let whole : IsWritable plan = record { some = lit≤ tt; most = lit≤ tt; branches = tt } in
    (opening_line ∷ end_line ∷ [], plan, (whole, Fit-append lines (opening_line ∷ end_line ∷ []) [] (opening_form 1 ∷ end_form ∷ []) (subst (Fit lines) (sym r.forms_are) r.fit) (opening_is, (end_is, tt))))
read_begin lines (Between width branches) r =
    let plan : Plan = record { width = width; branches = branches } in
    let whole : IsWritable plan = record { some = r.sound.0.0; most = r.sound.0.1; branches = r.sound.1 } in
    (end_line ∷ [], plan, (whole, Fit-append lines (end_line ∷ []) (opening_form width ∷ flat_map branch_forms branches) (end_form ∷ []) (subst (Fit lines) (sym r.forms_are) r.fit) (end_is, tt)))
read_begin lines (Inside width branches steps) r =
    let branch : Branch = record { steps = steps; output = least_output } in
    let plan : Plan = record { width = width; branches = branches ++ branch ∷ [] } in
    let last : IsWritableBranch branch = record { steps = r.sound.2; some = λ e. cc; outs = (tt, tt) } in
    let whole : IsWritable plan = record { some = r.sound.0.0; most = r.sound.0.1; branches = all_push IsWritableBranch branches branch r.sound.1 last } in
    let done : List (List Slot) = flat_map branch_forms branches ++ branch_form ∷ map access_form steps in
    let front = Fit-append lines (output_line ∷ end_line ∷ []) (opening_form width ∷ done) (output_form least_output ∷ end_form ∷ []) (subst (Fit lines) (sym r.forms_are) r.fit) (output_is, (end_is, tt)) in
    let forms : (done ++ output_form least_output ∷ end_form ∷ []) ≡ flat_map branch_forms (branches ++ branch ∷ []) ++ end_form ∷ [] =
    sym (append_assoc done (output_form least_output ∷ []) (end_form ∷ [])) ∙ ap (λ (fs : List (List Slot)). fs ++ end_form ∷ []) (sym (branch_behind branches steps least_output)) in
    (output_line ∷ end_line ∷ [], plan, (whole, subst (λ (fs : List (List Slot)). Fit (lines ++ output_line ∷ end_line ∷ []) (opening_form width ∷ fs)) forms front))
read_begin lines (Ended plan) r = ([], plan, (r.sound, subst (λ (ls : List (List Lexeme)). Fit ls (plan_forms plan)) (sym (append-nil lines)) (subst (Fit lines) (sym r.forms_are) r.fit)))

-- lines that begin a plan are read
pub begin_read : (lines : List (List Lexeme)) → BeginPlan lines → (last : Progress) × (read_from Opening lines ≡ Some last)
begin_read lines (more, plan, are) =
    let whole = sym (by_lines.read-append next_at Opening lines more) ∙ plan_again plan (lines ++ more) are in
    let a = bind_some (read_from Opening lines) (λ (p : Progress). read_from p more) (Ended plan) whole in
    (a.0, a.1)

-- lines that end a plan are its lines
pub ended_are : (lines : List (List Lexeme)) (plan : Plan) → AreRead Opening lines (Ended plan) → ArePlanLines lines plan
ended_are lines plan r = (r.sound, subst (Fit lines) (sym r.forms_are) r.fit)
