-- The records of a plain text, cut at commas and line feeds.
use Rattle.std.proofs.Common.{◌≡◌, ◌≢◌, ◌+◌, ◌-◌, ◌<◌, ◌≤◌, ℕ, zero, suc, List, [], ◌∷◌, ◌++◌, length, take, drop, get_or, nat_eq, Option, None, Some, Bool, true, false, cond, refl, sym, ◌∙◌, ap, subst, arith, append_assoc}
use Rattle.std.specs.List.{AllByRecursion}
use Rattle.std.proofs.lemmas.List.{append-nil, nil_from_length, take_rest}
use Rattle.std.proofs.lemmas.Bool.Decides.{nat_tests}
use Rattle.lists.proofs.Booleans.{both_false}
use Rattle.memchr.specs.Find.{is_byte2}
use Rattle.csv.specs.Machine.{Read, next_record, ends_at_end, is_end, step, fields_after, field_after}
use Rattle.csv.specs.Reading.{default_config, records, records_next}
use Rattle.csv.specs.declared.parser.Action.{Action}
use Rattle.csv.specs.declared.parser.Action.TheVariants as act
use Rattle.csv.specs.declared.parser.State.{State}
use Rattle.csv.specs.declared.parser.State.TheVariants as st
use Rattle.source_trait.specs.Asking.{RowList}
use Rattle.csv_sources.specs.Records.{records_of}
use Rattle.csv_sources.proofs.Counted.{unrolled}
use Rattle.csv_sources.proofs.Separators.{IsCut, Joins}

-- ---- one byte

-- the states that a plain text leads through
abbrev IsOpen : State → Type 0
IsOpen st.StartRecord = Unit {0}
IsOpen st.StartField = Unit {0}
IsOpen st.InField = Unit {0}
IsOpen st.InQuoted = ⊥
IsOpen st.AfterQuote = ⊥
IsOpen st.InEscape = ⊥
IsOpen st.InComment = ⊥
IsOpen st.AfterCr = ⊥

step_joins : (s : State) (c : ℕ) → IsOpen s → Joins c → step default_config s c ≡ (st.InField, act.Copy)
step_joins s c o joins = by s o
  where
    parts : (nat_eq c 44 ≡ false) × (nat_eq c 10 ≡ false)
    parts = both_false (nat_eq c 44) (nat_eq c 10) joins.0

    marks : (nat_eq c 34 ≡ false) × (nat_eq c 13 ≡ false)
    marks = both_false (nat_eq c 34) (nat_eq c 13) joins.1

    by : (s : State) → IsOpen s → step default_config s c ≡ (st.InField, act.Copy)
    by st.StartRecord o = rw (marks.1, parts.1, marks.0, parts.0) refl
    by st.StartField o = rw (marks.0, parts.0, marks.1, parts.1) refl
    by st.InField o = rw (parts.0, marks.1, parts.1) refl
    by st.InQuoted o = absurd o
    by st.AfterQuote o = absurd o
    by st.InEscape o = absurd o
    by st.InComment o = absurd o
    by st.AfterCr o = absurd o

one_joins : (s : State) (fields : List (List ℕ)) (field : List ℕ) (c : ℕ) (rest : List ℕ) → step default_config s c ≡ (st.InField, act.Copy)
    → next_record default_config s fields field (c ∷ rest) ≡ next_record default_config st.InField fields (field ++ c ∷ []) rest
unfolding next_record
one_joins s fields field c rest e = by (step default_config s c) e
  where
    by : (p : State × Action) → p ≡ (st.InField, act.Copy)
        → cond (is_end p.1) (Some (fields_after p.1 fields field, p.0, rest)) (next_record default_config p.0 (fields_after p.1 fields field) (field_after p.1 c field) rest)
        ≡ next_record default_config st.InField fields (field ++ c ∷ []) rest
    by p e = rw e refl

-- ---- bytes that join a field

abbrev after : State → List ℕ → State
after s [] = s
after s (c ∷ run) = st.InField

after_field : (run : List ℕ) → after st.InField run ≡ st.InField
after_field [] = refl
after_field (c ∷ run) = refl

open_after : (s : State) (run : List ℕ) → IsOpen s → IsOpen (after s run)
open_after s [] o = o
open_after s (c ∷ run) o = tt

run_joins : (s : State) (fields : List (List ℕ)) (field run rest : List ℕ) → IsOpen s → AllByRecursion Joins run
    → next_record default_config s fields field (run ++ rest) ≡ next_record default_config (after s run) fields (field ++ run) rest
run_joins s fields field [] rest o all = ap (λ (f : List ℕ). next_record default_config s fields f rest) (sym (append-nil field))
run_joins s fields field (c ∷ run) rest o all =
    one_joins s fields field c (run ++ rest) (step_joins s c o all.0)
    ∙ run_joins st.InField fields (field ++ c ∷ []) run rest tt all.1
    ∙ ap (λ t. next_record default_config t fields ((field ++ c ∷ []) ++ run) rest) (after_field run)
    ∙ ap (λ (f : List ℕ). next_record default_config st.InField fields f rest) (append_assoc field (c ∷ []) run)

-- ---- separators

comma : (s : State) (fields : List (List ℕ)) (field rest : List ℕ) → IsOpen s
    → next_record default_config s fields field (44 ∷ rest) ≡ next_record default_config st.StartField (fields ++ field ∷ []) [] rest
unfolding next_record
comma st.StartRecord fields field rest o = refl
comma st.StartField fields field rest o = refl
comma st.InField fields field rest o = refl
comma st.InQuoted fields field rest o = absurd o
comma st.AfterQuote fields field rest o = absurd o
comma st.InEscape fields field rest o = absurd o
comma st.InComment fields field rest o = absurd o
comma st.AfterCr fields field rest o = absurd o

feed_in_field : (fields : List (List ℕ)) (field rest : List ℕ) → next_record default_config st.InField fields field (10 ∷ rest) ≡ Some (fields ++ field ∷ [], st.StartRecord, rest)
unfolding next_record
feed_in_field fields field rest = refl

feed_at_field : (fields : List (List ℕ)) (field rest : List ℕ) → next_record default_config st.StartField fields field (10 ∷ rest) ≡ Some (fields ++ field ∷ [], st.StartRecord, rest)
unfolding next_record
feed_at_field fields field rest = refl

feed_at_record : (fields : List (List ℕ)) (field rest : List ℕ) → next_record default_config st.StartRecord fields field (10 ∷ rest) ≡ next_record default_config st.StartRecord fields field rest
unfolding next_record
feed_at_record fields field rest = refl

end_in_field : (fields : List (List ℕ)) (field : List ℕ) → next_record default_config st.InField fields field [] ≡ Some (fields ++ field ∷ [], st.StartRecord, [])
unfolding next_record
end_in_field fields field = refl

end_at_field : (fields : List (List ℕ)) (field : List ℕ) → next_record default_config st.StartField fields field [] ≡ Some (fields ++ field ∷ [], st.StartRecord, [])
unfolding next_record
end_at_field fields field = refl

end_at_record : (fields : List (List ℕ)) (field : List ℕ) → next_record default_config st.StartRecord fields field [] ≡ None
unfolding next_record
end_at_record fields field = refl

-- ---- records

-- the state behind the fields of a line
abbrev state_of : List (List ℕ) → State
state_of [] = st.StartRecord
state_of (field ∷ line) = st.StartField

open_line : (line : List (List ℕ)) → IsOpen (state_of line)
open_line [] = tt
open_line (field ∷ line) = tt

state_more : (line : List (List ℕ)) (field : List ℕ) → state_of (line ++ field ∷ []) ≡ st.StartField
state_more [] field = refl
state_more (first ∷ line) field = refl

-- the records of a read and of what it leaves
abbrev all_of : Option Read → RowList
all_of o = records_next (λ t rest. records_of t (Some rest)) o

-- the records of a text that stands behind fields of its first line
abbrev pub left_at : List (List ℕ) → List ℕ → RowList
left_at line xs = all_of (next_record default_config (state_of line) line [] xs)

pub at_first : (xs : List ℕ) → records default_config xs ≡ left_at [] xs
at_first xs = unrolled st.StartRecord xs

-- a text without a byte has no record
pub no_records : records default_config [] ≡ []
no_records = at_first [] ∙ ap all_of (end_at_record [] [])

-- neither a field nor a byte of the next one stands on the line
abbrev pub IsBlank : List (List ℕ) → List ℕ → Type 0
IsBlank line run = (length line ≡ 0) × (length run ≡ 0)

ends_line : (line : List (List ℕ)) (run rest : List ℕ) → ¬ (IsBlank line run) → next_record default_config (after (state_of line) run) line run (10 ∷ rest) ≡ Some (line ++ run ∷ [], st.StartRecord, rest)
ends_line line (c ∷ run) rest filled = feed_in_field line (c ∷ run) rest
ends_line (field ∷ line) [] rest filled = feed_at_field (field ∷ line) [] rest
ends_line [] [] rest filled = absurd (filled (refl, refl))

ends_text : (line : List (List ℕ)) (run : List ℕ) → ¬ (IsBlank line run) → next_record default_config (after (state_of line) run) line run [] ≡ Some (line ++ run ∷ [], st.StartRecord, [])
ends_text line (c ∷ run) filled = end_in_field line (c ∷ run)
ends_text (field ∷ line) [] filled = end_at_field (field ∷ line) []
ends_text [] [] filled = absurd (filled (refl, refl))

-- the bytes before a separator, and the separator
at_cut : (line : List (List ℕ)) (text : List ℕ) (start place : ℕ) (later : List ℕ) (c : ℕ) → IsCut text start place later → get_or text place 0 ≡ c
    → left_at line (drop start text) ≡ all_of (next_record default_config (after (state_of line) (take (place - start) (drop start text))) line (take (place - start) (drop start text)) (c ∷ drop (place + 1) text))
at_cut line text start place later c cut is =
    let run = take (place - start) (drop start text) in
    ap (left_at line) (cut.splits ∙ ap (λ (b : ℕ). run ++ b ∷ drop (place + 1) text) is)
    ∙ ap all_of (run_joins (state_of line) line [] run (c ∷ drop (place + 1) text) (open_line line) cut.joins)

-- a comma ends a field
pub cut_field : (line : List (List ℕ)) (text : List ℕ) (start place : ℕ) (later : List ℕ) → IsCut text start place later → get_or text place 0 ≡ 44
    → left_at line (drop start text) ≡ left_at (line ++ take (place - start) (drop start text) ∷ []) (drop (place + 1) text)
cut_field line text start place later cut is =
    let run = take (place - start) (drop start text) in
    at_cut line text start place later 44 cut is
    ∙ ap all_of (comma (after (state_of line) run) line run (drop (place + 1) text) (open_after (state_of line) run (open_line line))
    ∙ ap (λ t. next_record default_config t (line ++ run ∷ []) [] (drop (place + 1) text)) (sym (state_more line run)))

-- a separator that is no comma is a line feed
pub line_feed : (c : ℕ) → is_byte2 44 10 c ≡ true → c ≢ 44 → c ≡ 10
line_feed c separates other = grind (arith, nat_tests, separates, other)

-- a line feed ends a line that is not blank
pub cut_line : (line : List (List ℕ)) (text : List ℕ) (start place : ℕ) (later : List ℕ) → IsCut text start place later → get_or text place 0 ≡ 10 → ¬ (IsBlank line (take (place - start) (drop start text)))
    → left_at line (drop start text) ≡ (line ++ take (place - start) (drop start text) ∷ []) ∷ records default_config (drop (place + 1) text)
cut_line line text start place later cut is filled =
    let run = take (place - start) (drop start text) in
    at_cut line text start place later 10 cut is ∙ ap all_of (ends_line line run (drop (place + 1) text) filled)

-- and leads over one that is
pub cut_blank : (line : List (List ℕ)) (text : List ℕ) (start place : ℕ) (later : List ℕ) → IsCut text start place later → get_or text place 0 ≡ 10 → IsBlank line (take (place - start) (drop start text))
    → left_at line (drop start text) ≡ left_at line (drop (place + 1) text)
cut_blank line text start place later cut is blank =
    let rest = drop (place + 1) text in
    at_cut line text start place later 10 cut is
    ∙ ap (λ (run : List ℕ). all_of (next_record default_config (after (state_of line) run) line run (10 ∷ rest))) (nil_from_length (take (place - start) (drop start text)) blank.1)
    ∙ ap (λ (l : List (List ℕ)). all_of (next_record default_config (state_of l) l [] (10 ∷ rest))) (nil_from_length line blank.0)
    ∙ ap all_of (feed_at_record [] [] rest)
    ∙ ap (λ (l : List (List ℕ)). left_at l rest) (sym (nil_from_length line blank.0))

-- what is behind the last separator is a record, unless it is blank
at_end : (line : List (List ℕ)) (run : List ℕ) → AllByRecursion Joins run → left_at line run ≡ all_of (next_record default_config (after (state_of line) run) line run [])
at_end line run joins = ap (left_at line) (sym (append-nil run)) ∙ ap all_of (run_joins (state_of line) line [] run [] (open_line line) joins)

pub last_record : (line : List (List ℕ)) (run : List ℕ) → AllByRecursion Joins run → ¬ (IsBlank line run) → left_at line run ≡ (line ++ run ∷ []) ∷ records default_config []
last_record line run joins filled = at_end line run joins ∙ ap all_of (ends_text line run filled)

pub no_record : (line : List (List ℕ)) (run : List ℕ) → IsBlank line run → left_at line run ≡ []
no_record line run blank = ap (left_at line) (nil_from_length run blank.1) ∙ ap (λ (l : List (List ℕ)). left_at l []) (nil_from_length line blank.0) ∙ ap all_of (end_at_record [] [])
