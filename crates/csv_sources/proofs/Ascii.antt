-- The records of a text of ASCII are of ASCII, and so each field is text.
use Rattle.std.proofs.Common.{◌≡◌, ◌<◌, ◌&&◌, ℕ, zero, suc, List, [], ◌∷◌, ◌++◌, Option, None, Some, Bool, true, false, cond, drop, refl, ◌∙◌, ap, subst}
use Rattle.std.specs.List.{AllByRecursion}
use Rattle.std.specs.Str.{IsAscii}
use Rattle.std.proofs.lemmas.Str.{IsAscii-append, IsUtf8-from_ascii, is_utf8-from_IsUtf8}
use Rattle.std.proofs.lemmas.Str.Ascii.{IsAscii-nil}
use Rattle.csv.specs.Machine.{Read, next_record, ends_at_end, is_end, step, fields_after, field_after}
use Rattle.csv.specs.Reading.{records_from, records_next}
use Rattle.csv.specs.declared.parser.Action.{Action}
use Rattle.csv.specs.declared.parser.Action.TheVariants as act
use Rattle.csv.specs.declared.parser.Config.{Config}
use Rattle.csv.specs.declared.parser.State.{State}
use Rattle.csv.specs.declared.parser.State.TheVariants as st
use Rattle.source_trait.specs.Asking.{RowList}
use Rattle.csv_sources.specs.DataFile.{AreText, all_text}

-- each field is of ASCII
abbrev AreAscii : List (List ℕ) → Type 0
AreAscii fields = AllByRecursion IsAscii fields

rest_ascii : (c : ℕ) (rest : List ℕ) → IsAscii (c ∷ rest) → IsAscii rest
rest_ascii c rest all = λ i. all (suc i)

one_ascii : (c : ℕ) → c < 128 → IsAscii (c ∷ [])
one_ascii c low zero = low
one_ascii c low (suc i) = IsAscii-nil i

push_ascii : (fields : List (List ℕ)) (field : List ℕ) → AreAscii fields → IsAscii field → AreAscii (fields ++ field ∷ [])
push_ascii [] field all one = (one, tt)
push_ascii (first ∷ fields) field all one = (all.0, push_ascii fields field all.1 one)

fields_ascii : (action : Action) (fields : List (List ℕ)) (field : List ℕ) → AreAscii fields → IsAscii field → AreAscii (fields_after action fields field)
fields_ascii act.Skip fields field all one = all
fields_ascii act.Copy fields field all one = all
fields_ascii act.EndField fields field all one = push_ascii fields field all one
fields_ascii act.EndRecord fields field all one = push_ascii fields field all one

field_ascii : (action : Action) (c : ℕ) (field : List ℕ) → c < 128 → IsAscii field → IsAscii (field_after action c field)
field_ascii act.Skip c field low one = one
field_ascii act.Copy c field low one = IsAscii-append field (c ∷ []) one (one_ascii c low)
field_ascii act.EndField c field low one = IsAscii-nil
field_ascii act.EndRecord c field low one = IsAscii-nil

-- a record, and the text behind it
abbrev IsAsciiRead : Read → Type 0
IsAsciiRead p = AreAscii p.0 × IsAscii p.2

at_end : (b : Bool) (q p : Read) → IsAsciiRead q → cond b (Some q) None ≡ Some p → IsAsciiRead p
at_end true q p all h = let same : q ≡ p = cc in subst IsAsciiRead same all
at_end false q p all h = absurd (cc)

within : (b : Bool) (q p : Read) (more : Option Read) → IsAsciiRead q → cond b (Some q) more ≡ Some p → (more ≡ Some p → IsAsciiRead p) → IsAsciiRead p
within true q p more all h later = let same : q ≡ p = cc in subst IsAsciiRead same all
within false q p more all h later = later h

read_ascii : (cfg : Config) (s : State) (fields : List (List ℕ)) (field xs : List ℕ) (p : Read) → AreAscii fields → IsAscii field → IsAscii xs → next_record cfg s fields field xs ≡ Some p → IsAsciiRead p
unfolding next_record
read_ascii cfg s fields field [] p all one text h =
    at_end (ends_at_end s) (fields ++ (field ∷ []), st.StartRecord, []) p (push_ascii fields field all one, IsAscii-nil) h
read_ascii cfg s fields field (c ∷ rest) p all one text h =
    let action = (step cfg s c).1 in
    let next = (step cfg s c).0 in
    let after = fields_ascii action fields field all one in
    let left = rest_ascii c rest text in
    within (is_end action) (fields_after action fields field, next, rest) p
    (next_record cfg next (fields_after action fields field) (field_after action c field) rest) (after, left) h
    (λ more. read_ascii cfg next (fields_after action fields field) (field_after action c field) rest p after (field_ascii action c field (text 0) one) left more)

ascii_text : (fields : List (List ℕ)) → AreAscii fields → all_text fields ≡ true
ascii_text [] all = refl
ascii_text (field ∷ fields) all = ap (λ b. b && all_text fields) (is_utf8-from_IsUtf8 field (IsUtf8-from_ascii field all.0)) ∙ ascii_text fields all.1

pub records_text : (cfg : Config) (n : ℕ) (s : State) (xs : List ℕ) → IsAscii xs → AreText (records_from cfg n s xs)
unfolding records_from
records_text cfg zero s xs text = tt
records_text cfg (suc n) s xs text = by (next_record cfg s [] [] xs) refl (λ p left. records_text cfg n p.1 p.2 left)
  where
    by : (o : Option Read) → next_record cfg s [] [] xs ≡ o → ((p : Read) → IsAscii p.2 → AreText (records_from cfg n p.1 p.2)) → AreText (records_next (records_from cfg n) o)
    by None e more = tt
    by (Some p) e more =
        let read = read_ascii cfg s [] [] xs p tt IsAscii-nil text e in
        (ascii_text p.0 read.0, more p read.1)

-- those behind the first one
pub behind_text : (rows : RowList) → AreText rows → AreText (drop 1 rows)
behind_text [] text = tt
behind_text (row ∷ rows) text = text.1
