-- A plan's text behind the line of its query.
use Rattle.std.proofs.Common.{◌≡◌, ℕ, ◌^◌, ◌<◌, List, [], ◌∷◌, ◌++◌, refl, sym, ap, subst, append_assoc}
use Rattle.std.specs.Prelude.{codes}
use Rattle.std.specs.Fmt.{decimal}
use Rattle.std.proofs.lemmas.Str.{IsUtf8-append}
use Rattle.pq_text.proofs.PrintedTexts.{ascii_utf8, number_utf8}
use Rattle.meaning.specs.declared.types.Plan.{Plan}
use Rattle.plan_form.specs.Grammar.{IsPlanText, SaysPlan}
use Rattle.explain.proofs.Entries.{numbered_passed}
use Rattle.batch_command.specs.Deciding.{query_line}

abbrev body : ℕ → List ℕ
body number = codes " query " ++ decimal number

line_is : (number : ℕ) (text : List ℕ) → 35 ∷ (body number ++ 10 ∷ text) ≡ query_line number ++ text
line_is number text = ap (λ (bytes : List ℕ). 35 ∷ bytes) (sym (append_assoc (body number) (10 ∷ []) text))

pub numbered_plan : (number : ℕ) (text : List ℕ) (plan : Plan) → number < 2 ^ 64 → IsPlanText text plan
    → IsPlanText (query_line number ++ text) plan
numbered_plan number text plan fits (utf8, says) = (
  IsUtf8-append (query_line number) text
      (IsUtf8-append (codes "# query ") (decimal number ++ codes "\n") (ascii_utf8 (codes "# query ") refl)
      (IsUtf8-append (decimal number) (codes "\n") (number_utf8 number fits) (ascii_utf8 (codes "\n") refl))) utf8,
  subst (λ (bytes : List ℕ). SaysPlan bytes plan) (line_is number text)
      (numbered_passed (codes " query ") number text plan refl says),
)
