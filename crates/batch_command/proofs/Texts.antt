-- The texts of decisions, one behind another.
use Rattle.std.proofs.Common.{◌≡◌, ◌∙◌, ℕ, ◌+◌, List, [], ◌∷◌, ◌++◌, length, Option, None, Some, refl, sym, ap}
use Rattle.std.proofs.Common.{arith, append_assoc}
use Rattle.std.specs.List.{AllZip}
use Rattle.std.proofs.lemmas.List.{append-nil, map-append}
use Rattle.lists.proofs.Members.{zip_push}
use Rattle.meaning.specs.declared.types.Statement.{Statement}
use Rattle.access_schema.specs.declared.schema.Schema.{Schema}
use Rattle.explain.specs.Printing.{planned_text}
use Rattle.command_io.specs.Writing.{TookAll}
use Rattle.command_io.proofs.SinkTakes.{goes_on}
use Rattle.run_command.specs.Deciding.{IsPlanned}
use Rattle.batch_command.specs.Deciding.{query_line, Told, plans_of, told_text, AreTold}

-- the text of one plan behind its line
abbrev pub line_and_text : ℕ → Told → List ℕ
line_and_text number its = query_line number ++ planned_text its.entries its.plan

told_push : (number : ℕ) (told : List Told) (its : Told) → told_text number (told ++ its ∷ []) ≡ told_text number told ++ line_and_text
    (number + length told) its
told_push number [] its =
    let e : number ≡ number + 0 = omega arith in
    append-nil (line_and_text number its) ∙ ap (λ n. line_and_text n its) e
told_push number (one ∷ told) its =
    let e : number + 1 + length told ≡ number + length (one ∷ told) = omega arith in
    ap (λ text. line_and_text number one ++ text) (told_push (number + 1) told its)
    ∙ sym (append_assoc (line_and_text number one) (told_text (number + 1) told) (line_and_text (number + 1 + length told) its))
    ∙ ap (λ n. (line_and_text number one ++ told_text (number + 1) told) ++ line_and_text n its) e

pub zip_length : {A B : Type 0} (R : A → B → Type 0) (xs : List A) (ys : List B) → AllZip R xs ys → length xs ≡ length ys
zip_length R [] [] all = refl
zip_length R [] (b ∷ ys) all = absurd all
zip_length R (a ∷ xs) [] all = absurd all
zip_length R (a ∷ xs) (b ∷ ys) all = let rest = zip_length R xs ys all.1 in omega (arith, rest)

pub plans_push : (told : List Told) (its : Told) → plans_of (told ++ its ∷ []) ≡ plans_of told ++ its.plan ∷ []
plans_push told its = map-append (λ (one : Told). one.plan) told (its ∷ [])

pub plans_length : (told : List Told) → length (plans_of told) ≡ length told
plans_length [] = refl
plans_length (one ∷ told) = let rest = plans_length told in omega (arith, rest)

module _ (schema : Schema) (firings search : ℕ) where
  -- as many plans as statements
  pub told_length : (statements : List Statement) (old new : Option (List ℕ)) (told : List Told) →
      AreTold schema firings search statements old new told → length (plans_of told) ≡ length statements
  told_length statements old new told are =
      plans_length told ∙ sym (zip_length (λ statement (its : Told). IsPlanned schema statement firings search its.plan its.entries)
      statements told are.planned)

  -- no statement, and nothing was taken
  pub told_start : (old : Option (List ℕ)) → AreTold schema firings search [] old old []
  told_start None = record { planned = tt; took = refl }
  told_start (Some bytes) = record { planned = tt; took = ap Some (sym (append-nil bytes)) }

  -- one more statement that has a plan
  pub told_more : (statements : List Statement) (statement : Statement) (old middle new : Option (List ℕ)) (told : List Told)
      (its : Told) → AreTold schema firings search statements old middle told →
      IsPlanned schema statement firings search its.plan its.entries → TookAll middle new (line_and_text (length (plans_of told) + 1) its) →
      AreTold schema firings search (statements ++ statement ∷ []) old new (told ++ its ∷ [])
  told_more statements statement old middle new told its are planned took =
      let count = plans_length told in
      let e : length (plans_of told) + 1 ≡ 1 + length told = omega (arith, count) in
      record {
        planned = zip_push (λ statement (its : Told). IsPlanned schema statement firings search its.plan its.entries) statements told
            statement its are.planned planned;
        took = goes_on old middle new (told_text 1 told) (line_and_text (length (plans_of told) + 1) its) (told_text 1 (told ++ its ∷ []))
            (told_push 1 told its ∙ ap (λ n. told_text 1 told ++ line_and_text n its) (sym e)) are.took took;
      }
