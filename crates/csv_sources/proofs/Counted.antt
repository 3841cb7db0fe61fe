-- The records of a text, one after the other: each takes a byte, or is the last, so a count of turns above the length
-- of the text changes nothing.
use Rattle.std.proofs.Common.{◌≡◌, ◌<◌, ◌+◌, ◌⊎◌, inl, inr, ℕ, zero, suc, List, [], ◌∷◌, ◌++◌, length, Option, None, Some, IsSome, Bool, true, false, cond, refl, sym, ◌∙◌, ap, arith}
use Rattle.csv.specs.Machine.{Read, next_record, ends_at_end, is_end, step, fields_after, field_after}
use Rattle.csv.specs.Reading.{NextIs, ReadsNext, default_config, records_from, records_next}
use Rattle.csv.specs.declared.parser.Config.{Config}
use Rattle.csv.specs.declared.parser.State.{State}
use Rattle.csv.specs.declared.parser.State.TheVariants as st
use Rattle.csv_sources.specs.Records.{records_of}

-- a record takes a byte, or is the last
abbrev Leaves : Read → List ℕ → Type 0
Leaves p xs = (length p.2 < length xs) ⊎ ((p.1 ≡ st.StartRecord) × (p.2 ≡ []))

at_end : (b : Bool) (q p : Read) → q.1 ≡ st.StartRecord → q.2 ≡ [] → cond b (Some q) None ≡ Some p → (p.1 ≡ st.StartRecord) × (p.2 ≡ [])
at_end true q p s e h = let same : q ≡ p = cc in (ap (λ (r : Read). r.1) (sym same) ∙ s, ap (λ (r : Read). r.2) (sym same) ∙ e)
at_end false q p s e h = absurd (cc)

within : (b : Bool) (q p : Read) (more : Option Read) (c : ℕ) (rest : List ℕ) → q.2 ≡ rest → cond b (Some q) more ≡ Some p → (more ≡ Some p → Leaves p rest) → Leaves p (c ∷ rest)
within true q p more c rest e h later = let same : q ≡ p = cc in inl (grind (arith, ap (λ (r : Read). length r.2) same, e))
within false q p more c rest e h later = elim (later h) [
  | inl shorter ↦ inl (omega (arith, shorter))
  | inr last ↦ inr last
]

leaves : (cfg : Config) (s : State) (fields : List (List ℕ)) (field xs : List ℕ) (p : Read) → next_record cfg s fields field xs ≡ Some p → Leaves p xs
unfolding next_record
leaves cfg s fields field [] p h = inr (at_end (ends_at_end s) (fields ++ (field ∷ []), st.StartRecord, []) p refl refl h)
leaves cfg s fields field (c ∷ rest) p h =
    within (is_end (step cfg s c).1) (fields_after (step cfg s c).1 fields field, (step cfg s c).0, rest) p
    (next_record cfg (step cfg s c).0 (fields_after (step cfg s c).1 fields field) (field_after (step cfg s c).1 c field) rest) c rest refl h
    (λ more. leaves cfg (step cfg s c).0 (fields_after (step cfg s c).1 fields field) (field_after (step cfg s c).1 c field) rest p more)

-- nothing is left at the end of the text
none_left : (cfg : Config) (n : ℕ) → records_from cfg n st.StartRecord [] ≡ []
unfolding next_record records_from
none_left cfg zero = refl
none_left cfg (suc n) = refl

after_last : (cfg : Config) (n : ℕ) (p : Read) → (p.1 ≡ st.StartRecord) × (p.2 ≡ []) → records_from cfg n p.1 p.2 ≡ []
after_last cfg n p last = ap (λ (q : State). records_from cfg n q p.2) last.0 ∙ ap (λ (l : List ℕ). records_from cfg n st.StartRecord l) last.1 ∙ none_left cfg n

-- the count of turns does not matter above the length
enough : (cfg : Config) (n m : ℕ) (s : State) (xs : List ℕ) → length xs < n → length xs < m → records_from cfg n s xs ≡ records_from cfg m s xs
unfolding records_from
enough cfg zero m s xs low high = absurd (omega (arith, low))
enough cfg (suc n) zero s xs low high = absurd (omega (arith, high))
enough cfg (suc n) (suc m) s xs low high =
    by (next_record cfg s [] [] xs) refl (λ p shorter. enough cfg n m p.1 p.2 (omega (arith, shorter, low)) (omega (arith, shorter, high)))
  where
    by : (o : Option Read) → next_record cfg s [] [] xs ≡ o
        → ((p : Read) → length p.2 < length xs → records_from cfg n p.1 p.2 ≡ records_from cfg m p.1 p.2)
        → records_next (records_from cfg n) o ≡ records_next (records_from cfg m) o
    by None e more = refl
    by (Some p) e more = ap (λ (l : List (List (List ℕ))). p.0 ∷ l) (elim (leaves cfg s [] [] xs p e) [
      | inl shorter ↦ more p shorter
      | inr last ↦ after_last cfg n p last ∙ sym (after_last cfg m p last)
    ])

one_more : (s : State) (xs : List ℕ) → records_of s (Some xs) ≡ records_next (records_from default_config (length xs)) (next_record default_config s [] [] xs)
unfolding records_from
one_more s xs = let e : length xs + 1 ≡ suc (length xs) = omega arith in rw e refl

rest_same : (p : Read) (xs : List ℕ) → Leaves p xs → records_from default_config (length xs) p.1 p.2 ≡ records_of p.1 (Some p.2)
rest_same p xs left = elim left [
  | inl shorter ↦ enough default_config (length xs) (length p.2 + 1) p.1 p.2 shorter (omega arith)
  | inr last ↦ after_last default_config (length xs) p last ∙ sym (after_last default_config (length p.2 + 1) p last)
]

-- a record that was read is the first of those that were left
pub taken : (s s2 : State) (old new : Option (List ℕ)) (fields : List (List ℕ)) → IsSome old
    → ReadsNext default_config s old new true fields s2 → records_of s old ≡ fields ∷ records_of s2 new
taken s s2 None new fields some h = absurd (cc)
taken s s2 (Some xs) None fields some h = absurd h
taken s s2 (Some xs) (Some ys) fields some h = one_more s xs ∙ by (next_record default_config s [] [] xs) refl h
  where
    by : (o : Option Read) → next_record default_config s [] [] xs ≡ o → NextIs o true fields s2 ys
        → records_next (records_from default_config (length xs)) o ≡ fields ∷ records_of s2 (Some ys)
    by None e h = absurd (cc)
    by (Some p) e h = rw (h.1, h.2, h.3) (ap (λ (l : List (List (List ℕ))). p.0 ∷ l) (rest_same p xs (leaves default_config s [] [] xs p e)))

-- where none was read none was left
pub ended : (s s2 : State) (old new : Option (List ℕ)) (fields : List (List ℕ)) → IsSome old
    → ReadsNext default_config s old new false fields s2 → records_of s old ≡ []
ended s s2 None new fields some h = absurd (cc)
ended s s2 (Some xs) None fields some h = absurd h
ended s s2 (Some xs) (Some ys) fields some h = one_more s xs ∙ by (next_record default_config s [] [] xs) h
  where
    by : (o : Option Read) → NextIs o false fields s2 ys → records_next (records_from default_config (length xs)) o ≡ []
    by None h = refl
    by (Some p) h = absurd (cc)

-- the records of a text are the first one, and then those of the text behind it
pub unrolled : (s : State) (xs : List ℕ) → records_of s (Some xs) ≡ records_next (λ t rest. records_of t (Some rest)) (next_record default_config s [] [] xs)
unrolled s xs = one_more s xs ∙ by (next_record default_config s [] [] xs) refl
  where
    by : (o : Option Read) → next_record default_config s [] [] xs ≡ o
        → records_next (records_from default_config (length xs)) o ≡ records_next (λ t rest. records_of t (Some rest)) o
    by None e = refl
    by (Some p) e = ap (λ (l : List (List (List ℕ))). p.0 ∷ l) (rest_same p xs (leaves default_config s [] [] xs p e))
