-- A step of a table is one of the texts at its columns.
use Rattle.std.proofs.Common.{◌≡◌, ◌⊎◌, inl, inr, ⊎_elim, ℕ, zero, suc, ◌+◌, ◌<◌, List, [], ◌∷◌, ◌++◌, map, Some, Bool, true, false, cond, nat_eq, refl, sym, ◌∙◌, ap, subst, arith}
use Rattle.std.specs.Prelude.{Contains, slice_get}
use Rattle.std.proofs.lemmas.Bool.Decides.{nat_tests}
use Rattle.std.proofs.lemmas.List.{map-append}
use Rattle.lists.proofs.Members.{contains_here, contains_cases, contains_got, map_got, map_same, some_injective, head_is, tail_is}
use Rattle.meaning.specs.declared.types.Place.{Place}
use Rattle.meaning.specs.declared.types.Place.TheVariants.{Const, Col, New}
use Rattle.meaning.specs.Rows.{Joins}
use Rattle.middleware.specs.Joining.{input_value_or, input_row_of}
use Rattle.middleware.specs.Naming.{Texts, AreNamed, AreAsked, IsLocal, Matches, text_of, inputs_of}
use Rattle.middleware.proofs.Steps.{in_append, append_first, append_second}

-- ---- texts at columns

-- the texts with another one at a column
abbrev pub put : Texts → ℕ → List ℕ → Texts
put texts k value j = cond (nat_eq j k) value (texts j)

put_same : (texts : Texts) (k : ℕ) (value : List ℕ) → put texts k value k ≡ value
put_same texts k value = let test : nat_eq k k ≡ true = grind (arith, nat_tests) in rw test refl

put_other : (texts : Texts) (k : ℕ) (value : List ℕ) (j : ℕ) → (j ≡ k → ⊥) → put texts k value j ≡ texts j
put_other texts k value j other = go (nat_eq j k) refl
  where
    go : (b : Bool) → nat_eq j k ≡ b → cond (nat_eq j k) value (texts j) ≡ texts j
    go true e = absurd (other (grind (arith, nat_tests, e)))
    go false e = rw e refl

pub map_push : (texts : Texts) (columns : List ℕ) (k : ℕ) → map texts (columns ++ k ∷ []) ≡ map texts columns ++ texts k ∷ []
map_push texts columns k = map-append texts columns (k ∷ [])

-- the same row, the same texts
pub same_at : (texts others : Texts) (columns : List ℕ) → map texts columns ≡ map others columns → (k : ℕ) → Contains columns k → texts k ≡ others k
same_at texts others [] e k c = absurd (omega arith)
same_at texts others (j ∷ columns) e k c =
    ⊎_elim (λ here. subst (λ n. texts n ≡ others n) here (head_is (texts j) (others j) (map texts columns) (map others columns) e))
    (λ there. same_at texts others columns (tail_is (texts j) (others j) (map texts columns) (map others columns) e) k there)
    (contains_cases j columns k c)

map_put : (texts : Texts) (columns : List ℕ) (k : ℕ) (value : List ℕ) → (Contains columns k → ⊥) → map (put texts k value) (columns ++ k ∷ []) ≡ map texts columns ++ value ∷ []
map_put texts columns k value new =
    let here = put_same texts k value in
    let rest : map (put texts k value) columns ≡ map texts columns = map_same (put texts k value) texts columns (λ j c. put_other texts k value j (λ e. new (subst (λ n. Contains columns n) e c))) in
    map_push (put texts k value) columns k ∙ ap (λ (l : List (List ℕ)). l ++ put texts k value k ∷ []) rest ∙ ap (λ (v : List ℕ). map texts columns ++ v ∷ []) here

-- ---- columns

abbrev pub Below : List ℕ → ℕ → Type 0
Below columns n = (k : ℕ) → Contains columns k → k < n

below_push : (columns : List ℕ) (n k : ℕ) → Below columns n → k < n → Below (columns ++ k ∷ []) n
below_push columns n k below less j c = ⊎_elim (λ old. below j old) (λ new. ⊎_elim (λ (e : k ≡ j). subst (λ i. i < n) e less) (λ none. absurd (omega (arith, none))) (contains_cases k [] j new)) (in_append columns (k ∷ []) j c)

below_more : (columns : List ℕ) (n : ℕ) → Below columns n → Below (columns ++ n ∷ []) (n + 1)
below_more columns n below = below_push columns (n + 1) n (λ k c. let l = below k c in omega (arith, l)) (omega arith)

not_below : (columns : List ℕ) (n : ℕ) → Below columns n → Contains columns n → ⊥
not_below columns n below c = let l = below n c in omega (arith, l)

-- the columns stay
pub local_keeps : (columns : List ℕ) (n : ℕ) (places locals : List Place) (after : List ℕ) → IsLocal columns n places locals after → (k : ℕ) → Contains columns k → Contains after k
local_keeps columns n [] [] after i k c = subst (λ (l : List ℕ). Contains l k) (sym i) c
local_keeps columns n [] (l ∷ locals) after i k c = absurd i
local_keeps columns n (Const a ∷ places) [] after i k c = absurd i
local_keeps columns n (Const a ∷ places) (Const b ∷ locals) after i k c = local_keeps columns n places locals after i.1 k c
local_keeps columns n (Const a ∷ places) (Col b ∷ locals) after i k c = absurd i
local_keeps columns n (Const a ∷ places) (New ∷ locals) after i k c = absurd i
local_keeps columns n (Col a ∷ places) [] after i k c = absurd i
local_keeps columns n (Col a ∷ places) (Const b ∷ locals) after i k c = absurd i
local_keeps columns n (Col a ∷ places) (Col b ∷ locals) after i k c = local_keeps columns n places locals after i.1 k c
local_keeps columns n (Col a ∷ places) (New ∷ locals) after i k c = local_keeps (columns ++ a ∷ []) n places locals after i.1 k (append_first columns (a ∷ []) k c)
local_keeps columns n (New ∷ places) [] after i k c = absurd i
local_keeps columns n (New ∷ places) (Const b ∷ locals) after i k c = absurd i
local_keeps columns n (New ∷ places) (Col b ∷ locals) after i k c = absurd i
local_keeps columns n (New ∷ places) (New ∷ locals) after i k c = local_keeps (columns ++ n ∷ []) (n + 1) places locals after i k (append_first columns (n ∷ []) k c)

-- ---- joins of a table

-- texts that a fact matches make a row
pub joins_of : (texts : Texts) (columns : List ℕ) (n : ℕ) (places locals : List Place) (after : List ℕ) (values : List (List ℕ)) → IsLocal columns n places locals after → Matches texts n places values → Joins locals values (map texts columns) (map texts after)
joins_of texts columns n [] [] after [] i m = ap (map texts) i
joins_of texts columns n [] [] after (v ∷ values) i m = absurd m
joins_of texts columns n [] (l ∷ locals) after values i m = absurd i
joins_of texts columns n (Const a ∷ places) [] after values i m = absurd i
joins_of texts columns n (Const a ∷ places) (Const b ∷ locals) after [] i m = absurd m
joins_of texts columns n (Const a ∷ places) (Const b ∷ locals) after (v ∷ values) i m = (m.0 ∙ sym i.0, joins_of texts columns n places locals after values i.1 m.1)
joins_of texts columns n (Const a ∷ places) (Col b ∷ locals) after values i m = absurd i
joins_of texts columns n (Const a ∷ places) (New ∷ locals) after values i m = absurd i
joins_of texts columns n (Col a ∷ places) [] after values i m = absurd i
joins_of texts columns n (Col a ∷ places) (Const b ∷ locals) after values i m = absurd i
joins_of texts columns n (Col a ∷ places) (Col b ∷ locals) after [] i m = absurd m
joins_of texts columns n (Col a ∷ places) (Col b ∷ locals) after (v ∷ values) i m =
    (map_got texts columns b a i.0 ∙ ap (λ (t : List ℕ). Some t) (sym m.0), joins_of texts columns n places locals after values i.1 m.1)
joins_of texts columns n (Col a ∷ places) (New ∷ locals) after [] i m = absurd m
joins_of texts columns n (Col a ∷ places) (New ∷ locals) after (v ∷ values) i m =
    subst (λ (row : List (List ℕ)). Joins locals values row (map texts after)) (map_push texts columns a ∙ ap (λ (t : List ℕ). map texts columns ++ t ∷ []) (sym m.0))
    (joins_of texts (columns ++ a ∷ []) n places locals after values i.1 m.1)
joins_of texts columns n (New ∷ places) [] after values i m = absurd i
joins_of texts columns n (New ∷ places) (Const b ∷ locals) after values i m = absurd i
joins_of texts columns n (New ∷ places) (Col b ∷ locals) after values i m = absurd i
joins_of texts columns n (New ∷ places) (New ∷ locals) after [] i m = absurd m
joins_of texts columns n (New ∷ places) (New ∷ locals) after (v ∷ values) i m =
    subst (λ (row : List (List ℕ)). Joins locals values row (map texts after)) (map_push texts columns n ∙ ap (λ (t : List ℕ). map texts columns ++ t ∷ []) (sym m.0))
    (joins_of texts (columns ++ n ∷ []) (n + 1) places locals after values i m.1)

-- a row that a fact joins is of texts that the fact matches
pub record IsOfTexts (texts : Texts) (columns : List ℕ) (n : ℕ) (places : List Place) (after : List ℕ) (values next : List (List ℕ)) : Type 0 where
  pub more : Texts
  pub keeps : (k : ℕ) → Contains columns k → more k ≡ texts k
  pub is : next ≡ map more after
  pub matches : Matches more n places values

got_is : (texts : Texts) (columns : List ℕ) (i k : ℕ) (value : List ℕ) → slice_get columns i ≡ Some k → slice_get (map texts columns) i ≡ Some value → value ≡ texts k
got_is texts columns i k value e f = some_injective value (texts k) (sym f ∙ map_got texts columns i k e)

pub of_joins : (texts : Texts) (columns : List ℕ) (n : ℕ) (places locals : List Place) (after : List ℕ) (values next : List (List ℕ)) → Below columns n → AreNamed n places → IsLocal columns n places locals after
    → Joins locals values (map texts columns) next → IsOfTexts texts columns n places after values next
of_joins texts columns n [] [] after [] next b a i j = record { more = texts; keeps = λ k c. refl; is = j ∙ ap (map texts) (sym i); matches = tt }
of_joins texts columns n [] [] after (v ∷ values) next b a i j = absurd j
of_joins texts columns n [] (l ∷ locals) after values next b a i j = absurd i
of_joins texts columns n (Const s ∷ places) [] after values next b a i j = absurd i
of_joins texts columns n (Const s ∷ places) (Const t ∷ locals) after [] next b a i j = absurd j
of_joins texts columns n (Const s ∷ places) (Const t ∷ locals) after (v ∷ values) next b a i j =
    let r = of_joins texts columns n places locals after values next b a i.1 j.1 in
    record { more = r.more; keeps = r.keeps; is = r.is; matches = (j.0 ∙ i.0, r.matches) }
of_joins texts columns n (Const s ∷ places) (Col t ∷ locals) after values next b a i j = absurd i
of_joins texts columns n (Const s ∷ places) (New ∷ locals) after values next b a i j = absurd i
of_joins texts columns n (Col s ∷ places) [] after values next b a i j = absurd i
of_joins texts columns n (Col s ∷ places) (Const t ∷ locals) after values next b a i j = absurd i
of_joins texts columns n (Col s ∷ places) (Col t ∷ locals) after [] next b a i j = absurd j
of_joins texts columns n (Col s ∷ places) (Col t ∷ locals) after (v ∷ values) next b a i j =
    let r = of_joins texts columns n places locals after values next b a.1 i.1 j.1 in
    record { more = r.more; keeps = r.keeps; is = r.is; matches = (got_is texts columns t s v i.0 j.0 ∙ sym (r.keeps s (contains_got columns t s i.0)), r.matches) }
of_joins texts columns n (Col s ∷ places) (New ∷ locals) after [] next b a i j = absurd j
of_joins texts columns n (Col s ∷ places) (New ∷ locals) after (v ∷ values) next b a i j =
    let other = put texts s v in
    let r = of_joins other (columns ++ s ∷ []) n places locals after values next (below_push columns n s b a.0) a.1 i.1 (subst (λ (row : List (List ℕ)). Joins locals values row next) (sym (map_put texts columns s v i.0)) j) in
    record {
      more = r.more;
      keeps = λ k c. r.keeps k (append_first columns (s ∷ []) k c) ∙ put_other texts s v k (λ e. i.0 (subst (λ m. Contains columns m) e c));
      is = r.is;
      matches = (sym (r.keeps s (append_second columns (s ∷ []) s (contains_here s [])) ∙ put_same texts s v), r.matches);
    }
of_joins texts columns n (New ∷ places) [] after values next b a i j = absurd i
of_joins texts columns n (New ∷ places) (Const t ∷ locals) after values next b a i j = absurd i
of_joins texts columns n (New ∷ places) (Col t ∷ locals) after values next b a i j = absurd i
of_joins texts columns n (New ∷ places) (New ∷ locals) after [] next b a i j = absurd j
of_joins texts columns n (New ∷ places) (New ∷ locals) after (v ∷ values) next b a i j =
    let other = put texts n v in
    let r = of_joins other (columns ++ n ∷ []) (n + 1) places locals after values next (below_more columns n b) a i (subst (λ (row : List (List ℕ)). Joins locals values row next) (sym (map_put texts columns n v (not_below columns n b))) j) in
    record {
      more = r.more;
      keeps = λ k c. r.keeps k (append_first columns (n ∷ []) k c) ∙ put_other texts n v k (λ e. not_below columns n b (subst (λ m. Contains columns m) e c));
      is = r.is;
      matches = (sym (r.keeps n (append_second columns (n ∷ []) n (contains_here n [])) ∙ put_same texts n v), r.matches);
    }

-- ---- what a step asks for

-- the columns that the table had stand where they stood
record Old (first columns : List ℕ) : Type 0 where
  stand : (i k : ℕ) → slice_get columns i ≡ Some k → Contains first k → slice_get first i ≡ Some k
  stay : (k : ℕ) → Contains first k → Contains columns k

got_pushed : {X : Type 0} (xs : List X) (y x : X) (i : ℕ) → slice_get (xs ++ y ∷ []) i ≡ Some x → (slice_get xs i ≡ Some x) ⊎ (y ≡ x)
got_pushed [] y x zero e = inr (some_injective y x e)
got_pushed [] y x (suc i) e = absurd (cc)
got_pushed (z ∷ xs) y x zero e = inl e
got_pushed (z ∷ xs) y x (suc i) e = got_pushed xs y x i e

old_push : (first columns : List ℕ) (m : ℕ) → (Contains columns m → ⊥) → Old first columns → Old first (columns ++ m ∷ [])
old_push first columns m new old = record {
  stand = λ i k e c. ⊎_elim (λ g. old.stand i k g c) (λ s. absurd (new (subst (λ j. Contains columns j) (sym s) (old.stay k c)))) (got_pushed columns m k i e);
  stay = λ k c. append_first columns (m ∷ []) k (old.stay k c);
}

input_same : (texts : Texts) (first columns : List ℕ) (n : ℕ) (places locals : List Place) (after : List ℕ) (p : ℕ) → Old first columns → Below columns n → AreNamed n places → IsLocal columns n places locals after
    → ((k : ℕ) → slice_get places p ≡ Some (Col k) → Contains first k) → input_value_or (map texts first) (slice_get locals p) ≡ text_of texts (slice_get places p)
input_same texts first columns n [] [] after p o b a i has = refl
input_same texts first columns n [] (l ∷ locals) after p o b a i has = absurd i
input_same texts first columns n (Const s ∷ places) [] after p o b a i has = absurd i
input_same texts first columns n (Const s ∷ places) (Const t ∷ locals) after zero o b a i has = i.0
input_same texts first columns n (Const s ∷ places) (Const t ∷ locals) after (suc p) o b a i has = input_same texts first columns n places locals after p o b a i.1 has
input_same texts first columns n (Const s ∷ places) (Col t ∷ locals) after p o b a i has = absurd i
input_same texts first columns n (Const s ∷ places) (New ∷ locals) after p o b a i has = absurd i
input_same texts first columns n (Col s ∷ places) [] after p o b a i has = absurd i
input_same texts first columns n (Col s ∷ places) (Const t ∷ locals) after p o b a i has = absurd i
input_same texts first columns n (Col s ∷ places) (Col t ∷ locals) after zero o b a i has =
    let e : slice_get (map texts first) t ≡ Some (texts s) = map_got texts first t s (o.stand t s i.0 (has s refl)) in rw e refl
input_same texts first columns n (Col s ∷ places) (Col t ∷ locals) after (suc p) o b a i has = input_same texts first columns n places locals after p o b a.1 i.1 has
input_same texts first columns n (Col s ∷ places) (New ∷ locals) after zero o b a i has = absurd (i.0 (o.stay s (has s refl)))
input_same texts first columns n (Col s ∷ places) (New ∷ locals) after (suc p) o b a i has =
    input_same texts first (columns ++ s ∷ []) n places locals after p (old_push first columns s i.0 o) (below_push columns n s b a.0) a.1 i.1 has
input_same texts first columns n (New ∷ places) [] after p o b a i has = absurd i
input_same texts first columns n (New ∷ places) (Const t ∷ locals) after p o b a i has = absurd i
input_same texts first columns n (New ∷ places) (Col t ∷ locals) after p o b a i has = absurd i
input_same texts first columns n (New ∷ places) (New ∷ locals) after zero o b a i has = refl
input_same texts first columns n (New ∷ places) (New ∷ locals) after (suc p) o b a i has =
    input_same texts first (columns ++ n ∷ []) (n + 1) places locals after p (old_push first columns n (not_below columns n b) o) (below_more columns n b) a i has

pub inputs_same : (texts : Texts) (columns : List ℕ) (n : ℕ) (places locals : List Place) (after inputs : List ℕ) → Below columns n → AreNamed n places → IsLocal columns n places locals after
    → AreAsked columns places inputs → input_row_of locals inputs (map texts columns) ≡ inputs_of texts places inputs
inputs_same texts columns n places locals after inputs b a i has =
    map_same (λ p. input_value_or (map texts columns) (slice_get locals p)) (λ p. text_of texts (slice_get places p)) inputs
    (λ p c. input_same texts columns columns n places locals after p (record { stand = λ i k e h. e; stay = λ k h. h }) b a i (λ k e. has p k c e))
