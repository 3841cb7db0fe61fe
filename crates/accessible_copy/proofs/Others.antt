-- The facts that are not the first of their relation, as facts come and go.
use Rattle.std.proofs.Common.{◌≡◌, ◌≢◌, ℕ, zero, suc, ◌+◌, ◌-◌, ◌∙◌, List, [], ◌∷◌, ◌++◌, length, Some, take, refl, sym, ap, subst, ⊎_elim, arith}
use Rattle.std.specs.Prelude.{Contains, slice_get, slice_index}
use Rattle.std.proofs.lemmas.Bool.Decides.{eqb_tells}
use Rattle.std.proofs.lemmas.List.{append-nil, length_push}
use Rattle.lists.proofs.Members.{contains_here, contains_there, contains_cases, some_injective}
use Rattle.meaning.specs.declared.types.Ground.{Ground}
use Rattle.accessible_copy.specs.Places.{AreFirstOfRelations, AreIndexed, others_of}
use Rattle.accessible_copy.proofs.Lists.{take_front}
use Rattle.accessible_copy.proofs.Relations.{firsts_cut}

-- one fact more
pub others_push : (place : ℕ) (firsts : List ℕ) (facts : List Ground) (fact : Ground)
    → others_of place firsts (facts ++ fact ∷ []) ≡ others_of place firsts facts ++ others_of (place + length facts) firsts (fact ∷ [])
others_push place firsts [] fact = let e : place + 0 ≡ place = omega arith in ap (λ n. others_of n firsts (fact ∷ [])) (sym e)
others_push place firsts (one ∷ facts) fact =
    let e : suc place + length facts ≡ place + suc (length facts) = omega arith in
    let rest : others_of (suc place) firsts (facts ++ fact ∷ []) ≡ others_of (suc place) firsts facts ++ others_of (place + suc (length facts)) firsts (fact ∷ []) = rw (← e) (others_push (suc place) firsts facts fact) in
    ⊎_elim (λ h. rw h.0 rest) (λ h. rw h.0 (ap (λ l. one ∷ l) rest)) (eqb_tells (slice_index firsts one.rel) place)

-- places that are the same for each relation of a fact
pub others_as : (place : ℕ) (firsts others : List ℕ) (facts : List Ground) → ((n : ℕ) (fact : Ground) → slice_get facts n ≡ Some fact → slice_index others fact.rel ≡ slice_index firsts fact.rel)
    → others_of place others facts ≡ others_of place firsts facts
others_as place firsts others [] same = refl
others_as place firsts others (one ∷ facts) same =
    let rest : others_of (suc place) others facts ≡ others_of (suc place) firsts facts = others_as (suc place) firsts others facts (λ n fact got. same (suc n) fact got) in
    let here : slice_index others one.rel ≡ slice_index firsts one.rel = same zero one refl in
    ⊎_elim (λ h. rw (here, h.0) rest) (λ h. rw (here, h.0) (ap (λ l. one ∷ l) rest)) (eqb_tells (slice_index firsts one.rel) place)

pub others_within : (place : ℕ) (firsts : List ℕ) (facts : List Ground) (fact : Ground) → Contains (others_of place firsts facts) fact → Contains facts fact
others_within place firsts [] fact there = there
others_within place firsts (one ∷ facts) fact there =
    ⊎_elim (λ h. contains_there one facts fact (others_within (suc place) firsts facts fact (rw h.0 at there)))
    (λ h. ⊎_elim (λ same. rw same (contains_here fact facts)) (λ more. contains_there one facts fact (others_within (suc place) firsts facts fact more))
    (contains_cases one (others_of (suc place) firsts facts) fact (rw h.0 at there)))
    (eqb_tells (slice_index firsts one.rel) place)

pub others_there : (place : ℕ) (firsts : List ℕ) (facts : List Ground) (n : ℕ) (fact : Ground) → slice_get facts n ≡ Some fact → slice_index firsts fact.rel ≢ place + n → Contains (others_of place firsts facts) fact
others_there place firsts [] n fact got apart = absurd (cc)
others_there place firsts (one ∷ facts) zero fact got apart =
    let same : one ≡ fact = some_injective one fact got in
    ⊎_elim (λ h. absurd (apart (ap (λ (f : Ground). slice_index firsts f.rel) (sym same) ∙ h.1 ∙ omega arith))) (λ h. subst (λ (f : Ground). Contains (others_of place firsts (one ∷ facts)) f) same (rw h.0 (contains_here one (others_of (suc place) firsts facts))))
    (eqb_tells (slice_index firsts one.rel) place)
others_there place firsts (one ∷ facts) (suc n) fact got apart =
    let e : suc place + n ≡ place + suc n = omega arith in
    let more : Contains (others_of (suc place) firsts facts) fact = others_there (suc place) firsts facts n fact got (rw e apart) in
    ⊎_elim (λ h. rw h.0 more) (λ h. rw h.0 (contains_there one (others_of (suc place) firsts facts) fact more)) (eqb_tells (slice_index firsts one.rel) place)

-- the last fact, which stands at the first place of its relation or does not
pub others_first : (firsts : List ℕ) (facts : List Ground) (fact : Ground) → slice_index firsts fact.rel ≡ length facts → others_of 0 firsts (facts ++ fact ∷ []) ≡ others_of 0 firsts facts
others_first firsts facts fact is =
    ⊎_elim (λ h. others_push 0 firsts facts fact ∙ rw h.0 (append-nil (others_of 0 firsts facts))) (λ h. absurd (h.1 (is ∙ omega arith))) (eqb_tells (slice_index firsts fact.rel) (0 + length facts))

pub others_more : (firsts : List ℕ) (facts : List Ground) (fact : Ground) → slice_index firsts fact.rel ≢ length facts → others_of 0 firsts (facts ++ fact ∷ []) ≡ others_of 0 firsts facts ++ fact ∷ []
others_more firsts facts fact not =
    ⊎_elim (λ h. absurd (not (h.1 ∙ omega arith))) (λ h. others_push 0 firsts facts fact ∙ rw h.0 refl) (eqb_tells (slice_index firsts fact.rel) (0 + length facts))

-- places that are the same for each relation of a fact
pub indexed_as : (facts : List Ground) (firsts new : List ℕ) (others : List Ground) → AreIndexed facts firsts others → AreFirstOfRelations facts new
    → ((n : ℕ) (fact : Ground) → slice_get facts n ≡ Some fact → slice_index new fact.rel ≡ slice_index firsts fact.rel) → AreIndexed facts new others
indexed_as facts firsts new others are first same = (first, are.1 ∙ sym (others_as 0 firsts new facts same))

-- without the last fact
pub firsts_before : (facts : List Ground) (fact : Ground) (firsts : List ℕ) → AreFirstOfRelations (facts ++ fact ∷ []) firsts → AreFirstOfRelations facts firsts
firsts_before facts fact firsts are = subst (λ (l : List Ground). AreFirstOfRelations l firsts) (take_front facts (fact ∷ [])) (firsts_cut (facts ++ fact ∷ []) firsts (length facts) are)

pub without_first : (facts : List Ground) (fact : Ground) (firsts : List ℕ) (others : List Ground) → slice_index firsts fact.rel ≡ length facts → AreIndexed (facts ++ fact ∷ []) firsts others → AreIndexed facts firsts others
without_first facts fact firsts others is are = (firsts_before facts fact firsts are.0, are.1 ∙ others_first firsts facts fact is)

pub without_other : (facts : List Ground) (fact : Ground) (firsts : List ℕ) (others : List Ground) → slice_index firsts fact.rel ≢ length facts → AreIndexed (facts ++ fact ∷ []) firsts others
    → AreIndexed facts firsts (take (length others - 1) others)
without_other facts fact firsts others not are =
    let rest : List Ground = others_of 0 firsts facts in
    let all : others ≡ rest ++ fact ∷ [] = are.1 ∙ others_more firsts facts fact not in
    let count : length (rest ++ fact ∷ []) - 1 ≡ length rest = let long = length_push rest fact in omega arith in
    (firsts_before facts fact firsts are.0, rw all (rw count (take_front rest (fact ∷ []))))
