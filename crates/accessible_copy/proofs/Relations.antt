-- Where the first fact of each relation stands, as facts come and go.
use Rattle.std.proofs.Common.{◌≡◌, ◌≢◌, ℕ, ◌<◌, ◌≤◌, List, [], ◌∷◌, ◌++◌, length, take, Some, refl, ap, ◌∙◌, subst, ⊎_elim, arith}
use Rattle.std.specs.Prelude.{◌⊎◌, slice_get, slice_index, slice_set}
use Rattle.std.proofs.lemmas.Option.{slice_get_within}
use Rattle.std.proofs.lemmas.List.{get_or-set_other}
use Rattle.lists.proofs.Members.{got_push, got_before}
use Rattle.meaning.specs.declared.types.Ground.{Ground}
use Rattle.accessible_copy.specs.Places.{IsOfRelation, AreFirstOfRelations}
use Rattle.accessible_copy.proofs.Lists.{got_front, front_got, got_cases}

-- of no facts
pub firsts_none : (places : List ℕ) → AreFirstOfRelations [] places
firsts_none places n fact got = absurd (cc)

-- places that are the same for each relation of a fact
pub firsts_as : (facts : List Ground) (places others : List ℕ) → AreFirstOfRelations facts places → ((n : ℕ) (fact : Ground) → slice_get facts n ≡ Some fact → slice_index others fact.rel ≡ slice_index places fact.rel)
    → AreFirstOfRelations facts others
firsts_as facts places others are same n fact got = rw (same n fact got) (are n fact got)

-- a place for a relation of which no fact stands here
pub firsts_noted : (facts : List Ground) (places grown : List ℕ) (rel next : ℕ) → AreFirstOfRelations facts places → ((k : ℕ) → slice_index grown k ≡ slice_index places k)
    → (IsOfRelation facts (slice_index places rel) rel → ⊥) → AreFirstOfRelations facts (slice_set grown rel next)
firsts_noted facts places grown rel next are stays none = firsts_as facts places (slice_set grown rel next) are (λ n fact got.
    let apart : fact.rel ≢ rel = λ e. none (subst (λ r. IsOfRelation facts (slice_index places r) r) e (are n fact got).1) in
    get_or-set_other grown rel fact.rel next 0 apart ∙ stays fact.rel)

-- one fact more
pub firsts_push : (facts : List Ground) (fact : Ground) (places : List ℕ) → AreFirstOfRelations facts places
    → IsOfRelation facts (slice_index places fact.rel) fact.rel ⊎ (slice_index places fact.rel ≡ length facts) → AreFirstOfRelations (facts ++ fact ∷ []) places
firsts_push facts fact places are first n other got = ⊎_elim (λ h. before h) (λ (here, same). subst (λ (f : Ground). (slice_index places f.rel ≤ n) × IsOfRelation (facts ++ fact ∷ []) (slice_index places f.rel) f.rel) same (last here)) (got_cases facts fact n other got)
  where
    still : (place rel : ℕ) → IsOfRelation facts place rel → IsOfRelation (facts ++ fact ∷ []) place rel
    still place rel (one, at, of) = (one, got_before facts (fact ∷ []) place (slice_get_within facts place one at) ∙ at, of)

    before : slice_get facts n ≡ Some other → (slice_index places other.rel ≤ n) × IsOfRelation (facts ++ fact ∷ []) (slice_index places other.rel) other.rel
    before h = let (low, is) = are n other h in (low, still (slice_index places other.rel) other.rel is)

    last : n ≡ length facts → (slice_index places fact.rel ≤ n) × IsOfRelation (facts ++ fact ∷ []) (slice_index places fact.rel) fact.rel
    last here = ⊎_elim
        (λ is. let (one, at, of) = is in let within = slice_get_within facts (slice_index places fact.rel) one at in (omega arith, still (slice_index places fact.rel) fact.rel is))
        (λ e. (omega arith, (fact, ap (slice_get (facts ++ fact ∷ [])) e ∙ got_push facts fact, refl))) first

-- back to the first facts
pub firsts_cut : (facts : List Ground) (places : List ℕ) (count : ℕ) → AreFirstOfRelations facts places → AreFirstOfRelations (take count facts) places
firsts_cut facts places count are n fact got =
    let (short, h) = got_front count facts n fact got in
    let (low, is) = are n fact h in
    let (one, at, of) = is in
    let place = slice_index places fact.rel in
    let under : place < count = omega arith in
    (low, (one, front_got count facts place one under at, of))
