-- The rules whose firings make no image of an atom, and the relations that are marked for the others.
use Rattle.std.proofs.Common.{◌≡◌, ℕ, zero, suc, ◌+◌, ◌-◌, ◌<◌, ◌≤◌, List, [], ◌∷◌, length, take, Bool, Some, Option, refl, sym, ap, ◌∙◌, subst, ⊎_elim, arith}
use Rattle.std.specs.Prelude.{Contains, slice_get, slice_index_or, map}
use Rattle.std.proofs.lemmas.List.{length-map}
use Rattle.meaning_laws.proofs.Joined.{joined_above}
use Rattle.meaning.specs.declared.types.Atom.{Atom}
use Rattle.meaning.specs.declared.types.Ground.{Ground}
use Rattle.meaning.specs.declared.types.Query.{Query}
use Rattle.meaning.specs.declared.types.Rule.{Rule}
use Rattle.meaning.specs.declared.types.Term.{Term}
use Rattle.meaning.specs.declared.types.Term.TheVariants.{Var}
use Rattle.meaning.specs.declared.types.Val.{Val}
use Rattle.meaning.specs.declared.types.Val.TheVariants.{Const, Label}
use Rattle.meaning.specs.Matching.{value_of}
use Rattle.meaning.specs.Triggers.{bound, ground, assigned}
use Rattle.homomorphism.specs.Bindings.{Agrees}
use Rattle.exposure_search.specs.Relevance.{Keeps, AllMarked, BodiesMarked, IsImageOf, IsImageAmong, IsMade, AreGiven, Makes, NeverMeet, NeverMatch}
use Rattle.exposure_search.proofs.Wanting.{front_each, front_none, all_more}
use Rattle.exposure_search.proofs.Imaging.{image_next, image_none}

maps_at : (f g : Term → Val) (made asked : List Term) (i : ℕ) (m n : Term) → i < length made → m ≡ slice_index_or made i m → n ≡ slice_index_or asked i n → map f made ≡ map g asked → f m ≡ g n
maps_at f g [] asked i m n low e h same = absurd (omega arith)
maps_at f g (first ∷ made) [] i m n low e h same = absurd (cc)
maps_at f g (first ∷ made) (other ∷ asked) zero m n low e h same = ap f e ∙ heads (f first) (g other) (map f made) (map g asked) same ∙ sym (ap g h)
  where
    heads : (x y : Val) (xs ys : List Val) → x ∷ xs ≡ y ∷ ys → x ≡ y
    heads x y xs ys e = cc
maps_at f g (first ∷ made) (other ∷ asked) (suc i) m n low e h same = maps_at f g made asked i m n (omega arith) e h (tails (f first) (g other) (map f made) (map g asked) same)
  where
    tails : (x y : Val) (xs ys : List Val) → x ∷ xs ≡ y ∷ ys → xs ≡ ys
    tails x y xs ys e = cc

pub never_at : (given : List (Option Val)) (next width : ℕ) (made asked : List Term) (i : ℕ) (m n : Term) → i < length made → m ≡ slice_index_or made i m → n ≡ slice_index_or asked i n → NeverMeet given next width m n → NeverMatch given next width made asked
never_at given next width made asked i m n low e h never trigger a wide fresh agrees same = never trigger a wide fresh agrees (maps_at (value_of Const (assigned trigger)) (value_of Const a) made asked i m n low e h same)

-- none of the head's atoms can make a fact of the atom
abbrev pub NoneServes : List (Option Val) → ℕ → ℕ → List Atom → Atom → Type 0
NoneServes given next width head atom = (made : Atom) → Contains head made → made.rel ≡ atom.rel → NeverMatch given next width made.terms atom.terms

pub never_serves : (given : List (Option Val)) (next : ℕ) (rule : Rule) (atoms : List Atom) → ((atom : Atom) → Contains atoms atom → NoneServes given next (bound rule.body) rule.head atom) → (fact : Ground) → Makes next rule fact → IsMade given atoms fact → ⊥
never_serves given next rule atoms none fact makes is =
    let same : ground (assigned makes.trigger) makes.head ≡ ground is.assignment is.atom = makes.makes ∙ sym is.makes in
    none is.atom is.of_atoms makes.head makes.of_rule (ap (λ (f : Ground). f.rel) same) makes.trigger is.assignment makes.width makes.fresh is.agrees (ap (λ (f : Ground). f.vals) same)

-- ---- marks for rules

-- the rule's body is marked if it makes a fact of the kind
abbrev pub IsServed : ℕ → (Ground → Type 0) → List Bool → Rule → Type 0
IsServed next Kind marks rule = (fact : Ground) → Makes next rule fact → Kind fact → AllMarked marks rule.body

pub bodies_more : (rules : List Rule) (next : ℕ) (Kind : Ground → Type 0) (now new : List Bool) → Keeps now new → BodiesMarked rules next Kind now → BodiesMarked rules next Kind new
bodies_more rules next Kind now new keeps all rule among fact makes kind = all_more now new rule.body keeps (all rule among fact makes kind)

pub bodies_next : (rules : List Rule) (next : ℕ) (Kind : Ground → Type 0) (now new : List Bool) (i : ℕ) (rule : Rule) → slice_get rules i ≡ Some rule → Keeps now new → BodiesMarked (take i rules) next Kind now → IsServed next Kind new rule → BodiesMarked (take (i + 1) rules) next Kind new
bodies_next rules next Kind now new i rule got keeps all here = front_each (IsServed next Kind new) rules i rule got (bodies_more (take i rules) next Kind now new keeps all) here

pub bodies_none : (next : ℕ) (Kind : Ground → Type 0) (marks : List Bool) → BodiesMarked [] next Kind marks
bodies_none next Kind marks rule among = front_none (IsServed next Kind marks) rule among

pub bodies_images : (rules : List Rule) (next : ℕ) (query : Query) (head : List Val) (given : List (Option Val)) (marks : List Bool) → AreGiven query head given → BodiesMarked rules next (IsMade given query.atoms) marks → BodiesMarked rules next (IsImageOf query head) marks
bodies_images rules next query head given marks are all rule among fact makes image = all rule among fact makes (are.images fact image)

-- one query more
pub bodies_queries : (rules : List Rule) (next : ℕ) (queries : List Query) (head : List Val) (now new : List Bool) (i : ℕ) (query : Query) → slice_get queries i ≡ Some query → Keeps now new → BodiesMarked rules next (IsImageAmong (take i queries) head) now →
    BodiesMarked rules next (IsImageOf query head) new → BodiesMarked rules next (IsImageAmong (take (i + 1) queries) head) new
bodies_queries rules next queries head now new i query got keeps all here rule among fact makes image =
    ⊎_elim (λ old. all_more now new rule.body keeps (all rule among fact makes old)) (λ its. here rule among fact makes its) (image_next queries head i query fact got image)

pub bodies_no_query : (rules : List Rule) (next : ℕ) (head : List Val) (marks : List Bool) → BodiesMarked rules next (IsImageAmong [] head) marks
bodies_no_query rules next head marks rule among fact makes image = absurd (image_none head fact image)
