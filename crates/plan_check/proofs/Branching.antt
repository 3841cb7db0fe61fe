-- The terms of places and the atoms of steps, one after another.
use Rattle.std.proofs.Common.{◌≡◌, ℕ, ◌+◌, List, [], ◌∷◌, ◌++◌, refl, sym, ap, ◌∙◌, subst, append_assoc}
use Rattle.std.proofs.lemmas.List.{append-nil}
use Rattle.meaning.specs.declared.types.Term.{Term}
use Rattle.meaning.specs.declared.types.Atom.{Atom}
use Rattle.meaning.specs.declared.types.SchemaParts.{SchemaParts}
use Rattle.meaning.specs.declared.types.Place.{Place}
use Rattle.meaning.specs.declared.types.Place.TheVariants.{Const, Col, New}
use Rattle.meaning.specs.declared.types.Step.{Step}
use Rattle.meaning.specs.Plans.{made}
use Rattle.meaning.specs.Judge.{terms_of, AreAtoms}
use Rattle.meaning_laws.proofs.Frozen.{made_grows, columns_grow}
use Rattle.plan_check.specs.Forms.{IsAtomOf, place_term}

-- columns grow in number
-- one place, and then the others
pub made_one : (n : ℕ) (place : Place) (places : List Place) → made n (place ∷ places) ≡ made (made n (place ∷ [])) places
made_one n (Const c) places = refl
made_one n (Col k) places = refl
made_one n New places = refl

terms_one : (n : ℕ) (place : Place) (places : List Place) → terms_of n (place ∷ places) ≡ place_term n place ∷ terms_of (made n (place ∷ [])) places
terms_one n (Const c) places = refl
terms_one n (Col k) places = refl
terms_one n New places = refl

pub terms_more : (whole done pushed : List Term) (n after : ℕ) (left rest : List Place) (place : Place) (term : Term) →
    whole ≡ done ++ terms_of n left → left ≡ place ∷ rest → term ≡ place_term n place → after ≡ made n (place ∷ []) → pushed ≡ done ++ term ∷ [] →
    whole ≡ pushed ++ terms_of after rest
terms_more whole done pushed n after left rest place term so_far at term_is after_is pushed_is =
    so_far ∙ ap (λ places. done ++ terms_of n places) at ∙ ap (λ terms. done ++ terms) (terms_one n place rest)
    ∙ ap (λ t. done ++ t ∷ terms_of (made n (place ∷ [])) rest) (sym term_is)
    ∙ ap (λ m. done ++ term ∷ terms_of m rest) (sym after_is)
    ∙ sym (append_assoc done (term ∷ []) (terms_of after rest))
    ∙ ap (λ terms. terms ++ terms_of after rest) (sym pushed_is)

-- the atoms so far, with those of the steps that are left behind them, are those of all
abbrev pub GoOn : SchemaParts → List Step → List Atom → ℕ → List Step → Type 0
GoOn schema steps done n left = (more : List Atom) → AreAtoms schema n left more → AreAtoms schema 0 steps (done ++ more)

pub atoms_more : (schema : SchemaParts) (steps left rest : List Step) (done pushed : List Atom) (n after : ℕ) (step : Step) (atom : Atom) →
    GoOn schema steps done n left → left ≡ step ∷ rest → IsAtomOf schema n step atom → after ≡ made n step.places → pushed ≡ done ++ atom ∷ [] →
    GoOn schema steps pushed after rest
atoms_more schema steps left rest done pushed n after step atom so_far at (method, named, atom_is) after_is pushed_is more are =
    subst (AreAtoms schema 0 steps) (sym (append_assoc done (atom ∷ []) more) ∙ ap (λ d. d ++ more) (sym pushed_is))
    (so_far (atom ∷ more)
    (subst (λ l. AreAtoms schema n l (atom ∷ more)) (sym at)
    (method, more, named, ap (λ a. a ∷ more) atom_is, subst (λ m. AreAtoms schema m rest more) after_is are)))

pub atoms_all : (schema : SchemaParts) (steps left : List Step) (done : List Atom) (n : ℕ) → GoOn schema steps done n left → left ≡ [] → AreAtoms schema 0 steps done
atoms_all schema steps left done n so_far none =
    subst (AreAtoms schema 0 steps) (append-nil done) (so_far [] (subst (λ l. AreAtoms schema n l []) (sym none) refl))
