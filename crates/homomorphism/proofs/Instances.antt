-- An instance and the store of its facts: what makes atoms facts of the one makes them facts of the other.
use Rattle.std.proofs.Common.{◌≡◌, ℕ, ◌<◌, List, [], ◌∷◌, map, refl, sym, ap, ◌∙◌, subst, arith}
use Rattle.std.specs.Prelude.{Contains}
use Rattle.std.proofs.lemmas.List.FromFn.{get_or-map-range_with_len}
use Rattle.lists.proofs.Members.{contains_map, contains_mapped}
use Rattle.meaning.specs.declared.types.Term.{Term}
use Rattle.meaning.specs.declared.types.Term.TheVariants.{Var, Const as Said}
use Rattle.meaning.specs.declared.types.Val.{Val}
use Rattle.meaning.specs.declared.types.Val.TheVariants.{Const, Label}
use Rattle.meaning.specs.declared.types.Atom.{Atom}
use Rattle.meaning.specs.declared.types.Fact.{Fact}
use Rattle.meaning.specs.declared.types.Ground.{Ground}
use Rattle.meaning.specs.Matching.{value_of, AreFacts, itself, FactsOf, GroundsOf}
use Rattle.meaning.specs.Homomorphisms.{image, fact_of}
use Rattle.meaning.specs.Triggers.{ground}
use Rattle.meaning_laws.proofs.Carrying.{image_values}
use Rattle.homomorphism.specs.Bindings.{at, values_of}
use Rattle.homomorphism.specs.Instances.{ground_of, AreFactsOf}
use Rattle.homomorphism.specs.Texts.{blank}

-- an assignment of texts, as one of constants
abbrev pub said : (ℕ → List ℕ) → ℕ → Val
said b x = Const (b x)

pub said_at : (n : ℕ) (b : ℕ → List ℕ) (x : ℕ) → x < n → at (values_of n (said b)) x ≡ Const (b x)
said_at n b x l = get_or-map-range_with_len (said b) 0 n x x (Label 0) l (omega arith)

said_values : (b : ℕ → List ℕ) (terms : List Term) → map (value_of Const (said b)) terms ≡ map Const (map (value_of itself b) terms)
said_values b [] = refl
said_values b (Var x ∷ terms) = ap (λ l. Const (b x) ∷ l) (said_values b terms)
said_values b (Said c ∷ terms) = ap (λ l. Const c ∷ l) (said_values b terms)

image_said : (row : List (List ℕ)) → map (image blank) (map Const row) ≡ row
image_said [] = refl
image_said (c ∷ row) = ap (λ l. c ∷ l) (image_said row)

module _ (instance : List Fact) (facts : List Ground) (of : AreFactsOf instance facts) where
  there : (b : ℕ → List ℕ) (atom : Atom) → FactsOf instance atom.rel (map (value_of itself b) atom.terms) → Contains facts (ground (said b) atom)
  there b atom c =
      let made : ground_of (record { rel = atom.rel; row = map (value_of itself b) atom.terms }) ≡ ground (said b) atom = ap (λ vals. record { rel = atom.rel; vals = vals }) (sym (said_values b atom.terms)) in
      (of (ground (said b) atom)).1 (subst (Contains (map ground_of instance)) made (contains_map ground_of instance (record { rel = atom.rel; row = map (value_of itself b) atom.terms }) c))

  back : (fact : Ground) → Contains facts fact → Contains instance (fact_of blank fact)
  back fact c =
      let (one, among, e) = contains_mapped ground_of instance fact ((of fact).0 c) in
      let same : one ≡ fact_of blank (ground_of one) = ap (λ row. record { rel = one.rel; row = row }) (sym (image_said one.row)) in
      subst (Contains instance) (same ∙ ap (fact_of blank) e) among

  pub facts_there : (b : ℕ → List ℕ) (atoms : List Atom) → AreFacts itself (FactsOf instance) b atoms → AreFacts Const (GroundsOf facts) (said b) atoms
  unfolding there
  facts_there b atoms are atom c = there b atom (are atom c)

  pub facts_back : (a : ℕ → Val) (atoms : List Atom) → AreFacts Const (GroundsOf facts) a atoms → AreFacts itself (FactsOf instance) (λ x. image blank (a x)) atoms
  unfolding back
  facts_back a atoms are atom c =
      subst (λ row. Contains instance (record { rel = atom.rel; row = row })) (image_values blank a atom.terms) (back (ground a atom) (are atom c))
