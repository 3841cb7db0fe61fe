-- A labelled state keeps its meaning when its labels become new texts.
use Rattle.std.proofs.Common.{◌≡◌, ◌⊎◌, ℕ, zero, suc, ◌+◌, ◌<◌, ◌≤◌, max, List, [], ◌∷◌, length, refl, sym, ap, ◌∙◌, subst, ⊎_elim, arith}
use mathlib.Core.List.{List-discrete}
use Rattle.std.proofs.Math.Decide.{ℕ_discrete}
use Rattle.std.specs.Prelude.{Contains, map, replicate}
use Rattle.std.proofs.lemmas.List.{length-replicate}
use Rattle.lists.proofs.Members.{contains_here, contains_there, contains_cases, contains_map, contains_mapped}
use Rattle.meaning_laws.proofs.Carrying.{image_values}
use Rattle.meaning.specs.declared.types.Term.{Term}
use Rattle.meaning.specs.declared.types.Term.TheVariants.{Var, Const as Said}
use Rattle.meaning.specs.declared.types.Val.{Val}
use Rattle.meaning.specs.declared.types.Val.TheVariants.{Const, Label}
use Rattle.meaning.specs.declared.types.Atom.{Atom}
use Rattle.meaning.specs.declared.types.Rule.{Rule}
use Rattle.meaning.specs.declared.types.Query.{Query}
use Rattle.meaning.specs.declared.types.Fact.{Fact}
use Rattle.meaning.specs.declared.types.Ground.{Ground}
use Rattle.meaning.specs.Matching.{value_of, AreFacts, OccursIn, MeetsAll, IsQueryAnswer, itself, FactsOf, GroundsOf}
use Rattle.meaning.specs.Homomorphisms.{image, fact_of, renamed}
use Rattle.meaning.specs.Naming.{IsNaming, IsNamed, AreNamed}
use Rattle.meaning.specs.Fitting.{HaveConstants, RulesHaveConstants}

-- the label below n whose text it is, or the text as a constant
pub back : (ℕ → List ℕ) → ℕ → List ℕ → Val
back h zero t = Const t
back h (suc n) t = elim (List-discrete ℕ_discrete (h n) t) [ yes e ↦ Label n | no d ↦ back h n t ]

module _ (constants : List (List ℕ)) (next : ℕ) (h : ℕ → List ℕ) (naming : IsNaming constants next h) where
  back_label : (n k : ℕ) → n ≤ next → k < n → back h n (h k) ≡ Label k
  unfolding back
  back_label zero k l below = absurd (omega arith)
  back_label (suc n) k l below =
      elim (List-discrete ℕ_discrete (h n) (h k)) as (λ d. (elim d as (λ x. Val) [ yes e ↦ Label n | no d ↦ back h n (h k) ]) ≡ Label k) [
        | yes e ↦ ap Label (naming.differ n k (omega arith) (omega arith) e)
        | no d ↦ ⊎_elim (λ e. absurd (d (ap h e))) (λ less. back_label n k (omega arith) less) (last_or_less below)
      ]
    where
      last_or_less : {n k : ℕ} → k < suc n → (n ≡ k) ⊎ (k < n)
      last_or_less {n} {k} l = grind arith

  back_constant : (n : ℕ) (c : List ℕ) → n ≤ next → Contains constants c → back h n c ≡ Const c
  unfolding back
  back_constant zero c l among = refl
  back_constant (suc n) c l among =
      elim (List-discrete ℕ_discrete (h n) c) as (λ d. (elim d as (λ x. Val) [ yes e ↦ Label n | no d ↦ back h n c ]) ≡ Const c)
      [ yes e ↦ absurd (naming.new n (omega arith) (subst (λ t. Contains constants t) (sym e) among)) | no d ↦ back_constant n c (omega arith) among ]

  pub back_named : (v : Val) → IsNamed constants next v → back h next (image h v) ≡ v
  back_named (Const c) among = back_constant next c (omega arith) among
  back_named (Label k) below = back_label next k (omega arith) below

  pub back_values : (vals : List Val) → ((v : Val) → Contains vals v → IsNamed constants next v) → map (back h next) (map (image h) vals) ≡ vals
  back_values [] named = refl
  back_values (v ∷ vals) named =
      let here : back h next (image h v) ≡ v = back_named v (named v (contains_here v vals)) in
      let rest : map (back h next) (map (image h) vals) ≡ vals = back_values vals (λ w c. named w (contains_there v vals w c)) in
      cc

  back_terms : (a : ℕ → List ℕ) (terms : List Term) → ((c : List ℕ) → Contains terms (Said c) → Contains constants c) → map (back h next) (map (value_of itself a) terms) ≡ map (value_of Const (λ x. back h next (a x))) terms
  back_terms a [] have = refl
  back_terms a (Var x ∷ terms) have = ap (λ l. back h next (a x) ∷ l) (back_terms a terms (λ c i. have c (contains_there (Var x) terms (Said c) i)))
  back_terms a (Said t ∷ terms) have =
      let here : back h next t ≡ Const t = back_constant next t (omega arith) (have t (contains_here (Said t) terms)) in
      let rest : map (back h next) (map (value_of itself a) terms) ≡ map (value_of Const (λ x. back h next (a x))) terms = back_terms a terms (λ c i. have c (contains_there (Said t) terms (Said c) i)) in
      cc

  module _ (facts : List Ground) (named : AreNamed constants next facts) where
    -- a match in the renamed facts comes from one in the labelled facts
    pub facts_back : (a : ℕ → List ℕ) (atoms : List Atom) → HaveConstants constants atoms → AreFacts itself (FactsOf (renamed h facts)) a atoms → AreFacts Const (GroundsOf facts) (λ x. back h next (a x)) atoms
    facts_back a atoms have are atom among =
        let (fact, holds, e) = contains_mapped (fact_of h) facts (record { rel = atom.rel; row = map (value_of itself a) atom.terms }) (are atom among) in
        let rel : fact.rel ≡ atom.rel = ap (λ (f : Fact). f.rel) e in
        let row : map (image h) fact.vals ≡ map (value_of itself a) atom.terms = ap (λ (f : Fact). f.row) e in
        let vals : fact.vals ≡ map (value_of Const (λ x. back h next (a x))) atom.terms =
        sym (back_values fact.vals (λ v c. named fact v holds c)) ∙ ap (map (back h next)) row ∙ back_terms a atom.terms (λ c i. have atom c among i) in
        let same : fact ≡ record { rel = atom.rel; vals = map (value_of Const (λ x. back h next (a x))) atom.terms } = λ i. record { rel = rel i; vals = vals i } in
        subst (λ f. Contains facts f) same holds

    pub facts_renamed : (b : ℕ → Val) (atoms : List Atom) → AreFacts Const (GroundsOf facts) b atoms → AreFacts itself (FactsOf (renamed h facts)) (λ x. image h (b x)) atoms
    facts_renamed b atoms are atom among =
        subst (λ row. Contains (renamed h facts) (record { rel = atom.rel; row = row })) (image_values h b atom.terms)
        (contains_map (fact_of h) facts (record { rel = atom.rel; vals = map (value_of Const b) atom.terms }) (are atom among))

    -- a value at a variable of a match is the image of a value
    comes_back : (a : ℕ → List ℕ) (atoms : List Atom) (x : ℕ) → AreFacts itself (FactsOf (renamed h facts)) a atoms → OccursIn atoms x → image h (back h next (a x)) ≡ a x
    comes_back a atoms x are (atom, among, occurs) =
        let (fact, holds, e) = contains_mapped (fact_of h) facts (record { rel = atom.rel; row = map (value_of itself a) atom.terms }) (are atom among) in
        let row : map (value_of itself a) atom.terms ≡ map (image h) fact.vals = sym (ap (λ (f : Fact). f.row) e) in
        let (v, inside, is) = contains_mapped (image h) fact.vals (a x) (subst (λ r. Contains r (a x)) row (contains_map (value_of itself a) atom.terms (Var x) occurs)) in
        ap (λ t. image h (back h next t)) (sym is) ∙ ap (image h) (back_named v (named fact v holds inside)) ∙ is

    pub renamed_meets : (rules : List Rule) → RulesHaveConstants constants rules → MeetsAll Const (GroundsOf facts) rules → MeetsAll itself (FactsOf (renamed h facts)) rules
    renamed_meets rules have meets rule among a body =
        let found = meets rule among (λ x. back h next (a x)) (facts_back a rule.body (have rule among).0 body) in (
          (λ x. image h (found.0 x)),
          record {
            agrees = λ x occurs. ap (image h) (found.1.agrees x occurs) ∙ comes_back a rule.body x body occurs;
            head = facts_renamed found.0 rule.head found.1.head;
          },
        )

    pub answer_renamed : (query : Query) (head : List Val) → IsQueryAnswer Const (GroundsOf facts) query head → IsQueryAnswer itself (FactsOf (renamed h facts)) query (map (image h) head)
    answer_renamed query head (a, are, e) = ((λ x. image h (a x)), facts_renamed a query.atoms are, ap (map (image h)) e ∙ image_values h a query.head)

    pub answer_back : (query : Query) (head : List Val) → HaveConstants constants query.atoms → ((c : List ℕ) → Contains query.head (Said c) → Contains constants c) → ((v : Val) → Contains head v → IsNamed constants next v) → IsQueryAnswer itself (FactsOf (renamed h facts)) query (map (image h) head) → IsQueryAnswer Const (GroundsOf facts) query head
    answer_back query head have have_head is_named (a, are, e) =
        ((λ x. back h next (a x)), facts_back a query.atoms have are, sym (back_values head is_named) ∙ ap (map (back h next)) e ∙ back_terms a query.head have_head)

longest : List (List ℕ) → ℕ
longest [] = 0
longest (t ∷ ts) = max (length t) (longest ts)

longest_is : (ts : List (List ℕ)) (t : List ℕ) → Contains ts t → length t ≤ longest ts
unfolding longest
longest_is [] t c = absurd (omega arith)
longest_is (first ∷ ts) t c =
    ⊎_elim (λ e. let same : length first ≡ length t = ap length e in omega arith) (λ h. let rest : length t ≤ longest ts = longest_is ts t h in omega arith) (contains_cases first ts t c)

-- texts that name every label
pub naming_exists : (constants : List (List ℕ)) → (h : ℕ → List ℕ) × ((n : ℕ) → IsNaming constants n h)
naming_exists constants = (
  (λ k. replicate (longest constants + 1 + k) 0),
  λ n. record {
    differ = λ j k l m e. apart j k (sym (length-replicate (longest constants + 1 + j) 0) ∙ ap length e ∙ length-replicate (longest constants + 1 + k) 0);
    new = λ k l c. above k (subst (λ m. m ≤ longest constants) (length-replicate (longest constants + 1 + k) 0) (longest_is constants (replicate (longest constants + 1 + k) 0) c));
  },
)
  where
    apart : (j k : ℕ) → longest constants + 1 + j ≡ longest constants + 1 + k → j ≡ k
    apart j k e = omega arith

    above : (k : ℕ) → longest constants + 1 + k ≤ longest constants → ⊥
    above k l = omega arith
