-- An instance and the store of its facts: what the one breaks, the other breaks.
use Rattle.std.proofs.Common.{◌≡◌, ℕ, ◌<◌, List, [], ◌∷◌, map, refl, sym, ap, ◌∙◌, subst, ⊎_elim, arith}
use Rattle.std.specs.Prelude.{◌≢◌, Contains}
use Rattle.std.specs.declared.cmp.Ordering.TheVariants.{Greater}
use Rattle.std.proofs.lemmas.List.FromFn.{length-map-range_with_len}
use Rattle.lists.proofs.Members.{contains_cases, contains_mapped, map_same}
use Rattle.meaning.specs.declared.types.Term.{Term}
use Rattle.meaning.specs.declared.types.Term.TheVariants.{Var}
use Rattle.meaning.specs.declared.types.Val.{Val}
use Rattle.meaning.specs.declared.types.Val.TheVariants.{Const}
use Rattle.meaning.specs.declared.types.Atom.{Atom}
use Rattle.meaning.specs.declared.types.Rule.{Rule}
use Rattle.meaning.specs.declared.types.Fact.{Fact}
use Rattle.meaning.specs.declared.types.Ground.{Ground}
use Rattle.meaning.specs.Matching.{value_of, AreFacts, OccursIn, MeetsRule, itself, FactsOf, GroundsOf}
use Rattle.meaning.specs.Homomorphisms.{image}
use Rattle.meaning.specs.Triggers.{bound, ground}
use Rattle.meaning_laws.proofs.Carrying.{occurs_below}
use Rattle.meaning_laws.proofs.Deciding.{same_values, same_facts}
use Rattle.homomorphism.specs.Bindings.{at, values_of}
use Rattle.homomorphism.specs.Rules.{IsUnmetMatch}
use Rattle.homomorphism.specs.Instances.{ground_of, AreFactsOf}
use Rattle.homomorphism.specs.Texts.{blank, text_at}
use Rattle.homomorphism.proofs.Instances.{said, said_at, facts_there, facts_back}
use Rattle.data_verify.specs.Breaking.{Breaks, row_under, row_lists_cmp, AreLeastBreaking}
use Rattle.data_verify.specs.Unmet.{AreLeastUnmet}

abbrev pub said_list : Rule → (ℕ → List ℕ) → List Val
said_list rule a = values_of (bound rule.body) (said a)

-- a variable whose atom is a fact of texts has a text
known_term : (terms : List Term) (row : List (List ℕ)) (a : ℕ → Val) (x : ℕ) → map (value_of Const a) terms ≡ map Const row → Contains terms (Var x) → Const (image blank (a x)) ≡ a x
known_term [] row a x e c = absurd (omega arith)
known_term (term ∷ terms) [] a x e c = absurd (cc)
known_term (term ∷ terms) (text ∷ row) a x e c =
    let first : value_of Const a term ≡ Const text = cc in
    let rest : map (value_of Const a) terms ≡ map Const row = cc in
    ⊎_elim
    (λ same. let is : a x ≡ Const text = ap (value_of Const a) (sym same) ∙ first in subst (λ v. Const (image blank v) ≡ v) (sym is) refl)
    (λ h. known_term terms row a x rest h)
    (contains_cases term terms (Var x) c)

module _ (instance : List Fact) (facts : List Ground) (of : AreFactsOf instance facts) where
  known : (a : ℕ → Val) (atoms : List Atom) (x : ℕ) → AreFacts Const (GroundsOf facts) a atoms → OccursIn atoms x → Const (image blank (a x)) ≡ a x
  known a atoms x are (atom, c, occurs) =
      let (one, among, e) = contains_mapped ground_of instance (ground a atom) ((of (ground a atom)).0 (are atom c)) in
      known_term atom.terms one.row a x (ap (λ (f : Ground). f.vals) (sym e)) occurs

  pub meets : (rule : Rule) → MeetsRule Const (GroundsOf facts) rule → MeetsRule itself (FactsOf instance) rule
  meets rule m a body =
      let (b, ext) = m (said a) (facts_there instance facts of a rule.body body) in
      ((λ x. image blank (b x)), record { agrees = λ x occurs. ap (image blank) (ext.agrees x occurs); head = facts_back instance facts of b rule.head ext.head })

  pub breaks : (rule : Rule) (values : List Val) → IsUnmetMatch facts rule values → Breaks instance rule (text_at values)
  unfolding known
  breaks rule values m = record {
    body = facts_back instance facts of (at values) rule.body m.body;
    unmet = λ b ext. m.unmet (said b) (record {
      agrees = λ x occurs. ap Const (ext.agrees x occurs) ∙ known (at values) rule.body x m.body occurs;
      head = facts_there instance facts of b rule.head ext.head;
    });
  }

  pub unmet_from : (rule : Rule) (a : ℕ → List ℕ) → Breaks instance rule a →
      (values : List Val) × IsUnmetMatch facts rule values × (map (row_under (text_at values)) rule.body ≡ map (row_under a) rule.body)
  unmet_from rule a br = (
    said_list rule a,
    record {
      width = length-map-range_with_len (said a) 0 (bound rule.body);
      body = same_facts facts (said a) (at (said_list rule a)) rule.body (λ x occurs. sym (same x (occurs_below rule.body x occurs))) (facts_there instance facts of a rule.body br.body);
      unmet = λ b ext. br.unmet (λ x. image blank (b x)) (record {
        agrees = λ x occurs. ap (image blank) (ext.agrees x occurs ∙ same x (occurs_below rule.body x occurs));
        head = facts_back instance facts of b rule.head ext.head;
      });
    },
    map_same (row_under (text_at (said_list rule a))) (row_under a) rule.body
        (λ atom c. same_values itself (text_at (said_list rule a)) a atom.terms (λ x occurs. ap (image blank) (same x (occurs_below rule.body x (atom, c, occurs))))),
  )
    where
      same : (x : ℕ) → x < bound rule.body → at (said_list rule a) x ≡ Const (a x)
      same x l = said_at (bound rule.body) a x l

  pub least_breaking : (rule : Rule) (found : List Fact) → AreLeastUnmet facts rule found → AreLeastBreaking instance rule found
  unfolding breaks unmet_from
  least_breaking rule found l = record {
    come = let (values, m, e) = l.come in (text_at values, breaks rule values m, e);
    least = λ a br.
        let (values, m, e) = unmet_from rule a br in
        subst (λ rows. row_lists_cmp (map (λ (fact : Fact). fact.row) found) rows ≢ Greater) e (l.least values m);
  }
