-- A state in which nothing is active and that has no goal gives a pair that refutes.
use Rattle.std.proofs.Common.{◌≡◌, ℕ, List, [], ◌∷◌, length, Some, sym, ap, ◌∙◌, subst, inl, inr, ⊎_elim, arith}
use Rattle.std.proofs.lemmas.List.{length-map}
use Rattle.std.specs.Prelude.{Contains, slice_get, map}
use Rattle.std.proofs.lemmas.Option.{slice_get-get_or}
use Rattle.lists.proofs.Members.{contains_cases, contains_got, contains_map, contains_mapped, got_mapped}
use Rattle.meaning_laws.proofs.Fits.{fits_alike}
use Rattle.meaning_laws.proofs.Deciding.{dec_contains, quiet_meets}
use Rattle.meaning_laws.proofs.Renaming.{back, back_named, renamed_meets, answer_renamed, answer_back}
use Rattle.meaning.specs.declared.types.Val.{Val}
use Rattle.meaning.specs.declared.types.Val.TheVariants.{Const}
use Rattle.meaning.specs.declared.types.Fact.{Fact}
use Rattle.meaning.specs.declared.types.Ground.{Ground}
use Rattle.meaning.specs.declared.types.Query.{Query}
use Rattle.meaning.specs.declared.types.SchemaParts.{SchemaParts}
use Rattle.meaning.specs.declared.types.Statement.{Statement}
use Rattle.meaning.specs.Instances.{IsInstance}
use Rattle.meaning.specs.Matching.{AnswersQuery}
use Rattle.meaning.specs.Access.{IsKnown, CanAccess, IsAccessPath}
use Rattle.meaning.specs.Claims.{Refutes}
use Rattle.meaning.specs.Homomorphisms.{image, fact_of, renamed}
use Rattle.meaning.specs.Runs.{IsStuck, Proof, base_state, copy_state, IsKnownValue, NoExposure, frozen_head}
use Rattle.meaning.specs.Naming.{IsNaming, AreNamed}
use Rattle.meaning.specs.Fitting.{QueryHasConstants, Fit, IsKept, RulesFit}
use Rattle.meaning.specs.Conjunctive.{StandFor}

pub renamed_fits : (schema : SchemaParts) (h : ℕ → List ℕ) (facts : List Ground) → Fit schema facts → IsInstance schema (renamed h facts)
renamed_fits schema h facts fit fact c =
    let (g, among, e) = contains_mapped (fact_of h) facts fact c in
    fits_alike schema g.rel fact.rel g.vals fact.row (ap (λ (f : Fact). f.rel) e) (ap (λ (f : Fact). length f.row) (sym e) ∙ length-map g.vals (image h)) (fit g among)

module _ (schema : SchemaParts) (constants : List (List ℕ)) (proof : Proof) (h : ℕ → List ℕ) (naming : IsNaming constants proof.next h) (base_named : AreNamed constants proof.next proof.base) (exposed_base : (fact : Ground) → Contains proof.exposed fact → Contains proof.base fact) (none : NoExposure schema constants proof) where
  -- a fact that can be accessed after exposed facts is exposed
  exposed_of : (fact : Fact) (earlier : List Fact) → ((f : Fact) → Contains earlier f → (g : Ground) × Contains proof.exposed g × (fact_of h g ≡ f)) → Contains (renamed h proof.base) fact → CanAccess schema constants earlier fact → (g : Ground) × Contains proof.exposed g × (fact_of h g ≡ fact)
  exposed_of fact earlier were holds access =
      let (g, in_base, e) = contains_mapped (fact_of h) proof.base fact holds in
      elim (dec_contains proof.exposed g) [
        | yes is ↦ (g, is, e)
        | no new ↦ absurd (none access.of_schema.0 g access.method (record {
          of_base = in_base;
          new = new;
          named = slice_get-get_or schema.methods access.of_schema.0 access.method access.of_schema.1 ∙ ap Some access.of_schema.2;
          of_relation = access.of_relation ∙ sym (ap (λ (f : Fact). f.rel) e);
          inputs = λ p i. known g in_base e p (access.inputs p i);
        }))
      ]
    where
      known : (g : Ground) → Contains proof.base g → fact_of h g ≡ fact → (p : ℕ) → (value : List ℕ) × (slice_get fact.row p ≡ Some value) × IsKnown constants earlier value → (v : Val) × (slice_get g.vals p ≡ Some v) × IsKnownValue constants proof.exposed v
      known g in_base e p (value, got, is) =
          let (v, at, same) = got_mapped (image h) g.vals p value (subst (λ (f : Fact). slice_get f.row p ≡ Some value) (sym e) got) in
          let comes : back h proof.next value ≡ v = ap (back h proof.next) (sym same) ∙ back_named constants proof.next h naming v (base_named g v in_base (contains_got g.vals p v at)) in (
            v,
            at,
            ⊎_elim (λ c. inl (value, c, sym comes ∙ back_named constants proof.next h naming (Const value) c))
                (λ (f, before, inside).
                let (g', is_exposed, e') = were f before in
                let (v', in_vals, same') = contains_mapped (image h) g'.vals value (subst (λ (x : Fact). Contains x.row value) (sym e') inside) in
                let comes' : back h proof.next value ≡ v' = ap (back h proof.next) (sym same') ∙ back_named constants proof.next h naming v' (base_named g' v' (exposed_base g' is_exposed) in_vals) in
                inr (g', is_exposed, subst (λ w. Contains g'.vals w) (sym comes' ∙ comes) in_vals)) is,
          )

  trail_exposed : (trail : List Fact) → IsAccessPath schema constants (renamed h proof.base) trail → (f : Fact) → Contains trail f → (g : Ground) × Contains proof.exposed g × (fact_of h g ≡ f)
  trail_exposed [] t f c = absurd (omega arith)
  trail_exposed (fact ∷ earlier) (holds, access, t) f c =
      ⊎_elim (λ e. subst (λ x. (g : Ground) × Contains proof.exposed g × (fact_of h g ≡ x)) e (exposed_of fact earlier (trail_exposed earlier t) holds access)) (λ c. trail_exposed earlier t f c) (contains_cases fact earlier f c)

  trail_copied : ((fact : Ground) → Contains proof.exposed fact → Contains proof.copy fact) → (trail : List Fact) → IsAccessPath schema constants (renamed h proof.base) trail → IsAccessPath schema constants (renamed h proof.copy) trail
  trail_copied copied [] t = tt
  trail_copied copied (fact ∷ earlier) (holds, access, t) =
      let (g, is, e) = exposed_of fact earlier (trail_exposed earlier t) holds access in
      (subst (λ f. Contains (renamed h proof.copy) f) e (contains_map (fact_of h) proof.copy g (copied g is)), access, trail_copied copied earlier t)

pub witness_refutes : (schema : SchemaParts) (constants : List (List ℕ)) (statement : Statement) (queries : List Query) (query : Query) (proof : Proof) (h : ℕ → List ℕ) → RulesFit schema constants → StandFor schema queries statement → Contains queries query → ((q : Query) → Contains queries q → QueryHasConstants constants q) → IsKept schema constants query proof → IsStuck schema constants queries proof (frozen_head query) → IsNaming constants proof.next h → Refutes schema constants statement (renamed h proof.base) (renamed h proof.copy) (map (image h) (frozen_head query))
witness_refutes schema constants statement queries query proof h rules stand among have kept stuck naming =
    record {
      first_meets = record { fits = base_is; meets = renamed_meets constants proof.next h naming proof.base kept.base_named schema.rules rules.have (quiet_meets schema.rules (base_state proof) rules.numbered stuck.base) };
      second_meets = record { fits = copy_is; meets = renamed_meets constants proof.next h naming proof.copy kept.copy_named schema.rules rules.have (quiet_meets schema.rules (copy_state proof) rules.numbered stuck.copy) };
      included = λ fact (earlier, t). (earlier, trail_copied schema constants proof h naming kept.base_named kept.exposed_base stuck.exposures kept.exposed_copy (fact ∷ earlier) t);
      answered = stand.sound (renamed h proof.base) (map (image h) (frozen_head query)) query base_is among (answer_renamed constants proof.next h naming proof.base kept.base_named query (frozen_head query) kept.answered);
      not_answered = λ answered. no_answer (stand.complete (renamed h proof.copy) (map (image h) (frozen_head query)) copy_is answered);
    }
  where
    base_is : IsInstance schema (renamed h proof.base)
    base_is = renamed_fits schema h proof.base kept.base_fits

    copy_is : IsInstance schema (renamed h proof.copy)
    copy_is = renamed_fits schema h proof.copy kept.copy_fits

    no_answer : (q : Query) × Contains queries q × AnswersQuery q (renamed h proof.copy) (map (image h) (frozen_head query)) → ⊥
    no_answer (q, is, answer) =
        let its = have q is in
        stuck.goal (q, is, answer_back constants proof.next h naming proof.copy kept.copy_named q (frozen_head query) its.atoms its.head kept.head_named answer)
