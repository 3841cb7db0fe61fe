-- Exposures without those of facts on which no match can rest.
use Rattle.std.proofs.Common.{◌≡◌, ℕ, ◌≤◌, List, [], ◌∷◌, ◌++◌, sym, subst, inl, inr, ⊎_elim, arith, append_assoc}
use Rattle.std.specs.Prelude.{Contains, slice_get, Some}
use Rattle.std.proofs.lemmas.List.{append-nil}
use Rattle.std.proofs.lemmas.List.Elements.{Contains-append_left, Contains-push, Contains-push_cases}
use Rattle.lists.proofs.Members.{contains_cases}
use Rattle.meaning_laws.specs.Trims.{AreIn, Asks}
use Rattle.meaning_laws.proofs.Deciding.{dec_contains}
use Rattle.meaning.specs.declared.types.SchemaParts.{SchemaParts}
use Rattle.meaning.specs.declared.types.Ground.{Ground}
use Rattle.meaning.specs.declared.types.Val.{Val}
use Rattle.meaning.specs.Runs.{IsKnownValue}
use Rattle.meaning.specs.Extract.{Exposure, exposed_facts, Exposes, IsExposing, exposures_cost}
use Rattle.accessible_copy.specs.Known.{known_values}
use Rattle.accessible_copy.proofs.Listed.{known_to, known_from}
use Rattle.exposure_search.proofs.Gaining.{dec_value}

-- exposures of relevant facts after some facts, in place of exposures after more facts
pub record Spared (schema : SchemaParts) (constants : List (List ℕ)) (base relevant wide narrow : List Ground)
    (exposures : List Exposure) : Type 0 where
  pub kept : List Exposure
  pub exposing : IsExposing schema constants base narrow kept
  pub matter : (e : Exposure) → Contains kept e → Contains relevant e.fact
  pub cheap : exposures_cost kept ≤ exposures_cost exposures
  pub holds : (f : Ground) → Contains relevant f → Contains (wide ++ exposed_facts exposures) f →
      Contains (narrow ++ exposed_facts kept) f

module _ (schema : SchemaParts) (constants : List (List ℕ)) (base relevant : List Ground)
    (asked : (fact other : Ground) (v : Val) → Contains relevant fact → Asks schema constants fact v →
    Contains base other → Contains other.vals v → Contains relevant other) where
  -- what a relevant fact asks for is a constant, or stands in a relevant fact
  asked_known : (wide narrow : List Ground) (e : Exposure) (p : ℕ) (v : Val) → AreIn wide base →
      ((f : Ground) → Contains relevant f → Contains wide f → Contains narrow f) →
      Exposes schema constants base wide e → Contains relevant e.fact → Contains e.method.inputs p →
      slice_get e.fact.vals p ≡ Some v → IsKnownValue constants wide v → IsKnownValue constants narrow v
  asked_known wide narrow e p v within holds first matters i at known =
      ⊎_elim (λ constant. inl constant)
      (λ (other, among, has). elim (dec_value (known_values constants []) v) [
        | yes is ↦ ⊎_elim (λ constant. inl constant)
            (λ (f, none, has). absurd (let no : Contains [] f = none in omega arith)) (known_to constants [] v is)
        | no out ↦ inr (
          other,
          holds other (asked e.fact other v matters (record {
            method = e.method;
            place = p;
            of_schema = first.of_schema;
            of_relation = first.of_relation;
            input = i;
            at = at;
            unknown = λ c there same. out (known_from constants [] v (inl (c, there, same)));
          }) (within other among) has) among,
          has,
        )
      ])
      known

  -- the first exposure is kept
  spare_keep : (wide narrow : List Ground) (e : Exposure) (exposures : List Exposure) → AreIn narrow wide →
      AreIn wide base → ((f : Ground) → Contains relevant f → Contains wide f → Contains narrow f) →
      Exposes schema constants base wide e → Contains relevant e.fact →
      Spared schema constants base relevant (wide ++ e.fact ∷ []) (narrow ++ e.fact ∷ []) exposures →
      Spared schema constants base relevant wide narrow (e ∷ exposures)
  spare_keep wide narrow e exposures among within holds first matters r =
      let rests : exposures_cost r.kept ≤ exposures_cost exposures = r.cheap in
      record {
        kept = e ∷ r.kept;
        exposing = (
          record {
            of_base = first.of_base;
            new = λ c. first.new (among e.fact c);
            of_schema = first.of_schema;
            of_relation = first.of_relation;
            inputs = λ p i. let (v, at, is) = first.inputs p i in
                (v, at, asked_known wide narrow e p v within holds first matters i at is);
          },
          r.exposing,
        );
        matter = λ x c. ⊎_elim (λ same. subst (λ (y : Exposure). Contains relevant y.fact) same matters)
            (λ h. r.matter x h) (contains_cases e r.kept x c);
        cheap = omega arith;
        holds = λ f n c. subst (λ gs. Contains gs f) (append_assoc narrow (e.fact ∷ []) (exposed_facts r.kept))
            (r.holds f n (subst (λ gs. Contains gs f)
            (sym (append_assoc wide (e.fact ∷ []) (exposed_facts exposures))) c));
      }

  -- the first exposure is left out
  spare_skip : (wide narrow : List Ground) (e : Exposure) (exposures : List Exposure) →
      Spared schema constants base relevant (wide ++ e.fact ∷ []) narrow exposures →
      Spared schema constants base relevant wide narrow (e ∷ exposures)
  spare_skip wide narrow e exposures r =
      let rests : exposures_cost r.kept ≤ exposures_cost exposures = r.cheap in
      record {
        kept = r.kept;
        exposing = r.exposing;
        matter = r.matter;
        cheap = omega arith;
        holds = λ f n c. r.holds f n (subst (λ gs. Contains gs f)
            (sym (append_assoc wide (e.fact ∷ []) (exposed_facts exposures))) c);
      }

  -- exposures can be cut down to those of relevant facts, as these ask for no others
  pub spared : (wide narrow : List Ground) (exposures : List Exposure) → AreIn narrow wide → AreIn wide base →
      ((f : Ground) → Contains relevant f → Contains wide f → Contains narrow f) →
      IsExposing schema constants base wide exposures → Spared schema constants base relevant wide narrow exposures
  spared wide narrow [] among within holds is = record {
    kept = [];
    exposing = tt;
    matter = λ e c. absurd (omega arith);
    cheap = omega arith;
    holds = λ f n c. Contains-append_left narrow [] f (holds f n (subst (λ gs. Contains gs f) (append-nil wide) c));
  }
  spared wide narrow (e ∷ exposures) among within holds (first, rest) =
      let wider : AreIn (wide ++ e.fact ∷ []) base = λ f c. ⊎_elim (λ old. within f old)
      (λ same. subst (λ g. Contains base g) same first.of_base) (Contains-push_cases wide e.fact f c) in
      elim (dec_contains relevant e.fact) [
        | yes is ↦ spare_keep wide narrow e exposures among within holds first is
            (spared (wide ++ e.fact ∷ []) (narrow ++ e.fact ∷ []) exposures
            (λ f c. ⊎_elim (λ old. Contains-append_left wide (e.fact ∷ []) f (among f old))
            (λ same. subst (λ g. Contains (wide ++ e.fact ∷ []) g) same (Contains-push wide e.fact))
            (Contains-push_cases narrow e.fact f c))
            wider
            (λ f n c. ⊎_elim (λ old. Contains-append_left narrow (e.fact ∷ []) f (holds f n old))
            (λ same. subst (λ g. Contains (narrow ++ e.fact ∷ []) g) same (Contains-push narrow e.fact))
            (Contains-push_cases wide e.fact f c))
            rest)
        | no out ↦ spare_skip wide narrow e exposures
            (spared (wide ++ e.fact ∷ []) narrow exposures
            (λ f c. Contains-append_left wide (e.fact ∷ []) f (among f c)) wider
            (λ f n c. ⊎_elim (λ old. holds f n old)
            (λ same. absurd (out (subst (λ g. Contains relevant g) (sym same) n)))
            (Contains-push_cases wide e.fact f c)) rest)
      ]
