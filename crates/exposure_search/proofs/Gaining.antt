-- Exposures without those that gain nothing.
use Rattle.std.proofs.Common.{◌≡◌, ◌⊎◌, ℕ, ◌≤◌, List, [], ◌∷◌, ◌++◌, refl, sym, subst, inl, inr, ⊎_elim, arith, append_assoc}
use Rattle.std.specs.Prelude.{Contains}
use Rattle.std.proofs.lemmas.List.{append-nil}
use Rattle.std.proofs.lemmas.List.Elements.{Contains-append_left, Contains-push, Contains-push_cases}
use Rattle.lists.proofs.Members.{contains_here, contains_there, contains_cases}
use Rattle.meaning_laws.specs.Trims.{AreIn}
use Rattle.meaning_laws.proofs.Deciding.{dec_contains, dec_some, Val-discrete}
use Rattle.meaning_laws.proofs.Trimming.{known_or}
use Rattle.meaning.specs.declared.types.SchemaParts.{SchemaParts}
use Rattle.meaning.specs.declared.types.Ground.{Ground}
use Rattle.meaning.specs.declared.types.Val.{Val}
use Rattle.meaning.specs.Runs.{IsKnownValue}
use Rattle.meaning.specs.Extract.{Exposure, exposed_facts, Exposes, IsExposing, exposures_cost}
use Rattle.accessible_copy.specs.Known.{known_values}
use Rattle.accessible_copy.proofs.Listed.{known_to, known_from}

-- the exposure's fact is one of these, or holds a value that is not known before
abbrev pub Gain : List (List ℕ) → List Ground → List Ground → Exposure → Type 0
Gain constants needs exposed e = Contains needs e.fact ⊎ ((v : Val) × Contains e.fact.vals v × (IsKnownValue constants exposed v → ⊥))

-- each exposure gains something after those before it
abbrev pub AreGains : List (List ℕ) → List Ground → List Ground → List Exposure → Type 0
AreGains constants needs exposed [] = Unit {0}
AreGains constants needs exposed (e ∷ exposures) = Gain constants needs exposed e × AreGains constants needs (exposed ++ e.fact ∷ []) exposures

-- exposures that gain something after some facts, in place of exposures after more facts
pub record Thinned (schema : SchemaParts) (constants : List (List ℕ)) (base needs wide narrow : List Ground) (exposures : List Exposure) : Type 0 where
  pub kept : List Exposure
  pub exposing : IsExposing schema constants base narrow kept
  pub gains : AreGains constants needs narrow kept
  pub cheap : exposures_cost kept ≤ exposures_cost exposures
  pub within : (e : Exposure) → Contains kept e → Contains exposures e
  pub holds : (f : Ground) → Contains needs f → Contains (wide ++ exposed_facts exposures) f → Contains (narrow ++ exposed_facts kept) f

pub dec_value : (vals : List Val) (v : Val) → Dec (Contains vals v)
dec_value vals v = elim (dec_some (λ u. u ≡ v) (λ u. Val-discrete u v) vals) [ yes (u, c, e) ↦ yes (subst (λ w. Contains vals w) e c) | no n ↦ no (λ c. n (v, c, refl)) ]

-- whether all values of a fact are known
all_known : (constants : List (List ℕ)) (exposed : List Ground) (vals : List Val) → ((v : Val) → Contains vals v → IsKnownValue constants exposed v) ⊎ ((v : Val) × Contains vals v × (IsKnownValue constants exposed v → ⊥))
all_known constants exposed [] = inl (λ v c. absurd (omega arith))
all_known constants exposed (first ∷ vals) =
    elim (dec_value (known_values constants exposed) first) [
      | yes is ↦ ⊎_elim (λ rest. inl (λ v c. ⊎_elim (λ e. subst (λ u. IsKnownValue constants exposed u) e (known_to constants exposed first is)) (λ h. rest v h) (contains_cases first vals v c))) (λ (v, c, out). inr (v, contains_there first vals v c, out)) (all_known constants exposed vals)
      | no out ↦ inr (first, contains_here first vals, (λ known. out (known_from constants exposed first known)))
    ]

known_more : (constants : List (List ℕ)) (exposed : List Ground) (fact : Ground) (v : Val) → IsKnownValue constants exposed v → IsKnownValue constants (exposed ++ fact ∷ []) v
known_more constants exposed fact v known = ⊎_elim (λ c. inl c) (λ (f, among, i). inr (f, Contains-append_left exposed (fact ∷ []) f among, i)) known

module _ (schema : SchemaParts) (constants : List (List ℕ)) (base needs : List Ground) where
  -- the first exposure is kept
  thin_keep : (wide narrow : List Ground) (e : Exposure) (exposures : List Exposure) → AreIn narrow wide → ((v : Val) → IsKnownValue constants wide v → IsKnownValue constants narrow v) → Exposes schema constants base wide e → Gain constants needs narrow e →
      Thinned schema constants base needs (wide ++ e.fact ∷ []) (narrow ++ e.fact ∷ []) exposures → Thinned schema constants base needs wide narrow (e ∷ exposures)
  thin_keep wide narrow e exposures among known first gain r =
      let rests : exposures_cost r.kept ≤ exposures_cost exposures = r.cheap in
      record {
        kept = e ∷ r.kept;
        exposing = (
          record {
            of_base = first.of_base;
            new = λ c. first.new (among e.fact c);
            of_schema = first.of_schema;
            of_relation = first.of_relation;
            inputs = λ p i. let (v, at, is) = first.inputs p i in (v, at, known v is);
          },
          r.exposing,
        );
        gains = (gain, r.gains);
        cheap = omega arith;
        within = λ x c. ⊎_elim (λ same. subst (λ (y : Exposure). Contains (e ∷ exposures) y) same (contains_here e exposures)) (λ h. contains_there e exposures x (r.within x h)) (contains_cases e r.kept x c);
        holds = λ f n c. subst (λ gs. Contains gs f) (append_assoc narrow (e.fact ∷ []) (exposed_facts r.kept)) (r.holds f n (subst (λ gs. Contains gs f) (sym (append_assoc wide (e.fact ∷ []) (exposed_facts exposures))) c));
      }

  -- the first exposure is left out
  thin_skip : (wide narrow : List Ground) (e : Exposure) (exposures : List Exposure) → Thinned schema constants base needs (wide ++ e.fact ∷ []) narrow exposures → Thinned schema constants base needs wide narrow (e ∷ exposures)
  thin_skip wide narrow e exposures r =
      let rests : exposures_cost r.kept ≤ exposures_cost exposures = r.cheap in
      record {
        kept = r.kept;
        exposing = r.exposing;
        gains = r.gains;
        cheap = omega arith;
        within = λ x c. contains_there e exposures x (r.within x c);
        holds = λ f n c. r.holds f n (subst (λ gs. Contains gs f) (sym (append_assoc wide (e.fact ∷ []) (exposed_facts exposures))) c);
      }

  -- exposures can be cut down to those that gain something, and as much is known after them
  pub thinned : (wide narrow : List Ground) (exposures : List Exposure) → AreIn narrow wide → ((v : Val) → IsKnownValue constants wide v → IsKnownValue constants narrow v) → ((f : Ground) → Contains needs f → Contains wide f → Contains narrow f) →
      IsExposing schema constants base wide exposures → Thinned schema constants base needs wide narrow exposures
  thinned wide narrow [] among known holds is = record {
    kept = [];
    exposing = tt;
    gains = tt;
    cheap = omega arith;
    within = λ e c. c;
    holds = λ f n c. Contains-append_left narrow [] f (holds f n (subst (λ gs. Contains gs f) (append-nil wide) c));
  }
  thinned wide narrow (e ∷ exposures) among known holds (first, rest) =
      let with_it = thinned (wide ++ e.fact ∷ []) (narrow ++ e.fact ∷ []) exposures
      (λ f c. ⊎_elim (λ old. Contains-append_left wide (e.fact ∷ []) f (among f old)) (λ same. subst (λ g. Contains (wide ++ e.fact ∷ []) g) same (Contains-push wide e.fact)) (Contains-push_cases narrow e.fact f c))
      (λ v k. ⊎_elim (λ old. known_more constants narrow e.fact v (known v old)) (λ here. inr (e.fact, Contains-push narrow e.fact, here)) (known_or constants wide e.fact v k))
      (λ f n c. ⊎_elim (λ old. Contains-append_left narrow (e.fact ∷ []) f (holds f n old)) (λ same. subst (λ g. Contains (narrow ++ e.fact ∷ []) g) same (Contains-push narrow e.fact)) (Contains-push_cases wide e.fact f c)) rest in
      elim (dec_contains needs e.fact) [
        | yes is ↦ thin_keep wide narrow e exposures among known first (inl is) with_it
        | no out ↦ ⊎_elim
            (λ all. thin_skip wide narrow e exposures (thinned (wide ++ e.fact ∷ []) narrow exposures (λ f c. Contains-append_left wide (e.fact ∷ []) f (among f c))
            (λ v k. ⊎_elim (λ old. known v old) (λ here. all v here) (known_or constants wide e.fact v k))
            (λ f n c. ⊎_elim (λ old. holds f n old) (λ same. absurd (out (subst (λ g. Contains needs g) (sym same) n))) (Contains-push_cases wide e.fact f c)) rest))
            (λ new. thin_keep wide narrow e exposures among known first (inr new) with_it) (all_known constants narrow e.fact.vals)
      ]
