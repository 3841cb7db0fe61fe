-- A rival's partial row over the base facts is a list of exposures that costs no more, and whose facts have a goal.
use Rattle.std.proofs.Common.{◌≡◌, ℕ, ◌+◌, ◌<◌, ◌≤◌, List, [], ◌∷◌, ◌++◌, length, Some, sym, ap, ◌∙◌, subst, inl, inr, ⊎_elim, arith, append_assoc}
use Rattle.std.specs.Prelude.{Contains, slice_get, map}
use Rattle.std.proofs.lemmas.List.Elements.{Contains-append_left, Contains-append_right, Contains-append_cases, Contains-push}
use Rattle.lists.proofs.Members.{contains_here, contains_cases, contains_got, contains_map, contains_mapped, got_mapped}
use Rattle.meaning_laws.proofs.Monotone.{joins_inputs, joins_values, joins_length}
use Rattle.meaning_laws.proofs.Deciding.{dec_contains, quiet_meets}
use Rattle.meaning_laws.proofs.Renaming.{naming_exists, back, back_named, renamed_meets, answer_renamed, answer_back}
use Rattle.meaning_laws.proofs.Keeping.{named_more}
use Rattle.meaning_laws.proofs.Witness.{renamed_fits}
use Rattle.meaning.specs.declared.types.Val.{Val}
use Rattle.meaning.specs.declared.types.Val.TheVariants.{Const}
use Rattle.meaning.specs.declared.types.Fact.{Fact}
use Rattle.meaning.specs.declared.types.Ground.{Ground}
use Rattle.meaning.specs.declared.types.Method.{Method}
use Rattle.meaning.specs.declared.types.Out.{Out}
use Rattle.meaning.specs.declared.types.Step.{Step}
use Rattle.meaning.specs.declared.types.Branch.{Branch}
use Rattle.meaning.specs.declared.types.Query.{Query}
use Rattle.meaning.specs.declared.types.SchemaParts.{SchemaParts}
use Rattle.meaning.specs.Instances.{IsInstance}
use Rattle.meaning.specs.Matching.{AnswersQuery}
use Rattle.meaning.specs.Answers.{AnswersSelect}
use Rattle.meaning.specs.Plans.{IsWellFormed, IsLawfulStep, AreLawfulFrom}
use Rattle.meaning.specs.Rows.{Joins, LeadsTo}
use Rattle.meaning.specs.Claims.{IsModel}
use Rattle.meaning.specs.Costs.{IsStepsCost, IsCost, IsLeast}
use Rattle.meaning.specs.Homomorphisms.{image, fact_of, renamed}
use Rattle.meaning.specs.Triggers.{State}
use Rattle.meaning.specs.Runs.{IsKnownValue}
use Rattle.meaning.specs.Naming.{IsNaming, IsNamed, AreNamed}
use Rattle.meaning.specs.Fitting.{RulesFit, QueryHasConstants}
use Rattle.meaning.specs.Conjunctive.{StandFor}
use Rattle.meaning.specs.Extract.{Exposure, exposed_facts, IsExposing, exposures_cost, IsBase, IsQueryRival}
use Rattle.meaning.specs.declared.types.Statement.{Statement}
use Rattle.meaning.specs.declared.types.Select.{Select}
use Rattle.meaning.proofs.Steps.{cost_once}
use Rattle.meaning_laws.specs.Rests.{HasGoalOver}

-- rows grow with the facts
pub steps_grow : (schema : SchemaParts) (first second : List Fact) → ((fact : Fact) → Contains first fact → Contains second fact) → (steps : List Step) (row last : List (List ℕ)) → LeadsTo schema first steps row last → LeadsTo schema second steps row last
steps_grow schema first second within [] row last e = e
steps_grow schema first second within (step ∷ steps) row last (next, one, more) =
    (next, record { method = one.method; fact = one.fact; named = one.named; of_relation = one.of_relation; holds = within one.fact one.holds; joins = one.joins }, steps_grow schema first second within steps next last more)

module _ (schema : SchemaParts) (well : IsWellFormed schema) (constants : List (List ℕ)) (base : List Ground) (n : ℕ) (h : ℕ → List ℕ) (naming : IsNaming constants n h) (named : AreNamed constants n base) where
  -- a text that is the image of a known value
  IsKnownText : List Ground → List ℕ → Type 0
  IsKnownText exposed value = (v : Val) × (image h v ≡ value) × IsKnownValue constants exposed v

  known_grow : (exposed more : List Ground) (value : List ℕ) → IsKnownText exposed value → IsKnownText (exposed ++ more) value
  unfolding IsKnownText
  known_grow exposed more value (v, e, k) = (v, e, ⊎_elim inl (λ (f, c, i). inr (f, Contains-append_left exposed more f c, i)) k)

  -- the values at the inputs of a lawful step are known
  inputs_known : (step : Step) (method : Method) (g : Ground) (exposed : List Ground) (row next : List (List ℕ)) → ((v : List ℕ) → Contains row v → IsKnownText exposed v) → ((f : Ground) → Contains exposed f → Contains base f) → IsLawfulStep schema constants (length row) step method → Contains base g → Joins step.places (map (image h) g.vals) row next → (p : ℕ) → Contains method.inputs p → (value : Val) × (slice_get g.vals p ≡ Some value) × IsKnownValue constants exposed value
  unfolding IsKnownText
  inputs_known step method g exposed row next known of_base lawful in_base joins p i =
      let zeroth : p ≡ 0 + p = omega arith in
      let below : p < length lawful.arity.relation.columns = well.inputs method lawful.arity.relation p lawful.named.0 lawful.arity.there i in
      let (value, got, is) = joins_inputs constants method.inputs (length row) (IsKnownText exposed) step.places (map (image h) g.vals) row next 0 (length row) p joins lawful.places
      (λ k v less at. known v (contains_got row k v at)) (omega arith) (subst (λ m. Contains method.inputs m) zeroth i) (rw lawful.arity.width below) in
      let (v, at, same) = got_mapped (image h) g.vals p value got in
      let comes : back h n value ≡ v = ap (back h n) (sym same) ∙ back_named constants n h naming v (named g v in_base (contains_got g.vals p v at)) in (
        v,
        at,
        ⊎_elim (λ c. inl (value, c, sym comes ∙ back_named constants n h naming (Const value) c))
            (λ (w, e, k). subst (λ u. IsKnownValue constants exposed u) (sym (back_named constants n h naming w (named_known exposed of_base w k)) ∙ ap (back h n) e ∙ comes) k) is,
      )
    where
      named_known : (exposed : List Ground) → ((f : Ground) → Contains exposed f → Contains base f) → (w : Val) → IsKnownValue constants exposed w → IsNamed constants n w
      named_known exposed of_base w k = ⊎_elim (λ (c, among, e). subst (λ u. IsNamed constants n u) (sym e) among) (λ (f, c, inside). named f w (of_base f c) inside) k

  -- the exposures that a partial row makes, beyond those that are made
  Shown : List Ground → List Step → List (List ℕ) → List (List ℕ) → ℕ → Type 0
  Shown exposed steps row last cost = (exposures : List Exposure) × IsExposing schema constants base exposed exposures × (exposures_cost exposures ≤ cost) × LeadsTo schema (renamed h (exposed ++ exposed_facts exposures)) steps row last

  rows_expose : (steps : List Step) (output : List Out) (exposed : List Ground) (row last : List (List ℕ)) (cost : ℕ) → ((v : List ℕ) → Contains row v → IsKnownText exposed v) → ((f : Ground) → Contains exposed f → Contains base f) → AreLawfulFrom schema constants (length row) steps output → IsStepsCost schema steps cost → LeadsTo schema (renamed h base) steps row last → Shown exposed steps row last cost
  unfolding Shown IsKnownText
  rows_expose [] output exposed row last cost known of_base lawful is_cost e = ([], tt, omega arith, e)
  rows_expose (step ∷ steps) output exposed row last cost known of_base (method, lawful, rest) (priced, left, named_priced, is_left, is_cost) (next, one, more) =
      let record { method = found; fact = fact; named = named_found; of_relation = rel; holds = holds; joins = joins } = one in
      let (g, in_base, e) = contains_mapped (fact_of h) base fact holds in
      let same : found ≡ method = well.once found method named_found.0 lawful.named.0 (named_found.1 ∙ sym lawful.named.1) in
      let priced_same : priced ≡ method = well.once priced method named_priced.0 lawful.named.0 (named_priced.1 ∙ sym lawful.named.1) in
      let price : priced.cost ≡ method.cost = ap (λ (m : Method). m.cost) priced_same in
      let rel' : g.rel ≡ method.rel = ap (λ (f : Fact). f.rel) e ∙ rel ∙ ap (λ (m : Method). m.rel) same in
      let joins' : Joins step.places (map (image h) g.vals) row next = subst (λ (f : Fact). Joins step.places f.row row next) (sym e) joins in
      let inputs = inputs_known step method g exposed row next known of_base lawful in_base joins' in
      let rest' : AreLawfulFrom schema constants (length next) steps output = subst (λ m. AreLawfulFrom schema constants m steps output) (sym (joins_length step.places fact.row row next joins)) rest in
      elim (dec_contains exposed g) [
        | yes is ↦
            let (exposures, exposing, cheap, rows) = rows_expose steps output exposed next last left (known_next exposed next g is joins' (λ v c. known v c)) of_base rest' is_left more in
            (exposures, exposing, omega arith, (next, record { method = method; fact = fact_of h g; named = lawful.named; of_relation = rel'; holds = contains_map (fact_of h) (exposed ++ exposed_facts exposures) g (Contains-append_left exposed (exposed_facts exposures) g is); joins = joins' }, rows))
        | no new ↦
            let (exposures, exposing, cheap, rows) = rows_expose steps output (exposed ++ g ∷ []) next last left
            (known_next (exposed ++ g ∷ []) next g (Contains-push exposed g) joins' (λ v c. known_grow exposed (g ∷ []) v (known v c)))
            (λ f c. ⊎_elim (λ i. of_base f i) (λ i. ⊎_elim (λ e. subst (λ x. Contains base x) e in_base) (λ j. absurd (none f j)) (contains_cases g [] f i)) (Contains-append_cases exposed (g ∷ []) f c)) rest' is_left more in
            let whole : renamed h ((exposed ++ g ∷ []) ++ exposed_facts exposures) ≡ renamed h (exposed ++ g ∷ exposed_facts exposures) = ap (λ gs. renamed h gs) (append_assoc exposed (g ∷ []) (exposed_facts exposures)) in (
              record { method = method; fact = g } ∷ exposures,
              (record { of_base = in_base; new = new; of_schema = lawful.named.0; of_relation = sym rel'; inputs = inputs }, exposing),
              omega arith,
              (
                next,
                record { method = method; fact = fact_of h g; named = lawful.named; of_relation = rel'; holds = contains_map (fact_of h) (exposed ++ g ∷ exposed_facts exposures) g (Contains-append_right exposed (g ∷ exposed_facts exposures) g (contains_here g (exposed_facts exposures))); joins = joins' },
                subst (λ facts. LeadsTo schema facts steps next last) whole rows,
              ),
            )
      ]
    where
      none : (f : Ground) → Contains [] f → ⊥
      none f c = omega arith

      known_next : (after : List Ground) (next : List (List ℕ)) (g : Ground) → Contains after g → Joins step.places (map (image h) g.vals) row next → ((v : List ℕ) → Contains row v → IsKnownText after v) → (v : List ℕ) → Contains next v → IsKnownText after v
      known_next after next g is joins' known' v c =
          ⊎_elim (λ i. known' v i) (λ i. let (w, inside, e) = contains_mapped (image h) g.vals v i in (w, e, inr (g, is, inside))) (joins_values step.places (map (image h) g.vals) row next joins' v c)

  -- the same from the beginning
  rows_shown : (steps : List Step) (output : List Out) (last : List (List ℕ)) (cost : ℕ) → AreLawfulFrom schema constants 0 steps output → IsStepsCost schema steps cost → LeadsTo schema (renamed h base) steps [] last →
      (exposures : List Exposure) × IsExposing schema constants base [] exposures × (exposures_cost exposures ≤ cost) × LeadsTo schema (renamed h (exposed_facts exposures)) steps [] last
  unfolding Shown IsKnownText
  rows_shown steps output last cost lawful is_cost rows = rows_expose steps output [] [] last cost (λ v c. absurd (no_text v c)) (λ f c. absurd (no_fact f c)) lawful is_cost rows
    where
      no_text : (v : List ℕ) → Contains [] v → ⊥
      no_text v c = omega arith

      no_fact : (f : Ground) → Contains [] f → ⊥
      no_fact f c = omega arith

-- a rival gives exposures in order that cost no more, and whose facts have the goal
pub rival_exposes : (schema : SchemaParts) (constants : List (List ℕ)) (queries : List Query) (query : Query) (base : State) (head : List Val) (rival : Branch) (cost : ℕ) → IsWellFormed schema → RulesFit schema constants → ((q : Query) → Contains queries q → QueryHasConstants constants q) → IsBase schema constants query base head → IsQueryRival schema constants queries query rival → IsStepsCost schema rival.steps cost →
    (exposures : List Exposure) × IsExposing schema constants base.facts [] exposures × (exposures_cost exposures ≤ cost) × ((most : ℕ) → HasGoalOver schema constants queries head base.next most (exposed_facts exposures))
rival_exposes schema constants queries query base head rival cost well rules have is_base is_rival is_cost =
    let (h, naming) = naming_exists constants in
    let model : IsModel schema (renamed h base.facts) = record {
      fits = renamed_fits schema h base.facts is_base.fits;
      meets = renamed_meets constants base.next h (naming base.next) base.facts is_base.named schema.rules rules.have (quiet_meets schema.rules base rules.numbered is_base.quiet);
    } in
    let (last, steps, outs) = is_rival.complete (renamed h base.facts) (map (image h) head) model (answer_renamed constants base.next h (naming base.next) base.facts is_base.named query head is_base.answered) in
    let (exposures, exposing, cheap, rows) = rows_shown schema well constants base.facts base.next h (naming base.next) is_base.named rival.steps rival.output last cost is_rival.lawful is_cost steps in (
      exposures,
      exposing,
      cheap,
      λ most end rest.
          let end_model : IsModel schema (renamed h end.facts) = record {
            fits = renamed_fits schema h end.facts rest.fits;
            meets = renamed_meets constants end.next h (naming end.next) end.facts rest.named schema.rules rules.have (quiet_meets schema.rules end rules.numbered rest.quiet);
          } in
          let within : (fact : Fact) → Contains (renamed h (exposed_facts exposures)) fact → Contains (renamed h end.facts) fact =
          λ fact c. let (g, i, e) = contains_mapped (fact_of h) (exposed_facts exposures) fact c in subst (λ f. Contains (renamed h end.facts) f) e (contains_map (fact_of h) end.facts g (rest.grows g i)) in
          let (goal, among, answer) = is_rival.sound (renamed h end.facts) (map (image h) head) end_model (last, steps_grow schema (renamed h (exposed_facts exposures)) (renamed h end.facts) within rival.steps [] last rows, outs) in
          let its = have goal among in
          (goal, among, answer_back constants end.next h (naming end.next) end.facts rest.named goal head its.atoms its.head (λ v c. named_more constants base.next end.next v rest.low (is_base.head_named v c)) answer),
    )

-- where no exposures with a goal cost less, no rival costs less
pub least_by_exposures : (schema : SchemaParts) (constants : List (List ℕ)) (statement : Statement) (select : Select) (queries : List Query) (query : Query) (base : State) (head : List Val) (branch : Branch) (best most : ℕ) →
    IsWellFormed schema → RulesFit schema constants → ((q : Query) → Contains queries q → QueryHasConstants constants q) → StandFor schema queries statement →
    ((facts : List Fact) (row : List (List ℕ)) → IsInstance schema facts → AnswersQuery query facts row → AnswersSelect select facts row) →
    IsBase schema constants query base head → IsCost schema branch best →
    ((exposures : List Exposure) → IsExposing schema constants base.facts [] exposures → HasGoalOver schema constants queries head base.next most (exposed_facts exposures) → best ≤ exposures_cost exposures) →
    IsLeast schema constants statement select branch
least_by_exposures schema constants statement select queries query base head branch best most well rules have stand selects is_base is_best least rival cost other is_rival is_cost is_other =
    let as_query : IsQueryRival schema constants queries query rival = record {
      lawful = is_rival.lawful;
      sound = λ facts row model rows. stand.complete facts row model.fits (is_rival.sound facts row model rows);
      complete = λ facts row model answer. is_rival.complete facts row model (selects facts row model.fits answer);
    } in
    let (exposures, exposing, cheap, goal) = rival_exposes schema constants queries query base head rival other well rules have is_base as_query is_other in
    let same : cost ≡ best = cost_once schema well branch.steps cost best is_cost is_best in
    let low : best ≤ exposures_cost exposures = least exposures exposing (goal most) in
    omega arith
