-- The fault that is told is the first.
use Rattle.std.proofs.Common.{◌≡◌, ◌+◌, ◌&&◌, ◌⊎◌, ⊎_elim, inl, inr, ℕ, suc, List, [], ◌∷◌, length, take, Option, None, Some, Bool, true, false, not, cond, nat_eq, nat_lt, refl, sym, ◌∙◌, ap, subst, arith}
use Rattle.std.specs.Prelude.{Contains, slice_get, Result, Ok, Err, IsOk, IfErr, ◌↔◌}
use Rattle.std.proofs.lemmas.Bool.{eq-eqb, eqb-true, ltb-true, ltb-false}
use Rattle.access_schema.specs.declared.schema.Schema.{Schema}
use Rattle.access_schema.specs.Meaning.{meaning_of}
use Rattle.access_schema.proofs.Keeping.{well_formed}
use Rattle.meaning.specs.declared.types.Method.{Method}
use Rattle.meaning.specs.declared.types.Relation.{Relation}
use Rattle.meaning.specs.declared.types.SchemaParts.{SchemaParts}
use Rattle.meaning.specs.declared.types.Place.{Place}
use Rattle.meaning.specs.declared.types.Place.TheVariants.{Const, Col, New}
use Rattle.meaning.specs.declared.types.Out.{Out}
use Rattle.meaning.specs.declared.types.Out.TheVariants.{Const as Fixed, Col as Made}
use Rattle.meaning.specs.declared.types.Step.{Step}
use Rattle.meaning.specs.declared.types.Branch.{Branch}
use Rattle.meaning.specs.declared.types.Plan.{Plan}
use Rattle.meaning.specs.Instances.{FitsRelation}
use Rattle.meaning.specs.Plans.{IsWellFormed, made, AreLawfulPlaces, IsLawfulOut, AreLawfulFrom, IsLawfulBranch, IsLawful}
use Rattle.lists.proofs.Members.{contains_cases, some_injective, none_apart}
use Rattle.lists.proofs.Booleans.{both_true, not_false, not_true}
use Rattle.plan_form.specs.declared.fault.PlanFaultKind.{PlanFaultKind}
use Rattle.plan_form.specs.declared.fault.PlanFaultKind.TheVariants.{NoSuchMethod, InputNotKnown, UnknownConstant, BadColumn}
use Rattle.plan_form.specs.declared.fault.PlanFault.{PlanFault}
use Rattle.plan_form.specs.declared.judge.Spot.{Spot}
use Rattle.plan_form.specs.Judging.{has_text, is_input_at, place_fault, count_place, unless, judged_places, method_of, judged_arity, judged_method, judged_step, out_fault, judged_outs, judged_output, fault_at, placed, and_then, judged_steps, before, judged_branches}
use Rattle.plan_form.specs.Faults.{IsPlaceFault, HasPlaceFault, IsFaultOfMethod, IsStepFault, made_by, IsOutFault, IsOutputFault, IsBranchFault, IsFirstFault}
use Rattle.plan_form.proofs.Texts.{in_has, input_in}
use Rattle.plan_form.proofs.Judged.{wrong, clash, made_behind, in_front, found_method, there_found, step_lawful, out_lawful, steps_lawful, branches_lawful, lawful_branches}

-- ---- choices

else_is : (b : Bool) (k kind : PlanFaultKind) → cond b None (Some k) ≡ Some kind → (b ≡ false) × (kind ≡ k)
else_is true k kind h = absurd (cc)
else_is false k kind h = (refl, cc)

then_is : (b : Bool) (k kind : PlanFaultKind) (rest : Option PlanFaultKind) → cond b (Some k) rest ≡ Some kind → ((b ≡ true) × (kind ≡ k)) ⊎ ((b ≡ false) × (rest ≡ Some kind))
then_is true k kind rest h = inl (refl, cc)
then_is false k kind rest h = inr (refl, h)

none_never : (kind : PlanFaultKind) → None ≡ Some kind → ⊥
none_never kind e = cc

abbrev bad : {T : Type 0} → Spot → Result T Spot
bad spot = Err spot

spot_is : {T : Type 0} (a b : Spot) → bad {T = T} a ≡ bad b → a ≡ b
spot_is a b e = cc

-- ---- the first member of a list that is at fault

-- from position p on: the members before are lawful, and the one at this position is not
record FirstFrom {X : Type 0} (Lawful : List X → Type 0) (Fault : List X → X → Type 0) (position p : ℕ) (xs : List X) :
    Type 0 where
  pub q : ℕ
  pub position_is : position ≡ p + q
  pub member : X
  pub at : slice_get xs q ≡ Some member
  pub lawful : Lawful (take q xs)
  pub is : Fault (take q xs) member

module _ {X : Type 0} {Lawful : List X → Type 0} {Fault : List X → X → Type 0} {position : ℕ} where
  first_here : (p : ℕ) (x : X) (xs : List X) → position ≡ p → Lawful [] → Fault [] x →
      FirstFrom Lawful Fault position p (x ∷ xs)
  first_here p x xs same none is =
      record { q = 0; position_is = omega arith; member = x; at = refl; lawful = none; is = is }

  first_behind : {LawfulBehind : List X → Type 0} {FaultBehind : List X → X → Type 0} (p : ℕ) (x : X) (xs : List X) →
      FirstFrom LawfulBehind FaultBehind position (p + 1) xs →
      ((front : List X) → LawfulBehind front → Lawful (x ∷ front)) →
      ((front : List X) (member : X) → FaultBehind front member → Fault (x ∷ front) member) →
      FirstFrom Lawful Fault position p (x ∷ xs)
  first_behind p x xs r lawful fault =
      let position_is = r.position_is in
      record {
        q = suc r.q;
        position_is = omega (arith, position_is);
        member = r.member;
        at = r.at;
        lawful = lawful (take r.q xs) r.lawful;
        is = fault (take r.q xs) r.member r.is;
      }

  first_of : (xs : List X) → FirstFrom Lawful Fault position 0 xs →
      (member : X) × (slice_get xs position ≡ Some member) × Lawful (take position xs) × Fault (take position xs) member
  first_of xs r =
      let position_is = r.position_is in
      let same : r.q ≡ position = omega (arith, position_is) in
      let P : ℕ → Type 0 = λ q. (slice_get xs q ≡ Some r.member) × Lawful (take q xs) × Fault (take q xs) r.member in
      let (at, lawful, is) = subst P same (r.at, r.lawful, r.is) in
      (r.member, at, lawful, is)

abbrev AllBefore : {X : Type 0} → (X → Type 0) → List X → Type 0
AllBefore Lawful front = (earlier : _) → Contains front earlier → Lawful earlier

all_before : {X : Type 0} (Lawful : X → Type 0) (x : X) (front : List X) → Lawful x → AllBefore Lawful front →
    AllBefore Lawful (x ∷ front)
all_before Lawful x front here each earlier c =
    ⊎_elim (λ s. subst Lawful s here) (λ more. each earlier more) (contains_cases x front earlier c)

-- ---- places

module _ (constants : List (List ℕ)) (inputs : List ℕ) (began : ℕ) where
  place_is_fault : (p columns : ℕ) (place : Place) (kind : PlanFaultKind) → place_fault constants inputs began p columns place ≡ Some kind → IsPlaceFault constants inputs began p columns place kind
  place_is_fault p columns (Const c) kind e =
      let g = else_is (has_text constants c) UnknownConstant kind e in
      (g.1, λ among. clash (has_text constants c) g.0 (in_has constants c among))
  place_is_fault p columns (Col k) kind e =
      ⊎_elim (λ g. inl (g.1, ltb-false k columns (not_true (nat_lt k columns) g.0)))
      (λ g. ⊎_elim
      (λ i. let both = both_true (is_input_at inputs p) (not (nat_lt k began)) i.0 in
      inr (i.1, input_in inputs p both.0, ltb-true k columns (not_false (nat_lt k columns) g.0), ltb-false k began (not_true (nat_lt k began) both.1)))
      (λ n. absurd (none_never kind n.1))
      (then_is (is_input_at inputs p && not (nat_lt k began)) InputNotKnown kind None g.1))
      (then_is (not (nat_lt k columns)) BadColumn kind _ e)
  place_is_fault p columns New kind e =
      ⊎_elim (λ g. (g.1, input_in inputs p g.0)) (λ n. absurd (none_never kind n.1)) (then_is (is_input_at inputs p) InputNotKnown kind None e)

  abbrev FaultOf : Spot → ℕ → List Place → Place → Type 0
  FaultOf spot columns front place = IsPlaceFault constants inputs began spot.place (made columns front) place spot.kind

  abbrev FaultFrom : ℕ → ℕ → List Place → Spot → Type 0
  FaultFrom p columns places spot = FirstFrom (AreLawfulPlaces constants inputs began p columns) (FaultOf spot columns) spot.place p places

  places_fault : (places : List Place) (p columns : ℕ) (spot : Spot) → judged_places constants inputs began p columns places ≡ Err spot → FaultFrom p columns places spot
  places_fault [] p columns spot h = absurd (cc)
  places_fault (place ∷ places) p columns spot h = go (place_fault constants inputs began p columns place) refl (λ rest. places_fault places (p + 1) (count_place columns place) spot rest) h
    where
      go : (o : Option PlanFaultKind) → place_fault constants inputs began p columns place ≡ o →
          (judged_places constants inputs began (p + 1) (count_place columns place) places ≡ Err spot → FaultFrom (p + 1) (count_place columns place) places spot) →
          unless o p (judged_places constants inputs began (p + 1) (count_place columns place) places) ≡ Err spot → FaultFrom p columns (place ∷ places) spot
      go None e again h =
          first_behind p place places (again h) (λ front l. in_front constants inputs began place front p columns e l)
          (λ front other is. subst (λ (m : ℕ). IsPlaceFault constants inputs began spot.place m other spot.kind)
          (made_behind place front columns) is)
      go (Some kind) e again h =
          let here : Spot = record { place = p; kind = kind } in
          let same : here ≡ spot = spot_is here spot h in
          first_here p place places (ap (λ (s : Spot). s.place) (sym same)) tt
          (subst (λ (s : Spot). IsPlaceFault constants inputs began s.place columns place s.kind) same (place_is_fault p columns place kind e))

  pub places_have : (places : List Place) (spot : Spot) → judged_places constants inputs began 0 began places ≡ Err spot → HasPlaceFault constants inputs began places spot.place spot.kind
  places_have places spot h =
      let (place, at, before, is) = first_of places (places_fault places 0 began spot h) in
      record { place = place; at = at; before = before; is = is }

-- ---- steps

module _ (schema : SchemaParts) (well : IsWellFormed schema) (constants : List (List ℕ)) where
  arity_fault : (columns : ℕ) (step : Step) (method : Method) (o : Option Relation) (spot : Spot) → slice_get schema.relations method.rel ≡ o → judged_arity constants columns step method o ≡ Err spot →
      IsFaultOfMethod schema constants columns step method spot.place spot.kind
  arity_fault columns step method None spot at h =
      let same : wrong ≡ spot = spot_is wrong spot h in
      inl (ap (λ (s : Spot). s.kind) (sym same), ap (λ (s : Spot). s.place) (sym same), λ (fits : FitsRelation schema method.rel step.places). none_apart (slice_get schema.relations method.rel) fits.relation at fits.there)
  arity_fault columns step method (Some relation) spot at h = go (nat_eq (length step.places) (length relation.columns)) refl h
    where
      differs : nat_eq (length step.places) (length relation.columns) ≡ false → FitsRelation schema method.rel step.places → ⊥
      differs t fits =
          let same : fits.relation ≡ relation = some_injective fits.relation relation (sym fits.there ∙ at) in
          clash (nat_eq (length step.places) (length relation.columns)) t (eq-eqb (length step.places) (length relation.columns) (fits.width ∙ ap (λ (r : Relation). length r.columns) same))

      go : (b : Bool) → nat_eq (length step.places) (length relation.columns) ≡ b → cond b (judged_places constants method.inputs columns 0 columns step.places) (Err wrong) ≡ Err spot → IsFaultOfMethod schema constants columns step method spot.place spot.kind
      go true t h = inr (record { relation = relation; there = at; width = eqb-true (length step.places) (length relation.columns) t }, places_have constants method.inputs columns step.places spot h)
      go false t h =
          let same : wrong ≡ spot = spot_is wrong spot h in
          inl (ap (λ (s : Spot). s.kind) (sym same), ap (λ (s : Spot). s.place) (sym same), differs t)

  abbrev no_method : Spot
  no_method = record { place = 0; kind = NoSuchMethod }

  method_fault : (columns : ℕ) (step : Step) (o : Option Method) (spot : Spot) → method_of schema.methods step.method ≡ o → judged_method schema constants columns step o ≡ Err spot → IsStepFault schema constants columns step spot.place spot.kind
  method_fault columns step None spot f h =
      let same : no_method ≡ spot = spot_is no_method spot h in
      inl (
        ap (λ (s : Spot). s.kind) (sym same),
        ap (λ (s : Spot). s.place) (sym same),
        λ (m : Method) named. let there = there_found schema.methods step.method m named.0 named.1 in none_apart (method_of schema.methods step.method) there.0 f there.1,
      )
  method_fault columns step (Some method) spot f h =
      inr (method, found_method schema.methods step.method method f, arity_fault columns step method (slice_get schema.relations method.rel) spot refl h)

  step_fault : (columns : ℕ) (step : Step) (spot : Spot) → judged_step schema constants columns step ≡ Err spot → IsStepFault schema constants columns step spot.place spot.kind
  step_fault columns step spot h = method_fault columns step (method_of schema.methods step.method) spot refl h

  -- ---- outputs

  out_is_fault : (columns : ℕ) (out : Out) (kind : PlanFaultKind) → out_fault constants columns out ≡ Some kind → IsOutFault constants columns out kind
  out_is_fault columns (Fixed c) kind e =
      let g = else_is (has_text constants c) UnknownConstant kind e in
      (g.1, λ among. clash (has_text constants c) g.0 (in_has constants c among))
  out_is_fault columns (Made k) kind e =
      let g = else_is (nat_lt k columns) BadColumn kind e in
      (g.1, ltb-false k columns g.0)

  abbrev OutFaultOf : Spot → ℕ → List Out → Out → Type 0
  OutFaultOf spot columns front out = IsOutFault constants columns out spot.kind

  abbrev OutFrom : ℕ → ℕ → List Out → Spot → Type 0
  OutFrom columns p outs spot = FirstFrom (AllBefore (IsLawfulOut constants columns)) (OutFaultOf spot columns) spot.place p outs

  outs_fault : (columns : ℕ) (outs : List Out) (p : ℕ) (spot : Spot) → judged_outs constants columns p outs ≡ Err spot → OutFrom columns p outs spot
  outs_fault columns [] p spot h = absurd (cc)
  outs_fault columns (out ∷ outs) p spot h = go (out_fault constants columns out) refl (λ rest. outs_fault columns outs (p + 1) spot rest) h
    where
      go : (o : Option PlanFaultKind) → out_fault constants columns out ≡ o → (judged_outs constants columns (p + 1) outs ≡ Err spot → OutFrom columns (p + 1) outs spot) →
          unless o p (judged_outs constants columns (p + 1) outs) ≡ Err spot → OutFrom columns p (out ∷ outs) spot
      go None e again h =
          first_behind p out outs (again h)
          (λ front each. all_before (IsLawfulOut constants columns) out front
          (out_lawful schema well constants columns out e) each) (λ front other is. is)
      go (Some kind) e again h =
          let here : Spot = record { place = p; kind = kind } in
          let same : here ≡ spot = spot_is here spot h in
          first_here p out outs (ap (λ (s : Spot). s.place) (sym same)) (λ earlier c. absurd (omega arith))
          (subst (λ (s : Spot). IsOutFault constants columns out s.kind) same (out_is_fault columns out kind e))

  output_fault : (width columns : ℕ) (output : List Out) (spot : Spot) → judged_output constants width columns output ≡ Err spot → IsOutputFault constants columns width output spot.place spot.kind
  output_fault width columns output spot h = go (nat_eq (length output) width) refl h
    where
      go : (b : Bool) → nat_eq (length output) width ≡ b → cond b (judged_outs constants columns 0 output) (Err wrong) ≡ Err spot → IsOutputFault constants columns width output spot.place spot.kind
      go true t h =
          let (out, at, before, is) = first_of output (outs_fault columns output 0 spot h) in
          inr (eqb-true (length output) width t, record { out = out; at = at; before = before; is = is })
      go false t h =
          let same : wrong ≡ spot = spot_is wrong spot h in
          inl (ap (λ (s : Spot). s.kind) (sym same), ap (λ (s : Spot). s.place) (sym same), λ long. clash (nat_eq (length output) width) t (eq-eqb (length output) width long))

  -- ---- branches

  abbrev faulty : PlanFault → Result (Unit {0}) PlanFault
  faulty fault = Err fault

  fault_is : (a b : PlanFault) → faulty a ≡ faulty b → a ≡ b
  fault_is a b e = cc

  placed_err : (b n : ℕ) (r : Result (Unit {0}) Spot) (fault : PlanFault) → placed b n r ≡ Err fault → (spot : Spot) × (r ≡ Err spot) × (fault_at b n spot ≡ fault)
  placed_err b n (Ok x) fault h = absurd (cc)
  placed_err b n (Err spot) fault h = (spot, refl, fault_is (fault_at b n spot) fault h)

  -- from step n of branch b on
  record FaultBehind (width b n columns : ℕ) (steps : List Step) (output : List Out) (fault : PlanFault) : Type 0 where
    pub branch_is : fault.branch ≡ b
    pub q : ℕ
    pub step_is : fault.step ≡ n + q
    pub lawful : AreLawfulFrom schema constants columns (take q steps) []
    pub is : ((step : Step) × (slice_get steps q ≡ Some step) × IsStepFault schema constants (made_by columns (take q steps)) step fault.place fault.kind)
        ⊎ ((q ≡ length steps) × AreLawfulFrom schema constants columns steps [] × IsOutputFault constants (made_by columns steps) width output fault.place fault.kind)

  nothing_lawful : (columns : ℕ) → AreLawfulFrom schema constants columns [] []
  nothing_lawful columns = λ out c. absurd (omega arith)

  steps_fault : (width b n columns : ℕ) (steps : List Step) (output : List Out) (fault : PlanFault) → judged_steps schema constants width b n columns steps output ≡ Err fault → FaultBehind width b n columns steps output fault
  steps_fault width b n columns [] output fault h =
      let (spot, at, same) = placed_err b n (judged_output constants width columns output) fault h in
      record {
        branch_is = ap (λ (f : PlanFault). f.branch) (sym same);
        q = 0;
        step_is = ap (λ (f : PlanFault). f.step) (sym same) ∙ omega arith;
        lawful = nothing_lawful columns;
        is = inr (refl, nothing_lawful columns, subst (λ (f : PlanFault). IsOutputFault constants columns width output f.place f.kind) same (output_fault width columns output spot at));
      }
  steps_fault width b n columns (step ∷ steps) output fault h =
      go (judged_step schema constants columns step) refl (λ c rest. steps_fault width b (n + 1) c steps output fault rest) h
    where
      go : (r : Result ℕ Spot) → judged_step schema constants columns step ≡ r →
          ((c : ℕ) → judged_steps schema constants width b (n + 1) c steps output ≡ Err fault → FaultBehind width b (n + 1) c steps output fault) → and_then b n r (λ after. judged_steps schema constants width b (n + 1) after steps output) ≡ Err fault → FaultBehind width b n columns (step ∷ steps) output fault
      go (Err spot) e again h =
          let same = fault_is (fault_at b n spot) fault h in
          record {
            branch_is = ap (λ (f : PlanFault). f.branch) (sym same);
            q = 0;
            step_is = ap (λ (f : PlanFault). f.step) (sym same) ∙ omega arith;
            lawful = nothing_lawful columns;
            is = inl (step, refl, subst (λ (f : PlanFault). IsStepFault schema constants columns step f.place f.kind) same (step_fault columns step spot e));
          }
      go (Ok c) e again h =
          let (method, lawful, is) = step_lawful schema well constants columns c step e in
          let r : FaultBehind width b (n + 1) (made columns step.places) steps output fault = subst (λ (k : ℕ). FaultBehind width b (n + 1) k steps output fault) is (again c h) in
          let step_is = r.step_is in
          record {
            branch_is = r.branch_is;
            q = suc r.q;
            step_is = omega (arith, step_is);
            lawful = (method, lawful, r.lawful);
            is = ⊎_elim (λ s. inl s) (λ o. inr (ap suc o.0 ∙ omega arith, (method, lawful, o.1), o.2)) r.is;
          }

  branch_fault : (width b : ℕ) (branch : Branch) (fault : PlanFault) → judged_steps schema constants width b 0 0 branch.steps branch.output ≡ Err fault →
      (fault.branch ≡ b) × IsBranchFault schema constants width branch fault.step fault.place fault.kind
  branch_fault width b branch fault h =
      let r = steps_fault width b 0 0 branch.steps branch.output fault h in
      let step_is = r.step_is in
      let same : r.q ≡ fault.step = omega (arith, step_is) in (
        r.branch_is,
        ⊎_elim
            (λ s. inl (record {
              step = s.0;
              at = subst (λ (q : ℕ). slice_get branch.steps q ≡ Some s.0) same s.1;
              before = subst (λ (q : ℕ). AreLawfulFrom schema constants 0 (take q branch.steps) []) same r.lawful;
              is = subst (λ (q : ℕ). IsStepFault schema constants (made_by 0 (take q branch.steps)) s.0 fault.place fault.kind) same s.2;
            }))
            (λ o. inr (sym same ∙ o.0, o.1, o.2)) r.is,
      )

  -- ---- plans

  abbrev LawfulOf : ℕ → Branch → Type 0
  LawfulOf width branch = (length branch.output ≡ width) × IsLawfulBranch schema constants branch

  abbrev BranchFaultOf : ℕ → PlanFault → List Branch → Branch → Type 0
  BranchFaultOf width fault front branch = IsBranchFault schema constants width branch fault.step fault.place fault.kind

  abbrev BranchFrom : ℕ → ℕ → List Branch → PlanFault → Type 0
  BranchFrom width b branches fault = FirstFrom (AllBefore (LawfulOf width)) (BranchFaultOf width fault) fault.branch b branches

  branches_fault : (width : ℕ) (branches : List Branch) (b : ℕ) (fault : PlanFault) → judged_branches schema constants width b branches ≡ Err fault → BranchFrom width b branches fault
  branches_fault width [] b fault h = absurd (cc)
  branches_fault width (x ∷ branches) b fault h =
      go (judged_steps schema constants width b 0 0 x.steps x.output) refl (λ rest. branches_fault width branches (b + 1) fault rest) h
    where
      go : (r : Result (Unit {0}) PlanFault) → judged_steps schema constants width b 0 0 x.steps x.output ≡ r →
          (judged_branches schema constants width (b + 1) branches ≡ Err fault → BranchFrom width (b + 1) branches fault) → before r (judged_branches schema constants width (b + 1) branches) ≡ Err fault → BranchFrom width b (x ∷ branches) fault
      go (Err first) e again h =
          let same = fault_is first fault h in
          let f = branch_fault width b x fault (e ∙ ap faulty same) in
          first_here b x branches f.0 (λ earlier c. absurd (omega arith)) f.1
      go (Ok y) e again h =
          first_behind b x branches (again h)
          (λ front each. all_before (LawfulOf width) x front
          (steps_lawful schema well constants width b 0 0 x.steps x.output e) each) (λ front other is. is)

  plan_fault : (plan : Plan) (fault : PlanFault) → judged_branches schema constants plan.width 0 plan.branches ≡ Err fault → IsFirstFault plan schema constants fault
  plan_fault plan fault h =
      let (branch, at, before, is) =
      first_of plan.branches (branches_fault plan.width plan.branches 0 fault h) in
      record { branch = branch; at = at; before = before; is = is }

ok_is : (r : Result (Unit {0}) PlanFault) → IsOk r → r ≡ Ok tt
ok_is (Ok x) h = refl
ok_is (Err f) h = absurd (cc)

is_ok : (r : Result (Unit {0}) PlanFault) → r ≡ Ok tt → IsOk r
is_ok r e = rw e refl

pub exact_is : (schema : Schema) (known : List (List ℕ)) (plan : Plan) (r : Result (Unit {0}) PlanFault) → r ≡ judged_branches (meaning_of schema) known plan.width 0 plan.branches → IsOk r ↔ IsLawful plan (meaning_of schema) known
exact_is schema known plan r same = (
  (λ h. branches_lawful (meaning_of schema) (well_formed schema) known plan.width 0 plan.branches (sym same ∙ ok_is r h)),
  (λ l. is_ok r (same ∙ lawful_branches (meaning_of schema) (well_formed schema) known plan.width 0 plan.branches l)),
)

pub first_is : (schema : Schema) (known : List (List ℕ)) (plan : Plan) (r : Result (Unit {0}) PlanFault) → r ≡ judged_branches (meaning_of schema) known plan.width 0 plan.branches → IfErr r (λ fault. IsFirstFault plan (meaning_of schema) known fault)
first_is schema known plan (Ok x) same = tt
first_is schema known plan (Err fault) same = plan_fault (meaning_of schema) (well_formed schema) known plan fault (sym same)
