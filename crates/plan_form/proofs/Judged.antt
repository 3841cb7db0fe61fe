-- A plan is judged without a fault exactly where it is lawful.
use Rattle.std.proofs.Common.{◌≡◌, ◌<◌, ◌+◌, ◌&&◌, ◌⊎◌, ⊎_elim, ℕ, List, [], ◌∷◌, length, Option, None, Some, Bool, true, false, not, cond, nat_eq, nat_lt, refl, sym, ◌∙◌, ap, subst, arith}
use Rattle.std.specs.Prelude.{Contains, slice_get, Result, Ok, Err}
use Rattle.std.specs.Cmp.Lexicographic.{pointwise, nat_list_eq_equiv}
use Rattle.std.proofs.lemmas.Bool.{eqb-true, eq-eqb, ltb-true, lt-ltb}
use Rattle.meaning.specs.declared.types.Method.{Method}
use Rattle.meaning.specs.declared.types.Relation.{Relation}
use Rattle.meaning.specs.declared.types.SchemaParts.{SchemaParts}
use Rattle.meaning.specs.declared.types.Place.{Place}
use Rattle.meaning.specs.declared.types.Place.TheVariants.{Const, Col, New}
use Rattle.meaning.specs.declared.types.Out.{Out}
use Rattle.meaning.specs.declared.types.Out.TheVariants.{Const as Fixed, Col as Made}
use Rattle.meaning.specs.declared.types.Step.{Step}
use Rattle.meaning.specs.declared.types.Branch.{Branch}
use Rattle.meaning.specs.Plans.{IsWellFormed, made, AreLawfulPlaces, IsLawfulOut, IsLawfulStep, AreLawfulFrom, IsLawfulBranch}
use Rattle.lists.proofs.Members.{contains_here, contains_there, contains_cases}
use Rattle.lists.proofs.Booleans.{never_true, not_false}
use Rattle.lists.proofs.Orders.{text_is}
use Rattle.plan_form.specs.declared.fault.PlanFaultKind.{PlanFaultKind}
use Rattle.plan_form.specs.declared.fault.PlanFaultKind.TheVariants.{WrongArity}
use Rattle.plan_form.specs.declared.fault.PlanFault.{PlanFault}
use Rattle.plan_form.specs.declared.judge.Spot.{Spot}
use Rattle.plan_form.specs.Judging.{has_text, is_input_at, place_fault, count_place, unless, judged_places, method_of, judged_arity, judged_method, judged_step, out_fault, judged_outs, judged_output, placed, and_then, judged_steps, before, judged_branches}
use Rattle.plan_form.proofs.Texts.{has_in, in_has, input_in, in_input}

abbrev pub wrong : Spot
wrong = record { place = 0; kind = WrongArity }

none_true : (b : Bool) (k : PlanFaultKind) → cond b None (Some k) ≡ None → b ≡ true
none_true true k h = refl
none_true false k h = absurd (cc)

true_none : (b : Bool) (k : PlanFaultKind) → b ≡ true → cond b None (Some k) ≡ None
true_none b k h = rw h refl

none_false : (b : Bool) (k : PlanFaultKind) (rest : Option PlanFaultKind) → cond b (Some k) rest ≡ None → (b ≡ false) × (rest ≡ None)
none_false true k rest h = absurd (cc)
none_false false k rest h = (refl, h)

false_none : (b : Bool) (k : PlanFaultKind) (rest : Option PlanFaultKind) → b ≡ false → rest ≡ None → cond b (Some k) rest ≡ None
false_none b k rest h r = rw h r

unless_ok : {T : Type 0} (o : Option PlanFaultKind) (p : ℕ) (rest : Result T Spot) (x : T) → unless o p rest ≡ Ok x → (o ≡ None) × (rest ≡ Ok x)
unless_ok None p rest x h = (refl, h)
unless_ok (Some k) p rest x h = absurd (cc)

ok_unless : {T : Type 0} (o : Option PlanFaultKind) (p : ℕ) (rest : Result T Spot) (x : T) → o ≡ None → rest ≡ Ok x → unless o p rest ≡ Ok x
ok_unless o p rest x h r = rw h r

below : (a b : ℕ) → not (nat_lt a b) ≡ false → a < b
below a b h = ltb-true a b (not_false (nat_lt a b) h)

below_not : (a b : ℕ) → a < b → not (nat_lt a b) ≡ false
below_not a b h = ap not (lt-ltb a b h)

and_false : (a b : Bool) → (a && b) ≡ false → a ≡ true → b ≡ false
and_false true b h e = h
and_false false b h e = absurd (cc)

false_and : (a b : Bool) → (a ≡ true → b ≡ false) → (a && b) ≡ false
false_and true b h = h refl
false_and false b h = refl

pub clash : (b : Bool) → b ≡ false → b ≡ true → ⊥
clash b f t = cc

pub made_behind : (place : Place) (places : List Place) (columns : ℕ) → made (count_place columns place) places ≡ made columns (place ∷ places)
made_behind (Const c) places columns = refl
made_behind (Col k) places columns = refl
made_behind New places columns = refl

-- ---- places

module _ (constants : List (List ℕ)) (inputs : List ℕ) (began : ℕ) where
  -- a place without a fault in front of lawful places
  pub in_front : (place : Place) (places : List Place) (p columns : ℕ) → place_fault constants inputs began p columns place ≡ None →
      AreLawfulPlaces constants inputs began (p + 1) (count_place columns place) places → AreLawfulPlaces constants inputs began p columns (place ∷ places)
  in_front (Const t) places p columns e rest = (has_in constants t (none_true (has_text constants t) _ e), rest)
  in_front (Col k) places p columns e rest =
      let first = none_false (not (nat_lt k columns)) _ _ e in
      let second = none_false (is_input_at inputs p && not (nat_lt k began)) _ None first.1 in
      (below k columns first.0, (λ i. below k began (and_false (is_input_at inputs p) (not (nat_lt k began)) second.0 (in_input inputs p i))), rest)
  in_front New places p columns e rest =
      let first = none_false (is_input_at inputs p) _ None e in
      ((λ i. clash (is_input_at inputs p) first.0 (in_input inputs p i)), rest)

  pub places_lawful : (places : List Place) (p columns c : ℕ) → judged_places constants inputs began p columns places ≡ Ok c → AreLawfulPlaces constants inputs began p columns places × (c ≡ made columns places)
  places_lawful [] p columns c h = (tt, cc)
  places_lawful (place ∷ places) p columns c h =
      let u = unless_ok (place_fault constants inputs began p columns place) p (judged_places constants inputs began (p + 1) (count_place columns place) places) c h in
      let rest = places_lawful places (p + 1) (count_place columns place) c u.1 in
      (in_front place places p columns u.0 rest.0, rest.1 ∙ made_behind place places columns)

  lawful_places : (places : List Place) (p columns : ℕ) → AreLawfulPlaces constants inputs began p columns places → judged_places constants inputs began p columns places ≡ Ok (made columns places)
  lawful_places [] p columns l = refl
  lawful_places (Const t ∷ places) p columns l =
      ok_unless (place_fault constants inputs began p columns (Const t)) p (judged_places constants inputs began (p + 1) columns places) (made columns places) (true_none (has_text constants t) _ (in_has constants t l.0)) (lawful_places places (p + 1) columns l.1)
  lawful_places (Col k ∷ places) p columns (l, i, rest) =
      ok_unless (place_fault constants inputs began p columns (Col k)) p (judged_places constants inputs began (p + 1) columns places) (made columns places)
      (false_none (not (nat_lt k columns)) _ _ (below_not k columns l) (false_none (is_input_at inputs p && not (nat_lt k began)) _ None (false_and (is_input_at inputs p) (not (nat_lt k began)) (λ t. below_not k began (i (input_in inputs p t)))) refl))
      (lawful_places places (p + 1) columns rest)
  lawful_places (New ∷ places) p columns (i, rest) =
      ok_unless (place_fault constants inputs began p columns New) p (judged_places constants inputs began (p + 1) (columns + 1) places) (made (columns + 1) places)
      (false_none (is_input_at inputs p) _ None (never_true (is_input_at inputs p) (λ t. i (input_in inputs p t))) refl) (lawful_places places (p + 1) (columns + 1) rest)

-- ---- methods

pub found_method : (methods : List Method) (name : List ℕ) (m : Method) → method_of methods name ≡ Some m → Contains methods m × (m.name ≡ name)
found_method [] name m e = absurd (cc)
found_method (x ∷ rest) name m e = step (pointwise nat_eq x.name name) refl (λ h. found_method rest name m h) e
  where
    step : (b : Bool) → pointwise nat_eq x.name name ≡ b → (method_of rest name ≡ Some m → Contains rest m × (m.name ≡ name)) → cond b (Some x) (method_of rest name) ≡ Some m → Contains (x ∷ rest) m × (m.name ≡ name)
    step true t rec e = let is : x ≡ m = cc in subst (λ (y : Method). Contains (x ∷ rest) y × (y.name ≡ name)) is (contains_here x rest, text_is x.name name t)
    step false t rec e = let r = rec e in (contains_there x rest m r.0, r.1)

pub there_found : (methods : List Method) (name : List ℕ) (m : Method) → Contains methods m → m.name ≡ name → (x : Method) × (method_of methods name ≡ Some x)
there_found [] name m c e = absurd (omega arith)
there_found (y ∷ rest) name m c e = step (pointwise nat_eq y.name name) refl (contains_cases y rest m c) (λ h. there_found rest name m h e)
  where
    step : (b : Bool) → pointwise nat_eq y.name name ≡ b → (y ≡ m) ⊎ Contains rest m → (Contains rest m → (x : Method) × (method_of rest name ≡ Some x)) → (x : Method) × (cond b (Some y) (method_of rest name) ≡ Some x)
    step true t c rec = (y, refl)
    step false t c rec = ⊎_elim (λ i. absurd (clash (pointwise nat_eq y.name name) t (subst (λ (n : List ℕ). pointwise nat_eq y.name n ≡ true) (ap (λ (x : Method). x.name) i ∙ e) (nat_list_eq_equiv.refl y.name)))) rec c

-- ---- steps, outputs and branches

module _ (schema : SchemaParts) (well : IsWellFormed schema) (constants : List (List ℕ)) where
  arity_lawful : (columns c : ℕ) (step : Step) (method : Method) (o : Option Relation) → judged_arity constants columns step method o ≡ Ok c →
      (relation : Relation) × (o ≡ Some relation) × (length step.places ≡ length relation.columns) × AreLawfulPlaces constants method.inputs columns 0 columns step.places × (c ≡ made columns step.places)
  arity_lawful columns c step method None h = absurd (cc)
  arity_lawful columns c step method (Some relation) h = go (nat_eq (length step.places) (length relation.columns)) refl h
    where
      go : (b : Bool) → nat_eq (length step.places) (length relation.columns) ≡ b → cond b (judged_places constants method.inputs columns 0 columns step.places) (Err wrong) ≡ Ok c →
          (r : Relation) × (Some relation ≡ Some r) × (length step.places ≡ length r.columns) × AreLawfulPlaces constants method.inputs columns 0 columns step.places × (c ≡ made columns step.places)
      go true t h = let l = places_lawful constants method.inputs columns step.places 0 columns c h in (relation, refl, eqb-true (length step.places) (length relation.columns) t, l.0, l.1)
      go false t h = absurd (cc)

  step_lawful_by : (columns c : ℕ) (step : Step) (o : Option Method) → method_of schema.methods step.method ≡ o → judged_method schema constants columns step o ≡ Ok c → (method : Method) × IsLawfulStep schema constants columns step method × (c ≡ made columns step.places)
  step_lawful_by columns c step None f h = absurd (cc)
  step_lawful_by columns c step (Some method) f h =
      let (relation, at, long, places, is) = arity_lawful columns c step method (slice_get schema.relations method.rel) h in
      (method, record { named = found_method schema.methods step.method method f; arity = record { relation = relation; there = at; width = long }; places = places }, is)

  pub step_lawful : (columns c : ℕ) (step : Step) → judged_step schema constants columns step ≡ Ok c → (method : Method) × IsLawfulStep schema constants columns step method × (c ≡ made columns step.places)
  step_lawful columns c step h = step_lawful_by columns c step (method_of schema.methods step.method) refl h

  lawful_step : (columns : ℕ) (step : Step) (method : Method) → IsLawfulStep schema constants columns step method → judged_step schema constants columns step ≡ Ok (made columns step.places)
  lawful_step columns step method l =
      let (x, f) = there_found schema.methods step.method method l.named.0 l.named.1 in
      let found = found_method schema.methods step.method x f in
      let same : x ≡ method = well.once x method found.0 l.named.0 (found.1 ∙ sym l.named.1) in
      let here : method_of schema.methods step.method ≡ Some method = f ∙ ap (λ (m : Method). Some m) same in
      let equal : nat_eq (length step.places) (length l.arity.relation.columns) ≡ true = eq-eqb (length step.places) (length l.arity.relation.columns) l.arity.width in
      ap (judged_method schema constants columns step) here ∙ ap (judged_arity constants columns step method) l.arity.there
      ∙ ap (λ b. cond b (judged_places constants method.inputs columns 0 columns step.places) (Err wrong)) equal
      ∙ lawful_places constants method.inputs columns step.places 0 columns l.places

  pub out_lawful : (columns : ℕ) (o : Out) → out_fault constants columns o ≡ None → IsLawfulOut constants columns o
  out_lawful columns (Fixed t) e = has_in constants t (none_true (has_text constants t) _ e)
  out_lawful columns (Made k) e = ltb-true k columns (none_true (nat_lt k columns) _ e)

  lawful_out : (columns : ℕ) (o : Out) → IsLawfulOut constants columns o → out_fault constants columns o ≡ None
  lawful_out columns (Fixed t) e = true_none (has_text constants t) _ (in_has constants t e)
  lawful_out columns (Made k) e = true_none (nat_lt k columns) _ (lt-ltb k columns e)

  outs_lawful : (columns p : ℕ) (outs : List Out) → judged_outs constants columns p outs ≡ Ok tt → (out : Out) → Contains outs out → IsLawfulOut constants columns out
  outs_lawful columns p [] h out c = absurd (omega arith)
  outs_lawful columns p (o ∷ outs) h out c =
      let u = unless_ok (out_fault constants columns o) p (judged_outs constants columns (p + 1) outs) tt h in
      ⊎_elim (λ e. subst (λ (x : Out). IsLawfulOut constants columns x) e (out_lawful columns o u.0)) (λ r. outs_lawful columns (p + 1) outs u.1 out r) (contains_cases o outs out c)

  lawful_outs : (columns p : ℕ) (outs : List Out) → ((out : Out) → Contains outs out → IsLawfulOut constants columns out) → judged_outs constants columns p outs ≡ Ok tt
  lawful_outs columns p [] l = refl
  lawful_outs columns p (o ∷ outs) l =
      ok_unless (out_fault constants columns o) p (judged_outs constants columns (p + 1) outs) tt (lawful_out columns o (l o (contains_here o outs))) (lawful_outs columns (p + 1) outs (λ out c. l out (contains_there o outs out c)))

  output_lawful : (width columns : ℕ) (output : List Out) → judged_output constants width columns output ≡ Ok tt → (length output ≡ width) × ((out : Out) → Contains output out → IsLawfulOut constants columns out)
  output_lawful width columns output h = go (nat_eq (length output) width) refl h
    where
      go : (b : Bool) → nat_eq (length output) width ≡ b → cond b (judged_outs constants columns 0 output) (Err wrong) ≡ Ok tt → (length output ≡ width) × ((out : Out) → Contains output out → IsLawfulOut constants columns out)
      go true t h = (eqb-true (length output) width t, outs_lawful columns 0 output h)
      go false t h = absurd (cc)

  lawful_output : (width columns : ℕ) (output : List Out) → length output ≡ width → ((out : Out) → Contains output out → IsLawfulOut constants columns out) → judged_output constants width columns output ≡ Ok tt
  lawful_output width columns output long l =
      let equal : nat_eq (length output) width ≡ true = eq-eqb (length output) width long in
      ap (λ b. cond b (judged_outs constants columns 0 output) (Err wrong)) equal ∙ lawful_outs columns 0 output l

  placed_ok : (b n : ℕ) (r : Result (Unit {0}) Spot) → placed b n r ≡ Ok tt → r ≡ Ok tt
  placed_ok b n (Ok x) h = refl
  placed_ok b n (Err spot) h = absurd (cc)

  then_ok : (b n : ℕ) (r : Result ℕ Spot) (rest : ℕ → Result (Unit {0}) PlanFault) → and_then b n r rest ≡ Ok tt → (c : ℕ) × (r ≡ Ok c) × (rest c ≡ Ok tt)
  then_ok b n (Ok c) rest h = (c, refl, h)
  then_ok b n (Err spot) rest h = absurd (cc)

  pub steps_lawful : (width b n columns : ℕ) (steps : List Step) (output : List Out) → judged_steps schema constants width b n columns steps output ≡ Ok tt → (length output ≡ width) × AreLawfulFrom schema constants columns steps output
  steps_lawful width b n columns [] output h = output_lawful width columns output (placed_ok b n (judged_output constants width columns output) h)
  steps_lawful width b n columns (step ∷ steps) output h =
      let (c, at, rest) = then_ok b n (judged_step schema constants columns step) (λ after. judged_steps schema constants width b (n + 1) after steps output) h in
      let (method, lawful, is) = step_lawful columns c step at in
      let more = steps_lawful width b (n + 1) c steps output rest in
      (more.0, (method, lawful, subst (λ k. AreLawfulFrom schema constants k steps output) is more.1))

  lawful_steps : (width b n columns : ℕ) (steps : List Step) (output : List Out) → length output ≡ width → AreLawfulFrom schema constants columns steps output → judged_steps schema constants width b n columns steps output ≡ Ok tt
  lawful_steps width b n columns [] output long l = ap (placed b n) (lawful_output width columns output long l)
  lawful_steps width b n columns (step ∷ steps) output long (method, l, rest) =
      ap (λ r. and_then b n r (λ after. judged_steps schema constants width b (n + 1) after steps output)) (lawful_step columns step method l)
      ∙ lawful_steps width b (n + 1) (made columns step.places) steps output long rest

  before_ok : (first rest : Result (Unit {0}) PlanFault) → before first rest ≡ Ok tt → (first ≡ Ok tt) × (rest ≡ Ok tt)
  before_ok (Ok x) rest h = (refl, h)
  before_ok (Err f) rest h = absurd (cc)

  pub branches_lawful : (width b : ℕ) (branches : List Branch) → judged_branches schema constants width b branches ≡ Ok tt → (branch : Branch) → Contains branches branch → (length branch.output ≡ width) × IsLawfulBranch schema constants branch
  branches_lawful width b [] h branch c = absurd (omega arith)
  branches_lawful width b (x ∷ branches) h branch c =
      let u = before_ok (judged_steps schema constants width b 0 0 x.steps x.output) (judged_branches schema constants width (b + 1) branches) h in
      ⊎_elim (λ e. subst (λ (y : Branch). (length y.output ≡ width) × IsLawfulBranch schema constants y) e (steps_lawful width b 0 0 x.steps x.output u.0))
      (λ r. branches_lawful width (b + 1) branches u.1 branch r) (contains_cases x branches branch c)

  pub lawful_branches : (width b : ℕ) (branches : List Branch) → ((branch : Branch) → Contains branches branch → (length branch.output ≡ width) × IsLawfulBranch schema constants branch) → judged_branches schema constants width b branches ≡ Ok tt
  lawful_branches width b [] l = refl
  lawful_branches width b (x ∷ branches) l =
      let first = l x (contains_here x branches) in
      ap (λ r. before r (judged_branches schema constants width (b + 1) branches)) (lawful_steps width b 0 0 x.steps x.output first.0 first.1)
      ∙ lawful_branches width (b + 1) branches (λ y c. l y (contains_there x branches y c))
