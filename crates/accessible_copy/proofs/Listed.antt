-- Lists of active exposures, exposure by exposure.
use Rattle.std.proofs.Common.{◌≡◌, ◌↔◌, ℕ, zero, suc, ◌+◌, ◌<◌, List, [], ◌∷◌, ◌++◌, length, map, take, IsTrue, refl, sym, ap, ◌∙◌, subst, inl, inr, ⊎_elim, arith, append_assoc}
use Rattle.std.specs.Prelude.{Contains, Some, slice_index, slice_get, flat_map, Decides, Bool, true, false, if◌then◌else◌}
use Rattle.std.proofs.lemmas.List.Elements.{Contains-append_left, Contains-append_right, Contains-append_cases, Contains-push, Contains-push_cases}
use Rattle.lists.proofs.Members.{contains_here, contains_there, contains_cases, contains_map, contains_mapped, some_injective, contains_none}
use Rattle.meaning.specs.declared.types.SchemaParts.{SchemaParts}
use Rattle.meaning.specs.declared.types.Method.{Method}
use Rattle.meaning.specs.declared.types.Ground.{Ground}
use Rattle.meaning.specs.declared.types.Val.{Val}
use Rattle.meaning.specs.declared.types.Val.TheVariants.{Const}
use Rattle.meaning.specs.declared.types.Firing.{Firing}
use Rattle.meaning.specs.declared.types.Firing.TheVariants.{Base, Copy, Expose}
use Rattle.meaning.specs.Added.{with_facts, with_fact, is_same_fact}
use Rattle.meaning_laws.proofs.Added.{there_decides}
use Rattle.std.specs.List.{list_any}
use Rattle.meaning.specs.Triggers.{ground, assigned}
use Rattle.meaning.specs.Search.{AreDistinct}
use Rattle.meaning.specs.Runs.{Proof, Fires, part_of, IsKnownValue}
use Rattle.std.proofs.lemmas.List.{take_more, append-nil}
use Rattle.lists.proofs.Places.{take_got}
use Rattle.homomorphism.proofs.Members.{distinct_append, distinct_push, distinct_take}
use Rattle.accessible_copy.specs.declared.entry.Entry.{Entry}
use Rattle.accessible_copy.specs.Known.{known_values}
use Rattle.accessible_copy.specs.Proving.{Proving, IsWritten, IsProofOf}
use Rattle.accessible_copy.specs.Methods.{methods_of, IsMethodIndex}
use Rattle.accessible_copy.specs.Listing.{CanFire, AreExposures, AreExposuresOf, AddsExposures, IsInput, AreInputs}

-- known values
values_of : (facts : List Ground) (value : Val) → Contains (flat_map (λ (fact : Ground). fact.vals) facts) value → (fact : Ground) × Contains facts fact × Contains fact.vals value
values_of [] value c = absurd (omega arith)
values_of (fact ∷ facts) value c =
    ⊎_elim (λ h. (fact, contains_here fact facts, h)) (λ h. let (other, among, has) = values_of facts value h in (other, contains_there fact facts other among, has))
    (Contains-append_cases fact.vals (flat_map (λ (fact : Ground). fact.vals) facts) value c)

of_values : (facts : List Ground) (value : Val) (fact : Ground) → Contains facts fact → Contains fact.vals value → Contains (flat_map (λ (fact : Ground). fact.vals) facts) value
of_values [] value fact among has = absurd (omega arith)
of_values (first ∷ facts) value fact among has =
    ⊎_elim (λ same. Contains-append_left first.vals (flat_map (λ (fact : Ground). fact.vals) facts) value (subst (λ (f : Ground). Contains f.vals value) (sym same) has))
    (λ h. Contains-append_right first.vals (flat_map (λ (fact : Ground). fact.vals) facts) value (of_values facts value fact h has)) (contains_cases first facts fact among)

pub known_to : (constants : List (List ℕ)) (exposed : List Ground) (value : Val) → Contains (known_values constants exposed) value → IsKnownValue constants exposed value
known_to constants exposed value c =
    ⊎_elim (λ h. let (text, among, e) = contains_mapped Const constants value h in inl (text, among, sym e)) (λ h. inr (values_of exposed value h))
    (Contains-append_cases (map Const constants) (flat_map (λ (fact : Ground). fact.vals) exposed) value c)

pub known_from : (constants : List (List ℕ)) (exposed : List Ground) (value : Val) → IsKnownValue constants exposed value → Contains (known_values constants exposed) value
known_from constants exposed value known =
    ⊎_elim (λ (text, among, e). Contains-append_left (map Const constants) (flat_map (λ (fact : Ground). fact.vals) exposed) value (subst (λ v. Contains (map Const constants) v) (sym e) (contains_map Const constants text among)))
    (λ (fact, among, has). Contains-append_right (map Const constants) (flat_map (λ (fact : Ground). fact.vals) exposed) value (of_values exposed value fact among has)) known

pub inputs_to : (constants : List (List ℕ)) (exposed : List Ground) (inputs : List ℕ) (vals : List Val) → AreInputs (known_values constants exposed) inputs vals
    → (p : ℕ) → Contains inputs p → (value : Val) × (slice_get vals p ≡ Some value) × IsKnownValue constants exposed value
inputs_to constants exposed inputs vals are p among = let (value, at, c) = are p among in (value, at, known_to constants exposed value c)

pub inputs_from : (constants : List (List ℕ)) (exposed : List Ground) (inputs : List ℕ) (vals : List Val)
    → ((p : ℕ) → Contains inputs p → (value : Val) × (slice_get vals p ≡ Some value) × IsKnownValue constants exposed value) → AreInputs (known_values constants exposed) inputs vals
inputs_from constants exposed inputs vals are p among = let (value, at, c) = are p among in (value, at, known_from constants exposed value c)

-- what is left of the inputs
pub inputs_none : (values vals : List Val) → AreInputs values [] vals
inputs_none values vals p among = absurd (omega arith)

pub inputs_first : (values vals : List Val) (p : ℕ) (inputs : List ℕ) → IsInput values vals p → AreInputs values (p ∷ inputs) vals ↔ AreInputs values inputs vals
inputs_first values vals p inputs is =
    ((λ are q among. are q (contains_there p inputs q among)), (λ are q among. ⊎_elim (λ same. subst (IsInput values vals) same is) (λ h. are q h) (contains_cases p inputs q among)))

-- one method more
pub number_is : (m n : ℕ) (f g : Ground) → Expose m f ≡ Expose n g → m ≡ n
number_is m n f g e = cc

pub fact_is : (m n : ℕ) (f g : Ground) → Expose m f ≡ Expose n g → f ≡ g
fact_is m n f g e = cc

module _ (schema : SchemaParts) (proof : Proving) (fact : Ground) where
  pub of_none : AreExposuresOf schema proof fact [] []
  of_none = record { each = λ firing c. absurd (contains_none firing c); all = λ number c can. absurd (contains_none number c); once = tt }

  pub of_exposed : (numbers : List ℕ) → Contains proof.end.exposed fact → AreExposuresOf schema proof fact numbers []
  of_exposed numbers there = record { each = λ firing c. absurd (contains_none firing c); all = λ number c (method, can). absurd (can.new there); once = tt }

  module _ (numbers : List ℕ) (one : ℕ) (found : List Firing) (are : AreExposuresOf schema proof fact numbers found) where
    earlier : (number : ℕ) → Contains numbers number → Contains (numbers ++ one ∷ []) number
    earlier number c = Contains-append_left numbers (one ∷ []) number c

    pub of_more : (Contains numbers one → ⊥) → CanFire schema proof one fact → AreExposuresOf schema proof fact (numbers ++ one ∷ []) (found ++ Expose one fact ∷ [])
    of_more new can = record {
      each = λ firing c. ⊎_elim (λ h. let (number, e, among, is) = are.each firing h in (number, e, earlier number among, is)) (λ same. (one, sym same, Contains-push numbers one, can)) (Contains-push_cases found (Expose one fact) firing c);
      all = λ number c is. ⊎_elim (λ h. Contains-append_left found (Expose one fact ∷ []) (Expose number fact) (are.all number h is))
          (λ same. subst (λ n. Contains (found ++ Expose one fact ∷ []) (Expose n fact)) same (Contains-push found (Expose one fact))) (Contains-push_cases numbers one number c);
      once = distinct_push found (Expose one fact) are.once (λ c. let (number, e, among, is) = are.each (Expose one fact) c in new (subst (λ n. Contains numbers n) (sym (number_is one number fact fact e)) among));
    }

    pub of_less : (CanFire schema proof one fact → ⊥) → AreExposuresOf schema proof fact (numbers ++ one ∷ []) found
    of_less cannot = record {
      each = λ firing c. let (number, e, among, is) = are.each firing c in (number, e, earlier number among, is);
      all = λ number c is. ⊎_elim (λ h. are.all number h is) (λ same. absurd (cannot (subst (λ n. CanFire schema proof n fact) (sym same) is))) (Contains-push_cases numbers one number c);
      once = are.once;
    }

  -- the same at the end of a list
  pub adds_none : (numbers : List ℕ) (found : List Firing) → length numbers ≡ 0 → AddsExposures schema proof fact numbers found found
  adds_none [] found none = record { more = []; after_is = sym (append-nil found); are = of_none }
  adds_none (number ∷ numbers) found none = absurd (omega arith)

  pub adds_exposed : (numbers : List ℕ) (found : List Firing) → Contains proof.end.exposed fact → AddsExposures schema proof fact numbers found found
  adds_exposed numbers found there = record { more = []; after_is = sym (append-nil found); are = of_exposed numbers there }

  pub adds_more : (numbers : List ℕ) (one : ℕ) (before after : List Firing) → AddsExposures schema proof fact numbers before after → (Contains numbers one → ⊥) → CanFire schema proof one fact → AddsExposures schema proof fact (numbers ++ one ∷ []) before (after ++ Expose one fact ∷ [])
  adds_more numbers one before after adds new can = record {
    more = adds.more ++ Expose one fact ∷ [];
    after_is = ap (λ (l : List Firing). l ++ Expose one fact ∷ []) adds.after_is ∙ append_assoc before adds.more (Expose one fact ∷ []);
    are = of_more numbers one adds.more adds.are new can;
  }

  pub adds_less : (numbers : List ℕ) (one : ℕ) (before after : List Firing) → AddsExposures schema proof fact numbers before after → (CanFire schema proof one fact → ⊥) → AddsExposures schema proof fact (numbers ++ one ∷ []) before after
  adds_less numbers one before after adds cannot = record { more = adds.more; after_is = adds.after_is; are = of_less numbers one adds.more adds.are cannot }

distinct_last : {X : Type 0} (xs : List X) (x : X) → AreDistinct (xs ++ x ∷ []) → Contains xs x → ⊥
distinct_last [] x are c = contains_none x c
distinct_last (y ∷ xs) x (new, are) c = ⊎_elim (λ same. new (subst (Contains (xs ++ x ∷ [])) (sym same) (Contains-push xs x))) (λ h. distinct_last xs x are h) (contains_cases y xs x c)

-- one of distinct members does not stand before itself
pub not_before : (xs : List ℕ) (k x : ℕ) → AreDistinct xs → slice_get xs k ≡ Some x → Contains (take k xs) x → ⊥
not_before xs k x once got = distinct_last (take k xs) x (subst AreDistinct (take_got xs k x got) (distinct_take xs (k + 1) once))

-- a method of the fact's relation whose inputs are known
can_fire : (schema : SchemaParts) (proof : Proving) (number : ℕ) (fact : Ground) (method : Method) → Contains proof.end.base fact → (Contains proof.end.exposed fact → ⊥) → slice_get schema.methods number ≡ Some method → method.rel ≡ fact.rel
    → AreInputs (known_values proof.constants proof.end.exposed) method.inputs fact.vals → CanFire schema proof number fact
can_fire schema proof number fact method of_base new named rel are = (
  method,
  record {
    of_base = of_base;
    new = new;
    named = named;
    of_relation = rel;
    inputs = inputs_to proof.constants proof.end.exposed method.inputs fact.vals are;
  },
)

fire_inputs : (schema : SchemaParts) (proof : Proving) (number : ℕ) (fact : Ground) (method : Method) → slice_get schema.methods number ≡ Some method → CanFire schema proof number fact → AreInputs (known_values proof.constants proof.end.exposed) method.inputs fact.vals
fire_inputs schema proof number fact method named (other, is) =
    let same : other ≡ method = some_injective other method (sym is.named ∙ named) in
    subst (λ (m : Method). AreInputs (known_values proof.constants proof.end.exposed) m.inputs fact.vals) same (inputs_from proof.constants proof.end.exposed other.inputs fact.vals is.inputs)

-- so a test of the inputs tells whether the exposure is active
pub fires : (schema : SchemaParts) (proof : Proving) (number : ℕ) (fact : Ground) (method : Method) → Contains proof.end.base fact → (Contains proof.end.exposed fact → ⊥)
    → (named : (m : Method) × (slice_get schema.methods number ≡ Some m) × (m.rel ≡ fact.rel)) → slice_get schema.methods number ≡ Some method → (b : Bool) (values : List Val) (inputs : List ℕ) (vals : List Val)
    → values ≡ known_values proof.constants proof.end.exposed → inputs ≡ method.inputs → vals ≡ fact.vals → (IsTrue b ↔ AreInputs values inputs vals) → IsTrue b ↔ CanFire schema proof number fact
fires schema proof number fact method of_base new (m, at, of_relation) named b values inputs vals v i a iff =
    let same : m ≡ method = some_injective m method (sym at ∙ named) in
    let rel : method.rel ≡ fact.rel = subst (λ (k : Method). k.rel ≡ fact.rel) same of_relation in (
      (λ yes. can_fire schema proof number fact method of_base new named rel (rw (← v, ← i, ← a) (iff.0 yes))),
      (λ can. iff.1 (rw (v, i, a) (fire_inputs schema proof number fact method named can))),
    )

-- one fact more
module _ (schema : SchemaParts) (proof : Proving) where
  pub from_none : AreExposures schema proof [] []
  from_none = record { each = λ firing c. absurd (contains_none firing c); all = λ number fact c can. absurd (contains_none fact c); once = tt }

  pub from_more : (facts : List Ground) (fact : Ground) (found more : List Firing) (numbers : List ℕ) → AreDistinct (facts ++ fact ∷ []) → AreExposures schema proof facts found → AreExposuresOf schema proof fact numbers more
      → ((number : ℕ) → CanFire schema proof number fact → Contains numbers number) → AreExposures schema proof (facts ++ fact ∷ []) (found ++ more)
  from_more facts fact found more numbers once are of below = record {
    each = λ firing c. ⊎_elim (λ h. let (number, other, e, among, is) = are.each firing h in (number, other, e, Contains-append_left facts (fact ∷ []) other among, is))
        (λ h. let (number, e, among, is) = of.each firing h in (number, fact, e, Contains-push facts fact, is)) (Contains-append_cases found more firing c);
    all = λ number other c can. ⊎_elim (λ h. Contains-append_left found more (Expose number other) (are.all number other h can))
        (λ same. subst (λ f. Contains (found ++ more) (Expose number f)) same (let can' = subst (CanFire schema proof number) (sym same) can in Contains-append_right found more (Expose number fact) (of.all number (below number can') can')))
        (Contains-push_cases facts fact other c);
    once = distinct_append found more are.once of.once (λ firing c d.
        let (number, other, e, among, is) = are.each firing c in
        let (number', e', l, is') = of.each firing d in
        distinct_last facts fact once (subst (λ f. Contains facts f) (fact_is number number' other fact (sym e ∙ e')) among));
  }

-- base facts stand once
pub with_once : (facts : List Ground) (news : List Ground) → AreDistinct facts → AreDistinct (with_facts facts news)
with_once facts [] are = are
with_once facts (fact ∷ news) are = with_once (with_fact facts fact) news (one facts fact are)
  where
    one : (facts : List Ground) (fact : Ground) → AreDistinct facts → AreDistinct (with_fact facts fact)
    one facts fact are = by (list_any (is_same_fact fact) facts) (there_decides facts fact)
      where
        by : (t : Bool) → Decides t (Contains facts fact) → AreDistinct (if t then facts else facts ++ fact ∷ [])
        by true d = are
        by false d = distinct_push facts fact are (λ c. let e : false ≡ true = d.1 c in absurd (cc))

pub written_once : (schema : SchemaParts) (constants : List (List ℕ)) (part : ℕ) (proof : Proof) (entries : List Entry) (end : Proof) → AreDistinct proof.base → IsWritten schema constants part proof entries end → AreDistinct end.base
written_once schema constants part proof [] end once e = subst (λ (p : Proof). AreDistinct p.base) (sym e) once
written_once schema constants part proof (entry ∷ entries) end once (order, sizes, (next, fires, more)) = written_once schema constants (part_of entry.firing) next entries end (by entry.firing fires) more
  where
    by : (firing : Firing) → Fires schema constants proof firing next → AreDistinct next.base
    by (Base trigger) (rule, is, e) = subst (λ (p : Proof). AreDistinct p.base) (sym e) (with_once proof.base (map (ground (assigned trigger)) rule.head) once)
    by (Copy trigger) (rule, is, quiet, e) = subst (λ (p : Proof). AreDistinct p.base) (sym e) once
    by (Expose number fact) (method, is, quiet, e) = subst (λ (p : Proof). AreDistinct p.base) (sym e) once

pub proof_once : (schema : SchemaParts) (proof : Proving) → IsProofOf schema proof → AreDistinct proof.end.base
proof_once schema proof is = written_once schema proof.constants 0 proof.start proof.entries proof.end is.once is.written

-- the loops
pub at_index : (xs : List ℕ) (n : ℕ) → n < length xs → Contains xs (slice_index xs n)
at_index [] n l = absurd (omega arith)
at_index (x ∷ xs) zero l = contains_here x xs
at_index (x ∷ xs) (suc n) l = contains_there x xs (slice_index xs n) (at_index xs n (omega arith))

pub at_got : (xs : List ℕ) (n : ℕ) → n < length xs → slice_get xs n ≡ Some (slice_index xs n)
at_got [] n l = absurd (omega arith)
at_got (x ∷ xs) zero l = refl
at_got (x ∷ xs) (suc n) l = at_got xs n (omega arith)

pub inputs_more : (values vals : List Val) (inputs : List ℕ) (n : ℕ) → n < length inputs → AreInputs values (take n inputs) vals → IsInput values vals (slice_index inputs n) → AreInputs values (take (n + 1) inputs) vals
inputs_more values vals inputs n l before is q among =
    ⊎_elim (λ h. before q h) (λ same. subst (IsInput values vals) same is) (Contains-push_cases (take n inputs) (slice_index inputs n) q (subst (λ z. Contains z q) (take_more inputs n 0 l) among))

-- the index has each method by which the fact can be exposed
pub fire_listed : (schema : SchemaParts) (index : List (List ℕ)) (proof : Proving) (number : ℕ) (fact : Ground) → IsMethodIndex schema.methods index → CanFire schema proof number fact → Contains (methods_of index fact.rel) number
fire_listed schema index proof number fact are (method, is) = subst (λ r. Contains (methods_of index r) number) is.of_relation (are.all number method is.named)
