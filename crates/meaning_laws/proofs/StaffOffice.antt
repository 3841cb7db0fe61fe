-- The worked example of the staff: its instances, and which facts are accessible there.
use Rattle.std.proofs.Common.{◌≡◌, ◌⊎◌, ℕ, List, [], ◌∷◌, length, Some, refl, sym, ap, ◌∙◌, subst, inl, inr, ⊎_elim, arith}
use Rattle.std.specs.Prelude.{Contains, slice_get, slice_index_or, map, codes}
use Rattle.std.specs.List.{AllByRecursion}
use Rattle.lists.proofs.Members.{all_member, contains_here, contains_cases, some_injective, contains_one}
use Rattle.meaning_laws.proofs.Example.{no_element}
use Rattle.meaning_laws.proofs.Closing.{accessible_closed}
use Rattle.meaning.specs.declared.types.Term.TheVariants.{Var}
use Rattle.meaning.specs.declared.types.Atom.{Atom}
use Rattle.meaning.specs.declared.types.Method.{Method}
use Rattle.meaning.specs.declared.types.Relation.{Relation}
use Rattle.meaning.specs.declared.types.Fact.{Fact}
use Rattle.meaning.specs.Values.{Value}
use Rattle.meaning.specs.Instances.{FitsRelation, IsInstance}
use Rattle.meaning.specs.Matching.{value_of, AreFacts, Extends, itself, FactsOf, Meets}
use Rattle.meaning.specs.Access.{IsKnown, CanAccess, IsAccessible}
use Rattle.meaning.specs.Claims.{IsModel}
use Rattle.meaning_laws.specs.Staff.{profinfo, udirect, prof_by_eid, all_direct, in_directory, staff, smith, jones, known, profile, entry, office, unlisted}

-- the members of a list as alternatives
abbrev pub OneOf : {X : Type 0} → List X → X → Type 0
OneOf [] y = ⊥
OneOf (x ∷ xs) y = (x ≡ y) ⊎ OneOf xs y

pub each_of : {X : Type 0} (P : X → Type 0) (xs : List X) → AllByRecursion P xs → (y : X) → Contains xs y → P y
each_of P xs all y c = all_member P xs y all c

pub one_of : {X : Type 0} (xs : List X) (y : X) → Contains xs y → OneOf xs y
one_of [] y c = no_element c
one_of (x ∷ xs) y c = ⊎_elim inl (λ h. inr (one_of xs y h)) (contains_cases x xs y c)

pub value_at : (f g : Fact) (k : ℕ) → f ≡ g → slice_index_or f.row k [] ≡ slice_index_or g.row k []
value_at f g k e = ap (λ (x : Fact). slice_index_or x.row k []) e

pub byte_at : (v w : Value) (k : ℕ) → v ≡ w → slice_index_or v k 0 ≡ slice_index_or w k 0
byte_at v w k e = ap (λ (l : Value). slice_index_or l k 0) e

pub entry_no_profile : {X : Type 0} (e l e' o' l' : Value) → entry e l ≡ profile e' o' l' → X
entry_no_profile e l e' o' l' s = absurd (clash (ap (λ (f : Fact). f.rel) s))
  where
    clash : ◌≡◌ {A = ℕ} 1 0 → ⊥
    clash e = omega arith

profile_no_entry : {X : Type 0} (e o l e' l' : Value) → profile e o l ≡ entry e' l' → X
profile_no_entry e o l e' l' s = entry_no_profile e' l' e o l (sym s)

pub fits_profile : (e o l : Value) → FitsRelation staff 0 (e ∷ o ∷ l ∷ [])
fits_profile e o l = record { relation = profinfo; there = refl; width = refl }

pub fits_entry : (e l : Value) → FitsRelation staff 1 (e ∷ l ∷ [])
fits_entry e l = record { relation = udirect; there = refl; width = refl }

abbrev pub one : Value
one = codes "1"

abbrev pub two : Value
two = codes "2"

abbrev pub three : Value
three = codes "3"

abbrev four : Value
four = codes "4"

abbrev pub first_onum : Value
first_onum = codes "101"

abbrev pub third_onum : Value
third_onum = codes "103"

office_fits : IsInstance staff office
office_fits = each_of (λ f. FitsRelation staff f.rel f.row) office
    (fits_profile one first_onum smith, (fits_profile three third_onum smith, (fits_entry one smith, (fits_entry two jones, (fits_entry three smith, tt)))))

-- a profile of the office is in its directory
listed : (e o l : Value) → Contains office (profile e o l) → Contains office (entry e l)
listed e o l c =
    ⊎_elim (λ s. found one first_onum smith s (2, omega arith, refl)) (λ c. ⊎_elim (λ s. found three third_onum smith s (4, omega arith, refl))
    (λ c. ⊎_elim (λ s. entry_no_profile one smith e o l s) (λ c. ⊎_elim (λ s. entry_no_profile two jones e o l s) (λ c. ⊎_elim (λ s. entry_no_profile three smith e o l s) (λ c. absurd c) c) c) c) c)
    (one_of office (profile e o l) c)
  where
    found : (e' o' l' : Value) → profile e' o' l' ≡ profile e o l → Contains office (entry e' l') → Contains office (entry e l)
    found e' o' l' s there =
        subst (λ v. Contains office (entry v l)) (value_at (profile e' o' l') (profile e o l) 0 s) (subst (λ v. Contains office (entry e' v)) (value_at (profile e' o' l') (profile e o l) 2 s) there)

abbrev pub rule_atom : Atom
rule_atom = record { rel = 0; terms = Var 0 ∷ Var 1 ∷ Var 2 ∷ [] }

abbrev pub head_atom : Atom
head_atom = record { rel = 1; terms = Var 0 ∷ Var 2 ∷ [] }

-- facts in which each profile has its entry meet the rule
pub meets_by : (facts : List Fact) → ((e o l : Value) → Contains facts (profile e o l) → Contains facts (entry e l)) → Meets facts staff
meets_by facts has rule among = subst (λ r. (a : ℕ → Value) → AreFacts itself (FactsOf facts) a r.body → (b : ℕ → Value) × Extends itself (FactsOf facts) r a b) (contains_one in_directory rule among)
    (λ a body. (
      a,
      record {
        agrees = λ x occurs. refl;
        head = λ atom c. subst (λ (t : Atom). FactsOf facts t.rel (map (value_of itself a) t.terms)) (contains_one head_atom atom c) (has (a 0) (a 1) (a 2) (body rule_atom (contains_here rule_atom [])));
      },
    ))

pub office_is_a_model : IsModel staff office
office_is_a_model = record { fits = office_fits; meets = meets_by office listed }

abbrev IsNotFour : Value → Type 0
IsNotFour v = v ≡ four → ⊥

not_four : (v : Value) (first : ℕ) → slice_index_or v 0 0 ≡ first → (first ≡ 52 → ⊥) → IsNotFour v
not_four v first is differ e = differ (sym is ∙ byte_at v four 0 e)

one_not : IsNotFour one
one_not = not_four one 49 refl (λ e. omega arith)

two_not : IsNotFour two
two_not = not_four two 50 refl (λ e. omega arith)

three_not : IsNotFour three
three_not = not_four three 51 refl (λ e. omega arith)

first_onum_not : IsNotFour first_onum
first_onum_not = not_four first_onum 49 refl (λ e. omega arith)

third_onum_not : IsNotFour third_onum
third_onum_not = not_four third_onum 49 refl (λ e. omega arith)

smith_not : IsNotFour smith
smith_not = not_four smith 115 refl (λ e. omega arith)

jones_not : IsNotFour jones
jones_not = not_four jones 106 refl (λ e. omega arith)

-- no fact of the office has the number 4
no_four : (f : Fact) → Contains office f → Contains f.row four → ⊥
no_four f c i = each_of (λ (g : Fact). (v : Value) → Contains g.row v → IsNotFour v) office (
  each_of IsNotFour (one ∷ first_onum ∷ smith ∷ []) (one_not, (first_onum_not, (smith_not, tt))),
  (
    each_of IsNotFour (three ∷ third_onum ∷ smith ∷ []) (three_not, (third_onum_not, (smith_not, tt))),
    (
      each_of IsNotFour (one ∷ smith ∷ []) (one_not, (smith_not, tt)),
      (each_of IsNotFour (two ∷ jones ∷ []) (two_not, (jones_not, tt)), (each_of IsNotFour (three ∷ smith ∷ []) (three_not, (smith_not, tt)), tt)),
    ),
  ),
) f c four i refl

abbrev unlisted_profile : Fact
unlisted_profile = profile four (codes "104") smith

pub unlisted_breaks_the_rule : Meets unlisted staff → ⊥
unlisted_breaks_the_rule meets =
    let a : ℕ → Value = λ k. slice_index_or (four ∷ codes "104" ∷ smith ∷ []) k [] in
    let (b, ext) = meets in_directory (0, omega arith, refl) a (λ atom c. subst (λ (t : Atom). FactsOf unlisted t.rel (map (value_of itself a) t.terms)) (contains_one rule_atom atom c) (0, omega arith, refl)) in
    let holds : Contains unlisted (entry (b 0) (b 2)) = ext.head head_atom (contains_here head_atom []) in
    let is_four : b 0 ≡ four = ext.agrees 0 (rule_atom, contains_here rule_atom [], (0, omega arith, refl)) in
    ⊎_elim (λ s. profile_no_entry four (codes "104") smith (b 0) (b 2) s) (λ c. no_four (entry (b 0) (b 2)) c (subst (λ v. Contains (b 0 ∷ b 2 ∷ []) v) is_four (contains_here (b 0) (b 2 ∷ []))))
    (contains_cases unlisted_profile office (entry (b 0) (b 2)) holds)

pub profile_is_accessible : IsAccessible staff known office (profile one first_onum smith)
profile_is_accessible = (
  entry one smith ∷ [],
  (
    (0, omega arith, refl),
    record {
      method = prof_by_eid;
      of_schema = (0, omega arith, refl);
      of_relation = refl;
      inputs = λ p c. subst (λ q. (value : Value) × (slice_get (one ∷ first_onum ∷ smith ∷ []) q ≡ Some value) × IsKnown known (entry one smith ∷ []) value) (contains_one 0 p c)
          (one, refl, inr (entry one smith, contains_here (entry one smith) [], contains_here one (smith ∷ [])));
    },
    (
      (2, omega arith, refl),
      record { method = all_direct; of_schema = (1, omega arith, refl); of_relation = refl; inputs = λ p c. absurd (no_element c) },
      tt,
    ),
  ),
)

-- the two methods
pub methods_are : (P : Method → Type 0) → P prof_by_eid → P all_direct → (m : Method) → Contains staff.methods m → P m
methods_are P p q = each_of P staff.methods (p, (q, tt))

pub one_no_zero : {X : Type 0} → ◌≡◌ {A = ℕ} 1 0 → X
one_no_zero e = absurd (clash e)
  where
    clash : ◌≡◌ {A = ℕ} 1 0 → ⊥
    clash e = omega arith

-- a profile is accessed by its number, which is known
pub number_known : (constants : List Value) (earlier : List Fact) (e o l : Value) → CanAccess staff constants earlier (profile e o l) → IsKnown constants earlier e
number_known constants earlier e o l access =
    methods_are (λ m. m.rel ≡ 0 → ((p : ℕ) → Contains m.inputs p → (value : Value) × (slice_get (e ∷ o ∷ l ∷ []) p ≡ Some value) × IsKnown constants earlier value) → IsKnown constants earlier e)
    (λ r inputs. let (value, got, is) = inputs 0 (contains_here 0 []) in subst (λ v. IsKnown constants earlier v) (sym (some_injective e value got)) is)
    (λ r inputs. one_no_zero r) access.method access.of_schema access.of_relation access.inputs

pub unlisted_is_not_accessible : IsAccessible staff known unlisted unlisted_profile → ⊥
unlisted_is_not_accessible (earlier, path) =
    no_four unlisted_profile (accessible_closed staff known unlisted office closes (unlisted_profile ∷ earlier) path unlisted_profile (contains_here unlisted_profile earlier)) (0, omega arith, refl)
  where
    closes : (fact : Fact) → Contains unlisted fact → CanAccess staff known office fact → Contains office fact
    closes fact c = ⊎_elim (λ s. subst (λ f. CanAccess staff known office f → Contains office f) s
        (λ access. ⊎_elim (λ k. absurd (smith_not (contains_one smith four k))) (λ (f, d, i). absurd (no_four f d i)) (number_known known office four (codes "104") smith access)))
        (λ d access. d) (contains_cases unlisted_profile office fact c)

pub short_is_no_instance : IsInstance staff (record { rel = 0; row = one ∷ [] } ∷ []) → ⊥
short_is_no_instance fits =
    let its = fits (record { rel = 0; row = one ∷ [] }) (0, omega arith, refl) in
    let same : profinfo ≡ its.relation = some_injective profinfo its.relation its.there in
    let long : 1 ≡ length its.relation.columns = its.width in
    let three_columns : length profinfo.columns ≡ length its.relation.columns = ap (λ (r : Relation). length r.columns) same in
    let clash : ◌≡◌ {A = ℕ} 1 3 = long ∙ sym three_columns in omega arith
