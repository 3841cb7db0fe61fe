-- The worked example of the staff: the requests of its plan.
use Rattle.std.proofs.Common.{◌≡◌, ◌⊎◌, ℕ, zero, suc, ◌+◌, List, [], ◌∷◌, Some, refl, sym, ap, ◌∙◌, subst, inl, inr, ⊎_elim, arith}
use Rattle.std.specs.Prelude.{Contains, slice_get}
use Rattle.std.specs.List.{AllZip}
use Rattle.lists.proofs.Members.{contains_here, some_injective, contains_one}
use Rattle.meaning_laws.proofs.Example.{got_only}
use Rattle.meaning.specs.declared.types.Method.{Method}
use Rattle.meaning.specs.declared.types.Fact.{Fact}
use Rattle.meaning.specs.declared.types.Request.{Request}
use Rattle.meaning.specs.Values.{Value, Row}
use Rattle.meaning.specs.Rows.{Joins, LeadsTo}
use Rattle.std.specs.declared.cmp.Ordering.TheVariants.{Less}
use Rattle.meaning.specs.Requests.{rows_cmp, input_value, Wants, IsRound, AreRequests}
use Rattle.meaning_laws.specs.Staff.{prof_by_eid, all_direct, staff, smith, jones, profile, entry, office, ask_directory, ask_profile, smiths_plan, profile_request, directory_request, smiths_requests}
use Rattle.meaning_laws.proofs.StaffOffice.{OneOf, each_of, one_of, byte_at, one, two, three, first_onum, third_onum, one_no_zero}
use Rattle.meaning_laws.proofs.StaffPlans.{keyed_name, direct_name}

-- the requests
abbrev no_values : List ℕ → List Value → Type 0
no_values positions values = positions ≡ [] → values ≡ []

direct_round : IsRound staff office [] ask_directory (directory_request ∷ [])
direct_round = record {
  ascending = λ i first second g g'. let past : i + 1 ≡ 0 = (got_only directory_request second (i + 1) g').0 in absurd (omega arith);
  exactly = λ request. (
    (λ c. subst (λ r. Wants staff office [] ask_directory r) (contains_one directory_request request c) (record { row = []; method = all_direct; leads = refl; named = ((1, omega arith, refl), refl); of_relation = refl; positions = refl; values = tt })),
    (λ wants.
        let method : all_direct ≡ wants.method = direct_name wants.method wants.named in
        let rel : 1 ≡ request.rel = sym (wants.of_relation ∙ ap (λ (m : Method). m.rel) (sym method)) in
        let positions : [] ≡ request.positions = sym (wants.positions ∙ ap (λ (m : Method). m.inputs) (sym method)) in
        let values : [] ≡ request.values = sym (emptied wants.row request.positions request.values wants.values (sym positions)) in
        subst (λ r. Contains (directory_request ∷ []) r) (λ i. record { rel = rel i; positions = positions i; values = values i }) (contains_here directory_request [])),
  );
}
  where
    emptied : (row : Row) (ps : List ℕ) (vs : List Value) → AllZip (λ p value. input_value row (slice_get ask_directory.places p) ≡ Some value) ps vs → ps ≡ [] → vs ≡ []
    emptied row [] [] z e = refl
    emptied row [] (v ∷ vs) z e = absurd z
    emptied row (p ∷ ps) vs z e = absurd (cc)

-- the partial rows after the first step
after_directory : (next : Row) → LeadsTo staff office (ask_directory ∷ []) [] next → (next ≡ one ∷ []) ⊎ (next ≡ three ∷ [])
after_directory next (mid, step, e) =
    ⊎_elim (λ a. inl (e ∙ a)) (λ a. inr (e ∙ a)) (of_fact step.fact (step.of_relation ∙ ap (λ (m : Method). m.rel) (sym (direct_name step.method step.named))) (one_of office step.fact step.holds) step.joins)
  where
    entry_joins : (v w : Value) (f : Fact) → entry v w ≡ f → Joins ask_directory.places f.row [] mid → (mid ≡ v ∷ []) × (w ≡ smith)
    entry_joins v w f same joins = let its : Joins ask_directory.places (v ∷ w ∷ []) [] mid = subst (λ (g : Fact). Joins ask_directory.places g.row [] mid) (sym same) joins in (its.1, its.0)

    no_profile : {X : Type 0} (e o l : Value) (f : Fact) → profile e o l ≡ f → f.rel ≡ 1 → X
    no_profile e o l f same rel = one_no_zero (sym rel ∙ ap (λ (g : Fact). g.rel) (sym same))

    of_fact : (f : Fact) → f.rel ≡ 1 → OneOf office f → Joins ask_directory.places f.row [] mid → (mid ≡ one ∷ []) ⊎ (mid ≡ three ∷ [])
    of_fact f rel among joins =
        ⊎_elim (λ s. no_profile one first_onum smith f s rel) (λ c. ⊎_elim (λ s. no_profile three third_onum smith f s rel) (λ c. ⊎_elim (λ s. inl (entry_joins one smith f s joins).0)
        (λ c. ⊎_elim (λ s. absurd (clash (byte_at jones smith 0 (entry_joins two jones f s joins).1))) (λ c. ⊎_elim (λ s. inr (entry_joins three smith f s joins).0) (λ c. absurd c) c) c) c) c) among
      where
        clash : ◌≡◌ {A = ℕ} 106 115 → ⊥
        clash e = omega arith

directory_leads : (v w : Value) → Contains office (entry v smith) → LeadsTo staff office (ask_directory ∷ []) [] (v ∷ [])
directory_leads v w holds = (v ∷ [], record { method = all_direct; fact = entry v smith; named = ((1, omega arith, refl), refl); of_relation = refl; holds = holds; joins = (refl, refl) }, refl)

wants_profile : (v : Value) → Contains office (entry v smith) → Wants staff office (ask_directory ∷ []) ask_profile (profile_request v)
wants_profile v holds = record { row = v ∷ []; method = prof_by_eid; leads = directory_leads v smith holds; named = ((0, omega arith, refl), refl); of_relation = refl; positions = refl; values = (refl, tt) }

profile_round : IsRound staff office (ask_directory ∷ []) ask_profile (profile_request one ∷ profile_request three ∷ [])
profile_round = record {
  ascending = ascends;
  exactly = λ request. (
    (λ c. each_of (λ r. Wants staff office (ask_directory ∷ []) ask_profile r) (profile_request one ∷ profile_request three ∷ []) (wants_profile one (2, omega arith, refl), (wants_profile three (4, omega arith, refl), tt)) request c),
    (λ wants.
        let method : prof_by_eid ≡ wants.method = keyed_name wants.method wants.named in
        let rel : 0 ≡ request.rel = sym (wants.of_relation ∙ ap (λ (m : Method). m.rel) (sym method)) in
        let positions : 0 ∷ [] ≡ request.positions = sym (wants.positions ∙ ap (λ (m : Method). m.inputs) (sym method)) in
        ⊎_elim (λ row. asked request rel positions one wants.row row wants.values (0, omega arith, refl)) (λ row. asked request rel positions three wants.row row wants.values (1, omega arith, refl)) (after_directory wants.row wants.leads)),
  );
}
  where
    ascends : (i : ℕ) (first second : Request) → slice_get (profile_request one ∷ profile_request three ∷ []) i ≡ Some first → slice_get (profile_request one ∷ profile_request three ∷ []) (i + 1) ≡ Some second → rows_cmp first.values second.values ≡ Less
    ascends zero first second g g' = subst (λ (r : Request). rows_cmp r.values second.values ≡ Less) (some_injective (profile_request one) first g) (subst (λ (r : Request). rows_cmp (one ∷ []) r.values ≡ Less) (some_injective (profile_request three) second g') refl)
    ascends (suc i) first second g g' = let e : suc i + 1 ≡ suc (i + 1) = omega arith in
        let past : i + 1 ≡ 0 = (got_only (profile_request three) second (i + 1) (subst (λ n. slice_get (profile_request one ∷ profile_request three ∷ []) n ≡ Some second) e g')).0 in absurd (omega arith)

    values_are : (v : Value) (row : Row) (ps : List ℕ) (vs : List Value) → row ≡ v ∷ [] → 0 ∷ [] ≡ ps → AllZip (λ p value. input_value row (slice_get ask_profile.places p) ≡ Some value) ps vs → v ∷ [] ≡ vs
    values_are v row ps vs is positions z = go vs (subst (λ r. AllZip (λ p value. input_value r (slice_get ask_profile.places p) ≡ Some value) (0 ∷ []) vs) is (subst (λ qs. AllZip (λ p value. input_value row (slice_get ask_profile.places p) ≡ Some value) qs vs) (sym positions) z))
      where
        go : (vs : List Value) → AllZip (λ p value. input_value (v ∷ []) (slice_get ask_profile.places p) ≡ Some value) (0 ∷ []) vs → v ∷ [] ≡ vs
        go [] z = absurd z
        go (w ∷ []) (e, z) = ap (λ u. u ∷ []) (some_injective v w e)
        go (w ∷ u ∷ vs) (e, z) = absurd z

    asked : (request : Request) → 0 ≡ request.rel → 0 ∷ [] ≡ request.positions → (v : Value) (row : Row) → row ≡ v ∷ [] → AllZip (λ p value. input_value row (slice_get ask_profile.places p) ≡ Some value) request.positions request.values → Contains (profile_request one ∷ profile_request three ∷ []) (profile_request v) → Contains (profile_request one ∷ profile_request three ∷ []) request
    asked request rel positions v row is values c =
        let vs : v ∷ [] ≡ request.values = values_are v row request.positions request.values is positions values in
        subst (λ r. Contains (profile_request one ∷ profile_request three ∷ []) r) (λ i. record { rel = rel i; positions = positions i; values = vs i }) c

pub smiths_plan_asks_three : AreRequests staff smiths_plan office smiths_requests
smiths_plan_asks_three = (
  smiths_requests,
  [],
  refl,
  (directory_request ∷ [], profile_request one ∷ profile_request three ∷ [], refl, direct_round, (profile_request one ∷ profile_request three ∷ [], [], refl, profile_round, refl)),
  refl,
)

-- a request that stands out of order, or twice
pub profile_before_is_no_round : IsRound staff office (ask_directory ∷ []) ask_profile (profile_request three ∷ profile_request one ∷ []) → ⊥
profile_before_is_no_round round = let less : rows_cmp (three ∷ []) (one ∷ []) ≡ Less = round.ascending 0 (profile_request three) (profile_request one) refl refl in absurd (cc)

pub profile_twice_is_no_round : IsRound staff office (ask_directory ∷ []) ask_profile (profile_request one ∷ profile_request one ∷ profile_request three ∷ []) → ⊥
profile_twice_is_no_round round = let less : rows_cmp (one ∷ []) (one ∷ []) ≡ Less = round.ascending 0 (profile_request one) (profile_request one) refl refl in absurd (cc)

pub profiles_are_a_round : IsRound staff office (ask_directory ∷ []) ask_profile (profile_request one ∷ profile_request three ∷ [])
profiles_are_a_round = profile_round
