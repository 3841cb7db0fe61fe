-- What a source picks for a request is what the request receives.
use Rattle.std.proofs.Common.{◌≡◌, ◌↔◌, ◌∙◌, ℕ, Bool, true, ◌&&◌, List, [], ◌∷◌, length, Option, Some, None, refl, ap, subst, arith}
use Rattle.std.specs.Prelude.{Contains, slice_get, nat_eq}
use Rattle.std.specs.List.{AllZip, filter}
use Rattle.std.specs.Cmp.Lexicographic.{pointwise, bytes_decides}
use Rattle.std.proofs.lemmas.Bool.{and_parts, eqb-true}
use Rattle.std.proofs.lemmas.Cmp.{nat_list_eq_equiv, nat_eq_equiv}
use Rattle.lists.proofs.Members.{contains_map, contains_mapped, contains_filter, filter_from}
use Rattle.meaning.specs.declared.types.Fact.{Fact}
use Rattle.meaning.specs.declared.types.Request.{Request}
use Rattle.meaning.specs.Crawls.{IsPicked}
use Rattle.source_trait.specs.Asking.{agrees, pick}

agrees_zip : (ps : List ℕ) (vs row : List (List ℕ)) → length vs ≡ length ps → agrees ps vs row ≡ true → AllZip (λ p value. slice_get row p ≡ Some value) ps vs
agrees_zip [] [] row long same = tt
agrees_zip [] (v ∷ vs) row long same = absurd (omega (arith, long))
agrees_zip (p ∷ ps) [] row long same = absurd (cc)
agrees_zip (p ∷ ps) (v ∷ vs) row long same = by (slice_get row p) refl (agrees_zip ps vs row (omega (arith, long)))
  where
    by : (o : Option (List ℕ)) → slice_get row p ≡ o → (agrees ps vs row ≡ true → AllZip (λ p value. slice_get row p ≡ Some value) ps vs) → AllZip (λ p value. slice_get row p ≡ Some value) (p ∷ ps) (v ∷ vs)
    by None e later = let same2 = rw e at same in absurd (cc)
    by (Some w) e later =
        let same2 = rw e at same in
        let both = and_parts (pointwise nat_eq w v) (agrees ps vs row) same2 in
        let is : w ≡ v = (bytes_decides w v).0 both.0 in
        (e ∙ ap (λ x. Some x) is, later both.1)

zip_agrees : (ps : List ℕ) (vs row : List (List ℕ)) → AllZip (λ p value. slice_get row p ≡ Some value) ps vs → agrees ps vs row ≡ true
zip_agrees [] vs row z = refl
zip_agrees (p ∷ ps) [] row z = absurd z
zip_agrees (p ∷ ps) (v ∷ vs) row (got, z) =
    let rest = zip_agrees ps vs row z in
    let same = nat_list_eq_equiv.refl v in
    rw got (rw same rest)

pub pick_is : (facts : List Fact) (request : Request) → length request.values ≡ length request.positions → (row : List (List ℕ)) → Contains (pick facts request.rel request.positions request.values) row ↔ IsPicked facts request (record { rel = request.rel; row = row })
pick_is facts request long row = (
  (λ c.
      let (fact, among, e) = contains_mapped (λ (f : Fact). f.row) (filter test facts) row c in
      let (holds, same) = filter_from test facts fact among in
      let (of_rel, has) = and_parts (nat_eq fact.rel request.rel) (agrees request.positions request.values fact.row) same in
      let rel : fact.rel ≡ request.rel = eqb-true fact.rel request.rel of_rel in
      record {
        holds = subst (Contains facts) (λ i. record { rel = rel i; row = e i }) holds;
        of_relation = refl;
        agrees = agrees_zip request.positions request.values row long (subst (λ r. agrees request.positions request.values r ≡ true) e has);
      }),
  (λ picked.
      let has = zip_agrees request.positions request.values row picked.agrees in
      let same = nat_eq_equiv.refl request.rel in
      contains_map (λ (f : Fact). f.row) (filter test facts) (record { rel = request.rel; row = row }) (contains_filter test facts (record { rel = request.rel; row = row }) picked.holds (rw same has))),
)
  where
    test : Fact → Bool
    test f = nat_eq f.rel request.rel && agrees request.positions request.values f.row
