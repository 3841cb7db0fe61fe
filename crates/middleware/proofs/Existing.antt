-- Each round has its list of requests, and so have steps and branches, whatever the instance.
use Rattle.std.proofs.Common.{◌≡◌, ◌⊎◌, ◌↔◌, inl, inr, ⊎_elim, ℕ, suc, List, [], ◌∷◌, ◌++◌, map, take, Some, refl, sym, ◌∙◌, ap, subst, append_assoc}
use Rattle.std.specs.Prelude.{Contains, slice_get}
use Rattle.std.specs.List.Sorted.{IsStrictlySortedBy}
use Rattle.std.specs.Ordering.{ordering_reverse}
use Rattle.std.specs.declared.cmp.Ordering.{Ordering}
use Rattle.std.specs.declared.cmp.Ordering.TheVariants.{Less, Equal, Greater}
use Rattle.std.proofs.lemmas.List.{append-nil}
use Rattle.lists.proofs.Members.{contains_here, contains_there, contains_cases, contains_none, all_member, all_from}
use Rattle.meaning.specs.declared.types.Fact.{Fact}
use Rattle.meaning.specs.declared.types.SchemaParts.{SchemaParts}
use Rattle.meaning.specs.declared.types.Place.{Place}
use Rattle.meaning.specs.declared.types.Step.{Step}
use Rattle.meaning.specs.declared.types.Branch.{Branch}
use Rattle.meaning.specs.declared.types.Request.{Request}
use Rattle.meaning.specs.Plans.{IsWellFormed}
use Rattle.meaning.specs.Requests.{AreStepsRequests, AreBranchesRequests}
use Rattle.source_trait.specs.Asking.{RowList}
use Rattle.row_text.specs.RowText.{row_cmp}
use Rattle.lists.proofs.Orders.{rows_equal, rows_total}
use Rattle.middleware.specs.Joining.{input_row_of}
use Rattle.middleware.specs.Rounds.{requests_of, IsWanted, next_rows}
use Rattle.middleware.specs.Branches.{columns_after, IsReady, AreReady, ArePartial}
use Rattle.middleware.proofs.Steps.{next_partial, is_round}

-- a strictly ascending list with one row more
record Put (x : List (List ℕ)) (ys zs : RowList) : Type 0 where
  ascends : IsStrictlySortedBy row_cmp zs
  same : (r : List (List ℕ)) → Contains zs r ↔ ((x ≡ r) ⊎ Contains ys r)

put : (x : List (List ℕ)) (ys : RowList) → IsStrictlySortedBy row_cmp ys → (zs : RowList) × Put x ys zs
unfolding IsStrictlySortedBy
put x [] s = (x ∷ [], record { ascends = (tt, tt); same = λ r. ((λ c. contains_cases x [] r c), (λ h. ⊎_elim (λ e. subst (λ z. Contains (x ∷ []) z) e (contains_here x [])) (λ c. absurd (contains_none r c)) h)) })
put x (y ∷ ys) s = go (row_cmp x y) refl (put x ys s.1)
  where
    go : (o : Ordering) → row_cmp x y ≡ o → (zs : RowList) × Put x ys zs → (zs : RowList) × Put x (y ∷ ys) zs
    go Less is rec = (
      x ∷ y ∷ ys,
      record {
        ascends = ((is, all_from (λ z. row_cmp x z ≡ Less) ys (λ z c. rows_total.trans x y z is (all_member (λ z. row_cmp y z ≡ Less) ys z s.0 c))), s);
        same = λ r. ((λ c. contains_cases x (y ∷ ys) r c), (λ h. ⊎_elim (λ e. subst (λ z. Contains (x ∷ y ∷ ys) z) e (contains_here x (y ∷ ys))) (λ c. contains_there x (y ∷ ys) r c) h));
      },
    )
    go Equal is rec = let e : x ≡ y = rows_equal x y is in (
      y ∷ ys,
      record {
        ascends = s;
        same = λ r. ((λ c. inr c), (λ h. ⊎_elim (λ f. subst (λ z. Contains (y ∷ ys) z) (sym e ∙ f) (contains_here y ys)) (λ c. c) h));
      },
    )
    go Greater is (zs, rec) =
        let less : row_cmp y x ≡ Less = rows_total.antisymm y x ∙ ap ordering_reverse is in (
          y ∷ zs,
          record {
            ascends = (all_from (λ z. row_cmp y z ≡ Less) zs (λ z c. ⊎_elim (λ e. subst (λ w. row_cmp y w ≡ Less) e less) (λ d. all_member (λ w. row_cmp y w ≡ Less) ys z s.0 d) ((rec.same z).0 c)), rec.ascends);
            same = λ r. (
              (λ c. elim (contains_cases y zs r c) [
                | inl here ↦ inr (subst (λ z. Contains (y ∷ ys) z) here (contains_here y ys))
                | inr there ↦ ⊎_elim (λ e. inl e) (λ d. inr (contains_there y ys r d)) ((rec.same r).0 there)
              ]),
              (λ h. ⊎_elim (λ e. contains_there y zs r ((rec.same r).1 (inl e))) (λ c. elim (contains_cases y ys r c) [
                | inl here ↦ subst (λ z. Contains (y ∷ zs) z) here (contains_here y zs)
                | inr there ↦ contains_there y zs r ((rec.same r).1 (inr there))
              ]) h),
            );
          },
        )

ascending : (xs : RowList) → (ys : RowList) × IsStrictlySortedBy row_cmp ys × ((r : List (List ℕ)) → Contains ys r ↔ Contains xs r)
unfolding IsStrictlySortedBy
ascending [] = ([], tt, λ r. ((λ c. c), (λ c. c)))
ascending (x ∷ xs) =
    let (ys, s, same) = ascending xs in
    let (zs, more) = put x ys s in (
      zs,
      more.ascends,
      λ r. (
        (λ c. ⊎_elim (λ e. subst (λ z. Contains (x ∷ xs) z) e (contains_here x xs)) (λ d. contains_there x xs r ((same r).0 d)) ((more.same r).0 c)),
        (λ c. elim (contains_cases x xs r c) [
          | inl here ↦ (more.same r).1 (inl here)
          | inr there ↦ (more.same r).1 (inr ((same r).1 there))
        ]),
      ),
    )

-- the input rows of partial rows, put in order
pub wanted_exists : (places : List Place) (inputs : List ℕ) (rows : RowList) → (list : RowList) × IsWanted places inputs rows list
wanted_exists places inputs rows =
    let (list, s, same) = ascending (map (input_row_of places inputs) rows) in
    (list, record { ascends = s; same = same })

module _ (schema : SchemaParts) (well : IsWellFormed schema) (facts : List Fact) where
  -- steps have requests, whatever comes before them
  steps_from : (before steps : List Step) (rows : RowList) → ArePartial schema facts before rows → ((i : ℕ) (step : Step) → slice_get steps i ≡ Some step → IsReady schema (columns_after 0 (before ++ take i steps)) step)
      → (list : List Request) × AreStepsRequests schema facts before steps list
  steps_from before [] rows partial ready = ([], refl)
  steps_from before (step ∷ steps) rows partial ready =
      let here : IsReady schema (columns_after 0 before) step = subst (λ (l : List Step). IsReady schema (columns_after 0 l) step) (append-nil before) (ready 0 step refl) in
      let (list, wanted) = wanted_exists step.places here.method.inputs rows in
      let round = is_round schema well facts before step here.method here.named here.inputs rows list partial wanted in
      let next = next_partial schema well facts before step here.method here.named here.inputs rows (next_rows step.places here.method facts rows) partial (λ row. ((λ c. c), (λ c. c))) in
      let (later, rest) = steps_from (before ++ step ∷ []) steps (next_rows step.places here.method facts rows) next
      (λ i s e. subst (λ (l : List Step). IsReady schema (columns_after 0 l) s) (sym (append_assoc before (step ∷ []) (take i steps))) (ready (suc i) s e)) in
      (requests_of here.method.rel here.method.inputs list ++ later, (requests_of here.method.rel here.method.inputs list, later, refl, round, rest))

  -- before the first step there is the empty partial row
  pub first_partial : ArePartial schema facts [] ([] ∷ [])
  first_partial row = (
    (λ c. ⊎_elim (λ e. sym e) (λ d. absurd (contains_none row d)) (contains_cases [] [] row c)),
    (λ e. subst (λ (r : List (List ℕ)). Contains ([] ∷ []) r) (sym e) (contains_here [] [])),
  )

  pub steps_exist : (steps : List Step) → AreReady schema steps → (list : List Request) × AreStepsRequests schema facts [] steps list
  steps_exist steps ready = steps_from [] steps ([] ∷ []) first_partial ready

  pub branches_exist : (branches : List Branch) → ((branch : Branch) → Contains branches branch → AreReady schema branch.steps) → (list : List Request) × AreBranchesRequests schema facts branches list
  branches_exist [] ready = ([], refl)
  branches_exist (branch ∷ branches) ready =
      let (now, here) = steps_exist branch.steps (ready branch (contains_here branch branches)) in
      let (later, rest) = branches_exist branches (λ b c. ready b (contains_there branch branches b c)) in
      (now ++ later, (now, later, refl, here, rest))

  pub branches_append : (first second : List Branch) (a b : List Request) → AreBranchesRequests schema facts first a → AreBranchesRequests schema facts second b → AreBranchesRequests schema facts (first ++ second) (a ++ b)
  branches_append [] second a b e rest = subst (λ (l : List Request). AreBranchesRequests schema facts second (l ++ b)) (sym e) rest
  branches_append (branch ∷ first) second a b (now, later, e, this, more) rest =
      (now, later ++ b, ap (λ (l : List Request). l ++ b) e ∙ append_assoc now later b, this, branches_append first second later b more rest)

  pub branches_one : (branch : Branch) (now : List Request) → AreStepsRequests schema facts [] branch.steps now → AreBranchesRequests schema facts (branch ∷ []) now
  branches_one branch now are = (now, [], sym (append-nil now), are, refl)
