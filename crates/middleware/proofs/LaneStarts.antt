-- Lanes as a round begins, and lanes that have no request.
use Rattle.std.proofs.Common.{◌≡◌, ◌<◌, ◌≤◌, ◌+◌, ℕ, zero, suc, List, [], ◌∷◌, ◌++◌, length, map, get_or, refl, sym, ◌∙◌, ap, subst, arith}
use Rattle.std.specs.Prelude.{slice_set, All}
use Rattle.lane_pool.specs.Numbers.{total, times, AllAscend}
use Rattle.lane_pool.specs.Work.{AllReady, AllWorked, FansOut}
use Rattle.source_trait.specs.Asking.{Seen}
use Rattle.source_trait.specs.Works.{MayAsk}
use Rattle.source_trait.specs.declared.lanes.Lane.{Lane}
use Rattle.source_trait.specs.declared.work.Ask.{Ask}
use Rattle.middleware.specs.LaneRounds.{started}

-- the first n lanes are started
abbrev pub started_to : {S : Type 0} → ℕ → List (Lane S) → List (Lane S)
started_to n [] = []
started_to zero (lane ∷ lanes) = lane ∷ lanes
started_to (suc n) (lane ∷ lanes) = started lane ∷ started_to n lanes

module _ {W I A : Type 0} (did : W → I → A → W → Type 0) (items : List I) (answers : List A) where
  abbrev no_numbers : List W → List (List ℕ)
  no_numbers ws = map (λ (w : W). []) ws

  with_idle : (f : List ℕ → ℕ) → f [] ≡ 0 → (lists : List (List ℕ)) (idle : List W) → total f (lists ++ no_numbers idle) ≡ total f lists
  with_idle f empty [] [] = refl
  with_idle f empty [] (w ∷ idle) = let rest = with_idle f empty [] idle in omega arith
  with_idle f empty (l ∷ lists) idle = ap (λ n. f l + n) (with_idle f empty lists idle)

  idle_ascend : (lists : List (List ℕ)) (idle : List W) → AllAscend lists → AllAscend (lists ++ no_numbers idle)
  idle_ascend [] [] up = tt
  idle_ascend [] (w ∷ idle) up = ((λ k less. absurd (omega arith)), idle_ascend [] idle tt)
  idle_ascend (l ∷ lists) idle up = (up.0, idle_ascend lists idle up.1)

  idle_worked : (lists : List (List ℕ)) (ws us idle : List W) → AllWorked did items answers lists ws us
      → AllWorked did items answers (lists ++ no_numbers idle) (ws ++ idle) (us ++ idle)
  idle_worked [] [] [] [] all = tt
  idle_worked [] [] [] (w ∷ idle) all = (refl, idle_worked [] [] [] idle tt)
  idle_worked [] [] (u ∷ us) idle all = absurd all
  idle_worked [] (w ∷ ws) us idle all = absurd all
  idle_worked (l ∷ ls) [] us idle all = absurd all
  idle_worked (l ∷ ls) (w ∷ ws) [] idle all = absurd all
  idle_worked (l ∷ ls) (w ∷ ws) (u ∷ us) idle all = (all.0, idle_worked ls ws us idle all.1)

  -- workers that draw nothing change nothing
  pub idle_too : (ws us idle : List W) → FansOut did items answers ws us → FansOut did items answers (ws ++ idle) (us ++ idle)
  idle_too ws us idle fanned = record {
    len = fanned.len;
    lists = fanned.lists ++ no_numbers idle;
    ascend = idle_ascend fanned.lists idle fanned.ascend;
    once = (
      with_idle length refl fanned.lists idle ∙ fanned.once.0,
      (λ k less. with_idle (times k) refl fanned.lists idle ∙ fanned.once.1 k less),
      (λ k far. with_idle (times k) refl fanned.lists idle ∙ fanned.once.2 k far),
    );
    worked = idle_worked fanned.lists ws us idle fanned.worked;
  }

  -- where there is no item, no worker works
  pub none_worked : (ws : List W) → items ≡ [] → answers ≡ [] → FansOut did items answers ws ws
  none_worked ws no_item no_answer = idle_too [] [] ws (record {
    len = ap length no_answer ∙ sym (ap length no_item);
    lists = [];
    ascend = tt;
    once = (sym (ap length no_item), (λ k less. absurd (let e = ap length no_item in omega arith)), (λ k far. refl));
    worked = tt;
  })

all_first : {X : Type 0} (P : X → Type 0) (x : X) (xs : List X) → P x → All P xs → All P (x ∷ xs)
all_first P x xs first rest zero d less = first
all_first P x xs first rest (suc k) d less = rest k d (omega arith)

all_rest : {X : Type 0} (P : X → Type 0) (x : X) (xs : List X) → All P (x ∷ xs) → All P xs
all_rest P x xs all k d less = all (suc k) d (omega arith)

module _ {S : Type 0} (seen : S → Seen) (asks : List Ask) where
  -- the first of the started lanes may be asked what the lanes may be asked
  pub used_ready : (lanes used idle : List (Lane S)) → used ++ idle ≡ map started lanes → AllReady (MayAsk seen) asks lanes
      → AllReady (MayAsk seen) asks used
  used_ready lanes [] idle is ready = λ k d less. absurd (omega arith)
  used_ready [] (u ∷ used) idle is ready = absurd (cc)
  used_ready (lane ∷ lanes) (u ∷ used) idle is ready =
      let first : u ≡ started lane = cc in
      let rest : used ++ idle ≡ map started lanes = cc in
      all_first (λ (w : Lane S). All (MayAsk seen w) asks) u used
      (subst (λ (w : Lane S). All (MayAsk seen w) asks) (sym first) (ready 0 lane (omega arith)))
      (used_ready lanes used idle rest (all_rest (λ (w : Lane S). All (MayAsk seen w) asks) lane lanes ready))

-- ---- the loop that starts the lanes

module _ {S : Type 0} where
  pub none_started : (lanes : List (Lane S)) → started_to 0 lanes ≡ lanes
  none_started [] = refl
  none_started (lane ∷ lanes) = refl

  one_more : (n : ℕ) (lanes : List (Lane S)) (d : Lane S) → n < length (started_to n lanes)
      → slice_set (started_to n lanes) n (started (get_or (started_to n lanes) n d)) ≡ started_to (n + 1) lanes
  one_more n [] d less = absurd (omega arith)
  one_more zero (lane ∷ lanes) d less = ap (λ (l : List (Lane S)). started lane ∷ l) (sym (none_started lanes))
  one_more (suc n) (lane ∷ lanes) d less =
      let more : suc (n + 1) ≡ suc n + 1 = omega arith in
      let rest = one_more n lanes d (omega arith) in
      subst (λ m. slice_set (started_to (suc n) (lane ∷ lanes)) (suc n) (started (get_or (started_to (suc n) (lane ∷ lanes)) (suc n) d))
      ≡ started_to m (lane ∷ lanes)) more (ap (λ (l : List (Lane S)). started lane ∷ l) rest)

  -- one lane more is started
  pub one_started : (n : ℕ) (old now : List (Lane S)) (d : Lane S) → now ≡ started_to n old → n < length now
      → slice_set now n (started (get_or now n d)) ≡ started_to (n + 1) old
  one_started n old now d is less =
      subst (λ (l : List (Lane S)). slice_set l n (started (get_or l n d)) ≡ started_to (n + 1) old) (sym is)
      (one_more n old d (subst (λ (l : List (Lane S)). n < length l) is less))

  pub all_started : (n : ℕ) (lanes : List (Lane S)) → length lanes ≤ n → started_to n lanes ≡ map started lanes
  all_started n [] past = refl
  all_started zero (lane ∷ lanes) past = absurd (omega arith)
  all_started (suc n) (lane ∷ lanes) past = ap (λ (l : List (Lane S)). started lane ∷ l) (all_started n lanes (omega arith))
