-- What moves pay for cuts, and what is still to be paid at a set.
use Rattle.std.proofs.Common.{◌≡◌, ◌⊎◌, ℕ, zero, suc, ◌+◌, ◌<◌, ◌≤◌, List, [], ◌∷◌, ◌++◌, length, Bool, true, false, Some, refl, sym, ap, ◌∙◌, subst, inl, inr, ⊎_elim, arith, length-set}
use Rattle.std.specs.Prelude.{Contains, ◌&&◌, map, slice_set, slice_get, slice_index_or, if◌then◌else◌, Option, None, IfSome}
use Rattle.std.proofs.lemmas.List.Elements.{Contains-push_cases}
use Rattle.std.proofs.lemmas.Bool.{cases_Bool, cases_eq}
use Rattle.lists.proofs.Members.{contains_here, contains_there, contains_cases, contains_map, contains_mapped}
use Rattle.least_search.specs.declared.space.Move.{Move}
use Rattle.least_search.specs.declared.cuts.Cut.{Cut}
use Rattle.least_search.specs.declared.residues.Residue.{Residue}
use Rattle.least_search.specs.declared.side.Side.{Side}
use Rattle.least_search.specs.Walks.{IsWalk, walk_cost, no_facts, with_fact, IsSubset, IsSpace, GoalsGrow, CanGain}
use Rattle.least_search.specs.Costs.{IsLeastCost}
use Rattle.least_search.specs.Cuts.{CanPay, AreCuts, holding, is_within, rest, rest_of}
use Rattle.least_search.proofs.Sets.{none_length}
use Rattle.least_search.proofs.Searched.{IsGuide}
use Rattle.least_search.specs.Sides.{IsNearSide, HaveLeft, LeastOf, HasPaid, HavePaid, HasPaidFor, AreResidues, no_residue, whole}

-- two moves are the same or not
abbrev move_of : ℕ → ℕ → ℕ → Move
move_of fact method cost = record { fact = fact; method = method; cost = cost }

same_move : (a b : Move) → a.fact ≡ b.fact → a.method ≡ b.method → a.cost ≡ b.cost → a ≡ b
same_move a b f m c = let e : move_of a.fact a.method a.cost ≡ move_of b.fact b.method b.cost = cc in e

move_or_not : (a b : Move) → (a ≡ b) ⊎ (a ≡ b → ⊥)
move_or_not a b =
    ⊎_elim (λ f. ⊎_elim (λ m. ⊎_elim (λ c. inl (same_move a b f m c)) (λ ne. inr (λ e. ne (ap (λ (x : Move). x.cost) e))) (cases_eq a.cost b.cost))
    (λ ne. inr (λ e. ne (ap (λ (x : Move). x.method) e))) (cases_eq a.method b.method))
    (λ ne. inr (λ e. ne (ap (λ (x : Move). x.fact) e))) (cases_eq a.fact b.fact)

HasStep : List Residue → Move → Type 0
HasStep residues move = (residue : Residue) × Contains residues residue × (residue.step ≡ move)

step_or_not : (residues : List Residue) (move : Move) → HasStep residues move ⊎ (HasStep residues move → ⊥)
unfolding HasStep
step_or_not [] move = inr (λ (residue, there, same). absurd (omega arith))
step_or_not (first ∷ residues) move =
    ⊎_elim (λ same. inl (first, contains_here first residues, same))
    (λ other. ⊎_elim (λ (residue, there, same). inl (residue, contains_there first residues residue there, same))
    (λ none. inr (λ (residue, there, same). ⊎_elim (λ e. other (ap (λ (r : Residue). r.step) e ∙ same)) (λ later. none (residue, later, same)) (contains_cases first residues residue there)))
    (step_or_not residues move))
    (move_or_not first.step move)

module _ (CanMove : List Bool → Move → Type 0) where
  -- with more a move can pay too
  pub pay_more : (cuts : List Cut) (move : Move) (few many : ℕ) → few ≤ many → CanPay CanMove cuts move few → CanPay CanMove cuts move many
  pay_more [] move few many low pays = tt
  pay_more (cut ∷ cuts) move few many low (inl (less, sum, pays)) = inl (less, omega arith, pays)
  pay_more (cut ∷ cuts) move few many low (inr (none, pays)) = inr (none, pay_more cuts move few many low pays)

  -- a move that is possible nowhere pays nothing
  pub pay_none : (cuts : List Cut) (move : Move) (left : ℕ) → ((set : List Bool) → CanMove set move → ⊥) → CanPay CanMove cuts move left
  pay_none [] move left none = tt
  pay_none (cut ∷ cuts) move left none = inr (none cut.set.items, pay_none cuts move left none)

  -- for one more cut a move pays its weight more, where it is possible there
  pub pay_push : (cuts : List Cut) (cut : Cut) (move : Move) (paid more : ℕ) → CanPay CanMove cuts move paid →
      (cut.weight ≤ more) ⊎ (CanMove cut.set.items move → ⊥) → CanPay CanMove (cuts ++ cut ∷ []) move (paid + more)
  pay_push [] cut move paid more pays (inl low) = inl (paid, omega arith, tt)
  pay_push [] cut move paid more pays (inr none) = inr (none, tt)
  pay_push (first ∷ cuts) cut move paid more (inl (less, sum, pays)) how = inl (less + more, omega arith, pay_push cuts cut move less more pays how)
  pay_push (first ∷ cuts) cut move paid more (inr (none, pays)) how = inr (none, pay_push cuts cut move paid more pays how)

  -- what one move has paid after one more cut
  paid_more : (cuts : List Cut) (cut : Cut) (before after : Residue) → HasPaidFor CanMove cuts before → HasPaid CanMove cut.set.items cut.weight before after →
      HasPaidFor CanMove (cuts ++ cut ∷ []) after
  paid_more cuts cut before after (paid, sum, pays) has =
      let step : after.step ≡ before.step = has.step in
      let cost : after.step.cost ≡ before.step.cost = ap (λ (m : Move). m.cost) step in
      ⊎_elim
      (λ less. (paid + cut.weight, omega arith, subst (λ (m : Move). CanPay CanMove (cuts ++ cut ∷ []) m (paid + cut.weight)) (sym step) (pay_push cuts cut before.step paid cut.weight pays (inl (omega arith)))))
      (λ (none, same). (
        paid,
        omega arith,
        subst (λ (m : Move). CanPay CanMove (cuts ++ cut ∷ []) m paid) (sym step)
            (subst (λ k. CanPay CanMove (cuts ++ cut ∷ []) before.step k) (let e : paid + 0 ≡ paid = omega arith in e) (pay_push cuts cut before.step paid 0 pays (inr none))),
      )) has.left

  -- the moves paid for one more cut
  pub residues_more : (cuts : List Cut) (cut : Cut) (before after : List Residue) → AreResidues CanMove cuts before → HavePaid CanMove cut.set.items cut.weight before after →
      AreResidues CanMove (cuts ++ cut ∷ []) after
  residues_more cuts cut before after are have =
      record {
        all = λ set move can.
            let (residue, (k, low, at), same) = are.all set move can in
            let at' : slice_index_or before k no_residue ≡ residue = read before k residue low at in
            (slice_index_or after k no_residue, in_list after k (let len : length after ≡ length before = have.same in omega arith), (have.each k low).step ∙ ap (λ (r : Residue). r.step) at' ∙ same);
        paid = λ residue (k, low, at).
            let len : length after ≡ length before = have.same in
            let low' : k < length before = omega arith in
            subst (λ (r : Residue). HasPaidFor CanMove (cuts ++ cut ∷ []) r) (read after k residue low at)
            (paid_more cuts cut (slice_index_or before k no_residue) (slice_index_or after k no_residue) (are.paid (slice_index_or before k no_residue) (in_list before k low')) (have.each k low'));
      }
    where
      read : (xs : List Residue) (k : ℕ) (x : Residue) → k < length xs → slice_index_or xs k x ≡ x → slice_index_or xs k no_residue ≡ x
      read [] k x low e = absurd (omega arith)
      read (y ∷ xs) zero x low e = e
      read (y ∷ xs) (suc k) x low e = read xs k x (omega arith) e

      in_list : (xs : List Residue) (k : ℕ) → k < length xs → Contains xs (slice_index_or xs k no_residue)
      in_list [] k low = absurd (omega arith)
      in_list (y ∷ xs) zero low = contains_here y xs
      in_list (y ∷ xs) (suc k) low = contains_there y xs (slice_index_or xs k no_residue) (in_list xs k (omega arith))

  -- at the start nothing was paid
  pub residues_none : (moves : List Move) → ((set : List Bool) (move : Move) → CanMove set move → Contains moves move) → AreResidues CanMove [] (map whole moves)
  residues_none moves all =
      record {
        all = λ set move can. (whole move, contains_map whole moves move (all set move can), refl);
        paid = λ residue there. let (move, among, same) = contains_mapped whole moves residue there in
            let left : move.cost ≡ residue.left = ap (λ (r : Residue). r.left) same in
            let cost : move.cost ≡ residue.step.cost = ap (λ (r : Residue). r.step.cost) same in
            (0, omega arith, tt);
      }

  -- each move can pay for the cuts with its cost
  pub all_pay : (cuts : List Cut) (residues : List Residue) → AreResidues CanMove cuts residues → (move : Move) → CanPay CanMove cuts move move.cost
  unfolding HasStep
  all_pay cuts residues are move =
      ⊎_elim (λ (residue, there, same). let (paid, sum, pays) = are.paid residue there in
      let cost : residue.step.cost ≡ move.cost = ap (λ (m : Move). m.cost) same in
      pay_more cuts move paid move.cost (omega arith) (subst (λ (m : Move). CanPay CanMove cuts m paid) same pays))
      (λ none. pay_none cuts move move.cost (λ set can. none (are.all set move can)))
      (step_or_not residues move)

-- what is least over one more move
module _ (CanMove : List Bool → Move → Type 0) (set : List Bool) (residues : List Residue) (residue : Residue) where
  pub least_open : (least : Option ℕ) (low : ℕ) → LeastOf CanMove set residues least → low ≤ residue.left → IfSome least (λ l. low ≤ l) →
      HaveLeft CanMove set (residues ++ residue ∷ []) low
  least_open None low none less lower other there can =
      ⊎_elim (λ before. absurd (none other before can)) (λ same. subst (λ (r : Residue). low ≤ r.left) same less) (Contains-push_cases residues residue other there)
  least_open (Some least) low all less lower other there can =
      ⊎_elim (λ before. (let old : least ≤ other.left = all other before can in omega (arith, lower))) (λ same. subst (λ (r : Residue). low ≤ r.left) same less) (Contains-push_cases residues residue other there)

  pub least_shut : (least : Option ℕ) → LeastOf CanMove set residues least → (CanMove set residue.step → ⊥) → LeastOf CanMove set (residues ++ residue ∷ []) least
  least_shut None none shut = λ other there can.
      ⊎_elim (λ before. none other before can) (λ same. shut (subst (λ (r : Residue). CanMove set r.step) (sym same) can)) (Contains-push_cases residues residue other there)
  least_shut (Some least) all shut = λ other there can.
      ⊎_elim (λ before. all other before can) (λ same. absurd (shut (subst (λ (r : Residue). CanMove set r.step) (sym same) can))) (Contains-push_cases residues residue other there)

-- a walk keeps the number of facts
pub walk_length : (CanMove : List Bool → Move → Type 0) (set : List Bool) (moves : List Move) (end : List Bool) → IsWalk CanMove set moves end → length end ≡ length set
walk_length CanMove set [] end same = ap length same
walk_length CanMove set (move ∷ moves) end (can, walk) = walk_length CanMove (with_fact set move) moves end walk ∙ length-set set move.fact true

-- the cuts that were found so far have no goal, and the moves paid for them
pub record AreFound (n : ℕ) (CanMove : List Bool → Move → Type 0) (HasGoal : List Bool → Type 0) (cuts : List Cut) (residues : List Residue) : Type 0 where
  pub sized : (cut : Cut) → Contains cuts cut → length cut.set.items ≡ n
  pub free : (cut : Cut) → Contains cuts cut → HasGoal cut.set.items → ⊥
  pub paid : AreResidues CanMove cuts residues

module _ (n : ℕ) (CanMove : List Bool → Move → Type 0) (HasGoal : List Bool → Type 0) where
  pub found_none : (residues : List Residue) → AreResidues CanMove [] residues → AreFound n CanMove HasGoal [] residues
  found_none residues are = record { sized = λ cut there. absurd (omega arith); free = λ cut there. absurd (omega arith); paid = are }

  pub found_more : (cuts : List Cut) (cut : Cut) (side : Side) (before after : List Residue) → AreFound n CanMove HasGoal cuts before → IsNearSide n CanMove HasGoal side →
      cut.set.items ≡ side.set.items → HavePaid CanMove side.set.items cut.weight before after → AreFound n CanMove HasGoal (cuts ++ cut ∷ []) after
  found_more cuts cut side before after found near same paid =
      let long : length cut.set.items ≡ n = ap length same ∙ walk_length CanMove (no_facts n) side.path.items side.set.items near.walk ∙ none_length n in
      record {
        sized = λ other there. ⊎_elim (λ old. found.sized other old) (λ e. subst (λ (c : Cut). length c.set.items ≡ n) e long) (Contains-push_cases cuts cut other there);
        free = λ other there goal. ⊎_elim (λ old. found.free other old goal)
            (λ e. near.free (subst HasGoal same (subst (λ (c : Cut). HasGoal c.set.items) (sym e) goal))) (Contains-push_cases cuts cut other there);
        paid = residues_more CanMove cuts cut before after found.paid (subst (λ (s : List Bool). HavePaid CanMove s cut.weight before after) (sym same) paid);
      }

  pub found_cuts : (cuts : List Cut) (residues : List Residue) → AreFound n CanMove HasGoal cuts residues → AreCuts n CanMove HasGoal cuts
  found_cuts cuts residues found = record { sized = found.sized; free = found.free; paid = all_pay CanMove cuts residues found.paid }

-- the test of a set within a set
within_true : (set large : List Bool) → is_within set large ≡ true → IsSubset set large
within_true [] [] e = tt
within_true [] (l ∷ large) e = absurd (let h : false ≡ true = e in cc)
within_true (s ∷ set) [] e = absurd (let h : false ≡ true = e in cc)
within_true (true ∷ set) (true ∷ large) e = ((λ _. refl), within_true set large e)
within_true (true ∷ set) (false ∷ large) e = absurd (let h : false ≡ true = e in cc)
within_true (false ∷ set) (l ∷ large) e = ((λ h. absurd (let f : false ≡ true = h in cc)), within_true set large e)

-- a set within another stays so with a fact that the other has
within_still : (set large : List Bool) (i : ℕ) → is_within set large ≡ true → slice_get large i ≡ Some true → is_within (slice_set set i true) large ≡ true
within_still [] large i e at = e
within_still (s ∷ set) [] i e at = absurd (let h : false ≡ true = e in cc)
within_still (true ∷ set) (true ∷ large) zero e at = e
within_still (true ∷ set) (false ∷ large) zero e at = absurd (let h : false ≡ true = e in cc)
within_still (false ∷ set) (true ∷ large) zero e at = e
within_still (false ∷ set) (false ∷ large) zero e at = absurd (let h : Some false ≡ Some true = at in cc)
within_still (true ∷ set) (true ∷ large) (suc i) e at = within_still set large i e at
within_still (true ∷ set) (false ∷ large) (suc i) e at = absurd (let h : false ≡ true = e in cc)
within_still (false ∷ set) (l ∷ large) (suc i) e at = within_still set large i e at

-- within another a missing fact is there or not
there_or_new : (set large : List Bool) (i : ℕ) → is_within set large ≡ true → slice_get set i ≡ Some false → (slice_get large i ≡ Some true) ⊎ (slice_get large i ≡ Some false)
there_or_new [] large i e new = absurd (cc)
there_or_new (s ∷ set) [] i e new = absurd (let h : false ≡ true = e in cc)
there_or_new (s ∷ set) (true ∷ large) zero e new = inl refl
there_or_new (s ∷ set) (false ∷ large) zero e new = inr refl
there_or_new (true ∷ set) (true ∷ large) (suc i) e new = there_or_new set large i e new
there_or_new (true ∷ set) (false ∷ large) (suc i) e new = absurd (let h : false ≡ true = e in cc)
there_or_new (false ∷ set) (l ∷ large) (suc i) e new = there_or_new set large i e new

-- a cut that holds the set counts, and another does not
rest_in : (cut : Cut) (cuts : List Cut) (set : List Bool) → is_within set cut.set.items ≡ true → rest (cut ∷ cuts) set ≡ cut.weight + rest cuts set
rest_in cut cuts set inside = ap (λ (b : Bool). (if b then cut.weight else 0) + rest cuts set) inside

rest_out : (cut : Cut) (cuts : List Cut) (set : List Bool) → is_within set cut.set.items ≡ false → rest (cut ∷ cuts) set ≡ 0 + rest cuts set
rest_out cut cuts set outside = ap (λ (b : Bool). (if b then cut.weight else 0) + rest cuts set) outside

rest_low : (cut : Cut) (cuts : List Cut) (set : List Bool) → rest cuts set ≤ rest (cut ∷ cuts) set
rest_low cut cuts set = ⊎_elim (λ inside. let e : rest (cut ∷ cuts) set ≡ cut.weight + rest cuts set = rest_in cut cuts set inside in omega arith) (λ outside. let e : rest (cut ∷ cuts) set ≡ 0 + rest cuts set = rest_out cut cuts set outside in omega arith) (cases_Bool (is_within set cut.set.items))

rest_high : (cut : Cut) (cuts : List Cut) (set : List Bool) → rest (cut ∷ cuts) set ≤ cut.weight + rest cuts set
rest_high cut cuts set = ⊎_elim (λ inside. let e : rest (cut ∷ cuts) set ≡ cut.weight + rest cuts set = rest_in cut cuts set inside in omega arith) (λ outside. let e : rest (cut ∷ cuts) set ≡ 0 + rest cuts set = rest_out cut cuts set outside in omega arith) (cases_Bool (is_within set cut.set.items))

and_true : (b : Bool) → b ≡ (b && true)
and_true true = refl
and_true false = refl

and_false : (b : Bool) → false ≡ (b && false)
and_false true = refl
and_false false = refl

and_assoc : (a b c : Bool) → (a && (b && c)) ≡ ((a && b) && c)
and_assoc true b c = refl
and_assoc false b c = refl

-- a set with one more fact is within another where the set is, and the other has the fact
within_with : (set large : List Bool) (i : ℕ) → slice_get set i ≡ Some false → is_within (slice_set set i true) large ≡ (is_within set large && slice_index_or large i false)
within_with [] large i new = absurd (cc)
within_with (s ∷ set) [] zero new = refl
within_with (s ∷ set) [] (suc i) new = refl
within_with (true ∷ set) (l ∷ large) zero new = absurd (let h : Some true ≡ Some false = new in cc)
within_with (false ∷ set) (true ∷ large) zero new = and_true (is_within set large)
within_with (false ∷ set) (false ∷ large) zero new = and_false (is_within set large)
within_with (s ∷ set) (l ∷ large) (suc i) new =
    ap (λ (b : Bool). (if s then l else true) && b) (within_with set large i new) ∙ and_assoc (if s then l else true) (is_within set large) (slice_index_or large i false)

-- what is to be paid with one more fact, by the cuts that hold the set
rest_held : (cuts : List Cut) (set : List Bool) (fact : ℕ) → slice_get set fact ≡ Some false → rest_of cuts (holding cuts set) fact ≡ rest cuts (slice_set set fact true)
rest_held [] set fact new = refl
rest_held (cut ∷ cuts) set fact new =
    ap (λ (b : Bool). (if b then cut.weight else 0) + rest_of cuts (holding cuts set) fact) (sym (within_with set cut.set.items fact new))
    ∙ ap (λ k. (if is_within (slice_set set fact true) cut.set.items then cut.weight else 0) + k) (rest_held cuts set fact new)

pub held_rest : (held : List Bool) (cuts : List Cut) (set : List Bool) (fact : ℕ) → held ≡ holding cuts set → slice_get set fact ≡ Some false → rest_of cuts held fact ≡ rest cuts (slice_set set fact true)
held_rest held cuts set fact is new = ap (λ (marks : List Bool). rest_of cuts marks fact) is ∙ rest_held cuts set fact new

module _ (n : ℕ) (CanMove : List Bool → Move → Type 0) (HasRun : List Move → ℕ → Type 0) (space : IsSpace n CanMove HasRun) where
  -- a cut at whose set the move is not possible holds the set with the fact, where it holds the set
  free : (cut : Cut) (cuts : List Cut) (set : List Bool) (move : Move) (left : ℕ) → CanMove set move → (CanMove cut.set.items move → ⊥) →
      rest cuts set ≤ left + rest cuts (with_fact set move) → rest (cut ∷ cuts) set ≤ left + rest (cut ∷ cuts) (with_fact set move)
  free cut cuts set move left can none later =
      ⊎_elim
      (λ inside. ⊎_elim
      (λ there. let here : rest (cut ∷ cuts) set ≡ cut.weight + rest cuts set = rest_in cut cuts set inside in
      let still : rest (cut ∷ cuts) (with_fact set move) ≡ cut.weight + rest cuts (with_fact set move) = rest_in cut cuts (with_fact set move) (within_still set cut.set.items move.fact inside there) in
      omega arith)
      (λ new. absurd (none (space.grows set cut.set.items move can (within_true set cut.set.items inside) new)))
      (there_or_new set cut.set.items move.fact inside (space.new set move can)))
      (λ outside. let out : rest (cut ∷ cuts) set ≡ 0 + rest cuts set = rest_out cut cuts set outside in
      let low : rest cuts (with_fact set move) ≤ rest (cut ∷ cuts) (with_fact set move) = rest_low cut cuts (with_fact set move) in
      omega arith) (cases_Bool (is_within set cut.set.items))

  -- a move lowers what is still to be paid by what it can pay at most
  falls : (cuts : List Cut) (set : List Bool) (move : Move) (left : ℕ) → CanMove set move → CanPay CanMove cuts move left → rest cuts set ≤ left + rest cuts (with_fact set move)
  falls [] set move left can pays = omega arith
  falls (cut ∷ cuts) set move left can (inr (none, pays)) = free cut cuts set move left can none (falls cuts set move left can pays)
  falls (cut ∷ cuts) set move left can (inl (less, sum, pays)) =
      let later : rest cuts set ≤ less + rest cuts (with_fact set move) = falls cuts set move less can pays in
      let low : rest cuts (with_fact set move) ≤ rest (cut ∷ cuts) (with_fact set move) = rest_low cut cuts (with_fact set move) in
      let high : rest (cut ∷ cuts) set ≤ cut.weight + rest cuts set = rest_high cut cuts set in
      omega arith

  module _ (HasGoal : List Bool → Type 0) (cuts : List Cut) (are : AreCuts n CanMove HasGoal cuts) where
    -- a move lowers what is still to be paid by its cost at most
    pub rest_falls : (set : List Bool) (move : Move) → CanMove set move → rest cuts set ≤ move.cost + rest cuts (with_fact set move)
    rest_falls set move can = falls cuts set move move.cost can (are.paid move)

    rest_along : (moves : List Move) (set end : List Bool) → IsWalk CanMove set moves end → rest cuts set ≤ walk_cost moves + rest cuts end
    rest_along [] set end same = let e : rest cuts end ≡ rest cuts set = ap (rest cuts) same in omega arith
    rest_along (move ∷ moves) set end (can, walk) =
        let first : rest cuts set ≤ move.cost + rest cuts (with_fact set move) = rest_falls set move can in
        let later : rest cuts (with_fact set move) ≤ walk_cost moves + rest cuts end = rest_along moves (with_fact set move) end walk in
        omega arith

    module _ (grow : GoalsGrow HasGoal) where
      -- at a set with a goal nothing is to be paid
      pub rest_ends : (end : List Bool) → HasGoal end → rest cuts end ≡ 0
      rest_ends end goal = none cuts are.free
        where
          none : (some : List Cut) → ((cut : Cut) → Contains some cut → HasGoal cut.set.items → ⊥) → rest some end ≡ 0
          none [] free = refl
          none (cut ∷ some) free =
              ⊎_elim (λ inside. absurd (free cut (contains_here cut some) (grow end cut.set.items goal (within_true end cut.set.items inside))))
              (λ outside. let out : rest (cut ∷ some) end ≡ 0 + rest some end = rest_out cut some end outside in
              let later : rest some end ≡ 0 = none some (λ c there. free c (contains_there cut some c there)) in omega arith)
              (cases_Bool (is_within end cut.set.items))

      -- so no walk to a goal costs less than the weights
      pub cuts_bound : IsLeastCost n CanMove HasGoal (rest cuts (no_facts n))
      cuts_bound moves end walk goal =
          let along : rest cuts (no_facts n) ≤ walk_cost moves + rest cuts end = rest_along moves (no_facts n) end walk in
          let ends : rest cuts end ≡ 0 = rest_ends end goal in
          omega arith

-- the cuts guide a search
pub guide_of : (n : ℕ) (CanMove : List Bool → Move → Type 0) (HasRun : List Move → ℕ → Type 0) (HasGoal : List Bool → Type 0) (cuts : List Cut) → IsSpace n CanMove HasRun → AreCuts n CanMove HasGoal cuts → GoalsGrow HasGoal → IsGuide CanMove HasGoal cuts
guide_of n CanMove HasRun HasGoal cuts space are grow =
    record { falls = rest_falls n CanMove HasRun space HasGoal cuts are; ends = rest_ends n CanMove HasRun space HasGoal cuts are grow }

-- also one that goes by moves that gain something
pub gains_guide : (CanMove Gains : List Bool → Move → Type 0) (HasGoal : List Bool → Type 0) (cuts : List Cut) → IsGuide CanMove HasGoal cuts → IsGuide (CanGain CanMove Gains) HasGoal cuts
gains_guide CanMove Gains HasGoal cuts guide = record { falls = λ set move can. guide.falls set move can.0; ends = guide.ends }
