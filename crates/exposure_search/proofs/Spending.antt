-- Where the units of a search are spent, there are more sets of exposures, and firings in their copies, than units.
use Rattle.std.proofs.Common.{◌≡◌, ◌⊎◌, ℕ, suc, ◌+◌, ◌<◌, ◌≤◌, List, [], ◌∷◌, length, Bool, true, false, refl, sym, ap, ◌∙◌, subst, ⊎_elim, arith}
use Rattle.std.specs.Prelude.{Contains, map}
use Rattle.lists.proofs.Members.{contains_here, contains_there, contains_cases, contains_map}
use Rattle.meaning.specs.declared.types.Ground.{Ground}
use Rattle.meaning.specs.Search.{AreDistinct}
use Rattle.meaning.specs.Extract.{exposed_facts, exposures_cost}
use Rattle.least_search.specs.declared.cuts.Cut.{Cut}
use Rattle.least_search.specs.Ways.{Way, IsWay}
use Rattle.least_search.specs.Walks.{no_facts, walk_cost}
use Rattle.least_search.specs.Cuts.{sum_of}
use Rattle.least_search.specs.Costs.{CanSpend, IsSpent}
use Rattle.least_search.proofs.Sets.{none_length}
use Rattle.least_search.proofs.Cutting.{walk_length}
use Rattle.exposure_search.specs.Tries.{picked}
use Rattle.exposure_search.specs.Trials.{Trial, IsTrial, IsTrialAlong, units_of, ExposeAlike, AreApart, HasMoreToDo}
use Rattle.exposure_search.specs.Exploring.{Exploring, space_size, CanExpose, HasTry, IsFounded}
use Rattle.exposure_search.specs.Sets.{AreSame, none_same, picked_back}
use Rattle.exposure_search.specs.Spaces.{open_walk}
use Rattle.exposure_search.proofs.Steps.{walked}

-- ---- sets that pick the same facts

picked_within : (base : List Ground) (set : List Bool) (fact : Ground) → Contains (picked base set) fact → Contains base fact
picked_within [] set fact there = there
picked_within (g ∷ base) [] fact there = absurd (omega arith)
picked_within (g ∷ base) (true ∷ set) fact there =
    ⊎_elim (λ e. subst (λ f. Contains (g ∷ base) f) e (contains_here g base)) (λ later. contains_there g base fact (picked_within base set fact later))
    (contains_cases g (picked base set) fact there)
picked_within (g ∷ base) (false ∷ set) fact there = contains_there g base fact (picked_within base set fact there)

-- among facts of which none stands twice
marks_same : (base : List Ground) (first second : List Bool) → AreDistinct base → length first ≡ length base → length second ≡ length base →
    AreSame (picked base first) (picked base second) → first ≡ second
marks_same [] [] [] once long wide same = refl
marks_same [] (b ∷ first) second once long wide same = absurd (omega arith)
marks_same [] [] (b ∷ second) once long wide same = absurd (omega arith)
marks_same (g ∷ base) [] second once long wide same = absurd (omega arith)
marks_same (g ∷ base) (b ∷ first) [] once long wide same = absurd (omega arith)
marks_same (g ∷ base) (true ∷ first) (true ∷ second) once long wide same =
    ap (λ marks. true ∷ marks) (marks_same base first second once.1 (omega arith) (omega arith) (record {
      to = λ fact there. later (picked base second) fact (picked_within base first fact there) (same.to fact (contains_there g (picked base first) fact there));
      from = λ fact there. later (picked base first) fact (picked_within base second fact there) (same.from fact (contains_there g (picked base second) fact there));
    }))
  where
    later : (facts : List Ground) (fact : Ground) → Contains base fact → Contains (g ∷ facts) fact → Contains facts fact
    later facts fact among there =
        ⊎_elim (λ e. absurd (once.0 (subst (λ f. Contains base f) (sym e) among))) (λ h. h) (contains_cases g facts fact there)
marks_same (g ∷ base) (false ∷ first) (false ∷ second) once long wide same =
    ap (λ marks. false ∷ marks) (marks_same base first second once.1 (omega arith) (omega arith) same)
marks_same (g ∷ base) (true ∷ first) (false ∷ second) once long wide same =
    absurd (once.0 (picked_within base second g (same.to g (contains_here g (picked base first)))))
marks_same (g ∷ base) (false ∷ first) (true ∷ second) once long wide same =
    absurd (once.0 (picked_within base first g (same.from g (contains_here g (picked base second)))))

-- ---- the trials of ways

module _ (space : Exploring) where
  -- the trial exposes the facts of the way's set, at the way's cost
  record IsOfWay (way : Way) (trial : Trial) : Type 0 where
    is : IsTrial space.schema space.constants space.base trial
    cost : exposures_cost trial.exposures ≡ way.cost
    same : AreSame (picked space.base.facts way.set) (exposed_facts trial.exposures)
    sized : length way.set ≡ space_size space

  of_way : (way : Way) (firings : ℕ) → IsWay (space_size space) (CanExpose space) way → HasTry space way.path firings →
      (trial : Trial) × IsOfWay way trial × (firings ≡ length trial.copy)
  of_way way firings is tried =
      let w = walked space.schema space.constants space.base.facts way.path (no_facts (length space.base.facts)) way.set []
      (none_same space.base.facts) (open_walk space way.path (no_facts (length space.base.facts)) way.set is.walk) in (
        tried.trial,
        record {
          is = tried.is;
          cost = tried.cost ∙ sym is.cost;
          same = subst (λ facts. AreSame (picked space.base.facts way.set) facts) (sym w.facts ∙ sym tried.along) w.same;
          sized = walk_length (CanExpose space) (no_facts (space_size space)) way.path way.set is.walk ∙ none_length (space_size space);
        },
        tried.many,
      )

  -- ways and trials, one by one
  AreOfWays : List Way → List Trial → Type 0
  AreOfWays [] [] = Unit {0}
  AreOfWays [] (trial ∷ trials) = ⊥
  AreOfWays (way ∷ ways) [] = ⊥
  AreOfWays (way ∷ ways) (trial ∷ trials) = IsOfWay way trial × AreOfWays ways trials

  of_ways : (ways : List Way) (units : ℕ) → ((way : Way) → Contains ways way → IsWay (space_size space) (CanExpose space) way) →
      CanSpend (HasTry space) ways units → (trials : List Trial) × AreOfWays ways trials × (units ≡ units_of trials)
  unfolding AreOfWays
  of_ways [] units are none = ([], tt, none)
  of_ways (way ∷ ways) units are (firings, others, tried, sum, later) =
      let (trial, its, many) = of_way way firings (are way (contains_here way ways)) tried in
      let (trials, all, rest) = of_ways ways others (λ other there. are other (contains_there way ways other there)) later in
      let fired : firings ≡ length trial.copy = many in
      let spent : others ≡ units_of trials = rest in
      (trial ∷ trials, (its, all), omega arith)

  way_for : (ways : List Way) (trials : List Trial) (trial : Trial) → AreOfWays ways trials → Contains trials trial →
      (way : Way) × Contains ways way × IsOfWay way trial
  unfolding AreOfWays
  way_for [] [] trial all there = absurd (omega arith)
  way_for [] (first ∷ trials) trial all there = absurd all
  way_for (way ∷ ways) [] trial all there = absurd all
  way_for (way ∷ ways) (first ∷ trials) trial (its, all) there =
      ⊎_elim (λ e. (way, contains_here way ways, subst (IsOfWay way) e its))
      (λ later. let (other, among, is) = way_for ways trials trial all later in (other, contains_there way ways other among, is))
      (contains_cases first trials trial there)

  -- ways to different sets have trials that expose different facts
  trials_apart : AreDistinct space.base.facts → (ways : List Way) (trials : List Trial) → AreOfWays ways trials →
      AreDistinct (map (λ (way : Way). way.set) ways) → AreApart trials
  unfolding AreOfWays
  trials_apart once [] [] all distinct = tt
  trials_apart once [] (trial ∷ trials) all distinct = absurd all
  trials_apart once (way ∷ ways) [] all distinct = absurd all
  trials_apart once (way ∷ ways) (trial ∷ trials) (its, all) distinct = (
    (λ other there alike.
        let (its_way, among, is) = way_for ways trials other all there in
        let same : AreSame (picked space.base.facts way.set) (picked space.base.facts its_way.set) = record {
          to = λ fact c. is.same.from fact ((alike fact).0 (its.same.to fact c));
          from = λ fact c. its.same.from fact ((alike fact).1 (is.same.to fact c));
        } in
        let set : way.set ≡ its_way.set = marks_same space.base.facts way.set its_way.set once its.sized is.sized same in
        distinct.0 (subst (λ s. Contains (map (λ (w : Way). w.set) ways) s) (sym set) (contains_map (λ (w : Way). w.set) ways its_way among))),
    trials_apart once ways trials all distinct.1,
  )

-- more units are wanted than there are
pub more_to_do : (space : Exploring) (cuts : List Cut) (bound units : ℕ) → IsFounded space →
    IsSpent (space_size space) (CanExpose space) (HasTry space) cuts bound units →
    HasMoreToDo space.schema space.constants space.base bound units
more_to_do space cuts bound units founded spent =
    let (trials, all, sum) = of_ways space spent.ways (units + 1) spent.walks spent.wanted in
    let many : units + 1 ≡ units_of trials = sum in
    record {
      trials = trials;
      are = λ trial there. let (way, among, its) = way_for space spent.ways trials trial all there in its.is;
      low = λ trial there.
          let (way, among, its) = way_for space spent.ways trials trial all there in
          let cost : exposures_cost trial.exposures ≡ way.cost = its.cost in
          let low : sum_of cuts way < bound = spent.low way among in omega arith;
      apart = trials_apart space founded.once spent.ways trials all spent.distinct;
      more = omega arith;
    }
