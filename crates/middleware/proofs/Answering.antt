-- One request more of a round.
use Rattle.std.proofs.Common.{◌≡◌, ◌<◌, ◌≤◌, ◌+◌, ℕ, List, [], ◌∷◌, ◌++◌, length, map, take, get_or, Option, None, Some, refl, sym, ◌∙◌, ap, subst, append_assoc, arith}
use Rattle.std.specs.Prelude.{Ok, Err, Result, IfSome, option_map}
use Rattle.std.proofs.lemmas.List.{take_more, map-append, append-nil, length-take-le, take_all}
use Rattle.std.proofs.lemmas.Option.{slice_get_read}
use Rattle.meaning.specs.declared.types.Fact.{Fact}
use Rattle.meaning.specs.declared.types.Request.{Request}
use Rattle.source_trait.specs.Asking.{RowList, Seen, CallGives, CanAsk, Attached, pick}
use Rattle.source_trait.specs.Lanes.{AtKind, StepsOn}
use Rattle.source_trait.specs.declared.lanes.Kind.{Kind}
use Rattle.source_trait.proofs.Faults.{FaultsGoOn-refl, FaultsGoOn-trans}
use Rattle.source_trait.proofs.LaneSteps.{StepsOn-after}
use Rattle.source_trait.specs.declared.source.CallFault.{CallFault}
use Rattle.source_trait.specs.declared.source.CallFault.TheVariants as call
use Rattle.middleware.specs.Rounds.{requests_of, AnswersAll, CallBreaks}
use Rattle.middleware.proofs.LaneRuns.{StepsOn-refl, StepsOn-trans}

pub twice : (a b : List Request) (old : Option (List Request)) → option_map (λ list. list ++ b) (option_map (λ list. list ++ a) old) ≡ option_map (λ list. list ++ (a ++ b)) old
twice a b None = refl
twice a b (Some x) = ap (λ (l : List Request). Some l) (append_assoc x a b)

pub asked_nothing : (asked : Option (List Request)) → asked ≡ option_map (λ list. list ++ []) asked
asked_nothing None = refl
asked_nothing (Some list) = ap (λ (l : List Request). Some l) (sym (append-nil list))

module _ (rel : ℕ) (positions : List ℕ) (requests : RowList) where
  abbrev request : List (List ℕ) → Request
  request values = record { rel = rel; positions = positions; values = values }

  more : (i : ℕ) (v : List (List ℕ)) → i < length requests → v ≡ get_or requests i v
      → requests_of rel positions (take (i + 1) requests) ≡ requests_of rel positions (take i requests) ++ request v ∷ []
  more i v less at =
      let next : take (i + 1) requests ≡ take i requests ++ v ∷ [] = take_more requests i v less ∙ ap (λ (r : List (List ℕ)). take i requests ++ r ∷ []) (sym at) in
      ap (requests_of rel positions) next ∙ map-append request (take i requests) (v ∷ [])

  asked_more : (i : ℕ) (v : List (List ℕ)) (old mid new : Option (List Request)) → i < length requests → v ≡ get_or requests i v
      → mid ≡ option_map (λ list. list ++ requests_of rel positions (take i requests)) old
      → new ≡ option_map (λ list. list ++ request v ∷ []) mid
      → new ≡ option_map (λ list. list ++ requests_of rel positions (take (i + 1) requests)) old
  asked_more i v old mid new less at before asks =
      asks ∙ ap (option_map (λ (list : List Request). list ++ request v ∷ [])) before
      ∙ twice (requests_of rel positions (take i requests)) (request v ∷ []) old
      ∙ ap (λ (l : List Request). option_map (λ (list : List Request). list ++ l) old) (sym (more i v less at))

  -- nothing is asked yet
  pub answers_none : (s : Seen) → AnswersAll rel positions (take 0 requests) (Ok []) s s
  answers_none s = record {
    count = 0;
    within = omega arith;
    asked = asked_nothing s.asked;
    whole = refl;
    answers = none s.held;
    held = refl;
    attached = refl;
    offers = refl;
    passes = refl;
    faults = FaultsGoOn-refl s;
  }
    where
      none : (held : Option (List Fact)) → IfSome held (λ facts. [] ≡ map (pick facts rel positions) (take 0 requests))
      none None = tt
      none (Some facts) = refl

  module _ (i : ℕ) (v : List (List ℕ)) (less : i < length requests) (at : v ≡ get_or requests i v) (answers : List RowList) (s t u : Seen)
      (so_far : AnswersAll rel positions (take i requests) (Ok answers) s t) where
    short : length (take i requests) ≡ i
    short = length-take-le i requests (omega arith)

    whole_take : take so_far.count (take i requests) ≡ take i requests
    whole_take = let e : so_far.count ≡ length (take i requests) = so_far.whole in rw e (all (take i requests))
      where
        all : (xs : RowList) → take (length xs) xs ≡ xs
        all [] = refl
        all (x ∷ xs) = ap (λ (l : RowList). x ∷ l) (all xs)

    before : t.asked ≡ option_map (λ list. list ++ requests_of rel positions (take i requests)) s.asked
    before = so_far.asked ∙ ap (λ (l : RowList). option_map (λ (list : List Request). list ++ requests_of rel positions l) s.asked) whole_take

    -- a request was answered
    pub answers_more : (answer : RowList) → CallGives t u rel positions v (Ok answer) → AnswersAll rel positions (take (i + 1) requests) (Ok (answers ++ answer ∷ [])) s u
    answers_more answer gives = record {
      count = length (take (i + 1) requests);
      within = omega arith;
      asked = asked_more i v s.asked t.asked u.asked less at before gives.asks
          ∙ ap (λ (l : RowList). option_map (λ (list : List Request). list ++ requests_of rel positions l) s.asked) (sym (all (take (i + 1) requests)));
      whole = refl;
      answers = picked s.held so_far.answers (subst (λ (h : Option (List Fact)). IfSome h (λ facts. answer ≡ pick facts rel positions v)) so_far.held gives.picks);
      held = gives.held ∙ so_far.held;
      attached = gives.attached ∙ so_far.attached;
      offers = gives.offers ∙ so_far.offers;
      passes = gives.passes ∙ so_far.passes;
      faults = FaultsGoOn-trans s t u so_far.faults gives.faults;
    }
      where
        all : (xs : RowList) → take (length xs) xs ≡ xs
        all [] = refl
        all (x ∷ xs) = ap (λ (l : RowList). x ∷ l) (all xs)

        picked : (held : Option (List Fact)) → IfSome held (λ facts. answers ≡ map (pick facts rel positions) (take i requests)) → IfSome held (λ facts. answer ≡ pick facts rel positions v)
            → IfSome held (λ facts. answers ++ answer ∷ [] ≡ map (pick facts rel positions) (take (i + 1) requests))
        picked None a b = tt
        picked (Some facts) a b =
            let next : take (i + 1) requests ≡ take i requests ++ v ∷ [] = take_more requests i v less ∙ ap (λ (r : List (List ℕ)). take i requests ++ r ∷ []) (sym at) in
            let e = map-append (pick facts rel positions) (take i requests) (v ∷ []) in
            rw a (rw b (sym (ap (map (pick facts rel positions)) next ∙ e)))

    -- the request was refused
    pub answers_stop : (fault : CallFault) → CallGives t u rel positions v (Err fault) → AnswersAll rel positions requests (Err fault) s u
    answers_stop call.Failed gives = record {
      count = i + 1;
      within = omega arith;
      asked = asked_more i v s.asked t.asked u.asked less at before gives.asks;
      whole = tt;
      answers = tt;
      held = gives.held ∙ so_far.held;
      attached = gives.attached ∙ so_far.attached;
      offers = gives.offers ∙ so_far.offers;
      passes = gives.passes ∙ so_far.passes;
      faults = FaultsGoOn-trans s t u so_far.faults gives.faults;
    }
    answers_stop call.NoMemory gives = record {
      count = i;
      within = omega arith;
      asked = gives.asks ∙ before;
      whole = tt;
      answers = tt;
      held = gives.held ∙ so_far.held;
      attached = gives.attached ∙ so_far.attached;
      offers = gives.offers ∙ so_far.offers;
      passes = gives.passes ∙ so_far.passes;
      faults = FaultsGoOn-trans s t u so_far.faults gives.faults;
    }

    -- there was no memory for the answer
    pub answers_full : (answer : RowList) → CallGives t u rel positions v (Ok answer) → AnswersAll rel positions requests (Err call.NoMemory) s u
    answers_full answer gives = record {
      count = i + 1;
      within = omega arith;
      asked = asked_more i v s.asked t.asked u.asked less at before gives.asks;
      whole = tt;
      answers = tt;
      held = gives.held ∙ so_far.held;
      attached = gives.attached ∙ so_far.attached;
      offers = gives.offers ∙ so_far.offers;
      passes = gives.passes ∙ so_far.passes;
      faults = FaultsGoOn-trans s t u so_far.faults gives.faults;
    }

-- the same on a lane
module _ {S : Type 0} (seen : S → Seen) (rel : ℕ) (positions : List ℕ) (requests : RowList) (kind : List ℕ) where
  abbrev Gives : RowList → Result (List RowList) CallFault → S → S → Type 0
  Gives some result s t = AnswersAll rel positions some result (seen s) (seen t)

  abbrev Calls : List (List ℕ) → Result RowList CallFault → S → S → Type 0
  Calls v result s t = CallGives (seen s) (seen t) rel positions v result

  pub lane_none : (kinds : List (Kind S)) (answers : List RowList) → answers ≡ [] → AtKind kinds kind (λ s. Unit {0}) → StepsOn kinds kinds kind (Gives (take 0 requests) (Ok answers))
  lane_none kinds answers e there =
      subst (λ (a : List RowList). StepsOn kinds kinds kind (Gives (take 0 requests) (Ok a))) (sym e)
      (StepsOn-refl kinds kind (Gives (take 0 requests) (Ok [])) (λ s. answers_none rel positions requests (seen s)) there)

  module _ (old mid : List (Kind S)) (i : ℕ) (answers : List RowList) (so_far : StepsOn old mid kind (Gives (take i requests) (Ok answers))) where
    -- the next request may be asked
    pub lane_ready : (v : List (List ℕ)) → AtKind old kind (λ s. CanAsk ((seen s).attached rel) positions v) → AtKind mid kind (λ s. CanAsk ((seen s).attached rel) positions v)
    lane_ready v ready =
        StepsOn-after old mid (Gives (take i requests) (Ok answers)) kind (λ s. CanAsk ((seen s).attached rel) positions v) (λ s. CanAsk ((seen s).attached rel) positions v)
        (λ s t holds gives. subst (λ (a : ℕ → Option Attached). CanAsk (a rel) positions v) (sym gives.attached) holds) so_far ready

    -- all requests were answered
    pub lane_done : (all : List RowList) → all ≡ answers → length requests ≤ i → StepsOn old mid kind (Gives requests (Ok all))
    lane_done all e over =
        subst (λ (a : List RowList). StepsOn old mid kind (Gives requests (Ok a))) (sym e)
        (subst (λ (r : RowList). StepsOn old mid kind (Gives r (Ok answers))) (take_all i requests over) so_far)

    module _ (new : List (Kind S)) (v : List (List ℕ)) (less : i < length requests) (at : v ≡ get_or requests i v) where
      pub lane_more : (answer : RowList) (next : List RowList) → next ≡ answers ++ answer ∷ [] → StepsOn mid new kind (Calls v (Ok answer)) → StepsOn old new kind (Gives (take (i + 1) requests) (Ok next))
      lane_more answer next e calls =
          subst (λ (a : List RowList). StepsOn old new kind (Gives (take (i + 1) requests) (Ok a))) (sym e)
          (StepsOn-trans old mid new kind (Gives (take i requests) (Ok answers)) (Calls v (Ok answer)) (Gives (take (i + 1) requests) (Ok (answers ++ answer ∷ [])))
          (λ s t u first second. answers_more rel positions requests i v less at answers (seen s) (seen t) (seen u) first answer second) so_far calls)

      pub lane_stop : (fault : CallFault) → StepsOn mid new kind (Calls v (Err fault)) → StepsOn old new kind (Gives requests (Err fault))
      lane_stop fault calls =
          StepsOn-trans old mid new kind (Gives (take i requests) (Ok answers)) (Calls v (Err fault)) (Gives requests (Err fault))
          (λ s t u first second. answers_stop rel positions requests i v less at answers (seen s) (seen t) (seen u) first fault second) so_far calls

      pub lane_breaks : (fault : CallFault) → StepsOn mid new kind (Calls v (Err fault)) → fault ≡ call.Failed
          → CallBreaks seen rel positions requests kind old new
      lane_breaks fault calls is = record {
        n = i;
        values = v;
        at = slice_get_read requests (length requests) i v refl less at;
        answers = answers;
        middle = mid;
        answered = so_far;
        failed = subst (λ (f : CallFault). StepsOn mid new kind (Calls v (Err f))) is calls;
      }

      pub lane_full : (answer : RowList) → StepsOn mid new kind (Calls v (Ok answer)) → StepsOn old new kind (Gives requests (Err call.NoMemory))
      lane_full answer calls =
          StepsOn-trans old mid new kind (Gives (take i requests) (Ok answers)) (Calls v (Ok answer)) (Gives requests (Err call.NoMemory))
          (λ s t u first second. answers_full rel positions requests i v less at answers (seen s) (seen t) (seen u) first answer second) so_far calls
