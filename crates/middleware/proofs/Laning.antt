-- What a round of requests does to its lane.
use Rattle.std.proofs.Common.{◌≡◌, ◌≢◌, inl, inr, ℕ, suc, List, [], ◌∷◌, ◌++◌, length, Option, None, Some, Bool, true, false, cond, nat_eq, refl, sym, ◌∙◌, ap, subst}
use Rattle.std.specs.Prelude.{Contains, option_map}
use Rattle.std.specs.Cmp.Lexicographic.{pointwise}
use Rattle.std.proofs.lemmas.List.Elements.{filter-append}
use Rattle.std.proofs.lemmas.Slice.Eq.{bytes_eq-Decides}
use Rattle.lists.proofs.Members.{some_injective, contains_map, contains_mapped}
use Rattle.meaning.specs.declared.types.Place.{Place}
use Rattle.meaning.specs.declared.types.Request.{Request}
use Rattle.access_schema.specs.declared.schema.Schema.{Schema}
use Rattle.access_schema.specs.declared.schema.SourceLine.{SourceLine}
use Rattle.source_trait.specs.Asking.{RowList, Seen, FaultsGoOn}
use Rattle.source_trait.specs.Lanes.{source_of, StepsOn}
use Rattle.source_trait.specs.declared.lanes.Kind.{Kind}
use Rattle.source_trait.proofs.LaneSteps.{StepsOn-stays, StepsOn-source, StepsOn-others, StepsAt-source, KindsStay-refl, KindsStay-trans}
use Rattle.middleware.specs.PlanSources.{line_for}
use Rattle.middleware.specs.Attaching.{TellsSame}
use Rattle.middleware.specs.Asked.{has_kind, of_kind, AskedJust, AsksLane}
use Rattle.middleware.specs.Joining.{input_row_of}
use Rattle.middleware.specs.Rounds.{requests_of, IsWanted}
use Rattle.middleware.proofs.Answering.{twice, asked_nothing}
use Rattle.middleware.proofs.LaneRuns.{placed, StepsOn-only, OnlyFirst-refl, OnlyFirst-trans}

len_row : (places : List Place) (row : List (List ℕ)) (inputs : List ℕ) → length (input_row_of places inputs row) ≡ length inputs
len_row places row [] = refl
len_row places row (p ∷ inputs) = ap suc (len_row places row inputs)

-- a request has one value for each input
pub wanted_length : (places : List Place) (inputs : List ℕ) (rows list : RowList) (values : List (List ℕ)) → IsWanted places inputs rows list → Contains list values → length values ≡ length inputs
wanted_length places inputs rows list values wanted c =
    let (row, among, e) = contains_mapped (input_row_of places inputs) rows values ((wanted.same values).0 c) in
    ap length (sym e) ∙ len_row places row inputs

-- a partial row's request is among those wanted
pub wanted_there : (places : List Place) (inputs : List ℕ) (rows list other : RowList) (row : List (List ℕ)) → other ≡ list → IsWanted places inputs rows list → Contains rows row → Contains other (input_row_of places inputs row)
wanted_there places inputs rows list other row is wanted c =
    subst (λ (l : RowList). Contains l (input_row_of places inputs row)) (sym is) ((wanted.same (input_row_of places inputs row)).1 (contains_map (input_row_of places inputs) rows row c))

-- ---- a lane whose sources are asked

module _ {S : Type 0} (seen : S → Seen) where
  pub tells_refl : (o : Option S) → TellsSame seen o o
  tells_refl None = tt
  tells_refl (Some s) = (refl, refl, refl, refl)

  tells_trans : (a b c : Option S) → TellsSame seen a b → TellsSame seen b c → TellsSame seen a c
  tells_trans None None None h k = tt
  tells_trans None None (Some z) h k = absurd k
  tells_trans None (Some y) c h k = absurd h
  tells_trans (Some x) None c h k = absurd h
  tells_trans (Some x) (Some y) None h k = absurd k
  tells_trans (Some x) (Some y) (Some z) h k = (k.0 ∙ h.0, k.1 ∙ h.1, k.2 ∙ h.2, k.3 ∙ h.3)

  -- a step of one source that tells the same leaves what the source of each kind tells
  pub stepped_tells : (kind other : List ℕ) (old new : List (Kind S)) (step : S → S → Type 0) → ((s t : S) → step s t → TellsSame seen (Some s) (Some t))
      → StepsOn old new kind step → TellsSame seen (source_of old other) (source_of new other)
  stepped_tells kind other old new step same steps =
      let (place, is, at) = placed old new kind step steps in
      elim (StepsAt-source old new step place other at) [
        | inl stayed ↦ subst (λ (o : Option S). TellsSame seen (source_of old other) o) (sym stayed) (tells_refl (source_of old other))
        | inr moved ↦
            subst (λ (o : Option S). TellsSame seen o (source_of new other)) (sym moved.was) (subst (λ (o : Option S). TellsSame seen (Some moved.before) o) (sym moved.now) (same moved.before moved.after moved.steps))
      ]

  module _ (schema : Schema) where
    pub AsksLane-refl : (kinds : List (Kind S)) → AsksLane seen schema [] kinds kinds
    AsksLane-refl kinds = record {
      stay = KindsStay-refl seen kinds;
      asked = λ kind before after was now. ap (λ s. (seen s).asked) (some_injective after before (sym now ∙ was)) ∙ asked_nothing ((seen before).asked);
      only = OnlyFirst-refl (λ kind s t. (seen t).attached ≡ (seen s).attached) kinds;
      tells = λ kind. tells_refl (source_of kinds kind);
    }

    pub asked_trans : (a b : List Request) (old mid new : List (Kind S)) → ((kind : List ℕ) → TellsSame seen (source_of old kind) (source_of mid kind))
        → AskedJust seen schema a old mid → AskedJust seen schema b mid new → AskedJust seen schema (a ++ b) old new
    asked_trans a b old mid new tells h k kind before after was now = go (source_of mid kind) refl (subst (λ (o : Option S). TellsSame seen o (source_of mid kind)) was (tells kind))
      where
        go : (o : Option S) → source_of mid kind ≡ o → TellsSame seen (Some before) (source_of mid kind) → (seen after).asked ≡ option_map (λ asked. asked ++ of_kind schema kind (a ++ b)) ((seen before).asked)
        go None is same = absurd (subst (λ (o : Option S). TellsSame seen (Some before) o) is same)
        go (Some between) is same =
            k kind between after is now ∙ ap (option_map (λ (asked : List Request). asked ++ of_kind schema kind b)) (h kind before between was is)
            ∙ twice (of_kind schema kind a) (of_kind schema kind b) ((seen before).asked)
            ∙ ap (λ (l : List Request). option_map (λ (asked : List Request). asked ++ l) ((seen before).asked)) (sym (filter-append (λ (request : Request). has_kind (line_for request.rel schema.sources) kind) a b))

    pub AsksLane-trans : (a b : List Request) (old mid new : List (Kind S)) → AsksLane seen schema a old mid → AsksLane seen schema b mid new → AsksLane seen schema (a ++ b) old new
    AsksLane-trans a b old mid new h k = record {
      stay = KindsStay-trans seen old mid new h.stay k.stay;
      asked = asked_trans a b old mid new h.tells h.asked k.asked;
      only = OnlyFirst-trans seen (λ kind s t. (seen t).attached ≡ (seen s).attached) (λ n s t u first second. second ∙ first) old mid new h.stay h.only k.only;
      tells = λ kind. tells_trans (source_of old kind) (source_of mid kind) (source_of new kind) (h.tells kind) (k.tells kind);
    }

    -- the requests of one relation are of the kind of its line
    own_kind : (rel : ℕ) (positions : List ℕ) (kind : List ℕ) (b : Bool) → has_kind (line_for rel schema.sources) kind ≡ b → (list : RowList)
        → of_kind schema kind (requests_of rel positions list) ≡ cond b (requests_of rel positions list) []
    own_kind rel positions kind true is [] = refl
    own_kind rel positions kind false is [] = refl
    own_kind rel positions kind true is (v ∷ list) = let rest = own_kind rel positions kind true is list in rw is (ap (λ (l : List Request). record { rel = rel; positions = positions; values = v } ∷ l) rest)
    own_kind rel positions kind false is (v ∷ list) = let rest = own_kind rel positions kind false is list in rw is rest

    -- what a source does that is asked requests of a relation
    pub record SourceAsked (rel : ℕ) (positions : List ℕ) (list : RowList) (s t : Seen) : Type 0 where
      pub asked : t.asked ≡ option_map (λ asked. asked ++ requests_of rel positions list) s.asked
      pub held : t.held ≡ s.held
      pub attached : t.attached ≡ s.attached
      pub offers : t.offer ≡ s.offer
      pub passes : t.passes ≡ s.passes
      pub faults : FaultsGoOn s t

    pub lane_asked : (rel : ℕ) (positions : List ℕ) (list : RowList) (line : SourceLine) → line_for rel schema.sources ≡ Some line → (old new : List (Kind S)) (step : S → S → Type 0)
        → ((s t : S) → step s t → SourceAsked rel positions list (seen s) (seen t)) → StepsOn old new line.kind step → AsksLane seen schema (requests_of rel positions list) old new
    lane_asked rel positions list line line_is old new step does steps = record {
      stay = StepsOn-stays old new step seen line.kind (λ s t h. (does s t h).faults) steps;
      asked = λ kind before after was now. by_kind kind before after was now (pointwise nat_eq line.kind kind) refl;
      only = StepsOn-only old new line.kind step (λ kind s t. (seen t).attached ≡ (seen s).attached) (λ s t h. (does s t h).attached) steps;
      tells = λ kind. stepped_tells line.kind kind old new step (λ s t h. let d = does s t h in (d.held, d.attached, d.offers, d.passes)) steps;
    }
      where
        by_kind : (kind : List ℕ) (before after : S) → source_of old kind ≡ Some before → source_of new kind ≡ Some after → (b : Bool) → pointwise nat_eq line.kind kind ≡ b
            → (seen after).asked ≡ option_map (λ asked. asked ++ of_kind schema kind (requests_of rel positions list)) ((seen before).asked)
        by_kind kind before after was now true test =
            let same : line.kind ≡ kind = (bytes_eq-Decides line.kind kind).0 test in
            let moved = StepsOn-source old new step line.kind steps in
            let first : moved.before ≡ before = some_injective moved.before before (sym moved.was ∙ ap (source_of old) same ∙ was) in
            let last : moved.after ≡ after = some_injective moved.after after (sym moved.now ∙ ap (source_of new) same ∙ now) in
            let asks = (does moved.before moved.after moved.steps).asked in
            let mine : of_kind schema kind (requests_of rel positions list) ≡ requests_of rel positions list = own_kind rel positions kind true (ap (λ (l : Option SourceLine). has_kind l kind) line_is ∙ test) list in
            let P : S → S → List Request → Type 0 = λ s t more. (seen t).asked ≡ option_map (λ asked. asked ++ more) ((seen s).asked) in
            subst (λ more. P before after more) (sym mine) (subst (λ s. P s after (requests_of rel positions list)) first (subst (λ t. P moved.before t (requests_of rel positions list)) last asks))
        by_kind kind before after was now false test =
            let apart : kind ≢ line.kind = λ e. let h = (bytes_eq-Decides line.kind kind).1 (sym e) in cc in
            let same : after ≡ before = some_injective after before (sym now ∙ StepsOn-others old new step line.kind kind apart steps ∙ was) in
            let none : of_kind schema kind (requests_of rel positions list) ≡ [] = own_kind rel positions kind false (ap (λ (l : Option SourceLine). has_kind l kind) line_is ∙ test) list in
            let P : List Request → Type 0 = λ more. (seen after).asked ≡ option_map (λ asked. asked ++ more) ((seen before).asked) in
            subst P (sym none) (ap (λ s. (seen s).asked) same ∙ asked_nothing ((seen before).asked))
