-- A crawl on lanes: the attaches before it, what it leaves of the lanes, and all that it promises.
use Rattle.std.proofs.Common.{◌≡◌, ◌↔◌, ◌∙◌, ◌<◌, inl, inr, ℕ, zero, suc, List, [], ◌∷◌, length, Option, None, Some, refl, sym, ap, subst, arith}
use Rattle.std.specs.Prelude.{Contains, IsSome, IsSomeAnd, slice_get, map, Result, Ok, Err, IfOk, IfErr}
use Rattle.lists.proofs.Members.{contains_here, contains_none, contains_got, contains_map, contains_mapped}
use Rattle.meaning.specs.declared.types.Fact.{Fact}
use Rattle.meaning.specs.declared.types.Method.{Method}
use Rattle.meaning.specs.declared.types.Relation.{Relation}
use Rattle.meaning.specs.declared.types.Request.{Request}
use Rattle.meaning.specs.declared.types.SchemaParts.{SchemaParts}
use Rattle.meaning.specs.Access.{IsAccessible}
use Rattle.meaning.specs.Instances.{IsInstance}
use Rattle.meaning.specs.Matching.{itself}
use Rattle.meaning.specs.Search.{AreDistinct}
use Rattle.meaning.specs.Sorts.{AreSorted}
use Rattle.meaning_laws.proofs.Crawling.{crawls_reach}
use Rattle.access_schema.specs.declared.schema.Schema.{Schema}
use Rattle.access_schema.specs.Meaning.{meaning_of}
use Rattle.source_trait.specs.Asking.{Seen}
use Rattle.source_trait.specs.Lanes.{source_of, LanesStay}
use Rattle.source_trait.specs.declared.source.AttachFault.{AttachFault}
use Rattle.source_trait.specs.declared.source.AttachFault.TheVariants as attach
use Rattle.source_trait.specs.declared.lanes.Kind.{Kind}
use Rattle.source_trait.specs.declared.lanes.Lane.{Lane}
use Rattle.source_trait.proofs.LaneSteps.{LanesStay-refl, LanesStay-trans}
use Rattle.middleware.specs.PlanSources.{line_for}
use Rattle.middleware.specs.Asked.{AsksLane}
use Rattle.middleware.specs.Attaching.{TellsSame}
use Rattle.middleware.specs.Held.{HoldsRelation}
use Rattle.middleware.specs.LaneBranches.{OnEach}
use Rattle.middleware.specs.LaneRounds.{AsksEach}
use Rattle.middleware.specs.LaneRunning.{IsAttachedTo}
use Rattle.middleware.specs.Needs.{needed, AttachBreaksAt, AttachesNeeded}
use Rattle.middleware.specs.Needs.AttachesNeeded.{done, no_source, unknown_kind, refused, no_memory}
use Rattle.middleware.specs.declared.fault.RunFault.{RunFault}
use Rattle.middleware.specs.declared.fault.RunFault.TheVariants as fault
use Rattle.middleware.proofs.Attached.{order_attached_to}
use Rattle.middleware.proofs.Branching.{relation_earlier}
use Rattle.middleware.proofs.LaneBranching.{each_asked}
use Rattle.middleware.proofs.LaneShares.{only_asked, each_later, each_earlier}
use Rattle.middleware.proofs.LaneStays.{asked_stay, attached_each, attach_long, attach_none}
use Rattle.middleware.proofs.Lacking.{rises_strictly, the_line}
use Rattle.middleware.proofs.Needing.{needed_alike}
use Rattle.middleware.proofs.Planning.{relation_there}
use Rattle.crawl_rounds.specs.Rounds.{Class, AreClasses}
use Rattle.crawl.specs.Crawling.{IsReachable, needed_to_crawl, asked_in, LanesHoldReachable, HasCrawled, CrawlHalts, AsksCrawl, Crawls}
use Rattle.crawl.specs.Crawling.AttachesAndCrawls.{not_attached, attached}

-- the relations of methods
pub relations_exactly : (methods : List Method) (given kept : List ℕ) → given ≡ map (λ (m : Method). m.rel) methods → ((x : ℕ) → Contains kept x ↔ Contains given x) → (rel : ℕ)
    → Contains kept rel ↔ ((method : Method) × Contains methods method × (method.rel ≡ rel))
relations_exactly methods given kept is same rel = (
  (λ c. contains_mapped (λ (m : Method). m.rel) methods rel (subst (λ (l : List ℕ). Contains l rel) is ((same rel).0 c))),
  (λ (method, among, e). (same rel).1 (subst (λ (l : List ℕ). Contains l rel) (sym is) (subst (Contains (map (λ (m : Method). m.rel) methods)) e (contains_map (λ (m : Method). m.rel) methods method among)))),
)

pub empty_list : {X : Type 0} (xs : List X) → length xs ≡ 0 → xs ≡ []
empty_list [] e = refl
empty_list (x ∷ xs) e = absurd (omega (arith, e))

pub first_there : {X : Type 0} (xs : List X) → (length xs ≡ 0 → ⊥) → 0 < length xs
first_there [] e = absurd (e refl)
first_there (x ∷ xs) e = omega arith

module _ (schema : Schema) where
  abbrev parts : SchemaParts
  parts = meaning_of schema

  relation_of : (rel : ℕ) → IsReachable schema rel → (relation : Relation) × (slice_get schema.relations rel ≡ Some relation)
  relation_of rel (method, among, is) =
      let (relation, there) = relation_there schema method among in
      (relation, ap (slice_get schema.relations) (sym is) ∙ there)

  pub reachable_there : (rel : ℕ) → IsReachable schema rel → IsSome (slice_get schema.relations rel)
  reachable_there rel r = let (relation, is) = relation_of rel r in rw is refl

  pub of_schema : (methods : List Method) → methods ≡ schema.methods → (rels : List ℕ) → ((rel : ℕ) → Contains rels rel ↔ ((method : Method) × Contains methods method × (method.rel ≡ rel)))
      → (rel : ℕ) → Contains rels rel ↔ IsReachable schema rel
  of_schema methods are rels exactly = subst (λ (l : List Method). (rel : ℕ) → Contains rels rel ↔ ((method : Method) × Contains l method × (method.rel ≡ rel))) are exactly

  -- the relation of a class is reachable
  pub some_reachable : (classes : List Class) → AreClasses schema.methods classes → 0 < length classes → (rel : ℕ) × IsReachable schema rel
  some_reachable [] are some = absurd (omega (arith, some))
  some_reachable (class ∷ classes) are some =
      let (method, among, rel, inputs) = (are.exactly class).0 (contains_here class classes) in
      (class.0, (method, among, rel))

  -- without a method nothing is reachable
  pub none_reachable : schema.methods ≡ [] → (rel : ℕ) → IsReachable schema rel → ⊥
  none_reachable none rel (method, among, is) = contains_none method (subst (λ (l : List Method). Contains l method) none among)

  -- the list of what is reachable, for each lane
  listed_so : (rels : List ℕ) → ((rel : ℕ) → Contains rels rel ↔ IsReachable schema rel) → (place rel : ℕ) → needed rels rels place rel ↔ needed_to_crawl schema place rel
  listed_so rels exactly zero rel = exactly rel
  listed_so rels exactly (suc place) rel = exactly rel

  module _ {S : Type 0} (seen : S → Seen) where
    pub attaches_reachable : (rels lent : List ℕ) → lent ≡ rels → ((rel : ℕ) → Contains rels rel ↔ IsReachable schema rel) → (old new : List (Lane S)) (result : Result (Unit {0}) RunFault)
        → AttachesNeeded seen schema (needed lent lent) old new result → AttachesNeeded seen schema (needed_to_crawl schema) old new result
    attaches_reachable rels lent is exactly = needed_alike (needed lent lent) (needed_to_crawl schema)
        (listed_so lent (subst (λ (l : List ℕ). (rel : ℕ) → Contains l rel ↔ IsReachable schema rel) (sym is) exactly)) seen schema

    -- once they are attached, there is a lane for each of them
    pub some_lane : (old new : List (Lane S)) → AttachesNeeded seen schema (needed_to_crawl schema) old new (Ok tt) → (rel : ℕ) → IsReachable schema rel → 0 < length new
    some_lane [] new (done each have) rel r =
        let (line, is) = the_line (line_for rel schema.sources) (have.lines rel (0, r)) in
        absurd (have.kinds rel line (0, r) is (inl refl))
    some_lane (w ∷ ws) new (done each have) rel r =
        let long = attach_long seen schema each.rels (w ∷ ws) new each.order in omega (arith, long)

    -- and each lane has attached them
    pub each_attached : (old new : List (Lane S)) → AttachesNeeded seen schema (needed_to_crawl schema) old new (Ok tt) → (rel : ℕ) → IsReachable schema rel → OnEach new (IsAttachedTo seen schema rel)
    each_attached old new (done each have) rel r =
        let (line, line_is) = the_line (line_for rel schema.sources) (have.lines rel (0, r)) in
        let (relation, relation_is) = relation_of rel r in
        attached_each seen schema (IsAttachedTo seen schema rel) each.rels
        (λ place before after order. order_attached_to seen schema (each.rels place) (rises_strictly (each.rels place) (each.are place).ascends) rel
        (((each.are place).exactly rel).1 r) relation line relation_is line_is before after order)
        old new each.order

    -- requests leave relations attached
    still_attached : (rel : ℕ) (requests : List Request) (a b : List (Kind S)) → AsksLane seen schema requests a b → IsAttachedTo seen schema rel a → IsAttachedTo seen schema rel b
    still_attached rel requests a b asks h = record {
      relation = h.relation;
      line = h.line;
      relation_is = h.relation_is;
      line_is = h.line_is;
      attached = go (source_of a h.line.kind) (source_of b h.line.kind) (asks.tells h.line.kind) h.attached;
    }
      where
        go : (o p : Option S) → TellsSame seen o p → IsSomeAnd o (λ s. (seen s).attached rel ≡ Some (h.relation.columns, h.line.locator)) → IsSomeAnd p (λ s. (seen s).attached rel ≡ Some (h.relation.columns, h.line.locator))
        go None p same at = absurd at
        go (Some s) None same at = absurd same
        go (Some s) (Some t) same at = ap (λ f. f rel) same.1 ∙ at

    pub attached_later : (requests : List Request) (old new : List (Lane S)) → AsksEach seen schema requests old new → ((rel : ℕ) → IsReachable schema rel → OnEach old (IsAttachedTo seen schema rel)) → (rel : ℕ) → IsReachable schema rel → OnEach new (IsAttachedTo seen schema rel)
    attached_later requests old new asks all rel r =
        each_later seen schema (IsAttachedTo seen schema rel) (still_attached rel) old new (each_asked seen schema requests old new asks) (all rel r)

    held_earlier : (requests : List Request) (old new : List (Lane S)) → AsksEach seen schema requests old new → (instance : List Fact) → LanesHoldReachable seen schema new instance → LanesHoldReachable seen schema old instance
    held_earlier requests old new asks instance holds rel r line line_is =
        each_earlier seen schema (λ kinds. HoldsRelation seen kinds line.kind rel instance) (λ list a b only. relation_earlier seen schema list a b only line.kind rel instance)
        old new (each_asked seen schema requests old new asks) (holds rel r line line_is)

    -- ---- all that a crawl promises

    crawl_stays : (cap : ℕ) (old new : List (Lane S)) (result : Result (List Fact) RunFault) → AsksCrawl seen schema cap old new result → LanesStay seen old new
    crawl_stays cap old new (Ok part) did = asked_stay seen schema old new (each_asked seen schema did.requests old new did.asks)
    crawl_stays cap old new (Err why) halts = LanesStay-trans seen old halts.middle new
        (asked_stay seen schema old halts.middle (each_asked seen schema (asked_in halts.rounds) old halts.middle halts.asks_earlier))
        (asked_stay seen schema halts.middle new (only_asked seen schema halts.now halts.asks_now.lists halts.middle new halts.asks_now.lanes))

    are_reached : (cap : ℕ) (part : List Fact) (old new : List (Lane S)) → HasCrawled seen schema cap part old new → (instance : List Fact) → LanesHoldReachable seen schema new instance
        → (fact : Fact) → Contains part fact ↔ IsAccessible parts schema.constants instance fact
    are_reached cap part old new did instance holds fact =
        let (is, received) = did.means instance (held_earlier did.requests old new did.asks instance holds) in
        let reach = crawls_reach parts schema.constants instance did.requests is fact in (
          (λ c. reach.0 ((received fact).0 c)),
          (λ a. (received fact).1 (reach.1 a)),
        )

    broken : (rel : ℕ) (why : AttachFault) (old new : List (Lane S)) → AttachBreaksAt seen schema (needed_to_crawl schema) rel why old new → IsReachable schema rel
    broken rel why old new b =
        let r = b.breaks.refused in
        ((b.are b.breaks.place).exactly rel).0 (contains_got (b.rels b.breaks.place) r.n rel r.at)

    -- without a method attaches leave the lanes as they were
    pub attaches_idle : (old new : List (Lane S)) (result : Result (Unit {0}) RunFault) → AttachesNeeded seen schema (needed_to_crawl schema) old new result → schema.methods ≡ [] → new ≡ old
    attaches_idle old new result (done each have) none =
        attach_none seen schema each.rels (λ place rel c. none_reachable none rel (((each.are place).exactly rel).0 c)) old new each.order
    attaches_idle old new result (no_source rel first same) none = same
    attaches_idle old new result (unknown_kind rel first same) none = same
    attaches_idle old new result (refused rel why breaks have apart) none = absurd (none_reachable none rel (broken rel why old new breaks))
    attaches_idle old new result (no_memory (inl same)) none = same
    attaches_idle old new result (no_memory (inr (rel, breaks))) none = absurd (none_reachable none rel (broken rel attach.NoMemory old new breaks))

    pub went_on : (cap : ℕ) (old middle new : List (Lane S)) (result : Result (List Fact) RunFault) → AttachesNeeded seen schema (needed_to_crawl schema) old middle (Ok tt) → LanesStay seen old middle
        → IfOk result (λ part. HasCrawled seen schema cap part middle new) → IfOk result (λ part. AreDistinct part) → IfOk result (λ part. IsInstance parts part)
        → IfOk result (λ part. (fact : Fact) → Contains part fact → AreSorted itself parts fact.rel fact.row)
        → IfErr result (λ why. CrawlHalts seen schema cap why middle new) → (schema.methods ≡ [] → new ≡ middle) → Crawls seen schema cap old new result
    went_on cap old middle new (Ok part) attaches stay did once fits integers stops idle = record {
      facts = are_reached cap part middle new did;
      once = once;
      fits = fits;
      integers = integers;
      does = attached middle (Ok part) attaches did;
      stay = LanesStay-trans seen old middle new stay (crawl_stays cap middle new (Ok part) did);
      idle = λ none. idle none ∙ attaches_idle old middle (Ok tt) attaches none;
    }
    went_on cap old middle new (Err why) attaches stay did once fits integers stops idle = record {
      facts = tt;
      once = tt;
      fits = tt;
      integers = tt;
      does = attached middle (Err why) attaches stops;
      stay = LanesStay-trans seen old middle new stay (crawl_stays cap middle new (Err why) stops);
      idle = λ none. idle none ∙ attaches_idle old middle (Ok tt) attaches none;
    }

    pub not_begun : (cap : ℕ) (old new : List (Lane S)) (why : RunFault) → AttachesNeeded seen schema (needed_to_crawl schema) old new (Err why) → LanesStay seen old new → Crawls seen schema cap old new (Err why)
    not_begun cap old new why attaches stay = record {
      facts = tt;
      once = tt;
      fits = tt;
      integers = tt;
      does = not_attached why attaches;
      stay = stay;
      idle = attaches_idle old new (Err why) attaches;
    }

    pub no_room : (cap : ℕ) (lanes : List (Lane S)) → Crawls seen schema cap lanes lanes (Err fault.NoMemory)
    no_room cap lanes = not_begun cap lanes lanes fault.NoMemory (no_memory (inl refl)) (LanesStay-refl seen lanes)
