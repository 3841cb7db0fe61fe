-- What a crawl received is exactly the accessible part.
use Rattle.std.proofs.Common.{◌≡◌, ◌∙◌, ℕ, List, [], ◌∷◌, ◌++◌, length, Some, refl, sym, subst, inl, inr, ⊎_elim, arith}
use Rattle.std.specs.Prelude.{◌↔◌, Contains, slice_get, flat_map}
use Rattle.std.specs.List.{AllZip}
use Rattle.std.proofs.lemmas.List.Elements.{Contains-append_cases, Contains-append_left, Contains-append_right}
use Rattle.lists.proofs.Members.{contains_here, contains_there, contains_cases, contains_none}
use Rattle.meaning.specs.declared.types.Fact.{Fact}
use Rattle.meaning.specs.declared.types.Request.{Request}
use Rattle.meaning.specs.declared.types.SchemaParts.{SchemaParts}
use Rattle.meaning.specs.Values.{Value, Row}
use Rattle.meaning.specs.Access.{IsKnown, CanAccess, IsAccessPath, IsAccessible}
use Rattle.meaning.specs.Crawls.{IsPicked, IsReceived, IsKnownAfter, CanAskAfter, AreCrawlRounds, IsCrawl}
use Rattle.meaning_laws.proofs.Closing.{access_more}

-- the value that a fact has at a position of a request
value_at : (row : Row) (positions : List ℕ) (values : List Value) → AllZip (λ p value. slice_get row p ≡ Some value) positions values → (p : ℕ) → Contains positions p → (value : Value) × Contains values value × (slice_get row p ≡ Some value)
value_at row [] values z p c = absurd (contains_none p c)
value_at row (q ∷ positions) [] z p c = absurd z
value_at row (q ∷ positions) (v ∷ values) (got, z) p c =
    ⊎_elim (λ e. (v, contains_here v values, subst (λ n. slice_get row n ≡ Some v) e got)) (λ h. let (w, d, its) = value_at row positions values z p h in (w, contains_there v values w d, its)) (contains_cases q positions p c)

-- the values of a fact at the inputs, one for each
values_at : (Known : Value → Type 0) (row : Row) (inputs : List ℕ) → ((p : ℕ) → Contains inputs p → (value : Value) × (slice_get row p ≡ Some value) × Known value)
    → (values : List Value) × AllZip (λ p value. slice_get row p ≡ Some value) inputs values × (length values ≡ length inputs) × ((value : Value) → Contains values value → Known value)
values_at Known row [] has = ([], tt, refl, λ v c. absurd (contains_none v c))
values_at Known row (p ∷ inputs) has =
    let (v, got, known) = has p (contains_here p inputs) in
    let (values, z, long, all) = values_at Known row inputs (λ q c. has q (contains_there p inputs q c)) in
    (v ∷ values, (got, z), omega (arith, long), λ w c. ⊎_elim (λ e. subst Known e known) (λ h. all w h) (contains_cases v values w c))

module _ (schema : SchemaParts) (constants : List Value) (facts : List Fact) where
  -- two paths, one after the other
  paths_join : (later earlier : List Fact) → IsAccessPath schema constants facts later → IsAccessPath schema constants facts earlier → IsAccessPath schema constants facts (later ++ earlier)
  paths_join [] earlier t u = u
  paths_join (fact ∷ later) earlier (holds, access, t) u =
      (holds, access_more schema constants later (later ++ earlier) fact (λ f c. Contains-append_left later earlier f c) access, paths_join later earlier t u)

  known_more : (earlier later : List Fact) (v : Value) → ((f : Fact) → Contains earlier f → Contains later f) → IsKnown constants earlier v → IsKnown constants later v
  known_more earlier later v within = ⊎_elim inl (λ (f, c, i). inr (f, within f c, i))

  -- what requests received is accessible
  abbrev Reach : List Request → Type 0
  Reach requests = (fact : Fact) → IsReceived facts requests fact → IsAccessible schema constants facts fact

  -- one path after which a value is known
  path_to : (earlier : List Request) → Reach earlier → (v : Value) → IsKnownAfter constants facts earlier v → (trail : List Fact) × IsAccessPath schema constants facts trail × IsKnown constants trail v
  path_to earlier reach v = ⊎_elim (λ c. ([], tt, inl c)) (λ (f, received, i). let (before, t) = reach f received in (f ∷ before, t, inr (f, contains_here f before, i)))

  -- one path after which all of the values are known
  path_to_all : (earlier : List Request) → Reach earlier → (values : List Value) → ((v : Value) → Contains values v → IsKnownAfter constants facts earlier v)
      → (trail : List Fact) × IsAccessPath schema constants facts trail × ((v : Value) → Contains values v → IsKnown constants trail v)
  path_to_all earlier reach [] known = ([], tt, λ v c. absurd (contains_none v c))
  path_to_all earlier reach (v ∷ values) known =
      let (first, t, its) = path_to earlier reach v (known v (contains_here v values)) in
      let (rest, u, all) = path_to_all earlier reach values (λ w c. known w (contains_there v values w c)) in (
        first ++ rest,
        paths_join first rest t u,
        λ w c. ⊎_elim (λ e. subst (λ x. IsKnown constants (first ++ rest) x) e (known_more first (first ++ rest) v (λ f d. Contains-append_left first rest f d) its))
            (λ h. known_more rest (first ++ rest) w (λ f d. Contains-append_right first rest f d) (all w h)) (contains_cases v values w c),
      )

  -- a fact in the answer to a request that could be asked is accessible
  asked_reach : (earlier : List Request) → Reach earlier → (request : Request) → CanAskAfter schema constants facts earlier request → (fact : Fact) → IsPicked facts request fact → IsAccessible schema constants facts fact
  asked_reach earlier reach request (its, known) fact picked =
      let (trail, t, all) = path_to_all earlier reach request.values known in (
        trail,
        (
          picked.holds,
          record {
            method = its.method;
            of_schema = its.of_schema;
            of_relation = sym (picked.of_relation ∙ its.of_relation);
            inputs = λ p c.
                let (v, among, got) = value_at fact.row request.positions request.values picked.agrees p (subst (λ ps. Contains ps p) (sym its.positions) c) in
                (v, got, all v among);
          },
          t,
        ),
      )

  -- round by round
  rounds_reach : (earlier : List Request) (rounds : List (List Request)) → Reach earlier → AreCrawlRounds schema constants facts earlier rounds → (request : Request) → Contains (flat_map (λ round. round) rounds) request → (fact : Fact) → IsPicked facts request fact → IsAccessible schema constants facts fact
  rounds_reach earlier [] reach are request c fact picked = absurd (contains_none request c)
  rounds_reach earlier (round ∷ rounds) reach (first, some, rest) request c fact picked =
      ⊎_elim (λ d. of_round request d fact picked) (λ d. rounds_reach (earlier ++ round) rounds more rest request d fact picked) (Contains-append_cases round (flat_map (λ r. r) rounds) request c)
    where
      of_round : (r : Request) → Contains round r → (f : Fact) → IsPicked facts r f → IsAccessible schema constants facts f
      of_round r d f its = asked_reach earlier reach r ((first.exactly r).0 d).0 f its

      more : Reach (earlier ++ round)
      more f (r, d, its) = ⊎_elim (λ h. reach f (r, h, its)) (λ h. of_round r h f its) (Contains-append_cases earlier round r d)

  -- where each request that can be asked was asked, a fact that can be accessed after received ones is received
  next_received : (requests : List Request) → ((request : Request) → CanAskAfter schema constants facts requests request → Contains requests request) → (earlier : List Fact) → ((f : Fact) → Contains earlier f → IsReceived facts requests f) → (fact : Fact) → Contains facts fact → CanAccess schema constants earlier fact → IsReceived facts requests fact
  next_received requests ended earlier received fact holds access =
      let (values, agrees, long, known) = values_at (IsKnownAfter constants facts requests) fact.row access.method.inputs
      (λ p d. let (v, got, its) = access.inputs p d in (v, got, ⊎_elim inl (λ (f, e, i). inr (f, received f e, i)) its)) in
      let request : Request = record { rel = fact.rel; positions = access.method.inputs; values = values } in
      (request, ended request (record { method = access.method; of_schema = access.of_schema; of_relation = sym access.of_relation; positions = refl; width = long }, known), record { holds = holds; of_relation = refl; agrees = agrees })

  -- and so each fact of a path
  path_received : (requests : List Request) → ((request : Request) → CanAskAfter schema constants facts requests request → Contains requests request) → (trail : List Fact) → IsAccessPath schema constants facts trail → (fact : Fact) → Contains trail fact → IsReceived facts requests fact
  path_received requests ended [] t fact c = absurd (contains_none fact c)
  path_received requests ended (last ∷ earlier) (holds, access, t) fact c =
      ⊎_elim (λ e. subst (IsReceived facts requests) e (next_received requests ended earlier (λ f d. path_received requests ended earlier t f d) last holds access)) (λ h. path_received requests ended earlier t fact h) (contains_cases last earlier fact c)

  pub crawls_reach : (requests : List Request) → IsCrawl schema constants facts requests → (fact : Fact) → IsReceived facts requests fact ↔ IsAccessible schema constants facts fact
  crawls_reach requests crawl fact = (
    (λ (request, c, picked). rounds_reach [] crawl.rounds (λ f (r, d, its). absurd (contains_none r d)) crawl.are request (subst (λ rs. Contains rs request) crawl.requests_are c) fact picked),
    (λ (earlier, t). path_received requests crawl.ended (fact ∷ earlier) t fact (contains_here fact earlier)),
  )
