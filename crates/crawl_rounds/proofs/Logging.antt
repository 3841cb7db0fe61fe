-- The log of a crawl, and the crawls of the instances that gave its answers.
use Rattle.std.proofs.Common.{◌≡◌, ◌↔◌, ◌∙◌, ◌<◌, false, List, [], ◌∷◌, ◌++◌, length, refl, sym, ap, subst, inl, inr, ⊎_elim, append_assoc, arith}
use Rattle.std.specs.Prelude.{Contains, flat_map}
use Rattle.std.proofs.lemmas.List.{append-nil, length-map}
use Rattle.std.proofs.lemmas.List.Elements.{Contains-append_left}
use Rattle.std.proofs.lemmas.Grind.{flat_map-append}
use Rattle.lists.proofs.Members.{contains_map, contains_mapped}
use Rattle.meaning.specs.declared.types.Fact.{Fact}
use Rattle.meaning.specs.declared.types.Request.{Request}
use Rattle.meaning.specs.declared.types.SchemaParts.{SchemaParts}
use Rattle.meaning.specs.Values.{Value}
use Rattle.meaning.specs.Crawls.{IsPicked, IsReceived, IsKnownAfter, IsCrawlRound, AreCrawlRounds, IsCrawl}
use Rattle.crawl_rounds.specs.Rows.{Marked}
use Rattle.crawl_rounds.specs.Rounds.{round_requests, AreKnown, WereAsked}
use Rattle.crawl_rounds.specs.Log.{Answered, requests_of, Log, answers_of, rounds_of, IsGiven, WasGiven, is_begin, IsNextRound, IsCrawlLog, AreOf, IsAmong}
use Rattle.crawl_rounds.proofs.Rounds.{asked_after, is_round, none_asked}

pub requests_append : (xs ys : List Answered) → requests_of (xs ++ ys) ≡ requests_of xs ++ requests_of ys
requests_append [] ys = refl
requests_append (x ∷ xs) ys = ap (λ rs. x.request ∷ rs) (requests_append xs ys)

-- the requests of all rounds are those of all answers
pub flat_rounds : (log : Log) → flat_map (λ round. round) (rounds_of log) ≡ requests_of (answers_of log)
flat_rounds [] = refl
flat_rounds (round ∷ earlier) =
    flat_map-append (λ (r : List Request). r) (rounds_of earlier) (requests_of round ∷ []) ∙ ap (λ rs. rs ++ (requests_of round ++ [])) (flat_rounds earlier)
    ∙ ap (λ rs. requests_of (answers_of earlier) ++ rs) (append-nil (requests_of round)) ∙ sym (requests_append (answers_of earlier) round)

-- one round more
rounds_push : (schema : SchemaParts) (constants : List Value) (facts : List Fact) (earlier : List Request) (rounds : List (List Request)) (round : List Request) → AreCrawlRounds schema constants facts earlier rounds → IsCrawlRound schema constants facts (earlier ++ flat_map (λ r. r) rounds) round → 0 < length round → AreCrawlRounds schema constants facts earlier (rounds ++ round ∷ [])
rounds_push schema constants facts earlier [] round are is some = (subst (λ rs. IsCrawlRound schema constants facts rs round) (append-nil earlier) is, some, tt)
rounds_push schema constants facts earlier (first ∷ rounds) round (its, there, rest) is some =
    (its, there, rounds_push schema constants facts (earlier ++ first) rounds round rest (subst (λ rs. IsCrawlRound schema constants facts rs round) (sym (append_assoc earlier first (flat_map (λ r. r) rounds))) is) some)

-- what the answers have is what their requests received
pub among_received : (facts : List Fact) (answers : List Answered) → AreOf facts answers → (fact : Fact) → IsAmong answers fact ↔ IsReceived facts (requests_of answers) fact
among_received facts answers are fact = (
  (λ (answered, c, rel, has). (
    answered.request,
    contains_map (λ (a : Answered). a.request) answers answered c,
    subst (λ f. IsPicked facts answered.request f) (λ i. record { rel = rel i; row = fact.row }) ((are answered c fact.row).0 has),
  )),
  (λ (request, c, picked).
      let (answered, among, e) = contains_mapped (λ (a : Answered). a.request) answers request c in
      let its = subst (λ r. IsPicked facts r fact) (sym e) picked in
      (answered, among, sym its.of_relation, (are answered among fact.row).1 (subst (λ f. IsPicked facts answered.request f) (λ i. record { rel = its.of_relation i; row = fact.row }) its))),
)

-- what was given is given
still_given : (constants : List Value) (log : Log) (v : Value) → WasGiven constants log v → IsGiven constants (answers_of log) v
still_given constants [] v was = absurd was
still_given constants (round ∷ earlier) v was = ⊎_elim inl (λ (answered, c, rest). inr (answered, Contains-append_left (answers_of earlier) round answered c, rest)) was

module _ (schema : SchemaParts) (constants : List Value) (facts : List Fact) where
  given_known : (answers : List Answered) → AreOf facts answers → (v : Value) → IsGiven constants answers v ↔ IsKnownAfter constants facts (requests_of answers) v
  given_known answers are v = (
    (λ given. ⊎_elim inl (λ (answered, c, (row, has, k)). let fact : Fact = record { rel = answered.request.rel; row = row } in inr (fact, (among_received facts answers are fact).0 (answered, c, refl, has), k)) given),
    (λ known. ⊎_elim inl (λ (fact, received, k). let (answered, c, rel, has) = (among_received facts answers are fact).1 received in inr (answered, c, (fact.row, has, k))) known),
  )

  -- what was known before the last round
  abbrev WasKnown : Log → Value → Type 0
  WasKnown [] v = ⊥
  WasKnown (round ∷ earlier) v = IsKnownAfter constants facts (requests_of (answers_of earlier)) v

  front : (round : List Answered) (earlier : Log) → AreOf facts (answers_of (round ∷ earlier)) → AreOf facts (answers_of earlier)
  front round earlier are answered c row = are answered (Contains-append_left (answers_of earlier) round answered c) row

  was_known : (log : Log) → AreOf facts (answers_of log) → (v : Value) → WasGiven constants log v ↔ WasKnown log v
  was_known [] are v = ((λ b. b), (λ b. b))
  was_known (round ∷ earlier) are v = given_known (answers_of earlier) (front round earlier are) v

  known_of : (log : Log) → AreOf facts (answers_of log) → (values : List Marked) → AreKnown (WasGiven constants log) (IsGiven constants (answers_of log)) values → AreKnown (WasKnown log) (IsKnownAfter constants facts (requests_of (answers_of log))) values
  known_of log are values known = record {
    ascend = known.ascend;
    known = λ v. ((λ h. (given_known (answers_of log) are v).0 ((known.known v).0 h)), (λ k. (known.known v).1 ((given_known (answers_of log) are v).1 k)));
    fresh = λ v c was. known.fresh v c ((was_known log are v).1 was);
    old = λ v c. (was_known log are v).0 (known.old v c);
  }

  still_known : (log : Log) → AreOf facts (answers_of log) → (v : Value) → WasKnown log v → IsKnownAfter constants facts (requests_of (answers_of log)) v
  still_known log are v was = (given_known (answers_of log) are v).0 (still_given constants log v ((was_known log are v).1 was))

  -- all that could be asked before the last round was asked
  were_asked : (log : Log) → IsCrawlLog schema constants log → AreOf facts (answers_of log) → WereAsked schema (is_begin log) (WasKnown log) (requests_of (answers_of log))
  were_asked [] is are = none_asked schema (WasKnown [])
  were_asked (round ∷ earlier) (next, some, rest) are =
      let before = front round earlier are in
      let joined : requests_of (answers_of earlier) ++ round_requests (is_begin earlier) next.values next.classes ≡ requests_of (answers_of earlier ++ round) =
      ap (λ rs. requests_of (answers_of earlier) ++ rs) (sym next.round_is) ∙ sym (requests_append (answers_of earlier) round) in
      subst (WereAsked schema false (WasKnown (round ∷ earlier))) joined (asked_after schema (is_begin earlier) (WasKnown earlier) (IsKnownAfter constants facts (requests_of (answers_of earlier))) next.values next.classes next.are (known_of earlier before next.values next.known) (still_known earlier before) (requests_of (answers_of earlier)) (were_asked earlier rest before))

  -- the next round is one of the crawl
  pub next_is_round : (log : Log) (round : List Request) → IsCrawlLog schema constants log → AreOf facts (answers_of log) → IsNextRound schema constants log round → IsCrawlRound schema constants facts (requests_of (answers_of log)) round
  next_is_round log round is are next = subst (IsCrawlRound schema constants facts (requests_of (answers_of log))) (sym next.round_is)
      (is_round schema constants facts (requests_of (answers_of log)) (is_begin log) (WasKnown log) next.values next.classes next.are (known_of log are next.values next.known) (were_asked log is are))

  pub log_rounds : (log : Log) → IsCrawlLog schema constants log → AreOf facts (answers_of log) → AreCrawlRounds schema constants facts [] (rounds_of log)
  log_rounds [] is are = tt
  log_rounds (round ∷ earlier) (next, some, rest) are = rounds_push schema constants facts [] (rounds_of earlier) (requests_of round) (log_rounds earlier rest (front round earlier are))
      (subst (λ rs. IsCrawlRound schema constants facts rs (requests_of round)) (sym (flat_rounds earlier)) (next_is_round earlier (requests_of round) rest (front round earlier are) next))
      (omega (arith, some, length-map round (λ (a : Answered). a.request)))

  -- a log after which there is nothing to ask is a whole crawl
  pub log_is_crawl : (log : Log) → IsCrawlLog schema constants log → AreOf facts (answers_of log) → IsNextRound schema constants log [] → IsCrawl schema constants facts (requests_of (answers_of log))
  log_is_crawl log is are last = record {
    rounds = rounds_of log;
    are = log_rounds log is are;
    requests_are = sym (flat_rounds log);
    ended = λ request (of, all).
        let after = asked_after schema (is_begin log) (WasKnown log) (IsKnownAfter constants facts (requests_of (answers_of log))) last.values last.classes last.are (known_of log are last.values last.known) (still_known log are) (requests_of (answers_of log)) (were_asked log is are) in
        let none : requests_of (answers_of log) ++ round_requests (is_begin log) last.values last.classes ≡ requests_of (answers_of log) = ap (λ rs. requests_of (answers_of log) ++ rs) (sym last.round_is) ∙ append-nil (requests_of (answers_of log)) in
        subst (λ rs. Contains rs request) none ((after request).1 (of, all, refl));
  }
