-- The requests that the plans of a batch want in a round, those of them that are new, and their numbers.
use Rattle.std.proofs.Common.{◌≡◌, ⊎_elim, ℕ, ◌+◌, ◌-◌, ◌<◌, ◌≤◌, List, [], ◌∷◌, ◌++◌, Bool, true, false, cond, length, length-append, drop, Some, sym, ◌∙◌, ap, subst, arith}
use Rattle.std.specs.Prelude.{Contains, slice_get}
use Rattle.std.proofs.lemmas.List.{append_cancel_left, length-map, map-append}
use Rattle.std.proofs.Math.Seq.{drop-append_seam}
use Rattle.lists.proofs.Members.{contains_here, contains_there, contains_cases, contains_got, contains_mapped, got_below, got_mapped, joined_from, map_got, some_injective}
use Rattle.lists.proofs.Places.{got_after}
use Rattle.meaning.specs.declared.types.Plan.{Plan}
use Rattle.meaning.specs.declared.types.Request.{Request}
use Rattle.meaning.specs.Search.{AreDistinct}
use Rattle.access_schema.specs.declared.schema.Schema.{Schema}
use Rattle.source_trait.specs.declared.work.Ask.{Ask}
use Rattle.middleware.specs.LaneRounds.{requests_in}
use Rattle.shared_rounds.specs.SharedRounds.{is_asked, Once, to_ask, wanted_in}
use Rattle.shared_rounds.specs.Books.{asked_in}
use Rattle.shared_rounds.specs.declared.book.Book.{Book}
use Rattle.shared_rounds.proofs.Adding.{asked_distinct}
use Rattle.plan_course.specs.Turns.{asks_of}
use Rattle.plan_batches.specs.Batching.{IsFirstWith}
use Rattle.plan_batches.specs.Naming.{IsFirstGoing, NumbersBelow, WantsNumber}
use Rattle.plan_batches.specs.Rounding.{TurnsNoted, turns_by}
use Rattle.plan_batches.specs.declared.member.Member.{Member}
use Rattle.plan_batches.specs.declared.member.Going.{Going}
use Rattle.plan_batches.proofs.Numbering.{its_number, its_request, number_below, one_place}

-- what is to be asked is wanted
pub wanted_there : (asked requests : List Request) (r : Request) → Contains (to_ask Once asked requests) r → Contains requests r
wanted_there asked [] r c = c
wanted_there asked (x ∷ requests) r c =
    go (is_asked asked x) c (wanted_there asked requests r) (wanted_there (asked ++ x ∷ []) requests r)
  where
    go : (b : Bool) → Contains (cond b (to_ask Once asked requests) (x ∷ to_ask Once (asked ++ x ∷ []) requests)) r
        → (Contains (to_ask Once asked requests) r → Contains requests r) → (Contains (to_ask Once (asked ++ x ∷ []) requests) r → Contains requests r)
        → Contains (x ∷ requests) r
    go true h first second = contains_there x requests r (first h)
    go false h first second = ⊎_elim
        (λ e. subst (λ (z : Request). Contains (x ∷ requests) z) e (contains_here x requests))
        (λ l. contains_there x requests r (second l))
        (contains_cases x (to_ask Once (asked ++ x ∷ []) requests) r h)

-- a request that plans want is one plan's
pub wanted_by : (goings : List Going) (r : Request) → Contains (wanted_in (turns_by goings)) r → (going : Going) × Contains goings going × Contains (asks_of going.next) r
wanted_by goings r c =
    let (turn, among, here) = joined_from (λ (t : List Request). t) (turns_by goings) r c in
    let (going, of, is) = contains_mapped (λ (g : Going). asks_of g.next) goings turn among in
    (going, of, subst (λ (t : List Request). Contains t r) (sym is) here)

module _ (schema : Schema) (plans : List Plan) (members : List Member) (old new : Book) (goings : List Going)
    (noted : TurnsNoted schema plans members old new goings) where
  abbrev pub more : List Ask
  more = noted.onward.0

  abbrev pub fresh : List Request
  fresh = to_ask Once (asked_in old.asked.items) (wanted_in (turns_by goings))

  pub more_are : requests_in more ≡ fresh
  more_are = append_cancel_left (asked_in old.asked.items) (requests_in more) fresh
      (sym (map-append (λ (a : Ask). a.request) old.asked.items more) ∙ sym (ap asked_in noted.onward.1) ∙ noted.asked)

  pub long_asked : length new.asked.items ≡ length old.asked.items + length more
  long_asked = ap length noted.onward.1 ∙ length-append old.asked.items more

  pub dropped : drop (length old.asked.items) new.asked.items ≡ more
  dropped = ap (drop (length old.asked.items)) noted.onward.1 ∙ drop-append_seam old.asked.items more

  pub distinct_asked : AreDistinct (asked_in old.asked.items) → AreDistinct (asked_in new.asked.items)
  distinct_asked d = subst (λ (l : List Request). AreDistinct l) (sym noted.asked) (asked_distinct (wanted_in (turns_by goings)) (asked_in old.asked.items) d)

  -- a number behind the earlier ones is that of a new request
  pub fresh_same : (k : ℕ) → slice_get (asked_in new.asked.items) (length old.asked.items + k) ≡ slice_get fresh k
  fresh_same k =
      let long = length-map old.asked.items (λ (a : Ask). a.request) in
      let place : length old.asked.items + k ≡ length (asked_in old.asked.items) + k = omega (arith, long) in
      ap (slice_get (asked_in new.asked.items)) place
      ∙ ap (λ (l : List Request). slice_get l (length (asked_in old.asked.items) + k)) noted.asked
      ∙ got_after (asked_in old.asked.items) fresh k

  pub below : NumbersBelow (length new.asked.items) goings
  below going number among c =
      let less = number_below (asked_in new.asked.items) (asks_of going.next) going.numbers.items (noted.are going among) number c in
      let long = length-map new.asked.items (λ (a : Ask). a.request) in
      omega (arith, less, long)

  module _ (distinct : AreDistinct (asked_in new.asked.items)) where
    -- each new request is wanted by its number
    pub wanted_number : (number : ℕ) → length old.asked.items ≤ number → number < length new.asked.items → WantsNumber goings number
    wanted_number number over under =
        let (ask, at) = got_below new.asked.items number under in
        let here : slice_get (asked_in new.asked.items) number ≡ Some ask.request = map_got (λ (a : Ask). a.request) new.asked.items number ask at in
        let place : number ≡ length old.asked.items + (number - length old.asked.items) = omega (arith, over) in
        let got : slice_get fresh (number - length old.asked.items) ≡ Some ask.request =
        sym (fresh_same (number - length old.asked.items)) ∙ ap (slice_get (asked_in new.asked.items)) (sym place) ∙ here in
        let (going, of, c) = wanted_by goings ask.request (wanted_there (asked_in old.asked.items) (wanted_in (turns_by goings)) ask.request
        (contains_got fresh (number - length old.asked.items) ask.request got)) in
        let (n, among, its) = its_number (asked_in new.asked.items) (asks_of going.next) going.numbers.items (noted.are going of) ask.request c in
        let same : n ≡ number = one_place (asked_in new.asked.items) distinct n number ask.request its here in
        (going, of, subst (λ k. Contains going.numbers.items k) same among)

    -- the first plan that wants a number has the first turn with its request
    pub first_with : (plan number : ℕ) (r : Request) → slice_get (asked_in new.asked.items) number ≡ Some r → IsFirstGoing goings plan number
        → IsFirstWith (turns_by goings) plan r
    first_with plan number r at first =
        let of = contains_got goings plan first.going first.at in
        let (request, among, its) =
        its_request (asked_in new.asked.items) (asks_of first.going.next) first.going.numbers.items (noted.are first.going of) number first.among in
        record {
          turn = asks_of first.going.next;
          at = map_got (λ (g : Going). asks_of g.next) goings plan first.going first.at;
          among = subst (λ (z : Request). Contains (asks_of first.going.next) z) (some_injective request r (sym its ∙ at)) among;
          before = λ k other less is c.
              let (going, got, same) = got_mapped (λ (g : Going). asks_of g.next) goings k other is in
              let (n, in_numbers, here) =
              its_number (asked_in new.asked.items) (asks_of going.next) going.numbers.items (noted.are going (contains_got goings k going got)) r
              (subst (λ (t : List Request). Contains t r) (sym same) c) in
              let e : n ≡ number = one_place (asked_in new.asked.items) distinct n number r here at in
              first.before k going less got (subst (λ m. Contains going.numbers.items m) e in_numbers);
        }
