-- A plan that is there twice asks nothing more.
use Rattle.std.proofs.Common.{◌≡◌, ◌↔◌, inr, ℕ, zero, suc, List, [], ◌∷◌, ◌++◌, refl, sym, ◌∙◌, ap}
use Rattle.std.specs.Prelude.{Contains, slice_get}
use Rattle.std.specs.List.{AllZip}
use Rattle.std.proofs.lemmas.List.{append-nil}
use Rattle.std.proofs.lemmas.List.Concat.{flat_map-append}
use Rattle.lists.proofs.Members.{contains_here, contains_there, contains_joined, zip_push}
use Rattle.meaning.specs.declared.types.SchemaParts.{SchemaParts}
use Rattle.meaning.specs.declared.types.Fact.{Fact}
use Rattle.meaning.specs.declared.types.Plan.{Plan}
use Rattle.meaning.specs.declared.types.Request.{Request}
use Rattle.shared_rounds.specs.SharedRounds.{turns_of, IsTurn, Once, AreTurns, wanted_in, AreRounds}
use Rattle.shared_rounds.specs.Books.{with_asked}
use Rattle.shared_rounds.proofs.Adding.{asked_members}
use Rattle.shared_rounds.proofs.Booking.{asked_push, asked_twice}
use Rattle.shared_rounds.proofs.Rounding.{zip_first, same_turn}

-- where all of them were asked, none is asked
none_new : (requests asked : List Request) → ((r : Request) → Contains requests r → Contains asked r) → with_asked asked requests ≡ asked
none_new [] asked all = append-nil asked
none_new (request ∷ requests) asked all =
    asked_push (request ∷ []) requests asked
    ∙ ap (λ (l : List Request). with_asked l requests) (asked_twice asked request (all request (contains_here request requests)))
    ∙ none_new requests asked (λ r c. all r (contains_there request requests r c))

zip_split : {A B : Type 0} (R : A → B → Type 0) (xs : List A) (x : A) (ys : List B) → AllZip R (xs ++ x ∷ []) ys → (front : List B) × (y : B) × (ys ≡ front ++ y ∷ []) × AllZip R xs front × R x y
zip_split R [] x [] z = absurd z
zip_split R [] x (y ∷ []) z = ([], y, refl, tt, z.0)
zip_split R [] x (y ∷ w ∷ ys) z = absurd z.1
zip_split R (v ∷ xs) x [] z = absurd z
zip_split {A} {B} R (v ∷ xs) x (w ∷ ys) z =
    let (front, y, e, all, r) = zip_split R xs x ys z.1 in (w ∷ front, y, ap (λ (l : List B). w ∷ l) e, (z.0, all), r)

module _ (schema : SchemaParts) (facts : List Fact) (plans : List Plan) (plan : Plan) (of : Contains plans plan) where
  -- the last turn adds nothing
  last_none : (n : ℕ) (asked : List Request) (front : List (List Request)) (own : List Request) → AreTurns schema facts plans n front → IsTurn schema facts n plan own
      → with_asked asked (wanted_in (front ++ own ∷ [])) ≡ with_asked asked (wanted_in front)
  last_none n asked front own z is =
      ap (with_asked asked) (flat_map-append (λ (t : List Request). t) front (own ∷ []) ∙ ap (λ (l : List Request). wanted_in front ++ l) (append-nil own))
      ∙ asked_push (wanted_in front) own asked
      ∙ none_new own (with_asked asked (wanted_in front)) (λ r c.
      let (its, among, same) = zip_first (IsTurn schema facts n) plans front plan z of in
      (asked_members (wanted_in front) asked r).1
      (inr (contains_joined (λ (t : List Request). t) front its r among (same_turn schema facts (slice_get (turns_of plan) n) own its is same r c))))

  without : (n : ℕ) (list : List Request) → AreRounds schema facts (plans ++ plan ∷ []) Once n list → AreRounds schema facts plans Once n list
  without zero list e = e
  without (suc n) list (asked, turns, before, z, e) =
      let (front, own, is, all, last) = zip_split (IsTurn schema facts n) plans plan turns z in
      (asked, front, without n asked before, all, e ∙ ap (λ (t : List (List Request)). with_asked asked (wanted_in t)) is ∙ last_none n asked front own all last)

  with_it : (n : ℕ) (list : List Request) → AreRounds schema facts plans Once n list → AreRounds schema facts (plans ++ plan ∷ []) Once n list
  with_it zero list e = e
  with_it (suc n) list (asked, front, before, all, e) =
      let (own, among, last) = zip_first (IsTurn schema facts n) plans front plan all of in
      (asked, front ++ own ∷ [], with_it n asked before, zip_push (IsTurn schema facts n) plans front plan own all last, e ∙ sym (last_none n asked front own all last))

pub again : (schema : SchemaParts) (facts : List Fact) (plans : List Plan) (plan : Plan) (n : ℕ) (requests : List Request) → Contains plans plan
    → AreRounds schema facts (plans ++ plan ∷ []) Once n requests ↔ AreRounds schema facts plans Once n requests
again schema facts plans plan n requests of = (without schema facts plans plan of n requests, with_it schema facts plans plan of n requests)
