-- The ways to make one atom one of the facts, fact by fact.
use Rattle.std.proofs.Common.{◌≡◌, ℕ, zero, suc, ◌+◌, ◌<◌, List, [], ◌∷◌, ◌++◌, length, Option, refl, sym, ap, ◌∙◌, subst, ⊎_elim, arith, Contains, take, slice_index_or}
use Rattle.std.proofs.lemmas.List.Elements.{Contains-append_left, Contains-push, Contains-push_cases}
use Rattle.lists.proofs.Members.{contains_here, contains_there, contains_cases, contains_none}
use Rattle.lists.proofs.Places.{take_indexed}
use Rattle.meaning.specs.declared.types.Term.TheVariants.{Var}
use Rattle.meaning.specs.declared.types.Val.{Val}
use Rattle.meaning.specs.declared.types.Atom.{Atom}
use Rattle.meaning.specs.declared.types.Ground.{Ground}
use Rattle.meaning.specs.Matching.{OccursIn}
use Rattle.meaning.specs.Triggers.{ground}
use Rattle.meaning.specs.Search.{AreDistinct}
use Rattle.homomorphism.specs.Bindings.{Agrees, IsBound}
use Rattle.homomorphism.specs.Ways.{AreApart, AreWays, IsWay}

-- what stands before a place differs from what stands there
pub distinct_take : {X : Type 0} (xs : List X) (i : ℕ) (d : X) → AreDistinct xs → i < length xs → Contains (take i xs) (slice_index_or xs i d) → ⊥
distinct_take [] i d z l c = omega arith
distinct_take (x ∷ xs) zero d z l c = contains_none x c
distinct_take (x ∷ xs) (suc i) d (new, z) l c =
    ⊎_elim (λ e. new (i, omega arith, refl ∙ get_default xs i x d (omega arith) ∙ sym e)) (λ h. distinct_take xs i d z (omega arith) h) (contains_cases x (take i xs) (slice_index_or xs i d) c)
  where
    get_default : {X : Type 0} (xs : List X) (i : ℕ) (d e : X) → i < length xs → slice_index_or xs i d ≡ slice_index_or xs i e
    get_default [] i d e l = absurd (omega arith)
    get_default (x ∷ xs) zero d e l = refl
    get_default (x ∷ xs) (suc i) d e l = get_default xs i d e (omega arith)

pub apart_take : (ways : List (List (Option Val))) (i : ℕ) (way : List (Option Val)) → AreApart ways → i < length ways → way ≡ slice_index_or ways i way →
    (other : List (Option Val)) → Contains (take i ways) other → (a : ℕ → Val) → Agrees other a → Agrees way a → ⊥
apart_take [] i way z l e other c a ag bg = omega arith
apart_take (w ∷ ways) zero way z l e other c a ag bg = contains_none other c
apart_take (w ∷ ways) (suc i) way (far, z) l e other c a ag bg =
    ⊎_elim (λ same. far way (i, omega arith, sym e) a (subst (λ v. Agrees v a) (sym same) ag) bg) (λ h. apart_take ways i way z (omega arith) e other h a ag bg) (contains_cases w (take i ways) other c)

apart_push : (ways : List (List (Option Val))) (way : List (Option Val)) → AreApart ways → ((other : List (Option Val)) → Contains ways other → (a : ℕ → Val) → Agrees other a → Agrees way a → ⊥) → AreApart (ways ++ way ∷ [])
apart_push [] way z far = ((λ other c a ag bg. contains_none other c), tt)
apart_push (w ∷ ways) way (first, z) far = (
  (λ other c a ag bg. ⊎_elim (λ h. first other h a ag bg) (λ e. far w (contains_here w ways) a ag (subst (λ v. Agrees v a) (sym e) bg)) (Contains-push_cases ways way other c)),
  apart_push ways way z (λ other c a ag bg. far other (contains_there w ways other c) a ag bg),
)

pub ways_none : (atom : Atom) (given : List (Option Val)) → AreWays [] atom given []
ways_none atom given = record {
  width = λ way c. absurd (contains_none way c);
  covers = λ way x c b. absurd (contains_none way c);
  wider = λ way a c ag. absurd (contains_none way c);
  sound = λ way a c ag. absurd (contains_none way c);
  complete = λ a ag c. absurd (contains_none (ground a atom) c);
  apart = tt;
}

module _ (done : List Ground) (fact : Ground) (atom : Atom) (given : List (Option Val)) (ways : List (List (Option Val))) (r : AreWays done atom given ways) where
  pub ways_skip : ((a : ℕ → Val) → Agrees given a → ground a atom ≡ fact → ⊥) → AreWays (done ++ fact ∷ []) atom given ways
  ways_skip not = record {
    width = r.width;
    covers = r.covers;
    wider = r.wider;
    sound = λ way a c ag. Contains-append_left done (fact ∷ []) (ground a atom) (r.sound way a c ag);
    complete = λ a ag c. ⊎_elim (λ h. r.complete a ag h) (λ e. absurd (not a ag (sym e))) (Contains-push_cases done fact (ground a atom) c);
    apart = r.apart;
  }

  pub ways_more : (way : List (Option Val)) → (Contains done fact → ⊥) → IsWay fact atom given way → AreWays (done ++ fact ∷ []) atom given (ways ++ way ∷ [])
  ways_more way new is = record {
    width = λ w c. ⊎_elim (λ h. r.width w h) (λ e. subst (λ v. length v ≡ length given) e is.narrows.width) (Contains-push_cases ways way w c);
    covers = λ w x c b. ⊎_elim (λ h. r.covers w x h b) (λ e. subst (λ v. IsBound v x) e (⊎_elim (λ g. is.narrows.kept x g) (λ o. is.narrows.bound x (occurs x o)) b)) (Contains-push_cases ways way w c);
    wider = λ w a c ag. ⊎_elim (λ h. r.wider w a h ag) (λ e. is.narrows.wider a (subst (λ v. Agrees v a) (sym e) ag)) (Contains-push_cases ways way w c);
    sound = λ w a c ag. ⊎_elim (λ h. Contains-append_left done (fact ∷ []) (ground a atom) (r.sound w a h ag)) (λ e. subst (λ f. Contains (done ++ fact ∷ []) f) (sym (made a (subst (λ v. Agrees v a) (sym e) ag))) (Contains-push done fact)) (Contains-push_cases ways way w c);
    complete = λ a ag c. ⊎_elim (λ h. let (w, among, bg) = r.complete a ag h in (w, Contains-append_left ways (way ∷ []) w among, bg)) (λ e. (way, Contains-push ways way, is.narrows.complete a ag (ap (λ (f : Ground). f.vals) (sym e)))) (Contains-push_cases done fact (ground a atom) c);
    apart = apart_push ways way r.apart (λ other c a ag bg. new (subst (λ f. Contains done f) (made a bg) (r.sound other a c ag)));
  }
    where
      made : (a : ℕ → Val) → Agrees way a → ground a atom ≡ fact
      made a ag = let e = is.relation in let v = is.narrows.sound a ag in λ i. record { rel = sym e i; vals = v i }

      occurs : (x : ℕ) → OccursIn (atom ∷ []) x → Contains atom.terms (Var x)
      occurs x (other, among, c) = ⊎_elim (λ e. subst (λ (t : Atom). Contains t.terms (Var x)) (sym e) c) (λ h. absurd (contains_none other h)) (contains_cases atom [] other among)

-- one turn of the loop over the facts
module _ (facts : List Ground) (i : ℕ) (fact : Ground) (atom : Atom) (given : List (Option Val)) (ways : List (List (Option Val))) (l : i < length facts) (is : fact ≡ slice_index_or facts i fact) (r : AreWays (take i facts) atom given ways) where
  one_more : take (i + 1) facts ≡ take i facts ++ fact ∷ []
  one_more = take_indexed facts i fact l is

  pub turn_skip : ((a : ℕ → Val) → Agrees given a → ground a atom ≡ fact → ⊥) → AreWays (take (i + 1) facts) atom given ways
  unfolding one_more
  turn_skip not = subst (λ done. AreWays done atom given ways) (sym one_more) (ways_skip (take i facts) fact atom given ways r not)

  pub turn_more : (way : List (Option Val)) → AreDistinct facts → IsWay fact atom given way → AreWays (take (i + 1) facts) atom given (ways ++ way ∷ [])
  unfolding one_more
  turn_more way once w = subst (λ done. AreWays done atom given (ways ++ way ∷ [])) (sym one_more) (ways_more (take i facts) fact atom given ways r way (λ c. distinct_take facts i fact once l (subst (λ f. Contains (take i facts) f) is c)) w)
