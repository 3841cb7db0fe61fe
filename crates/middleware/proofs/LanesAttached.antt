-- How far the attaches on several lanes have come.
use Rattle.std.proofs.Common.{◌≡◌, ◌≢◌, ◌<◌, ◌≤◌, ◌+◌, ℕ, zero, suc, List, [], ◌∷◌, length, get_or, Some, refl, sym, ◌∙◌, ap, subst, arith}
use Rattle.std.specs.Prelude.{slice_get, slice_set}
use Rattle.std.proofs.lemmas.Option.{slice_get-get_or}
use Rattle.lists.proofs.Members.{some_injective}
use Rattle.access_schema.specs.declared.schema.Schema.{Schema}
use Rattle.source_trait.specs.Asking.{Seen}
use Rattle.source_trait.specs.declared.source.AttachFault.{AttachFault}
use Rattle.source_trait.specs.declared.lanes.Lane.{Lane}
use Rattle.middleware.specs.Sources.{AttachBreaks}
use Rattle.middleware.specs.Needs.{listed, AttachesLane, LanesAttach, LanesBreak}
use Rattle.middleware.proofs.LaneRuns.{set_other, set_same}

-- one place on, the list is that of the further lanes
pub listed_next : (first others : List ℕ) (n : ℕ) → others ≡ listed first others (n + 1)
listed_next first others n = let more : suc n ≡ n + 1 = omega arith in subst (λ m. others ≡ listed first others m) more refl

module _ {S : Type 0} (seen : S → Seen) (schema : Schema) where
  -- the first n lanes have attached their relations, and the others stay
  abbrev pub AttachedTo : (ℕ → List ℕ) → ℕ → List (Lane S) → List (Lane S) → Type 0
  AttachedTo rels n [] [] = Unit {0}
  AttachedTo rels zero (x ∷ xs) (y ∷ ys) = (y ≡ x) × AttachedTo rels zero xs ys
  AttachedTo rels (suc n) (x ∷ xs) (y ∷ ys) = AttachesLane seen schema (rels zero) x y × AttachedTo (λ place. rels (suc place)) n xs ys
  AttachedTo rels n [] (y ∷ ys) = ⊥
  AttachedTo rels n (x ∷ xs) [] = ⊥

  pub none_attached : (rels : ℕ → List ℕ) (lanes : List (Lane S)) → AttachedTo rels 0 lanes lanes
  none_attached rels [] = tt
  none_attached rels (x ∷ xs) = (refl, none_attached rels xs)

  one_attached : (rels : ℕ → List ℕ) (n : ℕ) (old now : List (Lane S)) (before after : Lane S) → AttachedTo rels n old now
      → slice_get now n ≡ Some before → AttachesLane seen schema (rels n) before after → AttachedTo rels (suc n) old (slice_set now n after)
  one_attached rels n [] [] before after so_far at one = absurd (cc)
  one_attached rels n [] (y ∷ ys) before after so_far at one = absurd so_far
  one_attached rels n (x ∷ xs) [] before after so_far at one = absurd so_far
  one_attached rels zero (x ∷ xs) (y ∷ ys) before after so_far at one = (
    subst (λ (lane : Lane S). AttachesLane seen schema (rels zero) lane after) (sym (some_injective y before at) ∙ so_far.0) one,
    none_later xs ys so_far.1,
  )
    where
      none_later : (ws us : List (Lane S)) → AttachedTo rels zero ws us → AttachedTo (λ place. rels (suc place)) zero ws us
      none_later [] [] h = tt
      none_later [] (u ∷ us) h = absurd h
      none_later (w ∷ ws) [] h = absurd h
      none_later (w ∷ ws) (u ∷ us) h = (h.0, none_later ws us h.1)
  one_attached rels (suc n) (x ∷ xs) (y ∷ ys) before after so_far at one =
      (so_far.0, one_attached (λ place. rels (suc place)) n xs ys before after so_far.1 at one)

  -- one lane more has attached its relations
  pub next_attached : (rels : ℕ → List ℕ) (n : ℕ) (old now : List (Lane S)) (d after : Lane S) → AttachedTo rels n old now → n < length now
      → AttachesLane seen schema (rels n) (get_or now n d) after → AttachedTo rels (n + 1) old (slice_set now n after)
  next_attached rels n old now d after so_far less one =
      let more : suc n ≡ n + 1 = omega arith in
      subst (λ m. AttachedTo rels m old (slice_set now n after)) more
      (one_attached rels n old now (get_or now n d) after so_far (slice_get-get_or now n d less) one)

  -- the other lanes are as they were
  pub still_there : (rels : ℕ → List ℕ) (n k : ℕ) (old now : List (Lane S)) → AttachedTo rels n old now → n ≤ k → slice_get now k ≡ slice_get old k
  still_there rels n k [] [] so_far past = refl
  still_there rels n k [] (y ∷ ys) so_far past = absurd so_far
  still_there rels n k (x ∷ xs) [] so_far past = absurd so_far
  still_there rels zero zero (x ∷ xs) (y ∷ ys) so_far past = ap Some so_far.0
  still_there rels zero (suc k) (x ∷ xs) (y ∷ ys) so_far past = still_there rels zero k xs ys so_far.1 (omega arith)
  still_there rels (suc n) zero (x ∷ xs) (y ∷ ys) so_far past = absurd (omega arith)
  still_there rels (suc n) (suc k) (x ∷ xs) (y ∷ ys) so_far past = still_there (λ place. rels (suc place)) n k xs ys so_far.1 (omega arith)

  attached_at : (rels : ℕ → List ℕ) (n k : ℕ) (old now : List (Lane S)) (lane its : Lane S) → AttachedTo rels n old now → k < n
      → slice_get old k ≡ Some lane → slice_get now k ≡ Some its → AttachesLane seen schema (rels k) lane its
  attached_at rels n k [] now lane its so_far less was is = absurd (cc)
  attached_at rels n k (x ∷ xs) [] lane its so_far less was is = absurd so_far
  attached_at rels zero k (x ∷ xs) (y ∷ ys) lane its so_far less was is = absurd (omega arith)
  attached_at rels (suc n) zero (x ∷ xs) (y ∷ ys) lane its so_far less was is =
      subst (λ (l : Lane S). AttachesLane seen schema (rels zero) l its) (some_injective x lane was)
      (subst (λ (l : Lane S). AttachesLane seen schema (rels zero) x l) (some_injective y its is) so_far.0)
  attached_at rels (suc n) (suc k) (x ∷ xs) (y ∷ ys) lane its so_far less was is =
      attached_at (λ place. rels (suc place)) n k xs ys lane its so_far.1 (omega arith) was is

  pub all_attached : (rels : ℕ → List ℕ) (n : ℕ) (old now : List (Lane S)) → AttachedTo rels n old now → length old ≤ n
      → LanesAttach seen schema rels old now
  all_attached rels n [] [] so_far past = tt
  all_attached rels n [] (y ∷ ys) so_far past = absurd so_far
  all_attached rels n (x ∷ xs) [] so_far past = absurd so_far
  all_attached rels zero (x ∷ xs) (y ∷ ys) so_far past = absurd (omega arith)
  all_attached rels (suc n) (x ∷ xs) (y ∷ ys) so_far past = (so_far.0, all_attached (λ place. rels (suc place)) n xs ys so_far.1 (omega arith))

  refused_at : (rels : ℕ → List ℕ) (n : ℕ) (old now : List (Lane S)) (before after : Lane S) (rel : ℕ) (fault : AttachFault)
      → AttachedTo rels n old now → slice_get now n ≡ Some before
      → AttachBreaks seen schema (rels n) rel fault before.kinds.items after.kinds.items → after.stopped ≡ before.stopped
      → LanesBreak seen schema rels rel fault old (slice_set now n after)
  refused_at rels n old now before after rel fault so_far at breaks stopped = record {
    place = n;
    before = before;
    after = after;
    was = sym (still_there rels n n old now so_far (omega arith)) ∙ at;
    now = set_same now n before after at;
    earlier = λ k lane its less was is. attached_at rels n k old now lane its so_far less was
        (sym (set_other now n k after (apart k less)) ∙ is);
    refused = breaks;
    stopped = stopped;
    later = λ k past. set_other now n k after (past_it k past) ∙ still_there rels n k old now so_far (omega (arith, past));
  }
    where
      apart : (k : ℕ) → k < n → k ≢ n
      apart k less e = absurd (omega (arith, less, e))

      past_it : (k : ℕ) → n < k → k ≢ n
      past_it k less e = absurd (omega (arith, less, e))

  -- the lanes before have attached their relations, and on this lane an attach was refused
  pub attach_refused : (rels : ℕ → List ℕ) (n : ℕ) (old now : List (Lane S)) (d after : Lane S) (rel : ℕ) (fault : AttachFault)
      → AttachedTo rels n old now → n < length now → AttachBreaks seen schema (rels n) rel fault (get_or now n d).kinds.items after.kinds.items
      → after.stopped ≡ (get_or now n d).stopped → LanesBreak seen schema rels rel fault old (slice_set now n after)
  attach_refused rels n old now d after rel fault so_far less =
      refused_at rels n old now (get_or now n d) after rel fault so_far (slice_get-get_or now n d less)

  -- the lane whose turn it is is the one at its place before the loop
  pub here_still : (rels : ℕ → List ℕ) (n : ℕ) (old now : List (Lane S)) (d : Lane S) → AttachedTo rels n old now → n < length now
      → slice_get old n ≡ Some (get_or now n d)
  here_still rels n old now d so_far less = sym (still_there rels n n old now so_far (omega arith)) ∙ slice_get-get_or now n d less
