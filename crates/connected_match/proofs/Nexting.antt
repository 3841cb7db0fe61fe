-- The rows that a link leads to, from the matches of its atom.
use Rattle.std.proofs.Common.{◌≡◌, ℕ, ◌+◌, ◌<◌, ◌≤◌, List, [], ◌∷◌, ◌++◌, length, map, take, refl, sym, ap, ◌∙◌, subst, inl, inr, ⊎_elim, arith}
use Rattle.std.specs.Prelude.{Contains, Option, Some, None, IfSome, IfNone, slice_get, slice_index_or, is_some}
use Rattle.std.proofs.lemmas.Bool.{cases_lt}
use Rattle.std.proofs.lemmas.List.{length-append, length-map, map-append, take_more}
use Rattle.std.proofs.lemmas.Option.{slice_get-get_or}
use Rattle.std.proofs.lemmas.List.FromFn.{get_or-map-range_with_len}
use Rattle.lists.proofs.Members.{contains_here, contains_cases, contains_map, contains_mapped, got_before, got_below, map_got, map_same, some_injective, contains_none}
use Rattle.meaning.specs.declared.types.Val.{Val}
use Rattle.meaning.specs.declared.types.Val.TheVariants.{Label}
use Rattle.meaning.specs.declared.types.Ground.{Ground}
use Rattle.meaning.specs.Triggers.{bound}
use Rattle.homomorphism.specs.declared.assignment.Assignment.{Assignment}
use Rattle.homomorphism.specs.Bindings.{at, values_of}
use Rattle.homomorphism.specs.Matches.{IsMatch, NoMatch, AreMatches, AreCovered}
use Rattle.connected_match.specs.declared.chain.Link.{Link}
use Rattle.connected_match.specs.Chains.{Leads, LinkFits, AreNexts}
use Rattle.connected_match.specs.Walks.{empty_row_if, kept_of, HavePlaces}

module _ (facts : List Ground) (link : Link) (row : List Val) (given : List (Option Val)) (same : given ≡ map Some row ++ link.values) where
  leads_by : (vals : List Val) → IsMatch facts link.atoms given vals → Leads facts link row (map (at vals) link.kept)
  leads_by vals m = (at vals, subst (λ g. (x : ℕ) (v : Val) → slice_get g x ≡ Some (Some v) → at vals x ≡ v) same m.agrees, m.facts_are, refl)

  -- where nothing is kept, one match is enough
  pub one_next : link.kept ≡ [] → (found : Option Assignment) → IfSome found (λ m. IsMatch facts link.atoms given m.vals) → IfNone found (NoMatch facts link.atoms given) →
      AreNexts facts link row (empty_row_if (is_some found))
  one_next none (Some m) some never = record {
    each = λ next among. ⊎_elim
        (λ e. subst (Leads facts link row) (ap (map (at m.vals)) none ∙ e) (leads_by m.vals some))
        (λ i. absurd (contains_none next i)) (contains_cases [] [] next among);
    all = λ next (a, agrees, made, e). subst (Contains ([] ∷ [])) (sym (e ∙ ap (map a) none)) (contains_here [] []);
  }
  one_next none None some never = record {
    each = λ next among. absurd (contains_none next among);
    all = λ next (a, agrees, made, e). absurd (never a (subst (λ g. (x : ℕ) (v : Val) → slice_get g x ≡ Some (Some v) → a x ≡ v) (sym same) agrees) made);
  }

  long : length given ≡ length row + length link.values
  long = ap length same ∙ length-append (map Some row) link.values ∙ ap (λ n. n + length link.values) (length-map row Some)

  pub link_covered : LinkFits (length row) link → AreCovered link.atoms given
  link_covered fits x low = ⊎_elim
      (λ inside. let (v, got) = got_below row x inside in inl (v, ap (λ g. slice_get g x) same ∙ got_before (map Some row) link.values x (let e = length-map row Some in omega (arith, inside, e)) ∙ map_got Some row x v got))
      (λ past. inr (fits.others x past (let e = long in omega (arith, low, e))))
      (cases_lt x (length row))

  pub have_places : (found : List Assignment) → LinkFits (length row) link → AreMatches facts link.atoms given found → HavePlaces found link.kept
  have_places found fits are one among k inside = let low = fits.kept k inside in let wide = (are.each one among).width in let e = long in omega (arith, low, wide, e)

  -- each match gives a row
  pub all_nexts : (found : List Assignment) → LinkFits (length row) link → AreMatches facts link.atoms given found → AreNexts facts link row (map (kept_of link.kept) found)
  all_nexts found fits are = record {
    each = λ next among. let (m, inside, e) = contains_mapped (kept_of link.kept) found next among in subst (Leads facts link row) e (leads_by m.vals (are.each m inside));
    all = λ next (a, agrees, made, e).
        let inside : Contains found (record { vals = values_of (length given) a }) = are.all a (subst (λ g. (x : ℕ) (v : Val) → slice_get g x ≡ Some (Some v) → a x ≡ v) (sym same) agrees) made in
        let f : map (at (values_of (length given) a)) link.kept ≡ map a link.kept = map_same (at (values_of (length given) a)) a link.kept
        (λ k among. get_or-map-range_with_len a 0 (length given) k k (Label 0) (let low = fits.kept k among in let w = long in omega (arith, low, w)) (omega arith)) in
        subst (Contains (map (kept_of link.kept) found)) (f ∙ sym e) (contains_map (kept_of link.kept) found (record { vals = values_of (length given) a }) inside);
  }

-- the value at one more place
pub kept_next : (vals row after : List Val) (kept : List ℕ) (k : ℕ) (value : Val) → k < length kept → slice_index_or kept k 0 < length vals → value ≡ slice_index_or vals (slice_index_or kept k 0) value →
    row ≡ map (at vals) (take k kept) → after ≡ row ++ value ∷ [] → after ≡ map (at vals) (take (k + 1) kept)
kept_next vals row after kept k value low below is so pushed =
    let place : ℕ = slice_index_or kept k 0 in
    let same : value ≡ at vals place = some_injective value (at vals place) (ap Some is ∙ sym (slice_get-get_or vals place value below) ∙ slice_get-get_or vals place (Label 0) below) in
    pushed ∙ ap (λ l. l ++ value ∷ []) so ∙ ap (λ v. map (at vals) (take k kept) ++ v ∷ []) same
    ∙ sym (map-append (at vals) (take k kept) (place ∷ [])) ∙ sym (ap (map (at vals)) (take_more kept k 0 low))
