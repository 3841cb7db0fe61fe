-- Links that lead round: marks that go along the older links tell whether a last link closes a circle.
use Rattle.std.proofs.Common.{◌≡◌, ◌⊎◌, ◌+◌, ◌∙◌, sym, ap, subst, ◌<◌, ◌≤◌, ◌↔◌, ℕ, suc, zero, List, [], ◌∷◌, ◌++◌, Bool, true, false, not, ◌&&◌, ◌||◌, cond, length, get_or, set, Some, None, refl, inl, inr, ⊎_elim, arith, replicate}
use Rattle.std.specs.Prelude.{Contains, All, count_by}
use Rattle.std.specs.List.{find}
use Rattle.std.proofs.lemmas.Bool.{cases_eq, cases_Bool}
use Rattle.std.proofs.lemmas.List.Elements.{Contains-push_cases, Contains-append_left, Contains-push}
use Rattle.std.proofs.lemmas.List.Sums.{sum_by-set}
use Rattle.std.proofs.lemmas.List.{length-set, get_or-set_same, get_or-set_other, set-get_or, length-replicate}
use Rattle.access_schema.specs.declared.recursion.Link.{Link}
use Rattle.access_schema.specs.Feeding.{IsChain}
use Rattle.access_schema.specs.Links.{Joins, LeadRound, IsBelow, AreBelow, IsMarked, Reaches, Spreads}
use Rattle.access_schema.specs.Marks.{any_marked, all_marked, with_marks, is_open}
use Rattle.lists.proofs.Members.{contains_here, contains_there, contains_cases}
use Rattle.lists.proofs.Booleans.{both_true, not_true}

-- a chain that goes one step on
pub chain_on : (Step : ℕ → ℕ → Type 0) (source : ℕ) (between : List ℕ) (middle target : ℕ) → IsChain Step source between middle → Step middle target → IsChain Step source (between ++ middle ∷ []) target
chain_on Step source [] middle target chain step = (chain, step)
chain_on Step source (next ∷ between) middle target chain step = (chain.0, chain_on Step next between middle target chain.1 step)

pub chain_along : (R S : ℕ → ℕ → Type 0) → ((a b : ℕ) → R a b → S a b) → (source : ℕ) (between : List ℕ) (target : ℕ) → IsChain R source between target → IsChain S source between target
chain_along R S to source [] target chain = to source target chain
chain_along R S to source (next ∷ between) target chain = (to source next chain.0, chain_along R S to next between target chain.1)

-- a step by all links is one by the older, or by the last
pub joins_cases : (older : List Link) (last : Link) (source target : ℕ) → Joins (older ++ last ∷ []) source target → Joins older source target ⊎ (Contains last.body source × Contains last.head target)
joins_cases older last source target joins = ⊎_elim
    (λ among. inl (record { link = joins.link; of_links = among; reads = joins.reads; makes = joins.makes }))
    (λ is. inr (subst (λ (link : Link). Contains link.body source × Contains link.head target) (sym is) (joins.reads, joins.makes)))
    (Contains-push_cases older last joins.link joins.of_links)

pub joins_older : (older : List Link) (last : Link) (source target : ℕ) → Joins older source target → Joins (older ++ last ∷ []) source target
joins_older older last source target joins = record { link = joins.link; of_links = Contains-append_left older (last ∷ []) joins.link joins.of_links; reads = joins.reads; makes = joins.makes }

pub joins_last : (older : List Link) (last : Link) (source target : ℕ) → Contains last.body source → Contains last.head target → Joins (older ++ last ∷ []) source target
joins_last older last source target reads makes = record { link = last; of_links = Contains-push older last; reads = reads; makes = makes }

-- what is reached by the older links is reached by all
pub reaches_older : (older : List Link) (last : Link) (source target : ℕ) → Reaches older source target → Reaches (older ++ last ∷ []) source target
reaches_older older last source target reaches = ⊎_elim
    (λ same. inl same)
    (λ (between, chain). inr (between, chain_along (Joins older) (Joins (older ++ last ∷ [])) (joins_older older last) source between target chain))
    reaches

-- one that the last head reaches, in the last body, closes a circle
pub circle_closed : (older : List Link) (last : Link) (number start : ℕ) → Contains last.body number → Contains last.head start → Reaches older start number → LeadRound (older ++ last ∷ [])
circle_closed older last number start reads makes reached = ⊎_elim
    (λ same. (number, [], joins_last older last number number reads (subst (λ n. Contains last.head n) same makes)))
    (λ (between, chain). (number, start ∷ between, (joins_last older last number start reads makes, chain)))
    (reaches_older older last start number reached)

module _ (older : List Link) (last : Link) (marks : List Bool)
    (closed : (link : Link) (source target : ℕ) → Contains older link → Contains link.body source → IsMarked marks source → Contains link.head target → IsMarked marks target)
    (heads : (number : ℕ) → Contains last.head number → IsMarked marks number)
    (free : (number : ℕ) → Contains last.body number → IsMarked marks number → ⊥) where
  -- from a marked relation on, each step is one by an older link, to a marked relation
  marked_step : (source target : ℕ) → IsMarked marks source → Joins (older ++ last ∷ []) source target → Joins older source target × IsMarked marks target
  marked_step source target marked joins = ⊎_elim
      (λ old. (old, closed old.link source target old.of_links old.reads marked old.makes))
      (λ (reads, makes). absurd (free source reads marked))
      (joins_cases older last source target joins)

  marked_chain : (source : ℕ) (between : List ℕ) (target : ℕ) → IsMarked marks source → IsChain (Joins (older ++ last ∷ [])) source between target → IsChain (Joins older) source between target × IsMarked marks target
  marked_chain source [] target marked chain = marked_step source target marked chain
  marked_chain source (next ∷ between) target marked chain =
      let (step, on) = marked_step source next marked chain.0 in
      let (rest, end) = marked_chain next between target on chain.1 in
      ((step, rest), end)

  -- a chain is one by the older links, or ends at a marked relation
  chain_cases : (source : ℕ) (between : List ℕ) (target : ℕ) → IsChain (Joins (older ++ last ∷ [])) source between target → IsChain (Joins older) source between target ⊎ IsMarked marks target
  chain_cases source [] target chain = ⊎_elim (λ old. inl old) (λ (reads, makes). inr (heads target makes)) (joins_cases older last source target chain)
  chain_cases source (next ∷ between) target chain = ⊎_elim
      (λ old. ⊎_elim (λ rest. inl (old, rest)) (λ marked. inr marked) (chain_cases next between target chain.1))
      (λ (reads, makes). inr (marked_chain next between target (heads next makes) chain.1).1)
      (joins_cases older last source next chain.0)

  -- so no circle goes over the last link
  pub no_circle : (LeadRound older → ⊥) → LeadRound (older ++ last ∷ []) → ⊥
  no_circle straight (number, between, chain) = ⊎_elim
      (λ old. straight (number, between, old))
      (λ marked. straight (number, between, (marked_chain number between number marked chain).0))
      (chain_cases number between number chain)

pub length-with_marks : (marks : List Bool) (numbers : List ℕ) → length (with_marks marks numbers) ≡ length marks
length-with_marks marks [] = refl
length-with_marks marks (number ∷ numbers) = length-with_marks (set marks number true) numbers ∙ length-set marks number true

set_kept : (marks : List Bool) (at number : ℕ) → at < length marks → IsMarked marks number → IsMarked (set marks at true) number
set_kept marks at number lt marked = ⊎_elim
    (λ same. subst (λ n. IsMarked (set marks at true) n) (sym same) (get_or-set_same marks at true false lt))
    (λ other. get_or-set_other marks at number true false other ∙ marked)
    (cases_eq number at)

set_only : (marks : List Bool) (at number : ℕ) → IsMarked (set marks at true) number → IsMarked marks number ⊎ (at ≡ number)
set_only marks at number marked = ⊎_elim
    (λ same. inr (sym same))
    (λ other. inl (sym (get_or-set_other marks at number true false other) ∙ marked))
    (cases_eq number at)

below_set : (marks : List Bool) (at : ℕ) (numbers : List ℕ) → All (λ n. n < length marks) numbers → All (λ n. n < length (set marks at true)) numbers
below_set marks at numbers below = subst (λ (count : ℕ). All (λ n. n < count) numbers) (sym (length-set marks at true)) below

all_head : (P : ℕ → Type 0) (x : ℕ) (xs : List ℕ) → All P (x ∷ xs) → P x
all_head P x xs all = all 0 x (omega arith)

all_tail : (P : ℕ → Type 0) (x : ℕ) (xs : List ℕ) → All P (x ∷ xs) → All P xs
all_tail P x xs all k d lt = all (suc k) d (omega arith)

pub marks_kept : (marks : List Bool) (numbers : List ℕ) (number : ℕ) → All (λ n. n < length marks) numbers → IsMarked marks number → IsMarked (with_marks marks numbers) number
marks_kept marks [] number below marked = marked
marks_kept marks (at ∷ numbers) number below marked =
    marks_kept (set marks at true) numbers number (below_set marks at numbers (all_tail (λ n. n < length marks) at numbers below)) (set_kept marks at number (all_head (λ n. n < length marks) at numbers below) marked)

pub marks_made : (marks : List Bool) (numbers : List ℕ) (number : ℕ) → All (λ n. n < length marks) numbers → Contains numbers number → IsMarked (with_marks marks numbers) number
marks_made marks [] number below among = absurd (omega arith)
marks_made marks (at ∷ numbers) number below among =
    let lt : at < length marks = all_head (λ n. n < length marks) at numbers below in
    let rest = below_set marks at numbers (all_tail (λ n. n < length marks) at numbers below) in
    ⊎_elim
    (λ same. marks_kept (set marks at true) numbers number rest (subst (λ n. IsMarked (set marks at true) n) same (get_or-set_same marks at true false lt)))
    (λ later. marks_made (set marks at true) numbers number rest later)
    (contains_cases at numbers number among)

pub marks_only : (marks : List Bool) (numbers : List ℕ) (number : ℕ) → IsMarked (with_marks marks numbers) number → IsMarked marks number ⊎ Contains numbers number
marks_only marks [] number marked = inl marked
marks_only marks (at ∷ numbers) number marked = ⊎_elim
    (λ before. ⊎_elim (λ old. inl old) (λ same. inr (subst (λ n. Contains (at ∷ numbers) n) same (contains_here at numbers))) (set_only marks at number before))
    (λ later. inr (contains_there at numbers number later))
    (marks_only (set marks at true) numbers number marked)

-- how many are not marked
unmarked_le : (marks : List Bool) (at : ℕ) → at < length marks → count_by not (set marks at true) ≤ count_by not marks
unmarked_le marks at lt = let e = sum_by-set (λ m. cond (not m) 1 0) marks at true false lt in omega arith

unmarked_lt : (marks : List Bool) (at : ℕ) → at < length marks → get_or marks at false ≡ false → count_by not (set marks at true) < count_by not marks
unmarked_lt marks at lt free =
    let e : count_by not (set marks at true) + cond (not (get_or marks at false)) 1 0 ≡ count_by not marks + 0 = sum_by-set (λ m. cond (not m) 1 0) marks at true false lt in
    let f : count_by not (set marks at true) + 1 ≡ count_by not marks + 0 = subst (λ (b : Bool). count_by not (set marks at true) + cond (not b) 1 0 ≡ count_by not marks + 0) free e in
    omega arith

unmarked_all_le : (marks : List Bool) (numbers : List ℕ) → All (λ n. n < length marks) numbers → count_by not (with_marks marks numbers) ≤ count_by not marks
unmarked_all_le marks [] below = omega arith
unmarked_all_le marks (at ∷ numbers) below =
    let one : count_by not (set marks at true) ≤ count_by not marks = unmarked_le marks at (all_head (λ n. n < length marks) at numbers below) in
    let rest : count_by not (with_marks (set marks at true) numbers) ≤ count_by not (set marks at true) = unmarked_all_le (set marks at true) numbers (below_set marks at numbers (all_tail (λ n. n < length marks) at numbers below)) in
    omega arith

-- marking a list that is not marked yet leaves fewer unmarked
pub unmarked_falls : (marks : List Bool) (numbers : List ℕ) → All (λ n. n < length marks) numbers → all_marked marks numbers ≡ false → count_by not (with_marks marks numbers) < count_by not marks
unmarked_falls marks [] below free = absurd (cc)
unmarked_falls marks (at ∷ numbers) below free =
    let lt : at < length marks = all_head (λ n. n < length marks) at numbers below in
    let later = below_set marks at numbers (all_tail (λ n. n < length marks) at numbers below) in
    let rest : count_by not (with_marks (set marks at true) numbers) ≤ count_by not (set marks at true) = unmarked_all_le (set marks at true) numbers later in
    ⊎_elim
    (λ yes.
    let others : all_marked marks numbers ≡ false = rw yes at free in
    let same : set marks at true ≡ marks = ap (λ (m : Bool). set marks at m) (sym yes) ∙ set-get_or marks at false in
    rw same (unmarked_falls marks numbers (all_tail (λ n. n < length marks) at numbers below) others))
    (λ no. let one : count_by not (set marks at true) < count_by not marks = unmarked_lt marks at lt no in omega arith)
    (cases_Bool (get_or marks at false))

pub record SpreadsSoFar (links : List Link) (old new : List Bool) : Type 0 where
  pub long : length new ≡ length old
  pub kept : (number : ℕ) → IsMarked old number → IsMarked new number
  pub sound : (number : ℕ) → IsMarked new number → (start : ℕ) × IsMarked old start × Reaches links start number

reaches_on : (links : List Link) (start source target : ℕ) → Reaches links start source → Joins links source target → Reaches links start target
reaches_on links start source target reached step = inr (⊎_elim
    (λ same. let P : ℕ → Type 0 = λ n. (between : List ℕ) × IsChain (Joins links) n between target in subst P (sym same) ([], step))
    (λ (between, chain). (between ++ source ∷ [], chain_on (Joins links) start between source target chain step))
    reached)

any_found : (marks : List Bool) (numbers : List ℕ) → any_marked marks numbers ≡ true → (number : ℕ) × Contains numbers number × IsMarked marks number
any_found marks [] any = absurd (cc)
any_found marks (at ∷ numbers) any = elim (get_or marks at false) as (λ b. get_or marks at false ≡ b → (b || any_marked marks numbers) ≡ true → (number : ℕ) × Contains (at ∷ numbers) number × IsMarked marks number) [
  | true ↦ λ here more. (at, contains_here at numbers, here)
  | false ↦ λ here more. let (number, among, marked) = any_found marks numbers more in (number, contains_there at numbers number among, marked)
] refl any

none_found : (marks : List Bool) (numbers : List ℕ) → any_marked marks numbers ≡ false → (number : ℕ) → Contains numbers number → IsMarked marks number → ⊥
none_found marks [] any number among marked = omega arith
none_found marks (at ∷ numbers) any number among marked = elim (get_or marks at false) as (λ b. get_or marks at false ≡ b → (b || any_marked marks numbers) ≡ false → ⊥) [
  | true ↦ λ here more. cc
  | false ↦ λ here more. ⊎_elim (λ same. let e = ap (λ n. get_or marks n false) same in cc) (λ later. none_found marks numbers more number later marked) (contains_cases at numbers number among)
] refl any

all_found : (marks : List Bool) (numbers : List ℕ) → all_marked marks numbers ≡ true → (number : ℕ) → Contains numbers number → IsMarked marks number
all_found marks [] all number among = absurd (omega arith)
all_found marks (at ∷ numbers) all number among = elim (get_or marks at false) as (λ b. get_or marks at false ≡ b → (b && all_marked marks numbers) ≡ true → IsMarked marks number) [
  | true ↦ λ here more. ⊎_elim (λ same. ap (λ n. get_or marks n false) (sym same) ∙ here) (λ later. all_found marks numbers more number later) (contains_cases at numbers number among)
  | false ↦ λ here more. absurd (cc)
] refl all

pub open_found : (p : Link → Bool) (links : List Link) (link : Link) → find p links ≡ Some link → Contains links link × (p link ≡ true)
open_found p [] link is = absurd (cc)
open_found p (first ∷ links) link is = elim (p first) as (λ b. p first ≡ b → cond b (Some first) (find p links) ≡ Some link → Contains (first ∷ links) link × (p link ≡ true)) [
  | true ↦ λ here found. let same : first ≡ link = cc in (subst (λ (l : Link). Contains (first ∷ links) l) same (contains_here first links), ap p (sym same) ∙ here)
  | false ↦ λ here found. let (among, true_there) = open_found p links link found in (contains_there first links link among, true_there)
] refl is

none_open : (p : Link → Bool) (links : List Link) → find p links ≡ None → (link : Link) → Contains links link → p link ≡ false
none_open p [] is link among = absurd (omega arith)
none_open p (first ∷ links) is link among = elim (p first) as (λ b. p first ≡ b → cond b (Some first) (find p links) ≡ None → p link ≡ false) [
  | true ↦ λ here found. absurd (cc)
  | false ↦ λ here found. ⊎_elim (λ same. ap p (sym same) ∙ here) (λ later. none_open p links found link later) (contains_cases first links link among)
] refl is

pub below_found : (count : ℕ) (links : List Link) (link : Link) → AreBelow count links → Contains links link → IsBelow count link
below_found count [] link below among = absurd (omega arith)
below_found count (first ∷ links) link below among = ⊎_elim (λ same. subst (λ (l : Link). IsBelow count l) same below.0) (λ later. below_found count links link below.1 later) (contains_cases first links link among)

-- marking the head of an open link goes on from the marks
pub spread_more : (links : List Link) (old new : List Bool) (link : Link) → AreBelow (length new) links → find (is_open new) links ≡ Some link → SpreadsSoFar links old new → SpreadsSoFar links old (with_marks new link.head)
spread_more links old new link below found so_far =
    let (among, open_is) = open_found (is_open new) links link found in
    let (reads, free) = both_true _ _ open_is in
    let (source, of_body, marked) = any_found new link.body reads in
    let (start, began, reached) = so_far.sound source marked in
    let fits = below_found (length new) links link below among in
    record {
      long = length-with_marks new link.head ∙ so_far.long;
      kept = λ number was. marks_kept new link.head number fits.head (so_far.kept number was);
      sound = λ number is. ⊎_elim
          (λ before. so_far.sound number before)
          (λ makes. (start, began, reaches_on links start source number reached (record { link = link; of_links = among; reads = of_body; makes = makes })))
          (marks_only new link.head number is);
    }

pub spread_falls : (links : List Link) (new : List Bool) (link : Link) → AreBelow (length new) links → find (is_open new) links ≡ Some link → count_by not (with_marks new link.head) < count_by not new
spread_falls links new link below found =
    let (among, open_is) = open_found (is_open new) links link found in
    let (reads, free) = both_true _ _ open_is in
    unmarked_falls new link.head (below_found (length new) links link below among).head (not_true _ free)

shut_open : (a b : Bool) → a ≡ true → b ≡ false → (a && not b) ≡ false → ⊥
shut_open true true first second shut = cc
shut_open true false first second shut = cc
shut_open false b first second shut = cc

closed_from : (marks : List Bool) (link : Link) → is_open marks link ≡ false → (source target : ℕ) → Contains link.body source → IsMarked marks source → Contains link.head target → IsMarked marks target
closed_from marks link shut source target reads marked makes = ⊎_elim
    (λ found_all. all_found marks link.head found_all target makes)
    (λ (other : all_marked marks link.head ≡ false). ⊎_elim
    (λ (any : any_marked marks link.body ≡ true). absurd (shut_open _ _ any other shut))
    (λ none. absurd (none_found marks link.body none source reads marked))
    (cases_Bool (any_marked marks link.body)))
    (cases_Bool (all_marked marks link.head))

-- where no link is open the marks are whole
pub spread_all : (links : List Link) (old new : List Bool) → find (is_open new) links ≡ None → SpreadsSoFar links old new → Spreads links old new
spread_all links old new found so_far = record {
  long = so_far.long;
  kept = so_far.kept;
  sound = so_far.sound;
  closed = λ link source target among reads marked makes. closed_from new link (none_open (is_open new) links found link among) source target reads marked makes;
}

none_marked : (count number : ℕ) → IsMarked (replicate count false) number → ⊥
none_marked zero number marked = cc
none_marked (suc count) zero marked = cc
none_marked (suc count) (suc number) marked = none_marked count number marked

-- the spread marks of the last head meet the last body exactly where the links lead round
pub round_exactly : (older : List Link) (last : Link) (count : ℕ) (marks : List Bool) (round : Bool) → IsBelow count last → Spreads older (with_marks (replicate count false) last.head) marks → (LeadRound older → ⊥) → round ≡ any_marked marks last.body → (round ≡ true) ↔ LeadRound (older ++ last ∷ [])
round_exactly older last count marks round below spreads straight is =
    let none : List Bool = replicate count false in
    let long : length none ≡ count = length-replicate count false in
    let fits : All (λ n. n < length none) last.head = subst (λ (c : ℕ). All (λ n. n < c) last.head) (sym long) below.head in (
      λ found.
          let (number, reads, marked) = any_found marks last.body (sym is ∙ found) in
          let (start, began, reached) = spreads.sound number marked in
          ⊎_elim (λ before. absurd (none_marked count start before)) (λ makes. circle_closed older last number start reads makes reached) (marks_only none last.head start began),
      λ leads. ⊎_elim
          (λ found. found)
          (λ lacking. absurd (no_circle older last marks spreads.closed
          (λ number makes. spreads.kept number (marks_made none last.head number fits makes))
          (none_found marks last.body (sym is ∙ lacking)) straight leads))
          (cases_Bool round),
    )
