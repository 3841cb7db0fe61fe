-- Exposures that are marked: those before which others are marked by their inputs are in order.
use Rattle.std.proofs.Common.{◌≡◌, ◌⊎◌, ℕ, zero, suc, ◌+◌, ◌-◌, take, get_or, ◌<◌, ◌≤◌, List, [], ◌∷◌, ◌++◌, length, Bool, true, false, Some, refl, sym, ap, ◌∙◌, subst, inl, inr, ⊎_elim, arith, append_assoc}
use Rattle.std.specs.Prelude.{Contains, slice_get, slice_set}
use Rattle.std.specs.Ordering.{nat_cmp}
use Rattle.std.specs.BTreeMap.{BTreeMap, get}
use Rattle.std.proofs.lemmas.Bool.{cases_lt}
use Rattle.std.proofs.lemmas.List.{length_push, length-take-le, map-append, take_more}
use Rattle.std.proofs.lemmas.Option.{slice_get_within, slice_get-get_or}
use Rattle.std.proofs.lemmas.List.Elements.{Contains-push, Contains-push_cases, Contains-append_left}
use Rattle.lists.proofs.Members.{some_injective, contains_here, contains_there, contains_cases, contains_got, contains_map, contains_mapped, got_push, got_before}
use Rattle.lists.proofs.Places.{take_got, got_member}
use Rattle.meaning.specs.declared.types.SchemaParts.{SchemaParts}
use Rattle.meaning.specs.declared.types.Ground.{Ground}
use Rattle.meaning.specs.declared.types.Val.{Val}
use Rattle.meaning.specs.declared.types.Val.TheVariants.{Const, Label}
use Rattle.meaning.specs.Values.{Value}
use Rattle.meaning.specs.Naming.{AreNamed}
use Rattle.meaning.specs.Runs.{IsKnownValue}
use Rattle.meaning.specs.Extract.{Exposure, exposed_facts, IsExposing, exposures_cost}
use Rattle.plan_extract.specs.Resting.{IsFirstWith, RestsOn}
use Rattle.plan_extract.specs.Resting.RestsOn.{exposed as rests_exposed, input as rests_input}
use Rattle.plan_extract.specs.Trimmed.{picked}
use Rattle.plan_extract.specs.Passes.{AreOrigins, IsOriginAt, IsMarked, HoldsWanted, AreClosed}
use Rattle.plan_extract.proofs.Noting.{either_option}

-- ---- members that are marked

pub picked_has : {X : Type 0} (xs : List X) (marks : List Bool) (k : ℕ) (x : X) → slice_get xs k ≡ Some x → IsMarked marks k → Contains (picked xs marks) x
picked_has [] marks k x e m = absurd (cc)
picked_has (y ∷ xs) [] k x e m = absurd (cc)
picked_has (y ∷ xs) (true ∷ marks) zero x e m = subst (λ z. Contains (y ∷ picked xs marks) z) (some_injective y x e) (contains_here y (picked xs marks))
picked_has (y ∷ xs) (true ∷ marks) (suc k) x e m = contains_there y (picked xs marks) x (picked_has xs marks k x e m)
picked_has (y ∷ xs) (false ∷ marks) zero x e m = absurd (let h : Some false ≡ Some true = m in cc)
picked_has (y ∷ xs) (false ∷ marks) (suc k) x e m = picked_has xs marks k x e m

pub picked_back : {X : Type 0} (xs : List X) (marks : List Bool) (x : X) → Contains (picked xs marks) x → (k : ℕ) × (slice_get xs k ≡ Some x) × IsMarked marks k
picked_back [] marks x c = absurd (omega arith)
picked_back (y ∷ xs) [] x c = absurd (omega arith)
picked_back (y ∷ xs) (true ∷ marks) x c = ⊎_elim (λ e. (0, ap (λ z. Some z) e, refl)) (λ h. let (k, at, m) = picked_back xs marks x h in (suc k, at, m)) (contains_cases y (picked xs marks) x c)
picked_back (y ∷ xs) (false ∷ marks) x c = let (k, at, m) = picked_back xs marks x c in (suc k, at, m)

pub length-picked : {X : Type 0} (xs : List X) (marks : List Bool) → length (picked xs marks) ≤ length xs
length-picked [] marks = omega arith
length-picked (y ∷ xs) [] = omega arith
length-picked (y ∷ xs) (true ∷ marks) = let l = length-picked xs marks in omega arith
length-picked (y ∷ xs) (false ∷ marks) = let l = length-picked xs marks in omega arith

pub picked_cost : (exposures : List Exposure) (marks : List Bool) → exposures_cost (picked exposures marks) ≤ exposures_cost exposures
picked_cost [] marks = omega arith
picked_cost (e ∷ exposures) [] = omega arith
picked_cost (e ∷ exposures) (true ∷ marks) = let l = picked_cost exposures marks in omega arith
picked_cost (e ∷ exposures) (false ∷ marks) = let l = picked_cost exposures marks in omega arith

-- members that are marked, one more
pub picked_more : {X : Type 0} (xs : List X) (marks : List Bool) (x : X) (mark : Bool) → length marks ≡ length xs → picked (xs ++ x ∷ []) (marks ++ mark ∷ []) ≡ picked xs marks ++ picked (x ∷ []) (mark ∷ [])
picked_more [] [] x mark long = refl
picked_more [] (m ∷ marks) x mark long = absurd (omega arith)
picked_more (y ∷ xs) [] x mark long = absurd (omega arith)
picked_more (y ∷ xs) (true ∷ marks) x mark long = ap (λ z. y ∷ z) (picked_more xs marks x mark (omega arith))
picked_more (y ∷ xs) (false ∷ marks) x mark long = picked_more xs marks x mark (omega arith)

pub picked_taken : {X : Type 0} (xs : List X) (marks : List Bool) (n : ℕ) (x : X) (mark : Bool) → slice_get xs n ≡ Some x → slice_get marks n ≡ Some mark →
    picked (take (n + 1) xs) (take (n + 1) marks) ≡ picked (take n xs) (take n marks) ++ picked (x ∷ []) (mark ∷ [])
picked_taken xs marks n x mark got at =
    let below = slice_get_within xs n x got in
    let within = slice_get_within marks n mark at in
    let l = length-take-le n xs (omega arith) in
    let m = length-take-le n marks (omega arith) in
    ap (λ list. picked list (take (n + 1) marks)) (take_got xs n x got) ∙ ap (λ list. picked (take n xs ++ x ∷ []) list) (take_got marks n mark at)
    ∙ picked_more (take n xs) (take n marks) x mark (m ∙ sym l)

-- ---- the marked exposures are in order

module _ (schema : SchemaParts) (constants : List Value) (n : ℕ) (base : List Ground) (named : AreNamed constants n base) (all : List Exposure) (marks : List Bool) (closed : AreClosed all 0 marks) where
  got_middle : (done rest : List Exposure) (e : Exposure) → slice_get (done ++ e ∷ rest) (length done) ≡ Some e
  got_middle [] rest e = refl
  got_middle (d ∷ done) rest e = got_middle done rest e

  -- a label at an input of a marked exposure is known from a marked one before it
  known_label : (done rest : List Exposure) (e : Exposure) (exposed : List Ground) (place label : ℕ) → all ≡ done ++ e ∷ rest → IsMarked marks (length done) →
      ((k : ℕ) (other : Exposure) → k < length done → slice_get all k ≡ Some other → IsMarked marks k → Contains exposed other.fact) →
      Contains e.method.inputs place → slice_get e.fact.vals place ≡ Some (Label label) → (fact : Ground) → Contains (exposed_facts done) fact → Contains fact.vals (Label label) →
      (first : Ground) × Contains exposed first × Contains first.vals (Label label)
  known_label done rest e exposed place label split mark have input at fact among has =
      let here : slice_get all (length done) ≡ Some e = subst (λ list. slice_get list (length done) ≡ Some e) (sym split) (got_middle done rest e) in
      let (number, first, is, marked) = closed (length done) e place label (omega arith) here mark input at in
      let (other, of_done, same) = contains_mapped (λ (x : Exposure). x.fact) done fact among in
      let (k, got) = got_member done other of_done in
      let within = slice_get_within done k other got in
      let got_all : slice_get all k ≡ Some other = subst (λ list. slice_get list k ≡ Some other) (sym split) (got_before done (e ∷ rest) k within ∙ got) in
      let has_other : Contains other.fact.vals (Label label) = subst (λ (g : Ground). Contains g.vals (Label label)) (sym same) has in
      let low : number < length done = ⊎_elim (λ late. absurd (is.first k other late got_all has_other)) (λ early. omega arith) (cases_lt k number) in
      (first.fact, have number first low is.at marked, is.has)

  next_same : (done : List Exposure) (e : Exposure) (mark : Bool) (left : List Bool) → ((k : ℕ) → slice_get (mark ∷ left) k ≡ slice_get marks (length done + k)) → (k : ℕ) → slice_get left k ≡ slice_get marks (length (done ++ e ∷ []) + k)
  next_same done e mark left same k =
      let push = length_push done e in
      let at : length done + suc k ≡ length (done ++ e ∷ []) + k = omega arith in
      same (suc k) ∙ ap (slice_get marks) at

  here_same : (done : List Exposure) (mark : Bool) (left : List Bool) → ((k : ℕ) → slice_get (mark ∷ left) k ≡ slice_get marks (length done + k)) → slice_get marks (length done) ≡ Some mark
  here_same done mark left same = let at : length done + 0 ≡ length done = omega arith in sym (same 0 ∙ ap (slice_get marks) at)

  facts_push : (done : List Exposure) (e : Exposure) → exposed_facts (done ++ e ∷ []) ≡ exposed_facts done ++ e.fact ∷ []
  facts_push done e = map-append (λ (x : Exposure). x.fact) done (e ∷ [])

  exposing_from : (done rest : List Exposure) (left : List Bool) (exposed : List Ground) → all ≡ done ++ rest → ((k : ℕ) → slice_get left k ≡ slice_get marks (length done + k)) →
      ((fact : Ground) → Contains exposed fact → Contains (exposed_facts done) fact) →
      ((k : ℕ) (other : Exposure) → k < length done → slice_get all k ≡ Some other → IsMarked marks k → Contains exposed other.fact) →
      IsExposing schema constants base (exposed_facts done) rest → IsExposing schema constants base exposed (picked rest left)
  exposing_from done [] left exposed split same within have is = tt
  exposing_from done (e ∷ rest) [] exposed split same within have is = tt
  exposing_from done (e ∷ rest) (false ∷ left) exposed split same within have (first, more) =
      exposing_from (done ++ e ∷ []) rest left exposed (split ∙ sym (append_assoc done (e ∷ []) rest)) (next_same done e false left same)
      (λ fact c. subst (λ facts. Contains facts fact) (sym (facts_push done e)) (Contains-append_left (exposed_facts done) (e.fact ∷ []) fact (within fact c)))
      (λ k other low got marked. ⊎_elim (λ old. have k other old got marked) (λ here. absurd (unmarked k here low marked)) (cases_lt k (length done)))
      (subst (λ facts. IsExposing schema constants base facts rest) (sym (facts_push done e)) more)
    where
      unmarked : (k : ℕ) → length done ≤ k → k < length (done ++ e ∷ []) → IsMarked marks k → ⊥
      unmarked k here low marked =
          let push = length_push done e in
          let at : length done ≡ k = omega arith in
          let off : Some false ≡ Some true = sym (here_same done false left same) ∙ ap (slice_get marks) at ∙ marked in
          absurd (cc)
  exposing_from done (e ∷ rest) (true ∷ left) exposed split same within have (first, more) = (
    record {
      of_base = first.of_base;
      new = λ c. first.new (within e.fact c);
      of_schema = first.of_schema;
      of_relation = first.of_relation;
      inputs = λ p i. let (v, at, known) = first.inputs p i in (v, at, known_of v p i at known);
    },
    exposing_from (done ++ e ∷ []) rest left (exposed ++ e.fact ∷ []) (split ∙ sym (append_assoc done (e ∷ []) rest)) (next_same done e true left same)
        (λ fact c. subst (λ facts. Contains facts fact) (sym (facts_push done e)) (⊎_elim (λ old. Contains-append_left (exposed_facts done) (e.fact ∷ []) fact (within fact old))
        (λ here. subst (λ g. Contains (exposed_facts done ++ e.fact ∷ []) g) here (Contains-push (exposed_facts done) e.fact)) (Contains-push_cases exposed e.fact fact c)))
        (λ k other low got marked. ⊎_elim (λ old. Contains-append_left exposed (e.fact ∷ []) other.fact (have k other old got marked)) (λ here. at_end k other here low got) (cases_lt k (length done)))
        (subst (λ facts. IsExposing schema constants base facts rest) (sym (facts_push done e)) more),
  )
    where
      known_of : (v : Val) (p : ℕ) → Contains e.method.inputs p → slice_get e.fact.vals p ≡ Some v → IsKnownValue constants (exposed_facts done) v → IsKnownValue constants exposed v
      known_of (Const t) p i at known = inl (t, named e.fact (Const t) first.of_base (contains_got e.fact.vals p (Const t) at), refl)
      known_of (Label label) p i at known =
          ⊎_elim (λ (c, among, is). absurd (cc))
          (λ (fact, among, has). inr (known_label done rest e exposed p label split (here_same done true left same) have i at fact among has)) known

      at_end : (k : ℕ) (other : Exposure) → length done ≤ k → k < length (done ++ e ∷ []) → slice_get all k ≡ Some other → Contains (exposed ++ e.fact ∷ []) other.fact
      at_end k other here low got =
          let push = length_push done e in
          let at : k ≡ length done = omega arith in
          let one : slice_get all (length done) ≡ Some e = subst (λ list. slice_get list (length done) ≡ Some e) (sym split) (got_middle done rest e) in
          let is : e ≡ other = some_injective e other (sym one ∙ ap (slice_get all) (sym at) ∙ got) in
          subst (λ (x : Exposure). Contains (exposed ++ e.fact ∷ []) x.fact) is (Contains-push exposed e.fact)

  pub exposing_picked : IsExposing schema constants base [] all → IsExposing schema constants base [] (picked all marks)
  exposing_picked is = exposing_from [] all marks [] refl (λ k. let at : k ≡ 0 + k = omega arith in ap (slice_get marks) at) (λ fact c. c) (λ k other low got marked. absurd (omega arith)) is

-- wanted facts of exposures are those of marked ones
pub picked_facts : (all : List Exposure) (wanted : List Ground) (marks : List Bool) → HoldsWanted all wanted marks → (fact : Ground) → Contains wanted fact → Contains (exposed_facts all) fact → Contains (exposed_facts (picked all marks)) fact
picked_facts all wanted marks held fact want among =
    let (e, there, same) = contains_mapped (λ (x : Exposure). x.fact) all fact among in
    let (k, got) = got_member all e there in
    let marked = held.wanted_are k e got (subst (Contains wanted) (sym same) want) in
    subst (Contains (exposed_facts (picked all marks))) same (contains_map (λ (x : Exposure). x.fact) (picked all marks) e (picked_has all marks k e got marked))

-- what rests on facts of one kind rests on those of a wider one
pub rests_wider : (P Q : Ground → Type 0) → ((fact : Ground) → P fact → Q fact) → (all : List Exposure) (e : Exposure) → RestsOn P all e → RestsOn Q all e
rests_wider P Q wider all e (rests_exposed x among is) = rests_exposed x among (wider x.fact is)
rests_wider P Q wider all e (rests_input later x place label number rests input at first) = rests_input later x place label number (rests_wider P Q wider all later rests) input at first

-- ---- the loops

-- the marks of the first exposures
pub record MarksFront (all : List Exposure) (wanted : List Ground) (n : ℕ) (marks : List Bool) : Type 0 where
  pub long : length marks ≡ n
  pub to : (k : ℕ) (e : Exposure) → k < n → slice_get all k ≡ Some e → Contains wanted e.fact → IsMarked marks k
  pub from : (k : ℕ) (e : Exposure) → k < n → slice_get all k ≡ Some e → IsMarked marks k → Contains wanted e.fact

pub front_none : (all : List Exposure) (wanted : List Ground) (marks : List Bool) → marks ≡ [] → MarksFront all wanted 0 marks
front_none all wanted marks none = record { long = ap length none; to = λ k e low. absurd (omega arith); from = λ k e low. absurd (omega arith) }

pub front_more : (all : List Exposure) (wanted : List Ground) (n : ℕ) (marks : List Bool) (e : Exposure) (mark : Bool) → slice_get all n ≡ Some e → (mark ≡ true → Contains wanted e.fact) → (Contains wanted e.fact → mark ≡ true) →
    MarksFront all wanted n marks → MarksFront all wanted (n + 1) (marks ++ mark ∷ [])
front_more all wanted n marks e mark got is_wanted wanted_is front = record {
  long = let push = length_push marks mark in let l = front.long in omega arith;
  to = λ k other low at want. ⊎_elim (λ old. before k old ∙ front.to k other old at want) (λ here. let same = is_same k other here low at in last k here low ∙ ap (λ m. Some m) (wanted_is (subst (λ (x : Exposure). Contains wanted x.fact) (sym same) want))) (cases_lt k n);
  from = λ k other low at marked. ⊎_elim (λ old. front.from k other old at (sym (before k old) ∙ marked))
      (λ here. let same = is_same k other here low at in subst (λ (x : Exposure). Contains wanted x.fact) same (is_wanted (some_injective mark true (sym (last k here low) ∙ marked)))) (cases_lt k n);
}
  where
    before : (k : ℕ) → k < n → slice_get (marks ++ mark ∷ []) k ≡ slice_get marks k
    before k low = let l = front.long in got_before marks (mark ∷ []) k (omega arith)

    last : (k : ℕ) → n ≤ k → k < n + 1 → slice_get (marks ++ mark ∷ []) k ≡ Some mark
    last k here low = let l = front.long in let at : length marks ≡ k = omega arith in subst (λ i. slice_get (marks ++ mark ∷ []) i ≡ Some mark) at (got_push marks mark)

    is_same : (k : ℕ) (other : Exposure) → n ≤ k → k < n + 1 → slice_get all k ≡ Some other → e ≡ other
    is_same k other here low at = let i : n ≡ k = omega arith in some_injective e other (sym got ∙ ap (slice_get all) i ∙ at)

pub front_all : (all : List Exposure) (wanted : List Ground) (n : ℕ) (marks : List Bool) → length all ≡ n → MarksFront all wanted n marks → HoldsWanted all wanted marks
front_all all wanted n marks whole front = record {
  long = front.long ∙ sym whole;
  wanted_are = λ k e got want. front.to k e (within k e got) got want;
  rests = λ k e got marked. rests_exposed e (contains_got all k e got) (front.from k e (within k e got) got marked);
}
  where
    within : (k : ℕ) (e : Exposure) → slice_get all k ≡ Some e → k < n
    within k e got = let l = slice_get_within all k e got in omega arith

-- one exposure back
module _ (all : List Exposure) (origins : BTreeMap ℕ ℕ) (are : AreOrigins all origins) (left : ℕ) (low : 0 < left) (e : Exposure) (got : slice_get all (left - 1) ≡ Some e) where
  pub close_skip : (marks : List Bool) → slice_get marks (left - 1) ≡ Some false → AreClosed all left marks → AreClosed all (left - 1) marks
  close_skip marks off closed k other place label from at marked input has =
      ⊎_elim (λ here. let i : k ≡ left - 1 = omega arith in let no : Some false ≡ Some true = sym off ∙ ap (slice_get marks) (sym i) ∙ marked in absurd (cc))
      (λ later. closed k other place label later at marked input has) (cases_lt k left)

  module _ (marks new : List Bool) (on : IsMarked marks (left - 1)) (stays : (k : ℕ) → IsMarked marks k → IsMarked new k)
      (inputs : (place number : ℕ) → Contains e.method.inputs place → IsOriginAt origins e.fact.vals place number → IsMarked new number)
      (only : (k : ℕ) → IsMarked new k → IsMarked marks k ⊎ ((place : ℕ) × Contains e.method.inputs place × IsOriginAt origins e.fact.vals place k)) where
    pub close_held : length new ≡ length marks → (wanted : List Ground) → HoldsWanted all wanted marks → HoldsWanted all wanted new
    close_held long wanted held = record {
      long = long ∙ held.long;
      wanted_are = λ k other at want. stays k (held.wanted_are k other at want);
      rests = λ k other at marked. ⊎_elim (λ old. held.rests k other at old)
          (λ (place, input, (label, has, noted)). let (first, is) = are.each label k noted in
          let same : first ≡ other = some_injective first other (sym is.at ∙ at) in
          subst (RestsOn (λ fact. Contains wanted fact) all) same (rests_input e first place label k (held.rests (left - 1) e got on) input has is)) (only k marked);
    }

    origin_low : (k place : ℕ) → Contains e.method.inputs place → IsOriginAt origins e.fact.vals place k → k < left
    origin_low k place input (label, has, noted) =
        let (first, is) = are.each label k noted in
        ⊎_elim (λ l. l) (λ high. absurd (is.first (left - 1) e (omega arith) got (contains_got e.fact.vals place (Label label) has))) (cases_lt k left)

    pub close_keep : AreClosed all left marks → AreClosed all (left - 1) new
    close_keep closed k other place label from at marked input has =
        ⊎_elim
        (λ here. let i : k ≡ left - 1 = omega arith in
        let same : e ≡ other = some_injective e other (sym got ∙ ap (slice_get all) (sym i) ∙ at) in
        own place label (subst (λ (x : Exposure). Contains x.method.inputs place) (sym same) input) (subst (λ (x : Exposure). slice_get x.fact.vals place ≡ Some (Label label)) (sym same) has))
        (λ later. ⊎_elim
        (λ old. let (number, first, is, there) = closed k other place label later at old input has in (number, first, is, stays number there))
        (λ (p, i, origin). let below = origin_low k p i origin in absurd (omega arith)) (only k marked))
        (cases_lt k left)
      where
        own : (place label : ℕ) → Contains e.method.inputs place → slice_get e.fact.vals place ≡ Some (Label label) → (number : ℕ) × (first : Exposure) × IsFirstWith all label number first × IsMarked new number
        own place label input has =
            ⊎_elim (λ none. absurd (are.all label e none (contains_got all (left - 1) e got) (contains_got e.fact.vals place (Label label) has)))
            (λ (number, noted). let (first, is) = are.each label number noted in (number, first, is, inputs place number input (label, has, noted)))
            (either_option (get nat_cmp origins label))

-- ---- a mark that is set

pub set_here : (marks : List Bool) (n : ℕ) → n < length marks → IsMarked (slice_set marks n true) n
set_here [] n l = absurd (omega arith)
set_here (m ∷ marks) zero l = refl
set_here (m ∷ marks) (suc n) l = set_here marks n (omega arith)

pub set_kept : (marks : List Bool) (n k : ℕ) → IsMarked marks k → IsMarked (slice_set marks n true) k
set_kept [] n k e = e
set_kept (m ∷ marks) zero zero e = refl
set_kept (m ∷ marks) zero (suc k) e = e
set_kept (m ∷ marks) (suc n) zero e = e
set_kept (m ∷ marks) (suc n) (suc k) e = set_kept marks n k e

pub set_cases : (marks : List Bool) (n k : ℕ) → IsMarked (slice_set marks n true) k → (k ≡ n) ⊎ IsMarked marks k
set_cases [] n k e = absurd (cc)
set_cases (m ∷ marks) zero zero e = inl refl
set_cases (m ∷ marks) zero (suc k) e = inr e
set_cases (m ∷ marks) (suc n) zero e = inr e
set_cases (m ∷ marks) (suc n) (suc k) e = ⊎_elim (λ h. inl (ap suc h)) (λ h. inr h) (set_cases marks n k e)

pub origin_once : (origins : BTreeMap ℕ ℕ) (vals : List Val) (place n m : ℕ) → IsOriginAt origins vals place n → IsOriginAt origins vals place m → n ≡ m
origin_once origins vals place n m (label, has, noted) (other, has', noted') =
    let same : Label label ≡ Label other = some_injective (Label label) (Label other) (sym has ∙ has') in
    let is : label ≡ other = cc in
    some_injective n m (sym noted ∙ ap (get nat_cmp origins) is ∙ noted')

-- the marks of a method's inputs
pub record InputsFront (old now : List Bool) (origins : BTreeMap ℕ ℕ) (vals : List Val) (front inputs : List ℕ) : Type 0 where
  pub stays : (k : ℕ) → IsMarked old k → IsMarked now k
  pub all : (place number : ℕ) → Contains front place → IsOriginAt origins vals place number → IsMarked now number
  pub only : (k : ℕ) → IsMarked now k → IsMarked old k ⊎ ((place : ℕ) × Contains inputs place × IsOriginAt origins vals place k)

module _ (old now : List Bool) (origins : BTreeMap ℕ ℕ) (vals : List Val) (inputs : List ℕ) (i : ℕ) (low : i < length inputs) (so_far : InputsFront old now origins vals (take i inputs) inputs) where
  place_more : take (i + 1) inputs ≡ take i inputs ++ get_or inputs i 0 ∷ []
  place_more = take_more inputs i 0 low

  pub input_some : (number : ℕ) → number < length now → IsOriginAt origins vals (get_or inputs i 0) number → InputsFront old (slice_set now number true) origins vals (take (i + 1) inputs) inputs
  input_some number within here = record {
    stays = λ k m. set_kept now number k (so_far.stays k m);
    all = λ place n among origin. ⊎_elim (λ h. set_kept now number n (so_far.all place n h origin))
        (λ same. let is : number ≡ n = origin_once origins vals place number n (subst (λ p. IsOriginAt origins vals p number) same here) origin in subst (λ k. IsMarked (slice_set now number true) k) is (set_here now number within))
        (Contains-push_cases (take i inputs) (get_or inputs i 0) place (subst (λ ps. Contains ps place) place_more among));
    only = λ k m. ⊎_elim (λ same. inr (get_or inputs i 0, contains_got inputs i (get_or inputs i 0) (slice_get-get_or inputs i 0 low), subst (λ n. IsOriginAt origins vals (get_or inputs i 0) n) (sym same) here)) (λ h. so_far.only k h) (set_cases now number k m);
  }

  pub input_none : ((number : ℕ) → IsOriginAt origins vals (get_or inputs i 0) number → ⊥) → InputsFront old now origins vals (take (i + 1) inputs) inputs
  input_none none = record {
    stays = so_far.stays;
    all = λ place n among origin. ⊎_elim (λ h. so_far.all place n h origin) (λ same. absurd (none n (subst (λ p. IsOriginAt origins vals p n) (sym same) origin)))
        (Contains-push_cases (take i inputs) (get_or inputs i 0) place (subst (λ ps. Contains ps place) place_more among));
    only = so_far.only;
  }
