-- Facts that are marked and followed, until all for which they ask are marked.
use Rattle.std.proofs.Common.{◌≡◌, ◌⊎◌, ℕ, zero, suc, ◌+◌, ◌<◌, take, List, [], ◌∷◌, ◌++◌, length, Bool, true, Option, Some, None, refl, sym, ap, ◌∙◌, subst, inl, inr, ⊎_elim, arith}
use Rattle.std.specs.Prelude.{Contains, slice_get, slice_set}
use Rattle.std.proofs.lemmas.Bool.{cases_eq}
use Rattle.std.proofs.lemmas.List.{length-set, length_push}
use Rattle.std.proofs.lemmas.Option.{slice_get_within}
use Rattle.std.proofs.lemmas.List.Elements.{Contains-append_left, Contains-push, Contains-push_cases}
use Rattle.lists.proofs.Members.{contains_got, some_injective, got_push}
use Rattle.lists.proofs.Places.{take_got}
use Rattle.meaning.specs.declared.types.SchemaParts.{SchemaParts}
use Rattle.meaning.specs.declared.types.Ground.{Ground}
use Rattle.meaning.specs.declared.types.Method.{Method}
use Rattle.meaning.specs.declared.types.Query.{Query}
use Rattle.meaning.specs.declared.types.Val.{Val}
use Rattle.meaning.specs.declared.types.Val.TheVariants.{Const}
use Rattle.meaning.specs.Runs.{IsKnownValue}
use Rattle.meaning.specs.Triggers.{ground, assigned}
use Rattle.accessible_copy.specs.declared.holders.Holders.{Holders}
use Rattle.accessible_copy.specs.Known.{known_values}
use Rattle.accessible_copy.specs.Methods.{methods_of, IsMethodIndex}
use Rattle.accessible_copy.specs.OpenFacts.{held_by, AreHolders}
use Rattle.accessible_copy.proofs.Listed.{known_to}
use Rattle.exposure_search.specs.declared.relevance.Marking.{Marking}
use Rattle.exposure_search.specs.Tries.{IsMarked}
use Rattle.exposure_search.specs.Sets.{got_contained, picked_at, picked_back, set_here, set_kept, set_cases}
use Rattle.exposure_search.specs.declared.marks.Marks.{Marks}
use Rattle.exposure_search.specs.Relevance.{AreRelevant, MakersMarked, IsWanted, IsImageOf, IsImageAmong, Keeps, BodiesMarked, AreFed, WantedMarked, IsOfKind, HoldsInput, IsAskedBy, Grows, IsFollowed, IsFollowing}
use Rattle.exposure_search.proofs.Imaging.{image_next, image_none}
use Rattle.exposure_search.proofs.Wanting.{keeps_push}

pub grows_none : (now : Marking) → Grows now now
grows_none now = record { long = refl; stays = λ n on. on; waits = λ n c. c; news = λ n on. inl on }

pub grows_then : (first second third : Marking) → Grows first second → Grows second third → Grows first third
grows_then first second third one two = record {
  long = two.long ∙ one.long;
  stays = λ n on. two.stays n (one.stays n on);
  waits = λ n c. two.waits n (one.waits n c);
  news = λ n on. ⊎_elim (λ old. ⊎_elim (λ older. inl older) (λ w. inr (two.waits n w)) (one.news n old)) (λ w. inr w) (two.news n on);
}

-- what is marked of a kind of numbers, after some steps
pub record IsReached (Kind : ℕ → Type 0) (old new : Marking) : Type 0 where
  pub grows : Grows old new
  pub reached : (number : ℕ) → Kind number → number < length old.marks.items → IsMarked new.marks.items number

-- one step more
pub reached_more : (Kind Next Both : ℕ → Type 0) (old now new : Marking) → IsReached Kind old now → IsReached Next now new → ((number : ℕ) → Both number → Kind number ⊎ Next number) → IsReached Both old new
reached_more Kind Next Both old now new one two either = record {
  grows = grows_then old now new one.grows two.grows;
  reached = λ n both low. ⊎_elim (λ k. two.grows.stays n (one.reached n k low)) (λ k. two.reached n k (subst (λ len. n < len) (sym one.grows.long) low)) (either n both);
}

pub reached_none : (Kind : ℕ → Type 0) (now : Marking) → ((number : ℕ) → Kind number → ⊥) → IsReached Kind now now
reached_none Kind now none = record { grows = grows_none now; reached = λ n k low. absurd (none n k) }

-- of the first places, and the next one
pub input_next : (holders : Holders) (known vals : List Val) (places : List ℕ) (i place : ℕ) → slice_get places i ≡ Some place → (number : ℕ) → HoldsInput holders known vals (take (i + 1) places) number →
    HoldsInput holders known vals (take i places) number ⊎ ((v : Val) × (slice_get vals place ≡ Some v) × (Contains known v → ⊥) × Contains (held_by holders v) number)
input_next holders known vals places i place got number (at, v, among, there, unknown, holds) =
    ⊎_elim (λ old. inl (at, v, old, there, unknown, holds)) (λ same. inr (v, subst (λ p. slice_get vals p ≡ Some v) (sym same) there, unknown, holds))
    (Contains-push_cases (take i places) place at (subst (λ l. Contains l at) (take_got places i place got) among))

pub asked_next : (methods : List Method) (holders : Holders) (known vals : List Val) (numbers : List ℕ) (i of : ℕ) → slice_get numbers i ≡ Some of → (number : ℕ) → IsAskedBy methods holders known vals (take (i + 1) numbers) number →
    IsAskedBy methods holders known vals (take i numbers) number ⊎ ((method : Method) × (slice_get methods of ≡ Some method) × HoldsInput holders known vals method.inputs number)
asked_next methods holders known vals numbers i of got number (at, method, among, named, holds) =
    ⊎_elim (λ old. inl (at, method, old, named, holds)) (λ same. inr (method, subst (λ k. slice_get methods k ≡ Some method) (sym same) named, holds))
    (Contains-push_cases (take i numbers) of at (subst (λ l. Contains l at) (take_got numbers i of got) among))

module _ (schema : SchemaParts) (constants : List (List ℕ)) (facts : List Ground) where
  -- more marks, and what was followed still is
  followed_more : (old new : List Bool) (number : ℕ) → Keeps old new → IsFollowed schema constants facts old number → IsFollowed schema constants facts new number
  followed_more old new number keeps is fact other place v got asks there has = keeps place (is fact other place v got asks there has)

  -- a fact whose asked values were gone through
  pub followed_here : (index : List (List ℕ)) (holders : Holders) (exposed : List Ground) (marks : List Bool) (count number : ℕ) (fact : Ground) → exposed ≡ [] → IsMethodIndex schema.methods index → AreHolders facts holders → count ≡ length facts → slice_get facts number ≡ Some fact →
      ((n : ℕ) → IsAskedBy schema.methods holders (known_values constants exposed) fact.vals (methods_of index fact.rel) n → n < count → IsMarked marks n) → IsFollowed schema constants facts marks number
  followed_here index holders exposed marks count number fact bare indexed are long got reached its other place v there asks at has =
      let same : its ≡ fact = some_injective its fact (sym there ∙ got) in
      let (of, named) = got_contained schema.methods asks.method asks.of_schema in
      let low : place < length facts = slice_get_within facts place other at in
      let rel : asks.method.rel ≡ fact.rel = asks.of_relation ∙ ap (λ (f : Ground). f.rel) same in
      reached place (
        of,
        asks.method,
        subst (λ r. Contains (methods_of index r) of) rel (indexed.all of asks.method named),
        named,
        (asks.place, v, asks.input, subst (λ (f : Ground). slice_get f.vals asks.place ≡ Some v) same asks.at, (λ c. unknown asks.unknown (known_to constants exposed v c)), are place other v at has),
      ) (omega arith)
    where
      unknown : ((c : List ℕ) → Contains constants c → v ≡ Const c → ⊥) → IsKnownValue constants exposed v → ⊥
      unknown none known = ⊎_elim (λ (c, among, is). none c among is) (λ (g, among, i). absurd (let c : Contains [] g = subst (λ gs. Contains gs g) bare among in omega arith)) known

  -- the number that was taken was followed
  pub following_next : (old popped new : Marking) (number : ℕ) → IsFollowing schema constants facts old → popped.marks.items ≡ old.marks.items → old.waiting.items ≡ popped.waiting.items ++ number ∷ [] → Grows popped new → IsFollowed schema constants facts new.marks.items number →
      IsFollowing schema constants facts new
  following_next old popped new number is marks waiting grows here = record {
    long = grows.long ∙ ap length marks ∙ is.long;
    followed = λ n on. ⊎_elim
        (λ m. ⊎_elim
        (λ w. ⊎_elim (λ c. inl (grows.waits n c)) (λ same. inr (subst (λ k. IsFollowed schema constants facts new.marks.items k) same here)) (Contains-push_cases popped.waiting.items number n (subst (λ ws. Contains ws n) waiting w)))
        (λ f. inr (followed_more old.marks.items new.marks.items n (λ k was. grows.stays k (subst (λ ms. IsMarked ms k) (sym marks) was)) f))
        (is.followed n (subst (λ ms. IsMarked ms n) marks m)))
        (λ w. inl w) (grows.news n on);
  }

  pub followed_none : (marks : List Bool) (number : ℕ) → slice_get facts number ≡ None → IsFollowed schema constants facts marks number
  followed_none marks number none fact other place v got asks there has = absurd (cc)

  pub all_followed : (now : Marking) → now.waiting.items ≡ [] → IsFollowing schema constants facts now → (number : ℕ) → IsMarked now.marks.items number → IsFollowed schema constants facts now.marks.items number
  all_followed now none is number on = ⊎_elim (λ w. absurd (let c : Contains [] number = subst (λ ws. Contains ws number) none w in omega arith)) (λ f. f) (is.followed number on)

  -- closed marks: `seen` are those of wanted relations and of images
  pub marks_relevant : (next : ℕ) (queries : List Query) (head : List Val) (wanted seen : List Bool) (marks : Marks) → BodiesMarked schema.rules next (IsImageAmong queries head) wanted → AreFed schema.rules wanted →
      WantedMarked wanted facts seen → ((number : ℕ) → IsOfKind facts (IsImageAmong queries head) number → IsMarked seen number) → Keeps seen marks.relevant.items → marks.needed.items ≡ seen → MakersMarked schema.rules next (IsWanted queries head wanted) marks.makers.items →
      ((number : ℕ) → IsMarked marks.relevant.items number → IsFollowed schema constants facts marks.relevant.items number) → AreRelevant schema constants facts next queries head marks
  marks_relevant next queries head wanted seen marks served fed wants_seen images keeps same makers closed = record {
    wanted = wanted;
    closed = record {
      images = λ query atom fact c d i. inl (query, c, (atom, d, i));
      bodies = λ trigger rule made body is of_head of_body needs.
          let among = contains_got schema.rules trigger.rule rule is.numbered in
          inr (⊎_elim
          (λ image. served rule among (ground (assigned trigger) made) (record { trigger = trigger; head = made; width = is.width; fresh = is.fresh; of_rule = of_head; makes = refl }) image body of_body)
          (λ on. fed rule made body among of_head of_body on) needs);
      facts = λ fact c wants.
          let (k, at) = got_contained facts fact c in
          picked_at facts marks.relevant.items k fact at (keeps k (at_seen k fact at wants));
      inputs = λ fact other v among asks c has.
          let (k, at, on) = picked_back facts marks.relevant.items fact among in
          let (place, there) = got_contained facts other c in
          picked_at facts marks.relevant.items place other there (closed k on fact other place v at asks there has);
    };
    needed = λ fact c wants.
        let (k, at) = got_contained facts fact c in
        picked_at facts marks.needed.items k fact at (subst (λ ms. IsMarked ms k) (sym same) (at_seen k fact at wants));
    makers = makers;
  }
    where
      at_seen : (k : ℕ) (fact : Ground) → slice_get facts k ≡ Some fact → IsWanted queries head wanted fact → IsMarked seen k
      at_seen k fact at wants = ⊎_elim (λ image. images k (fact, at, image)) (λ on. wants_seen k fact at on) wants

-- each mark still waits, and so does what was newly marked
pub waits_more : (old new : Marking) → ((number : ℕ) → IsMarked old.marks.items number → Contains old.waiting.items number) → Grows old new → (number : ℕ) → IsMarked new.marks.items number → Contains new.waiting.items number
waits_more old new waits grows number on = ⊎_elim (λ was. grows.waits number (waits number was)) (λ w. w) (grows.news number on)

-- nothing was followed yet
pub following_begun : (schema : SchemaParts) (constants : List (List ℕ)) (facts : List Ground) (now : Marking) → length now.marks.items ≡ length facts → ((number : ℕ) → IsMarked now.marks.items number → Contains now.waiting.items number) → IsFollowing schema constants facts now
following_begun schema constants facts now long waits = record { long = long; followed = λ number on. inl (waits number on) }

-- the facts of a kind are marked, each of which has a mark
pub kinds_marked : (facts : List Ground) (Kind : Ground → Type 0) (old new : Marking) → length old.marks.items ≡ length facts → ((number : ℕ) → IsOfKind facts Kind number → number < length old.marks.items → IsMarked new.marks.items number) → (number : ℕ) → IsOfKind facts Kind number → IsMarked new.marks.items number
kinds_marked facts Kind old new long marked number (fact, at, is) = let low : number < length facts = slice_get_within facts number fact at in marked number (fact, at, is) (omega arith)

-- the first facts that are of a kind, and the next one
abbrev pub IsFront : List Ground → (Ground → Type 0) → ℕ → ℕ → Type 0
IsFront facts Kind count number = (number < count) × IsOfKind facts Kind number

pub front_next : (facts : List Ground) (Kind : Ground → Type 0) (count number : ℕ) → IsFront facts Kind (count + 1) number → IsFront facts Kind count number ⊎ ((number ≡ count) × IsOfKind facts Kind number)
front_next facts Kind count number (low, kind) = ⊎_elim (λ same. inr (same, kind)) (λ other. inl (omega arith, kind)) (cases_eq number count)

-- an image of one query more
pub image_kinds : (facts : List Ground) (queries : List Query) (head : List Val) (i : ℕ) (query : Query) (number : ℕ) → slice_get queries i ≡ Some query → IsOfKind facts (IsImageAmong (take (i + 1) queries) head) number →
    IsOfKind facts (IsImageAmong (take i queries) head) number ⊎ IsOfKind facts (IsImageOf query head) number
image_kinds facts queries head i query number got (fact, at, image) = ⊎_elim (λ old. inl (fact, at, old)) (λ its. inr (fact, at, its)) (image_next queries head i query fact got image)

pub no_image_kinds : (facts : List Ground) (head : List Val) (number : ℕ) → IsOfKind facts (IsImageAmong [] head) number → ⊥
no_image_kinds facts head number (fact, at, image) = image_none head fact image

-- the first facts, each marked where its relation is wanted, and waiting
pub record AreBegun (wanted : List Bool) (facts : List Ground) (count : ℕ) (now : Marking) : Type 0 where
  pub long : length now.marks.items ≡ count
  pub wants : (number : ℕ) (fact : Ground) → number < count → slice_get facts number ≡ Some fact → IsMarked wanted fact.rel → IsMarked now.marks.items number
  pub waits : (number : ℕ) → IsMarked now.marks.items number → Contains now.waiting.items number

push_cases : (marks : List Bool) (mark : Bool) (n : ℕ) → IsMarked (marks ++ mark ∷ []) n → IsMarked marks n ⊎ ((n ≡ length marks) × (mark ≡ true))
push_cases [] mark zero on = inr (refl, some_injective mark true on)
push_cases [] mark (suc n) on = absurd (cc)
push_cases (m ∷ marks) mark zero on = inl on
push_cases (m ∷ marks) mark (suc n) on = ⊎_elim (λ old. inl old) (λ (e, is). inr (ap suc e, is)) (push_cases marks mark n on)

pub begun_more : (wanted : List Bool) (facts : List Ground) (count : ℕ) (now new : Marking) (fact : Ground) (mark : Bool) → AreBegun wanted facts count now → slice_get facts count ≡ Some fact → new.marks.items ≡ now.marks.items ++ mark ∷ [] →
    ((n : ℕ) → Contains now.waiting.items n → Contains new.waiting.items n) → (mark ≡ true → Contains new.waiting.items (length now.marks.items)) → (IsMarked wanted fact.rel → mark ≡ true) → AreBegun wanted facts (count + 1) new
begun_more wanted facts count now new fact mark are got marks waits here wants = record {
  long = let e = length_push now.marks.items mark in let l = are.long in let m = ap length marks in omega arith;
  wants = λ number its low there wanted_is. ⊎_elim
      (λ same. let is : its ≡ fact = some_injective its fact (sym there ∙ ap (slice_get facts) same ∙ got) in
      let on : mark ≡ true = wants (subst (λ (f : Ground). IsMarked wanted f.rel) is wanted_is) in
      let at : length now.marks.items ≡ number = are.long ∙ sym same in
      subst (λ ms. IsMarked ms number) (sym marks) (subst (λ k. IsMarked (now.marks.items ++ mark ∷ []) k) at (got_push now.marks.items mark ∙ ap (λ b. Some b) on)))
      (λ other. subst (λ ms. IsMarked ms number) (sym marks) (keeps_push now.marks.items mark number (are.wants number its (omega arith) there wanted_is))) (cases_eq number count);
  waits = λ number on. ⊎_elim (λ old. waits number (are.waits number old)) (λ (e, is). subst (λ k. Contains new.waiting.items k) (sym e) (here is)) (push_cases now.marks.items mark number (subst (λ ms. IsMarked ms number) marks on));
}
