-- How many requests the next round wants, and which those are.
use Rattle.std.proofs.Common.{◌≡◌, ◌∙◌, ◌-◌, ◌^◌, ◌≤◌, min, ℕ, Bool, false, List, [], ◌∷◌, ◌++◌, length, refl, sym, ap, subst, arith}
use Rattle.std.specs.Prelude.{Contains, map, IsSome}
use Rattle.std.specs.BTreeSet.{IsOrdered}
use Rattle.std.specs.Ordering.{nat_cmp}
use Rattle.std.specs.Cmp.Lexicographic.{slice_cmp}
use Rattle.std.proofs.lemmas.List.{map-append}
use Rattle.lists.proofs.Members.{contains_got, contains_map, contains_mapped, joined_from}
use Rattle.meaning.specs.declared.types.Request.{Request}
use Rattle.meaning.specs.Values.{Value, Row}
use Rattle.access_schema.specs.declared.schema.Schema.{Schema}
use Rattle.source_trait.specs.declared.work.Ask.{Ask}
use Rattle.middleware.specs.PlanSources.{line_for}
use Rattle.middleware.specs.LaneRounds.{requests_in, HasItsKind, HaveTheirKinds}
use Rattle.middleware.proofs.Lacking.{the_line}
use Rattle.crawl_rounds.specs.Rows.{Marked, class_rows, fresh_of}
use Rattle.crawl_rounds.specs.Rounds.{Class, request_of, round_requests, round_count}
use Rattle.crawl_rounds.proofs.LastPlace.{of_one}
use Rattle.crawl_rounds.proofs.RowMembers.{is_class_row}
use Rattle.crawl_rounds.proofs.RowCounts.{fresh_within, round_counted}
use Rattle.crawl.specs.declared.known.KnownValues.{KnownValues}
use Rattle.crawl.specs.Knowing.{is_fresh, marked_of}
use Rattle.crawl.specs.Progress.{AreKnownTo}
use Rattle.crawl.specs.Asking.{kind_of, ask_to, round_asks}
use Rattle.crawl.specs.Rounding.{FreshWithin}
use Rattle.crawl.proofs.Marking.{all_counted, fresh_counted}

module _ (known : KnownValues) (all_up : IsOrdered (slice_cmp nat_cmp) known.all) (its : FreshWithin known) where
  -- new values are no more than all
  pub fresh_few : length known.fresh.items ≤ length known.all.keys
  fresh_few = let f = fresh_counted known all_up its in let a = all_counted known in let w = fresh_within (marked_of known) in omega (arith, f, a, w)

  pub wanted_is : (first : Bool) (classes : List Class) (n k w : ℕ) → n ≡ length known.all.keys → k ≡ length known.fresh.items → w ≡ min (round_count first n k classes) (2 ^ 32 - 1) → w ≡ min (length (round_requests first (marked_of known) classes)) (2 ^ 32 - 1)
  wanted_is first classes n k w all fresh is =
      is ∙ ap (λ m. min m (2 ^ 32 - 1))
      (ap (λ m. round_count first m k classes) (all ∙ sym (all_counted known)) ∙ ap (λ m. round_count first (length (marked_of known)) m classes) (fresh ∙ sym (fresh_counted known all_up its))
      ∙ sym (round_counted first (marked_of known) classes))

-- behind the first round a class with one input is asked with each new value
asked_each : (schema : Schema) (class : Class) (fresh : List Value) → map (λ v. ask_to schema class (v ∷ [])) fresh ≡ map (ask_to schema class) (map (λ v. [] ++ v ∷ []) fresh)
asked_each schema class [] = refl
asked_each schema class (v ∷ vs) = ap (λ (l : List Ask). ask_to schema class (v ∷ []) ∷ l) (asked_each schema class vs)

pub one_asked : (schema : Schema) (class : Class) (values : List Marked) (fresh : List Value) → fresh ≡ fresh_of values → map (λ v. ask_to schema class (v ∷ [])) fresh ≡ map (ask_to schema class) (class_rows false values 1)
one_asked schema class values fresh same =
    asked_each schema class fresh
    ∙ ap (λ (l : List Row). map (ask_to schema class) l) (ap (λ (l : List Value). map (λ v. [] ++ v ∷ []) l) same ∙ sym (of_one values))

-- the requests of the asks of a round
asked_class : (schema : Schema) (class : Class) (rows : List Row) → requests_in (map (ask_to schema class) rows) ≡ map (request_of class) rows
asked_class schema class [] = refl
asked_class schema class (row ∷ rows) = ap (λ (l : List Request). request_of class row ∷ l) (asked_class schema class rows)

pub asked_round : (schema : Schema) (first : Bool) (values : List Marked) (classes : List Class) → requests_in (round_asks schema first values classes) ≡ round_requests first values classes
asked_round schema first values [] = refl
asked_round schema first values (class ∷ classes) =
    map-append (λ (a : Ask). a.request) (map (ask_to schema class) (class_rows first values (length class.1))) (round_asks schema first values classes)
    ∙ ap (λ l. l ++ requests_in (round_asks schema first values classes)) (asked_class schema class (class_rows first values (length class.1)))
    ∙ ap (λ l. map (request_of class) (class_rows first values (length class.1)) ++ l) (asked_round schema first values classes)

-- each is for the kind of its relation
pub kinds_round : (schema : Schema) (first : Bool) (values : List Marked) (classes : List Class) → ((class : Class) → Contains classes class → IsSome (line_for class.0 schema.sources)) → HaveTheirKinds schema (round_asks schema first values classes)
kinds_round schema first values classes lines k ask at =
    let (class, among, d) = joined_from (λ (c : Class). map (ask_to schema c) (class_rows first values (length c.1))) classes ask (contains_got (round_asks schema first values classes) k ask at) in
    let (row, in_rows, e) = contains_mapped (ask_to schema class) (class_rows first values (length class.1)) ask d in
    let (line, is) = the_line (line_for class.0 schema.sources) (lines class among) in
    subst (HasItsKind schema) e (record { line = line; line_is = is; kind = ap kind_of is })

-- each value of the requests of a round is known
pub asked_known : (known : KnownValues) (first : Bool) (classes : List Class) (asks : List Ask) → requests_in asks ≡ round_requests first (marked_of known) classes → AreKnownTo asks known
asked_known known first classes asks is ask among v c =
    let there = subst (λ (l : List Request). Contains l ask.request) is (contains_map (λ (a : Ask). a.request) asks ask among) in
    let (class, in_classes, d) = joined_from (λ (k : Class). map (request_of k) (class_rows first (marked_of known) (length k.1))) classes ask.request there in
    let (row, in_rows, e) = contains_mapped (request_of class) (class_rows first (marked_of known) (length class.1)) ask.request d in
    let its = is_class_row first (marked_of known) (length class.1) row in_rows in
    let (mark, m) = its.known v (subst (λ (r : Request). Contains r.values v) (sym e) c) in
    let (w, in_keys, f) = contains_mapped (λ (w : Value). (w, is_fresh known w)) known.all.keys (v, mark) m in
    subst (Contains known.all.keys) (ap (λ (m : Marked). m.0) f) in_keys
