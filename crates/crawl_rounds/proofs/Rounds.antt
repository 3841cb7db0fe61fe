-- The requests that are found from the known values are a round of a crawl.
use Rattle.std.proofs.Common.{◌≡◌, ◌⊎◌, ◌∙◌, Bool, true, false, List, [], ◌++◌, length, refl, sym, ap, subst, inl, inr, ⊎_elim}
use Rattle.std.specs.Prelude.{Contains, map}
use Rattle.std.specs.List.Sorted.{IsStrictlySortedBy}
use Rattle.std.specs.Ordering.{nat_cmp, ordering_then}
use Rattle.std.specs.Cmp.Lexicographic.{slice_cmp}
use Rattle.std.specs.declared.cmp.Ordering.TheVariants.{Less}
use Rattle.std.proofs.lemmas.Cmp.{tied_itself, nat_cmp_total, nat_list_cmp_total}
use Rattle.std.proofs.lemmas.List.Elements.{Contains-append_cases, Contains-append_left, Contains-append_right}
use Rattle.lists.proofs.Members.{contains_map, contains_mapped, contains_joined, joined_from, contains_none}
use Rattle.meaning.specs.declared.types.Fact.{Fact}
use Rattle.meaning.specs.declared.types.Request.{Request}
use Rattle.meaning.specs.declared.types.SchemaParts.{SchemaParts}
use Rattle.meaning.specs.Values.{Value, Row}
use Rattle.meaning.specs.Requests.{rows_cmp}
use Rattle.meaning.specs.Crawls.{IsOfMethod, IsKnownAfter, request_cmp, IsCrawlRound}
use Rattle.crawl_rounds.specs.Rows.{Marked, class_rows}
use Rattle.crawl_rounds.specs.Rounds.{Class, class_cmp, AreClasses, request_of, round_requests, AreKnown, WereAsked}
use Rattle.crawl_rounds.proofs.Ascending.{ascend_mapped, ascend_joined}
use Rattle.crawl_rounds.proofs.RowOrder.{then_again, rows_ascend}
use Rattle.crawl_rounds.proofs.RowMembers.{is_class_row, class_row_or_old}

-- requests of one class by their values, and of two by the classes
one_class : (class : Class) (x y : Row) → rows_cmp x y ≡ Less → request_cmp (request_of class x) (request_of class y) ≡ Less
one_class class x y less =
    ap (λ o. ordering_then o (ordering_then (slice_cmp nat_cmp class.1 class.1) (rows_cmp x y))) (tied_itself nat_cmp_total class.0)
    ∙ ap (λ o. ordering_then o (rows_cmp x y)) (tied_itself nat_list_cmp_total class.1) ∙ less

two_classes : (first second : Class) (x y : Row) → class_cmp first second ≡ Less → request_cmp (request_of first x) (request_of second y) ≡ Less
two_classes first second x y less = then_again (nat_cmp first.0 second.0) (slice_cmp nat_cmp first.1 second.1) (rows_cmp x y) ∙ ap (λ o. ordering_then o (rows_cmp x y)) less

clash : true ≡ false → ⊥
clash e = cc

module _ (schema : SchemaParts) (first : Bool) (Old Known : Value → Type 0) (values : List Marked) (classes : List Class) (are : AreClasses schema.methods classes) (known : AreKnown Old Known values) where
  abbrev rows : Class → List Row
  rows class = class_rows first values (length class.1)

  round_ascends : IsStrictlySortedBy request_cmp (round_requests first values classes)
  round_ascends = ascend_joined class_cmp request_cmp (λ class. map (request_of class) (rows class)) classes are.ascend
      (λ class among. ascend_mapped rows_cmp request_cmp (request_of class) (one_class class) (rows class) (rows_ascend first values known.ascend (length class.1)))
      (λ x y in_x in_y less a b c d.
      let (row, among, e) = contains_mapped (request_of x) (rows x) a c in
      let (other, also, f) = contains_mapped (request_of y) (rows y) b d in
      subst (λ r. request_cmp r b ≡ Less) e (subst (λ r. request_cmp (request_of x row) r ≡ Less) f (two_classes x y row other less)))

  -- a request of the round is one of known values, with a new one where a round was asked before
  record IsNew (request : Request) : Type 0 where
    of_method : IsOfMethod schema request
    all : (v : Value) → Contains request.values v → Known v
    fresh : (first ≡ true) ⊎ ((v : Value) × Contains request.values v × Contains values (v, true))

  is_new : (request : Request) → Contains (round_requests first values classes) request → IsNew request
  is_new request c =
      let (class, among, d) = joined_from (λ (k : Class). map (request_of k) (rows k)) classes request c in
      let (row, in_rows, e) = contains_mapped (request_of class) (rows class) request d in
      let (method, of_schema, rel, inputs) = (are.exactly class).0 among in
      let its = is_class_row first values (length class.1) row in_rows in
      subst IsNew e (record {
        of_method = record { method = method; of_schema = of_schema; of_relation = sym rel; positions = sym inputs; width = its.long };
        all = λ v k. (known.known v).0 (its.known v k);
        fresh = its.fresh;
      })

  -- a request of known values is in the round, or a round was asked before and all its values are old
  new_or_old : (request : Request) → IsOfMethod schema request → ((v : Value) → Contains request.values v → Known v) → Contains (round_requests first values classes) request ⊎ ((first ≡ false) × ((v : Value) → Contains request.values v → Old v))
  new_or_old request of all =
      let class : Class = (of.method.rel, of.method.inputs) in
      let among : Contains classes class = (are.exactly class).1 (of.method, of.of_schema, refl, refl) in
      let same : request_of class request.values ≡ request = λ i. record { rel = sym of.of_relation i; positions = sym of.positions i; values = request.values } in
      ⊎_elim (λ c. inl (subst (Contains (round_requests first values classes)) same (contains_joined (λ (k : Class). map (request_of k) (rows k)) classes class (request_of class request.values) among (contains_map (request_of class) (rows class) request.values c))))
      (λ (none, olds). inr (none, λ v k. known.old v (olds v k)))
      (class_row_or_old first values (length of.method.inputs) request.values (of.width ∙ ap length of.positions) (λ v k. (known.known v).1 (all v k)))

  -- after the round all that can be asked with the known values was asked
  pub asked_after : ((v : Value) → Old v → Known v) → (earlier : List Request) → WereAsked schema first Old earlier → WereAsked schema false Known (earlier ++ round_requests first values classes)
  asked_after kept earlier asked request = (
    (λ c. ⊎_elim (λ d. let (of, olds, none) = (asked request).0 d in (of, λ v k. kept v (olds v k), refl)) (λ d. let its = is_new request d in (its.of_method, its.all, refl)) (Contains-append_cases earlier (round_requests first values classes) request c)),
    (λ (of, all, none). ⊎_elim (λ d. Contains-append_right earlier (round_requests first values classes) request d) (λ (begun, olds). Contains-append_left earlier (round_requests first values classes) request ((asked request).1 (of, olds, begun))) (new_or_old request of all)),
  )

  pub none_asked_twice : (earlier : List Request) → WereAsked schema first Old earlier → (request : Request) → Contains (round_requests first values classes) request → Contains earlier request → ⊥
  none_asked_twice earlier asked request c d =
      let (of, olds, begun) = (asked request).0 d in
      ⊎_elim (λ t. clash (sym t ∙ begun)) (λ (v, k, new). known.fresh v new (olds v k)) (is_new request c).fresh

pub is_round : (schema : SchemaParts) (constants : List Value) (facts : List Fact) (earlier : List Request) (first : Bool) (Old : Value → Type 0) (values : List Marked) (classes : List Class)
    → AreClasses schema.methods classes → AreKnown Old (IsKnownAfter constants facts earlier) values → WereAsked schema first Old earlier → IsCrawlRound schema constants facts earlier (round_requests first values classes)
is_round schema constants facts earlier first Old values classes are known asked = record {
  ascends = round_ascends schema first Old (IsKnownAfter constants facts earlier) values classes are known;
  exactly = λ request. (
    (λ c. let its = is_new schema first Old (IsKnownAfter constants facts earlier) values classes are known request c in
        ((its.of_method, its.all), λ d. none_asked_twice schema first Old (IsKnownAfter constants facts earlier) values classes are known earlier asked request c d)),
    (λ ((of, all), new). ⊎_elim (λ c. c) (λ (begun, olds). absurd (new ((asked request).1 (of, olds, begun)))) (new_or_old schema first Old (IsKnownAfter constants facts earlier) values classes are known request of all)),
  );
}

-- before the first round nothing was asked
pub none_asked : (schema : SchemaParts) (Old : Value → Type 0) → WereAsked schema true Old []
none_asked schema Old request = ((λ c. absurd (contains_none request c)), (λ (of, olds, begun). absurd (clash begun)))
