-- The worked example of the staff: the requests of a crawl.
use Rattle.std.proofs.Common.{◌≡◌, ◌⊎◌, ◌∙◌, ℕ, ◌<◌, List, [], ◌∷◌, ◌++◌, length, refl, sym, ap, subst, inl, inr, ⊎_elim, arith}
use Rattle.std.specs.Prelude.{Contains, slice_index_or}
use Rattle.std.specs.List.Sorted.{IsStrictlySortedBy}
use Rattle.std.proofs.lemmas.List.Elements.{Contains-append_cases}
use Rattle.lists.proofs.Members.{contains_one}
use Rattle.std.specs.declared.cmp.Ordering.TheVariants.{Less}
use Rattle.meaning.specs.declared.types.Fact.{Fact}
use Rattle.meaning.specs.declared.types.Request.{Request}
use Rattle.meaning.specs.Values.{Value}
use Rattle.meaning.specs.Crawls.{IsOfMethod, IsKnownAfter, CanAskAfter, request_cmp, IsCrawlRound, AreCrawlRounds, IsCrawl}
use Rattle.meaning_laws.specs.Staff.{prof_by_eid, all_direct, staff, smith, jones, known, profile, entry, office, profile_request, directory_request, office_rounds, office_requests}
use Rattle.meaning_laws.proofs.Example.{no_element}
use Rattle.meaning_laws.proofs.StaffOffice.{each_of, one, two, three, first_onum, third_onum, methods_are, one_no_zero}

abbrev first_round : List Request
first_round = directory_request ∷ []

abbrev second_round : List Request
second_round = profile_request one ∷ profile_request two ∷ profile_request three ∷ profile_request jones ∷ profile_request smith ∷ []

abbrev third_round : List Request
third_round = profile_request first_onum ∷ profile_request third_onum ∷ []

first_ascends : IsStrictlySortedBy request_cmp first_round
unfolding IsStrictlySortedBy
first_ascends = (tt, tt)

second_ascends : IsStrictlySortedBy request_cmp second_round
unfolding IsStrictlySortedBy
second_ascends = ((refl, (refl, (refl, (refl, tt)))), ((refl, (refl, (refl, tt))), ((refl, (refl, tt)), ((refl, tt), (tt, tt)))))

third_ascends : IsStrictlySortedBy request_cmp third_round
unfolding IsStrictlySortedBy
third_ascends = ((refl, tt), (tt, tt))

-- a request of a method is one for a profile or that for the directory
abbrev IsEither : Request → Type 0
IsEither request = ((v : Value) × (profile_request v ≡ request)) ⊎ (directory_request ≡ request)

one_value : (values : List Value) → length values ≡ 1 → (v : Value) × (v ∷ [] ≡ values)
one_value [] e = absurd (omega arith)
one_value (v ∷ []) e = (v, refl)
one_value (v ∷ w ∷ values) e = absurd (omega arith)

no_value : (values : List Value) → length values ≡ 0 → [] ≡ values
no_value [] e = refl
no_value (v ∷ values) e = absurd (omega arith)

either : (request : Request) → IsOfMethod staff request → IsEither request
either request its =
    methods_are (λ m. request.rel ≡ m.rel → request.positions ≡ m.inputs → IsEither request)
    (λ r ps. let (v, vs) = one_value request.values (its.width ∙ ap length ps) in inl (v, λ i. record { rel = sym r i; positions = sym ps i; values = vs i }))
    (λ r ps. let vs : [] ≡ request.values = no_value request.values (its.width ∙ ap length ps) in inr (λ i. record { rel = sym r i; positions = sym ps i; values = vs i }))
    its.method its.of_schema its.of_relation its.positions

-- what can be asked after any requests
module _ (constants : List Value) (earlier : List Request) where
  ask_directory : CanAskAfter staff constants office earlier directory_request
  ask_directory = (record { method = all_direct; of_schema = (1, omega arith, refl); of_relation = refl; positions = refl; width = refl }, λ v c. absurd (no_element c))

  ask_profile : (v : Value) → IsKnownAfter constants office earlier v → CanAskAfter staff constants office earlier (profile_request v)
  ask_profile v known = (record { method = prof_by_eid; of_schema = (0, omega arith, refl); of_relation = refl; positions = refl; width = refl }, λ w c. subst (IsKnownAfter constants office earlier) (contains_one v w c) known)

  -- what can be asked is the directory, or the profile of a known value
  asked_are : (P : Request → Type 0) → P directory_request → ((v : Value) → IsKnownAfter constants office earlier v → P (profile_request v)) → (request : Request) → CanAskAfter staff constants office earlier request → P request
  asked_are P of_directory of_profile request (its, known) =
      ⊎_elim (λ (v, e). subst P e (of_profile v (known v (subst (λ (r : Request). Contains r.values v) e (0, omega arith, refl))))) (λ e. subst P e of_directory) (either request its)

module _ (earlier : List Request) where
  by_directory : Contains earlier directory_request → (e l v : Value) → Contains office (entry e l) → Contains (e ∷ l ∷ []) v → IsKnownAfter [] office earlier v
  by_directory asked e l v holds c = inr (entry e l, (directory_request, asked, record { holds = holds; of_relation = refl; agrees = tt }), c)

  by_profile : (e o l v : Value) → Contains earlier (profile_request e) → Contains office (profile e o l) → Contains (e ∷ o ∷ l ∷ []) v → IsKnownAfter [] office earlier v
  by_profile e o l v asked holds c = inr (profile e o l, (profile_request e, asked, record { holds = holds; of_relation = refl; agrees = (refl, tt) }), c)

  -- whatever is known, its request is one of the eight
  known_asked : (v : Value) → IsKnownAfter [] office earlier v → Contains office_requests (profile_request v)
  known_asked v = ⊎_elim (λ c. absurd (no_element c)) (λ (f, (r, d, picked), c). each_of (λ (g : Fact). (w : Value) → Contains g.row w → Contains office_requests (profile_request w)) office (
    each_of (λ w. Contains office_requests (profile_request w)) (one ∷ first_onum ∷ smith ∷ []) (asks_one, (asks_first, (asks_smith, tt))),
    (
      each_of (λ w. Contains office_requests (profile_request w)) (three ∷ third_onum ∷ smith ∷ []) (asks_three, (asks_third, (asks_smith, tt))),
      (
        each_of (λ w. Contains office_requests (profile_request w)) (one ∷ smith ∷ []) (asks_one, (asks_smith, tt)),
        (each_of (λ w. Contains office_requests (profile_request w)) (two ∷ jones ∷ []) (asks_two, (asks_jones, tt)), (each_of (λ w. Contains office_requests (profile_request w)) (three ∷ smith ∷ []) (asks_three, (asks_smith, tt)), tt)),
      ),
    ),
  ) f picked.holds v c)
    where
      asks_one : Contains office_requests (profile_request one)
      asks_one = (1, omega arith, refl)

      asks_two : Contains office_requests (profile_request two)
      asks_two = (2, omega arith, refl)

      asks_three : Contains office_requests (profile_request three)
      asks_three = (3, omega arith, refl)

      asks_jones : Contains office_requests (profile_request jones)
      asks_jones = (4, omega arith, refl)

      asks_smith : Contains office_requests (profile_request smith)
      asks_smith = (5, omega arith, refl)

      asks_first : Contains office_requests (profile_request first_onum)
      asks_first = (6, omega arith, refl)

      asks_third : Contains office_requests (profile_request third_onum)
      asks_third = (7, omega arith, refl)

  -- and so is each request that can be asked
  asked_all : (request : Request) → CanAskAfter staff [] office earlier request → Contains office_requests request
  asked_all = asked_are [] earlier (Contains office_requests) (0, omega arith, refl) known_asked

-- the number of bytes of a request's value
abbrev size : Request → ℕ
size request = length (slice_index_or request.values 0 [])

-- a value of three bytes was not asked in the first two rounds
abbrev first_two : List Request
first_two = first_round ++ second_round

not_yet : (v : Value) → length v ≡ 3 → Contains first_two (profile_request v) → ⊥
not_yet v three_bytes c = each_of (λ r. size r ≡ 3 → ⊥) first_two (apart0, (apart1, (apart1, (apart1, (apart5, (apart5, tt)))))) (profile_request v) c three_bytes
  where
    apart0 : ◌≡◌ {A = ℕ} 0 3 → ⊥
    apart0 e = omega arith

    apart1 : ◌≡◌ {A = ℕ} 1 3 → ⊥
    apart1 e = omega arith

    apart5 : ◌≡◌ {A = ℕ} 5 3 → ⊥
    apart5 e = omega arith

first_is : IsCrawlRound staff [] office [] first_round
first_is = record {
  ascends = first_ascends;
  exactly = λ request. (
    (λ c. subst (λ r. CanAskAfter staff [] office [] r × (Contains [] r → ⊥)) (contains_one directory_request request c) (ask_directory [] [], λ d. no_element d)),
    (λ (can, new). asked_are [] [] (Contains first_round) (0, omega arith, refl) (λ v known. absurd (nothing v known)) request can),
  );
}
  where
    nothing : (v : Value) → IsKnownAfter [] office [] v → ⊥
    nothing v = ⊎_elim (λ c. no_element c) (λ (f, (r, d, picked), c). no_element d)

second_is : IsCrawlRound staff [] office first_round second_round
second_is = record {
  ascends = second_ascends;
  exactly = λ request. (
    (λ c. each_of (λ r. CanAskAfter staff [] office first_round r × (Contains first_round r → ⊥)) second_round (
      asks one smith one (2, omega arith, refl) (0, omega arith, refl),
      (asks two jones two (3, omega arith, refl) (0, omega arith, refl), (asks three smith three (4, omega arith, refl) (0, omega arith, refl), (asks two jones jones (3, omega arith, refl) (1, omega arith, refl), (asks one smith smith (2, omega arith, refl) (1, omega arith, refl), tt)))),
    ) request c),
    (λ (can, new). asked_are [] first_round (λ r. (Contains first_round r → ⊥) → Contains second_round r) (λ new. absurd (new (0, omega arith, refl))) (λ v known new. of_entries v known) request can new),
  );
}
  where
    asks : (e l v : Value) → Contains office (entry e l) → Contains (e ∷ l ∷ []) v → CanAskAfter staff [] office first_round (profile_request v) × (Contains first_round (profile_request v) → ⊥)
    asks e l v holds c = (ask_profile [] first_round v (by_directory first_round (0, omega arith, refl) e l v holds c), λ d. one_no_zero (ap (λ (r : Request). r.rel) (contains_one directory_request (profile_request v) d)))

    zero_no_one : {X : Type 0} → ◌≡◌ {A = ℕ} 0 1 → X
    zero_no_one e = one_no_zero (sym e)

    of_entries : (v : Value) → IsKnownAfter [] office first_round v → Contains second_round (profile_request v)
    of_entries v = ⊎_elim (λ c. absurd (no_element c)) (λ (f, (r, d, picked), c). each_of (λ (g : Fact). g.rel ≡ 1 → (w : Value) → Contains g.row w → Contains second_round (profile_request w)) office (
      (λ r w c. zero_no_one r),
      (
        (λ r w c. zero_no_one r),
        (
          (λ r w c. each_of (λ w. Contains second_round (profile_request w)) (one ∷ smith ∷ []) ((0, omega arith, refl), ((4, omega arith, refl), tt)) w c),
          (
            (λ r w c. each_of (λ w. Contains second_round (profile_request w)) (two ∷ jones ∷ []) ((1, omega arith, refl), ((3, omega arith, refl), tt)) w c),
            ((λ r w c. each_of (λ w. Contains second_round (profile_request w)) (three ∷ smith ∷ []) ((2, omega arith, refl), ((4, omega arith, refl), tt)) w c), tt),
          ),
        ),
      ),
    ) f picked.holds (picked.of_relation ∙ sym (ap (λ (q : Request). q.rel) (contains_one directory_request r d))) v c)

third_is : IsCrawlRound staff [] office first_two third_round
third_is = record {
  ascends = third_ascends;
  exactly = λ request. (
    (λ c. each_of (λ r. CanAskAfter staff [] office first_two r × (Contains first_two r → ⊥)) third_round (
      asks one first_onum (1, omega arith, refl) (0, omega arith, refl) refl,
      (asks three third_onum (3, omega arith, refl) (1, omega arith, refl) refl, tt),
    ) request c),
    (λ (can, new). ⊎_elim (λ d. absurd (new d)) (λ d. d) (Contains-append_cases first_two third_round request (asked_all first_two request can))),
  );
}
  where
    asks : (e o : Value) → Contains first_two (profile_request e) → Contains office (profile e o smith) → length o ≡ 3 → CanAskAfter staff [] office first_two (profile_request o) × (Contains first_two (profile_request o) → ⊥)
    asks e o asked holds long = (ask_profile [] first_two o (by_profile first_two e o smith o asked holds (1, omega arith, refl)), λ d. not_yet o long d)

pub office_rounds_are : AreCrawlRounds staff [] office [] office_rounds
office_rounds_are = (first_is, omega arith, (second_is, omega arith, (third_is, omega arith, tt)))

pub office_crawl : IsCrawl staff [] office office_requests
office_crawl = record { rounds = office_rounds; are = office_rounds_are; requests_are = refl; ended = asked_all office_requests }

-- a number of an office is known after the first two rounds, and was not asked in them
new_number : CanAskAfter staff [] office first_two (profile_request first_onum) × (Contains first_two (profile_request first_onum) → ⊥)
new_number = ((third_is.exactly (profile_request first_onum)).0 (0, omega arith, refl))

pub stopped_is_no_crawl : IsCrawl staff [] office first_two → ⊥
stopped_is_no_crawl crawl = new_number.1 (crawl.ended (profile_request first_onum) new_number.0)

-- a name is known after the directory, and is no number
pub numbers_are_no_round : IsCrawlRound staff [] office first_round (profile_request one ∷ profile_request two ∷ profile_request three ∷ []) → ⊥
numbers_are_no_round round =
    let asked = (second_is.exactly (profile_request smith)).0 (4, omega arith, refl) in
    each_of (λ r. size r ≡ 5 → ⊥) (profile_request one ∷ profile_request two ∷ profile_request three ∷ []) (apart, (apart, (apart, tt))) (profile_request smith) ((round.exactly (profile_request smith)).1 asked) refl
  where
    apart : ◌≡◌ {A = ℕ} 1 5 → ⊥
    apart e = omega arith

pub asked_again_is_no_round : IsCrawlRound staff [] office first_round (second_round ++ directory_request ∷ []) → ⊥
asked_again_is_no_round round = ((round.exactly directory_request).0 (5, omega arith, refl)).1 (0, omega arith, refl)

-- with a constant there is more to ask at first
abbrev with_smith : List Request
with_smith = profile_request smith ∷ directory_request ∷ []

smith_ascends : IsStrictlySortedBy request_cmp with_smith
unfolding IsStrictlySortedBy
smith_ascends = ((refl, tt), (tt, tt))

pub constant_is_asked : IsCrawlRound staff known office [] with_smith
constant_is_asked = record {
  ascends = smith_ascends;
  exactly = λ request. (
    (λ c. each_of (λ r. CanAskAfter staff known office [] r × (Contains [] r → ⊥)) with_smith ((ask_profile known [] smith (inl (0, omega arith, refl)), λ d. no_element d), ((ask_directory known [], λ d. no_element d), tt)) request c),
    (λ (can, new). asked_are known [] (Contains with_smith) (1, omega arith, refl) of_known request can),
  );
}
  where
    of_known : (v : Value) → IsKnownAfter known office [] v → Contains with_smith (profile_request v)
    of_known v = ⊎_elim (λ c. subst (λ w. Contains with_smith (profile_request w)) (contains_one smith v c) (0, omega arith, refl)) (λ (f, (r, d, picked), c). absurd (no_element d))

-- out of order, twice, or with nothing to ask
pub directory_first_is_no_round : IsCrawlRound staff known office [] (directory_request ∷ profile_request smith ∷ []) → ⊥
unfolding IsStrictlySortedBy
directory_first_is_no_round round = let less : request_cmp directory_request (profile_request smith) ≡ Less = round.ascends.0.0 in absurd (cc)

pub smith_twice_is_no_round : IsCrawlRound staff known office [] (profile_request smith ∷ profile_request smith ∷ directory_request ∷ []) → ⊥
unfolding IsStrictlySortedBy
smith_twice_is_no_round round = let less : request_cmp (profile_request smith) (profile_request smith) ≡ Less = round.ascends.0.0 in absurd (cc)

pub nothing_is_no_round : AreCrawlRounds staff [] office office_requests ([] ∷ []) → ⊥
nothing_is_no_round (round, some, rest) = let less : 0 < 0 = some in omega arith
