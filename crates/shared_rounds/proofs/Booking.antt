-- The numbers by which a book finds its requests.
use Rattle.std.proofs.Common.{◌≡◌, ◌⊎◌, inl, inr, ⊎_elim, ◌+◌, ◌<◌, ◌≤◌, ℕ, zero, suc, List, [], ◌∷◌, ◌++◌, length, map, take, get_or, set, Option, None, Some, Bool, true, false, ◌&&◌, cond, nat_eq, refl, sym, ◌∙◌, ap, subst, append_assoc, arith}
use Rattle.std.specs.Prelude.{Contains, MatchOption, slice_get}
use Rattle.std.specs.BTreeMap.{get, is_at}
use Rattle.std.specs.Cmp.Lexicographic.{pointwise, nat_list_eq_equiv}
use Rattle.std.proofs.lemmas.Bool.{both_ways, cases_lt}
use Rattle.std.proofs.lemmas.Bool.Decides.{nat_tests}
use Rattle.std.proofs.lemmas.List.{append-nil, map-append, take_more, length-map}
use Rattle.std.proofs.lemmas.Option.{slice_get_read, slice_get_within}
use Rattle.std.proofs.lemmas.List.Elements.{Contains-append_left, Contains-push, Contains-push_cases}
use Rattle.lists.proofs.Members.{contains_got, got_before, got_push, some_injective, head_is, tail_is}
use Rattle.lists.proofs.Booleans.{both_true, and_true}
use Rattle.lists.proofs.Orders.{text_is, rows_equiv, rows_ties, rows_same_equal}
use Rattle.meaning.specs.declared.types.Request.{Request}
use Rattle.row_text.specs.RowText.{row_cmp}
use Rattle.source_trait.specs.declared.work.Ask.{Ask}
use Rattle.shared_rounds.specs.SharedRounds.{is_asked, Once, to_ask}
use Rattle.shared_rounds.specs.Books.{asked_in, requests_with, with_asked, is_for, number_in, FindsEach, IsBook, IsPlace, HasShelf, ask_at, Notes, AreNumbers, NotesAll}
use Rattle.shared_rounds.specs.Books.Notes.{found, added}
use Rattle.shared_rounds.specs.declared.book.Shelf.{Shelf}
use Rattle.shared_rounds.specs.declared.book.Book.{Book}
use Rattle.shared_rounds.proofs.Adding.{asked_in as asked_there, not_in}

-- ---- one request more

asked_more : (asked : List Request) (x : Request) (rest : List Request) → with_asked asked (x ∷ rest) ≡ with_asked (cond (is_asked asked x) asked (asked ++ x ∷ [])) rest
asked_more asked x rest = go (is_asked asked x)
  where
    go : (b : Bool) → asked ++ cond b (to_ask Once asked rest) (x ∷ to_ask Once (asked ++ x ∷ []) rest) ≡ with_asked (cond b asked (asked ++ x ∷ [])) rest
    go true = refl
    go false = sym (append_assoc asked (x ∷ []) (to_ask Once (asked ++ x ∷ []) rest))

pub asked_push : (xs ys asked : List Request) → with_asked asked (xs ++ ys) ≡ with_asked (with_asked asked xs) ys
asked_push [] ys asked = ap (λ (l : List Request). with_asked l ys) (sym (append-nil asked))
asked_push (x ∷ xs) ys asked = asked_more asked x (xs ++ ys) ∙ asked_push xs ys (cond (is_asked asked x) asked (asked ++ x ∷ []))
    ∙ ap (λ (l : List Request). with_asked l ys) (sym (asked_more asked x xs))

one_asked : (asked : List Request) (x : Request) → with_asked asked (x ∷ []) ≡ cond (is_asked asked x) asked (asked ++ x ∷ [])
one_asked asked x = asked_more asked x [] ∙ append-nil (cond (is_asked asked x) asked (asked ++ x ∷ []))

pub asked_twice : (asked : List Request) (x : Request) → Contains asked x → with_asked asked (x ∷ []) ≡ asked
asked_twice asked x c = one_asked asked x ∙ go (is_asked asked x) refl
  where
    go : (b : Bool) → is_asked asked x ≡ b → cond b asked (asked ++ x ∷ []) ≡ asked
    go true e = refl
    go false e = absurd (not_in asked x e c)

asked_first : (asked : List Request) (x : Request) → (Contains asked x → ⊥) → with_asked asked (x ∷ []) ≡ asked ++ x ∷ []
asked_first asked x new = one_asked asked x ∙ go (is_asked asked x) refl
  where
    go : (b : Bool) → is_asked asked x ≡ b → cond b asked (asked ++ x ∷ []) ≡ asked ++ x ∷ []
    go true e = absurd (new (asked_there asked x e))
    go false e = refl

-- ---- shelves

pub for_is : (rel : ℕ) (positions : List ℕ) (shelf : Shelf) → is_for rel positions shelf ≡ true → (shelf.rel ≡ rel) × (shelf.positions ≡ positions)
for_is rel positions shelf is =
    let (a, b) = both_true (nat_eq shelf.rel rel) (pointwise nat_eq shelf.positions positions) is in
    ((let r : shelf.rel ≡ rel = grind (arith, nat_tests, a) in r), text_is shelf.positions positions b)

pub is_its : (rel : ℕ) (positions : List ℕ) (shelf : Shelf) → shelf.rel ≡ rel → shelf.positions ≡ positions → is_for rel positions shelf ≡ true
is_its rel positions shelf r p =
    let a : nat_eq shelf.rel rel ≡ true = grind (arith, nat_tests, r) in
    and_true (nat_eq shelf.rel rel) (pointwise nat_eq shelf.positions positions) a
    (subst (λ (l : List ℕ). pointwise nat_eq shelf.positions l ≡ true) p (nat_list_eq_equiv.refl shelf.positions))

-- no shelf before this one is for the relation and the positions
abbrev pub NoneBefore : List Shelf → ℕ → List ℕ → ℕ → Type 0
NoneBefore shelves rel positions place = (k : ℕ) (other : Shelf) → k < place → slice_get shelves k ≡ Some other → is_for rel positions other ≡ false

pub none_more : (shelves : List Shelf) (rel : ℕ) (positions : List ℕ) (n : ℕ) (shelf : Shelf) → n < length shelves → shelf ≡ get_or shelves n shelf → is_for rel positions shelf ≡ false
    → NoneBefore shelves rel positions n → NoneBefore shelves rel positions (n + 1)
none_more shelves rel positions n shelf under at fails before k other less got = ⊎_elim
    (λ l. before k other l got)
    (λ l.
    let e : k ≡ n = omega (arith, l, less) in
    let here : slice_get shelves n ≡ Some shelf = slice_get_read shelves (length shelves) n shelf refl under at in
    let same : shelf ≡ other = some_injective shelf other (sym here ∙ ap (slice_get shelves) (sym e) ∙ got) in
    subst (λ (s : Shelf). is_for rel positions s ≡ false) same fails)
    (cases_lt k n)

at_place : (shelves : List Shelf) (rel : ℕ) (positions : List ℕ) (place : ℕ) (shelf : Shelf) → slice_get shelves place ≡ Some shelf → is_for rel positions shelf ≡ true
    → NoneBefore shelves rel positions place → (values : List (List ℕ))
    → number_in shelves (record { rel = rel; positions = positions; values = values }) ≡ get row_cmp shelf.numbers values
at_place [] rel positions place shelf at is before values = absurd (cc)
at_place (s ∷ ss) rel positions zero shelf at is before values =
    let same : s ≡ shelf = some_injective s shelf at in
    ap (λ (b : Bool). cond b (get row_cmp s.numbers values) (number_in ss (record { rel = rel; positions = positions; values = values })))
    (subst (λ (x : Shelf). is_for rel positions x ≡ true) (sym same) is)
    ∙ ap (λ (x : Shelf). get row_cmp x.numbers values) same
at_place (s ∷ ss) rel positions (suc place) shelf at is before values =
    ap (λ (b : Bool). cond b (get row_cmp s.numbers values) (number_in ss (record { rel = rel; positions = positions; values = values })))
    (before 0 s (omega arith) refl)
    ∙ at_place ss rel positions place shelf at is (λ k other less got. before (suc k) other (omega (arith, less)) got) values

-- a shelf in place of the first one for the same requests
at_set : (shelves : List Shelf) (rel : ℕ) (positions : List ℕ) (place : ℕ) (shelf new : Shelf) → slice_get shelves place ≡ Some shelf → shelf.rel ≡ rel → shelf.positions ≡ positions
    → new.rel ≡ rel → new.positions ≡ positions → NoneBefore shelves rel positions place → (q : Request)
    → number_in (set shelves place new) q ≡ cond (is_for q.rel q.positions new) (get row_cmp new.numbers q.values) (number_in shelves q)
at_set [] rel positions place shelf new at r p nr np before q = absurd (cc)
at_set (s ∷ ss) rel positions zero shelf new at r p nr np before q = go (is_for q.rel q.positions new) refl
  where
    go : (b : Bool) → is_for q.rel q.positions new ≡ b → cond b (get row_cmp new.numbers q.values) (number_in ss q)
        ≡ cond b (get row_cmp new.numbers q.values) (cond (is_for q.rel q.positions s) (get row_cmp s.numbers q.values) (number_in ss q))
    go true e = refl
    go false e = sym (ap (λ (b : Bool). cond b (get row_cmp s.numbers q.values) (number_in ss q)) other)
      where
        same : s ≡ shelf
        same = some_injective s shelf at

        other : is_for q.rel q.positions s ≡ false
        other = subst (λ (b : Bool). b ≡ false)
            ((λ i. nat_eq ((nr ∙ sym r ∙ ap (λ (x : Shelf). x.rel) (sym same)) i) q.rel && pointwise nat_eq ((np ∙ sym p ∙ ap (λ (x : Shelf). x.positions) (sym same)) i) q.positions)) e
at_set (s ∷ ss) rel positions (suc place) shelf new at r p nr np before q =
    ap (λ (o : Option ℕ). cond (is_for q.rel q.positions s) (get row_cmp s.numbers q.values) o)
    (at_set ss rel positions place shelf new at r p nr np (λ k other less got. before (suc k) other (omega (arith, less)) got) q)
    ∙ go (is_for q.rel q.positions s) (is_for q.rel q.positions new) refl refl
  where
    go : (b c : Bool) → is_for q.rel q.positions s ≡ b → is_for q.rel q.positions new ≡ c
        → cond b (get row_cmp s.numbers q.values) (cond c (get row_cmp new.numbers q.values) (number_in ss q))
        ≡ cond c (get row_cmp new.numbers q.values) (cond b (get row_cmp s.numbers q.values) (number_in ss q))
    go false c e f = refl
    go true false e f = refl
    go true true e f =
        let (sr, sp) = for_is q.rel q.positions s e in
        let (tr, tp) = for_is q.rel q.positions new f in
        let here = before 0 s (omega arith) refl in
        absurd (both_ways (is_for rel positions s) here (is_its rel positions s (sr ∙ sym tr ∙ nr) (sp ∙ sym tp ∙ np)))

-- a last shelf without numbers
pub last_empty : (shelves : List Shelf) (last : Shelf) → ((values : List (List ℕ)) → get row_cmp last.numbers values ≡ None) → (q : Request)
    → number_in (shelves ++ last ∷ []) q ≡ number_in shelves q
last_empty [] last none q = go (is_for q.rel q.positions last)
  where
    go : (b : Bool) → cond b (get row_cmp last.numbers q.values) None ≡ None
    go true = none q.values
    go false = refl
last_empty (s ∷ ss) last none q = ap (λ (o : Option ℕ). cond (is_for q.rel q.positions s) (get row_cmp s.numbers q.values) o) (last_empty ss last none q)

pub place_last : (shelves : List Shelf) (last : Shelf) (rel : ℕ) (positions : List ℕ) (n : ℕ) → length shelves ≤ n → NoneBefore shelves rel positions n
    → ((values : List (List ℕ)) → get row_cmp last.numbers values ≡ None) → last.rel ≡ rel → last.positions ≡ positions
    → HasShelf rel positions shelves (shelves ++ last ∷ []) (length shelves)
place_last shelves last rel positions n long before none r p = record {
  is_place = record {
    shelf = last;
    at = got_push shelves last;
    rel_is = r;
    positions_are = p;
    first = λ k other less got. before k other (omega (arith, less, long)) (sym (got_before shelves (last ∷ []) k less) ∙ got);
  };
  same = last_empty shelves last none;
}

pub place_found : (shelves : List Shelf) (rel : ℕ) (positions : List ℕ) (n : ℕ) (shelf : Shelf) → n < length shelves → shelf ≡ get_or shelves n shelf → is_for rel positions shelf ≡ true
    → NoneBefore shelves rel positions n → HasShelf rel positions shelves shelves n
place_found shelves rel positions n shelf under at is before =
    let (r, p) = for_is rel positions shelf is in record {
      is_place = record {
        shelf = shelf;
        at = slice_get_read shelves (length shelves) n shelf refl under at;
        rel_is = r;
        positions_are = p;
        first = before;
      };
      same = λ request. refl;
    }

-- ---- one request noted

key_is : (values other : List (List ℕ)) → is_at (row_cmp values) other ≡ true → values ≡ other
key_is values other is = rows_same_equal values other (rows_ties values other ∙ is)

key_self : (values : List (List ℕ)) → is_at (row_cmp values) values ≡ true
key_self values = sym (rows_ties values values) ∙ rows_equiv.refl values

-- what a request finds, where another one is added
other_found : (asked : List Request) (r q : Request) (o : Option ℕ) → (r ≡ q → ⊥) → MatchOption o (Contains asked q → ⊥) (λ k. slice_get asked k ≡ Some q)
    → MatchOption o (Contains (asked ++ r ∷ []) q → ⊥) (λ k. slice_get (asked ++ r ∷ []) k ≡ Some q)
other_found asked r q None apart h = λ c. ⊎_elim h apart (Contains-push_cases asked r q c)
other_found asked r q (Some k) apart h = got_before asked (r ∷ []) k (slice_get_within asked k q h) ∙ h

at_found : (shelves : List Shelf) (asked : List Request) (q : Request) (k : ℕ) → FindsEach shelves asked → number_in shelves q ≡ Some k → slice_get asked k ≡ Some q
at_found shelves asked q k finds e = subst (λ (o : Option ℕ). MatchOption o (Contains asked q → ⊥) (λ n. slice_get asked n ≡ Some q)) e (finds q)

at_none : (shelves : List Shelf) (asked : List Request) (q : Request) → FindsEach shelves asked → number_in shelves q ≡ None → Contains asked q → ⊥
at_none shelves asked q finds e = subst (λ (o : Option ℕ). MatchOption o (Contains asked q → ⊥) (λ n. slice_get asked n ≡ Some q)) e (finds q)

module _ (shelves : List Shelf) (rel : ℕ) (positions : List ℕ) (place : ℕ) (p : IsPlace shelves rel positions place) (asked : List Request) (finds : FindsEach shelves asked)
    (values : List (List ℕ)) where
  abbrev its : Request
  its = record { rel = rel; positions = positions; values = values }

  by_shelf : (v : List (List ℕ)) → number_in shelves (record { rel = rel; positions = positions; values = v }) ≡ get row_cmp p.shelf.numbers v
  by_shelf v = at_place shelves rel positions place p.shelf p.at (is_its rel positions p.shelf p.rel_is p.positions_are) p.first v

  -- the same shelf again
  finds_again : (new : Shelf) → new ≡ p.shelf → FindsEach (set shelves place new) asked
  finds_again new e q = subst (λ (o : Option ℕ). MatchOption o (Contains asked q → ⊥) (λ n. slice_get asked n ≡ Some q)) (sym same) (finds q)
    where
      nr : new.rel ≡ rel
      nr = ap (λ (s : Shelf). s.rel) e ∙ p.rel_is

      np : new.positions ≡ positions
      np = ap (λ (s : Shelf). s.positions) e ∙ p.positions_are

      go : (b : Bool) → is_for q.rel q.positions new ≡ b → cond b (get row_cmp new.numbers q.values) (number_in shelves q) ≡ number_in shelves q
      go false f = refl
      go true f =
          let (r, s) = for_is q.rel q.positions new f in
          ap (λ (x : Shelf). get row_cmp x.numbers q.values) e ∙ sym (by_shelf q.values)
          ∙ (λ i. number_in shelves (record { rel = (sym nr ∙ r) i; positions = (sym np ∙ s) i; values = q.values }))

      same : number_in (set shelves place new) q ≡ number_in shelves q
      same = at_set shelves rel positions place p.shelf new p.at p.rel_is p.positions_are nr np p.first q ∙ go (is_for q.rel q.positions new) refl

  -- the shelf with one number more
  finds_more : get row_cmp p.shelf.numbers values ≡ None → (new : Shelf) → new.rel ≡ p.shelf.rel → new.positions ≡ p.shelf.positions → (number : ℕ) → number ≡ length asked
      → ((other : List (List ℕ)) → get row_cmp new.numbers other ≡ cond (is_at (row_cmp values) other) (Some number) (get row_cmp p.shelf.numbers other))
      → FindsEach (set shelves place new) (asked ++ its ∷ [])
  finds_more none new nr0 np0 number is gets q =
      subst (λ (o : Option ℕ). Found o) (sym (at_set shelves rel positions place p.shelf new p.at p.rel_is p.positions_are nr np p.first q)) (go (is_for q.rel q.positions new) refl)
    where
      Found : Option ℕ → Type 0
      Found o = MatchOption o (Contains (asked ++ its ∷ []) q → ⊥) (λ n. slice_get (asked ++ its ∷ []) n ≡ Some q)

      nr : new.rel ≡ rel
      nr = nr0 ∙ p.rel_is

      np : new.positions ≡ positions
      np = np0 ∙ p.positions_are

      here : is_for q.rel q.positions new ≡ true → values ≡ q.values → its ≡ q
      here f v = let (r, s) = for_is q.rel q.positions new f in (λ i. record { rel = (sym nr ∙ r) i; positions = (sym np ∙ s) i; values = v i })

      at_key : is_for q.rel q.positions new ≡ true → (c : Bool) → is_at (row_cmp values) q.values ≡ c → Found (cond c (Some number) (get row_cmp p.shelf.numbers q.values))
      at_key f true e = subst (λ k. slice_get (asked ++ its ∷ []) k ≡ Some q) (sym is) (got_push asked its ∙ ap (λ (x : Request). Some x) (here f (key_is values q.values e)))
      at_key f false e =
          let (r, s) = for_is q.rel q.positions new f in
          let same : number_in shelves q ≡ get row_cmp p.shelf.numbers q.values =
          (λ i. number_in shelves (record { rel = (sym r ∙ nr) i; positions = (sym s ∙ np) i; values = q.values })) ∙ by_shelf q.values in
          subst (λ (o : Option ℕ). Found o) same
          (other_found asked its q (number_in shelves q)
          (λ apart. both_ways (is_at (row_cmp values) q.values) e (subst (λ (v : List (List ℕ)). is_at (row_cmp values) v ≡ true) (ap (λ (x : Request). x.values) apart) (key_self values)))
          (finds q))

      go : (b : Bool) → is_for q.rel q.positions new ≡ b → Found (cond b (get row_cmp new.numbers q.values) (number_in shelves q))
      go false f = other_found asked its q (number_in shelves q)
          (λ apart. both_ways (is_for q.rel q.positions new) f (is_its q.rel q.positions new (nr ∙ ap (λ (x : Request). x.rel) apart) (np ∙ ap (λ (x : Request). x.positions) apart)))
          (finds q)
      go true f = subst (λ (o : Option ℕ). Found o) (sym (gets q.values)) (at_key f (is_at (row_cmp values) q.values) refl)

-- ---- requests noted one after another

-- the numbers stay those of the requests behind which others are asked
pub numbers_stay : (asked more requests : List Request) (numbers : List ℕ) → AreNumbers asked requests numbers → AreNumbers (asked ++ more) requests numbers
numbers_stay asked more [] [] e = refl
numbers_stay asked more [] (n ∷ ns) e = absurd (cc)
numbers_stay asked more (r ∷ rs) [] e = absurd (cc)
numbers_stay asked more (r ∷ rs) (n ∷ ns) e =
    let here : slice_get asked n ≡ Some r = head_is (slice_get asked n) (Some r) (map (slice_get asked) ns) (map (λ q. Some q) rs) e in
    let rest : map (slice_get asked) ns ≡ map (λ q. Some q) rs = tail_is (slice_get asked n) (Some r) (map (slice_get asked) ns) (map (λ q. Some q) rs) e in
    let one : slice_get (asked ++ more) n ≡ Some r = got_before asked more n (slice_get_within asked n r here) ∙ here in
    let all : map (slice_get (asked ++ more)) ns ≡ map (λ q. Some q) rs = numbers_stay asked more rs ns rest in
    (λ i. one i ∷ all i)

pub numbers_push : (asked requests : List Request) (numbers : List ℕ) (r : Request) (n : ℕ) → AreNumbers asked requests numbers → slice_get asked n ≡ Some r
    → AreNumbers asked (requests ++ r ∷ []) (numbers ++ n ∷ [])
numbers_push asked requests numbers r n e at =
    map-append (slice_get asked) numbers (n ∷ []) ∙ (λ i. e i ++ at i ∷ []) ∙ sym (map-append (λ q. Some q) requests (r ∷ []))

asked_in-append : (a b : List Ask) → asked_in (a ++ b) ≡ asked_in a ++ asked_in b
asked_in-append a b = map-append (λ (ask : Ask). ask.request) a b

module _ (kind : List ℕ) (rel : ℕ) (positions : List ℕ) (list : List (List (List ℕ))) (old : Book) where
  abbrev first_of : ℕ → List (List (List ℕ))
  first_of n = take n list

  pub notes_none : (mid : Book) (place : ℕ) → IsBook old → HasShelf rel positions old.shelves.items mid.shelves.items place → mid.asked.items ≡ old.asked.items
      → (numbers : List ℕ) → numbers ≡ [] → NotesAll kind rel positions (first_of 0) old mid numbers
  notes_none mid place is has same numbers none = record {
    is_book = λ q. subst (λ (l : List Ask). MatchOption (number_in mid.shelves.items q) (Contains (asked_in l) q → ⊥) (λ n. slice_get (asked_in l) n ≡ Some q)) (sym same)
        (subst (λ (o : Option ℕ). MatchOption o (Contains (asked_in old.asked.items) q → ⊥) (λ n. slice_get (asked_in old.asked.items) n ≡ Some q)) (sym (has.same q)) (is q));
    asked = ap asked_in same ∙ sym (append-nil (asked_in old.asked.items));
    are = ap (λ (l : List ℕ). map (slice_get (asked_in mid.asked.items)) l) none;
    kinds = λ ask c. inl (subst (λ (l : List Ask). Contains l ask) same c);
    onward = ([], same ∙ sym (append-nil old.asked.items));
  }

  module _ (n : ℕ) (values : List (List ℕ)) (under : n < length list) (at : values ≡ get_or list n []) where
    abbrev first_requests : ℕ → List Request
    first_requests k = requests_with rel positions (first_of k)

    taken : first_of (n + 1) ≡ first_of n ++ values ∷ []
    taken = take_more list n [] under ∙ ap (λ (v : List (List ℕ)). first_of n ++ v ∷ []) (sym at)

    request_more : first_requests (n + 1) ≡ first_requests n ++ record { rel = rel; positions = positions; values = values } ∷ []
    request_more = ap (requests_with rel positions) taken ∙ map-append (λ (v : List (List ℕ)). record { rel = rel; positions = positions; values = v }) (first_of n) (values ∷ [])

    in_more : (v : List (List ℕ)) → Contains (first_of n) v → Contains (first_of (n + 1)) v
    in_more v c = subst (λ (l : List (List (List ℕ))). Contains l v) (sym taken) (Contains-append_left (first_of n) (values ∷ []) v c)

    last_in : Contains (first_of (n + 1)) values
    last_in = subst (λ (l : List (List (List ℕ))). Contains l values) (sym taken) (Contains-push (first_of n) values)

    pub notes_more : (place : ℕ) (mid new : Book) (shelf after : Shelf) (numbers more : List ℕ) (number : ℕ) → NotesAll kind rel positions (first_of n) old mid numbers
        → IsPlace mid.shelves.items rel positions place → shelf ≡ get_or mid.shelves.items place shelf → new.shelves.items ≡ set mid.shelves.items place after
        → Notes kind values shelf after mid.asked.items new.asked.items number → more ≡ numbers ++ number ∷ []
        → NotesAll kind rel positions (first_of (n + 1)) old new more
    notes_more place mid new shelf after numbers more number so_far p got shelves_are notes pushed = by notes
      where
        within : place < length mid.shelves.items
        within = slice_get_within mid.shelves.items place p.shelf p.at

        same_shelf : shelf ≡ p.shelf
        same_shelf = some_injective shelf p.shelf (sym (slice_get_read mid.shelves.items (length mid.shelves.items) place shelf refl within got) ∙ p.at)

        by_number : get row_cmp p.shelf.numbers values ≡ number_in mid.shelves.items (record { rel = rel; positions = positions; values = values })
        by_number = sym (by_shelf mid.shelves.items rel positions place p (asked_in mid.asked.items) so_far.is_book values values)

        -- what was asked before and is asked with the last one
        asked_with : (l : List Request) → with_asked (asked_in mid.asked.items) (record { rel = rel; positions = positions; values = values } ∷ []) ≡ l
            → l ≡ with_asked (asked_in old.asked.items) (first_requests (n + 1))
        asked_with l e = sym e ∙ ap (λ (a : List Request). with_asked a (record { rel = rel; positions = positions; values = values } ∷ [])) so_far.asked
            ∙ sym (asked_push (first_requests n) (record { rel = rel; positions = positions; values = values } ∷ []) (asked_in old.asked.items))
            ∙ ap (with_asked (asked_in old.asked.items)) (sym request_more)

        numbers_are : (l : List Request) → AreNumbers l (first_requests n) numbers → slice_get l number ≡ Some (record { rel = rel; positions = positions; values = values })
            → AreNumbers l (first_requests (n + 1)) more
        numbers_are l are at_number = subst (λ (m : List ℕ). AreNumbers l (first_requests (n + 1)) m) (sym pushed)
            (subst (λ (r : List Request). AreNumbers l r (numbers ++ number ∷ [])) (sym request_more)
            (numbers_push l (first_requests n) numbers (record { rel = rel; positions = positions; values = values }) number are at_number))

        kinds_stay : (ask : Ask) → Contains mid.asked.items ask
            → Contains old.asked.items ask ⊎ ((ask.kind ≡ kind) × (ask.request.rel ≡ rel) × (ask.request.positions ≡ positions) × Contains (first_of (n + 1)) ask.request.values)
        kinds_stay ask c = ⊎_elim inl (λ (k, r, q, v). inr (k, r, q, in_more ask.request.values v)) (so_far.kinds ask c)

        by : Notes kind values shelf after mid.asked.items new.asked.items number → NotesAll kind rel positions (first_of (n + 1)) old new more
        by (found at_number again stays) =
            let there : slice_get (asked_in mid.asked.items) number ≡ Some (record { rel = rel; positions = positions; values = values }) =
            at_found mid.shelves.items (asked_in mid.asked.items) (record { rel = rel; positions = positions; values = values }) number so_far.is_book
            (sym by_number ∙ ap (λ (s : Shelf). get row_cmp s.numbers values) (sym same_shelf) ∙ at_number) in
            record {
              is_book = subst (λ (l : List Ask). FindsEach new.shelves.items (asked_in l)) (sym stays) (subst (λ (s : List Shelf). FindsEach s (asked_in mid.asked.items)) (sym shelves_are)
                  (finds_again mid.shelves.items rel positions place p (asked_in mid.asked.items) so_far.is_book values after (again ∙ same_shelf)));
              asked = ap asked_in stays ∙ asked_with (asked_in mid.asked.items)
                  (asked_twice (asked_in mid.asked.items) (record { rel = rel; positions = positions; values = values })
                  (contains_got (asked_in mid.asked.items) number (record { rel = rel; positions = positions; values = values }) there));
              are = numbers_are (asked_in new.asked.items)
                  (subst (λ (l : List Ask). AreNumbers (asked_in l) (first_requests n) numbers) (sym stays) so_far.are)
                  (ap (λ (l : List Ask). slice_get (asked_in l) number) stays ∙ there);
              kinds = λ ask c. kinds_stay ask (subst (λ (l : List Ask). Contains l ask) stays c);
              onward = (so_far.onward.0, stays ∙ so_far.onward.1);
            }
        by (added none a) =
            let request : (ask_at shelf kind values).request ≡ record { rel = rel; positions = positions; values = values } =
            (λ i. record { rel = (ap (λ (s : Shelf). s.rel) same_shelf ∙ p.rel_is) i; positions = (ap (λ (s : Shelf). s.positions) same_shelf ∙ p.positions_are) i; values = values }) in
            let grown : asked_in new.asked.items ≡ asked_in mid.asked.items ++ record { rel = rel; positions = positions; values = values } ∷ [] =
            ap asked_in a.after_is ∙ asked_in-append mid.asked.items (ask_at shelf kind values ∷ []) ∙ ap (λ (r : Request). asked_in mid.asked.items ++ r ∷ []) request in
            let none_there : get row_cmp p.shelf.numbers values ≡ None = ap (λ (s : Shelf). get row_cmp s.numbers values) (sym same_shelf) ∙ none in
            let first : number ≡ length (asked_in mid.asked.items) = a.number_is ∙ sym (length-map mid.asked.items (λ (ask : Ask). ask.request)) in
            record {
              is_book = subst (λ (l : List Request). FindsEach new.shelves.items l) (sym grown) (subst (λ (s : List Shelf). FindsEach s (asked_in mid.asked.items ++ record { rel = rel; positions = positions; values = values } ∷ [])) (sym shelves_are)
                  (finds_more mid.shelves.items rel positions place p (asked_in mid.asked.items) so_far.is_book values none_there after
                  (a.rel_is ∙ ap (λ (s : Shelf). s.rel) same_shelf) (a.positions_are ∙ ap (λ (s : Shelf). s.positions) same_shelf) number first
                  (λ other. a.finds other ∙ ap (λ (s : Shelf). cond (is_at (row_cmp values) other) (Some number) (get row_cmp s.numbers other)) same_shelf)));
              asked = grown ∙ asked_with (asked_in mid.asked.items ++ record { rel = rel; positions = positions; values = values } ∷ [])
                  (asked_first (asked_in mid.asked.items) (record { rel = rel; positions = positions; values = values })
                  (at_none mid.shelves.items (asked_in mid.asked.items) (record { rel = rel; positions = positions; values = values }) so_far.is_book (sym by_number ∙ none_there)));
              are = numbers_are (asked_in new.asked.items)
                  (subst (λ (l : List Request). AreNumbers l (first_requests n) numbers) (sym grown)
                  (numbers_stay (asked_in mid.asked.items) (record { rel = rel; positions = positions; values = values } ∷ []) (first_requests n) numbers so_far.are))
                  (ap (λ (l : List Request). slice_get l number) grown
                  ∙ ap (slice_get (asked_in mid.asked.items ++ record { rel = rel; positions = positions; values = values } ∷ [])) first
                  ∙ got_push (asked_in mid.asked.items) (record { rel = rel; positions = positions; values = values }));
              kinds = λ ask c. ⊎_elim (kinds_stay ask)
                  (λ e. inr (
                    ap (λ (x : Ask). x.kind) (sym e),
                    ap (λ (x : Ask). x.request.rel) (sym e) ∙ ap (λ (r : Request). r.rel) request,
                    ap (λ (x : Ask). x.request.positions) (sym e) ∙ ap (λ (r : Request). r.positions) request,
                    subst (λ (x : Ask). Contains (first_of (n + 1)) x.request.values) e last_in,
                  ))
                  (Contains-push_cases mid.asked.items (ask_at shelf kind values) ask (subst (λ (l : List Ask). Contains l ask) a.after_is c));
              onward = (
                so_far.onward.0 ++ ask_at shelf kind values ∷ [],
                a.after_is ∙ ap (λ (l : List Ask). l ++ ask_at shelf kind values ∷ []) so_far.onward.1 ∙ append_assoc old.asked.items so_far.onward.0 (ask_at shelf kind values ∷ []),
              );
            }

    -- the shelf for the requests stays at its place
    pub place_stays : (place : ℕ) (shelves : List Shelf) (shelf after : Shelf) → (p : IsPlace shelves rel positions place) → shelf ≡ get_or shelves place shelf
        → after.rel ≡ shelf.rel → after.positions ≡ shelf.positions → IsPlace (set shelves place after) rel positions place
    place_stays place shelves shelf after p got r q = record {
      shelf = after;
      at = got_set shelves place after within;
      rel_is = r ∙ ap (λ (s : Shelf). s.rel) same ∙ p.rel_is;
      positions_are = q ∙ ap (λ (s : Shelf). s.positions) same ∙ p.positions_are;
      first = λ k other less other_at. p.first k other less (sym (got_set_before shelves place k after less) ∙ other_at);
    }
      where
        within : place < length shelves
        within = slice_get_within shelves place p.shelf p.at

        same : shelf ≡ p.shelf
        same = some_injective shelf p.shelf (sym (slice_get_read shelves (length shelves) place shelf refl within got) ∙ p.at)

        got_set : {X : Type 0} (xs : List X) (n : ℕ) (x : X) → n < length xs → slice_get (set xs n x) n ≡ Some x
        got_set [] n x less = absurd (omega arith)
        got_set (y ∷ xs) zero x less = refl
        got_set (y ∷ xs) (suc n) x less = got_set xs n x (omega arith)

        got_set_before : {X : Type 0} (xs : List X) (n k : ℕ) (x : X) → k < n → slice_get (set xs n x) k ≡ slice_get xs k
        got_set_before [] n k x less = refl
        got_set_before (y ∷ xs) zero k x less = absurd (omega arith)
        got_set_before (y ∷ xs) (suc n) zero x less = refl
        got_set_before (y ∷ xs) (suc n) (suc k) x less = got_set_before xs n k x (omega arith)

    pub notes_alike : (shelf after : Shelf) (asked more : List Ask) (number : ℕ) → Notes kind values shelf after asked more number → (after.rel ≡ shelf.rel) × (after.positions ≡ shelf.positions)
    notes_alike shelf after asked more number (found e again stays) = (ap (λ (s : Shelf). s.rel) again, ap (λ (s : Shelf). s.positions) again)
    notes_alike shelf after asked more number (added e a) = (a.rel_is, a.positions_are)
