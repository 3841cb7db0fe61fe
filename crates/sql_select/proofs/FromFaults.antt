-- The faults of the FROM items, and what they are where there is none.
use Rattle.std.proofs.Common.{◌≡◌, ◌⊎◌, ℕ, suc, ◌+◌, List, [], ◌∷◌, ◌++◌, ap, subst, sym, ◌∙◌, refl, inl, inr, ⊎_elim, arith, append_assoc, Bool, true, false}
use Rattle.std.specs.Prelude.{Contains, Option, Some, None, slice_get, nat_eq, if◌then◌else◌}
use Rattle.std.specs.List.{AllZip}
use Rattle.std.specs.Cmp.Lexicographic.{pointwise, bytes_decides}
use Rattle.std.specs.Bool.{Decides}
use Rattle.std.proofs.lemmas.List.{append-nil}
use Rattle.meaning.specs.declared.types.Relation.{Relation}
use Rattle.access_schema.specs.Names.{relation_names, AllDiffer}
use Rattle.access_schema.specs.Lists.{is_among}
use Rattle.access_schema.proofs.Texts.{among_contains, not_among, differ_push}
use Rattle.lists.proofs.Members.{contains_here, contains_there, contains_cases, contains_got, contains_none}
use Rattle.sql_select.specs.declared.named.NamedFrom.{NamedFrom}
use Rattle.sql_select.specs.declared.named.NameFault.{NameFault}
use Rattle.sql_select.specs.declared.named.NameFault.TheVariants as fault
use Rattle.sql_select.specs.Names.{from_names, AreFroms, IsFromFault}
use Rattle.sql_select.specs.Resolving.{place_from, unless_there, unknown_relation, used_name, from_fault, with_place, rels_of}
use Rattle.sql_select.proofs.Earliest.{Answers, same_answer, either_answer}

-- what a search for a name says
abbrev pub Placed : ℕ → List (List ℕ) → List ℕ → Option ℕ → Type 0
Placed n xs name None = Contains xs name → ⊥
Placed n xs name (Some j) = (i : ℕ) × (j ≡ n + i) × (slice_get xs i ≡ Some name)

pub place_says : (n : ℕ) (xs : List (List ℕ)) (name : List ℕ) → Placed n xs name (place_from n xs name)
place_says n [] name = λ c. contains_none name c
place_says n (x ∷ xs) name = go (pointwise nat_eq x name) (bytes_decides x name) (place_from (n + 1) xs name) (place_says (n + 1) xs name)
  where
    go : (same : Bool) → Decides same (x ≡ name) → (rest : Option ℕ) → Placed (n + 1) xs name rest → Placed n (x ∷ xs) name (if same then Some n else rest)
    go true d rest is = (0, omega arith, ap (λ y. Some y) (d.0 refl))
    go false d None is = λ c. ⊎_elim (λ e. let t : false ≡ true = d.1 e in absurd (cc)) is (contains_cases x xs name c)
    go false d (Some j) (i, e, at) = (suc i, omega arith, at)

-- the place that is found, counted from 0
pub found_at : (xs : List (List ℕ)) (name : List ℕ) (j : ℕ) → Placed 0 xs name (Some j) → slice_get xs j ≡ Some name
found_at xs name j (i, e, at) = let same : i ≡ j = omega arith in subst (λ k. slice_get xs k ≡ Some name) same at

module _ (relations : List Relation) where
  -- the two faults of a FROM item, where others stand before it
  abbrev UnknownAt : NamedFrom → NameFault → Type 0
  UnknownAt from (fault.Unknown offset) = (from.relation.offset ≡ offset) × (Contains (relation_names relations) from.relation.text → ⊥)
  UnknownAt from (fault.Ambiguous offset) = ⊥

  abbrev UsedAt : List NamedFrom → NamedFrom → NameFault → Type 0
  UsedAt before from (fault.Unknown offset) = ⊥
  UsedAt before from (fault.Ambiguous offset) = (from.item.offset ≡ offset) × Contains (from_names before) from.item.text

  -- a fault of some of these
  abbrev In : List NamedFrom → List NamedFrom → NameFault → Type 0
  In before [] f = ⊥
  In before (from ∷ froms) f = (UnknownAt from f ⊎ UsedAt before from f) ⊎ In (before ++ from ∷ []) froms f

  unknown_answer : (from : NamedFrom) → Answers (UnknownAt from) (unknown_relation relations from)
  unknown_answer from = go (place_from 0 (relation_names relations) from.relation.text) (place_says 0 (relation_names relations) from.relation.text)
    where
      only : (f : NameFault) → UnknownAt from f → f ≡ fault.Unknown from.relation.offset
      only (fault.Unknown offset) (e, _) = ap (λ n. fault.Unknown n) (sym e)
      only (fault.Ambiguous offset) is = absurd is

      go : (place : Option ℕ) → Placed 0 (relation_names relations) from.relation.text place → Answers (UnknownAt from) (unless_there place from.relation.offset)
      go None absent = ((refl, absent), (λ other is. let e = only other is in rw e (omega arith)))
      go (Some j) (i, e, at) = λ f is. none f is
        where
          none : (f : NameFault) → UnknownAt from f → ⊥
          none (fault.Unknown offset) (_, absent) = absent (contains_got (relation_names relations) i from.relation.text at)
          none (fault.Ambiguous offset) is = is

  used_answer : (before : List NamedFrom) (from : NamedFrom) → Answers (UsedAt before from) (used_name before from)
  used_answer before from = go (is_among (from_names before) from.item.text) refl
    where
      only : (f : NameFault) → UsedAt before from f → f ≡ fault.Ambiguous from.item.offset
      only (fault.Unknown offset) is = absurd is
      only (fault.Ambiguous offset) (e, _) = ap (λ n. fault.Ambiguous n) (sym e)

      none : is_among (from_names before) from.item.text ≡ false → (f : NameFault) → UsedAt before from f → ⊥
      none e (fault.Unknown offset) is = is
      none e (fault.Ambiguous offset) (_, used) = not_among (from_names before) from.item.text e used

      go : (used : Bool) → is_among (from_names before) from.item.text ≡ used → Answers (UsedAt before from) (if used then Some (fault.Ambiguous from.item.offset) else None)
      go true e = ((refl, among_contains (from_names before) from.item.text e), (λ other is. let same = only other is in rw same (omega arith)))
      go false e = none e

  all_answer : (before froms : List NamedFrom) (P : NameFault → Type 0) (first : Option NameFault) → Answers P first → Answers (λ f. P f ⊎ In before froms f) (from_fault relations before first froms)
  all_answer before [] P first said = same_answer P (λ f. P f ⊎ ⊥) (λ f p. inl p) (λ f is. ⊎_elim (λ p. p) (λ never. absurd never) is) first said
  all_answer before (from ∷ froms) P first said =
      let one = either_answer (UnknownAt from) P (unknown_relation relations from) first (unknown_answer from) said in
      let two = either_answer (UsedAt before from) (λ f. P f ⊎ UnknownAt from f) (used_name before from) _ (used_answer before from) one in
      let rest = all_answer (before ++ from ∷ []) froms (λ f. (P f ⊎ UnknownAt from f) ⊎ UsedAt before from f) _ two in
      same_answer _ (λ f. P f ⊎ In before (from ∷ froms) f)
      (λ f is. ⊎_elim (λ early. ⊎_elim (λ q. ⊎_elim (λ p. inl p) (λ u. inr (inl (inl u))) q) (λ u. inr (inl (inr u))) early) (λ later. inr (inr later)) is)
      (λ f is. ⊎_elim (λ p. inl (inl (inl p))) (λ here. ⊎_elim (λ at. ⊎_elim (λ u. inl (inl (inr u))) (λ u. inl (inr u)) at) (λ later. inr later) here) is)
      _ rest

  -- the same faults, said of the whole list
  to_whole : (before froms : List NamedFrom) (f : NameFault) → In before froms f → IsFromFault relations (before ++ froms) f
  to_whole before [] f is = absurd is
  to_whole before (from ∷ froms) f is = ⊎_elim (λ at. ⊎_elim (unknown f) (used f) at) (λ h. subst (λ all. IsFromFault relations all f) (append_assoc before (from ∷ []) froms) (to_whole (before ++ from ∷ []) froms f h)) is
    where
      middle : (xs : List NamedFrom) → Contains (xs ++ from ∷ froms) from
      middle [] = contains_here from froms
      middle (x ∷ xs) = contains_there x (xs ++ from ∷ froms) from (middle xs)

      unknown : (f : NameFault) → UnknownAt from f → IsFromFault relations (before ++ from ∷ froms) f
      unknown (fault.Unknown offset) (e, absent) = (from, middle before, e, absent)
      unknown (fault.Ambiguous offset) is = absurd is

      used : (f : NameFault) → UsedAt before from f → IsFromFault relations (before ++ from ∷ froms) f
      used (fault.Unknown offset) is = absurd is
      used (fault.Ambiguous offset) (e, there) = (before, from, froms, refl, e, there)

  from_whole : (froms : List NamedFrom) (f : NameFault) → IsFromFault relations froms f → In [] froms f
  from_whole froms (fault.Unknown offset) (from, among, e, absent) = unknown_in [] froms from offset among e absent
    where
      unknown_in : (before froms : List NamedFrom) (from : NamedFrom) (offset : ℕ) → Contains froms from → from.relation.offset ≡ offset → (Contains (relation_names relations) from.relation.text → ⊥) → In before froms (fault.Unknown offset)
      unknown_in before [] from offset among e absent = absurd (contains_none from among)
      unknown_in before (x ∷ froms) from offset among e absent = ⊎_elim (λ same. inl (inl (subst (λ (y : NamedFrom). UnknownAt y (fault.Unknown offset)) (sym same) (e, absent)))) (λ h. inr (unknown_in (before ++ x ∷ []) froms from offset h e absent)) (contains_cases x froms from among)
  from_whole froms (fault.Ambiguous offset) (before, from, after, whole, e, used) = subst (λ all. In [] all (fault.Ambiguous offset)) (sym whole) (used_in [] before used)
    where
      used_in : (first before : List NamedFrom) → Contains (from_names (first ++ before)) from.item.text → In first (before ++ from ∷ after) (fault.Ambiguous offset)
      used_in first [] used = inl (inr (e, subst (λ all. Contains (from_names all) from.item.text) (append-nil first) used))
      used_in first (x ∷ before) used = inr (used_in (first ++ x ∷ []) before (subst (λ all. Contains (from_names all) from.item.text) (sym (append_assoc first (x ∷ []) before)) used))

  pub froms_answer : (froms : List NamedFrom) → Answers (IsFromFault relations froms) (from_fault relations [] None froms)
  froms_answer froms =
      let said = all_answer [] froms (λ f. ⊥) None (λ f never. never) in
      same_answer (λ f. ⊥ ⊎ In [] froms f) (IsFromFault relations froms) (λ f is. ⊎_elim (λ never. absurd never) (to_whole [] froms f) is) (λ f is. inr (from_whole froms f is)) _ said

  -- ---- where there is none

  -- each relation is there
  zipped : (froms : List NamedFrom) → ((from : NamedFrom) → Contains froms from → (Contains (relation_names relations) from.relation.text → ⊥) → ⊥) →
      AllZip (λ (from : NamedFrom) (rel : ℕ). slice_get (relation_names relations) rel ≡ Some from.relation.text) froms (rels_of relations froms)
  zipped [] known = tt
  zipped (from ∷ froms) known = go (place_from 0 (relation_names relations) from.relation.text) (place_says 0 (relation_names relations) from.relation.text) (zipped froms (λ x c absent. known x (contains_there from froms x c) absent))
    where
      go : (place : Option ℕ) → Placed 0 (relation_names relations) from.relation.text place →
          AllZip (λ (from : NamedFrom) (rel : ℕ). slice_get (relation_names relations) rel ≡ Some from.relation.text) froms (rels_of relations froms) →
          AllZip (λ (from : NamedFrom) (rel : ℕ). slice_get (relation_names relations) rel ≡ Some from.relation.text) (from ∷ froms) (with_place place (rels_of relations froms))
      go None absent rest = absurd (known from (contains_here from froms) absent)
      go (Some j) is rest = (found_at (relation_names relations) from.relation.text j is, rest)

  names_push : (before : List NamedFrom) (from : NamedFrom) → from_names (before ++ from ∷ []) ≡ from_names before ++ from.item.text ∷ []
  names_push [] from = refl
  names_push (x ∷ before) from = ap (λ r. x.item.text ∷ r) (names_push before from)

  -- no name was used before
  differs : (before froms : List NamedFrom) → AllDiffer (from_names before) → ((offset : ℕ) → In before froms (fault.Ambiguous offset) → ⊥) → AllDiffer (from_names (before ++ froms))
  differs before [] differ none = subst (λ all. AllDiffer (from_names all)) (sym (append-nil before)) differ
  differs before (from ∷ froms) differ none =
      let free : Contains (from_names before) from.item.text → ⊥ = λ c. none from.item.offset (inl (inr (refl, c))) in
      let pushed = subst (λ names. AllDiffer names) (sym (names_push before from)) (differ_push (from_names before) from.item.text differ free) in
      subst (λ all. AllDiffer (from_names all)) (append_assoc before (from ∷ []) froms) (differs (before ++ from ∷ []) froms pushed (λ offset is. none offset (inr is)))

  pub are_froms : (froms : List NamedFrom) → ((f : NameFault) → IsFromFault relations froms f → ⊥) → AreFroms relations froms (rels_of relations froms)
  are_froms froms none = record {
    relations_are = zipped froms (λ from c absent. none (fault.Unknown from.relation.offset) (from, c, refl, absent));
    differ = differs [] froms (λ i j member at at'. absurd (empty i member at)) (λ offset is. none (fault.Ambiguous offset) (to_whole [] froms (fault.Ambiguous offset) is));
  }
    where
      empty : (i : ℕ) (member : List ℕ) → slice_get (from_names []) i ≡ Some member → ⊥
      empty i member at = absurd (cc)

  -- and where FROM items are relations, they have none
  pub no_from_fault : (froms : List NamedFrom) (rels : List ℕ) → AreFroms relations froms rels → (f : NameFault) → IsFromFault relations froms f → ⊥
  no_from_fault froms rels are (fault.Unknown offset) (from, among, e, absent) = there froms rels are.relations_are among
    where
      there : (froms : List NamedFrom) (rels : List ℕ) → AllZip (λ (from : NamedFrom) (rel : ℕ). slice_get (relation_names relations) rel ≡ Some from.relation.text) froms rels → Contains froms from → ⊥
      there [] rels zip c = contains_none from c
      there (x ∷ froms) [] zip c = zip
      there (x ∷ froms) (rel ∷ rels) (at, zip) c = ⊎_elim (λ same. absent (contains_got (relation_names relations) rel from.relation.text (at ∙ ap (λ (y : NamedFrom). Some y.relation.text) same))) (there froms rels zip) (contains_cases x froms from c)
  no_from_fault froms rels are (fault.Ambiguous offset) (before, from, after, whole, e, used) =
      let differ = subst (λ all. AllDiffer (from_names all)) whole are.differ in twice before used differ
    where
      head_again : (x : NamedFrom) (before : List NamedFrom) → from.item.text ≡ x.item.text → AllDiffer (from_names (x ∷ before ++ from ∷ after)) → ⊥
      head_again x before same differ = let (k, at) = later before in absurd (zero_suc k (differ 0 (suc k) from.item.text (ap (λ y. Some y) (sym same)) at))
        where
          later : (xs : List NamedFrom) → (k : ℕ) × (slice_get (from_names (xs ++ from ∷ after)) k ≡ Some from.item.text)
          later [] = (0, refl)
          later (y ∷ xs) = let (k, at) = later xs in (suc k, at)

          zero_suc : (k : ℕ) → 0 ≡ suc k → ⊥
          zero_suc k e = absurd (omega arith)

      twice : (before : List NamedFrom) → Contains (from_names before) from.item.text → AllDiffer (from_names (before ++ from ∷ after)) → ⊥
      twice [] used differ = contains_none from.item.text used
      twice (x ∷ before) used differ = ⊎_elim (λ same. head_again x before (sym same) differ)
          (λ rest. twice before rest (λ i j member at at'. let e = differ (suc i) (suc j) member at at' in omega (arith, e)))
          (contains_cases x.item.text (from_names before) from.item.text used)

  -- the relations of FROM items are those alone
  pub one_rels : (froms : List NamedFrom) (rels rels' : List ℕ) → AllDiffer (relation_names relations) → AreFroms relations froms rels → AreFroms relations froms rels' → rels ≡ rels'
  one_rels froms rels rels' differ are are' = go froms rels rels' are.relations_are are'.relations_are
    where
      go : (froms : List NamedFrom) (rels rels' : List ℕ) → AllZip (λ (from : NamedFrom) (rel : ℕ). slice_get (relation_names relations) rel ≡ Some from.relation.text) froms rels →
          AllZip (λ (from : NamedFrom) (rel : ℕ). slice_get (relation_names relations) rel ≡ Some from.relation.text) froms rels' → rels ≡ rels'
      go [] [] [] z z' = refl
      go [] [] (r ∷ rs) z z' = absurd z'
      go [] (r ∷ rs) rs' z z' = absurd z
      go (x ∷ froms) [] rs' z z' = absurd z
      go (x ∷ froms) (r ∷ rs) [] z z' = absurd z'
      go (x ∷ froms) (r ∷ rs) (r' ∷ rs') (at, z) (at', z') =
          let head : r ≡ r' = differ r r' x.relation.text at at' in
          let rest : rs ≡ rs' = go froms rs rs' z z' in
          ap (λ k. k ∷ rs) head ∙ ap (λ ks. r' ∷ ks) rest
