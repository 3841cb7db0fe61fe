-- An index of facts, with one fact more and one fact fewer.
use Rattle.std.proofs.Common.{◌≡◌, ◌⊎◌, ℕ, zero, suc, ◌+◌, ◌<◌, List, [], ◌∷◌, ◌++◌, length, Option, Some, None, Bool, true, false, refl, sym, ap, ◌∙◌, subst, inl, inr, ⊎_elim, arith, Contains, slice_get}
use Rattle.std.specs.Prelude.{Decides, nat_eq, ◌&&◌, if◌then◌else◌}
use Rattle.std.proofs.lemmas.Bool.Decides.{Decides-eqb, Decides-and, Decides-like}
use Rattle.lists.proofs.Members.{contains_here, contains_there, contains_cases, some_injective, contains_none}
use Rattle.meaning_laws.proofs.Added.{val_decides}
use Rattle.meaning.specs.declared.types.Val.{Val}
use Rattle.meaning.specs.declared.types.Ground.{Ground}
use Rattle.meaning.specs.Added.{is_same_val}
use Rattle.meaning.specs.Search.{AreDistinct}
use Rattle.homomorphism.specs.declared.key.Key.{Key}
use Rattle.homomorphism.specs.declared.key.Key.TheVariants.{Relation, Value}
use Rattle.homomorphism.specs.declared.fact_index.FactIndex.{FactIndex}
use Rattle.homomorphism.specs.Listed.{is_found_by, value_keys, keys_of, is_val, has_key, numbers_from, listed, MayEndIn, IsIndexOf, MayHaveNoted}

-- the keys of a row
in_values : (rel i : ℕ) (vals : List Val) (key : Key) → Contains (value_keys rel i vals) key → (k : ℕ) × (v : Val) × (slice_get vals k ≡ Some v) × (Value rel (i + k) v ≡ key)
in_values rel i [] key c = absurd (contains_none key c)
in_values rel i (val ∷ vals) key c =
    ⊎_elim (λ e. (0, val, refl, ap (λ n. Value rel n val) (omega arith) ∙ e))
    (λ h. let (k, v, got, e) = in_values rel (i + 1) vals key h in (suc k, v, got, ap (λ n. Value rel n v) (omega arith) ∙ e))
    (contains_cases (Value rel i val) (value_keys rel (i + 1) vals) key c)

pub of_values : (rel i n k : ℕ) (vals : List Val) (v : Val) → slice_get vals k ≡ Some v → n ≡ i + k → Contains (value_keys rel i vals) (Value rel n v)
of_values rel i n k [] v got e = absurd (cc)
of_values rel i n zero (val ∷ vals) v got e =
    subst (Contains (value_keys rel i (val ∷ vals))) (same (some_injective val v got) (omega arith)) (contains_here (Value rel i val) (value_keys rel (i + 1) vals))
  where
    same : val ≡ v → i ≡ n → Value rel i val ≡ Value rel n v
    same f g = cc
of_values rel i n (suc k) (val ∷ vals) v got e =
    contains_there (Value rel i val) (value_keys rel (i + 1) vals) (Value rel n v) (of_values rel (i + 1) n k vals v got (omega arith))

value_parts : (r s p q : ℕ) (v w : Val) → Value r p v ≡ Value s q w → (r ≡ s) × (p ≡ q) × (v ≡ w)
value_parts r s p q v w e =
    let rel : r ≡ s = cc in
    let position : p ≡ q = cc in
    let val : v ≡ w = cc in
    (rel, position, val)

relation_part : (r s : ℕ) → Relation r ≡ Relation s → r ≡ s
relation_part r s e = cc

unlike : (r s p : ℕ) (v : Val) → Relation r ≡ Value s p v → ⊥
unlike r s p v e = cc

-- the test is exact
is_val_decides : (o : Option Val) (v : Val) → Decides (is_val o v) (o ≡ Some v)
is_val_decides None v = ((λ e. absurd (cc)), (λ e. absurd (cc)))
is_val_decides (Some w) v = Decides-like (is_same_val w v) (λ e. ap Some e) (λ e. some_injective w v e) (val_decides w v)

pub has_key_decides : (key : Key) (fact : Ground) → Decides (has_key key fact) (Contains (keys_of fact) key)
has_key_decides (Relation rel) fact =
    Decides-like (nat_eq fact.rel rel)
    (λ e. subst (Contains (keys_of fact)) (ap Relation e) (contains_here (Relation fact.rel) (value_keys fact.rel 0 fact.vals)))
    (λ c. ⊎_elim (λ e. relation_part fact.rel rel e) (λ h. let (k, v, got, e) = in_values fact.rel 0 fact.vals (Relation rel) h in absurd (unlike rel fact.rel (0 + k) v (sym e)))
    (contains_cases (Relation fact.rel) (value_keys fact.rel 0 fact.vals) (Relation rel) c))
    (Decides-eqb fact.rel rel)
has_key_decides (Value rel position val) fact =
    Decides-like (nat_eq fact.rel rel && is_val (slice_get fact.vals position) val)
    (λ (e, got). subst (λ r. Contains (keys_of fact) (Value r position val)) e
    (contains_there (Relation fact.rel) (value_keys fact.rel 0 fact.vals) (Value fact.rel position val) (of_values fact.rel 0 position position fact.vals val got (omega arith))))
    (λ c. ⊎_elim (λ e. absurd (unlike fact.rel rel position val e))
    (λ h. let (k, v, got, e) = in_values fact.rel 0 fact.vals (Value rel position val) h in
    let (r, p, w) = value_parts fact.rel rel (0 + k) position v val e in
    let q : k ≡ position = omega arith in
    (r, ap (slice_get fact.vals) (sym q) ∙ got ∙ ap Some w))
    (contains_cases (Relation fact.rel) (value_keys fact.rel 0 fact.vals) (Value rel position val) c))
    (Decides-and (nat_eq fact.rel rel) (is_val (slice_get fact.vals position) val) (Decides-eqb fact.rel rel) (is_val_decides (slice_get fact.vals position) val))

values_distinct : (rel i : ℕ) (vals : List Val) → AreDistinct (value_keys rel i vals)
values_distinct rel i [] = tt
values_distinct rel i (val ∷ vals) = (
  (λ c.
      let (k, v, got, e) = in_values rel (i + 1) vals (Value rel i val) c in
      let (r, p, w) = value_parts rel rel (i + 1 + k) i v val e in
      omega arith),
  values_distinct rel (i + 1) vals,
)

pub keys_distinct : (fact : Ground) → AreDistinct (keys_of fact)
keys_distinct fact = (
  (λ c. let (k, v, got, e) = in_values fact.rel 0 fact.vals (Relation fact.rel) c in unlike fact.rel fact.rel (0 + k) v (sym e)),
  values_distinct fact.rel 0 fact.vals,
)

-- numbers of facts
pub numbers_below : (i : ℕ) (key : Key) (facts : List Ground) (n : ℕ) → Contains (numbers_from i key facts) n → n < i + length facts
numbers_below i key [] n c = absurd (contains_none n c)
numbers_below i key (fact ∷ facts) n c = by (has_key key fact) (numbers_below (i + 1) key facts n) c
  where
    by : (t : Bool) → (Contains (numbers_from (i + 1) key facts) n → n < i + 1 + length facts) → Contains (if t then i ∷ numbers_from (i + 1) key facts else numbers_from (i + 1) key facts) n → n < i + suc (length facts)
    by true more c = ⊎_elim (λ e. omega arith) (λ h. let l = more h in omega arith) (contains_cases i (numbers_from (i + 1) key facts) n c)
    by false more c = let l = more c in omega arith

numbers_push : (i : ℕ) (key : Key) (facts : List Ground) (fact : Ground) →
    numbers_from i key (facts ++ fact ∷ []) ≡ numbers_from i key facts ++ (if has_key key fact then (i + length facts) ∷ [] else [])
numbers_push i key [] fact = by (has_key key fact)
  where
    by : (t : Bool) → (if t then i ∷ [] else []) ≡ [] ++ (if t then (i + 0) ∷ [] else [])
    by true = ap (λ n. n ∷ []) (omega arith)
    by false = refl
numbers_push i key (first ∷ facts) fact = by (has_key key first) (has_key key fact) (numbers_push (i + 1) key facts fact)
  where
    by : (t u : Bool) → numbers_from (i + 1) key (facts ++ fact ∷ []) ≡ numbers_from (i + 1) key facts ++ (if u then (i + 1 + length facts) ∷ [] else []) →
        (if t then i ∷ numbers_from (i + 1) key (facts ++ fact ∷ []) else numbers_from (i + 1) key (facts ++ fact ∷ []))
        ≡ (if t then i ∷ numbers_from (i + 1) key facts else numbers_from (i + 1) key facts) ++ (if u then (i + suc (length facts)) ∷ [] else [])
    by true true e = ap (λ l. i ∷ l) (e ∙ ap (λ n. numbers_from (i + 1) key facts ++ n ∷ []) (omega arith))
    by true false e = ap (λ l. i ∷ l) e
    by false true e = e ∙ ap (λ n. numbers_from (i + 1) key facts ++ n ∷ []) (omega arith)
    by false false e = e

pub push_with : (key : Key) (facts : List Ground) (fact : Ground) (number : ℕ) → number ≡ length facts → Contains (keys_of fact) key →
    numbers_from 0 key (facts ++ fact ∷ []) ≡ numbers_from 0 key facts ++ number ∷ []
push_with key facts fact number e c =
    numbers_push 0 key facts fact ∙ ap (λ t. numbers_from 0 key facts ++ (if t then (0 + length facts) ∷ [] else [])) ((has_key_decides key fact).1 c) ∙ ap (λ n. numbers_from 0 key facts ++ n ∷ []) (omega arith)

pub push_without : (key : Key) (facts : List Ground) (fact : Ground) → has_key key fact ≡ false → numbers_from 0 key (facts ++ fact ∷ []) ≡ numbers_from 0 key facts
push_without key facts fact e =
    numbers_push 0 key facts fact ∙ ap (λ t. numbers_from 0 key facts ++ (if t then (0 + length facts) ∷ [] else [])) e ∙ nothing (numbers_from 0 key facts)
  where
    nothing : (xs : List ℕ) → xs ++ [] ≡ xs
    nothing [] = refl
    nothing (x ∷ xs) = ap (λ l. x ∷ l) (nothing xs)

not_numbered : (key : Key) (facts : List Ground) (number : ℕ) → number ≡ length facts → Contains (numbers_from 0 key facts) number → ⊥
not_numbered key facts number e c = let l = numbers_below 0 key facts number c in omega arith

has_or_not : (key : Key) (fact : Ground) → Contains (keys_of fact) key ⊎ (has_key key fact ≡ false)
has_or_not key fact = by (has_key key fact) refl
  where
    by : (t : Bool) → has_key key fact ≡ t → Contains (keys_of fact) key ⊎ (has_key key fact ≡ false)
    by true e = inl ((has_key_decides key fact).0 e)
    by false e = inr e

-- a list with the fact's number at its end, or without it, is the one before or ends in the number
ends_as : (facts : List Ground) (fact : Ground) (number : ℕ) (key : Key) → number ≡ length facts →
    MayEndIn (Contains (keys_of fact) key) number (numbers_from 0 key facts) (numbers_from 0 key (facts ++ fact ∷ []))
ends_as facts fact number key e = ⊎_elim (λ c. inr (c, push_with key facts fact number e c)) (λ no. inl (push_without key facts fact no)) (has_or_not key fact)

module _ (facts : List Ground) (fact : Ground) (number : ℕ) (is : number ≡ length facts) (was now : FactIndex) (same : now.positions ≡ was.positions) where
  sought : (key : Key) → is_found_by now.positions key ≡ true → is_found_by was.positions key ≡ true
  sought key found = ap (λ p. is_found_by p key) (sym same) ∙ found

  -- the fact is noted
  pub index_added : (noted : (key : Key) → is_found_by was.positions key ≡ true → Contains (keys_of fact) key → listed now.lists key ≡ listed was.lists key ++ number ∷ []) →
      (part : (key : Key) → MayEndIn (Contains (keys_of fact) key) number (listed was.lists key) (listed now.lists key)) → IsIndexOf facts was → IsIndexOf (facts ++ fact ∷ []) now
  index_added noted part r = record {
    lists = λ key found. ⊎_elim (λ c. noted key (sought key found) c ∙ ap (λ l. l ++ number ∷ []) (r.lists key (sought key found)) ∙ sym (push_with key facts fact number is c))
        (λ no. ⊎_elim (λ e. e ∙ r.lists key (sought key found) ∙ sym (push_without key facts fact no)) (λ (c, e). absurd (clash (sym ((has_key_decides key fact).1 c) ∙ no))) (part key)) (has_or_not key fact);
  }
    where
      clash : true ≡ false → ⊥
      clash e = cc

  -- the fact is noted by some of its keys
  pub index_part : ((key : Key) → MayEndIn (Contains (keys_of fact) key) number (listed was.lists key) (listed now.lists key)) → IsIndexOf facts was → MayHaveNoted facts fact now
  index_part part r = record {
    lists = λ key found. subst (λ n. MayEndIn (Contains (keys_of fact) key) n (numbers_from 0 key facts) (listed now.lists key)) is
        (subst (λ l. MayEndIn (Contains (keys_of fact) key) number l (listed now.lists key)) (r.lists key (sought key found)) (part key));
  }

  -- the fact is taken out, as far as it is noted
  pub index_struck : ((key : Key) (before : List ℕ) → is_found_by was.positions key ≡ true → (Contains before number → ⊥) → MayEndIn (Contains (keys_of fact) key) number before (listed was.lists key) → listed now.lists key ≡ before) →
      MayHaveNoted facts fact was → IsIndexOf facts now
  index_struck struck r = record {
    lists = λ key found. struck key (numbers_from 0 key facts) (sought key found) (not_numbered key facts number is)
        (subst (λ n. MayEndIn (Contains (keys_of fact) key) n (numbers_from 0 key facts) (listed was.lists key)) (sym is) (r.lists key (sought key found)));
  }

-- a fact that is noted by all its keys
pub all_noted : (facts : List Ground) (fact : Ground) (index : FactIndex) → IsIndexOf (facts ++ fact ∷ []) index → MayHaveNoted facts fact index
all_noted facts fact index r = record {
  lists = λ key found. subst (MayEndIn (Contains (keys_of fact) key) (length facts) (numbers_from 0 key facts)) (sym (r.lists key found)) (ends_as facts fact (length facts) key refl);
}
