-- A number that is added to the lists of keys one after another, and taken from them.
use Rattle.std.proofs.Common.{◌≡◌, ◌⊎◌, ℕ, zero, suc, ◌+◌, ◌<◌, ◌≤◌, List, [], ◌∷◌, ◌++◌, length, Some, true, false, refl, sym, ap, ◌∙◌, subst, inl, inr, ⊎_elim, arith, Contains, slice_get, slice_index_or, take}
use Rattle.std.proofs.lemmas.List.{take_all}
use Rattle.std.proofs.lemmas.List.Elements.{Contains-append_left, Contains-push, Contains-push_cases}
use Rattle.std.proofs.lemmas.Option.{slice_get-get_or}
use Rattle.lists.proofs.Members.{contains_here, contains_there, contains_none}
use Rattle.lists.proofs.Places.{take_indexed}
use Rattle.meaning.specs.declared.types.Val.{Val}
use Rattle.meaning.specs.declared.types.Ground.{Ground}
use Rattle.meaning.specs.Search.{AreDistinct}
use Rattle.homomorphism.specs.declared.key.Key.{Key}
use Rattle.homomorphism.specs.declared.key.Key.TheVariants.{Relation, Value}
use Rattle.homomorphism.specs.declared.key_lists.KeyLists.{KeyLists}
use Rattle.homomorphism.specs.declared.positions.Positions.{Positions}
use Rattle.homomorphism.specs.Listed.{is_found_by, listed, keys_of, value_keys, MayEndIn}
use Rattle.homomorphism.proofs.Exact.{key_cases}
use Rattle.homomorphism.proofs.Indexing.{keys_distinct, of_values}
use Rattle.homomorphism.proofs.Members.{contains_else, distinct_parts}

length_take : {X : Type 0} (n : ℕ) (xs : List X) → n < length xs → n ≡ 0 + length (take n xs)
length_take zero xs l = refl
length_take (suc n) [] l = absurd (omega arith)
length_take (suc n) (x ∷ xs) l = let e = length_take n xs (omega arith) in omega arith

value_keys_push : (rel i n : ℕ) (vals : List Val) (val : Val) → n ≡ i + length vals → value_keys rel i (vals ++ val ∷ []) ≡ value_keys rel i vals ++ Value rel n val ∷ []
value_keys_push rel i n [] val e = ap (λ m. Value rel m val ∷ []) (omega arith)
value_keys_push rel i n (first ∷ vals) val e = ap (λ keys. Value rel i first ∷ keys) (value_keys_push rel (i + 1) n vals val (omega arith))

-- the keys that were gone through have the number in addition where facts are found by them, and the others have their lists
pub record Noting (positions : Positions) (all done : List Key) (number : ℕ) (was now : KeyLists) : Type 0 where
  pub part : (key : Key) → MayEndIn (Contains all key) number (listed was key) (listed now key)
  pub noted : (key : Key) → is_found_by positions key ≡ true → Contains done key → listed now key ≡ listed was key ++ number ∷ []
  pub rest : (key : Key) → (Contains done key → ⊥) → listed now key ≡ listed was key

noting_none : (positions : Positions) (all : List Key) (number : ℕ) (was : KeyLists) → Noting positions all [] number was was
noting_none positions all number was = record {
  part = λ key. inl refl;
  noted = λ key found c. absurd (contains_none key c);
  rest = λ key none. refl;
}

true_false : true ≡ false → ⊥
true_false e = cc

module _ (positions : Positions) (all done : List Key) (number : ℕ) (was now : KeyLists) (r : Noting positions all done number was now) where
  pub noting_refused : (next : KeyLists) → ((other : Key) → listed next other ≡ listed now other) → (other : Key) → MayEndIn (Contains all other) number (listed was other) (listed next other)
  noting_refused next same other = ⊎_elim (λ e. inl (same other ∙ e)) (λ (c, e). inr (c, same other ∙ e)) (r.part other)

  noting_push : (next : KeyLists) (key : Key) → Contains all key → (Contains done key → ⊥) → listed next key ≡ listed now key ++ number ∷ [] →
      ((other : Key) → (other ≡ key → ⊥) → listed next other ≡ listed now other) → Noting positions all (done ++ key ∷ []) number was next
  noting_push next key inside new here others = record {
    part = λ other. ⊎_elim (λ same. subst (λ k. MayEndIn (Contains all k) number (listed was k) (listed next k)) (sym same) (inr (inside, now_noted)))
        (λ differ. ⊎_elim (λ e. inl (others other differ ∙ e)) (λ (c, e). inr (c, others other differ ∙ e)) (r.part other)) (key_cases key other);
    noted = λ other found c. ⊎_elim (λ same. subst (λ k. listed next k ≡ listed was k ++ number ∷ []) (sym same) now_noted)
        (λ differ. others other differ ∙ r.noted other found (⊎_elim (λ h. h) (λ e. absurd (differ (sym e))) (Contains-push_cases done key other c))) (key_cases key other);
    rest = λ other none. others other (λ same. none (subst (Contains (done ++ key ∷ [])) (sym same) (Contains-push done key))) ∙ r.rest other (λ c. none (Contains-append_left done (key ∷ []) other c));
  }
    where
      now_noted : listed next key ≡ listed was key ++ number ∷ []
      now_noted = here ∙ ap (λ l. l ++ number ∷ []) (r.rest key new)

  noting_pass : (key : Key) → is_found_by positions key ≡ false → Noting positions all (done ++ key ∷ []) number was now
  noting_pass key fails = record {
    part = r.part;
    noted = λ other found c. ⊎_elim (λ h. r.noted other found h) (λ e. absurd (true_false (sym found ∙ ap (is_found_by positions) (sym e) ∙ fails))) (Contains-push_cases done key other c);
    rest = λ other none. r.rest other (λ c. none (Contains-append_left done (key ∷ []) other c));
  }

-- the keys of the fact's relation and of its first values
abbrev pub keys_before : Ground → List Val → ℕ → List Key
keys_before fact vals p = Relation fact.rel ∷ value_keys fact.rel 0 (take p vals)

pub noting_relation : (positions : Positions) (fact : Ground) (vals : List Val) (number : ℕ) (was next : KeyLists) → listed next (Relation fact.rel) ≡ listed was (Relation fact.rel) ++ number ∷ [] →
    ((other : Key) → (other ≡ Relation fact.rel → ⊥) → listed next other ≡ listed was other) → Noting positions (keys_of fact) (keys_before fact vals 0) number was next
noting_relation positions fact vals number was next here others = noting_push positions (keys_of fact) [] number was was (noting_none positions (keys_of fact) number was) next (Relation fact.rel)
    (contains_here (Relation fact.rel) (value_keys fact.rel 0 fact.vals)) (contains_none (Relation fact.rel)) here others

-- one turn of the loop over the values
module _ (positions : Positions) (fact : Ground) (vals : List Val) (same : vals ≡ fact.vals) (number p : ℕ) (val : Val) (l : p < length vals) (is : val ≡ slice_index_or vals p val)
    (was now : KeyLists) (r : Noting positions (keys_of fact) (keys_before fact vals p) number was now) where
  one_more : keys_before fact vals p ++ Value fact.rel p val ∷ [] ≡ keys_before fact vals (p + 1)
  one_more = ap (λ keys. Relation fact.rel ∷ keys) (sym (value_keys_push fact.rel 0 p (take p vals) val (length_take p vals l)) ∙ ap (value_keys fact.rel 0) (sym (take_indexed vals p val l is)))

  inside : Contains (keys_of fact) (Value fact.rel p val)
  inside = contains_there (Relation fact.rel) (value_keys fact.rel 0 fact.vals) (Value fact.rel p val)
      (of_values fact.rel 0 p p fact.vals val (ap (λ vs. slice_get vs p) (sym same) ∙ slice_get-get_or vals p val l ∙ ap Some (sym is)) (omega arith))

  new : Contains (keys_before fact vals p) (Value fact.rel p val) → ⊥
  unfolding one_more
  new = (distinct_parts (keys_before fact vals p) (Value fact.rel p val) (subst AreDistinct (sym one_more) (keys_distinct (record { rel = fact.rel; vals = take (p + 1) vals })))).1

  pub noting_more : (key : Key) (next : KeyLists) → key ≡ Value fact.rel p val → listed next key ≡ listed now key ++ number ∷ [] →
      ((other : Key) → (other ≡ key → ⊥) → listed next other ≡ listed now other) → Noting positions (keys_of fact) (keys_before fact vals (p + 1)) number was next
  unfolding one_more inside new
  noting_more key next e here others = subst (λ done. Noting positions (keys_of fact) done number was next) one_more
      (noting_push positions (keys_of fact) (keys_before fact vals p) number was now r next (Value fact.rel p val) inside new
      (subst (λ k. listed next k ≡ listed now k ++ number ∷ []) e here) (λ other differ. others other (λ f. differ (f ∙ e))))

  pub noting_skip : is_found_by positions (Value fact.rel p val) ≡ false → Noting positions (keys_of fact) (keys_before fact vals (p + 1)) number was now
  unfolding one_more
  noting_skip fails = subst (λ done. Noting positions (keys_of fact) done number was now) one_more (noting_pass positions (keys_of fact) (keys_before fact vals p) number was now r (Value fact.rel p val) fails)

pub noting_end : (positions : Positions) (fact : Ground) (vals : List Val) (p number : ℕ) (was now : KeyLists) → vals ≡ fact.vals → length vals ≤ p → Noting positions (keys_of fact) (keys_before fact vals p) number was now →
    (key : Key) → is_found_by positions key ≡ true → Contains (keys_of fact) key → listed now key ≡ listed was key ++ number ∷ []
noting_end positions fact vals p number was now same past r key found c =
    r.noted key found (subst (λ vs. Contains (Relation fact.rel ∷ value_keys fact.rel 0 vs) key) (sym (take_all p vals past ∙ same)) c)

-- what a key's list is once the number is taken from its end
strike_one : (P Q : Key → Type 0) (key : Key) (number : ℕ) (now next : KeyLists) → ((k : Key) → P k → (k ≡ key → ⊥) → Q k) →
    ((before : List ℕ) → listed now key ≡ before ++ number ∷ [] → listed next key ≡ before) →
    ((Contains (listed now key) number → ⊥) → listed next key ≡ listed now key) →
    ((other : Key) → (other ≡ key → ⊥) → listed next other ≡ listed now other) →
    (k : Key) (before : List ℕ) → (Contains before number → ⊥) → MayEndIn (P k) number before (listed now k) → MayEndIn (Q k) number before (listed next k)
strike_one P Q key number now next less there not_there others k before none h =
    ⊎_elim (λ same. inl (ap (λ j. listed next j) same ∙ here (⊎_elim (λ e. inl (ap (λ j. listed now j) (sym same) ∙ e)) (λ (p, e). inr (ap (λ j. listed now j) (sym same) ∙ e)) h)))
    (λ differ. ⊎_elim (λ e. inl (others k differ ∙ e)) (λ (p, e). inr (less k p differ, others k differ ∙ e)) h) (key_cases key k)
  where
    here : (listed now key ≡ before) ⊎ (listed now key ≡ before ++ number ∷ []) → listed next key ≡ before
    here either = ⊎_elim (λ e. not_there (λ c. none (subst (λ l. Contains l number) e c)) ∙ e) (λ e. there before e) either

-- of the keys that facts are found by, the number is at most at the ends of the lists of the values that are left
abbrev pub Striking : Positions → Ground → List Val → ℕ → KeyLists → KeyLists → Type 0
Striking positions fact vals number was now =
    (key : Key) (before : List ℕ) → is_found_by positions key ≡ true → (Contains before number → ⊥) → MayEndIn (Contains (keys_of fact) key) number before (listed was key) →
    MayEndIn (Contains (value_keys fact.rel 0 vals) key) number before (listed now key)

module _ (positions : Positions) (fact : Ground) (number : ℕ) (was now : KeyLists) where
  pub striking_start : (next : KeyLists) → ((before : List ℕ) → listed was (Relation fact.rel) ≡ before ++ number ∷ [] → listed next (Relation fact.rel) ≡ before) →
      ((Contains (listed was (Relation fact.rel)) number → ⊥) → listed next (Relation fact.rel) ≡ listed was (Relation fact.rel)) →
      ((other : Key) → (other ≡ Relation fact.rel → ⊥) → listed next other ≡ listed was other) → Striking positions fact fact.vals number was next
  striking_start next there not_there others key before found none h = strike_one (Contains (keys_of fact)) (Contains (value_keys fact.rel 0 fact.vals)) (Relation fact.rel) number was next
      (λ k c differ. contains_else (Relation fact.rel) (value_keys fact.rel 0 fact.vals) k (λ e. differ (sym e)) c) there not_there others key before none h

  module _ (vals rest : List Val) (val : Val) (position : ℕ) (split : vals ≡ rest ++ val ∷ []) (last : position ≡ length rest) (r : Striking positions fact vals number was now) where
    less : (k : Key) → Contains (value_keys fact.rel 0 vals) k → (k ≡ Value fact.rel position val → ⊥) → Contains (value_keys fact.rel 0 rest) k
    less k c differ = ⊎_elim (λ h. h) (λ e. absurd (differ (sym e)))
        (Contains-push_cases (value_keys fact.rel 0 rest) (Value fact.rel position val) k
        (subst (λ ks. Contains ks k) (ap (value_keys fact.rel 0) split ∙ value_keys_push fact.rel 0 position rest val (last ∙ omega arith)) c))

    pub striking_more : (next : KeyLists) → ((before : List ℕ) → listed now (Value fact.rel position val) ≡ before ++ number ∷ [] → listed next (Value fact.rel position val) ≡ before) →
        ((Contains (listed now (Value fact.rel position val)) number → ⊥) → listed next (Value fact.rel position val) ≡ listed now (Value fact.rel position val)) →
        ((other : Key) → (other ≡ Value fact.rel position val → ⊥) → listed next other ≡ listed now other) → Striking positions fact rest number was next
    unfolding less
    striking_more next there not_there others key before found none h =
        strike_one (Contains (value_keys fact.rel 0 vals)) (Contains (value_keys fact.rel 0 rest)) (Value fact.rel position val) number now next less there not_there others key before none (r key before found none h)

    pub striking_skip : is_found_by positions (Value fact.rel position val) ≡ false → Striking positions fact rest number was now
    unfolding less
    striking_skip fails key before found none h =
        ⊎_elim (λ e. inl e) (λ (c, e). inr (less key c (λ same. true_false (sym found ∙ ap (is_found_by positions) same ∙ fails)), e)) (r key before found none h)

  pub striking_end : (vals : List Val) → vals ≡ [] → Striking positions fact vals number was now →
      (key : Key) (before : List ℕ) → is_found_by positions key ≡ true → (Contains before number → ⊥) → MayEndIn (Contains (keys_of fact) key) number before (listed was key) → listed now key ≡ before
  striking_end vals empty r key before found none h = ⊎_elim (λ e. e) (λ (c, e). absurd (contains_none key (subst (λ vs. Contains (value_keys fact.rel 0 vs) key) empty c))) (r key before found none h)
