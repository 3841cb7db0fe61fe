-- What stands in facts to which others were added: the facts that stood there, and those.
use Rattle.std.proofs.Common.{◌≡◌, ◌⊎◌, List, [], ◌∷◌, ◌++◌, Bool, true, false, refl, sym, ap, ◌∙◌, subst, inl, inr, ⊎_elim, arith, length, take, append_assoc}
use Rattle.std.specs.Prelude.{Contains, Decides, nat_eq, map, if◌then◌else◌}
use Rattle.std.specs.List.{list_any}
use Rattle.std.specs.Cmp.Lexicographic.{pointwise, pointwise_decides, bytes_decides}
use Rattle.std.proofs.lemmas.List.{append-nil}
use Rattle.std.proofs.lemmas.Bool.Decides.{Decides-eqb, Decides-and, Decides-or, Decides-like}
use Rattle.std.proofs.lemmas.List.Elements.{Contains-append_left, Contains-push, Contains-push_cases}
use Rattle.lists.proofs.Members.{contains_here, contains_there, contains_cases}
use Rattle.meaning.specs.declared.types.Val.{Val}
use Rattle.meaning.specs.declared.types.Val.TheVariants.{Const, Label}
use Rattle.meaning.specs.declared.types.Ground.{Ground}
use Rattle.meaning.specs.declared.types.Query.{Query}
use Rattle.meaning.specs.Added.{is_same_val, is_same_fact, with_fact, with_facts}
use Rattle.meaning.specs.Triggers.{ground}
use Rattle.meaning.specs.Runs.{opening_state}

-- the tests are exact
pub val_decides : (v w : Val) → Decides (is_same_val v w) (v ≡ w)
val_decides (Const c) (Const d) = Decides-like (is_same_val (Const c) (Const d)) (λ e. ap Const e) (λ e. const_is e) (bytes_decides c d)
  where
    const_is : Const c ≡ Const d → c ≡ d
    const_is e = cc
val_decides (Const c) (Label k) = ((λ e. absurd (cc)), (λ e. absurd (cc)))
val_decides (Label j) (Const d) = ((λ e. absurd (cc)), (λ e. absurd (cc)))
val_decides (Label j) (Label k) = Decides-like (is_same_val (Label j) (Label k)) (λ e. ap Label e) (λ e. label_is e) (Decides-eqb j k)
  where
    label_is : Label j ≡ Label k → j ≡ k
    label_is e = cc

pub fact_decides : (f g : Ground) → Decides (is_same_fact f g) (f ≡ g)
fact_decides f g =
    Decides-like (is_same_fact f g) (λ (r, v). (λ i. record { rel = r i; vals = v i })) (λ e. (ap (λ (h : Ground). h.rel) e, ap (λ (h : Ground). h.vals) e))
    (Decides-and (nat_eq f.rel g.rel) (pointwise is_same_val f.vals g.vals) (Decides-eqb f.rel g.rel) (pointwise_decides val_decides f.vals g.vals))

pub there_decides : (facts : List Ground) (fact : Ground) → Decides (list_any (is_same_fact fact) facts) (Contains facts fact)
there_decides [] fact = ((λ e. absurd (cc)), (λ c. absurd (omega arith)))
there_decides (first ∷ facts) fact =
    Decides-like (list_any (is_same_fact fact) (first ∷ facts))
    (λ either. ⊎_elim (λ e. subst (λ f. Contains (first ∷ facts) f) (sym e) (contains_here first facts)) (λ c. contains_there first facts fact c) either)
    (λ c. ⊎_elim (λ e. inl (sym e)) (λ h. inr h) (contains_cases first facts fact c))
    (Decides-or (is_same_fact fact first) (list_any (is_same_fact fact) facts) (fact_decides fact first) (there_decides facts fact))

-- one fact more
pub with_old : (facts : List Ground) (fact : Ground) → Contains facts fact → with_fact facts fact ≡ facts
with_old facts fact c = ap (λ t. if t then facts else facts ++ fact ∷ []) ((there_decides facts fact).1 c)

pub with_new : (facts : List Ground) (fact : Ground) → (Contains facts fact → ⊥) → with_fact facts fact ≡ facts ++ fact ∷ []
with_new facts fact new = by (list_any (is_same_fact fact) facts) (there_decides facts fact)
  where
    by : (t : Bool) → Decides t (Contains facts fact) → (if t then facts else facts ++ fact ∷ []) ≡ facts ++ fact ∷ []
    by true d = absurd (new (d.0 refl))
    by false d = refl

-- facts more
pub added_left : (facts news : List Ground) (fact : Ground) → Contains facts fact → Contains (with_facts facts news) fact
added_left facts [] fact c = c
added_left facts (first ∷ news) fact c = added_left (with_fact facts first) news fact (by (list_any (is_same_fact first) facts))
  where
    by : (t : Bool) → Contains (if t then facts else facts ++ first ∷ []) fact
    by true = c
    by false = Contains-append_left facts (first ∷ []) fact c

pub added_right : (facts news : List Ground) (fact : Ground) → Contains news fact → Contains (with_facts facts news) fact
added_right facts [] fact c = absurd (omega arith)
added_right facts (first ∷ news) fact c =
    ⊎_elim (λ e. subst (λ f. Contains (with_facts facts (first ∷ news)) f) e (added_left (with_fact facts first) news first (by (list_any (is_same_fact first) facts) (there_decides facts first))))
    (λ h. added_right (with_fact facts first) news fact h) (contains_cases first news fact c)
  where
    by : (t : Bool) → Decides t (Contains facts first) → Contains (if t then facts else facts ++ first ∷ []) first
    by true d = d.0 refl
    by false d = Contains-push facts first

pub added_cases : (facts news : List Ground) (fact : Ground) → Contains (with_facts facts news) fact → Contains facts fact ⊎ Contains news fact
added_cases facts [] fact c = inl c
added_cases facts (first ∷ news) fact c =
    ⊎_elim (λ h. ⊎_elim (λ old. inl old) (λ e. inr (subst (λ f. Contains (first ∷ news) f) e (contains_here first news))) (by (list_any (is_same_fact first) facts) h))
    (λ h. inr (contains_there first news fact h)) (added_cases (with_fact facts first) news fact c)
  where
    by : (t : Bool) → Contains (if t then facts else facts ++ first ∷ []) fact → Contains facts fact ⊎ (first ≡ fact)
    by true h = inl h
    by false h = Contains-push_cases facts first fact h

pub added_front : (facts news : List Ground) → take (length facts) (with_facts facts news) ≡ facts
added_front facts news = let (more, e) = behind facts news in ap (take (length facts)) e ∙ take_front facts more
  where
    take_front : {X : Type 0} (xs ys : List X) → take (length xs) (xs ++ ys) ≡ xs
    take_front [] ys = refl
    take_front (x ∷ xs) ys = ap (λ z. x ∷ z) (take_front xs ys)

    one : (facts : List Ground) (fact : Ground) (t : Bool) → (more : List Ground) × ((if t then facts else facts ++ fact ∷ []) ≡ facts ++ more)
    one facts fact true = ([], sym (append-nil facts))
    one facts fact false = (fact ∷ [], refl)

    behind : (facts news : List Ground) → (more : List Ground) × (with_facts facts news ≡ facts ++ more)
    behind facts [] = ([], sym (append-nil facts))
    behind facts (first ∷ news) =
        let (more, e) = one facts first (list_any (is_same_fact first) facts) in
        let (rest, r) = behind (with_fact facts first) news in
        (more ++ rest, r ∙ ap (λ z. z ++ rest) e ∙ append_assoc facts more rest)

-- the opening facts are the frozen atoms
pub opened_from : (query : Query) (fact : Ground) → Contains (opening_state query).facts fact → Contains (map (ground Label) query.atoms) fact
opened_from query fact c = ⊎_elim (λ none. absurd (omega arith)) (λ h. h) (added_cases [] (map (ground Label) query.atoms) fact c)
