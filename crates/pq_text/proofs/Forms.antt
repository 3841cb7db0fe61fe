-- What is read has its form, and what has a form is read.
use Rattle.std.proofs.Common.{◌≡◌, ◌≢◌, ℕ, zero, suc, ◌+◌, ◌<◌, ◌≤◌, Bool, true, false, List, [], ◌∷◌, ◌++◌, length, Option, None, Some, refl, sym, ap, subst, ◌∙◌, append_assoc, arith, lit≤}
use Rattle.std.specs.Prelude.{◌&&◌, ◌==◌, not, nat_eq}
use Rattle.std.specs.Cmp.Lexicographic.{pointwise}
use Rattle.std.specs.List.{AllByRecursion}
use Rattle.std.proofs.lemmas.List.{length-append}
use Rattle.lists.proofs.Booleans.{both_true, cond_some}
use Rattle.lists.proofs.Members.{some_injective}
use Rattle.lists.proofs.Orders.{text_is}
use Rattle.pq_text.specs.declared.lexeme.Lexeme.{Lexeme}
use Rattle.pq_text.specs.Lexemes.{◌>>=◌, comma, end_at, kind_is_symbol, kind_is_word, kind_names, word_next, is_word, is_symbol, is_name, is_value, is_text, is_number, symbol_at, word_at, name_at, value_at, text_at, number_at, next_member, members, names_at, values_at}
use Rattle.pq_text.specs.Forms.{Slot, Key, Mark, Name, Value, Quote, Digits, Takes, further_form, list_form, IsSome, name_form, value_form}

pub bind_some : {A B : Type 0} (r : Option A) (f : A → Option B) (y : B) → (r >>= f) ≡ Some y → (x : A) × (r ≡ Some x) × (f x ≡ Some y)
bind_some None f y e = absurd cc
bind_some (Some x) f y e = (x, refl, e)

-- no token is left
pub end_is : (ls rest : List Lexeme) → end_at ls ≡ Some rest → (ls ≡ []) × (rest ≡ [])
end_is [] rest e = (refl, cc)
end_is (l ∷ ls) rest e = absurd cc

-- some members
pub some_listed : {X : Type 0} (xs : List X) → xs ≢ [] → IsSome xs
some_listed [] some = some refl
some_listed (x ∷ xs) some = tt

pub some_long : {X : Type 0} (xs : List X) → 1 ≤ length xs → IsSome xs
some_long [] some = omega arith
some_long (x ∷ xs) some = tt

pub not_empty : {X : Type 0} (xs : List X) → IsSome xs → xs ≢ []
not_empty [] some = absurd some
not_empty (x ∷ xs) some = λ e. cc

-- ---- forms one after another

pub Takes-append : (ls : List Lexeme) (a b : List Slot) (mid rest : List Lexeme) → Takes ls a mid → Takes mid b rest → Takes ls (a ++ b) rest
Takes-append ls [] b mid rest p q = subst (λ (x : List Lexeme). Takes x b rest) (sym p) q
Takes-append [] (s ∷ a) b mid rest p q = absurd p
Takes-append (l ∷ ls) (s ∷ a) b mid rest p q = (p.0, Takes-append ls a b mid rest p.1 q)

pub Takes-split : (ls : List Lexeme) (a b : List Slot) (rest : List Lexeme) → Takes ls (a ++ b) rest → (mid : List Lexeme) × Takes ls a mid × Takes mid b rest
Takes-split ls [] b rest t = (ls, refl, t)
Takes-split [] (s ∷ a) b rest t = absurd t
Takes-split (l ∷ ls) (s ∷ a) b rest t = let r = Takes-split ls a b rest t.1 in (r.0, (t.0, r.1), r.2)

pub Takes-length : (ls : List Lexeme) (a : List Slot) (rest : List Lexeme) → Takes ls a rest → length ls ≡ length a + length rest
Takes-length ls [] rest t = rw (← t) (omega arith)
Takes-length [] (s ∷ a) rest t = absurd t
Takes-length (l ∷ ls) (s ∷ a) rest t = let e = Takes-length ls a rest t.1 in omega arith

-- ---- one token

pub symbol_found : (text : List ℕ) (ls rest : List Lexeme) → symbol_at text ls ≡ Some rest → Takes ls (Mark text ∷ []) rest
symbol_found text [] rest e = absurd cc
symbol_found text (l ∷ ls) rest e = cond_some (is_symbol text l) ls rest e

pub symbol_again : (text : List ℕ) (ls : List Lexeme) (ss : List Slot) (rest : List Lexeme) → Takes ls (Mark text ∷ ss) rest → (mid : List Lexeme) × (symbol_at text ls ≡ Some mid) × Takes mid ss rest
symbol_again text [] ss rest t = absurd t
symbol_again text (l ∷ ls) ss rest t = (ls, rw t.0 refl, t.1)

pub word_found : (text : List ℕ) (ls rest : List Lexeme) → word_at text ls ≡ Some rest → Takes ls (Key text ∷ []) rest
word_found text [] rest e = absurd cc
word_found text (l ∷ ls) rest e = cond_some (is_word text l) ls rest e

pub word_again : (text : List ℕ) (ls : List Lexeme) (ss : List Slot) (rest : List Lexeme) → Takes ls (Key text ∷ ss) rest → (mid : List Lexeme) × (word_at text ls ≡ Some mid) × Takes mid ss rest
word_again text [] ss rest t = absurd t
word_again text (l ∷ ls) ss rest t = (ls, rw t.0 refl, t.1)

pub name_found : (ls : List Lexeme) (n : List ℕ) (rest : List Lexeme) → name_at ls ≡ Some (n, rest) → Takes ls (Name n ∷ []) rest
name_found [] n rest e = absurd cc
name_found (l ∷ ls) n rest e = let g = cond_some (is_name l) (l.text, ls) (n, rest) e in ((g.0, ap (λ (p : List ℕ × List Lexeme). p.0) g.1), ap (λ (p : List ℕ × List Lexeme). p.1) g.1)

pub name_again : (ls : List Lexeme) (n : List ℕ) (ss : List Slot) (rest : List Lexeme) → Takes ls (Name n ∷ ss) rest → (mid : List Lexeme) × (name_at ls ≡ Some (n, mid)) × Takes mid ss rest
name_again [] n ss rest t = absurd t
name_again (l ∷ ls) n ss rest t = (ls, rw (t.0.0, t.0.1) refl, t.1)

pub value_found : (ls : List Lexeme) (v : List ℕ) (rest : List Lexeme) → value_at ls ≡ Some (v, rest) → Takes ls (Value v ∷ []) rest
value_found [] v rest e = absurd cc
value_found (l ∷ ls) v rest e = let g = cond_some (is_value l) (l.text, ls) (v, rest) e in ((g.0, ap (λ (p : List ℕ × List Lexeme). p.0) g.1), ap (λ (p : List ℕ × List Lexeme). p.1) g.1)

pub value_again : (ls : List Lexeme) (v : List ℕ) (ss : List Slot) (rest : List Lexeme) → Takes ls (Value v ∷ ss) rest → (mid : List Lexeme) × (value_at ls ≡ Some (v, mid)) × Takes mid ss rest
value_again [] v ss rest t = absurd t
value_again (l ∷ ls) v ss rest t = (ls, rw (t.0.0, t.0.1) refl, t.1)

pub text_found : (ls : List Lexeme) (v : List ℕ) (rest : List Lexeme) → text_at ls ≡ Some (v, rest) → Takes ls (Quote v ∷ []) rest
text_found [] v rest e = absurd cc
text_found (l ∷ ls) v rest e = let g = cond_some (is_text l) (l.text, ls) (v, rest) e in ((g.0, ap (λ (p : List ℕ × List Lexeme). p.0) g.1), ap (λ (p : List ℕ × List Lexeme). p.1) g.1)

pub text_again : (ls : List Lexeme) (v : List ℕ) (ss : List Slot) (rest : List Lexeme) → Takes ls (Quote v ∷ ss) rest → (mid : List Lexeme) × (text_at ls ≡ Some (v, mid)) × Takes mid ss rest
text_again [] v ss rest t = absurd t
text_again (l ∷ ls) v ss rest t = (ls, rw (t.0.0, t.0.1) refl, t.1)

named_some : (b : Bool) (text : List ℕ) → (b && not (length text == 0)) ≡ true → text ≡ [] → ⊥
named_some false text e h = cc
named_some true [] e h = cc
named_some true (x ∷ xs) e h = cc

-- a name is not empty
pub name_some : (ls : List Lexeme) (n : List ℕ) (ss : List Slot) (rest : List Lexeme) → Takes ls (Name n ∷ ss) rest → n ≡ [] → ⊥
name_some [] n ss rest t h = absurd t
name_some (l ∷ ls) n ss rest t h = named_some (kind_names l.kind) l.text t.0.0 (t.0.1 ∙ h)

-- ---- members

-- each member that is read has its form
abbrev pub Finds : {X : Type 0} → (List Lexeme → Option (X × List Lexeme)) → (X → List Slot) → (X → Type 0) → Type 0
Finds {X} item slots IsWhole = (ls : List Lexeme) (x : X) (rest : List Lexeme) → item ls ≡ Some (x, rest) → Takes ls (slots x) rest × IsWhole x

-- each member that has its form is read
abbrev pub Rereads : {X : Type 0} → (List Lexeme → Option (X × List Lexeme)) → (X → List Slot) → (X → Type 0) → Type 0
Rereads {X} item slots IsWhole = (ls : List Lexeme) (x : X) (rest : List Lexeme) → IsWhole x → Takes ls (slots x) rest → item ls ≡ Some (x, rest)

-- the members of a list behind those that are done
pub record ReadMembers {X : Type 0} (slots : X → List Slot) (IsWhole : X → Type 0) (done xs : List X) (ls rest : List Lexeme) : Type 0 where
  pub head : X
  pub more : List X
  pub all : xs ≡ done ++ head ∷ more
  pub takes : Takes ls (list_form slots (head ∷ more)) rest
  pub whole : AllByRecursion IsWhole (head ∷ more)

next_found : {X : Type 0} (item : List Lexeme → Option (X × List Lexeme)) (slots : X → List Slot) (IsWhole : X → Type 0) (go : List Lexeme → Option (List X × List Lexeme)) (done xs : List X) (x : X) (ls mid rest : List Lexeme) (o : Option (List Lexeme)) →
    ((after : List Lexeme) → go after ≡ Some (xs, rest) → ReadMembers slots IsWhole (done ++ x ∷ []) xs after rest) →
    Takes ls (slots x) mid → IsWhole x → symbol_at comma mid ≡ o → next_member go (done ++ x ∷ []) mid o ≡ Some (xs, rest) → ReadMembers slots IsWhole done xs ls rest
next_found item slots IsWhole go done xs x ls mid rest None again t w next e =
    let p = some_injective (done ++ x ∷ [], mid) (xs, rest) e in
    record { head = x; more = []; all = sym (ap (λ p. p.0) p); takes = Takes-append ls (slots x) [] mid rest t (ap (λ p. p.1) p); whole = (w, tt) }
next_found item slots IsWhole go done xs x ls mid rest (Some after) again t w next e =
    let r = again after e in
    let c = symbol_found comma mid after next in
    record {
      head = x;
      more = r.head ∷ r.more;
      all = r.all ∙ append_assoc done (x ∷ []) (r.head ∷ r.more);
      takes = Takes-append ls (slots x) (further_form slots (r.head ∷ r.more)) mid rest t (Takes-append mid (Mark comma ∷ []) (list_form slots (r.head ∷ r.more)) after rest c r.takes);
      whole = (w, r.whole);
    }

pub members_found : {X : Type 0} (item : List Lexeme → Option (X × List Lexeme)) (slots : X → List Slot) (IsWhole : X → Type 0) → Finds item slots IsWhole → (k : ℕ) (done xs : List X) (ls rest : List Lexeme) →
    members item k done ls ≡ Some (xs, rest) → ReadMembers slots IsWhole done xs ls rest
unfolding members
members_found item slots IsWhole found zero done xs ls rest e = absurd cc
members_found {X} item slots IsWhole found (suc k) done xs ls rest e =
    let a = bind_some (item ls) (λ (x : X × List Lexeme). next_member (members item k (done ++ x.0 ∷ [])) (done ++ x.0 ∷ []) x.1 (symbol_at comma x.1)) (xs, rest) e in
    let f = found ls a.0.0 a.0.1 a.1 in
    next_found item slots IsWhole (members item k (done ++ a.0.0 ∷ [])) done xs a.0.0 ls a.0.1 rest (symbol_at comma a.0.1) (λ after h. members_found item slots IsWhole found k (done ++ a.0.0 ∷ []) xs after rest h) f.0 f.1 refl a.2

pub members_again : {X : Type 0} (item : List Lexeme → Option (X × List Lexeme)) (slots : X → List Slot) (IsWhole : X → Type 0) → Rereads item slots IsWhole → (more : List X) (x : X) (k : ℕ) (done : List X) (ls rest : List Lexeme) →
    AllByRecursion IsWhole (x ∷ more) → symbol_at comma rest ≡ None → length more < k → Takes ls (list_form slots (x ∷ more)) rest → members item k done ls ≡ Some (done ++ x ∷ more, rest)
unfolding members
members_again item slots IsWhole again more x zero done ls rest w ends lt t = absurd (omega arith)
members_again item slots IsWhole again [] x (suc k) done ls rest w ends lt t =
    let s = Takes-split ls (slots x) [] rest t in
    rw (again ls x s.0 w.0 s.1, s.2, ends) refl
members_again item slots IsWhole again (y ∷ ys) x (suc k) done ls rest w ends lt t =
    let s = Takes-split ls (slots x) (further_form slots (y ∷ ys)) rest t in
    let c = symbol_again comma s.0 (list_form slots (y ∷ ys)) rest s.2 in
    rw (again ls x s.0 w.0 s.1, c.1) (members_again item slots IsWhole again ys y k (done ++ x ∷ []) c.0 rest w.1 ends (omega arith) c.2 ∙ ap (λ zs. Some (zs, rest)) (append_assoc done (x ∷ []) (y ∷ ys)))

-- a list has more slots than further members
pub list_length : {X : Type 0} (slots : X → List Slot) → ((x : X) → 1 ≤ length (slots x)) → (more : List X) (x : X) → length more < length (list_form slots (x ∷ more))
list_length slots some [] x = let h = some x in omega (arith, length-append (slots x) [])
list_length slots some (y ∷ ys) x =
    let h = some x in let r = list_length slots some ys y in
    omega (arith, length-append (slots x) (further_form slots (y ∷ ys)))

-- ---- two symbols

-- where one symbol stands, no other does
pub other_symbol : (a b : List ℕ) (ls : List Lexeme) (ss : List Slot) (rest : List Lexeme) → pointwise nat_eq a b ≡ false → Takes ls (Mark a ∷ ss) rest → symbol_at b ls ≡ None
other_symbol a b [] ss rest differ t = absurd t
other_symbol a b (l ∷ ls) ss rest differ t =
    let g = both_true (kind_is_symbol l.kind) (pointwise nat_eq l.text a) t.0 in
    let h : l.text ≡ a = text_is l.text a g.1 in
    rw (g.0, h, differ) refl

pub other_word : (a b : List ℕ) (ls : List Lexeme) (ss : List Slot) (rest : List Lexeme) → pointwise nat_eq a b ≡ false → Takes ls (Key a ∷ ss) rest → word_next b ls ≡ false
other_word a b [] ss rest differ t = absurd t
other_word a b (l ∷ ls) ss rest differ t =
    let g = both_true (kind_is_word l.kind) (pointwise nat_eq l.text a) t.0 in
    let h : l.text ≡ a = text_is l.text a g.1 in
    rw (g.0, h, differ) refl

pub this_word : (a : List ℕ) (ls : List Lexeme) (ss : List Slot) (rest : List Lexeme) → Takes ls (Key a ∷ ss) rest → word_next a ls ≡ true
this_word a [] ss rest t = absurd t
this_word a (l ∷ ls) ss rest t = t.0

pub number_found : (ls : List Lexeme) (n : List ℕ) (rest : List Lexeme) (test : List ℕ → Bool) → test n ≡ true → number_at ls ≡ Some (n, rest) → Takes ls (Digits test ∷ []) rest
number_found [] n rest test ok e = absurd cc
number_found (l ∷ ls) n rest test ok e = let g = cond_some (is_number l) (l.text, ls) (n, rest) e in ((g.0, ap test (ap (λ (p : List ℕ × List Lexeme). p.0) g.1) ∙ ok), ap (λ (p : List ℕ × List Lexeme). p.1) g.1)

pub number_again : (ls : List Lexeme) (test : List ℕ → Bool) (ss : List Slot) (rest : List Lexeme) → Takes ls (Digits test ∷ ss) rest → (n : List ℕ) × (mid : List Lexeme) × (number_at ls ≡ Some (n, mid)) × (test n ≡ true) × Takes mid ss rest
number_again [] test ss rest t = absurd t
number_again (l ∷ ls) test ss rest t = (l.text, ls, rw t.0.0 refl, t.0.1, t.1)

-- ---- whole lists

-- anything
abbrev pub Any : {X : Type 0} → X → Type 0
Any x = Unit {0}

pub all_any : {X : Type 0} (xs : List X) → AllByRecursion Any xs
all_any [] = tt
all_any (x ∷ xs) = (tt, all_any xs)

-- a list that is read in as many turns as tokens has its form, and some member
pub list_found : {X : Type 0} (item : List Lexeme → Option (X × List Lexeme)) (slots : X → List Slot) (IsWhole : X → Type 0) → Finds item slots IsWhole → (ls : List Lexeme) (xs : List X) (rest : List Lexeme) →
    members item (length ls) [] ls ≡ Some (xs, rest) → IsSome xs × AllByRecursion IsWhole xs × Takes ls (list_form slots xs) rest
list_found {X} item slots IsWhole found ls xs rest e =
    let r = members_found item slots IsWhole found (length ls) [] xs ls rest e in
    subst (λ (ys : List X). IsSome ys × AllByRecursion IsWhole ys × Takes ls (list_form slots ys) rest) (sym r.all) (tt, r.whole, r.takes)

pub list_again : {X : Type 0} (item : List Lexeme → Option (X × List Lexeme)) (slots : X → List Slot) (IsWhole : X → Type 0) → ((x : X) → 1 ≤ length (slots x)) → Rereads item slots IsWhole → (ls : List Lexeme) (xs : List X) (rest : List Lexeme) →
    IsSome xs → AllByRecursion IsWhole xs → symbol_at comma rest ≡ None → Takes ls (list_form slots xs) rest → members item (length ls) [] ls ≡ Some (xs, rest)
list_again item slots IsWhole some again ls [] rest h w ends t = absurd h
list_again item slots IsWhole some again ls (x ∷ xs) rest h w ends t =
    let len = Takes-length ls (list_form slots (x ∷ xs)) rest t in
    let more = list_length slots some xs x in
    members_again item slots IsWhole again xs x (length ls) [] ls rest w ends (omega arith) t

-- ---- names

names_find : Finds name_at name_form Any
names_find ls n rest e = (name_found ls n rest e, tt)

names_reread : Rereads name_at name_form Any
names_reread ls n rest w t = let r = name_again ls n [] rest t in r.1 ∙ ap (λ (m : List Lexeme). Some (n, m)) r.2

pub names_found : (ls : List Lexeme) (xs : List (List ℕ)) (rest : List Lexeme) → names_at ls ≡ Some (xs, rest) → IsSome xs × Takes ls (list_form name_form xs) rest
names_found ls xs rest e = let r = list_found name_at name_form Any names_find ls xs rest e in (r.0, r.2)

pub names_again : (ls : List Lexeme) (xs : List (List ℕ)) (rest : List Lexeme) → IsSome xs → symbol_at comma rest ≡ None → Takes ls (list_form name_form xs) rest → names_at ls ≡ Some (xs, rest)
names_again ls xs rest h ends t = list_again name_at name_form Any (λ x. lit≤ tt) names_reread ls xs rest h (all_any xs) ends t

-- ---- values

values_find : Finds value_at value_form Any
values_find ls v rest e = (value_found ls v rest e, tt)

values_reread : Rereads value_at value_form Any
values_reread ls v rest w t = let r = value_again ls v [] rest t in r.1 ∙ ap (λ (m : List Lexeme). Some (v, m)) r.2

pub values_found : (ls : List Lexeme) (xs : List (List ℕ)) (rest : List Lexeme) → values_at ls ≡ Some (xs, rest) → IsSome xs × Takes ls (list_form value_form xs) rest
values_found ls xs rest e = let r = list_found value_at value_form Any values_find ls xs rest e in (r.0, r.2)

pub values_again : (ls : List Lexeme) (xs : List (List ℕ)) (rest : List Lexeme) → IsSome xs → symbol_at comma rest ≡ None → Takes ls (list_form value_form xs) rest → values_at ls ≡ Some (xs, rest)
values_again ls xs rest h ends t = list_again value_at value_form Any (λ x. lit≤ tt) values_reread ls xs rest h (all_any xs) ends t
