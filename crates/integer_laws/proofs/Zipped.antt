-- Two lists of values joined place by place, and what is read back.
use Rattle.std.proofs.Common.{◌≡◌, ℕ, zero, suc, List, [], ◌∷◌, length, Some, refl, sym, ap, arith}
use Rattle.std.specs.Prelude.{Contains, slice_get, map}
use Rattle.lists.proofs.Members.{contains_here, contains_there, contains_got, some_injective}
use Rattle.lists.proofs.Places.{got_member}
use Rattle.meaning.specs.declared.types.Term.{Term}
use Rattle.meaning.specs.declared.types.Term.TheVariants.{Var, Const as Said}
use Rattle.meaning.specs.declared.types.Val.{Val}
use Rattle.meaning.specs.declared.types.Val.TheVariants.{Const}
use Rattle.meaning.specs.Values.{Value}
use Rattle.meaning.specs.Matching.{value_of}

-- the values of two lists, place by place
pub zipped : (Val → Val → Val) → List Val → List Val → List Val
zipped p [] ws = []
zipped p (v ∷ vs) [] = []
zipped p (v ∷ vs) (w ∷ ws) = p v w ∷ zipped p vs ws

pub got_zipped : (p : Val → Val → Val) (vs ws : List Val) (k : ℕ) (u : Val) → slice_get (zipped p vs ws) k ≡ Some u →
    (v : Val) × (w : Val) × (slice_get vs k ≡ Some v) × (slice_get ws k ≡ Some w) × (p v w ≡ u)
unfolding zipped
got_zipped p [] ws k u e = absurd (cc)
got_zipped p (v ∷ vs) [] k u e = absurd (cc)
got_zipped p (v ∷ vs) (w ∷ ws) zero u e = (v, w, refl, refl, some_injective (p v w) u e)
got_zipped p (v ∷ vs) (w ∷ ws) (suc k) u e = got_zipped p vs ws k u e

pub in_zipped : (p : Val → Val → Val) (vs ws : List Val) (u : Val) → Contains (zipped p vs ws) u →
    (v : Val) × (w : Val) × Contains vs v × Contains ws w × (p v w ≡ u)
in_zipped p vs ws u c =
    let (k, at) = got_member (zipped p vs ws) u c in
    let (v, w, first, second, e) = got_zipped p vs ws k u at in
    (v, w, contains_got vs k v first, contains_got ws k w second, e)

pub zipped_long : (p : Val → Val → Val) (vs ws : List Val) → length vs ≡ length ws → length (zipped p vs ws) ≡ length vs
unfolding zipped
zipped_long p [] ws e = refl
zipped_long p (v ∷ vs) [] e = sym e
zipped_long p (v ∷ vs) (w ∷ ws) e = ap suc (zipped_long p vs ws (omega arith))

-- what reads the one or the other back from each pair reads the whole list back
pub zipped_first : (p : Val → Val → Val) (q : Val → Val) (vs ws : List Val) → length vs ≡ length ws →
    ((v w : Val) → Contains vs v → Contains ws w → q (p v w) ≡ v) → map q (zipped p vs ws) ≡ vs
unfolding zipped
zipped_first p q [] ws e back = refl
zipped_first p q (v ∷ vs) [] e back = absurd (omega arith)
zipped_first p q (v ∷ vs) (w ∷ ws) e back =
    let here : q (p v w) ≡ v = back v w (contains_here v vs) (contains_here w ws) in
    let rest : map q (zipped p vs ws) ≡ vs = zipped_first p q vs ws (omega arith)
    (λ x y c d. back x y (contains_there v vs x c) (contains_there w ws y d)) in
    cc

pub zipped_second : (p : Val → Val → Val) (q : Val → Val) (vs ws : List Val) → length vs ≡ length ws →
    ((v w : Val) → Contains vs v → Contains ws w → q (p v w) ≡ w) → map q (zipped p vs ws) ≡ ws
unfolding zipped
zipped_second p q [] [] e back = refl
zipped_second p q [] (w ∷ ws) e back = absurd (omega arith)
zipped_second p q (v ∷ vs) [] e back = absurd (omega arith)
zipped_second p q (v ∷ vs) (w ∷ ws) e back =
    let here : q (p v w) ≡ w = back v w (contains_here v vs) (contains_here w ws) in
    let rest : map q (zipped p vs ws) ≡ ws = zipped_second p q vs ws (omega arith)
    (λ x y c d. back x y (contains_there v vs x c) (contains_there w ws y d)) in
    cc

pub zipped_same : (p : Val → Val → Val) (vs : List Val) → ((v : Val) → Contains vs v → p v v ≡ v) → zipped p vs vs ≡ vs
unfolding zipped
zipped_same p [] same = refl
zipped_same p (v ∷ vs) same =
    let here : p v v ≡ v = same v (contains_here v vs) in
    let rest : zipped p vs vs ≡ vs = zipped_same p vs (λ w c. same w (contains_there v vs w c)) in
    cc

pub zipped_terms : (p : Val → Val → Val) (a b : ℕ → Val) (terms : List Term) → ((c : Value) → p (Const c) (Const c) ≡ Const c) →
    zipped p (map (value_of Const a) terms) (map (value_of Const b) terms) ≡ map (value_of Const (λ x. p (a x) (b x))) terms
unfolding zipped
zipped_terms p a b [] same = refl
zipped_terms p a b (Var x ∷ terms) same = ap (λ vs. p (a x) (b x) ∷ vs) (zipped_terms p a b terms same)
zipped_terms p a b (Said c ∷ terms) same =
    let here : p (Const c) (Const c) ≡ Const c = same c in
    let rest : zipped p (map (value_of Const a) terms) (map (value_of Const b) terms) ≡ map (value_of Const (λ x. p (a x) (b x))) terms =
    zipped_terms p a b terms same in
    cc

pub mapped_terms : (q : Val → Val) (a : ℕ → Val) (terms : List Term) → ((c : Value) → q (Const c) ≡ Const c) →
    map q (map (value_of Const a) terms) ≡ map (value_of Const (λ x. q (a x))) terms
mapped_terms q a [] same = refl
mapped_terms q a (Var x ∷ terms) same = ap (λ vs. q (a x) ∷ vs) (mapped_terms q a terms same)
mapped_terms q a (Said c ∷ terms) same =
    let here : q (Const c) ≡ Const c = same c in
    let rest : map q (map (value_of Const a) terms) ≡ map (value_of Const (λ x. q (a x))) terms = mapped_terms q a terms same in
    cc
