-- A draw on the word is a draw of the core.
use Rattle.std.proofs.Common.{◌≡◌, ℕ, zero, suc, ◌+◌, List, [], ◌∷◌, ◌++◌, length, map, get_or, set, refl, sym, ap, ◌∙◌, subst, arith}
use Rattle.std.proofs.lemmas.List.{map-set}
use mathlib.Core.Option.{some, some-ne-none, some-injective}
use lib.ListN.{get_elem?}
use Rattle.lane_pool.specs.declared.draws.Event.TheVariants.{Draw}
use Rattle.lane_pool.specs.declared.seats.View.{View}
use Rattle.lane_pool.specs.Core.{Lane, lane_at, with_drawn, after, drawn_lists}
use Rattle.lane_pool.specs.Seats.{view, drawn_first, all_lists}
use Rattle.lane_pool.specs.TableCore.{lane_of_list, core_of_table, lane_of_seat}

drawn_back : (ls : List (List ℕ)) → map (λ (l : Lane). l.drawn) (map lane_of_list ls) ≡ ls
drawn_back [] = refl
drawn_back (l ∷ ls) = ap (λ t. l ∷ t) (drawn_back ls)

set_right : (xs ys : List (List ℕ)) (i : ℕ) (y : List ℕ) → set (xs ++ ys) (length xs + i) y ≡ xs ++ set ys i y
set_right [] ys i y = ap (λ k. set ys k y) (omega arith)
set_right (x ∷ xs) ys i y = let e : suc (length xs + i) ≡ length (x ∷ xs) + i = omega arith in subst (λ k. set (x ∷ xs ++ ys) k y ≡ (x ∷ xs) ++ set ys i y) e (ap (λ t. x ∷ t) (set_right xs ys i y))

get_right : (xs ys : List (List ℕ)) (i : ℕ) → get_or (xs ++ ys) (length xs + i) [] ≡ get_or ys i []
get_right [] ys i = ap (λ k. get_or ys k []) (omega arith)
get_right (x ∷ xs) ys i = let e : suc (length xs + i) ≡ length (x ∷ xs) + i = omega arith in subst (λ k. get_or (x ∷ xs ++ ys) k [] ≡ get_or ys i []) e (get_right xs ys i)

seat_draws : (views : List View) (id n : ℕ) (l : List ℕ) (ls : List (List ℕ)) (parts : ℕ) → get_elem? views id ≡ some (view (l ∷ ls) parts)
    → all_lists (set views id (view ((l ++ n ∷ []) ∷ ls) parts)) ≡ set (all_lists views) (lane_of_seat views id) (get_or (all_lists views) (lane_of_seat views id) [] ++ n ∷ [])
seat_draws [] id n l ls parts e = absurd (some-ne-none _ (sym e))
seat_draws (v ∷ vs) zero n l ls parts e =
    let is = some-injective _ _ e in
    subst (λ (u : View). (l ++ n ∷ []) ∷ ls ++ all_lists vs ≡ set (u.lists ++ all_lists vs) 0 (get_or (u.lists ++ all_lists vs) 0 [] ++ n ∷ [])) (sym is) refl
seat_draws (v ∷ vs) (suc id) n l ls parts e =
    let i = lane_of_seat vs id in
    let rest = seat_draws vs id n l ls parts e in
    ap (λ t. v.lists ++ t) rest ∙ (sym (set_right v.lists (all_lists vs) i (get_or (all_lists vs) i [] ++ n ∷ [])) ∙ ap (λ (y : List ℕ). set (v.lists ++ all_lists vs) (length v.lists + i) (y ++ n ∷ [])) (sym (get_right v.lists (all_lists vs) i)))

get_or-lane : (ls : List (List ℕ)) (i : ℕ) → (lane_at (map lane_of_list ls) i).drawn ≡ get_or ls i []
get_or-lane [] i = refl
get_or-lane (l ∷ ls) zero = refl
get_or-lane (l ∷ ls) (suc i) = get_or-lane ls i

-- the lists after a draw on the word are those of the core after a Draw by the lane of that seat
pub draw_is_event : (views : List View) (id word room : ℕ) (l : List ℕ) (ls : List (List ℕ)) (parts : ℕ) → get_elem? views id ≡ some (view (l ∷ ls) parts)
    → all_lists (set views id (view (drawn_first word (l ∷ ls)) parts)) ≡ drawn_lists (after (core_of_table word room views) (Draw (lane_of_seat views id)))
draw_is_event views id word room l ls parts e =
    let lists = all_lists views in
    let i = lane_of_seat views id in
    let lanes = map lane_of_list lists in
    seat_draws views id word l ls parts e
    ∙ (ap (λ (y : List ℕ). set lists i (y ++ word ∷ [])) (sym (get_or-lane lists i))
    ∙ (ap (λ xs. set xs i ((lane_at lanes i).drawn ++ word ∷ [])) (sym (drawn_back lists)) ∙ sym (map-set (λ (m : Lane). m.drawn) lanes i (with_drawn (lane_at lanes i) word))))
