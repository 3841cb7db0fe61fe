-- Each row at a place is gone on from once, until none is left.
use Rattle.std.proofs.Common.{◌≡◌, ◌⊎◌, ℕ, zero, suc, ◌+◌, ◌<◌, ◌≤◌, List, [], ◌∷◌, ◌++◌, length, drop, refl, sym, ap, ◌∙◌, subst, inl, inr, ⊎_elim, arith}
use Rattle.std.specs.Prelude.{Contains, Some, slice_get}
use Rattle.std.proofs.lemmas.List.{drop_more, drop_all, length-drop, length-map}
use Rattle.std.proofs.lemmas.Option.{slice_get_within, get_or_from_slice_get}
use Rattle.std.proofs.lemmas.List.Elements.{Contains-append_left, Contains-append_right, Contains-append_cases, Contains-push, Contains-push_cases}
use Rattle.lists.proofs.Members.{contains_here, contains_cases, contains_map, contains_mapped, some_injective, contains_none}
use Rattle.meaning.specs.declared.types.Val.{Val}
use Rattle.meaning.specs.declared.types.Ground.{Ground}
use Rattle.connected_match.specs.declared.chain.Link.{Link}
use Rattle.connected_match.specs.declared.walk.Point.{Point}
use Rattle.connected_match.specs.Chains.{Leads, Completes, LinkFits, FitFrom, AreNexts}
use Rattle.connected_match.specs.Walks.{points_at}

-- the links behind the first, by place
link_at : (links : List Link) (place : ℕ) (link : Link) → slice_get links place ≡ Some link → drop place links ≡ link ∷ drop (place + 1) links
link_at links place link got =
    drop_more links place link (slice_get_within links place link got) ∙ ap (λ one. one ∷ drop (place + 1) links) (get_or_from_slice_get links place link link got)

tail_is : {a b : Link} {xs ys : List Link} → a ∷ xs ≡ b ∷ ys → xs ≡ ys
tail_is e = cc

got_first : (n : ℕ) (all : List Link) (link : Link) (rest : List Link) → drop n all ≡ link ∷ rest → slice_get all n ≡ Some link
got_first zero [] link rest e = absurd (cc)
got_first zero (one ∷ all) link rest e = let f : one ≡ link = cc in ap Some f
got_first (suc n) [] link rest e = absurd (cc)
got_first (suc n) (one ∷ all) link rest e = got_first n all link rest e

-- a point is on the way where its row fits the links behind it, and going along these completes the way
pub record IsOnWay (facts : List Ground) (links : List Link) (point : Point) : Type 0 where
  pub within : point.place ≤ length links
  pub fits : FitFrom (length point.row) (drop point.place links)
  pub ends : Completes facts (drop point.place links) point.row → Completes facts links []

-- Points that wait are on the way. What a point that was seen leads to waits or was seen. The start waits or was seen.
pub record Walking (facts : List Ground) (links : List Link) (Seen : Point → Type 0) (waiting : List Point) : Type 0 where
  pub on_way : (point : Point) → Contains waiting point → IsOnWay facts links point
  pub begun : (point : Point) → Seen point → point.place < length links
  pub gone_on : (point : Point) (link : Link) (next : List Val) → Seen point → slice_get links point.place ≡ Some link → Leads facts link point.row next →
      Contains waiting (record { place = point.place + 1; row = next }) ⊎ Seen (record { place = point.place + 1; row = next })
  pub start : Contains waiting (record { place = 0; row = [] }) ⊎ Seen (record { place = 0; row = [] })

-- nothing waits
pub walking_none : (facts : List Ground) (links : List Link) (Seen : Point → Type 0) → Walking facts links Seen [] → Completes facts links [] → ⊥
walking_none facts links Seen r goes = ⊎_elim (λ among. contains_none (record { place = 0; row = [] }) among) (λ seen. never links 0 [] refl seen goes) r.start
  where
    never : (rest : List Link) (place : ℕ) (row : List Val) → drop place links ≡ rest → Seen (record { place = place; row = row }) → Completes facts rest row → ⊥
    never [] place row e seen goes =
        let low = r.begun (record { place = place; row = row }) seen in
        let long = length-drop place links in let none = ap length e in omega (arith, low, long, none)
    never (link ∷ rest) place row e seen (next, leads, goes) =
        let low = r.begun (record { place = place; row = row }) seen in
        let got : slice_get links place ≡ Some link = got_first place links link rest e in
        let onward : drop (place + 1) links ≡ rest = tail_is (sym (link_at links place link got) ∙ e) in
        never rest (place + 1) next onward (⊎_elim (λ among. absurd (contains_none (record { place = place + 1; row = next }) among)) (λ was. was) (r.gone_on (record { place = place; row = row }) link next seen got leads)) goes

-- a point at the end is reached
pub walking_end : (facts : List Ground) (links : List Link) (Seen : Point → Type 0) (waiting : List Point) (point : Point) → Walking facts links Seen (waiting ++ point ∷ []) →
    length links ≤ point.place → Completes facts links []
walking_end facts links Seen waiting point r past =
    let on = r.on_way point (Contains-push waiting point) in
    on.ends (subst (λ l. Completes facts l point.row) (sym (drop_all point.place links past)) tt)

-- a point that was seen waits no longer
pub walking_seen : (facts : List Ground) (links : List Link) (Seen : Point → Type 0) (waiting : List Point) (point : Point) → Walking facts links Seen (waiting ++ point ∷ []) → Seen point → Walking facts links Seen waiting
walking_seen facts links Seen waiting point r seen = record {
  on_way = λ one among. r.on_way one (Contains-append_left waiting (point ∷ []) one among);
  begun = r.begun;
  gone_on = λ one link next was got leads. left (record { place = one.place + 1; row = next }) (r.gone_on one link next was got leads);
  start = left (record { place = 0; row = [] }) r.start;
}
  where
    left : (one : Point) → Contains (waiting ++ point ∷ []) one ⊎ Seen one → Contains waiting one ⊎ Seen one
    left one side = ⊎_elim (λ among. ⊎_elim inl (λ same. inr (subst Seen same seen)) (Contains-push_cases waiting point one among)) inr side

-- a point is gone on from
module _ (facts : List Ground) (links : List Link) (Seen Now : Point → Type 0) (waiting : List Point) (point : Point) (link : Link) (rows : List (List Val))
    (r : Walking facts links Seen (waiting ++ point ∷ [])) (got : slice_get links point.place ≡ Some link) (are : AreNexts facts link point.row rows)
    (now : (one : Point) → Now one → Seen one ⊎ (point ≡ one)) (kept : (one : Point) → Seen one → Now one) (here : Now point) where
  on : IsOnWay facts links point
  on = r.on_way point (Contains-push waiting point)

  rest_is : drop point.place links ≡ link ∷ drop (point.place + 1) links
  rest_is = link_at links point.place link got

  next_on_way : (next : List Val) → Contains rows next → IsOnWay facts links (record { place = point.place + 1; row = next })
  next_on_way next among =
      let leads : Leads facts link point.row next = are.each next among in
      let both : FitFrom (length point.row) (link ∷ drop (point.place + 1) links) = subst (FitFrom (length point.row)) rest_is on.fits in
      record {
        within = let low = slice_get_within links point.place link got in omega (arith, low);
        fits = subst (λ n. FitFrom n (drop (point.place + 1) links)) (sym (kept_long next leads)) both.1;
        ends = λ goes. on.ends (subst (λ l. Completes facts l point.row) (sym rest_is) (next, leads, goes));
      }
    where
      kept_long : (next : List Val) → Leads facts link point.row next → length next ≡ length link.kept
      kept_long next (a, agrees, made, e) = ap length e ∙ length-map link.kept a

  -- what waited still waits or was just seen
  still : (one : Point) → Contains (waiting ++ point ∷ []) one ⊎ Seen one → Contains (waiting ++ points_at (point.place + 1) rows) one ⊎ Now one
  still one side = ⊎_elim
      (λ among. ⊎_elim (λ i. inl (Contains-append_left waiting (points_at (point.place + 1) rows) one i)) (λ same. inr (subst Now same here)) (Contains-push_cases waiting point one among))
      (λ seen. inr (kept one seen)) side

  pub walking_on : Walking facts links Now (waiting ++ points_at (point.place + 1) rows)
  walking_on = record {
    on_way = λ one among. ⊎_elim (λ i. r.on_way one (Contains-append_left waiting (point ∷ []) one i))
        (λ i. let (next, inside, e) = contains_mapped (λ row. record { place = point.place + 1; row = row }) rows one i in subst (IsOnWay facts links) e (next_on_way next inside))
        (Contains-append_cases waiting (points_at (point.place + 1) rows) one among);
    begun = λ one was. ⊎_elim (r.begun one) (λ same. subst (λ (p : Point). p.place < length links) same (slice_get_within links point.place link got)) (now one was);
    gone_on = λ one other next was at leads. ⊎_elim
        (λ seen. still (record { place = one.place + 1; row = next }) (r.gone_on one other next seen at leads))
        (λ same. inl (subst (λ (p : Point). Contains (waiting ++ points_at (point.place + 1) rows) (record { place = p.place + 1; row = next })) same
        (Contains-append_right waiting (points_at (point.place + 1) rows) (record { place = point.place + 1; row = next })
        (contains_map (λ row. record { place = point.place + 1; row = row }) rows next (are.all next (here_leads one other next same at leads))))))
        (now one was);
    start = still (record { place = 0; row = [] }) r.start;
  }
    where
      here_leads : (one : Point) (other : Link) (next : List Val) → point ≡ one → slice_get links one.place ≡ Some other → Leads facts other one.row next → Leads facts link point.row next
      here_leads one other next same at leads =
          let e : other ≡ link = some_injective other link (sym at ∙ ap (λ (p : Point). slice_get links p.place) (sym same) ∙ got) in
          subst (λ (l : Link). Leads facts l point.row next) e (subst (λ (p : Point). Leads facts other p.row next) (sym same) leads)
