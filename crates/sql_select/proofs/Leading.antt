-- From every place some pieces lead to the end, and reading stops at one place.
use Rattle.std.proofs.Common.{◌≡◌, List, [], ◌∷◌, ◌++◌, ap, subst, sym, ◌∙◌, refl}
use Rattle.std.specs.Prelude.{Option, Some, None, Ok, Err}
use Rattle.pq_text.specs.declared.token.Token.{Token}
use Rattle.sql_select.specs.declared.piece.Piece.{Piece}
use Rattle.sql_select.specs.declared.piece.Piece.TheVariants as piece
use Rattle.sql_select.specs.declared.state.State.{State}
use Rattle.sql_select.specs.declared.state.State.TheVariants as state
use Rattle.sql_select.specs.declared.state.Done.{Done}
use Rattle.sql_select.specs.declared.piece.RawSelect.{RawSelect}
use Rattle.sql_select.specs.declared.reading.Walk.{Walk}
use Rattle.sql_select.specs.Steps.{step_of, ending_of}
use Rattle.sql_select.specs.Reading.{kept, entered, ended, moved, read}
use Rattle.sql_select.specs.Grammar.{Place, S0, S1, I0, I1, I2, I3, I4, I5, F0, F1, F2, F3, C0, C1, C2, C3, C4, C5, C6, C7, E, next, IsLast, Leads, IsStuck, StopsAt}
use Rattle.sql_select.proofs.Placed.{place_of, placed, follows}

-- the end is listed exactly where a state can end
no_end : (s : State) → ending_of s ≡ None → IsLast (place_of s) → ⊥
no_end (state.FromName n) e last = absurd (cc)
no_end (state.FromEnd from) e last = absurd (cc)
no_end (state.RightName l n) e last = absurd (cc)
no_end (state.RightEnd c) e last = absurd (cc)
no_end state.End e last = absurd (cc)
no_end _ e last = absurd last

-- where reading stops, the table leads to a place that does not list what is next
pub stops : (s : State) (walk : Walk) (pieces after : List Piece) → read s walk pieces ≡ Err after → StopsAt (place_of s) pieces after
stops s walk [] after e = go (ending_of s) refl e
  where
    go : (found : Option Done) → ending_of s ≡ found → ended found walk ≡ Err after → StopsAt (place_of s) [] after
    go None is e = let none : [] ≡ after = cc in record { before = []; whole = none; place = place_of s; leads = refl; stuck = subst (λ a. IsStuck (place_of s) a) none (no_end s is) }
    go (Some d) is e = absurd (cc)
stops s walk (p ∷ pieces) after e = go (step_of s p) refl e (λ s' walk' e'. stops s' walk' pieces after e')
  where
    go : (found : Option (State × Done)) → step_of s p ≡ found → moved found walk (p ∷ pieces) (λ s' walk'. read s' walk' pieces) ≡ Err after →
        ((s' : State) (walk' : Walk) → read s' walk' pieces ≡ Err after → StopsAt (place_of s') pieces after) → StopsAt (place_of s) (p ∷ pieces) after
    go None is e rec = let here : p ∷ pieces ≡ after = cc in
        record { before = []; whole = here; place = place_of s; leads = refl; stuck = subst (λ a. IsStuck (place_of s) a) here (sym (follows s p) ∙ ap placed is) }
    go (Some (s', d)) is e rec = let later = rec s' (entered s' (kept d walk)) e in
        record { before = p ∷ later.before; whole = ap (λ q. p ∷ q) later.whole; place = later.place; leads = (place_of s', sym (follows s p) ∙ ap placed is, later.leads); stuck = later.stuck }

-- from every place some pieces lead to the end
pub reaches : (t : Token) (p : Place) → (pieces : List Piece) × (q : Place) × Leads p pieces q × IsLast q
reaches t S0 = (piece.Select ∷ piece.Distinct ∷ piece.Value t ∷ piece.From ∷ piece.Name t ∷ [], F1, (S1, refl, (I0, refl, (I3, refl, (F0, refl, (F1, refl, refl))))), tt)
reaches t S1 = (piece.Distinct ∷ piece.Value t ∷ piece.From ∷ piece.Name t ∷ [], F1, (I0, refl, (I3, refl, (F0, refl, (F1, refl, refl)))), tt)
reaches t I0 = (piece.Value t ∷ piece.From ∷ piece.Name t ∷ [], F1, (I3, refl, (F0, refl, (F1, refl, refl))), tt)
reaches t I1 = (piece.From ∷ piece.Name t ∷ [], F1, (F0, refl, (F1, refl, refl)), tt)
reaches t I2 = (piece.Name t ∷ piece.From ∷ piece.Name t ∷ [], F1, (I3, refl, (F0, refl, (F1, refl, refl))), tt)
reaches t I3 = (piece.From ∷ piece.Name t ∷ [], F1, (F0, refl, (F1, refl, refl)), tt)
reaches t I4 = (piece.Name t ∷ piece.From ∷ piece.Name t ∷ [], F1, (I5, refl, (F0, refl, (F1, refl, refl))), tt)
reaches t I5 = (piece.From ∷ piece.Name t ∷ [], F1, (F0, refl, (F1, refl, refl)), tt)
reaches t F0 = (piece.Name t ∷ [], F1, (F1, refl, refl), tt)
reaches t F1 = ([], F1, refl, tt)
reaches t F2 = (piece.Name t ∷ [], F3, (F3, refl, refl), tt)
reaches t F3 = ([], F3, refl, tt)
reaches t C0 = (piece.Value t ∷ piece.Equals ∷ piece.Value t ∷ [], C7, (C3, refl, (C4, refl, (C7, refl, refl))), tt)
reaches t C1 = (piece.Equals ∷ piece.Value t ∷ [], C7, (C4, refl, (C7, refl, refl)), tt)
reaches t C2 = (piece.Name t ∷ piece.Equals ∷ piece.Value t ∷ [], C7, (C3, refl, (C4, refl, (C7, refl, refl))), tt)
reaches t C3 = (piece.Equals ∷ piece.Value t ∷ [], C7, (C4, refl, (C7, refl, refl)), tt)
reaches t C4 = (piece.Value t ∷ [], C7, (C7, refl, refl), tt)
reaches t C5 = ([], C5, refl, tt)
reaches t C6 = (piece.Name t ∷ [], C7, (C7, refl, refl), tt)
reaches t C7 = ([], C7, refl, tt)
reaches t E = ([], E, refl, tt)

-- the place where reading stops is one
same_rest : (p q q' : Place) (before after before' after' : List Piece) → Leads p before q → IsStuck q after → Leads p before' q' → IsStuck q' after' → before ++ after ≡ before' ++ after' → after ≡ after'
same_rest p q q' [] after [] after' leads stuck leads' stuck' e = e
same_rest p q q' [] after (x ∷ before') after' leads stuck (r, to, leads') stuck' e =
    let here : IsStuck p (x ∷ (before' ++ after')) = subst (λ a. IsStuck p a) e (subst (λ s. IsStuck s after) (sym leads) stuck) in absurd (clash (next p x) r here to)
  where
    clash : (found : Option Place) (r : Place) → found ≡ None → found ≡ Some r → ⊥
    clash found r n s = absurd (cc)
same_rest p q q' (x ∷ before) after [] after' (r, to, leads) stuck leads' stuck' e =
    let here : IsStuck p (x ∷ (before ++ after)) = subst (λ a. IsStuck p a) (sym e) (subst (λ s. IsStuck s after') (sym leads') stuck') in absurd (clash (next p x) r here to)
  where
    clash : (found : Option Place) (r : Place) → found ≡ None → found ≡ Some r → ⊥
    clash found r n s = absurd (cc)
same_rest p q q' (x ∷ before) after (y ∷ before') after' (r, to, leads) stuck (r', to', leads') stuck' e =
    let head : x ≡ y = cc in
    let rest : before ++ after ≡ before' ++ after' = cc in
    let place : Some r ≡ Some r' = sym to ∙ ap (λ z. next p z) head ∙ to' in
    let same : r ≡ r' = cc in
    same_rest r q q' before after before' after' leads stuck (subst (λ s. Leads s before' q') (sym same) leads') stuck' rest

pub one_rest : (pieces after after' : List Piece) → StopsAt S0 pieces after → StopsAt S0 pieces after' → after ≡ after'
one_rest pieces after after' is is' = same_rest S0 is.place is'.place is.before after is'.before after' is.leads is.stuck is'.leads is'.stuck (sym is.whole ∙ is'.whole)

-- what is read to its end is listed to its end
pub record Ends (p : Place) (pieces : List Piece) : Type 0 where
  pub last : Place
  pub leads : Leads p pieces last
  pub end : IsLast last

end_last : (s : State) (d : Done) → ending_of s ≡ Some d → IsLast (place_of s)
end_last (state.FromName n) d e = tt
end_last (state.FromEnd from) d e = tt
end_last (state.RightName l n) d e = tt
end_last (state.RightEnd c) d e = tt
end_last state.End d e = tt
end_last _ d e = absurd (cc)

pub ends : (s : State) (walk : Walk) (final : List RawSelect) (pieces : List Piece) → read s walk pieces ≡ Ok final → Ends (place_of s) pieces
ends s walk final [] e = go (ending_of s) refl e
  where
    go : (found : Option Done) → ending_of s ≡ found → ended found walk ≡ Ok final → Ends (place_of s) []
    go None is e = absurd (cc)
    go (Some d) is e = record { last = place_of s; leads = refl; end = end_last s d is }
ends s walk final (p ∷ pieces) e = go (step_of s p) refl e (λ s' walk' e'. ends s' walk' final pieces e')
  where
    go : (found : Option (State × Done)) → step_of s p ≡ found → moved found walk (p ∷ pieces) (λ s' walk'. read s' walk' pieces) ≡ Ok final →
        ((s' : State) (walk' : Walk) → read s' walk' pieces ≡ Ok final → Ends (place_of s') pieces) → Ends (place_of s) (p ∷ pieces)
    go None is e rec = absurd (cc)
    go (Some (s', d)) is e rec = let later = rec s' (entered s' (kept d walk)) e in
        record { last = later.last; leads = (place_of s', sym (follows s p) ∙ ap placed is, later.leads); end = later.end }

-- pieces that are listed to their end stop nowhere
no_stop : (p q last : Place) (before after : List Piece) → Leads p before q → IsStuck q after → Leads p (before ++ after) last → IsLast last → ⊥
no_stop p q last [] [] leads stuck to end = stuck (subst (λ s. IsLast s) (sym to ∙ leads) end)
no_stop p q last [] (x ∷ after) leads stuck (r, to, rest) end = clash (next p x) (subst (λ s. next s x ≡ None) (sym leads) stuck) to
  where
    clash : (found : Option Place) → found ≡ None → found ≡ Some r → ⊥
    clash found n s = absurd (cc)
no_stop p q last (x ∷ before) after (r, to, leads) stuck (r', to', rest) end =
    let same : r ≡ r' = one r r' (sym to ∙ to') in
    no_stop r q last before after leads stuck (subst (λ s. Leads s (before ++ after) last) (sym same) rest) end
  where
    one : (a b : Place) → Some a ≡ Some b → a ≡ b
    one a b e = cc

pub ends_or_stops : (pieces after : List Piece) → Ends S0 pieces → StopsAt S0 pieces after → ⊥
ends_or_stops pieces after whole stop = no_stop S0 stop.place whole.last stop.before after stop.leads stop.stuck (subst (λ q. Leads S0 q whole.last) stop.whole whole.leads) whole.end
