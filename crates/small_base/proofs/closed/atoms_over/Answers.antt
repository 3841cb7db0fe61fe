use Rattle.std.proofs.Common.{◌≡◌, ◌+◌, ◌∷◌, ◌++◌, [], ◌∙◌, Some, None, length, map, take, sym, ap, rules}
use Rattle.std.specs.Prelude.{slice_get}
use Rattle.std.proofs.lemmas.List.{length_push, map-append, take_all}
use Rattle.lists.proofs.Places.{take_got, got_none}
use Rattle.small_base.specs.Closed.{atom_of}
use Rattle.small_base.proofs.closed.atoms_over.Goals as goal

pub loop-fact-preserved : goal.loop-fact-preserved
loop-fact-preserved c =
    let all = c.args.facts.now in
    let count : c.len.result ≡ length c.loop-fact.atoms.items = search rules in
    let got : slice_get all (length c.loop-fact.atoms.items) ≡ Some c.in-Some.fact.now = ap (slice_get all) (sym count) ∙ sym c.in-Some.ensures in
    let copied : c.push.new.self.items ≡ c.loop-fact.atoms.items ++ atom_of c.in-Some.fact.now ∷ [] = c.in_ok-push.ensures.items ∙ ap (λ atom. c.loop-fact.atoms.items ++ atom ∷ []) c.in_ok-atom_over.ensures in
    let long : length c.push.new.self.items ≡ length c.loop-fact.atoms.items + 1 = ap length copied ∙ length_push c.loop-fact.atoms.items (atom_of c.in-Some.fact.now) in
    copied ∙ ap (λ atoms. atoms ++ atom_of c.in-Some.fact.now ∷ []) c.loop-fact.invariant ∙ sym (map-append atom_of (take (length c.loop-fact.atoms.items) all) (c.in-Some.fact.now ∷ []))
    ∙ ap (map atom_of) (sym (take_got all (length c.loop-fact.atoms.items) c.in-Some.fact.now got)) ∙ ap (λ n. map atom_of (take n all)) (sym long)

pub returns : goal.returns
returns c =
    let all = c.args.facts.now in
    let count : c.len.result ≡ length c.loop-fact.atoms.items = search rules in
    let none : slice_get all (length c.loop-fact.atoms.items) ≡ None = ap (slice_get all) (sym count) ∙ sym c.in_default.ensures in
    c.loop-fact.invariant ∙ ap (map atom_of) (take_all (length c.loop-fact.atoms.items) all (got_none all (length c.loop-fact.atoms.items) none))
