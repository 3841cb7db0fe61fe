use Rattle.std.proofs.Common.{◌≡◌, ◌<◌, Some, None, length, subst, rules, arith}
use Rattle.std.specs.Prelude.{slice_get}
use Rattle.std.proofs.lemmas.Option.{slice_get_within}
use Rattle.lists.proofs.Places.{got_indexed, got_none}
use Rattle.accessible_copy.specs.Known.{Showing}
use Rattle.accessible_copy.proofs.Beside.{shown_got, shown_past}
use Rattle.accessible_copy.proofs.known.Known.get.Goals as goal

pub index-requires : goal.index-requires
index-requires c =
    let there : slice_get c.self.inside.facts c.args.number ≡ Some c.in-Some.fact.now = search rules in
    let within = slice_get_within c.self.inside.facts c.args.number c.in-Some.fact.now there in
    let even = c.self.invariant.1 in
    omega arith

pub returns-in-Some-clause-some : goal.returns-in-Some-clause-some
returns-in-Some-clause-some c =
    let methods = c.self.inside.methods.items in
    let facts = c.self.inside.facts in
    let there : slice_get facts c.args.number ≡ Some c.in-Some.fact.now = search rules in
    let within = slice_get_within facts c.args.number c.in-Some.fact.now there in
    let low : c.args.number < length methods = let even = c.self.invariant.1 in omega arith in
    subst (λ (s : Showing). slice_get s.exposed c.args.number ≡ Some (record { method = c.index.result.now; fact = c.in-Some.fact.now })) c.self.view_is
    (shown_got methods facts c.args.number c.index.result.now c.in-Some.fact.now (got_indexed methods c.args.number c.index.result.now low c.index.ensures) there)

pub returns-in-None-clause-none : goal.returns-in-None-clause-none
returns-in-None-clause-none c =
    let none : slice_get c.self.inside.facts c.args.number ≡ None = search rules in
    subst (λ (s : Showing). slice_get s.exposed c.args.number ≡ None) c.self.view_is
    (shown_past c.self.inside.methods.items c.self.inside.facts c.args.number c.self.invariant.1 (got_none c.self.inside.facts c.args.number none))
