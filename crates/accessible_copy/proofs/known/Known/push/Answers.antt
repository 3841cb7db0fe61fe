use Rattle.std.proofs.Common.{◌≡◌, ◌+◌, ◌++◌, ◌∷◌, [], length, sym, ap, subst, ◌∙◌, rules}
use Rattle.std.specs.Prelude.{Contains}
use Rattle.std.proofs.lemmas.List.{length_push}
use Rattle.accessible_copy.specs.Known.{Showing, facts_of}
use Rattle.accessible_copy.proofs.Lists.{take_front, known_push}
use Rattle.accessible_copy.proofs.Beside.{facts_shown, shown_push}
use Rattle.accessible_copy.proofs.known.Known.push.Goals as goal

pub push-requires-2 : goal.push-requires-2
push-requires-2 c =
    let facts = c.self.inside.facts in
    let one : c.in_ok-shown.shown ≡ c.args.fact.now = search rules in
    let not : Contains facts c.args.fact.now → ⊥ = λ h. c.requires.new (subst (λ (s : Showing). Contains (facts_of s.exposed) c.args.fact.now) c.self.view_is (rw (facts_shown c.self.inside.methods.items facts c.self.invariant.1) h)) in
    rw one (record { new = not })

pub invariant_of-self-in-Ok : goal.invariant_of-self-in-Ok
invariant_of-self-in-Ok c =
    let methods = c.self.inside.methods.items in
    let facts = c.self.inside.facts in
    let fact = c.args.fact.now in
    let even = c.self.invariant.1 in
    let beside : c.push.new.self.items ≡ methods ++ c.args.method ∷ [] = search rules in
    let values : c.add_all.new.self ≡ c.self.inside.values ++ fact.vals = search rules in
    let added : c.push-2.new.self ≡ facts ++ fact ∷ [] = search rules in
    (rw (values, added, c.self.invariant.0) (sym (known_push c.self.inside.constants facts fact)), rw (beside, added) (length_push methods c.args.method ∙ ap (λ n. n + 1) even ∙ sym (length_push facts fact)))

pub returns-in-Ok-clause-pushed : goal.returns-in-Ok-clause-pushed
returns-in-Ok-clause-pushed c =
    let methods = c.self.inside.methods.items in
    let facts = c.self.inside.facts in
    let fact = c.args.fact.now in
    let even = c.self.invariant.1 in
    let beside : c.push.new.self.items ≡ methods ++ c.args.method ∷ [] = search rules in
    let added : c.push-2.new.self ≡ facts ++ fact ∷ [] = search rules in
    rw (beside, added, ← c.self.view_is) (ap (λ l. record { constants = c.self.inside.constants; exposed = l }) (shown_push methods facts c.args.method fact even))

pub invariant_of-self-in-Err-add_all : goal.invariant_of-self-in-Err-add_all
invariant_of-self-in-Err-add_all c =
    let methods = c.self.inside.methods.items in
    let facts = c.self.inside.facts in
    let fact = c.args.fact.now in
    let even = c.self.invariant.1 in
    let beside : c.push.new.self.items ≡ methods ++ c.args.method ∷ [] = search rules in
    let count : c.len-count.result ≡ length methods = c.len-count.ensures ∙ sym even in
    let cut : c.truncate-in-Err-add_all.new.self.items ≡ methods = c.truncate-in-Err-add_all.ensures.items ∙ rw (count, beside) (take_front methods (c.args.method ∷ [])) in
    let added : c.push-2.new.self ≡ facts ++ fact ∷ [] = search rules in
    let same : c.truncate-in-Err-add_all-2.new.self ≡ facts = c.truncate-in-Err-add_all-2.ensures ∙ rw (c.len-count.ensures, added) (take_front facts (fact ∷ [])) in
    let values : c.add_all.new.self ≡ c.self.inside.values = search rules in
    (rw (values, same) c.self.invariant.0, rw (cut, same) even)
