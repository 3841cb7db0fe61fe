use Rattle.std.proofs.Common.{◌≡◌, ◌∷◌, [], ◌++◌, length, drop, refl, sym, subst, rules}
use Rattle.std.specs.Prelude.{Contains}
use Rattle.accessible_copy.specs.Known.{known_values, facts_of}
use Rattle.accessible_copy.proofs.OpenAfter.{listed_more, kept_after, passed_low}
use Rattle.accessible_copy.proofs.open_facts.OpenFacts.follow.Goals as goal

pub newly_open-requires-clause-index : goal.newly_open-requires-clause-index
newly_open-requires-clause-index c = let (exposed, one, is, wide, old) = c.requires.before in old.index

pub newly_open-requires-clause-holders : goal.newly_open-requires-clause-holders
newly_open-requires-clause-holders c = let (exposed, one, is, wide, old) = c.requires.before in old.holders

pub returns : goal.returns
returns c =
    let (exposed, one, is, wide, old) = c.requires.before in
    let facts = c.args.facts.now in
    let constants = c.args.known.now.constants in
    let self = c.args.self.now in
    let more = c.in_ok-more.more.items in
    let listed : c.append.new.self.items ≡ self.listed.items ++ more = search rules in
    let before : c.push.new.self.items ≡ self.before.items ++ record { listed = length self.listed.items; passed = self.passed } ∷ [] = search rules in
    let found = rw (is, wide) at c.in_ok-more.ensures in
    let step = rw is at c.next_open-self.ensures.kept in
    let all = listed_more facts constants exposed one self more old found in
    rw is (kept_after facts constants exposed one self _ more old refl refl refl listed before
    (c.next_open-self.ensures.low (passed_low self more c.append.new.self.items listed old.low))
    (λ n can. step (known_values constants (facts_of (exposed ++ one ∷ []))) n can (subst (λ l. Contains (drop self.passed l) n) (sym listed) (all n can))))
