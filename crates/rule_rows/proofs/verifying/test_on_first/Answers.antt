-- The rules are tested on the first lane, or on none.
use Rattle.std.proofs.Common.{◌≡◌, ◌<◌, List, length, sym, ◌∙◌, ap, subst, rules}
use Rattle.std.proofs.lemmas.List.{nil_from_length}
use Rattle.source_trait.specs.Lanes.{KindsStay}
use Rattle.source_trait.specs.declared.lanes.Kind.{Kind}
use Rattle.source_trait.specs.declared.lanes.Lane.{Lane}
use Rattle.source_trait.proofs.LaneSteps.{LanesStay-refl}
use Rattle.rule_rows.specs.Asking.{IsReady}
use Rattle.rule_rows.specs.Verifying.{Tests, used}
use Rattle.rule_rows.proofs.Missing.{none_ready}
use Rattle.rule_rows.proofs.Results.{used_first, first_used, first_others, first_stay}
use Rattle.rule_rows.proofs.verifying.test_on_first.Goals as goal

pub test_alone-requires-clause-none : goal.test_alone-requires-clause-none
test_alone-requires-clause-none g c κs within = λ rel among.
    let none : length c.args.lanes.now ≡ 0 = search rules in
    none_ready g.S.Source.seen c.args.schema.now c.args.lanes.now (nil_from_length c.args.lanes.now none) rel (c.requires.ready rel among)

pub returns-then-is_empty-clause-tests : goal.returns-then-is_empty-clause-tests
returns-then-is_empty-clause-tests g c =
    let none : length c.args.lanes.now ≡ 0 = search rules in
    subst (λ l. Tests g.S.Source.seen c.args.schema.now c.args.rels.now (used l) (used l) c.test_alone.result) (sym (nil_from_length c.args.lanes.now none))
    c.test_alone.ensures

pub returns-then-is_empty-clause-lanes : goal.returns-then-is_empty-clause-lanes
returns-then-is_empty-clause-lanes g c = LanesStay-refl g.S.Source.seen c.args.lanes.now

pub test_rules-requires-clause-ready : goal.test_rules-requires-clause-ready
test_rules-requires-clause-ready g c κs within = λ rel among.
    let some : 0 < length c.args.lanes.now = search rules in
    subst (λ (l : List (Kind _)). IsReady g.S.Source.seen c.args.schema.now l rel)
    (used_first g.S.Source.seen c.args.lanes.now c.index-lanes-0.result c.index-lanes-0.result some c.index-lanes-0.is
    ∙ ap (λ (l : Lane _). l.kinds.items) c.index-lanes-0.is)
    (c.requires.ready rel among)

pub returns-clause-tests : goal.returns-clause-tests
returns-clause-tests g c =
    let some : 0 < length c.args.lanes.now = search rules in
    first_used g.S.Source.seen c.args.lanes.now c.index-lanes-0.result c.test_rules.new.lane some c.index-lanes-0.is
    c.args.schema.now c.args.rels.now c.test_rules.result
    (subst (λ (l : Lane _). Tests g.S.Source.seen c.args.schema.now c.args.rels.now l.kinds.items c.test_rules.new.lane.kinds.items c.test_rules.result)
    (sym c.index-lanes-0.is) c.test_rules.ensures.tests)

pub returns-clause-others : goal.returns-clause-others
returns-clause-others g c =
    let some : 0 < length c.args.lanes.now = search rules in
    first_others g.S.Source.seen c.args.lanes.now c.index-lanes-0.result c.test_rules.new.lane some c.index-lanes-0.is

pub returns-clause-lanes : goal.returns-clause-lanes
returns-clause-lanes g c =
    let some : 0 < length c.args.lanes.now = search rules in
    first_stay g.S.Source.seen c.args.lanes.now c.index-lanes-0.result c.test_rules.new.lane some c.index-lanes-0.is
    (subst (λ (l : Lane _). KindsStay g.S.Source.seen l.kinds.items c.test_rules.new.lane.kinds.items) (sym c.index-lanes-0.is) c.test_rules.ensures.stays)
