use Rattle.std.proofs.Common.{ℕ, List, ◌∙◌, ap, subst}
use Rattle.std.specs.Prelude.{Contains}
use Rattle.access_schema.specs.declared.schema.SourceLine.{SourceLine}
use Rattle.source_trait.proofs.LaneSteps.{LanesStay-refl}
use Rattle.middleware.specs.Sources.{first_lineless, HavePlace, LacksPlace}
use Rattle.middleware.specs.Needs.{listed, needed}
use Rattle.middleware.proofs.LaneStays.{attach_stay, break_stay}
use Rattle.middleware.proofs.Needing.{lacks_line, lacks_kind, all_placed, attached, was_refused}
use Rattle.middleware.proofs.needs.attach_needed.Goals as goal

pub returns-in-Some-clause-attaches : goal.returns-in-Some-clause-attaches
returns-in-Some-clause-attaches g c =
    lacks_line g.S.Source.seen c.args.schema.now c.args.first.now c.args.others.now c.requires.ascend.0 c.requires.ascend.1 c.requires.among
    c.args.lanes.now c.in-Some.rel
    (c.in-Some.ensures ∙ ap (λ (l : List SourceLine). first_lineless l c.args.first.now) c.as_slice-lines.ensures)

pub returns-in-Some-clause-lanes : goal.returns-in-Some-clause-lanes
returns-in-Some-clause-lanes g c = LanesStay-refl g.S.Source.seen c.args.lanes.now

pub returns-in-Some-first_without_place-clause-attaches : goal.returns-in-Some-first_without_place-clause-attaches
returns-in-Some-first_without_place-clause-attaches g c =
    lacks_kind g.S.Source.seen c.args.schema.now c.args.first.now c.args.others.now c.requires.ascend.0 c.requires.ascend.1 c.requires.among
    (c.in_default.ensures ∙ ap (λ (l : List SourceLine). first_lineless l c.args.first.now) c.as_slice-lines.ensures) c.args.lanes.now
    c.in-Some-first_without_place.rel
    (subst (λ (l : List SourceLine). LacksPlace c.args.lanes.now l c.args.first.now (needed c.args.first.now c.args.others.now)
    c.in-Some-first_without_place.rel) c.as_slice-lines.ensures c.in-Some-first_without_place.ensures)

pub returns-in-Some-first_without_place-clause-lanes : goal.returns-in-Some-first_without_place-clause-lanes
returns-in-Some-first_without_place-clause-lanes g c = LanesStay-refl g.S.Source.seen c.args.lanes.now

pub attach_lanes-requires-clause-placed : goal.attach_lanes-requires-clause-placed
attach_lanes-requires-clause-placed g c κs within =
    all_placed g.S.Source.seen c.args.schema.now c.args.first.now c.args.others.now c.requires.ascend.0 c.requires.ascend.1 c.requires.among
    (c.in_default.ensures ∙ ap (λ (l : List SourceLine). first_lineless l c.args.first.now) c.as_slice-lines.ensures) c.args.lanes.now c.requires.there
    (subst (λ (l : List SourceLine). (rel : ℕ) → Contains c.args.first.now rel
    → HavePlace c.args.lanes.now l rel (λ place. needed c.args.first.now c.args.others.now place rel)) c.as_slice-lines.ensures
    c.in_default-first_without_place.ensures)

pub returns-in-Ok-clause-attaches : goal.returns-in-Ok-clause-attaches
returns-in-Ok-clause-attaches g c =
    attached g.S.Source.seen c.args.schema.now c.args.first.now c.args.others.now c.requires.ascend.0 c.requires.ascend.1 c.requires.among
    (c.in_default.ensures ∙ ap (λ (l : List SourceLine). first_lineless l c.args.first.now) c.as_slice-lines.ensures) c.args.lanes.now c.requires.there
    (subst (λ (l : List SourceLine). (rel : ℕ) → Contains c.args.first.now rel
    → HavePlace c.args.lanes.now l rel (λ place. needed c.args.first.now c.args.others.now place rel)) c.as_slice-lines.ensures
    c.in_default-first_without_place.ensures) c.attach_lanes.new.lanes c.in-Ok.ensures.attached

pub returns-in-Ok-clause-lanes : goal.returns-in-Ok-clause-lanes
returns-in-Ok-clause-lanes g c =
    attach_stay g.S.Source.seen c.args.schema.now (listed c.args.first.now c.args.others.now) c.args.lanes.now c.attach_lanes.new.lanes c.in-Ok.ensures.attached

pub returns-in-Err-clause-attaches : goal.returns-in-Err-clause-attaches
returns-in-Err-clause-attaches g c =
    rw c.attach_fault.ensures
    (was_refused g.S.Source.seen c.args.schema.now c.args.first.now c.args.others.now c.requires.ascend.0 c.requires.ascend.1 c.requires.among
    (c.in_default.ensures ∙ ap (λ (l : List SourceLine). first_lineless l c.args.first.now) c.as_slice-lines.ensures) c.args.lanes.now c.requires.there
    (subst (λ (l : List SourceLine). (rel : ℕ) → Contains c.args.first.now rel
    → HavePlace c.args.lanes.now l rel (λ place. needed c.args.first.now c.args.others.now place rel)) c.as_slice-lines.ensures
    c.in_default-first_without_place.ensures) c.in-Err.refused.rel c.in-Err.refused.fault c.attach_lanes.new.lanes c.in-Err.ensures.breaks)

pub returns-in-Err-clause-lanes : goal.returns-in-Err-clause-lanes
returns-in-Err-clause-lanes g c =
    break_stay g.S.Source.seen c.args.schema.now (listed c.args.first.now c.args.others.now) c.in-Err.refused.rel c.in-Err.refused.fault c.args.lanes.now
    c.attach_lanes.new.lanes c.attach_lanes.auto.lanes c.in-Err.ensures.breaks
