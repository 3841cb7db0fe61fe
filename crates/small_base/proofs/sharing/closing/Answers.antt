use Rattle.std.proofs.Common.{Ok, ap, subst, sym}
use Rattle.meaning.specs.Triggers.{State}
use Rattle.access_schema.specs.Meaning.{meaning_of}
use Rattle.small_base.specs.Closing.{GrowsFrom}
use Rattle.small_base.proofs.Growing.{grows_start, grows_on}
use Rattle.small_base.proofs.sharing.closing.Goals as goal

pub returns-in-Ok-true : goal.returns-in-Ok-true
returns-in-Ok-true c =
    let schema = meaning_of c.args.schema.now in
    let start : GrowsFrom schema c.args.facts.items c.args.next c.in_ok-state.state =
    subst (λ (s : State). GrowsFrom schema c.args.facts.items c.args.next s) (sym c.in_ok-state.ensures) (grows_start schema c.args.facts.items c.args.next) in
    record {
      grows = grows_on schema c.args.facts.items c.args.next c.in_ok-state.state c.close.new.state start c.in-Ok-true.ensures.grows;
      quiet = c.in-Ok-true.ensures.quiet (ap Ok c.in-Ok-true.field-0-test);
    }
