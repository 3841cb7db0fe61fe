use Rattle.std.proofs.Common.{◌≡◌, ℕ, List, sym, subst}
use Rattle.std.specs.Prelude.{Contains}
use Rattle.access_schema.specs.Meaning.{meaning_of}
use Rattle.accessible_copy.specs.Known.{facts_of}
use Rattle.accessible_copy.proofs.WayLists.{methods_indexed, fire_open}
use Rattle.accessible_copy.proofs.Rounding.{exposed_facts}
use Rattle.accessible_copy.proofs.listing.open_exposures.Goals as goal

pub exposures_at-requires-clause-methods : goal.exposures_at-requires-clause-methods
exposures_at-requires-clause-methods c =
    rw c.methods.ensures (methods_indexed c.args.schema.now.methods c.args.kept.now.ways.items c.args.kept.now.index c.requires.ways c.requires.kept.index)

pub exposures_at-requires-clause-all : goal.exposures_at-requires-clause-all
exposures_at-requires-clause-all c = λ n number fact got can.
    let shown : c.args.proof.now.end.exposed ≡ facts_of c.args.proof.now.exposed = exposed_facts (meaning_of c.args.schema.now) c.args.proof.now c.requires.run in
    let there = c.requires.kept.now n (rw shown at (fire_open (meaning_of c.args.schema.now) c.args.proof.now number n fact c.args.kept.now.ways.items c.requires.ways got can)) in
    subst (λ (l : List ℕ). Contains l n) (sym c.in-Some.ensures.all) there

pub exposures_at-requires-2-clause-methods : goal.exposures_at-requires-2-clause-methods
exposures_at-requires-2-clause-methods c =
    rw c.methods-2.ensures (methods_indexed c.args.schema.now.methods c.args.kept.now.ways.items c.args.kept.now.index c.requires.ways c.requires.kept.index)

pub exposures_at-requires-2-clause-all : goal.exposures_at-requires-2-clause-all
exposures_at-requires-2-clause-all c = λ n number fact got can.
    let shown : c.args.proof.now.end.exposed ≡ facts_of c.args.proof.now.exposed = exposed_facts (meaning_of c.args.schema.now) c.args.proof.now c.requires.run in
    let there = c.requires.kept.now n (rw shown at (fire_open (meaning_of c.args.schema.now) c.args.proof.now number n fact c.args.kept.now.ways.items c.requires.ways got can)) in
    subst (λ (l : List ℕ). Contains l n) (sym c.as_slice.ensures.value) (c.in_ok-numbers.ensures.all n there)
