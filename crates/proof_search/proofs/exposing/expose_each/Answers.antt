use Rattle.std.proofs.Common.{◌≡◌, ◌<◌, false, true, length, refl, sym, subst, arith}
use Rattle.std.specs.Prelude.{Contains}
use Rattle.meaning.specs.declared.types.Val.TheVariants.{Const}
use Rattle.meaning.specs.Matching.{MeetsAll, GroundsOf}
use Rattle.meaning.specs.Runs.{base_state}
use Rattle.access_schema.specs.Meaning.{meaning_of}
use Rattle.rule_pass.proofs.OnePass.{met_quiet}
use Rattle.accessible_copy.specs.Proving.{Proving}
use Rattle.proof_search.specs.Searches.{Exposes}
use Rattle.proof_search.proofs.Searching.{exposes_more, made_one, still_active, was_new}
use Rattle.proof_search.proofs.exposing.expose_each.Goals.{in-Expose+then-mark-firings+then-not-has_exposed+in_ok-expose, in-Expose+else-mark-firings, else-mark-firings-via-then-mark-firings+else-not-has_exposed, else-mark-firings-via-else-mark-firings, in_default}
use Rattle.proof_search.proofs.exposing.expose_each.Goals as goal

pub expose-requires-clause-active : goal.expose-requires-clause-active
expose-requires-clause-active c =
    let here : Contains c.args.found.now c.firing-item.result = (c.loop-firing.firing-index, c.loop-firing-test.true, sym c.firing-item.is) in
    still_active (meaning_of c.args.schema.now) c.args.proof.now c.args.found.now c.requires.active c.firing-item.result here c.in-Expose.method c.in-Expose.fact c.in-Expose.is
    c.args.firings c.loop-firing.proof c.loop-firing.invariant.exposes (λ among. let yes : false ≡ true = c.if-not-has_exposed.ensures.1 among in absurd (cc))

pub expose-requires-clause-quiet : goal.expose-requires-clause-quiet
expose-requires-clause-quiet c =
    met_quiet c.args.schema.now.rules (base_state c.loop-firing.proof.end) (subst (λ facts. MeetsAll Const (GroundsOf facts) c.args.schema.now.rules) (sym c.loop-firing.invariant.exposes.base) c.requires.met)

pub loop-firing-preserved : goal.loop-firing-preserved
loop-firing-preserved c =
    elim c.match-firing.branch [
      | in-Expose+then-mark-firings+then-not-has_exposed+in_ok-expose w ↦
          let room : length c.loop-firing.proof.entries < c.args.firings = let m = w.mark.ensures in let t = w.if-mark-firings.true in omega arith in
          let so_far = c.loop-firing.invariant.exposes in
          let both = exposes_more (meaning_of c.args.schema.now) c.args.firings c.args.proof.now c.loop-firing.proof w.expose.new.proof w.in-Expose.method w.in-Expose.fact so_far
          w.in_ok-expose.ensures.exposed w.expose.ensures.run (w.expose.ensures.ordered so_far.search.ordered) room in
          let low = so_far.longer in
          let high = both.1 in
          record {
            exposes = subst (λ p. Exposes (meaning_of c.args.schema.now) c.args.firings c.args.proof.now p) (sym w.proof-is) both.0;
            first = λ e. absurd (omega arith);
            longer = λ l. subst (λ (p : Proving). length c.args.proof.now.entries < length p.entries) (sym w.proof-is) (omega arith);
          }
      | in-Expose+else-mark-firings w ↦
          let here : Contains c.args.found.now c.firing-item.result = (c.loop-firing.firing-index, c.loop-firing-test.true, sym c.firing-item.is) in
          let never : c.loop-firing.firing-index ≡ 0 → ⊥ =
          λ zero. elim w.else-mark-firings.branch [
            | else-mark-firings-via-then-mark-firings+else-not-has_exposed w' ↦
                was_new (meaning_of c.args.schema.now) c.args.proof.now c.args.found.now c.requires.active c.firing-item.result here w.in-Expose.method w.in-Expose.fact w.in-Expose.is
                c.loop-firing.proof (c.loop-firing.invariant.first zero) (w'.if-not-has_exposed.ensures.0 refl)
            | else-mark-firings-via-else-mark-firings w' ↦
                let room : length c.loop-firing.proof.entries < c.args.firings = subst (λ (p : Proving). length p.entries < c.args.firings) (sym (c.loop-firing.invariant.first zero)) c.requires.room in
                let m = w.mark.ensures in let t = w'.if-mark-firings.false in omega arith
          ] in
          record {
            exposes = subst (λ p. Exposes (meaning_of c.args.schema.now) c.args.firings c.args.proof.now p) (sym w.proof-is) c.loop-firing.invariant.exposes;
            first = λ e. absurd (omega arith);
            longer = λ l. subst (λ (p : Proving). length c.args.proof.now.entries < length p.entries) (sym w.proof-is)
                (made_one c.loop-firing.firing-index (length c.args.proof.now.entries) (length c.loop-firing.proof.entries) never c.loop-firing.invariant.longer);
          }
      | in_default w ↦
          let here : Contains c.args.found.now c.firing-item.result = (c.loop-firing.firing-index, c.loop-firing-test.true, sym c.firing-item.is) in
          let (number, fact, e, can) = c.requires.active c.firing-item.result here in
          absurd (w.in_default.not-Expose number fact e)
    ]
