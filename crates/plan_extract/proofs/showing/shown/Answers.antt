use Rattle.std.proofs.Common.{◌≡◌, ◌≤◌, ◌<◌, ◌+◌, take, ◌∷◌, ◌++◌, [], Some, None, length, refl, sym, subst, arith}
use Rattle.std.specs.Prelude.{slice_get}
use Rattle.std.specs.List.{AllZip}
use Rattle.std.proofs.lemmas.Option.{slice_get_within, slice_get_read}
use Rattle.std.proofs.lemmas.List.{map-append}
use Rattle.access_schema.specs.Meaning.{meaning_of}
use Rattle.accessible_copy.specs.declared.entry.Exposed.{Exposed}
use Rattle.meaning.specs.Extract.{Exposure}
use Rattle.plan_extract.specs.Lent.{exposure_of, exposures_of}
use Rattle.plan_extract.specs.Trimmed.{IsShown}
use Rattle.plan_extract.proofs.Shown.{all_taken, none_past, zip_more}
use Rattle.plan_extract.proofs.Read.{method_of}
use Rattle.plan_extract.proofs.showing.shown.Goals.{in-Some+in_ok-push, in_default}
use Rattle.plan_extract.proofs.showing.shown.Goals as goal

pub bounds-methods-method : goal.bounds-methods-method
bounds-methods-method c =
    let one : Exposed = record { method = c.in-Some.method; fact = c.in-Some.fact.now } in
    let (method, there) = method_of (meaning_of c.args.schema.now) c.args.proof.now c.requires c.loop-number.number one c.in-Some.ensures.some in
    subst (λ list. c.in-Some.method < length list) (sym c.as_slice-methods.ensures) (slice_get_within c.args.schema.now.methods c.in-Some.method method there)

pub loop-number-preserved : goal.loop-number-preserved
loop-number-preserved c =
    elim c.match-exposed.branch [
      | in-Some+in_ok-push w ↦
          let one : Exposed = record { method = w.in-Some.method; fact = w.in-Some.fact.now } in
          let (method, there) = method_of (meaning_of c.args.schema.now) c.args.proof.now c.requires c.loop-number.number one w.in-Some.ensures.some in
          let within : w.in-Some.method < length c.as_slice-methods.result.now =
          subst (λ list. w.in-Some.method < length list) (sym c.as_slice-methods.ensures) (slice_get_within c.args.schema.now.methods w.in-Some.method method there) in
          let e : Exposure = record { method = w.index-methods-method.result; fact = w.in-Some.fact.now } in
          let at : slice_get c.args.schema.now.methods w.in-Some.method ≡ Some w.index-methods-method.result =
          subst (λ list. slice_get list w.in-Some.method ≡ Some w.index-methods-method.result) c.as_slice-methods.ensures
          (slice_get_read c.as_slice-methods.result.now (length c.as_slice-methods.result.now) w.in-Some.method w.index-methods-method.result refl within w.index-methods-method.is) in
          let items : exposures_of c.match-exposed.shown.items ≡ exposures_of c.loop-number.shown.items ++ e ∷ [] = rw (w.shown-is, w.in_ok-push.ensures.items) (map-append exposure_of c.loop-number.shown.items _) in
          subst (λ list. AllZip (IsShown (meaning_of c.args.schema.now)) (take (c.loop-number.number + 1) c.args.proof.now.exposed) list) (sym items)
          (zip_more (meaning_of c.args.schema.now) c.args.proof.now.exposed c.loop-number.number one (exposures_of c.loop-number.shown.items) e w.in-Some.ensures.some (at, refl) c.loop-number.invariant)
      | in_default w ↦
          let none : slice_get c.args.proof.now.exposed c.loop-number.number ≡ None = w.in_default.ensures.none in
          rw (w.shown-is, none_past c.args.proof.now.exposed c.loop-number.number none) c.loop-number.invariant
    ]

pub returns : goal.returns
returns c =
    let low : length c.args.proof.now.entries ≤ c.loop-number.number = let m = c.mark-number-end.ensures in let t = c.loop-number-test.false in omega arith in
    subst (λ list. AllZip (IsShown (meaning_of c.args.schema.now)) list (exposures_of c.loop-number.shown.items)) (all_taken (meaning_of c.args.schema.now) c.args.proof.now c.requires c.loop-number.number low) c.loop-number.invariant
