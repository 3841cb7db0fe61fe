use Rattle.std.proofs.Common.{◌<◌, length, ap, inl, inr, arith, true}
use Rattle.std.specs.Prelude.{Ok}
use Rattle.meaning.specs.Runs.{copy_state, IsBaseQuiet, NoExposure}
use Rattle.access_schema.specs.Meaning.{meaning_of}
use Rattle.rule_pass.specs.States.{SomeActive}
use Rattle.accessible_copy.specs.Rounds.{SomeExposure, IsAllQuiet}
use Rattle.accessible_copy.proofs.Pushing.{goes_copy, goes_expose, none_listed}
use Rattle.accessible_copy.proofs.Rounding.{on_ok, none_round, settled_round, made_round, some_listed, copy_done}
use Rattle.accessible_copy.proofs.rounds.later_part.Goals as goal

pub expose_part-requires-clause-some : goal.expose_part-requires-clause-some
expose_part-requires-clause-some c =
    let long : 0 < length c.in_ok-found.found = let t = c.if-len-gt0.true in let n = c.len.ensures in omega arith in
    some_listed (meaning_of c.args.schema.now) c.args.proof.now c.in_ok-found.found c.in_ok-found.ensures long

pub returns-then-len-gt0-clause-one : goal.returns-then-len-gt0-clause-one
returns-then-len-gt0-clause-one c = made_round (meaning_of c.args.schema.now) c.args.proof.now c.expose_part.new.proof c.expose_part.ensures.more

pub returns-then-len-gt0-clause-part : goal.returns-then-len-gt0-clause-part
returns-then-len-gt0-clause-part c =
    let quiet : IsBaseQuiet (meaning_of c.args.schema.now) c.args.proof.now.end = c.requires.base in
    let long : 0 < length c.in_ok-found.found = let t = c.if-len-gt0.true in let n = c.len.ensures in omega arith in
    let some : SomeExposure (meaning_of c.args.schema.now) c.args.proof.now = some_listed (meaning_of c.args.schema.now) c.args.proof.now c.in_ok-found.found c.in_ok-found.ensures long in
    on_ok c.expose_part.result (inr (inl (quiet, some, c.expose_part.ensures.more)))

pub returns-then-len-gt0-clause-going : goal.returns-then-len-gt0-clause-going
returns-then-len-gt0-clause-going c = λ e.
    let quiet : IsBaseQuiet (meaning_of c.args.schema.now) c.args.proof.now.end = c.requires.base in
    let long : 0 < length c.in_ok-found.found = let t = c.if-len-gt0.true in let n = c.len.ensures in omega arith in
    let (number, fact, can) = some_listed (meaning_of c.args.schema.now) c.args.proof.now c.in_ok-found.found c.in_ok-found.ensures long in
    goes_expose (meaning_of c.args.schema.now) c.args.proof.now c.requires.run c.requires.ordered quiet number fact can

pub settle_part-requires-clause-bare : goal.settle_part-requires-clause-bare
settle_part-requires-clause-bare c = λ e.
    none_listed (meaning_of c.args.schema.now) c.args.proof.now c.in_ok-found.found c.in_ok-found.ensures (λ long. let t = c.if-len-gt0.false in let n = c.len.ensures in omega arith)

pub returns-in-Some-clause-one : goal.returns-in-Some-clause-one
returns-in-Some-clause-one c = settled_round (meaning_of c.args.schema.now) true c.args.proof.now c.settle_part.new.proof c.settle_part.ensures.more

pub returns-in-Some-clause-part : goal.returns-in-Some-clause-part
returns-in-Some-clause-part c =
    let quiet : IsBaseQuiet (meaning_of c.args.schema.now) c.args.proof.now.end = c.requires.base in
    let none : NoExposure (meaning_of c.args.schema.now) c.args.proof.now.constants c.args.proof.now.end = none_listed (meaning_of c.args.schema.now) c.args.proof.now c.in_ok-found.found c.in_ok-found.ensures (λ long. let t = c.if-len-gt0.false in let n = c.len.ensures in omega arith) in
    let some : SomeActive c.args.schema.now.rules (copy_state c.args.proof.now.end) = rw c.in-Some.is at c.in_ok-ended.ensures.some in
    inr (inr (inl (quiet, none, some, c.settle_part.ensures.more)))

pub returns-in-Some-clause-going : goal.returns-in-Some-clause-going
returns-in-Some-clause-going c = λ e.
    let quiet : IsBaseQuiet (meaning_of c.args.schema.now) c.args.proof.now.end = c.requires.base in
    let none : NoExposure (meaning_of c.args.schema.now) c.args.proof.now.constants c.args.proof.now.end = none_listed (meaning_of c.args.schema.now) c.args.proof.now c.in_ok-found.found c.in_ok-found.ensures (λ long. let t = c.if-len-gt0.false in let n = c.len.ensures in omega arith) in
    let some : SomeActive c.args.schema.now.rules (copy_state c.args.proof.now.end) = rw c.in-Some.is at c.in_ok-ended.ensures.some in
    goes_copy (meaning_of c.args.schema.now) c.args.proof.now c.requires.run c.requires.ordered quiet none some

pub returns-in-Some-clause-done : goal.returns-in-Some-clause-done
returns-in-Some-clause-done c = λ e.
    let quiet : IsBaseQuiet (meaning_of c.args.schema.now) c.args.proof.now.end = c.requires.base in
    let none : NoExposure (meaning_of c.args.schema.now) c.args.proof.now.constants c.args.proof.now.end = none_listed (meaning_of c.args.schema.now) c.args.proof.now c.in_ok-found.found c.in_ok-found.ensures (λ long. let t = c.if-len-gt0.false in let n = c.len.ensures in omega arith) in
    copy_done (meaning_of c.args.schema.now) c.args.proof.now c.settle_part.new.proof quiet none (c.in_ok-ended.ensures.done (cc))

pub returns-clause-part : goal.returns-clause-part
returns-clause-part c =
    let (same, settled) = c.in_ok-ended.ensures.none (ap (λ o. Ok o) c.in_default.is) in
    let quiet : IsAllQuiet (meaning_of c.args.schema.now) c.args.proof.now = record {
      base = c.requires.base;
      exposures = none_listed (meaning_of c.args.schema.now) c.args.proof.now c.in_ok-found.found c.in_ok-found.ensures (λ long. let t = c.if-len-gt0.false in let n = c.len.ensures in omega arith);
      copy = settled;
    } in
    inr (inr (inr (quiet, same)))

pub returns-clause-quiet : goal.returns-clause-quiet
returns-clause-quiet c = λ e.
    let (same, settled) = c.in_ok-ended.ensures.none (ap (λ o. Ok o) c.in_default.is) in
    record {
      base = c.requires.base;
      exposures = none_listed (meaning_of c.args.schema.now) c.args.proof.now c.in_ok-found.found c.in_ok-found.ensures (λ long. let t = c.if-len-gt0.false in let n = c.len.ensures in omega arith);
      copy = settled;
    }

pub returns-in_err-found-clause-one : goal.returns-in_err-found-clause-one
returns-in_err-found-clause-one c = none_round c.args.proof.now

pub returns-in_err-ended-clause-one : goal.returns-in_err-ended-clause-one
returns-in_err-ended-clause-one c = settled_round (meaning_of c.args.schema.now) true c.args.proof.now c.settle_part.new.proof c.settle_part.ensures.more

pub returns-clause-one : goal.returns-clause-one
returns-clause-one c = settled_round (meaning_of c.args.schema.now) true c.args.proof.now c.settle_part.new.proof c.settle_part.ensures.more

pub returns-clause-same : goal.returns-clause-same
returns-clause-same c = λ e. let (same, settled) = c.in_ok-ended.ensures.none (ap (λ o. Ok o) c.in_default.is) in same
