use Rattle.std.proofs.Common.{◌≡◌, ◌+◌, ℕ, suc, refl, subst, arith}
use Rattle.request_rounds.specs.Rounds.{Went}
use Rattle.request_rounds.specs.Rounds.Stops.{over, refused, untaken, unturned}
use Rattle.request_rounds.proofs.rounds.ask_rounds.Goals as goal

pub loop-init : goal.loop-init
loop-init g c = record { within = omega arith; went = (refl, refl) }

pub turn-requires : goal.turn-requires
turn-requires g c = (c.requires.can c.loop.counter (record { progress = c.loop.progress; made = c.loop.made }) c.loop.lanes (omega arith) c.loop.invariant.went).turns

pub ask-requires : goal.ask-requires
ask-requires g c =
    (c.requires.can c.loop.counter (record { progress = c.loop.progress; made = c.loop.made }) c.loop.lanes (omega arith) c.loop.invariant.went).asks
    c.in-Ok.turned (c.in-Ok.ensures, omega arith) _ _ refl refl

pub take-requires : goal.take-requires
take-requires g c =
    (c.requires.can c.loop.counter (record { progress = c.loop.progress; made = c.loop.made }) c.loop.lanes (omega arith) c.loop.invariant.went).takes
    c.in-Ok.turned c.in-Ok-ask.answers c.ask.new.arg3 (c.in-Ok.ensures, omega arith)
    (record { shown = _; lent = _; left = _; called = c.in-Ok-ask.ensures; shown_is = refl; lent_is = refl; left_is = refl })

pub loop-preserved : goal.loop-preserved
loop-preserved g c = record {
  within = omega arith;
  went =
      let one : suc c.loop.counter ≡ c.loop.counter + 1 = omega arith in
      subst (λ (n : ℕ). Went (goal.TURN-post g c.args.turn.now) (goal.ASK-post g c.args.ask.now)
      (goal.TAKE-post g c.args.take.now) c.args.cap n (record { progress = c.args.start; made = 0 }) c.args.lanes.now
      (record { progress = c.in-Ok-take.next; made = c.loop.made + c.in-Ok.turned.wanted }) c.ask.new.arg3) one (
        record { progress = c.loop.progress; made = c.loop.made },
        c.loop.lanes,
        c.loop.invariant.went,
        record {
          turned = c.in-Ok.turned;
          wants = (c.in-Ok.ensures, omega arith);
          answers = c.in-Ok-ask.answers;
          asked = record { shown = _; lent = _; left = _; called = c.in-Ok-ask.ensures; shown_is = refl; lent_is = refl; left_is = refl };
          taken = c.in-Ok-take.ensures;
          made = refl;
          long = c.ask.auto.arg3;
        },
      );
}

pub returns-in_default-clause-halts : goal.returns-in_default-clause-halts
returns-in_default-clause-halts g c = record {
  n = c.loop.counter;
  less = omega arith;
  reached = record { progress = c.loop.progress; made = c.loop.made };
  middle = c.loop.lanes;
  went = c.loop.invariant.went;
  stops = unturned;
}

pub returns-then-wanted-cap-clause-halts : goal.returns-then-wanted-cap-clause-halts
returns-then-wanted-cap-clause-halts g c = record {
  n = c.loop.counter;
  less = omega arith;
  reached = record { progress = c.loop.progress; made = c.loop.made };
  middle = c.loop.lanes;
  went = c.loop.invariant.went;
  stops = let past = c.if-wanted-cap.true in
      over c.in-Ok.turned c.min-wanted.result c.in-Ok.ensures (omega (arith, past)) c.min-wanted.ensures;
}

pub returns-in-Err-clause-halts : goal.returns-in-Err-clause-halts
returns-in-Err-clause-halts g c = record {
  n = c.loop.counter;
  less = omega arith;
  reached = record { progress = c.loop.progress; made = c.loop.made };
  middle = c.loop.lanes;
  went = c.loop.invariant.went;
  stops = refused c.in-Ok.turned c.in-Err.why c.ask.new.arg3 (c.in-Ok.ensures, omega arith)
      (record { shown = _; lent = _; left = _; called = c.in-Err.ensures; shown_is = refl; lent_is = refl; left_is = refl });
}

pub returns-in-Err-take-clause-halts : goal.returns-in-Err-take-clause-halts
returns-in-Err-take-clause-halts g c = record {
  n = c.loop.counter;
  less = omega arith;
  reached = record { progress = c.loop.progress; made = c.loop.made };
  middle = c.loop.lanes;
  went = c.loop.invariant.went;
  stops = untaken c.in-Ok.turned c.in-Ok-ask.answers c.ask.new.arg3 (c.in-Ok.ensures, omega arith)
      (record { shown = _; lent = _; left = _; called = c.in-Ok-ask.ensures; shown_is = refl; lent_is = refl; left_is = refl });
}

pub returns-clause-went : goal.returns-clause-went
returns-clause-went g c =
    let over = c.loop-test.false in
    let under = c.loop.auto.counter-end in
    let same : c.loop.counter ≡ c.args.rounds = omega (arith, over, under) in
    subst (λ (n : ℕ). Went (goal.TURN-post g c.args.turn.now) (goal.ASK-post g c.args.ask.now)
    (goal.TAKE-post g c.args.take.now) c.args.cap n (record { progress = c.args.start; made = 0 }) c.args.lanes.now
    (record { progress = c.loop.progress; made = c.loop.made }) c.loop.lanes) same c.loop.invariant.went
