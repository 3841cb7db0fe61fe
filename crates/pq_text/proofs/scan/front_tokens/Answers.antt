use Rattle.std.proofs.Common.{◌≤◌, ◌<◌, ◌+◌, ◌∙◌, sym, ap, length, arith}
use Rattle.pq_text.specs.Tokens.{token_at}
use Rattle.pq_text.proofs.Lexing.{Lexes-push}
use Rattle.pq_text.proofs.Spans.{token_ascii, all_push, order_push, last_end_push}
use Rattle.pq_text.specs.Spans.{IsSpan}
use Rattle.pq_text.specs.declared.token.Token.{Token}
use Rattle.pq_text.proofs.scan.front_tokens.Goals as goal

pub loop-at-preserved : goal.loop-at-preserved
loop-at-preserved c =
    let text = c.as_bytes-bytes.result.now in
    let e = c.in-Begins.«end» in
    let found = sym (c.in-Begins.ensures.found ∙ ap (token_at c.args.style c.loop-at.at) c.rest_of.ensures.rest) in
    let one = Lexes-push c.args.style text 0 c.loop-at.at e c.in-Begins.kind c.loop-at.tokens c.loop-at.invariant.1 found in
    let within : (c.loop-at.at < e) × (e ≤ c.loop-at.at + length c.rest_of.result.now) = c.in-Begins.ensures.within in
    let near = within.0 in
    let far = within.1 in
    let len = c.rest_of.ensures.len in
    let token : Token = record { kind = c.in-Begins.kind; start = c.loop-at.at; «end» = e } in
    let limit : e ≤ length text = omega (arith, far, len) in
    let ascii = token_ascii c.args.style text c.loop-at.at c.in-Begins.kind e found in
    let span : IsSpan text token = record { some = near; within = limit; opens = ascii.0; closes = ascii.1 } in
    let spans = all_push (IsSpan text) c.loop-at.tokens token c.loop-at.invariant.2 span in
    let order = order_push 0 c.loop-at.tokens token c.loop-at.invariant.3 c.loop-at.invariant.4 in
    let far_end = last_end_push 0 c.loop-at.tokens token in (
      omega arith,
      rw (c.in_ok-push-in-Begins.ensures.ok, c.gap_end-at-in-Begins.ensures.gap, c.rest_of-in-Begins.ensures.rest) one,
      rw c.in_ok-push-in-Begins.ensures.ok spans,
      rw c.in_ok-push-in-Begins.ensures.ok order,
      rw (c.in_ok-push-in-Begins.ensures.ok, far_end) (omega arith),
    )
