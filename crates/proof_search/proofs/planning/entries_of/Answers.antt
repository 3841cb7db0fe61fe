use Rattle.std.proofs.Common.{◌-◌, length, take, drop, arith}
use Rattle.access_schema.specs.Meaning.{meaning_of}
use Rattle.lists.proofs.Places.{split_first, none_left}
use Rattle.proof_search.proofs.Planned.{leads_some, waits, leads_all}
use Rattle.proof_search.proofs.planning.entries_of.Goals as goal

pub entry_of-requires-clause-named : goal.entry_of-requires-clause-named
entry_of-requires-clause-named c =
    let waiting = c.loop-left.waiting.now in
    let choice = c.choice-item.result in
    c.requires.named choice.branch
    (waits (meaning_of c.args.schema.now) c.args.forms.now c.args.choices.now c.loop-left.left.now waiting (take (length waiting - 1) (drop 1 waiting)) choice c.loop-left.entries
    (split_first waiting choice (let some = c.in-len1-up-waiting.len_at_least in omega arith) c.choice-item.is) c.loop-left.invariant)

pub loop-left-preserved : goal.loop-left-preserved
loop-left-preserved c =
    let left = c.loop-left.left.now in
    let waiting = c.loop-left.waiting.now in
    leads_some (meaning_of c.args.schema.now) c.args.forms.now c.args.choices.now left (take (length left - 1) (drop 1 left)) c.form-item.result c.in-Some.field-0
    waiting (take (length waiting - 1) (drop 1 waiting)) c.choice-item.result c.loop-left.entries c.push-in-Some.new.self c.entry_of.result
    (split_first left c.form-item.result (let some = c.in-len1-up.len_at_least in omega arith) c.form-item.is) c.in-Some.is
    (split_first waiting c.choice-item.result (let some = c.in-len1-up-waiting.len_at_least in omega arith) c.choice-item.is)
    c.in_ok-push-in-Some.ensures.ok c.entry_of.ensures c.loop-left.invariant

pub returns : goal.returns
returns c =
    leads_all (meaning_of c.args.schema.now) c.args.forms.now c.args.choices.now c.loop-left.left.now c.loop-left.waiting.now c.loop-left.entries
    (none_left c.loop-left.left.now c.in_default.len_below) c.loop-left.invariant
