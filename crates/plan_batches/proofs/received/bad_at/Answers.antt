use Rattle.std.proofs.Common.{◌++◌, ◌+◌, ℕ, List, Option, [], get_or, take, sym, subst, arith}
use Rattle.std.specs.Prelude.{flat_map}
use Rattle.std.proofs.lemmas.List.{length-map, take_all}
use Rattle.std.proofs.lemmas.Option.{slice_get-get_or}
use Rattle.lists.proofs.Members.{contains_got, map_got}
use Rattle.access_schema.specs.Meaning.{meaning_of}
use Rattle.source_trait.specs.Asking.{RowList}
use Rattle.bad_numbers.specs.Numbers.{FindsBad}
use Rattle.bad_numbers.proofs.Parts.{one_more}
use Rattle.plan_batches.specs.Kept.{answers_at}
use Rattle.plan_batches.proofs.received.bad_at.Goals as goal

pub answer_at-requires : goal.answer_at-requires
answer_at-requires c =
    c.requires (get_or c.args.numbers.now c.loop-number.number-index 0)
    (contains_got c.args.numbers.now c.loop-number.number-index (get_or c.args.numbers.now c.loop-number.number-index 0)
    (slice_get-get_or c.args.numbers.now c.loop-number.number-index 0 (omega arith)))

pub loop-number-preserved : goal.loop-number-preserved
loop-number-preserved c =
    let all = c.args.kept.now ++ c.args.round.now in
    let number = get_or c.args.numbers.now c.loop-number.number-index 0 in
    let at = map_got (λ n. get_or all n []) c.args.numbers.now c.loop-number.number-index number
    (slice_get-get_or c.args.numbers.now c.loop-number.number-index 0 (omega arith)) in
    let rows = get_or all number [] in
    let finds = subst (λ (r : RowList). FindsBad (meaning_of c.args.schema.now) c.args.rel r c.bad_in.result) c.answer_at.ensures
    c.bad_in.ensures in
    subst (λ (o : Option ℕ). FindsBad (meaning_of c.args.schema.now) c.args.rel
    (flat_map (λ (r : RowList). r) (take (c.loop-number.number-index + 1) (answers_at all c.args.numbers.now))) o) (sym c.lower-found.ensures)
    (one_more (meaning_of c.args.schema.now) c.args.rel (answers_at all c.args.numbers.now) c.loop-number.number-index rows
    c.loop-number.found c.bad_in.result at c.loop-number.invariant finds)

pub returns : goal.returns
returns c =
    let over = c.loop-number-test.false in
    let long = length-map c.args.numbers.now (λ n. get_or (c.args.kept.now ++ c.args.round.now) n []) in
    subst (λ (l : List RowList). FindsBad (meaning_of c.args.schema.now) c.args.rel (flat_map (λ (rows : RowList). rows) l) c.loop-number.found)
    (take_all c.loop-number.number-index (answers_at (c.args.kept.now ++ c.args.round.now) c.args.numbers.now) (omega (arith, over, long)))
    c.loop-number.invariant
