use Rattle.std.proofs.Common.{◌++◌, ◌∷◌, [], ◌∙◌, ap, sym, List, ℕ, ◌-◌, take, drop, get_or, arith}
use Rattle.std.proofs.lemmas.List.{append_assoc}
use Rattle.csv.specs.Records.{fields_of}
use Rattle.row_text.proofs.Packing.{part_more}
use Rattle.row_text.proofs.lent.add_fields.Goals as goal

pub loop-place-preserved : goal.loop-place-preserved
loop-place-preserved c =
    let values = fields_of c.args.values.now in
    let before = take (c.loop-place.place - c.args.start) (drop c.args.start values) in
    record {
      started = omega (arith, c.loop-place.invariant.started);
      added = c.in_ok-push_field.ensures.fields
          ∙ ap (λ (v : List ℕ). fields_of c.loop-place.fields ++ v ∷ []) c.text_at.ensures
          ∙ ap (λ (l : List (List ℕ)). l ++ get_or values c.loop-place.place [] ∷ []) c.loop-place.invariant.added
          ∙ append_assoc (fields_of c.args.fields.now) before (get_or values c.loop-place.place [] ∷ [])
          ∙ ap (λ (l : List (List ℕ)). fields_of c.args.fields.now ++ l) (sym (part_more values c.args.start c.loop-place.place c.args.end c.loop-place.invariant.started c.loop-place-test.true c.requires.within));
    }
