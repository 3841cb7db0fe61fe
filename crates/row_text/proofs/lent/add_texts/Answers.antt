use Rattle.std.proofs.Common.{◌++◌, ◌∷◌, [], ◌∙◌, ap, sym, List, ℕ, ◌-◌, map, take, drop, get_or, arith}
use Rattle.std.proofs.lemmas.List.{append_assoc, map-append}
use Rattle.csv.specs.Records.{fields_of}
use Rattle.row_text.proofs.Packing.{part_more}
use Rattle.row_text.proofs.lent.add_texts.Goals as goal

pub loop-place-preserved : goal.loop-place-preserved
loop-place-preserved c =
    let values = fields_of c.args.values.now in
    let before = take (c.loop-place.place - c.args.start) (drop c.args.start values) in
    record {
      started = omega (arith, c.loop-place.invariant.started);
      added = ap (map (λ s. s.now)) c.in_ok-push.ensures.items
          ∙ map-append (λ s. s.now) c.loop-place.texts.items (c.text_at.result ∷ [])
          ∙ ap (λ (v : List ℕ). map (λ s. s.now) c.loop-place.texts.items ++ v ∷ []) c.text_at.ensures
          ∙ ap (λ (l : List (List ℕ)). l ++ get_or values c.loop-place.place [] ∷ []) c.loop-place.invariant.added
          ∙ append_assoc (map (λ s. s.now) c.args.texts.now.items) before (get_or values c.loop-place.place [] ∷ [])
          ∙ ap (λ (l : List (List ℕ)). map (λ s. s.now) c.args.texts.now.items ++ l) (sym (part_more values c.args.start c.loop-place.place c.args.end c.loop-place.invariant.started c.loop-place-test.true c.requires.within));
    }
