use Rattle.std.proofs.Common.{◌∙◌, ◌++◌, ◌∷◌, [], List, sym, ap}
use Rattle.std.proofs.lemmas.List.{append-nil, append_assoc}
use Rattle.meaning.specs.Values.{Value}
use Rattle.crawl.proofs.Knowing.{takes_none, takes_front}
use Rattle.crawl.proofs.known.KnownValues.take_in.Goals as goal

pub loop-value-init : goal.loop-value-init
loop-value-init c = ([], append-nil c.args.values.now.items, takes_none c.args.self.now)

pub loop-value-preserved : goal.loop-value-preserved
loop-value-preserved c =
    let (taken, parts, took) = c.loop-value.invariant in
    let value = c.in-Some.value in (
      value ∷ taken,
      sym (append_assoc c.pop.new.self.items (value ∷ []) taken) ∙ ap (λ (l : List Value). l ++ taken) (sym c.in-Some.ensures.items) ∙ parts,
      takes_front value taken c.args.self.now c.loop-value.self c.take_one.new.self took c.in_ok-take_one.ensures,
    )
