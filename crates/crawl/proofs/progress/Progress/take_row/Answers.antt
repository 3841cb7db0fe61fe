use Rattle.std.proofs.Common.{◌∙◌, ◌++◌, ◌∷◌, [], List, refl, ap, subst}
use Rattle.std.specs.Prelude.{Contains}
use Rattle.meaning.specs.Values.{Value, Row}
use Rattle.crawl.specs.Finding.{Finds}
use Rattle.crawl.proofs.Finding.{finds_within}
use Rattle.crawl.proofs.Gaining.{gains_row}
use Rattle.crawl.proofs.progress.Progress.take_row.Goals as goal

pub returns : goal.returns
returns c =
    let old = c.args.self.now in
    gains_row c.args.request.now.rel c.args.lent.now old
    (record {
      known = old.known;
      found = c.take_row.new.self;
      received = c.push.new.self;
      made = old.made;
      rounds = old.rounds;
    }) refl
    (finds_within c.args.request.now.values old.known.all.keys c.requires (Contains c.args.lent.now)
    old.found.list.items c.take_row.new.self.list.items
    (subst (λ (shared : List Value). Finds shared (Contains c.args.lent.now) old.found.list.items
    c.take_row.new.self.list.items)
    c.as_slice.ensures c.in_ok-row.ensures.finds))
    (c.in_ok-push.ensures.items ∙ ap (λ (r : Row). old.received.items ++ (c.args.request.now.rel, r) ∷ [])
    (c.new.ensures ∙ c.in_ok-row.ensures.row))
    refl refl
