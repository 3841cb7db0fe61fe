use Rattle.std.proofs.Common.{◌≡◌, ◌∙◌, ap, refl, sym, ℕ, List, None, subst}
use Rattle.std.specs.BTreeMap.{get}
use Rattle.std.proofs.lemmas.Result.{IfOk-weaker}
use Rattle.row_text.specs.RowText.{row_cmp}
use Rattle.shared_rounds.specs.Books.{Adds, Notes}
use Rattle.shared_rounds.specs.Books.Notes.{found, added}
use Rattle.shared_rounds.proofs.book.note.Goals as goal

pub returns-in-Some : goal.returns-in-Some
returns-in-Some c = found (ap (λ (v : List (List ℕ)). get row_cmp c.args.shelf.now.numbers v) (sym c.in_ok-values.ensures) ∙ sym c.in-Some.ensures) refl refl

pub returns-in-None : goal.returns-in-None
returns-in-None c =
    let none : get row_cmp c.args.shelf.now.numbers c.args.values.now ≡ None = ap (λ (v : List (List ℕ)). get row_cmp c.args.shelf.now.numbers v) (sym c.in_ok-values.ensures) ∙ sym c.in-None.ensures in
    IfOk-weaker c.add.result
    (λ number. Adds c.args.kind.now c.in_ok-values.values c.args.shelf.now c.add.new.shelf c.args.asked.now.items c.add.new.asked.items number)
    (λ number. Notes c.args.kind.now c.args.values.now c.args.shelf.now c.add.new.shelf c.args.asked.now.items c.add.new.asked.items number)
    (λ number a. added none (subst (λ (v : List (List ℕ)). Adds c.args.kind.now v c.args.shelf.now c.add.new.shelf c.args.asked.now.items c.add.new.asked.items number) c.in_ok-values.ensures a))
    c.add.ensures
