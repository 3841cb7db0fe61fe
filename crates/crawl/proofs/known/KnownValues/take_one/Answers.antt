use Rattle.std.proofs.Common.{◌≡◌, ◌∙◌, ◌++◌, ◌∷◌, [], false, true, refl, sym, ap}
use Rattle.std.specs.BTreeSet.{contains}
use Rattle.meaning.specs.Values.{Value}
use Rattle.access_schema.proofs.Repeats.{is_new, not_new}
use Rattle.crawl.proofs.Knowing.{order, held_iff, takes_again, takes_new}
use Rattle.crawl.proofs.known.KnownValues.take_one.Goals as goal

pub returns-then-not-branch : goal.returns-then-not-branch
returns-then-not-branch c =
    let old = c.args.self.now in
    takes_again old (record { all = c.insert.new.self; fresh = old.fresh }) c.args.value
    ((held_iff old c.args.value).0 (not_new _ (contains order old.all c.args.value) c.in_ok-insert.ensures.added c.if-not-branch.true))
    c.in_ok-insert.ensures.keys
    refl

pub returns : goal.returns
returns c =
    let old = c.args.self.now in
    takes_new old (record { all = c.insert.new.self; fresh = c.push.new.self }) c.args.value
    (λ h.
    let free = is_new _ (contains order old.all c.args.value) c.in_ok-insert.ensures.added c.if-not-branch.false in
    let clash : true ≡ false = sym ((held_iff old c.args.value).1 h) ∙ free in
    absurd (cc))
    c.in_ok-insert.ensures.keys
    (c.in_ok-push.ensures.items ∙ ap (λ (v : Value). old.fresh.items ++ v ∷ [])
    (c.in_ok-fresh.ensures ∙ c.text.ensures))
