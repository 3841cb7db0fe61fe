use Rattle.std.proofs.Common.{◌≡◌, ◌∙◌, ◌++◌, ◌∷◌, [], ap, subst}
use Rattle.std.specs.Prelude.{Contains, OnOk, Result, Ok, Err}
use Rattle.meaning.specs.Values.{Value}
use Rattle.crawl.specs.Finding.{Finds}
use Rattle.crawl.proofs.Finding.{finds_known, finds_one}
use Rattle.crawl.proofs.found.FoundValues.take_text.Goals as goal

also_ok : {X E : Type 0} (P : Type 0) → P → (result : Result X E) → OnOk result P
also_ok P p (Ok x) = p
also_ok P p (Err e) = tt

pub returns-in-Some-clause-finds : goal.returns-in-Some-clause-finds
returns-in-Some-clause-finds c =
    let old = c.args.self.now.list.items in
    let there = subst (Contains c.args.shared.now) c.in-Some.ensures.0 c.in-Some.ensures.1 in
    also_ok (Finds c.args.shared.now (λ v. v ≡ c.args.value.now) old old)
    (finds_known c.args.shared.now old c.args.value.now there) c.copy.result

pub returns-clause-finds : goal.returns-clause-finds
returns-clause-finds c =
    finds_one c.args.shared.now c.args.self.now.list.items c.push.new.self.items c.args.value.now
    (c.in_ok-push.ensures.items ∙ ap (λ (v : Value). c.args.self.now.list.items ++ v ∷ [])
    (c.new.ensures ∙ c.in_ok-copy.ensures ∙ c.in_ok-text.ensures))
