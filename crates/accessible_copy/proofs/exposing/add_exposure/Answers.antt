use Rattle.std.proofs.Common.{◌≡◌, ◌≤◌, ◌++◌, ◌∷◌, [], List, length, take, sym, ap, ◌∙◌, subst, rules}
use Rattle.std.specs.Prelude.{Contains}
use Rattle.meaning.specs.declared.types.Ground.{Ground}
use Rattle.meaning.specs.declared.types.Firing.TheVariants.{Expose}
use Rattle.meaning.specs.Added.{with_facts}
use Rattle.meaning.specs.Triggers.{State}
use Rattle.meaning.specs.Runs.{last_part, IsActiveExposure}
use Rattle.meaning_laws.proofs.Added.{added_front}
use Rattle.access_schema.specs.Meaning.{meaning_of}
use Rattle.accessible_copy.specs.Known.{facts_of}
use Rattle.accessible_copy.specs.Proving.{Proving, IsProofOf, log_of, sizes_of}
use Rattle.accessible_copy.specs.contracts.proof.Proof.{the_view}
use Rattle.accessible_copy.proofs.ExposureEntries.{copy_new, fact_below, facts_push, taken_back}
use Rattle.accessible_copy.proofs.exposing.add_exposure.Goals as goal

pub push-requires : goal.push-requires
push-requires c =
    let (of, active) = c.requires.active in
    record { new = λ h. active.new (subst (λ (p : Proving). Contains p.end.exposed c.args.fact.now) c.proof.view_is h) }

pub insert-requires-clause-labels : goal.insert-requires-clause-labels
insert-requires-clause-labels c = λ own.
    let (of, active) = c.requires.active in
    let there : Contains c.proof.inside.base.facts c.args.fact.now = subst (λ (p : Proving). Contains p.end.base c.args.fact.now) (sym c.proof.view_is) active.of_base in
    let one : c.in_ok-shown.shown ≡ c.args.fact.now = search rules in
    rw (one, c.next-next.ensures.next) (fact_below c.proof.inside.base.facts c.args.fact.now c.proof.inside.base.next there c.next-next.ensures.labels)

pub cut_back-requires : goal.cut_back-requires
cut_back-requires c =
    let sizes : c.sizes-before.result.copy ≡ length c.proof.inside.copy.facts = search rules in
    let added : c.insert.new.self.facts ≡ with_facts c.proof.inside.copy.facts (c.args.fact.now ∷ []) = search rules in
    let cut : take c.sizes-before.result.copy c.insert.new.self.facts ≡ c.proof.inside.copy.facts = rw (sizes, added) (added_front c.proof.inside.copy.facts (c.args.fact.now ∷ [])) in
    record { labels = rw (cut, c.next-own.ensures.next) c.next-own.ensures.labels }

pub returns-in-Err-push-clause-refused : goal.returns-in-Err-push-clause-refused
returns-in-Err-push-clause-refused c =
    let sizes : c.sizes-before.result ≡ sizes_of c.proof.inside.known.constants (the_view c.proof.inside).end = search rules in
    let added : c.insert.new.self.facts ≡ with_facts c.proof.inside.copy.facts (c.args.fact.now ∷ []) = search rules in
    let copy : c.cut_back.new.self.facts ≡ c.proof.inside.copy.facts =
    ap (λ (s : State). s.facts) c.cut_back.ensures ∙ rw (sizes, added) (added_front c.proof.inside.copy.facts (c.args.fact.now ∷ [])) in
    let shown : c.push.new.self ≡ record { constants = c.proof.inside.known.constants; exposed = c.proof.inside.known.exposed ++ record { method = c.args.method; fact = c.args.fact.now } ∷ [] } = search rules in
    let known : c.truncate-in-Err-push.new.self ≡ c.proof.inside.known =
    c.truncate-in-Err-push.ensures ∙ rw (sizes, shown) (ap (λ l. record { constants = c.proof.inside.known.constants; exposed = l }) (taken_back c.proof.inside.known.exposed (record { method = c.args.method; fact = c.args.fact.now }))) in
    let history : c.push-2.new.self ≡ c.proof.inside.history = search rules in
    rw (known, history, copy) c.proof.view_is

pub returns-clause-exposed : goal.returns-clause-exposed
returns-clause-exposed c =
    let (of, active') = c.requires.active in
    let view = the_view c.proof.inside in
    let is : IsProofOf (meaning_of c.args.schema.now) view = subst (IsProofOf (meaning_of c.args.schema.now)) (sym c.proof.view_is) c.requires.run in
    let active : IsActiveExposure (meaning_of c.args.schema.now) view.constants view.end c.args.method c.args.fact.now of
    = subst (λ (p : Proving). IsActiveExposure (meaning_of c.args.schema.now) p.constants p.end c.args.method c.args.fact.now of) (sym c.proof.view_is) active' in
    let part : last_part 0 (log_of view) ≤ 1 = subst (λ (p : Proving). last_part 0 (log_of p) ≤ 1) (sym c.proof.view_is) c.requires.part in
    let sizes : c.sizes-before.result ≡ sizes_of c.proof.inside.known.constants (the_view c.proof.inside).end = search rules in
    let added : c.insert.new.self.facts ≡ with_facts c.proof.inside.copy.facts (c.args.fact.now ∷ []) = search rules in
    let copy : c.insert.new.self.facts ≡ c.proof.inside.copy.facts ++ c.args.fact.now ∷ [] = added ∙ copy_new (meaning_of c.args.schema.now) view c.args.method c.args.fact.now of is active part in
    let shown : c.push.new.self ≡ record { constants = c.proof.inside.known.constants; exposed = c.proof.inside.known.exposed ++ record { method = c.args.method; fact = c.args.fact.now } ∷ [] } = search rules in
    let facts : facts_of (c.proof.inside.known.exposed ++ record { method = c.args.method; fact = c.args.fact.now } ∷ []) ≡ facts_of c.proof.inside.known.exposed ++ c.args.fact.now ∷ [] = facts_push c.proof.inside.known.exposed (record { method = c.args.method; fact = c.args.fact.now }) in
    let entries : c.push-2.new.self.entries ≡ c.proof.inside.history.entries ++ record { firing = Expose c.args.method c.args.fact.now; before = c.sizes-before.result } ∷ [] = search rules in
    rw (← c.proof.view_is, shown, entries, copy, sizes)
    (ap (λ (l : List Ground). record {
      constants = c.proof.inside.known.constants;
      start = view.start;
      exposed = c.proof.inside.known.exposed ++ record { method = c.args.method; fact = c.args.fact.now } ∷ [];
      entries = c.proof.inside.history.entries ++ record { firing = Expose c.args.method c.args.fact.now; before = sizes_of view.constants view.end } ∷ [];
      end = record { base = c.proof.inside.base.facts; exposed = l; copy = c.proof.inside.copy.facts ++ c.args.fact.now ∷ []; next = c.proof.inside.base.next };
    }) facts)
