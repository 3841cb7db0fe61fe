use Rattle.std.proofs.Common.{ℕ, List, Bool, length, ap, ◌∙◌, subst}
use Rattle.meaning.specs.declared.types.Ground.{Ground}
use Rattle.meaning.specs.declared.types.Query.{Query}
use Rattle.meaning.specs.declared.types.Rule.{Rule}
use Rattle.access_schema.specs.Meaning.{meaning_of}
use Rattle.exposure_search.specs.Tries.{IsMarked}
use Rattle.exposure_search.specs.Relevance.{WantedMarked, BodiesMarked, MakersMarked, AreFed, IsImageAmong, IsWanted, IsOfKind}
use Rattle.exposure_search.proofs.Following.{marks_relevant, following_begun}
use Rattle.exposure_search.proofs.relevance.relevant_facts.Goals as goal

pub closed_marks-requires-clause-begun : goal.closed_marks-requires-clause-begun
closed_marks-requires-clause-begun c =
    following_begun (meaning_of c.args.schema.now) c.args.proof.now.constants c.args.proof.now.end.base c.in_ok-seen.seen (c.in_ok-seen.ensures.long ∙ ap length c.requires.facts) c.in_ok-seen.ensures.wait

pub returns : goal.returns
returns c =
    let wanted = c.in_ok-wanted.wanted.items in
    let makers = c.in_ok-makers.makers.items in
    let seen = c.in_ok-seen.seen.marks.items in
    let queries = c.args.queries.now in
    let asked = c.as_slice-asked.result.now in
    let head = c.args.head.now in
    let next = c.args.proof.now.end.next in
    marks_relevant (meaning_of c.args.schema.now) c.args.proof.now.constants c.args.proof.now.end.base next queries head wanted seen (record { relevant = c.in_ok-relevant.relevant; needed = c.in_ok-needed.needed; makers = c.in_ok-makers.makers })
    (subst (λ (from : ℕ). BodiesMarked c.args.schema.now.rules from (IsImageAmong queries head) wanted) c.next-next.ensures
    (subst (λ (qs : List Query). BodiesMarked c.args.schema.now.rules c.next-next.result (IsImageAmong qs head) wanted) c.as_slice-asked.ensures
    (subst (λ (rules : List Rule). BodiesMarked rules c.next-next.result (IsImageAmong asked head) wanted) c.as_slice-rules.ensures c.in_ok-wanted.ensures.served)))
    (subst (λ (rules : List Rule). AreFed rules wanted) c.as_slice-rules.ensures c.in_ok-wanted.ensures.fed)
    (subst (λ (facts : List Ground). WantedMarked wanted facts seen) c.requires.facts (subst (λ (marks : List Bool). WantedMarked marks c.args.facts.now seen) c.as_slice-2.ensures.value c.in_ok-seen.ensures.wanted))
    (subst (λ (qs : List Query). (number : ℕ) → IsOfKind c.args.proof.now.end.base (IsImageAmong qs head) number → IsMarked seen number) c.as_slice-asked.ensures
    (subst (λ (facts : List Ground). (number : ℕ) → IsOfKind facts (IsImageAmong asked head) number → IsMarked seen number) c.requires.facts c.in_ok-seen.ensures.images))
    c.in_ok-relevant.ensures.stays (c.in_ok-needed.ensures.items ∙ c.as_slice-3.ensures.value)
    (subst (λ (from : ℕ). MakersMarked c.args.schema.now.rules from (IsWanted queries head wanted) makers) c.next-next.ensures
    (subst (λ (qs : List Query). MakersMarked c.args.schema.now.rules c.next-next.result (IsWanted qs head wanted) makers) c.as_slice-asked.ensures
    (subst (λ (rules : List Rule). MakersMarked rules c.next-next.result (IsWanted asked head wanted) makers) c.as_slice-rules.ensures
    (subst (λ (marks : List Bool). MakersMarked c.as_slice-rules.result.now c.next-next.result (IsWanted asked head marks) makers) c.as_slice.ensures.value c.in_ok-makers.ensures))))
    c.in_ok-relevant.ensures.closed
