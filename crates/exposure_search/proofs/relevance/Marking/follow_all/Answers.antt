use Rattle.std.proofs.Common.{◌≡◌, Some, None, [], length, refl, sym, subst, rules, arith}
use Rattle.std.specs.Prelude.{slice_get}
use Rattle.homomorphism.proofs.Binding.{none_left}
use Rattle.access_schema.specs.Meaning.{meaning_of}
use Rattle.exposure_search.specs.declared.relevance.Marking.{Marking}
use Rattle.exposure_search.specs.Tries.{IsMarked}
use Rattle.exposure_search.specs.Relevance.{IsFollowing}
use Rattle.exposure_search.proofs.Following.{grows_none, followed_here, followed_none, following_next, all_followed}
use Rattle.exposure_search.proofs.relevance.Marking.follow_all.Goals.{in-Some-base+in_ok-follow, in_default-base}
use Rattle.exposure_search.proofs.relevance.Marking.follow_all.Goals as goal

pub returns-in_default-clause-closed : goal.returns-in_default-clause-closed
returns-in_default-clause-closed c =
    let none : c.loop.self.waiting.items ≡ [] = none_left c.loop.self.waiting.items (let short = c.in_default.ensures.cases.0 in let e = c.loop.self.waiting.ok.0 in omega (arith, short, e)) in
    all_followed (meaning_of c.args.schema.now) c.args.proof.now.constants c.args.proof.now.end.base c.loop.self none c.loop.invariant.following

pub loop-preserved : goal.loop-preserved
loop-preserved c =
    let schema = meaning_of c.args.schema.now in
    let constants = c.args.proof.now.constants in
    let facts = c.args.proof.now.end.base in
    let popped : Marking = record { marks = c.loop.self.marks; waiting = c.pop.new.self } in
    elim c.match-base.branch [
      | in-Some-base+in_ok-follow w ↦
          let got : slice_get facts c.in-Some.number ≡ Some w.in-Some-base.fact.now = search rules in
          record {
            stays = λ n on. subst (λ (s : Marking). IsMarked s.marks.items n) (sym w.self-is) (w.in_ok-follow.ensures.grows.stays n (c.loop.invariant.stays n on));
            following = subst (λ (s : Marking). IsFollowing schema constants facts s) (sym w.self-is)
                (following_next schema constants facts c.loop.self popped w.follow.new.self c.in-Some.number c.loop.invariant.following refl c.in-Some.ensures.items w.in_ok-follow.ensures.grows
                (followed_here schema constants facts c.args.methods.now c.args.holders.now c.args.proof.now.end.exposed w.follow.new.self.marks.items (length c.loop.self.marks.items) c.in-Some.number w.in-Some-base.fact.now
                c.requires.none c.requires.methods c.requires.holders c.loop.invariant.following.long got w.in_ok-follow.ensures.reached));
          }
      | in_default-base w ↦
          let none : slice_get facts c.in-Some.number ≡ None = search rules in
          record {
            stays = λ n on. subst (λ (s : Marking). IsMarked s.marks.items n) (sym w.self-is) (c.loop.invariant.stays n on);
            following = subst (λ (s : Marking). IsFollowing schema constants facts s) (sym w.self-is)
                (following_next schema constants facts c.loop.self popped popped c.in-Some.number c.loop.invariant.following refl c.in-Some.ensures.items (grows_none popped) (followed_none schema constants facts c.loop.self.marks.items c.in-Some.number none));
          }
    ]
