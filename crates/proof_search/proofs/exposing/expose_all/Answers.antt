use Rattle.std.proofs.Common.{length, refl, sym, subst, arith}
use Rattle.std.specs.Prelude.{Contains}
use Rattle.meaning.specs.declared.types.Val.TheVariants.{Const}
use Rattle.meaning.specs.Matching.{MeetsAll, GroundsOf}
use Rattle.meaning.specs.Runs.{base_state}
use Rattle.access_schema.specs.Meaning.{meaning_of}
use Rattle.rule_pass.proofs.OnePass.{met_quiet}
use Rattle.accessible_copy.proofs.Pushing.{goes_listed, none_listed}
use Rattle.proof_search.proofs.Searching.{later_search, some_left}
use Rattle.proof_search.proofs.exposing.expose_all.Goals as goal

pub returns-then-is_empty-clause-quiet : goal.returns-then-is_empty-clause-quiet
returns-then-is_empty-clause-quiet c = λ e.
    none_listed (meaning_of c.args.schema.now) c.loop-found.proof c.in_ok-found.found c.in_ok-found.ensures (λ long. let none = c.if-is_empty.ensures.0 refl in omega arith)

pub returns-then-mark-firings-clause-spent : goal.returns-then-mark-firings-clause-spent
returns-then-mark-firings-clause-spent c = λ e. (
  (let m = c.mark.ensures in let t = c.if-mark-firings.true in omega arith),
  goes_listed (meaning_of c.args.schema.now) c.loop-found.proof c.loop-found.invariant.search.run c.loop-found.invariant.search.ordered c.in_ok-found.found
      (met_quiet c.args.schema.now.rules (base_state c.loop-found.proof.end) c.loop-found.invariant.met) c.in_ok-found.ensures (some_left (length c.in_ok-found.found) c.if-is_empty.ensures.1),
)

pub expose_each-requires-clause-active : goal.expose_each-requires-clause-active
expose_each-requires-clause-active c firing among =
    let old = c.in_ok-chosen.ensures.among firing (subst (λ list. Contains list firing) c.as_slice.ensures among) in
    let (number, fact, e, of, can) = c.in_ok-found.ensures.each firing old in (number, fact, e, can)

pub loop-found-preserved : goal.loop-found-preserved
loop-found-preserved c =
    let its = c.in_ok-expose_each.ensures.exposes in
    record {
      search = later_search (meaning_of c.args.schema.now) c.args.firings c.args.proof.now.start c.args.proof.now.constants c.loop-found.proof c.expose_each.new.proof c.loop-found.invariant.search its.search;
      met = subst (λ facts. MeetsAll Const (GroundsOf facts) c.args.schema.now.rules) (sym its.base) c.loop-found.invariant.met;
      part = its.part;
    }
