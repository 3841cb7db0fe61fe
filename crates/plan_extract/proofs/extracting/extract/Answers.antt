use Rattle.std.proofs.Common.{◌≡◌, ◌∙◌, ◌≤◌, List, Some, length, map, sym, ap, subst}
use Rattle.std.specs.Prelude.{IfOk, IsPermutation, slice_get}
use Rattle.std.proofs.lemmas.List.Sorted.{IsPermutation-refl}
use Rattle.std.proofs.lemmas.Result.{IfOk-weaker}
use Rattle.meaning.specs.declared.types.Query.{Query}
use Rattle.meaning.specs.declared.types.Branch.{Branch}
use Rattle.meaning.specs.declared.types.Ground.{Ground}
use Rattle.meaning.specs.Extract.{branch_of}
use Rattle.meaning.specs.Triggers.{ground}
use Rattle.homomorphism.specs.Bindings.{at}
use Rattle.access_schema.specs.Meaning.{meaning_of}
use Rattle.plan_extract.specs.Branches.{IsBranchFor, IsProofFor}
use Rattle.plan_extract.specs.Trimmed.{IsTrimmedBranch}
use Rattle.plan_extract.specs.Passes.{IsReadOff}
use Rattle.plan_extract.proofs.Extracted.{atoms_are, match_there, few_steps, extracted_trimmed, branch_at}
use Rattle.plan_extract.proofs.extracting.extract.Goals as goal

pub read_kept-requires-clause-there : goal.read_kept-requires-clause-there
read_kept-requires-clause-there c =
    let (goal, got, match) = c.requires.found in
    match_there c.args.proof.now.end.copy c.in_ok-atoms.atoms.items goal c.args.found.now.assignment.vals match.facts_are
    (atoms_are c.args.queries.now c.as_slice.result.now c.args.found.now.select goal c.index-as_slice-found.result c.args.found.now.assignment.vals c.as_slice-values.result.now c.as_slice-2.result.now c.in_ok-atoms.atoms.items
    c.as_slice.ensures got c.index-as_slice-found.is c.as_slice-values.ensures c.as_slice-2.ensures c.in_ok-atoms.ensures)

pub returns : goal.returns
returns c =
    let schema = meaning_of c.args.schema.now in
    let proof = c.args.proof.now in
    let queries = c.args.queries.now in
    let head = c.args.head.now in
    let number = c.args.found.now.select in
    let vals = c.args.found.now.assignment.vals in
    let (query, its) = c.requires.proof in
    let (goal, got, match) = c.requires.found in
    let atoms_is =
    atoms_are queries c.as_slice.result.now number goal c.index-as_slice-found.result vals c.as_slice-values.result.now c.as_slice-2.result.now c.in_ok-atoms.atoms.items
    c.as_slice.ensures got c.index-as_slice-found.is c.as_slice-values.ensures c.as_slice-2.ensures c.in_ok-atoms.ensures in
    let read : IfOk c.read_kept.result (IsReadOff schema proof (map (ground (at vals)) goal.atoms) head) =
    subst (λ (atoms : List Ground). IfOk c.read_kept.result (IsReadOff schema proof atoms head)) atoms_is c.read_kept.ensures in
    record {
      branch = IfOk-weaker c.read_kept.result (IsReadOff schema proof (map (ground (at vals)) goal.atoms) head)
          (λ (branch : Branch). (query other : Query) → IsProofFor schema proof head query → slice_get queries number ≡ Some other → IsBranchFor schema proof.constants query other branch)
          (λ branch r query other its at_number.
          let k = r.are_kept in
          subst (IsBranchFor schema proof.constants query other) (sym (r.branch_is ∙ ap (λ list. branch_of list head) k.kept_is))
          (branch_at c.args.schema.now proof queries head number vals c.requires.known c.requires.fits c.requires.found k.exposures k.shown k.wanted k.marks k.marked query its other at_number k.are_wanted))
          read;
      trimmed = IfOk-weaker c.read_kept.result (IsReadOff schema proof (map (ground (at vals)) goal.atoms) head) (IsTrimmedBranch schema proof queries head number vals)
          (λ branch r.
          let k = r.are_kept in
          extracted_trimmed c.args.schema.now proof queries head number vals c.requires.known c.requires.fits c.requires.found k.exposures k.shown k.wanted k.marks k.marked query its goal got k.are_wanted branch (r.branch_is ∙ ap (λ list. branch_of list head) k.kept_is))
          read;
      few = IfOk-weaker c.read_kept.result (IsReadOff schema proof (map (ground (at vals)) goal.atoms) head) (λ (branch : Branch). length branch.steps ≤ length proof.entries)
          (λ branch r. let k = r.are_kept in few_steps schema proof its.run k.exposures k.shown k.marks r.kept (subst (λ list. IsPermutation list r.kept) k.kept_is (IsPermutation-refl r.kept)) head branch r.branch_is)
          read;
    }
