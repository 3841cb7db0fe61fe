-- A branch over a part of the schema is one over the whole.
use Rattle.std.proofs.Common.{◌≡◌, List, Bool, Option, Some, None, Result, Ok, Err, sym, subst}
use Rattle.std.specs.Prelude.{IfOk}
use Rattle.std.specs.Option.{IfSome}
use Rattle.meaning.specs.declared.types.SchemaParts.{SchemaParts}
use Rattle.meaning.specs.declared.types.Query.{Query}
use Rattle.meaning.specs.declared.types.Branch.{Branch}
use Rattle.meaning.specs.Values.{Value}
use Rattle.meaning.specs.Sorts.{AtomsAreSorted}
use Rattle.meaning.specs.Extract.{IsQueryRival}
use Rattle.meaning.specs.Fitting.{QueryFits}
use Rattle.schema_parts.specs.Parts.{with_rules, marked}
use Rattle.schema_parts.proofs.Fewer.{marked_among}
use Rattle.schema_parts.proofs.Alike.{fewer_rivals, queries_fit}
use Rattle.proof_search.specs.declared.attempting.Attempt.{Attempt}
use Rattle.proof_search.specs.Searches.{AreSearchable}
use Rattle.proof_search.specs.Branches.{IsQueryBranch}

module _ (whole part : SchemaParts) (marks : List Bool) (is : part ≡ with_rules whole (marked whole.rules marks)) (known : List Value) (queries : List Query) where
  pub part_searchable : AreSearchable whole known queries → AreSearchable part known queries
  part_searchable searchable query among =
      let its = searchable query among in
      record {
        fits = subst (λ schema. QueryFits schema query) (sym is) (queries_fit whole (marked whole.rules marks) query its.fits);
        constants = its.constants;
        counted = its.counted;
        few = its.few;
        sorted = subst (λ schema. AtomsAreSorted schema query.atoms) (sym is) (atoms_sorted query its.sorted);
      }
    where
      -- sorts are those of the relations, whatever the rules
      atoms_sorted : (query : Query) → AtomsAreSorted whole query.atoms →
          AtomsAreSorted (with_rules whole (marked whole.rules marks)) query.atoms
      atoms_sorted query are = are

  pub whole_branch : (query : Query) (branch : Branch) → IsQueryBranch part known queries query branch → IsQueryBranch whole known queries query branch
  whole_branch query branch over = record {
    rival = fewer_rivals whole (marked whole.rules marks) known queries query branch (marked_among whole.rules marks) (subst (λ schema. IsQueryRival schema known queries query branch) is over.rival);
    width = over.width;
    few = over.few;
  }

-- the same of what an attempt gives, if it gives something
branch_along : (P Q : Branch → Type 0) → ((branch : Branch) → P branch → Q branch) → (found : Option Branch) → IfSome found P → IfSome found Q
branch_along P Q along None over = over
branch_along P Q along (Some branch) over = along branch over

pub attempt_along : {E : Type 0} (P Q : Branch → Type 0) → ((branch : Branch) → P branch → Q branch) → (result : Result (Option Attempt) E) → IfOk result (λ made. IfSome made (λ attempt. IfSome attempt.branch P)) →
    IfOk result (λ made. IfSome made (λ attempt. IfSome attempt.branch Q))
attempt_along P Q along (Err e) over = over
attempt_along P Q along (Ok None) over = over
attempt_along P Q along (Ok (Some attempt)) over = branch_along P Q along attempt.branch over
