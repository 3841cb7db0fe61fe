-- The accessible part as a closed set, and a plan from its branches.
use Rattle.std.proofs.Common.{◌≡◌, ℕ, List, [], ◌∷◌, ◌++◌, length, subst, inl, inr, ⊎_elim, arith}
use Rattle.std.specs.Prelude.{Contains}
use Rattle.std.specs.List.{AllZip}
use Rattle.std.proofs.lemmas.List.Elements.{Contains-append_left}
use Rattle.lists.proofs.Members.{contains_here, contains_there, contains_cases}
use Rattle.meaning.specs.declared.types.Fact.{Fact}
use Rattle.meaning.specs.declared.types.SchemaParts.{SchemaParts}
use Rattle.meaning.specs.declared.types.Plan.{Plan}
use Rattle.meaning.specs.declared.types.Branch.{Branch}
use Rattle.meaning.specs.declared.types.Query.{Query}
use Rattle.meaning.specs.declared.types.Statement.{Statement}
use Rattle.meaning.specs.Access.{CanAccess, IsAccessPath}
use Rattle.meaning.specs.Plans.{IsLawful}
use Rattle.meaning.specs.Claims.{IsEquivalent}
use Rattle.meaning.specs.Conjunctive.{StandFor}
use Rattle.meaning.specs.Extract.{IsQueryRival}

-- more facts before, and the same fact can be accessed
pub access_more : (schema : SchemaParts) (constants : List (List ℕ)) (earlier later : List Fact) (fact : Fact) → ((f : Fact) → Contains earlier f → Contains later f) → CanAccess schema constants earlier fact → CanAccess schema constants later fact
access_more schema constants earlier later fact within access = record {
  method = access.method;
  of_schema = access.of_schema;
  of_relation = access.of_relation;
  inputs = λ p i. let (v, got, known) = access.inputs p i in (v, got, ⊎_elim inl (λ (f, c, j). inr (f, within f c, j)) known);
}

-- a closed set of facts has every accessible fact
pub accessible_closed : (schema : SchemaParts) (constants : List (List ℕ)) (facts closed : List Fact) → ((fact : Fact) → Contains facts fact → CanAccess schema constants closed fact → Contains closed fact) → (trail : List Fact) → IsAccessPath schema constants facts trail → (fact : Fact) → Contains trail fact → Contains closed fact
accessible_closed schema constants facts closed closes [] t fact c = absurd (omega arith)
accessible_closed schema constants facts closed closes (first ∷ earlier) (holds, access, t) fact c =
    ⊎_elim (λ e. subst (λ f. Contains closed f) e (closes first holds (access_more schema constants earlier closed first (λ f d. accessible_closed schema constants facts closed closes earlier t f d) access)))
    (λ h. accessible_closed schema constants facts closed closes earlier t fact h) (contains_cases first earlier fact c)

branch_for : (schema : SchemaParts) (constants : List (List ℕ)) (all queries : List Query) (branches : List Branch) (query : Query) → AllZip (IsQueryRival schema constants all) queries branches → Contains queries query → (branch : Branch) × Contains branches branch × IsQueryRival schema constants all query branch
branch_for schema constants all [] branches query z c = absurd (omega arith)
branch_for schema constants all (first ∷ queries) [] query z c = absurd z
branch_for schema constants all (first ∷ queries) (branch ∷ branches) query (is, z) c =
    ⊎_elim (λ e. (branch, contains_here branch branches, subst (λ q. IsQueryRival schema constants all q branch) e is))
    (λ h. let (other, d, its) = branch_for schema constants all queries branches query z h in (other, contains_there branch branches other d, its)) (contains_cases first queries query c)

query_for : (schema : SchemaParts) (constants : List (List ℕ)) (all queries : List Query) (branches : List Branch) (branch : Branch) → AllZip (IsQueryRival schema constants all) queries branches → Contains branches branch → (query : Query) × IsQueryRival schema constants all query branch
query_for schema constants all [] [] branch z c = absurd (omega arith)
query_for schema constants all [] (first ∷ branches) branch z c = absurd z
query_for schema constants all (query ∷ queries) [] branch z c = absurd z
query_for schema constants all (query ∷ queries) (first ∷ branches) branch (is, z) c =
    ⊎_elim (λ e. (query, subst (λ b. IsQueryRival schema constants all query b) e is)) (λ h. query_for schema constants all queries branches branch z h) (contains_cases first branches branch c)

-- one branch for each query makes a plan that is lawful and equivalent to the statement
pub plan_from_branches : (schema : SchemaParts) (constants : List (List ℕ)) (statement : Statement) (queries : List Query) (plan : Plan) → StandFor schema queries statement → AllZip (IsQueryRival schema constants queries) queries plan.branches → ((branch : Branch) → Contains plan.branches branch → length branch.output ≡ plan.width) → IsLawful plan schema constants × IsEquivalent plan statement schema
plan_from_branches schema constants statement queries plan stand read widths = (
  (λ branch c. (widths branch c, (query_for schema constants queries queries plan.branches branch read c).1.lawful)),
  record {
    sound = λ facts row model (branch, c, rows). let (goal, among, answer) = (query_for schema constants queries queries plan.branches branch read c).1.sound facts row model rows in stand.sound facts row goal model.fits among answer;
    complete = λ facts row model answered. let (query, among, answer) = stand.complete facts row model.fits answered in
        let (branch, c, is) = branch_for schema constants queries queries plan.branches query read among in
        (branch, c, is.complete facts row model answer);
  },
)
