-- Methods and source lines that are found.
use Rattle.std.proofs.Common.{◌≡◌, ◌≢◌, ◌<◌, ℕ, List, [], ◌∷◌, length, Some, refl, sym, ◌∙◌, ap, subst, arith}
use Rattle.std.specs.Prelude.{Contains, IsSome, slice_get}
use Rattle.lists.proofs.Members.{contains_here, map_got, some_injective}
use Rattle.lists.proofs.Places.{got_contained}
use Rattle.meaning.specs.declared.types.Method.{Method}
use Rattle.access_schema.specs.declared.schema.Schema.{Schema}
use Rattle.access_schema.specs.declared.schema.SourceLine.{SourceLine}
use Rattle.access_schema.specs.Names.{method_names}
use Rattle.source_trait.specs.Asking.{Seen}
use Rattle.source_trait.specs.Lanes.{AtKind}
use Rattle.source_trait.specs.declared.lanes.Kind.{Kind}
use Rattle.middleware.specs.PlanSources.{line_for}
use Rattle.middleware.specs.Rounds.{CanAskAll}
use Rattle.source_trait.specs.declared.lanes.Lane.{Lane}
use Rattle.middleware.specs.Branches.{IsAskable}
use Rattle.middleware.specs.LaneBranches.{OnEach}

-- a name at no place is no method's
pub no_method : (methods : List Method) (name : List ℕ) → ((k : ℕ) → slice_get (method_names methods) k ≢ Some name) → (method : Method) → Contains methods method × (method.name ≡ name) → ⊥
no_method methods name none method named =
    let there = named.0 in
    none there.0 (map_got (λ (m : Method). m.name) methods there.0 method (got_contained methods method there) ∙ ap Some named.1)

-- a method that each of some lanes may be asked has a source line
pub line_there : {S : Type 0} (seen : S → Seen) (schema : Schema) (method : Method) (lanes : List (Lane S)) → 0 < length lanes → OnEach lanes (λ kinds. IsAskable seen schema kinds method)
    → IsSome (line_for method.rel schema.sources)
line_there seen schema method [] some askable = absurd (omega (arith, some))
line_there seen schema method (lane ∷ lanes) some askable = let is = (askable lane (contains_here lane lanes)).line_is in rw is refl

-- the source of the line that is found may be asked
pub ready_line : {S : Type 0} (seen : S → Seen) (schema : Schema) (kinds : List (Kind S)) (method : Method) (line : SourceLine) → line_for method.rel schema.sources ≡ Some line → IsAskable seen schema kinds method
    → AtKind kinds line.kind (λ s. CanAskAll ((seen s).attached method.rel) method)
ready_line seen schema kinds method line is askable =
    let same : askable.line ≡ line = some_injective askable.line line (sym askable.line_is ∙ is) in
    subst (λ (l : SourceLine). AtKind kinds l.kind (λ s. CanAskAll ((seen s).attached method.rel) method)) same askable.ready
