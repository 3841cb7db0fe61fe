-- A new folder of told files offers an instance within its limit.
use Rattle.std.proofs.Common.{◌≡◌, ◌+◌, inl, inr, ℕ, List, [], ◌∷◌, ◌++◌, Option, None, Some, Result, Ok, Err, Bool, false, refl, sym, ◌∙◌, ap, subst, arith}
use Rattle.std.specs.Prelude.{Contains, IsSome, IsSomeAnd, IsOkAnd, is_some}
use Rattle.lists.proofs.Members.{some_injective, contains_here, contains_there, contains_cases}
use Rattle.meaning.specs.declared.types.Fact.{Fact}
use Rattle.access_schema.specs.declared.schema.Schema.{Schema}
use Rattle.access_schema.specs.declared.schema.SourceLine.{SourceLine}
use Rattle.source_trait.specs.Asking.{RowList, Seen, facts_of}
use Rattle.source_trait.specs.Lanes.{source_of, AtKind}
use Rattle.source_trait.specs.Outside.{bytes_of}
use Rattle.source_trait.specs.declared.lanes.Kind.{Kind}
use Rattle.source_trait.specs.declared.source.AttachFault.{AttachFault}
use Rattle.middleware.specs.PlanSources.{line_for}
use Rattle.middleware.specs.Held.{SameFacts}
use Rattle.csv_sources.specs.DataFile.{offered}
use Rattle.csv_sources.proofs.Limits.{together}
use Rattle.pdq_core.specs.Complete.{OffersFacts, OfferInstance, OfferUntold, located}
use Rattle.run_laws.specs.Files.{AllHaveKind, FilesGive, HasFolder}

-- the kind of a relation's line
kind_is : (found : Option SourceLine) (kind : List ℕ) (line : SourceLine) → IsSomeAnd found (λ its. its.kind ≡ kind) → found ≡ Some line → line.kind ≡ kind
kind_is None kind line of_kind is = absurd of_kind
kind_is (Some its) kind line of_kind is = ap (λ (l : SourceLine). l.kind) (sym (some_injective its line is)) ∙ of_kind

line_there : (found : Option SourceLine) (kind : List ℕ) → IsSomeAnd found (λ its. its.kind ≡ kind) → IsSome found
line_there None kind of_kind = absurd of_kind
line_there (Some its) kind of_kind = refl

-- of relations with one more behind them each is needed
all_needed : (IsNeeded : ℕ → Type 0) (rels : List ℕ) (rel : ℕ) → ((other : ℕ) → Contains rels other → IsNeeded other) → IsNeeded rel →
    (other : ℕ) → Contains (rels ++ rel ∷ []) other → IsNeeded other
all_needed IsNeeded [] rel are needed other among = elim (contains_cases rel [] other among) [
  | inl same ↦ subst IsNeeded same needed
  | inr more ↦ are other more
]
all_needed IsNeeded (x ∷ rels) rel are needed other among = elim (contains_cases x (rels ++ rel ∷ []) other among) [
  | inl same ↦ are other (subst (λ (n : ℕ). Contains (x ∷ rels) n) same (contains_here x rels))
  | inr more ↦ all_needed IsNeeded rels rel (λ n c. are n (contains_there x rels n c)) needed other more
]

-- what holds of the folder holds at the line of each relation
at_line : {S : Type 0} (schema : Schema) (IsNeeded : ℕ → Type 0) (kinds : List (Kind S)) (kind : List ℕ) (folder : S) → source_of kinds kind ≡ Some folder → AllHaveKind schema IsNeeded kind →
    (rel : ℕ) (line : SourceLine) → IsNeeded rel → line_for rel schema.sources ≡ Some line → (P : List ℕ → S → Type 0) → P kind folder → AtKind kinds line.kind (P line.kind)
at_line {S = S} schema IsNeeded kinds kind folder there lines rel line needed is P holds =
    let same : line.kind ≡ kind = kind_is (line_for rel schema.sources) kind line (lines rel needed) is in
    subst (λ (k : List ℕ). AtKind kinds k (P k)) (sym same) (subst (λ (o : Option S). IsSomeAnd o (P kind)) (sym there) holds)

-- a new folder of files that tell nothing
pub untold_offer : {S : Type 0} (seen : S → Seen) (schema : Schema) (IsNeeded : ℕ → Type 0) (kinds : List (Kind S)) (kind : List ℕ) → HasFolder seen kind None kinds → AllHaveKind schema IsNeeded kind → OfferUntold seen schema IsNeeded kinds
untold_offer seen schema IsNeeded kinds kind has lines = record {
  lines = λ rel needed. line_there (line_for rel schema.sources) kind (lines rel needed);
  untold = λ rel line needed is.
      at_line schema IsNeeded kinds kind has.folder has.there lines rel line needed is (λ k source. (columns : List (List ℕ)) → (seen source).offer rel columns line.locator ≡ None)
      (λ columns. ap (λ (o : ℕ → List (List ℕ) → List ℕ → Option (Result RowList AttachFault)). o rel columns line.locator) has.fresh.offer);
}

module _ {S : Type 0} (seen : S → Seen) (schema : Schema) (IsNeeded : ℕ → Type 0) (kinds : List (Kind S)) (instance : List Fact) (kind : List ℕ) (files : List (List ℕ × List ℕ))
    (has : HasFolder seen kind (Some files) kinds) (give : FilesGive schema IsNeeded kind files instance) where
  its_facts : (rel : ℕ) (columns : List (List ℕ)) (locator : List ℕ) (offer : Result RowList AttachFault) → offered (bytes_of files locator) columns ≡ offer →
      IsOkAnd offer (λ rows. SameFacts rel (facts_of rel rows) instance) → OffersFacts (seen has.folder) rel columns locator instance
  its_facts rel columns locator (Err fault) is same = absurd same
  its_facts rel columns locator (Ok rows) is same = record {
    rows = rows;
    tells = ap is_some has.fresh.held;
    offered = ap (λ (o : ℕ → List (List ℕ) → List ℕ → Option (Result RowList AttachFault)). o rel columns locator) has.fresh.offer ∙ ap (λ (o : Result RowList AttachFault). Some o) is;
    same = same;
  }

  pub files_offer : OfferInstance seen schema IsNeeded kinds instance
  files_offer = record {
    lines = λ rel needed. line_there (line_for rel schema.sources) kind (give.lines rel needed);
    kinds_are = λ rel line needed is.
        ap (λ (k : List ℕ). is_some (source_of kinds k)) (kind_is (line_for rel schema.sources) kind line (give.lines rel needed) is) ∙ ap is_some has.there;
    fits = λ rels rel line up are needed is.
        at_line schema IsNeeded kinds kind has.folder has.there give.lines rel line needed is (λ k source. (seen source).passes (located schema k (rels ++ rel ∷ [])) ≡ false)
        (let within = give.fits (rels ++ rel ∷ []) up (all_needed IsNeeded rels rel are needed) in
        ap (λ (passes : List (ℕ × List ℕ) → Bool). passes (located schema kind (rels ++ rel ∷ []))) has.fresh.passes
        ∙ together (Some files) (located schema kind (rels ++ rel ∷ [])) [] (omega (arith, within)));
    facts = λ rel relation line needed relation_is is.
        at_line schema IsNeeded kinds kind has.folder has.there give.lines rel line needed is (λ k source. OffersFacts (seen source) rel relation.columns line.locator instance)
        (its_facts rel relation.columns line.locator (offered (bytes_of files line.locator) relation.columns) refl (give.rows rel relation line needed relation_is is));
  }
