-- The entries of the selects, one after the other.
use Rattle.std.proofs.Common.{◌≡◌, ◌-◌, ◌++◌, List, [], ◌∷◌, length, append_assoc, Option, Some, None, sym, ap, ◌∙◌, subst, arith}
use Rattle.std.specs.Prelude.{Contains}
use Rattle.std.proofs.lemmas.List.{append-nil}
use Rattle.lists.proofs.Members.{contains_here, contains_there}
use Rattle.meaning.specs.declared.types.Branch.{Branch}
use Rattle.meaning.specs.declared.types.Query.{Query}
use Rattle.meaning.specs.declared.types.SchemaParts.{SchemaParts}
use Rattle.findings.specs.declared.decision.Chosen.{Chosen as Entry}
use Rattle.findings.specs.declared.decision.Chosen.TheVariants as chosen
use Rattle.proof_search.specs.declared.outcome.Choice.{Choice}
use Rattle.proof_search.specs.Forms.{queries_in, branches_in, IsEntryOf, AreEntriesOf}

module _ (schema : SchemaParts) (forms : List (Option Query)) (choices : List Choice) where
  -- entries of the selects that are left, behind those so far, are entries of all
  pub record Leads (left : List (Option Query)) (waiting : List Choice) (entries : List Entry) : Type 0 where
    pub leads : (more : List Entry) → AreEntriesOf schema left waiting more → AreEntriesOf schema forms choices (entries ++ more)
    pub count : length waiting ≡ length (queries_in left)
    pub within : (branch : Branch) → Contains (branches_in waiting) branch → Contains (branches_in choices) branch

  pub leads_first : (entries : List Entry) → entries ≡ [] → length choices ≡ length (queries_in forms) → Leads forms choices entries
  leads_first entries none count = record {
    leads = λ more are. subst (λ (list : List Entry). AreEntriesOf schema forms choices (list ++ more)) (sym none) are;
    count = count;
    within = λ branch among. among;
  }

  joined : (entries pushed more : List Entry) (entry : Entry) → pushed ≡ entries ++ entry ∷ [] → entries ++ entry ∷ more ≡ pushed ++ more
  joined entries pushed more entry is = sym (ap (λ list. list ++ more) is ∙ append_assoc entries (entry ∷ []) more)

  -- a select that has no query
  pub leads_none : (left rest : List (Option Query)) (form : Option Query) (waiting : List Choice) (entries pushed : List Entry) →
      left ≡ form ∷ rest → form ≡ None → pushed ≡ entries ++ chosen.NoRow ∷ [] → Leads left waiting entries → Leads rest waiting pushed
  leads_none left rest form waiting entries pushed is none pushed_is so_far =
      let here : Leads (None ∷ rest) waiting entries =
      subst (λ list. Leads list waiting entries) (is ∙ ap (λ f. f ∷ rest) none) so_far in
      record {
        leads = λ more are. subst (AreEntriesOf schema forms choices) (joined entries pushed more chosen.NoRow pushed_is) (here.leads (chosen.NoRow ∷ more) are);
        count = here.count;
        within = here.within;
      }

  -- and one that has
  pub leads_some : (left rest : List (Option Query)) (form : Option Query) (query : Query) (waiting later : List Choice) (choice : Choice) (entries pushed : List Entry) (entry : Entry) →
      left ≡ form ∷ rest → form ≡ Some query → waiting ≡ choice ∷ later → pushed ≡ entries ++ entry ∷ [] → IsEntryOf schema choice entry →
      Leads left waiting entries → Leads rest later pushed
  leads_some left rest form query waiting later choice entries pushed entry is some next pushed_is entry_is so_far =
      let here : Leads (Some query ∷ rest) (choice ∷ later) entries =
      subst (λ list. Leads (Some query ∷ rest) list entries) next
      (subst (λ list. Leads list waiting entries) (is ∙ ap (λ f. f ∷ rest) some) so_far) in
      record {
        leads = λ more are. subst (AreEntriesOf schema forms choices) (joined entries pushed more entry pushed_is) (here.leads (entry ∷ more) (entry_is, are));
        count = let count = here.count in omega arith;
        within = λ branch among. here.within branch (contains_there choice.branch (branches_in later) branch among);
      }

  -- the next choice is one of all
  pub waits : (left : List (Option Query)) (waiting later : List Choice) (choice : Choice) (entries : List Entry) → waiting ≡ choice ∷ later →
      Leads left waiting entries → Contains (branches_in choices) choice.branch
  waits left waiting later choice entries next so_far =
      so_far.within choice.branch
      (subst (λ (list : List Choice). Contains (branches_in list) choice.branch) (sym next) (contains_here choice.branch (branches_in later)))

  -- all entries
  pub leads_all : (left : List (Option Query)) (waiting : List Choice) (entries : List Entry) → left ≡ [] → Leads left waiting entries → AreEntriesOf schema forms choices entries
  leads_all left waiting entries none so_far =
      subst (AreEntriesOf schema forms choices) (append-nil entries) (so_far.leads [] (nothing left waiting none so_far.count))
    where
      nothing : (left : List (Option Query)) (waiting : List Choice) → left ≡ [] → length waiting ≡ length (queries_in left) → AreEntriesOf schema left waiting []
      nothing [] [] none count = tt
      nothing [] (choice ∷ waiting) none count = absurd (omega arith)
      nothing (form ∷ left) waiting none count = let long = ap length none in absurd (omega arith)
