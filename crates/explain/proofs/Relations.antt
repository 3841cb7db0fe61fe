-- A relation is found by its name, which no other has.
use Rattle.std.proofs.Common.{◌≡◌, ℕ, zero, suc, Bool, true, false, cond, List, [], ◌∷◌, length, Option, None, Some, refl, sym, ap, subst, ◌∙◌, slice_get}
use Rattle.std.specs.Prelude.{◌==◌, nat_eq, ◌≢◌}
use Rattle.std.specs.Cmp.Lexicographic.{pointwise, nat_list_eq_equiv}
use Rattle.std.proofs.lemmas.Bool.{eqb-true, eq-eqb}
use Rattle.std.proofs.lemmas.Option.{none-some, cond_some}
use Rattle.lists.proofs.Members.{map_got, got_mapped, some_injective}
use Rattle.lists.proofs.Orders.{text_is}
use Rattle.meaning.specs.declared.types.Relation.{Relation}
use Rattle.meaning.specs.declared.types.Fact.{Fact}
use Rattle.meaning.specs.Instances.{FitsRelation}
use Rattle.access_schema.specs.Names.{relation_names, AllDiffer}
use Rattle.access_schema.specs.declared.schema.Schema.{Schema}
use Rattle.access_schema.specs.Meaning.{meaning_of}
use Rattle.explain.specs.Grammar.{name_of}
use Rattle.explain.specs.Reading.{number_of, fact_with, fact_of}

-- ---- numbers of relations

-- a relation with that number has the name
number_names : (relations : List Relation) (name : List ℕ) (relation : Relation) → slice_get relations (number_of relations name) ≡ Some relation → relation.name ≡ name
number_names [] name relation e = absurd (none-some relation e)
number_names (r ∷ relations) name relation e = step (pointwise nat_eq r.name name) refl (λ h. number_names relations name relation h) e
  where
    step : (b : Bool) → pointwise nat_eq r.name name ≡ b → (slice_get relations (number_of relations name) ≡ Some relation → relation.name ≡ name) → slice_get (r ∷ relations) (cond b zero (suc (number_of relations name))) ≡ Some relation → relation.name ≡ name
    step true same rec e = ap (λ (s : Relation). s.name) (sym (some_injective r relation e)) ∙ text_is r.name name same
    step false other rec e = rec e

-- a name that some relation has is found
number_found : (relations : List Relation) (k : ℕ) (relation : Relation) → slice_get relations k ≡ Some relation → (found : Relation) × (slice_get relations (number_of relations relation.name) ≡ Some found)
number_found [] k relation e = absurd (none-some relation e)
number_found (r ∷ relations) zero relation e = first (pointwise nat_eq r.name relation.name) (ap (λ (s : Relation). pointwise nat_eq s.name relation.name) (some_injective r relation e) ∙ nat_list_eq_equiv.refl relation.name)
  where
    first : (b : Bool) → b ≡ true → (found : Relation) × (slice_get (r ∷ relations) (cond b zero (suc (number_of relations relation.name))) ≡ Some found)
    first true same = (r, refl)
    first false same = absurd (cc)
number_found (r ∷ relations) (suc k) relation e = step (pointwise nat_eq r.name relation.name) (number_found relations k relation e)
  where
    step : (b : Bool) → ((found : Relation) × (slice_get relations (number_of relations relation.name) ≡ Some found)) → (found : Relation) × (slice_get (r ∷ relations) (cond b zero (suc (number_of relations relation.name))) ≡ Some found)
    step true there = (r, refl)
    step false there = there

-- where names differ, it is found at its number
pub number_is : (relations : List Relation) (k : ℕ) (relation : Relation) → AllDiffer (relation_names relations) → slice_get relations k ≡ Some relation → number_of relations relation.name ≡ k
number_is relations k relation differ at =
    let found = number_found relations k relation at in
    let named = number_names relations relation.name found.0 found.1 in
    let here = map_got (λ (r : Relation). r.name) relations (number_of relations relation.name) found.0 found.1 in
    let there = map_got (λ (r : Relation). r.name) relations k relation at in
    differ (number_of relations relation.name) k relation.name (here ∙ ap (λ (n : List ℕ). Some n) named) there

-- ---- facts

-- what is made of a name and a row fits the relation of that name
pub record IsMade (schema : Schema) (name : List ℕ) (row : List (List ℕ)) (fact : Fact) : Type 0 where
  pub name_is : name_of (slice_get schema.relations fact.rel) ≡ name
  pub row_is : fact.row ≡ row
  pub fits : FitsRelation (meaning_of schema) fact.rel fact.row

pub fact_made : (schema : Schema) (name : List ℕ) (row : List (List ℕ)) (fact : Fact) → fact_of schema.relations name row ≡ Some fact → IsMade schema name row fact
fact_made schema name row fact e = step (slice_get schema.relations (number_of schema.relations name)) refl e
  where
    step : (o : Option Relation) → slice_get schema.relations (number_of schema.relations name) ≡ o → fact_with (number_of schema.relations name) row o ≡ Some fact → IsMade schema name row fact
    step None at e = absurd (none-some fact e)
    step (Some relation) at e =
        let made : Fact = record { rel = number_of schema.relations name; row = row } in
        let c = cond_some (length row == length relation.columns) made fact e in
        subst (IsMade schema name row) c.1 (record {
          name_is = ap name_of at ∙ number_names schema.relations name relation at;
          row_is = refl;
          fits = record { relation = relation; there = at; width = eqb-true (length row) (length relation.columns) c.0 };
        })

pub fact_again : (schema : Schema) (fact : Fact) → FitsRelation (meaning_of schema) fact.rel fact.row → fact_of schema.relations (name_of (slice_get schema.relations fact.rel)) fact.row ≡ Some fact
fact_again schema fact fits =
    let number = number_is schema.relations fact.rel fits.relation schema.valid.relations_are.differ fits.there in
    let wide = eq-eqb (length fact.row) (length fits.relation.columns) fits.width in
    let whole : fact_of schema.relations fits.relation.name fact.row ≡ Some fact = rw (number, fits.there, wide) refl in
    ap (λ (o : Option Relation). fact_of schema.relations (name_of o) fact.row) fits.there ∙ whole

-- ---- what a lookup gives

-- no relation has the name
pub fact_none : (relations : List Relation) (name : List ℕ) (row : List (List ℕ)) → ((k : ℕ) → slice_get (relation_names relations) k ≢ Some name) → fact_of relations name row ≡ None
fact_none relations name row none = step (slice_get relations (number_of relations name)) refl
  where
    step : (o : Option Relation) → slice_get relations (number_of relations name) ≡ o → fact_with (number_of relations name) row o ≡ None
    step None at = refl
    step (Some relation) at =
        absurd (none (number_of relations name) (map_got (λ (r : Relation). r.name) relations (number_of relations name) relation at ∙ ap (λ (n : List ℕ). Some n) (number_names relations name relation at)))

-- a relation with that number has the name
pub fact_there : (schema : Schema) (name : List ℕ) (rel : ℕ) (relation : Relation) (row : List (List ℕ)) → slice_get (relation_names schema.relations) rel ≡ Some name → slice_get schema.relations rel ≡ Some relation →
    fact_of schema.relations name row ≡ cond (length row == length relation.columns) (Some (record { rel = rel; row = row })) None
fact_there schema name rel relation row named at =
    let is : relation.name ≡ name = some_injective relation.name name (sym (map_got (λ (r : Relation). r.name) schema.relations rel relation at) ∙ named) in
    let number : number_of schema.relations name ≡ rel = ap (number_of schema.relations) (sym is) ∙ number_is schema.relations rel relation schema.valid.relations_are.differ at in
    ap (λ (n : ℕ). fact_with n row (slice_get schema.relations n)) number ∙ ap (fact_with rel row) at

-- a number that has a name has a relation
pub number_lost : (relations : List Relation) (rel : ℕ) (name : List ℕ) → slice_get (relation_names relations) rel ≡ Some name → None ≡ slice_get relations rel → ⊥
number_lost relations rel name named lost =
    let there = got_mapped (λ (r : Relation). r.name) relations rel name named in
    none-some there.0 (lost ∙ there.1)
