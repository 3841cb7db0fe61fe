-- The texts that a rule has at columns of one sort, and what is found of them.
use Rattle.std.proofs.Common.{◌≡◌, ◌⊎◌, ◌∙◌, sym, subst, ℕ, List, [], Option, Some, None, true, false, refl, arith, ⊎_elim}
use Rattle.std.specs.Prelude.{Contains, IsTrue, ◌↔◌, Bool, filter_map}
use Rattle.std.specs.List.{list_any}
use Rattle.meaning.specs.declared.types.Sort.{Sort}
use Rattle.meaning.specs.declared.types.Sort.TheVariants.{Text, Int}
use Rattle.meaning.specs.Integers.{IsInteger}
use Rattle.access_schema.specs.declared.part.NamedTerm.{NamedTerm}
use Rattle.access_schema.specs.declared.part.NamedTerm.TheVariants.{Var as NamedVar, Const as NamedConst}
use Rattle.access_schema.specs.declared.collect.Wanted.TheVariants.{Variables, Constants}
use Rattle.access_schema.specs.Lists.{is_among, each_once}
use Rattle.access_schema.specs.SortFaults.{HasTwoSorts, HasOtherConstant, text_at}
use Rattle.lists.proofs.Members.{contains_got}
use Rattle.access_schema.proofs.Prefixes.{given_by, given_from}
use Rattle.access_schema.proofs.Texts.{once_taken, once_from, any_found, any_at, among_contains, contains_among}

variable_from : (sort : Sort) (term : NamedTerm × Sort) (name : List ℕ) → text_at Variables sort term ≡ Some name → term ≡ (NamedVar name, sort)
variable_from Int (NamedVar x, Int) name is = let same : x ≡ name = cc in cc
variable_from Text (NamedVar x, Text) name is = let same : x ≡ name = cc in cc
variable_from Int (NamedConst c, Int) name is = absurd (cc)
variable_from Text (NamedConst c, Text) name is = absurd (cc)
variable_from Int (term, Text) name is = absurd (cc)
variable_from Text (term, Int) name is = absurd (cc)

constant_from : (term : NamedTerm × Sort) (c : List ℕ) → text_at Constants Int term ≡ Some c → term ≡ (NamedConst c, Int)
constant_from (NamedVar x, Int) c is = absurd (cc)
constant_from (NamedConst text, Int) c is = let same : text ≡ c = cc in cc
constant_from (term, Text) c is = absurd (cc)

variable_at : (sort : Sort) (name : List ℕ) → text_at Variables sort (NamedVar name, sort) ≡ Some name
variable_at Int name = refl
variable_at Text name = refl

-- the names are those of the variables at columns of that sort
abbrev names_at : Sort → List (NamedTerm × Sort) → List (List ℕ)
names_at sort terms = each_once (filter_map (text_at Variables sort) terms)

name_taken : (sort : Sort) (terms : List (NamedTerm × Sort)) (name : List ℕ) → Contains terms (NamedVar name, sort) → Contains (names_at sort terms) name
name_taken sort terms name there = once_taken [] (filter_map (text_at Variables sort) terms) name (given_from (text_at Variables sort) terms (NamedVar name, sort) name there (variable_at sort name))

name_from : (sort : Sort) (terms : List (NamedTerm × Sort)) (name : List ℕ) → Contains (names_at sort terms) name → Contains terms (NamedVar name, sort)
name_from sort terms name there = ⊎_elim
    (λ none. absurd (omega arith))
    (λ among. let (k, term, at, is) = given_by (text_at Variables sort) terms name among in
    subst (Contains terms) (variable_from sort term name is) (contains_got terms k term at))
    (once_from [] (filter_map (text_at Variables sort) terms) name there)

pub two_sorts : (terms : List (NamedTerm × Sort)) (integers texts : List (List ℕ)) (two : Bool) → integers ≡ names_at Int terms → texts ≡ names_at Text terms → two ≡ list_any (is_among texts) integers → IsTrue two ↔ HasTwoSorts terms
two_sorts terms integers texts two ints are is = (
  (λ yes. let (name, there, among) = any_found (is_among texts) integers (sym is ∙ yes) in (
    name,
    name_from Int terms name (subst (λ (names : List (List ℕ)). Contains names name) ints there),
    name_from Text terms name (subst (λ (names : List (List ℕ)). Contains names name) are (among_contains texts name among)),
  )),
  (λ (name, int, text). is ∙ any_at (is_among texts) integers name
      (subst (λ (names : List (List ℕ)). Contains names name) (sym ints) (name_taken Int terms name int))
      (contains_among texts name (subst (λ (names : List (List ℕ)). Contains names name) (sym are) (name_taken Text terms name text)))),
)

-- the constants are those at integer columns
pub other_constant : (terms : List (NamedTerm × Sort)) (constants : List (List ℕ)) (other : Bool) → constants ≡ each_once (filter_map (text_at Constants Int) terms)
    → IsTrue other ↔ ((c : List ℕ) × Contains constants c × (IsInteger c → ⊥)) → IsTrue other ↔ HasOtherConstant terms
other_constant terms constants other are found = (
  (λ yes. let (c, there, none) = found.0 yes in (c, from c (subst (λ (texts : List (List ℕ)). Contains texts c) are there), none)),
  (λ (c, there, none). found.1 (c, subst (λ (texts : List (List ℕ)). Contains texts c) (sym are) (once_taken [] (filter_map (text_at Constants Int) terms) c (given_from (text_at Constants Int) terms (NamedConst c, Int) c there refl)), none)),
) where
  from : (c : List ℕ) → Contains (each_once (filter_map (text_at Constants Int) terms)) c → Contains terms (NamedConst c, Int)
  from c there = ⊎_elim
      (λ none. absurd (omega arith))
      (λ among. let (k, term, at, is) = given_by (text_at Constants Int) terms c among in
      subst (Contains terms) (constant_from term c is) (contains_got terms k term at))
      (once_from [] (filter_map (text_at Constants Int) terms) c there)
