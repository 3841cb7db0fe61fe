-- A rule without a wrong sort is sorted, once its variables are numbered.
use Rattle.std.proofs.Common.{◌≡◌, ◌⊎◌, ◌∙◌, sym, ap, subst, ℕ, List, [], ◌∷◌, ◌++◌, true, false, Some, length, slice_get, map, refl, arith, ⊎_elim}
use Rattle.std.specs.Prelude.{Contains}
use Rattle.std.specs.List.{zip}
use Rattle.std.proofs.lemmas.List.{map-append}
use Rattle.std.proofs.lemmas.Option.{slice_get_within}
use Rattle.meaning.specs.declared.types.Relation.{Relation}
use Rattle.meaning.specs.declared.types.Atom.{Atom}
use Rattle.meaning.specs.declared.types.Term.{Term}
use Rattle.meaning.specs.declared.types.Term.TheVariants.{Var, Const}
use Rattle.meaning.specs.declared.types.Sort.{Sort}
use Rattle.meaning.specs.declared.types.Sort.TheVariants.{Text, Int}
use Rattle.meaning.specs.declared.types.SchemaParts.{SchemaParts}
use Rattle.meaning.specs.Integers.{IsInteger}
use Rattle.meaning.specs.Sorts.{HoldsIntegers, RuleIsSorted}
use Rattle.access_schema.specs.declared.part.NamedAtom.{NamedAtom}
use Rattle.access_schema.specs.declared.part.NamedTerm.{NamedTerm}
use Rattle.access_schema.specs.declared.part.NamedTerm.TheVariants.{Var as NamedVar, Const as NamedConst}
use Rattle.access_schema.specs.Lists.{is_among, place_of}
use Rattle.access_schema.specs.Content.{sorts_of, variable_of, named_terms, variables_of, term_of, atom_of, numbered_rule, number_of}
use Rattle.access_schema.specs.Faults.{is_unknown}
use Rattle.access_schema.specs.SortFaults.{sorted_terms, HasTwoSorts, HasOtherConstant}
use Rattle.lists.proofs.Members.{some_injective, contains_got, contains_mapped, got_mapped, got_below, contains_joined}
use Rattle.lists.proofs.Orders.{text_is}
use Rattle.access_schema.proofs.Texts.{place_holds, contains_among, once_taken}
use Rattle.access_schema.proofs.Prefixes.{given_from}
use Rattle.access_schema.proofs.Paired.{got_zip, sort_cases, int_there, there_int}
use Rattle.access_schema.proofs.Decided.{integer_or_not}

-- a constant is itself, and a variable the place of its name
constant_named : (variables : List (List ℕ)) (terms : List NamedTerm) (place : ℕ) (c : List ℕ) → slice_get (map (term_of variables) terms) place ≡ Some (Const c) → slice_get terms place ≡ Some (NamedConst c)
constant_named variables terms place c at =
    let (term, there, is) = got_mapped (term_of variables) terms place (Const c) at in
    there ∙ ap Some (named term is) where
      named : (term : NamedTerm) → term_of variables term ≡ Const c → term ≡ NamedConst c
      named (NamedVar name) is = absurd (cc)
      named (NamedConst text) is = let same : text ≡ c = cc in ap NamedConst same

variable_named : (variables : List (List ℕ)) (terms : List NamedTerm) (place x : ℕ) → slice_get (map (term_of variables) terms) place ≡ Some (Var x) → (name : List ℕ) × (slice_get terms place ≡ Some (NamedVar name)) × (place_of variables name ≡ x)
variable_named variables terms place x at =
    let (term, there, is) = got_mapped (term_of variables) terms place (Var x) at in
    let (name, same, number) = named term is in
    (name, there ∙ ap Some same, number) where
      named : (term : NamedTerm) → term_of variables term ≡ Var x → (name : List ℕ) × (term ≡ NamedVar name) × (place_of variables name ≡ x)
      named (NamedVar name) is = (name, refl, cc)
      named (NamedConst text) is = absurd (cc)

-- names among the list at one place are the same
one_name : (texts : List (List ℕ)) (a b : List ℕ) → is_among texts a ≡ true → is_among texts b ≡ true → place_of texts a ≡ place_of texts b → a ≡ b
one_name texts a b among_a among_b same =
    let (first, at_first, is_first) = place_holds _ texts among_a in
    let (second, at_second, is_second) = place_holds _ texts among_b in
    let one : first ≡ second = some_injective first second (sym at_first ∙ ap (slice_get texts) same ∙ at_second) in
    sym (text_is first a is_first) ∙ one ∙ text_is second b is_second

module _ (schema : SchemaParts) (line : ℕ) (body head : List NamedAtom)
    (known : (atom : NamedAtom) → Contains (body ++ head) atom → is_unknown schema.relations atom.relation ≡ false)
    (long : (atom : NamedAtom) → Contains (body ++ head) atom → length atom.terms ≡ length (sorts_of schema.relations atom.relation))
    (one_sort : HasTwoSorts (sorted_terms schema.relations (body ++ head)) → ⊥)
    (integers : HasOtherConstant (sorted_terms schema.relations (body ++ head)) → ⊥) where
  of_atom : (atom : Atom) → Contains (map (atom_of schema.relations (variables_of (body ++ head))) body ++ map (atom_of schema.relations (variables_of (body ++ head))) head) atom
      → (named : NamedAtom) × Contains (body ++ head) named × (atom_of schema.relations (variables_of (body ++ head)) named ≡ atom)
  of_atom atom there = contains_mapped (atom_of schema.relations (variables_of (body ++ head))) (body ++ head) atom
      (subst (λ (atoms : List Atom). Contains atoms atom) (sym (map-append (atom_of schema.relations (variables_of (body ++ head))) body head)) there)

  sorted_there : (atom : NamedAtom) → Contains (body ++ head) atom → (place : ℕ) (term : NamedTerm) (sort : Sort) → slice_get atom.terms place ≡ Some term → slice_get (sorts_of schema.relations atom.relation) place ≡ Some sort
      → Contains (sorted_terms schema.relations (body ++ head)) (term, sort)
  sorted_there atom of place term sort at own =
      contains_joined (λ (a : NamedAtom). zip a.terms (sorts_of schema.relations a.relation)) (body ++ head) atom (term, sort) of
      (contains_got _ place (term, sort) (got_zip atom.terms (sorts_of schema.relations atom.relation) place term sort at own))

  among_variables : (atom : NamedAtom) → Contains (body ++ head) atom → (place : ℕ) (name : List ℕ) → slice_get atom.terms place ≡ Some (NamedVar name) → is_among (variables_of (body ++ head)) name ≡ true
  among_variables atom of place name at =
      contains_among (variables_of (body ++ head)) name (once_taken [] _ name (given_from variable_of (named_terms (body ++ head)) (NamedVar name) name
      (contains_joined (λ (a : NamedAtom). a.terms) (body ++ head) atom (NamedVar name) of (contains_got atom.terms place (NamedVar name) at)) refl))

  constant_is : (atom : NamedAtom) → Contains (body ++ head) atom → (place : ℕ) (c : List ℕ) → HoldsIntegers schema (number_of schema.relations atom.relation) place
      → slice_get (map (term_of (variables_of (body ++ head))) atom.terms) place ≡ Some (Const c) → IsInteger c
  constant_is atom of place c holds at = ⊎_elim
      (λ is. is)
      (λ other. absurd (integers (c, sorted_there atom of place (NamedConst c) Int (constant_named _ atom.terms place c at) (int_there schema atom.relation place holds), other)))
      (integer_or_not c)

  -- the column of the other place is an integer column, or else the variable has two sorts
  variable_is : (one other : NamedAtom) → Contains (body ++ head) one → Contains (body ++ head) other → (x p q : ℕ)
      → slice_get (map (term_of (variables_of (body ++ head))) one.terms) p ≡ Some (Var x) → slice_get (map (term_of (variables_of (body ++ head))) other.terms) q ≡ Some (Var x)
      → HoldsIntegers schema (number_of schema.relations one.relation) p → HoldsIntegers schema (number_of schema.relations other.relation) q
  variable_is one other of_one of_other x p q at_one at_other holds =
      let (name, there, number) = variable_named _ one.terms p x at_one in
      let (second, there_second, number_second) = variable_named _ other.terms q x at_other in
      let same : second ≡ name = one_name (variables_of (body ++ head)) second name (among_variables other of_other q second there_second) (among_variables one of_one p name there) (number_second ∙ sym number) in
      let within = slice_get_within other.terms q (NamedVar second) there_second in
      let fits = long other of_other in
      let (sort, own) = got_below (sorts_of schema.relations other.relation) q (omega arith) in
      ⊎_elim
      (λ int. there_int schema other.relation q (known other of_other) (own ∙ ap Some int))
      (λ text. absurd (one_sort (
        name,
        sorted_there one of_one p (NamedVar name) Int there (int_there schema one.relation p holds),
        sorted_there other of_other q (NamedVar name) Text (there_second ∙ ap (λ n. Some (NamedVar n)) same) (own ∙ ap Some text),
      )))
      (sort_cases sort)

  pub numbered_is_sorted : RuleIsSorted schema (numbered_rule schema.relations line body head)
  numbered_is_sorted = record {
    constants = λ atom there place c holds at.
        let (named, of, is) = of_atom atom there in
        constant_is named of place c
        (subst (λ (a : Atom). HoldsIntegers schema a.rel place) (sym is) holds)
        (subst (λ (a : Atom). slice_get a.terms place ≡ Some (Const c)) (sym is) at);
    variables = λ x p q one other in_one in_other at_one at_other holds.
        let (first, of_first, is_first) = of_atom one in_one in
        let (second, of_second, is_second) = of_atom other in_other in
        subst (λ (a : Atom). HoldsIntegers schema a.rel q) is_second (variable_is first second of_first of_second x p q
        (subst (λ (a : Atom). slice_get a.terms p ≡ Some (Var x)) (sym is_first) at_one)
        (subst (λ (a : Atom). slice_get a.terms q ≡ Some (Var x)) (sym is_second) at_other)
        (subst (λ (a : Atom). HoldsIntegers schema a.rel p) (sym is_first) holds));
  }
