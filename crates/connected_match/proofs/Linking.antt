-- The link of an atom, from the names of its variables.
use Rattle.std.proofs.Common.{◌≡◌, ℕ, ◌+◌, ◌<◌, ◌≤◌, List, [], ◌∷◌, ◌++◌, length, map, take, drop, ◌-◌, sym, ap, ◌∙◌, subst, ⊎_elim, arith}
use Rattle.std.specs.Prelude.{Contains, Option, Some, None, fold, slice_index_or}
use Rattle.std.proofs.lemmas.Option.{slice_get-get_or}
use Rattle.std.proofs.lemmas.List.{length-append, length-drop, take_all, take_more, map-append}
use Rattle.std.proofs.Math.Seq.{drop-append_seam}
use Rattle.lists.proofs.Members.{contains_cases, some_injective}
use Rattle.meaning.specs.declared.types.Term.{Term}
use Rattle.meaning.specs.declared.types.Term.TheVariants.{Var, Const as Said}
use Rattle.meaning.specs.declared.types.Atom.{Atom}
use Rattle.meaning.specs.declared.types.Val.{Val}
use Rattle.meaning.specs.Triggers.{terms_bound}
use Rattle.homomorphism.proofs.Binding.{var_is}
use Rattle.connected_match.specs.declared.chain.Link.{Link}
use Rattle.connected_match.specs.Chains.{place_in, local_in, with_term, given_at, AreBelow, IsLink}
use Rattle.connected_match.proofs.Naming.{Naming, naming, said_is_none}

pub term_low : (terms : List Term) (x n : ℕ) → Contains terms (Var x) → terms_bound terms ≤ n → x < n
term_low [] x n among few = absurd (omega (arith, among.1))
term_low (Var y ∷ terms) x n among few = ⊎_elim
    (λ same. let e : y ≡ x = var_is y x same in omega (arith, few, e))
    (λ there. term_low terms x n there (omega (arith, few)))
    (contains_cases (Var y) terms (Var x) among)
term_low (Said c ∷ terms) x n among few = ⊎_elim (λ same. absurd (said_is_none c x same)) (λ there. term_low terms x n there few) (contains_cases (Said c) terms (Var x) among)

module _ (row : List ℕ) (terms : List Term) (names : List ℕ) (is : names ≡ fold with_term row terms) where
  named : Naming row terms (fold with_term row terms)
  named = naming terms row

  apart : names ≡ row ++ named.more
  apart = is ∙ named.is

  others_are : drop (length row) names ≡ named.more
  others_are = ap (drop (length row)) apart ∙ drop-append_seam row named.more

  pub row_short : length row ≤ length names
  row_short = let e = ap length apart in let f = length-append row named.more in omega (arith, e, f)

  pub others_below : (width : ℕ) → terms_bound terms ≤ width → AreBelow (drop (length row) names) width
  others_below width few x among = term_low terms x width (named.from x (subst (λ l. Contains l x) others_are among)) few

  pub is_link : (given : List (Option Val)) (atom : Atom) (next : List ℕ) (link : Link) → atom.terms ≡ terms →
      link.atoms ≡ record { rel = atom.rel; terms = map (local_in names) atom.terms } ∷ [] → link.values ≡ map (given_at given) (drop (length row) names) → link.kept ≡ map (place_in names) next →
      IsLink given row atom next link
  is_link given atom next link same atoms values kept = record {
    others = named.more;
    own = λ x among. subst (λ l. Contains l x) named.is (named.own x (subst (λ l. Contains l (Var x)) same among));
    others_own = λ x among. subst (λ l. Contains l (Var x)) (sym same) (named.from x among);
    others_named = λ k low high.
        subst (λ l. Contains (map (local_in l) atom.terms) (Var k)) named.is (subst (λ l. Contains (map (local_in (fold with_term row terms)) l) (Var k)) (sym same) (named.numbered k low high));
    atom_is = subst (λ l. link.atoms ≡ record { rel = atom.rel; terms = map (local_in l) atom.terms } ∷ []) apart atoms;
    values_are = values ∙ ap (map (given_at given)) others_are;
    kept_are = kept ∙ ap (λ l. map (place_in l) next) apart;
  }

  rest_is : take (length names - length row) (drop (length row) names) ≡ drop (length row) names
  rest_is = take_all (length names - length row) (drop (length row) names) (let e = length-drop (length row) names in omega (arith, e))

  pub rest_below : (width : ℕ) → terms_bound terms ≤ width → AreBelow (take (length names - length row) (drop (length row) names)) width
  rest_below width few x among = others_below width few x (subst (λ l. Contains l x) rest_is among)

  pub is_link_of : (given : List (Option Val)) (atom : Atom) (next : List ℕ) (link : Link) → atom.terms ≡ terms →
      link.atoms ≡ record { rel = atom.rel; terms = map (local_in names) atom.terms } ∷ [] → link.values ≡ map (given_at given) (take (length names - length row) (drop (length row) names)) →
      link.kept ≡ map (place_in names) next → IsLink given row atom next link
  is_link_of given atom next link same atoms values kept = is_link given atom next link same atoms (values ∙ ap (map (given_at given)) rest_is) kept

-- the value of one more variable
pub values_next : (given values after : List (Option Val)) (variables : List ℕ) (k : ℕ) (value : Option Val) → k < length variables → slice_index_or variables k 0 < length given →
    value ≡ slice_index_or given (slice_index_or variables k 0) value → values ≡ map (given_at given) (take k variables) → after ≡ values ++ value ∷ [] → after ≡ map (given_at given) (take (k + 1) variables)
values_next given values after variables k value low below is so pushed =
    let x : ℕ = slice_index_or variables k 0 in
    let same : value ≡ given_at given x = some_injective value (given_at given x) (ap Some is ∙ sym (slice_get-get_or given x value below) ∙ slice_get-get_or given x None below) in
    pushed ∙ ap (λ l. l ++ value ∷ []) so ∙ ap (λ v. map (given_at given) (take k variables) ++ v ∷ []) same
    ∙ sym (map-append (given_at given) (take k variables) (x ∷ [])) ∙ sym (ap (map (given_at given)) (take_more variables k 0 low))
