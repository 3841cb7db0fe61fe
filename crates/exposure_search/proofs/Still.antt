-- Rules that can make a needed fact, and what is so where none of them can fire.
use Rattle.std.proofs.Common.{◌≡◌, ℕ, ◌+◌, ◌<◌, ◌≤◌, List, [], ◌∷◌, ◌++◌, length, take, Bool, true, false, Some, refl, sym, ap, ◌∙◌, subst, ⊎_elim, arith}
use Rattle.std.specs.Prelude.{slice_get}
use Rattle.std.proofs.lemmas.Bool.{cases_eq}
use Rattle.std.proofs.lemmas.Option.{slice_get_within}
use Rattle.std.proofs.lemmas.List.{length_push}
use Rattle.lists.proofs.Members.{some_injective, got_push}
use Rattle.meaning_laws.specs.Rests.{MakersAreMet}
use Rattle.meaning.specs.declared.types.Ground.{Ground}
use Rattle.meaning.specs.declared.types.Query.{Query}
use Rattle.meaning.specs.declared.types.Rule.{Rule}
use Rattle.meaning.specs.declared.types.Val.{Val}
use Rattle.meaning.specs.Triggers.{ground, assigned}
use Rattle.exposure_search.specs.Tries.{IsMarked}
use Rattle.exposure_search.specs.Making.{CannotMake}
use Rattle.exposure_search.specs.Relevance.{Makes, MakersMarked, IsImageAmong, IsImageOf}
use Rattle.exposure_search.specs.Sets.{truth}
use Rattle.exposure_search.proofs.Wanting.{keeps_push}
use Rattle.exposure_search.proofs.Imaging.{image_next}

-- where no marked rule can fire, the makers of needed facts are met, as they have no match
pub makers_still : (rules : List Rule) (next : ℕ) (Needed : Ground → Type 0) (makers : List Bool) →
    MakersMarked rules next Needed makers → (facts : List Ground) → CannotMake rules makers facts →
    MakersAreMet rules next Needed facts
makers_still rules next Needed makers marked facts cannot trigger rule head is of_head wants body =
    let on : IsMarked makers trigger.rule = marked trigger.rule rule (ground (assigned trigger) head) is.numbered (record {
      trigger = trigger;
      head = head;
      width = is.width;
      fresh = is.fresh;
      of_rule = of_head;
      makes = refl;
    }) wants in
    let (atom, of_body, missing) = cannot trigger.rule rule is.numbered on in
    absurd (missing (ground (assigned trigger) atom) (body atom of_body) refl)

-- ---- marks for rules

-- the first rules that can make a fact of the kind are marked
pub record AreMakers (rules : List Rule) (next : ℕ) (Kind : Ground → Type 0) (count : ℕ) (makers : List Bool) : Type 0 where
  pub long : length makers ≡ count
  pub marked : (number : ℕ) (rule : Rule) (fact : Ground) → number < count → slice_get rules number ≡ Some rule → Makes next rule fact → Kind fact → IsMarked makers number

module _ (rules : List Rule) (next : ℕ) (Kind : Ground → Type 0) where
  pub makers_none : (makers : List Bool) → makers ≡ [] → AreMakers rules next Kind 0 makers
  makers_none makers none = record { long = ap length none; marked = λ number rule fact low at makes kind. absurd (omega arith) }

  pub makers_more : (count : ℕ) (makers : List Bool) (rule : Rule) (mark : Bool) → AreMakers rules next Kind count makers → slice_get rules count ≡ Some rule → (mark ≡ false → (fact : Ground) → Makes next rule fact → Kind fact → ⊥) → AreMakers rules next Kind (count + 1) (makers ++ mark ∷ [])
  makers_more count makers rule mark are got none = record {
    long = let e = length_push makers mark in let l = are.long in omega arith;
    marked = λ number its fact low at makes kind. ⊎_elim
        (λ same.
        let is : its ≡ rule = some_injective its rule (sym at ∙ ap (slice_get rules) same ∙ got) in
        let on : mark ≡ true = ⊎_elim (λ yes'. yes') (λ no'. absurd (none no' fact (subst (λ (r : Rule). Makes next r fact) is makes) kind)) (truth mark) in
        subst (λ k. IsMarked (makers ++ mark ∷ []) k) (are.long ∙ sym same) (got_push makers mark ∙ ap (λ b. Some b) on))
        (λ other. keeps_push makers mark number (are.marked number its fact (omega arith) at makes kind)) (cases_eq number count);
  }

  pub makers_all : (count : ℕ) (makers : List Bool) → length rules ≤ count → AreMakers rules next Kind count makers → MakersMarked rules next Kind makers
  makers_all count makers all are number rule fact at makes kind = are.marked number rule fact (let low : number < length rules = slice_get_within rules number rule at in omega arith) at makes kind

-- the rule makes no image of the first queries, or of the next one
pub images_next : (next : ℕ) (rule : Rule) (queries : List Query) (head : List Val) (i : ℕ) (query : Query) → slice_get queries i ≡ Some query → ((fact : Ground) → Makes next rule fact → IsImageAmong (take i queries) head fact → ⊥) → ((fact : Ground) → Makes next rule fact → IsImageOf query head fact → ⊥) →
    (fact : Ground) → Makes next rule fact → IsImageAmong (take (i + 1) queries) head fact → ⊥
images_next next rule queries head i query got none here fact makes image = ⊎_elim (λ old. none fact makes old) (λ its. here fact makes its) (image_next queries head i query fact got image)
