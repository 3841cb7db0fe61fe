-- What a closing of the facts of a path shows of their goals.
use Rattle.std.proofs.Common.{◌≡◌, ◌<◌, ℕ, List, [], ◌∷◌, Option, Some, None, Bool, false, length, subst, ⊎_elim}
use Rattle.std.specs.Prelude.{Contains, IfNone, is_some}
use Rattle.std.proofs.lemmas.Option.{slice_get_within}
use Rattle.lists.proofs.Members.{contains_cases, contains_none}
use Rattle.meaning.specs.declared.types.SchemaParts.{SchemaParts}
use Rattle.meaning.specs.declared.types.Ground.{Ground}
use Rattle.meaning.specs.declared.types.Val.TheVariants.{Label}
use Rattle.meaning.specs.Naming.{AreNamed}
use Rattle.meaning.specs.Triggers.{LabelsBelow}
use Rattle.accessible_copy.specs.Proving.{Proving}
use Rattle.least_search.specs.declared.space.Move.{Move}
use Rattle.least_search.specs.Walks.{IsWalk, no_facts, with_fact}
use Rattle.exposure_search.specs.Tries.{IsOpen}
use Rattle.exposure_search.specs.Ahead.{facts_along}
use Rattle.exposure_search.proofs.Early.{along_base}

-- none, and so what none says
pub none_said : {X : Type 0} (found : Option X) (P : Type 0) → is_some found ≡ false → IfNone found P → P
none_said None P e p = p
none_said (Some x) P e p = absurd (cc)

-- the moves of a walk expose base facts
pub walk_within : (schema : SchemaParts) (constants : List (List ℕ)) (base : List Ground) (path : List Move) (set end : List Bool) → IsWalk (IsOpen schema constants base) set path end → (move : Move) → Contains path move → move.fact < length base
walk_within schema constants base [] set end walk move c = absurd (contains_none move c)
walk_within schema constants base (step ∷ path) set end ((e, is), walk) move c =
    ⊎_elim (λ same. subst (λ (m : Move). m.fact < length base) same (slice_get_within base step.fact e.fact is.fact))
    (λ later. walk_within schema constants base path (with_fact set step) end walk move later) (contains_cases step path move c)

module _ (schema : SchemaParts) (proof : Proving) (path : List Move) (set : List Bool) (walk : IsWalk (IsOpen schema proof.constants proof.end.base) (no_facts (length proof.end.base)) path set)
    (named : AreNamed proof.constants proof.end.next proof.end.base) where
  -- the values of the path's facts have names, as those of the base facts
  pub along_named : AreNamed proof.constants proof.end.next (facts_along proof.end.base path)
  along_named fact v among there = named fact v (along_base schema proof path set walk fact among) there

  pub along_below : LabelsBelow (facts_along proof.end.base path) proof.end.next
  along_below fact k among there = along_named fact (Label k) among there
