-- Labels at inputs that have an origin before.
use Rattle.std.proofs.Common.{◌≡◌, ℕ, ◌+◌, ◌<◌, List, [], Some, length, take, get_or, sym, ap, ◌∙◌, subst, ⊎_elim, arith}
use Rattle.std.specs.Prelude.{Contains, slice_get}
use Rattle.std.specs.Ordering.{nat_cmp}
use Rattle.std.specs.BTreeMap.{BTreeMap, get}
use Rattle.std.proofs.lemmas.Bool.{cases_lt}
use Rattle.std.proofs.lemmas.List.{take_more}
use Rattle.std.proofs.lemmas.List.Elements.{Contains-push_cases}
use Rattle.lists.proofs.Members.{some_injective}
use Rattle.meaning.specs.declared.types.Val.{Val}
use Rattle.meaning.specs.declared.types.Val.TheVariants.{Label}
use Rattle.meaning.specs.Extract.{Exposure}

-- the label has an origin below that number
abbrev pub IsBefore : BTreeMap ℕ ℕ → ℕ → ℕ → Type 0
IsBefore origins number label = (first : ℕ) × (get nat_cmp origins label ≡ Some first) × (first < number)

-- each label at one of the places has one
abbrev pub ArePassed : BTreeMap ℕ ℕ → List Val → ℕ → List ℕ → Type 0
ArePassed origins vals number places =
    (place label : ℕ) → Contains places place → slice_get vals place ≡ Some (Label label) → IsBefore origins number label

-- so has each label at an input of one of the first exposures
abbrev pub AreKnownUpTo : List Exposure → BTreeMap ℕ ℕ → ℕ → Type 0
AreKnownUpTo all origins n =
    (k : ℕ) (e : Exposure) → k < n → slice_get all k ≡ Some e → ArePassed origins e.fact.vals k e.method.inputs

pub passed_none : (origins : BTreeMap ℕ ℕ) (vals : List Val) (number : ℕ) → ArePassed origins vals number []
passed_none origins vals number place label among = absurd (omega arith)

pub passed_more : (origins : BTreeMap ℕ ℕ) (vals : List Val) (number : ℕ) (places : List ℕ) (i : ℕ) → i < length places → ArePassed origins vals number (take i places) →
    ((label : ℕ) → slice_get vals (get_or places i 0) ≡ Some (Label label) → IsBefore origins number label) → ArePassed origins vals number (take (i + 1) places)
passed_more origins vals number places i low so_far here place label among has =
    ⊎_elim (λ old. so_far place label old has) (λ same. here label (subst (λ p. slice_get vals p ≡ Some (Label label)) (sym same) has))
    (Contains-push_cases (take i places) (get_or places i 0) place (subst (λ ps. Contains ps place) (take_more places i 0 low) among))

pub known_more : (all : List Exposure) (origins : BTreeMap ℕ ℕ) (n : ℕ) (x : Exposure) → slice_get all n ≡ Some x → AreKnownUpTo all origins n → ArePassed origins x.fact.vals n x.method.inputs → AreKnownUpTo all origins (n + 1)
known_more all origins n x at so_far here k e low got =
    ⊎_elim (λ old. so_far k e old got)
    (λ late. let same : k ≡ n = omega arith in
    let is : x ≡ e = some_injective x e (sym at ∙ ap (slice_get all) (sym same) ∙ got) in
    subst (λ m. ArePassed origins e.fact.vals m e.method.inputs) (sym same) (subst (λ (y : Exposure). ArePassed origins y.fact.vals n y.method.inputs) is here))
    (cases_lt k n)
