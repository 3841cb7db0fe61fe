-- Marks that are set one after another, and what is closed when no more is.
use Rattle.std.proofs.Common.{◌≡◌, ℕ, zero, suc, ◌+◌, ◌<◌, take, List, [], ◌∷◌, ◌++◌, length, Bool, true, false, Some, refl, sym, ◌∙◌, subst, ⊎_elim, arith}
use Rattle.std.specs.Prelude.{Contains, slice_get, slice_set, Result, Ok}
use Rattle.std.proofs.lemmas.List.Elements.{Contains-push_cases}
use Rattle.lists.proofs.Places.{take_got}
use Rattle.meaning.specs.declared.types.Atom.{Atom}
use Rattle.meaning.specs.declared.types.Rule.{Rule}
use Rattle.exposure_search.specs.Tries.{IsMarked}
use Rattle.exposure_search.specs.Relevance.{Keeps, AllMarked}

-- what holds of the first members and of the next one
pub front_each : {X : Type 0} (P : X → Type 0) (xs : List X) (i : ℕ) (x : X) → slice_get xs i ≡ Some x → ((y : X) → Contains (take i xs) y → P y) → P x → (y : X) → Contains (take (i + 1) xs) y → P y
front_each P xs i x got each here y c = ⊎_elim (λ old. each y old) (λ same. subst P same here) (Contains-push_cases (take i xs) x y (subst (λ l. Contains l y) (take_got xs i x got) c))

pub front_none : {X : Type 0} (P : X → Type 0) (y : X) → Contains [] y → P y
front_none P y c = absurd (omega arith)

pub keeps_push : (marks : List Bool) (mark : Bool) → Keeps marks (marks ++ mark ∷ [])
keeps_push [] mark number on = absurd (cc)
keeps_push (m ∷ marks) mark zero on = on
keeps_push (m ∷ marks) mark (suc number) on = keeps_push marks mark number on

pub all_more : (old new : List Bool) (atoms : List Atom) → Keeps old new → AllMarked old atoms → AllMarked new atoms
all_more old new atoms keeps all atom c = keeps atom.rel (all atom c)

-- where a relation of the rule's head is marked, those of its body are
abbrev pub RuleFollows : List Bool → Rule → Type 0
RuleFollows marks rule = (head body : Atom) → Contains rule.head head → Contains rule.body body → IsMarked marks head.rel → IsMarked marks body.rel

-- the marks after a round over the first rules: where none was set, these rules are closed
pub record IsRound (rules : List Rule) (count : ℕ) (old new : List Bool) (grew : Bool) : Type 0 where
  pub stays : Keeps old new
  pub same : grew ≡ false → new ≡ old
  pub closed : grew ≡ false → (rule : Rule) → Contains (take count rules) rule → RuleFollows new rule

module _ (rules : List Rule) (count : ℕ) (old now : List Bool) (grew : Bool) (is : IsRound rules count old now grew) (rule : Rule) (got : slice_get rules count ≡ Some rule) where
  -- no relation of the head is marked, or all of the body are
  pub round_on : RuleFollows now rule → IsRound rules (count + 1) old now grew
  round_on follows = record {
    stays = is.stays;
    same = is.same;
    closed = λ none. front_each (RuleFollows now) rules count rule got (is.closed none) follows;
  }

  pub round_same : (new : List Bool) → new ≡ now → AllMarked new rule.body → IsRound rules (count + 1) old new grew
  round_same new same all = subst (λ marks. IsRound rules (count + 1) old marks grew) (sym same) (round_on (λ head body c d on. subst (λ marks. IsMarked marks body.rel) same (all body d)))

  pub round_grew : (new : List Bool) → Keeps now new → IsRound rules (count + 1) old new true
  round_grew new keeps = record {
    stays = λ number on. keeps number (is.stays number on);
    same = λ e. absurd (cc);
    closed = λ e. absurd (cc);
  }

-- the marks after the first atoms
pub record AreSet (atoms : List Atom) (count : ℕ) (old new : List Bool) (grew : Bool) : Type 0 where
  pub stays : Keeps old new
  pub all : AllMarked new (take count atoms)
  pub same : grew ≡ false → new ≡ old

module _ (atoms : List Atom) (count : ℕ) (old now : List Bool) (grew : Bool) (are : AreSet atoms count old now grew) (atom : Atom) (got : slice_get atoms count ≡ Some atom) (new : List Bool) (keeps : Keeps now new) (there : IsMarked new atom.rel) where
  all_next : AllMarked new (take (count + 1) atoms)
  all_next = front_each (λ (a : Atom). IsMarked new a.rel) atoms count atom got (all_more now new (take count atoms) keeps are.all) there

  pub set_grew : AreSet atoms (count + 1) old new true
  set_grew = record { stays = λ number on. keeps number (are.stays number on); all = all_next; same = λ e. absurd (cc) }

  pub set_same : new ≡ now → AreSet atoms (count + 1) old new grew
  set_same same = record { stays = λ number on. keeps number (are.stays number on); all = all_next; same = λ none. same ∙ are.same none }

pub ok_is : {E : Type 0} (a b : Bool) → ◌≡◌ {A = Result Bool E} (Ok a) (Ok b) → a ≡ b
ok_is a b e = cc
