-- The first relation of a list without a source line, and places of kinds.
use Rattle.std.proofs.Common.{◌≡◌, inl, inr, ℕ, ◌+◌, ◌<◌, List, [], ◌∷◌, Option, None, Some, Bool, true, false, cond, refl, sym, subst, arith}
use Rattle.std.specs.Prelude.{Contains, IsSome, IsSomeAnd, slice_index}
use Rattle.std.specs.Option.{is_some}
use Rattle.std.specs.List.{AllByRecursion}
use Rattle.std.specs.List.Sorted.{IsStrictlyIncreasing}
use Rattle.std.proofs.lemmas.Option.{get_or_from_slice_get, slice_get_within}
use Rattle.lists.proofs.Members.{some_injective, contains_here, contains_there, contains_cases, contains_none}
use Rattle.access_schema.specs.declared.schema.SourceLine.{SourceLine}
use Rattle.source_trait.specs.Asking.{Rises}
use Rattle.source_trait.specs.Lanes.{names_of, place_from, source_of}
use Rattle.source_trait.specs.declared.lanes.Kind.{Kind}
use Rattle.source_trait.proofs.LaneSteps.{some_source, source_of-none}
use Rattle.middleware.specs.PlanSources.{line_for}
use Rattle.middleware.specs.Sources.{first_lineless, has_place}
use Rattle.middleware.proofs.Attached.{rises_from}

-- rising numbers, as std and as sources say it
pub rises_strictly : (rels : List ℕ) → IsStrictlyIncreasing rels → Rises rels
rises_strictly rels up = rises_from rels (λ i a b e f.
    let less = up i (let w = slice_get_within rels (i + 1) b f in w) in
    let at : slice_index rels i ≡ a = get_or_from_slice_get rels i a 0 e in
    let next : slice_index rels (i + 1) ≡ b = get_or_from_slice_get rels (i + 1) b 0 f in
    omega (arith, less, at, next))

pub above : (r : ℕ) (xs : List ℕ) (x : ℕ) → AllByRecursion (λ q. r < q) xs → Contains xs x → r < x
above r [] x h c = absurd (contains_none x c)
above r (y ∷ xs) x h c = elim (contains_cases y xs x c) [
  | inl same ↦ subst (λ n. r < n) same h.0
  | inr more ↦ above r xs x h.1 more
]

-- where none lacks a line, each has one
pub lineless_none : (lines : List SourceLine) (rels : List ℕ) → None ≡ first_lineless lines rels → (rel : ℕ) → Contains rels rel → IsSome (line_for rel lines)
lineless_none lines [] e rel c = absurd (contains_none rel c)
lineless_none lines (r ∷ rels) e rel c = go (is_some (line_for r lines)) refl (λ f d. lineless_none lines rels f rel d) e
  where
    go : (b : Bool) → is_some (line_for r lines) ≡ b → (None ≡ first_lineless lines rels → Contains rels rel → IsSome (line_for rel lines)) → None ≡ cond b (first_lineless lines rels) (Some r) → IsSome (line_for rel lines)
    go true test later e = elim (contains_cases r rels rel c) [
      | inl same ↦ subst (λ n. IsSome (line_for n lines)) same test
      | inr more ↦ later e more
    ]
    go false test later e = absurd (cc)

-- a relation without a line comes after those with one
pub record Lineless (lines : List SourceLine) (rels : List ℕ) (rel : ℕ) : Type 0 where
  pub among : Contains rels rel
  pub none : line_for rel lines ≡ None
  pub below : (other : ℕ) → Contains rels other → other < rel → IsSome (line_for other lines)

none_of : {X : Type 0} (o : Option X) → is_some o ≡ false → o ≡ None
none_of None e = refl
none_of (Some x) e = absurd (cc)

pub lineless_some : (lines : List SourceLine) (rels : List ℕ) → Rises rels → (rel : ℕ) → Some rel ≡ first_lineless lines rels → Lineless lines rels rel
lineless_some lines [] up rel e = absurd (cc)
lineless_some lines (r ∷ rels) up rel e = go (is_some (line_for r lines)) refl (λ f. lineless_some lines rels up.1 rel f) e
  where
    go : (b : Bool) → is_some (line_for r lines) ≡ b → (Some rel ≡ first_lineless lines rels → Lineless lines rels rel) → Some rel ≡ cond b (first_lineless lines rels) (Some r) → Lineless lines (r ∷ rels) rel
    go true test rest e =
        let later = rest e in
        record {
          among = contains_there r rels rel later.among;
          none = later.none;
          below = λ other c less. elim (contains_cases r rels other c) [
            | inl same ↦ subst (λ n. IsSome (line_for n lines)) same test
            | inr more ↦ later.below other more less
          ];
        }
    go false test rest e =
        let here : r ≡ rel = sym (some_injective rel r e) in
        record {
          among = subst (λ n. Contains (r ∷ rels) n) here (contains_here r rels);
          none = none_of (line_for rel lines) (subst (λ n. is_some (line_for n lines) ≡ false) here test);
          below = λ other c less. elim (contains_cases r rels other c) [
            | inl same ↦ absurd (omega (arith, same, here, less))
            | inr more ↦ let up = above r rels other up.0 more in absurd (omega (arith, up, here, less))
          ];
        }

some_and : {X : Type 0} (o : Option X) (P : X → Type 0) → IsSomeAnd o P → IsSome o
some_and None P h = absurd h
some_and (Some x) P h = refl

pub the_line : (o : Option SourceLine) → IsSome o → (line : SourceLine) × (o ≡ Some line)
the_line None h = absurd (cc)
the_line (Some line) h = (line, refl)

module _ {S : Type 0} (kinds : List (Kind S)) where
  -- a line whose kind has a place has a source
  pub place_source : (line : SourceLine) → has_place (names_of kinds) (Some line) ≡ true → IsSome (source_of kinds line.kind)
  place_source line h = some_and (source_of kinds line.kind) (λ s. Unit {0}) (some_source 0 line.kind kinds h)

  pub place_none : (line : SourceLine) → has_place (names_of kinds) (Some line) ≡ false → source_of kinds line.kind ≡ None
  place_none line h = source_of-none 0 line.kind kinds (none_of (place_from 0 line.kind (names_of kinds)) h)
