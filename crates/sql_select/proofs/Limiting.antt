-- What the search for members beyond a limit says.
use Rattle.std.proofs.Common.{◌≡◌, ◌≤◌, ◌<◌, ℕ, List, [], ◌∷◌, Bool, true, false, refl, subst, ⊎_elim}
use Rattle.std.specs.Prelude.{Contains, nat_lt, if◌then◌else◌}
use Rattle.std.proofs.lemmas.Bool.{ltb-true, ltb-false}
use Rattle.lists.proofs.Members.{contains_here, contains_there, contains_cases, contains_none}
use Rattle.sql_select.specs.declared.limits.Member.{Member}
use Rattle.sql_select.specs.declared.piece.RawSelect.{RawSelect}
use Rattle.sql_select.specs.declared.limits.Member.TheVariants as member
use Rattle.sql_select.specs.declared.limits.TheConstants.{MOST_FROMS, MOST_CONDITIONS, MOST_ITEMS}
use Rattle.sql_select.specs.Limits.{IsWithinLimits, count_of, has_more}

-- one of the selects has more
pub one_more : (kind : Member) (most : ℕ) (raws : List RawSelect) → has_more kind most raws ≡ true → (raw : RawSelect) × Contains raws raw × (most < count_of kind raw)
one_more kind most [] e = absurd (cc)
one_more kind most (raw ∷ raws) e = go (nat_lt most (count_of kind raw)) refl e (λ later. one_more kind most raws later)
  where
    go : (more : Bool) → nat_lt most (count_of kind raw) ≡ more → (if more then true else has_more kind most raws) ≡ true →
        (has_more kind most raws ≡ true → (other : RawSelect) × Contains raws other × (most < count_of kind other)) → (other : RawSelect) × Contains (raw ∷ raws) other × (most < count_of kind other)
    go true is e rec = (raw, contains_here raw raws, ltb-true most (count_of kind raw) is)
    go false is e rec = let (other, among, over) = rec e in (other, contains_there raw raws other among, over)

-- none has more
pub none_more : (kind : Member) (most : ℕ) (raws : List RawSelect) → has_more kind most raws ≡ false → (raw : RawSelect) → Contains raws raw → count_of kind raw ≤ most
none_more kind most [] e raw c = absurd (contains_none raw c)
none_more kind most (x ∷ raws) e raw c = go (nat_lt most (count_of kind x)) refl e (λ later h. none_more kind most raws later raw h)
  where
    go : (more : Bool) → nat_lt most (count_of kind x) ≡ more → (if more then true else has_more kind most raws) ≡ false →
        (has_more kind most raws ≡ false → Contains raws raw → count_of kind raw ≤ most) → count_of kind raw ≤ most
    go true is e rec = absurd (cc)
    go false is e rec = ⊎_elim
        (λ same. subst (λ (r : RawSelect). count_of kind r ≤ most) same (ltb-false most (count_of kind x) is))
        (λ later. rec e later)
        (contains_cases x raws raw c)

pub none_over : (raws : List RawSelect) → has_more member.From MOST_FROMS raws ≡ false → has_more member.Condition MOST_CONDITIONS raws ≡ false → has_more member.Item MOST_ITEMS raws ≡ false →
    (raw : RawSelect) → Contains raws raw → IsWithinLimits raw
none_over raws froms conditions items raw c = record {
  froms = none_more member.From MOST_FROMS raws froms raw c;
  conditions = none_more member.Condition MOST_CONDITIONS raws conditions raw c;
  items = none_more member.Item MOST_ITEMS raws items raw c;
}
