-- What passes the limit on all attached files, before an attach and after it.
use Rattle.std.proofs.Common.{◌≡◌, ◌+◌, ◌≤◌, ◌||◌, ℕ, List, [], ◌∷◌, ◌++◌, length, map, sum, Option, None, Some, option_map, Bool, true, false, cond, not, nat_eq, Result, Ok, Err, refl, sym, ◌∙◌, ap, arith}
use Rattle.std.specs.Prelude.{IfSome, IsOk, is_ok}
use Rattle.std.proofs.lemmas.List.{map-append}
use Rattle.std.proofs.lemmas.List.Sums.{sum_by-cons, sum_by_push}
use Rattle.std.proofs.lemmas.Bool.Decides.{nat_tests}
use Rattle.lists.proofs.Booleans.{or_false}
use Rattle.source_trait.specs.Asking.{RowList}
use Rattle.source_trait.specs.Holding.{loads_of, others_than, sizes_of}
use Rattle.source_trait.specs.Outside.{bytes_of}
use Rattle.source_trait.specs.declared.holding.Attachment.{Attachment}
use Rattle.source_trait.specs.declared.source.AttachFault.{AttachFault}
use Rattle.source_trait.specs.declared.source.AttachFault.TheVariants.{TooLarge}
use Rattle.csv_sources.specs.DataFile.{offered}
use Rattle.csv_sources.specs.Folder.{Contents, beside, offer_beside, offers, passes_beside, passes_limit, size_of, size_together, told_bytes, total}
use Rattle.csv_sources.specs.declared.folder.TheConstants.{SUM_LIMIT}

-- ---- what is counted

others_loads : (rel : ℕ) (list : List Attachment) → loads_of (others_than rel list) ≡ beside rel (loads_of list)
others_loads rel [] = refl
others_loads rel (a ∷ rest) = step (nat_eq a.rel rel) (others_loads rel rest)
  where
    step : (b : Bool) → loads_of (others_than rel rest) ≡ beside rel (loads_of rest) →
        loads_of (cond (not b) (a ∷ others_than rel rest) (others_than rel rest)) ≡ cond (not b) ((a.rel, a.size) ∷ beside rel (loads_of rest)) (beside rel (loads_of rest))
    step true same = same
    step false same = ap (λ (l : List (ℕ × ℕ)). (a.rel, a.size) ∷ l) same

counted : (list : List Attachment) → map (λ (load : ℕ × ℕ). load.1) (loads_of list) ≡ sizes_of list
counted [] = refl
counted (a ∷ rest) = ap (λ (l : List ℕ). a.size ∷ l) (counted rest)

others_total : (rel : ℕ) (list : List Attachment) → total (beside rel (loads_of list)) ≡ sum (sizes_of (others_than rel list))
others_total rel list = ap total (sym (others_loads rel list)) ∙ ap sum (counted (others_than rel list))

-- ---- one attach

one_passes : (rel : ℕ) (list : List Attachment) (contents : Contents) (locator : List ℕ) →
    passes_limit (loads_of list) contents ((rel, locator) ∷ []) ≡ passes_beside (sum (sizes_of (others_than rel list))) (told_bytes contents locator)
one_passes rel list contents locator =
    or_false (passes_beside (total (beside rel (loads_of list))) (told_bytes contents locator))
    ∙ ap (λ (n : ℕ). passes_beside n (told_bytes contents locator)) (others_total rel list)

-- what is offered beside the other relations is what an attach would take
pub one_offered : (rel : ℕ) (list others : List Attachment) (contents : Contents) (columns : List (List ℕ)) (locator : List ℕ) → others ≡ others_than rel list →
    offer_beside (sum (sizes_of others)) contents columns locator
    ≡ option_map (λ (given : Result RowList AttachFault). cond (passes_limit (loads_of list) contents ((rel, locator) ∷ [])) (Err TooLarge) given) (offers contents rel columns locator)
one_offered rel list others contents columns locator left =
    ap (λ (l : List Attachment). offer_beside (sum (sizes_of l)) contents columns locator) left
    ∙ ap (λ (b : Bool). option_map (λ (given : Result RowList AttachFault). cond b (Err TooLarge) given) (offers contents rel columns locator)) (sym (one_passes rel list contents locator))

pub rows_are_ok : (offer : Option (Result RowList AttachFault)) (rows : RowList) → IfSome offer (λ given. given ≡ Ok rows) → IfSome offer IsOk
rows_are_ok None rows h = tt
rows_are_ok (Some given) rows h = ap is_ok h

-- ---- what passes behind an attach

untold : (loads : List (ℕ × ℕ)) (list : List (ℕ × List ℕ)) → passes_limit loads None list ≡ false
untold loads [] = refl
untold loads (next ∷ more) = untold (beside next.0 loads ++ (next.0, 0) ∷ []) more

-- what passes behind an attach that was answered with rows is what would have passed behind it before
pub behind : (contents : Contents) (columns : List (List ℕ)) (rel : ℕ) (locator : List ℕ) (old others new : List Attachment) (size : ℕ) (rows : RowList) → others ≡ others_than rel old →
    IfSome (offer_beside (sum (sizes_of others)) contents columns locator) (λ offer. offer ≡ Ok rows) → IfSome (told_bytes contents locator) (λ bytes. size ≡ length bytes) →
    loads_of new ≡ loads_of others ++ (rel, size) ∷ [] → (more : List (ℕ × List ℕ)) →
    passes_limit (loads_of new) contents more ≡ passes_limit (loads_of old) contents ((rel, locator) ∷ more)
behind None columns rel locator old others new size rows left is sized now more = untold (loads_of new) more ∙ sym (untold (loads_of old) ((rel, locator) ∷ more))
behind (Some files) columns rel locator old others new size rows left is sized now more = go (bytes_of files locator) is sized
  where
    beside_it : total (beside rel (loads_of old)) ≡ sum (sizes_of others)
    beside_it = others_total rel old ∙ ap (λ (l : List Attachment). sum (sizes_of l)) (sym left)

    rest : ℕ → Bool
    rest n = passes_limit (beside rel (loads_of old) ++ (rel, n) ∷ []) (Some files) more

    within : (b : Bool) (given : Result RowList AttachFault) → cond b (Err TooLarge) given ≡ Ok rows → b ≡ false
    within true given h = absurd (cc)
    within false given h = refl

    go : (told : Option (List ℕ)) → IfSome (option_map (λ (given : Result RowList AttachFault). cond (passes_beside (sum (sizes_of others)) told) (Err TooLarge) given) (Some (offered told columns))) (λ offer. offer ≡ Ok rows) →
        IfSome told (λ bytes. size ≡ length bytes) → passes_limit (loads_of new) (Some files) more ≡ (passes_beside (total (beside rel (loads_of old))) told || rest (size_of told))
    go None h s = absurd (cc)
    go (Some bytes) h s =
        let room : passes_beside (total (beside rel (loads_of old))) (Some bytes) ≡ false =
        ap (λ (n : ℕ). passes_beside n (Some bytes)) beside_it ∙ within (passes_beside (sum (sizes_of others)) (Some bytes)) (offered (Some bytes) columns) h in
        let loads : loads_of new ≡ beside rel (loads_of old) ++ (rel, length bytes) ∷ [] =
        now ∙ ap (λ (l : List (ℕ × ℕ)). l ++ (rel, size) ∷ []) (ap loads_of left ∙ others_loads rel old) ∙ ap (λ (n : ℕ). beside rel (loads_of old) ++ (rel, n) ∷ []) s in
        ap (λ (l : List (ℕ × ℕ)). passes_limit l (Some files) more) loads ∙ ap (λ (b : Bool). b || rest (length bytes)) (sym room)

-- ---- files that keep the limit together

total_push : (loads : List (ℕ × ℕ)) (rel size : ℕ) → total (loads ++ (rel, size) ∷ []) ≡ total loads + size
total_push loads rel size =
    ap sum (map-append (λ (load : ℕ × ℕ). load.1) loads ((rel, size) ∷ [])) ∙ sum_by_push (λ (n : ℕ). n) (map (λ (load : ℕ × ℕ). load.1) loads) size

total_beside : (rel : ℕ) (loads : List (ℕ × ℕ)) → total (beside rel loads) ≤ total loads
total_beside rel [] = omega arith
total_beside rel (load ∷ rest) = step (nat_eq load.0 rel) (total_beside rel rest)
  where
    first : (list : List (ℕ × ℕ)) → total (load ∷ list) ≡ load.1 + total list
    first list = sum_by-cons (λ (n : ℕ). n) load.1 (map (λ (other : ℕ × ℕ). other.1) list)

    step : (b : Bool) → total (beside rel rest) ≤ total rest → total (cond (not b) (load ∷ beside rel rest) (beside rel rest)) ≤ total (load ∷ rest)
    step true less = omega (arith, less, first rest)
    step false less = omega (arith, less, first rest, first (beside rel rest))

-- files that keep the limit together with what counts already pass it in no order
pub together : (contents : Contents) (list : List (ℕ × List ℕ)) (loads : List (ℕ × ℕ)) → total loads + size_together contents list ≤ SUM_LIMIT → passes_limit loads contents list ≡ false
together contents [] loads fits = refl
together contents (next ∷ more) loads fits =
    let size = size_of (told_bytes contents next.1) in
    let first : size_together contents (next ∷ more) ≡ size + size_together contents more =
    sum_by-cons (λ (n : ℕ). n) size (map (λ (other : ℕ × List ℕ). size_of (told_bytes contents other.1)) more) in
    let less = total_beside next.0 loads in
    let later = together contents more (beside next.0 loads ++ (next.0, size) ∷ []) (let pushed = total_push (beside next.0 loads) next.0 size in omega (arith, fits, first, less, pushed)) in
    room (told_bytes contents next.1) (omega (arith, fits, first, less)) later
  where
    room : (told : Option (List ℕ)) → total (beside next.0 loads) + size_of told ≤ SUM_LIMIT → passes_limit (beside next.0 loads ++ (next.0, size_of told) ∷ []) contents more ≡ false →
        (passes_beside (total (beside next.0 loads)) told || passes_limit (beside next.0 loads ++ (next.0, size_of told) ∷ []) contents more) ≡ false
    room None fits later = later
    room (Some bytes) fits later =
        let test : passes_beside (total (beside next.0 loads)) (Some bytes) ≡ false = grind (arith, nat_tests, fits) in
        ap (λ (b : Bool). b || passes_limit (beside next.0 loads ++ (next.0, length bytes) ∷ []) contents more) test ∙ later
