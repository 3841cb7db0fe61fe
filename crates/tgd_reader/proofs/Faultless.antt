-- No declaration of a schema, on any line, has a fault.
use Rattle.std.proofs.Common.{◌≡◌, ℕ, zero, suc, ◌+◌, ◌<◌, ◌≤◌, Bool, false, List, [], ◌∷◌, ◌++◌, length, slice_get, Option, Some, refl, sym, ap, subst, ◌∙◌, append_assoc, arith}
use Rattle.std.specs.Prelude.{Contains, map, filter_map, slice_index_or}
use Rattle.std.specs.List.{cons_option, list_any}
use Rattle.std.proofs.lemmas.List.{length-append}
use Rattle.std.proofs.lemmas.List.Elements.{filter_map-append, Contains-append_left}
use Rattle.meaning.specs.declared.types.Relation.{Relation}
use Rattle.meaning.specs.declared.types.Rule.{Rule}
use Rattle.meaning.specs.declared.types.Atom.{Atom}
use Rattle.lists.proofs.Members.{contains_here, contains_there, contains_got, contains_map, contains_mapped, got_below, got_mapped}
use Rattle.lists.proofs.Booleans.{never_true}
use Rattle.access_schema.specs.declared.part.Part.{Part}
use Rattle.access_schema.specs.declared.schema.Schema.{Schema}
use Rattle.access_schema.specs.Names.{AllDiffer}
use Rattle.access_schema.specs.Lists.{is_among, repeats}
use Rattle.meaning.specs.RuleOrder.{Feeds}
use Rattle.access_schema.specs.Feeding.{AreRecursive}
use Rattle.access_schema.specs.Content.{columns_of, rule_of, rules_of}
use Rattle.access_schema.specs.Faults.{is_unknown}
use Rattle.access_schema.proofs.Texts.{among_contains, first_apart}
use Rattle.access_schema.proofs.Prefixes.{given_by, given_from}
use Rattle.access_schema.proofs.Circles.{chain_along}
use Rattle.tgd_reader.specs.Printed.{name_in, name_at, without_line}
use Rattle.tgd_reader.proofs.Rebuilt.{known_at, columns_again}
use Rattle.tgd_reader.proofs.Places.{RisingFrom, rising_above, got_read}
use Rattle.tgd_reader.proofs.Reprinted.{differ_split}

-- ---- lists

pub repeats_none : (texts : List (List ℕ)) → AllDiffer texts → repeats texts ≡ false
repeats_none [] differ = refl
repeats_none (text ∷ texts) differ =
    let apart : is_among texts text ≡ false = never_true (is_among texts text) (λ yes. first_apart text texts differ (among_contains texts text yes)) in
    rw apart (repeats_none texts (λ i j member at_i at_j. let e = differ (suc i) (suc j) member at_i at_j in omega arith))

pub none_mapped : {X Y : Type 0} (p : Y → Bool) (f : X → Y) (xs : List X) → ((x : X) → Contains xs x → p (f x) ≡ false) → list_any p (map f xs) ≡ false
none_mapped p f [] none = refl
none_mapped p f (x ∷ xs) none = rw (none x (contains_here x xs)) (none_mapped p f xs (λ y there. none y (contains_there x xs y there)))

rising_once : (k : ℕ) (is : List ℕ) → RisingFrom k is → AllDiffer is
rising_once k [] rising i j member at_i at_j = absurd cc
rising_once k (p ∷ is) rising zero zero member at_i at_j = refl
rising_once k (p ∷ is) rising zero (suc j) member at_i at_j =
    let le = rising_above (p + 1) is rising.1 member (contains_got is j member at_j) in
    let same : p ≡ member = cc in absurd (omega (arith, le, same))
rising_once k (p ∷ is) rising (suc i) zero member at_i at_j =
    let le = rising_above (p + 1) is rising.1 member (contains_got is i member at_i) in
    let same : p ≡ member = cc in absurd (omega (arith, le, same))
rising_once k (p ∷ is) rising (suc i) (suc j) member at_i at_j = let e = rising_once (p + 1) is rising.1 i j member at_i at_j in omega (arith, e)

-- the names of rising places of distinct columns are distinct
pub names_differ : (columns : List (List ℕ)) (inputs : List ℕ) → AllDiffer columns → RisingFrom 0 inputs → ((p : ℕ) → Contains inputs p → p < length columns) → AllDiffer (map (λ place. slice_index_or columns place []) inputs)
names_differ columns inputs differ rising below i j member at_i at_j =
    let name : ℕ → List ℕ = λ place. slice_index_or columns place [] in
    let (p, got_p, is_p) = got_mapped name inputs i member at_i in
    let (q, got_q, is_q) = got_mapped name inputs j member at_j in
    let (c, at_c) = got_below columns p (below p (contains_got inputs i p got_p)) in
    let (d, at_d) = got_below columns q (below q (contains_got inputs j q got_q)) in
    let in_p : slice_get columns p ≡ Some member = at_c ∙ ap Some (sym (got_read columns p c [] at_c) ∙ is_p) in
    let in_q : slice_get columns q ≡ Some member = at_d ∙ ap Some (sym (got_read columns q d [] at_d) ∙ is_q) in
    let same : p ≡ q = differ p q member in_p in_q in
    rising_once 0 inputs rising i j p got_p (got_q ∙ ap Some (sym same))

-- ---- the names of a schema's numbers

module _ (s : Schema) where
  pub name_known : (number : ℕ) → number < length s.relations → is_unknown s.relations (name_at s.relations number) ≡ false
  name_known number lt =
      let (relation, at) = got_below s.relations number lt in
      ap (is_unknown s.relations) (ap name_in at) ∙ known_at s.relations s.valid.relations_are number relation at

  pub name_columns : (number : ℕ) (relation : Relation) → slice_get s.relations number ≡ Some relation → columns_of s.relations (name_at s.relations number) ≡ relation.columns
  name_columns number relation at = ap (columns_of s.relations) (ap name_in at) ∙ columns_again s.relations s.valid.relations_are number relation at

-- ---- what stands before a part

module _ (parts earlier later : List Part) (part : Part) (split : parts ≡ earlier ++ part ∷ later) where
  given_split : {Y : Type 0} (h : Part → Option Y) (y : Y) → h part ≡ Some y → filter_map h parts ≡ filter_map h earlier ++ y ∷ filter_map h later
  given_split h y is = ap (filter_map h) split ∙ filter_map-append h earlier (part ∷ later) ∙ ap (λ o. filter_map h earlier ++ cons_option o (filter_map h later)) is

  pub fresh_key : {K : Type 0} (key : Part → Option K) (k : K) → AllDiffer (filter_map key parts) → key part ≡ Some k → Contains (filter_map key earlier) k → ⊥
  fresh_key key k differ is there = differ_split (filter_map key earlier) k (filter_map key later) (subst AllDiffer (given_split key k is) differ) there

  pub room : {Y : Type 0} (h : Part → Option Y) (y : Y) (most : ℕ) → h part ≡ Some y → length (filter_map h parts) ≤ most → length (filter_map h earlier) < most
  room h y most is few =
      let a = ap length (given_split h y is) in
      let b = length-append (filter_map h earlier) (y ∷ filter_map h later) in
      omega (arith, a, b, few)

  pub stands_there : (x : Part) → Contains (earlier ++ part ∷ []) x → Contains parts x
  stands_there x there =
      let same : earlier ++ part ∷ later ≡ (earlier ++ part ∷ []) ++ later = sym (append_assoc earlier (part ∷ []) later) in
      subst (λ (xs : List Part). Contains xs x) (sym (split ∙ same)) (Contains-append_left (earlier ++ part ∷ []) later x there)

-- ---- chains of feeding

module _ (s : Schema) (parts front : List Part) (rules : map without_line (rules_of s.relations parts) ≡ map without_line s.rules) (within : (x : Part) → Contains front x → Contains parts x) where
  rule_there : (rule : Rule) → Contains (rules_of s.relations front) rule → (own : Rule) × Contains s.rules own × (own.body ≡ rule.body) × (own.head ≡ rule.head)
  rule_there rule there =
      let (k, part, at, gives) = given_by (rule_of s.relations) front rule there in
      let all : Contains (rules_of s.relations parts) rule = given_from (rule_of s.relations) parts part rule (within part (contains_got front k part at)) gives in
      let bare : Contains (map without_line s.rules) (without_line rule) = subst (λ (rs : List Rule). Contains rs (without_line rule)) rules (contains_map without_line (rules_of s.relations parts) rule all) in
      let (own, of, is) = contains_mapped without_line s.rules (without_line rule) bare in
      (own, of, ap (λ (r : Rule). r.body) is, ap (λ (r : Rule). r.head) is)

  feeds_there : (a b : ℕ) → Feeds (rules_of s.relations front) a b → Feeds s.rules a b
  feeds_there a b feeds =
      let (own, of, body, head) = rule_there feeds.rule feeds.of_rules in
      record {
        rule = own;
        body = feeds.body;
        head = feeds.head;
        of_rules = of;
        in_body = subst (λ (atoms : List Atom). Contains atoms feeds.body) (sym body) feeds.in_body;
        in_head = subst (λ (atoms : List Atom). Contains atoms feeds.head) (sym head) feeds.in_head;
        reads = feeds.reads;
        makes = feeds.makes;
      }

  pub not_recursive : AreRecursive (rules_of s.relations front) → ⊥
  not_recursive cycle =
      let (number, between, chain) = cycle in
      s.valid.rules_are.non_recursive (number, between, chain_along (Feeds (rules_of s.relations front)) (Feeds s.rules) feeds_there number between number chain)
