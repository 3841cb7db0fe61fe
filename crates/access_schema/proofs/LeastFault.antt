-- The least fault of a part, and what stands for the parts after it.
use Rattle.std.proofs.Common.{◌≡◌, ◌⊎◌, ◌<◌, ◌≤◌, ◌∙◌, sym, ap, subst, ℕ, List, [], ◌∷◌, ◌++◌, Bool, true, false, not, Option, Some, None, length, refl, arith, nat_lt, nat_le, inl, inr, ⊎_elim, map}
use Rattle.std.specs.Prelude.{Contains, All, filter, filter_map, flat_map, option_map, option_to_list, if◌then◌else◌}
use Rattle.std.specs.List.{cons_option, list_any, position_or_len}
use Rattle.std.proofs.lemmas.Bool.{cases_Bool}
use Rattle.std.proofs.lemmas.List.{append-nil}
use Rattle.std.proofs.lemmas.Bool.Decides.{nat_tests}
use Rattle.std.proofs.lemmas.List.Elements.{filter_map-append, All-nil, All-cons}
use Rattle.std.proofs.lemmas.List.Concat.{flat_map-append}
use Rattle.meaning.specs.declared.types.Relation.{Relation}
use Rattle.meaning.specs.declared.types.Rule.{Rule}
use Rattle.meaning.specs.declared.types.Atom.{Atom}
use Rattle.access_schema.specs.declared.part.Part.{Part}
use Rattle.access_schema.specs.declared.part.Part.TheVariants.{Relation as RelationPart, Method as MethodPart, Rule as RulePart, ForeignKey as KeyPart, Constant as ConstantPart, Source as SourcePart}
use Rattle.access_schema.specs.declared.part.NamedAtom.{NamedAtom}
use Rattle.access_schema.specs.declared.recursion.Link.{Link}
use Rattle.access_schema.specs.declared.fault.Limit.{Limit}
use Rattle.access_schema.specs.declared.fault.Limit.TheVariants.{Rules, BodyAtoms, HeadAtoms, Variables, Constants}
use Rattle.access_schema.specs.declared.fault.SchemaFault.{SchemaFault}
use Rattle.access_schema.specs.declared.fault.SchemaFault.TheVariants.{DuplicateName, UnknownRelation, WrongArity, UnknownColumn, OverLimit, Recursive, WrongSort}
use Rattle.access_schema.specs.declared.limits.TheConstants.{MOST_CONSTANTS, MOST_RULES, MOST_BODY_ATOMS, MOST_HEAD_ATOMS, MOST_VARIABLES}
use Rattle.access_schema.specs.Lists.{once_after, each_once}
use Rattle.access_schema.specs.Content.{number_of, is_named, atom_of, variables_of, rule_of, rules_of, part_constants}
use Rattle.meaning.specs.RuleOrder.{Feeds}
use Rattle.access_schema.specs.Feeding.{IsChain, AreRecursive}
use Rattle.access_schema.specs.Faults.{is_rule, is_unknown, repeats_name, uses_unknown, has_wrong_arity, has_unknown_column, passed_limit, plain_fault, is_outside, rule_limit, has_many_constants, IsFaultOf, IsLeastFault, IsFaultless, fault_number}
use Rattle.access_schema.specs.SortFaults.{HasWrongSort}
use Rattle.access_schema.specs.Links.{link_of, links_of, Joins, IsBelow, AreBelow, LeadRound}
use Rattle.access_schema.specs.Progress.{StandsFor}
use Rattle.access_schema.proofs.Circles.{chain_along}
use Rattle.lists.proofs.Members.{contains_map, contains_mapped}
use Rattle.lists.proofs.Booleans.{not_false, both_false}
use Rattle.access_schema.proofs.Collected.{once_on}

-- the first of five cases
abbrev chain : Bool → Bool → Bool → Bool → Option Limit → Option SchemaFault
chain a b c d limit = if a then Some DuplicateName else if b then Some UnknownRelation else if c then Some WrongArity else if d then Some UnknownColumn else option_map OverLimit limit

chain_cases : (a b c d : Bool) (limit : Option Limit) (fault : SchemaFault) → chain a b c d limit ≡ Some fault →
    ((a ≡ true) × (fault ≡ DuplicateName)) ⊎ (((a ≡ false) × (b ≡ true) × (fault ≡ UnknownRelation)) ⊎ (((a ≡ false) × (b ≡ false) × (c ≡ true) × (fault ≡ WrongArity)) ⊎ (((a ≡ false) × (b ≡ false) × (c ≡ false) × (d ≡ true) × (fault ≡ UnknownColumn)) ⊎ ((a ≡ false) × (b ≡ false) × (c ≡ false) × (d ≡ false) × ((l : Limit) × (limit ≡ Some l) × (fault ≡ OverLimit l))))))
chain_cases true b c d limit fault is = inl (refl, cc)
chain_cases false true c d limit fault is = inr (inl (refl, refl, cc))
chain_cases false false true d limit fault is = inr (inr (inl (refl, refl, refl, cc)))
chain_cases false false false true limit fault is = inr (inr (inr (inl (refl, refl, refl, refl, cc))))
chain_cases false false false false None fault is = absurd (cc)
chain_cases false false false false (Some l) fault is = inr (inr (inr (inr (refl, refl, refl, refl, (l, refl, cc)))))

chain_none : (a b c d : Bool) (limit : Option Limit) → chain a b c d limit ≡ None → (a ≡ false) × (b ≡ false) × (c ≡ false) × (d ≡ false) × (limit ≡ None)
chain_none true b c d limit is = absurd (cc)
chain_none false true c d limit is = absurd (cc)
chain_none false false true d limit is = absurd (cc)
chain_none false false false true limit is = absurd (cc)
chain_none false false false false None is = (refl, refl, refl, refl, refl)
chain_none false false false false (Some l) is = absurd (cc)

module _ (relations : List Relation) (earlier : List Part) (part : Part) where
  least_1 : (other : SchemaFault) → 1 ≤ fault_number other
  least_1 DuplicateName = omega arith
  least_1 UnknownRelation = omega arith
  least_1 WrongArity = omega arith
  least_1 UnknownColumn = omega arith
  least_1 (OverLimit limit) = omega arith
  least_1 Recursive = omega arith
  least_1 WrongSort = omega arith

  least_2 : repeats_name earlier part ≡ false → (other : SchemaFault) → IsFaultOf relations earlier part other → 2 ≤ fault_number other
  least_2 a DuplicateName has = absurd (cc)
  least_2 a UnknownRelation has = omega arith
  least_2 a WrongArity has = omega arith
  least_2 a UnknownColumn has = omega arith
  least_2 a (OverLimit limit) has = omega arith
  least_2 a Recursive has = omega arith
  least_2 a WrongSort has = omega arith

  least_3 : repeats_name earlier part ≡ false → uses_unknown relations part ≡ false → (other : SchemaFault) → IsFaultOf relations earlier part other → 3 ≤ fault_number other
  least_3 a b DuplicateName has = absurd (cc)
  least_3 a b UnknownRelation has = absurd (cc)
  least_3 a b WrongArity has = omega arith
  least_3 a b UnknownColumn has = omega arith
  least_3 a b (OverLimit limit) has = omega arith
  least_3 a b Recursive has = omega arith
  least_3 a b WrongSort has = omega arith

  least_4 : repeats_name earlier part ≡ false → uses_unknown relations part ≡ false → has_wrong_arity relations part ≡ false → (other : SchemaFault) → IsFaultOf relations earlier part other → 4 ≤ fault_number other
  least_4 a b c DuplicateName has = absurd (cc)
  least_4 a b c UnknownRelation has = absurd (cc)
  least_4 a b c WrongArity has = absurd (cc)
  least_4 a b c UnknownColumn has = omega arith
  least_4 a b c (OverLimit limit) has = omega arith
  least_4 a b c Recursive has = omega arith
  least_4 a b c WrongSort has = omega arith

  least_5 : repeats_name earlier part ≡ false → uses_unknown relations part ≡ false → has_wrong_arity relations part ≡ false → has_unknown_column relations part ≡ false → (other : SchemaFault) → IsFaultOf relations earlier part other → 5 ≤ fault_number other
  least_5 a b c d DuplicateName has = absurd (cc)
  least_5 a b c d UnknownRelation has = absurd (cc)
  least_5 a b c d WrongArity has = absurd (cc)
  least_5 a b c d UnknownColumn has = absurd (cc)
  least_5 a b c d (OverLimit limit) has = omega arith
  least_5 a b c d Recursive has = omega arith
  least_5 a b c d WrongSort has = omega arith

  -- without a plain fault only the chains of the rules and the sorts are left
  least_6 : plain_fault relations earlier part ≡ None → (other : SchemaFault) → IsFaultOf relations earlier part other → 6 ≤ fault_number other
  least_6 is other has = left other has (chain_none _ _ _ _ _ is) where
    left : (fault : SchemaFault) → IsFaultOf relations earlier part fault → (repeats_name earlier part ≡ false) × (uses_unknown relations part ≡ false) × (has_wrong_arity relations part ≡ false) × (has_unknown_column relations part ≡ false) × (passed_limit earlier part ≡ None) → 6 ≤ fault_number fault
    left DuplicateName here (a, b, c, d, l) = absurd (cc)
    left UnknownRelation here (a, b, c, d, l) = absurd (cc)
    left WrongArity here (a, b, c, d, l) = absurd (cc)
    left UnknownColumn here (a, b, c, d, l) = absurd (cc)
    left (OverLimit limit) here (a, b, c, d, l) = absurd (cc)
    left Recursive here (a, b, c, d, l) = omega arith
    left WrongSort here (a, b, c, d, l) = omega arith

  pub known_from_none : plain_fault relations earlier part ≡ None → uses_unknown relations part ≡ false
  known_from_none is = (chain_none _ _ _ _ _ is).1

  pub no_limit_from_none : plain_fault relations earlier part ≡ None → passed_limit earlier part ≡ None
  no_limit_from_none is = (chain_none _ _ _ _ _ is).4

  -- the plain fault is the least
  pub plain_is_least : (fault : SchemaFault) → plain_fault relations earlier part ≡ Some fault → IsLeastFault relations earlier part fault
  plain_is_least fault is = let Least : SchemaFault → Type 0 = IsLeastFault relations earlier part in ⊎_elim
      (λ (a, same). subst Least (sym same) (record { has = a; least = λ other has. least_1 other }))
      (⊎_elim
      (λ (a, b, same). subst Least (sym same) (record { has = b; least = least_2 a }))
      (⊎_elim
      (λ (a, b, c, same). subst Least (sym same) (record { has = c; least = least_3 a b }))
      (⊎_elim
      (λ (a, b, c, d, same). subst Least (sym same) (record { has = d; least = least_4 a b c }))
      (λ (a, b, c, d, (l, limit, same)). subst Least (sym same) (record { has = limit; least = least_5 a b c d })))))
      (chain_cases _ _ _ _ _ fault is)

-- the first place of a test that something passes is within
pub place_within : {X : Type 0} (p : X → Bool) (xs : List X) → list_any p xs ≡ true → position_or_len p xs < length xs
place_within p [] any = absurd (cc)
place_within p (x ∷ xs) any = ⊎_elim
    (λ (here : p x ≡ true). rw here (omega arith))
    (λ (other : p x ≡ false). let rest : list_any p xs ≡ true = rw other at any in let lt : position_or_len p xs < length xs = place_within p xs rest in rw other (omega arith))
    (cases_Bool (p x))

pub number_within : (relations : List Relation) (name : List ℕ) → is_unknown relations name ≡ false → number_of relations name < length relations
number_within relations name declared = place_within (is_named name) relations (not_false _ declared)

numbers_within : (relations : List Relation) (atoms : List NamedAtom) → list_any (λ atom. is_unknown relations atom.relation) atoms ≡ false → All (λ number. number < length relations) (map (λ (atom : NamedAtom). number_of relations atom.relation) atoms)
numbers_within relations [] none = All-nil (λ number. number < length relations)
numbers_within relations (atom ∷ atoms) none =
    let (here, rest) = both_false _ _ none in
    All-cons (λ number. number < length relations) (number_of relations atom.relation) (map (λ (a : NamedAtom). number_of relations a.relation) atoms) (number_within relations atom.relation here) (numbers_within relations atoms rest)

-- the numbers of a link are below, where its relations are declared
pub link_below : (relations : List Relation) (part : Part) (link : Link) → uses_unknown relations part ≡ false → link_of relations part ≡ Some link → IsBelow (length relations) link
link_below relations (RelationPart name columns sorts) link known is = absurd (cc)
link_below relations (MethodPart name relation inputs cost) link known is = absurd (cc)
link_below relations (RulePart line body head) link known is =
    let (in_body, in_head) = both_false _ _ known in
    let made : Link = record { body = map (λ (atom : NamedAtom). number_of relations atom.relation) body; head = map (λ (atom : NamedAtom). number_of relations atom.relation) head } in
    let same : made ≡ link = cc in
    subst (IsBelow (length relations)) same (record { body = numbers_within relations body in_body; head = numbers_within relations head in_head })
link_below relations (KeyPart line relation columns target target_columns) link known is =
    let (in_body, in_head) = both_false _ _ known in
    let made : Link = record { body = number_of relations relation ∷ []; head = number_of relations target ∷ [] } in
    let same : made ≡ link = cc in
    subst (IsBelow (length relations)) same (record { body = All-cons (λ number. number < length relations) (number_of relations relation) [] (number_within relations relation in_body) (All-nil (λ number. number < length relations)); head = All-cons (λ number. number < length relations) (number_of relations target) [] (number_within relations target in_head) (All-nil (λ number. number < length relations)) })
link_below relations (ConstantPart text) link known is = absurd (cc)
link_below relations (SourcePart relation kind locator) link known is = absurd (cc)

pub below_push : (count : ℕ) (links : List Link) (link : Link) → AreBelow count links → IsBelow count link → AreBelow count (links ++ link ∷ [])
below_push count [] link below fits = (fits, tt)
below_push count (first ∷ links) link below fits = (below.0, below_push count links link below.1 fits)

-- a rule's link
abbrev link_of_rule : Rule → Link
link_of_rule rule = record { body = map (λ (atom : Atom). atom.rel) rule.body; head = map (λ (atom : Atom). atom.rel) rule.head }

numbers_are : (relations : List Relation) (variables : List (List ℕ)) (atoms : List NamedAtom) → map (λ (atom : Atom). atom.rel) (map (atom_of relations variables) atoms) ≡ map (λ (atom : NamedAtom). number_of relations atom.relation) atoms
numbers_are relations variables [] = refl
numbers_are relations variables (atom ∷ atoms) = ap (λ rest. number_of relations atom.relation ∷ rest) (numbers_are relations variables atoms)

link_is : (relations : List Relation) (part : Part) → link_of relations part ≡ option_map link_of_rule (rule_of relations part)
link_is relations (RelationPart name columns sorts) = refl
link_is relations (MethodPart name relation inputs cost) = refl
link_is relations (RulePart line body head) =
    let b = sym (numbers_are relations (variables_of (body ++ head)) body) in
    let h = sym (numbers_are relations (variables_of (body ++ head)) head) in
    cc
link_is relations (KeyPart line relation columns target target_columns) = refl
link_is relations (ConstantPart text) = refl
link_is relations (SourcePart relation kind locator) = refl

cons_mapped : (o : Option Rule) (rules : List Rule) → cons_option (option_map link_of_rule o) (map link_of_rule rules) ≡ map link_of_rule (cons_option o rules)
cons_mapped None rules = refl
cons_mapped (Some rule) rules = refl

links_are : (relations : List Relation) (parts : List Part) → links_of relations parts ≡ map link_of_rule (rules_of relations parts)
links_are relations [] = refl
links_are relations (part ∷ parts) =
    rw (link_is relations part, links_are relations parts) (cons_mapped (rule_of relations part) (rules_of relations parts))

joins_from_feeds : (rules : List Rule) (source target : ℕ) → Feeds rules source target → Joins (map link_of_rule rules) source target
joins_from_feeds rules source target feeds = record {
  link = link_of_rule feeds.rule;
  of_links = contains_map link_of_rule rules feeds.rule feeds.of_rules;
  reads = subst (Contains (map (λ (atom : Atom). atom.rel) feeds.rule.body)) feeds.reads (contains_map (λ (atom : Atom). atom.rel) feeds.rule.body feeds.body feeds.in_body);
  makes = subst (Contains (map (λ (atom : Atom). atom.rel) feeds.rule.head)) feeds.makes (contains_map (λ (atom : Atom). atom.rel) feeds.rule.head feeds.head feeds.in_head);
}

feeds_from_joins : (rules : List Rule) (source target : ℕ) → Joins (map link_of_rule rules) source target → Feeds rules source target
feeds_from_joins rules source target joins =
    let (rule, among, is) = contains_mapped link_of_rule rules joins.link joins.of_links in
    let (body, of_body, reads) = contains_mapped (λ (atom : Atom). atom.rel) rule.body source (subst (λ (link : Link). Contains link.body source) (sym is) joins.reads) in
    let (head, of_head, makes) = contains_mapped (λ (atom : Atom). atom.rel) rule.head target (subst (λ (link : Link). Contains link.head target) (sym is) joins.makes) in
    record { rule = rule; body = body; head = head; of_rules = among; in_body = of_body; in_head = of_head; reads = reads; makes = makes }

-- the links lead round exactly where the rules are recursive
pub round_from_recursive : (relations : List Relation) (parts : List Part) → AreRecursive (rules_of relations parts) → LeadRound (links_of relations parts)
round_from_recursive relations parts (number, between, chain) = (
  number,
  between,
  subst (λ (links : List Link). IsChain (Joins links) number between number) (sym (links_are relations parts))
      (chain_along (Feeds (rules_of relations parts)) (Joins (map link_of_rule (rules_of relations parts))) (joins_from_feeds (rules_of relations parts)) number between number chain),
)

pub recursive_from_round : (relations : List Relation) (parts : List Part) → LeadRound (links_of relations parts) → AreRecursive (rules_of relations parts)
recursive_from_round relations parts (number, between, chain) = (
  number,
  between,
  chain_along (Joins (map link_of_rule (rules_of relations parts))) (Feeds (rules_of relations parts)) (feeds_from_joins (rules_of relations parts)) number between number
      (subst (λ (links : List Link). IsChain (Joins links) number between number) (links_are relations parts) chain),
)

cons_none : {X : Type 0} (o : Option X) → cons_option o [] ≡ option_to_list o
cons_none None = refl
cons_none (Some x) = refl

pub mapped_push : {X Y : Type 0} (h : X → Option Y) (xs : List X) (x : X) → filter_map h (xs ++ x ∷ []) ≡ filter_map h xs ++ option_to_list (h x)
mapped_push h xs x = filter_map-append h xs (x ∷ []) ∙ ap (λ ys. filter_map h xs ++ ys) (cons_none (h x))

pub no_link : (relations : List Relation) (part : Part) → is_rule part ≡ false → link_of relations part ≡ None
no_link relations (RelationPart name columns sorts) is = refl
no_link relations (MethodPart name relation inputs cost) is = refl
no_link relations (RulePart line body head) is = absurd (cc)
no_link relations (KeyPart line relation columns target target_columns) is = absurd (cc)
no_link relations (ConstantPart text) is = refl
no_link relations (SourcePart relation kind locator) is = refl

module _ (relations : List Relation) (earlier : List Part) (part : Part) (links : List Link) (plain : plain_fault relations earlier part ≡ None) (are : links ≡ links_of relations earlier ++ option_to_list (link_of relations part)) where
  links_here : links_of relations (earlier ++ part ∷ []) ≡ links
  links_here = mapped_push (link_of relations) earlier part ∙ sym are

  pub round_is_least : (LeadRound (links_of relations earlier) → ⊥) → LeadRound links → IsLeastFault relations earlier part Recursive
  round_is_least straight round = record {
    has = (
      ⊎_elim
          (λ rule. rule)
          (λ other.
          let none : option_to_list (link_of relations part) ≡ [] = ap option_to_list (no_link relations part other) in
          let same : links ≡ links_of relations earlier = are ∙ ap (λ more. links_of relations earlier ++ more) none ∙ append-nil (links_of relations earlier) in
          absurd (straight (subst LeadRound same round)))
          (cases_Bool (is_rule part)),
      recursive_from_round relations (earlier ++ part ∷ []) (subst LeadRound (sym links_here) round),
    );
    least = least_6 relations earlier part plain;
  }

  -- where the links do not lead round, only the sorts are left
  least_7 : (LeadRound links → ⊥) → (other : SchemaFault) → IsFaultOf relations earlier part other → 7 ≤ fault_number other
  least_7 straight other has = left other has (least_6 relations earlier part plain other has) where
    left : (fault : SchemaFault) → IsFaultOf relations earlier part fault → 6 ≤ fault_number fault → 7 ≤ fault_number fault
    left DuplicateName here le = absurd (omega arith)
    left UnknownRelation here le = absurd (omega arith)
    left WrongArity here le = absurd (omega arith)
    left UnknownColumn here le = absurd (omega arith)
    left (OverLimit limit) here le = absurd (omega arith)
    left Recursive here le = absurd (straight (subst LeadRound links_here (round_from_recursive relations (earlier ++ part ∷ []) here.1)))
    left WrongSort here le = omega arith

  pub sort_is_least : (LeadRound links → ⊥) → HasWrongSort relations part → IsLeastFault relations earlier part WrongSort
  sort_is_least straight wrong = record { has = wrong; least = least_7 straight }

  pub faultless : (LeadRound links → ⊥) → (HasWrongSort relations part → ⊥) → IsFaultless relations earlier part
  faultless straight sorted other has = left other has (least_7 straight other has) where
    left : (fault : SchemaFault) → IsFaultOf relations earlier part fault → 7 ≤ fault_number fault → ⊥
    left DuplicateName here le = omega arith
    left UnknownRelation here le = omega arith
    left WrongArity here le = omega arith
    left UnknownColumn here le = omega arith
    left (OverLimit limit) here le = omega arith
    left Recursive here le = omega arith
    left WrongSort here le = sorted here

pub constants_push : (earlier : List Part) (part : Part) → each_once (flat_map part_constants (earlier ++ part ∷ [])) ≡ once_after (each_once (flat_map part_constants earlier)) (part_constants part)
constants_push earlier part =
    ap each_once (flat_map-append part_constants earlier (part ∷ []) ∙ ap (λ texts. flat_map part_constants earlier ++ texts) (append-nil (part_constants part)))
    ∙ once_on [] (flat_map part_constants earlier) (part_constants part)

five_none : (a b c d e : Bool) → (if a then Some Rules else if b then Some BodyAtoms else if c then Some HeadAtoms else if d then Some Variables else if e then Some Constants else None) ≡ None → (a ≡ false) × (b ≡ false) × (c ≡ false) × (d ≡ false) × (e ≡ false)
five_none true b c d e is = absurd (cc)
five_none false true c d e is = absurd (cc)
five_none false false true d e is = absurd (cc)
five_none false false false true e is = absurd (cc)
five_none false false false false true is = absurd (cc)
five_none false false false false false is = (refl, refl, refl, refl, refl)

pub rule_within : (earlier : List Part) (body head : List NamedAtom) (many : Bool) → rule_limit earlier body head many ≡ None → (nat_le MOST_RULES (length (filter is_rule earlier)) ≡ false) × (is_outside MOST_BODY_ATOMS (length body) ≡ false) × (is_outside MOST_HEAD_ATOMS (length head) ≡ false) × (nat_lt MOST_VARIABLES (length (variables_of (body ++ head))) ≡ false) × (many ≡ false)
rule_within earlier body head many is = five_none _ _ _ _ _ is

one_none : (a : Bool) (limit : Limit) → (if a then Some limit else None) ≡ None → a ≡ false
one_none true limit is = absurd (cc)
one_none false limit is = refl

pub none_many : (earlier : List Part) (part : Part) → passed_limit earlier part ≡ None → (part_constants part ≡ []) ⊎ (has_many_constants earlier part ≡ false)
none_many earlier (RelationPart name columns sorts) is = inl refl
none_many earlier (MethodPart name relation inputs cost) is = inl refl
none_many earlier (RulePart line body head) is = inr (rule_within earlier body head (has_many_constants earlier (RulePart line body head)) is).4
none_many earlier (KeyPart line relation columns target target_columns) is = inl refl
none_many earlier (ConstantPart text) is = inr (one_none _ _ is)
none_many earlier (SourcePart relation kind locator) is = inl refl

module _ (relations : List Relation) (earlier : List Part) (part : Part) (known : List (List ℕ)) (links : List Link) (stands : StandsFor relations earlier known links) where
  many_is : nat_lt MOST_CONSTANTS (length (once_after known (part_constants part))) ≡ has_many_constants earlier part
  many_is = ap (λ (texts : List (List ℕ)). nat_lt MOST_CONSTANTS (length texts)) (ap (λ (before : List (List ℕ)). once_after before (part_constants part)) stands.constants ∙ sym (constants_push earlier part))

  pub many_constants : (fits : Bool) → fits ≡ not (nat_lt MOST_CONSTANTS (length (once_after known (part_constants part)))) → not fits ≡ has_many_constants earlier part
  many_constants fits is = ap not is ∙ not_not (nat_lt MOST_CONSTANTS (length (once_after known (part_constants part)))) ∙ many_is where
    not_not : (b : Bool) → not (not b) ≡ b
    not_not true = refl
    not_not false = refl

  few_from_none : plain_fault relations earlier part ≡ None → nat_lt MOST_CONSTANTS (length (once_after known (part_constants part))) ≡ false
  few_from_none plain = ⊎_elim
      (λ (none : part_constants part ≡ []). let few = stands.few in rw none (grind (arith, nat_tests)))
      (λ many. many_is ∙ many)
      (none_many earlier part (no_limit_from_none relations earlier part plain))

  -- what stands for the earlier parts goes on to this one, where it has no fault
  pub stands_on : (fits : Bool) (texts : List (List ℕ)) (more : List Link) → plain_fault relations earlier part ≡ None
      → fits ≡ not (nat_lt MOST_CONSTANTS (length (once_after known (part_constants part)))) → (fits ≡ true → texts ≡ once_after known (part_constants part))
      → more ≡ links ++ option_to_list (link_of relations part) → AreBelow (length relations) more → (LeadRound more → ⊥)
      → StandsFor relations (earlier ++ part ∷ []) texts more
  stands_on fits texts more plain is are linked below straight =
      let few = few_from_none plain in
      let same : texts ≡ once_after known (part_constants part) = are (is ∙ ap not few) in
      record {
        constants = same ∙ ap (λ (before : List (List ℕ)). once_after before (part_constants part)) stands.constants ∙ sym (constants_push earlier part);
        few = rw same (grind (arith, nat_tests));
        links_are = linked ∙ ap (λ (before : List Link). before ++ option_to_list (link_of relations part)) stands.links_are ∙ sym (mapped_push (link_of relations) earlier part);
        below = below;
        straight = straight;
      }

  pub linked_on : (more : List Link) → more ≡ links ++ option_to_list (link_of relations part) → more ≡ links_of relations earlier ++ option_to_list (link_of relations part)
  linked_on more linked = linked ∙ ap (λ (before : List Link). before ++ option_to_list (link_of relations part)) stands.links_are

  pub straight_before : LeadRound (links_of relations earlier) → ⊥
  straight_before round = stands.straight (subst LeadRound (sym stands.links_are) round)
