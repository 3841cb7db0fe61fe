-- A schema with some of the rules of another keeps what every schema keeps.
use Rattle.std.proofs.Common.{◌≡◌, ◌<◌, ◌≤◌, subst, refl, ℕ, List, [], ◌∷◌, Bool, true, false, length, arith, ⊎_elim}
use Rattle.std.proofs.Math.Logic.{∥∥₁_map}
use Rattle.std.specs.Prelude.{Contains}
use Rattle.meaning.specs.declared.types.Rule.{Rule}
use Rattle.meaning.specs.declared.types.Relation.{Relation}
use Rattle.meaning.specs.declared.types.Method.{Method}
use Rattle.meaning.specs.RuleOrder.{Feeds}
use Rattle.lists.proofs.Members.{contains_here, contains_there, contains_cases}
use Rattle.access_schema.specs.declared.schema.SourceLine.{SourceLine}
use Rattle.access_schema.specs.Feeding.{IsChain, AreNonRecursive}
use Rattle.access_schema.specs.Invariant.{IsSchema}
use Rattle.schema_parts.specs.Parts.{marked}

pub marked_among : {X : Type 0} (xs : List X) (marks : List Bool) (x : X) → Contains (marked xs marks) x → Contains xs x
marked_among [] marks x there = absurd (omega arith)
marked_among (y ∷ xs) [] x there = absurd (omega arith)
marked_among (y ∷ xs) (true ∷ marks) x there = ⊎_elim
    (λ same. subst (λ z. Contains (y ∷ xs) z) same (contains_here y xs))
    (λ later. contains_there y xs x (marked_among xs marks x later))
    (contains_cases y (marked xs marks) x there)
marked_among (y ∷ xs) (false ∷ marks) x there = contains_there y xs x (marked_among xs marks x there)

pub marked_few : {X : Type 0} (xs : List X) (marks : List Bool) → length (marked xs marks) ≤ length xs
marked_few [] marks = omega arith
marked_few (y ∷ xs) [] = omega arith
marked_few (y ∷ xs) (true ∷ marks) = let few = marked_few xs marks in omega arith
marked_few (y ∷ xs) (false ∷ marks) = let few = marked_few xs marks in omega arith

-- what feeds through some of the rules feeds through all
feeds_more : (some all : List Rule) → ((rule : Rule) → Contains some rule → Contains all rule) → (source target : ℕ) → Feeds some source target → Feeds all source target
feeds_more some all within source target feeds = record {
  rule = feeds.rule;
  body = feeds.body;
  head = feeds.head;
  of_rules = within feeds.rule feeds.of_rules;
  in_body = feeds.in_body;
  in_head = feeds.in_head;
  reads = feeds.reads;
  makes = feeds.makes;
}

chain_more : (some all : List Rule) → ((rule : Rule) → Contains some rule → Contains all rule) → (source : ℕ) (between : List ℕ) (target : ℕ) → IsChain (Feeds some) source between target → IsChain (Feeds all) source between target
chain_more some all within source [] target chain = feeds_more some all within source target chain
chain_more some all within source (next ∷ between) target (first, rest) = (feeds_more some all within source next first, chain_more some all within next between target rest)

non_recursive_fewer : (some all : List Rule) → ((rule : Rule) → Contains some rule → Contains all rule) → AreNonRecursive all → AreNonRecursive some
non_recursive_fewer some all within straight (number, between, chain) = straight (number, between, chain_more some all within number between number chain)

pub part_is_schema : (relations : List Relation) (methods : List Method) (rules : List Rule) (constants : List (List ℕ)) (sources : List SourceLine) (marks : List Bool) → IsSchema relations methods rules constants sources → IsSchema relations methods (marked rules marks) constants []
part_is_schema relations methods rules constants sources marks whole = record {
  relations_are = whole.relations_are;
  methods_are = whole.methods_are;
  rules_are = record {
    few = let most = whole.rules_are.few in let fewer = marked_few rules marks in omega arith;
    fit = λ rule there. whole.rules_are.fit rule (marked_among rules marks rule there);
    non_recursive = non_recursive_fewer (marked rules marks) rules (marked_among rules marks) whole.rules_are.non_recursive;
  };
  constants_few = whole.constants_few;
  constants_differ = whole.constants_differ;
  sources_are = record {
    differ = λ i j member at_i at_j. absurd (cc);
    placed = λ source there. absurd (omega arith);
    named = λ source there. absurd (omega arith);
  };
  sorted = λ rule there. ∥∥₁_map (whole.sorted rule (marked_among rules marks rule there)) (λ its. record {
    constants = its.constants;
    variables = its.variables;
  });
}

-- where no member is left, or no mark, none is marked
pub no_members : {X : Type 0} (xs : List X) (marks : List Bool) → length xs < 1 → marked xs marks ≡ []
no_members [] marks few = refl
no_members (x ∷ xs) marks few = absurd (omega arith)

pub no_marks : {X : Type 0} (xs : List X) (marks : List Bool) → length marks < 1 → marked xs marks ≡ []
no_marks [] marks few = refl
no_marks (x ∷ xs) [] few = refl
no_marks (x ∷ xs) (mark ∷ marks) few = absurd (omega arith)
