-- The list of the relations of rules has those that some rule names.
use Rattle.std.proofs.Common.{◌≡◌, ◌⊎◌, ◌↔◌, inl, inr, ◌+◌, ◌≤◌, ◌<◌, ℕ, List, [], ◌∷◌, ◌++◌, length, take, get_or, sym, ◌∙◌, ap, subst, append_assoc}
use Rattle.std.specs.Prelude.{Contains, flat_map}
use Rattle.std.proofs.lemmas.List.{append-nil, take_more, take_all}
use Rattle.std.proofs.lemmas.List.Elements.{Contains-append_cases, Contains-append_left, Contains-append_right}
use Rattle.lists.proofs.Members.{contains_map, contains_mapped, contains_joined, joined_from}
use Rattle.meaning.specs.declared.types.Atom.{Atom}
use Rattle.meaning.specs.declared.types.Rule.{Rule}
use Rattle.access_schema.specs.declared.schema.Schema.{Schema}
use Rattle.rule_rows.specs.RuleRelations.{RulesName}
use Rattle.rule_rows.specs.Listing.{relations_of, relations_in}

flat_push : {X Y : Type 0} (f : X → List Y) (xs : List X) (x : X) → flat_map f (xs ++ x ∷ []) ≡ flat_map f xs ++ f x
flat_push f [] x = append-nil (f x)
flat_push f (y ∷ xs) x = ap (λ (l : List _). f y ++ l) (flat_push f xs x) ∙ sym (append_assoc (f y) (flat_map f xs) (f x))

abbrev of_rule : Rule → List ℕ
of_rule rule = relations_of rule.body ++ relations_of rule.head

-- one rule more
pub listing_more : (rules : List Rule) (i : ℕ) (rule : Rule) → i < length rules → rule ≡ get_or rules i rule → (body head : List Atom) → body ≡ rule.body → head ≡ rule.head →
    (list first second : List ℕ) → list ≡ relations_in (take i rules) → first ≡ list ++ relations_of body → second ≡ first ++ relations_of head → second ≡ relations_in (take (i + 1) rules)
listing_more rules i rule less at body head b h list first second was one two =
    two ∙ ap (λ (l : List ℕ). l ++ relations_of head) one ∙ append_assoc list (relations_of body) (relations_of head)
    ∙ ap (λ (l : List ℕ). l ++ (relations_of body ++ relations_of head)) was
    ∙ ap (λ (l : List Atom). relations_in (take i rules) ++ (relations_of l ++ relations_of head)) b
    ∙ ap (λ (l : List Atom). relations_in (take i rules) ++ (relations_of rule.body ++ relations_of l)) h
    ∙ sym (flat_push of_rule (take i rules) rule) ∙ ap relations_in (sym more)
  where
    more : take (i + 1) rules ≡ take i rules ++ rule ∷ []
    more = take_more rules i rule less ∙ ap (λ (x : Rule). take i rules ++ x ∷ []) (sym at)

module _ (schema : Schema) (rel : ℕ) where
  listed_named : Contains (relations_in schema.rules) rel → RulesName schema rel
  listed_named c =
      let (rule, among, inside) = joined_from of_rule schema.rules rel c in
      elim (Contains-append_cases (relations_of rule.body) (relations_of rule.head) rel inside) [
        | inl first ↦
            let (atom, there, e) = contains_mapped (λ (a : Atom). a.rel) rule.body rel first in
            record { rule = rule; atom = atom; of_schema = among; of_rule = Contains-append_left rule.body rule.head atom there; of_relation = e }
        | inr second ↦
            let (atom, there, e) = contains_mapped (λ (a : Atom). a.rel) rule.head rel second in
            record { rule = rule; atom = atom; of_schema = among; of_rule = Contains-append_right rule.body rule.head atom there; of_relation = e }
      ]

  named_listed : RulesName schema rel → Contains (relations_in schema.rules) rel
  named_listed n = subst (λ r. Contains (relations_in schema.rules) r) n.of_relation (contains_joined of_rule schema.rules n.rule n.atom.rel n.of_schema (elim (Contains-append_cases n.rule.body n.rule.head n.atom n.of_rule) [
    | inl first ↦ Contains-append_left (relations_of n.rule.body) (relations_of n.rule.head) n.atom.rel (contains_map (λ (a : Atom). a.rel) n.rule.body n.atom first)
    | inr second ↦ Contains-append_right (relations_of n.rule.body) (relations_of n.rule.head) n.atom.rel (contains_map (λ (a : Atom). a.rel) n.rule.head n.atom second)
  ]))

  -- a list with the members of the whole list has the relations that some rule names
  pub listed_exactly : (rules : List Rule) → rules ≡ schema.rules → (i : ℕ) → length rules ≤ i → (list last : List ℕ) → list ≡ relations_in (take i rules) → (Contains last rel → Contains list rel) → (Contains list rel → Contains last rel) →
      Contains last rel ↔ RulesName schema rel
  listed_exactly rules be i over list last is to from = (
    (λ c. listed_named (subst (λ (l : List ℕ). Contains l rel) whole (to c))),
    (λ n. from (subst (λ (l : List ℕ). Contains l rel) (sym whole) (named_listed n))),
  )
    where
      whole : list ≡ relations_in schema.rules
      whole = is ∙ ap relations_in (take_all i rules over ∙ be)

  -- a list with the members of these and of others has those that some rule names and the others
  pub with_others : (own added whole last : List ℕ) → (Contains own rel ↔ RulesName schema rel) → whole ≡ own ++ added
      → (Contains last rel → Contains whole rel) → (Contains whole rel → Contains last rel) → Contains last rel ↔ (Contains added rel ⊎ RulesName schema rel)
  with_others own added whole last exactly is to from = (
    (λ c. elim (Contains-append_cases own added rel (subst (λ (l : List ℕ). Contains l rel) is (to c))) [
      | inl named ↦ inr (exactly.0 named)
      | inr other ↦ inl other
    ]),
    (λ n. from (subst (λ (l : List ℕ). Contains l rel) (sym is) (elim n [
      | inl other ↦ Contains-append_right own added rel other
      | inr named ↦ Contains-append_left own added rel (exactly.1 named)
    ]))),
  )
