-- What the declarations of a schema declare, on any lines.
use Rattle.std.proofs.Common.{◌≡◌, ℕ, List, [], ◌∷◌, ◌++◌, slice_get, get_or, Option, None, Some, refl, sym, ap, subst, ◌∙◌, arith}
use Rattle.std.specs.Prelude.{Contains, map, filter_map, flat_map, option_map}
use Rattle.std.specs.List.{cons_option}
use Rattle.std.proofs.lemmas.List.{append-nil, map-id}
use Rattle.std.proofs.lemmas.List.Elements.{filter_map-append}
use Rattle.meaning.specs.declared.types.Relation.{Relation}
use Rattle.meaning.specs.declared.types.Method.{Method}
use Rattle.meaning.specs.declared.types.Rule.{Rule}
use Rattle.lists.proofs.Members.{contains_here, contains_there, contains_got, got_below}
use Rattle.access_schema.specs.declared.part.Part.{Part}
use Rattle.access_schema.specs.declared.part.Part.TheVariants.{Relation as RelationPart, Method as MethodPart, Rule as RulePart, Constant as ConstantPart, Source as SourcePart}
use Rattle.access_schema.specs.declared.schema.SourceLine.{SourceLine}
use Rattle.access_schema.specs.declared.schema.Schema.{Schema}
use Rattle.access_schema.specs.Content.{number_of, columns_of, relation_of, relations_of, places_from, method_of, methods_of, rule_of, rules_of, source_of, sources_of, declared_constants}
use Rattle.access_schema.proofs.Prefixes.{given_mapped}
use Rattle.tgd_reader.specs.Printed.{name_in, columns_in, name_at, columns_at, relation_part, method_part, rule_part, source_part, parts_of, on_line, line_behind, placed_from, without_line}
use Rattle.tgd_reader.proofs.Rebuilt.{number_again, columns_again, rule_again}
use Rattle.tgd_reader.proofs.Places.{rising_of, places_again}

-- ---- lines change nothing but themselves

cons_same : {Y : Type 0} (o p : Option Y) (ys zs : List Y) → o ≡ p → ys ≡ zs → cons_option o ys ≡ cons_option p zs
cons_same o p ys zs e f = ap (λ x. cons_option x ys) e ∙ ap (cons_option p) f

given_placed : {Y : Type 0} (h : Part → Option Y) → ((n : ℕ) (part : Part) → h (on_line n part) ≡ h part) → (n : ℕ) (parts : List Part) → filter_map h (placed_from n parts) ≡ filter_map h parts
given_placed h same n [] = refl
given_placed h same n (part ∷ parts) = cons_same (h (on_line n part)) (h part) (filter_map h (placed_from (line_behind n part) parts)) (filter_map h parts) (same n part) (given_placed h same (line_behind n part) parts)

relation_placed : (n : ℕ) (part : Part) → relation_of (on_line n part) ≡ relation_of part
relation_placed n (RelationPart name columns sorts) = refl
relation_placed n _ = refl

method_placed : (relations : List Relation) (n : ℕ) (part : Part) → method_of relations (on_line n part) ≡ method_of relations part
method_placed relations n (MethodPart name relation inputs cost) = refl
method_placed relations n _ = refl

source_placed : (relations : List Relation) (n : ℕ) (part : Part) → source_of relations (on_line n part) ≡ source_of relations part
source_placed relations n (SourcePart relation kind locator) = refl
source_placed relations n _ = refl

rule_placed : (relations : List Relation) (n : ℕ) (part : Part) → option_map without_line (rule_of relations (on_line n part)) ≡ option_map without_line (rule_of relations part)
rule_placed relations n (RulePart line body head) = refl
rule_placed relations n _ = refl

pub constants_placed : (n : ℕ) (parts : List Part) → flat_map declared_constants (placed_from n parts) ≡ flat_map declared_constants parts
constants_placed n [] = refl
constants_placed n (ConstantPart text ∷ parts) = ap (λ texts. text ∷ texts) (constants_placed (line_behind n (ConstantPart text)) parts)
constants_placed n (part ∷ parts) = constants_placed (line_behind n part) parts

-- ---- what the declarations of a schema give

given_all : {X Y : Type 0} (f : X → Part) (h : Part → Option Y) (g : X → Y) (xs : List X) → ((x : X) → Contains xs x → h (f x) ≡ Some (g x)) → filter_map h (map f xs) ≡ map g xs
given_all f h g [] gives = refl
given_all f h g (x ∷ xs) gives = cons_same (h (f x)) (Some (g x)) (filter_map h (map f xs)) (map g xs) (gives x (contains_here x xs)) (given_all f h g xs (λ y there. gives y (contains_there x xs y there)))

given_none : {X Y : Type 0} (f : X → Part) (h : Part → Option Y) (xs : List X) → ((x : X) → h (f x) ≡ None) → filter_map h (map f xs) ≡ []
given_none f h [] none = refl
given_none f h (x ∷ xs) none = cons_same (h (f x)) None (filter_map h (map f xs)) [] (none x) (given_none f h xs none)

-- the five kinds one behind another
module _ {Y : Type 0} (h : Part → Option Y) (a b c d e : List Part) where
  pub given_five : (p q r s t : List Y) → filter_map h a ≡ p → filter_map h b ≡ q → filter_map h c ≡ r → filter_map h d ≡ s → filter_map h e ≡ t → filter_map h (a ++ (b ++ (c ++ (d ++ e)))) ≡ p ++ (q ++ (r ++ (s ++ t)))
  given_five p q r s t ea eb ec ed ee =
      let de : filter_map h (d ++ e) ≡ s ++ t = filter_map-append h d e ∙ ap (λ x. x ++ filter_map h e) ed ∙ ap (λ x. s ++ x) ee in
      let cde : filter_map h (c ++ (d ++ e)) ≡ r ++ (s ++ t) = filter_map-append h c (d ++ e) ∙ ap (λ x. x ++ filter_map h (d ++ e)) ec ∙ ap (λ x. r ++ x) de in
      let bcde : filter_map h (b ++ (c ++ (d ++ e))) ≡ q ++ (r ++ (s ++ t)) = filter_map-append h b (c ++ (d ++ e)) ∙ ap (λ x. x ++ filter_map h (c ++ (d ++ e))) eb ∙ ap (λ x. q ++ x) cde in
      filter_map-append h a (b ++ (c ++ (d ++ e))) ∙ ap (λ x. x ++ filter_map h (b ++ (c ++ (d ++ e)))) ea ∙ ap (λ x. p ++ x) bcde

module _ (schema : Schema) where
  method_again : (method : Method) → Contains schema.methods method → method_of schema.relations (method_part schema.relations method) ≡ Some method
  method_again method there =
      let methods = schema.valid.methods_are in
      let (relation, at) = got_below schema.relations method.rel (methods.placed method there) in
      let columns = schema.valid.relations_are.columns relation (contains_got schema.relations method.rel relation at) in
      let named : name_at schema.relations method.rel ≡ relation.name = ap name_in at in
      let number : number_of schema.relations (name_at schema.relations method.rel) ≡ method.rel = ap (number_of schema.relations) named ∙ number_again schema.relations schema.valid.relations_are method.rel relation at in
      let own : columns_of schema.relations (name_at schema.relations method.rel) ≡ relation.columns = ap (columns_of schema.relations) named ∙ columns_again schema.relations schema.valid.relations_are method.rel relation at in
      let listed : columns_in (slice_get schema.relations method.rel) ≡ relation.columns = ap columns_in at in
      let places : places_from 0 (columns_at schema.relations method.rel method.inputs) relation.columns ≡ method.inputs =
      subst (λ (cs : List (List ℕ)). places_from 0 (map (λ place. get_or cs place []) method.inputs) relation.columns ≡ method.inputs) (sym listed)
      (places_again relation.columns method.inputs columns.differ (rising_of method.inputs (λ i p q at_p at_q. methods.rising method i p q there at_p at_q) 0 (λ p first. omega arith)) (λ p among. methods.inputs method relation p there at among)) in
      let make : ℕ → List ℕ → Method = λ r is. record { name = method.name; rel = r; inputs = is; cost = method.cost } in
      let given : List ℕ = places_from 0 (columns_at schema.relations method.rel method.inputs) (columns_of schema.relations (name_at schema.relations method.rel)) in
      let inputs : given ≡ method.inputs = ap (places_from 0 (columns_at schema.relations method.rel method.inputs)) own ∙ places in
      ap (λ r. Some (make r given)) number ∙ ap (λ is. Some (make method.rel is)) inputs

  source_again : (source : SourceLine) → Contains schema.sources source → source_of schema.relations (source_part schema.relations source) ≡ Some source
  source_again source there =
      let (relation, at) = got_below schema.relations source.rel (schema.valid.sources_are.placed source there) in
      let number : number_of schema.relations (name_at schema.relations source.rel) ≡ source.rel = ap (number_of schema.relations) (ap name_in at) ∙ number_again schema.relations schema.valid.relations_are source.rel relation at in
      ap (λ r. Some (record source { rel = r })) number

  rule_declared : (rule : Rule) → Contains schema.rules rule → rule_of schema.relations (rule_part schema.relations rule) ≡ Some rule
  rule_declared rule there = ap Some (rule_again schema.relations schema.valid.relations_are schema.constants rule rule.line (schema.valid.rules_are.fit rule there))

  pub relations_declared : relations_of (parts_of schema) ≡ schema.relations
  relations_declared =
      given_five relation_of (map relation_part schema.relations) (map (method_part schema.relations) schema.methods) (map (rule_part schema.relations) schema.rules) (map ConstantPart schema.constants) (map (source_part schema.relations) schema.sources)
      schema.relations [] [] [] [] (given_all relation_part relation_of (λ r. r) schema.relations (λ r there. refl) ∙ map-id schema.relations)
      (given_none (method_part schema.relations) relation_of schema.methods (λ x. refl)) (given_none (rule_part schema.relations) relation_of schema.rules (λ x. refl)) (given_none ConstantPart relation_of schema.constants (λ x. refl)) (given_none (source_part schema.relations) relation_of schema.sources (λ x. refl))
      ∙ append-nil schema.relations

  pub methods_declared : methods_of schema.relations (parts_of schema) ≡ schema.methods
  methods_declared =
      let h : Part → Option Method = method_of schema.relations in
      given_five h (map relation_part schema.relations) (map (method_part schema.relations) schema.methods) (map (rule_part schema.relations) schema.rules) (map ConstantPart schema.constants) (map (source_part schema.relations) schema.sources)
      [] schema.methods [] [] [] (given_none relation_part h schema.relations (λ x. refl)) (given_all (method_part schema.relations) h (λ m. m) schema.methods method_again ∙ map-id schema.methods)
      (given_none (rule_part schema.relations) h schema.rules (λ x. refl)) (given_none ConstantPart h schema.constants (λ x. refl)) (given_none (source_part schema.relations) h schema.sources (λ x. refl))
      ∙ append-nil schema.methods

  pub rules_declared : rules_of schema.relations (parts_of schema) ≡ schema.rules
  rules_declared =
      let h : Part → Option Rule = rule_of schema.relations in
      given_five h (map relation_part schema.relations) (map (method_part schema.relations) schema.methods) (map (rule_part schema.relations) schema.rules) (map ConstantPart schema.constants) (map (source_part schema.relations) schema.sources)
      [] [] schema.rules [] [] (given_none relation_part h schema.relations (λ x. refl)) (given_none (method_part schema.relations) h schema.methods (λ x. refl))
      (given_all (rule_part schema.relations) h (λ r. r) schema.rules rule_declared ∙ map-id schema.rules) (given_none ConstantPart h schema.constants (λ x. refl)) (given_none (source_part schema.relations) h schema.sources (λ x. refl))
      ∙ append-nil schema.rules

  pub sources_declared : sources_of schema.relations (parts_of schema) ≡ schema.sources
  sources_declared =
      let h : Part → Option SourceLine = source_of schema.relations in
      given_five h (map relation_part schema.relations) (map (method_part schema.relations) schema.methods) (map (rule_part schema.relations) schema.rules) (map ConstantPart schema.constants) (map (source_part schema.relations) schema.sources)
      [] [] [] [] schema.sources (given_none relation_part h schema.relations (λ x. refl)) (given_none (method_part schema.relations) h schema.methods (λ x. refl))
      (given_none (rule_part schema.relations) h schema.rules (λ x. refl)) (given_none ConstantPart h schema.constants (λ x. refl)) (given_all (source_part schema.relations) h (λ s. s) schema.sources source_again ∙ map-id schema.sources)

  -- ---- on the lines of a printed text

  pub relations_placed : (n : ℕ) → relations_of (placed_from n (parts_of schema)) ≡ schema.relations
  relations_placed n = given_placed relation_of relation_placed n (parts_of schema) ∙ relations_declared

  pub methods_on_lines : (n : ℕ) → methods_of schema.relations (placed_from n (parts_of schema)) ≡ schema.methods
  methods_on_lines n = given_placed (method_of schema.relations) (method_placed schema.relations) n (parts_of schema) ∙ methods_declared

  pub sources_on_lines : (n : ℕ) → sources_of schema.relations (placed_from n (parts_of schema)) ≡ schema.sources
  sources_on_lines n = given_placed (source_of schema.relations) (source_placed schema.relations) n (parts_of schema) ∙ sources_declared

  pub rules_on_lines : (n : ℕ) → map without_line (rules_of schema.relations (placed_from n (parts_of schema))) ≡ map without_line schema.rules
  rules_on_lines n =
      given_mapped without_line (rule_of schema.relations) (placed_from n (parts_of schema))
      ∙ given_placed (λ part. option_map without_line (rule_of schema.relations part)) (rule_placed schema.relations) n (parts_of schema)
      ∙ sym (given_mapped without_line (rule_of schema.relations) (parts_of schema)) ∙ ap (map without_line) rules_declared
