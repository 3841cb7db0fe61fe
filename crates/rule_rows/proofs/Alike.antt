-- Instances with the same facts of the relations that the rules name break the same rules.
use Rattle.std.proofs.Common.{ℕ, List, map, Option, None, Some, refl}
use Rattle.std.specs.Prelude.{Contains, IfSome}
use Rattle.std.proofs.lemmas.List.Elements.{Contains-append_left, Contains-append_right}
use Rattle.lists.proofs.Members.{contains_got}
use Rattle.meaning.specs.declared.types.Atom.{Atom}
use Rattle.meaning.specs.declared.types.Rule.{Rule}
use Rattle.meaning.specs.declared.types.Fact.{Fact}
use Rattle.meaning.specs.Values.{Value}
use Rattle.meaning.specs.Matching.{value_of, AreFacts, Extends, MeetsRule, Meets, itself, FactsOf}
use Rattle.access_schema.specs.declared.schema.Schema.{Schema}
use Rattle.access_schema.specs.Meaning.{meaning_of}
use Rattle.middleware.specs.Held.{SameFacts}
use Rattle.data_verify.specs.declared.broken.Broken.{Broken}
use Rattle.data_verify.specs.Breaking.{Breaks, AreLeastBreaking, IsFirstBroken}
use Rattle.rule_rows.specs.RuleRelations.{RulesName}
use Rattle.rule_rows.specs.Verifying.{IsVerified}

-- the same facts of each relation that some rule names
abbrev pub Agree : Schema → List Fact → List Fact → Type 0
Agree schema one other = (rel : ℕ) → RulesName schema rel → SameFacts rel one other

turned : (schema : Schema) (one other : List Fact) → Agree schema one other → Agree schema other one
turned schema one other same rel named row = ((same rel named row).1, (same rel named row).0)

module _ (schema : Schema) (rule : Rule) (among : Contains schema.rules rule) where
  of_body : (atom : Atom) → Contains rule.body atom → RulesName schema atom.rel
  of_body atom c = record { rule = rule; atom = atom; of_schema = among; of_rule = Contains-append_left rule.body rule.head atom c; of_relation = refl }

  of_head : (atom : Atom) → Contains rule.head atom → RulesName schema atom.rel
  of_head atom c = record { rule = rule; atom = atom; of_schema = among; of_rule = Contains-append_right rule.body rule.head atom c; of_relation = refl }

  module _ (one other : List Fact) (same : Agree schema one other) where
    body_there : (a : ℕ → Value) → AreFacts itself (FactsOf one) a rule.body → AreFacts itself (FactsOf other) a rule.body
    body_there a h atom c = (same atom.rel (of_body atom c) (map (value_of itself a) atom.terms)).0 (h atom c)

    extends_there : (a b : ℕ → Value) → Extends itself (FactsOf one) rule a b → Extends itself (FactsOf other) rule a b
    extends_there a b h = record { agrees = h.agrees; head = λ atom c. (same atom.rel (of_head atom c) (map (value_of itself b) atom.terms)).0 (h.head atom c) }

  meets_there : (one other : List Fact) → Agree schema one other → MeetsRule itself (FactsOf one) rule → MeetsRule itself (FactsOf other) rule
  meets_there one other same h a body =
      let (b, ext) = h a (body_there other one (turned schema one other same) a body) in
      (b, extends_there one other same a b ext)

  breaks_there : (one other : List Fact) → Agree schema one other → (a : ℕ → Value) → Breaks one rule a → Breaks other rule a
  breaks_there one other same a h = record {
    body = body_there one other same a h.body;
    unmet = λ b ext. h.unmet b (extends_there other one (turned schema one other same) a b ext);
  }

  least_there : (one other : List Fact) → Agree schema one other → (facts : List Fact) → AreLeastBreaking one rule facts → AreLeastBreaking other rule facts
  least_there one other same facts h =
      let (a, breaks, is) = h.come in
      record {
        come = (a, breaks_there one other same a breaks, is);
        least = λ b broken. h.least b (breaks_there other one (turned schema one other same) b broken);
      }

module _ (schema : Schema) where
  all_met : (one other : List Fact) → Agree schema one other → Meets one (meaning_of schema) → Meets other (meaning_of schema)
  all_met one other same h rule among = meets_there schema rule among one other same (h rule among)

  broken_there : (one other : List Fact) → Agree schema one other → (found : Option Broken) → IfSome found (IsFirstBroken one schema.rules) → IfSome found (IsFirstBroken other schema.rules)
  broken_there one other same None h = tt
  broken_there one other same (Some broken) h = record {
    rule = h.rule;
    numbered = h.numbered;
    before = λ k its less at. meets_there schema its (contains_got schema.rules k its at) one other same (h.before k its less at);
    least = least_there schema h.rule (contains_got schema.rules broken.rule h.rule h.numbered) one other same broken.rows h.least;
  }

  -- what is found of one instance is found of the other
  pub verified_there : (one other : List Fact) → Agree schema one other → (found : Option Broken) → IsVerified schema one found → IsVerified schema other found
  verified_there one other same found h = record {
    met = ((λ n. all_met one other same (h.met.0 n)), (λ m. h.met.1 (all_met other one (turned schema one other same) m)));
    broken = broken_there one other same found h.broken;
  }
