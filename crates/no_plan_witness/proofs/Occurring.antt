-- Labels that occur in facts.
use Rattle.std.proofs.Common.{◌≡◌, ◌∙◌, sym, ap, ℕ, List, [], ◌++◌}
use Rattle.std.specs.Prelude.{Contains}
use Rattle.std.proofs.lemmas.List.Concat.{flat_map-append}
use Rattle.std.proofs.lemmas.List.Elements.{Contains-append_left}
use Rattle.lists.proofs.Members.{contains_here, contains_joined}
use Rattle.meaning.specs.declared.types.Val.TheVariants.{Label}
use Rattle.meaning.specs.declared.types.Ground.{Ground}
use Rattle.no_plan_witness.specs.Texts.{labels_of, labels_among, labels_in}

-- a label of a value of a fact occurs in the facts
pub label_occurs : (facts : List Ground) (fact : Ground) (k : ℕ) → Contains facts fact → Contains fact.vals (Label k) → Contains (labels_in facts) k
label_occurs facts fact k among inside =
    contains_joined (λ (f : Ground). labels_among f.vals) facts fact k among
    (contains_joined labels_of fact.vals (Label k) k inside (contains_here k []))

-- the labels of two lists of facts, one behind the other
pub labels_joined : (first second : List Ground) (none some all : List ℕ) → none ≡ [] → some ≡ none ++ labels_in first → all ≡ some ++ labels_in second → all ≡ labels_in (first ++ second)
labels_joined first second none some all start one two =
    two ∙ ap (λ l. l ++ labels_in second) (one ∙ ap (λ l. l ++ labels_in first) start) ∙ sym (flat_map-append (λ (f : Ground). labels_among f.vals) first second)

-- a label of the first facts is one of both
pub more_labels : (first second : List Ground) (k : ℕ) → Contains (labels_in first) k → Contains (labels_in (first ++ second)) k
more_labels first second k c =
    rw (flat_map-append (λ (f : Ground). labels_among f.vals) first second) (Contains-append_left (labels_in first) (labels_in second) k c)
