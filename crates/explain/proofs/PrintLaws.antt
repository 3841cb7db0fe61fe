-- A printed refutation is cut into the lines of its pair.
use Rattle.std.proofs.Common.{◌≡◌, ℕ, ◌+◌, Bool, true, false, List, [], ◌∷◌, ◌++◌, map, Option, refl, sym, ap, subst, ◌∙◌, append_assoc, arith, slice_get}
use Rattle.std.specs.Prelude.{codes, flat_map}
use Rattle.std.specs.List.{AllByRecursion}
use Rattle.std.proofs.lemmas.List.{append-nil}
use Rattle.lists.proofs.Members.{contains_here, contains_there, contains_got}
use Rattle.pq_text.specs.declared.token.Style.TheVariants.{Lines}
use Rattle.pq_text.specs.Forms.{Slot, Mark, list_form, value_form, IsSome}
use Rattle.pq_text.specs.Printing.{printed_name, printed_value, Stops}
use Rattle.pq_text.specs.Listed.{listed}
use Rattle.pq_text.specs.Pieces.{Piece, behind_blank, text_of, IsPrintedLine, lines_text, numbered, word_piece, mark_piece, name_piece, value_piece, further_pieces, list_pieces}
use Rattle.pq_text.proofs.Pieces.{printed_lines, text_of-append}
use Rattle.pq_text.proofs.PieceLaws.{goes_on, name_is_lexed, value_is_lexed, word_is_lexed, open_is_lexed, close_is_lexed, AreLexed-append, AreInLine-append, Reads, Reads-append, name_fits, value_reads, name_in_line, IsPrinted, list_lexed, list_reads, list_in_line}
use Rattle.meaning.specs.declared.types.Relation.{Relation}
use Rattle.meaning.specs.declared.types.Fact.{Fact}
use Rattle.meaning.specs.Instances.{FitsRelation, IsInstance}
use Rattle.pq_text.proofs.Forms.{some_listed, some_long}
use Rattle.access_schema.specs.declared.schema.Schema.{Schema}
use Rattle.access_schema.specs.Meaning.{meaning_of}
use Rattle.findings.specs.declared.refutation.Witness.{Witness}
use Rattle.fact_lines.specs.Lines.{relation_text, fact_text, IsListing}
use Rattle.explain.specs.Printing.{pair_text, IsPrintedWitness}
use Rattle.explain.specs.Grammar.{word_form, opening_form, answer_form, row_form, name_of, fact_form, facts_forms, witness_forms, FitsSchema, SaysWitness, IsReadAs}
use Rattle.plan_form.proofs.PrintLaws.{IsLineOf, AreLinesOf, lines-append, all_printed, all_fit, line_join}

-- ---- the pieces of a refutation

abbrev word_line : List ℕ → List Piece
word_line word = word_piece false word ∷ []

abbrev opening_line : List Piece
opening_line = word_piece false (codes "no") ∷ word_piece true (codes "plan") ∷ []

abbrev value_item : Bool → List ℕ → List Piece
value_item t c = value_piece t c ∷ []

abbrev answer_line : List (List ℕ) → List Piece
answer_line answer = word_piece false (codes "answer") ∷ list_pieces value_item true answer

abbrev close : List Piece
close = mark_piece false (codes ")") ∷ []

-- the pieces behind the bracket, and behind the name
abbrev inside_pieces : List (List ℕ) → List Piece
inside_pieces row = list_pieces value_item false row ++ close

abbrev bracket_pieces : List (List ℕ) → List Piece
bracket_pieces row = mark_piece false (codes "(") ∷ inside_pieces row

abbrev row_line : List ℕ → List (List ℕ) → List Piece
row_line name row = name_piece false name ∷ bracket_pieces row

abbrev fact_line : List Relation → Fact → List Piece
fact_line relations fact = row_line (name_of (slice_get relations fact.rel)) fact.row

abbrev facts_lines : List Relation → List Fact → List ℕ → List (List Piece)
facts_lines relations facts word = map (fact_line relations) facts ++ word_line word ∷ []

abbrev witness_lines : List Relation → Witness → List (List Piece)
witness_lines relations pair = opening_line ∷ answer_line pair.answer ∷ word_line (codes "first") ∷ (facts_lines relations pair.first (codes "second") ++ facts_lines relations pair.second (codes "end"))

-- ---- lines

value_printed : (c : List ℕ) → IsPrinted value_item value_form c
value_printed c = record { lexed = λ t rest stops. (value_is_lexed t c rest stops, tt); reads = λ t. value_reads t c; in_line = λ t. (refl, tt) }

values_printed : (row : List (List ℕ)) → AllByRecursion (IsPrinted value_item value_form) row
values_printed [] = tt
values_printed (c ∷ row) = (value_printed c, values_printed row)

opening_is : IsLineOf opening_line opening_form
opening_is = record {
  some = tt;
  printed = record { lexed = λ rest. (word_is_lexed false (codes "no") (text_of (word_piece true (codes "plan") ∷ []) ++ 10 ∷ rest) refl refl, (word_is_lexed true (codes "plan") (10 ∷ rest) refl refl, tt)); one = (refl, (refl, tt)) };
  reads = λ rest. (refl, (refl, refl));
}

first_is : IsLineOf (word_line (codes "first")) (word_form (codes "first"))
first_is = record { some = tt; printed = record { lexed = λ rest. (word_is_lexed false (codes "first") (10 ∷ rest) refl refl, tt); one = (refl, tt) }; reads = λ rest. (refl, refl) }

second_is : IsLineOf (word_line (codes "second")) (word_form (codes "second"))
second_is = record { some = tt; printed = record { lexed = λ rest. (word_is_lexed false (codes "second") (10 ∷ rest) refl refl, tt); one = (refl, tt) }; reads = λ rest. (refl, refl) }

end_is : IsLineOf (word_line (codes "end")) (word_form (codes "end"))
end_is = record { some = tt; printed = record { lexed = λ rest. (word_is_lexed false (codes "end") (10 ∷ rest) refl refl, tt); one = (refl, tt) }; reads = λ rest. (refl, refl) }

answer_stops : (answer : List (List ℕ)) (rest : List ℕ) → IsSome answer → Stops goes_on (text_of (list_pieces value_item true answer) ++ rest)
answer_stops [] rest some = absurd some
answer_stops (c ∷ answer) rest some = refl

answer_is : (answer : List (List ℕ)) → IsSome answer → IsLineOf (answer_line answer) (answer_form answer)
answer_is answer some =
    let all = values_printed answer in
    let inner = list_reads value_item value_form true answer all in
    record {
      some = tt;
      printed = record {
        lexed = λ rest. (word_is_lexed false (codes "answer") (text_of (list_pieces value_item true answer) ++ 10 ∷ rest) refl (answer_stops answer (10 ∷ rest) some), list_lexed value_item value_form true answer (10 ∷ rest) all refl);
        one = (refl, list_in_line value_item value_form true answer all);
      };
      reads = λ rest. (refl, inner rest);
    }

row_is : (name : List ℕ) (row : List (List ℕ)) → IsSome name → IsLineOf (row_line name row) (row_form name row)
row_is name row named =
    let all = values_printed row in
    let list = list_pieces value_item false row in
    let inner = Reads-append list close (list_form value_form row) (Mark (codes ")") ∷ []) (list_reads value_item value_form false row all) (λ rest. (refl, refl)) in
    record {
      some = tt;
      printed = record {
        lexed = λ rest.
            let inside = AreLexed-append list close (10 ∷ rest) (list_lexed value_item value_form false row (text_of close ++ 10 ∷ rest) all refl) (close_is_lexed false (10 ∷ rest), tt) in
            let bracket = open_is_lexed false (text_of (inside_pieces row) ++ 10 ∷ rest) in
            let name = name_is_lexed false name (text_of (bracket_pieces row) ++ 10 ∷ rest) named refl in
            (name, (bracket, inside));
        one = ((name_in_line false name).0, (refl, AreInLine-append list close (list_in_line value_item value_form false row all) (refl, tt)));
      };
      reads = λ rest. (name_fits false name named, (refl, inner rest));
    }

-- ---- facts that fit

pub record IsReadable (relations : List Relation) (fact : Fact) : Type 0 where
  pub named : IsSome (name_of (slice_get relations fact.rel))
  pub wide : IsSome fact.row
  pub name_is : relation_text (slice_get relations fact.rel) ≡ printed_name (name_of (slice_get relations fact.rel))

pub readable : (schema : Schema) (fact : Fact) → FitsRelation (meaning_of schema) fact.rel fact.row → IsReadable schema.relations fact
readable schema fact fits =
    let among = contains_got schema.relations fact.rel fits.relation fits.there in
    let named = some_listed fits.relation.name (schema.valid.relations_are.named fits.relation among) in
    let wide = (schema.valid.relations_are.columns fits.relation among).some in
    let width = fits.width in
    let back = sym fits.there in
    record {
      named = subst (λ (o : Option Relation). IsSome (name_of o)) back named;
      wide = some_long fact.row (omega (arith, wide, width));
      name_is = subst (λ (o : Option Relation). relation_text o ≡ printed_name (name_of o)) back refl;
    }

all_readable : (schema : Schema) (facts : List Fact) → IsInstance (meaning_of schema) facts → AllByRecursion (IsReadable schema.relations) facts
all_readable schema [] fit = tt
all_readable schema (fact ∷ facts) fit = (readable schema fact (fit fact (contains_here fact facts)), all_readable schema facts (λ other among. fit other (contains_there fact facts other among)))

-- ---- all lines

facts_are : (relations : List Relation) (facts : List Fact) → AllByRecursion (IsReadable relations) facts → AreLinesOf (map (fact_line relations) facts) (map (fact_form relations) facts)
facts_are relations [] all = tt
facts_are relations (fact ∷ facts) all = (row_is (name_of (slice_get relations fact.rel)) fact.row all.0.named, facts_are relations facts all.1)

pair_are : (relations : List Relation) (pair : Witness) → AllByRecursion (IsReadable relations) pair.first → AllByRecursion (IsReadable relations) pair.second → IsSome pair.answer → AreLinesOf (witness_lines relations pair) (witness_forms relations pair)
pair_are relations pair first second some =
    let front = lines-append (map (fact_line relations) pair.first) (word_line (codes "second") ∷ []) (map (fact_form relations) pair.first) (word_form (codes "second") ∷ []) (facts_are relations pair.first first) (second_is, tt) in
    let back = lines-append (map (fact_line relations) pair.second) (word_line (codes "end") ∷ []) (map (fact_form relations) pair.second) (word_form (codes "end") ∷ []) (facts_are relations pair.second second) (end_is, tt) in
    (opening_is, (answer_is pair.answer some, (first_is, lines-append (facts_lines relations pair.first (codes "second")) (facts_lines relations pair.second (codes "end")) (facts_forms relations pair.first (codes "second")) (facts_forms relations pair.second (codes "end")) front back)))

-- ---- the text

value_text : (t : Bool) (c : List ℕ) → text_of (value_item t c) ≡ behind_blank t (printed_value c)
value_text t c = ap (behind_blank t) (append-nil (printed_value c))

further_text : (xs : List (List ℕ)) → text_of (further_pieces value_item xs) ≡ flat_map (λ y. codes ", " ++ printed_value y) xs
further_text [] = refl
further_text (x ∷ xs) =
    ap (λ (r : List ℕ). 44 ∷ r) (text_of-append (value_item true x) (further_pieces value_item xs) ∙ ap (λ (r : List ℕ). r ++ text_of (further_pieces value_item xs)) (value_text true x) ∙ ap (λ (r : List ℕ). 32 ∷ (printed_value x ++ r)) (further_text xs))

blank-append : (t : Bool) (a b : List ℕ) → behind_blank t a ++ b ≡ behind_blank t (a ++ b)
blank-append true a b = refl
blank-append false a b = refl

values_text : (t : Bool) (xs : List (List ℕ)) → IsSome xs → text_of (list_pieces value_item t xs) ≡ behind_blank t (listed printed_value xs)
values_text t [] some = absurd some
values_text t (x ∷ xs) some =
    text_of-append (value_item t x) (further_pieces value_item xs) ∙ ap (λ (r : List ℕ). r ++ text_of (further_pieces value_item xs)) (value_text t x)
    ∙ blank-append t (printed_value x) (text_of (further_pieces value_item xs)) ∙ ap (λ (r : List ℕ). behind_blank t (printed_value x ++ r)) (further_text xs)

row_text : (name : List ℕ) (row : List (List ℕ)) (rest : List ℕ) → IsSome row → text_of (row_line name row) ++ 10 ∷ rest ≡ (printed_name name ++ codes "(" ++ listed printed_value row ++ codes ")\n") ++ rest
row_text name row rest some =
    let list : List ℕ = listed printed_value row in
    let inner : text_of (inside_pieces row) ≡ list ++ 41 ∷ [] = text_of-append (list_pieces value_item false row) close ∙ ap (λ (r : List ℕ). r ++ 41 ∷ []) (values_text false row some) in
    ap (λ (r : List ℕ). (printed_name name ++ 40 ∷ r) ++ 10 ∷ rest) inner ∙ line_join (printed_name name) list rest

fact_is_text : (relations : List Relation) (fact : Fact) (rest : List ℕ) → IsReadable relations fact → text_of (fact_line relations fact) ++ 10 ∷ rest ≡ fact_text relations fact ++ rest
fact_is_text relations fact rest fits =
    row_text (name_of (slice_get relations fact.rel)) fact.row rest fits.wide
    ∙ ap (λ (name : List ℕ). (name ++ codes "(" ++ listed printed_value fact.row ++ codes ")\n") ++ rest) (sym fits.name_is)

facts_text : (relations : List Relation) (facts : List Fact) (more : List (List Piece)) → AllByRecursion (IsReadable relations) facts → lines_text (map (fact_line relations) facts ++ more) ≡ flat_map (fact_text relations) facts ++ lines_text more
facts_text relations [] more all = refl
facts_text relations (fact ∷ facts) more all =
    fact_is_text relations fact (lines_text (map (fact_line relations) facts ++ more)) all.0
    ∙ ap (λ (r : List ℕ). fact_text relations fact ++ r) (facts_text relations facts more all.1) ∙ sym (append_assoc (fact_text relations fact) (flat_map (fact_text relations) facts) (lines_text more))

answer_text : (answer : List (List ℕ)) (rest : List ℕ) → IsSome answer → text_of (answer_line answer) ++ 10 ∷ rest ≡ codes "answer " ++ (listed printed_value answer ++ 10 ∷ rest)
answer_text answer rest some = ap (λ (r : List ℕ). codes "answer" ++ (r ++ 10 ∷ rest)) (values_text true answer some)

joined : (a l b f c g d : List ℕ) → a ++ (l ++ (b ++ (f ++ (c ++ (g ++ d))))) ≡ a ++ l ++ b ++ f ++ c ++ g ++ d
joined a l b f c g d =
    sym (append_assoc a l (b ++ (f ++ (c ++ (g ++ d))))) ∙ sym (append_assoc (a ++ l) b (f ++ (c ++ (g ++ d)))) ∙ sym (append_assoc (a ++ l ++ b) f (c ++ (g ++ d)))
    ∙ sym (append_assoc (a ++ l ++ b ++ f) c (g ++ d)) ∙ sym (append_assoc (a ++ l ++ b ++ f ++ c) g d)

pair_is_text : (relations : List Relation) (pair : Witness) → AllByRecursion (IsReadable relations) pair.first → AllByRecursion (IsReadable relations) pair.second → IsSome pair.answer → lines_text (witness_lines relations pair) ≡ pair_text relations pair
pair_is_text relations pair first second some =
    let front = flat_map (fact_text relations) pair.first in
    let back = flat_map (fact_text relations) pair.second in
    let answer = listed printed_value pair.answer in
    let last : lines_text (facts_lines relations pair.second (codes "end")) ≡ back ++ codes "end\n" = facts_text relations pair.second (word_line (codes "end") ∷ []) second in
    let whole : lines_text (facts_lines relations pair.first (codes "second") ++ facts_lines relations pair.second (codes "end")) ≡ front ++ (codes "second\n" ++ (back ++ codes "end\n")) =
    ap lines_text (append_assoc (map (fact_line relations) pair.first) (word_line (codes "second") ∷ []) (facts_lines relations pair.second (codes "end")))
    ∙ facts_text relations pair.first (word_line (codes "second") ∷ facts_lines relations pair.second (codes "end")) first
    ∙ ap (λ (r : List ℕ). front ++ (codes "second\n" ++ r)) last in
    ap (λ (r : List ℕ). codes "no plan\n" ++ r) (answer_text pair.answer (codes "first\n" ++ lines_text (facts_lines relations pair.first (codes "second") ++ facts_lines relations pair.second (codes "end"))) some)
    ∙ ap (λ (r : List ℕ). codes "no plan\nanswer " ++ (answer ++ (codes "\nfirst\n" ++ r))) whole
    ∙ joined (codes "no plan\nanswer ") answer (codes "\nfirst\n") front (codes "second\n") back (codes "end\n")

-- ---- refutations

says : (schema : Schema) (pair : Witness) → FitsSchema schema pair → SaysWitness schema (pair_text schema.relations pair) pair
says schema pair fits =
    let first = all_readable schema pair.first fits.first in
    let second = all_readable schema pair.second fits.second in
    let some = some_listed pair.answer fits.some in
    let lines = witness_lines schema.relations pair in
    let forms = witness_forms schema.relations pair in
    let are = pair_are schema.relations pair first second some in
    subst (λ (text : List ℕ). SaysWitness schema text pair) (pair_is_text schema.relations pair first second some) (numbered 1 lines, printed_lines lines (all_printed lines forms are), (fits, all_fit 1 lines forms are))

moved : (schema : Schema) (facts listing : List Fact) → IsListing facts listing → IsInstance (meaning_of schema) facts → IsInstance (meaning_of schema) listing
moved schema facts listing is fit fact among = fit fact ((is.same fact).0 among)

pub printed_again : (schema : Schema) (pair : Witness) (text : List ℕ) → FitsSchema schema pair → IsPrintedWitness schema pair text → IsReadAs schema text pair
printed_again schema pair text fits printed =
    let ordered = printed.ordered in
    let is = printed.is_ordered in
    let again : FitsSchema schema ordered = record {
      first = moved schema pair.first ordered.first is.first fits.first;
      second = moved schema pair.second ordered.second is.second fits.second;
      some = λ none. fits.some (sym is.answer ∙ none);
    } in
    record {
      read = ordered;
      says = subst (λ (t : List ℕ). SaysWitness schema t ordered) (sym printed.text_is) (says schema ordered again);
      same = record {
        first_there = λ fact among. (is.first.same fact).1 among;
        first_only = λ fact among. (is.first.same fact).0 among;
        second_there = λ fact among. (is.second.same fact).1 among;
        second_only = λ fact among. (is.second.same fact).0 among;
        answer = is.answer;
      };
    }
