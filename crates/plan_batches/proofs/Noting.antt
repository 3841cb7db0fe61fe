-- What the plans of a batch want in a round: one plan more.
use Rattle.std.proofs.Common.{◌≡◌, ⊎_elim, ℕ, List, [], ◌∷◌, ◌++◌, Some, sym, ◌∙◌, ap, subst, append_assoc, arith}
use Rattle.std.specs.Prelude.{Contains}
use Rattle.std.proofs.lemmas.List.{append-nil, map-append}
use Rattle.std.proofs.lemmas.List.Concat.{flat_map-append}
use Rattle.std.proofs.lemmas.List.Elements.{Contains-append_cases}
use Rattle.lists.proofs.Members.{contains_got, contains_one}
use Rattle.lists.proofs.Places.{got_member}
use Rattle.meaning.specs.declared.types.Plan.{Plan}
use Rattle.meaning.specs.declared.types.Request.{Request}
use Rattle.access_schema.specs.declared.schema.Schema.{Schema}
use Rattle.access_schema.specs.declared.schema.SourceLine.{SourceLine}
use Rattle.source_trait.specs.Asking.{RowList}
use Rattle.source_trait.specs.declared.work.Ask.{Ask}
use Rattle.middleware.specs.PlanSources.{line_for}
use Rattle.middleware.specs.Rounds.{requests_of}
use Rattle.shared_rounds.specs.SharedRounds.{wanted_in}
use Rattle.shared_rounds.specs.Books.{AreNumbers, IsBook, NotesAll, asked_in, with_asked}
use Rattle.shared_rounds.specs.declared.book.Book.{Book}
use Rattle.shared_rounds.proofs.Booking.{asked_push}
use Rattle.plan_course.specs.Turns.{asks_of}
use Rattle.plan_batches.specs.Members.{HasNoted, Wants}
use Rattle.plan_batches.specs.Rounding.{AreItsNumbers, TurnsNoted, turns_by}
use Rattle.plan_batches.specs.declared.member.Member.{Member}
use Rattle.plan_batches.specs.declared.member.Going.{Going}
use Rattle.plan_batches.proofs.Numbering.{numbers_later}
use Rattle.plan_batches.proofs.Pairing.{each_none, each_push}

pub noted_none : (schema : Schema) (book : Book) → IsBook book → TurnsNoted schema [] [] book book []
noted_none schema book is = record {
  wants = each_none (Wants schema);
  is_book = is;
  asked = sym (append-nil (asked_in book.asked.items));
  are = λ going c. absurd (none going c);
  kinds = λ k. k;
  onward = ([], sym (append-nil book.asked.items));
}
  where
    none : (going : Going) → Contains [] going → ⊥
    none going c = omega arith

-- the numbers that stand in a book stand in it later
pub numbers_onward : (old new : Book) (more : List Ask) → new.asked.items ≡ old.asked.items ++ more → (requests : List Request) (numbers : List ℕ)
    → AreNumbers (asked_in old.asked.items) requests numbers → AreNumbers (asked_in new.asked.items) requests numbers
numbers_onward old new more is requests numbers are =
    subst (λ (l : List Request). AreNumbers l requests numbers)
    (sym (ap asked_in is ∙ map-append (λ (a : Ask). a.request) old.asked.items more))
    (numbers_later (asked_in old.asked.items) (asked_in more) requests numbers are)

pub noted_more : (schema : Schema) (plans : List Plan) (members : List Member) (old mid new : Book) (goings : List Going) (plan : Plan) (member : Member)
    (going : Going) → TurnsNoted schema plans members old mid goings → Wants schema plan member going
    → HasNoted schema (asks_of going.next) mid new going.numbers.items
    → TurnsNoted schema (plans ++ plan ∷ []) (members ++ member ∷ []) old new (goings ++ going ∷ [])
noted_more schema plans members old mid new goings plan member going t w h = record {
  wants = each_push (Wants schema) plans members goings plan member going t.wants w;
  is_book = h.is_book;
  asked = h.asked ∙ ap (λ (l : List Request). with_asked l (asks_of going.next)) t.asked
      ∙ sym (asked_push (wanted_in (turns_by goings)) (asks_of going.next) (asked_in old.asked.items))
      ∙ ap (with_asked (asked_in old.asked.items)) (sym wanted);
  are = λ other c. ⊎_elim
      (λ l. numbers_onward mid new h.onward.0 h.onward.1 (asks_of other.next) other.numbers.items (t.are other l))
      (λ l. subst (λ (g : Going). AreItsNumbers (asked_in new.asked.items) g) (contains_one going other l) h.are)
      (Contains-append_cases goings (going ∷ []) other c);
  kinds = λ k. h.kinds (t.kinds k);
  onward = (t.onward.0 ++ h.onward.0, h.onward.1 ∙ ap (λ (l : List Ask). l ++ h.onward.0) t.onward.1 ∙ append_assoc old.asked.items t.onward.0 h.onward.0);
}
  where
    wanted : wanted_in (turns_by (goings ++ going ∷ [])) ≡ wanted_in (turns_by goings) ++ asks_of going.next
    wanted = ap wanted_in (map-append (λ (g : Going). asks_of g.next) goings (going ∷ []))
        ∙ flat_map-append (λ (turn : List Request). turn) (turns_by goings) (asks_of going.next ∷ [])
        ∙ ap (λ (l : List Request). wanted_in (turns_by goings) ++ l) (append-nil (asks_of going.next))

-- the requests of a step, as a book notes them
pub noted_all : (schema : Schema) (line : SourceLine) (rel : ℕ) (positions : List ℕ) (list : RowList) (old new : Book) (numbers : List ℕ)
    → line_for rel schema.sources ≡ Some line → NotesAll line.kind rel positions list old new numbers
    → HasNoted schema (requests_of rel positions list) old new numbers
noted_all schema line rel positions list old new numbers line_is notes = record {
  is_book = notes.is_book;
  asked = notes.asked;
  are = notes.are;
  kinds = λ kinds k ask at. ⊎_elim
      (λ l. let (j, its) = got_member old.asked.items ask l in kinds j ask its)
      (λ (kind, its_rel, its_positions, among). record {
        line = line;
        line_is = ap (λ r. line_for r schema.sources) its_rel ∙ line_is;
        kind = kind;
      })
      (notes.kinds ask (contains_got new.asked.items k ask at));
  onward = notes.onward;
}
