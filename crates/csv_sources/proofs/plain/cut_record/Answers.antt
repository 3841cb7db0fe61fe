use Rattle.std.proofs.Common.{◌≡◌, ◌+◌, ◌-◌, ◌∷◌, ◌++◌, [], ◌∙◌, sym, ap, arith, drop, get_or, length, map, take, Bool, true, false, List, ℕ}
use Rattle.std.specs.List.{AllByRecursion}
use Rattle.std.specs.Prelude.{◌↔◌, IsTrue}
use Rattle.std.proofs.lemmas.List.{length-map, map-append, take_rest}
use Rattle.std.proofs.lemmas.List.Elements.{All-drop}
use Rattle.memchr.specs.Find.{is_byte2}
use Rattle.csv.specs.Reading.{default_config, records}
use Rattle.csv_sources.proofs.Cutting.{IsBlank, at_first, cut_blank, cut_field, cut_line, last_record, left_at, line_feed, no_record}
use Rattle.csv_sources.proofs.Separators.{IsCut, Joins, cut_at, joins_rest}
use denote.Ref.{Bor}
use Rattle.csv_sources.proofs.plain.cut_record.Goals as goal

-- what `is_blank` says of a line
blank_of : (b : Bool) (slice items : List (Bor (List ℕ))) (run : List ℕ) → slice ≡ items → b ≡ true → (IsTrue b ↔ (length slice ≡ 0) × (length run ≡ 0)) → IsBlank (map (λ f. f.now) items) run
blank_of b slice items run same holds says =
    let both = says.0 holds in
    (length-map items (λ f. f.now) ∙ ap (λ (l : List (Bor (List ℕ))). length l) (sym same) ∙ both.0, both.1)

filled_of : (b : Bool) (slice items : List (Bor (List ℕ))) (run : List ℕ) → slice ≡ items → b ≡ false → (IsTrue b ↔ (length slice ≡ 0) × (length run ≡ 0)) → ¬ (IsBlank (map (λ f. f.now) items) run)
filled_of b slice items run same fails says = λ blank.
    let holds : b ≡ true = says.1 (ap (λ (l : List (Bor (List ℕ))). length l) same ∙ sym (length-map items (λ f. f.now)) ∙ blank.0, blank.1) in
    absurd (cc)

pub loop-place-init : goal.loop-place-init
loop-place-init c = record {
  within = omega arith;
  left = c.memchr2_iter-separators.ensures.value;
  same = rw c.clear.ensures.items (at_first c.args.text.now);
}

pub slice_bounds-field-count : goal.slice_bounds-field-count
slice_bounds-field-count c =
    (cut_at c.args.text.now c.loop-place.start c.in-Some.place c.next.new.self c.requires c.loop-place.invariant.within (sym c.loop-place.invariant.left ∙ c.in-Some.ensures.steps)).low

pub slice_bounds-field-start : goal.slice_bounds-field-start
slice_bounds-field-start c =
    (cut_at c.args.text.now c.loop-place.start c.in-Some.place c.next.new.self c.requires c.loop-place.invariant.within (sym c.loop-place.invariant.left ∙ c.in-Some.ensures.steps)).low

pub slice_bounds-field-end : goal.slice_bounds-field-end
slice_bounds-field-end c =
    let cut = cut_at c.args.text.now c.loop-place.start c.in-Some.place c.next.new.self c.requires c.loop-place.invariant.within (sym c.loop-place.invariant.left ∙ c.in-Some.ensures.steps) in
    omega (arith, cut.high)

pub bounds-text-place : goal.bounds-text-place
bounds-text-place c =
    (cut_at c.args.text.now c.loop-place.start c.in-Some.place c.next.new.self c.requires c.loop-place.invariant.within (sym c.loop-place.invariant.left ∙ c.in-Some.ensures.steps)).high

pub loop-place-preserved-in-Continue-1 : goal.loop-place-preserved-in-Continue-1
loop-place-preserved-in-Continue-1 c =
    let text = c.args.text.now in
    let start = c.loop-place.start in
    let place = c.in-Some.place in
    let line = map (λ f. f.now) c.loop-place.fields.items in
    let run = take (place - start) (drop start text) in
    let cut : IsCut text start place c.next.new.self = cut_at text start place c.next.new.self c.requires c.loop-place.invariant.within (sym c.loop-place.invariant.left ∙ c.in-Some.ensures.steps) in
    let pushed : map (λ f. f.now) c.push.new.self.items ≡ line ++ run ∷ [] = ap (map (λ f. f.now)) c.in_ok-push.ensures.items ∙ map-append (λ f. f.now) c.loop-place.fields.items _ in
    record {
      within = omega (arith, cut.high);
      left = cut.onward;
      same = c.loop-place.invariant.same ∙ cut_field line text start place c.next.new.self cut c.if-text-place-eq44.true ∙ ap (λ (l : List (List ℕ)). left_at l (drop (place + 1) text)) (sym pushed);
    }

pub slice_bounds-result-count : goal.slice_bounds-result-count
slice_bounds-result-count c =
    let cut = cut_at c.args.text.now c.loop-place.start c.in-Some.place c.next.new.self c.requires c.loop-place.invariant.within (sym c.loop-place.invariant.left ∙ c.in-Some.ensures.steps) in
    omega (arith, cut.high)

pub slice_bounds-result-start : goal.slice_bounds-result-start
slice_bounds-result-start c =
    let cut = cut_at c.args.text.now c.loop-place.start c.in-Some.place c.next.new.self c.requires c.loop-place.invariant.within (sym c.loop-place.invariant.left ∙ c.in-Some.ensures.steps) in
    omega (arith, cut.high)

pub returns-then-not-is_blank : goal.returns-then-not-is_blank
returns-then-not-is_blank c =
    let text = c.args.text.now in
    let start = c.loop-place.start in
    let place = c.in-Some.place in
    let line = map (λ f. f.now) c.loop-place.fields.items in
    let run = take (place - start) (drop start text) in
    let cut : IsCut text start place c.next.new.self = cut_at text start place c.next.new.self c.requires c.loop-place.invariant.within (sym c.loop-place.invariant.left ∙ c.in-Some.ensures.steps) in
    let pushed : map (λ f. f.now) c.push-then-not-is_blank.new.self.items ≡ line ++ run ∷ [] = ap (map (λ f. f.now)) c.in_ok-push-2.ensures.items ∙ map-append (λ f. f.now) c.loop-place.fields.items _ in
    let feed : get_or text place 0 ≡ 10 = line_feed (get_or text place 0) cut.separates c.if-text-place-eq44.false in
    rw (take_rest text (place + 1)) (
      All-drop (λ b. is_byte2 34 13 b ≡ false) (place + 1) text c.requires,
      c.loop-place.invariant.same ∙ cut_line line text start place c.next.new.self cut feed (filled_of c.is_blank.result c.as_slice.result.now c.loop-place.fields.items run c.as_slice.ensures.value c.if-not-is_blank.true c.is_blank.ensures) ∙ ap (λ (l : List (List ℕ)). l ∷ records default_config (drop (place + 1) text)) (sym pushed),
    )

pub loop-place-preserved : goal.loop-place-preserved
loop-place-preserved c =
    let text = c.args.text.now in
    let start = c.loop-place.start in
    let place = c.in-Some.place in
    let line = map (λ f. f.now) c.loop-place.fields.items in
    let cut : IsCut text start place c.next.new.self = cut_at text start place c.next.new.self c.requires c.loop-place.invariant.within (sym c.loop-place.invariant.left ∙ c.in-Some.ensures.steps) in
    let feed : get_or text place 0 ≡ 10 = line_feed (get_or text place 0) cut.separates c.if-text-place-eq44.false in
    record {
      within = omega (arith, cut.high);
      left = cut.onward;
      same = c.loop-place.invariant.same ∙ cut_blank line text start place c.next.new.self cut feed (blank_of c.is_blank.result c.as_slice.result.now c.loop-place.fields.items (take (place - start) (drop start text)) c.as_slice.ensures.value c.if-not-is_blank.false c.is_blank.ensures);
    }

pub returns-then-is_blank : goal.returns-then-is_blank
returns-then-is_blank c =
    let text = c.args.text.now in
    let start = c.loop-place.start in
    let line = map (λ f. f.now) c.loop-place.fields.items in
    let run = take (length text - start) (drop start text) in
    c.loop-place.invariant.same ∙ ap (left_at line) (sym (take_rest text start)) ∙ no_record line run (blank_of c.is_blank-2.result c.as_slice-2.result.now c.loop-place.fields.items run c.as_slice-2.ensures.value c.if-is_blank.true c.is_blank-2.ensures)

pub returns : goal.returns
returns c =
    let text = c.args.text.now in
    let start = c.loop-place.start in
    let line = map (λ f. f.now) c.loop-place.fields.items in
    let run = take (length text - start) (drop start text) in
    let pushed : map (λ f. f.now) c.push-2.new.self.items ≡ line ++ run ∷ [] = ap (map (λ f. f.now)) c.in_ok-push-3.ensures.items ∙ map-append (λ f. f.now) c.loop-place.fields.items _ in
    let joins : AllByRecursion Joins run = joins_rest text start c.requires c.loop-place.invariant.within (sym c.loop-place.invariant.left ∙ c.in_default.ensures.steps.0) in (
      λ k d low. absurd (omega arith),
      c.loop-place.invariant.same ∙ ap (left_at line) (sym (take_rest text start)) ∙ last_record line run joins (filled_of c.is_blank-2.result c.as_slice-2.result.now c.loop-place.fields.items run c.as_slice-2.ensures.value c.if-is_blank.false c.is_blank-2.ensures) ∙ ap (λ (l : List (List ℕ)). l ∷ records default_config []) (sym pushed),
    )
