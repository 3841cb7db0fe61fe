-- The requests of a round, as its pieces are made.
use Rattle.std.proofs.Common.{◌≡◌, ◌∙◌, ◌≤◌, ℕ, List, ◌++◌, length, length-append, map, nat_eq, append_assoc, sym, ap, subst, arith}
use Rattle.std.specs.Prelude.{Contains, IsSome}
use Rattle.std.proofs.lemmas.List.{map-append, append-nil, length-map}
use Rattle.std.proofs.lemmas.List.Elements.{Contains-append_left, Contains-append_right}
use Rattle.lists.proofs.Members.{contains_got}
use Rattle.lists.proofs.Places.{got_member}
use Rattle.meaning.specs.declared.types.Request.{Request}
use Rattle.access_schema.specs.declared.schema.Schema.{Schema}
use Rattle.source_trait.specs.declared.work.Ask.{Ask}
use Rattle.middleware.specs.PlanSources.{line_for}
use Rattle.middleware.specs.LaneRounds.{requests_in, HaveTheirKinds}
use Rattle.crawl_rounds.specs.Rows.{Marked, fresh_of}
use Rattle.crawl_rounds.specs.Rounds.{Class}
use Rattle.crawl.specs.declared.cursor.Cursor.{Cursor}
use Rattle.crawl.specs.declared.known.KnownValues.{KnownValues}
use Rattle.crawl.specs.declared.progress.Progress.{Progress}
use Rattle.crawl.specs.Asking.{round_asks}
use Rattle.crawl.specs.Knowing.{marked_of}
use Rattle.crawl.specs.Pieces.{AreEnough, class_blocks, left_of}
use Rattle.crawl.specs.Progress.{AreKnownTo}
use Rattle.crawl.specs.Rounding.{next_requests}
use Rattle.crawl.proofs.Beginning.{round_whole}
use Rattle.crawl.proofs.Cutting.{classes_whole, class_none}
use Rattle.crawl.proofs.Wanting.{asked_round, asked_known, kinds_round}

module _ (schema : Schema) (classes : List Class) (all : List Marked) (start : Progress) where
  abbrev whole : List Ask
  whole = round_asks schema (nat_eq start.rounds 0) (marked_of start.known) classes

  abbrev left_at : Cursor → List Ask
  left_at cursor = left_of schema (nat_eq start.rounds 0) all start.known.fresh.items classes cursor

  pub requests_whole : requests_in whole ≡ next_requests classes start
  requests_whole = asked_round schema (nat_eq start.rounds 0) (marked_of start.known) classes

  pub whole_long : length whole ≡ length (next_requests classes start)
  whole_long = sym (length-map whole (λ (a : Ask). a.request)) ∙ ap length requests_whole

  pub begun : fresh_of (marked_of start.known) ≡ start.known.fresh.items
      → AreEnough (nat_eq start.rounds 0) start.known classes all
      → (cursor : Cursor) → cursor ≡ record { class = 0; row = 0; value = 0 } → left_at cursor ≡ whole
  begun fresh enough cursor at =
      ap (λ (c : Cursor). left_at c) at
      ∙ classes_whole (map (class_blocks schema (nat_eq start.rounds 0) all start.known.fresh.items) classes)
      ∙ round_whole schema (nat_eq start.rounds 0) start.known classes all start.known.fresh.items (sym fresh) enough

  -- behind the last class nothing is left
  pub through : (done : List Ask) (cursor : Cursor) → length classes ≤ cursor.class → done ++ left_at cursor ≡ whole
      → done ≡ whole
  through done cursor far parts =
      sym (append-nil done)
      ∙ ap (λ (l : List Ask). done ++ l) (sym (class_none (class_blocks schema (nat_eq start.rounds 0) all start.known.fresh.items) classes cursor.class cursor.row cursor.value far))
      ∙ parts

  module _ (done : List Ask) (now : Progress) (known : now.known ≡ start.known) (rounds : now.rounds ≡ start.rounds) (old : Cursor) (parts : done ++ left_at old ≡ whole) where
    pub unmade : requests_in done ++ requests_in (left_at old) ≡ next_requests classes start
    unmade = sym (map-append (λ (a : Ask). a.request) done (left_at old)) ∙ ap requests_in parts ∙ requests_whole

    module _ (piece items : List Ask) (lent : piece ≡ items) (new : Cursor)
        (made : items ++ left_of schema (nat_eq now.rounds 0) all now.known.fresh.items classes new ≡ left_of schema (nat_eq now.rounds 0) all now.known.fresh.items classes old) where
      made_here : piece ++ left_at new ≡ left_at old
      made_here =
          ap (λ (l : List Ask). l ++ left_at new) lent
          ∙ subst (λ (k : KnownValues). items ++ left_of schema (nat_eq start.rounds 0) all k.fresh.items classes new ≡ left_of schema (nat_eq start.rounds 0) all k.fresh.items classes old) known
          (subst (λ n. items ++ left_of schema (nat_eq n 0) all now.known.fresh.items classes new ≡ left_of schema (nat_eq n 0) all now.known.fresh.items classes old) rounds made)

      all_parts : done ++ (piece ++ left_at new) ≡ whole
      all_parts = ap (λ (l : List Ask). done ++ l) made_here ∙ parts

      pub parts_more : (done ++ piece) ++ left_at new ≡ whole
      parts_more = append_assoc done piece (left_at new) ∙ all_parts

      pub requests_more : requests_in done ++ (requests_in piece ++ requests_in (left_at new)) ≡ next_requests classes start
      requests_more =
          ap (λ (l : List Request). requests_in done ++ l) (sym (map-append (λ (a : Ask). a.request) piece (left_at new)))
          ∙ sym (map-append (λ (a : Ask). a.request) done (piece ++ left_at new)) ∙ ap requests_in all_parts ∙ requests_whole

      pub piece_within : (ask : Ask) → Contains piece ask → Contains whole ask
      piece_within ask c = subst (λ (l : List Ask). Contains l ask) all_parts
          (Contains-append_right done (piece ++ left_at new) ask (Contains-append_left piece (left_at new) ask c))

      pub piece_few : (n : ℕ) → length (next_requests classes start) ≤ n → length piece ≤ n
      piece_few n few =
          let a = length-append done (piece ++ left_at new) in
          let b = length-append piece (left_at new) in
          let c = ap length all_parts in
          let d = whole_long in
          omega (arith, a, b, c, d, few)

      pub piece_known : AreKnownTo piece now.known
      piece_known ask c v d = subst (λ (k : KnownValues). Contains k.all.keys v) (sym known)
          (asked_known start.known (nat_eq start.rounds 0) classes whole requests_whole ask (piece_within ask c) v d)

      pub piece_kinds : ((class : Class) → Contains classes class → IsSome (line_for class.0 schema.sources))
          → HaveTheirKinds schema piece
      piece_kinds lines k ask at =
          let (n, there) = got_member whole ask (piece_within ask (contains_got piece k ask at)) in
          kinds_round schema (nat_eq start.rounds 0) (marked_of start.known) classes lines n ask there
