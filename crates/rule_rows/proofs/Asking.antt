-- What asking relations one after another does to a lane.
use Rattle.std.proofs.Common.{◌≡◌, ◌⊎◌, inl, inr, ◌+◌, ◌<◌, ℕ, zero, suc, List, [], ◌∷◌, ◌++◌, length, take, get_or, Option, Some, refl, sym, ◌∙◌, ap, subst, append_assoc, arith}
use Rattle.std.specs.Prelude.{IsSome, Ok, Err, Result, slice_get}
use Rattle.std.proofs.lemmas.List.{append-nil, take_more, take_all}
use Rattle.std.proofs.lemmas.Option.{slice_get-get_or, slice_get_within}
use Rattle.std.proofs.Math.Seq.{take-nil}
use Rattle.meaning.specs.declared.types.Fact.{Fact}
use Rattle.access_schema.specs.declared.schema.Schema.{Schema}
use Rattle.access_schema.specs.Meaning.{meaning_of}
use Rattle.bad_numbers.specs.Numbers.{HaveIntegers, IsBadColumn}
use Rattle.source_trait.specs.Asking.{RowList, Seen, Attached, CallGives, facts_of}
use Rattle.source_trait.specs.Lanes.{AtKind}
use Rattle.source_trait.specs.declared.source.CallFault.{CallFault}
use Rattle.source_trait.specs.declared.source.CallFault.TheVariants as call
use Rattle.source_trait.specs.declared.lanes.Kind.{Kind}
use Rattle.source_trait.proofs.LaneSteps.{StepsOn-keeps}
use Rattle.middleware.specs.LaneRunning.{IsAttachedTo}
use Rattle.rule_rows.specs.declared.fault.WholeFault.{WholeFault}
use Rattle.rule_rows.specs.declared.fault.WholeFault.TheVariants as whole
use Rattle.rule_rows.specs.Asking.{IsReady, AsksOne, AsksInOrder, AsksPart, AskStop}
use Rattle.rule_rows.specs.Asking.AskStop.{no_memory, failed, bad_number}

module _ {S : Type 0} (seen : S → Seen) (schema : Schema) where
  abbrev Gives : ℕ → Result RowList CallFault → S → S → Type 0
  Gives rel result s t = CallGives (seen s) (seen t) rel [] [] result

  -- what a request keeps of a source
  pub one_keeps : (rel : ℕ) (result : Result RowList CallFault) (old new : List (Kind S)) → AsksOne seen schema rel result old new → (kind : List ℕ) (P : S → Type 0) → ((s t : S) → P s → Gives rel result s t → P t) → AtKind old kind P → AtKind new kind P
  one_keeps rel result old new one kind P keeps h = StepsOn-keeps old new (Gives rel result) one.line.kind kind P keeps one.steps h

  one_ready : (rel : ℕ) (result : Result RowList CallFault) (old new : List (Kind S)) → AsksOne seen schema rel result old new → (other : ℕ) → IsReady seen schema old other → IsReady seen schema new other
  one_ready rel result old new one other ready = record {
    line = ready.line;
    line_is = ready.line_is;
    attached = one_keeps rel result old new one ready.line.kind (λ s. IsSome ((seen s).attached other))
        (λ s t has gives. subst (λ (f : ℕ → Option Attached). IsSome (f other)) (sym gives.attached) has) ready.attached;
  }

  pub asked_ready : (rels : List ℕ) (facts : List Fact) (old new : List (Kind S)) → AsksInOrder seen schema rels facts old new → (other : ℕ) → IsReady seen schema old other → IsReady seen schema new other
  asked_ready [] facts old new (none, e) other ready = subst (λ (l : List (Kind S)). IsReady seen schema l other) (sym e) ready
  asked_ready (rel ∷ rels) facts old new (rows, rest, mid, e, one, integers, later) other ready = asked_ready rels rest mid new later other (one_ready rel (Ok rows) old mid one other ready)

  -- and so does what is attached with its columns and its locator
  one_attached : (rel : ℕ) (result : Result RowList CallFault) (old new : List (Kind S)) → AsksOne seen schema rel result old new → (other : ℕ)
      → IsAttachedTo seen schema other old → IsAttachedTo seen schema other new
  one_attached rel result old new one other a = record {
    relation = a.relation;
    line = a.line;
    relation_is = a.relation_is;
    line_is = a.line_is;
    attached = one_keeps rel result old new one a.line.kind (λ s. (seen s).attached other ≡ Some (a.relation.columns, a.line.locator))
        (λ s t has gives. subst (λ (f : ℕ → Option Attached). f other ≡ Some (a.relation.columns, a.line.locator)) (sym gives.attached) has) a.attached;
  }

  pub asked_attached : (rels : List ℕ) (facts : List Fact) (old new : List (Kind S)) → AsksInOrder seen schema rels facts old new → (other : ℕ)
      → IsAttachedTo seen schema other old → IsAttachedTo seen schema other new
  asked_attached [] facts old new (none, e) other a = subst (λ (l : List (Kind S)). IsAttachedTo seen schema other l) (sym e) a
  asked_attached (rel ∷ rels) facts old new (rows, rest, mid, e, one, integers, later) other a =
      asked_attached rels rest mid new later other (one_attached rel (Ok rows) old mid one other a)

  -- relations that are asked after others
  asks_more : (rels others : List ℕ) (facts more : List Fact) (old mid new : List (Kind S)) → AsksInOrder seen schema rels facts old mid →
      AsksInOrder seen schema others more mid new → AsksInOrder seen schema (rels ++ others) (facts ++ more) old new
  asks_more [] others facts more old mid new (none, e) later =
      subst (λ (l : List Fact). AsksInOrder seen schema others (l ++ more) old new) (sym none)
      (subst (λ (l : List (Kind S)). AsksInOrder seen schema others more l new) e later)
  asks_more (r ∷ rels) others facts more old mid new (its, rest, next, e, first, integers, order) later = (
    its,
    rest ++ more,
    next,
    ap (λ (l : List Fact). l ++ more) e ∙ append_assoc (facts_of r its) rest more,
    first,
    integers,
    asks_more rels others rest more next mid new order later,
  )

  pub asks_take : (rels : List ℕ) (i : ℕ) → i < length rels → (facts more all : List Fact) → all ≡ facts ++ more →
      (old mid new : List (Kind S)) → AsksInOrder seen schema (take i rels) facts old mid →
      AsksInOrder seen schema (get_or rels i 0 ∷ []) more mid new → AsksInOrder seen schema (take (i + 1) rels) all old new
  asks_take rels i less facts more all is old mid new order next =
      subst (λ (f : List Fact). AsksInOrder seen schema (take (i + 1) rels) f old new) (sym is)
      (subst (λ (r : List ℕ). AsksInOrder seen schema r (facts ++ more) old new) (sym (take_more rels i 0 less))
      (asks_more (take i rels) (get_or rels i 0 ∷ []) facts more old mid new order next))

  -- there was no memory after all were asked
  pub asks_whole : (rels : List ℕ) (facts : List Fact) (old new : List (Kind S)) → AsksInOrder seen schema rels facts old new → AsksPart seen schema rels old new
  asks_whole rels facts old new order = record {
    n = length rels;
    facts = facts;
    middle = new;
    asked = subst (λ (r : List ℕ). AsksInOrder seen schema r facts old new) (sym (take_all (length rels) rels (omega arith))) order;
    last = inl refl;
  }

  -- one relation alone: its request failed, or found no memory, or its rows have a bad number, or there was no memory for its facts
  module _ (rel : ℕ) (old new : List (Kind S)) where
    pub one_asked : (rows : RowList) → AsksOne seen schema rel (Ok rows) old new → HaveIntegers (meaning_of schema) rel rows →
        AsksInOrder seen schema (rel ∷ []) (facts_of rel rows) old new
    one_asked rows one integers = (rows, [], new, sym (append-nil (facts_of rel rows)), one, integers, (refl, refl))

    pub one_dropped : (rows : RowList) → AsksOne seen schema rel (Ok rows) old new → HaveIntegers (meaning_of schema) rel rows →
        AskStop seen schema (rel ∷ []) old new whole.NoMemory
    one_dropped rows one integers = no_memory (asks_whole (rel ∷ []) (facts_of rel rows) old new (one_asked rows one integers))

    pub one_full : AsksOne seen schema rel (Err call.NoMemory) old new → AskStop seen schema (rel ∷ []) old new whole.NoMemory
    one_full one = no_memory (record { n = 0; facts = []; middle = old; asked = (refl, refl); last = inr (rel, refl, one) })

    pub one_failed : AsksOne seen schema rel (Err call.Failed) old new → AskStop seen schema (rel ∷ []) old new (whole.CallFailed rel)
    one_failed one = failed rel (record { n = 0; at = refl; facts = []; middle = old; asked = (refl, refl); failed = one })

    pub one_bad : (rows : RowList) (column : ℕ) → AsksOne seen schema rel (Ok rows) old new →
        IsBadColumn (meaning_of schema) rel rows column → AskStop seen schema (rel ∷ []) old new (whole.BadNumber rel column)
    one_bad rows column one bad = bad_number rel column (record {
      n = 0;
      at = refl;
      facts = [];
      middle = old;
      asked = (refl, refl);
      rows = rows;
      came = one;
      bad = bad;
    })

  -- what stops the next relation, where others were asked before, stops all
  module _ (rels : List ℕ) (i : ℕ) (less : i < length rels) (facts : List Fact) (old mid new : List (Kind S))
      (order : AsksInOrder seen schema (take i rels) facts old mid) where
    abbrev next : List ℕ
    next = get_or rels i 0 ∷ []

    -- nothing was asked before the one relation
    begun : (n rel : ℕ) → slice_get next n ≡ Some rel → (more : List Fact) (middle : List (Kind S)) →
        AsksInOrder seen schema (take n next) more mid middle → (slice_get rels i ≡ Some rel) × (middle ≡ mid)
    begun zero rel at more middle asked = (slice_get-get_or rels i 0 less ∙ at, asked.1)
    begun (suc k) rel at more middle asked = let low = slice_get_within next (suc k) rel at in absurd (omega (arith, low))

    part_later : (n : ℕ) (more : List Fact) (middle : List (Kind S)) → AsksInOrder seen schema (take n next) more mid middle
        → ((new ≡ middle) ⊎ ((rel : ℕ) × (slice_get next n ≡ Some rel) × AsksOne seen schema rel (Err call.NoMemory) middle new))
        → AsksPart seen schema rels old new
    part_later zero more middle asked (inl ends) =
        record { n = i; facts = facts; middle = mid; asked = order; last = inl (ends ∙ asked.1) }
    part_later (suc k) more middle asked (inl ends) = record {
      n = i + 1;
      facts = facts ++ more;
      middle = middle;
      asked = asks_take rels i less facts more (facts ++ more) refl old mid middle order
          (subst (λ (l : List ℕ). AsksInOrder seen schema (get_or rels i 0 ∷ l) more mid middle) (take-nil k) asked);
      last = inl ends;
    }
    part_later n more middle asked (inr (rel, at, one)) =
        let (place, same) = begun n rel at more middle asked in
        let last = subst (λ (l : List (Kind S)). AsksOne seen schema rel (Err call.NoMemory) l new) same one in
        record { n = i; facts = facts; middle = mid; asked = order; last = inr (rel, place, last) }

    pub stops_later : (why : WholeFault) → AskStop seen schema next mid new why → AskStop seen schema rels old new why
    stops_later why (no_memory part) = no_memory (part_later part.n part.facts part.middle part.asked part.last)
    stops_later why (failed rel b) =
        let (place, same) = begun b.n rel b.at b.facts b.middle b.asked in
        let fails = subst (λ (l : List (Kind S)). AsksOne seen schema rel (Err call.Failed) l new) same b.failed in
        failed rel (record { n = i; at = place; facts = facts; middle = mid; asked = order; failed = fails })
    stops_later why (bad_number rel column b) =
        let (place, same) = begun b.n rel b.at b.facts b.middle b.asked in
        bad_number rel column (record {
          n = i;
          at = place;
          facts = facts;
          middle = mid;
          asked = order;
          rows = b.rows;
          came = subst (λ (l : List (Kind S)). AsksOne seen schema rel (Ok b.rows) l new) same b.came;
          bad = b.bad;
        })
