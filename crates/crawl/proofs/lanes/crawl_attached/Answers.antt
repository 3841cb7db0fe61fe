use Rattle.std.proofs.Common.{◌≡◌, ◌∙◌, true, false, List, length, map, refl, sym, subst, arith, eq-eqb}
use Rattle.std.proofs.lemmas.Bool.{eqb-true}
use Rattle.std.proofs.lemmas.List.{length-map}
use Rattle.meaning.specs.declared.types.Fact.{Fact}
use Rattle.meaning.specs.declared.types.Method.{Method}
use Rattle.crawl_rounds.specs.Rounds.{AreClasses}
use Rattle.crawl_rounds.specs.Lent.{lent_class}
use Rattle.crawl.specs.Crawling.{HasCrawled}
use Rattle.crawl.proofs.CrawledLanes.{empty_list, first_there, some_reachable, none_reachable}
use Rattle.crawl.proofs.Reaching.{reached_end, reached_full, halts_unbegun, crawled_none}
use Rattle.crawl.proofs.lanes.crawl_attached.Goals as goal

clash : false ≡ true → ⊥
clash e = cc

pub returns-in-Err : goal.returns-in-Err
returns-in-Err g c = record {
  crawled = tt;
  once = tt;
  fits = tt;
  integers = tt;
  stops = halts_unbegun g.S.Source.seen c.args.schema.now c.args.cap c.args.lanes.now;
  idle = λ none. refl;
}

pub returns-then-is_empty-clause-crawled : goal.returns-then-is_empty-clause-crawled
returns-then-is_empty-clause-crawled g c =
    let empty = empty_list c.as_slice-lent.result.now (eqb-true (length c.as_slice-lent.result.now) 0 (sym c.is_empty.ensures ∙ c.if-is_empty.true)) in
    subst (λ (part : List Fact). HasCrawled g.S.Source.seen c.args.schema.now c.args.cap part c.args.lanes.now c.args.lanes.now) (sym c.new.ensures)
    (crawled_none g.S.Source.seen c.args.schema.now c.args.cap c.args.lanes.now
    (subst (λ l. AreClasses c.args.schema.now.methods (map lent_class l)) empty (subst (λ (m : List Method). AreClasses m (map lent_class c.as_slice-lent.result.now)) c.as_slice.ensures (subst (λ l. AreClasses c.as_slice.result.now (map lent_class l)) (sym c.as_slice-lent.ensures.value) c.in-Ok.ensures))))

pub all_rounds-requires-clause-lanes : goal.all_rounds-requires-clause-lanes
all_rounds-requires-clause-lanes g c κs within =
    let (rel, reachable) = (let nonempty = first_there c.as_slice-lent.result.now (λ e. clash (sym c.if-is_empty.false ∙ c.is_empty.ensures ∙ eq-eqb (length c.as_slice-lent.result.now) 0 e)) in
    let long = length-map c.as_slice-lent.result.now lent_class in
    some_reachable c.args.schema.now (map lent_class c.as_slice-lent.result.now) (subst (λ (m : List Method). AreClasses m (map lent_class c.as_slice-lent.result.now)) c.as_slice.ensures (subst (λ l. AreClasses c.as_slice.result.now (map lent_class l)) (sym c.as_slice-lent.ensures.value) c.in-Ok.ensures)) (omega (arith, nonempty, long))) in
    (c.requires.some rel reachable, c.requires.lanes)

pub returns-in-Ok-each_once-clause-crawled : goal.returns-in-Ok-each_once-clause-crawled
returns-in-Ok-each_once-clause-crawled g c =
    reached_end g.S.Source.seen c.args.schema.now (map lent_class c.as_slice-lent.result.now) (subst (λ (m : List Method). AreClasses m (map lent_class c.as_slice-lent.result.now)) c.as_slice.ensures (subst (λ l. AreClasses c.as_slice.result.now (map lent_class l)) (sym c.as_slice-lent.ensures.value) c.in-Ok.ensures))
    c.args.cap c.in-Ok-all_rounds.progress c.args.lanes.now c.all_rounds.new.lanes c.in-Ok-all_rounds.ensures.reached c.in-Ok-all_rounds.ensures.last
    c.in-Ok-each_once.facts c.in-Ok-each_once.ensures.facts

pub returns-in-Ok-each_once-clause-fits : goal.returns-in-Ok-each_once-clause-fits
returns-in-Ok-each_once-clause-fits g c = λ fact among.
    let h = c.in-Ok-all_rounds.ensures.reached in
    h.fits fact ((h.facts fact).0 ((c.in-Ok-each_once.ensures.facts fact).0 among))

pub returns-in-Ok-each_once-clause-integers : goal.returns-in-Ok-each_once-clause-integers
returns-in-Ok-each_once-clause-integers g c = λ fact among.
    let h = c.in-Ok-all_rounds.ensures.reached in
    h.integers fact ((h.facts fact).0 ((c.in-Ok-each_once.ensures.facts fact).0 among))

pub returns-in-Ok-each_once-clause-idle : goal.returns-in-Ok-each_once-clause-idle
returns-in-Ok-each_once-clause-idle g c = λ none.
    let (rel, reachable) = (let nonempty = first_there c.as_slice-lent.result.now (λ e. clash (sym c.if-is_empty.false ∙ c.is_empty.ensures ∙ eq-eqb (length c.as_slice-lent.result.now) 0 e)) in
    let long = length-map c.as_slice-lent.result.now lent_class in
    some_reachable c.args.schema.now (map lent_class c.as_slice-lent.result.now) (subst (λ (m : List Method). AreClasses m (map lent_class c.as_slice-lent.result.now)) c.as_slice.ensures (subst (λ l. AreClasses c.as_slice.result.now (map lent_class l)) (sym c.as_slice-lent.ensures.value) c.in-Ok.ensures)) (omega (arith, nonempty, long))) in
    absurd (none_reachable c.args.schema.now none rel reachable)

pub returns-in-Ok-all_rounds-clause-stops : goal.returns-in-Ok-all_rounds-clause-stops
returns-in-Ok-all_rounds-clause-stops g c =
    reached_full g.S.Source.seen c.args.schema.now (map lent_class c.as_slice-lent.result.now) (subst (λ (m : List Method). AreClasses m (map lent_class c.as_slice-lent.result.now)) c.as_slice.ensures (subst (λ l. AreClasses c.as_slice.result.now (map lent_class l)) (sym c.as_slice-lent.ensures.value) c.in-Ok.ensures))
    c.args.cap c.in-Ok-all_rounds.progress c.args.lanes.now c.all_rounds.new.lanes c.in-Ok-all_rounds.ensures.reached

pub returns-in-Ok-all_rounds-clause-idle : goal.returns-in-Ok-all_rounds-clause-idle
returns-in-Ok-all_rounds-clause-idle g c = λ none.
    let (rel, reachable) = (let nonempty = first_there c.as_slice-lent.result.now (λ e. clash (sym c.if-is_empty.false ∙ c.is_empty.ensures ∙ eq-eqb (length c.as_slice-lent.result.now) 0 e)) in
    let long = length-map c.as_slice-lent.result.now lent_class in
    some_reachable c.args.schema.now (map lent_class c.as_slice-lent.result.now) (subst (λ (m : List Method). AreClasses m (map lent_class c.as_slice-lent.result.now)) c.as_slice.ensures (subst (λ l. AreClasses c.as_slice.result.now (map lent_class l)) (sym c.as_slice-lent.ensures.value) c.in-Ok.ensures)) (omega (arith, nonempty, long))) in
    absurd (none_reachable c.args.schema.now none rel reachable)

pub returns : goal.returns
returns g c = record {
  crawled = tt;
  once = tt;
  fits = tt;
  integers = tt;
  stops = c.in-Err-all_rounds.ensures.stops;
  idle = λ none.
      let (rel, reachable) = (let nonempty = first_there c.as_slice-lent.result.now (λ e. clash (sym c.if-is_empty.false ∙ c.is_empty.ensures ∙ eq-eqb (length c.as_slice-lent.result.now) 0 e)) in
      let long = length-map c.as_slice-lent.result.now lent_class in
      some_reachable c.args.schema.now (map lent_class c.as_slice-lent.result.now) (subst (λ (m : List Method). AreClasses m (map lent_class c.as_slice-lent.result.now)) c.as_slice.ensures (subst (λ l. AreClasses c.as_slice.result.now (map lent_class l)) (sym c.as_slice-lent.ensures.value) c.in-Ok.ensures)) (omega (arith, nonempty, long))) in
      absurd (none_reachable c.args.schema.now none rel reachable);
}
