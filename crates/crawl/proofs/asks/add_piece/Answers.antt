use Rattle.std.proofs.Common.{◌≡◌, ◌+◌, ◌++◌, [], Bool, if◌then◌else◌, map, sym, ap, subst, arith}
use Rattle.lists.proofs.Members.{contains_map, map_got}
use Rattle.lists.proofs.Places.{got_indexed}
use Rattle.crawl_rounds.specs.Lent.{lent_class}
use Rattle.crawl.specs.declared.cursor.Cursor.{Cursor}
use Rattle.crawl.specs.Pieces.{class_blocks, left_in, left_of}
use Rattle.crawl.proofs.Cutting.{class_cut, class_through}
use Rattle.crawl.proofs.asks.add_piece.Goals as goal

pub add_class-requires : goal.add_class-requires
add_class-requires c = record {
  line = c.requires.lines (lent_class c.index-classes-cursor.result)
      (contains_map lent_class c.args.classes.now c.index-classes-cursor.result (c.loop-cursor.cursor.class, c.loop-cursor-test.true, sym c.index-classes-cursor.is));
}

pub returns-then-not-branch-clause-parts : goal.returns-then-not-branch-clause-parts
returns-then-not-branch-clause-parts c =
    let classes = c.args.classes.now in
    let class = c.index-classes-cursor.result in
    let blocks = class_blocks c.args.schema.now c.args.first c.args.all.now c.args.fresh.now in
    let front = c.loop-cursor.asks.list.items in
    let now = c.add_class.new.asks.list.items in
    let old = c.loop-cursor.cursor in
    let new = c.add_class.new.cursor in
    class_cut blocks (map lent_class classes) front _ old.class old.row old.value c.loop-cursor.invariant.parts
    (lent_class class) (map_got lent_class classes old.class class (got_indexed classes old.class class c.loop-cursor-test.true c.index-classes-cursor.is)) now
    new.class new.row new.value c.in_ok-add_class.ensures.class
    (subst (λ (b : Bool). now ++ (if b then [] else left_in (blocks (lent_class class)) new.row new.value) ≡ front ++ left_in (blocks (lent_class class)) old.row old.value)
    c.if-not-branch.true c.in_ok-add_class.ensures.parts)

pub loop-cursor-preserved : goal.loop-cursor-preserved
loop-cursor-preserved c =
    let classes = c.args.classes.now in
    let class = c.index-classes-cursor.result in
    let blocks = class_blocks c.args.schema.now c.args.first c.args.all.now c.args.fresh.now in
    let front = c.loop-cursor.asks.list.items in
    let now = c.add_class.new.asks.list.items in
    let old = c.loop-cursor.cursor in
    let new = c.add_class.new.cursor in
    let same = c.in_ok-add_class.ensures.class in
    let later = c.loop-cursor.invariant.later in
    let its : c.at_class.result.class ≡ new.class + 1 = ap (λ (d : Cursor). d.class) c.at_class.ensures in
    record {
      parts = subst (λ (d : Cursor). now ++ left_of c.args.schema.now c.args.first c.args.all.now c.args.fresh.now (map lent_class classes) d
          ≡ c.args.asks.now.list.items ++ left_of c.args.schema.now c.args.first c.args.all.now c.args.fresh.now (map lent_class classes) c.args.cursor.now) (sym c.at_class.ensures)
          (class_through blocks (map lent_class classes) front _ old.class old.row old.value c.loop-cursor.invariant.parts
          (lent_class class) (map_got lent_class classes old.class class (got_indexed classes old.class class c.loop-cursor-test.true c.index-classes-cursor.is)) now
          (new.class + 1) (omega (arith, same))
          (subst (λ (b : Bool). now ++ (if b then [] else left_in (blocks (lent_class class)) new.row new.value) ≡ front ++ left_in (blocks (lent_class class)) old.row old.value)
          c.if-not-branch.false c.in_ok-add_class.ensures.parts));
      later = omega (arith, same, later, its);
    }
