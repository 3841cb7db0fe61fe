use Rattle.std.proofs.Common.{◌↔◌, ◌≤◌, ◌∙◌, List, length, ap, sym, subst, arith}
use Rattle.std.specs.Prelude.{Contains, map}
use Rattle.std.proofs.lemmas.Result.{IfOk-weaker}
use Rattle.meaning.specs.Values.{Row}
use Rattle.meaning.specs.Matching.{AnswersQuery}
use Rattle.meaning.specs.Triggers.{bound}
use Rattle.sql_conjunctive.specs.Rows.{head_under}
use Rattle.sql_conjunctive.proofs.Rowing.{covered, rows_are}
use Rattle.sql_conjunctive.proofs.rows.query_rows.Goals as goal

pub all_matches-requires-clause-covered : goal.all_matches-requires-clause-covered
all_matches-requires-clause-covered c = covered c.args.query.now c.in_ok-fixed.fixed c.requires.numbered c.in_ok-fixed.ensures.width

pub returns : goal.returns
returns c =
    let wide : bound c.args.query.now.atoms ≤ length c.in_ok-fixed.fixed = omega (arith, c.in_ok-fixed.ensures.width, c.requires.numbered.variables) in
    IfOk-weaker c.head_rows.result _ _
    (λ rows e facts are row.
    subst (λ (rs : List Row). Contains rs row ↔ AnswersQuery c.args.query.now facts row)
    (sym (e ∙ ap (λ head. map (head_under head) c.as_slice-2.result.now) c.as_slice.ensures ∙ ap (map (head_under c.args.query.now.head)) c.as_slice-2.ensures))
    (rows_are facts c.args.store.now are c.args.query.now c.in_ok-fixed.fixed c.in_ok-found.found c.in_ok-found.ensures c.in_ok-fixed.ensures.free wide c.requires.head row))
    c.head_rows.ensures
