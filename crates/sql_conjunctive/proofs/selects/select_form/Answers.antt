use Rattle.sql_conjunctive.proofs.selects.select_form.Goals as goal

pub returns-in-Query : goal.returns-in-Query
returns-in-Query c = record {
  free = (rw c.in-Query.is at c.in_ok-query.ensures.never).1;
  form = rw c.in-Query.is at c.in_ok-query.ensures.conjunctive;
  numbered = rw c.in-Query.is at c.in_ok-query.ensures.numbered;
  fits = rw c.in-Query.is at c.in_ok-query.ensures.fits;
  constants = rw c.in-Query.is at c.in_ok-query.ensures.constants;
  answers = rw c.in-Query.is at c.in_ok-query.ensures.answers;
}

pub returns-in-Never : goal.returns-in-Never
returns-in-Never c = record {
  clashes = (rw c.in-Never.is at c.in_ok-query.ensures.never).0 tt;
  no_answer = λ facts is row answer. ((rw c.in-Never.is at c.in_ok-query.ensures.answers) facts is row).1 answer;
}
