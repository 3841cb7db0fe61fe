use Rattle.middleware.proofs.whole_answer.grows_to_answer.Goals as goal

pub returns : goal.returns
returns c = λ true. record {
  answer = c.in-Some.answer.now;
  only = c.in-Some.ensures;
  first = c.is_first.ensures c.if-not-is_first.false;
  new = c.are_new.ensures c.if-not-are_new.false;
  fit = c.have_arity.ensures true;
}
