use Rattle.proof_search.proofs.deciding.decide_over.Goals as goal

pub decide_on-requires : goal.decide_on-requires
decide_on-requires c = record {
  fits = c.requires.fits;
  formed = c.requires.forms;
  queries = c.in_ok-queries.ensures;
  known = c.in_ok-known.ensures.order;
  firings = c.requires.budget;
}
