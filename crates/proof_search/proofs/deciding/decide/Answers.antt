use Rattle.proof_search.proofs.deciding.decide.Goals as goal

pub select_forms-requires : goal.select_forms-requires
select_forms-requires c = record {
  fits = λ select among. record { fits = c.requires.fits.fits select among; few = (c.requires.fits.bounded select among).froms };
}
