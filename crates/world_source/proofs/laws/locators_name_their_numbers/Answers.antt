use Rattle.world_source.proofs.Numbers.{named, only, written}
use Rattle.world_source.proofs.laws.locators_name_their_numbers.Goals as goal

pub returns : goal.returns
returns c = record {
  named = named;
  only = only;
  written = written;
}
