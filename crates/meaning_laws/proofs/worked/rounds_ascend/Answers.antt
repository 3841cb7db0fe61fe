use Rattle.meaning_laws.proofs.StaffRequests.{profiles_are_a_round, profile_before_is_no_round, profile_twice_is_no_round}
use Rattle.meaning_laws.proofs.worked.rounds_ascend.Goals as goal

pub returns : goal.returns
returns c = record {
  round = profiles_are_a_round;
  turned = profile_before_is_no_round;
  twice = profile_twice_is_no_round;
}
