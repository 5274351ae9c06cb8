use Rattle.tellings.proofs.OutcomeLaws.{own_profile, facts_there}
use Rattle.tellings.proofs.laws.outcomes_are_of_their_profiles.Goals as goal

pub returns : goal.returns
returns c = record { own = own_profile; enough = facts_there }
