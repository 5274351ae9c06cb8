use Rattle.syntax.proofs.RoundTrip.{round_trip}
use Rattle.syntax.proofs.laws.canonical_texts_are_read_back.Goals as goal

pub returns : goal.returns
returns c = round_trip
