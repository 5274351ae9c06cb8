-- Each sort has values.
use Rattle.std.proofs.Common.{◌≤◌}
use Rattle.vocab.specs.declared.kinds.Sort.{Sort}
use Rattle.vocab.specs.declared.kinds.Sort.TheVariants.{Voter, Alt, Ballot, Profile}
use Rattle.vocab.specs.Size.{Extent, IsSize, sort_count}
use Rattle.meaning.proofs.SpaceLaws.{some_profile}

pub sort_has_values : (size : Extent) → IsSize size → (s : Sort) → 1 ≤ sort_count size s
sort_has_values size h Voter = h.some_voter
sort_has_values size h Alt = h.some_alternative
sort_has_values size h Ballot = h.some_ballot
sort_has_values size h Profile = some_profile size h
