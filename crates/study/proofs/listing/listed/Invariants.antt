use Rattle.std.proofs.Common.{◌≡◌, drop}
use Rattle.study.specs.Listing.{listed}
use Rattle.study.proofs.Listings.{listed_after}
use Rattle.study.proofs.listing.listed.Given as goal

abbrev pub invariant-loop-name : goal.invariant-loop-name
invariant-loop-name l = listed_after l.kind l.own.entries.now l.entries (drop l.name-index l.name-items) ≡ listed l.kind l.own.entries.now l.names
