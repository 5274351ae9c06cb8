use Rattle.std.proofs.Common.{◌≡◌, [], take, drop}
use Rattle.study.specs.Listing.{once}
use Rattle.study.proofs.listing.once.Given as goal

abbrev pub invariant-loop-place : goal.invariant-loop-place
invariant-loop-place l = once l.kind l.own.entries.now (take l.place l.entries) (drop l.place l.entries) ≡ once l.kind l.own.entries.now [] l.entries
