use Rattle.std.proofs.Common.{◌≡◌, true, take}
use Rattle.std.specs.Prelude.{◌==◌}
use Rattle.std.specs.List.{list_all}
use Rattle.vocab.specs.Literal.{profile_of}
use Rattle.needed_facts.proofs.facts.are_at.Given as goal

-- those so far are of the profile
abbrev pub invariant-loop-literal : goal.invariant-loop-literal
invariant-loop-literal l = list_all (λ q. profile_of q == l.p) (take l.literal-index l.facts) ≡ true
