use Rattle.std.proofs.Common.{◌≡◌, take}
use Rattle.tellings.specs.Laws.{facts_at}
use Rattle.needed_facts.proofs.facts.at_profile.Given as goal

-- those so far that speak of the profile were found
abbrev pub invariant-loop-literal : goal.invariant-loop-literal
invariant-loop-literal l = l.found ≡ facts_at l.p (take l.literal-index l.literals)
