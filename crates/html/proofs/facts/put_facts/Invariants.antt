use Rattle.std.proofs.Common.{◌≡◌, ◌++◌, take}
use Rattle.std.specs.List.{flat_map}
use Rattle.html.specs.Facts.{fact_comma}
use Rattle.html.proofs.facts.put_facts.Given as goal

-- the facts so far were added
abbrev pub invariant-loop-fact : goal.invariant-loop-fact
invariant-loop-fact l = l.out ≡ l.initial.out ++ flat_map (fact_comma l.space) (take l.fact-index l.facts)
