use Rattle.std.proofs.Common.{◌≡◌, true, take}
use Rattle.std.specs.List.{list_all}
use Rattle.tellings.specs.Tellings.{stands_before}
use Rattle.premises.proofs.checking.Checker.all_stand.Given as goal

-- the facts so far stand
abbrev pub invariant-loop-literal : goal.invariant-loop-literal
invariant-loop-literal g l = list_all (stands_before l.self.teller.now.forced.now.literals l.self.supposed.now.literals l.steps l.number) (take l.literal-index l.literals) ≡ true
