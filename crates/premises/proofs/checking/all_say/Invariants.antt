use Rattle.std.proofs.Common.{◌≡◌, ℕ, ◌<◌, true}
use Rattle.std.specs.List.{list_any}
use Rattle.premises.proofs.ToldLemmas.{is_in}
use Rattle.premises.proofs.checking.all_say.Given as goal

-- each sentence so far says a step
abbrev pub invariant-loop-number : goal.invariant-loop-number
invariant-loop-number l = (k : ℕ) → k < l.number → list_any (is_in k) l.passage.steps ≡ true
