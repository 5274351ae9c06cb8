use Rattle.std.proofs.Common.{◌≡◌, ◌||◌, true}
use Rattle.std.specs.Prelude.{◌==◌}
use Rattle.meaning.specs.Space.{prefers}
use Rattle.meaning.specs.Subsets.{is_element}
use Rattle.choice_sets.proofs.KeptLemmas.{all_pass}
use Rattle.choice_sets.proofs.gains.is_as_good.Given as goal

abbrev pub invariant-loop-x : goal.invariant-loop-x
invariant-loop-x l = all_pass (λ x. l.y == x || prefers l.at.space.now l.at.voter l.y x l.at.profile) (is_element l.set) l.x ≡ true
