use Rattle.std.proofs.Common.{◌≡◌, ◌||◌, true}
use Rattle.std.specs.Prelude.{◌==◌}
use Rattle.std.specs.List.{list_all}
use Rattle.meaning.specs.Space.{prefers}
use Rattle.meaning.specs.Subsets.{elements, is_element}
use Rattle.choice_sets.proofs.KeptLemmas.{all_pass}
use Rattle.choice_sets.proofs.gains.are_as_good.Given as goal

abbrev pub invariant-loop-y : goal.invariant-loop-y
invariant-loop-y l = all_pass (λ y. list_all (λ x. y == x || prefers l.at.space.now l.at.voter y x l.at.profile) (elements l.at.space.now.alternatives l.other)) (is_element l.set) l.y ≡ true
