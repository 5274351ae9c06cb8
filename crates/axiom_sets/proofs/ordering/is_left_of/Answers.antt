use Rattle.std.proofs.Common.{refl, arith}
use Rattle.std.specs.Ordering.{is_lt, nat_cmp}
use Rattle.std.proofs.lemmas.Bool.Decides.{nat_tests}
use Rattle.std.proofs.lemmas.Cmp.{same_from_slice_cmp_tested}
use Rattle.axiom_sets.specs.Sets.{is_left_of}
use Rattle.axiom_sets.proofs.ordering.is_left_of.Goals as goal

pub returns : goal.returns
returns c = same_from_slice_cmp_tested nat_cmp is_lt is_left_of refl (λ _ _. refl) (λ _ _. refl) (λ x y xs ys o h. grind (arith, nat_tests)) c.args.left.now c.args.right.now _ c.lt.ensures
