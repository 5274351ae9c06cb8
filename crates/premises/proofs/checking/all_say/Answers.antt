use Rattle.std.proofs.Common.{◌≡◌, true, rules}
use Rattle.std.specs.List.{list_any}
use Rattle.premises.proofs.ToldLemmas.{is_in, say_next}
use Rattle.premises.proofs.checking.all_say.Goals as goal

pub loop-number-preserved : goal.loop-number-preserved
loop-number-preserved c =
    let yes : c.says_one.result ≡ true = search rules in
    let one : list_any (is_in c.loop-number.number) c.args.passage.now.steps ≡ true = rw c.as_slice-steps.ensures at (c.says_one.ensures yes) in
    say_next c.args.passage.now.steps c.loop-number.number c.loop-number.invariant one
