use Rattle.std.proofs.Common.{arith, subst, ◌≡◌, true, get_or}
use Rattle.std.proofs.lemmas.Option.{get_or_from_slice_get}
use Rattle.cnf.specs.Fresh.{added_by}
use Rattle.cnf.specs.declared.derivations.Line.{Line}
use Rattle.simpler_proofs.proofs.Passing.{each_at}
use Rattle.simpler_proofs.proofs.paired.all_but.Goals as goal

pub loop-k-preserved : goal.loop-k-preserved
loop-k-preserved c =
    let line : Line = c.get.result.now in
    let at : get_or c.args.lines.now c.loop-k.k line ≡ line = get_or_from_slice_get c.args.lines.now c.loop-k.k line line c.get.ensures in
    let less = c.loop-k-test.true in
    let end = c.len-k-end.ensures in
    record {
      end = c.loop-k.invariant.end;
      passes = λ test h. c.in_ok-add_unless.ensures test
          (subst (λ (l : Line). test (added_by l.step) ≡ true) at (each_at test c.args.lines.now c.loop-k.k line h (omega (arith, less, end))))
          (c.loop-k.invariant.passes test h);
    }
