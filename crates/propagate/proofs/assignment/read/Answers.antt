use Rattle.std.proofs.Common.{arith, sym, subst, ◌≡◌, ◌≤◌, List, get_or}
use Rattle.std.proofs.lemmas.List.Elements.{All-more}
use Rattle.std.proofs.lemmas.List.{take_all}
use Rattle.cnf.specs.Signed.{Signed}
use Rattle.propagate.specs.Values.{StartsAtOne}
use Rattle.propagate.proofs.assignment.read.Goals as goal

pub loop-lit-preserved : goal.loop-lit-preserved
loop-lit-preserved c =
    let low : 1 ≤ c.lit-item.result.variable = omega arith in
    let at : get_or c.args.clause.now c.loop-lit.lit-index c.lit-item.result ≡ c.lit-item.result = sym c.lit-item.is in
    All-more (λ (l : Signed). 1 ≤ l.variable) c.args.clause.now c.loop-lit.lit-index c.lit-item.result (omega arith) c.loop-lit.invariant (subst (λ (l : Signed). 1 ≤ l.variable) (sym at) low)

pub returns : goal.returns
returns c = subst (λ (ls : List Signed). StartsAtOne ls) (take_all c.loop-lit.lit-index c.args.clause.now (omega arith)) c.loop-lit.invariant
