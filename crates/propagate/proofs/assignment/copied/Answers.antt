use Rattle.std.proofs.Common.{arith, sym, ap, subst, ◌∙◌, ◌<◌, [], ◌∷◌, ◌++◌, List, length, get_or, take}
use Rattle.std.proofs.lemmas.List.Elements.{All-more}
use Rattle.std.proofs.lemmas.List.{take_more}
use Rattle.cnf.specs.Sat.{Clause}
use Rattle.propagate.specs.Values.{StartsAtOne}
use Rattle.propagate.proofs.assignment.copied.Goals as goal

pub loop-k-preserved : goal.loop-k-preserved
loop-k-preserved c =
    let cs : List Clause = c.args.clauses.now.clauses in
    let within : c.loop-k.k < length cs = omega (arith, c.loop-k.invariant.end) in
    let here : StartsAtOne (get_or cs c.loop-k.k []) = subst (λ (x : Clause). StartsAtOne x) c.get-clause.ensures c.read.ensures in
    record {
      same = c.in_ok-push.ensures.ok ∙ ap (λ (xs : List Clause). xs ++ c.get-clause.result.now ∷ []) c.loop-k.invariant.same
          ∙ ap (λ (x : Clause). take c.loop-k.k cs ++ x ∷ []) c.get-clause.ensures ∙ sym (take_more cs c.loop-k.k [] within);
      from_one = All-more StartsAtOne cs c.loop-k.k [] within c.loop-k.invariant.from_one here;
      end = c.loop-k.invariant.end;
    }
