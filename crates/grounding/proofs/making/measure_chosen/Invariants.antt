use Rattle.std.proofs.Common.{◌≡◌, drop, length}
use Rattle.clause_form.specs.Refusals.{first_wide}
use Rattle.grounding.proofs.making.measure_chosen.Given as goal

-- the first too wide instance is that of the axioms that are left
abbrev pub invariant-loop-k : goal.invariant-loop-k
invariant-loop-k g l = record {
  rest : first_wide l.chosen.study.now.size l.chosen.study.now.axioms l.chosen.places.now ≡ first_wide l.chosen.study.now.size l.chosen.study.now.axioms (drop l.k l.chosen.places.now);
  len : length l.all ≡ l.k;
}
