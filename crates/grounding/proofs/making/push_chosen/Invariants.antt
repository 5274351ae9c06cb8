use Rattle.std.proofs.Common.{◌≡◌, [], drop, take}
use Rattle.meaning.specs.StudyClauses.{study_clauses}
use Rattle.clause_form.specs.Refusals.{first_full}
use Rattle.clause_form.specs.Sources.{sourced}
use Rattle.grounding.proofs.making.push_chosen.Given as goal

-- the clauses of the axioms so far, with none of which the list was full
abbrev pub invariant-loop-k : goal.invariant-loop-k
invariant-loop-k g l = record {
  made : sourced l.out.clauses l.out.origins ≡ study_clauses l.chosen.study.now.size l.chosen.study.now.axioms (take l.k l.chosen.places.now);
  rest : first_full l.chosen.study.now.size l.chosen.study.now.axioms [] l.chosen.places.now ≡ first_full l.chosen.study.now.size l.chosen.study.now.axioms (take l.k l.chosen.places.now) (drop l.k l.chosen.places.now);
}
