-- What a refutation says with its story, and an adopted one besides.
use Rattle.std.specs.Prelude.{List, IsTrue}
use Rattle.std.specs.List.{list_all}
use Rattle.vocab.specs.Study.{Question}
use Rattle.cnf.specs.declared.derivations.Line.{Line}
use Rattle.meaning.specs.Cores.{is_core_right}
use Rattle.meaning.specs.Stories.{is_story}
use Rattle.meaning.specs.StudyClauses.{study_clauses}
use Rattle.meaning.specs.Tidy.{is_tidy}
use Rattle.clause_form.specs.Cited.{is_axiom_cited}
use Rattle.search_logs.specs.Spent.{all_places, AreSpentLogs, HaveEvidence}
use Rattle.adopt.specs.declared.telling.Adopted.{Adopted}

module _ (study : Question) where
  -- a told refutation is right: its core is, with a witness for each axiom; its story is accepted and tidy; each open mark has its log; and each log is of a search that spent its limit
  pub record IsToldRight (a : Adopted) : Type 0 where
    pub core : IsTrue (is_core_right study.size study.axioms study.conflicts a.core a.witnesses)
    pub accepted : IsTrue (is_story study.size study.axioms a.core a.story)
    pub tidy : IsTrue (is_tidy study.size study.axioms a.core a.story)
    pub logged : HaveEvidence study a.logs a.core a.core a.witnesses
    pub logs : AreSpentLogs study a.logs

  -- a proof over the clauses of all axioms is adopted: what is told is right, and each axiom of the core has a clause that a hint of the proof names
  pub record IsAdopted (proof : List Line) (a : Adopted) : Type 0 where
    pub told : IsToldRight a
    pub cited : IsTrue (list_all
        (is_axiom_cited (study_clauses study.size study.axioms (all_places study)) proof) a.core)
