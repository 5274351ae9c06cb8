-- Of a study that a file gives an instance is told.
use Rattle.std.proofs.Common.{subst, ℕ, List, Option}
use Rattle.std.specs.Io.KnownBytes.{Appends}
use Rattle.edge.specs.Shelf.{Files}
use Rattle.vocab.specs.Study.{Question}
use Rattle.answers.specs.Call.{AreFiles, are_told}
use Rattle.answers.specs.Studies.{GivesStudy, study_refused, study_given}
use Rattle.explain_words.specs.Words.{ExplainRequest, request_of}
use Rattle.explain_answers.specs.Instance.{IsInstance, IsInstanceSaid}
use Rattle.explain_answers.specs.Lawful.{IsExplanation}
use Rattle.explain_answers.specs.Call.{explain_files}
use Rattle.explain_answers.specs.Laws.{InstancesAreExact, InstancesAreWritten}
use Rattle.explain_answers.proofs.PageLaws.{not_refused, one_study}

said_of : (files : Files) (name axiom_name : List ℕ) (number status : ℕ) (text : List ℕ) (study : Question) → GivesStudy files name study
    → IsInstance files name axiom_name number status text → IsInstanceSaid study axiom_name number status text
said_of files name axiom_name number status text study g (study_refused r bare) = absurd (not_refused files name study g text r)
said_of files name axiom_name number status text study g (study_given s h told) =
    subst (λ (q : Question). IsInstanceSaid q axiom_name number status text) (one_study files name study g s h) told

pub instances_exact : InstancesAreExact
instances_exact words files status number text name axiom_name study lawful asked g =
    said_of files name axiom_name number status text study g (subst (λ (r : Option ExplainRequest). IsExplanation r files status text) asked lawful)

pub instances_written : InstancesAreWritten
instances_written words d files status number name axiom_name study call told asked g low =
    let names : AreFiles d.told (explain_files (request_of words)) files = are_told told in
    let a = call.lawful files names low in
    let is = instances_exact words files status number a.text name axiom_name study a.lawful asked g in
    (is.ends, subst (λ (t : List ℕ). Appends d.taken_before d.taken_now t) is.lines a.written)
