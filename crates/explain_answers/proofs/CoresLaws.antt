-- Of a study that a file gives, whose clauses are not refused, the axioms are mapped.
use Rattle.std.proofs.Common.{subst, Option}
use Rattle.vocab.specs.Study.{Question}
use Rattle.answers.specs.Call.{AreFiles, are_told}
use Rattle.explain_words.specs.Words.{ExplainRequest, request_of}
use Rattle.explain_answers.specs.Cores.{IsMapped}
use Rattle.explain_answers.specs.Lawful.{IsExplanation}
use Rattle.explain_answers.specs.Call.{explain_files}
use Rattle.explain_answers.specs.Laws.{CoresAreExact, CoresAreWritten}
use Rattle.explain_answers.proofs.ClauseLaws.{rest_of}

pub cores_exact : CoresAreExact
cores_exact words files status workers text name study lawful asked g none =
    rest_of files name status text (λ (q : Question). IsMapped q status text) study g none (subst (λ (r : Option ExplainRequest). IsExplanation r files status text) asked lawful)

pub cores_written : CoresAreWritten
cores_written words d files status workers name study call told asked g none low =
    let names : AreFiles d.told (explain_files (request_of words)) files = are_told told in
    let a = call.lawful files names low in
    (a.text, cores_exact words files status workers a.text name study a.lawful asked g none, a.written)
