-- Of a study that a file gives, whose clauses are not refused, the rules are listed.
use Rattle.std.proofs.Common.{subst, Option}
use Rattle.vocab.specs.Study.{Question}
use Rattle.answers.specs.Call.{AreFiles, are_told}
use Rattle.explain_words.specs.Words.{ExplainRequest, request_of}
use Rattle.explain_answers.specs.Rules.{IsRuleListWritten}
use Rattle.explain_answers.specs.Lawful.{IsExplanation}
use Rattle.explain_answers.specs.Call.{explain_files}
use Rattle.explain_answers.specs.Laws.{RulesAreExact, RulesAreWritten}
use Rattle.explain_answers.proofs.ClauseLaws.{rest_of}

pub rules_exact : RulesAreExact
rules_exact words files status most workers text name study lawful asked g none =
    rest_of files name status text (λ (q : Question). IsRuleListWritten q most status text) study g none (subst (λ (r : Option ExplainRequest). IsExplanation r files status text) asked lawful)

pub rules_written : RulesAreWritten
rules_written words d files status most workers name study call told asked g none low =
    let names : AreFiles d.told (explain_files (request_of words)) files = are_told told in
    let a = call.lawful files names low in
    (a.text, rules_exact words files status most workers a.text name study a.lawful asked g none, a.written)
