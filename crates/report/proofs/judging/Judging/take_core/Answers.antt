use Rattle.std.proofs.Common.{sym, ap, ◌∙◌, ℕ, List}
use Rattle.std.proofs.lemmas.Option.{none-some}
use Rattle.verdicts.specs.Faults.{named_places}
use Rattle.report_lines.specs.Held.{if_core}
use Rattle.report.proofs.TakingLemmas.{no_core, some_core, with_core}
use Rattle.report.proofs.judging.Judging.take_core.Goals as goal

pub returns-in_default : goal.returns-in_default
returns-in_default g c = λ s names h e.
    let study = c.args.subject.now.setting.study.now in
    let read = sym c.in_default.is ∙ (rw c.args.subject.now.same at c.in_ok-read.ensures) ∙ ap (λ (ns : List (List ℕ)). if_core study (named_places study.axioms ns)) (sym e) in
    (no_core study (named_places study.axioms names) read, λ none. absurd (none-some _ (sym none)))

pub returns : goal.returns
returns g c = λ s names h e.
    let study = c.args.subject.now.setting.study.now in
    let read = sym c.in-Some.is ∙ (rw c.args.subject.now.same at c.in_ok-read.ensures) ∙ ap (λ (ns : List (List ℕ)). if_core study (named_places study.axioms ns)) (sym e) in
    let core = some_core study (named_places study.axioms names) c.in-Some.core read in
    (core.0, λ _. with_core study c.args.self.now s c.in-Some.core names h core.1)
