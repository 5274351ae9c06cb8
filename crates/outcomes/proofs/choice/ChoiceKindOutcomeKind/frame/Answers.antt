use Rattle.std.proofs.Common.{◌≡◌, ℕ, subst, List, OnOk}
use Rattle.cnf.specs.Sat.{Clause}
use Rattle.outcomes.specs.Frames.{with_clauses, IsFullForAll}
use Rattle.outcomes.specs.Rows.{choice_rows}
use Rattle.outcomes.proofs.FrameRows.{choice_clauses}
use Rattle.outcomes.proofs.choice.ChoiceKindOutcomeKind.frame.Goals as goal

pub returns-clause-ok : goal.returns-clause-ok
returns-clause-ok c =
    let m = c.new.result.alternatives.number in
    let rows = choice_clauses c.args.self.now.space c.args.self.now.chooses c.args.p c.new.result.alternatives.number c.new.ensures.number in
    let Holds : ℕ → List Clause → Type 0 = λ p cs. OnOk c.push_choice.result (c.push_choice.new.out ≡ with_clauses c.args.out.now cs p) in
    subst (Holds c.args.p) rows (subst (λ p. Holds p (choice_rows m p)) c.new.ensures.profile c.push_choice.ensures.ok)

pub returns-clause-full : goal.returns-clause-full
returns-clause-full c = λ e.
    let m = c.new.result.alternatives.number in
    let rows = choice_clauses c.args.self.now.space c.args.self.now.chooses c.args.p c.new.result.alternatives.number c.new.ensures.number in
    let Holds : ℕ → List Clause → Type 0 = λ p cs. IsFullForAll c.args.out.now cs in
    subst (Holds c.args.p) rows (subst (λ p. Holds p (choice_rows m p)) c.new.ensures.profile (c.push_choice.ensures.full e))

pub returns-clause-fits : goal.returns-clause-fits
returns-clause-fits c =
    let m = c.new.result.alternatives.number in
    let rows = choice_clauses c.args.self.now.space c.args.self.now.chooses c.args.p c.new.result.alternatives.number c.new.ensures.number in
    let Holds : ℕ → List Clause → Type 0 = λ p cs. OnOk c.push_choice.result (¬ IsFullForAll c.args.out.now cs) in
    subst (Holds c.args.p) rows (subst (λ p. Holds p (choice_rows m p)) c.new.ensures.profile c.push_choice.ensures.fits)
