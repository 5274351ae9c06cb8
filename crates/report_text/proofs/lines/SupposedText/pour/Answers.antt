use Rattle.vocab.specs.declared.literals.Literal.TheVariants.{Wins}
use Rattle.verdicts.specs.Lines.{Suppose}
use Rattle.report_text.specs.Pieces.{ended_line}
use Rattle.report_text.proofs.LineLemmas.{suppose_text}
use Rattle.texts.proofs.LoopLemmas.{spelled_stops, spelled_goes_on, spelled_ends}
use Rattle.report_text.proofs.lines.SupposedText.pour.Goals as goal

pub returns-in_err-pour : goal.returns-in_err-pour
returns-in_err-pour g c =
    let of = c.args.self.now.of in
    spelled_stops (λ _ x. ended_line of.study.now (Suppose x)) c.args.self.now.literals.now 0 c.loop-literal.literal-index (Wins 0 0) _ _ _ _ _ _ c.loop-literal.invariant _ _ _ c.in_err-pour.field-0.0 c.from_residual.result _ c.loop-literal-test.true
    (suppose_text of.study.now of.space.now of.same _) c.from_residual.ensures.0 c.in_err-pour.ensures

pub loop-literal-preserved : goal.loop-literal-preserved
loop-literal-preserved g c =
    let of = c.args.self.now.of in
    spelled_goes_on (λ _ x. ended_line of.study.now (Suppose x)) c.args.self.now.literals.now 0 c.loop-literal.literal-index (Wins 0 0) _ _ _ _ _ _ c.loop-literal.invariant _ _ _ c.in_ok-pour.field-0 _ c.loop-literal-test.true
    (suppose_text of.study.now of.space.now of.same _) c.in_ok-pour.ensures

pub returns : goal.returns
returns g c =
    let of = c.args.self.now.of in
    spelled_ends (λ _ x. ended_line of.study.now (Suppose x)) c.args.self.now.literals.now 0 c.loop-literal.literal-index (Wins 0 0) _ _ _ _ _ _ c.loop-literal.invariant tt c.loop-literal-test.false
