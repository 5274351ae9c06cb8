use Rattle.std.proofs.Common.{◌≡◌, ◌+◌, ◌-◌, ◌∙◌, ℕ, ap, arith, inl, inr, subst, sym, false}
use Rattle.std.proofs.lemmas.Bool.{cases_lt}
use Rattle.clause_form.specs.Wide.{is_wide}
use Rattle.grounding.specs.Pieces.{measure_at}
use Rattle.grounding.proofs.parts.measure_all.Goals as goal

pub loop-number-preserved : goal.loop-number-preserved
loop-number-preserved g c = λ k low high.
    let planned = c.args.planned.now in
    let size = g.K.OutcomeKind.size planned.kind.now in
    let number = c.loop-number.number in
    let there : c.args.from + (number - c.args.from) ≡ number = omega arith in
    let measured = c.measure_at-measure.ensures ∙ ap (measure_at size planned.named.now.sentence) there in
    let narrow : is_wide (measure_at size planned.named.now.sentence number) ≡ false = sym (ap is_wide measured) ∙ sym c.is_wide.ensures ∙ c.if-is_wide.false in
    elim (cases_lt k number) [
      | inl before ↦ c.loop-number.invariant k low before
      | inr later ↦ (let e : number ≡ k = omega (arith, later, high) in subst (λ (n : ℕ). is_wide (measure_at size planned.named.now.sentence n) ≡ false) e narrow)
    ]

pub returns : goal.returns
returns g c = λ k low high. c.loop-number.invariant k low (let t = c.loop-number-test.false in omega (arith, high, t))
