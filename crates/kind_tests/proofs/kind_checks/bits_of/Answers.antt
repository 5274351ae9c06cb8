use Rattle.std.proofs.Common.{◌≡◌, ◌∙◌, ℕ, ◌+◌, ◌*◌, ap, arith}
use Rattle.cnf.specs.Assignment.{value_of}
use Rattle.meaning.specs.Variables.{bits}
use Rattle.kind_tests.proofs.kind_checks.bits_of.Goals as goal

pub returns : goal.returns
returns g c =
    let size = g.K.OutcomeKind.size c.args.kind.now in
    let p = c.args.p in
    let before : p * c.bits-count.result ≡ p * bits size.kind size.alternatives = ap (λ (n : ℕ). p * n) c.bits-count.ensures.value in (
      c.loop-place.invariant.long ∙ ap (λ (n : ℕ). (p + 1) * n) c.bits-count.ensures.value,
      (c.frames_say_one_outcome.ensures p c.requires.profile).each (value_of c.loop-place.values) c.args.outcome c.requires.outcome
          (λ i low high. c.loop-place.invariant.so_far i (omega (arith, low, before)) (omega (arith, high, before, c.bits-count.ensures.value, c.loop-place-test.false))),
    )
