use Rattle.std.proofs.Common.{ℕ, arith, inl, inr, subst, ◌<◌}
use Rattle.std.proofs.lemmas.Bool.{cases_order}
use Rattle.vocab.specs.Size.{Extent}
use Rattle.cnf.specs.Assignment.{value_of}
use Rattle.outcomes.specs.OutcomeBits.{AreBitsAt}
use Rattle.outcomes.proofs.OutcomeCounts.{few_outcomes}
use Rattle.outcomes.proofs.decode.decode.Goals as goal

pub trying-init : goal.trying-init
trying-init g c =
    let found = (c.frames_say_one_outcome.ensures c.args.p c.requires.profile).some (value_of c.args.assignment.now) c.requires.frame in
    (omega (arith, found.1), λ o lt same. omega (arith, lt))

pub overflow_add-outcome : goal.overflow_add-outcome
overflow_add-outcome g c =
    let size : Extent = g.K.OutcomeKind.size c.args.kind.now in
    omega (arith, few_outcomes size.kind size.alternatives c.kinds_have_sizes.ensures.few_alternatives, c.trying.invariant.0)

pub trying-preserved : goal.trying-preserved
trying-preserved g c =
    let Has : ℕ → Type 0 = λ q. AreBitsAt (g.K.OutcomeKind.size c.args.kind.now) c.args.p q (value_of c.args.assignment.now) in
    let later : (o : ℕ) → Has o → c.trying.outcome < o = λ o same.
    elim (cases_order o c.trying.outcome) [
      | inl e ↦ absurd ((rw c.trying-test.true at c.has_bits.ensures.other) (subst Has e same))
      | inr other ↦ elim other [ inl below ↦ absurd (c.trying.invariant.1 o below same) | inr above ↦ above ]
    ] in
    let found = (c.frames_say_one_outcome.ensures c.args.p c.requires.profile).some (value_of c.args.assignment.now) c.requires.frame in
    (omega (arith, found.1, later found.0 found.2), λ o lt same. omega (arith, lt, later o same))
