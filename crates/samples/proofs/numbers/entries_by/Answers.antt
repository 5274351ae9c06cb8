use Rattle.std.proofs.Common.{◌∙◌}
use Rattle.std.proofs.lemmas.Bool.{eq-eqb, ne_eqb}
use Rattle.samples.specs.Sample.{sample_entries}
use Rattle.samples.proofs.NumberLemmas.{entry_taken, entry_left}
use Rattle.samples.proofs.numbers.entries_by.Goals.{then-left-eq1+in_ok-entry_at+in_ok-push, else-left-eq1}
use Rattle.samples.proofs.numbers.entries_by.Goals as goal

pub loop-place-preserved : goal.loop-place-preserved
loop-place-preserved c = elim c.if-left-eq1.branch [
  | then-left-eq1+in_ok-entry_at+in_ok-push w ↦
      rw (w.entries-is, w.in_ok-push.ensures.ok)
      (entry_taken c.loop-place.entries (sample_entries c.args.kind) c.loop-place.left c.loop-place.place w.in_ok-entry_at.field-0 (rw (← c.sample_count-place-end.ensures) c.loop-place-test.true) w.in_ok-entry_at.ensures (eq-eqb _ 1 w.if-left-eq1.true)
      ∙ c.loop-place.invariant)
  | else-left-eq1 w ↦
      rw w.entries-is
      (entry_left c.loop-place.entries (sample_entries c.args.kind) c.loop-place.left c.loop-place.place (rw (← c.sample_count-place-end.ensures) c.loop-place-test.true) (ne_eqb _ 1 w.if-left-eq1.false)
      ∙ c.loop-place.invariant)
]
