use Rattle.std.proofs.Common.{sym, ◌∙◌, ap, List, ℕ, ◌++◌}
use Rattle.sharp_verdicts.specs.declared.instances.Cited.{Cited}
use Rattle.verdict_reading.specs.declared.parts.Parts.{Parts}
use Rattle.verdict_reading.specs.SharpCollected.{is_at_end}
use Rattle.verdict_reading.proofs.EndLemmas.{sharp_at, no_sharp_at, at_nothing}
use Rattle.verdict_reading.proofs.sharp_collector.SharpCollector.into_verdict.Goals as goal

pub returns-then-not-is_at_end : goal.returns-then-not-is_at_end
returns-then-not-is_at_end c = λ study s h.
    no_sharp_at study s (ap is_at_end (sym (c.place.ensures study s h.told)) ∙ sym c.is_at_end.ensures ∙ c.if-not-is_at_end.true)

pub returns : goal.returns
returns c = λ study s h.
    let at = at_nothing s.place (ap is_at_end (sym (c.place.ensures study s h.told)) ∙ sym c.is_at_end.ensures ∙ c.if-not-is_at_end.false) in
    sharp_at study s c.append.new.self c.args.self.parts.earlier c.append-2.new.self c.args.self.parts.witnesses c.into_sharp.result at c.into_sharp.ensures
    (c.in_ok-append.ensures.ok ∙ ap (λ (xs : List ℕ). xs ++ c.core.result.now) c.new-core.ensures ∙ c.core.ensures study s h.told)
    (ap (λ (parts : Parts). parts.earlier) h.parts)
    (c.in_ok-append-2.ensures.ok ∙ ap (λ (xs : List Cited). xs ++ c.instances.result.now) c.new-instances.ensures ∙ c.instances.ensures study s h.told at)
    (ap (λ (parts : Parts). parts.witnesses) h.parts)
