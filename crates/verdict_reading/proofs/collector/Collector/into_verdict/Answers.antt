use Rattle.std.proofs.Common.{sym, ◌∙◌, ap, List, ℕ, ◌++◌, Some}
use Rattle.verdicts.specs.declared.verdicts.Confirmed.{Confirmed}
use Rattle.verdicts.specs.declared.verdicts.Verdict.{Verdict}
use Rattle.verdict_reading.specs.declared.parts.Parts.{Parts}
use Rattle.verdict_reading.specs.Collected.{claim_at}
use Rattle.verdict_reading.proofs.EndLemmas.{possible_at, impossible_at, none_at}
use Rattle.verdict_reading.proofs.collector.Collector.into_verdict.Goals as goal

pub returns-in-Some-Possible : goal.returns-in-Some-Possible
returns-in-Some-Possible c = λ study s h.
    ap (λ (v : Verdict). Some v) c.into_possible.ensures
    ∙ possible_at s s.place c.args.self.parts.rows h.ends
    (ap claim_at (sym (c.place.ensures s study h.told)) ∙ sym c.claim_at.ensures ∙ c.in-Some-Possible.is ∙ ap (λ (claim : Confirmed). Some claim) c.in-Some-Possible.field-0-is)
    (ap (λ (parts : Parts). parts.rows) h.parts)

pub returns-in-Some-Impossible : goal.returns-in-Some-Impossible
returns-in-Some-Impossible c = λ study s h.
    ap (λ (v : Verdict). Some v) c.into_impossible.ensures
    ∙ impossible_at s s.place c.append.new.self c.args.self.parts.earlier c.args.self.parts.witnesses h.ends
    (ap claim_at (sym (c.place.ensures s study h.told)) ∙ sym c.claim_at.ensures ∙ c.in-Some-Impossible.is ∙ ap (λ (claim : Confirmed). Some claim) c.in-Some-Impossible.field-0-is)
    (c.in_ok-append-in-Some-Impossible.ensures.ok ∙ ap (λ (xs : List ℕ). xs ++ c.core.result.now) c.new-core.ensures ∙ c.core.ensures s study h.told)
    (ap (λ (parts : Parts). parts.earlier) h.parts)
    (ap (λ (parts : Parts). parts.witnesses) h.parts)

pub returns : goal.returns
returns c = λ study s h.
    none_at s s.place h.ends (ap claim_at (sym (c.place.ensures s study h.told)) ∙ sym c.claim_at.ensures ∙ c.in-None.is)
