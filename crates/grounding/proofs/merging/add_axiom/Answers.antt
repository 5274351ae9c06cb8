use Rattle.std.proofs.Common.{◌≡◌, ◌+◌, ◌-◌, ◌*◌, ◌^◌, ◌++◌, List, ℕ, ap, arith, min, subst, sym, true}
use Rattle.std.specs.Prelude.{OnOk}
use Rattle.vocab.specs.Limits.{instance_count}
use Rattle.meaning.specs.StudyClauses.{Sourced}
use Rattle.clause_form.specs.Refusals.{is_over_limits}
use Rattle.clause_form.specs.Sources.{clauses_in, sourced}
use Rattle.grounding.specs.Pieces.{AreNarrow}
use Rattle.grounding.proofs.SourceLemmas.{axiom-sources}
use Rattle.lanes.proofs.InstanceLemmas.{counted_whole}
use Rattle.grounding.proofs.merging.add_axiom.Goals as goal

pub invariant_of-numbered-clause-counted : goal.invariant_of-numbered-clause-counted
invariant_of-numbered-clause-counted g c =
    let cut : c.instance_count.result ≡ min (instance_count (g.K.OutcomeKind.size c.args.groundable.now.kind.now) c.args.groundable.now.named.now.sentence) (2 ^ 64 - 1) = rw (c.space.ensures, c.sentence.ensures) at c.instance_count.ensures in
    counted_whole _ _ cut c.args.groundable.now.few

pub invariant_of-numbered-clause-narrow : goal.invariant_of-numbered-clause-narrow
invariant_of-numbered-clause-narrow g c =
    let size = g.K.OutcomeKind.size c.args.groundable.now.kind.now in
    let cut : c.instance_count.result ≡ min (instance_count size c.args.groundable.now.named.now.sentence) (2 ^ 64 - 1) = rw (c.space.ensures, c.sentence.ensures) at c.instance_count.ensures in
    subst (AreNarrow size c.args.groundable.now.named.now.sentence 0) (sym (counted_whole _ _ cut c.args.groundable.now.few)) c.requires.narrow

pub returns-clause-made : goal.returns-clause-made
returns-clause-made g c =
    let groundable = c.args.groundable.now in
    let size = g.K.OutcomeKind.size groundable.kind.now in
    let before = sourced c.args.out.now.clauses c.args.out.now.origins in
    let after = sourced c.add_rounds.new.out.clauses c.add_rounds.new.out.origins in
    let cut : c.instance_count.result ≡ min (instance_count size groundable.named.now.sentence) (2 ^ 64 - 1) = rw (c.space.ensures, c.sentence.ensures) at c.instance_count.ensures in
    let count = counted_whole _ _ cut groundable.few in
    subst (λ (ss : List Sourced). OnOk c.add_rounds.result (after ≡ before ++ ss))
    (axiom-sources size groundable.named.now ((c.from.result + 1) * 4294967296) groundable.place c.instance_count.result (ap (λ (n : ℕ). (n + 1) * 4294967296) c.from.ensures) count (omega (arith, count, groundable.few)))
    c.add_rounds.ensures.made

pub returns-clause-full : goal.returns-clause-full
returns-clause-full g c = λ is-full.
    let groundable = c.args.groundable.now in
    let size = g.K.OutcomeKind.size groundable.kind.now in
    let before = sourced c.args.out.now.clauses c.args.out.now.origins in
    let cut : c.instance_count.result ≡ min (instance_count size groundable.named.now.sentence) (2 ^ 64 - 1) = rw (c.space.ensures, c.sentence.ensures) at c.instance_count.ensures in
    let count = counted_whole _ _ cut groundable.few in
    subst (λ (ss : List Sourced). is_over_limits (clauses_in (before ++ ss)) ≡ true)
    (axiom-sources size groundable.named.now ((c.from.result + 1) * 4294967296) groundable.place c.instance_count.result (ap (λ (n : ℕ). (n + 1) * 4294967296) c.from.ensures) count (omega (arith, count, groundable.few)))
    (c.add_rounds.ensures.full is-full)
