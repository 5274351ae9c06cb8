use Rattle.std.proofs.Common.{◌∙◌, ◌<◌, ℕ, Bool, sym, ap, subst}
use Rattle.std.specs.Prelude.{option_map}
use Rattle.vocab.specs.Size.{Extent}
use Rattle.rule_pages.specs.declared.names.RuleName.TheVariants.{Voter}
use Rattle.rule_pages.specs.Names.{has_rule_name}
use Rattle.rule_pages.proofs.RestLemmas.{first_found, first_passed, first_start}
use Rattle.rule_pages.proofs.names.voter_name.Goals as goal

pub returns-then-has_rule_name : goal.returns-then-has_rule_name
returns-then-has_rule_name g c =
    let size = g.K.OutcomeKind.size c.args.kind.now in
    let named : ℕ → Bool = λ i. has_rule_name size c.args.table.now (Voter c.args.role i) in
    let within : c.loop-voter.voter < size.voters =
    subst (λ (n : ℕ). c.loop-voter.voter < n) (c.voters-voters.ensures ∙ ap (λ (s : Extent). s.voters) (c.size.ensures ∙ c.space.ensures)) c.loop-voter-test.true in
    ap (option_map (Voter c.args.role))
    (sym (first_found named size.voters c.loop-voter.voter within (sym c.has_rule_name.ensures ∙ c.if-has_rule_name.true))
    ∙ c.loop-voter.invariant
    ∙ first_start named size.voters)

pub loop-voter-preserved : goal.loop-voter-preserved
loop-voter-preserved g c =
    let size = g.K.OutcomeKind.size c.args.kind.now in
    let named : ℕ → Bool = λ i. has_rule_name size c.args.table.now (Voter c.args.role i) in
    let within : c.loop-voter.voter < size.voters =
    subst (λ (n : ℕ). c.loop-voter.voter < n) (c.voters-voters.ensures ∙ ap (λ (s : Extent). s.voters) (c.size.ensures ∙ c.space.ensures)) c.loop-voter-test.true in
    first_passed named size.voters c.loop-voter.voter within (sym c.has_rule_name.ensures ∙ c.if-has_rule_name.false)
    ∙ c.loop-voter.invariant
