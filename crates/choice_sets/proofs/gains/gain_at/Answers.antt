use Rattle.std.proofs.Common.{◌≡◌, ◌∙◌, ◌<◌, ◌≤◌, ℕ, ap, sym, subst}
use Rattle.vocab.specs.Size.{Extent}
use Rattle.choice_sets.specs.Gains.{gains, of_voter}
use Rattle.choice_sets.proofs.FirstLemmas.{here_found, later_found, nowhere, whole}
use Rattle.choice_sets.proofs.gains.gain_at.Goals as goal

pub returns-then-is_some : goal.returns-then-is_some
returns-then-is_some c =
    let size = c.args.rule.now.space.now in
    let t = gains size c.args.rule.now.table.now in
    let end : c.from-voter-end.result ≡ size.voters = c.from-voter-end.ensures ∙ c.voters.ensures ∙ ap (λ (s : Extent). s.voters) c.size.ensures in
    let within = subst (λ (n : ℕ). c.loop-voter.voter < n) end c.loop-voter-test.true in
    here_found t (of_voter size c.args.profile) size.voters c.loop-voter.voter c.gain_of_voter-found.result within c.gain_of_voter-found.ensures (sym c.is_some.ensures ∙ c.if-is_some.true)
    ∙ c.loop-voter.invariant
    ∙ whole t (of_voter size c.args.profile) size.voters

pub loop-voter-preserved : goal.loop-voter-preserved
loop-voter-preserved c =
    let size = c.args.rule.now.space.now in
    let t = gains size c.args.rule.now.table.now in
    let end : c.from-voter-end.result ≡ size.voters = c.from-voter-end.ensures ∙ c.voters.ensures ∙ ap (λ (s : Extent). s.voters) c.size.ensures in
    let within = subst (λ (n : ℕ). c.loop-voter.voter < n) end c.loop-voter-test.true in
    later_found t (of_voter size c.args.profile) size.voters c.loop-voter.voter c.gain_of_voter-found.result within c.gain_of_voter-found.ensures (sym c.is_some.ensures ∙ c.if-is_some.false)
    ∙ c.loop-voter.invariant

pub returns : goal.returns
returns c =
    let size = c.args.rule.now.space.now in
    let t = gains size c.args.rule.now.table.now in
    let end : c.from-voter-end.result ≡ size.voters = c.from-voter-end.ensures ∙ c.voters.ensures ∙ ap (λ (s : Extent). s.voters) c.size.ensures in
    let past = subst (λ (n : ℕ). n ≤ c.loop-voter.voter) end c.loop-voter-test.false in
    nowhere t (of_voter size c.args.profile) size.voters c.loop-voter.voter past
    ∙ c.loop-voter.invariant
    ∙ whole t (of_voter size c.args.profile) size.voters
