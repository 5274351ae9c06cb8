use Rattle.std.proofs.Common.{◌≡◌, ◌∙◌, ◌<◌, ◌≤◌, ℕ, Bool, List, [], ◌∷◌, map, None, Some, ap, cond, sym, subst, true, false}
use Rattle.std.specs.List.{find, flat_map}
use Rattle.std.proofs.lemmas.List.Concat.{flat_map_single}
use Rattle.vocab.specs.declared.kinds.Sort.TheVariants.{Ballot}
use Rattle.vocab.specs.Range.{below}
use Rattle.vocab.specs.Size.{sort_count}
use Rattle.choice_sets.specs.declared.gains.Manipulation.{Manipulation}
use Rattle.choice_sets.specs.Gains.{gains}
use Rattle.choice_sets.proofs.FirstLemmas.{here, later, nowhere, whole}
use Rattle.choice_sets.proofs.gains.gain_of_voter.Goals as goal

module _ (profile voter count : ℕ) (t : Manipulation → Bool) where
  -- the manipulation by a ballot, alone
  abbrev by : ℕ → List Manipulation
  by b = record { profile = profile; voter = voter; ballot = b } ∷ []

  alone : (b : ℕ) (passes : Bool) → t (record { profile = profile; voter = voter; ballot = b }) ≡ passes → find t (by b) ≡ cond passes (Some (record { profile = profile; voter = voter; ballot = b })) None
  alone b passes e = ap (λ p. cond p (Some (record { profile = profile; voter = voter; ballot = b })) None) e

  listed : find t (flat_map by (below count)) ≡ find t (map (λ b. record { profile = profile; voter = voter; ballot = b }) (below count))
  listed = ap (find t) (flat_map_single (λ b. record { profile = profile; voter = voter; ballot = b }) (below count))

pub returns-then-is_gain : goal.returns-then-is_gain
returns-then-is_gain c =
    let size = c.args.rule.now.space.now in
    let count = sort_count size Ballot in
    let t = gains size c.args.rule.now.table.now in
    let within : c.loop-ballot.ballot < count = subst (λ (n : ℕ). c.loop-ballot.ballot < n) c.ballots-ballot-end.ensures.value c.loop-ballot-test.true in
    here t (by c.args.profile c.args.voter count t) count c.loop-ballot.ballot _ within (alone c.args.profile c.args.voter count t c.loop-ballot.ballot true (sym c.is_gain.ensures ∙ c.if-is_gain.true))
    ∙ c.loop-ballot.invariant
    ∙ whole t (by c.args.profile c.args.voter count t) count
    ∙ listed c.args.profile c.args.voter count t

pub loop-ballot-preserved : goal.loop-ballot-preserved
loop-ballot-preserved c =
    let size = c.args.rule.now.space.now in
    let count = sort_count size Ballot in
    let t = gains size c.args.rule.now.table.now in
    let within : c.loop-ballot.ballot < count = subst (λ (n : ℕ). c.loop-ballot.ballot < n) c.ballots-ballot-end.ensures.value c.loop-ballot-test.true in
    later t (by c.args.profile c.args.voter count t) count c.loop-ballot.ballot within (alone c.args.profile c.args.voter count t c.loop-ballot.ballot false (sym c.is_gain.ensures ∙ c.if-is_gain.false))
    ∙ c.loop-ballot.invariant

pub returns : goal.returns
returns c =
    let size = c.args.rule.now.space.now in
    let count = sort_count size Ballot in
    let t = gains size c.args.rule.now.table.now in
    let past : count ≤ c.loop-ballot.ballot = subst (λ (n : ℕ). n ≤ c.loop-ballot.ballot) c.ballots-ballot-end.ensures.value c.loop-ballot-test.false in
    nowhere t (by c.args.profile c.args.voter count t) count c.loop-ballot.ballot past
    ∙ c.loop-ballot.invariant
    ∙ whole t (by c.args.profile c.args.voter count t) count
    ∙ listed c.args.profile c.args.voter count t
