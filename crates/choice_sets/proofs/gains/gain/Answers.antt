use Rattle.std.proofs.Common.{◌≡◌, ◌∙◌, ◌<◌, ◌≤◌, ℕ, ap, sym, subst}
use Rattle.std.specs.List.{find}
use Rattle.vocab.specs.declared.kinds.Sort.TheVariants.{Profile}
use Rattle.vocab.specs.Size.{Extent, sort_count}
use Rattle.choice_sets.specs.Gains.{gains, of_profile}
use Rattle.choice_sets.proofs.FirstLemmas.{here_found, later_found, nowhere, whole}
use Rattle.choice_sets.proofs.gains.gain.Goals as goal

pub returns-then-is_some : goal.returns-then-is_some
returns-then-is_some c =
    let size = c.args.kind.now.space in
    let t = gains size c.args.table.now in
    let end : c.count-profile-end.result ≡ sort_count size Profile = c.count-profile-end.ensures.value ∙ ap (λ (s : Extent). sort_count s Profile) c.space.ensures in
    let within = subst (λ (n : ℕ). c.loop-profile.profile < n) end c.loop-profile-test.true in
    let found = c.gain_at-found.ensures ∙ ap (λ (s : Extent). find (gains s c.args.table.now) (of_profile s c.loop-profile.profile)) c.space.ensures in
    here_found t (of_profile size) (sort_count size Profile) c.loop-profile.profile c.gain_at-found.result within found (sym c.is_some.ensures ∙ c.if-is_some.true)
    ∙ c.loop-profile.invariant
    ∙ whole t (of_profile size) (sort_count size Profile)

pub loop-profile-preserved : goal.loop-profile-preserved
loop-profile-preserved c =
    let size = c.args.kind.now.space in
    let t = gains size c.args.table.now in
    let end : c.count-profile-end.result ≡ sort_count size Profile = c.count-profile-end.ensures.value ∙ ap (λ (s : Extent). sort_count s Profile) c.space.ensures in
    let within = subst (λ (n : ℕ). c.loop-profile.profile < n) end c.loop-profile-test.true in
    let found = c.gain_at-found.ensures ∙ ap (λ (s : Extent). find (gains s c.args.table.now) (of_profile s c.loop-profile.profile)) c.space.ensures in
    later_found t (of_profile size) (sort_count size Profile) c.loop-profile.profile c.gain_at-found.result within found (sym c.is_some.ensures ∙ c.if-is_some.false)
    ∙ c.loop-profile.invariant

pub returns : goal.returns
returns c =
    let size = c.args.kind.now.space in
    let t = gains size c.args.table.now in
    let end : c.count-profile-end.result ≡ sort_count size Profile = c.count-profile-end.ensures.value ∙ ap (λ (s : Extent). sort_count s Profile) c.space.ensures in
    let past = subst (λ (n : ℕ). n ≤ c.loop-profile.profile) end c.loop-profile-test.false in
    nowhere t (of_profile size) (sort_count size Profile) c.loop-profile.profile past
    ∙ c.loop-profile.invariant
    ∙ whole t (of_profile size) (sort_count size Profile)
