use Rattle.std.proofs.Common.{◌≡◌, ◌∙◌, ap, ℕ, ◌++◌}
use Rattle.std.specs.Prelude.{decimal}
use Rattle.lists.proofs.JoinLaws.{joined_3}
use Rattle.vocab.specs.Size.{Extent}
use Rattle.study_hints.proofs.values.put_voters.Goals as goal

pub returns : goal.returns
returns c =
    let voters : c.voters-voters.result ≡ c.args.space.now.voters = c.voters-voters.ensures ∙ ap (λ (s : Extent). s.voters) c.size.ensures in
    let number : c.put_number.new.out ≡ c.append.new.self ++ decimal c.args.space.now.voters = c.in_ok-put_number.ensures ∙ ap (λ (n : ℕ). c.append.new.self ++ decimal n) voters in
    joined_3 _ _ _ _ _ _ _ c.in_ok-append.ensures.ok number c.in_ok-append-2.ensures.ok
