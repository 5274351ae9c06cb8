use Rattle.std.proofs.Common.{◌≡◌, ◌∙◌, ap, ℕ, ◌+◌, [], ◌∷◌, ◌++◌}
use Rattle.lists.proofs.JoinLaws.{joined_3}
use Rattle.vocab.specs.Size.{Extent}
use Rattle.study_hints.proofs.values.put_alternatives.Goals as goal

pub returns : goal.returns
returns c =
    let count : c.alternatives-last.result ≡ c.args.space.now.alternatives = c.alternatives-last.ensures ∙ ap (λ (s : Extent). s.alternatives) c.size.ensures in
    let last : c.push.new.self ≡ c.append.new.self ++ (96 + c.args.space.now.alternatives) ∷ [] = c.in_ok-push.ensures.ok ∙ ap (λ (n : ℕ). c.append.new.self ++ (96 + n) ∷ []) count in
    joined_3 _ _ _ _ _ _ _ c.in_ok-append.ensures.ok last c.in_ok-append-2.ensures.ok
