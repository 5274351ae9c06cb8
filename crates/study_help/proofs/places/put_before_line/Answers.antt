use Rattle.std.proofs.Common.{◌≡◌, ◌∙◌, ap, ℕ, List, ◌++◌}
use Rattle.lists.proofs.JoinLaws.{joined_3}
use Rattle.study_help.specs.Places.{last_bytes, quoted}
use Rattle.study_help.proofs.places.put_before_line.Goals as goal

pub returns : goal.returns
returns c =
    let before : c.put_quoted.new.out ≡ c.append.new.self ++ quoted (last_bytes c.args.before.now) = c.in_ok-put_quoted.ensures ∙ ap (λ (l : List ℕ). c.append.new.self ++ quoted l) c.last_bytes.ensures in
    joined_3 _ _ _ _ _ _ _ c.in_ok-append.ensures.ok before c.in_ok-append-2.ensures.ok
