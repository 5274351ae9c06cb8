use Rattle.std.proofs.Common.{◌≡◌, ◌∙◌, ap, ℕ, List, ◌++◌, take, drop}
use Rattle.lists.proofs.JoinLaws.{joined_4}
use Rattle.study_help.specs.Places.{before_line, there_line}
use Rattle.study_help.proofs.places.put_place.Goals as goal

pub returns : goal.returns
returns c =
    let front : c.put_before_line.new.out ≡ c.put_offset_line.new.out ++ before_line (take c.args.offset c.args.text.now)
    = c.in_ok-put_before_line.ensures ∙ ap (λ (l : List ℕ). c.put_offset_line.new.out ++ before_line l) c.text_before.ensures
    in
    let there : c.put_there_line.new.out ≡ c.put_before_line.new.out ++ there_line (drop c.args.offset c.args.text.now)
    = c.in_ok-put_there_line.ensures ∙ ap (λ (l : List ℕ). c.put_before_line.new.out ++ there_line l) c.text_from.ensures
    in
    joined_4 _ _ _ _ _ _ _ _ _ c.in_ok-put_offset_line.ensures front there c.in_ok-put_kinds_line.ensures
