use Rattle.std.proofs.Common.{◌≡◌, ◌∙◌, ap, ℕ, List, ◌++◌}
use Rattle.lists.proofs.JoinLaws.{joined_5}
use Rattle.meaning.specs.Texts.{kind_text}
use Rattle.study_hints.proofs.keys.put_axioms.Goals as goal

pub returns : goal.returns
returns c =
    let word : c.append-2.new.self ≡ c.append.new.self ++ kind_text c.args.kind = c.in_ok-append-2.ensures.ok ∙ ap (λ (l : List ℕ). c.append.new.self ++ l) c.kind_word.ensures in
    joined_5 _ _ _ _ _ _ _ _ _ _ _ c.in_ok-append.ensures.ok word c.in_ok-append-3.ensures.ok c.in_ok-put_library.ensures c.in_ok-append-4.ensures.ok
