use Rattle.std.proofs.Common.{ap, ◌∙◌, ℕ, List, ◌++◌, codes}
use Rattle.lists.proofs.JoinLaws.{joined_3}
use Rattle.report_text.proofs.WordLemmas.{named_instance}
use Rattle.instance_text.proofs.lines.put_reason.Goals as goal

pub returns : goal.returns
returns c =
    let name = rw (c.bytes.ensures, c.name-name.ensures) at c.in_ok-append-2.ensures.ok in
    let values = rw c.sentence.ensures at c.in_ok-put_words.ensures in
    joined_3 _ _ _ _ _ _ _ c.in_ok-append.ensures.ok name values
    ∙ ap (λ (l : List ℕ). c.args.out.now ++ (codes "axiom " ++ l)) (named_instance c.args.study.now c.args.place c.args.values.now c.args.named.now c.requires.place)
