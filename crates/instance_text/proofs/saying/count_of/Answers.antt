use Rattle.std.proofs.Common.{◌≡◌, ◌≤◌, ◌-◌, ◌^◌, min, arith}
use Rattle.vocab.specs.Limits.{instance_count}
use Rattle.instance_text.proofs.saying.count_of.Goals as goal
use Rattle.vocab.proofs.StudyLaws.{few_at}

pub returns : goal.returns
returns g c =
    let study = c.args.study.now in
    let sentence = c.args.named.now.sentence in
    let few : instance_count study.size sentence ≤ 40000000 = few_at study c.args.place c.args.named.now c.axioms-axioms.ensures.study c.requires.place in
    let held : c.instance_count.result ≡ min (instance_count study.size sentence) (2 ^ 64 - 1) = rw (c.sentence.ensures, c.space.ensures, ← c.requires.size) at c.instance_count.ensures in
    omega (arith, few, held)
