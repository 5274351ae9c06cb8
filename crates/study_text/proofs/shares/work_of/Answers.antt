use Rattle.std.proofs.Common.{◌≡◌, ◌≤◌, ap₂, arith}
use Rattle.vocab.specs.Limits.{atom_count}
use Rattle.study.specs.Sentences.{told_count}
use Rattle.study_text.specs.declared.shares.Share.TheVariants as share
use Rattle.study_text.proofs.CountLemmas.{told_whole}
use Rattle.study_text.proofs.shares.work_of.Goals as goal
use Rattle.vocab.proofs.StudyLaws.{whole_at}

pub overflow_cast-count : goal.overflow_cast-count
overflow_cast-count c =
    let study = c.args.study.now in
    let sentence = c.args.named.now.sentence in
    let few : atom_count study.size sentence ≤ 200000000 = omega (arith, whole_at study c.args.place c.args.named.now c.axioms-axioms.ensures.study c.requires) in
    let held : c.atoms-told.result ≡ told_count (atom_count study.size sentence) = rw (c.sentence.ensures, c.size.ensures) at c.atoms-told.ensures in
    let whole = told_whole c.atoms-told.result (atom_count study.size sentence) held few in
    omega (arith, whole, few)

pub returns : goal.returns
returns c =
    let study = c.args.study.now in
    let sentence = c.args.named.now.sentence in
    let few : atom_count study.size sentence ≤ 200000000 = omega (arith, whole_at study c.args.place c.args.named.now c.axioms-axioms.ensures.study c.requires) in
    let held : c.atoms-told.result ≡ told_count (atom_count study.size sentence) = rw (c.sentence.ensures, c.size.ensures) at c.atoms-told.ensures in
    ap₂ share.Work c.name-name.ensures (told_whole c.atoms-told.result (atom_count study.size sentence) held few)
