use Rattle.std.proofs.Common.{◌≡◌, ◌≤◌, true, ap, sym, subst, ◌∙◌, ℕ, List, ◌++◌, map, nat_lt}
use Rattle.std.specs.Cmp.Lexicographic.{pointwise}
use Rattle.vocab.specs.Formula.{prefix_of}
use Rattle.vocab.specs.Limits.{instance_count}
use Rattle.vocab.specs.Size.{Extent, sort_count}
use Rattle.vocab.specs.Study.{is_sentence}
use Rattle.meaning.specs.Instances.{instance_values}
use Rattle.instance_text.specs.Said.{told_instance}
use Rattle.instance_text.proofs.SaidLemmas.{values_fit}
use Rattle.instance_text.proofs.saying.tell.Goals as goal
use Rattle.vocab.proofs.StudyLaws.{few_at, sentence_at}

pub values_of-values-requires-clause-sentence : goal.values_of-values-requires-clause-sentence
values_of-values-requires-clause-sentence g c κs within =
    subst (λ (e : Extent). is_sentence e c.args.named.now ≡ true) c.requires.size (sentence_at c.args.study.now c.args.place c.args.named.now c.axioms-axioms.ensures.study c.requires.place)

pub values_of-values-requires-clause-few : goal.values_of-values-requires-clause-few
values_of-values-requires-clause-few g c κs within =
    subst (λ (e : Extent). instance_count e c.args.named.now.sentence ≤ 40000000) c.requires.size (few_at c.args.study.now c.args.place c.args.named.now c.axioms-axioms.ensures.study c.requires.place)

pub put_told-requires-clause-within : goal.put_told-requires-clause-within
put_told-requires-clause-within g c =
    let size = c.args.study.now.size in
    let sentence = c.args.named.now.sentence in
    let values : c.values_of-values.result ≡ instance_values size sentence c.args.number
    = c.values_of-values.ensures.values ∙ sym (ap (λ (e : Extent). instance_values e sentence c.args.number) c.requires.size) in
    subst (λ (xs : List ℕ). pointwise nat_lt xs (map (sort_count size) (prefix_of sentence)) ≡ true) (sym values) (values_fit size sentence c.args.number c.requires.within)

pub returns : goal.returns
returns g c =
    let study = c.args.study.now in
    let a = c.args.named.now in
    let values : c.values_of-values.result ≡ instance_values study.size a.sentence c.args.number
    = c.values_of-values.ensures.values ∙ sym (ap (λ (e : Extent). instance_values e a.sentence c.args.number) c.requires.size) in
    c.in_ok-put_told.ensures
    ∙ ap (λ (l : List ℕ). l ++ told_instance study c.args.place a c.values_of-values.result) c.new-text.ensures
    ∙ ap (told_instance study c.args.place a) values
