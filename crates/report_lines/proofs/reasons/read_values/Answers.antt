use Rattle.std.proofs.Common.{Some, ◌≡◌, ◌++◌, ◌∷◌, [], ◌∙◌, List, ℕ, sym, ap, length, option_map, arith, length-append}
use Rattle.vocab.specs.Formula.{prefix_of}
use Rattle.vocab.specs.Size.{Extent}
use Rattle.verdicts.specs.Texts.{read_value}
use Rattle.vocab.specs.Tree.{tree_of}
use Rattle.verdicts.specs.Reading.{read_values}
use Rattle.report_lines.specs.Rest.{words_after}
use Rattle.report_lines.proofs.ReasonLemmas.{values_more, values_left}
use Rattle.report_lines.proofs.reasons.read_values.Goals as goal

pub loop-sort-preserved : goal.loop-sort-preserved
loop-sort-preserved c = record {
  room = omega (arith, ap length c.with-values.ensures, length-append c.loop-sort.values (c.in-Some-read_value.value ∷ []), c.in-Some.ensures.1, c.loop-sort.invariant.room);
  told = λ study e.
      let value : Some c.in-Some-read_value.value ≡ read_value study.size c.in-Some.sort c.in-Some-next_word.word.now = c.in-Some-read_value.ensures ∙ ap (λ (s : Extent). read_value s c.in-Some.sort c.in-Some-next_word.word.now) e in
      c.loop-sort.invariant.told study e
      ∙ values_more study (prefix_of (tree_of c.loop-sort.body.now)) (prefix_of (tree_of c.in-Some.inner.now)) c.in-Some.sort (words_after c.loop-sort.left.now) (words_after c.in-Some-next_word.more.now) c.in-Some-next_word.word.now c.in-Some-read_value.value c.loop-sort.values
      c.in-Some.ensures.0 c.in-Some-next_word.ensures.0 value
      ∙ ap (λ (held : List ℕ). option_map (λ values. held ++ values) (read_values study (prefix_of (tree_of c.in-Some.inner.now)) (words_after c.in-Some-next_word.more.now))) (sym c.with-values.ensures);
}

pub returns-else-is_empty : goal.returns-else-is_empty
returns-else-is_empty c = λ study e.
    sym (c.loop-sort.invariant.told study e ∙ values_left study (prefix_of (tree_of c.loop-sort.body.now)) c.loop-sort.left.now c.loop-sort.values c.in_default.ensures (sym c.is_empty.ensures ∙ c.if-is_empty.false))
