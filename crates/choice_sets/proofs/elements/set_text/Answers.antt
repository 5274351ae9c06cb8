use Rattle.std.proofs.Common.{◌≡◌, ◌∙◌, ◌<◌, sym, ap, length, take, ◌+◌, ◌++◌, [], ◌∷◌, ℕ, List, arith, length-set}
use Rattle.std.proofs.lemmas.List.{take_more_set}
use Rattle.meaning.specs.Texts.{letter}
use Rattle.choice_sets.proofs.ElementLemmas.{few_sets, none_more, one_more, set_names}
use Rattle.choice_sets.proofs.elements.set_text.Goals as goal
use Rattle.choice_sets.proofs.elements.set_text.Goals.{then-is_element, else-is_element}

pub is_element-requires-clause-set : goal.is_element-requires-clause-set
is_element-requires-clause-set c = omega (arith, c.requires, few_sets c.args.alternatives.number c.args.alternatives.few)

pub loop-x-preserved : goal.loop-x-preserved
loop-x-preserved c = elim c.if-is_element.branch [
  | then-is_element w ↦
      let v : c.loop-x.count < length c.loop-x.letters = omega (arith, c.loop-x.invariant.size, c.loop-x.invariant.few, c.loop-x-test.true, c.args.alternatives.few) in
      record {
        size = ap length w.letters-is ∙ length-set c.loop-x.letters c.loop-x.count _ ∙ c.loop-x.invariant.size;
        few = omega (arith, w.count-is, c.loop-x.invariant.few);
        front =
            ap (λ (k : ℕ). take k c.if-is_element.letters) w.count-is
            ∙ ap (take (c.loop-x.count + 1)) w.letters-is
            ∙ take_more_set c.loop-x.letters c.loop-x.count _ v
            ∙ ap (λ (ls : List ℕ). ls ++ letter c.loop-x.x ∷ []) c.loop-x.invariant.front
            ∙ sym (one_more c.args.set c.loop-x.x (sym c.is_element.ensures ∙ w.if-is_element.true));
      }
  | else-is_element w ↦ record {
    size = ap length w.letters-is ∙ c.loop-x.invariant.size;
    few = omega (arith, w.count-is, c.loop-x.invariant.few);
    front =
        ap (λ (k : ℕ). take k c.if-is_element.letters) w.count-is
        ∙ ap (take c.loop-x.count) w.letters-is
        ∙ c.loop-x.invariant.front
        ∙ sym (none_more c.args.set c.loop-x.x (sym c.is_element.ensures ∙ w.if-is_element.false));
  }
]

pub unwrap-requires : goal.unwrap-requires
unwrap-requires c =
    let last : c.loop-x.x ≡ c.args.alternatives.number = omega (arith, c.loop-x-test.false, c.loop-x.auto.x-end) in
    c.new.ensures.when.1 (rw (c.loop-x.invariant.front, last) (set_names c.args.alternatives.number c.args.set c.args.alternatives.few c.requires))
