use Rattle.std.proofs.Common.{◌∙◌, ◌++◌, ◌∷◌, [], sym, ap, length, append-nil, true, false}
use Rattle.std.proofs.lemmas.Option.{slice_get_within}
use Rattle.meaning.specs.declared.cores.Witness.{Witness}
use Rattle.sharp_verdicts.specs.Instances.{has_instance}
use Rattle.sharpen.proofs.MarkLaws.{in_is, kept_more, mark_there}
use Rattle.sharpen.proofs.marking.marks_of.Goals as goal
use Rattle.sharpen.proofs.marking.marks_of.Goals.{then-is_among+in_ok-copied+in_ok-push, else-is_among}

pub loop-k-preserved : goal.loop-k-preserved
loop-k-preserved c =
    let at = ap (has_instance c.args.listed.now) (in_is c.args.instances.now c.get.result.now c.get-cited.result.now c.get-cited.ensures) ∙ sym c.is_among.ensures in
    elim c.if-is_among.branch [
      | then-is_among+in_ok-copied+in_ok-push w ↦
          kept_more c.args.listed.now c.args.instances.now c.args.core.now c.args.witnesses.now c.loop-k.marks c.if-is_among.marks c.loop-k.k c.get.result.now w.get-then-is_among.result.now true c.loop-k.invariant c.get.ensures
          w.get-then-is_among.ensures (at ∙ w.if-is_among.true) (w.marks-is ∙ w.in_ok-push.ensures.ok ∙ ap (λ (z : Witness). c.loop-k.marks ++ z ∷ []) w.in_ok-copied.ensures)
      | else-is_among w ↦
          let mark = mark_there c.args.witnesses.now (length c.args.core.now) c.loop-k.k c.requires.count (slice_get_within c.args.core.now c.loop-k.k c.get.result.now c.get.ensures) in
          kept_more c.args.listed.now c.args.instances.now c.args.core.now c.args.witnesses.now c.loop-k.marks c.if-is_among.marks c.loop-k.k c.get.result.now mark.0 false c.loop-k.invariant c.get.ensures
          mark.1 (at ∙ w.if-is_among.false) (w.marks-is ∙ sym (append-nil c.loop-k.marks))
    ]
