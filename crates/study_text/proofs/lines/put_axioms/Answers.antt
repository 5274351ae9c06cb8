use Rattle.std.proofs.Common.{◌∙◌, ap, ℕ, [], ◌++◌, slice_get}
use Rattle.std.specs.Option.{option_map_or}
use Rattle.vocab.proofs.Ranges.{goes_on}
use Rattle.study_text.specs.LookText.{axiom_lines, lines_at}
use Rattle.study_text.proofs.lines.put_axioms.Goals as goal

pub loop-place-preserved : goal.loop-place-preserved
loop-place-preserved c =
    let study = c.args.study.now in
    goes_on (lines_at study c.args.ground.now) _ _ _ _ c.loop-place.invariant
    (c.in_ok-put_axiom.ensures ∙ ap (λ (n : ℕ). c.loop-place.out ++ option_map_or (axiom_lines study.size n) (slice_get study.axioms c.loop-place.place) []) c.kept_of.ensures)
