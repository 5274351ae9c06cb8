-- What a program holds of the line that the grammar wants at a place.
use Rattle.std.specs.Prelude.{ℕ, List, Option, None, option_map, codes}
use Rattle.vocab.specs.Study.{Question}
use Rattle.verdicts.specs.Lines.{End}
use Rattle.verdicts.specs.Places.{AtTitle, AtKind, AtVoters, AtAlternatives, AtBallots, AtAbsent, AtAxioms, AtVerdict, AtLimit, AtRule, AtRow, AtCore, AtLemmas, AtLemma, AtSuppose, AtStep, AtWitness, AtWitnessRow, wanted}
use Rattle.verdicts.specs.Reading.{keyed, no_word}
use Rattle.report_lines.specs.declared.lines.Line.{Line as HeldLine}
use Rattle.report_lines.specs.declared.places.Place.{Place as HeldPlace}
use Rattle.report_lines.specs.declared.places.Place.TheVariants as place
use Rattle.report_lines.specs.Held.{held_line}

module _ (study : Question) where
  -- by the place that is held; which verdict was read plays no part
  abbrev pub held_wanted : HeldPlace → ℕ → List (List ℕ) → Option HeldLine
  held_wanted place.AtTitle number words = option_map (held_line study) (wanted study AtTitle number words)
  held_wanted place.AtKind number words = option_map (held_line study) (wanted study AtKind number words)
  held_wanted place.AtVoters number words = option_map (held_line study) (wanted study AtVoters number words)
  held_wanted place.AtAlternatives number words =
      option_map (held_line study) (wanted study AtAlternatives number words)
  held_wanted place.AtBallots number words =
      option_map (held_line study) (wanted study AtBallots number words)
  held_wanted place.AtAbsent number words = option_map (held_line study) (wanted study AtAbsent number words)
  held_wanted place.AtAxioms number words = option_map (held_line study) (wanted study AtAxioms number words)
  held_wanted place.AtVerdict number words =
      option_map (held_line study) (wanted study AtVerdict number words)
  held_wanted place.AtLimit number words = option_map (held_line study) (wanted study AtLimit number words)
  held_wanted place.AtRule number words = option_map (held_line study) (wanted study AtRule number words)
  held_wanted place.AtRow number words = option_map (held_line study) (wanted study AtRow number words)
  held_wanted place.AtCore number words = option_map (held_line study) (wanted study AtCore number words)
  held_wanted place.AtLemmas number words = option_map (held_line study) (wanted study AtLemmas number words)
  held_wanted place.AtLemma number words = option_map (held_line study) (wanted study AtLemma number words)
  held_wanted place.AtSuppose number words =
      option_map (held_line study) (wanted study AtSuppose number words)
  held_wanted place.AtStep number words = option_map (held_line study) (wanted study AtStep number words)
  held_wanted place.AtWitness number words =
      option_map (held_line study) (wanted study AtWitness number words)
  held_wanted place.AtWitnessRow number words =
      option_map (held_line study) (wanted study AtWitnessRow number words)
  held_wanted (place.AtEnd claim) number words =
      option_map (held_line study) (keyed (codes "end") (no_word End) words)
  held_wanted (place.AtNothing claim) number words = None
