-- The pieces in which a sharp text is written.
use Rattle.std.specs.Prelude.{ℕ, List, [], ◌∷◌, ◌++◌}
use Rattle.std.specs.List.{flat_map}
use Rattle.vocab.specs.Study.{Question}
use Rattle.sharp_verdicts.specs.SharpLines.{SharpLine, sharp_line_text}

-- lines of a sharp text, each with its line end
abbrev pub sharp_lines_text : Question → List SharpLine → List ℕ
sharp_lines_text study lines = flat_map (λ line. sharp_line_text study line ++ 10 ∷ []) lines
