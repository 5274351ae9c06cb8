-- The words that are left of a line, as a program holds them.
use Rattle.std.specs.Prelude.{ℕ, List, [], ◌∷◌}
use Rattle.verdicts.specs.Texts.{words_of}

-- the words that follow one of a line: none at its end, and else those after the blank
abbrev pub words_after : List ℕ → List (List ℕ)
words_after [] = []
words_after (c ∷ text) = words_of text
