-- What is said of a gain.
use Rattle.std.specs.Prelude.{ℕ, List, ◌++◌, codes}
use Rattle.verdicts.specs.Numbers.{number_text}
use Rattle.answer_text.specs.declared.gains.GainWords.{GainWords}

-- the line of a gain, from its words
abbrev pub words_text : GainWords → List ℕ
words_text w =
    codes "voter " ++ (number_text w.voter ++ (codes " at " ++ (w.profile ++ (codes " gains by " ++ (w.ballot
    ++ (codes ": " ++ (w.after ++ (codes " over " ++ (w.before ++ codes "\n")))))))))
