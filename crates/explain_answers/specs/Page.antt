-- The page of a verdict.
use Rattle.std.specs.Prelude.{ℕ, List, codes}
use Rattle.vocab.specs.Study.{Question}
use Rattle.verdicts.specs.declared.verdicts.Verdict.{Verdict}
use Rattle.pages.specs.Told.{IsPage}
use Rattle.sharp_pages.specs.SharpPages.{IsSharpPage}
use Rattle.sharp_verdicts.specs.Right.{Pointed}

-- what a page calls its version
abbrev pub version : List ℕ
version = codes "explain 1"

-- the text is a page of the verdict on a study, with the names of the files of its study and of its report
abbrev pub IsPageText : Question → (study_file report_file : List ℕ) → Verdict → (text : List ℕ) → Type 0
IsPageText study study_file report_file verdict text = IsPage study study_file report_file version verdict text

-- the text is a page of the sharp verdict on a study
abbrev pub IsSharpPageText : Question → (study_file report_file : List ℕ) → Pointed → (text : List ℕ) → Type 0
IsSharpPageText study study_file report_file v text = IsSharpPage study study_file report_file version v text
