-- The table of answers: which run and which text answer which words, over which files.
use Rattle.std.specs.Prelude.{ℕ, List, Option, None, Some}
use Rattle.edge.specs.Shelf.{Files}
use Rattle.words.specs.Words.{Request, Decide, Check, Export, Proof, Lrat, Axioms, Sample, Adopt, Gain, Sharpen, request_of}
use Rattle.answers.specs.declared.runs.Run.{Run}
use Rattle.answers.specs.Usage.{IsUsage}
use Rattle.answers.specs.Decide.{IsDecided}
use Rattle.answers.specs.Check.{IsChecked}
use Rattle.answers.specs.Export.{IsExported}
use Rattle.answers.specs.Proof.{IsProved}
use Rattle.answers.specs.Lrat.{IsLratAnswer}
use Rattle.answers.specs.Axioms.{IsListed}
use Rattle.answers.specs.Sample.{IsSampled}
use Rattle.answers.specs.Adopt.{IsAdoption}
use Rattle.answers.specs.Gain.{IsGained}
use Rattle.answers.specs.Sharpen.{IsSharpening}

-- A row for each request. Where a file that is needed is not held, no answer is lawful. The number of workers changes none.
abbrev pub IsBenchAnswer : Option Request → Files → Run → List ℕ → Type 0
IsBenchAnswer None files run text = IsUsage run text
IsBenchAnswer (Some (Decide study workers)) files run text = IsDecided files study run text
IsBenchAnswer (Some (Check study report workers)) files run text = IsChecked files study report run text
IsBenchAnswer (Some (Export study workers)) files run text = IsExported files study run text
IsBenchAnswer (Some (Proof study workers)) files run text = IsProved files study run text
IsBenchAnswer (Some (Lrat cnf proof)) files run text = IsLratAnswer files cnf proof run text
IsBenchAnswer (Some (Axioms kind)) files run text = IsListed kind run text
IsBenchAnswer (Some (Sample number)) files run text = IsSampled number run text
IsBenchAnswer (Some (Adopt study proof workers)) files run text = IsAdoption files study proof run text
IsBenchAnswer (Some (Gain study report)) files run text = IsGained files study report run text
IsBenchAnswer (Some (Sharpen study workers)) files run text = IsSharpening files study run text

-- this run and this text answer the words
abbrev pub Lawful : List (List ℕ) → Files → Run → List ℕ → Type 0
Lawful words files run text = IsBenchAnswer (request_of words) files run text
