-- What a checker of reports holds, and what it stands for.
use Rattle.std.specs.Prelude.{◌≡◌, ℕ, ◌<◌, ◌≤◌, ◌==◌, ◌⊎◌, IsTrue, List, map, length, Option, Some, None}
use Rattle.std.specs.List.{list_all}
use Rattle.verdicts.specs.Numbers.{saturated}
use Rattle.vocab.specs.declared.literals.Literal.{Literal}
use Rattle.vocab.specs.Study.{Question}
use Rattle.meaning.specs.declared.stories.Lemma.{Lemma}
use Rattle.verdicts.specs.declared.refusals.Refusal.{Refusal}
use Rattle.verdicts.specs.Places.{Standing}
use Rattle.verdicts.specs.Faults.{known_of}
use Rattle.verdicts.specs.FirstFault.{Told, Good, Refused}
use Rattle.verdicts.specs.Judge.{judge}
use Rattle.report_lines.specs.Held.{held_place}
use Rattle.report.specs.declared.faults.ReportFault.{ReportFault}
use Rattle.report.specs.declared.faults.ReportFault.TheVariants.{Line as AtLine, NoMemory}
use Rattle.report.specs.declared.progress.Progress.{Progress}
use Rattle.report.specs.declared.judging.Judging.{Judging}

-- what lemmas suppose
abbrev pub supposed : List Lemma → List (List Literal)
supposed lemmas = map (λ lemma. lemma.suppose) lemmas

-- what is held is what the lines so far have given; of the lemmas that are read it is what they suppose alone, and a reason has a number for each of them
pub record Stands (study : Question) (r : Judging) (s : Standing) : Type 0 where
  pub place : r.place ≡ held_place s.place
  pub version : r.version ≡ s.version
  pub rows : r.rows ≡ s.rows
  pub core : r.core ≡ s.core
  pub count : r.count ≡ saturated s.count
  pub earlier : supposed r.earlier ≡ supposed s.earlier
  pub alone : IsTrue (list_all (λ lemma. length lemma.steps == 0) r.earlier)
  pub few : length r.earlier ≤ 4294967295
  pub suppose : r.suppose ≡ s.suppose
  pub size : r.board.size ≡ study.size
  pub known : r.board.literals ≡ known_of s
  pub witnesses : r.witnesses ≡ length s.witnesses

-- the lines of some report that is right so far have given what is held, and one more line has a number
pub record IsRead (study : Question) (r : Judging) : Type 0 where
  pub lines : List (List ℕ)
  pub few : length lines < 4294967295
  pub standing : Standing
  pub good : judge study lines ≡ Good standing
  pub stands : Stands study r standing

-- what is held after lines of which none is faulty, and after the first faulty one
abbrev pub StandsAs : Question → Option ReportFault → Judging → Told Standing Refusal → Type 0
StandsAs study fault r (Good s) = (fault ≡ None) × Stands study r s
StandsAs study fault r (Refused line word) = fault ≡ Some (AtLine line word)

-- a checker that is so far has what is told of the lines
abbrev pub StandsAt : Question → Progress → Told Standing Refusal → Type 0
StandsAt study p told = StandsAs study p.fault p.judging told

-- a checker that is so far stands for these lines
abbrev pub StandsFor : Question → Progress → List (List ℕ) → Type 0
StandsFor study p lines = (p.lines ≡ length lines) × StandsAt study p (judge study lines)

-- it stands for some lines, unless memory was wanting
abbrev pub StandsForSome : Question → Progress → Type 0
StandsForSome study p = (p.fault ≡ Some NoMemory) ⊎ ((lines : List (List ℕ)) × StandsFor study p lines)
