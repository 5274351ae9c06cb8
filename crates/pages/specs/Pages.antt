-- The page of a verdict on a study: HTML, in one file, with its styles within, that loads nothing and
-- runs no script.
use Rattle.std.specs.Prelude.{ℕ, true, false, List, ◌++◌, codes, length}
use Rattle.vocab.specs.Range.{below}
use Rattle.vocab.specs.Size.{Extent}
use Rattle.vocab.specs.Study.{Question}
use Rattle.vocab.specs.Titled.{Titled}
use Rattle.meaning.specs.declared.cores.Witness.{Witness}
use Rattle.meaning.specs.declared.stories.Lemma.{Lemma}
use Rattle.verdicts.specs.declared.verdicts.Verdict.{Verdict}
use Rattle.verdicts.specs.declared.verdicts.Verdict.TheVariants.{Possible, Impossible, Undecided}
use Rattle.tellings.specs.declared.tellings.StoryTelling.{StoryTelling}
use Rattle.html.specs.Escapes.{escaped}
use Rattle.rule_pages.specs.Named.{name_html}
use Rattle.rule_pages.specs.Rules.{rule_html}
use Rattle.story_pages.specs.Homes.{story_html}
use Rattle.pages.specs.FileNames.{shell_word}
use Rattle.pages.specs.Words.{opening, styles}
use Rattle.pages.specs.Headings.{verdict_claim_html}
use Rattle.pages.specs.Theorem.{size_html, axioms_html, reading_html}
use Rattle.pages.specs.Witnesses.{witnesses_html}

module _ (size : Extent) (axioms : List Titled) where
  -- ---- what a verdict says

  -- an impossibility up to its marks, and with them
  abbrev pub proved_html : List ℕ → List Lemma → StoryTelling → List ℕ
  proved_html core story told =
      axioms_html size axioms core ++ reading_html size true ++ codes "<h2>Proof</h2>\n"
      ++ story_html size axioms story told

  abbrev pub impossible_html : List ℕ → List Lemma → List Witness → StoryTelling → List ℕ
  impossible_html core story witnesses told =
      proved_html core story told ++ witnesses_html size axioms core witnesses

  -- what a rule satisfies, and the rule
  abbrev pub satisfied_html : List ℕ
  satisfied_html = axioms_html size axioms (below (length axioms)) ++ reading_html size false

  abbrev pub possible_html : List ℕ → List ℕ
  possible_html table =
      satisfied_html ++ codes "<h2>The rule" ++ name_html size table ++ codes "</h2>\n"
      ++ rule_html size table

  -- what a verdict says, its story told so
  abbrev pub verdict_html : Verdict → StoryTelling → List ℕ
  verdict_html (Possible table) told = possible_html table
  verdict_html (Impossible core story witnesses) told = impossible_html core story witnesses told
  verdict_html Undecided told = codes "<p>Nothing is claimed.</p>\n"

  -- ---- the page

  -- the front of the page: its title, the styles, the title again, and the size
  abbrev pub front_html : Verdict → List ℕ
  front_html verdict =
      opening ++ verdict_claim_html false axioms size verdict ++ styles ++ verdict_claim_html true axioms size verdict
      ++ codes "</h1>\n" ++ size_html size

-- how to check: the files of the study and of the report, as words of a command line, and the version
abbrev pub check_html : (study_file report_file version : List ℕ) → List ℕ
check_html study_file report_file version =
    codes "<h2>How to check</h2>\n<p>The command <code>bench check " ++ escaped (shell_word study_file) ++ codes " "
    ++ escaped (shell_word report_file)
    ++ codes "</code> goes through the second file line by line, by the sentences of the axioms alone. This page tells what that file says. Version: "
    ++ escaped version ++ codes ".</p>\n"

-- the page of a verdict over a size: the axioms, the names of the files, the version, and how the story
-- is told
abbrev pub whole_html : Extent → List Titled → (study_file report_file version : List ℕ) → StoryTelling → Verdict → List ℕ
whole_html size axioms study_file report_file version told verdict =
    front_html size axioms verdict ++ verdict_html size axioms verdict told
    ++ check_html study_file report_file version ++ codes "</body></html>\n"

-- the page of a verdict on a study
abbrev pub page_of : Question → (study_file report_file version : List ℕ) → StoryTelling → Verdict → List ℕ
page_of study study_file report_file version told verdict =
    whole_html study.size study.axioms study_file report_file version told verdict
