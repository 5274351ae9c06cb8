-- What a page is that was made from a verdict.
use Rattle.std.specs.Prelude.{◌≡◌, ℕ, List}
use Rattle.vocab.specs.Size.{Extent}
use Rattle.vocab.specs.Study.{Question}
use Rattle.vocab.specs.Titled.{Titled}
use Rattle.verdicts.specs.declared.verdicts.Verdict.{Verdict}
use Rattle.verdicts.specs.declared.verdicts.Verdict.TheVariants.{Possible, Impossible, Undecided}
use Rattle.tellings.specs.Tellings.{IsStoryTold}
use Rattle.tellings.specs.declared.tellings.StoryTelling.{StoryTelling}
use Rattle.pages.specs.Pages.{page_of}

-- the story of the verdict is told right so, if it has one
abbrev pub IsToldBy : Extent → List Titled → Verdict → StoryTelling → Type 0
IsToldBy size axioms (Possible table) told = Unit
IsToldBy size axioms (Impossible core story witnesses) told = IsStoryTold size axioms core story told
IsToldBy size axioms Undecided told = Unit

-- the page of a verdict, with its story told right: the names of the files, and the version
pub record IsPage (study : Question) (study_file report_file version : List ℕ) (verdict : Verdict)
    (page : List ℕ) : Type 0 where
  pub telling : StoryTelling
  pub told : IsToldBy study.size study.axioms verdict telling
  pub is : page ≡ page_of study study_file report_file version telling verdict
