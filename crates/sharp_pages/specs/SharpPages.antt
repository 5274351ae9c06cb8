-- The page of a sharp text: HTML, as the page of a report, but for what shows that nothing can be left out.
use Rattle.std.specs.Prelude.{◌≡◌, ℕ, List, [], ◌++◌, codes, length, slice_get, Option, Some}
use Rattle.std.specs.Fmt.{decimal}
use Rattle.std.specs.List.{flat_map}
use Rattle.vocab.specs.Range.{below}
use Rattle.vocab.specs.Size.{Extent}
use Rattle.vocab.specs.Study.{Question}
use Rattle.vocab.specs.Titled.{Titled}
use Rattle.meaning.specs.declared.cores.Witness.{Witness}
use Rattle.meaning.specs.declared.cores.Witness.TheVariants.{Rule, Open}
use Rattle.verdicts.specs.declared.verdicts.Verdict.{Verdict}
use Rattle.verdicts.specs.declared.verdicts.Verdict.TheVariants.{Impossible}
use Rattle.tellings.specs.Tellings.{IsStoryTold}
use Rattle.tellings.specs.declared.tellings.StoryTelling.{StoryTelling}
use Rattle.sharp_verdicts.specs.declared.instances.Cited.{Cited}
use Rattle.sharp_verdicts.specs.Right.{Pointed}
use Rattle.story_pages.specs.Sentences.{axiom_html}
use Rattle.pages.specs.Pages.{check_html, front_html, proved_html}

-- whether it is open that an instance is needed
abbrev pub open_words : Witness → List ℕ
open_words (Rule table) = []
open_words (Open limit) = codes " (open)"

module _ (axioms : List Titled) where
  -- an instance, by the name of its axiom and its number
  abbrev pub instance_html : Cited → Witness → List ℕ
  instance_html c mark = codes "<span>" ++ axiom_html axioms c.«axiom» ++ codes " " ++ decimal c.number ++ open_words mark ++ codes "</span>"

  abbrev pub marked_instance_html : Option Cited → Option Witness → List ℕ
  marked_instance_html (Some c) (Some mark) = instance_html c mark
  marked_instance_html _ _ = []

  abbrev pub instance_html_at : List Cited → List Witness → ℕ → List ℕ
  instance_html_at instances marks place = marked_instance_html (slice_get instances place) (slice_get marks place)

  abbrev pub all_instances_html : List Cited → List Witness → List ℕ
  all_instances_html instances marks = flat_map (instance_html_at instances marks) (below (length marks))

  -- the instances that the proof cites
  abbrev pub instances_html : List Cited → List Witness → List ℕ
  instances_html instances marks =
      codes "<h2>Without one of the instances: a rule at which all others hold</h2>\n<p>The proof cites these instances of the axioms, by their numbers (<code>explain instance STUDY AXIOM NUMBER</code> tells one), and the sharp text has such a rule for each that is not marked as open: "
      ++ all_instances_html instances marks ++ codes ".</p>\n"

-- the page that claims so, of what a sharp text says: the names of the files, the version, and how the story is told
abbrev pub sharp_html :
    Extent → List Titled → (claim : Verdict) → (study_file report_file version : List ℕ) → StoryTelling → Pointed →
    List ℕ
sharp_html size axioms claim study_file report_file version told v =
    front_html size axioms claim ++ proved_html size axioms v.core v.story told
    ++ instances_html axioms v.instances v.marks ++ check_html study_file report_file version ++ codes "</body></html>\n"

-- the page of a sharp verdict on a study
abbrev pub sharp_page_of : Question → (study_file report_file version : List ℕ) → StoryTelling → Pointed → List ℕ
sharp_page_of study study_file report_file version told v =
    sharp_html study.size study.axioms (Impossible v.core [] []) study_file report_file version told v

-- the page of a sharp verdict, with its story told right
pub record IsSharpPage (study : Question) (study_file report_file version : List ℕ) (v : Pointed)
    (page : List ℕ) : Type 0 where
  pub telling : StoryTelling
  pub told : IsStoryTold study.size study.axioms v.core v.story telling
  pub is : page ≡ sharp_page_of study study_file report_file version telling v
