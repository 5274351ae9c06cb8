-- `instance STUDY AXIOM NUMBER`: an instance of an axiom in words.
use Rattle.std.specs.Prelude.{◌≡◌, ℕ, Bool, List, if◌then◌else◌}
use Rattle.edge.specs.Shelf.{Files}
use Rattle.vocab.specs.Study.{Question}
use Rattle.answers.specs.Studies.{OverStudy}
use Rattle.instance_text.specs.Said.{is_there, said}
use Rattle.explain_answers.specs.Story.{bare_run}

-- 0 where the instance is there, and 3 where there is none
abbrev pub instance_status : Bool → ℕ
instance_status there = if there then 0 else 3

-- what is said of the instance of a number of the axiom of a name, and its status
pub record IsInstanceSaid (study : Question) (axiom_name : List ℕ) (number status : ℕ) (text : List ℕ) : Type 0 where
  pub ends : status ≡ instance_status (is_there study axiom_name number)
  pub lines : text ≡ said study axiom_name number

-- the file of the study is refused as `check` refuses it, or it gives a study of which an instance is told
abbrev pub IsInstance : Files → (name axiom_name : List ℕ) → (number status : ℕ) → (text : List ℕ) → Type 0
IsInstance files name axiom_name number status text =
    OverStudy files name (bare_run status) text (λ study. IsInstanceSaid study axiom_name number status text)
