-- The pieces in which a report is written.
use Rattle.std.specs.Prelude.{ℕ, List, [], ◌∷◌, ◌++◌, map, length, slice_get}
use Rattle.std.specs.List.{flat_map}
use Rattle.vocab.specs.Study.{Question}
use Rattle.meaning.specs.declared.stories.Reason.{Reason}
use Rattle.meaning.specs.declared.stories.Lemma.{Lemma}
use Rattle.verdicts.specs.Lines.{Line, KindIs, VotersAre, AlternativesAre, AxiomsAre, SaysImpossible, CoreIs, LemmasAre, line_text, name_at, reason_words, sorts_of, value_words}
use Rattle.verdicts.specs.Numbers.{number_text}
use Rattle.verdicts.specs.Report.{domain_lines, story_lines}
use Rattle.verdicts.specs.Texts.{joined_words}

-- words, each with a blank before it
abbrev pub spaced : List (List ℕ) → List ℕ
spaced words = flat_map (λ word. 32 ∷ word) words

-- a line of a key, which ends with a blank, and a number
abbrev pub count_text : List ℕ → ℕ → List ℕ
count_text key count = key ++ (number_text count ++ 10 ∷ [])

-- a line with its line end
abbrev pub ended_line : Question → Line → List ℕ
ended_line study line = line_text study line ++ 10 ∷ []

-- lines, each with its line end
abbrev pub lines_text : Question → List Line → List ℕ
lines_text study lines = flat_map (ended_line study) lines

-- a reason
abbrev pub reason_text : Question → Reason → List ℕ
reason_text study reason = joined_words (reason_words study reason)

-- an instance of the axiom at a place: the name of the axiom, and the values of its leading universals
abbrev pub instance_text : Question → ℕ → List ℕ → List ℕ
instance_text study k values = joined_words (name_at study.axioms k ∷ value_words study (sorts_of (slice_get study.axioms k)) values)

-- what a study is, in a report of a version, after its title
abbrev pub about_lines : Question → ℕ → List Line
about_lines study version =
    KindIs study.size.kind ∷ VotersAre study.size.voters ∷ AlternativesAre study.size.alternatives ∷ []
    ++ domain_lines study version ++ AxiomsAre (map (λ a. a.name) study.axioms) ∷ []

-- an impossibility up to its last lemma
abbrev pub told_lines : Question → List ℕ → List Lemma → List Line
told_lines study core story = SaysImpossible ∷ CoreIs (map (name_at study.axioms) core) ∷ LemmasAre (length story) ∷ story_lines 1 story
