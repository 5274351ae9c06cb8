-- The table of answers: which status and which text answer which words, over which files.
use Rattle.std.specs.Prelude.{◌≡◌, ℕ, List, codes, Option, None, Some}
use Rattle.edge.specs.Shelf.{Files}
use Rattle.explain_words.specs.Words.{ExplainRequest, Story, Instance, Rules, Cores, Look, request_of}
use Rattle.explain_answers.specs.Cores.{AreCores}
use Rattle.explain_answers.specs.Instance.{IsInstance}
use Rattle.explain_answers.specs.Look.{IsLook}
use Rattle.explain_answers.specs.Rules.{AreRules}
use Rattle.explain_answers.specs.Story.{IsStoryAnswer}

-- what is said to words that are no command
abbrev pub explain_usage : List ℕ
explain_usage = codes "usage: explain story STUDY REPORT [--workers K] | instance STUDY AXIOM NUMBER | rules STUDY [--most N] [--workers K] | cores STUDY [--workers K] | study STUDY [--workers K]\n"

-- a row for each request; where a file that is needed is not held, no answer is lawful; the number of workers changes none
abbrev pub IsExplanation : Option ExplainRequest → Files → ℕ → List ℕ → Type 0
IsExplanation None files status text = (status ≡ 2) × (text ≡ explain_usage)
IsExplanation (Some (Story study report workers)) files status text = IsStoryAnswer files study report status text
IsExplanation (Some (Instance study axiom_name number)) files status text = IsInstance files study axiom_name number status text
IsExplanation (Some (Rules study most workers)) files status text = AreRules files study most status text
IsExplanation (Some (Cores study workers)) files status text = AreCores files study status text
IsExplanation (Some (Look study workers)) files status text = IsLook files study status text

-- this status and this text answer the words
abbrev pub ExplainsWords : List (List ℕ) → Files → ℕ → List ℕ → Type 0
ExplainsWords words files status text = IsExplanation (request_of words) files status text
