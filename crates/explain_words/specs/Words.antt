-- Which words are a command of `explain`: those that `clap` takes for the program below, where the values have their forms.
use Rattle.std.specs.Prelude.{◌≤◌, ℕ, true, false, List, [], ◌∷◌, codes, if◌then◌else◌, Option, None, Some, option_map, option_and_then}
use Rattle.std.specs.Str.{bytes_eq}
use Rattle.verdicts.specs.Numbers.{number_within}
use Rattle.clap.specs.Words.{App, Row, Rule, Shape, Text, fault_of, first_of, subcommand_of}
use Rattle.clap.specs.Simple.{new_rule, new_shape}
use Rattle.words.specs.Values.{number_in, workers_in}
use Rattle.words.specs.Words.{over_study, required_word, workers_option, with_arguments, unless_refused}
use Rattle.explain_words.specs.declared.commands.Command.{Command}
use Rattle.explain_words.specs.declared.commands.Command.TheVariants as command

-- what may be asked: the page of the story that a report tells of a study, by the names of the two files; an instance of
-- an axiom of a study, by the names of the file and of the axiom; all rules that satisfy the axioms of a study, and no more
-- than so many; the map of the axioms of a study; or what a study asks
pub data ExplainRequest : Type 0 where
  Story : (study report : Text) (workers : ℕ) → ExplainRequest
  Instance : (study axiom_name : Text) (number : ℕ) → ExplainRequest
  Rules : (study : Text) (most workers : ℕ) → ExplainRequest
  Cores : (study : Text) (workers : ℕ) → ExplainRequest
  Look : (study : Text) (workers : ℕ) → ExplainRequest

-- the request of a command
abbrev pub command_request : Command → ExplainRequest
command_request (command.Story study report workers) = Story study.now report.now workers
command_request (command.Instance study axiom_name number) = Instance study.now axiom_name.now number
command_request (command.Rules study most workers) = Rules study.now most workers
command_request (command.Cores study workers) = Cores study.now workers
command_request (command.Look study workers) = Look study.now workers

-- a number of workers is from 1 to 16
abbrev pub HasExplainWorkers : ExplainRequest → Type 0
HasExplainWorkers (Story study report workers) = (1 ≤ workers) × (workers ≤ 16)
HasExplainWorkers (Rules study most workers) = (1 ≤ workers) × (workers ≤ 16)
HasExplainWorkers (Cores study workers) = (1 ≤ workers) × (workers ≤ 16)
HasExplainWorkers (Look study workers) = (1 ≤ workers) × (workers ≤ 16)
HasExplainWorkers _ = Unit {0}

-- ---- the program, as `clap` is told of it

abbrev pub story_shape : Shape
story_shape =
    with_arguments (codes "story") (required_word (codes "study") ∷ required_word (codes "report") ∷ workers_option ∷ [])

abbrev pub instance_shape : Shape
instance_shape =
    with_arguments (codes "instance") (required_word (codes "study") ∷ required_word (codes "axiom") ∷ required_word (codes "number") ∷ [])

-- `--most N`, which is 100 where it is not given
abbrev pub most_option : Rule
most_option = record (new_rule (codes "most")) { long = Some (codes "most"); defaults = codes "100" ∷ [] }

abbrev pub rules_shape : Shape
rules_shape = with_arguments (codes "rules") (required_word (codes "study") ∷ most_option ∷ workers_option ∷ [])

abbrev pub cores_shape : Shape
cores_shape = with_arguments (codes "cores") (required_word (codes "study") ∷ workers_option ∷ [])

abbrev pub look_shape : Shape
look_shape = with_arguments (codes "study") (required_word (codes "study") ∷ workers_option ∷ [])

-- the words are those after the program's name, and a command is wanted
abbrev pub explain_shape : Shape
explain_shape = record (new_shape (codes "explain")) { no_binary_name = true; subcommand_required = true }

abbrev pub explain_app : App
explain_app = record { top = record explain_shape { is_leaf = false }; subs = story_shape ∷ instance_shape ∷ rules_shape ∷ cores_shape ∷ look_shape ∷ [] }

-- ---- the request that the words are

abbrev pub story_in : List Row → Option ExplainRequest
story_in rows = option_and_then (λ report. over_study (λ study workers. Story study report workers) rows)
    (first_of (codes "report") rows)

abbrev pub instance_in : List Row → Option ExplainRequest
instance_in rows = option_and_then (λ axiom_name. option_and_then (λ study. option_map (Instance study axiom_name) (number_in rows))
    (first_of (codes "study") rows)) (first_of (codes "axiom") rows)

-- the value of `--most` is from 1 to 10,000
abbrev pub most_in : List Row → Option ℕ
most_in rows = option_and_then (number_within 1 10000) (first_of (codes "most") rows)

abbrev pub rules_in : List Row → Option ExplainRequest
rules_in rows = option_and_then (λ study. option_and_then (λ most. option_map (Rules study most) (workers_in rows)) (most_in rows))
    (first_of (codes "study") rows)

-- the request of a command by its name, with the values that `clap` found
abbrev pub explain_request_under : Text → List Row → Option ExplainRequest
explain_request_under name rows =
    if bytes_eq name (codes "story") then story_in rows
    else if bytes_eq name (codes "instance") then instance_in rows
    else if bytes_eq name (codes "rules") then rules_in rows
    else if bytes_eq name (codes "cores") then over_study Cores rows
    else if bytes_eq name (codes "study") then over_study Look rows
    else None

abbrev pub explain_request_in : Option (Text × List Row) → Option ExplainRequest
explain_request_in = option_and_then (λ met. explain_request_under met.0 met.1)

-- the request that the words are, where they are a command: one for help, and whatever else `clap` refuses, is none
unfoldable pub request_of : List Text → Option ExplainRequest
request_of words = unless_refused (fault_of explain_app words) (explain_request_in (subcommand_of explain_app words))
