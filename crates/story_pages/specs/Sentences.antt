-- Sentences: what each rests on, its reason, and what it states.
use Rattle.std.specs.Prelude.{ℕ, ◌+◌, nat_lt, ◌==◌, Bool, true, false, List, [], ◌++◌, codes, length, slice_get, Option, Some, None, if◌then◌else◌}
use Rattle.std.specs.Fmt.{decimal}
use Rattle.std.specs.List.{flat_map, list_all}
use Rattle.vocab.specs.declared.literals.Literal.{Literal}
use Rattle.vocab.specs.Literal.{profile_of}
use Rattle.vocab.specs.Range.{below}
use Rattle.vocab.specs.Size.{Extent}
use Rattle.vocab.specs.Titled.{Titled}
use Rattle.verdicts.specs.Lines.{name_at}
use Rattle.meaning.specs.declared.stories.Reason.{Reason}
use Rattle.meaning.specs.declared.stories.Reason.TheVariants.{Axiom as ByAxiom, Outcome as ByOutcome, Lemma as ByLemma}
use Rattle.tellings.specs.declared.tellings.By.{By}
use Rattle.tellings.specs.declared.tellings.By.TheVariants.{Axiom, Outcome, Lemma as Earlier}
use Rattle.tellings.specs.declared.tellings.Sentence.{Sentence}
use Rattle.tellings.specs.declared.tellings.Placed.{Placed}
use Rattle.tellings.specs.declared.tellings.Passage.{Passage}
use Rattle.html.specs.Escapes.{escaped}
use Rattle.html.specs.Facts.{fact_html}
use Rattle.story_pages.specs.Claims.{alone_claims_html, facts_html, stated_facts_html}

-- the axiom at a place of the study, by its name
abbrev pub axiom_name_html : List Titled → ℕ → List ℕ
axiom_name_html axioms k = escaped (name_at axioms k)

abbrev pub axiom_html : List Titled → ℕ → List ℕ
axiom_html axioms k = codes "<i>" ++ axiom_name_html axioms k ++ codes "</i>"

-- so many facts, in a fold
abbrev pub facts_fold : ℕ → List ℕ
facts_fold count = codes "<details><summary>" ++ decimal count ++ codes " facts above</summary> "

-- an earlier claim, by its number
abbrev pub claim_number_html : ℕ → List ℕ
claim_number_html j = codes "by claim " ++ decimal (j + 1) ++ codes ": "

abbrev pub cited_html : Reason → List ℕ
cited_html (ByAxiom k values) = []
cited_html (ByOutcome p) = []
cited_html (ByLemma j) = claim_number_html j

-- the reason is what is left at the profile
abbrev pub is_left_at : ℕ → Reason → Bool
is_left_at p (ByAxiom k values) = false
is_left_at p (ByOutcome q) = p == q
is_left_at p (ByLemma j) = false

-- what the sentence of a number states by this step is a fact of the profile at which the step's reason is what is left
abbrev pub is_left_there : ℕ → Placed → Bool
is_left_there number placed = if placed.sentence == number then is_left_at (profile_of placed.step.literal) placed.step.reason else true

-- the sentence of a number rests on the same claims at each profile of what it states (`ClaimsStandThere` says why)
abbrev pub says_there : By → List Placed → ℕ → Bool
says_there (Axiom k) steps number = false
says_there Outcome steps number = list_all (is_left_there number) steps
says_there Earlier steps number = false

module _ (size : Extent) where
  -- the facts that are rested on: where these are the same claims at each profile of what is stated, the claims are enough
  abbrev pub there_html : List Literal → List ℕ
  there_html rests = alone_claims_html size rests ++ codes " there"

  -- more than thirty facts are folded
  abbrev pub many_html : List Literal → List ℕ
  many_html rests = facts_fold (length rests) ++ facts_html size rests ++ codes "</details>"

  abbrev pub facts_or_many_html : List Literal → List ℕ
  facts_or_many_html rests = if nat_lt 30 (length rests) then many_html rests else facts_html size rests

  abbrev pub rests_html : Bool → List Literal → List ℕ
  rests_html there rests = if there then there_html rests else facts_or_many_html rests

  abbrev pub grounds_html : Bool → List Literal → List ℕ
  grounds_html there rests = codes "<div class=s>since " ++ rests_html there rests ++ codes "</div>, "

  -- the facts that are rested on, if there are any
  abbrev pub since_html : Bool → List Literal → List ℕ
  since_html there rests = if length rests == 0 then [] else grounds_html there rests

  -- a fact that an earlier claim gives
  abbrev pub given_html : Placed → List ℕ
  given_html placed = codes "<div>" ++ cited_html placed.step.reason ++ fact_html size placed.step.literal ++ codes "</div>"

  abbrev pub given_by : ℕ → Placed → List ℕ
  given_by number placed = if placed.sentence == number then given_html placed else []

  -- the reason of a sentence of a number, and what it states
  abbrev pub by_axiom_html : List Titled → List Placed → ℕ → ℕ → List ℕ
  by_axiom_html axioms steps number k = codes "by " ++ axiom_html axioms k ++ codes ": " ++ stated_facts_html size steps number

  abbrev pub by_outcome_html : List Placed → ℕ → List ℕ
  by_outcome_html steps number = codes "by what is left: " ++ stated_facts_html size steps number

  abbrev pub by_html : List Titled → List Placed → ℕ → By → List ℕ
  by_html axioms steps number (Axiom k) = by_axiom_html axioms steps number k
  by_html axioms steps number Outcome = by_outcome_html steps number
  by_html axioms steps number Earlier = flat_map (given_by number) steps

  -- a sentence of a number, if there is one
  abbrev pub sentence_html : List Titled → List Placed → ℕ → Option Sentence → List ℕ
  sentence_html axioms steps number None = []
  sentence_html axioms steps number (Some sentence) = since_html (says_there sentence.by steps number) sentence.rests ++ by_html axioms steps number sentence.by

  abbrev pub sentence_at : List Titled → Passage → ℕ → List ℕ
  sentence_at axioms passage number = sentence_html axioms passage.steps number (slice_get passage.sentences number)

  -- a sentence in a list
  abbrev pub item_at : List Titled → Passage → ℕ → List ℕ
  item_at axioms passage number = codes "<li>" ++ sentence_at axioms passage number ++ codes "</li>\n"

  -- all sentences, in order
  abbrev pub items_html : List Titled → Passage → List ℕ
  items_html axioms passage = flat_map (item_at axioms passage) (below (length passage.sentences))
