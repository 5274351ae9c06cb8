-- Lemmas where they stand: by themselves, or within another, where that one uses them.
use Rattle.std.specs.Prelude.{ℕ, zero, suc, ◌+◌, ◌==◌, Bool, true, false, List, [], ◌++◌, codes, length, slice_get, Option, Some, None, if◌then◌else◌}
use Rattle.std.specs.List.{flat_map}
use Rattle.vocab.specs.Range.{below}
use Rattle.vocab.specs.Size.{Extent}
use Rattle.vocab.specs.Titled.{Titled}
use Rattle.meaning.specs.declared.stories.Reason.{Reason}
use Rattle.meaning.specs.declared.stories.Reason.TheVariants.{Axiom as ByAxiom, Outcome as ByOutcome, Lemma as ByLemma}
use Rattle.meaning.specs.declared.stories.Lemma.{Lemma}
use Rattle.tellings.specs.Tellings.{greatest_depth, home_of, stands_in}
use Rattle.tellings.specs.declared.tellings.Placed.{Placed}
use Rattle.tellings.specs.declared.tellings.Telling.{Telling}
use Rattle.tellings.specs.declared.tellings.StoryTelling.{StoryTelling}
use Rattle.story_pages.specs.Ends.{end_html}
use Rattle.story_pages.specs.Forced.{forced_html}
use Rattle.story_pages.specs.Lemmas.{claimed_html, columns_of, suppose_html, table_html, title_html}
use Rattle.story_pages.specs.Sentences.{sentence_at}

-- a lemma stands by itself
abbrev pub stands_alone : Option ℕ → Bool
stands_alone None = true
stands_alone (Some home) = false

-- the lemma at a place, if it stands within the one at another
abbrev pub held_at : List (Option ℕ) → ℕ → ℕ → Option ℕ
held_at homes home place = if stands_in home (home_of homes place) then Some place else None

-- the lemma that a reason of the one at a place names, if it stands within that one
abbrev pub held_by : List (Option ℕ) → ℕ → Reason → Option ℕ
held_by homes home (ByAxiom k values) = None
held_by homes home (ByOutcome p) = None
held_by homes home (ByLemma j) = held_at homes home j

-- the lemma that a step names, if the sentence of a number has the step
abbrev pub held_in : List (Option ℕ) → ℕ → ℕ → Placed → Option ℕ
held_in homes home number placed = if placed.sentence == number then held_by homes home placed.step.reason else None

-- ---- lemmas, where the text of those within them is this, by their places

-- the lemma that stands within another, if there is one
abbrev pub held_lemma_html : (ℕ → List ℕ) → Option ℕ → List ℕ
held_lemma_html inner None = []
held_lemma_html inner (Some place) = inner place

abbrev pub held_step : StoryTelling → (ℕ → List ℕ) → ℕ → ℕ → Placed → List ℕ
held_step told inner home number placed = held_lemma_html inner (held_in told.homes home number placed)

module _ (size : Extent) (axioms : List Titled) (told : StoryTelling) (inner : ℕ → List ℕ) where
  -- a sentence, after the lemmas that stand within it
  abbrev pub story_item : ℕ → Telling → ℕ → List ℕ
  story_item home telling number =
      codes "<li>" ++ flat_map (held_step told inner home number) telling.passage.steps ++ sentence_at size axioms telling.passage number ++ codes "</li>\n"

  abbrev pub story_items : ℕ → Telling → List ℕ
  story_items home telling = flat_map (story_item home telling) (below (length telling.passage.sentences))

  -- the sentences of the lemma at a place, and its end
  abbrev pub body_html : ℕ → Lemma → Telling → List ℕ
  body_html place lemma telling =
      codes "<ol>\n" ++ story_items place telling ++ codes "</ol>\n" ++ held_lemma_html inner (held_by told.homes place lemma.last) ++ codes "<div class=e>" ++ end_html size axioms lemma.last telling.end

  -- within another lemma: what it claims, and its body
  abbrev pub inner_html : ℕ → Lemma → Telling → List ℕ
  inner_html place lemma telling =
      codes "<div class=c>" ++ columns_of size lemma.suppose ++ codes "<b>" ++ claimed_html size (place + 1) lemma.suppose ++ codes ".</b>\n" ++ suppose_html size lemma.suppose
      ++ body_html place lemma telling ++ codes ". This cannot be.</div>\n" ++ table_html size told.forced.steps lemma telling ++ codes "</div>\n"

  abbrev pub inner_of : ℕ → Option Lemma → Option Telling → List ℕ
  inner_of place (Some lemma) (Some telling) = inner_html place lemma telling
  inner_of place _ _ = []

  -- by itself
  abbrev pub outer_html : ℕ → Lemma → Telling → List ℕ
  outer_html place lemma telling =
      codes "<section>\n<h3>" ++ title_html size (place + 1 == length told.lemmas) (place + 1) lemma.suppose ++ codes "</h3>\n" ++ columns_of size lemma.suppose ++ suppose_html size lemma.suppose
      ++ body_html place lemma telling ++ codes ".</div>\n" ++ table_html size told.forced.steps lemma telling ++ codes "</section>\n"

  abbrev pub outer_of : ℕ → Option Lemma → Option Telling → List ℕ
  outer_of place (Some lemma) (Some telling) = outer_html place lemma telling
  outer_of place _ _ = []

module _ (size : Extent) (axioms : List Titled) (story : List Lemma) (told : StoryTelling) where
  -- the lemma at a place within another, with lemmas so deep within it
  abbrev pub inner_at : ℕ → ℕ → List ℕ
  inner_at zero place = []
  inner_at (suc depth) place = inner_of size axioms told (inner_at depth) place (slice_get story place) (slice_get told.lemmas place)

  abbrev pub outer_at : ℕ → List ℕ
  outer_at place = outer_of size axioms told (inner_at greatest_depth) place (slice_get story place) (slice_get told.lemmas place)

  -- the lemma at a place, if it stands by itself
  abbrev pub lemma_at : ℕ → List ℕ
  lemma_at place = if stands_alone (home_of told.homes place) then outer_at place else []

  -- a story: what is forced, and the lemmas that stand by themselves, with those within them
  abbrev pub story_html : List ℕ
  story_html = forced_html size axioms told.forced ++ flat_map lemma_at (below (length story))
