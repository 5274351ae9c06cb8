-- When a story is told right: by sentences that follow from facts which were forced, supposed or told before.
use Rattle.std.specs.Prelude.{◌≡◌, ℕ, zero, suc, ◌<◌, nat_lt, ◌==◌, Bool, true, false, not, ◌&&◌, ◌||◌, IsTrue, List, [], ◌∷◌, ◌++◌, map, filter, length, take, slice_get, Option, Some, None, if◌then◌else◌}
use Rattle.std.specs.List.{flat_map, fold, list_all, list_any}
use Rattle.vocab.specs.declared.literals.Literal.{Literal}
use Rattle.vocab.specs.declared.literals.Literal.TheVariants.{Wins, Loses, Above}
use Rattle.vocab.specs.Literal.{opposite_of, has, same_literal}
use Rattle.vocab.specs.Range.{below}
use Rattle.vocab.specs.Size.{Extent}
use Rattle.vocab.specs.Titled.{Titled}
use Rattle.meaning.specs.declared.stories.Reason.{Reason}
use Rattle.meaning.specs.declared.stories.Reason.TheVariants.{Axiom as ByAxiom, Outcome as ByOutcome, Lemma as ByLemma}
use Rattle.meaning.specs.declared.stories.StoryStep.{StoryStep}
use Rattle.meaning.specs.declared.stories.Lemma.{Lemma}
use Rattle.meaning.specs.Literals.{is_literal}
use Rattle.meaning.specs.Stories.{refutes}
use Rattle.worlds.specs.Boards.{are_distinct}
use Rattle.tellings.specs.declared.tellings.By.{By}
use Rattle.tellings.specs.declared.tellings.By.TheVariants.{Axiom, Outcome, Lemma as Earlier}
use Rattle.tellings.specs.declared.tellings.Sentence.{Sentence}
use Rattle.tellings.specs.declared.tellings.Placed.{Placed}
use Rattle.tellings.specs.declared.tellings.Passage.{Passage}
use Rattle.tellings.specs.declared.tellings.Telling.{Telling}
use Rattle.tellings.specs.declared.tellings.StoryTelling.{StoryTelling}

-- what a sentence names of a reason
abbrev pub by_of : Reason → By
by_of (ByAxiom k values) = Axiom k
by_of (ByOutcome p) = Outcome
by_of (ByLemma j) = Earlier

-- a sentence names this of its reason
abbrev pub is_by : By → By → Bool
is_by (Axiom k) (Axiom l) = k == l
is_by Outcome Outcome = true
is_by Earlier Earlier = true
is_by _ _ = false

-- what the sentence of a number rests on; where there is none, nothing
abbrev pub rests_of : Option Sentence → List Literal
rests_of None = []
rests_of (Some sentence) = sentence.rests

-- the claim of a fact, made of another profile
abbrev pub moved_to : ℕ → Literal → Literal
moved_to p (Wins x q) = Wins x p
moved_to p (Loses x q) = Loses x p
moved_to p (Above x y q) = Above x y p

-- where a reason is what is left at a profile, all the claims of these facts stand among them of that profile
abbrev pub stand_there : List Literal → Reason → Bool
stand_there rests (ByAxiom k values) = true
stand_there rests (ByOutcome p) = list_all (λ l. has rests (moved_to p l)) rests
stand_there rests (ByLemma j) = true

-- the facts that steps state
abbrev pub facts_of : List Placed → List Literal
facts_of steps = map (λ placed. placed.step.literal) steps

-- the fact was forced or supposed, or a step of an earlier sentence than that of the number states it
abbrev pub stands_before : (forced suppose : List Literal) → List Placed → ℕ → Literal → Bool
stands_before forced suppose steps number l =
    has forced l || has suppose l || list_any (λ placed. nat_lt placed.sentence number && same_literal l placed.step.literal) steps

-- each sentence says a step
abbrev pub AllSay : Passage → Type 0
AllSay passage = (k : ℕ) → k < length passage.sentences → IsTrue (list_any (λ placed. placed.sentence == k) passage.steps)

-- ---- sentences

module _ (size : Extent) (axioms : List Titled) (core : List ℕ) (earlier : List Lemma) where
  -- a sentence says a step: it names what the step's reason does, which refutes the facts that it rests on together with the opposite of the fact that the step states;
  -- where that is what is left at a profile, it claims of that profile all that it rests on
  abbrev pub says_step : Option Sentence → StoryStep → Bool
  says_step None step = false
  says_step (Some sentence) step = is_by sentence.by (by_of step.reason) && stand_there sentence.rests step.reason && refutes size axioms core earlier (sentence.rests ++ opposite_of step.literal ∷ []) step.reason

  -- each step stands in one sentence, which says it
  abbrev pub are_said : Passage → Bool
  are_said passage = list_all (λ placed. says_step (slice_get passage.sentences placed.sentence) placed.step) passage.steps

  -- a lemma is told right, where some facts are forced: each of its steps stands in exactly one sentence, which says it, but for
  -- those whose facts are forced; each sentence says a step; each fact that a sentence rests on was forced or supposed, or is stated by an earlier sentence;
  -- and the last reason refutes facts that were forced or supposed, or are stated; where it is what is left at a profile, all their claims stand among them of that profile
  pub record IsTellingRight (forced : List Literal) (lemma : Lemma) (telling : Telling) : Type 0 where
    pub steps : map (λ placed. placed.step) telling.passage.steps ≡ filter (λ step. not (has forced step.literal)) lemma.steps
    pub said : IsTrue (are_said telling.passage)
    pub all_say : AllSay telling.passage
    pub grounded : (k : ℕ) → IsTrue (list_all (stands_before forced lemma.suppose telling.passage.steps k) (rests_of (slice_get telling.passage.sentences k)))
    pub ended : IsTrue (refutes size axioms core earlier telling.end lemma.last)
    pub end_there : IsTrue (stand_there telling.end lemma.last)
    pub end_stands : IsTrue (list_all (stands_before forced lemma.suppose telling.passage.steps (length telling.passage.sentences)) telling.end)

-- ---- where lemmas stand

-- a reason names the lemma at a place
abbrev pub names_lemma : ℕ → Reason → Bool
names_lemma j (ByLemma k) = k == j
names_lemma j _ = false

-- the place of a lemma, if its reason names the one at another place
abbrev pub naming : ℕ → ℕ → Reason → List ℕ
naming j m reason = if names_lemma j reason then m ∷ [] else []

-- the place of a lemma that is told so, once for each time that it names the one at another place
abbrev pub namings : ℕ → ℕ → Option Lemma → Option Telling → List ℕ
namings j m (Some lemma) (Some telling) = flat_map (λ placed. naming j m placed.step.reason) telling.passage.steps ++ naming j m lemma.last
namings j m _ _ = []

-- the places of the lemmas of a story that is told so which name the one at a place, each as often as it does
abbrev pub namers : List Lemma → List Telling → ℕ → List ℕ
namers story tellings j = flat_map (λ m. namings j m (slice_get story m) (slice_get tellings m)) (below (length story))

-- the place alone stands there, once
abbrev pub is_only : ℕ → List ℕ → Bool
is_only m [] = false
is_only m (k ∷ []) = k == m
is_only m (k ∷ l ∷ ls) = false

-- the later lemma within which the one at a place stands; none for one that stands by itself
abbrev pub home_in : Option (Option ℕ) → Option ℕ
home_in None = None
home_in (Some home) = home

abbrev pub home_of : List (Option ℕ) → ℕ → Option ℕ
home_of homes j = home_in (slice_get homes j)

-- a lemma stands within the one at the place
abbrev pub stands_in : ℕ → Option ℕ → Bool
stands_in m None = false
stands_in m (Some home) = home == m

-- a lemma stands by itself, or within the one at the place
abbrev pub is_at : Option ℕ → ℕ → Bool
is_at None m = true
is_at (Some k) m = k == m

-- the lemma that a reason of the one at a place names stands before it: by itself, or within that one
abbrev pub is_reached : List (Option ℕ) → ℕ → Reason → Bool
is_reached homes m (ByLemma j) = is_at (home_of homes j) m
is_reached homes m _ = true

-- all lemmas that one at a place names do
abbrev pub reaches : List (Option ℕ) → ℕ → Lemma → Telling → Bool
reaches homes m lemma telling = list_all (λ placed. is_reached homes m placed.step.reason) telling.passage.steps && is_reached homes m lemma.last

-- so many lemmas stand one within another at most, within one that stands by itself
unfoldable pub greatest_depth : ℕ
greatest_depth = 8

-- the lemma at a place stands within fewer than so many others, one within another
abbrev pub is_home_shallow : (ℕ → Bool) → Option ℕ → Bool
is_home_shallow rest None = true
is_home_shallow rest (Some home) = rest home

abbrev pub is_shallow : List (Option ℕ) → ℕ → ℕ → Bool
is_shallow homes zero j = false
is_shallow homes (suc n) j = is_home_shallow (is_shallow homes n) (home_of homes j)

-- where these name the lemma at the first place, the one at the second takes it in: it is a later one, does not
-- itself stand as deep as lemmas may, and it alone names it, once
abbrev pub takes_in : List (Option ℕ) → List ℕ → ℕ → ℕ → Bool
takes_in homes names j m = nat_lt j m && is_shallow homes greatest_depth m && is_only m names

-- a lemma stands where it is used, within the later one that alone names it, once, if that one does not itself
-- stand as deep as lemmas may; every other lemma stands by itself. So each lemma stands before what names it
pub record AreHomes (story : List Lemma) (tellings : List Telling) (homes : List (Option ℕ)) : Type 0 where
  pub all : length homes ≡ length story
  pub before : (m : ℕ) (lemma : Lemma) (telling : Telling) → slice_get story m ≡ Some lemma → slice_get tellings m ≡ Some telling →
      IsTrue (reaches homes m lemma telling)
  pub within : (j m : ℕ) → j < length story → stands_in m (home_of homes j) ≡ takes_in homes (namers story tellings j) j m

-- ---- stories

-- the lemmas of a story of several; of one alone none, since there no fact is told twice
abbrev pub several : List Lemma → List Lemma
several [] = []
several (lemma ∷ []) = []
several (lemma ∷ next ∷ rest) = lemma ∷ next ∷ rest

module _ (size : Extent) (axioms : List Titled) (core : List ℕ) (earlier : List Lemma) where
  -- facts force that of a step: its reason refutes its opposite, alone or together with these facts, where that opposite is none of them
  abbrev pub is_forced : List Literal → StoryStep → Bool
  is_forced facts step =
      refutes size axioms core earlier (opposite_of step.literal ∷ []) step.reason
      || (not (has facts (opposite_of step.literal)) && refutes size axioms core earlier (facts ++ opposite_of step.literal ∷ []) step.reason)

  -- facts that are forced, and that of a step, if they force it
  abbrev pub forced_with : List Literal → StoryStep → List Literal
  forced_with facts step = if not (has facts step.literal) && is_forced facts step then facts ++ step.literal ∷ [] else facts

  -- and those of steps, one after another
  abbrev pub forced_by : List Literal → List StoryStep → List Literal
  forced_by facts steps = fold forced_with facts steps

  -- the facts of a story's steps that are forced, where nothing is supposed: lemma after lemma, each by those before it
  abbrev pub forced_facts : List Lemma → List Literal
  forced_facts story = fold (λ facts lemma. forced_by facts lemma.steps) [] story

module _ (size : Extent) (axioms : List Titled) (core : List ℕ) where
  -- facts are forced: each is one of the size; each sentence says a step, by no lemma, and rests on facts that earlier sentences state alone; no fact stands twice
  pub record IsForced (passage : Passage) : Type 0 where
    pub ours : IsTrue (list_all (is_literal size) (facts_of passage.steps))
    pub said : IsTrue (are_said size axioms core [] passage)
    pub all_say : AllSay passage
    pub grounded : (k : ℕ) → IsTrue (list_all (stands_before [] [] passage.steps k) (rests_of (slice_get passage.sentences k)))
    pub once : IsTrue (are_distinct (facts_of passage.steps))

  -- the facts that come first: those that are forced, by no lemma, where a story has several lemmas
  abbrev pub first_facts : List Lemma → List Literal
  first_facts story = forced_facts size axioms core [] (several story)

  -- a story is told right: the facts of its steps that are forced come first, where it has several lemmas, and then each lemma is told by the lemmas before it, which stand before it
  pub record IsStoryTold (story : List Lemma) (told : StoryTelling) : Type 0 where
    pub forced : IsForced told.forced
    pub whole : facts_of told.forced.steps ≡ first_facts story
    pub all : length told.lemmas ≡ length story
    pub each : (j : ℕ) (lemma : Lemma) (telling : Telling) → slice_get story j ≡ Some lemma → slice_get told.lemmas j ≡ Some telling →
        IsTellingRight size axioms core (take j story) (facts_of told.forced.steps) lemma telling
    pub placed : AreHomes story told.lemmas told.homes
