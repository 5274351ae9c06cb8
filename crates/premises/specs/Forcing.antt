-- Facts that are forced, so far.
use Rattle.std.specs.Prelude.{◌≡◌, ℕ, IsTrue, List, [], slice_get}
use Rattle.std.specs.List.{list_all}
use Rattle.vocab.specs.declared.literals.Literal.{Literal}
use Rattle.vocab.specs.Size.{Extent}
use Rattle.vocab.specs.Titled.{Titled}
use Rattle.meaning.specs.Literals.{is_literal}
use Rattle.meaning.specs.declared.stories.Lemma.{Lemma}
use Rattle.worlds.specs.Boards.{are_distinct}
use Rattle.tellings.specs.Tellings.{are_said, facts_of, forced_facts, rests_of, stands_before, AllSay, IsForced}
use Rattle.premises.specs.declared.forced.Forced.{Forced}
use Rattle.premises.specs.declared.forced.Gathered.{Gathered}
use Rattle.premises.specs.SoFar.{IsToldSoFar}

module _ (size : Extent) (axioms : List Titled) (core : List ℕ) (earlier : List Lemma) where
  -- the facts on the board are stated by sentences, each of which rests on what earlier ones state
  pub record AreGathered (gathered : Gathered) : Type 0 where
    pub sized : gathered.board.size ≡ size
    pub told : IsToldSoFar size axioms core earlier [] [] gathered.board.literals gathered.passage
    pub facts : facts_of gathered.passage.steps ≡ gathered.board.literals

  -- these facts are on the board, and are stated by sentences, each of which rests on what earlier ones state
  pub record AreStated (facts : List Literal) (forced : Forced) : Type 0 where
    pub sized : forced.board.size ≡ size
    pub on_board : forced.board.literals ≡ facts
    pub stated : facts_of forced.passage.steps ≡ facts
    pub ours : IsTrue (list_all (is_literal size) facts)
    pub said : IsTrue (are_said size axioms core earlier forced.passage)
    pub all_say : AllSay forced.passage
    pub grounded : (k : ℕ)
        → IsTrue (list_all (stands_before [] [] forced.passage.steps k) (rests_of (slice_get forced.passage.sentences k)))
    pub once : IsTrue (are_distinct facts)

-- the facts of a story that are forced are stated by sentences; on the board are all of them
pub record AreForced (size : Extent) (axioms : List Titled) (core : List ℕ) (story : List Lemma) (forced : Forced) : Type 0 where
  pub sized : forced.board.size ≡ size
  pub told : IsForced size axioms core forced.passage
  pub facts : facts_of forced.passage.steps ≡ forced.board.literals
  pub whole : forced.board.literals ≡ forced_facts size axioms core [] story
