-- One forced fact more.
use Rattle.std.proofs.Common.{◌≡◌, refl, sym, ap, ◌∙◌, subst, ℕ, ◌<◌, Bool, true, false, List, [], ◌∷◌, ◌++◌, length, map, take, get_or, ◌+◌, true≢false}
use Rattle.std.specs.List.{list_all}
use Rattle.std.specs.Prelude.{slice_get}
use Rattle.std.proofs.lemmas.List.{map-append}
use Rattle.std.proofs.lemmas.List.Sums.{fold_more}
use Rattle.vocab.specs.declared.literals.Literal.{Literal}
use Rattle.vocab.specs.Literal.{has}
use Rattle.vocab.specs.Size.{Extent}
use Rattle.vocab.specs.Titled.{Titled}
use Rattle.meaning.specs.Literals.{is_literal}
use Rattle.meaning.specs.declared.stories.Lemma.{Lemma}
use Rattle.meaning.specs.declared.stories.StoryStep.{StoryStep}
use Rattle.worlds.specs.Boards.{are_distinct, Known}
use Rattle.worlds.proofs.BoardLemmas.{all_has}
use Rattle.tellings.specs.Tellings.{are_said, facts_of, forced_by, forced_facts, forced_with, rests_of, stands_before, AllSay}
use Rattle.tellings.specs.declared.tellings.Passage.{Passage}
use Rattle.tellings.specs.declared.tellings.Placed.{Placed}
use Rattle.premises.specs.declared.forced.Forced.{Forced}
use Rattle.premises.specs.declared.forced.Gathered.{Gathered}
use Rattle.premises.specs.Forcing.{AreForced, AreGathered, AreStated}
use Rattle.premises.specs.SoFar.{bare_steps, unforced, IsToldSoFar, Upholds}

-- the facts that steps state
pub facts_are : (ps : List Placed) → facts_of ps ≡ map (λ (step : StoryStep). step.literal) (bare_steps ps)
facts_are [] = refl
facts_are (p ∷ ps) = ap (λ (ls : List Literal). p.step.literal ∷ ls) (facts_are ps)

-- where nothing is forced before, all steps are told
none_forced : (steps : List StoryStep) → unforced [] steps ≡ steps
none_forced [] = refl
none_forced (step ∷ steps) = ap (λ (ss : List StoryStep). step ∷ ss) (none_forced steps)

-- a literal that is not of a size is none of those that are
pub unknown_outside : (given size : Extent) (ls : List Literal) (l : Literal) → given ≡ size → list_all (is_literal given) ls ≡ true → is_literal size l ≡ false → has ls l ≡ false
unknown_outside given size ls l same ours outside = cases (has ls l) refl
  where
    cases : (b : Bool) → has ls l ≡ b → has ls l ≡ false
    cases false h = h
    cases true h = absurd (true≢false (sym (all_has (is_literal given) ls l ours h) ∙ ap (λ (s : Extent). is_literal s l) same ∙ outside))

module _ (size : Extent) (axioms : List Titled) (core : List ℕ) (earlier : List Lemma) where
  pub gathered_more : (old new : Gathered) (step : StoryStep) → AreGathered size axioms core earlier old → IsToldSoFar size axioms core earlier [] [] (old.board.literals ++ step.literal ∷ []) new.passage →
      bare_steps new.passage.steps ≡ bare_steps old.passage.steps ++ step ∷ [] → new.board.size ≡ old.board.size → new.board.literals ≡ old.board.literals ++ step.literal ∷ [] → AreGathered size axioms core earlier new
  gathered_more old new step so_far told bare same grown = record {
    sized = same ∙ so_far.sized;
    told = subst (λ (ls : List Literal). IsToldSoFar size axioms core earlier [] [] ls new.passage) (sym grown) told;
    facts =
        facts_are new.passage.steps
        ∙ ap (map (λ (s : StoryStep). s.literal)) bare
        ∙ map-append (λ (s : StoryStep). s.literal) (bare_steps old.passage.steps) (step ∷ [])
        ∙ ap (λ (ls : List Literal). ls ++ step.literal ∷ []) (sym (facts_are old.passage.steps) ∙ so_far.facts)
        ∙ sym grown;
  }

  -- ---- which facts these are

  pub steps_next : (facts : List Literal) (steps : List StoryStep) (i : ℕ) (d : StoryStep) → i < length steps →
      forced_by size axioms core earlier facts (take (i + 1) steps) ≡ forced_with size axioms core earlier (forced_by size axioms core earlier facts (take i steps)) (get_or steps i d)
  steps_next facts steps i d lt = fold_more (forced_with size axioms core earlier) facts steps i d lt

  pub lemmas_next : (story : List Lemma) (i : ℕ) (d : Lemma) → i < length story →
      forced_facts size axioms core earlier (take (i + 1) story) ≡ forced_by size axioms core earlier (forced_facts size axioms core earlier (take i story)) (get_or story i d).steps
  lemmas_next story i d lt = fold_more (λ (ls : List Literal) (lemma : Lemma). forced_by size axioms core earlier ls lemma.steps) [] story i d lt

  -- ---- what is gathered is stated, where the facts on the board are of the size and stand once

  pub stated_so : (gathered : Gathered) (forced : Forced) → AreGathered size axioms core earlier gathered → list_all (is_literal gathered.board.size) gathered.board.literals ≡ true → are_distinct gathered.board.literals ≡ true →
      forced.board ≡ gathered.board → forced.passage ≡ gathered.passage → AreStated size axioms core earlier gathered.board.literals forced
  stated_so gathered forced so_far ours distinct board passage = record {
    sized = ap (λ (b : Known). b.size) board ∙ so_far.sized;
    on_board = ap (λ (b : Known). b.literals) board;
    stated =
        ap (λ (p : Passage). facts_of p.steps) passage
        ∙ so_far.facts;
    ours = subst (λ (s : Extent). list_all (is_literal s) gathered.board.literals ≡ true) so_far.sized ours;
    said = subst (λ (p : Passage). are_said size axioms core earlier p ≡ true) (sym passage) so_far.told.said;
    all_say = subst AllSay (sym passage) so_far.told.all_say;
    grounded = λ k. subst (λ (p : Passage). list_all (stands_before [] [] p.steps k) (rests_of (slice_get p.sentences k)) ≡ true) (sym passage) (so_far.told.grounded k);
    once = distinct;
  }

  -- and so it is in other sentences that uphold it
  pub stated_shortly : (gathered : Gathered) (forced : Forced) → AreGathered size axioms core earlier gathered → list_all (is_literal gathered.board.size) gathered.board.literals ≡ true → are_distinct gathered.board.literals ≡ true →
      forced.board ≡ gathered.board → bare_steps forced.passage.steps ≡ unforced [] (bare_steps gathered.passage.steps) → AllSay forced.passage → Upholds size axioms core earlier [] [] [] forced.passage → AreStated size axioms core earlier gathered.board.literals forced
  stated_shortly gathered forced so_far ours distinct board bare say upholds = record {
    sized = ap (λ (b : Known). b.size) board ∙ so_far.sized;
    on_board = ap (λ (b : Known). b.literals) board;
    stated =
        facts_are forced.passage.steps
        ∙ ap (map (λ (s : StoryStep). s.literal)) (bare ∙ none_forced (bare_steps gathered.passage.steps))
        ∙ sym (facts_are gathered.passage.steps)
        ∙ so_far.facts;
    ours = subst (λ (s : Extent). list_all (is_literal s) gathered.board.literals ≡ true) so_far.sized ours;
    said = upholds.said;
    all_say = say;
    grounded = upholds.grounded;
    once = distinct;
  }

  pub forced_so : (story : List Lemma) (forced : Forced) → earlier ≡ [] → AreStated size axioms core earlier (forced_facts size axioms core earlier story) forced →
      AreForced size axioms core story forced
  forced_so story forced first stated = record {
    sized = stated.sized;
    told = record {
      ours = subst (λ (ls : List Literal). list_all (is_literal size) ls ≡ true) (sym stated.stated) stated.ours;
      said = subst (λ (ls : List Lemma). are_said size axioms core ls forced.passage ≡ true) first stated.said;
      all_say = stated.all_say;
      grounded = stated.grounded;
      once = subst (λ (ls : List Literal). are_distinct ls ≡ true) (sym stated.stated) stated.once;
    };
    facts = stated.stated ∙ sym stated.on_board;
    whole = stated.on_board ∙ ap (λ (ls : List Lemma). forced_facts size axioms core ls story) first;
  }
