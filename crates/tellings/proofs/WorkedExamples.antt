-- Worked examples, as the definitions compute them: what is left at profiles, of two alternatives, and what
-- a lemma claims.
use Rattle.std.proofs.Common.{◌≡◌, refl, ℕ, List, [], ◌∷◌, true, false, Bool, map, Some}
use Rattle.vocab.specs.declared.literals.Literal.{Literal}
use Rattle.vocab.specs.declared.literals.Literal.TheVariants.{Wins, Loses}
use Rattle.meaning.specs.declared.stories.Lemma.{Lemma}
use Rattle.meaning.specs.declared.stories.Reason.TheVariants.{Outcome as ByOutcome, Lemma as ByLemma}
use Rattle.meaning.specs.declared.stories.StoryStep.{StoryStep}
use Rattle.meaning.proofs.WorkedExamples.{choice}
use Rattle.tellings.specs.declared.tellings.By.TheVariants.{Outcome}
use Rattle.tellings.specs.Tellings.{first_facts, forced_by, says_step}

-- b wins at the profile, since it is what is left there
abbrev wins_at : ℕ → StoryStep
wins_at p = record { literal = Wins 1 p; reason = ByOutcome p }

-- which of the steps at profiles 1 and 2 a sentence says that rests on these facts
abbrev said_by : List Literal → List Bool
said_by rests = map (λ (p : ℕ). says_step (choice 2 2) [] [] [] (Some (record { by = Outcome; rests = rests })) (wins_at p)) (1 ∷ 2 ∷ [])

sentence_says_two_profiles : said_by (Loses 0 1 ∷ Loses 0 2 ∷ []) ≡ true ∷ true ∷ []
sentence_says_two_profiles = refl

facts_of_one_profile_are_left_out : said_by (Loses 0 1 ∷ []) ≡ true ∷ false ∷ []
facts_of_one_profile_are_left_out = refl

-- a step at profile 2 whose reason is profile 1 is said by no facts that leave an outcome at profile 1
step_of_another_profile : says_step (choice 2 2) [] [] [] (Some (record { by = Outcome; rests = Loses 0 1 ∷ Loses 0 2 ∷ [] })) (record { literal = Wins 1 2; reason = ByOutcome 1 }) ≡ false
step_of_another_profile = refl

-- of three alternatives: a and b lose at profile 1, a and c at profile 2. What loses at the one does not at the other
claims_differ : says_step (choice 2 3) [] [] [] (Some (record { by = Outcome; rests = Loses 0 1 ∷ Loses 1 1 ∷ Loses 0 2 ∷ Loses 2 2 ∷ [] })) (record { literal = Wins 2 1; reason = ByOutcome 1 }) ≡ false
claims_differ = refl

claims_are_the_same : says_step (choice 2 3) [] [] [] (Some (record { by = Outcome; rests = Loses 0 1 ∷ Loses 1 1 ∷ Loses 1 2 ∷ Loses 0 2 ∷ [] })) (record { literal = Wins 2 1; reason = ByOutcome 1 }) ≡ true
claims_are_the_same = refl

-- where a is forced not to win at profile 1, b is forced to win there, and nothing at profile 2
what_is_left_is_forced : forced_by (choice 2 2) [] [] [] (Loses 0 1 ∷ []) (wins_at 1 ∷ wins_at 2 ∷ []) ≡ Loses 0 1 ∷ Wins 1 1 ∷ []
what_is_left_is_forced = refl

-- supposes that a wins at profile 1, and claims so that it doesn't
abbrev claimed : Lemma
claimed = record { suppose = Wins 0 1 ∷ []; steps = []; last = ByOutcome 1 }

-- takes over what that lemma claims
abbrev by_claim : Lemma
by_claim = record { suppose = []; steps = record { literal = Loses 0 1; reason = ByLemma 0 } ∷ []; last = ByOutcome 1 }

-- what an earlier lemma claims is no fact that comes first
claim_forces_nothing : first_facts (choice 2 2) [] [] (claimed ∷ by_claim ∷ []) ≡ []
claim_forces_nothing = refl

-- where that lemma may be cited, it forces the step that cites it
claim_forces_where_it_stands : forced_by (choice 2 2) [] [] (claimed ∷ []) [] by_claim.steps ≡ Loses 0 1 ∷ []
claim_forces_where_it_stands = refl
