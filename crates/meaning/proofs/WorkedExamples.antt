-- Worked examples, as the definitions compute them.
use Rattle.std.proofs.Common.{◌≡◌, ◌∙◌, ap, min, refl, ℕ, List, [], ◌∷◌, true, false, length, map, Option, Some, None}
use Rattle.std.specs.Prelude.{codes}
use Rattle.vocab.specs.declared.kinds.Kind.TheVariants.{Choice, Ranking, Sets}
use Rattle.vocab.specs.declared.kinds.Sort.TheVariants.{Voter, Alt, Ballot, Profile}
use Rattle.vocab.specs.declared.literals.Literal.{Literal}
use Rattle.vocab.specs.declared.literals.Literal.TheVariants.{Wins, Loses}
use Rattle.vocab.specs.Limits.{atom_count, instance_count}
use Rattle.vocab.specs.Size.{Extent, ballot_places, full_size, sort_count}
use Rattle.vocab.specs.Titled.{Titled}
use Rattle.vocab.specs.Tree.{Tree, Var, Const, With, SwapVoters, SwapAlts, Swap, Equal, Prefers, WinsAt, Ranks, Leaf, Not, Both, Either, Implies, Same, All, Exists}
use Rattle.cnf.specs.Signed.{Signed}
use Rattle.cnf.specs.Sat.{Clause}
use Rattle.meaning.specs.declared.stories.Lemma.{Lemma}
use Rattle.meaning.specs.declared.stories.Reason.{Reason}
use Rattle.meaning.specs.declared.stories.Reason.TheVariants.{Axiom as ByAxiom, Outcome as ByOutcome, Lemma as ByLemma}
use Rattle.meaning.specs.declared.stories.StoryFault.{StoryFault}
use Rattle.meaning.specs.declared.stories.StoryFault.TheVariants.{NotInCore, Later, NotForced, Known, Supposes}
use Rattle.meaning.specs.declared.stories.StoryRefusal.{StoryRefusal}
use Rattle.meaning.specs.declared.stories.StoryRefusal.TheVariants.{Lemma as InLemma, Empty}
use Rattle.meaning.specs.declared.stories.StoryStep.{StoryStep}
use Rattle.meaning.specs.declared.cores.Witness.TheVariants.{Rule, Open}
use Rattle.meaning.specs.declared.three.Three.{Three}
use Rattle.meaning.specs.declared.three.Three.TheVariants.{True, False, Unknown}
use Rattle.meaning.specs.Cores.{is_core_right}
use Rattle.meaning.specs.Instances.{is_instance_true}
use Rattle.meaning.specs.declared.clauses.Counts.{Counts}
use Rattle.meaning.specs.Kleene.{three_literal}
use Rattle.meaning.specs.Measure.{largest, measure_of, plus_counts}
use Rattle.meaning.specs.Space.{below, rankings, casts_of, majority, prefers}
use Rattle.meaning.specs.Stories.{is_story}
use Rattle.meaning.specs.StoryFaults.{story_refusal}
use Rattle.meaning.specs.StudyClauses.{from_frame, study_clauses}
use Rattle.meaning.specs.Subsets.{elements}
use Rattle.meaning.specs.Texts.{outcome_text, profile_text}
use Rattle.meaning.specs.Tidy.{is_tidy}
use Rattle.meaning.specs.Truth.{is_true_at}
use Rattle.meaning.specs.Written.{Written, write_out}
use Rattle.meaning.proofs.MeasureLaws.{are_counts}

-- rules that choose, and rules that rank, for n voters and m alternatives
abbrev pub choice : ℕ → ℕ → Extent
choice n m = full_size Choice n m

abbrev pub ranked : ℕ → ℕ → Extent
ranked n m = full_size Ranking n m

-- and rules that give sets
abbrev pub set_valued : ℕ → ℕ → Extent
set_valued n m = full_size Sets n m

-- an axiom; its name plays no part
abbrev axiom_of : Tree → Titled
axiom_of f = record { name = codes "a"; sentence = f }

abbrev plain : ℕ → Signed
plain x = record { variable = x; positive = true }

abbrev negated : ℕ → Signed
negated x = record { variable = x; positive = false }

-- ---- rankings and profiles

three_alternatives_have_six_rankings : rankings 3 ≡ (0 ∷ 1 ∷ 2 ∷ []) ∷ (0 ∷ 2 ∷ 1 ∷ []) ∷ (1 ∷ 0 ∷ 2 ∷ []) ∷ (1 ∷ 2 ∷ 0 ∷ []) ∷ (2 ∷ 0 ∷ 1 ∷ []) ∷ (2 ∷ 1 ∷ 0 ∷ []) ∷ []
three_alternatives_have_six_rankings = refl

five_alternatives_have_120_rankings : length (rankings 5) ≡ 120
five_alternatives_have_120_rankings = refl

-- the number of a profile is its ballots in base 6, the first voter's first
profile_7_is_one_ballot_twice : casts_of (choice 2 3) 7 ≡ 1 ∷ 1 ∷ []
profile_7_is_one_ballot_twice = refl

profile_27_is_cab_bca : profile_text (choice 2 3) 27 ≡ codes "cab|bca"
profile_27_is_cab_bca = refl

-- at ab|ba there is a voter on each side, and so no majority
equal_camps_are_no_majority : (majority (choice 2 2) 0 1 1 ≡ false) × (majority (choice 2 2) 1 0 1 ≡ false)
equal_camps_are_no_majority = (refl, refl)

-- ---- fewer ballots, and absence

-- the second ranking alone
only_ba : Extent
only_ba = record { kind = Choice; voters = 1; alternatives = 2; ballots = 2; absent = false }

one_ballot_makes_one_profile : (sort_count only_ba Ballot ≡ 1) × (sort_count only_ba Profile ≡ 1) × (profile_text only_ba 0 ≡ codes "ba")
unfolding only_ba
one_ballot_makes_one_profile = (refl, refl, refl)

-- two voters, each of whom may be absent
may_be_absent : Extent
may_be_absent = record { kind = Choice; voters = 2; alternatives = 2; ballots = 3; absent = true }

third_profile_has_an_absent_voter : (sort_count may_be_absent Profile ≡ 8) × (profile_text may_be_absent 2 ≡ codes "ab|-") × (profile_text may_be_absent 7 ≡ codes "-|ba")
unfolding may_be_absent
third_profile_has_an_absent_voter = (refl, refl, refl)

-- at ab|- the voter who is there decides, and the absent one prefers nothing
absent_voters_say_nothing : (prefers may_be_absent 0 0 1 2 ≡ true) × (prefers may_be_absent 1 0 1 2 ≡ false) × (prefers may_be_absent 1 1 0 2 ≡ false) × (majority may_be_absent 0 1 2 ≡ true)
unfolding may_be_absent
absent_voters_say_nothing = (refl, refl, refl, refl)

-- abc, bac, bca and cba: the rankings at places 0, 2, 3 and 5 of the six, whose digits make 1 + 4 + 8 + 32
single_peaked : Extent
single_peaked = record { kind = Choice; voters = 3; alternatives = 3; ballots = 45; absent = false }

peaks_have_64_profiles : (ballot_places single_peaked ≡ 0 ∷ 2 ∷ 3 ∷ 5 ∷ []) × (sort_count single_peaked Profile ≡ 64) × (profile_text single_peaked 27 ≡ codes "bac|bca|cba")
unfolding single_peaked
peaks_have_64_profiles = (refl, refl, refl)

-- ---- one voter, two alternatives and unanimity

-- all p: profile. all x: alt. (all i: voter. all y: alt. (x = y | prefers(i, x, y, p)) -> wins(x, p))
abbrev pub unanimity : Tree
unanimity =
    All Profile (All Alt (Implies (All Voter (All Alt (Either (Leaf (Equal (Var 1) (Var 3))) (Leaf (Prefers (Var 2) (Var 1) (Var 3) (Var 0)))))) (Leaf (WinsAt (Var 1) (Var 0)))))

-- the voter's best alternative is chosen
dictatorship_of_one_voter_is_unanimous : is_true_at (choice 1 2) (0 ∷ 1 ∷ []) unanimity [] ≡ true
dictatorship_of_one_voter_is_unanimous = refl

-- the first alternative is chosen whatever the ballot
constant_rule_is_not_unanimous : is_true_at (choice 1 2) (0 ∷ 0 ∷ []) unanimity [] ≡ false
constant_rule_is_not_unanimous = refl

-- at the second profile and the second alternative, of two: 1 * 2 + 1
constant_rule_first_fails_at_instance_3 : map (is_instance_true (choice 1 2) (0 ∷ 0 ∷ []) unanimity) (0 ∷ 1 ∷ 2 ∷ 3 ∷ []) ≡ true ∷ true ∷ true ∷ false ∷ []
constant_rule_first_fails_at_instance_3 = refl

-- the first voter's best alternative is chosen at each of 36 profiles
dictatorship_of_two_voters_is_unanimous : is_true_at (choice 2 3) (0 ∷ 0 ∷ 0 ∷ 0 ∷ 0 ∷ 0 ∷ 0 ∷ 0 ∷ 0 ∷ 0 ∷ 0 ∷ 0 ∷ 1 ∷ 1 ∷ 1 ∷ 1 ∷ 1 ∷ 1 ∷ 1 ∷ 1 ∷ 1 ∷ 1 ∷ 1 ∷ 1 ∷ 2 ∷ 2 ∷ 2 ∷ 2 ∷ 2 ∷ 2 ∷ 2 ∷ 2 ∷ 2 ∷ 2 ∷ 2 ∷ 2 ∷ []) unanimity [] ≡ true
dictatorship_of_two_voters_is_unanimous = refl

abbrev clauses : Extent → List Titled → List ℕ → List Clause
clauses size axioms chosen = map (λ s. s.clause) (study_clauses size axioms chosen)

unanimity_of_one_voter_has_six_clauses : clauses (choice 1 2) (axiom_of unanimity ∷ []) (0 ∷ []) ≡ (plain 1 ∷ plain 2 ∷ []) ∷ (negated 1 ∷ negated 2 ∷ []) ∷ (plain 3 ∷ plain 4 ∷ []) ∷ (negated 3 ∷ negated 4 ∷ []) ∷ (plain 1 ∷ []) ∷ (plain 4 ∷ []) ∷ []
unanimity_of_one_voter_has_six_clauses = refl

-- ---- clauses of a study

-- 36 profiles, each with a clause that some alternative wins and three that no two do
frames_of_two_voters_and_three_alternatives_have_144_clauses : length (study_clauses (choice 2 3) [] []) ≡ 144
frames_of_two_voters_and_three_alternatives_have_144_clauses = refl

-- variables 1, 2, 3 say that a stands above b, a above c, b above c
frame_of_a_profile_forbids_circles : map (λ s. s.clause) (from_frame (ranked 1 3) 0) ≡ (negated 1 ∷ plain 2 ∷ negated 3 ∷ []) ∷ (plain 1 ∷ negated 2 ∷ plain 3 ∷ []) ∷ []
frame_of_a_profile_forbids_circles = refl

-- ---- sets

seven_codes_are_the_nonempty_sets_of_three : map (elements 3) (below 7) ≡ (0 ∷ []) ∷ (1 ∷ []) ∷ (0 ∷ 1 ∷ []) ∷ (2 ∷ []) ∷ (0 ∷ 2 ∷ []) ∷ (1 ∷ 2 ∷ []) ∷ (0 ∷ 1 ∷ 2 ∷ []) ∷ []
seven_codes_are_the_nonempty_sets_of_three = refl

code_4_is_ac : outcome_text (set_valued 1 3) 4 ≡ codes "ac"
code_4_is_ac = refl

frame_of_a_set_asks_for_an_element : map (λ s. s.clause) (from_frame (set_valued 1 2) 1) ≡ (plain 3 ∷ plain 4 ∷ []) ∷ []
frame_of_a_set_asks_for_an_element = refl

-- all x: alt. all y: alt. all p: profile. (wins(x, p) | wins(y, p))
abbrev either_wins : Tree
either_wins = All Alt (All Alt (All Profile (Either (Leaf (WinsAt (Var 0) (Var 2))) (Leaf (WinsAt (Var 1) (Var 2))))))

-- equal literals are merged, the second of two equal clauses of the axiom is left out, and the one that equals a clause of the frame stays
equal_clauses_of_one_axiom_are_kept_once : clauses (choice 1 2) (axiom_of either_wins ∷ []) (0 ∷ []) ≡ (plain 1 ∷ plain 2 ∷ []) ∷ (negated 1 ∷ negated 2 ∷ []) ∷ (plain 3 ∷ plain 4 ∷ []) ∷ (negated 3 ∷ negated 4 ∷ []) ∷ (plain 1 ∷ []) ∷ (plain 3 ∷ []) ∷ (plain 1 ∷ plain 2 ∷ []) ∷ (plain 3 ∷ plain 4 ∷ []) ∷ (plain 2 ∷ []) ∷ (plain 4 ∷ []) ∷ []
equal_clauses_of_one_axiom_are_kept_once = refl

-- all p: profile. (wins(@a, p) <-> wins(@b, p))
abbrev win_together : Tree
win_together = All Profile (Same (Leaf (WinsAt (Const 0) (Var 0))) (Leaf (WinsAt (Const 1) (Var 0))))

-- at each of two profiles a clause for either direction
equivalence_has_clauses_for_both_directions : clauses (choice 1 2) (axiom_of win_together ∷ []) (0 ∷ []) ≡ (plain 1 ∷ plain 2 ∷ []) ∷ (negated 1 ∷ negated 2 ∷ []) ∷ (plain 3 ∷ plain 4 ∷ []) ∷ (negated 3 ∷ negated 4 ∷ []) ∷ (negated 1 ∷ plain 2 ∷ []) ∷ (plain 1 ∷ negated 2 ∷ []) ∷ (negated 3 ∷ plain 4 ∷ []) ∷ (plain 3 ∷ negated 4 ∷ []) ∷ []
equivalence_has_clauses_for_both_directions = refl

-- ---- a body that is too wide

-- some p: profile. (wins(@a, p) & wins(@b, with(p, #1, <bac>))): 2 ^ 36 clauses of 36 literals
body_over_36_profiles : Written
body_over_36_profiles =
    write_out (choice 2 3) (Exists Profile (Both (Leaf (WinsAt (Const 0) (Var 0))) (Leaf (WinsAt (Const 1) (With (Var 0) (Const 0) (Const 2)))))) []

-- by arithmetic
chain_of_36_conjunctions_has_68719476736_clauses_and_2473901162496_literals : plus_counts body_over_36_profiles ≡ record { clauses = 68719476736; literals = 2473901162496 }
unfolding body_over_36_profiles
chain_of_36_conjunctions_has_68719476736_clauses_and_2473901162496_literals = refl

-- and of the clauses, none of which is written down
its_clauses_measure_68719476736_and_2473901162496 : measure_of body_over_36_profiles ≡ record { clauses = 68719476736; literals = 2473901162496 }
its_clauses_measure_68719476736_and_2473901162496 =
    ap ended ((are_counts body_over_36_profiles).0 ∙ chain_of_36_conjunctions_has_68719476736_clauses_and_2473901162496_literals)
  where
    ended : Counts → Counts
    ended c = record { clauses = min c.clauses largest; literals = min c.literals largest }

-- all p: profile. all q: profile. all x: alt. all y: alt. (all i: voter. (prefers(i, x, y, p) <-> prefers(i, x, y, q)) -> (ranks(x, y, p) <-> ranks(x, y, q)))
abbrev pub independence : Tree
independence =
    All Profile (All Profile (All Alt (All Alt (Implies (All Voter (Same (Leaf (Prefers (Var 4) (Var 2) (Var 3) (Var 0))) (Leaf (Prefers (Var 4) (Var 2) (Var 3) (Var 1))))) (Same (Leaf (Ranks (Var 2) (Var 3) (Var 0))) (Leaf (Ranks (Var 2) (Var 3) (Var 1))))))))

independence_of_two_voters_and_four_alternatives_has_5308416_instances : instance_count (ranked 2 4) independence ≡ 5308416
independence_of_two_voters_and_four_alternatives_has_5308416_instances = refl

independence_of_two_voters_and_four_alternatives_has_31850496_atoms : atom_count (ranked 2 4) independence ≡ 31850496
independence_of_two_voters_and_four_alternatives_has_31850496_atoms = refl

-- ---- two voters, two alternatives, anonymity and neutrality

-- all p: profile. all i: voter. all j: voter. all x: alt. (wins(x, p) <-> wins(x, swap_voters(p, i, j)))
abbrev pub anonymity : Tree
anonymity = All Profile (All Voter (All Voter (All Alt (Same (Leaf (WinsAt (Var 3) (Var 0))) (Leaf (WinsAt (Var 3) (SwapVoters (Var 0) (Var 1) (Var 2))))))))

-- all p: profile. all x: alt. all y: alt. all z: alt. (wins(z, p) <-> wins(swap(x, y, z), swap_alts(p, x, y)))
abbrev pub neutrality : Tree
neutrality = All Profile (All Alt (All Alt (All Alt (Same (Leaf (WinsAt (Var 3) (Var 0))) (Leaf (WinsAt (Swap (Var 1) (Var 2) (Var 3)) (SwapAlts (Var 0) (Var 1) (Var 2))))))))

abbrev both_axioms : List Titled
both_axioms = axiom_of anonymity ∷ axiom_of neutrality ∷ []

abbrev both : List ℕ
both = 0 ∷ 1 ∷ []

abbrev pub step : Literal → Reason → StoryStep
step l r = record { literal = l; reason = r }

-- profiles: 0 is ab|ab, 1 is ab|ba, 2 is ba|ab, 3 is ba|ba
-- suppose a wins at ab|ba: so a wins at ba|ab by anonymity, and b by neutrality
abbrev pub a_does_not_win : Lemma
a_does_not_win = record {
  suppose = Wins 0 1 ∷ [];
  steps = step (Wins 0 2) (ByAxiom 0 (1 ∷ 0 ∷ 1 ∷ 0 ∷ [])) ∷ step (Wins 1 2) (ByAxiom 1 (1 ∷ 0 ∷ 1 ∷ 0 ∷ [])) ∷ [];
  last = ByOutcome 2;
}

-- so b wins at ab|ba, and likewise both win at ba|ab
abbrev pub nothing_wins : Lemma
nothing_wins = record {
  suppose = [];
  steps = step (Loses 0 1) (ByLemma 0) ∷ step (Wins 1 1) (ByOutcome 1) ∷ step (Wins 1 2) (ByAxiom 0 (1 ∷ 0 ∷ 1 ∷ 1 ∷ [])) ∷ step (Wins 0 2) (ByAxiom 1 (1 ∷ 0 ∷ 1 ∷ 1 ∷ [])) ∷ [];
  last = ByOutcome 2;
}

anonymity_and_neutrality_story_is_accepted : is_story (choice 2 2) both_axioms both (a_does_not_win ∷ nothing_wins ∷ []) ≡ true
anonymity_and_neutrality_story_is_accepted = refl

anonymity_and_neutrality_story_is_tidy : is_tidy (choice 2 2) both_axioms both (a_does_not_win ∷ nothing_wins ∷ []) ≡ true
anonymity_and_neutrality_story_is_tidy = refl

-- a rule without anonymity chooses the first voter's best, and one without neutrality always a
anonymity_and_neutrality_core_is_right : is_core_right (choice 2 2) both_axioms 100000 both (Rule (0 ∷ 0 ∷ 1 ∷ 1 ∷ []) ∷ Rule (0 ∷ 0 ∷ 0 ∷ 0 ∷ []) ∷ []) ≡ true
anonymity_and_neutrality_core_is_right = refl

core_in_another_order_is_not_right : is_core_right (choice 2 2) both_axioms 100000 (1 ∷ 0 ∷ []) (Rule (0 ∷ 0 ∷ 0 ∷ 0 ∷ []) ∷ Rule (0 ∷ 0 ∷ 1 ∷ 1 ∷ []) ∷ []) ≡ false
core_in_another_order_is_not_right = refl

-- an open mark is right with the limit of the study, and with no other
open_mark_has_the_limit_of_the_study : map (λ limit. is_core_right (choice 2 2) both_axioms 1000 both (Open 1000 ∷ Open limit ∷ [])) (1000 ∷ 999 ∷ []) ≡ true ∷ false ∷ []
open_mark_has_the_limit_of_the_study = refl

-- the first fault of a story, told with a core
abbrev refusal : List ℕ → List Lemma → Option StoryRefusal
refusal core story = story_refusal (choice 2 2) both_axioms core story

abbrev in_lemma : ℕ → ℕ → StoryFault → Option StoryRefusal
in_lemma lemma place fault = Some (InLemma lemma (record { place = place; fault = fault }))

story_without_fault_is_not_refused : refusal both (a_does_not_win ∷ nothing_wins ∷ []) ≡ None
story_without_fault_is_not_refused = refl

-- b does not win at ba|ab
step_that_is_not_forced_is_refused : refusal both (record a_does_not_win { steps = step (Wins 0 2) (ByAxiom 0 (1 ∷ 0 ∷ 1 ∷ 0 ∷ [])) ∷ step (Loses 1 2) (ByAxiom 1 (1 ∷ 0 ∷ 1 ∷ 0 ∷ [])) ∷ [] } ∷ nothing_wins ∷ []) ≡ in_lemma 0 3 NotForced
step_that_is_not_forced_is_refused = refl

-- the second lemma cites itself
reason_by_a_later_lemma_is_refused : refusal both (a_does_not_win ∷ record nothing_wins { steps = step (Loses 0 1) (ByLemma 1) ∷ [] } ∷ []) ≡ in_lemma 1 1 Later
reason_by_a_later_lemma_is_refused = refl

repeated_step_is_refused : refusal both (a_does_not_win ∷ record nothing_wins { steps = step (Loses 0 1) (ByLemma 0) ∷ step (Loses 0 1) (ByLemma 0) ∷ [] } ∷ []) ≡ in_lemma 1 2 Known
repeated_step_is_refused = refl

-- anonymity is not in the core
reason_by_an_axiom_outside_the_core_is_refused : refusal (1 ∷ []) (a_does_not_win ∷ nothing_wins ∷ []) ≡ in_lemma 0 2 NotInCore
reason_by_an_axiom_outside_the_core_is_refused = refl

supposition_of_the_last_lemma_is_refused : refusal both (a_does_not_win ∷ record nothing_wins { suppose = Wins 1 1 ∷ [] } ∷ []) ≡ in_lemma 1 1 Supposes
supposition_of_the_last_lemma_is_refused = refl

story_without_lemma_is_refused : refusal both [] ≡ Some Empty
story_without_lemma_is_refused = refl

-- or it would refute anything
lemma_by_itself_is_not_accepted : is_story (choice 2 2) both_axioms both (record { suppose = []; steps = []; last = ByLemma 0 } ∷ []) ≡ false
lemma_by_itself_is_not_accepted = refl

-- that a wins is known, and is false where it is known that a loses; of b nothing is
literal_that_is_not_known_is_unknown : map (three_literal (Wins 0 1 ∷ [])) (Wins 0 1 ∷ Loses 0 1 ∷ Wins 1 1 ∷ []) ≡ True ∷ False ∷ Unknown ∷ []
literal_that_is_not_known_is_unknown = refl

-- a lemma that nothing cites is accepted, and is not tidy
uncited_lemma_is_accepted : is_story (choice 2 2) both_axioms both (a_does_not_win ∷ a_does_not_win ∷ nothing_wins ∷ []) ≡ true
uncited_lemma_is_accepted = refl

uncited_lemma_is_not_tidy : is_tidy (choice 2 2) both_axioms both (a_does_not_win ∷ a_does_not_win ∷ nothing_wins ∷ []) ≡ false
uncited_lemma_is_not_tidy = refl

-- ---- one voter and one alternative

-- all i: voter. some p: profile. some x: alt. some y: alt. (prefers(i, y, x, p) & wins(x, p))
abbrev pub non_dictatorship : Tree
non_dictatorship = All Voter (Exists Profile (Exists Alt (Exists Alt (Both (Leaf (Prefers (Var 0) (Var 3) (Var 2) (Var 1))) (Leaf (WinsAt (Var 2) (Var 1)))))))

-- the one voter dictates
non_dictatorship_of_one_alternative_is_refuted_at_once : is_story (choice 1 1) (axiom_of non_dictatorship ∷ []) (0 ∷ []) (record { suppose = []; steps = []; last = ByAxiom 0 (0 ∷ []) } ∷ []) ≡ true
non_dictatorship_of_one_alternative_is_refuted_at_once = refl

-- ---- the Paretian liberal (Sen 1970), for two voters and three alternatives

-- all p: profile. all x: alt. all y: alt. (all i: voter. prefers(i, x, y, p) -> !wins(y, p))
abbrev pub pareto : Tree
pareto = All Profile (All Alt (All Alt (Implies (All Voter (Leaf (Prefers (Var 3) (Var 1) (Var 2) (Var 0)))) (Not (Leaf (WinsAt (Var 2) (Var 0)))))))

-- voter i decides between x and y
abbrev pub right_of : ℕ → ℕ → ℕ → Tree
right_of i x y =
    All Profile (Both (Implies (Leaf (Prefers (Const i) (Const x) (Const y) (Var 0))) (Not (Leaf (WinsAt (Const y) (Var 0))))) (Implies (Leaf (Prefers (Const i) (Const y) (Const x) (Var 0))) (Not (Leaf (WinsAt (Const x) (Var 0))))))

-- at cab|bca the first voter's right excludes b, the second's c, and Pareto a
paretian_liberal_story_is_accepted_at_cab_bca : is_story (choice 2 3) (axiom_of pareto ∷ axiom_of (right_of 0 0 1) ∷ axiom_of (right_of 1 1 2) ∷ []) (0 ∷ 1 ∷ 2 ∷ []) (record {
  suppose = [];
  steps = step (Loses 1 27) (ByAxiom 1 (27 ∷ [])) ∷ step (Loses 2 27) (ByAxiom 2 (27 ∷ [])) ∷ step (Loses 0 27) (ByAxiom 0 (27 ∷ 2 ∷ 0 ∷ [])) ∷ [];
  last = ByOutcome 27;
} ∷ []) ≡ true
paretian_liberal_story_is_accepted_at_cab_bca = refl
