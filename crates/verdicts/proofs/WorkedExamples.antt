-- Worked examples: the text of a verdict, and the answer to a report, as the definitions compute them.
use Rattle.std.proofs.Common.{◌≡◌, refl, ℕ, ◌+◌, ◌-◌, List, [], ◌∷◌, ◌++◌, map, length, take, drop, true, false, replicate}
use Rattle.std.specs.Prelude.{codes, slice_set}
use Rattle.std.specs.List.{flat_map}
use Rattle.vocab.specs.declared.kinds.Kind.TheVariants.{Choice}
use Rattle.vocab.specs.declared.kinds.Sort.TheVariants.{Voter, Alt, Profile}
use Rattle.vocab.specs.declared.literals.Literal.TheVariants.{Wins, Loses, Above}
use Rattle.vocab.specs.Study.{Question}
use Rattle.vocab.specs.Titled.{Titled}
use Rattle.vocab.specs.Tree.{Tree, Var, Prefers, Ranks, Leaf, Not, Both, Implies, All, Exists}
use Rattle.meaning.specs.declared.cores.Witness.TheVariants.{Rule, Open}
use Rattle.meaning.specs.declared.stories.Reason.TheVariants.{Axiom as ByAxiom, Outcome as ByOutcome, Lemma as ByLemma}
use Rattle.meaning.specs.Space.{below}
use Rattle.meaning.proofs.WorkedExamples.{choice, ranked, unanimity, independence, anonymity, neutrality, step, a_does_not_win, nothing_wins, non_dictatorship, pareto, right_of}
use Rattle.verdicts.specs.declared.refusals.Refusal.{Refusal}
use Rattle.verdicts.specs.declared.refusals.Refusal.TheVariants as refusal
use Rattle.verdicts.specs.declared.verdicts.Verdict.{Verdict}
use Rattle.verdicts.specs.declared.verdicts.Verdict.TheVariants.{Possible, Impossible}
use Rattle.verdicts.specs.Report.{report_text_in, report_text, has_text, is_right}
use Rattle.verdicts.specs.FirstFault.{Judgement, Confirmed, Faulty, TooLong}
use Rattle.verdicts.specs.Judge.{answer, answer_within}
use Rattle.verdicts.specs.Words.{answer_text}

-- lines, each with its end
abbrev text_of : List (List ℕ) → List ℕ
text_of lines = flat_map (λ line. line ++ 10 ∷ []) lines

abbrev axiom_of : List ℕ → Tree → Titled
axiom_of name f = record { name = name; sentence = f }

-- ---- one voter, two alternatives and unanimity

abbrev unanimous : Question
unanimous = record { size = choice 1 2; conflicts = 100000; axioms = axiom_of (codes "unanimity") unanimity ∷ [] }

-- the report that the voter's best alternative is chosen
abbrev best_is_chosen : List (List ℕ)
best_is_chosen =
    codes "bench report 1" ∷ codes "kind choice" ∷ codes "voters 1" ∷ codes "alternatives 2" ∷ codes "axioms unanimity" ∷ codes "verdict possible" ∷ codes "rule 2" ∷ codes "ab a" ∷ codes "ba b" ∷ codes "end" ∷ []

rule_of_one_voter_has_this_text : report_text unanimous (Possible (0 ∷ 1 ∷ [])) ≡ codes "bench report 1\nkind choice\nvoters 1\nalternatives 2\naxioms unanimity\nverdict possible\nrule 2\nab a\nba b\nend\n"
rule_of_one_voter_has_this_text = refl

rule_of_one_voter_is_right : is_right unanimous (Possible (0 ∷ 1 ∷ [])) ≡ true
rule_of_one_voter_is_right = refl

rule_of_one_voter_is_confirmed : answer unanimous (text_of best_is_chosen) ≡ Confirmed (Possible (0 ∷ 1 ∷ []))
rule_of_one_voter_is_confirmed = refl

-- the answer where a line of the report, numbered from 1, is another
abbrev with_rule_line : ℕ → List ℕ → Judgement Verdict Refusal
with_rule_line n line = answer unanimous (text_of (slice_set best_is_chosen (n - 1) line))

-- profile 1 and alternative 1 of two: 1 * 2 + 1
last_row_names_the_failing_axiom_and_instance : with_rule_line 9 (codes "ba a") ≡ Faulty 9 (refusal.Fails (codes "unanimity") 3)
last_row_names_the_failing_axiom_and_instance = refl

faulty_line_is_printed : answer_text (with_rule_line 9 (codes "ba a")) ≡ codes "refused line 9: fails unanimity 3\n"
faulty_line_is_printed = refl

row_of_an_earlier_profile_is_row : with_rule_line 9 (codes "ab a") ≡ Faulty 9 refusal.Row
row_of_an_earlier_profile_is_row = refl

row_left_out_is_form : answer unanimous (text_of (take 8 best_is_chosen ++ drop 9 best_is_chosen)) ≡ Faulty 9 refusal.Form
row_left_out_is_form = refl

-- no row is judged by its outcome alone, and a table by its last row
first_row_is_not_yet_judged : answer unanimous (text_of (slice_set (slice_set best_is_chosen 7 (codes "ab b")) 8 (codes "ab b"))) ≡ Faulty 9 refusal.Row
first_row_is_not_yet_judged = refl

count_of_rows_is_row : map (λ line. with_rule_line 7 line) (codes "rule 0" ∷ codes "rule 1" ∷ codes "rule 3" ∷ codes "rule 999999999999999999999999999999" ∷ []) ≡ replicate 4 (Faulty 7 refusal.Row)
count_of_rows_is_row = refl

row_out_of_range_is_form : map (λ line. with_rule_line 8 line) (codes "ab c" ∷ codes "ac a" ∷ codes "aa a" ∷ codes "abc a" ∷ codes "ab|ab a" ∷ codes "ab ab" ∷ []) ≡ replicate 6 (Faulty 8 refusal.Form)
row_out_of_range_is_form = refl

-- ---- report 2: which ballots voters may cast, and whether they may be absent

-- the one voter may cast `ba` alone
abbrev only_ba : Question
only_ba = record unanimous {
  size = record { kind = Choice; voters = 1; alternatives = 2; ballots = 2; absent = false };
}

-- the report that b is chosen, under a title
abbrev b_is_chosen : List ℕ → List (List ℕ)
b_is_chosen title =
    title ∷ codes "kind choice" ∷ codes "voters 1" ∷ codes "alternatives 2"
    ∷ codes "ballots ba" ∷ codes "absent no"
    ∷ codes "axioms unanimity" ∷ codes "verdict possible" ∷ codes "rule 1" ∷ codes "ba b" ∷ codes "end" ∷ []

rule_over_one_ballot_has_this_text : report_text only_ba (Possible (1 ∷ []))
    ≡ codes "bench report 2\nkind choice\nvoters 1\nalternatives 2\nballots ba\nabsent no\n"
    ++ codes "axioms unanimity\nverdict possible\nrule 1\nba b\nend\n"
rule_over_one_ballot_has_this_text = refl

rule_over_one_ballot_is_confirmed : answer only_ba (text_of (b_is_chosen (codes "bench report 2")))
    ≡ Confirmed (Possible (1 ∷ []))
rule_over_one_ballot_is_confirmed = refl

-- report 1 is of full sizes alone
title_of_report_1_is_study : answer_text (answer only_ba (text_of (b_is_chosen (codes "bench report 1"))))
    ≡ codes "refused line 1: study\n"
title_of_report_1_is_study = refl

-- a report 1 of the verdict has a text, which is none of the study's reports
report_1_over_one_ballot_is_study : answer only_ba (report_text_in only_ba 1 (Possible (1 ∷ [])))
    ≡ Faulty 1 refusal.StudyDiffers
report_1_over_one_ballot_is_study = refl

other_ballots_are_study :
    map (λ line. answer only_ba (text_of (slice_set (b_is_chosen (codes "bench report 2")) 4 line)))
    (codes "ballots ab" ∷ codes "ballots ab ba" ∷ codes "ballots ba ba" ∷ [])
    ≡ replicate 3 (Faulty 5 refusal.StudyDiffers)
other_ballots_are_study = refl

-- over a full size a verdict has two reports
abbrev best_is_chosen_2 : List (List ℕ)
best_is_chosen_2 =
    codes "bench report 2" ∷ codes "kind choice" ∷ codes "voters 1" ∷ codes "alternatives 2"
    ∷ codes "ballots ab ba" ∷ codes "absent no" ∷ codes "axioms unanimity" ∷ codes "verdict possible"
    ∷ codes "rule 2" ∷ codes "ab a" ∷ codes "ba b" ∷ codes "end" ∷ []

both_versions_have_these_texts :
    map (λ version. report_text_in unanimous version (Possible (0 ∷ 1 ∷ []))) (1 ∷ 2 ∷ [])
    ≡ text_of best_is_chosen ∷ text_of best_is_chosen_2 ∷ []
both_versions_have_these_texts = refl

both_versions_are_confirmed :
    map (λ lines. answer unanimous (text_of lines)) (best_is_chosen ∷ best_is_chosen_2 ∷ [])
    ≡ replicate 2 (Confirmed (Possible (0 ∷ 1 ∷ [])))
both_versions_are_confirmed = refl

-- the answer where a line of the report 2, numbered from 1, is another
abbrev with_line_2 : ℕ → List ℕ → Judgement Verdict Refusal
with_line_2 n line = answer unanimous (text_of (slice_set best_is_chosen_2 (n - 1) line))

-- one too few, another order, one twice
ballots_that_differ_are_study : map (λ line. with_line_2 5 line)
    (codes "ballots ab" ∷ codes "ballots ba ab" ∷ codes "ballots ab ba ba" ∷ [])
    ≡ replicate 3 (Faulty 5 refusal.StudyDiffers)
ballots_that_differ_are_study = refl

-- no ranking of two alternatives, none at all, an empty word
malformed_ballots_are_form : map (λ line. with_line_2 5 line) (
    codes "ballots ac" ∷ codes "ballots ab b" ∷ codes "ballots ab -" ∷ codes "ballots"
    ∷ codes "ballots ab ba " ∷ []) ≡ replicate 5 (Faulty 5 refusal.Form)
malformed_ballots_are_form = refl

absence_that_differs_is_study : with_line_2 6 (codes "absent yes") ≡ Faulty 6 refusal.StudyDiffers
absence_that_differs_is_study = refl

malformed_absence_is_form :
    map (λ line. with_line_2 6 line) (codes "absent" ∷ codes "absent maybe" ∷ codes "absent no no" ∷ [])
    ≡ replicate 3 (Faulty 6 refusal.Form)
malformed_absence_is_form = refl

report_2_without_its_line_on_absence_is_form :
    answer unanimous (text_of (take 5 best_is_chosen_2 ++ drop 6 best_is_chosen_2)) ≡ Faulty 6 refusal.Form
report_2_without_its_line_on_absence_is_form = refl

-- and report 1 has none of the two lines
report_2_under_the_title_of_report_1_is_form : with_line_2 1 (codes "bench report 1") ≡ Faulty 5 refusal.Form
report_2_under_the_title_of_report_1_is_form = refl

-- two voters, each of whom may be absent, but not both, and one alternative
abbrev may_be_absent : Question
may_be_absent = record {
  size = record { kind = Choice; voters = 2; alternatives = 1; ballots = 1; absent = true };
  conflicts = 100000;
  axioms = [];
}

abbrev absent_voters : List ℕ → List (List ℕ)
absent_voters absence =
    codes "bench report 2" ∷ codes "kind choice" ∷ codes "voters 2" ∷ codes "alternatives 1"
    ∷ codes "ballots a" ∷ absence ∷ codes "axioms" ∷ codes "verdict possible"
    ∷ codes "rule 3" ∷ codes "a|a a" ∷ codes "a|- a" ∷ codes "-|a a" ∷ codes "end" ∷ []

rule_with_absent_voters_has_this_text : report_text may_be_absent (Possible (0 ∷ 0 ∷ 0 ∷ []))
    ≡ text_of (absent_voters (codes "absent yes"))
rule_with_absent_voters_has_this_text = refl

absence_is_part_of_the_study : map (λ line. answer may_be_absent (text_of (absent_voters line)))
    (codes "absent yes" ∷ codes "absent no" ∷ [])
    ≡ Confirmed (Possible (0 ∷ 0 ∷ 0 ∷ [])) ∷ Faulty 6 refusal.StudyDiffers ∷ []
absence_is_part_of_the_study = refl

-- ---- two voters, two alternatives, anonymity and neutrality

abbrev symmetric : Question
symmetric = record { size = choice 2 2; conflicts = 100000; axioms = axiom_of (codes "anonymity") anonymity ∷ axiom_of (codes "neutrality") neutrality ∷ [] }

-- a rule without anonymity chooses the first voter's best, and one without neutrality always a
abbrev no_symmetric_rule : Verdict
no_symmetric_rule = Impossible (0 ∷ 1 ∷ []) (a_does_not_win ∷ nothing_wins ∷ []) (Rule (0 ∷ 0 ∷ 1 ∷ 1 ∷ []) ∷ Rule (0 ∷ 0 ∷ 0 ∷ 0 ∷ []) ∷ [])

-- its report, of 30 lines
abbrev no_symmetric_rule_report : List (List ℕ)
no_symmetric_rule_report =
    codes "bench report 1" ∷ codes "kind choice" ∷ codes "voters 2" ∷ codes "alternatives 2" ∷ codes "axioms anonymity neutrality"
    ∷ codes "verdict impossible" ∷ codes "core anonymity neutrality" ∷ codes "lemmas 2"
    ∷ codes "lemma 1" ∷ codes "suppose a@ab|ba" ∷ codes "so a@ba|ab by axiom anonymity ab|ba 1 2 a" ∷ codes "so b@ba|ab by axiom neutrality ab|ba a b a" ∷ codes "clash by outcome ba|ab"
    ∷ codes "lemma 2" ∷ codes "so !a@ab|ba by lemma 1" ∷ codes "so b@ab|ba by outcome ab|ba" ∷ codes "so b@ba|ab by axiom anonymity ab|ba 1 2 b" ∷ codes "so a@ba|ab by axiom neutrality ab|ba a b b" ∷ codes "clash by outcome ba|ab"
    ∷ codes "without anonymity rule 4" ∷ codes "ab|ab a" ∷ codes "ab|ba a" ∷ codes "ba|ab b" ∷ codes "ba|ba b"
    ∷ codes "without neutrality rule 4" ∷ codes "ab|ab a" ∷ codes "ab|ba a" ∷ codes "ba|ab a" ∷ codes "ba|ba a"
    ∷ codes "end" ∷ []

impossibility_has_this_text : report_text symmetric no_symmetric_rule ≡ text_of no_symmetric_rule_report
impossibility_has_this_text = refl

impossibility_is_right : is_right symmetric no_symmetric_rule ≡ true
impossibility_is_right = refl

impossibility_is_in_range : has_text symmetric no_symmetric_rule ≡ true
impossibility_is_in_range = refl

impossibility_is_confirmed : answer symmetric (text_of no_symmetric_rule_report) ≡ Confirmed no_symmetric_rule
impossibility_is_confirmed = refl

confirmation_is_printed : answer_text (answer symmetric (text_of no_symmetric_rule_report)) ≡ codes "confirmed impossible\n"
confirmation_is_printed = refl

-- the answer where a line of the report, numbered from 1, is another, or another one stands before it
abbrev with_line : ℕ → List ℕ → Judgement Verdict Refusal
with_line n line = answer symmetric (text_of (slice_set no_symmetric_rule_report (n - 1) line))

abbrev with_more : ℕ → List (List ℕ) → Judgement Verdict Refusal
with_more n more = answer symmetric (text_of (take (n - 1) no_symmetric_rule_report ++ (more ++ drop (n - 1) no_symmetric_rule_report)))

-- ---- faults of a story

-- b does not win at ba|ab
step_that_is_not_forced_is_not_forced : with_line 12 (codes "so !b@ba|ab by axiom neutrality ab|ba a b a") ≡ Faulty 12 refusal.NotForced
step_that_is_not_forced_is_not_forced = refl

lemma_that_cites_itself_is_later : with_line 15 (codes "so !a@ab|ba by lemma 2") ≡ Faulty 15 refusal.Later
lemma_that_cites_itself_is_later = refl

repeated_step_is_known : with_line 16 (codes "so !a@ab|ba by lemma 1") ≡ Faulty 16 refusal.Known
repeated_step_is_known = refl

axiom_outside_the_core_is_not_in_core : with_line 7 (codes "core neutrality") ≡ Faulty 11 refusal.NotInCore
axiom_outside_the_core_is_not_in_core = refl

last_lemma_that_supposes_is_supposes : with_more 15 (codes "suppose b@ab|ba" ∷ []) ≡ Faulty 15 refusal.Supposes
last_lemma_that_supposes_is_supposes = refl

-- of two faults of one line the first is named: a literal that is not new, then the axiom or the lemma, then what it forces
first_of_two_faults_is_named : with_line 16 (codes "so !a@ab|ba by lemma 2") ≡ Faulty 16 refusal.Known
first_of_two_faults_is_named = refl

axiom_outside_the_core_comes_before_what_it_forces : answer symmetric (text_of (slice_set (slice_set no_symmetric_rule_report 6 (codes "core neutrality")) 10 (codes "so b@ba|ab by axiom anonymity ab|ba 1 2 a"))) ≡ Faulty 11 refusal.NotInCore
axiom_outside_the_core_comes_before_what_it_forces = refl

-- the whole line, reason and all, has to be well formed before its literal is looked at
repeated_step_with_a_malformed_reason_is_form : with_line 16 (codes "so !a@ab|ba by lemma 0") ≡ Faulty 16 refusal.Form
repeated_step_with_a_malformed_reason_is_form = refl

supposition_after_a_step_is_form : map (λ n. with_line n (codes "suppose b@ba|ab")) (12 ∷ 16 ∷ []) ≡ Faulty 12 refusal.Form ∷ Faulty 16 refusal.Form ∷ []
supposition_after_a_step_is_form = refl

axiom_that_the_study_lacks_is_form_in_a_reason : with_line 11 (codes "so a@ba|ab by axiom unanimity ab|ba 1 2 a") ≡ Faulty 11 refusal.Form
axiom_that_the_study_lacks_is_form_in_a_reason = refl

-- a value too few, one too many, another sort; and values, profiles and literals that the size lacks
value_of_another_sort_or_size_is_form : map (λ reason. with_line 11 (codes "so a@ba|ab by " ++ reason)) (
    codes "axiom anonymity ab|ba 1 2" ∷ codes "axiom anonymity ab|ba 1 2 a a" ∷ codes "axiom anonymity ab|ba a 2 a" ∷ codes "axiom anonymity ab|ba 0 2 a" ∷ codes "axiom anonymity ab|ba 1 3 a"
    ∷ codes "axiom anonymity ab|ba 1 2 c" ∷ codes "axiom anonymity ab 1 2 a" ∷ codes "outcome ab|bc" ∷ codes "outcome" ∷ codes "lemma" ∷ []) ≡ replicate 10 (Faulty 11 refusal.Form)
value_of_another_sort_or_size_is_form = refl

literal_of_another_kind_or_size_is_form : map (λ literal. with_line 10 (codes "suppose " ++ literal)) (codes "c@ab|ba" ∷ codes "!c@ab|ba" ∷ codes "a@ab" ∷ codes "a>b@ab|ba" ∷ codes "!!a@ab|ba" ∷ codes "a" ∷ []) ≡ replicate 6 (Faulty 10 refusal.Form)
literal_of_another_kind_or_size_is_form = refl

-- ---- faults of the head, the core and the witnesses

core_in_another_order_is_core : with_line 7 (codes "core neutrality anonymity") ≡ Faulty 7 refusal.Core
core_in_another_order_is_core = refl

core_with_a_name_twice_is_core : with_line 7 (codes "core anonymity anonymity") ≡ Faulty 7 refusal.Core
core_with_a_name_twice_is_core = refl

-- `all` and `some` are names there
core_of_an_axiom_that_the_study_lacks_is_core : map (λ line. with_line 7 line) (codes "core unanimity" ∷ codes "core all some" ∷ []) ≡ replicate 2 (Faulty 7 refusal.Core)
core_of_an_axiom_that_the_study_lacks_is_core = refl

-- a core without a name is no fault of its line: nothing refutes
core_without_a_name_fails_in_the_story : with_line 7 (codes "core") ≡ Faulty 11 refusal.NotInCore
core_without_a_name_fails_in_the_story = refl

core_without_a_name_forces_nothing : answer symmetric (text_of (take 6 no_symmetric_rule_report ++ codes "core" ∷ codes "lemmas 1" ∷ codes "lemma 1" ∷ codes "clash by outcome ab|ba" ∷ codes "end" ∷ [])) ≡ Faulty 10 refusal.NotForced
core_without_a_name_forces_nothing = refl

other_head_is_study : map (λ (n, line). with_line n line) ((2, codes "kind ranking") ∷ (2, codes "kind sets") ∷ (3, codes "voters 3") ∷ (3, codes "voters 99999999999999999999") ∷ (4, codes "alternatives 1") ∷ (5, codes "axioms anonymity") ∷ (5, codes "axioms neutrality anonymity") ∷ (5, codes "axioms all some") ∷ []) ≡
    Faulty 2 refusal.StudyDiffers ∷ Faulty 2 refusal.StudyDiffers ∷ Faulty 3 refusal.StudyDiffers ∷ Faulty 3 refusal.StudyDiffers ∷ Faulty 4 refusal.StudyDiffers ∷ replicate 3 (Faulty 5 refusal.StudyDiffers)
other_head_is_study = refl

-- a kind that no study file names, signs, leading zeros, and names of another shape
malformed_head_is_form : map (λ (n, line). with_line n line) ((2, codes "kind set") ∷ (3, codes "voters 02") ∷ (3, codes "voters +2") ∷ (3, codes "voters") ∷ (4, codes "alternatives 2 2") ∷ (5, codes "axioms anonymity Neutrality") ∷ (5, codes "axioms 1st") ∷ []) ≡
    Faulty 2 refusal.Form ∷ Faulty 3 refusal.Form ∷ Faulty 3 refusal.Form ∷ Faulty 3 refusal.Form ∷ Faulty 4 refusal.Form ∷ replicate 2 (Faulty 5 refusal.Form)
malformed_head_is_form = refl

-- 32 bytes are a name, and 33 are none: on the line of the axioms, of the core, and of a witness
name_has_32_bytes_at_most : map (λ (n, k). with_line n (codes "axioms " ++ replicate k 97)) ((5, 32) ∷ (5, 33) ∷ []) ≡ Faulty 5 refusal.StudyDiffers ∷ Faulty 5 refusal.Form ∷ []
name_has_32_bytes_at_most = refl

name_of_33_bytes_is_form : map (λ k. with_line 7 (codes "core " ++ replicate k 97)) (32 ∷ 33 ∷ []) ++ map (λ k. with_line 20 (codes "without " ++ (replicate k 97 ++ codes " rule 4"))) (32 ∷ 33 ∷ []) ≡
    Faulty 7 refusal.Core ∷ Faulty 7 refusal.Form ∷ Faulty 20 refusal.Core ∷ Faulty 20 refusal.Form ∷ []
name_of_33_bytes_is_form = refl

undecided_claims_nothing : with_line 6 (codes "verdict undecided") ≡ Faulty 6 refusal.Undecided
undecided_claims_nothing = refl

-- form before core, and core before row
witness_is_that_of_the_next_axiom : map (λ line. with_line 20 line) (codes "without neutrality rule x" ∷ codes "without neutrality rule 3" ∷ codes "without unanimity rule 3" ∷ codes "without anonymity rule 3" ∷ codes "without anonymity rule 999999999999999999999999999999" ∷ codes "without neutrality open 1" ∷ codes "without anonymity open 1" ∷ []) ≡
    Faulty 20 refusal.Form ∷ Faulty 20 refusal.Core ∷ Faulty 20 refusal.Core ∷ Faulty 20 refusal.Row ∷ Faulty 20 refusal.Row ∷ Faulty 20 refusal.Core ∷ Faulty 20 refusal.OpenMark ∷ []
witness_is_that_of_the_next_axiom = refl

-- the rule of a witness need not satisfy the axiom that it is without, and has to satisfy the others: the rule that always chooses a is not neutral
witness_satisfies_the_others : answer symmetric (text_of (take 22 no_symmetric_rule_report ++ codes "ba|ab a" ∷ codes "ba|ba a" ∷ drop 24 no_symmetric_rule_report)) ≡ Faulty 24 (refusal.Fails (codes "neutrality") 2)
witness_satisfies_the_others = refl

surplus_witness_is_form : with_more 30 (codes "without neutrality rule 4" ∷ []) ≡ Faulty 30 refusal.Form
surplus_witness_is_form = refl

end_before_the_last_witness_is_form : map (λ n. with_line n (codes "end")) (20 ∷ 25 ∷ []) ≡ Faulty 20 refusal.Form ∷ Faulty 25 refusal.Form ∷ []
end_before_the_last_witness_is_form = refl

-- ---- numbers of lemmas

lemmas_are_counted_from_1 : map (λ (n, line). with_line n line) ((8, codes "lemmas 0") ∷ (9, codes "lemma 0") ∷ (9, codes "lemma 2") ∷ (9, codes "lemma 01") ∷ (14, codes "lemma 3") ∷ (15, codes "so !a@ab|ba by lemma 0") ∷ []) ≡
    Faulty 8 refusal.Form ∷ Faulty 9 refusal.Form ∷ Faulty 9 refusal.Form ∷ Faulty 9 refusal.Form ∷ Faulty 14 refusal.Form ∷ Faulty 15 refusal.Form ∷ []
lemmas_are_counted_from_1 = refl

-- numbers have no greatest one: no story ends that has so many lemmas
count_of_lemmas_is_not_bounded : with_line 8 (codes "lemmas 99999999999999999999") ≡ Faulty 20 refusal.Form
count_of_lemmas_is_not_bounded = refl

lemma_of_any_number_that_is_not_earlier_is_later : with_line 15 (codes "so !a@ab|ba by lemma 99999999999999999999") ≡ Faulty 15 refusal.Later
lemma_of_any_number_that_is_not_earlier_is_later = refl

one_lemma_too_few_is_supposes : with_line 8 (codes "lemmas 1") ≡ Faulty 10 refusal.Supposes
one_lemma_too_few_is_supposes = refl

-- a lemma whose suppositions exclude one another, steps that nothing needs, a lemma that nothing cites and one without a supposition
untidy_story_is_confirmed : answer symmetric (text_of (
    take 7 no_symmetric_rule_report ++ (codes "lemmas 4"
    ∷ codes "lemma 1" ∷ codes "suppose a@ab|ba" ∷ codes "suppose b@ab|ba" ∷ codes "clash by outcome ab|ba"
    ∷ codes "lemma 2" ∷ codes "suppose a@ab|ba" ∷ codes "so !b@ab|ba by outcome ab|ba" ∷ codes "so a@ba|ab by axiom anonymity ab|ba 1 2 a" ∷ codes "so b@ba|ab by axiom neutrality ab|ba a b a" ∷ codes "clash by outcome ba|ab"
    ∷ codes "lemma 3" ∷ codes "so !a@ab|ba by lemma 2" ∷ codes "so b@ab|ba by outcome ab|ba" ∷ codes "so b@ba|ab by axiom anonymity ab|ba 1 2 b" ∷ codes "so a@ba|ab by axiom neutrality ab|ba a b b" ∷ codes "clash by outcome ba|ab"
    ∷ codes "lemma 4" ∷ codes "clash by lemma 3" ∷ drop 19 no_symmetric_rule_report))) ≡
    Confirmed (Impossible (0 ∷ 1 ∷ []) (record { suppose = Wins 0 1 ∷ Wins 1 1 ∷ []; steps = []; last = ByOutcome 1 }
    ∷ record { suppose = Wins 0 1 ∷ []; steps = step (Loses 1 1) (ByOutcome 1) ∷ a_does_not_win.steps; last = ByOutcome 2 }
    ∷ record { suppose = []; steps = step (Loses 0 1) (ByLemma 1) ∷ drop 1 nothing_wins.steps; last = ByOutcome 2 }
    ∷ record { suppose = []; steps = []; last = ByLemma 2 } ∷ []) (Rule (0 ∷ 0 ∷ 1 ∷ 1 ∷ []) ∷ Rule (0 ∷ 0 ∷ 0 ∷ 0 ∷ []) ∷ []))
untidy_story_is_confirmed = refl

-- ---- whole texts

report_cut_after_any_line_is_form : map (λ k. answer symmetric (text_of (take k no_symmetric_rule_report))) (below 30) ≡ map (λ k. Faulty (k + 1) refusal.Form) (below 30)
report_cut_after_any_line_is_form = refl

-- whatever the last piece says: here the end, and a line that would be `undecided`
last_line_without_its_end_is_form : map (λ (k, line). answer symmetric (text_of (take k no_symmetric_rule_report) ++ line)) ((29, codes "end") ∷ (5, codes "verdict undecided") ∷ []) ≡ Faulty 30 refusal.Form ∷ Faulty 6 refusal.Form ∷ []
last_line_without_its_end_is_form = refl

anything_after_the_end_is_form : map (λ rest. answer symmetric (text_of no_symmetric_rule_report ++ rest)) (codes "end\n" ∷ codes "\n" ∷ codes "x" ∷ codes "a\nb\n" ∷ []) ≡ replicate 4 (Faulty 31 refusal.Form)
anything_after_the_end_is_form = refl

other_version_is_form : map (λ line. with_line 1 line) (
    codes "bench report 0" ∷ codes "bench report 3" ∷ codes "bench report 01" ∷ codes "bench report"
    ∷ codes "bench report 1 1" ∷ []) ≡ replicate 5 (Faulty 1 refusal.Form)
other_version_is_form = refl

-- report 2 says the ballots before the axioms
report_1_under_the_title_of_report_2_is_form : with_line 1 (codes "bench report 2") ≡ Faulty 5 refusal.Form
report_1_under_the_title_of_report_2_is_form = refl

-- a blank at either end, two blanks in a row, a tab, a carriage return, byte 0, a byte past ASCII
other_separator_is_form : map (λ line. with_line 3 line) (codes " voters 2" ∷ codes "voters 2 " ∷ codes "voters  2" ∷ codes "voters\t2" ∷ codes "voters 2\r" ∷ (codes "voters 2" ++ 0 ∷ []) ∷ (codes "voters 2" ++ 194 ∷ 160 ∷ []) ∷ []) ≡ replicate 7 (Faulty 3 refusal.Form)
other_separator_is_form = refl

line_of_5000_bytes_is_form : with_line 12 (replicate 5000 97) ≡ Faulty 12 refusal.Form
line_of_5000_bytes_is_form = refl

-- names of 32 bytes each, with a blank before each, and one more name
abbrev many_names : ℕ → List ℕ
many_names k = codes "axioms" ++ (flat_map (λ name. 32 ∷ name) (replicate 123 (replicate 32 97)) ++ 32 ∷ replicate k 97)

-- without the line end
line_has_4096_bytes_at_most : map {A = ℕ} {B = ℕ × Judgement Verdict Refusal} (λ k. (length (many_names k), with_line 5 (many_names k))) (30 ∷ 31 ∷ []) ≡ (4096, Faulty 5 refusal.StudyDiffers) ∷ (4097, Faulty 5 refusal.Form) ∷ []
line_has_4096_bytes_at_most = refl

-- the report has 106 bytes: the lines are judged that end within the limit, and its last line does only where all is read
abbrev within : ℕ → List (List ℕ) → Judgement Verdict Refusal
within limit lines = answer_within limit unanimous (text_of lines)

report_within_the_limit_is_confirmed : map (λ limit. within limit best_is_chosen) (105 ∷ 106 ∷ 107 ∷ []) ≡ TooLong ∷ Confirmed (Possible (0 ∷ 1 ∷ [])) ∷ Confirmed (Possible (0 ∷ 1 ∷ [])) ∷ []
report_within_the_limit_is_confirmed = refl

-- line 9 is faulty, and ends with byte 102
faulty_line_counts_where_it_ends_within_the_limit : map (λ limit. within limit (slice_set best_is_chosen 8 (codes "ab a"))) (101 ∷ 102 ∷ []) ≡ TooLong ∷ Faulty 9 refusal.Row ∷ []
faulty_line_counts_where_it_ends_within_the_limit = refl

-- ---- studies with one alternative

abbrev one_voter : Question
one_voter = record { size = choice 1 1; conflicts = 100000; axioms = axiom_of (codes "non_dictatorship") non_dictatorship ∷ [] }

-- the one voter dictates
dictatorship_of_one_alternative_is_confirmed : answer one_voter (codes "bench report 1\nkind choice\nvoters 1\nalternatives 1\naxioms non_dictatorship\nverdict impossible\ncore non_dictatorship\nlemmas 1\nlemma 1\nclash by axiom non_dictatorship 1\nwithout non_dictatorship rule 1\na a\nend\n") ≡ Confirmed (Impossible (0 ∷ []) (record { suppose = []; steps = []; last = ByAxiom 0 (0 ∷ []) } ∷ []) (Rule (0 ∷ []) ∷ []))
dictatorship_of_one_alternative_is_confirmed = refl

-- no axioms, and no variables
ranking_of_one_alternative_is_confirmed : answer (record { size = ranked 1 1; conflicts = 100000; axioms = [] }) (codes "bench report 1\nkind ranking\nvoters 1\nalternatives 1\naxioms\nverdict possible\nrule 1\na a\nend\n") ≡ Confirmed (Possible (0 ∷ []))
ranking_of_one_alternative_is_confirmed = refl

-- ---- two voters or three, two alternatives

rule_without_axioms_is_confirmed : answer (record { size = choice 2 2; conflicts = 100000; axioms = [] }) (codes "bench report 1\nkind choice\nvoters 2\nalternatives 2\naxioms\nverdict possible\nrule 4\nab|ab b\nab|ba a\nba|ab a\nba|ba b\nend\n") ≡ Confirmed (Possible (1 ∷ 0 ∷ 0 ∷ 1 ∷ []))
rule_without_axioms_is_confirmed = refl

majority_of_three_voters_is_confirmed : answer (record symmetric { size = choice 3 2 }) (codes "bench report 1\nkind choice\nvoters 3\nalternatives 2\naxioms anonymity neutrality\nverdict possible\nrule 8\nab|ab|ab a\nab|ab|ba a\nab|ba|ab a\nab|ba|ba b\nba|ab|ab a\nba|ab|ba b\nba|ba|ab b\nba|ba|ba b\nend\n") ≡ Confirmed (Possible (0 ∷ 0 ∷ 0 ∷ 1 ∷ 0 ∷ 1 ∷ 1 ∷ 1 ∷ []))
majority_of_three_voters_is_confirmed = refl

-- ---- the Paretian liberal (Sen 1970), for two voters and three alternatives

abbrev liberal : Question
liberal = record { size = choice 2 3; conflicts = 1000; axioms = axiom_of (codes "pareto") pareto ∷ axiom_of (codes "right_one") (right_of 0 0 1) ∷ axiom_of (codes "right_two") (right_of 1 1 2) ∷ [] }

-- at cab|bca the first voter's right excludes b, the second's c, and Pareto a; the marks are open
abbrev no_paretian_liberal : ℕ → Verdict
no_paretian_liberal limit = Impossible (0 ∷ 1 ∷ 2 ∷ []) (record {
  suppose = [];
  steps = step (Loses 1 27) (ByAxiom 1 (27 ∷ [])) ∷ step (Loses 2 27) (ByAxiom 2 (27 ∷ [])) ∷ step (Loses 0 27) (ByAxiom 0 (27 ∷ 2 ∷ 0 ∷ [])) ∷ [];
  last = ByOutcome 27;
} ∷ []) (Open limit ∷ Open 1000 ∷ Open 1000 ∷ [])

paretian_liberal_is_confirmed : answer liberal (codes "bench report 1\nkind choice\nvoters 2\nalternatives 3\naxioms pareto right_one right_two\nverdict impossible\ncore pareto right_one right_two\nlemmas 1\nlemma 1\nso !b@cab|bca by axiom right_one cab|bca\nso !c@cab|bca by axiom right_two cab|bca\nso !a@cab|bca by axiom pareto cab|bca c a\nclash by outcome cab|bca\nwithout pareto open 1000\nwithout right_one open 1000\nwithout right_two open 1000\nend\n") ≡ Confirmed (no_paretian_liberal 1000)
paretian_liberal_is_confirmed = refl

open_mark_with_another_limit_is_open : answer liberal (report_text liberal (no_paretian_liberal 999)) ≡ Faulty 14 refusal.OpenMark
open_mark_with_another_limit_is_open = refl

-- ---- rankings of two alternatives by one voter

-- all p: profile. all x: alt. all y: alt. (all i: voter. prefers(i, x, y, p) -> ranks(x, y, p))
abbrev ranking_pareto : Tree
ranking_pareto = All Profile (All Alt (All Alt (Implies (All Voter (Leaf (Prefers (Var 3) (Var 1) (Var 2) (Var 0)))) (Leaf (Ranks (Var 1) (Var 2) (Var 0))))))

-- all i: voter. some p: profile. some x: alt. some y: alt. (prefers(i, x, y, p) & !ranks(x, y, p))
abbrev no_dictator : Tree
no_dictator = All Voter (Exists Profile (Exists Alt (Exists Alt (Both (Leaf (Prefers (Var 0) (Var 2) (Var 3) (Var 1))) (Not (Leaf (Ranks (Var 2) (Var 3) (Var 1))))))))

abbrev ranking : List Titled → Question
ranking axioms = record { size = ranked 1 2; conflicts = 100000; axioms = axiom_of (codes "pareto") ranking_pareto ∷ axiom_of (codes "independence") independence ∷ axioms }

voters_ranking_is_confirmed : answer (ranking []) (codes "bench report 1\nkind ranking\nvoters 1\nalternatives 2\naxioms pareto independence\nverdict possible\nrule 2\nab ab\nba ba\nend\n") ≡ Confirmed (Possible (0 ∷ 1 ∷ []))
voters_ranking_is_confirmed = refl

-- the first axiom in the order of the study that the table does not satisfy
first_failing_axiom_is_named : map (λ row. answer (ranking (axiom_of (codes "non_dictatorship") no_dictator ∷ [])) (codes "bench report 1\nkind ranking\nvoters 1\nalternatives 2\naxioms pareto independence non_dictatorship\nverdict possible\nrule 2\nab ab\n" ++ (row ++ codes "end\n"))) (codes "ba ba\n" ∷ codes "ba ab\n" ∷ []) ≡
    Faulty 9 (refusal.Fails (codes "non_dictatorship") 0) ∷ Faulty 9 (refusal.Fails (codes "pareto") 6) ∷ []
first_failing_axiom_is_named = refl

abbrev dictated : Question
dictated = record { size = ranked 1 2; conflicts = 100000; axioms = axiom_of (codes "pareto") ranking_pareto ∷ axiom_of (codes "non_dictatorship") no_dictator ∷ [] }

-- by Pareto the ranking is the voter's, who dictates; without Pareto it may always be ab
abbrev voter_dictates : Verdict
voter_dictates = Impossible (0 ∷ 1 ∷ []) (record { suppose = []; steps = step (Above 0 1 0) (ByAxiom 0 (0 ∷ 0 ∷ 1 ∷ [])) ∷ step (Above 1 0 1) (ByAxiom 0 (1 ∷ 1 ∷ 0 ∷ [])) ∷ []; last = ByAxiom 1 (0 ∷ []) } ∷ []) (Rule (0 ∷ 0 ∷ []) ∷ Rule (0 ∷ 1 ∷ []) ∷ [])

abbrev voter_dictates_report : List (List ℕ)
voter_dictates_report =
    codes "bench report 1" ∷ codes "kind ranking" ∷ codes "voters 1" ∷ codes "alternatives 2" ∷ codes "axioms pareto non_dictatorship" ∷ codes "verdict impossible" ∷ codes "core pareto non_dictatorship" ∷ codes "lemmas 1"
    ∷ codes "lemma 1" ∷ codes "so a>b@ab by axiom pareto ab a b" ∷ codes "so b>a@ba by axiom pareto ba b a" ∷ codes "clash by axiom non_dictatorship 1"
    ∷ codes "without pareto rule 2" ∷ codes "ab ab" ∷ codes "ba ab" ∷ codes "without non_dictatorship rule 2" ∷ codes "ab ab" ∷ codes "ba ba" ∷ codes "end" ∷ []

impossibility_of_rankings_has_this_text : report_text dictated voter_dictates ≡ text_of voter_dictates_report
impossibility_of_rankings_has_this_text = refl

impossibility_of_rankings_is_confirmed : answer dictated (text_of voter_dictates_report) ≡ Confirmed voter_dictates
impossibility_of_rankings_is_confirmed = refl

-- an alternative is not compared with itself, and none wins
literal_of_no_ranking_is_form : map (λ literal. answer dictated (text_of (slice_set voter_dictates_report 9 (codes "suppose " ++ literal)))) (codes "a>a@ab" ∷ codes "a>c@ab" ∷ codes "a@ab" ∷ codes "!a>b@ab" ∷ []) ≡ replicate 4 (Faulty 10 refusal.Form)
literal_of_no_ranking_is_form = refl
