-- Worked examples: the text of a sharp verdict, and the answer to a sharp text, as the definitions compute them.
use Rattle.std.proofs.Common.{◌≡◌, refl, ℕ, ◌-◌, arith, List, [], ◌∷◌, ◌++◌, map, take, true, replicate}
use Rattle.std.specs.Prelude.{codes, slice_set}
use Rattle.std.specs.List.{flat_map}
use Rattle.std.specs.Cmp.Lexicographic.{pointwise}
use Rattle.vocab.specs.declared.literals.Literal.TheVariants.{Wins, Loses}
use Rattle.vocab.specs.Study.{Question}
use Rattle.vocab.specs.Titled.{Titled}
use Rattle.vocab.specs.Tree.{Tree}
use Rattle.meaning.specs.declared.cores.Witness.TheVariants.{Rule, Open}
use Rattle.meaning.specs.declared.stories.Lemma.{Lemma}
use Rattle.meaning.specs.declared.stories.Reason.TheVariants.{Axiom as ByAxiom, Outcome as ByOutcome, Lemma as ByLemma}
use Rattle.meaning.specs.Stories.{is_story}
use Rattle.meaning.proofs.WorkedExamples.{choice, anonymity, neutrality, step}
use Rattle.verdicts.specs.declared.refusals.Refusal.TheVariants as refusal
use Rattle.verdicts.specs.FirstFault.{Judgement, Confirmed, Faulty, TooLong}
use Rattle.verdicts.specs.Judge.{answer}
use Rattle.sharp_verdicts.specs.declared.instances.Cited.{Cited}
use Rattle.sharp_verdicts.specs.declared.refusals.SharpRefusal.{SharpRefusal}
use Rattle.sharp_verdicts.specs.declared.refusals.SharpRefusal.TheVariants.{Report, Instance}
use Rattle.sharp_verdicts.specs.Instances.{instances_of, core_of}
use Rattle.sharp_verdicts.specs.Right.{Pointed, is_mark}
use Rattle.sharp_verdicts.specs.Sharpened.{HaveMarkEvidence}
use Rattle.sharp_verdicts.specs.SharpLines.{sharp_text}
use Rattle.sharp_verdicts.specs.SharpJudge.{sharp_answer, sharp_answer_within}

-- lines, each with its end
abbrev text_of : List (List ℕ) → List ℕ
text_of lines = flat_map (λ line. line ++ 10 ∷ []) lines

abbrev axiom_of : List ℕ → Tree → Titled
axiom_of name f = record { name = name; sentence = f }

-- two voters, two alternatives, anonymity and neutrality
abbrev symmetric : Question
symmetric = record { size = choice 2 2; conflicts = 100000; axioms = axiom_of (codes "anonymity") anonymity ∷ axiom_of (codes "neutrality") neutrality ∷ [] }

-- whichever alternative wins at ab|ba, it wins at ba|ab by the one axiom, and the other does by the other
abbrev one_instance_each : List Lemma
one_instance_each =
    record {
      suppose = Wins 0 1 ∷ [];
      steps = step (Wins 0 2) (ByAxiom 0 (1 ∷ 0 ∷ 1 ∷ 0 ∷ [])) ∷ step (Wins 1 2) (ByAxiom 1 (1 ∷ 0 ∷ 1 ∷ 0 ∷ [])) ∷ [];
      last = ByOutcome 2;
    } ∷ record {
      suppose = [];
      steps = step (Loses 0 1) (ByLemma 0) ∷ step (Loses 0 2) (ByAxiom 0 (1 ∷ 0 ∷ 1 ∷ 0 ∷ [])) ∷ step (Loses 1 2) (ByAxiom 1 (1 ∷ 0 ∷ 1 ∷ 0 ∷ [])) ∷ [];
      last = ByOutcome 2;
    } ∷ []

abbrev instance : ℕ → ℕ → Cited
instance k n = record { «axiom» = k; number = n }

-- a rule without the instance of anonymity, and one without that of neutrality
abbrev two_instances : Pointed
two_instances = record {
  core = 0 ∷ 1 ∷ [];
  story = one_instance_each;
  instances = instance 0 10 ∷ instance 1 10 ∷ [];
  marks = Rule (0 ∷ 0 ∷ 1 ∷ 1 ∷ []) ∷ Rule (0 ∷ 0 ∷ 0 ∷ 0 ∷ []) ∷ [];
}

abbrev two_instances_text : List (List ℕ)
two_instances_text =
    codes "bench sharp 1" ∷ codes "kind choice" ∷ codes "voters 2" ∷ codes "alternatives 2" ∷ codes "axioms anonymity neutrality"
    ∷ codes "verdict impossible" ∷ codes "core anonymity neutrality" ∷ codes "lemmas 2"
    ∷ codes "lemma 1" ∷ codes "suppose a@ab|ba" ∷ codes "so a@ba|ab by axiom anonymity ab|ba 1 2 a" ∷ codes "so b@ba|ab by axiom neutrality ab|ba a b a" ∷ codes "clash by outcome ba|ab"
    ∷ codes "lemma 2" ∷ codes "so !a@ab|ba by lemma 1" ∷ codes "so !a@ba|ab by axiom anonymity ab|ba 1 2 a" ∷ codes "so !b@ba|ab by axiom neutrality ab|ba a b a" ∷ codes "clash by outcome ba|ab"
    ∷ codes "instances 2"
    ∷ codes "needs anonymity ab|ba 1 2 a rule 4" ∷ codes "ab|ab a" ∷ codes "ab|ba a" ∷ codes "ba|ab b" ∷ codes "ba|ba b"
    ∷ codes "needs neutrality ab|ba a b a rule 4" ∷ codes "ab|ab a" ∷ codes "ab|ba a" ∷ codes "ba|ab a" ∷ codes "ba|ba a"
    ∷ codes "end" ∷ []

-- ---- the verdict is right

story_is_accepted : is_story symmetric.size symmetric.axioms (0 ∷ 1 ∷ []) one_instance_each ≡ true
story_is_accepted = refl

core_is_cited : core_of symmetric one_instance_each ≡ 0 ∷ 1 ∷ []
core_is_cited = refl

instances_are_cited : instances_of symmetric one_instance_each ≡ instance 0 10 ∷ instance 1 10 ∷ []
instances_are_cited = refl

marks_are_right : pointwise (is_mark symmetric two_instances.instances) two_instances.instances two_instances.marks ≡ true
marks_are_right = refl

-- ---- its text

sharp_verdict_has_this_text : sharp_text symmetric two_instances ≡ text_of two_instances_text
sharp_verdict_has_this_text = refl

sharp_text_is_confirmed : sharp_answer symmetric (text_of two_instances_text) ≡ Confirmed two_instances
sharp_text_is_confirmed = refl

-- the judge of reports refuses it
sharp_text_is_no_report : answer symmetric (text_of two_instances_text) ≡ Faulty 1 refusal.Form
sharp_text_is_no_report = refl

-- ---- faults

-- the answer where a line of the text, numbered from 1, is another
abbrev with_line : ℕ → List ℕ → Judgement Pointed SharpRefusal
with_line n line = sharp_answer symmetric (text_of (slice_set two_instances_text (n - 1) line))

report_is_no_sharp_text : with_line 1 (codes "bench report 1") ≡ Faulty 1 (Report refusal.Form)
report_is_no_sharp_text = refl

-- anonymity between ab|ba and ba|ab, for a
false_instance_is_named : with_line 28 (codes "ba|ab b") ≡ Faulty 29 (Report (refusal.Fails (codes "anonymity") 10))
false_instance_is_named = refl

other_count_is_instance : map (λ line. with_line 19 line) (codes "instances 3" ∷ codes "instances 1" ∷ codes "instances 0" ∷ []) ≡ replicate 3 (Faulty 19 Instance)
other_count_is_instance = refl

malformed_count_is_form : map (λ line. with_line 19 line) (codes "instances" ∷ codes "instances 02" ∷ codes "without anonymity open 100000" ∷ []) ≡ replicate 3 (Faulty 19 (Report refusal.Form))
malformed_count_is_form = refl

-- an instance that is not the next comes before another number of rows, and both after a line that is malformed
instance_out_of_turn_is_instance : map (λ line. with_line 20 line) (codes "needs neutrality ab|ba a b a rule 4" ∷ codes "needs anonymity ab|ba 1 2 b open 100000" ∷ codes "needs anonymity ab|ba 2 1 a rule 5" ∷ []) ≡ replicate 3 (Faulty 20 Instance)
instance_out_of_turn_is_instance = refl

other_number_of_rows_is_row : with_line 20 (codes "needs anonymity ab|ba 1 2 a rule 5") ≡ Faulty 20 (Report refusal.Row)
other_number_of_rows_is_row = refl

other_limit_is_open : with_line 20 (codes "needs anonymity ab|ba 1 2 a open 99999") ≡ Faulty 20 (Report refusal.OpenMark)
other_limit_is_open = refl

malformed_need_is_form : map (λ line. with_line 20 line) (codes "needs" ∷ codes "needs rule 4" ∷ codes "needs anonymity rule 4" ∷ codes "needs anonymity ab|ba 1 2 rule 4" ∷ codes "needs unanimity ab|ba a rule 4" ∷ codes "needs anonymity ab|ba 1 2 a rule" ∷ codes "needs anonymity ab|ba 1 2 a rule 4 4" ∷ []) ≡ replicate 7 (Faulty 20 (Report refusal.Form))
malformed_need_is_form = refl

row_of_another_profile_is_row : with_line 22 (codes "ab|ab a") ≡ Faulty 22 (Report refusal.Row)
row_of_another_profile_is_row = refl

-- a sharp text says of no rule that it is possible, and an undecided one is refused as a report is
possible_is_form : map (λ line. with_line 6 line) (codes "verdict possible" ∷ codes "verdict undecided" ∷ []) ≡ Faulty 6 (Report refusal.Form) ∷ Faulty 6 (Report refusal.Undecided) ∷ []
possible_is_form = refl

-- the head, the core and the lemmas are judged as in a report
faults_of_the_story_stay : map (λ (n, line). with_line n line) ((3, codes "voters 3") ∷ (7, codes "core neutrality anonymity") ∷ (7, codes "core neutrality") ∷ (12, codes "so !b@ba|ab by axiom neutrality ab|ba a b a") ∷ (15, codes "so !a@ab|ba by lemma 2") ∷ []) ≡
    Faulty 3 (Report refusal.StudyDiffers) ∷ Faulty 7 (Report refusal.Core) ∷ Faulty 11 (Report refusal.NotInCore) ∷ Faulty 12 (Report refusal.NotForced) ∷ Faulty 15 (Report refusal.Later) ∷ []
faults_of_the_story_stay = refl

-- the text has to go on to its end, and nothing follows it
text_ends_once : map (λ n. sharp_answer symmetric (text_of (take n two_instances_text))) (0 ∷ 1 ∷ 18 ∷ 19 ∷ 29 ∷ []) ≡
    Faulty 1 (Report refusal.Form) ∷ Faulty 2 (Report refusal.Form) ∷ Faulty 19 (Report refusal.Form) ∷ Faulty 20 (Report refusal.Form) ∷ Faulty 30 (Report refusal.Form) ∷ []
text_ends_once = refl

more_after_the_end_is_form : map (λ more. sharp_answer symmetric (text_of two_instances_text ++ more)) (codes "end\n" ∷ codes "e" ∷ []) ≡ replicate 2 (Faulty 31 (Report refusal.Form))
more_after_the_end_is_form = refl

-- a core with an axiom that the story does not cite is refused where the story is read
abbrev with_neutrality_twice : Question
with_neutrality_twice = record { size = choice 2 2; conflicts = 100000; axioms = axiom_of (codes "anonymity") anonymity ∷ axiom_of (codes "neutrality") neutrality ∷ axiom_of (codes "again") neutrality ∷ [] }

axiom_that_is_not_cited_is_core : sharp_answer with_neutrality_twice (text_of (slice_set (slice_set two_instances_text 4 (codes "axioms anonymity neutrality again")) 6 (codes "core anonymity neutrality again"))) ≡ Faulty 19 (Report refusal.Core)
axiom_that_is_not_cited_is_core = refl

text_beyond_the_limit_is_too_long : map (λ limit. sharp_answer_within limit symmetric (text_of two_instances_text)) (500 ∷ []) ≡ TooLong ∷ []
text_beyond_the_limit_is_too_long = refl

-- ---- open marks

-- the same story, with open marks alone
abbrev open_marks : Pointed
open_marks = record two_instances { marks = Open 100000 ∷ Open 100000 ∷ [] }

abbrev open_marks_text : List (List ℕ)
open_marks_text =
    take 19 two_instances_text ++ codes "needs anonymity ab|ba 1 2 a open 100000" ∷ codes "needs neutrality ab|ba a b a open 100000" ∷ codes "end" ∷ []

open_marks_have_this_text : sharp_text symmetric open_marks ≡ text_of open_marks_text
open_marks_have_this_text = refl

open_marks_are_confirmed : sharp_answer symmetric (text_of open_marks_text) ≡ Confirmed open_marks
open_marks_are_confirmed = refl

-- a mark for each instance, and no other
other_number_of_marks_is_form : map (λ lines. sharp_answer symmetric (text_of lines)) ((take 20 open_marks_text ++ codes "end" ∷ []) ∷ (take 21 open_marks_text ++ codes "needs neutrality ab|ba a b a open 100000" ∷ codes "end" ∷ []) ∷ []) ≡ Faulty 21 (Report refusal.Form) ∷ Faulty 22 (Report refusal.Form) ∷ []
other_number_of_marks_is_form = refl

-- ---- a size that is not full

-- a voter may be absent
abbrev with_absence : Question
with_absence = record { size = record (choice 2 2) { absent = true }; conflicts = 100000; axioms = axiom_of (codes "anonymity") anonymity ∷ [] }

abbrev head_with : List (List ℕ) → List (List ℕ)
head_with lines = (codes "bench sharp 1" ∷ codes "kind choice" ∷ codes "voters 2" ∷ codes "alternatives 2" ∷ lines) ++ codes "axioms anonymity" ∷ codes "verdict undecided" ∷ []

-- the head says which ballots may be cast and whether voters may be absent exactly where the size is not full
ballots_stand_where_the_size_is_not_full : map (λ lines. sharp_answer with_absence (text_of (head_with lines))) ((codes "ballots ab ba" ∷ codes "absent yes" ∷ []) ∷ (codes "ballots ab ba" ∷ codes "absent no" ∷ []) ∷ [] ∷ []) ≡
    Faulty 8 (Report refusal.Undecided) ∷ Faulty 6 (Report refusal.StudyDiffers) ∷ Faulty 5 (Report refusal.Form) ∷ []
ballots_stand_where_the_size_is_not_full = refl

ballots_do_not_stand_in_a_full_size : sharp_answer symmetric (text_of (head_with (codes "ballots ab ba" ∷ codes "absent no" ∷ []))) ≡ Faulty 5 (Report refusal.Form)
ballots_do_not_stand_in_a_full_size = refl

-- an open mark wants the log of a search without its instance: one that opens them all after no search has none
open_marks_want_logs : (derived : List Cited) → HaveMarkEvidence [] derived open_marks.instances open_marks.instances open_marks.marks → ⊥
open_marks_want_logs derived h = omega (arith, h.0.2)
