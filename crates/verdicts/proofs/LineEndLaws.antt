-- Lines that are given one by one, and the text that has them.
use Rattle.std.proofs.Common.{◌≡◌, ◌∙◌, refl, sym, ap, subst, ℕ, suc, ◌+◌, ◌≤◌, ◌<◌, ◌^◌, true, List, [], ◌∷◌, ◌++◌, map, length, arith, append-nil, length-append}
use Rattle.std.specs.List.{flat_map, list_all}
use Rattle.vocab.specs.Study.{Question, HasFewAxioms}
use Rattle.meaning.specs.declared.stories.Lemma.{Lemma}
use Rattle.verdicts.specs.declared.verdicts.Verdict.{Verdict}
use Rattle.verdicts.specs.declared.verdicts.Verdict.TheVariants.{Possible, Impossible, Undecided}
use Rattle.verdicts.specs.Lines.{Line, SaysImpossible, CoreIs, LemmasAre, End, line_text, name_at}
use Rattle.verdicts.specs.Report.{lemma_count, lemma_lines, story_lines, all_witness_lines, verdict_lines, head_lines, report_lines, IsReport}
use Rattle.verdicts.specs.FirstFault.{Confirmed}
use Rattle.verdicts.specs.Judge.{judge, has_no_end, ended, pieces, front, conclude}
use Rattle.verdicts.specs.Laws.{IsReportable}
use Rattle.verdicts.proofs.WholeTextLaws.{front_snoc, ended_pieces, lines_answered}
use Rattle.verdicts.proofs.ReportLaws.{report_pieces, right_is_confirmed}

-- ---- a report has at least as many lines as lemmas

pub story_fits : (n : ℕ) (story : List Lemma) → length story ≤ length (story_lines n story)
story_fits n [] = omega arith
story_fits n (lemma ∷ story) =
    let rest : length story ≤ length (story_lines (n + 1) story) = story_fits (n + 1) story in
    let all : length (lemma_lines n lemma ++ story_lines (n + 1) story) ≡ length (lemma_lines n lemma) + length (story_lines (n + 1) story) = length-append (lemma_lines n lemma) (story_lines (n + 1) story) in
    let one : 1 ≤ length (lemma_lines n lemma) = heading n lemma in
    omega (arith, rest, all, one)
  where
    heading : (n : ℕ) (lemma : Lemma) → 1 ≤ length (lemma_lines n lemma)
    heading n lemma = omega arith

after_three : (a b c : Line) (lines more : List Line) (n : ℕ) → n ≤ length lines → n ≤ length ((a ∷ b ∷ c ∷ lines) ++ more)
after_three a b c lines more n h =
    let all : length ((a ∷ b ∷ c ∷ lines) ++ more) ≡ length (a ∷ b ∷ c ∷ lines) + length more = length-append (a ∷ b ∷ c ∷ lines) more in
    let front : length (a ∷ b ∷ c ∷ lines) ≡ suc (suc (suc (length lines))) = refl in
    omega (arith, h, all, front)

in_middle : (xs ys zs : List Line) (n : ℕ) → n ≤ length ys → n ≤ length ((xs ++ ys) ++ zs)
in_middle xs ys zs n h =
    let all : length ((xs ++ ys) ++ zs) ≡ length (xs ++ ys) + length zs = length-append (xs ++ ys) zs in
    let front : length (xs ++ ys) ≡ length xs + length ys = length-append xs ys in
    omega (arith, h, all, front)

lemmas_in_lines : (study : Question) (version : ℕ) (verdict : Verdict)
    → lemma_count verdict ≤ length (report_lines study version verdict)
lemmas_in_lines study version (Possible table) = omega arith
lemmas_in_lines study version Undecided = omega arith
lemmas_in_lines study version (Impossible core story witnesses) =
    in_middle (head_lines study version) (verdict_lines study (Impossible core story witnesses)) (End ∷ [])
    (length story)
    (after_three SaysImpossible (CoreIs (map (name_at study.axioms) core)) (LemmasAre (length story)) (story_lines 1 story) (all_witness_lines study core witnesses) (length story) (story_fits 1 story))

-- and at least as many bytes
lines_fit : (study : Question) (lines : List Line) → length lines ≤ length (flat_map (λ line. line_text study line ++ 10 ∷ []) lines)
lines_fit study [] = omega arith
lines_fit study (line ∷ lines) =
    let rest : length lines ≤ length (flat_map (λ line. line_text study line ++ 10 ∷ []) lines) = lines_fit study lines in
    let one : length (line_text study line ++ 10 ∷ []) ≡ length (line_text study line) + 1 = length-append (line_text study line) (10 ∷ []) in
    let all : length ((line_text study line ++ 10 ∷ []) ++ flat_map (λ line. line_text study line ++ 10 ∷ []) lines) ≡ length (line_text study line ++ 10 ∷ []) + length (flat_map (λ line. line_text study line ++ 10 ∷ []) lines) = length-append (line_text study line ++ 10 ∷ []) (flat_map (λ line. line_text study line ++ 10 ∷ []) lines) in
    omega (arith, rest, one, all)

pub lemmas_fit : (study : Question) (text : List ℕ) (verdict : Verdict) → IsReport study verdict text → lemma_count verdict ≤ length text
lemmas_fit study text verdict is =
    let said = report_lines study is.version verdict in
    let lines : length (report_lines study is.version verdict) ≤ length text =
    subst (λ (t : List ℕ). length said ≤ length t) (sym is.is) (lines_fit study said) in
    let lemmas : lemma_count verdict ≤ length (report_lines study is.version verdict) =
    lemmas_in_lines study is.version verdict in
    omega (arith, lines, lemmas)

-- ---- the report of a right verdict, given line by line, is confirmed

module _ (study : Question) (is : IsReportable study) (listed : HasFewAxioms study) (lines : List (List ℕ)) (h : list_all has_no_end lines ≡ true) where
  as_many : (v : Verdict) (r : IsReport study v (ended lines))
      → length lines ≡ length (report_lines study r.version v)
  as_many v r =
      let said = report_lines study r.version v in
      let same : lines ++ [] ∷ [] ≡ map (line_text study) (report_lines study r.version v) ++ [] ∷ [] =
      sym (ended_pieces lines h) ∙ ap pieces (sym (append-nil (ended lines))) ∙ report_pieces study is (ended lines) [] v r in
      ap length (sym (front_snoc lines []) ∙ ap front same ∙ front_snoc (map (line_text study) said) [])
      ∙ map_length said
    where
      map_length : (ls : List Line) → length (map (line_text study) ls) ≡ length ls
      map_length [] = refl
      map_length (l ∷ ls) = ap suc (map_length ls)

  pub lines_complete : (v : Verdict) → IsReport study v (ended lines) → length lines < 2 ^ 64 → conclude (length lines + 1) [] (judge study lines) ≡ Confirmed v
  lines_complete v r few =
      let many : length lines ≡ length (report_lines study r.version v) = as_many v r in
      let lemmas : lemma_count v ≤ length (report_lines study r.version v) =
      lemmas_in_lines study r.version v in
      sym (lines_answered conclude (judge study) lines h) ∙ right_is_confirmed study is listed (ended lines) v r (omega (arith, many, lemmas, few))
