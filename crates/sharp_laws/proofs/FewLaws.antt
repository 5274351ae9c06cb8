-- Each line gives at most one lemma, and a sharp text has at least as many bytes as lemmas.
use Rattle.std.proofs.Common.{◌≡◌, refl, ap, ℕ, suc, ◌+◌, ◌≤◌, Bool, true, false, List, [], ◌∷◌, ◌++◌, map, length, arith, cond, length-append}
use Rattle.std.specs.Prelude.{◌==◌}
use Rattle.std.specs.List.{flat_map}
use Rattle.std.proofs.lemmas.List.{length-map}
use Rattle.vocab.specs.declared.kinds.Sort.TheVariants.{Profile}
use Rattle.vocab.specs.Size.{sort_count}
use Rattle.vocab.specs.Study.{Question}
use Rattle.meaning.specs.declared.cores.Witness.TheVariants.{Rule}
use Rattle.verdicts.specs.declared.refusals.Refusal.TheVariants.{Form}
use Rattle.verdicts.specs.FirstFault.{Good}
use Rattle.verdicts.specs.Lines.{Line, Title, Row, End}
use Rattle.verdicts.specs.Report.{story_lines, head_lines, all_witness_lines, own_version}
use Rattle.verdicts.proofs.CompleteLaws.{told_lines}
use Rattle.verdicts.proofs.FewLaws.{one_lemma}
use Rattle.verdicts.proofs.FirstFaultLaws.{all_read}
use Rattle.verdicts.proofs.LineEndLaws.{story_fits}
use Rattle.sharp_verdicts.specs.declared.refusals.SharpRefusal.TheVariants.{Report}
use Rattle.sharp_verdicts.specs.Right.{Pointed}
use Rattle.sharp_verdicts.specs.SharpLines.{SharpLine, SharpTitle, Plain, InstancesAre, after_first, sharp_line_text, all_mark_lines, story_part, sharp_lines, sharp_text}
use Rattle.sharp_verdicts.specs.SharpPlaces.{SharpPlace, AtNeedRow, AtSharpEnd, SharpStanding, sharp_start, read_sharp_line}
use Rattle.sharp_verdicts.specs.SharpFaults.{sharp_fault}
use Rattle.sharp_verdicts.specs.SharpJudge.{after_mark, advance_plain, advance_sharp, sharp_judge}

-- ---- line by line

module _ (study : Question) where
  abbrev lemmas_of : SharpStanding → ℕ
  lemmas_of s = length s.told.earlier

  same_fits : (m n : ℕ) → m ≡ n → m ≤ n + 1
  same_fits m n e = omega (arith, e)

  row_same : (b : Bool) (s : SharpStanding) → lemmas_of (cond b (after_mark study (record s { marks = s.marks ++ Rule s.rows ∷ [] })) s) ≡ lemmas_of s
  row_same true s = refl
  row_same false s = refl

  one_plain : (p : SharpPlace) (s : SharpStanding) (l : Line) → lemmas_of (advance_plain study p s l) ≤ lemmas_of s + 1
  one_plain AtNeedRow s (Row p o) = same_fits _ _ (row_same (length (s.rows ++ o ∷ []) == sort_count study.size Profile) (record s { rows = s.rows ++ o ∷ [] }))
  one_plain AtSharpEnd s End = same_fits _ _ refl
  one_plain p s l = one_lemma study s.told l

  one_more : (s : SharpStanding) (l : SharpLine) → lemmas_of (advance_sharp study s l) ≤ lemmas_of s + 1
  one_more s SharpTitle = one_lemma study s.told (Title (own_version study))
  one_more s (Plain l) = one_plain s.place s l
  one_more s l = same_fits _ _ refl

  -- a reader whose lemmas are no more than the lines
  abbrev AreFew : SharpStanding → List (List ℕ) → Type 0
  AreFew s lines = lemmas_of s ≤ length lines

  few_next : (s : SharpStanding) (before : List (List ℕ)) (text : List ℕ) (l : SharpLine) → AreFew s before → AreFew (advance_sharp study s l) (before ++ text ∷ [])
  few_next s before text l h = omega (arith, h, one_more s l, length-append before (text ∷ []))

  pub lemmas_few : (lines : List (List ℕ)) (s : SharpStanding) → sharp_judge study lines ≡ Good s → length s.told.earlier ≤ length lines
  lemmas_few lines s e =
      all_read (read_sharp_line study) (sharp_fault study) (Report Form) (advance_sharp study) AreFew (λ s before text l h r f. few_next s before text l h) 1 sharp_start s [] lines (omega arith) e

  -- ---- in a text

  lines_fit : (lines : List SharpLine) → length lines ≤ length (flat_map (λ line. sharp_line_text study line ++ 10 ∷ []) lines)
  lines_fit [] = omega arith
  lines_fit (line ∷ lines) =
      let rest : length lines ≤ length (flat_map (λ line. sharp_line_text study line ++ 10 ∷ []) lines) = lines_fit lines in
      let one : length (sharp_line_text study line ++ 10 ∷ []) ≡ length (sharp_line_text study line) + 1 = length-append (sharp_line_text study line) (10 ∷ []) in
      let all : length ((sharp_line_text study line ++ 10 ∷ []) ++ flat_map (λ line. sharp_line_text study line ++ 10 ∷ []) lines) ≡ length (sharp_line_text study line ++ 10 ∷ []) + length (flat_map (λ line. sharp_line_text study line ++ 10 ∷ []) lines) =
      length-append (sharp_line_text study line ++ 10 ∷ []) (flat_map (λ line. sharp_line_text study line ++ 10 ∷ []) lines) in
      omega (arith, rest, one, all)

  on_right : {A : Type 0} (xs ys : List A) (n : ℕ) → n ≤ length ys → n ≤ length (xs ++ ys)
  on_right xs ys n h = let all : length (xs ++ ys) ≡ length xs + length ys = length-append xs ys in omega (arith, h, all)

  on_left : {A : Type 0} (xs ys : List A) (n : ℕ) → n ≤ length xs → n ≤ length (xs ++ ys)
  on_left xs ys n h = let all : length (xs ++ ys) ≡ length xs + length ys = length-append xs ys in omega (arith, h, all)

  part_fits : (v : Pointed) → length v.story ≤ length (story_part study v)
  part_fits v =
      let told = told_lines study v.core v.story in
      let story : length v.story ≤ length (story_lines 1 v.story) = story_fits 1 v.story in
      let three : length told ≡ suc (suc (suc (length (story_lines 1 v.story)))) = refl in
      on_right (after_first (head_lines study (own_version study))) (told ++ all_witness_lines study v.core []) (length v.story)
      (on_left told (all_witness_lines study v.core []) (length v.story) (omega (arith, story, three)))

  lemmas_in_lines : (v : Pointed) → length v.story ≤ length (sharp_lines study v)
  lemmas_in_lines v =
      let marks = InstancesAre (length v.instances) ∷ all_mark_lines study v.instances v.marks in
      let said = map Plain (story_part study v) in
      let part : length v.story ≤ length (story_part study v) = part_fits v in
      let same : length said ≡ length (story_part study v) = length-map (story_part study v) Plain in
      let first : length (SharpTitle ∷ said) ≡ suc (length said) = refl in
      on_left ((SharpTitle ∷ said) ++ marks) (Plain End ∷ []) (length v.story)
      (on_left (SharpTitle ∷ said) marks (length v.story) (omega (arith, part, same, first)))

  pub lemmas_fit : (v : Pointed) (text : List ℕ) → text ≡ sharp_text study v → length v.story ≤ length text
  lemmas_fit v text e =
      let lines : length (sharp_lines study v) ≤ length (sharp_text study v) = lines_fit (sharp_lines study v) in
      let lemmas : length v.story ≤ length (sharp_lines study v) = lemmas_in_lines v in
      let same : length text ≡ length (sharp_text study v) = ap length e in
      omega (arith, lines, lemmas, same)
