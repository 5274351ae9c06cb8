-- The marks of a sharp text, and all of it.
use Rattle.std.proofs.Common.{◌≡◌, refl, sym, ap, ◌∙◌, ℕ, zero, suc, ◌+◌, ◌<◌, inl, inr, Bool, true, length, List, [], ◌∷◌, ◌++◌, map, drop, get_or, Option, Some, None, codes, add-one, append-nil, append_assoc, drop-cons, arith, ltb-true}
use Rattle.std.specs.Prelude.{nat_lt, slice_get}
use Rattle.std.specs.Cmp.Lexicographic.{pointwise}
use Rattle.std.proofs.lemmas.Bool.{and_parts, and_from, cases_lt, false≢true}
use Rattle.std.proofs.lemmas.Grind.{flat_map-append}
use Rattle.std.proofs.lemmas.List.{drop_all}
use Rattle.std.specs.Option.{option_map_or}
use Rattle.vocab.specs.declared.kinds.Sort.TheVariants.{Profile}
use Rattle.vocab.specs.Limits.{bases_of, instance_count}
use Rattle.vocab.specs.Size.{Extent, sort_count}
use Rattle.vocab.specs.Study.{Question}
use Rattle.vocab.specs.Titled.{Titled}
use Rattle.meaning.specs.declared.cores.Witness.{Witness}
use Rattle.meaning.specs.declared.cores.Witness.TheVariants.{Rule, Open}
use Rattle.meaning.specs.Instances.{instance_values}
use Rattle.meaning.proofs.DigitLaws.{are_one_to_one}
use Rattle.verdicts.specs.declared.verdicts.Verdict.TheVariants.{Impossible}
use Rattle.verdicts.specs.Lines.{Line, End, name_at, sorts_of, value_words}
use Rattle.verdicts.specs.Numbers.{number_text}
use Rattle.verdicts.specs.Report.{row_lines, own_version, all_witness_lines, verdict_lines, is_reason}
use Rattle.verdicts.specs.Texts.{joined_words}
use Rattle.report_text.specs.Pieces.{about_lines, count_text, ended_line, instance_text, lines_text, spaced, told_lines}
use Rattle.report_text.proofs.ReportLemmas.{row_text, rows_spelled, no_witness}
use Rattle.report_text.proofs.WordLemmas.{joined_spaced}
use Rattle.texts.specs.Spelled.{spelled}
use Rattle.sharp_verdicts.specs.declared.instances.Cited.{Cited}
use Rattle.sharp_verdicts.specs.Instances.{count_at, is_present, values_at}
use Rattle.sharp_verdicts.specs.Right.{Pointed}
use Rattle.sharp_verdicts.specs.SharpLines.{SharpLine, SharpTitle, Plain, InstancesAre, NeedsOpen, reason_at, mark_lines, all_mark_lines, story_part, sharp_line_text, sharp_text}
use Rattle.sharp_text.specs.Pieces.{sharp_lines_text}

-- ---- instances

-- the values of an instance that the study has are in range, so a reason can name it
pub present_named : (study : Question) (c : Cited) → is_present study c ≡ true → is_reason study (reason_at study c) ≡ true
present_named study c h =
    let p = and_parts (nat_lt c.«axiom» (length study.axioms)) (nat_lt c.number (count_at study c.«axiom»)) h in
    and_from _ _ p.0 (in_range (slice_get study.axioms c.«axiom») p.1)
  where
    in_range : (o : Option Titled) → nat_lt c.number (option_map_or (λ (a : Titled). instance_count study.size a.sentence) o 0) ≡ true
        → pointwise nat_lt (option_map_or (λ (a : Titled). instance_values study.size a.sentence c.number) o []) (map (sort_count study.size) (sorts_of o)) ≡ true
    in_range None e = refl
    in_range (Some a) e = (are_one_to_one (bases_of study.size a.sentence)).digits c.number (ltb-true c.number (instance_count study.size a.sentence) e)

-- ---- marks

-- an instance and two words after `needs`
need_words : (name : List ℕ) (values : List (List ℕ)) (key word : List ℕ) →
    joined_words (codes "needs" ∷ (name ∷ values) ++ key ∷ word ∷ []) ++ 10 ∷ [] ≡ codes "needs " ++ (joined_words (name ∷ values) ++ (32 ∷ (key ++ (32 ∷ (word ++ 10 ∷ [])))))
need_words name values key word =
    ap (λ (text : List ℕ). text ++ 10 ∷ []) (joined_spaced (codes "needs") ((name ∷ values) ++ key ∷ word ∷ []))
    ∙ ap (λ (rest : List ℕ). (codes "needs " ++ (name ++ rest)) ++ 10 ∷ []) (flat_map-append (λ w. 32 ∷ w) values (key ∷ word ∷ []))
    ∙ ap (λ (rest : List ℕ). codes "needs " ++ rest) (regroup name (spaced values) key word (10 ∷ []))
    ∙ ap (λ (text : List ℕ). codes "needs " ++ (text ++ (32 ∷ (key ++ (32 ∷ (word ++ 10 ∷ [])))))) (sym (joined_spaced name values))
  where
    regroup : (a b c d e : List ℕ) → (a ++ (b ++ (32 ∷ (c ++ (32 ∷ (d ++ [])))))) ++ e ≡ (a ++ b) ++ (32 ∷ (c ++ (32 ∷ (d ++ e))))
    regroup a b c d e = rw (append-nil d) (simp append_assoc)

-- lines that a report may have too
pub plain_lines : (study : Question) (lines : List Line) → sharp_lines_text study (map Plain lines) ≡ lines_text study lines
plain_lines study [] = refl
plain_lines study (line ∷ lines) = ap (λ (rest : List ℕ). ended_line study line ++ rest) (plain_lines study lines)

module _ (study : Question) (size : Extent) (same : study.size ≡ size) where
  pub rule_mark : (c : Cited) (table : List ℕ) →
      codes "needs " ++ (instance_text study c.«axiom» (values_at study c) ++ (count_text (codes " rule ") (sort_count size Profile) ++ spelled (row_text size) 0 table)) ≡ sharp_lines_text study (mark_lines study c (Rule table))
  rule_mark c table =
      let instance : List ℕ = instance_text study c.«axiom» (values_at study c) in
      let count : List ℕ = count_text (codes " rule ") (sort_count study.size Profile) in
      let rows : spelled (row_text study.size) 0 table ≡ sharp_lines_text study (map Plain (row_lines 0 table)) = rows_spelled study 0 table ∙ sym (plain_lines study (row_lines 0 table)) in
      ap (λ (e : Extent). codes "needs " ++ (instance ++ (count_text (codes " rule ") (sort_count e Profile) ++ spelled (row_text e) 0 table))) (sym same)
      ∙ ap (λ (rest : List ℕ). codes "needs " ++ (instance ++ (count ++ rest))) rows
      ∙ ap (λ (rest : List ℕ). codes "needs " ++ rest) (sym (append_assoc instance count (sharp_lines_text study (map Plain (row_lines 0 table)))))
      ∙ ap (λ (line : List ℕ). line ++ sharp_lines_text study (map Plain (row_lines 0 table)))
      (sym (need_words (name_at study.axioms c.«axiom») (value_words study (sorts_of (slice_get study.axioms c.«axiom»)) (values_at study c)) (codes "rule") (number_text (sort_count study.size Profile))))

  pub open_mark : (c : Cited) (limit : ℕ) → codes "needs " ++ (instance_text study c.«axiom» (values_at study c) ++ count_text (codes " open ") limit) ≡ sharp_lines_text study (mark_lines study c (Open limit))
  open_mark c limit =
      sym (need_words (name_at study.axioms c.«axiom») (value_words study (sorts_of (slice_get study.axioms c.«axiom»)) (values_at study c)) (codes "open") (number_text limit))
      ∙ sym (append-nil (sharp_line_text study (NeedsOpen (reason_at study c) limit) ++ 10 ∷ []))

-- the mark of the instance at a place
abbrev pub mark_text : Question → List Cited → ℕ → Witness → List ℕ
mark_text study instances i mark = sharp_lines_text study (mark_lines study (get_or instances i (record { «axiom» = 0; number = 0 })) mark)

no_mark : (study : Question) (instances : List Cited) → [] ≡ sharp_lines_text study (all_mark_lines study instances [])
no_mark study [] = refl
no_mark study (c ∷ instances) = refl

pub marks_spelled : (study : Question) (f : Cited → Witness → Bool) (instances : List Cited) (n : ℕ) (marks : List Witness) → pointwise f (drop n instances) marks ≡ true
    → spelled (mark_text study instances) n marks ≡ sharp_lines_text study (all_mark_lines study (drop n instances) marks)
marks_spelled study f instances n [] h = no_mark study (drop n instances)
marks_spelled study f instances n (m ∷ marks) h = elim (cases_lt n (length instances)) [
  | inl less ↦
      let none : Cited = record { «axiom» = 0; number = 0 } in
      let next : drop n instances ≡ get_or instances n none ∷ drop (n + 1) instances = rw (add-one, drop-cons instances n none) refl in
      let more : pointwise f (drop (n + 1) instances) marks ≡ true = (and_parts (f (get_or instances n none) m) (pointwise f (drop (n + 1) instances) marks) (rw next at h)).1 in
      ap (λ (rest : List ℕ). mark_text study instances n m ++ rest) (marks_spelled study f instances (n + 1) marks more)
      ∙ sym (flat_map-append (λ line. sharp_line_text study line ++ 10 ∷ []) (mark_lines study (get_or instances n none) m) (all_mark_lines study (drop (n + 1) instances) marks))
      ∙ ap (λ (left : List Cited). sharp_lines_text study (all_mark_lines study left (m ∷ marks))) (sym next)
  | inr past ↦ absurd (false≢true (rw (drop_all n instances past) at h))
]

pub mark_there : (f : Cited → Witness → Bool) (instances : List Cited) (marks : List Witness) (i : ℕ) (c : Cited) (d : Witness) → pointwise f instances marks ≡ true → i < length marks → f (get_or instances i c) (get_or marks i d) ≡ true
mark_there f instances [] i c d h less = absurd (omega arith)
mark_there f [] (m ∷ marks) i c d h less = absurd (false≢true h)
mark_there f (k ∷ instances) (m ∷ marks) zero c d h less = (and_parts (f k m) (pointwise f instances marks) h).0
mark_there f (k ∷ instances) (m ∷ marks) (suc i) c d h less = mark_there f instances marks i c d (and_parts (f k m) (pointwise f instances marks) h).1 (omega arith)

-- ---- all of it

-- what the study is after the title, and the story
story_text : (study : Question) (v : Pointed) → lines_text study (about_lines study (own_version study)) ++ lines_text study (told_lines study v.core v.story) ≡ lines_text study (story_part study v)
story_text study v =
    let about : List ℕ = lines_text study (about_lines study (own_version study)) in
    let told : List ℕ = lines_text study (told_lines study v.core v.story) in
    ap (λ (rest : List ℕ). about ++ rest) (sym (append-nil told) ∙ ap (λ (rest : List ℕ). told ++ rest) (no_witness study v.core) ∙ sym (flat_map-append (ended_line study) (told_lines study v.core v.story) (all_witness_lines study v.core [])))
    ∙ sym (flat_map-append (ended_line study) (about_lines study (own_version study)) (verdict_lines study (Impossible v.core v.story [])))

pub sharp_is : (study : Question) (v : Pointed) →
    (codes "bench sharp 1\n" ++ (lines_text study (about_lines study (own_version study)) ++ (lines_text study (told_lines study v.core v.story) ++ count_text (codes "instances ") (length v.instances))))
    ++ (sharp_lines_text study (all_mark_lines study v.instances v.marks) ++ codes "end\n")
    ≡ sharp_text study v
sharp_is study v =
    let about : List ℕ = lines_text study (about_lines study (own_version study)) in
    let told : List ℕ = lines_text study (told_lines study v.core v.story) in
    let count : List ℕ = count_text (codes "instances ") (length v.instances) in
    let marks : List ℕ = sharp_lines_text study (all_mark_lines study v.instances v.marks) in
    let story : List SharpLine = SharpTitle ∷ map Plain (story_part study v) in
    let listed : List SharpLine = InstancesAre (length v.instances) ∷ all_mark_lines study v.instances v.marks in
    let f : SharpLine → List ℕ = λ line. sharp_line_text study line ++ 10 ∷ [] in
    regroup (codes "bench sharp 1\n") about told count marks (codes "end\n")
    ∙ ap (λ (text : List ℕ). ((codes "bench sharp 1\n" ++ text) ++ (count ++ marks)) ++ codes "end\n") (story_text study v ∙ sym (plain_lines study (story_part study v)))
    ∙ ap (λ (text : List ℕ). text ++ codes "end\n") (sym (flat_map-append f story listed))
    ∙ sym (flat_map-append f (story ++ listed) (Plain End ∷ []))
  where
    regroup : (a b c d e f : List ℕ) → (a ++ (b ++ (c ++ d))) ++ (e ++ f) ≡ ((a ++ (b ++ c)) ++ (d ++ e)) ++ f
    regroup a b c d e f = simp append_assoc
