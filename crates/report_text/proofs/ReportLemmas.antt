-- The names, the rules and the witnesses of a report, and all of it.
use Rattle.std.proofs.Common.{◌≡◌, refl, sym, ap, ap₂, ◌∙◌, ℕ, zero, suc, ◌+◌, ◌<◌, inl, inr, Bool, true, false, length, List, [], ◌∷◌, ◌++◌, map, drop, get_or, Some, codes, cond, add-one, append-nil, append_assoc, drop-cons, arith}
use Rattle.std.specs.Prelude.{slice_get, slice_index}
use Rattle.std.specs.Cmp.Lexicographic.{pointwise}
use Rattle.std.proofs.lemmas.Bool.{and_parts, cases_lt, false≢true}
use Rattle.std.proofs.lemmas.Grind.{flat_map-append}
use Rattle.std.proofs.lemmas.List.{drop_all}
use Rattle.vocab.specs.declared.kinds.Sort.TheVariants.{Profile}
use Rattle.vocab.specs.Size.{Extent, ballot_places, sort_count}
use Rattle.vocab.specs.Study.{Question}
use Rattle.vocab.specs.Titled.{Titled}
use Rattle.meaning.specs.declared.cores.Witness.{Witness}
use Rattle.meaning.specs.declared.cores.Witness.TheVariants.{Rule, Open}
use Rattle.meaning.specs.declared.stories.Lemma.{Lemma}
use Rattle.meaning.specs.Texts.{kind_text, profile_text, ranking_text, outcome_text}
use Rattle.verdicts.specs.declared.verdicts.Verdict.{Verdict}
use Rattle.verdicts.specs.declared.verdicts.Verdict.TheVariants.{Possible, Impossible, Undecided}
use Rattle.verdicts.specs.Lines.{Line, BallotsAre, AbsentIs, AxiomsAre, End, name_at, title_of}
use Rattle.verdicts.specs.Numbers.{number_text}
use Rattle.verdicts.specs.Report.{row_lines, lemma_lines, story_lines, domain_lines, head_lines, own_version, witness_lines, all_witness_lines, verdict_lines, report_text}
use Rattle.report_text.specs.Pieces.{about_lines, count_text, ended_line, lines_text, spaced, told_lines}
use Rattle.texts.specs.Spelled.{spelled}
use Rattle.report_text.proofs.WordLemmas.{joined_spaced}

-- the item at a place
pub at_item : {X : Type 0} (xs : List X) (i : ℕ) (x : X) → slice_get xs i ≡ Some x → x ≡ get_or xs i x
at_item [] i x e = refl
at_item (y ∷ xs) zero x e = let same : y ≡ x = cc in sym same
at_item (y ∷ xs) (suc i) x e = at_item xs i x e

-- ---- names

pub names_spelled : {X : Type 0} (f : X → List ℕ) (n : ℕ) (xs : List X) → spelled (λ _ x. 32 ∷ f x) n xs ≡ spaced (map f xs)
names_spelled f n [] = refl
names_spelled f n (x ∷ xs) = ap (λ (rest : List ℕ). (32 ∷ f x) ++ rest) (names_spelled f (n + 1) xs)

pub name_there : (axioms : List Titled) (k : ℕ) (a : Titled) → slice_get axioms k ≡ Some a → a.name ≡ name_at axioms k
name_there axioms k a at = sym (ap title_of at)

-- the lines that say which rankings voters may cast and whether they may be absent
pub domain_text : (study : Question) (size : Extent) → study.size ≡ size →
    (codes "ballots" ++ (spelled (λ _ (place : ℕ). 32 ∷ ranking_text size.alternatives place) 0 (ballot_places size) ++ 10 ∷ [])) ++ (codes "absent " ++ (cond study.size.absent (codes "yes") (codes "no") ++ 10 ∷ []))
    ≡ lines_text study (domain_lines study 2)
domain_text study size same =
    let places : List ℕ = ballot_places study.size in
    let texts : List (List ℕ) = map (ranking_text study.size.alternatives) places in
    let absent : List ℕ = ended_line study (AbsentIs study.size.absent) in
    ap (λ (e : Extent). (codes "ballots" ++ (spelled (λ _ (place : ℕ). 32 ∷ ranking_text e.alternatives place) 0 (ballot_places e) ++ 10 ∷ [])) ++ absent) (sym same)
    ∙ ap (λ (words : List ℕ). (codes "ballots" ++ (words ++ 10 ∷ [])) ++ absent) (names_spelled (ranking_text study.size.alternatives) 0 places)
    ∙ ap (λ (words : List ℕ). (words ++ 10 ∷ []) ++ absent) (sym (joined_spaced (codes "ballots") texts))
    ∙ ap (λ (last : List ℕ). ended_line study (BallotsAre places) ++ last) (sym (append-nil absent))

-- version 1 has no such lines
pub no_domain : (study : Question) (full : Bool) → full ≡ true → [] ≡ lines_text study (domain_lines study (cond full 1 2))
no_domain study true h = refl
no_domain study false h = absurd (false≢true h)

-- version 2 has them
pub own_domain : (study : Question) (full : Bool) → full ≡ false → lines_text study (domain_lines study 2) ≡ lines_text study (domain_lines study (cond full 1 2))
own_domain study true h = absurd (false≢true (sym h))
own_domain study false h = refl

-- the lines that say what the study is, after the title
pub about_text : (study : Question) (version : ℕ) →
    (codes "kind " ++ (kind_text study.size.kind ++ 10 ∷ [])) ++ (count_text (codes "voters ") study.size.voters ++ (count_text (codes "alternatives ") study.size.alternatives
    ++ (lines_text study (domain_lines study version) ++ (codes "axioms" ++ (spelled (λ _ (a : Titled). 32 ∷ a.name) 0 study.axioms ++ 10 ∷ [])))))
    ≡ lines_text study (about_lines study version)
about_text study version =
    let names : codes "axioms" ++ (spelled (λ _ (a : Titled). 32 ∷ a.name) 0 study.axioms ++ 10 ∷ []) ≡ lines_text study (AxiomsAre (map (λ (a : Titled). a.name) study.axioms) ∷ [])
    = ap (λ (words : List ℕ). codes "axioms" ++ (words ++ 10 ∷ [])) (names_spelled (λ (a : Titled). a.name) 0 study.axioms)
    ∙ ap (λ (words : List ℕ). words ++ 10 ∷ []) (sym (joined_spaced (codes "axioms") (map (λ (a : Titled). a.name) study.axioms)))
    ∙ sym (append-nil (ended_line study (AxiomsAre (map (λ (a : Titled). a.name) study.axioms)))) in
    ap (λ (rest : List ℕ). (codes "kind " ++ (kind_text study.size.kind ++ 10 ∷ [])) ++ (count_text (codes "voters ") study.size.voters ++ (count_text (codes "alternatives ") study.size.alternatives ++ rest)))
    (ap (λ (last : List ℕ). lines_text study (domain_lines study version) ++ last) names
    ∙ sym (flat_map-append (ended_line study) (domain_lines study version) (AxiomsAre (map (λ (a : Titled). a.name) study.axioms) ∷ [])))

-- the title comes first
pub head_text : (study : Question) (version : ℕ) → count_text (codes "bench report ") version ++ lines_text study (about_lines study version) ≡ lines_text study (head_lines study version)
head_text study version = refl

-- ---- rules

-- the row of a profile with an outcome
abbrev pub row_text : Extent → ℕ → ℕ → List ℕ
row_text size p o = profile_text size p ++ (32 ∷ (outcome_text size o ++ 10 ∷ []))

pub from_zero : (n : ℕ) → n ≡ 0 + n
from_zero n = omega arith

pub row_is : (size : Extent) (p o : ℕ) (profile outcome : List ℕ) → profile ≡ profile_text size p → outcome ≡ outcome_text size o → profile ++ (32 ∷ (outcome ++ 10 ∷ [])) ≡ row_text size (0 + p) o
row_is size p o profile outcome a b = ap₂ (λ (x y : List ℕ). x ++ (32 ∷ (y ++ 10 ∷ []))) a b ∙ ap (λ (n : ℕ). row_text size n o) (from_zero p)

pub rows_spelled : (study : Question) (n : ℕ) (table : List ℕ) → spelled (row_text study.size) n table ≡ lines_text study (row_lines n table)
rows_spelled study n [] = refl
rows_spelled study n (o ∷ table) = ap₂ (λ (a b : List ℕ). a ++ b) (sym (append_assoc (profile_text study.size n) (32 ∷ outcome_text study.size o) (10 ∷ []))) (rows_spelled study (n + 1) table)

module _ (study : Question) (size : Extent) (same : study.size ≡ size) where
  pub rule_witness : (k : ℕ) (table : List ℕ) → codes "without " ++ (name_at study.axioms k ++ (count_text (codes " rule ") (sort_count size Profile) ++ spelled (row_text size) 0 table)) ≡ lines_text study (witness_lines study k (Rule table))
  rule_witness k table =
      let count : List ℕ = codes " rule " ++ number_text (sort_count study.size Profile) in
      let rows : spelled (row_text study.size) 0 table ≡ lines_text study (row_lines 0 table) = rows_spelled study 0 table in
      ap (λ (e : Extent). codes "without " ++ (name_at study.axioms k ++ (count_text (codes " rule ") (sort_count e Profile) ++ spelled (row_text e) 0 table))) (sym same)
      ∙ ap (λ (rest : List ℕ). codes "without " ++ (name_at study.axioms k ++ ((count ++ 10 ∷ []) ++ rest))) rows
      ∙ ap (λ (rest : List ℕ). codes "without " ++ rest) (regroup (name_at study.axioms k) count (10 ∷ []) (lines_text study (row_lines 0 table)))
    where
      regroup : (a b c d : List ℕ) → a ++ ((b ++ c) ++ d) ≡ ((a ++ b) ++ c) ++ d
      regroup a b c d = simp append_assoc

  pub open_witness : (k limit : ℕ) → codes "without " ++ (name_at study.axioms k ++ count_text (codes " open ") limit) ≡ lines_text study (witness_lines study k (Open limit))
  open_witness k limit = ap (λ (rest : List ℕ). codes "without " ++ rest) (regroup (name_at study.axioms k) (codes " open " ++ number_text limit) (10 ∷ []))
    where
      regroup : (a b c : List ℕ) → a ++ (b ++ c) ≡ ((a ++ b) ++ c) ++ []
      regroup a b c = rw (append-nil ((a ++ b) ++ c)) (simp append_assoc)

-- the witness of the axiom of a core at a place
abbrev pub witness_text : Question → List ℕ → ℕ → Witness → List ℕ
witness_text study core i witness = lines_text study (witness_lines study (slice_index core i) witness)

pub no_witness : (study : Question) (core : List ℕ) → [] ≡ lines_text study (all_witness_lines study core [])
no_witness study [] = refl
no_witness study (k ∷ core) = refl

pub witnesses_spelled : (study : Question) (f : ℕ → Witness → Bool) (core : List ℕ) (n : ℕ) (witnesses : List Witness) → pointwise f (drop n core) witnesses ≡ true
    → spelled (witness_text study core) n witnesses ≡ lines_text study (all_witness_lines study (drop n core) witnesses)
witnesses_spelled study f core n [] h = no_witness study (drop n core)
witnesses_spelled study f core n (w ∷ witnesses) h = elim (cases_lt n (length core)) [
  | inl less ↦
      let next : drop n core ≡ slice_index core n ∷ drop (n + 1) core = rw (add-one, drop-cons core n 0) refl in
      let more : pointwise f (drop (n + 1) core) witnesses ≡ true = (and_parts (f (slice_index core n) w) (pointwise f (drop (n + 1) core) witnesses) (rw next at h)).1 in
      ap (λ (rest : List ℕ). witness_text study core n w ++ rest) (witnesses_spelled study f core (n + 1) witnesses more)
      ∙ sym (flat_map-append (ended_line study) (witness_lines study (slice_index core n) w) (all_witness_lines study (drop (n + 1) core) witnesses))
      ∙ ap (λ (left : List ℕ). lines_text study (all_witness_lines study left (w ∷ witnesses))) (sym next)
  | inr past ↦ absurd (false≢true (rw (drop_all n core past) at h))
]

pub witness_there : (f : ℕ → Witness → Bool) (core : List ℕ) (witnesses : List Witness) (i : ℕ) (d : Witness) → pointwise f core witnesses ≡ true → i < length witnesses → f (slice_index core i) (get_or witnesses i d) ≡ true
witness_there f core [] i d h less = absurd (omega arith)
witness_there f [] (w ∷ witnesses) i d h less = absurd (false≢true h)
witness_there f (k ∷ core) (w ∷ witnesses) zero d h less = (and_parts (f k w) (pointwise f core witnesses) h).0
witness_there f (k ∷ core) (w ∷ witnesses) (suc i) d h less = witness_there f core witnesses i d (and_parts (f k w) (pointwise f core witnesses) h).1 (omega arith)

-- ---- reports

-- what the study is, in the version that is printed
abbrev own_head : Question → List Line
own_head study = head_lines study (own_version study)

-- what the study is, the verdict and the end
report_parts : (study : Question) (verdict : Verdict) → report_text study verdict ≡ (lines_text study (own_head study) ++ lines_text study (verdict_lines study verdict)) ++ codes "end\n"
report_parts study verdict =
    flat_map-append (ended_line study) (own_head study ++ verdict_lines study verdict) (End ∷ [])
    ∙ ap (λ (front : List ℕ). front ++ codes "end\n") (flat_map-append (ended_line study) (own_head study) (verdict_lines study verdict))

pub undecided_text : (study : Question) → lines_text study (own_head study) ++ (count_text (codes "verdict undecided\nconflicts ") study.conflicts ++ codes "end\n") ≡ report_text study Undecided
undecided_text study = regroup (lines_text study (own_head study)) (codes "verdict undecided\nconflicts " ++ (number_text study.conflicts ++ 10 ∷ [])) (codes "end\n") ∙ sym (report_parts study Undecided)
  where
    regroup : (a b c : List ℕ) → a ++ (b ++ c) ≡ (a ++ (b ++ [])) ++ c
    regroup a b c = ap (λ (b : List ℕ). a ++ (b ++ c)) (sym (append-nil b)) ∙ sym (append_assoc a (b ++ []) c)

pub possible_text : (study : Question) (size : Extent) → study.size ≡ size → (table : List ℕ) →
    lines_text study (own_head study) ++ (count_text (codes "verdict possible\nrule ") (sort_count size Profile) ++ (spelled (row_text size) 0 table ++ codes "end\n")) ≡ report_text study (Possible table)
possible_text study size same table =
    ap (λ (e : Extent). lines_text study (own_head study) ++ (count_text (codes "verdict possible\nrule ") (sort_count e Profile) ++ (spelled (row_text e) 0 table ++ codes "end\n"))) (sym same)
    ∙ ap (λ (rows : List ℕ). lines_text study (own_head study) ++ (count_text (codes "verdict possible\nrule ") (sort_count study.size Profile) ++ (rows ++ codes "end\n"))) (rows_spelled study 0 table)
    ∙ regroup (lines_text study (own_head study)) (count_text (codes "verdict possible\nrule ") (sort_count study.size Profile)) (lines_text study (row_lines 0 table)) (codes "end\n")
    ∙ sym (report_parts study (Possible table))
  where
    regroup : (a b c d : List ℕ) → a ++ (b ++ (c ++ d)) ≡ (a ++ (b ++ c)) ++ d
    regroup a b c d = simp append_assoc

story_spelled : (study : Question) (n : ℕ) (story : List Lemma) → spelled (λ number lemma. lines_text study (lemma_lines number lemma)) n story ≡ lines_text study (story_lines n story)
story_spelled study n [] = refl
story_spelled study n (lemma ∷ story) =
    ap (λ (rest : List ℕ). lines_text study (lemma_lines n lemma) ++ rest) (story_spelled study (n + 1) story)
    ∙ sym (flat_map-append (ended_line study) (lemma_lines n lemma) (story_lines (n + 1) story))

-- the core, the number of lemmas and the story
claim_parts : (names lemmas story : List ℕ) →
    (codes "verdict impossible\ncore" ++ names) ++ ((10 ∷ lemmas) ++ story) ≡ codes "verdict impossible\n" ++ (((codes "core" ++ names) ++ 10 ∷ []) ++ (lemmas ++ story))
claim_parts names lemmas story = simp append_assoc

pub told_text : (study : Question) (core : List ℕ) (story : List Lemma) →
    (codes "verdict impossible\ncore" ++ spelled (λ _ (k : ℕ). 32 ∷ name_at study.axioms k) 0 core) ++ (count_text (codes "\nlemmas ") (length story) ++ spelled (λ number lemma. lines_text study (lemma_lines number lemma)) 1 story)
    ≡ lines_text study (told_lines study core story)
told_text study core story =
    let names : List ℕ = spaced (map (name_at study.axioms) core) in
    let lemmas : List ℕ = count_text (codes "lemmas ") (length story) in
    let told : List ℕ = lines_text study (story_lines 1 story) in
    ap₂ (λ (a b : List ℕ). (codes "verdict impossible\ncore" ++ a) ++ ((10 ∷ lemmas) ++ b)) (names_spelled (name_at study.axioms) 0 core) (story_spelled study 1 story)
    ∙ claim_parts names lemmas told
    ∙ ap (λ (a : List ℕ). codes "verdict impossible\n" ++ ((a ++ 10 ∷ []) ++ (lemmas ++ told))) (sym (joined_spaced (codes "core") (map (name_at study.axioms) core)))

pub impossible_text : (study : Question) (core : List ℕ) (story : List Lemma) (witnesses : List Witness) →
    (lines_text study (own_head study) ++ lines_text study (told_lines study core story)) ++ (lines_text study (all_witness_lines study core witnesses) ++ codes "end\n")
    ≡ report_text study (Impossible core story witnesses)
impossible_text study core story witnesses =
    let head : List ℕ = lines_text study (own_head study) in
    let told : List ℕ = lines_text study (told_lines study core story) in
    let marks : List ℕ = lines_text study (all_witness_lines study core witnesses) in
    regroup head told marks (codes "end\n")
    ∙ ap (λ (claim : List ℕ). (head ++ claim) ++ codes "end\n") (sym (flat_map-append (ended_line study) (told_lines study core story) (all_witness_lines study core witnesses)))
    ∙ sym (report_parts study (Impossible core story witnesses))
  where
    regroup : (a b c d : List ℕ) → (a ++ b) ++ (c ++ d) ≡ (a ++ (b ++ c)) ++ d
    regroup a b c d = simp append_assoc
