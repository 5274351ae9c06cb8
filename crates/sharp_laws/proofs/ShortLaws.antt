-- No line of a right sharp text is longer than 4,096 bytes: those up to the last lemma are lines of a right report, and the others have at most 17 words of at most 52 bytes each.
use Rattle.std.proofs.Common.{◌≡◌, refl, sym, ap, ◌∙◌, subst, ℕ, ◌+◌, ◌*◌, ◌^◌, ◌<◌, ◌≤◌, Bool, true, false, not, List, [], ◌∷◌, ◌++◌, map, length, arith, cond, append_assoc, append-nil, length-append, le-ltb, eqb-true, inl, inr, None, Option, Some}
use Rattle.std.specs.Prelude.{codes, nat_lt, slice_get}
use Rattle.std.specs.List.{list_all, flat_map}
use Rattle.std.specs.Option.{option_map_or}
use Rattle.std.specs.Cmp.Lexicographic.{pointwise}
use Rattle.std.proofs.lemmas.Bool.{and_parts, and_from}
use Rattle.std.proofs.lemmas.List.{length-map}
use Rattle.vocab.specs.declared.kinds.Sort.TheVariants.{Profile}
use Rattle.vocab.specs.Limits.{instance_count}
use Rattle.vocab.specs.Size.{is_full, sort_count}
use Rattle.vocab.specs.Study.{Question, HasFewAxioms, IsStudy}
use Rattle.vocab.specs.Titled.{Titled}
use Rattle.meaning.specs.declared.cores.Witness.{Witness}
use Rattle.meaning.specs.declared.cores.Witness.TheVariants.{Rule, Open}
use Rattle.meaning.specs.declared.stories.Lemma.{Lemma}
use Rattle.meaning.specs.Space.{below}
use Rattle.meaning.proofs.SpaceLaws.{list_all-map_of, length-up_from}
use Rattle.meaning.proofs.TestLaws.{list_all-both}
use Rattle.verdicts.specs.declared.verdicts.Verdict.TheVariants.{Impossible}
use Rattle.verdicts.specs.Laws.{IsReportable}
use Rattle.verdicts.specs.Lines.{Line, Title, End, value_words, reason_words, sorts_of}
use Rattle.verdicts.specs.Numbers.{number_text}
use Rattle.verdicts.specs.Report.{row_lines, head_lines, all_witness_lines, verdict_lines, own_version}
use Rattle.verdicts.proofs.ReportLaws.{short}
use Rattle.verdicts.proofs.ShortLaws.{within, joined_within, is_short, short_number, few_profiles, values_short, rows_short, name_at_within, few_sorts, report_short}
use Rattle.verdicts.proofs.CompleteLaws.{told_lines}
use Rattle.sharp_verdicts.specs.declared.instances.Cited.{Cited}
use Rattle.sharp_verdicts.specs.Instances.{is_present, is_told, count_at, values_at, all_instances, instances_of}
use Rattle.sharp_verdicts.specs.Right.{Pointed, is_mark, IsSharpRight}
use Rattle.sharp_verdicts.specs.SharpLines.{SharpLine, SharpTitle, Plain, InstancesAre, NeedsRule, NeedsOpen, after_first, sharp_words, sharp_line_text, reason_at, mark_lines, all_mark_lines, story_part, sharp_lines}
use Rattle.sharp_laws.proofs.MarkLaws.{reason_cites, listed_present}
use Rattle.sharp_laws.proofs.RunLaws.{opens, open_is_right, right_places}
use Rattle.verdicts.proofs.PrefixLaws.{no_witness}
use Rattle.vocab.proofs.StudyLaws.{few_at}
use Rattle.lists.proofs.TestLaws.{kept_few, all_left}
use Rattle.lists.proofs.Members.{IsIn}

-- ---- how many instances there are

flat_within : {A B : Type 0} (f : A → List B) (xs : List A) → ((x : A) → length (f x) ≤ 40000000) → length (flat_map f xs) ≤ length xs * 40000000
flat_within f [] h = omega arith
flat_within f (x ∷ xs) h = let rest = flat_within f xs h in let here = h x in omega (arith, rest, here, length-append (f x) (flat_map f xs))

count_within : (study : Question) → IsStudy study → (k : ℕ) → option_map_or (λ (a : Titled). instance_count study.size a.sentence) (slice_get study.axioms k) 0 ≤ 40000000
count_within study is k = by (slice_get study.axioms k) refl
  where
    by : (o : Option Titled) → slice_get study.axioms k ≡ o → option_map_or (λ (a : Titled). instance_count study.size a.sentence) o 0 ≤ 40000000
    by None e = omega arith
    by (Some a) e = few_at study k a is e

module _ (study : Question) (is : IsReportable study) where
  abbrev pub is_sharp_short : SharpLine → Bool
  is_sharp_short l = short (sharp_line_text study l)

  few_instances : HasFewAxioms study → (story : List Lemma) → length (instances_of study story) < 2 ^ 64
  few_instances listed story =
      let all = flat_within (λ k. map (λ n. at k n) (below (count_at study k))) (below (length study.axioms)) counts in
      let axioms : length (below (length study.axioms)) ≡ length study.axioms = length-up_from 0 (length study.axioms) in
      let kept = kept_few (is_told study story) (all_instances study) in
      omega (arith, all, axioms, kept, listed)
    where
      at : ℕ → ℕ → Cited
      at k n = record { «axiom» = k; number = n }

      counts : (k : ℕ) → length (map (λ n. at k n) (below (count_at study k))) ≤ 40000000
      counts k =
          let a : length (map (λ n. at k n) (below (count_at study k))) ≡ length (below (count_at study k)) = length-map (below (count_at study k)) (λ n. at k n) in
          let b : length (below (count_at study k)) ≡ count_at study k = length-up_from 0 (count_at study k) in
          let c : count_at study k ≤ 40000000 = count_within study is.taken k in
          omega (arith, a, b, c)

  few_words : (l : SharpLine) → list_all (within 52) (sharp_words study l) ≡ true → length (sharp_words study l) ≤ 77 → is_sharp_short l ≡ true
  few_words l h k = ap not (le-ltb 4096 (length (sharp_line_text study l)) (omega (arith, joined_within 32 52 (sharp_words study l) h, k)))

  -- ---- marks

  -- the words of an instance and its mark
  need_words : (c : Cited) (key : List ℕ) (n : ℕ) → is_present study c ≡ true → within 52 key ≡ true → n < 2 ^ 64
      → (list_all (within 52) (codes "needs" ∷ after_first (reason_words study (reason_at study c)) ++ key ∷ number_text n ∷ []) ≡ true)
      × (length (codes "needs" ∷ after_first (reason_words study (reason_at study c)) ++ key ∷ number_text n ∷ []) ≤ 77)
  need_words c key n present k few =
      let range = (and_parts (nat_lt c.«axiom» (length study.axioms)) _ (reason_cites study c present).0).1 in
      let v = values_short study is (sorts_of (slice_get study.axioms c.«axiom»)) (values_at study c) range in
      let front = after_first (reason_words study (reason_at study c)) in
      let front_short : list_all (within 52) front ≡ true = and_from _ _ (name_at_within study.axioms is.names c.«axiom») v.0 in
      let some : length (front ++ key ∷ number_text n ∷ []) ≡ length front + 2 = length-append front (key ∷ number_text n ∷ []) in
      let sorts = few_sorts study.size study.axioms is.taken.sentences c.«axiom» in
      let named : length front ≡ length (value_words study (sorts_of (slice_get study.axioms c.«axiom»)) (values_at study c)) + 1 = omega arith in (
        list_all-both (within 52) front (key ∷ number_text n ∷ []) front_short (and_from _ _ k (short_number study is n few)),
        omega (arith, some, v.1, sorts, named),
      )

  mark_short : (whole : List Cited) (c : Cited) (m : Witness) → is_present study c ≡ true → is_mark study whole c m ≡ true → list_all is_sharp_short (mark_lines study c m) ≡ true
  mark_short whole c (Rule table) present h =
      let profiles = sort_count study.size Profile in
      let w = need_words c (codes "rule") profiles present refl (few_profiles study is) in
      and_from _ _ (few_words (NeedsRule (reason_at study c) profiles) w.0 w.1)
      (list_all-map_of (is_short study is) is_sharp_short Plain (row_lines 0 table) (λ l e. e) (rows_short study is 0 table))
  mark_short whole c (Open n) present h =
      let w = need_words c (codes "open") n present refl (omega (arith, eqb-true n study.conflicts h, is.taken.few_conflicts)) in
      and_from _ _ (few_words (NeedsOpen (reason_at study c) n) w.0 w.1) refl

  marks_short : (whole cs : List Cited) (ms : List Witness) → ((c : Cited) → IsIn cs c → is_present study c ≡ true) → pointwise (is_mark study whole) cs ms ≡ true
      → list_all is_sharp_short (all_mark_lines study cs ms) ≡ true
  marks_short whole [] ms present h = refl
  marks_short whole (c ∷ cs) [] present h = refl
  marks_short whole (c ∷ cs) (m ∷ ms) present h =
      let p = and_parts (is_mark study whole c m) (pointwise (is_mark study whole) cs ms) h in
      list_all-both is_sharp_short (mark_lines study c m) (all_mark_lines study cs ms)
      (mark_short whole c m (present c (inl refl)) p.0)
      (marks_short whole cs ms (λ d i. present d (inr i)) p.1)

  -- ---- the story

  few_versions : own_version study < 2 ^ 64
  few_versions = by_test (is_full study.size)
    where
      by_test : (full : Bool) → cond full 1 2 < 2 ^ 64
      by_test true = omega arith
      by_test false = omega arith

  -- the lines up to the last lemma stand in a report
  story_short : HasFewAxioms study → (v : Pointed) → IsSharpRight study v → length v.story < 2 ^ 64 → list_all (is_short study is) (story_part study v) ≡ true
  story_short listed v right few =
      let verdict = Impossible v.core v.story (opens study v.core) in
      let open_right = open_is_right study v.core v.story right.accepted (right_places study is v right) in
      let head = head_lines study (own_version study) in
      let told = told_lines study v.core v.story in
      let witnesses = all_witness_lines study v.core (opens study v.core) in
      let all = report_short study is listed (own_version study) verdict few_versions open_right few in
      let front = all_left (is_short study is) (head ++ verdict_lines study verdict) (End ∷ []) all in
      let part = all_left (is_short study is) (head ++ told) witnesses (subst (λ (ls : List Line). list_all (is_short study is) ls ≡ true) (sym (append_assoc head told witnesses)) front) in
      let rest = (and_parts (is_short study is (Title (own_version study))) (list_all (is_short study is) (after_first head ++ told)) part).1 in
      let same : told ++ all_witness_lines study v.core [] ≡ told = ap (λ ls. told ++ ls) (no_witness study v.core) ∙ append-nil told in
      subst (λ (ls : List Line). list_all (is_short study is) (after_first head ++ ls) ≡ true) (sym same) rest

  -- each line of a right sharp text is short
  pub lines_short : HasFewAxioms study → (v : Pointed) → IsSharpRight study v → length v.story < 2 ^ 64 → list_all is_sharp_short (sharp_lines study v) ≡ true
  lines_short listed v right few =
      let count = length v.instances in
      let few_listed : length v.instances < 2 ^ 64 = subst (λ (cs : List Cited). length cs < 2 ^ 64) (sym right.instances) (few_instances listed v.story) in
      let present : (c : Cited) → IsIn v.instances c → is_present study c ≡ true =
      λ c i. listed_present study v.story c (subst (λ (cs : List Cited). IsIn cs c) right.instances i) in
      let story = list_all-map_of (is_short study is) is_sharp_short Plain (story_part study v) (λ l e. e) (story_short listed v right few) in
      let instances = few_words (InstancesAre count) (short_number study is count few_listed) (omega arith) in
      let marks = marks_short v.instances v.instances v.marks present right.marks in
      list_all-both is_sharp_short ((SharpTitle ∷ map Plain (story_part study v)) ++ InstancesAre count ∷ all_mark_lines study v.instances v.marks) (Plain End ∷ [])
      (list_all-both is_sharp_short (SharpTitle ∷ map Plain (story_part study v)) (InstancesAre count ∷ all_mark_lines study v.instances v.marks)
      (and_from _ _ refl story) (and_from _ _ instances marks)) refl
