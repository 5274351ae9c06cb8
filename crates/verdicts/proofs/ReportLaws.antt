-- The judge confirms the reports of right verdicts and nothing else.
use Rattle.std.proofs.Common.{◌≡◌, refl, sym, ap, ◌∙◌, subst, ℕ, ◌+◌, ◌^◌, ◌<◌, ◌≢◌, inl, inr, Bool, true, false, not, List, [], ◌∷◌, ◌++◌, map, length, Some, None, arith, true≢false, cond, append-nil}
use Rattle.std.specs.Prelude.{nat_lt}
use Rattle.std.specs.List.{list_all}
use Rattle.std.proofs.lemmas.Bool.{and_parts, and_from, cases_lt, not-true}
use Rattle.vocab.specs.Size.{is_full}
use Rattle.vocab.specs.Study.{Question, HasFewAxioms}
use Rattle.verdicts.specs.Texts.{words_of}
use Rattle.verdicts.specs.Lines.{Line, line_text, is_version}
use Rattle.verdicts.specs.declared.verdicts.Verdict.{Verdict}
use Rattle.verdicts.specs.declared.refusals.Refusal.TheVariants.{Form}
use Rattle.verdicts.specs.Report.{lemma_count, report_lines, report_text_in, own_version, report_text, has_text, is_right, is_claim, IsReport, IsSomeReport}
use Rattle.verdicts.specs.Places.{Place, AtNothing, Standing, start, wanted}
use Rattle.verdicts.specs.FirstFault.{Good, Confirmed, Faulty}
use Rattle.verdicts.specs.Judge.{advance, read_line, judge_from, judge, ended, pieces, front, final, at_end, conclude, answer}
use Rattle.verdicts.specs.Laws.{IsReportable, IsVersion, HasShortLines}
use Rattle.verdicts.proofs.RightLaws.{right_has_text}
use Rattle.verdicts.proofs.WordLaws.{lacks, split_ended}
use Rattle.verdicts.proofs.LineLaws.{versions}
use Rattle.verdicts.proofs.FitLaws.{Fits}
use Rattle.verdicts.proofs.ReadLaws.{is_plain, wanted_is, words_are, line_lacks}
use Rattle.verdicts.proofs.JudgeLaws.{ended_map}
use Rattle.verdicts.proofs.CompleteLaws.{Runs, Ends, allowed_known, report_run}
use Rattle.verdicts.proofs.WholeTextLaws.{front_snoc, only_piece, cut_lines, all_answered}
use Rattle.verdicts.proofs.FaultLaws.{past}
use Rattle.verdicts.proofs.ShortLaws.{is_short, report_short}
use Rattle.meaning.proofs.SpaceLaws.{list_all-map_of}
use Rattle.meaning.proofs.TestLaws.{list_all-both}
use Rattle.std.proofs.lemmas.Option.{same_Some}
use Rattle.lists.proofs.TestLaws.{all_left}
use Rattle.lists.proofs.PlaceLaws.{cons_same}
use Rattle.lists.proofs.Members.{IsIn}

abbrev pub short : List ℕ → Bool
short line = not (nat_lt 4096 (length line))

-- the texts of the lines of a report
abbrev texts_of : Question → ℕ → Verdict → List (List ℕ)
texts_of study version v = map (line_text study) (report_lines study version v)

module _ (study : Question) (is : IsReportable study) where
  -- a line that fits is read
  pub line_read : (s : Standing) (l : Line) → Fits study s.place (length s.earlier + 1) l → is_plain l ≡ true → short (line_text study l) ≡ true → read_line study s (line_text study l) ≡ Some l
  line_read s l f p h =
      ap (λ b. cond b None (wanted study s.place (length s.earlier + 1) (words_of (line_text study l)))) (not-true _ h)
      ∙ ap (wanted study s.place (length s.earlier + 1)) (words_are study is l p)
      ∙ wanted_is study is s.place (length s.earlier + 1) l f p

  -- the judge goes along lines without a fault
  judged : (n : ℕ) (s t : Standing) (ls : List Line) (more : List (List ℕ)) → Runs study is true s ls t → list_all short (map (line_text study) ls) ≡ true → (k : ℕ) × (judge_from study n s (map (line_text study) ls ++ more) ≡ judge_from study k t more)
  judged n s t [] more r h = (n, ap (λ u. judge_from study n u more) r)
  judged n s t (l ∷ ls) more r h =
      let p = and_parts (short (line_text study l)) (list_all short (map (line_text study) ls)) h in
      let later = judged (n + 1) (advance study s l) t ls more r.3 p.1 in
      (later.0, past study n s (line_text study l) (map (line_text study) ls ++ more) l (line_read s l r.0 r.1 p.0) (r.2 refl) ∙ later.1)

  pub lines_lack : (b : Bool) (s t : Standing) (ls : List Line) → Runs study is b s ls t → list_all (lacks 10) (map (line_text study) ls) ≡ true
  lines_lack b s t [] r = refl
  lines_lack b s t (l ∷ ls) r = and_from _ _ (line_lacks study is l r.1) (lines_lack b (advance study s l) t ls r.3)

  -- the lines of a report lead to its end
  read_run : (text : List ℕ) (v : Verdict) (r : IsReport study v text) → Ends study is true r.version v
  read_run text v r =
      let known = allowed_known study.size r.version r.allowed in
      report_run study is true r.version known (λ _. r.allowed) v (λ _. r.claims_some) (λ _. r.right)
      (right_has_text study is v r.right)

  -- the pieces of a report with something after it
  pub report_pieces : (text rest : List ℕ) (v : Verdict) (r : IsReport study v text)
      → pieces (text ++ rest) ≡ texts_of study r.version v ++ pieces rest
  report_pieces text rest v r =
      let run = read_run text v r in
      let said = report_lines study r.version v in
      ap (λ t. pieces (t ++ rest)) (r.is ∙ sym (ended_map study said))
      ∙ split_ended 10 (texts_of study r.version v) rest (lines_lack true start run.0 said run.1)

  report_judged : (text : List ℕ) (v : Verdict) (more : List (List ℕ)) (r : IsReport study v text)
      → list_all short (texts_of study r.version v) ≡ true
      → (s : Standing) × (k : ℕ)
      × (judge study (texts_of study r.version v ++ more) ≡ judge_from study k s more)
      × (s.place ≡ AtNothing v)
  report_judged text v more r h =
      let run = read_run text v r in
      let j = judged 1 start run.0 (report_lines study r.version v) more run.1 h in
      (run.0, j.0, j.1, run.2)

  complete : (text : List ℕ) (v : Verdict) → HasShortLines text → IsReport study v text → answer study text ≡ Confirmed v
  complete text v h r =
      let lines = texts_of study r.version v in
      let e : pieces text ≡ texts_of study r.version v ++ [] ∷ [] =
      ap pieces (sym (append-nil text)) ∙ report_pieces text [] v r in
      let short_ones = all_left short lines ([] ∷ []) (ap (list_all short) (sym e) ∙ h) in
      let j = report_judged text v [] r short_ones in
      let n = length lines + 1 in
      all_answered conclude (judge study) text lines e
      ∙ ap (λ xs. conclude n [] (judge study xs)) (sym (append-nil lines))
      ∙ ap (conclude n []) j.2
      ∙ ap (at_end n []) j.3

-- a report whose lines are short
pub judge_complete : (study : Question) → IsReportable study → (text : List ℕ) (v : Verdict) → HasShortLines text → IsReport study v text → answer study text ≡ Confirmed v
judge_complete study is text v h r = complete study is text v h r

module _ (study : Question) (is : IsReportable study) where
  -- one line at a place, if the text is one
  pub same_line : (p : Place) (n : ℕ) (l k : Line) → Fits study p n l → is_plain l ≡ true → Fits study p n k → is_plain k ≡ true → line_text study l ≡ line_text study k → l ≡ k
  same_line p n l k f a g b e =
      let words = sym (words_are study is l a) ∙ ap words_of e ∙ words_are study is k b in
      same_Some l k (sym (wanted_is study is p n l f a) ∙ ap (wanted study p n) words ∙ wanted_is study is p n k g b)

  -- one standing after lines with one text
  same_runs : (s t u : Standing) (ls ks : List Line) → Runs study is false s ls t → Runs study is false s ks u → map (line_text study) ls ≡ map (line_text study) ks → t ≡ u
  same_runs s t u [] [] r q e = sym r ∙ q
  same_runs s t u [] (k ∷ ks) r q e = absurd (cc)
  same_runs s t u (l ∷ ls) [] r q e = absurd (cc)
  same_runs s t u (l ∷ ls) (k ∷ ks) r q e =
      let c = cons_same (line_text study l) (line_text study k) (map (line_text study) ls) (map (line_text study) ks) e in
      let same = same_line s.place (length s.earlier + 1) l k r.0 r.1 q.0 q.1 c.0 in
      same_runs (advance study s k) t u ls ks (subst (λ (x : Line). Runs study is false (advance study s x) ls t) same r.3) q.3 c.1

  same_verdict : (v w : Verdict) → AtNothing v ≡ AtNothing w → v ≡ w
  same_verdict v w e = cc

  -- a verdict that has a text leads to the end, whether or not it is right
  text_run : (version : ℕ) → IsIn versions version → (v : Verdict) → has_text study v ≡ true
      → Ends study is false version v
  text_run version known v h =
      report_run study is false version known (λ t. absurd (true≢false (sym t))) v
      (λ t. absurd (true≢false (sym t))) (λ t. absurd (true≢false (sym t))) h

  distinct : (m n : ℕ) → IsIn versions m → IsIn versions n
      → (v w : Verdict) → has_text study v ≡ true → has_text study w ≡ true
      → report_text_in study m v ≡ report_text_in study n w → (m ≡ n) × (v ≡ w)
  distinct m n known other v w a b e =
      let r = text_run m known v a in
      let q = text_run n other w b in
      let texts = sym (lines_of m v r.0 r.1) ∙ ap (λ text. front (pieces text)) e ∙ lines_of n w q.0 q.1 in
      let same = same_runs start r.0 q.0 (report_lines study m v) (report_lines study n w) r.1 q.1 texts in (
        sym r.3 ∙ ap (λ (s : Standing). s.version) same ∙ q.3,
        same_verdict v w (sym r.2 ∙ ap (λ (s : Standing). s.place) same ∙ q.2),
      )
    where
      lines_of : (m : ℕ) (v : Verdict) (s : Standing) → Runs study is false start (report_lines study m v) s
          → front (pieces (report_text_in study m v)) ≡ texts_of study m v
      lines_of m v s r =
          let said = report_lines study m v in
          let lines = texts_of study m v in
          ap (λ t. front (pieces t)) (sym (ended_map study said) ∙ sym (append-nil (ended lines)))
          ∙ ap front (split_ended 10 lines [] (lines_lack study is false start s said r))
          ∙ front_snoc lines []

pub known_from : (version : ℕ) → IsVersion version → IsIn versions version
known_from version h = elim (cases_lt 1 version) [
  | inl l ↦ inr (inl (omega (arith, l, h.1)))
  | inr le ↦ inl (omega (arith, le, h.0))
]

pub texts_distinct : (study : Question) → IsReportable study → (m n : ℕ) → IsVersion m → IsVersion n
    → (v w : Verdict) → has_text study v ≡ true → has_text study w ≡ true
    → report_text_in study m v ≡ report_text_in study n w → (m ≡ n) × (v ≡ w)
texts_distinct study is m n known other v w a b e =
    distinct study is m n (known_from m known) (known_from n other) v w a b e

module _ (study : Question) (is : IsReportable study) where
  -- nothing fits after the end
  nothing_fits : (p : Place) (n : ℕ) (l : Line) (v : Verdict) → p ≡ AtNothing v → Fits study p n l → ⊥
  nothing_fits p n l v e f = subst (λ q. Fits study q n l) e f

  no_more : (s t u : Standing) (ls ks : List Line) (more : List (List ℕ)) (v : Verdict) → Runs study is false s ls t → Runs study is false s ks u → t.place ≡ AtNothing v → map (line_text study) ls ++ more ≡ map (line_text study) ks → more ≡ []
  no_more s t u [] [] more v r q p e = e
  no_more s t u [] (k ∷ ks) more v r q p e = absurd (nothing_fits s.place (length s.earlier + 1) k v (ap (λ (x : Standing). x.place) r ∙ p) q.0)
  no_more s t u (l ∷ ls) [] more v r q p e = absurd (cc)
  no_more s t u (l ∷ ls) (k ∷ ks) more v r q p e =
      let c = cons_same (line_text study l) (line_text study k) (map (line_text study) ls ++ more) (map (line_text study) ks) e in
      let same = same_line study is s.place (length s.earlier + 1) l k r.0 r.1 q.0 q.1 c.0 in
      no_more (advance study s k) t u ls ks more v (subst (λ (x : Line). Runs study is false (advance study s x) ls t) same r.3) q.3 p c.1

  no_prefix : (m n : ℕ) → IsIn versions m → IsIn versions n
      → (v w : Verdict) (rest : List ℕ) → has_text study v ≡ true → has_text study w ≡ true
      → report_text_in study m v ++ rest ≡ report_text_in study n w → rest ≡ []
  no_prefix m n known other v w rest a b e =
      let r = text_run study is m known v a in
      let q = text_run study is n other w b in
      let left = pieces_of m v rest r.0 r.1 in
      let right = ap pieces (sym (append-nil (report_text_in study n w))) ∙ pieces_of n w [] q.0 q.1 in
      let whole = sym left ∙ ap pieces e ∙ right in
      let left_lines = report_lines study m v in
      let right_lines = report_lines study n w in
      only_piece rest (texts_of study m v) (texts_of study n w) (pieces rest) refl whole
      (λ f. no_more start r.0 q.0 left_lines right_lines (front (pieces rest)) v r.1 q.1 r.2 f)
    where
      pieces_of : (m : ℕ) (v : Verdict) (rest : List ℕ) (s : Standing)
          → Runs study is false start (report_lines study m v) s
          → pieces (report_text_in study m v ++ rest) ≡ texts_of study m v ++ pieces rest
      pieces_of m v rest s r =
          let said = report_lines study m v in
          ap (λ t. pieces (t ++ rest)) (sym (ended_map study said))
          ∙ split_ended 10 (texts_of study m v) rest (lines_lack study is false start s said r)

pub no_confirmed_prefix : (study : Question) → IsReportable study → (text rest : List ℕ) → IsSomeReport study text → IsSomeReport study (text ++ rest) → rest ≡ []
no_confirmed_prefix study is text rest a b =
    let known = allowed_known study.size a.1.version a.1.allowed in
    let other = allowed_known study.size b.1.version b.1.allowed in
    let h = right_has_text study is a.0 a.1.right in
    let k = right_has_text study is b.0 b.1.right in
    no_prefix study is a.1.version b.1.version known other a.0 b.0 rest h k
    (ap (λ t. t ++ rest) (sym a.1.is) ∙ b.1.is)

-- ---- short lines, and reports that are cut

-- a place that is not past the end
at_end_other : (n : ℕ) (rest : List ℕ) (p : Place) → ((v : Verdict) → p ≡ AtNothing v → ⊥) → at_end n rest p ≡ Faulty n Form
at_end_other n (c ∷ rest) p h = refl
at_end_other n [] (AtNothing v) h = absurd (h v refl)
at_end_other n [] p h = refl

few_versions : (version : ℕ) → IsIn versions version → version < 2 ^ 64
few_versions version (inl e) = subst (λ n. n < 2 ^ 64) e (omega arith)
few_versions version (inr (inl e)) = subst (λ n. n < 2 ^ 64) e (omega arith)
few_versions version (inr (inr i)) = absurd i

module _ (study : Question) (is : IsReportable study) where
  shorts : HasFewAxioms study → (version : ℕ) → is_version study.size version ≡ true
      → (v : Verdict) → is_right study v ≡ true → lemma_count v < 2 ^ 64
      → list_all short (texts_of study version v) ≡ true
  shorts listed version allowed v h few =
      let low = few_versions version (allowed_known study.size version allowed) in
      list_all-map_of (is_short study is) short (line_text study) (report_lines study version v) (λ l e. e)
      (report_short study is listed version v low h few)

  lines_short : HasFewAxioms study → (version : ℕ) → is_version study.size version ≡ true
      → (v : Verdict) → is_right study v ≡ true → lemma_count v < 2 ^ 64
      → HasShortLines (report_text_in study version v)
  lines_short listed version allowed v h few =
      let known = allowed_known study.size version allowed in
      let run = text_run study is version known v (right_has_text study is v h) in
      let said = report_lines study version v in
      let lines = texts_of study version v in
      ap (λ t. list_all short (pieces t)) (sym (ended_map study said) ∙ sym (append-nil (ended lines)))
      ∙ ap (list_all short) (split_ended 10 lines [] (lines_lack study is false start run.0 said run.1))
      ∙ list_all-both short lines ([] ∷ []) (shorts listed version allowed v h few) refl

  -- the judge goes along some lines of a report, and wants another
  stops_before : (n : ℕ) (s t : Standing) (ls : List Line) (before : List (List ℕ)) (line : List ℕ) (more : List (List ℕ)) → Runs study is true s ls t → list_all short (map (line_text study) ls) ≡ true → map (line_text study) ls ≡ before ++ line ∷ more →
      (u : Standing) × (judge_from study n s before ≡ Good u) × ((v : Verdict) → u.place ≡ AtNothing v → ⊥)
  stops_before n s t [] [] line more r h e = absurd (cc)
  stops_before n s t [] (b ∷ before) line more r h e = absurd (cc)
  stops_before n s t (l ∷ ls) [] line more r h e = (s, refl, λ v p. nothing_fits study is s.place (length s.earlier + 1) l v p r.0)
  stops_before n s t (l ∷ ls) (b ∷ before) line more r h e =
      let p = and_parts (short (line_text study l)) (list_all short (map (line_text study) ls)) h in
      let c = cons_same (line_text study l) b (map (line_text study) ls) (before ++ line ∷ more) e in
      let later = stops_before (n + 1) (advance study s l) t ls before line more r.3 p.1 c.1 in
      let read = ap (read_line study s) (sym c.0) ∙ line_read study is s l r.0 r.1 p.0 in
      (later.0, past study n s b before l read (r.2 refl) ∙ later.1, later.2)

  cut_here : (v : Verdict) (text rest : List ℕ) (r : IsReport study v (text ++ rest))
      → list_all short (texts_of study r.version v) ≡ true → rest ≢ []
      → answer study text ≡ Faulty (length (pieces text)) Form
  cut_here v text rest r h some =
      let whole = ap pieces (sym (append-nil (text ++ rest))) ∙ report_pieces study is (text ++ rest) [] v r in
      let cut = cut_lines text rest (texts_of study r.version v) whole some in
      let run = read_run study is (text ++ rest) v r in
      let stop = stops_before 1 start run.0 (report_lines study r.version v) (front (pieces text)) cut.0 cut.1 run.1 h cut.2 in
      ap (conclude (length (pieces text)) (final (pieces text))) stop.1
      ∙ at_end_other (length (pieces text)) (final (pieces text)) stop.0.place stop.2

pub right_lines_short : (study : Question) → IsReportable study → HasFewAxioms study
    → (version : ℕ) → is_version study.size version ≡ true
    → (v : Verdict) → is_right study v ≡ true → lemma_count v < 2 ^ 64
    → HasShortLines (report_text_in study version v)
right_lines_short study is listed version allowed v h few = lines_short study is listed version allowed v h few

pub right_is_confirmed : (study : Question) → IsReportable study → HasFewAxioms study
    → (text : List ℕ) (v : Verdict) → IsReport study v text → lemma_count v < 2 ^ 64
    → answer study text ≡ Confirmed v
right_is_confirmed study is listed text v r few =
    let lines = lines_short study is listed r.version r.allowed v r.right few in
    judge_complete study is text v (subst HasShortLines (sym r.is) lines) r

pub cut_is_form : (study : Question) → IsReportable study → HasFewAxioms study
    → (v : Verdict) (text rest : List ℕ) → IsReport study v (text ++ rest)
    → lemma_count v < 2 ^ 64 → rest ≢ []
    → answer study text ≡ Faulty (length (pieces text)) Form
cut_is_form study is listed v text rest r few some =
    let lines = shorts study is listed r.version r.allowed v r.right few in
    cut_here study is v text rest r lines some

-- ---- what is printed

-- the size may have the version that is printed
pub own_allowed : (study : Question) → is_version study.size (own_version study) ≡ true
own_allowed study = by_test (is_full study.size) refl
  where
    by_test : (full : Bool) → is_full study.size ≡ full → is_version study.size (cond full 1 2) ≡ true
    by_test true e = e
    by_test false e = refl

-- what is printed of a right verdict that claims something is its report
pub printed_is_report : (study : Question) (text : List ℕ) (v : Verdict)
    → is_claim study v ≡ true → is_right study v ≡ true → text ≡ report_text study v → IsReport study v text
printed_is_report study text v some right e = record {
  claims_some = some;
  right = right;
  version = own_version study;
  allowed = own_allowed study;
  is = e;
}

pub printed_are_reports : (study : Question) → (is_version study.size (own_version study) ≡ true)
    × ((text : List ℕ) (v : Verdict) → is_claim study v ≡ true → is_right study v ≡ true
    → text ≡ report_text study v → IsReport study v text)
printed_are_reports study = (own_allowed study, printed_is_report study)
