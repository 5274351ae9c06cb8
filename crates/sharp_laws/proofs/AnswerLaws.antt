-- The judge confirms the texts of right sharp verdicts, each of its own verdict, and refuses a text that is cut where it is cut.
use Rattle.std.proofs.Common.{◌≡◌, ◌≢◌, refl, sym, ap, ◌∙◌, subst, ℕ, ◌+◌, ◌^◌, ◌<◌, true, List, [], ◌∷◌, ◌++◌, map, length, Some, arith, append-nil, ◌↔◌, ◌≤◌}
use Rattle.std.specs.List.{list_all}
use Rattle.std.proofs.lemmas.Bool.{and_parts, and_from}
use Rattle.vocab.specs.Study.{Question, HasFewAxioms}
use Rattle.meaning.proofs.SpaceLaws.{list_all-map_of}
use Rattle.meaning.proofs.TestLaws.{list_all-both}
use Rattle.verdicts.specs.declared.refusals.Refusal.TheVariants.{Form}
use Rattle.verdicts.specs.FirstFault.{Good, Confirmed, Faulty}
use Rattle.verdicts.specs.Judge.{pieces, front, final}
use Rattle.verdicts.specs.Laws.{IsReportable, HasShortLines}
use Rattle.verdicts.specs.Places.{Standing}
use Rattle.verdicts.specs.Texts.{words_of}
use Rattle.verdicts.proofs.WordLaws.{lacks, split_ended}
use Rattle.verdicts.proofs.WholeTextLaws.{front_snoc, only_piece, cut_lines, all_answered}
use Rattle.verdicts.proofs.ReportLaws.{short, same_line}
use Rattle.sharp_verdicts.specs.declared.refusals.SharpRefusal.TheVariants.{Report}
use Rattle.sharp_verdicts.specs.Right.{Pointed, IsSharpRight}
use Rattle.sharp_verdicts.specs.SharpLines.{SharpLine, SharpTitle, Plain, sharp_line_text, sharp_lines, sharp_text}
use Rattle.sharp_verdicts.specs.SharpPlaces.{SharpPlace, AtSharp, AtReport, AtInstances, AtNeed, AtNeedRow, AtSharpEnd, AtSharpNothing, SharpStanding, sharp_start, wanted_past, read_sharp_line}
use Rattle.sharp_verdicts.specs.SharpJudge.{advance_sharp, sharp_judge_from, sharp_judge, pointed_of, at_sharp_end, sharp_conclude, sharp_answer, sharp_answer_within}
use Rattle.sharp_laws.specs.Laws.{IsSharpText}
use Rattle.sharp_laws.proofs.FitLaws.{SharpFits}
use Rattle.sharp_laws.proofs.JudgeLaws.{ended_map, judge_sound}
use Rattle.sharp_laws.proofs.TextLaws.{is_sharp_plain, sharp_words_are, sharp_line_lacks, IsPast, wanted_again, line_again}
use Rattle.sharp_laws.proofs.RunLaws.{SharpRuns, whole_run}
use Rattle.sharp_laws.proofs.FaultLaws.{past, within_limit}
use Rattle.sharp_laws.proofs.FewLaws.{lemmas_fit}
use Rattle.sharp_laws.proofs.ShortLaws.{is_sharp_short, lines_short}
use Rattle.std.proofs.lemmas.Option.{same_Some}
use Rattle.lists.proofs.PlaceLaws.{cons_same}

module _ (study : Question) (is : IsReportable study) where
  -- the texts of the lines of a sharp verdict
  abbrev texts_of : Pointed → List (List ℕ)
  texts_of v = map (sharp_line_text study) (sharp_lines study v)

  abbrev Runs : SharpStanding → List SharpLine → SharpStanding → Type 0
  Runs s ls t = SharpRuns study is s ls t

  -- ---- complete

  line_read : (s : SharpStanding) (l : SharpLine) → SharpFits study s.place s.told l → is_sharp_plain l ≡ true → short (sharp_line_text study l) ≡ true → read_sharp_line study s (sharp_line_text study l) ≡ Some l
  line_read s l f p h = line_again study is s.place s.told l f p h

  -- the judge goes along lines without a fault
  judged : (n : ℕ) (s t : SharpStanding) (ls : List SharpLine) (more : List (List ℕ)) → Runs s ls t → list_all short (map (sharp_line_text study) ls) ≡ true
      → (k : ℕ) × (sharp_judge_from study n s (map (sharp_line_text study) ls ++ more) ≡ sharp_judge_from study k t more)
  judged n s t [] more r h = (n, ap (λ u. sharp_judge_from study n u more) r)
  judged n s t (l ∷ ls) more r h =
      let p = and_parts (short (sharp_line_text study l)) (list_all short (map (sharp_line_text study) ls)) h in
      let later = judged (n + 1) (advance_sharp study s l) t ls more r.3 p.1 in
      (later.0, past study n s (sharp_line_text study l) (map (sharp_line_text study) ls ++ more) l (line_read s l r.0 r.1 p.0) r.2 ∙ later.1)

  lines_lack : (s t : SharpStanding) (ls : List SharpLine) → Runs s ls t → list_all (lacks 10) (map (sharp_line_text study) ls) ≡ true
  lines_lack s t [] r = refl
  lines_lack s t (l ∷ ls) r = and_from _ _ (sharp_line_lacks study is l r.1) (lines_lack (advance_sharp study s l) t ls r.3)

  -- the pieces of the text of a right sharp verdict with something after it
  pieces_of : (v : Pointed) (rest : List ℕ) → IsSharpRight study v → pieces (sharp_text study v ++ rest) ≡ texts_of v ++ pieces rest
  pieces_of v rest right =
      let run = whole_run study is v right in
      ap (λ t. pieces (t ++ rest)) (sym (ended_map study (sharp_lines study v)))
      ∙ split_ended 10 (texts_of v) rest (lines_lack sharp_start run.0 (sharp_lines study v) run.1)

  all_pieces : (v : Pointed) → IsSharpRight study v → pieces (sharp_text study v) ≡ texts_of v ++ [] ∷ []
  all_pieces v right = ap pieces (sym (append-nil (sharp_text study v))) ∙ pieces_of v [] right

  shorts : HasFewAxioms study → (v : Pointed) → IsSharpRight study v → length v.story < 2 ^ 64 → list_all short (texts_of v) ≡ true
  shorts listed v right few = list_all-map_of (is_sharp_short study is) short (sharp_line_text study) (sharp_lines study v) (λ l e. e) (lines_short study is listed v right few)

  pub text_short : HasFewAxioms study → (v : Pointed) → IsSharpRight study v → length v.story < 2 ^ 64 → HasShortLines (sharp_text study v)
  text_short listed v right few = ap (list_all short) (all_pieces v right) ∙ list_all-both short (texts_of v) ([] ∷ []) (shorts listed v right few) refl

  confirmed : (v : Pointed) → IsSharpRight study v → list_all short (texts_of v) ≡ true → sharp_answer study (sharp_text study v) ≡ Confirmed v
  confirmed v right h =
      let lines = texts_of v in
      let n = length lines + 1 in
      let run = whole_run study is v right in
      let j = judged 1 sharp_start run.0 (sharp_lines study v) [] run.1 h in
      all_answered (sharp_conclude study) (sharp_judge study) (sharp_text study v) lines (all_pieces v right)
      ∙ ap (λ xs. sharp_conclude study n [] (sharp_judge study xs)) (sym (append-nil lines))
      ∙ ap (sharp_conclude study n []) j.1
      ∙ ap (λ p. at_sharp_end study n [] p run.0) run.2
      ∙ ap Confirmed run.3

  pub judge_complete : HasFewAxioms study → (text : List ℕ) (v : Pointed) → IsSharpText study v text → length v.story < 2 ^ 64 → sharp_answer study text ≡ Confirmed v
  judge_complete listed text v t few = ap (sharp_answer study) t.is ∙ confirmed v t.right (shorts listed v t.right few)

  -- ---- distinct

  -- one line at a place, if the text is one
  same_past : (place : SharpPlace) (told : Standing) (l k : SharpLine) → IsPast place → SharpFits study place told l → is_sharp_plain l ≡ true → SharpFits study place told k → is_sharp_plain k ≡ true
      → sharp_line_text study l ≡ sharp_line_text study k → l ≡ k
  same_past place told l k q f a g b e =
      let words = sym (sharp_words_are study is l a) ∙ ap words_of e ∙ sharp_words_are study is k b in
      same_Some l k (sym (wanted_again study is place told l q f) ∙ ap (wanted_past study place) words ∙ wanted_again study is place told k q g)

  same_at : (place : SharpPlace) (told : Standing) (l k : SharpLine) → SharpFits study place told l → is_sharp_plain l ≡ true → SharpFits study place told k → is_sharp_plain k ≡ true
      → sharp_line_text study l ≡ sharp_line_text study k → l ≡ k
  same_at AtSharp told SharpTitle SharpTitle f a g b e = refl
  same_at AtReport told (Plain l) (Plain k) f a g b e = ap Plain (same_line study is told.place (length told.earlier + 1) l k f.0 a g.0 b e)
  same_at AtInstances told l k f a g b e = same_past AtInstances told l k tt f a g b e
  same_at AtNeed told l k f a g b e = same_past AtNeed told l k tt f a g b e
  same_at AtNeedRow told l k f a g b e = same_past AtNeedRow told l k tt f a g b e
  same_at AtSharpEnd told l k f a g b e = same_past AtSharpEnd told l k tt f a g b e
  same_at AtSharpNothing told l k f a g b e = same_past AtSharpNothing told l k tt f a g b e
  same_at AtSharp told SharpTitle k f a g b e = absurd g
  same_at AtReport told (Plain l) k f a g b e = absurd g
  same_at place told l k f a g b e = absurd f

  -- one standing after lines with one text
  same_runs : (s t u : SharpStanding) (ls ks : List SharpLine) → Runs s ls t → Runs s ks u → map (sharp_line_text study) ls ≡ map (sharp_line_text study) ks → t ≡ u
  same_runs s t u [] [] r q e = sym r ∙ q
  same_runs s t u [] (k ∷ ks) r q e = absurd (cc)
  same_runs s t u (l ∷ ls) [] r q e = absurd (cc)
  same_runs s t u (l ∷ ls) (k ∷ ks) r q e =
      let c = cons_same (sharp_line_text study l) (sharp_line_text study k) (map (sharp_line_text study) ls) (map (sharp_line_text study) ks) e in
      let same = same_at s.place s.told l k r.0 r.1 q.0 q.1 c.0 in
      same_runs (advance_sharp study s k) t u ls ks (subst (λ (x : SharpLine). Runs (advance_sharp study s x) ls t) same r.3) q.3 c.1

  pub distinct : (v w : Pointed) → IsSharpRight study v → IsSharpRight study w → sharp_text study v ≡ sharp_text study w → v ≡ w
  distinct v w right other e =
      let r = whole_run study is v right in
      let q = whole_run study is w other in
      let texts = sym (front_snoc (texts_of v) []) ∙ ap front (sym (all_pieces v right) ∙ ap pieces e ∙ all_pieces w other) ∙ front_snoc (texts_of w) [] in
      let same = same_runs sharp_start r.0 q.0 (sharp_lines study v) (sharp_lines study w) r.1 q.1 texts in
      sym r.3 ∙ ap (pointed_of study) same ∙ q.3

  -- ---- no prefix

  -- nothing fits after the end
  nothing_fits : (p : SharpPlace) (told : Standing) (l : SharpLine) → p ≡ AtSharpNothing → SharpFits study p told l → ⊥
  nothing_fits p told l e f = subst (λ q. SharpFits study q told l) e f

  no_more : (s t u : SharpStanding) (ls ks : List SharpLine) (more : List (List ℕ)) → Runs s ls t → Runs s ks u → t.place ≡ AtSharpNothing
      → map (sharp_line_text study) ls ++ more ≡ map (sharp_line_text study) ks → more ≡ []
  no_more s t u [] [] more r q p e = e
  no_more s t u [] (k ∷ ks) more r q p e = absurd (nothing_fits s.place s.told k (ap (λ (x : SharpStanding). x.place) r ∙ p) q.0)
  no_more s t u (l ∷ ls) [] more r q p e = absurd (cc)
  no_more s t u (l ∷ ls) (k ∷ ks) more r q p e =
      let c = cons_same (sharp_line_text study l) (sharp_line_text study k) (map (sharp_line_text study) ls ++ more) (map (sharp_line_text study) ks) e in
      let same = same_at s.place s.told l k r.0 r.1 q.0 q.1 c.0 in
      no_more (advance_sharp study s k) t u ls ks more (subst (λ (x : SharpLine). Runs (advance_sharp study s x) ls t) same r.3) q.3 p c.1

  no_prefix : (v w : Pointed) (rest : List ℕ) → IsSharpRight study v → IsSharpRight study w → sharp_text study v ++ rest ≡ sharp_text study w → rest ≡ []
  no_prefix v w rest right other e =
      let r = whole_run study is v right in
      let q = whole_run study is w other in
      let whole = sym (pieces_of v rest right) ∙ ap pieces e ∙ all_pieces w other in
      only_piece rest (texts_of v) (texts_of w) (pieces rest) refl whole
      (λ f. no_more sharp_start r.0 q.0 (sharp_lines study v) (sharp_lines study w) (front (pieces rest)) r.1 q.1 r.2 f)

  pub no_confirmed_prefix : (v w : Pointed) (text rest : List ℕ) → sharp_answer study text ≡ Confirmed v → sharp_answer study (text ++ rest) ≡ Confirmed w → rest ≡ []
  no_confirmed_prefix v w text rest a b =
      let t = judge_sound study text v a in
      let u = judge_sound study (text ++ rest) w b in
      no_prefix v w rest t.right u.right (ap (λ x. x ++ rest) (sym t.is) ∙ u.is)

  -- ---- texts that are cut

  -- a place that is not past the end
  at_end_other : (n : ℕ) (rest : List ℕ) (p : SharpPlace) (s : SharpStanding) → (p ≡ AtSharpNothing → ⊥) → at_sharp_end study n rest p s ≡ Faulty n (Report Form)
  at_end_other n (c ∷ rest) p s h = refl
  at_end_other n [] AtSharpNothing s h = absurd (h refl)
  at_end_other n [] p s h = refl

  -- the judge goes along some lines of a sharp text, and wants another
  stops_before : (n : ℕ) (s t : SharpStanding) (ls : List SharpLine) (before : List (List ℕ)) (line : List ℕ) (more : List (List ℕ)) → Runs s ls t
      → list_all short (map (sharp_line_text study) ls) ≡ true → map (sharp_line_text study) ls ≡ before ++ line ∷ more
      → (u : SharpStanding) × (sharp_judge_from study n s before ≡ Good u) × (u.place ≡ AtSharpNothing → ⊥)
  stops_before n s t [] [] line more r h e = absurd (cc)
  stops_before n s t [] (b ∷ before) line more r h e = absurd (cc)
  stops_before n s t (l ∷ ls) [] line more r h e = (s, refl, λ p. nothing_fits s.place s.told l p r.0)
  stops_before n s t (l ∷ ls) (b ∷ before) line more r h e =
      let p = and_parts (short (sharp_line_text study l)) (list_all short (map (sharp_line_text study) ls)) h in
      let c = cons_same (sharp_line_text study l) b (map (sharp_line_text study) ls) (before ++ line ∷ more) e in
      let later = stops_before (n + 1) (advance_sharp study s l) t ls before line more r.3 p.1 c.1 in
      let read = ap (read_sharp_line study s) (sym c.0) ∙ line_read s l r.0 r.1 p.0 in
      (later.0, past study n s b before l read r.2 ∙ later.1, later.2)

  cut_here : (v : Pointed) (text rest : List ℕ) → IsSharpText study v (text ++ rest) → list_all short (texts_of v) ≡ true → rest ≢ []
      → sharp_answer study text ≡ Faulty (length (pieces text)) (Report Form)
  cut_here v text rest t h some =
      let cut = cut_lines text rest (texts_of v) (ap pieces t.is ∙ all_pieces v t.right) some in
      let run = whole_run study is v t.right in
      let stop = stops_before 1 sharp_start run.0 (sharp_lines study v) (front (pieces text)) cut.0 cut.1 run.1 h cut.2 in
      ap (sharp_conclude study (length (pieces text)) (final (pieces text))) stop.1
      ∙ at_end_other (length (pieces text)) (final (pieces text)) stop.0.place stop.0 stop.2

  pub cut_is_form : HasFewAxioms study → (v : Pointed) (text rest : List ℕ) → IsSharpText study v (text ++ rest) → length v.story < 2 ^ 64 → rest ≢ []
      → sharp_answer study text ≡ Faulty (length (pieces text)) (Report Form)
  cut_is_form listed v text rest t few some = cut_here v text rest t (shorts listed v t.right few) some

-- where at most so many bytes are read, exactly the texts of right sharp verdicts that have no more are confirmed
pub texts_confirmed : (limit : ℕ) (study : Question) → IsReportable study → HasFewAxioms study → limit < 2 ^ 64 → (text : List ℕ) (v : Pointed)
    → (sharp_answer_within limit study text ≡ Confirmed v) ↔ ((length text ≤ limit) × IsSharpText study v text)
texts_confirmed limit study is listed low text v = (
  λ e. let r = (within_limit limit study text v).0 e in (r.0, judge_sound study text v r.1),
  λ h.
      let lemmas : length v.story ≤ length text = lemmas_fit study v text h.1.is in
      let few : length v.story < 2 ^ 64 = omega (arith, lemmas, h.0, low) in
      (within_limit limit study text v).1 (h.0, judge_complete study is listed text v h.1 few),
)
