-- The words of a line that can stand at a place are read as that line there.
use Rattle.std.proofs.Common.{◌≡◌, refl, sym, ap, ◌∙◌, subst, ℕ, zero, suc, ◌+◌, ◌-◌, ◌<◌, ◌≤◌, inl, inr, Bool, true, false, not, ◌&&◌, List, [], ◌∷◌, ◌++◌, map, length, Option, Some, None, option_map, option_and_then, arith, true≢false, lt-ltb, ltb-true, cond}
use Rattle.std.specs.Prelude.{◌==◌, nat_lt, slice_get, codes}
use Rattle.std.specs.List.{list_all, flat_map}
use Rattle.std.specs.Cmp.Lexicographic.{pointwise}
use Rattle.std.proofs.lemmas.Bool.{and_parts, and_from, not-true}
use Rattle.std.proofs.lemmas.Slice.Eq.{bytes_eq-Decides}
use Rattle.vocab.specs.declared.kinds.Kind.{Kind}
use Rattle.vocab.specs.declared.kinds.Kind.TheVariants.{Choice, Ranking, Sets}
use Rattle.vocab.specs.declared.kinds.Sort.{Sort}
use Rattle.vocab.specs.declared.kinds.Sort.TheVariants.{Profile}
use Rattle.vocab.specs.declared.literals.Literal.{Literal}
use Rattle.vocab.specs.declared.literals.Literal.TheVariants.{Wins, Loses, Above}
use Rattle.vocab.specs.Literal.{profile_of}
use Rattle.vocab.specs.Name.{is_name}
use Rattle.vocab.specs.Size.{Extent, IsSize, factorial, sort_count, outcome_count}
use Rattle.vocab.specs.Study.{Question}
use Rattle.vocab.specs.Titled.{Titled}
use Rattle.meaning.specs.Space.{below, ranking}
use Rattle.meaning.specs.Literals.{is_literal, is_literal_of, is_of_winner}
use Rattle.meaning.specs.declared.stories.Reason.{Reason}
use Rattle.meaning.specs.declared.stories.Reason.TheVariants.{Axiom as ByAxiom, Outcome as ByOutcome, Lemma as ByLemma}
use Rattle.verdicts.specs.Numbers.{number_text}
use Rattle.verdicts.specs.Texts.{words_of, joined_words, value_text, literal_text, literals, literals_at, read_kind, winners_at, read_profile, read_outcome, read_value, read_literal}
use Rattle.meaning.specs.Texts.{kind_text, profile_text, outcome_text, ranking_text}
use Rattle.verdicts.specs.Lines.{Line, Title, KindIs, VotersAre, AlternativesAre, BallotsAre, AbsentIs, AxiomsAre, SaysPossible, SaysImpossible, SaysUndecided, LimitIs, RuleOf, Row, CoreIs, LemmasAre, Heading, Suppose, So, Clash, WithRule, WithOpen, End, name_at, sorts_of, value_words, reason_words, line_words, line_text}
use Rattle.verdicts.specs.Reading.{read_axiom, read_positive, read_version, read_place, read_places, read_absent, keyed, names, read_values, read_cited, read_reason, read_step}
use Rattle.std.specs.Option.{option_or}
use Rattle.verdicts.specs.Report.{is_reason}
use Rattle.verdicts.specs.Laws.{IsReportable}
use Rattle.verdicts.specs.Places.{Place, AtTitle, AtKind, AtVoters, AtAlternatives, AtBallots, AtAbsent, AtAxioms, AtVerdict, AtLimit, AtRule, AtRow, AtCore, AtLemmas, AtLemma, AtSuppose, AtStep, AtWitness, AtWitnessRow, AtEnd, wanted}
use Rattle.verdicts.proofs.NumberLaws.{read_text}
use Rattle.verdicts.proofs.WordLaws.{named_text, named_below, in_below, lacks, split_joined}
use Rattle.verdicts.proofs.LineLaws.{versions, absent_text}
use Rattle.verdicts.proofs.FitLaws.{Fits, are_places, ArePlaces, literal_in}
use Rattle.verdicts.proofs.TextLaws.{is_word, word_lacks, letters_word, numbers_same, number_word, name_word, profile_word, outcome_word_of, value_word, literal_word, rankings_same, profiles_same, outcomes_same, values_same, literals_same, names_own}
use Rattle.lists.proofs.Members.{flat_map_in, IsIn}

test_true : {A : Type 0} (b : Bool) (o : Option A) (a : A) → b ≡ true → o ≡ Some a → cond b o None ≡ Some a
test_true b o a h e = ap (λ c. cond c o None) h ∙ e

or_first : {A : Type 0} (o p : Option A) (a : A) → o ≡ Some a → option_or o p ≡ Some a
or_first o p a e = ap (λ q. option_or q p) e

module _ (size : Extent) where
  in_winners_at : (l : Literal) → is_of_winner size l ≡ true → IsIn (winners_at size (profile_of l)) l × (profile_of l < sort_count size Profile)
  in_winners_at (Wins x p) e =
      let q = and_parts (nat_lt x size.alternatives) (nat_lt p (sort_count size Profile)) e in
      (flat_map_in (λ x. Wins x p ∷ Loses x p ∷ []) (below size.alternatives) x (Wins x p) (in_below _ x (ltb-true x _ q.0)) (inl refl), ltb-true p _ q.1)
  in_winners_at (Loses x p) e =
      let q = and_parts (nat_lt x size.alternatives) (nat_lt p (sort_count size Profile)) e in
      (flat_map_in (λ x. Wins x p ∷ Loses x p ∷ []) (below size.alternatives) x (Loses x p) (in_below _ x (ltb-true x _ q.0)) (inr (inl refl)), ltb-true p _ q.1)
  in_winners_at (Above x y p) e = absurd (true≢false (sym e))

  in_literals_at : (k : Kind) (l : Literal) → is_literal_of size k l ≡ true → IsIn (literals_at size k (profile_of l)) l × (profile_of l < sort_count size Profile)
  in_literals_at Choice l e = in_winners_at l e
  in_literals_at Ranking (Above x y p) e =
      let q = and_parts (nat_lt x size.alternatives && nat_lt y size.alternatives && not (x == y)) (nat_lt p (sort_count size Profile)) e in
      let r = and_parts (nat_lt x size.alternatives && nat_lt y size.alternatives) (not (x == y)) q.0 in
      let s = and_parts (nat_lt x size.alternatives) (nat_lt y size.alternatives) r.0 in
      let here : IsIn (cond (x == y) [] (Above x y p ∷ [])) (Above x y p) = subst (λ b. IsIn (cond b [] (Above x y p ∷ [])) (Above x y p)) (sym (not-true (x == y) r.1)) (inl refl) in (
        flat_map_in (λ x. flat_map (λ y. cond (x == y) [] (Above x y p ∷ [])) (below size.alternatives)) (below size.alternatives) x (Above x y p) (in_below _ x (ltb-true x _ s.0))
            (flat_map_in (λ y. cond (x == y) [] (Above x y p ∷ [])) (below size.alternatives) y (Above x y p) (in_below _ y (ltb-true y _ s.1)) here),
        ltb-true p _ q.1,
      )
  in_literals_at Ranking (Wins x p) e = absurd (true≢false (sym e))
  in_literals_at Ranking (Loses x p) e = absurd (true≢false (sym e))
  in_literals_at Sets l e = in_winners_at l e

  pub in_literals : (l : Literal) → is_literal size l ≡ true → IsIn (literals size) l × (profile_of l < sort_count size Profile)
  in_literals l e =
      let r = in_literals_at size.kind l e in
      (flat_map_in (literals_at size size.kind) (below (sort_count size Profile)) (profile_of l) l (in_below _ (profile_of l) r.1) r.0, r.1)

  pub literal_read : IsSize size → (l : Literal) → is_literal size l ≡ true → read_literal size (literal_text size l) ≡ Some l
  literal_read is l e =
      let i = in_literals l e in
      named_text (literal_text size) (literals size) l (λ k j same. literals_same size is k l (in_literals k (literal_in size k j)).1 i.1 same) i.0

-- names that are names
abbrev pub is_plain : Line → Bool
is_plain (AxiomsAre ns) = list_all is_name ns
is_plain (CoreIs ns) = list_all is_name ns
is_plain (WithRule name n) = is_name name
is_plain (WithOpen name n) = is_name name
is_plain _ = true

module _ (study : Question) (is : IsReportable study) where
  profile_read : (p : ℕ) → p < sort_count study.size Profile → read_profile study.size (profile_text study.size p) ≡ Some p
  profile_read p h = named_below (profile_text study.size) _ p (λ q l e. profiles_same study.size is.size q p l h e) h

  outcome_read : (o : ℕ) → o < outcome_count study.size.kind study.size.alternatives → read_outcome study.size (outcome_text study.size o) ≡ Some o
  outcome_read o h = named_below (outcome_text study.size) _ o (λ q l e. outcomes_same study.size is.size q o l h e) h

  values_read : (sorts : List Sort) (values : List ℕ) → pointwise nat_lt values (map (sort_count study.size) sorts) ≡ true → read_values study sorts (value_words study sorts values) ≡ Some values
  values_read [] [] h = refl
  values_read [] (v ∷ values) h = absurd (true≢false (sym h))
  values_read (s ∷ sorts) [] h = absurd (true≢false (sym h))
  values_read (s ∷ sorts) (v ∷ values) h =
      let p = and_parts (nat_lt v (sort_count study.size s)) (pointwise nat_lt values (map (sort_count study.size) sorts)) h in
      let l = ltb-true v (sort_count study.size s) p.0 in
      let r : read_value study.size s (value_text study.size s v) ≡ Some v = named_below (value_text study.size s) _ v (λ q i e. values_same study.size is.size s q v i l e) l in
      ap (option_and_then (λ v. option_map (λ values. v ∷ values) (read_values study sorts (value_words study sorts values)))) r
      ∙ ap (option_map (λ values. v ∷ values)) (values_read sorts values p.1)

  positive_read : (n : ℕ) → 0 < n → read_positive (number_text n) ≡ Some n
  positive_read n h = ap (option_and_then (λ n. cond (nat_lt 0 n) (Some n) None)) (read_text n) ∙ ap (λ b. cond b (Some n) None) (lt-ltb 0 n h)

  pub reason_read : (r : Reason) → is_reason study r ≡ true → read_reason study (reason_words study r) ≡ Some r
  reason_read (ByAxiom k values) h =
      let p = and_parts (nat_lt k (length study.axioms)) _ h in
      let l = ltb-true k (length study.axioms) p.0 in
      let a : read_axiom study.axioms (name_at study.axioms k) ≡ Some k = named_below (name_at study.axioms) _ k (λ j i e. names_own study.axioms is.taken.own_names j k i l e) l in
      let c : read_cited study (name_at study.axioms k ∷ value_words study (sorts_of (slice_get study.axioms k)) values) ≡ Some (ByAxiom k values) =
      ap (option_and_then (λ k. option_map (ByAxiom k) (read_values study (sorts_of (slice_get study.axioms k)) _))) a
      ∙ ap (option_map (ByAxiom k)) (values_read (sorts_of (slice_get study.axioms k)) values p.1) in
      or_first _ _ (ByAxiom k values) c
  reason_read (ByOutcome p) h = or_first _ _ (ByOutcome p) (ap (option_map ByOutcome) (profile_read p (ltb-true p _ h)))
  reason_read (ByLemma j) h = ap (option_map (λ j. ByLemma (j - 1))) (positive_read (j + 1) (omega arith)) ∙ ap (λ i. Some (ByLemma i)) (back j)
    where
      back : (j : ℕ) → j + 1 - 1 ≡ j
      back j = omega arith

  so_read : (l : Literal) (r : Reason) → is_literal study.size l ≡ true → is_reason study r ≡ true → read_step study (line_words study (So l r)) ≡ Some (So l r)
  so_read l r h k =
      or_first _ _ (So l r) (ap (option_and_then (λ l. option_map (So l) (keyed (codes "by") (read_reason study) (codes "by" ∷ reason_words study r)))) (literal_read study.size is.size l h)
      ∙ ap (option_map (So l)) (reason_read r k))

  clash_read : (r : Reason) → is_reason study r ≡ true → read_step study (line_words study (Clash r)) ≡ Some (Clash r)
  clash_read r k = ap (option_map Clash) (reason_read r k)

  names_read : (ns : List (List ℕ)) → list_all is_name ns ≡ true → names ns ≡ Some ns
  names_read ns h = ap (λ b. cond b (Some ns) None) h

  row_read : (p o : ℕ) → p < sort_count study.size Profile → o < outcome_count study.size.kind study.size.alternatives → option_and_then (λ p. option_map (Row p) (read_outcome study.size (outcome_text study.size o))) (read_profile study.size (profile_text study.size p)) ≡ Some (Row p o)
  row_read p o h k = ap (option_and_then (λ p. option_map (Row p) (read_outcome study.size (outcome_text study.size o)))) (profile_read p h) ∙ ap (option_map (Row p)) (outcome_read o k)

  kind_read : (k : Kind) → read_kind (kind_text k) ≡ Some k
  kind_read Choice = refl
  kind_read Ranking = refl
  kind_read Sets = refl

  version_read : (version : ℕ) → IsIn versions version → read_version (number_text version) ≡ Some version
  version_read version i =
      named_text number_text versions version (λ other _ e. numbers_same other version e) i

  -- the alternatives
  abbrev m : ℕ
  m = study.size.alternatives

  place_read : (place : ℕ) → nat_lt place (factorial m) ≡ true
      → read_place m (ranking_text m place) ≡ Some place
  place_read place h =
      let l = ltb-true place (factorial m) h in
      named_below (ranking_text m) (factorial m) place
      (λ q i e. rankings_same study.size is.size q place i l e) l

  places_read : (places : List ℕ) → ArePlaces m places
      → read_places m (map (ranking_text m) places) ≡ Some places
  places_read [] h = absurd (omega (arith, h.0))
  places_read (p ∷ []) h =
      ap (option_map (λ place. place ∷ [])) (place_read p (and_parts (nat_lt p (factorial m)) true h.1).0)
  places_read (p ∷ q ∷ places) h =
      let a = and_parts (nat_lt p (factorial m)) (are_places m (q ∷ places)) h.1 in
      let words = map (ranking_text m) (q ∷ places) in
      ap (option_and_then (λ place. option_map (λ others. place ∷ others) (read_places m words)))
      (place_read p a.0)
      ∙ ap (option_map (λ others. p ∷ others)) (places_read (q ∷ places) (omega arith, a.1))

  absent_read : (absent : Bool) → read_absent (absent_text absent) ≡ Some absent
  absent_read true = refl
  absent_read false = refl

  pub wanted_is : (place : Place) (number : ℕ) (l : Line) → Fits study place number l → is_plain l ≡ true → wanted study place number (line_words study l) ≡ Some l
  wanted_is AtTitle number (Title version) f h = ap (option_map Title) (version_read version f)
  wanted_is AtKind number (KindIs k) f h = ap (option_map KindIs) (kind_read k)
  wanted_is AtVoters number (VotersAre n) f h = ap (option_map VotersAre) (read_text n)
  wanted_is AtAlternatives number (AlternativesAre n) f h = ap (option_map AlternativesAre) (read_text n)
  wanted_is AtBallots number (BallotsAre places) f h = ap (option_map BallotsAre) (places_read places f)
  wanted_is AtAbsent number (AbsentIs absent) f h = ap (option_map AbsentIs) (absent_read absent)
  wanted_is AtAxioms number (AxiomsAre ns) f h = ap (option_map AxiomsAre) (names_read ns h)
  wanted_is AtVerdict number SaysPossible f h = refl
  wanted_is AtVerdict number SaysImpossible f h = refl
  wanted_is AtVerdict number SaysUndecided f h = refl
  wanted_is AtLimit number (LimitIs n) f h = ap (option_map LimitIs) (read_text n)
  wanted_is AtRule number (RuleOf n) f h = ap (option_map RuleOf) (read_text n)
  wanted_is AtRow number (Row p o) f h = row_read p o f.0 f.1
  wanted_is AtCore number (CoreIs ns) f h = ap (option_map CoreIs) (names_read ns h)
  wanted_is AtLemmas number (LemmasAre n) f h = ap (option_map LemmasAre) (positive_read n f)
  wanted_is AtLemma number (Heading n) f h =
      ap (λ b. cond b (Some (Heading number)) None) ((bytes_eq-Decides (number_text n) (number_text number)).1 (ap number_text f)) ∙ ap (λ m. Some (Heading m)) (sym f)
  wanted_is AtSuppose number (Suppose l) f h = or_first _ _ (Suppose l) (ap (option_map Suppose) (literal_read study.size is.size l f))
  wanted_is AtSuppose number (So l r) f h = so_read l r f.0 f.1
  wanted_is AtSuppose number (Clash r) f h = clash_read r f
  wanted_is AtStep number (So l r) f h = so_read l r f.0 f.1
  wanted_is AtStep number (Clash r) f h = clash_read r f
  wanted_is AtWitness number (WithRule name n) f h = test_true _ _ (WithRule name n) h (or_first _ _ (WithRule name n) (ap (option_map (WithRule name)) (read_text n)))
  wanted_is AtWitness number (WithOpen name n) f h = test_true _ _ (WithOpen name n) h (ap (option_map (WithOpen name)) (read_text n))
  wanted_is AtWitnessRow number (Row p o) f h = row_read p o f.0 f.1
  wanted_is (AtEnd v) number End f h = refl
  wanted_is place number l f h = absurd f

  -- the words of a line are words
  values_words : (sorts : List Sort) (values : List ℕ) → list_all is_word (value_words study sorts values) ≡ true
  values_words [] values = refl
  values_words (s ∷ sorts) [] = refl
  values_words (s ∷ sorts) (v ∷ values) = and_from _ _ (value_word study.size is.size s v) (values_words sorts values)

  name_at_word : (k : ℕ) → is_word (name_at study.axioms k) ≡ true
  name_at_word k = in_study study.axioms k is.names
    where
      in_study : (axioms : List Titled) (k : ℕ) → list_all (λ a. is_name a.name) axioms ≡ true → is_word (name_at axioms k) ≡ true
      in_study [] k h = refl
      in_study (a ∷ axioms) zero h = name_word a.name (and_parts (is_name a.name) (list_all (λ a. is_name a.name) axioms) h).0
      in_study (a ∷ axioms) (suc k) h = in_study axioms k (and_parts (is_name a.name) (list_all (λ a. is_name a.name) axioms) h).1

  pub one_word_ok : (w : List ℕ) → is_word w ≡ true → list_all is_word (w ∷ []) ≡ true
  one_word_ok w h = and_from _ true h refl

  pub reason_words_ok : (r : Reason) → list_all is_word (reason_words study r) ≡ true
  reason_words_ok (ByAxiom k values) = and_from _ _ (name_at_word k) (values_words (sorts_of (slice_get study.axioms k)) values)
  reason_words_ok (ByOutcome p) = one_word_ok (profile_text study.size p) (profile_word study.size is.size p)
  reason_words_ok (ByLemma j) = one_word_ok (number_text (j + 1)) (number_word (j + 1))

  names_words : (ns : List (List ℕ)) → list_all is_name ns ≡ true → list_all is_word ns ≡ true
  names_words [] h = refl
  names_words (n ∷ ns) h = let p = and_parts (is_name n) (list_all is_name ns) h in and_from _ _ (name_word n p.0) (names_words ns p.1)

  kind_word : (k : Kind) → list_all is_word (kind_text k ∷ []) ≡ true
  kind_word Choice = refl
  kind_word Ranking = refl
  kind_word Sets = refl

  rankings_words : (places : List ℕ) → list_all is_word (map (ranking_text m) places) ≡ true
  rankings_words [] = refl
  rankings_words (p ∷ places) = and_from _ _ (letters_word (ranking m p)) (rankings_words places)

  absent_word : (absent : Bool) → list_all is_word (absent_text absent ∷ []) ≡ true
  absent_word true = refl
  absent_word false = refl

  -- a line has a first word, and all are words
  pub line_words_ok : (l : Line) → is_plain l ≡ true → (w : List ℕ) × (ws : List (List ℕ)) × (line_words study l ≡ w ∷ ws) × (list_all is_word (w ∷ ws) ≡ true)
  line_words_ok (Title version) h = (_, _, refl, one_word_ok (number_text version) (number_word version))
  line_words_ok (KindIs k) h = (_, _, refl, kind_word k)
  line_words_ok (VotersAre n) h = (_, _, refl, one_word_ok (number_text n) (number_word n))
  line_words_ok (AlternativesAre n) h = (_, _, refl, one_word_ok (number_text n) (number_word n))
  line_words_ok (BallotsAre places) h = (_, _, refl, rankings_words places)
  line_words_ok (AbsentIs absent) h = (_, _, refl, absent_word absent)
  line_words_ok (AxiomsAre ns) h = (_, _, refl, names_words ns h)
  line_words_ok (LimitIs n) h = (_, _, refl, one_word_ok (number_text n) (number_word n))
  line_words_ok (RuleOf n) h = (_, _, refl, one_word_ok (number_text n) (number_word n))
  line_words_ok (Row p o) h = (_, _, refl, and_from _ _ (profile_word study.size is.size p) (one_word_ok (outcome_text study.size o) (outcome_word_of study.size is.size study.size.kind o)))
  line_words_ok (CoreIs ns) h = (_, _, refl, names_words ns h)
  line_words_ok (LemmasAre n) h = (_, _, refl, one_word_ok (number_text n) (number_word n))
  line_words_ok (Heading n) h = (_, _, refl, one_word_ok (number_text n) (number_word n))
  line_words_ok (Suppose l) h = (_, _, refl, one_word_ok (literal_text study.size l) (literal_word study.size is.size l))
  line_words_ok (So l r) h = (_, _, refl, and_from _ _ (literal_word study.size is.size l) (reason_words_ok r))
  line_words_ok (Clash r) h = (_, _, refl, reason_words_ok r)
  line_words_ok (WithRule name n) h = (_, _, refl, and_from _ _ (name_word name h) (one_word_ok (number_text n) (number_word n)))
  line_words_ok (WithOpen name n) h = (_, _, refl, and_from _ _ (name_word name h) (one_word_ok (number_text n) (number_word n)))
  line_words_ok l h = (_, _, refl, refl)

  pub words_lack : (c : ℕ) (ws : List (List ℕ)) → c ≤ 32 → list_all is_word ws ≡ true → list_all (lacks c) ws ≡ true
  words_lack c [] h e = refl
  words_lack c (w ∷ ws) h e = let p = and_parts (is_word w) (list_all is_word ws) e in and_from _ _ (word_lacks c w h p.0) (words_lack c ws h p.1)

  -- a line is cut into its words again
  pub words_are : (l : Line) → is_plain l ≡ true → words_of (line_text study l) ≡ line_words study l
  words_are l h =
      let k = line_words_ok l h in
      ap (λ ws. words_of (joined_words ws)) k.2 ∙ split_joined 32 k.0 k.1 (words_lack 32 (k.0 ∷ k.1) (omega arith) k.3) ∙ sym k.2

  lacks_append : (c : ℕ) (v w : List ℕ) → lacks c v ≡ true → lacks c w ≡ true → lacks c (v ++ w) ≡ true
  lacks_append c [] w h k = k
  lacks_append c (b ∷ v) w h k = let p = and_parts (not (b == c)) (lacks c v) h in and_from _ _ p.0 (lacks_append c v w p.1 k)

  pub joined_lacks : (ws : List (List ℕ)) → list_all (lacks 10) ws ≡ true → lacks 10 (joined_words ws) ≡ true
  joined_lacks [] h = refl
  joined_lacks (w ∷ []) h = (and_parts (lacks 10 w) true h).0
  joined_lacks (w ∷ v ∷ ws) h = let p = and_parts (lacks 10 w) (list_all (lacks 10) (v ∷ ws)) h in lacks_append 10 w _ p.0 (and_from true _ refl (joined_lacks (v ∷ ws) p.1))

  -- it has no line end
  pub line_lacks : (l : Line) → is_plain l ≡ true → lacks 10 (line_text study l) ≡ true
  line_lacks l h =
      let k = line_words_ok l h in
      ap (λ ws. lacks 10 (joined_words ws)) k.2 ∙ joined_lacks (k.0 ∷ k.1) (words_lack 10 (k.0 ∷ k.1) (omega arith) k.3)
