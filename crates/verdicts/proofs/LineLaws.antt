-- What a line says is what its words are.
use Rattle.std.proofs.Common.{◌≡◌, refl, sym, ap, ◌∙◌, subst, ℕ, ◌+◌, ◌-◌, ◌<◌, ◌⊎◌, inl, inr, Bool, true, false, List, [], ◌∷◌, map, Option, Some, None, option_map, option_and_then, arith, cond, ltb-true}
use Rattle.std.specs.Prelude.{codes, nat_lt, slice_get}
use Rattle.std.specs.List.{list_all}
use Rattle.std.specs.Str.{bytes_eq}
use Rattle.std.proofs.lemmas.Slice.Eq.{bytes_eq-Decides}
use Rattle.vocab.specs.declared.kinds.Sort.{Sort}
use Rattle.vocab.specs.Name.{is_name}
use Rattle.vocab.specs.Size.{factorial, sort_count}
use Rattle.vocab.specs.Study.{Question}
use Rattle.meaning.specs.Space.{below}
use Rattle.meaning.specs.declared.stories.Reason.{Reason}
use Rattle.meaning.specs.declared.stories.Reason.TheVariants.{Axiom as ByAxiom, Outcome as ByOutcome, Lemma as ByLemma}
use Rattle.verdicts.specs.Numbers.{number_text, read_number}
use Rattle.meaning.specs.Texts.{kind_text, profile_text, outcome_text, ranking_text}
use Rattle.verdicts.specs.Texts.{kinds, read_kind, value_text, literal_text, literals, read_profile, read_outcome, read_value, read_literal}
use Rattle.verdicts.specs.Lines.{Line, Title, KindIs, VotersAre, AlternativesAre, BallotsAre, AbsentIs, AxiomsAre, SaysPossible, SaysImpossible, SaysUndecided, LimitIs, RuleOf, Row, CoreIs, LemmasAre, Heading, Suppose, So, Clash, WithRule, WithOpen, End, name_at, sorts_of, value_words, reason_words, line_words}
use Rattle.verdicts.specs.Reading.{read_axiom, read_positive, read_version, read_place, read_places, read_absent, keyed, one_word, no_word, names, read_values, read_cited, read_reason, read_so, read_suppose, read_step, read_row, verdict_word, read_verdict, read_named, read_witness, read_heading}
use Rattle.std.specs.Option.{option_or}
use Rattle.verdicts.specs.Places.{Place, AtTitle, AtKind, AtVoters, AtAlternatives, AtBallots, AtAbsent, AtAxioms, AtVerdict, AtLimit, AtRule, AtRow, AtCore, AtLemmas, AtLemma, AtSuppose, AtStep, AtWitness, AtWitnessRow, AtEnd, AtNothing, wanted}
use Rattle.verdicts.proofs.NumberLaws.{text_read}
use Rattle.verdicts.proofs.WordLaws.{text_named, named_in}
use Rattle.lists.proofs.Members.{IsIn}

pub map_is : {A B : Type 0} (f : A → B) (o : Option A) (b : B) → option_map f o ≡ Some b → (a : A) × (o ≡ Some a) × (f a ≡ b)
map_is f None b e = absurd (cc)
map_is f (Some a) b e = let same : f a ≡ b = cc in (a, refl, same)

pub then_is : {A B : Type 0} (f : A → Option B) (o : Option A) (b : B) → option_and_then f o ≡ Some b → (a : A) × (o ≡ Some a) × (f a ≡ Some b)
then_is f None b e = absurd (cc)
then_is f (Some a) b e = (a, refl, e)

pub or_is : {A : Type 0} (o p : Option A) (a : A) → option_or o p ≡ Some a → (o ≡ Some a) ⊎ (p ≡ Some a)
or_is None p a e = inr e
or_is (Some b) p a e = inl e

pub test_is : {A : Type 0} (b : Bool) (o : Option A) (a : A) → cond b o None ≡ Some a → (b ≡ true) × (o ≡ Some a)
test_is true o a e = (refl, e)
test_is false o a e = absurd (cc)

pub keyed_is : {A : Type 0} (key : List ℕ) (go : List (List ℕ) → Option A) (words : List (List ℕ)) (a : A) → keyed key go words ≡ Some a → (rest : List (List ℕ)) × (words ≡ key ∷ rest) × (go rest ≡ Some a)
keyed_is key go [] a e = absurd (cc)
keyed_is key go (w ∷ words) a e =
    let t = test_is (bytes_eq w key) (go words) a e in
    (words, ap (λ v. v ∷ words) ((bytes_eq-Decides w key).0 t.0), t.1)

pub one_is : {A : Type 0} (read : List ℕ → Option A) (words : List (List ℕ)) (a : A) → one_word read words ≡ Some a → (w : List ℕ) × (words ≡ w ∷ []) × (read w ≡ Some a)
one_is read [] a e = absurd (cc)
one_is read (w ∷ []) a e = (w, refl, e)
one_is read (w ∷ v ∷ words) a e = absurd (cc)

pub none_is : {A : Type 0} (b : A) (words : List (List ℕ)) (a : A) → no_word b words ≡ Some a → (words ≡ []) × (b ≡ a)
none_is b [] a e = let same : b ≡ a = cc in (refl, same)
none_is b (w ∷ words) a e = absurd (cc)

-- a reading of a text gives a value of which it is the text
abbrev Reads : {A : Type 0} → (A → List ℕ) → (List ℕ → Option A) → Type 0
Reads {A} text_of read = (w : List ℕ) (a : A) → read w ≡ Some a → w ≡ text_of a

positive_read : Reads number_text read_positive
positive_read w n e = let t = then_is _ (read_number w) n e in let u = test_is (nat_lt 0 t.0) (Some t.0) n t.2 in let same : t.0 ≡ n = cc in text_read w t.0 t.1 ∙ ap number_text same

pub positive_some : (w : List ℕ) (n : ℕ) → read_positive w ≡ Some n → 0 < n
positive_some w n e = let t = then_is _ (read_number w) n e in let u = test_is (nat_lt 0 t.0) (Some t.0) n t.2 in let same : t.0 ≡ n = cc in subst (λ k. 0 < k) same (ltb-true 0 t.0 u.0)

-- a line of a key and a last word
keyed_one : {A B : Type 0} (out : B → List (List ℕ)) (key : List ℕ) (text_of : A → List ℕ) (read : List ℕ → Option A) (f : A → B) → Reads text_of read → ((a : A) → out (f a) ≡ key ∷ text_of a ∷ []) → (words : List (List ℕ)) (b : B) → keyed key (one_word (λ w. option_map f (read w))) words ≡ Some b → words ≡ out b
keyed_one out key text_of read f reads is words b e =
    let k = keyed_is key _ words b e in
    let o = one_is _ k.0 b k.2 in
    let m = map_is f (read o.0) b o.2 in
    k.1 ∙ ap (λ ws. key ∷ ws) o.1 ∙ ap (λ w. key ∷ w ∷ []) (reads o.0 m.0 m.1) ∙ sym (is m.0) ∙ ap out m.2

abbrev pub verdicts : List Line
verdicts = SaysPossible ∷ SaysImpossible ∷ SaysUndecided ∷ []

-- the versions that a title can have
abbrev pub versions : List ℕ
versions = 1 ∷ 2 ∷ []

-- the word that says whether voters may be absent
abbrev pub absent_text : Bool → List ℕ
absent_text absent = cond absent (codes "yes") (codes "no")

-- ---- rankings

place_read : (m : ℕ) → Reads (ranking_text m) (read_place m)
place_read m w place e = text_named (ranking_text m) (below (factorial m)) w place e

places_read : (m : ℕ) (words : List (List ℕ)) (places : List ℕ) → read_places m words ≡ Some places
    → words ≡ map (ranking_text m) places
places_read m [] places e = absurd (cc)
places_read m (w ∷ []) places e =
    let p = map_is (λ place. place ∷ []) (read_place m w) places e in
    ap (λ v. v ∷ []) (place_read m w p.0 p.1) ∙ ap (map (ranking_text m)) p.2
places_read m (w ∷ v ∷ words) places e =
    let t = then_is _ (read_place m w) places e in
    let p = map_is (λ others. t.0 ∷ others) (read_places m (v ∷ words)) places t.2 in
    ap (λ x. x ∷ v ∷ words) (place_read m w t.0 t.1)
    ∙ ap (λ ws. ranking_text m t.0 ∷ ws) (places_read m (v ∷ words) p.0 p.1)
    ∙ ap (map (ranking_text m)) p.2

module _ (study : Question) where
  values_read : (sorts : List Sort) (words : List (List ℕ)) (values : List ℕ) → read_values study sorts words ≡ Some values → words ≡ value_words study sorts values
  values_read [] [] values e = refl
  values_read [] (w ∷ words) values e = absurd (cc)
  values_read (s ∷ sorts) [] values e = absurd (cc)
  values_read (s ∷ sorts) (w ∷ words) values e =
      let t = then_is _ (read_value study.size s w) values e in
      let m = map_is (λ vs. t.0 ∷ vs) (read_values study sorts words) values t.2 in
      ap (λ v. v ∷ words) (text_named (value_text study.size s) (below (sort_count study.size s)) w t.0 t.1)
      ∙ ap (λ ws. value_text study.size s t.0 ∷ ws) (values_read sorts words m.0 m.1)
      ∙ ap (value_words study (s ∷ sorts)) m.2

  pub cited_read : (words : List (List ℕ)) (r : Reason) → read_cited study words ≡ Some r → codes "axiom" ∷ words ≡ reason_words study r
  cited_read [] r e = absurd (cc)
  cited_read (name ∷ words) r e =
      let t = then_is _ (read_axiom study.axioms name) r e in
      let m = map_is (ByAxiom t.0) (read_values study (sorts_of (slice_get study.axioms t.0)) words) r t.2 in
      ap (λ n. codes "axiom" ∷ n ∷ words) (text_named (name_at study.axioms) _ name t.0 t.1)
      ∙ ap (λ ws. codes "axiom" ∷ name_at study.axioms t.0 ∷ ws) (values_read (sorts_of (slice_get study.axioms t.0)) words m.0 m.1)
      ∙ ap (reason_words study) m.2

  profile_read : Reads (profile_text study.size) (read_profile study.size)
  profile_read w p e = text_named (profile_text study.size) _ w p e

  outcome_read : Reads (outcome_text study.size) (read_outcome study.size)
  outcome_read w o e = text_named (outcome_text study.size) _ w o e

  literal_read : Reads (literal_text study.size) (read_literal study.size)
  literal_read w l e = text_named (literal_text study.size) (literals study.size) w l e

  lemma_read : (words : List (List ℕ)) (r : Reason) → keyed (codes "lemma") (one_word (λ w. option_map (λ j. ByLemma (j - 1)) (read_positive w))) words ≡ Some r → words ≡ reason_words study r
  lemma_read words r e =
      let k = keyed_is (codes "lemma") _ words r e in
      let o = one_is _ k.0 r k.2 in
      let m = map_is (λ j. ByLemma (j - 1)) (read_positive o.0) r o.2 in
      let back : m.0 - 1 + 1 ≡ m.0 = omega (arith, positive_some o.0 m.0 m.1) in
      k.1 ∙ ap (λ ws. codes "lemma" ∷ ws) o.1 ∙ ap (λ w. codes "lemma" ∷ w ∷ []) (positive_read o.0 m.0 m.1 ∙ ap number_text (sym back)) ∙ ap (reason_words study) m.2

  reason_read : (words : List (List ℕ)) (r : Reason) → read_reason study words ≡ Some r → words ≡ reason_words study r
  reason_read words r e = elim (or_is (keyed (codes "axiom") (read_cited study) words) _ r e) [
    | inl a ↦ let k = keyed_is (codes "axiom") _ words r a in k.1 ∙ cited_read k.0 r k.2
    | inr b ↦ elim (or_is (keyed (codes "outcome") (one_word (λ w. option_map ByOutcome (read_profile study.size w))) words) _ r b) [
      | inl o ↦ keyed_one (reason_words study) (codes "outcome") (profile_text study.size) (read_profile study.size) ByOutcome profile_read (λ p. refl) words r o
      | inr j ↦ lemma_read words r j
    ]
  ]

  so_read : (words : List (List ℕ)) (l : Line) → read_so study words ≡ Some l → codes "so" ∷ words ≡ line_words study l
  so_read [] l e = absurd (cc)
  so_read (w ∷ words) l e =
      let t = then_is _ (read_literal study.size w) l e in
      let m = map_is (So t.0) (keyed (codes "by") (read_reason study) words) l t.2 in
      let k = keyed_is (codes "by") (read_reason study) words m.0 m.1 in
      ap (λ v. codes "so" ∷ v ∷ words) (literal_read w t.0 t.1)
      ∙ ap (λ ws. codes "so" ∷ literal_text study.size t.0 ∷ ws) (k.1 ∙ ap (λ ws. codes "by" ∷ ws) (reason_read k.0 m.0 k.2))
      ∙ ap (line_words study) m.2

  suppose_read : (words : List (List ℕ)) (l : Line) → read_suppose study words ≡ Some l → words ≡ line_words study l
  suppose_read words l e = keyed_one (line_words study) (codes "suppose") (literal_text study.size) (read_literal study.size) Suppose literal_read (λ a. refl) words l e

  step_read : (words : List (List ℕ)) (l : Line) → read_step study words ≡ Some l → words ≡ line_words study l
  step_read words l e = elim (or_is (keyed (codes "so") (read_so study) words) _ l e) [
    | inl s ↦ let k = keyed_is (codes "so") _ words l s in k.1 ∙ so_read k.0 l k.2
    | inr c ↦
        let k = keyed_is (codes "clash") _ words l c in
        let b = keyed_is (codes "by") _ k.0 l k.2 in
        let m = map_is Clash (read_reason study b.0) l b.2 in
        k.1 ∙ ap (λ ws. codes "clash" ∷ ws) (b.1 ∙ ap (λ ws. codes "by" ∷ ws) (reason_read b.0 m.0 m.1)) ∙ ap (line_words study) m.2
  ]

  row_read : (words : List (List ℕ)) (l : Line) → read_row study words ≡ Some l → words ≡ line_words study l
  row_read [] l e = absurd (cc)
  row_read (w ∷ words) l e =
      let t = then_is _ (read_profile study.size w) l e in
      let o = one_is _ words l t.2 in
      let m = map_is (Row t.0) (read_outcome study.size o.0) l o.2 in
      ap (λ v. v ∷ words) (profile_read w t.0 t.1)
      ∙ ap (λ ws. profile_text study.size t.0 ∷ ws) (o.1 ∙ ap (λ v. v ∷ []) (outcome_read o.0 m.0 m.1))
      ∙ ap (line_words study) m.2

  names_read : (key : List ℕ) (f : List (List ℕ) → Line) → ((ns : List (List ℕ)) → line_words study (f ns) ≡ key ∷ ns) → (words : List (List ℕ)) (l : Line) → keyed key (λ ws. option_map f (names ws)) words ≡ Some l → words ≡ line_words study l
  names_read key f is words l e =
      let k = keyed_is key _ words l e in
      let m = map_is f (names k.0) l k.2 in
      let t = test_is (list_all is_name k.0) (Some k.0) m.0 m.1 in
      let same : k.0 ≡ m.0 = cc in
      k.1 ∙ ap (λ ns. key ∷ ns) same ∙ sym (is m.0) ∙ ap (line_words study) m.2

  named_read : (name : List ℕ) (words : List (List ℕ)) (l : Line) → read_named name words ≡ Some l → codes "without" ∷ name ∷ words ≡ line_words study l
  named_read name words l e =
      let t = test_is (is_name name) _ l e in
      elim (or_is (keyed (codes "rule") (one_word (λ w. option_map (WithRule name) (read_number w))) words) _ l t.1) [
        | inl r ↦
            let k = keyed_is (codes "rule") _ words l r in
            let o = one_is _ k.0 l k.2 in
            let m = map_is (WithRule name) (read_number o.0) l o.2 in
            ap (λ ws. codes "without" ∷ name ∷ ws) (k.1 ∙ ap (λ ws. codes "rule" ∷ ws) (o.1 ∙ ap (λ w. w ∷ []) (text_read o.0 m.0 m.1))) ∙ ap (line_words study) m.2
        | inr r ↦
            let k = keyed_is (codes "open") _ words l r in
            let o = one_is _ k.0 l k.2 in
            let m = map_is (WithOpen name) (read_number o.0) l o.2 in
            ap (λ ws. codes "without" ∷ name ∷ ws) (k.1 ∙ ap (λ ws. codes "open" ∷ ws) (o.1 ∙ ap (λ w. w ∷ []) (text_read o.0 m.0 m.1))) ∙ ap (line_words study) m.2
      ]

  witness_read : (words : List (List ℕ)) (l : Line) → read_witness words ≡ Some l → codes "without" ∷ words ≡ line_words study l
  witness_read [] l e = absurd (cc)
  witness_read (w ∷ words) l e = named_read w words l e

  verdict_line : (l : Line) → IsIn verdicts l → line_words study l ≡ codes "verdict" ∷ verdict_word l ∷ []
  verdict_line l (inl e) = subst (λ k. line_words study k ≡ codes "verdict" ∷ verdict_word k ∷ []) e refl
  verdict_line l (inr (inl e)) = subst (λ k. line_words study k ≡ codes "verdict" ∷ verdict_word k ∷ []) e refl
  verdict_line l (inr (inr (inl e))) = subst (λ k. line_words study k ≡ codes "verdict" ∷ verdict_word k ∷ []) e refl
  verdict_line l (inr (inr (inr i))) = absurd i

  verdict_read : (words : List (List ℕ)) (l : Line) → read_verdict words ≡ Some l → words ≡ line_words study l
  verdict_read words l e =
      let k = keyed_is (codes "verdict") _ words l e in
      let o = one_is _ k.0 l k.2 in
      k.1 ∙ ap (λ ws. codes "verdict" ∷ ws) (o.1 ∙ ap (λ w. w ∷ []) (text_named verdict_word verdicts o.0 l o.2)) ∙ sym (verdict_line l (named_in verdict_word verdicts o.0 l o.2))

  number_read : (number : ℕ) (words : List (List ℕ)) (l : Line) → keyed (codes "lemma") (one_word (read_heading number)) words ≡ Some l → words ≡ line_words study l
  number_read number words l e =
      let k = keyed_is (codes "lemma") _ words l e in
      let o = one_is (read_heading number) k.0 l k.2 in
      let t = test_is (bytes_eq o.0 (number_text number)) (Some (Heading number)) l o.2 in
      let same : Heading number ≡ l = cc in
      k.1 ∙ ap (λ ws. codes "lemma" ∷ ws) (o.1 ∙ ap (λ w. w ∷ []) ((bytes_eq-Decides o.0 (number_text number)).0 t.0)) ∙ ap (line_words study) same

  no_word_read : (key : List ℕ) (a : Line) → line_words study a ≡ key ∷ [] → (words : List (List ℕ)) (l : Line) → keyed key (no_word a) words ≡ Some l → words ≡ line_words study l
  no_word_read key a is words l e =
      let k = keyed_is key _ words l e in
      let n = none_is a k.0 l k.2 in
      k.1 ∙ ap (λ ws. key ∷ ws) n.0 ∙ sym is ∙ ap (line_words study) n.1

  title_read : (number : ℕ) (words : List (List ℕ)) (l : Line) → wanted study AtTitle number words ≡ Some l
      → words ≡ line_words study l
  title_read number words l e =
      let k = keyed_is (codes "bench") _ words l e in
      let j = keyed_is (codes "report") _ k.0 l k.2 in
      let o = one_is _ j.0 l j.2 in
      let m = map_is Title (read_version o.0) l o.2 in
      k.1
      ∙ ap (λ ws. codes "bench" ∷ ws) j.1
      ∙ ap (λ ws. codes "bench" ∷ codes "report" ∷ ws) o.1
      ∙ ap (λ w. codes "bench" ∷ codes "report" ∷ w ∷ []) (text_named number_text versions o.0 m.0 m.1)
      ∙ ap (line_words study) m.2

  ballots_read : (number : ℕ) (words : List (List ℕ)) (l : Line) → wanted study AtBallots number words ≡ Some l
      → words ≡ line_words study l
  ballots_read number words l e =
      let k = keyed_is (codes "ballots") _ words l e in
      let m = map_is BallotsAre (read_places study.size.alternatives k.0) l k.2 in
      k.1
      ∙ ap (λ ws. codes "ballots" ∷ ws) (places_read study.size.alternatives k.0 m.0 m.1)
      ∙ ap (line_words study) m.2

  absent_read : (number : ℕ) (words : List (List ℕ)) (l : Line) → wanted study AtAbsent number words ≡ Some l
      → words ≡ line_words study l
  absent_read number words l e =
      keyed_one (line_words study) (codes "absent") absent_text read_absent AbsentIs
      (text_named absent_text (true ∷ false ∷ [])) (λ a. refl) words l e

  abbrev text_number : (f : ℕ → Line) (key : List ℕ) → ((n : ℕ) → line_words study (f n) ≡ key ∷ number_text n ∷ []) → (words : List (List ℕ)) (l : Line) → keyed key (one_word (λ w. option_map f (read_number w))) words ≡ Some l → words ≡ line_words study l
  text_number f key is words l e = keyed_one (line_words study) key number_text read_number f text_read is words l e

  -- what the grammar wants at a place has the words of the line
  pub wanted_read : (place : Place) (number : ℕ) (words : List (List ℕ)) (l : Line) → wanted study place number words ≡ Some l → words ≡ line_words study l
  wanted_read AtTitle number words l e = title_read number words l e
  wanted_read AtKind number words l e = keyed_one (line_words study) (codes "kind") kind_text read_kind KindIs (text_named kind_text kinds) (λ a. refl) words l e
  wanted_read AtVoters number words l e = text_number VotersAre (codes "voters") (λ n. refl) words l e
  wanted_read AtAlternatives number words l e = text_number AlternativesAre (codes "alternatives") (λ n. refl) words l e
  wanted_read AtBallots number words l e = ballots_read number words l e
  wanted_read AtAbsent number words l e = absent_read number words l e
  wanted_read AtAxioms number words l e = names_read (codes "axioms") AxiomsAre (λ ns. refl) words l e
  wanted_read AtVerdict number words l e = verdict_read words l e
  wanted_read AtLimit number words l e = text_number LimitIs (codes "conflicts") (λ n. refl) words l e
  wanted_read AtRule number words l e = text_number RuleOf (codes "rule") (λ n. refl) words l e
  wanted_read AtRow number words l e = row_read words l e
  wanted_read AtCore number words l e = names_read (codes "core") CoreIs (λ ns. refl) words l e
  wanted_read AtLemmas number words l e = keyed_one (line_words study) (codes "lemmas") number_text read_positive LemmasAre positive_read (λ n. refl) words l e
  wanted_read AtLemma number words l e = number_read number words l e
  wanted_read AtSuppose number words l e = elim (or_is (read_suppose study words) (read_step study words) l e) [
    | inl s ↦ suppose_read words l s
    | inr t ↦ step_read words l t
  ]
  wanted_read AtStep number words l e = step_read words l e
  wanted_read AtWitness number words l e = let k = keyed_is (codes "without") read_witness words l e in k.1 ∙ witness_read k.0 l k.2
  wanted_read AtWitnessRow number words l e = row_read words l e
  wanted_read (AtEnd v) number words l e = no_word_read (codes "end") End refl words l e
  wanted_read (AtNothing v) number words l e = absurd (cc)
