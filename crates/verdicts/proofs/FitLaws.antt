-- Which lines can stand at a place.
use Rattle.std.proofs.Common.{◌≡◌, refl, ap, subst, ℕ, ◌-◌, ◌<◌, inl, inr, Bool, true, false, not, List, [], ◌∷◌, map, length, Option, Some, option_map, arith, cond, lt-ltb}
use Rattle.std.specs.Prelude.{codes, nat_lt, slice_get, ◌==◌}
use Rattle.std.specs.List.{flat_map, list_all}
use Rattle.std.specs.Str.{bytes_eq}
use Rattle.std.specs.Cmp.Lexicographic.{pointwise}
use Rattle.std.proofs.lemmas.Bool.{and_from}
use Rattle.vocab.specs.declared.kinds.Kind.{Kind}
use Rattle.vocab.specs.declared.kinds.Kind.TheVariants.{Choice, Ranking, Sets}
use Rattle.vocab.specs.declared.kinds.Sort.{Sort}
use Rattle.vocab.specs.declared.kinds.Sort.TheVariants.{Profile}
use Rattle.vocab.specs.declared.literals.Literal.{Literal}
use Rattle.vocab.specs.declared.literals.Literal.TheVariants.{Wins, Loses, Above}
use Rattle.vocab.specs.Name.{is_name}
use Rattle.vocab.specs.Size.{Extent, factorial, sort_count, outcome_count}
use Rattle.vocab.specs.Study.{Question}
use Rattle.meaning.specs.Space.{below}
use Rattle.meaning.specs.Literals.{is_literal, is_literal_of, is_of_winner}
use Rattle.meaning.specs.declared.stories.Reason.{Reason}
use Rattle.meaning.specs.declared.stories.Reason.TheVariants.{Axiom as ByAxiom, Outcome as ByOutcome, Lemma as ByLemma}
use Rattle.verdicts.specs.Numbers.{number_text, read_number}
use Rattle.verdicts.specs.Texts.{read_kind, value_text, literal_text, literals, literals_at, winners_at, read_profile, read_outcome, read_value, read_literal}
use Rattle.meaning.specs.Texts.{profile_text, outcome_text, ranking_text}
use Rattle.verdicts.specs.Lines.{Line, Title, KindIs, VotersAre, AlternativesAre, BallotsAre, AbsentIs, AxiomsAre, SaysPossible, SaysImpossible, SaysUndecided, LimitIs, RuleOf, Row, CoreIs, LemmasAre, Heading, Suppose, So, Clash, WithRule, WithOpen, End, name_at, sorts_of}
use Rattle.verdicts.specs.Reading.{read_axiom, read_positive, read_version, read_place, read_places, read_absent, keyed, one_word, names, read_values, read_cited, read_reason, read_so, read_suppose, read_step, read_row, verdict_word, read_witness, read_heading}
use Rattle.verdicts.specs.Report.{is_reason}
use Rattle.verdicts.specs.Places.{Place, AtTitle, AtKind, AtVoters, AtAlternatives, AtBallots, AtAbsent, AtAxioms, AtVerdict, AtLimit, AtRule, AtRow, AtCore, AtLemmas, AtLemma, AtSuppose, AtStep, AtWitness, AtWitnessRow, AtEnd, AtNothing, wanted}
use Rattle.verdicts.proofs.WordLaws.{named_in, from_below}
use Rattle.verdicts.proofs.LineLaws.{map_is, then_is, or_is, test_is, keyed_is, one_is, none_is, positive_some, verdicts, versions}
use Rattle.lists.proofs.Members.{in_flat_map, IsIn}

-- a place stands among those of the rankings of m alternatives
abbrev pub are_places : ℕ → List ℕ → Bool
are_places m places = list_all (λ place. nat_lt place (factorial m)) places

place_in : (m : ℕ) (w : List ℕ) (place : ℕ) → read_place m w ≡ Some place → nat_lt place (factorial m) ≡ true
place_in m w place e =
    let i = named_in (ranking_text m) (below (factorial m)) w place e in
    lt-ltb place (factorial m) (from_below (factorial m) place i)

-- one or more places of rankings
abbrev pub ArePlaces : ℕ → List ℕ → Type 0
ArePlaces m places = (0 < length places) × (are_places m places ≡ true)

places_in : (m : ℕ) (words : List (List ℕ)) (places : List ℕ) → read_places m words ≡ Some places
    → ArePlaces m places
places_in m [] places e = absurd (cc)
places_in m (w ∷ []) places e =
    let p = map_is (λ place. place ∷ []) (read_place m w) places e in
    subst (λ ps. ArePlaces m ps) p.2 (omega arith, and_from _ _ (place_in m w p.0 p.1) refl)
places_in m (w ∷ v ∷ words) places e =
    let t = then_is _ (read_place m w) places e in
    let p = map_is (λ others. t.0 ∷ others) (read_places m (v ∷ words)) places t.2 in
    let later = places_in m (v ∷ words) p.0 p.1 in
    subst (λ ps. ArePlaces m ps) p.2 (omega arith, and_from _ _ (place_in m w t.0 t.1) later.1)

module _ (size : Extent) where
  abbrev P : ℕ
  P = sort_count size Profile

  above_in : (x y p : ℕ) (r : Bool) (l : Literal) → (x == y) ≡ r → x < size.alternatives → y < size.alternatives → p < P → IsIn (cond r [] (Above x y p ∷ [])) l → is_literal_of size Ranking l ≡ true
  above_in x y p true l d a b c i = absurd i
  above_in x y p false l d a b c (inl e) =
      subst (λ k. is_literal_of size Ranking k ≡ true) e (and_from _ _ (and_from _ _ (and_from _ _ (lt-ltb x _ a) (lt-ltb y _ b)) (ap not d)) (lt-ltb p _ c))
  above_in x y p false l d a b c (inr i) = absurd i

  winner_at : (p : ℕ) (l : Literal) → p < P → IsIn (winners_at size p) l → is_of_winner size l ≡ true
  winner_at p l b i =
      let f = in_flat_map (λ x. Wins x p ∷ Loses x p ∷ []) (below size.alternatives) l i in
      let x = from_below size.alternatives f.0 f.1 in
      one_of f.0 x f.2
    where
      one_of : (x : ℕ) → x < size.alternatives → IsIn (Wins x p ∷ Loses x p ∷ []) l → is_of_winner size l ≡ true
      one_of x a (inl e) = subst (λ k. is_of_winner size k ≡ true) e (and_from _ _ (lt-ltb x _ a) (lt-ltb p _ b))
      one_of x a (inr (inl e)) = subst (λ k. is_of_winner size k ≡ true) e (and_from _ _ (lt-ltb x _ a) (lt-ltb p _ b))
      one_of x a (inr (inr i)) = absurd i

  literal_at : (k : Kind) (p : ℕ) (l : Literal) → p < P → IsIn (literals_at size k p) l → is_literal_of size k l ≡ true
  literal_at Choice p l b i = winner_at p l b i
  literal_at Ranking p l b i =
      let f = in_flat_map (λ x. flat_map (λ y. cond (x == y) [] (Above x y p ∷ [])) (below size.alternatives)) (below size.alternatives) l i in
      let g = in_flat_map (λ y. cond (f.0 == y) [] (Above f.0 y p ∷ [])) (below size.alternatives) l f.2 in
      above_in f.0 g.0 p (f.0 == g.0) l refl (from_below size.alternatives f.0 f.1) (from_below size.alternatives g.0 g.1) b g.2
  literal_at Sets p l b i = winner_at p l b i

  pub literal_in : (l : Literal) → IsIn (literals size) l → is_literal size l ≡ true
  literal_in l i =
      let f = in_flat_map (literals_at size size.kind) (below P) l i in
      literal_at size.kind f.0 l (from_below P f.0 f.1) f.2

module _ (study : Question) where
  -- a line that the grammar has at a place, with all that it names in range
  abbrev pub Fits : Place → ℕ → Line → Type 0
  Fits AtTitle number (Title version) = IsIn versions version
  Fits AtKind number (KindIs k) = Unit {0}
  Fits AtVoters number (VotersAre n) = Unit {0}
  Fits AtAlternatives number (AlternativesAre n) = Unit {0}
  Fits AtBallots number (BallotsAre places) = ArePlaces study.size.alternatives places
  Fits AtAbsent number (AbsentIs absent) = Unit {0}
  Fits AtAxioms number (AxiomsAre ns) = Unit {0}
  Fits AtVerdict number SaysPossible = Unit {0}
  Fits AtVerdict number SaysImpossible = Unit {0}
  Fits AtVerdict number SaysUndecided = Unit {0}
  Fits AtLimit number (LimitIs n) = Unit {0}
  Fits AtRule number (RuleOf n) = Unit {0}
  Fits AtRow number (Row p o) = (p < sort_count study.size Profile) × (o < outcome_count study.size.kind study.size.alternatives)
  Fits AtCore number (CoreIs ns) = Unit {0}
  Fits AtLemmas number (LemmasAre n) = 0 < n
  Fits AtLemma number (Heading n) = n ≡ number
  Fits AtSuppose number (Suppose l) = is_literal study.size l ≡ true
  Fits AtSuppose number (So l r) = (is_literal study.size l ≡ true) × (is_reason study r ≡ true)
  Fits AtSuppose number (Clash r) = is_reason study r ≡ true
  Fits AtStep number (So l r) = (is_literal study.size l ≡ true) × (is_reason study r ≡ true)
  Fits AtStep number (Clash r) = is_reason study r ≡ true
  Fits AtWitness number (WithRule name n) = Unit {0}
  Fits AtWitness number (WithOpen name n) = Unit {0}
  Fits AtWitnessRow number (Row p o) = (p < sort_count study.size Profile) × (o < outcome_count study.size.kind study.size.alternatives)
  Fits (AtEnd v) number End = Unit {0}
  Fits _ number line = ⊥

  profile_in : (w : List ℕ) (p : ℕ) → read_profile study.size w ≡ Some p → p < sort_count study.size Profile
  profile_in w p e = from_below _ p (named_in (profile_text study.size) (below (sort_count study.size Profile)) w p e)

  values_in : (sorts : List Sort) (words : List (List ℕ)) (values : List ℕ) → read_values study sorts words ≡ Some values → pointwise nat_lt values (map (sort_count study.size) sorts) ≡ true
  values_in [] [] values e = let same : [] ≡ values = cc in subst (λ vs. pointwise nat_lt vs [] ≡ true) same refl
  values_in [] (w ∷ words) values e = absurd (cc)
  values_in (s ∷ sorts) [] values e = absurd (cc)
  values_in (s ∷ sorts) (w ∷ words) values e =
      let t = then_is _ (read_value study.size s w) values e in
      let m = map_is (λ vs. t.0 ∷ vs) (read_values study sorts words) values t.2 in
      let l = from_below _ t.0 (named_in (value_text study.size s) (below (sort_count study.size s)) w t.0 t.1) in
      subst (λ vs. pointwise nat_lt vs (map (sort_count study.size) (s ∷ sorts)) ≡ true) m.2 (and_from _ _ (lt-ltb t.0 _ l) (values_in sorts words m.0 m.1))

  pub cited_in : (words : List (List ℕ)) (r : Reason) → read_cited study words ≡ Some r → is_reason study r ≡ true
  cited_in [] r e = absurd (cc)
  cited_in (name ∷ words) r e =
      let t = then_is _ (read_axiom study.axioms name) r e in
      let m = map_is (ByAxiom t.0) (read_values study (sorts_of (slice_get study.axioms t.0)) words) r t.2 in
      let l = from_below _ t.0 (named_in (name_at study.axioms) (below (length study.axioms)) name t.0 t.1) in
      subst (λ k. is_reason study k ≡ true) m.2 (and_from _ _ (lt-ltb t.0 _ l) (values_in (sorts_of (slice_get study.axioms t.0)) words m.0 m.1))

  -- what is read after a key, as a last word
  last_word : {A B : Type 0} (Q : B → Type 0) (key : List ℕ) (read : List ℕ → Option A) (f : A → B) → ((w : List ℕ) (a : A) → read w ≡ Some a → Q (f a)) → (words : List (List ℕ)) (b : B) → keyed key (one_word (λ w. option_map f (read w))) words ≡ Some b → Q b
  last_word Q key read f h words b e =
      let k = keyed_is key _ words b e in
      let o = one_is _ k.0 b k.2 in
      let m = map_is f (read o.0) b o.2 in
      subst Q m.2 (h o.0 m.0 m.1)

  reason_in : (words : List (List ℕ)) (r : Reason) → read_reason study words ≡ Some r → is_reason study r ≡ true
  reason_in words r e = elim (or_is (keyed (codes "axiom") (read_cited study) words) _ r e) [
    | inl a ↦ let k = keyed_is (codes "axiom") _ words r a in cited_in k.0 r k.2
    | inr b ↦ elim (or_is (keyed (codes "outcome") (one_word (λ w. option_map ByOutcome (read_profile study.size w))) words) _ r b) [
      | inl o ↦ last_word (λ k. is_reason study k ≡ true) (codes "outcome") (read_profile study.size) ByOutcome (λ w p h. lt-ltb p _ (profile_in w p h)) words r o
      | inr j ↦ last_word (λ k. is_reason study k ≡ true) (codes "lemma") read_positive (λ j. ByLemma (j - 1)) (λ w n h. refl) words r j
    ]
  ]

  literal_read_in : (w : List ℕ) (l : Literal) → read_literal study.size w ≡ Some l → is_literal study.size l ≡ true
  literal_read_in w l e = literal_in study.size l (named_in (literal_text study.size) (literals study.size) w l e)

  step_fits : (place : Place) (number : ℕ) (words : List (List ℕ)) (l : Line) → ((k : Literal) (r : Reason) → is_literal study.size k ≡ true → is_reason study r ≡ true → Fits place number (So k r)) → ((r : Reason) → is_reason study r ≡ true → Fits place number (Clash r)) → read_step study words ≡ Some l → Fits place number l
  step_fits place number words l so clash e = elim (or_is (keyed (codes "so") (read_so study) words) _ l e) [
    | inl s ↦ let k = keyed_is (codes "so") _ words l s in so_fits k.0 k.2
    | inr c ↦
        let k = keyed_is (codes "clash") _ words l c in
        let b = keyed_is (codes "by") _ k.0 l k.2 in
        let m = map_is Clash (read_reason study b.0) l b.2 in
        subst (Fits place number) m.2 (clash m.0 (reason_in b.0 m.0 m.1))
  ]
    where
      so_fits : (ws : List (List ℕ)) → read_so study ws ≡ Some l → Fits place number l
      so_fits [] f = absurd (cc)
      so_fits (w ∷ ws) f =
          let t = then_is _ (read_literal study.size w) l f in
          let m = map_is (So t.0) (keyed (codes "by") (read_reason study) ws) l t.2 in
          let k = keyed_is (codes "by") (read_reason study) ws m.0 m.1 in
          subst (Fits place number) m.2 (so t.0 m.0 (literal_read_in w t.0 t.1) (reason_in k.0 m.0 k.2))

  row_fits : (place : Place) (number : ℕ) (words : List (List ℕ)) (l : Line) → ((p o : ℕ) → p < sort_count study.size Profile → o < outcome_count study.size.kind study.size.alternatives → Fits place number (Row p o)) → read_row study words ≡ Some l → Fits place number l
  row_fits place number [] l row e = absurd (cc)
  row_fits place number (w ∷ words) l row e =
      let t = then_is _ (read_profile study.size w) l e in
      let o = one_is _ words l t.2 in
      let m = map_is (Row t.0) (read_outcome study.size o.0) l o.2 in
      subst (Fits place number) m.2 (row t.0 m.0 (profile_in w t.0 t.1) (from_below _ m.0 (named_in (outcome_text study.size) (below (outcome_count study.size.kind study.size.alternatives)) o.0 m.0 m.1)))

  names_fit : (place : Place) (number : ℕ) (key : List ℕ) (f : List (List ℕ) → Line) → ((ns : List (List ℕ)) → Fits place number (f ns)) → (words : List (List ℕ)) (l : Line) → keyed key (λ ws. option_map f (names ws)) words ≡ Some l → Fits place number l
  names_fit place number key f h words l e =
      let k = keyed_is key _ words l e in
      let m = map_is f (names k.0) l k.2 in
      subst (Fits place number) m.2 (h m.0)

  witness_fits : (number : ℕ) (words : List (List ℕ)) (l : Line) → read_witness words ≡ Some l → Fits AtWitness number l
  witness_fits number [] l e = absurd (cc)
  witness_fits number (name ∷ words) l e =
      let t = test_is (is_name name) _ l e in
      elim (or_is (keyed (codes "rule") (one_word (λ w. option_map (WithRule name) (read_number w))) words) _ l t.1) [
        | inl r ↦ last_word (Fits AtWitness number) (codes "rule") read_number (WithRule name) (λ w n h. tt) words l r
        | inr r ↦ last_word (Fits AtWitness number) (codes "open") read_number (WithOpen name) (λ w n h. tt) words l r
      ]

  verdict_fits : (number : ℕ) (l : Line) → IsIn verdicts l → Fits AtVerdict number l
  verdict_fits number l (inl e) = subst (Fits AtVerdict number) e tt
  verdict_fits number l (inr (inl e)) = subst (Fits AtVerdict number) e tt
  verdict_fits number l (inr (inr (inl e))) = subst (Fits AtVerdict number) e tt
  verdict_fits number l (inr (inr (inr i))) = absurd i

  pub wanted_fits : (place : Place) (number : ℕ) (words : List (List ℕ)) (l : Line) → wanted study place number words ≡ Some l → Fits place number l
  wanted_fits AtTitle number words l e =
      let k = keyed_is (codes "bench") _ words l e in
      let j = keyed_is (codes "report") _ k.0 l k.2 in
      let o = one_is _ j.0 l j.2 in
      let m = map_is Title (read_version o.0) l o.2 in
      subst (Fits AtTitle number) m.2 (named_in number_text versions o.0 m.0 m.1)
  wanted_fits AtKind number words l e = last_word (Fits AtKind number) (codes "kind") read_kind KindIs (λ w k h. tt) words l e
  wanted_fits AtVoters number words l e = last_word (Fits AtVoters number) (codes "voters") read_number VotersAre (λ w k h. tt) words l e
  wanted_fits AtAlternatives number words l e = last_word (Fits AtAlternatives number) (codes "alternatives") read_number AlternativesAre (λ w k h. tt) words l e
  wanted_fits AtBallots number words l e =
      let k = keyed_is (codes "ballots") _ words l e in
      let m = map_is BallotsAre (read_places study.size.alternatives k.0) l k.2 in
      subst (Fits AtBallots number) m.2 (places_in study.size.alternatives k.0 m.0 m.1)
  wanted_fits AtAbsent number words l e =
      last_word (Fits AtAbsent number) (codes "absent") read_absent AbsentIs (λ w a h. tt) words l e
  wanted_fits AtAxioms number words l e = names_fit AtAxioms number (codes "axioms") AxiomsAre (λ ns. tt) words l e
  wanted_fits AtVerdict number words l e =
      let k = keyed_is (codes "verdict") _ words l e in
      let o = one_is _ k.0 l k.2 in
      verdict_fits number l (named_in verdict_word verdicts o.0 l o.2)
  wanted_fits AtLimit number words l e = last_word (Fits AtLimit number) (codes "conflicts") read_number LimitIs (λ w k h. tt) words l e
  wanted_fits AtRule number words l e = last_word (Fits AtRule number) (codes "rule") read_number RuleOf (λ w k h. tt) words l e
  wanted_fits AtRow number words l e = row_fits AtRow number words l (λ p o h g. (h, g)) e
  wanted_fits AtCore number words l e = names_fit AtCore number (codes "core") CoreIs (λ ns. tt) words l e
  wanted_fits AtLemmas number words l e = last_word (Fits AtLemmas number) (codes "lemmas") read_positive LemmasAre positive_some words l e
  wanted_fits AtLemma number words l e =
      let k = keyed_is (codes "lemma") _ words l e in
      let o = one_is (read_heading number) k.0 l k.2 in
      let t = test_is (bytes_eq o.0 (number_text number)) (Some (Heading number)) l o.2 in
      let same : Heading number ≡ l = cc in
      subst (Fits AtLemma number) same refl
  wanted_fits AtSuppose number words l e = elim (or_is (read_suppose study words) (read_step study words) l e) [
    | inl s ↦ last_word (Fits AtSuppose number) (codes "suppose") (read_literal study.size) Suppose (λ w k h. literal_read_in w k h) words l s
    | inr t ↦ step_fits AtSuppose number words l (λ k r h g. (h, g)) (λ r h. h) t
  ]
  wanted_fits AtStep number words l e = step_fits AtStep number words l (λ k r h g. (h, g)) (λ r h. h) e
  wanted_fits AtWitness number words l e = let k = keyed_is (codes "without") read_witness words l e in witness_fits number k.0 l k.2
  wanted_fits AtWitnessRow number words l e = row_fits AtWitnessRow number words l (λ p o h g. (h, g)) e
  wanted_fits (AtEnd v) number words l e =
      let k = keyed_is (codes "end") _ words l e in
      subst (Fits (AtEnd v) number) (none_is End k.0 l k.2).1 tt
  wanted_fits (AtNothing v) number words l e = absurd (cc)
