-- No line of a right report is longer than 4,096 bytes: it has at most 77 words of at most 52 bytes each, or says
-- the ballots, which are at most 120 words of at most 5 bytes each.
use Rattle.std.proofs.Common.{◌≡◌, refl, sym, ap, subst, ℕ, zero, suc, ◌+◌, ◌*◌, ◌^◌, ◌<◌, ◌≤◌, inl, inr, Bool, true, false, not, ◌&&◌, List, [], ◌∷◌, ◌++◌, map, length, arith, ltb-true, leb-true, le-leb, le-ltb, length-append, eqb-true, cond}
use Rattle.std.specs.Prelude.{◌==◌, nat_lt, nat_le, slice_get, Option, Some, None}
use Rattle.std.specs.List.{list_all, join_with_byte}
use Rattle.std.specs.Cmp.Lexicographic.{pointwise}
use Rattle.std.proofs.lemmas.Bool.{and_parts, and_from, cases_lt, ltb-false, not-true}
use Rattle.std.proofs.lemmas.List.{length-map, length-replicate, get_or_past}
use Rattle.std.proofs.lemmas.Fmt.{length-decimal-le}
use Rattle.vocab.specs.declared.kinds.Kind.{Kind}
use Rattle.vocab.specs.declared.kinds.Kind.TheVariants.{Choice, Ranking, Sets}
use Rattle.vocab.specs.declared.kinds.Sort.{Sort}
use Rattle.vocab.specs.declared.kinds.Sort.TheVariants.{Voter, Alt, Ballot, Profile}
use Rattle.vocab.specs.declared.literals.Literal.{Literal}
use Rattle.vocab.specs.declared.literals.Literal.TheVariants.{Wins, Loses, Above}
use Rattle.vocab.specs.Formula.{quantifier_depth}
use Rattle.vocab.specs.Name.{is_name, has_name_shape}
use Rattle.vocab.specs.Size.{Extent, IsSize, ballot_places, cast_count, factorial, sort_count}
use Rattle.vocab.specs.Sorted.{is_sorted}
use Rattle.vocab.specs.Study.{Question, is_sentence, HasFewAxioms}
use Rattle.vocab.specs.Titled.{Titled}
use Rattle.vocab.proofs.PrefixLemmas.{prefix_within_depth}
use Rattle.meaning.specs.Space.{rankings, ranking, ranking_at, casts_of, cast_bases}
use Rattle.meaning.specs.Subsets.{elements, is_element}
use Rattle.meaning.specs.Texts.{ballot_text, cast_text, letters_or_dash, profile_text, ranking_text, outcome_text_of, outcome_text, letter}
use Rattle.meaning.proofs.BallotLaws.{ballots_within, kept_short}
use Rattle.meaning.proofs.RankingLaws.{are_rankings}
use Rattle.meaning.proofs.SpaceLaws.{length-rankings, factorial_small}
use Rattle.verdicts.specs.Numbers.{number_text}
use Rattle.verdicts.specs.Texts.{value_text, literal_text}
use Rattle.verdicts.specs.declared.verdicts.Verdict.{Verdict}
use Rattle.verdicts.specs.declared.verdicts.Verdict.TheVariants.{Possible, Impossible, Undecided}
use Rattle.meaning.specs.declared.cores.Witness.{Witness}
use Rattle.meaning.specs.declared.cores.Witness.TheVariants.{Rule, Open}
use Rattle.meaning.specs.declared.stories.Reason.{Reason}
use Rattle.meaning.specs.declared.stories.Reason.TheVariants.{Axiom as ByAxiom, Outcome as ByOutcome, Lemma as ByLemma}
use Rattle.meaning.specs.declared.stories.StoryStep.{StoryStep}
use Rattle.meaning.specs.declared.stories.Lemma.{Lemma}
use Rattle.meaning.specs.Literals.{is_literal}
use Rattle.meaning.specs.Stories.{is_story}
use Rattle.meaning.specs.Cores.{is_core_from, is_witness}
use Rattle.meaning.proofs.TestLaws.{list_all-both}
use Rattle.meaning.proofs.DigitLaws.{length-digits_of}
use Rattle.verdicts.specs.Lines.{Line, Title, KindIs, VotersAre, AlternativesAre, BallotsAre, AbsentIs, AxiomsAre, SaysImpossible, LimitIs, RuleOf, Row, CoreIs, LemmasAre, Heading, Suppose, Clash, WithRule, WithOpen, End, sorts_of, name_at, value_words, reason_words, line_words, line_text}
use Rattle.verdicts.specs.Report.{row_lines, step_line, lemma_lines, story_lines, domain_lines, head_lines, witness_lines, all_witness_lines, verdict_lines, report_lines, is_reason, is_right, lemma_count}
use Rattle.verdicts.specs.Laws.{IsReportable}
use Rattle.verdicts.proofs.PrintLaws.{decimal_is}
use Rattle.verdicts.proofs.RightLaws.{is_sound_reason, is_sound_step, is_sound_lemma, sound_story}

abbrev pub within : ℕ → List ℕ → Bool
within n w = nat_le (length w) n

within_from : (n : ℕ) (w : List ℕ) → length w ≤ n → within n w ≡ true
within_from n w h = le-leb (length w) n h

-- ---- joined words

pub joined_within : (c k : ℕ) (ws : List (List ℕ)) → list_all (within k) ws ≡ true → length (join_with_byte c ws) ≤ length ws * (k + 1)
joined_within c k [] h = omega arith
joined_within c k (w ∷ []) h = let p = leb-true (length w) k (and_parts (within k w) true h).0 in omega (arith, p)
joined_within c k (w ∷ v ∷ ws) h =
    let p = and_parts (within k w) (list_all (within k) (v ∷ ws)) h in
    omega (arith, leb-true (length w) k p.0, joined_within c k (v ∷ ws) p.1, length-append w (c ∷ join_with_byte c (v ∷ ws)))

-- ---- words

-- a number below 2^64 has at most 20 digits
number_is_short : (n : ℕ) → n < 2 ^ 64 → length (number_text n) ≤ 20
number_is_short n h = subst (λ text. length text ≤ 20) (decimal_is n h) (length-decimal-le 20 n (omega arith) (omega (arith, h)) h)

module _ (size : Extent) (is : IsSize size) where
  abbrev m : ℕ
  m = size.alternatives

  ranking_within : (b : ℕ) → length (ranking m b) ≤ m
  ranking_within b = elim (cases_lt b (factorial m)) [
    | inl l ↦ let e : length (ranking m b) ≡ m = ((are_rankings m).each b l).size in omega (arith, e)
    | inr le ↦
        let e : ranking m b ≡ [] = get_or_past (rankings m) b [] (omega (arith, le, length-rankings m)) in
        subst (λ (r : List ℕ). length r ≤ m) (sym e) (omega arith)
  ]

  ranking_text_within : (place : ℕ) → length (ranking_text m place) ≤ 5
  ranking_text_within place = omega (arith, length-map (ranking m place) letter, ranking_within place, is.few_alternatives)

  rankings_within : (places : List ℕ) → list_all (within 7) (map (ranking_text m) places) ≡ true
  rankings_within [] = refl
  rankings_within (place ∷ places) =
      let here = within_from 7 (ranking_text m place) (omega (arith, ranking_text_within place)) in
      and_from _ _ here (rankings_within places)

  few_ballots : length (ballot_places size) ≤ 120
  few_ballots = omega (arith, ballots_within size, factorial_small m is.few_alternatives)

  letters_or_dash_within : (o : Option ℕ) → length (letters_or_dash m o) ≤ 5
  letters_or_dash_within None = omega arith
  letters_or_dash_within (Some place) = ranking_text_within place

  ballot_within : (b : ℕ) → length (ballot_text size b) ≤ 5
  ballot_within b = by_place (slice_get (ballot_places size) b)
    where
      by_place : (o : Option ℕ) → length (map letter (ranking_at m o)) ≤ 5
      by_place None = omega arith
      by_place (Some place) = ranking_text_within place

  casts_within : (cs : List ℕ) → list_all (within 5) (map (cast_text size) cs) ≡ true
  casts_within [] = refl
  casts_within (c ∷ cs) = and_from _ _ (within_from 5 (cast_text size c) (letters_or_dash_within (slice_get (ballot_places size) c))) (casts_within cs)

  profile_within : (p : ℕ) → length (profile_text size p) ≤ 48
  profile_within p =
      let all = joined_within 124 5 (map (cast_text size) (casts_of size p)) (casts_within (casts_of size p)) in
      omega (arith, all, length-map (casts_of size p) (cast_text size), length-digits_of (cast_bases size) p, length-replicate size.voters (cast_count size), is.few_voters)

  literal_within : (l : Literal) → length (literal_text size l) ≤ 52
  literal_within (Wins x p) = omega (arith, profile_within p)
  literal_within (Loses x p) = omega (arith, profile_within p)
  literal_within (Above x y p) = omega (arith, profile_within p)

  outcome_within_of : (k : Kind) (o : ℕ) → length (outcome_text_of size k o) ≤ 52
  outcome_within_of Choice o = omega arith
  outcome_within_of Ranking o = omega (arith, ranking_text_within o)
  outcome_within_of Sets o = omega (arith, length-map (elements m o) letter, kept_short (is_element o) m 0, is.few_alternatives)

  value_within : (s : Sort) (v : ℕ) → v < sort_count size s → length (value_text size s v) ≤ 52
  value_within Voter v h = omega (arith, number_is_short (v + 1) (omega (arith, h, is.few_voters)))
  value_within Alt v h = omega arith
  value_within Ballot v h = omega (arith, ballot_within v)
  value_within Profile v h = omega (arith, profile_within v)

name_within : (w : List ℕ) → is_name w ≡ true → within 52 w ≡ true
name_within w h = within_from 52 w (omega (arith, leb-true (length w) 32 (and_parts (has_name_shape w) (nat_le (length w) 32) h).1))

pub name_at_within : (axioms : List Titled) → list_all (λ a. is_name a.name) axioms ≡ true → (k : ℕ) → within 52 (name_at axioms k) ≡ true
name_at_within [] h k = refl
name_at_within (a ∷ axioms) h zero = name_within a.name (and_parts (is_name a.name) (list_all (λ a. is_name a.name) axioms) h).0
name_at_within (a ∷ axioms) h (suc k) = name_at_within axioms (and_parts (is_name a.name) (list_all (λ a. is_name a.name) axioms) h).1 k

own_names_within : (axioms : List Titled) → list_all (λ a. is_name a.name) axioms ≡ true → list_all (within 52) (map (λ a. a.name) axioms) ≡ true
own_names_within [] h = refl
own_names_within (a ∷ axioms) h = let p = and_parts (is_name a.name) (list_all (λ a. is_name a.name) axioms) h in and_from _ _ (name_within a.name p.0) (own_names_within axioms p.1)

core_names_within : (axioms : List Titled) → list_all (λ a. is_name a.name) axioms ≡ true → (core : List ℕ) → list_all (within 52) (map (name_at axioms) core) ≡ true
core_names_within axioms h [] = refl
core_names_within axioms h (k ∷ core) = and_from _ _ (name_at_within axioms h k) (core_names_within axioms h core)

-- distinct places are few
few_places : (from end : ℕ) (core : List ℕ) → from ≤ end → is_core_from from end core ≡ true → from + length core ≤ end
few_places from end [] le h = omega (arith, le)
few_places from end (k ∷ core) le h =
    let p = and_parts (not (nat_lt k from) && nat_lt k end) (is_core_from (k + 1) end core) h in
    let q = and_parts (not (nat_lt k from)) (nat_lt k end) p.0 in
    let less = ltb-true k end q.1 in
    omega (arith, ltb-false k from (not-true _ q.0), less, few_places (k + 1) end core (omega (arith, less)) p.1)

-- an axiom has at most 12 leading universals
pub few_sorts : (size : Extent) (axioms : List Titled) → list_all (is_sentence size) axioms ≡ true → (k : ℕ) → length (sorts_of (slice_get axioms k)) ≤ 12
few_sorts size [] h k = omega arith
few_sorts size (a ∷ axioms) h zero =
    let p = and_parts (is_sorted size [] a.sentence) (nat_le (quantifier_depth a.sentence) 12) (and_parts (is_sentence size a) (list_all (is_sentence size) axioms) h).0 in
    omega (arith, leb-true (quantifier_depth a.sentence) 12 p.1, prefix_within_depth a.sentence)
few_sorts size (a ∷ axioms) h (suc k) = few_sorts size axioms (and_parts (is_sentence size a) (list_all (is_sentence size) axioms) h).1 k

module _ (study : Question) (is : IsReportable study) where
  -- a line of at most 4,096 bytes
  abbrev pub is_short : Line → Bool
  is_short l = not (nat_lt 4096 (length (line_text study l)))

  few_words : (l : Line) → list_all (within 52) (line_words study l) ≡ true → length (line_words study l) ≤ 77 → is_short l ≡ true
  few_words l h k = ap not (le-ltb 4096 (length (line_text study l)) (omega (arith, joined_within 32 52 (line_words study l) h, k)))

  pub short_number : (n : ℕ) → n < 2 ^ 64 → list_all (within 52) (number_text n ∷ []) ≡ true
  short_number n h = and_from _ _ (within_from 52 (number_text n) (omega (arith, number_is_short n h))) refl

  short_profile : (p : ℕ) → within 52 (profile_text study.size p) ≡ true
  short_profile p = within_from 52 (profile_text study.size p) (omega (arith, profile_within study.size is.size p))

  short_literal : (l : Literal) → within 52 (literal_text study.size l) ≡ true
  short_literal l = within_from 52 (literal_text study.size l) (literal_within study.size is.size l)

  pub few_profiles : sort_count study.size Profile < 2 ^ 64
  few_profiles = omega (arith, is.size.few_profiles)

  pub values_short : (sorts : List Sort) (values : List ℕ) → pointwise nat_lt values (map (sort_count study.size) sorts) ≡ true → (list_all (within 52) (value_words study sorts values) ≡ true) × (length (value_words study sorts values) ≤ length sorts)
  values_short [] values h = (refl, omega arith)
  values_short (s ∷ sorts) [] h = (refl, omega arith)
  values_short (s ∷ sorts) (v ∷ values) h =
      let p = and_parts (nat_lt v (sort_count study.size s)) (pointwise nat_lt values (map (sort_count study.size) sorts)) h in
      let rest = values_short sorts values p.1 in
      let here = within_from 52 (value_text study.size s v) (value_within study.size is.size s v (ltb-true v (sort_count study.size s) p.0)) in
      (and_from _ _ here rest.0, omega (arith, rest.1))

  module _ (n : ℕ) (few : n < 2 ^ 64) where
    reason_short : (r : Reason) → is_sound_reason study is n r ≡ true → (list_all (within 52) (reason_words study r) ≡ true) × (length (reason_words study r) ≤ 14)
    reason_short (ByAxiom k values) h =
        let p = and_parts (nat_lt k (length study.axioms)) _ (and_parts (is_reason study (ByAxiom k values)) true h).0 in
        let v = values_short (sorts_of (slice_get study.axioms k)) values p.1 in
        (and_from _ _ (name_at_within study.axioms is.names k) v.0, omega (arith, v.1, few_sorts study.size study.axioms is.taken.sentences k))
    reason_short (ByOutcome p) h = (and_from _ _ (short_profile p) refl, omega arith)
    reason_short (ByLemma j) h =
        let less = ltb-true j n h in
        (short_number (j + 1) (omega (arith, less, few)), omega arith)

    -- ---- the lines of a story

    suppose_short : (ls : List Literal) → list_all is_short (map Suppose ls) ≡ true
    suppose_short [] = refl
    suppose_short (l ∷ ls) = and_from _ _ (few_words (Suppose l) (and_from _ _ (short_literal l) refl) (omega arith)) (suppose_short ls)

    step_short : (step : StoryStep) → is_sound_step study is n step ≡ true → is_short (step_line step) ≡ true
    step_short step h =
        let p = and_parts (is_literal study.size step.literal) (is_sound_reason study is n step.reason) h in
        let r = reason_short step.reason p.1 in
        few_words (step_line step) (and_from _ _ (short_literal step.literal) r.0) (omega (arith, r.1))

    steps_short : (steps : List StoryStep) → list_all (is_sound_step study is n) steps ≡ true → list_all is_short (map step_line steps) ≡ true
    steps_short [] h = refl
    steps_short (step ∷ steps) h = let p = and_parts (is_sound_step study is n step) (list_all (is_sound_step study is n) steps) h in and_from _ _ (step_short step p.0) (steps_short steps p.1)

    lemma_short : (number : ℕ) (lemma : Lemma) → number < 2 ^ 64 → is_sound_lemma study is n lemma ≡ true → list_all is_short (lemma_lines number lemma) ≡ true
    lemma_short number lemma less h =
        let p = and_parts (list_all (is_literal study.size) lemma.suppose && list_all (is_sound_step study is n) lemma.steps) (is_sound_reason study is n lemma.last) h in
        let q = and_parts (list_all (is_literal study.size) lemma.suppose) (list_all (is_sound_step study is n) lemma.steps) p.0 in
        let r = reason_short lemma.last p.1 in
        let heading = few_words (Heading number) (short_number number less) (omega arith) in
        let last = few_words (Clash lemma.last) r.0 (omega (arith, r.1)) in
        list_all-both is_short (Heading number ∷ map Suppose lemma.suppose ++ map step_line lemma.steps) (Clash lemma.last ∷ [])
        (list_all-both is_short (Heading number ∷ map Suppose lemma.suppose) (map step_line lemma.steps) (and_from _ _ heading (suppose_short lemma.suppose)) (steps_short lemma.steps q.1))
        (and_from _ _ last refl)

    story_short : (number : ℕ) (story : List Lemma) → number + length story ≤ 2 ^ 64 → list_all (is_sound_lemma study is n) story ≡ true → list_all is_short (story_lines number story) ≡ true
    story_short number [] le h = refl
    story_short number (lemma ∷ story) le h =
        let p = and_parts (is_sound_lemma study is n lemma) (list_all (is_sound_lemma study is n) story) h in
        list_all-both is_short (lemma_lines number lemma) (story_lines (number + 1) story) (lemma_short number lemma (omega (arith, le)) p.0) (story_short (number + 1) story (omega (arith, le)) p.1)

  -- ---- the other lines

  row_short : (p o : ℕ) → is_short (Row p o) ≡ true
  row_short p o = few_words (Row p o) (and_from _ _ (short_profile p) (and_from _ _ (within_from 52 (outcome_text study.size o) (outcome_within_of study.size is.size study.size.kind o)) refl)) (omega arith)

  pub rows_short : (p : ℕ) (table : List ℕ) → list_all is_short (row_lines p table) ≡ true
  rows_short p [] = refl
  rows_short p (o ∷ table) = and_from _ _ (row_short p o) (rows_short (p + 1) table)

  kind_short : (k : Kind) → is_short (KindIs k) ≡ true
  kind_short Choice = refl
  kind_short Ranking = refl
  kind_short Sets = refl

  ballots_short : is_short (BallotsAre (ballot_places study.size)) ≡ true
  ballots_short =
      let places = ballot_places study.size in
      let words = line_words study (BallotsAre places) in
      let all : list_all (within 7) words ≡ true = rankings_within study.size is.size places in
      let few = few_ballots study.size is.size in
      let as_many = length-map places (ranking_text study.size.alternatives) in
      ap not (le-ltb 4096 (length (line_text study (BallotsAre places)))
      (omega (arith, joined_within 32 7 words all, as_many, few)))

  absent_short : (absent : Bool) → is_short (AbsentIs absent) ≡ true
  absent_short true = refl
  absent_short false = refl

  domain_short : (version : ℕ) → list_all is_short (domain_lines study version) ≡ true
  domain_short version = by_test (version == 2)
    where
      says : List Line
      says = BallotsAre (ballot_places study.size) ∷ AbsentIs study.size.absent ∷ []

      by_test : (b : Bool) → list_all is_short (cond b says []) ≡ true
      by_test true = and_from _ _ ballots_short (and_from _ _ (absent_short study.size.absent) refl)
      by_test false = refl

  head_short : HasFewAxioms study → (version : ℕ) → version < 2 ^ 64 → list_all is_short (head_lines study version) ≡ true
  head_short listed version few =
      let title = few_words (Title version) (short_number version few) (omega arith) in
      let voters = few_words (VotersAre study.size.voters) (short_number study.size.voters (omega (arith, is.size.few_voters))) (omega arith) in
      let alternatives = few_words (AlternativesAre study.size.alternatives) (short_number study.size.alternatives (omega (arith, is.size.few_alternatives))) (omega arith) in
      let names = few_words (AxiomsAre (map (λ a. a.name) study.axioms)) (own_names_within study.axioms is.names) (omega (arith, length-map study.axioms (λ (a : Titled). a.name), listed)) in
      let front =
      Title version ∷ KindIs study.size.kind ∷ VotersAre study.size.voters
      ∷ AlternativesAre study.size.alternatives ∷ [] in
      let kind = kind_short study.size.kind in
      let front_short : list_all is_short front ≡ true =
      and_from _ _ title (and_from _ _ kind (and_from _ _ voters (and_from _ _ alternatives refl))) in
      let domain = domain_lines study version in
      list_all-both is_short (front ++ domain) (AxiomsAre (map (λ a. a.name) study.axioms) ∷ [])
      (list_all-both is_short front domain front_short (domain_short version)) (and_from _ _ names refl)

  witness_short : (whole : List ℕ) (k : ℕ) (witness : Witness) → is_witness study.size study.axioms study.conflicts whole k witness ≡ true → list_all is_short (witness_lines study k witness) ≡ true
  witness_short whole k (Rule table) h =
      and_from _ _ (few_words (WithRule (name_at study.axioms k) (sort_count study.size Profile)) (and_from _ _ (name_at_within study.axioms is.names k) (short_number (sort_count study.size Profile) few_profiles)) (omega arith)) (rows_short 0 table)
  witness_short whole k (Open limit) h =
      and_from _ _ (few_words (WithOpen (name_at study.axioms k) limit) (and_from _ _ (name_at_within study.axioms is.names k) (short_number limit (omega (arith, eqb-true limit study.conflicts h, is.taken.few_conflicts)))) (omega arith)) refl

  witnesses_short : (whole core : List ℕ) (witnesses : List Witness) → pointwise (is_witness study.size study.axioms study.conflicts whole) core witnesses ≡ true → list_all is_short (all_witness_lines study core witnesses) ≡ true
  witnesses_short whole [] witnesses h = refl
  witnesses_short whole (k ∷ core) [] h = refl
  witnesses_short whole (k ∷ core) (witness ∷ witnesses) h =
      let p = and_parts (is_witness study.size study.axioms study.conflicts whole k witness) _ h in
      list_all-both is_short (witness_lines study k witness) (all_witness_lines study core witnesses) (witness_short whole k witness p.0) (witnesses_short whole core witnesses p.1)

  verdict_short : HasFewAxioms study → (verdict : Verdict) → is_right study verdict ≡ true → lemma_count verdict < 2 ^ 64 → list_all is_short (verdict_lines study verdict) ≡ true
  verdict_short listed (Possible table) h few = and_from _ _ (few_words (RuleOf (sort_count study.size Profile)) (short_number (sort_count study.size Profile) few_profiles) (omega arith)) (rows_short 0 table)
  verdict_short listed (Impossible core story witnesses) h few =
      let p = and_parts (is_story study.size study.axioms core story) _ h in
      let q = and_parts (is_core_from 0 (length study.axioms) core) _ p.1 in
      let lemmas = sound_story study is core (length story) [] story (omega arith) p.0 in
      let names = few_words (CoreIs (map (name_at study.axioms) core)) (core_names_within study.axioms is.names core) (omega (arith, length-map core (name_at study.axioms), few_places 0 (length study.axioms) core (omega arith) q.0, listed)) in
      let count = few_words (LemmasAre (length story)) (short_number (length story) few) (omega arith) in
      list_all-both is_short (SaysImpossible ∷ CoreIs (map (name_at study.axioms) core) ∷ LemmasAre (length story) ∷ story_lines 1 story) (all_witness_lines study core witnesses)
      (and_from _ _ names (and_from _ _ count (story_short (length story) few 1 story (omega (arith, few)) lemmas)))
      (witnesses_short core core witnesses q.1)
  verdict_short listed Undecided h few = and_from _ _ (few_words (LimitIs study.conflicts) (short_number study.conflicts (omega (arith, is.taken.few_conflicts))) (omega arith)) refl

  -- each line of the report of a right verdict is short
  pub report_short : HasFewAxioms study → (version : ℕ) (verdict : Verdict) → version < 2 ^ 64
      → is_right study verdict ≡ true → lemma_count verdict < 2 ^ 64
      → list_all is_short (report_lines study version verdict) ≡ true
  report_short listed version verdict low h few =
      let head = head_lines study version in
      let said = verdict_lines study verdict in
      list_all-both is_short (head ++ said) (End ∷ [])
      (list_all-both is_short head said (head_short listed version low) (verdict_short listed verdict h few)) refl
