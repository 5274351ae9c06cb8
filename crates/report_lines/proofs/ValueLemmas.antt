-- What a value, a profile or an outcome is named by.
use Rattle.std.proofs.Common.{length, get_or, ◌⊎◌, inl, inr, ◌≡◌, ◌≢◌, refl, sym, ap, ◌∙◌, subst, ℕ, ◌+◌, ◌-◌, ◌<◌, ◌≤◌, Option, Some, None, List, [], ◌∷◌, arith, option_map, IfSome, IfNone}
use Rattle.vocab.specs.declared.kinds.Sort.TheVariants.{Voter, Alt, Ballot, Profile}
use Rattle.vocab.specs.Size.{Extent, IsSize, ballot_count, factorial, sort_count, outcome_count}
use Rattle.meaning.specs.Space.{below}
use Rattle.meaning.specs.Texts.{letter, ballot_text, profile_text, ranking_text, outcome_text}
use Rattle.verdicts.specs.Numbers.{number_text, read_number, saturated}
use Rattle.verdicts.specs.Reading.{read_place}
use Rattle.verdicts.specs.Texts.{named_by, value_text, read_profile, read_outcome, read_value}
use Rattle.verdicts.proofs.NumberLaws.{text_read, read_text}
use Rattle.verdicts.proofs.WordLaws.{named_below, from_below}
use Rattle.verdicts.proofs.PrintLaws.{named_nothing}
use Rattle.verdicts.proofs.TextLaws.{profiles_same, rankings_same, ballots_same, outcomes_same, values_same}

abbrev Own : (ℕ → List ℕ) → ℕ → Type 0
Own text_of n = (u v : ℕ) → u < n → v < n → text_of u ≡ text_of v → u ≡ v

-- a number whose text this is, where numbers have texts of their own
found : (text_of : ℕ → List ℕ) (n v : ℕ) (text : List ℕ) → Own text_of n → v < n → text ≡ text_of v → Some v ≡ named_by text_of (below n) text
found text_of n v text own l e = sym (ap (named_by text_of (below n)) e ∙ named_below text_of n v (λ u h same. own u v h l same) l)

-- the text of no number
missing : (text_of : ℕ → List ℕ) (n : ℕ) (text : List ℕ) → ((v : ℕ) → v < n → text ≢ text_of v) → None ≡ named_by text_of (below n) text
missing text_of n text h = sym (named_nothing text_of (below n) text (λ v i. h v (from_below n v i)))

-- a text of one byte is that byte
pub one_byte : (text : List ℕ) → length text ≡ 1 → text ≡ get_or text 0 0 ∷ []
one_byte [] h = absurd (omega (arith, h))
one_byte (b ∷ []) h = refl
one_byte (b ∷ c ∷ text) h = absurd (omega (arith, h))

module _ (size : Extent) (is : IsSize size) (text : List ℕ) where
  pub profile_found : (p : ℕ) → (p < sort_count size Profile) × (text ≡ profile_text size p) → Some p ≡ read_profile size text
  profile_found p h = found (profile_text size) (sort_count size Profile) p text (profiles_same size is) h.0 h.1

  pub profile_missing : ((p : ℕ) → p < sort_count size Profile → text ≢ profile_text size p) → None ≡ read_profile size text
  profile_missing h = missing (profile_text size) (sort_count size Profile) text h

  abbrev HasPlace : ℕ → Option ℕ → Type 0
  HasPlace m r = IfSome r (λ p. (p < factorial m) × (text ≡ ranking_text m p))

  abbrev HasNone : ℕ → Option ℕ → Type 0
  HasNone m r = IfNone r ((p : ℕ) → p < factorial m → text ≢ ranking_text m p)

  own_place : (r : Option ℕ) → HasPlace size.alternatives r → HasNone size.alternatives r → r ≡ read_place size.alternatives text
  own_place (Some p) h k = found (ranking_text size.alternatives) (factorial size.alternatives) p text (rankings_same size is) h.0 h.1
  own_place None h k = missing (ranking_text size.alternatives) (factorial size.alternatives) text k

  pub place_is : (m : ℕ) → m ≡ size.alternatives → (r : Option ℕ) → HasPlace m r → HasNone m r → r ≡ read_place size.alternatives text
  place_is m same r h k = own_place r (subst (λ n. HasPlace n r) same h) (subst (λ n. HasNone n r) same k)

  pub ballot_is : (r : Option ℕ) → IfSome r (λ b. (b < ballot_count size) × (text ≡ ballot_text size b)) → IfNone r ((b : ℕ) → b < ballot_count size → text ≢ ballot_text size b) → r ≡ read_value size Ballot text
  ballot_is (Some b) h k = found (ballot_text size) (ballot_count size) b text (ballots_same size is) h.0 h.1
  ballot_is None h k = missing (ballot_text size) (ballot_count size) text k

  pub outcome_found : (o : ℕ) → (o < outcome_count size.kind size.alternatives) × (text ≡ outcome_text size o) → Some o ≡ read_outcome size text
  outcome_found o h = found (outcome_text size) (outcome_count size.kind size.alternatives) o text (outcomes_same size is) h.0 h.1

  pub outcome_missing : ((o : ℕ) → o < outcome_count size.kind size.alternatives → text ≢ outcome_text size o) → None ≡ read_outcome size text
  outcome_missing h = missing (outcome_text size) (outcome_count size.kind size.alternatives) text h

  -- a voter is a number from 1
  read_of : (i : ℕ) → text ≡ number_text (i + 1) → read_number text ≡ Some (i + 1)
  read_of i e = ap read_number e ∙ read_text (i + 1)

  pub voter_none : None ≡ option_map saturated (read_number text) → None ≡ read_value size Voter text
  voter_none e = missing (value_text size Voter) size.voters text (λ i l same. none_not (read_number text) (i + 1) e (read_of i same))
    where
      none_not : (o : Option ℕ) (n : ℕ) → None ≡ option_map saturated o → o ≡ Some n → ⊥
      none_not None n e h = cc
      none_not (Some m) n e h = cc

  pub voter_out : (n : ℕ) → Some n ≡ option_map saturated (read_number text) → (n ≡ 0) ⊎ (size.voters < n) → None ≡ read_value size Voter text
  voter_out n e out = missing (value_text size Voter) size.voters text (λ i l same. none_not i l (e ∙ ap (option_map saturated) (read_of i same)))
    where
      none_not : (i : ℕ) → i < size.voters → Some n ≡ Some (saturated (i + 1)) → ⊥
      none_not i l e = let same : n ≡ saturated (i + 1) = cc in elim out [ inl z ↦ omega (arith, same, z) | inr m ↦ omega (arith, same, m, l, is.few_voters) ]

  pub voter_found : (n : ℕ) → Some n ≡ option_map saturated (read_number text) → n ≢ 0 → n ≤ size.voters → Some (n - 1) ≡ read_value size Voter text
  voter_found n e some within = by_number (read_number text) refl
    where
      by_number : (o : Option ℕ) → read_number text ≡ o → Some (n - 1) ≡ read_value size Voter text
      by_number None h = let none : Some n ≡ None = e ∙ ap (option_map saturated) h in absurd (cc)
      by_number (Some m) h =
          let held : Some n ≡ Some (saturated m) = e ∙ ap (option_map saturated) h in
          let same : n ≡ saturated m = cc in
          let is_m : m ≡ n - 1 + 1 = omega (arith, same, some, within, is.few_voters) in
          found (value_text size Voter) size.voters (n - 1) text (values_same size is Voter) (omega (arith, some, within)) (text_read text m h ∙ ap (λ k. number_text k) is_m)

  pub alternative_none : ((x : ℕ) → x < size.alternatives → text ≢ letter x ∷ []) → None ≡ read_value size Alt text
  alternative_none h = missing (value_text size Alt) size.alternatives text h

  pub alternative_found : (x : ℕ) → x < size.alternatives → text ≡ letter x ∷ [] → Some x ≡ read_value size Alt text
  alternative_found x l e = found (value_text size Alt) size.alternatives x text (values_same size is Alt) l e

  pub alternative_none_of : length text ≡ 1 → ((x : ℕ) → x < size.alternatives → get_or text 0 0 ≢ letter x) → None ≡ read_value size Alt text
  alternative_none_of one h = alternative_none (λ x l e. h x l (ap (λ t. get_or t 0 0) e))

  pub alternative_long : length text ≢ 1 → None ≡ read_value size Alt text
  alternative_long h = alternative_none (λ x l e. h (ap length e))
