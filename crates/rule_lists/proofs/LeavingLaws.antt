-- Clauses that leave out rules.
use Rattle.std.proofs.Common.{◌≡◌, refl, sym, ◌∙◌, ap, subst, ℕ, zero, suc, ◌+◌, ◌<◌, ◌≤◌, Bool, true, false, not, ◌&&◌, List, [], ◌∷◌, ◌++◌, length, length-append, inl, inr, ◌⊎◌, arith, true≢false, eqb-true, le-leb}
use Rattle.std.specs.Prelude.{◌==◌, nat_lt, nat_le, slice_get, slice_index}
use Rattle.std.specs.Bool.{beq}
use Rattle.std.specs.List.{list_all, AllByRecursion}
use Rattle.std.specs.Str.{bytes_eq}
use Rattle.std.proofs.lemmas.Bool.{and_parts, and_from, or_parts, or_from}
use Rattle.std.proofs.lemmas.List.{ext_get_or}
use Rattle.std.proofs.lemmas.List.Folds.{list_all-append, list_any-append}
use Rattle.std.proofs.lemmas.Slice.Eq.{bytes_eq-Decides}
use Rattle.vocab.specs.declared.kinds.Sort.TheVariants.{Profile}
use Rattle.vocab.specs.Size.{Extent, sort_count, outcome_count}
use Rattle.vocab.specs.Study.{Question}
use Rattle.cnf.specs.Fresh.{is_over}
use Rattle.cnf.specs.Sat.{Clause, is_clause_true, is_lit_true, is_satisfied}
use Rattle.cnf.specs.Signed.{Signed}
use Rattle.meaning.specs.Laws.{AreBitsOf}
use Rattle.meaning.specs.Truth.{holds_of, is_axiom_true, is_rule}
use Rattle.meaning.specs.Variables.{bits, bits_of, literal_of, variable_count}
use Rattle.meaning.proofs.StoryLaws.{outcome_in_range}
use Rattle.meaning.proofs.VariableLaws.{are_variables}
use Rattle.outcomes.specs.OutcomeBits.{AreBitsAt}
use Rattle.outcomes.proofs.BitLaws.{variable_in, says_one_outcome}
use Rattle.core_reduce.specs.Tables.{IsTableOf}
use Rattle.search_logs.specs.Spent.{all_places}
use Rattle.rule_lists.specs.RuleLists.{has_table, IsRuleOf, LeavesOut, LeaveOut}
use Rattle.rule_lists.specs.Finding.{denial}

-- ---- one assignment

differs : (b : Bool) → beq b (not b) ≡ false
differs true = refl
differs false = refl

is_same : (a b : Bool) → beq a (not b) ≡ false → a ≡ b
is_same true true h = refl
is_same true false h = absurd (true≢false h)
is_same false true h = absurd (true≢false h)
is_same false false h = refl

abbrev pub lit_at : (ℕ → Bool) → ℕ → Signed
lit_at v i = record { variable = i + 1; positive = not (v (i + 1)) }

-- one variable more
pub denial_more : (v : ℕ → Bool) (n : ℕ) → denial v (n + 1) ≡ denial v n ++ lit_at v n ∷ []
denial_more v n = ap (denial v) next
  where
    next : n + 1 ≡ suc n
    next = omega arith

pub denial_length : (v : ℕ → Bool) (n : ℕ) → length (denial v n) ≡ n
denial_length v zero = refl
denial_length v (suc n) = length-append (denial v n) (lit_at v n ∷ []) ∙ ap (λ (k : ℕ). k + 1) (denial_length v n) ∙ last
  where
    last : n + 1 ≡ suc n
    last = omega arith

-- no variable is above their number
pub denial_over : (v : ℕ → Bool) (most n : ℕ) → n ≤ most → is_over most (denial v n) ≡ true
denial_over v most zero h = refl
denial_over v most (suc n) h =
    list_all-append (λ (l : Signed). nat_le 1 l.variable && nat_le l.variable most) (denial v n) (lit_at v n ∷ [])
    ∙ and_from _ _ (denial_over v most n (omega (arith, h)))
    (and_from _ _ (and_from _ _ (le-leb 1 (n + 1) (omega arith)) (le-leb (n + 1) most (omega (arith, h)))) refl)

module _ (v w : ℕ → Bool) where
  pub denied : (n : ℕ) → ((i : ℕ) → 1 ≤ i → i ≤ n → w i ≡ v i) → is_clause_true w (denial v n) ≡ false
  denied zero same = refl
  denied (suc n) same =
      list_any-append (is_lit_true w) (denial v n) (lit_at v n ∷ [])
      ∙ or_from _ _ (denied n (λ i low high. same i low (omega (arith, high))))
      (or_from _ _ (ap (λ (b : Bool). beq b (not (v (n + 1)))) (same (n + 1) (omega arith) (omega arith)) ∙ differs (v (n + 1))) refl)

  pub denies_alone : (n : ℕ) → is_clause_true w (denial v n) ≡ false → (i : ℕ) → 1 ≤ i → i ≤ n → w i ≡ v i
  denies_alone zero h i low high = absurd (omega (arith, low, high))
  denies_alone (suc n) h i low high =
      let parts = or_parts _ _ (sym (list_any-append (is_lit_true w) (denial v n) (lit_at v n ∷ [])) ∙ h) in
      let last = is_same (w (n + 1)) (v (n + 1)) (or_parts _ _ parts.1).0 in
      elim (up_to i n high) [
        | inl earlier ↦ denies_alone n parts.0 i low earlier
        | inr here ↦ subst (λ (k : ℕ). w k ≡ v k) (sym here) last
      ]
    where
      le_or : (i n : ℕ) → (i ≤ n) ⊎ (n < i)
      le_or zero n = inl (omega arith)
      le_or (suc i) zero = inr (omega arith)
      le_or (suc i) (suc n) = elim (le_or i n) [ inl a ↦ inl (omega (arith, a)) | inr a ↦ inr (omega (arith, a)) ]

      up_to : (i n : ℕ) → i ≤ suc n → (i ≤ n) ⊎ (i ≡ n + 1)
      up_to i n h = elim (le_or i n) [ inl a ↦ inl a | inr a ↦ inr (omega (arith, a, h)) ]

-- ---- rules and their bits

module _ (size : Extent) where
  bits_at : (table : List ℕ) (v : ℕ → Bool) → AreBitsOf size table v → (p : ℕ) → p < sort_count size Profile → AreBitsAt size p (slice_index table p) v
  bits_at table v same p lt i low high =
      let s : Signed = record { variable = i; positive = true } in
      let some : 1 ≤ i = omega (arith, low) in
      let all : i ≤ variable_count size = variable_in p (sort_count size Profile) (bits size.kind size.alternatives) i lt high in
      same i some all ∙ ap (λ (q : ℕ). holds_of size (slice_index table q) (literal_of size s)) ((are_variables size).to_profile p s low high)

  rule_count : (table : List ℕ) → is_rule size table ≡ true → length table ≡ sort_count size Profile
  rule_count table h = eqb-true (length table) (sort_count size Profile) (and_parts (length table == sort_count size Profile) (list_all (λ o. nat_lt o (outcome_count size.kind size.alternatives)) table) h).0

  -- of two tables with the same bits, whose outcomes are in range, all outcomes are the same
  pub one_table : (t u : List ℕ) → length t ≡ sort_count size Profile → length u ≡ sort_count size Profile
      → ((p : ℕ) → p < sort_count size Profile → slice_index t p < outcome_count size.kind size.alternatives)
      → ((p : ℕ) → p < sort_count size Profile → slice_index u p < outcome_count size.kind size.alternatives)
      → (v : ℕ → Bool) → ((p : ℕ) → p < sort_count size Profile → AreBitsAt size p (slice_index t p) v)
      → ((p : ℕ) → p < sort_count size Profile → AreBitsAt size p (slice_index u p) v) → t ≡ u
  one_table t u count_t count_u in_t in_u v at_t at_u =
      ext_get_or 0 t u (count_t ∙ sym count_u) (λ p lt.
      let in_p : p < sort_count size Profile = omega (arith, lt, count_t) in
      (says_one_outcome size p in_p).one v (slice_index t p) (slice_index u p) (in_t p in_p) (in_u p in_p) (at_t p in_p) (at_u p in_p))

  in_range : (table : List ℕ) → is_rule size table ≡ true → (p : ℕ) → p < sort_count size Profile → slice_index table p < outcome_count size.kind size.alternatives
  in_range table rule p lt = outcome_in_range size table rule (let some : 0 < sort_count size Profile = omega (arith, lt) in some) p

  -- two rules with the same bits are the same
  pub one_rule : (t u : List ℕ) → is_rule size t ≡ true → is_rule size u ≡ true → (v : ℕ → Bool) → AreBitsOf size t v → AreBitsOf size u v → t ≡ u
  one_rule t u rule_t rule_u v of_t of_u =
      one_table t u (rule_count t rule_t) (rule_count u rule_u) (in_range t rule_t) (in_range u rule_u) v (bits_at t v of_t) (bits_at u v of_u)

  -- the table of bits is the rule with these bits
  pub table_is_rule : (t u : List ℕ) (v : ℕ → Bool) → IsTableOf size v (sort_count size Profile) t → is_rule size u ≡ true → AreBitsOf size u v → t ≡ u
  table_is_rule t u v of rule_u of_u = one_table t u of.count (rule_count u rule_u) of.in_range (in_range u rule_u) v of.bits (bits_at u v of_u)

module _ (study : Question) where
  pub rule_of : (table : List ℕ) → IsRuleOf study table → is_rule study.size table ≡ true
  rule_of table h = (and_parts (is_rule study.size table) (list_all (λ k. is_axiom_true study.size table (slice_get study.axioms k)) (all_places study)) h).0

  -- the clause that denies the bits of a rule leaves it out
  pub denial_leaves_out : (table : List ℕ) (v : ℕ → Bool) → AreBitsOf study.size table v → LeavesOut study table (denial v (variable_count study.size))
  denial_leaves_out table v same = record {
    itself = λ w of. denied v w (variable_count study.size) (λ i low high. of i low high ∙ sym (same i low high));
    alone = λ w h i low high. denies_alone v w (variable_count study.size) h i low high ∙ same i low high;
  }

  pub leave_one_more : (tables : List (List ℕ)) (clauses : List Clause) (table : List ℕ) (clause : Clause) → LeaveOut study tables clauses → LeavesOut study table clause
      → LeaveOut study (tables ++ table ∷ []) (clauses ++ clause ∷ [])
  leave_one_more [] [] table clause h more = (more, tt)
  leave_one_more [] (c ∷ clauses) table clause h more = absurd h
  leave_one_more (t ∷ tables) [] table clause h more = absurd h
  leave_one_more (t ∷ tables) (c ∷ clauses) table clause h more = (h.0, leave_one_more tables clauses table clause h.1 more)

  -- what satisfies the clauses that leave rules out is none of these
  pub is_fresh : (tables : List (List ℕ)) (clauses : List Clause) → LeaveOut study tables clauses → (v : ℕ → Bool) → is_satisfied v clauses ≡ true → (table : List ℕ)
      → AreBitsOf study.size table v → has_table tables table ≡ false
  is_fresh [] clauses h v sat table same = refl
  is_fresh (t ∷ tables) [] h v sat table same = absurd h
  is_fresh (t ∷ tables) (c ∷ clauses) h v sat table same =
      let p = and_parts (is_clause_true v c) (is_satisfied v clauses) sat in
      or_from (bytes_eq table t) (has_table tables table) (other (bytes_eq table t) refl p.0) (is_fresh tables clauses h.1 v p.1 table same)
    where
      other : (b : Bool) → bytes_eq table t ≡ b → is_clause_true v c ≡ true → b ≡ false
      other false e k = refl
      other true e k =
          let here : table ≡ t = (bytes_eq-Decides table t).0 e in
          absurd (true≢false (sym k ∙ h.0.itself v (subst (λ (x : List ℕ). AreBitsOf study.size x v) here same)))

  -- the bits of another rule satisfy the clauses that leave rules out
  pub others_satisfy : (tables : List (List ℕ)) (clauses : List Clause) → LeaveOut study tables clauses → AllByRecursion (IsRuleOf study) tables → (table : List ℕ) → IsRuleOf study table
      → has_table tables table ≡ false → is_satisfied (bits_of study.size table) clauses ≡ true
  others_satisfy [] [] h rules table rule other = refl
  others_satisfy [] (c ∷ clauses) h rules table rule other = absurd h
  others_satisfy (t ∷ tables) [] h rules table rule other = absurd h
  others_satisfy (t ∷ tables) (c ∷ clauses) h rules table rule other =
      let p = or_parts (bytes_eq table t) (has_table tables table) other in
      and_from (is_clause_true (bits_of study.size table) c) (is_satisfied (bits_of study.size table) clauses)
      (true_at (is_clause_true (bits_of study.size table) c) refl p.0) (others_satisfy tables clauses h.1 rules.1 table rule p.1)
    where
      true_at : (b : Bool) → is_clause_true (bits_of study.size table) c ≡ b → bytes_eq table t ≡ false → b ≡ true
      true_at true e k = refl
      true_at false e k =
          let same : table ≡ t = one_rule study.size table t (rule_of table rule) (rule_of t rules.0) (bits_of study.size table) (λ i low high. refl) (h.0.alone (bits_of study.size table) e) in
          absurd (true≢false (sym ((bytes_eq-Decides table t).1 same) ∙ k))
