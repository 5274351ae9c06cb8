-- What is found, one rule more, and at the end.
use Rattle.std.proofs.Common.{◌≡◌, refl, sym, ◌∙◌, ap, subst, ℕ, ◌+◌, ◌≤◌, Bool, true, false, ◌||◌, List, [], ◌∷◌, ◌++◌, length, length-append, append_assoc, append-nil, inr, arith}
use Rattle.std.specs.Prelude.{nat_lt}
use Rattle.std.specs.List.{list_all, AllByRecursion}
use Rattle.std.specs.Str.{bytes_eq}
use Rattle.std.proofs.lemmas.Bool.{and_parts, and_from}
use Rattle.std.proofs.lemmas.List.Folds.{list_all-append, list_any-append}
use Rattle.vocab.specs.declared.kinds.Sort.TheVariants.{Profile}
use Rattle.vocab.specs.Size.{sort_count}
use Rattle.vocab.specs.Study.{Question, is_sentence}
use Rattle.cnf.specs.declared.derivations.Line.{Line}
use Rattle.cnf.specs.ClauseList.{ClauseList, IsFullFor}
use Rattle.cnf.specs.Derived.{IsAccepted}
use Rattle.cnf.specs.Fresh.{is_over}
use Rattle.cnf.specs.Sat.{Clause, is_clause_true, is_satisfied}
use Rattle.cnf.proofs.SoundLaws.{accepted_unsatisfiable}
use Rattle.meaning.specs.StudyClauses.{clauses_for}
use Rattle.meaning.specs.Laws.{AreBitsOf}
use Rattle.meaning.specs.Space.{below}
use Rattle.meaning.specs.Variables.{bits_of, variable_count}
use Rattle.meaning.proofs.RuleLaws.{are_rules}
use Rattle.meaning.proofs.CoreLaws.{core_in_range}
use Rattle.clause_form.proofs.OverLaws.{clauses_over}
use Rattle.core_reduce.specs.Tables.{IsTableOf}
use Rattle.search_logs.specs.Spent.{all_places}
use Rattle.search_logs.proofs.PlaceLaws.{core_below}
use Rattle.rule_lists.specs.declared.answers.Ending.{Ending}
use Rattle.rule_lists.specs.declared.answers.RuleList.{RuleList}
use Rattle.rule_lists.specs.RuleLists.{has_table, are_tables_rising, IsRuleOf, IsListCutShort, IsOtherRule, EndsWith, IsRuleList}
use Rattle.rule_lists.specs.Finding.{denial, AreFoundRules, PutsTable}
use Rattle.rule_lists.proofs.LeavingLaws.{denial_leaves_out, denial_length, denial_over, is_fresh, leave_one_more, others_satisfy, rule_of, table_is_rule}
use Rattle.meaning.proofs.RankingLaws.{All-append}

all_parts : (P : List ℕ → Type 0) (xs ys : List (List ℕ)) → AllByRecursion P (xs ++ ys) → AllByRecursion P xs × AllByRecursion P ys
all_parts P [] ys h = (tt, h)
all_parts P (x ∷ xs) ys h = let p = all_parts P xs ys h.1 in ((h.0, p.0), p.1)

among : (a b t : Bool) → ((a || b) || (t || false)) ≡ (a || (t || b))
among true b t = refl
among false true true = refl
among false true false = refl
among false false true = refl
among false false false = refl

module _ (study : Question) (sentences : list_all (is_sentence study.size) study.axioms ≡ true) where
  places_in_range : list_all (λ k. nat_lt k (length study.axioms)) (all_places study) ≡ true
  places_in_range = core_in_range 0 (length study.axioms) (below (length study.axioms)) (core_below (length study.axioms))

  -- the bits of a rule satisfy the clauses of all axioms, and a table of bits that do is a rule
  pub table_is_right : (v : ℕ → Bool) → is_satisfied v (clauses_for study.size study.axioms (all_places study)) ≡ true → (table : List ℕ) → IsTableOf study.size v (sort_count study.size Profile) table
      → IsRuleOf study table × AreBitsOf study.size table v
  table_is_right v sat table of =
      let r = (are_rules study.size study.axioms sentences (all_places study) places_in_range v).0 sat in
      let same : table ≡ r.0 = table_is_rule study.size table r.0 v of (rule_of study r.0 r.1) r.2 in
      subst (λ (t : List ℕ). IsRuleOf study t × AreBitsOf study.size t v) (sym same) (r.1, r.2)

  module _ (tables : List (List ℕ)) (clauses : List Clause) (f : AreFoundRules study tables clauses) where
    pub parts_satisfied : (v : ℕ → Bool) → is_satisfied v clauses ≡ true → (is_satisfied v (clauses_for study.size study.axioms (all_places study)) ≡ true) × (is_satisfied v f.left_out ≡ true)
    parts_satisfied v sat =
        and_parts _ _ (sym (list_all-append (is_clause_true v) (clauses_for study.size study.axioms (all_places study)) f.left_out) ∙ ap (is_satisfied v) (sym f.is) ∙ sat)

    -- what satisfies the clauses is the bits of a rule that is none of those
    pub next_rule : (v : ℕ → Bool) → is_satisfied v clauses ≡ true → (table : List ℕ) → IsTableOf study.size v (sort_count study.size Profile) table
        → IsRuleOf study table × AreBitsOf study.size table v × (has_table tables table ≡ false)
    next_rule v sat table of =
        let p = parts_satisfied v sat in
        let r = table_is_right v p.0 table of in
        (r.0, r.1, sym (f.same table) ∙ is_fresh study f.found f.left_out f.each v p.1 table r.1)

    -- so there is another rule
    pub another_rule : (v : ℕ → Bool) → is_satisfied v clauses ≡ true → (table : List ℕ) × IsOtherRule study tables table
    another_rule v sat =
        let p = parts_satisfied v sat in
        let r = (are_rules study.size study.axioms sentences (all_places study) places_in_range v).0 p.0 in
        (r.0, record { right = r.1; other = sym (f.same r.0) ∙ is_fresh study f.found f.left_out f.each v p.1 r.0 r.2 })

    -- where a derivation refutes the clauses, each rule is one of those
    pub no_other : (lines : List Line) → IsAccepted clauses lines → (table : List ℕ) → IsRuleOf study table → has_table tables table ≡ true
    no_other lines accepted table rule = cases (has_table tables table) refl
      where
        satisfied : has_table tables table ≡ false → is_satisfied (bits_of study.size table) clauses ≡ true
        satisfied other =
            ap (is_satisfied (bits_of study.size table)) f.is
            ∙ list_all-append (is_clause_true (bits_of study.size table)) (clauses_for study.size study.axioms (all_places study)) f.left_out
            ∙ and_from _ _ ((are_rules study.size study.axioms sentences (all_places study) places_in_range (bits_of study.size table)).1 (table, rule, λ i low high. refl))
            (others_satisfy study f.found f.left_out f.each f.found_right table rule (f.same table ∙ other))

        cases : (b : Bool) → has_table tables table ≡ b → b ≡ true
        cases true e = refl
        cases false e = absurd (accepted_unsatisfiable clauses lines accepted (bits_of study.size table) (satisfied e))

    -- one rule more
    pub found_more : (v : ℕ → Bool) (table : List ℕ) → IsRuleOf study table → AreBitsOf study.size table v → (new : List (List ℕ)) → PutsTable tables new table → are_tables_rising new ≡ true
        → AreFoundRules study new (clauses ++ denial v (variable_count study.size) ∷ [])
    found_more v table rule same new put rising =
        let clause = denial v (variable_count study.size) in record {
          right = subst (AllByRecursion (IsRuleOf study)) (sym put.new_is) (let p = all_parts (IsRuleOf study) put.before put.after (subst (AllByRecursion (IsRuleOf study)) put.old_is f.right) in All-append (IsRuleOf study) put.before (table ∷ put.after) p.0 (rule, p.1));
          rising = rising;
          found = f.found ++ table ∷ [];
          same = λ t.
              list_any-append (bytes_eq t) f.found (table ∷ [])
              ∙ ap (λ (b : Bool). b || (bytes_eq t table || false)) (f.same t ∙ ap (λ (ts : List (List ℕ)). has_table ts t) put.old_is ∙ list_any-append (bytes_eq t) put.before put.after)
              ∙ among (has_table put.before t) (has_table put.after t) (bytes_eq t table)
              ∙ sym (list_any-append (bytes_eq t) put.before (table ∷ put.after))
              ∙ ap (λ (ts : List (List ℕ)). has_table ts t) (sym put.new_is);
          found_right = All-append (IsRuleOf study) f.found (table ∷ []) f.found_right (rule, tt);
          left_out = f.left_out ++ clause ∷ [];
          each = leave_one_more study f.found f.left_out table clause f.each (denial_leaves_out study table v same);
          is = ap (λ (cs : List Clause). cs ++ clause ∷ []) f.is ∙ append_assoc (clauses_for study.size study.axioms (all_places study)) f.left_out (clause ∷ []);
          over = list_all-append (is_over (variable_count study.size)) clauses (clause ∷ []) ∙ and_from _ _ f.over (and_from _ _ (denial_over v (variable_count study.size) (variable_count study.size) (omega arith)) refl);
        }

    pub put_length : (table : List ℕ) (new : List (List ℕ)) → PutsTable tables new table → length new ≡ length tables + 1
    put_length table new put =
        ap length put.new_is ∙ length-append put.before (table ∷ put.after)
        ∙ (let both : length tables ≡ length put.before + length put.after = ap length put.old_is ∙ length-append put.before put.after in
        let more : length put.before + length (table ∷ put.after) ≡ length tables + 1 = omega (arith, both) in more)

    pub cut_by_room : (list : ClauseList) → list.clauses ≡ clauses → (v : ℕ → Bool) (clause : Clause) → clause ≡ denial v (variable_count study.size) → IsFullFor list (length clause) → IsListCutShort study tables
    cut_by_room list same v clause is full = record {
      found = f.found;
      same = f.same;
      left_out = f.left_out;
      each = f.each;
      cause = inr (list, same ∙ f.is, subst (IsFullFor list) (ap length is ∙ denial_length v (variable_count study.size)) full);
    }

    -- what was found is a list that ends so
    pub makes_list : (list : RuleList) (ending : Ending) → list.tables ≡ tables → list.ending ≡ ending → (most : ℕ) → length tables ≤ most → EndsWith study most tables ending
        → IsRuleList study most list
    makes_list list ending same ends most few h = record {
      right = subst (AllByRecursion (IsRuleOf study)) (sym same) f.right;
      rising = subst (λ (ts : List (List ℕ)). are_tables_rising ts ≡ true) (sym same) f.rising;
      few = subst (λ (ts : List (List ℕ)). length ts ≤ most) (sym same) few;
      ends = subst (λ (ts : List (List ℕ)). EndsWith study most ts list.ending) (sym same) (subst (EndsWith study most tables) (sym ends) h);
    }

  -- at first nothing is found
  pub found_nothing : (clauses : List Clause) → clauses ≡ clauses_for study.size study.axioms (all_places study) → AreFoundRules study [] clauses
  found_nothing clauses same = record {
    right = tt;
    rising = refl;
    found = [];
    same = λ t. refl;
    found_right = tt;
    left_out = [];
    each = tt;
    is = same ∙ sym (append-nil (clauses_for study.size study.axioms (all_places study)));
    over = ap (list_all (is_over (variable_count study.size))) same ∙ clauses_over study.size study.axioms sentences (all_places study);
  }
