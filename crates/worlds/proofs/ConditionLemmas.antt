-- The parts of what can be evaluated can be evaluated.
use Rattle.std.proofs.Common.{◌≡◌, ap, ◌∙◌, sym, ℕ, zero, suc, inl, inr, ◌+◌, ◌<◌, ◌≤◌, true, false, max, List, [], ◌∷◌, ◌++◌, length, arith, length-append, true≢false, lt-ltb, eqb-true, leb-true}
use Rattle.std.specs.Prelude.{◌&&◌, ◌==◌, not, nat_lt, nat_le, slice_get}
use Rattle.std.specs.List.{list_any}
use Rattle.std.proofs.lemmas.Bool.{and_parts, and_from, or_cases, false_from_ne_true}
use Rattle.vocab.specs.declared.kinds.Sort.{Sort}
use Rattle.vocab.specs.declared.kinds.Sort.TheVariants.{Voter, Alt, Ballot, Profile}
use Rattle.vocab.specs.declared.literals.Literal.TheVariants.{Wins, Above}
use Rattle.vocab.specs.Formula.{quantifier_depth}
use Rattle.vocab.specs.Size.{has_all_ballots, Extent, sort_count}
use Rattle.vocab.specs.Sorted.{same_sort, all_sorts, is_option_sort, has_winners, is_of_sort, is_sorted, are_of_sorts}
use Rattle.vocab.specs.Study.{is_sentence}
use Rattle.vocab.specs.Titled.{Titled}
use Rattle.vocab.specs.Tree.{TermTree, Tree, Var, With, SwapVoters, SwapAlts, Swap, Equal, Prefers, Better, Casts, Majority, WinsAt, Ranks, Leaf, Not, Both, Either, Implies, Same, All, Exists}
use Rattle.meaning.specs.Literals.{is_literal}
use Rattle.meaning.specs.Truth.{value}
use Rattle.meaning.proofs.LiteralLaws.{of_comparison, of_winner}
use Rattle.meaning.proofs.RangeLaws.{have_values}
use Rattle.worlds.specs.Conditions.{IsTermAt, HasSort, IsAtomAt, IsFormulaAt, IsEvaluable}

-- ---- values of variables

-- one more variable with a value of its sort
one_more_value : (size : Extent) (sorts : List Sort) (env : List ℕ) (s : Sort) (v : ℕ) → are_of_sorts size sorts env ≡ true → v < sort_count size s → are_of_sorts size (sorts ++ s ∷ []) (env ++ v ∷ []) ≡ true
one_more_value size [] [] s v h lt = and_from _ _ (lt-ltb v (sort_count size s) lt) (λ _. true)
one_more_value size [] (w ∷ env) s v h lt = absurd (true≢false (sym h))
one_more_value size (r ∷ sorts) [] s v h lt = absurd (true≢false (sym h))
one_more_value size (r ∷ sorts) (w ∷ env) s v h lt =
    let p = and_parts (nat_lt w (sort_count size r)) (are_of_sorts size sorts env) h in
    and_from _ _ p.0 (one_more_value size sorts env s v p.1 lt)

-- a variable that has a sort has a value
bound : (size : Extent) (sorts : List Sort) (env : List ℕ) (s : Sort) (level : ℕ) → are_of_sorts size sorts env ≡ true → is_option_sort s (slice_get sorts level) ≡ true → level < length env
bound size [] env s level h k = absurd (true≢false (sym k))
bound size (r ∷ sorts) [] s level h k = absurd (true≢false (sym h))
bound size (r ∷ sorts) (w ∷ env) s zero h k = omega arith
bound size (r ∷ sorts) (w ∷ env) s (suc level) h k =
    let p = and_parts (nat_lt w (sort_count size r)) (are_of_sorts size sorts env) h in
    let inner = bound size sorts env s level p.1 k in
    omega arith

-- ---- terms

module _ (size : Extent) where
  pub value_in_range : (s : Sort) (t : TermTree) (env : List ℕ) → IsTermAt size s t env → value size env t < sort_count size s
  value_in_range s t env h = have_values size h.sorts env h.in_range s t h.sorted

  pub variable_bound : (level : ℕ) (env : List ℕ) → HasSort size (Var level) env → level < length env
  variable_bound level env h = bound size h.1.sorts env h.0 level h.1.in_range h.1.sorted

  term_at : (sorts : List Sort) (env : List ℕ) (s : Sort) (t : TermTree) → are_of_sorts size sorts env ≡ true → is_of_sort size sorts s t ≡ true → IsTermAt size s t env
  term_at sorts env s t h k = record { sorts = sorts; in_range = h; sorted = k }

  -- the three parts of a term that has three
  pub with_parts : (p i b : TermTree) (env : List ℕ) → HasSort size (With p i b) env → IsTermAt size Profile p env × IsTermAt size Voter i env × IsTermAt size Ballot b env
  with_parts p i b env h =
      let r = h.1.sorts in
      let one = and_parts _ (is_of_sort size r Ballot b) h.1.sorted in
      let two = and_parts _ (is_of_sort size r Voter i) one.0 in
      let three = and_parts (same_sort h.0 Profile) (is_of_sort size r Profile p) two.0 in
      (term_at r env Profile p h.1.in_range three.1, term_at r env Voter i h.1.in_range two.1, term_at r env Ballot b h.1.in_range one.1)

  pub swap_voters_parts : (p i j : TermTree) (env : List ℕ) → HasSort size (SwapVoters p i j) env → IsTermAt size Profile p env × IsTermAt size Voter i env × IsTermAt size Voter j env
  swap_voters_parts p i j env h =
      let r = h.1.sorts in
      let one = and_parts _ (is_of_sort size r Voter j) h.1.sorted in
      let two = and_parts _ (is_of_sort size r Voter i) one.0 in
      let three = and_parts (same_sort h.0 Profile) (is_of_sort size r Profile p) two.0 in
      (term_at r env Profile p h.1.in_range three.1, term_at r env Voter i h.1.in_range two.1, term_at r env Voter j h.1.in_range one.1)

  pub swap_alts_parts : (p x y : TermTree) (env : List ℕ) → HasSort size (SwapAlts p x y) env → IsTermAt size Profile p env × IsTermAt size Alt x env × IsTermAt size Alt y env × (has_all_ballots size ≡ true)
  swap_alts_parts p x y env h =
      let r = h.1.sorts in
      let may = and_parts _ (has_all_ballots size) h.1.sorted in
      let one = and_parts _ (is_of_sort size r Alt y) may.0 in
      let two = and_parts _ (is_of_sort size r Alt x) one.0 in
      let three = and_parts (same_sort h.0 Profile) (is_of_sort size r Profile p) two.0 in
      (term_at r env Profile p h.1.in_range three.1, term_at r env Alt x h.1.in_range two.1, term_at r env Alt y h.1.in_range one.1, may.1)

  pub swap_parts : (x y z : TermTree) (env : List ℕ) → HasSort size (Swap x y z) env → IsTermAt size Alt x env × IsTermAt size Alt y env × IsTermAt size Alt z env
  swap_parts x y z env h =
      let r = h.1.sorts in
      let one = and_parts _ (is_of_sort size r Alt z) h.1.sorted in
      let two = and_parts _ (is_of_sort size r Alt y) one.0 in
      let three = and_parts (same_sort h.0 Alt) (is_of_sort size r Alt x) two.0 in
      (term_at r env Alt x h.1.in_range three.1, term_at r env Alt y h.1.in_range two.1, term_at r env Alt z h.1.in_range one.1)

  -- ---- atoms

  pub prefers_parts : (i x y p : TermTree) (env : List ℕ) → IsAtomAt size (Prefers i x y p) env → IsTermAt size Voter i env × IsTermAt size Alt x env × IsTermAt size Alt y env × IsTermAt size Profile p env
  prefers_parts i x y p env h =
      let r = h.sorts in
      let one = and_parts _ (is_of_sort size r Profile p) h.sorted in
      let two = and_parts _ (is_of_sort size r Alt y) one.0 in
      let three = and_parts (is_of_sort size r Voter i) (is_of_sort size r Alt x) two.0 in
      (term_at r env Voter i h.in_range three.0, term_at r env Alt x h.in_range three.1, term_at r env Alt y h.in_range two.1, term_at r env Profile p h.in_range one.1)

  pub better_parts : (b x y : TermTree) (env : List ℕ) → IsAtomAt size (Better b x y) env → IsTermAt size Ballot b env × IsTermAt size Alt x env × IsTermAt size Alt y env
  better_parts b x y env h =
      let r = h.sorts in
      let one = and_parts _ (is_of_sort size r Alt y) h.sorted in
      let two = and_parts (is_of_sort size r Ballot b) (is_of_sort size r Alt x) one.0 in
      (term_at r env Ballot b h.in_range two.0, term_at r env Alt x h.in_range two.1, term_at r env Alt y h.in_range one.1)

  pub casts_parts : (i b p : TermTree) (env : List ℕ) → IsAtomAt size (Casts i b p) env → IsTermAt size Voter i env × IsTermAt size Ballot b env × IsTermAt size Profile p env
  casts_parts i b p env h =
      let r = h.sorts in
      let one = and_parts _ (is_of_sort size r Profile p) h.sorted in
      let two = and_parts (is_of_sort size r Voter i) (is_of_sort size r Ballot b) one.0 in
      (term_at r env Voter i h.in_range two.0, term_at r env Ballot b h.in_range two.1, term_at r env Profile p h.in_range one.1)

  pub majority_parts : (x y p : TermTree) (env : List ℕ) → IsAtomAt size (Majority x y p) env → IsTermAt size Alt x env × IsTermAt size Alt y env × IsTermAt size Profile p env
  majority_parts x y p env h =
      let r = h.sorts in
      let one = and_parts _ (is_of_sort size r Profile p) h.sorted in
      let two = and_parts (is_of_sort size r Alt x) (is_of_sort size r Alt y) one.0 in
      (term_at r env Alt x h.in_range two.0, term_at r env Alt y h.in_range two.1, term_at r env Profile p h.in_range one.1)

  pub wins_parts : (x p : TermTree) (env : List ℕ) → IsAtomAt size (WinsAt x p) env → IsTermAt size Alt x env × IsTermAt size Profile p env
  wins_parts x p env h =
      let r = h.sorts in
      let one = and_parts _ (is_of_sort size r Profile p) h.sorted in
      let two = and_parts (has_winners size.kind) (is_of_sort size r Alt x) one.0 in
      (term_at r env Alt x h.in_range two.1, term_at r env Profile p h.in_range one.1)

  both_sorts : (sorts : List Sort) (env : List ℕ) (s t : TermTree) (rest : List Sort) → are_of_sorts size sorts env ≡ true → list_any (λ sort. is_of_sort size sorts sort s && is_of_sort size sorts sort t) rest ≡ true → HasSort size s env × HasSort size t env
  both_sorts sorts env s t [] h k = absurd (true≢false (sym k))
  both_sorts sorts env s t (sort ∷ rest) h k = elim (or_cases _ _ k) [
    | inl e ↦ let p = and_parts (is_of_sort size sorts sort s) (is_of_sort size sorts sort t) e in ((sort, term_at sorts env sort s h p.0), (sort, term_at sorts env sort t h p.1))
    | inr e ↦ both_sorts sorts env s t rest h e
  ]

  pub equal_parts : (s t : TermTree) (env : List ℕ) → IsAtomAt size (Equal s t) env → HasSort size s env × HasSort size t env
  equal_parts s t env h = both_sorts h.sorts env s t all_sorts h.in_range h.sorted

  pub ranks_parts : (x y p : TermTree) (env : List ℕ) → IsAtomAt size (Ranks x y p) env → IsTermAt size Alt x env × IsTermAt size Alt y env × IsTermAt size Profile p env
  ranks_parts x y p env h =
      let r = h.sorts in
      let one = and_parts _ (is_of_sort size r Profile p) h.sorted in
      let two = and_parts _ (is_of_sort size r Alt y) one.0 in
      let three = and_parts (not (has_winners size.kind)) (is_of_sort size r Alt x) two.0 in
      (term_at r env Alt x h.in_range three.1, term_at r env Alt y h.in_range two.1, term_at r env Profile p h.in_range one.1)

  -- ---- literals

  -- an atom on winners is a literal of the size
  pub wins_literal : (x y : TermTree) (env : List ℕ) → IsAtomAt size (WinsAt x y) env → is_literal size (Wins (value size env x) (value size env y)) ≡ true
  wins_literal x p env h =
      let r = h.sorts in
      let parts = wins_parts x p env h in
      let one = and_parts _ (is_of_sort size r Profile p) h.sorted in
      let two = and_parts (has_winners size.kind) (is_of_sort size r Alt x) one.0 in
      of_winner size size.kind (Wins (value size env x) (value size env p)) two.0
      (and_from _ _ (lt-ltb _ _ (value_in_range Alt x env parts.0)) (lt-ltb _ _ (value_in_range Profile p env parts.1)))

  -- and so is one on ranks of two different alternatives
  pub ranks_literal : (x y p : TermTree) (env : List ℕ) → IsAtomAt size (Ranks x y p) env → (value size env x == value size env y) ≡ false → is_literal size (Above (value size env x) (value size env y) (value size env p)) ≡ true
  ranks_literal x y p env h ne =
      let r = h.sorts in
      let parts = ranks_parts x y p env h in
      let one = and_parts _ (is_of_sort size r Profile p) h.sorted in
      let two = and_parts _ (is_of_sort size r Alt y) one.0 in
      let three = and_parts (not (has_winners size.kind)) (is_of_sort size r Alt x) two.0 in
      of_comparison size size.kind (Above (value size env x) (value size env y) (value size env p)) three.0
      (and_from _ _ (and_from _ _ (and_from _ _ (lt-ltb _ _ (value_in_range Alt x env parts.0)) (lt-ltb _ _ (value_in_range Alt y env parts.1))) (ap not ne)) (lt-ltb _ _ (value_in_range Profile p env parts.2)))

  -- a literal that is made of the values of the terms
  pub wins_taken : (x p : TermTree) (env : List ℕ) (a q : ℕ) → a ≡ value size env x → q ≡ value size env p → IsAtomAt size (WinsAt x p) env → is_literal size (Wins a q) ≡ true
  wins_taken x p env a q ea eq h = rw (ea, eq) (wins_literal x p env h)

  pub ranks_taken : (x y p : TermTree) (env : List ℕ) (a b q : ℕ) → a ≡ value size env x → b ≡ value size env y → q ≡ value size env p → IsAtomAt size (Ranks x y p) env → (a ≡ b → ⊥) → is_literal size (Above a b q) ≡ true
  ranks_taken x y p env a b q ea eb eq h ne = rw (ea, eb, eq) (ranks_literal x y p env h (false_from_ne_true _ (λ e. ne (ea ∙ eqb-true (value size env x) (value size env y) e ∙ sym eb))))

  -- ---- formulas

  -- a quantifier's body, at a value of its sort
  pub quantified : (s : Sort) (f : Tree) (sorts : List Sort) (env : List ℕ) (v : ℕ) → are_of_sorts size sorts env ≡ true → is_sorted size (sorts ++ s ∷ []) f ≡ true → length env + (quantifier_depth f + 1) ≤ 12 → v < sort_count size s
      → IsFormulaAt size f (env ++ v ∷ [])
  quantified s f sorts env v h k room lt = record {
    sorts = sorts ++ s ∷ [];
    in_range = one_more_value size sorts env s v h lt;
    sorted = k;
    room = omega (arith, length-append env (v ∷ []));
  }

  -- both parts of a formula that joins two
  pub two_parts : (f g : Tree) (sorts : List Sort) (env : List ℕ) → are_of_sorts size sorts env ≡ true → is_sorted size sorts f && is_sorted size sorts g ≡ true → length env + max (quantifier_depth f) (quantifier_depth g) ≤ 12
      → IsFormulaAt size f env × IsFormulaAt size g env
  two_parts f g sorts env h k room =
      let p = and_parts (is_sorted size sorts f) (is_sorted size sorts g) k in
      (record { sorts = sorts; in_range = h; sorted = p.0; room = omega arith }, record { sorts = sorts; in_range = h; sorted = p.1; room = omega arith })

  -- what is well sorted can be evaluated part by part
  pub evaluable : (f : Tree) (env : List ℕ) → IsFormulaAt size f env → IsEvaluable size f env
  evaluable (Leaf a) env h = record { sorts = h.sorts; in_range = h.in_range; sorted = h.sorted }
  evaluable (Not f) env h = evaluable f env (record { sorts = h.sorts; in_range = h.in_range; sorted = h.sorted; room = h.room })
  evaluable (Both f g) env h = let p = two_parts f g h.sorts env h.in_range h.sorted h.room in (evaluable f env p.0, evaluable g env p.1)
  evaluable (Either f g) env h = let p = two_parts f g h.sorts env h.in_range h.sorted h.room in (evaluable f env p.0, evaluable g env p.1)
  evaluable (Implies f g) env h = let p = two_parts f g h.sorts env h.in_range h.sorted h.room in (evaluable f env p.0, evaluable g env p.1)
  evaluable (Same f g) env h = let p = two_parts f g h.sorts env h.in_range h.sorted h.room in (evaluable f env p.0, evaluable g env p.1)
  evaluable (All s f) env h = (let room : length env + (quantifier_depth f + 1) ≤ 12 = h.room in omega arith, λ v lt. evaluable f (env ++ v ∷ []) (quantified s f h.sorts env v h.in_range h.sorted h.room lt))
  evaluable (Exists s f) env h = (let room : length env + (quantifier_depth f + 1) ≤ 12 = h.room in omega arith, λ v lt. evaluable f (env ++ v ∷ []) (quantified s f h.sorts env v h.in_range h.sorted h.room lt))

-- an axiom's sentence can be evaluated under no values
pub evaluable_sentence : (size : Extent) (a : Titled) → is_sentence size a ≡ true → IsEvaluable size a.sentence []
evaluable_sentence size a h =
    let p = and_parts (is_sorted size [] a.sentence) (nat_le (quantifier_depth a.sentence) 12) h in
    let few : quantifier_depth a.sentence ≤ 12 = leb-true (quantifier_depth a.sentence) 12 p.1 in
    evaluable size a.sentence [] (record { sorts = []; in_range = λ _. true; sorted = p.0; room = omega (arith, few) })
