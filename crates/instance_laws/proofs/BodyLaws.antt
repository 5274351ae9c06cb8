-- The body of an instance in words is true of the same rules as the instance.
use Rattle.std.proofs.Common.{◌≡◌, refl, sym, ap, ap₂, subst, ◌∙◌, ℕ, zero, suc, ◌+◌, ◌-◌, ◌<◌, ◌≤◌, Bool, true, false, cond, ◌&&◌, ◌||◌, not, List, [], ◌∷◌, ◌++◌, map, length, length-append, slice_get, Option, Some, None, true≢false, arith}
use Rattle.std.proofs.Math.Path.{fun_ext}
use Rattle.std.specs.Prelude.{◌==◌, nat_le, nat_lt, slice_index}
use Rattle.std.specs.Bool.{beq}
use Rattle.std.specs.Cmp.Lexicographic.{pointwise}
use Rattle.std.specs.List.{list_all, list_any}
use Rattle.std.specs.Option.{unwrap_or}
use Rattle.std.proofs.lemmas.Bool.{and_from, and_parts, le-leb, lt-ltb, ltb-true, not-true}
use Rattle.std.proofs.lemmas.List.{get_or_append_left}
use Rattle.std.proofs.lemmas.Option.{get_or_from_slice_get, slice_get_within}
use Rattle.vocab.specs.declared.kinds.Sort.{Sort}
use Rattle.vocab.specs.declared.kinds.Sort.TheVariants.{Voter, Alt, Ballot, Profile}
use Rattle.vocab.specs.Formula.{prefix_of, body_of, quantifier_depth}
use Rattle.vocab.specs.Size.{Extent, IsSize, sort_count}
use Rattle.vocab.specs.Sorted.{is_option_sort, same_sort}
use Rattle.vocab.specs.Tree.{TermTree, AtomTree, Tree, Var, Const, With, SwapVoters, SwapAlts, Swap, Equal, Prefers, Better, Casts, Majority, WinsAt, Ranks, Leaf, Not, Both, Either, Implies, Same, All, Exists}
use Rattle.meaning.specs.Space.{below, prefers, better, casts, majority, exchanged, with_ballot, with_voters_swapped, with_alts_swapped, is_above, ranking}
use Rattle.meaning.specs.Texts.{ballot_text}
use Rattle.meaning.specs.Truth.{value, is_atom_true, is_true_at, wins_in}
use Rattle.profiles.proofs.DistinctTexts.{have_texts_of_their_own}
use Rattle.sorts.specs.declared.symbols.Function.{Function}
use Rattle.sorts.specs.declared.symbols.Function.TheVariants as function
use Rattle.sorts.specs.declared.symbols.Predicate.{Predicate}
use Rattle.sorts.specs.declared.symbols.Predicate.TheVariants as predicate
use Rattle.sorts.specs.Constants.{voter_value, alternative_value, ballot_value}
use Rattle.sorts.specs.NamedTruth.{Assignment, function_value, is_said_truly, named_value, is_named_true}
use Rattle.sorts.specs.Symbols.{function_of, predicate_of}
use Rattle.sorts.proofs.ConstantLemmas.{read_is_value}
use Rattle.instance_text.specs.Bodies as body
use Rattle.instance_text.specs.Bodies.{ballot_letters, common_sort, constant, named_body, sort_at, variable_name, written}
use Rattle.instance_laws.specs.Laws.{BodiesSayInstances, is_atom, is_formula, is_term, with_values}
use Rattle.instance_laws.proofs.NameLemmas.{Names, front, leading, one_more}
use Rattle.std.specs.Prelude.{codes}

-- ---- symbols

named_with : function_of (codes "with") ≡ Some function.With
unfolding function_of
named_with = refl

named_swap_voters : function_of (codes "swap_voters") ≡ Some function.SwapVoters
unfolding function_of
named_swap_voters = refl

named_swap_alts : function_of (codes "swap_alts") ≡ Some function.SwapAlts
unfolding function_of
named_swap_alts = refl

named_swap : function_of (codes "swap") ≡ Some function.Swap
unfolding function_of
named_swap = refl

named_prefers : predicate_of (codes "prefers") ≡ Some predicate.Prefers
unfolding predicate_of
named_prefers = refl

named_better : predicate_of (codes "better") ≡ Some predicate.Better
unfolding predicate_of
named_better = refl

named_casts : predicate_of (codes "casts") ≡ Some predicate.Casts
unfolding predicate_of
named_casts = refl

named_majority : predicate_of (codes "majority") ≡ Some predicate.Majority
unfolding predicate_of
named_majority = refl

named_wins : predicate_of (codes "wins") ≡ Some predicate.Wins
unfolding predicate_of
named_wins = refl

named_ranks : predicate_of (codes "ranks") ≡ Some predicate.Ranks
unfolding predicate_of
named_ranks = refl

-- ---- equal parts

of_three : {A : Type 0} (f : ℕ → ℕ → ℕ → A) (a b c x y z : ℕ) → a ≡ x → b ≡ y → c ≡ z → f a b c ≡ f x y z
of_three f a b c x y z h k l = ap (λ n. f n b c) h ∙ ap (λ n. f x n c) k ∙ ap (λ n. f x y n) l

of_four : {A : Type 0} (f : ℕ → ℕ → ℕ → ℕ → A) (a b c d x y z w : ℕ) → a ≡ x → b ≡ y → c ≡ z → d ≡ w → f a b c d ≡ f x y z w
of_four f a b c d x y z w h k l m = ap (λ n. f n b c d) h ∙ of_three (f x) b c d y z w k l m

bound : (s : Sort) (o : Option Sort) → is_option_sort s o ≡ true → (r : Sort) × (o ≡ Some r)
bound s None h = absurd (true≢false (sym h))
bound s (Some r) h = (r, refl)

-- how many quantifiers stand on a path of the whole
pub whole_depth : (f : Tree) → length (prefix_of f) + quantifier_depth (body_of f) ≡ quantifier_depth f
whole_depth (Leaf a) = refl
whole_depth (All s f) = let h = whole_depth f in omega (arith, h)
whole_depth f = omega arith

module _ (size : Extent) (sized : IsSize size) where
  -- ---- constants

  voter_is : (i : ℕ) → i < size.voters → unwrap_or (voter_value size (i + 1)) 0 ≡ i
  voter_is i h =
      let low : nat_le 1 (i + 1) ≡ true = le-leb 1 (i + 1) (omega arith) in
      let high : nat_le (i + 1) size.voters ≡ true = le-leb (i + 1) size.voters (omega (arith, h)) in
      let one : (i + 1) - 1 ≡ i = omega arith in
      ap (λ (b : Bool). unwrap_or (cond b (Some ((i + 1) - 1)) None) 0) (and_from (nat_le 1 (i + 1)) (nat_le (i + 1) size.voters) low high) ∙ one

  alternative_is : (x : ℕ) → x < size.alternatives → unwrap_or (alternative_value size x) 0 ≡ x
  alternative_is x h = ap (λ (b : Bool). unwrap_or (cond b (Some x) None) 0) (lt-ltb x size.alternatives h)

  ballot_is : (b : ℕ) → b < sort_count size Ballot → unwrap_or (ballot_value size (ballot_letters size b)) 0 ≡ b
  ballot_is b h =
      let letters : ballot_letters size b ≡ ballot_text size b = ap (λ (t : Bool). cond t (ballot_text size b) []) (lt-ltb b (sort_count size Ballot) h) in
      ap (λ (l : List ℕ). unwrap_or (ballot_value size l) 0) letters
      ∙ sym (ap (λ (o : Option ℕ). unwrap_or o 0) (read_is_value size (ballot_text size b) (Some b) (have_texts_of_their_own size sized) (h, refl) tt))

  constant_is : (known : Assignment) (s : Sort) (c : ℕ) → same_sort s Profile ≡ false → c < sort_count size s → named_value size known (constant size s c) ≡ c
  constant_is known Voter c other h = voter_is c h
  constant_is known Alt c other h = alternative_is c h
  constant_is known Ballot c other h = ballot_is c h
  constant_is known Profile c other h = absurd (true≢false other)

  module _ (values : List ℕ) where
    -- the outermost variables have these values, which are in range
    record Given (sorts : List Sort) (env : List ℕ) : Type 0 where
      pub few : length values ≤ length env
      pub many : length env ≡ length sorts
      pub are : (level v : ℕ) → slice_get values level ≡ Some v → slice_index env level ≡ v
      pub fit : (level v : ℕ) (s : Sort) → slice_get values level ≡ Some v → slice_get sorts level ≡ Some s → v < sort_count size s

    given_more : (sorts : List Sort) (env : List ℕ) → Given sorts env → (s : Sort) (v : ℕ) → Given (sorts ++ s ∷ []) (env ++ v ∷ [])
    given_more sorts env given s v = record {
      few = omega (arith, given.few, length-append env (v ∷ []));
      many = omega (arith, given.many, length-append env (v ∷ []), length-append sorts (s ∷ []));
      are = λ level u at. get_or_append_left env (v ∷ []) 0 level (omega (arith, slice_get_within values level u at, given.few)) ∙ given.are level u at;
      fit = λ level u r at sort. given.fit level u r at (front sorts s r level (omega (arith, slice_get_within values level u at, given.few, given.many)) sort);
    }

    module _ (sorts : List Sort) (env : List ℕ) (known : Assignment) (names : Names sorts env known) (given : Given sorts env) where
      variable_is : (level : ℕ) (s : Sort) → slice_get sorts level ≡ Some s → named_value size known (written size (sort_at sorts level) level (slice_get values level)) ≡ slice_index env level
      variable_is level s at =
          ap (λ (r : Sort). named_value size known (written size r level (slice_get values level))) (ap (λ (o : Option Sort). unwrap_or o Profile) at)
          ∙ by_value (slice_get values level) refl
        where
          by_sort : (v : ℕ) → slice_get values level ≡ Some v → (r : Sort) → s ≡ r → named_value size known (written size r level (Some v)) ≡ slice_index env level
          by_sort v found Voter e = voter_is v (given.fit level v Voter found (at ∙ ap Some e)) ∙ sym (given.are level v found)
          by_sort v found Alt e = alternative_is v (given.fit level v Alt found (at ∙ ap Some e)) ∙ sym (given.are level v found)
          by_sort v found Ballot e = ballot_is v (given.fit level v Ballot found (at ∙ ap Some e)) ∙ sym (given.are level v found)
          by_sort v found Profile e = names.stand level Profile (at ∙ ap Some e)

          by_value : (o : Option ℕ) → slice_get values level ≡ o → named_value size known (written size s level o) ≡ slice_index env level
          by_value None e = names.stand level s at
          by_value (Some v) e = by_sort v e s refl

      -- ---- terms

      term_is : (s : Sort) (t : TermTree) → is_term size sorts s t ≡ true → named_value size known (body.term size values sorts s t) ≡ value size env t
      term_is s (Var level) h = let b = bound s (slice_get sorts level) h in variable_is level b.0 b.1
      term_is s (Const c) h =
          let p = and_parts (not (same_sort s Profile)) (nat_lt c (sort_count size s)) h in
          constant_is known s c (not-true (same_sort s Profile) p.0) (ltb-true c (sort_count size s) p.1)
      term_is s (With p i b) h =
          let one = and_parts (is_term size sorts Profile p) (is_term size sorts Voter i && is_term size sorts Ballot b) h in
          let two = and_parts (is_term size sorts Voter i) (is_term size sorts Ballot b) one.1 in
          ap (λ (o : Option Function). function_value size o (named_value size known (body.term size values sorts Profile p) ∷ named_value size known (body.term size values sorts Voter i) ∷ named_value size known (body.term size values sorts Ballot b) ∷ [])) named_with
          ∙ of_three (with_ballot size) _ _ _ _ _ _ (term_is Profile p one.0) (term_is Voter i two.0) (term_is Ballot b two.1)
      term_is s (SwapVoters p i j) h =
          let one = and_parts (is_term size sorts Profile p) (is_term size sorts Voter i && is_term size sorts Voter j) h in
          let two = and_parts (is_term size sorts Voter i) (is_term size sorts Voter j) one.1 in
          ap (λ (o : Option Function). function_value size o (named_value size known (body.term size values sorts Profile p) ∷ named_value size known (body.term size values sorts Voter i) ∷ named_value size known (body.term size values sorts Voter j) ∷ [])) named_swap_voters
          ∙ of_three (with_voters_swapped size) _ _ _ _ _ _ (term_is Profile p one.0) (term_is Voter i two.0) (term_is Voter j two.1)
      term_is s (SwapAlts p x y) h =
          let one = and_parts (is_term size sorts Profile p) (is_term size sorts Alt x && is_term size sorts Alt y) h in
          let two = and_parts (is_term size sorts Alt x) (is_term size sorts Alt y) one.1 in
          ap (λ (o : Option Function). function_value size o (named_value size known (body.term size values sorts Profile p) ∷ named_value size known (body.term size values sorts Alt x) ∷ named_value size known (body.term size values sorts Alt y) ∷ [])) named_swap_alts
          ∙ of_three (with_alts_swapped size) _ _ _ _ _ _ (term_is Profile p one.0) (term_is Alt x two.0) (term_is Alt y two.1)
      term_is s (Swap x y z) h =
          let one = and_parts (is_term size sorts Alt x) (is_term size sorts Alt y && is_term size sorts Alt z) h in
          let two = and_parts (is_term size sorts Alt y) (is_term size sorts Alt z) one.1 in
          ap (λ (o : Option Function). function_value size o (named_value size known (body.term size values sorts Alt x) ∷ named_value size known (body.term size values sorts Alt y) ∷ named_value size known (body.term size values sorts Alt z) ∷ [])) named_swap
          ∙ of_three exchanged _ _ _ _ _ _ (term_is Alt x one.0) (term_is Alt y two.0) (term_is Alt z two.1)

      -- ---- atoms

      module _ (table : List ℕ) where
        atom_is : (a : AtomTree) → is_atom size sorts a ≡ true → is_named_true size table known (body.atom size values sorts a) ≡ is_atom_true size table env a
        atom_is (Equal s t) h =
            let r = common_sort size sorts s t in
            let p = and_parts (is_term size sorts r s) (is_term size sorts r t) h in
            ap₂ (λ (a b : ℕ). a == b) (term_is r s p.0) (term_is r t p.1)
        atom_is (Prefers i x y p) h =
            let halves = and_parts (is_term size sorts Voter i && is_term size sorts Alt x) (is_term size sorts Alt y && is_term size sorts Profile p) h in
            let first = and_parts (is_term size sorts Voter i) (is_term size sorts Alt x) halves.0 in
            let second = and_parts (is_term size sorts Alt y) (is_term size sorts Profile p) halves.1 in
            ap (λ (o : Option Predicate). is_said_truly size table o (named_value size known (body.term size values sorts Voter i) ∷ named_value size known (body.term size values sorts Alt x) ∷ named_value size known (body.term size values sorts Alt y) ∷ named_value size known (body.term size values sorts Profile p) ∷ [])) named_prefers
            ∙ of_four (prefers size) _ _ _ _ _ _ _ _ (term_is Voter i first.0) (term_is Alt x first.1) (term_is Alt y second.0) (term_is Profile p second.1)
        atom_is (Better b x y) h =
            let one = and_parts (is_term size sorts Ballot b) (is_term size sorts Alt x && is_term size sorts Alt y) h in
            let two = and_parts (is_term size sorts Alt x) (is_term size sorts Alt y) one.1 in
            ap (λ (o : Option Predicate). is_said_truly size table o (named_value size known (body.term size values sorts Ballot b) ∷ named_value size known (body.term size values sorts Alt x) ∷ named_value size known (body.term size values sorts Alt y) ∷ [])) named_better
            ∙ of_three (better size) _ _ _ _ _ _ (term_is Ballot b one.0) (term_is Alt x two.0) (term_is Alt y two.1)
        atom_is (Casts i b p) h =
            let one = and_parts (is_term size sorts Voter i) (is_term size sorts Ballot b && is_term size sorts Profile p) h in
            let two = and_parts (is_term size sorts Ballot b) (is_term size sorts Profile p) one.1 in
            ap (λ (o : Option Predicate). is_said_truly size table o (named_value size known (body.term size values sorts Voter i) ∷ named_value size known (body.term size values sorts Ballot b) ∷ named_value size known (body.term size values sorts Profile p) ∷ [])) named_casts
            ∙ of_three (casts size) _ _ _ _ _ _ (term_is Voter i one.0) (term_is Ballot b two.0) (term_is Profile p two.1)
        atom_is (Majority x y p) h =
            let one = and_parts (is_term size sorts Alt x) (is_term size sorts Alt y && is_term size sorts Profile p) h in
            let two = and_parts (is_term size sorts Alt y) (is_term size sorts Profile p) one.1 in
            ap (λ (o : Option Predicate). is_said_truly size table o (named_value size known (body.term size values sorts Alt x) ∷ named_value size known (body.term size values sorts Alt y) ∷ named_value size known (body.term size values sorts Profile p) ∷ [])) named_majority
            ∙ of_three (majority size) _ _ _ _ _ _ (term_is Alt x one.0) (term_is Alt y two.0) (term_is Profile p two.1)
        atom_is (WinsAt x p) h =
            let two = and_parts (is_term size sorts Alt x) (is_term size sorts Profile p) h in
            ap (λ (o : Option Predicate). is_said_truly size table o (named_value size known (body.term size values sorts Alt x) ∷ named_value size known (body.term size values sorts Profile p) ∷ [])) named_wins
            ∙ ap₂ (λ (a q : ℕ). wins_in size.kind (slice_index table q) a) (term_is Alt x two.0) (term_is Profile p two.1)
        atom_is (Ranks x y p) h =
            let one = and_parts (is_term size sorts Alt x) (is_term size sorts Alt y && is_term size sorts Profile p) h in
            let two = and_parts (is_term size sorts Alt y) (is_term size sorts Profile p) one.1 in
            ap (λ (o : Option Predicate). is_said_truly size table o (named_value size known (body.term size values sorts Alt x) ∷ named_value size known (body.term size values sorts Alt y) ∷ named_value size known (body.term size values sorts Profile p) ∷ [])) named_ranks
            ∙ of_three (λ (a b q : ℕ). is_above (ranking size.alternatives (slice_index table q)) a b) _ _ _ _ _ _ (term_is Alt x one.0) (term_is Alt y two.0) (term_is Profile p two.1)

    -- ---- formulas

    formula_is : (table : List ℕ) (f : Tree) (sorts : List Sort) (env : List ℕ) (known : Assignment) → Names sorts env known → Given sorts env → length sorts + quantifier_depth f ≤ 12
        → is_formula size sorts f ≡ true → is_named_true size table known (body.formula size values sorts f) ≡ is_true_at size table f env
    formula_is table (Leaf a) sorts env known names given few h = atom_is sorts env known names given table a h
    formula_is table (Not f) sorts env known names given few h = ap not (formula_is table f sorts env known names given few h)
    formula_is table (Both f g) sorts env known names given few h =
        let p = and_parts (is_formula size sorts f) (is_formula size sorts g) h in
        ap₂ (λ (a b : Bool). a && b) (formula_is table f sorts env known names given (omega (arith, few)) p.0) (formula_is table g sorts env known names given (omega (arith, few)) p.1)
    formula_is table (Either f g) sorts env known names given few h =
        let p = and_parts (is_formula size sorts f) (is_formula size sorts g) h in
        ap₂ (λ (a b : Bool). a || b) (formula_is table f sorts env known names given (omega (arith, few)) p.0) (formula_is table g sorts env known names given (omega (arith, few)) p.1)
    formula_is table (Implies f g) sorts env known names given few h =
        let p = and_parts (is_formula size sorts f) (is_formula size sorts g) h in
        ap₂ (λ (a b : Bool). not a || b) (formula_is table f sorts env known names given (omega (arith, few)) p.0) (formula_is table g sorts env known names given (omega (arith, few)) p.1)
    formula_is table (Same f g) sorts env known names given few h =
        let p = and_parts (is_formula size sorts f) (is_formula size sorts g) h in
        ap₂ beq (formula_is table f sorts env known names given (omega (arith, few)) p.0) (formula_is table g sorts env known names given (omega (arith, few)) p.1)
    formula_is table (All s f) sorts env known names given few h =
        ap (λ (t : ℕ → Bool). list_all t (below (sort_count size s)))
        (fun_ext (λ v. formula_is table f (sorts ++ s ∷ []) (env ++ v ∷ []) ((variable_name s (length sorts + 1), v) ∷ known) (one_more sorts env known names (omega (arith, few)) s v) (given_more sorts env given s v) (omega (arith, few, length-append sorts (s ∷ []))) h))
    formula_is table (Exists s f) sorts env known names given few h =
        ap (λ (t : ℕ → Bool). list_any t (below (sort_count size s)))
        (fun_ext (λ v. formula_is table f (sorts ++ s ∷ []) (env ++ v ∷ []) ((variable_name s (length sorts + 1), v) ∷ known) (one_more sorts env known names (omega (arith, few)) s v) (given_more sorts env given s v) (omega (arith, few, length-append sorts (s ∷ []))) h))

  -- ---- instances

  -- values in range have as many sorts, each its own
  as_many : (sorts : List Sort) (values : List ℕ) → pointwise nat_lt values (map (sort_count size) sorts) ≡ true → length values ≡ length sorts
  as_many [] [] h = refl
  as_many [] (v ∷ values) h = absurd (true≢false (sym h))
  as_many (s ∷ sorts) [] h = absurd (true≢false (sym h))
  as_many (s ∷ sorts) (v ∷ values) h = let rest = as_many sorts values (and_parts (nat_lt v (sort_count size s)) (pointwise nat_lt values (map (sort_count size) sorts)) h).1 in omega (arith, rest)

  in_range : (sorts : List Sort) (values : List ℕ) → pointwise nat_lt values (map (sort_count size) sorts) ≡ true → (level v : ℕ) (s : Sort) → slice_get values level ≡ Some v → slice_get sorts level ≡ Some s → v < sort_count size s
  in_range sorts [] h level v s at sort = absurd (cc)
  in_range [] (u ∷ values) h level v s at sort = absurd (true≢false (sym h))
  in_range (r ∷ sorts) (u ∷ values) h zero v s at sort =
      let p = and_parts (nat_lt u (sort_count size r)) (pointwise nat_lt values (map (sort_count size) sorts)) h in
      let lt : u < sort_count size r = ltb-true u (sort_count size r) p.0 in
      let value_same : u ≡ v = cc in
      let sort_same : r ≡ s = cc in
      subst (λ (q : Sort). v < sort_count size q) sort_same (subst (λ (n : ℕ). n < sort_count size r) value_same lt)
  in_range (r ∷ sorts) (u ∷ values) h (suc level) v s at sort =
      in_range sorts values (and_parts (nat_lt u (sort_count size r)) (pointwise nat_lt values (map (sort_count size) sorts)) h).1 level v s at sort

  pub says : (sentence : Tree) (values table : List ℕ) → quantifier_depth sentence ≤ 12 → is_formula size (prefix_of sentence) (body_of sentence) ≡ true
      → pointwise nat_lt values (map (sort_count size) (prefix_of sentence)) ≡ true
      → is_named_true size table (with_values 1 (prefix_of sentence) values []) (named_body size sentence values) ≡ is_true_at size table (body_of sentence) values
  says sentence values table few h range =
      let sorts = prefix_of sentence in
      let many = as_many sorts values range in
      let depth = whole_depth sentence in
      let names : Names sorts values (with_values 1 sorts values [])
      = leading (sort_count size) sorts values range [] [] [] (record { many = refl; stand = λ level s at. absurd (cc) }) (omega (arith, few, depth)) 1 refl in
      let given : Given values sorts values
      = record { few = omega arith; many = many; are = λ level v at. get_or_from_slice_get values level v 0 at; fit = in_range sorts values range } in
      formula_is values table (body_of sentence) sorts values (with_values 1 sorts values []) names given (omega (arith, few, depth)) h

pub bodies_say : BodiesSayInstances
bodies_say size sentence values table sized few written range = says size sized sentence values table few written range
