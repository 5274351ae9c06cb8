-- The clauses of frames, in order and with their literals by variable.
use Rattle.std.proofs.Common.{◌≡◌, refl, sym, ap, ap₂, ◌∙◌, ℕ, zero, suc, ◌+◌, ◌*◌, ◌<◌, ◌≤◌, Bool, true, false, not, cond, ◌&&◌, List, [], ◌∷◌, ◌++◌, map, take, length, arith, eq-eqb, lt-ltb, le-ltb, ltb-true}
use Rattle.std.specs.Prelude.{nat_lt}
use Rattle.std.specs.Bool.{beq}
use Rattle.std.specs.List.{flat_map, list_all, list_any}
use Rattle.std.proofs.lemmas.List.Concat.{flat_map_single}
use Rattle.std.proofs.lemmas.Bool.{and_parts, and_from, or_from, or_parts}
use Rattle.vocab.specs.Size.{Extent}
use Rattle.vocab.specs.declared.kinds.Kind.TheVariants.{Choice, Ranking, Sets}
use Rattle.vocab.specs.declared.literals.Literal.TheVariants.{Wins, Above}
use Rattle.cnf.specs.Sat.{Clause, has_lit, is_tautology, opposite_lit, same_lit}
use Rattle.cnf.specs.Signed.{Signed}
use Rattle.meaning.specs.Clauses.{Disjunction}
use Rattle.meaning.specs.Space.{below, up_from}
use Rattle.meaning.specs.StudyClauses.{clauses_of, frame_of, no_circle, not_both, some_winner, sorted, sorted_in}
use Rattle.meaning.specs.Variables.{lit_of, pair_place, pairs, triples}
use Rattle.meaning.proofs.LiteralLaws.{unequal}
use Rattle.meaning.proofs.PairLaws.{pairs-from}
use Rattle.meaning.proofs.SpaceLaws.{all_at}
use Rattle.outcomes.specs.Frames.{frame_clauses}
use Rattle.outcomes.specs.Places.{winner_lit, pair_lit}
use Rattle.outcomes.specs.Rows.{some_wins, one_loses, no_round, choice_rows, set_rows, ranking_rows}

-- ---- clauses whose variables rise

-- the variables rise from above v on
abbrev rises_above : ℕ → Clause → Bool
rises_above v [] = true
rises_above v (l ∷ ls) = nat_lt v l.variable && rises_above l.variable ls

rising_parts : (v : ℕ) (l : Signed) (ls : Clause) → rises_above v (l ∷ ls) ≡ true → (v < l.variable) × (rises_above l.variable ls ≡ true)
rising_parts v l ls h = let e = and_parts (nat_lt v l.variable) (rises_above l.variable ls) h in (ltb-true _ _ e.0, e.1)

sorted_in-front : (l : Signed) (c : Clause) → rises_above l.variable c ≡ true → sorted_in l c ≡ l ∷ c
sorted_in-front l [] h = refl
sorted_in-front l (k ∷ ks) h = ap (λ b. cond b (l ∷ k ∷ ks) (cond (same_lit l k) (k ∷ ks) (k ∷ sorted_in l ks))) (and_parts (nat_lt l.variable k.variable) (rises_above k.variable ks) h).0

sorted_in-after : (l k : Signed) (ks : Clause) → k.variable < l.variable → sorted_in l (k ∷ ks) ≡ k ∷ sorted_in l ks
sorted_in-after l k ks lt =
    ap₂ (λ a b. cond a (l ∷ k ∷ ks) (cond b (k ∷ ks) (k ∷ sorted_in l ks)))
    (le-ltb l.variable k.variable (omega (arith, lt)))
    (ap (λ b. b && beq l.positive k.positive) (unequal k.variable l.variable lt).1)

sorted-rising : (v : ℕ) (c : Clause) → rises_above v c ≡ true → sorted c ≡ c
sorted-rising v [] h = refl
sorted-rising v (l ∷ ls) h =
    let e = rising_parts v l ls h in ap (sorted_in l) (sorted-rising l.variable ls e.1) ∙ sorted_in-front l ls e.1

-- a literal whose variable is lower is not among them
not_among : (v : ℕ) (c : Clause) (l : Signed) → rises_above v c ≡ true → l.variable ≤ v → has_lit c l ≡ false
not_among v [] l h low = refl
not_among v (k ∷ ks) l h low =
    let e = rising_parts v k ks h in
    or_from _ _ (ap (λ b. b && beq l.positive k.positive) (unequal l.variable k.variable (omega (arith, e.0, low))).0) (not_among k.variable ks l e.1 (omega (arith, e.0, low)))

not_opposite : (b : Bool) → beq (not b) b ≡ false
not_opposite true = refl
not_opposite false = refl

-- no literal of a rest that rises has its opposite in front
none_opposite : (l : Signed) (v : ℕ) (c d : Clause) → rises_above v d ≡ true → l.variable ≤ v → list_any (λ k. has_lit c (opposite_lit k)) d ≡ false → list_any (λ k. has_lit (l ∷ c) (opposite_lit k)) d ≡ false
none_opposite l v c [] h low e = refl
none_opposite l v c (k ∷ ks) h low e =
    let r = rising_parts v k ks h in
    let f = or_parts (has_lit c (opposite_lit k)) (list_any (λ j. has_lit c (opposite_lit j)) ks) e in
    or_from _ _ (or_from _ _ (ap (λ b. b && beq (not k.positive) l.positive) (unequal l.variable k.variable (omega (arith, r.0, low))).1) f.0) (none_opposite l k.variable c ks r.1 (omega (arith, r.0, low)) f.1)

rising_is_no_tautology : (v : ℕ) (c : Clause) → rises_above v c ≡ true → is_tautology c ≡ false
rising_is_no_tautology v [] h = refl
rising_is_no_tautology v (l ∷ ls) h =
    let e = rising_parts v l ls h in
    or_from _ _
    (or_from _ _ (ap₂ (λ a b. a && b) (eq-eqb l.variable l.variable refl) (not_opposite l.positive)) (not_among l.variable ls (opposite_lit l) e.1 (omega arith)))
    (none_opposite l l.variable ls ls e.1 (omega arith) (rising_is_no_tautology l.variable ls e.1))

-- three literals whose variables rise, in other orders
three_rise : (v : ℕ) (a b c : Signed) → v < a.variable → a.variable < b.variable → b.variable < c.variable → rises_above v (a ∷ b ∷ c ∷ []) ≡ true
three_rise v a b c low ab bc = and_from _ _ (lt-ltb _ _ low) (and_from _ _ (lt-ltb _ _ ab) (and_from _ _ (lt-ltb _ _ bc) refl))

three_same : {a b c x y z : Signed} → a ≡ x → b ≡ y → c ≡ z → (a ∷ b ∷ c ∷ []) ≡ x ∷ y ∷ z ∷ []
three_same {c = c} {x = x} {y = y} e f g = ap₂ (λ (l k : Signed). l ∷ k ∷ c ∷ []) e f ∙ ap (λ (l : Signed). x ∷ y ∷ l ∷ []) g

last_between : (a b c : Signed) → a.variable < b.variable → b.variable < c.variable → sorted (a ∷ c ∷ b ∷ []) ≡ a ∷ b ∷ c ∷ []
last_between a b c ab bc =
    ap (sorted_in a) (sorted_in-after c b [] bc) ∙ sorted_in-front a (b ∷ c ∷ []) (and_from _ _ (lt-ltb _ _ ab) (and_from _ _ (lt-ltb _ _ bc) refl))

last_in_front : (a b c : Signed) → a.variable < b.variable → b.variable < c.variable → sorted (b ∷ c ∷ a ∷ []) ≡ a ∷ b ∷ c ∷ []
last_in_front a b c ab bc =
    ap (sorted_in b) (sorted_in-after c a [] (omega (arith, ab, bc)))
    ∙ sorted_in-after b a (c ∷ []) ab
    ∙ ap (λ (ls : List Signed). a ∷ ls) (sorted_in-front b (c ∷ []) (and_from _ _ (lt-ltb _ _ bc) refl))

-- ---- what stays of clauses in order

module _ (size : Extent) where
  -- a row whose sorted literals rise is one clause
  row_kept : (v : ℕ) (row : Disjunction) (rows : List Disjunction) (c : Clause) → sorted (map (lit_of size) row) ≡ c → rises_above v c ≡ true → clauses_of size (row ∷ rows) ≡ c ∷ clauses_of size rows
  row_kept v row rows c e h =
      ap (λ (d : Clause). cond (not (is_tautology d)) (d ∷ clauses_of size rows) (clauses_of size rows)) e
      ∙ ap (λ b. cond (not b) (c ∷ clauses_of size rows) (clauses_of size rows)) (rising_is_no_tautology v c h)

  -- ---- choices

  winners_rise : (p a n : ℕ) → rises_above (p * size.alternatives + a) (map (winner_lit size.alternatives p true) (up_from a n)) ≡ true
  winners_rise p a zero = refl
  winners_rise p a (suc n) =
      let m = size.alternatives in
      let next : p * m + a + 1 ≡ p * m + suc a = omega arith in
      and_from _ _ (lt-ltb (p * m + a) (p * m + a + 1) (omega arith)) (ap (λ v. rises_above v (map (winner_lit m p true) (up_from (suc a) n))) next ∙ winners_rise p (suc a) n)

  winners-lits : (p : ℕ) (xs : List ℕ) → map (lit_of size) (map (λ (x : ℕ). Wins x p) xs) ≡ map (winner_lit size.alternatives p true) xs
  winners-lits p [] = refl
  winners-lits p (x ∷ xs) = ap (λ ls. winner_lit size.alternatives p true x ∷ ls) (winners-lits p xs)

  losers_kept : (p : ℕ) (ts : List (ℕ × ℕ)) → list_all (λ (t : ℕ × ℕ). nat_lt t.0 t.1) ts ≡ true → clauses_of size (map (not_both p) ts) ≡ map (one_loses size.alternatives p) ts
  losers_kept p [] h = refl
  losers_kept p (t ∷ ts) h =
      let m = size.alternatives in
      let e = and_parts (nat_lt t.0 t.1) (list_all (λ (u : ℕ × ℕ). nat_lt u.0 u.1) ts) h in
      let lt = ltb-true t.0 t.1 e.0 in
      let rises : rises_above (p * m) (one_loses m p t) ≡ true = and_from _ _ (lt-ltb (p * m) (p * m + t.0 + 1) (omega arith)) (and_from _ _ (lt-ltb (p * m + t.0 + 1) (p * m + t.1 + 1) (omega (arith, lt))) refl) in
      row_kept (p * m) (not_both p t) (map (not_both p) ts) (one_loses m p t) (sorted-rising (p * m) (one_loses m p t) rises) rises
      ∙ ap (λ (cs : List Clause). one_loses m p t ∷ cs) (losers_kept p ts e.1)

  winners_kept : (p : ℕ) (rows : List Disjunction) → clauses_of size (some_winner size p ∷ rows) ≡ some_wins size.alternatives p ∷ clauses_of size rows
  winners_kept p rows =
      let m = size.alternatives in
      let rises = winners_rise p 0 m in
      row_kept (p * m + 0) (some_winner size p) rows (some_wins m p) (ap sorted (winners-lits p (below m)) ∙ sorted-rising (p * m + 0) (some_wins m p) rises) rises

  pub choice_frame : (p : ℕ) → clauses_of size (frame_of size Choice p) ≡ choice_rows size.alternatives p
  choice_frame p =
      let m = size.alternatives in
      winners_kept p (map (not_both p) (pairs m))
      ∙ ap (λ (cs : List Clause). some_wins m p ∷ cs) (losers_kept p (pairs m) (pairs-from m (λ (t : ℕ × ℕ). nat_lt t.0 t.1) (λ x y lt l. lt-ltb x y lt)))

  pub set_frame : (p : ℕ) → clauses_of size (frame_of size Sets p) ≡ set_rows size.alternatives p
  set_frame p = winners_kept p []

  -- ---- rankings

  lit_up : (x y p : ℕ) → x < y → lit_of size (Above x y p) ≡ pair_lit size.alternatives p true x y
  lit_up x y p lt = ap (λ a. cond a (pair_lit size.alternatives p true x y) (pair_lit size.alternatives p false y x)) (lt-ltb x y lt)

  lit_down : (x y p : ℕ) → x < y → lit_of size (Above y x p) ≡ pair_lit size.alternatives p false x y
  lit_down x y p lt = ap (λ a. cond a (pair_lit size.alternatives p true y x) (pair_lit size.alternatives p false x y)) (le-ltb y x (omega (arith, lt)))

  abbrev ranked : ℕ → ℕ × ℕ × ℕ → Bool
  ranked m t = nat_lt t.0 t.1 && (nat_lt t.1 t.2 && (nat_lt (pair_place m t.0 t.1) (pair_place m t.0 t.2) && nat_lt (pair_place m t.0 t.2) (pair_place m t.1 t.2)))

  rounds_kept : (p : ℕ) (ts : List (ℕ × ℕ × ℕ)) → list_all (ranked size.alternatives) ts ≡ true → clauses_of size (flat_map (no_circle p) ts) ≡ flat_map (no_round size.alternatives p) ts
  rounds_kept p [] h = refl
  rounds_kept p (t ∷ ts) h =
      let m = size.alternatives in
      let e = and_parts (ranked m t) (list_all (ranked m) ts) h in
      let f = and_parts (nat_lt t.0 t.1) (nat_lt t.1 t.2 && (nat_lt (pair_place m t.0 t.1) (pair_place m t.0 t.2) && nat_lt (pair_place m t.0 t.2) (pair_place m t.1 t.2))) e.0 in
      let g = and_parts (nat_lt t.1 t.2) (nat_lt (pair_place m t.0 t.1) (pair_place m t.0 t.2) && nat_lt (pair_place m t.0 t.2) (pair_place m t.1 t.2)) f.1 in
      let k = and_parts (nat_lt (pair_place m t.0 t.1) (pair_place m t.0 t.2)) (nat_lt (pair_place m t.0 t.2) (pair_place m t.1 t.2)) g.1 in
      let xy = ltb-true _ _ f.0 in
      let yz = ltb-true _ _ g.0 in
      let first = ltb-true _ _ k.0 in
      let second = ltb-true _ _ k.1 in
      let v = p * length (pairs m) in
      let at_xy : Bool → Signed = λ s. pair_lit m p s t.0 t.1 in
      let at_xz : Bool → Signed = λ s. pair_lit m p s t.0 t.2 in
      let at_yz : Bool → Signed = λ s. pair_lit m p s t.1 t.2 in
      let low : (s : Bool) → v < (at_xy s).variable = λ s. omega arith in
      let ab : (s u : Bool) → (at_xy s).variable < (at_xz u).variable = λ s u. omega (arith, first) in
      let bc : (s u : Bool) → (at_xz s).variable < (at_yz u).variable = λ s u. omega (arith, second) in
      let rises : (s u w : Bool) → rises_above v (at_xy s ∷ at_xz u ∷ at_yz w ∷ []) ≡ true = λ s u w. three_rise v (at_xy s) (at_xz u) (at_yz w) (low s) (ab s u) (bc u w) in
      let rest = flat_map (no_circle p) ts in
      row_kept v (Above t.1 t.0 p ∷ Above t.2 t.1 p ∷ Above t.0 t.2 p ∷ []) ((Above t.2 t.0 p ∷ Above t.1 t.2 p ∷ Above t.0 t.1 p ∷ []) ∷ rest) (at_xy false ∷ at_xz true ∷ at_yz false ∷ [])
      (ap sorted (three_same (lit_down t.0 t.1 p xy) (lit_down t.1 t.2 p yz) (lit_up t.0 t.2 p (omega (arith, xy, yz)))) ∙ last_between (at_xy false) (at_xz true) (at_yz false) (ab false true) (bc true false))
      (rises false true false)
      ∙ ap (λ (cs : List Clause). (at_xy false ∷ at_xz true ∷ at_yz false ∷ []) ∷ cs)
      (row_kept v (Above t.2 t.0 p ∷ Above t.1 t.2 p ∷ Above t.0 t.1 p ∷ []) rest (at_xy true ∷ at_xz false ∷ at_yz true ∷ [])
      (ap sorted (three_same (lit_down t.0 t.2 p (omega (arith, xy, yz))) (lit_up t.1 t.2 p yz) (lit_up t.0 t.1 p xy)) ∙ last_in_front (at_xy true) (at_xz false) (at_yz true) (ab true false) (bc false true))
      (rises true false true)
      ∙ ap (λ (cs : List Clause). (at_xy true ∷ at_xz false ∷ at_yz true ∷ []) ∷ cs) (rounds_kept p ts e.1))

  pub ranking_frame : (p : ℕ) → size.alternatives ≤ 5 → clauses_of size (frame_of size Ranking p) ≡ ranking_rows size.alternatives p
  ranking_frame p few =
      rounds_kept p (triples size.alternatives) (all_at (λ m. list_all (ranked m) (triples m)) 6 0 size.alternatives refl (omega arith) (omega arith))

-- ---- clauses as they are pushed

-- the first m of five variables are those of all alternatives
pub winners_of : (m p : ℕ) → m ≤ 5 → (a b c d e : Signed) → a ≡ winner_lit m p true 0 → b ≡ winner_lit m p true 1 → c ≡ winner_lit m p true 2 → d ≡ winner_lit m p true 3 → e ≡ winner_lit m p true 4 →
    take m (a ∷ b ∷ c ∷ d ∷ e ∷ []) ≡ some_wins m p
winners_of m p few a b c d e is_a is_b is_c is_d is_e =
    ap (λ (x : Signed). take m (x ∷ b ∷ c ∷ d ∷ e ∷ [])) is_a
    ∙ ap (λ (x : Signed). take m (winner_lit m p true 0 ∷ x ∷ c ∷ d ∷ e ∷ [])) is_b
    ∙ ap (λ (x : Signed). take m (winner_lit m p true 0 ∷ winner_lit m p true 1 ∷ x ∷ d ∷ e ∷ [])) is_c
    ∙ ap (λ (x : Signed). take m (winner_lit m p true 0 ∷ winner_lit m p true 1 ∷ winner_lit m p true 2 ∷ x ∷ e ∷ [])) is_d
    ∙ ap (λ (x : Signed). take m (winner_lit m p true 0 ∷ winner_lit m p true 1 ∷ winner_lit m p true 2 ∷ winner_lit m p true 3 ∷ x ∷ [])) is_e
    ∙ first_of m few (winner_lit m p true)
  where
    first_of : (n : ℕ) → n ≤ 5 → (w : ℕ → Signed) → take n (w 0 ∷ w 1 ∷ w 2 ∷ w 3 ∷ w 4 ∷ []) ≡ map w (below n)
    first_of (suc (suc (suc (suc (suc (suc n)))))) h w = absurd (omega (arith, h))
    first_of p h w = refl

-- the clause of all alternatives in front, and one for each pair
pub choice_rows-each : (m p : ℕ) → ((some_wins m p ∷ []) ++ flat_map (λ (t : ℕ × ℕ). one_loses m p t ∷ []) (pairs m)) ≡ choice_rows m p
choice_rows-each m p = ap (λ (cs : List Clause). some_wins m p ∷ cs) (flat_map_single (one_loses m p) (pairs m))

-- the frame of a size of each kind
pub choice_clauses : (size : Extent) → size.kind ≡ Choice → (p m : ℕ) → m ≡ size.alternatives → choice_rows m p ≡ frame_clauses size p
choice_clauses size chooses p m same =
    ap (λ (n : ℕ). choice_rows n p) same ∙ sym (choice_frame size p) ∙ ap (λ k. clauses_of size (frame_of size k p)) (sym chooses)

pub set_clauses : (size : Extent) → size.kind ≡ Sets → (p m : ℕ) → m ≡ size.alternatives → set_rows m p ≡ frame_clauses size p
set_clauses size sets p m same =
    ap (λ (n : ℕ). set_rows n p) same ∙ sym (set_frame size p) ∙ ap (λ k. clauses_of size (frame_of size k p)) (sym sets)

pub ranking_clauses : (size : Extent) → size.kind ≡ Ranking → size.alternatives ≤ 5 → (p m : ℕ) → m ≡ size.alternatives → ranking_rows m p ≡ frame_clauses size p
ranking_clauses size ranks few p m same =
    ap (λ (n : ℕ). ranking_rows n p) same ∙ sym (ranking_frame size p few) ∙ ap (λ k. clauses_of size (frame_of size k p)) (sym ranks)
