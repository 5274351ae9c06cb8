-- The closed body of an instance is a sentence of its own, with one instance.
use Rattle.std.proofs.Common.{◌&&◌, ◌++◌, ◌+◌, ◌*◌, ◌-◌, ◌<◌, ◌≤◌, ◌≡◌, ◌∙◌, ◌∷◌, Bool, List, [], ap, ap₂, append-nil, append_assoc, arith, cond, false, length, map, max, not, refl, subst, suc, sym, true, zero, ℕ, inl, inr}
use Rattle.std.proofs.lemmas.Bool.{and_parts, and_from, le-leb, leb-true, ltb-false, ltb-true, or_left, or_cases, or_right}
use Rattle.std.specs.Cmp.Lexicographic.{pointwise}
use Rattle.std.specs.List.{list_any}
use Rattle.std.specs.Prelude.{nat_le, nat_lt, slice_get, slice_index}
use Rattle.vocab.specs.declared.kinds.Sort.{Sort}
use Rattle.vocab.specs.declared.kinds.Sort.TheVariants.{Voter, Alt, Ballot, Profile}
use Rattle.vocab.specs.Formula.{prefix_of, body_of, quantifier_depth}
use Rattle.vocab.specs.Range.{product}
use Rattle.vocab.specs.Limits.{term_depth, atom_depth, depth, bases_of, instance_count, atom_count, is_within_limits}
use Rattle.vocab.specs.Size.{Extent, has_all_ballots, sort_count}
use Rattle.vocab.specs.Sorted.{same_sort, all_sorts, is_option_sort, has_winners, is_of_sort, is_atom_sorted, is_sorted, are_of_sorts}
use Rattle.vocab.specs.Study.{is_sentence}
use Rattle.vocab.specs.Titled.{Titled}
use Rattle.vocab.specs.Tree.{TermTree, AtomTree, Tree, Var, Const, With, SwapVoters, SwapAlts, Swap, Equal, Prefers, Better, Casts, Majority, WinsAt, Ranks, Leaf, Not, Both, Either, Implies, Same, All, Exists}
use Rattle.vocab.proofs.SortLaws.{same_sort_is}
use Rattle.meaning.proofs.SentenceLaws.{body_sorted, suited_from}
use Rattle.meaning.specs.Clauses.{plus}
use Rattle.meaning.specs.Instances.{instance_values}
use Rattle.meaning.specs.Space.{digits_of}
use Rattle.meaning.specs.StudyClauses.{clauses_of, instance_of}
use Rattle.meaning.specs.Written.{Written, write_out}
use Rattle.closing.specs.Closed.{closed_variable, closed_term, closed_atom, closed, closed_body}
use Rattle.closing.specs.Laws.{IsOneInstance}
use Rattle.closing.proofs.ClosedLaws.{body_written, body_true}
use Rattle.meaning.proofs.TestLaws.{four_parts}

-- ---- no leading universal

-- a formula that no universal leads
abbrev leads_not : Tree → Type 0
leads_not (All s f) = ⊥
leads_not _ = Unit {0}

body_leads_not : (f : Tree) → leads_not (body_of f)
body_leads_not (All s f) = body_leads_not f
body_leads_not p = tt

no_prefix : (values : List ℕ) (f : Tree) → leads_not f → prefix_of (closed values f) ≡ []
no_prefix values (All s f) h = absurd h
no_prefix values p h = refl

own_body : (values : List ℕ) (f : Tree) → leads_not f → body_of (closed values f) ≡ closed values f
own_body values (All s f) h = absurd h
own_body values p h = refl

pub closed_prefix : (a : Titled) (values : List ℕ) → prefix_of (closed_body a values) ≡ []
closed_prefix a values = no_prefix values (body_of a.sentence) (body_leads_not a.sentence)

pub closed_own_body : (a : Titled) (values : List ℕ) → body_of (closed_body a values) ≡ closed_body a values
closed_own_body a values = own_body values (body_of a.sentence) (body_leads_not a.sentence)

pub closed_count : (size : Extent) (a : Titled) (values : List ℕ) → instance_count size (closed_body a values) ≡ 1
closed_count size a values = ap (λ (ss : List Sort). product (map (sort_count size) ss)) (closed_prefix a values)

pub closed_values : (size : Extent) (a : Titled) (values : List ℕ) → instance_values size (closed_body a values) 0 ≡ []
closed_values size a values = ap (λ (ss : List Sort). digits_of (map (sort_count size) ss) 0) (closed_prefix a values)

-- ---- the instance

pub closed_instance : (size : Extent) (a : Titled) (values : List ℕ) → instance_of size (closed_body a values) 0 ≡ write_out size (body_of a.sentence) values
closed_instance size a values = ap₂ (write_out size) (closed_own_body a values) (closed_values size a values) ∙ body_written size a values

pub is_instance : (size : Extent) (a : Titled) (k : ℕ) → IsOneInstance size a (instance_values size a.sentence k) k
is_instance size a k =
    let values = instance_values size a.sentence k in
    record {
      prefix = closed_prefix a values;
      body = closed_own_body a values;
      one = closed_count size a values;
      no_values = closed_values size a values;
      written = closed_instance size a values;
      clauses = ap (λ (w : Written). clauses_of size (plus w)) (closed_instance size a values);
      true_of = body_true size a values;
    }

-- ---- sorts

module _ (size : Extent) where
  -- a variable that has a value has one of its sort
  value_fits : (outer inner : List Sort) (values : List ℕ) (level : ℕ) (s : Sort) → are_of_sorts size outer values ≡ true → level < length values →
      is_option_sort s (slice_get (outer ++ inner) level) ≡ true → nat_lt (slice_index values level) (sort_count size s) ≡ true
  value_fits [] inner [] level s fit lt h = absurd (omega (arith, lt))
  value_fits [] inner (v ∷ values) level s fit lt h = absurd cc
  value_fits (t ∷ outer) inner [] level s fit lt h = absurd (omega (arith, lt))
  value_fits (t ∷ outer) inner (v ∷ values) zero s fit lt h =
      subst (λ r. nat_lt v (sort_count size r) ≡ true) (sym (same_sort_is s t h)) (and_parts (nat_lt v (sort_count size t)) (are_of_sorts size outer values) fit).0
  value_fits (t ∷ outer) inner (v ∷ values) (suc level) s fit lt h =
      value_fits outer inner values level s (and_parts (nat_lt v (sort_count size t)) (are_of_sorts size outer values) fit).1 (omega (arith, lt)) h

  -- and the others keep theirs
  others_stay : (outer inner : List Sort) (values : List ℕ) (level : ℕ) (s : Sort) → are_of_sorts size outer values ≡ true → length values ≤ level →
      is_option_sort s (slice_get (outer ++ inner) level) ≡ true → is_option_sort s (slice_get inner (level - length values)) ≡ true
  others_stay [] inner [] level s fit le h = subst (λ k. is_option_sort s (slice_get inner k) ≡ true) (omega arith) h
  others_stay [] inner (v ∷ values) level s fit le h = absurd cc
  others_stay (t ∷ outer) inner [] level s fit le h = absurd cc
  others_stay (t ∷ outer) inner (v ∷ values) zero s fit le h = absurd (omega (arith, le))
  others_stay (t ∷ outer) inner (v ∷ values) (suc level) s fit le h =
      let less : level - length values ≡ suc level - suc (length values) = omega arith in
      subst (λ k. is_option_sort s (slice_get inner k) ≡ true) less
      (others_stay outer inner values level s (and_parts (nat_lt v (sort_count size t)) (are_of_sorts size outer values) fit).1 (omega (arith, le)) h)

  module _ (outer : List Sort) (values : List ℕ) (fit : are_of_sorts size outer values ≡ true) where
    variable_sorted : (inner : List Sort) (s : Sort) (level : ℕ) → is_option_sort s (slice_get (outer ++ inner) level) ≡ true → is_of_sort size inner s (closed_variable values level) ≡ true
    variable_sorted inner s level h = cases (nat_lt level (length values)) refl
      where
        cases : (b : Bool) → nat_lt level (length values) ≡ b → is_of_sort size inner s (cond b (Const (slice_index values level)) (Var (level - length values))) ≡ true
        cases true e = value_fits outer inner values level s fit (ltb-true level (length values) e) h
        cases false e = others_stay outer inner values level s fit (ltb-false level (length values) e) h

    four : (a b c d : Bool) → a ≡ true → b ≡ true → c ≡ true → d ≡ true → (a && b && c && d) ≡ true
    four a b c d e f g h = λ i. e i && f i && g i && h i

    pub term_sorted : (inner : List Sort) (s : Sort) (t : TermTree) → is_of_sort size (outer ++ inner) s t ≡ true → is_of_sort size inner s (closed_term values t) ≡ true
    term_sorted inner s (Var level) h = variable_sorted inner s level h
    term_sorted inner s (Const c) h = h
    term_sorted inner s (With p i b) h =
        let e = four_parts (same_sort s Profile) (is_of_sort size (outer ++ inner) Profile p) (is_of_sort size (outer ++ inner) Voter i) (is_of_sort size (outer ++ inner) Ballot b) h in
        four _ _ _ _ e.0 (term_sorted inner Profile p e.1) (term_sorted inner Voter i e.2) (term_sorted inner Ballot b e.3)
    term_sorted inner s (SwapVoters p i j) h =
        let e = four_parts (same_sort s Profile) (is_of_sort size (outer ++ inner) Profile p) (is_of_sort size (outer ++ inner) Voter i) (is_of_sort size (outer ++ inner) Voter j) h in
        four _ _ _ _ e.0 (term_sorted inner Profile p e.1) (term_sorted inner Voter i e.2) (term_sorted inner Voter j e.3)
    term_sorted inner s (SwapAlts p x y) h =
        let m = and_parts (same_sort s Profile && is_of_sort size (outer ++ inner) Profile p && is_of_sort size (outer ++ inner) Alt x && is_of_sort size (outer ++ inner) Alt y) (has_all_ballots size) h in
        let e = four_parts (same_sort s Profile) (is_of_sort size (outer ++ inner) Profile p) (is_of_sort size (outer ++ inner) Alt x) (is_of_sort size (outer ++ inner) Alt y) m.0 in
        and_from _ _ (four _ _ _ _ e.0 (term_sorted inner Profile p e.1) (term_sorted inner Alt x e.2) (term_sorted inner Alt y e.3)) m.1
    term_sorted inner s (Swap x y z) h =
        let e = four_parts (same_sort s Alt) (is_of_sort size (outer ++ inner) Alt x) (is_of_sort size (outer ++ inner) Alt y) (is_of_sort size (outer ++ inner) Alt z) h in
        four _ _ _ _ e.0 (term_sorted inner Alt x e.1) (term_sorted inner Alt y e.2) (term_sorted inner Alt z e.3)

    -- some sort fits two terms
    some_sort : (inner : List Sort) (s t : TermTree) (sorts : List Sort) → list_any (λ sort. is_of_sort size (outer ++ inner) sort s && is_of_sort size (outer ++ inner) sort t) sorts ≡ true →
        list_any (λ sort. is_of_sort size inner sort (closed_term values s) && is_of_sort size inner sort (closed_term values t)) sorts ≡ true
    some_sort inner s t [] h = absurd cc
    some_sort inner s t (r ∷ sorts) h =
        elim (or_cases (is_of_sort size (outer ++ inner) r s && is_of_sort size (outer ++ inner) r t) (list_any (λ sort. is_of_sort size (outer ++ inner) sort s && is_of_sort size (outer ++ inner) sort t) sorts) h) [
          | inl e ↦ let k = and_parts (is_of_sort size (outer ++ inner) r s) (is_of_sort size (outer ++ inner) r t) e in or_left _ _ (and_from _ _ (term_sorted inner r s k.0) (term_sorted inner r t k.1))
          | inr e ↦ or_right _ _ (some_sort inner s t sorts e)
        ]

    three_terms : (inner : List Sort) (r s t : Sort) (x y z : TermTree) → (is_of_sort size (outer ++ inner) r x && is_of_sort size (outer ++ inner) s y && is_of_sort size (outer ++ inner) t z) ≡ true →
        (is_of_sort size inner r (closed_term values x) && is_of_sort size inner s (closed_term values y) && is_of_sort size inner t (closed_term values z)) ≡ true
    three_terms inner r s t x y z h =
        let m = and_parts (is_of_sort size (outer ++ inner) r x && is_of_sort size (outer ++ inner) s y) (is_of_sort size (outer ++ inner) t z) h in
        let e = and_parts (is_of_sort size (outer ++ inner) r x) (is_of_sort size (outer ++ inner) s y) m.0 in
        and_from _ _ (and_from _ _ (term_sorted inner r x e.0) (term_sorted inner s y e.1)) (term_sorted inner t z m.1)

    atom_sorted : (inner : List Sort) (a : AtomTree) → is_atom_sorted size (outer ++ inner) a ≡ true → is_atom_sorted size inner (closed_atom values a) ≡ true
    atom_sorted inner (Equal s t) h = some_sort inner s t all_sorts h
    atom_sorted inner (Prefers i x y p) h =
        let e = four_parts (is_of_sort size (outer ++ inner) Voter i) (is_of_sort size (outer ++ inner) Alt x) (is_of_sort size (outer ++ inner) Alt y) (is_of_sort size (outer ++ inner) Profile p) h in
        four _ _ _ _ (term_sorted inner Voter i e.0) (term_sorted inner Alt x e.1) (term_sorted inner Alt y e.2) (term_sorted inner Profile p e.3)
    atom_sorted inner (Better b x y) h = three_terms inner Ballot Alt Alt b x y h
    atom_sorted inner (Casts i b p) h = three_terms inner Voter Ballot Profile i b p h
    atom_sorted inner (Majority x y p) h = three_terms inner Alt Alt Profile x y p h
    atom_sorted inner (WinsAt x p) h =
        let m = and_parts (has_winners size.kind && is_of_sort size (outer ++ inner) Alt x) (is_of_sort size (outer ++ inner) Profile p) h in
        let e = and_parts (has_winners size.kind) (is_of_sort size (outer ++ inner) Alt x) m.0 in
        and_from _ _ (and_from _ _ e.0 (term_sorted inner Alt x e.1)) (term_sorted inner Profile p m.1)
    atom_sorted inner (Ranks x y p) h =
        let e = four_parts (not (has_winners size.kind)) (is_of_sort size (outer ++ inner) Alt x) (is_of_sort size (outer ++ inner) Alt y) (is_of_sort size (outer ++ inner) Profile p) h in
        four _ _ _ _ e.0 (term_sorted inner Alt x e.1) (term_sorted inner Alt y e.2) (term_sorted inner Profile p e.3)

    pub formula_sorted : (inner : List Sort) (f : Tree) → is_sorted size (outer ++ inner) f ≡ true → is_sorted size inner (closed values f) ≡ true
    formula_sorted inner (Leaf a) h = atom_sorted inner a h
    formula_sorted inner (Not f) h = formula_sorted inner f h
    formula_sorted inner (Both f g) h = let e = and_parts (is_sorted size (outer ++ inner) f) (is_sorted size (outer ++ inner) g) h in and_from _ _ (formula_sorted inner f e.0) (formula_sorted inner g e.1)
    formula_sorted inner (Either f g) h = let e = and_parts (is_sorted size (outer ++ inner) f) (is_sorted size (outer ++ inner) g) h in and_from _ _ (formula_sorted inner f e.0) (formula_sorted inner g e.1)
    formula_sorted inner (Implies f g) h = let e = and_parts (is_sorted size (outer ++ inner) f) (is_sorted size (outer ++ inner) g) h in and_from _ _ (formula_sorted inner f e.0) (formula_sorted inner g e.1)
    formula_sorted inner (Same f g) h = let e = and_parts (is_sorted size (outer ++ inner) f) (is_sorted size (outer ++ inner) g) h in and_from _ _ (formula_sorted inner f e.0) (formula_sorted inner g e.1)
    formula_sorted inner (All s f) h = formula_sorted (inner ++ s ∷ []) f (subst (λ ss. is_sorted size ss f ≡ true) (append_assoc outer inner (s ∷ [])) h)
    formula_sorted inner (Exists s f) h = formula_sorted (inner ++ s ∷ []) f (subst (λ ss. is_sorted size ss f ≡ true) (append_assoc outer inner (s ∷ [])) h)

-- ---- sizes

module _ (values : List ℕ) where
  variable_depth : (b : Bool) (level : ℕ) → term_depth (cond b (Const (slice_index values level)) (Var (level - length values))) ≡ 1
  variable_depth true level = refl
  variable_depth false level = refl

  term_deep : (t : TermTree) → term_depth (closed_term values t) ≡ term_depth t
  term_deep (Var level) = variable_depth (nat_lt level (length values)) level
  term_deep (Const c) = refl
  term_deep (With p i b) = λ k. max (term_deep p k) (max (term_deep i k) (term_deep b k)) + 1
  term_deep (SwapVoters p i j) = λ k. max (term_deep p k) (max (term_deep i k) (term_deep j k)) + 1
  term_deep (SwapAlts p x y) = λ k. max (term_deep p k) (max (term_deep x k) (term_deep y k)) + 1
  term_deep (Swap x y z) = λ k. max (term_deep x k) (max (term_deep y k) (term_deep z k)) + 1

  atom_deep : (a : AtomTree) → atom_depth (closed_atom values a) ≡ atom_depth a
  atom_deep (Equal s t) = λ k. max (term_deep s k) (term_deep t k) + 1
  atom_deep (Prefers i x y p) = λ k. max (max (term_deep i k) (term_deep x k)) (max (term_deep y k) (term_deep p k)) + 1
  atom_deep (Better b x y) = λ k. max (term_deep b k) (max (term_deep x k) (term_deep y k)) + 1
  atom_deep (Casts i b p) = λ k. max (term_deep i k) (max (term_deep b k) (term_deep p k)) + 1
  atom_deep (Majority x y p) = λ k. max (term_deep x k) (max (term_deep y k) (term_deep p k)) + 1
  atom_deep (WinsAt x p) = λ k. max (term_deep x k) (term_deep p k) + 1
  atom_deep (Ranks x y p) = λ k. max (term_deep x k) (max (term_deep y k) (term_deep p k)) + 1

  deep : (f : Tree) → depth (closed values f) ≡ depth f
  deep (Leaf a) = atom_deep a
  deep (Not f) = ap (λ n. n + 1) (deep f)
  deep (Both f g) = ap₂ (λ m n. max m n + 1) (deep f) (deep g)
  deep (Either f g) = ap₂ (λ m n. max m n + 1) (deep f) (deep g)
  deep (Implies f g) = ap₂ (λ m n. max m n + 1) (deep f) (deep g)
  deep (Same f g) = ap₂ (λ m n. max m n + 1) (deep f) (deep g)
  deep (All s f) = ap (λ n. n + 1) (deep f)
  deep (Exists s f) = ap (λ n. n + 1) (deep f)

  quantifiers : (f : Tree) → quantifier_depth (closed values f) ≡ quantifier_depth f
  quantifiers (Leaf a) = refl
  quantifiers (Not f) = quantifiers f
  quantifiers (Both f g) = ap₂ max (quantifiers f) (quantifiers g)
  quantifiers (Either f g) = ap₂ max (quantifiers f) (quantifiers g)
  quantifiers (Implies f g) = ap₂ max (quantifiers f) (quantifiers g)
  quantifiers (Same f g) = ap₂ max (quantifiers f) (quantifiers g)
  quantifiers (All s f) = ap (λ n. n + 1) (quantifiers f)
  quantifiers (Exists s f) = ap (λ n. n + 1) (quantifiers f)

  atoms : (size : Extent) (f : Tree) → atom_count size (closed values f) ≡ atom_count size f
  atoms size (Leaf a) = refl
  atoms size (Not f) = atoms size f
  atoms size (Both f g) = ap₂ (λ m n. m + n) (atoms size f) (atoms size g)
  atoms size (Either f g) = ap₂ (λ m n. m + n) (atoms size f) (atoms size g)
  atoms size (Implies f g) = ap₂ (λ m n. m + n) (atoms size f) (atoms size g)
  atoms size (Same f g) = ap₂ (λ m n. m + n) (atoms size f) (atoms size g)
  atoms size (All s f) = ap (λ n. sort_count size s * n) (atoms size f)
  atoms size (Exists s f) = ap (λ n. sort_count size s * n) (atoms size f)

body_shallow : (f : Tree) → depth (body_of f) ≤ depth f
body_shallow (All s f) = let inner = body_shallow f in omega (arith, inner)
body_shallow p = omega arith

body_few : (f : Tree) → quantifier_depth (body_of f) ≤ quantifier_depth f
body_few (All s f) = let inner = body_few f in omega (arith, inner)
body_few p = omega arith

-- ---- a sentence of a study

module _ (size : Extent) (a : Titled) (values : List ℕ) where
  pub is_closed_sentence : (name : List ℕ) → is_sentence size a ≡ true → pointwise nat_lt values (bases_of size a.sentence) ≡ true → is_sentence size (record { name = name; sentence = closed_body a values }) ≡ true
  is_closed_sentence name h fit =
      let e = and_parts (is_sorted size [] a.sentence) (nat_le (quantifier_depth a.sentence) 12) h in
      let sorted = formula_sorted size (prefix_of a.sentence) values (suited_from size (prefix_of a.sentence) values fit) [] (body_of a.sentence)
      (subst (λ ss. is_sorted size ss (body_of a.sentence) ≡ true) (sym (append-nil (prefix_of a.sentence))) (body_sorted size a.sentence [] e.0)) in
      let few = leb-true (quantifier_depth a.sentence) 12 e.1 in
      let less = body_few a.sentence in
      let same = quantifiers values (body_of a.sentence) in
      and_from _ _ sorted (le-leb (quantifier_depth (closed_body a values)) 12 (omega (arith, few, less, same)))

  pub is_closed_within : is_within_limits size a.sentence ≡ true → is_within_limits size (closed_body a values) ≡ true
  is_closed_within h =
      let e = and_parts (nat_le (depth a.sentence) 64 && nat_le (instance_count size a.sentence) 40000000 && nat_le (atom_count size (body_of a.sentence)) 1000000) (nat_le (atom_count size a.sentence) 200000000) h in
      let f = and_parts (nat_le (depth a.sentence) 64 && nat_le (instance_count size a.sentence) 40000000) (nat_le (atom_count size (body_of a.sentence)) 1000000) e.0 in
      let g = and_parts (nat_le (depth a.sentence) 64) (nat_le (instance_count size a.sentence) 40000000) f.0 in
      let shallow = leb-true (depth a.sentence) 64 g.0 in
      let less = body_shallow a.sentence in
      let same = deep values (body_of a.sentence) in
      let few = leb-true (atom_count size (body_of a.sentence)) 1000000 f.1 in
      let count = atoms values size (body_of a.sentence) in
      let one = closed_count size a values in
      let own : atom_count size (body_of (closed_body a values)) ≡ atom_count size (closed_body a values) = ap (atom_count size) (closed_own_body a values) in
      and_from _ _
      (and_from _ _
      (and_from _ _ (le-leb (depth (closed_body a values)) 64 (omega (arith, shallow, less, same))) (le-leb (instance_count size (closed_body a values)) 40000000 (omega (arith, one))))
      (le-leb (atom_count size (body_of (closed_body a values))) 1000000 (omega (arith, few, count, own))))
      (le-leb (atom_count size (closed_body a values)) 200000000 (omega (arith, few, count)))

pub are_sentences : (size : Extent) (a : Titled) (name values : List ℕ) → is_sentence size a ≡ true → is_within_limits size a.sentence ≡ true → pointwise nat_lt values (bases_of size a.sentence) ≡ true →
    (is_sentence size (record { name = name; sentence = closed_body a values }) ≡ true) × (is_within_limits size (closed_body a values) ≡ true)
are_sentences size a name values h within fit = (is_closed_sentence size a values name h fit, is_closed_within size a values within)
