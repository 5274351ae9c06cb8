-- What is known of an atom rests on the variables that it is said to rest on.
use Rattle.std.proofs.Common.{◌≡◌, refl, sym, ◌∙◌, ap, ap₂, ℕ, Bool, true, false, List, true≢false}
use Rattle.std.specs.Prelude.{◌&&◌, ◌==◌, slice_index, if◌then◌else◌}
use Rattle.std.proofs.lemmas.Bool.{and_parts}
use Rattle.vocab.specs.Size.{Extent}
use Rattle.vocab.specs.Tree.{TermTree, AtomTree, Tree, Var, Const, With, SwapVoters, SwapAlts, Swap, Equal, Prefers, Better, Casts, Majority, WinsAt, Ranks, Leaf}
use Rattle.meaning.specs.Clauses.{known_truth}
use Rattle.meaning.specs.Space.{exchanged, prefers, better, casts, majority, with_ballot, with_voters_swapped, with_alts_swapped}
use Rattle.meaning.specs.Truth.{value}
use Rattle.meaning.specs.Written.{Known, Fact, write_atom, write_out}
use Rattle.vocab.specs.declared.literals.Literal.TheVariants.{Above}
use Rattle.meaning.specs.declared.three.Three.{Three}
use Rattle.meaning.specs.declared.three.Three.TheVariants.{False, Unknown}
use Rattle.lanes.specs.Covers.{covers_atom, covers_leaf, covers_term, is_kept}
use Rattle.lanes.specs.declared.shapes.Shape.{Shape}

ap₃ : {A B C D : Type 0} (f : A → B → C → D) {a a' : A} {b b' : B} {c c' : C} → a ≡ a' → b ≡ b' → c ≡ c' → f a b c ≡ f a' b' c'
ap₃ f {a} {a'} {b} {b'} {c} {c'} e g h = ap (λ x. f x b c) e ∙ ap₂ (f a') g h

three_parts : (a b c : Bool) → (a && b && c) ≡ true → (a ≡ true) × (b ≡ true) × (c ≡ true)
three_parts a b c h =
    let one = and_parts (a && b) c h in
    let two = and_parts a b one.0 in
    (two.0, two.1, one.1)

abbrev known_equal : Bool → Three
known_equal true = False
known_equal false = Unknown

known_ranks : (x y p : ℕ) (b : Bool) → known_truth (if b then Known false else Fact (Above x y p)) ≡ known_equal b
known_ranks x y p true = refl
known_ranks x y p false = refl

module _ (size : Extent) (shape : Shape) (skip : ℕ) (levels : List ℕ) (e e' : List ℕ) (same : (l : ℕ) → is_kept shape skip levels l ≡ true → slice_index e l ≡ slice_index e' l) where
  same_value : (t : TermTree) → covers_term shape skip levels t ≡ true → value size e t ≡ value size e' t
  same_value (Var level) h = same level h
  same_value (Const c) h = refl
  same_value (With p i b) h =
      let q = three_parts (covers_term shape skip levels p) (covers_term shape skip levels i) (covers_term shape skip levels b) h in
      ap₃ (with_ballot size) (same_value p q.0) (same_value i q.1) (same_value b q.2)
  same_value (SwapVoters p i b) h =
      let q = three_parts (covers_term shape skip levels p) (covers_term shape skip levels i) (covers_term shape skip levels b) h in
      ap₃ (with_voters_swapped size) (same_value p q.0) (same_value i q.1) (same_value b q.2)
  same_value (SwapAlts p i b) h =
      let q = three_parts (covers_term shape skip levels p) (covers_term shape skip levels i) (covers_term shape skip levels b) h in
      ap₃ (with_alts_swapped size) (same_value p q.0) (same_value i q.1) (same_value b q.2)
  same_value (Swap p i b) h =
      let q = three_parts (covers_term shape skip levels p) (covers_term shape skip levels i) (covers_term shape skip levels b) h in
      ap₃ exchanged (same_value p q.0) (same_value i q.1) (same_value b q.2)

  same_three : {D : Type 0} (f : ℕ → ℕ → ℕ → D) (p i b : TermTree) → (covers_term shape skip levels p && covers_term shape skip levels i && covers_term shape skip levels b) ≡ true → f (value size e p) (value size e i) (value size e b) ≡ f (value size e' p) (value size e' i) (value size e' b)
  same_three f p i b h =
      let q = three_parts (covers_term shape skip levels p) (covers_term shape skip levels i) (covers_term shape skip levels b) h in
      ap₃ f (same_value p q.0) (same_value i q.1) (same_value b q.2)

  same_atom : (a : AtomTree) → covers_atom shape skip levels a ≡ true → known_truth (write_atom size e a) ≡ known_truth (write_atom size e' a)
  same_atom (Equal s t) h =
      let p = and_parts (covers_term shape skip levels s) (covers_term shape skip levels t) h in
      ap₂ (λ (x y : ℕ). known_truth (Known (x == y))) (same_value s p.0) (same_value t p.1)
  same_atom (Prefers i x y p) h =
      let one = and_parts (covers_term shape skip levels i && covers_term shape skip levels x && covers_term shape skip levels y) (covers_term shape skip levels p) h in
      ap₂ (λ (f : ℕ → Bool) (v : ℕ). known_truth (Known (f v))) (same_three (λ a b c. prefers size a b c) i x y one.0) (same_value p one.1)
  same_atom (Better b x y) h = same_three (λ u v w. known_truth (Known (better size u v w))) b x y h
  same_atom (Casts i b p) h = same_three (λ u v w. known_truth (Known (casts size u v w))) i b p h
  same_atom (Majority x y p) h = same_three (λ u v w. known_truth (Known (majority size u v w))) x y p h
  same_atom (WinsAt x p) h = refl
  same_atom (Ranks x y p) h =
      let q = and_parts (covers_term shape skip levels x) (covers_term shape skip levels y) h in
      known_ranks (value size e x) (value size e y) (value size e p) (value size e x == value size e y)
      ∙ ap₂ (λ (u v : ℕ). known_equal (u == v)) (same_value x q.0) (same_value y q.1)
      ∙ sym (known_ranks (value size e' x) (value size e' y) (value size e' p) (value size e' x == value size e' y))

  pub same_known : (f : Tree) → covers_leaf shape skip levels f ≡ true → known_truth (write_out size f e) ≡ known_truth (write_out size f e')
  same_known (Leaf a) h = same_atom a h
  same_known p h = absurd (true≢false (sym h))
