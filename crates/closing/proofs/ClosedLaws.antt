-- A closed formula says what the formula says, where the values that close it come first.
use Rattle.std.proofs.Common.{◌&&◌, ◌++◌, ◌-◌, ◌≡◌, ◌||◌, ◌∙◌, ◌∷◌, Bool, List, [], ap, ap₂, append-nil, append_assoc, cond, false, length, map, not, refl, sym, true, ℕ}
use Rattle.std.proofs.Math.Path.{fun_ext}
use Rattle.std.proofs.lemmas.Bool.{ltb-false, ltb-true}
use Rattle.std.proofs.lemmas.List.{get_or-append_right, get_or_append_left}
use Rattle.std.specs.Bool.{beq}
use Rattle.std.specs.List.{list_all, list_any}
use Rattle.std.specs.Prelude.{◌==◌, if◌then◌else◌, nat_lt, slice_index}
use Rattle.vocab.specs.Formula.{body_of}
use Rattle.vocab.specs.Size.{Extent, sort_count}
use Rattle.vocab.specs.Titled.{Titled}
use Rattle.vocab.specs.Tree.{TermTree, AtomTree, Tree, Var, Const, With, SwapVoters, SwapAlts, Swap, Equal, Prefers, Better, Casts, Majority, WinsAt, Ranks, Leaf, Not, Both, Either, Implies, Same, All, Exists}
use Rattle.vocab.specs.declared.literals.Literal.TheVariants.{Wins, Above}
use Rattle.meaning.specs.Kleene.{partial_truth}
use Rattle.meaning.specs.Space.{below, prefers, better, casts, majority, exchanged, is_above, ranking, with_ballot, with_voters_swapped, with_alts_swapped}
use Rattle.meaning.specs.Truth.{value, wins_in, is_atom_true, is_true_at}
use Rattle.meaning.specs.Written.{Written, Known, Fact, Neg, And, Or, Iff, and_chain, or_chain, write_atom, write_out}
use Rattle.closing.specs.Closed.{closed_variable, closed_term, closed_atom, closed, closed_body}
use Rattle.closing.specs.Laws.{SaysBody}

-- a value put between three functions of three arguments
ap₃ : {A B C D : Type 0} (f : A → B → C → D) {a a' : A} {b b' : B} {c c' : C} → a ≡ a' → b ≡ b' → c ≡ c' → f a b c ≡ f a' b' c'
ap₃ f p q r = λ i. f (p i) (q i) (r i)

module _ (size : Extent) (values : List ℕ) where
  variable_closed : (env : List ℕ) (level : ℕ) → value size env (closed_variable values level) ≡ slice_index (values ++ env) level
  variable_closed env level = cases (nat_lt level (length values)) refl
    where
      cases : (b : Bool) → nat_lt level (length values) ≡ b → value size env (cond b (Const (slice_index values level)) (Var (level - length values))) ≡ slice_index (values ++ env) level
      cases true e = sym (get_or_append_left values env 0 level (ltb-true level (length values) e))
      cases false e = sym (get_or-append_right values env (length values) level 0 refl (ltb-false level (length values) e))

  pub value_closed : (env : List ℕ) (t : TermTree) → value size env (closed_term values t) ≡ value size (values ++ env) t
  value_closed env (Var level) = variable_closed env level
  value_closed env (Const c) = refl
  value_closed env (With p i b) = ap₃ (with_ballot size) (value_closed env p) (value_closed env i) (value_closed env b)
  value_closed env (SwapVoters p i j) = ap₃ (with_voters_swapped size) (value_closed env p) (value_closed env i) (value_closed env j)
  value_closed env (SwapAlts p x y) = ap₃ (with_alts_swapped size) (value_closed env p) (value_closed env x) (value_closed env y)
  value_closed env (Swap x y z) = ap₃ exchanged (value_closed env x) (value_closed env y) (value_closed env z)

  -- ---- written out

  abbrev rank : ℕ → ℕ → ℕ → Written
  rank x y p = if x == y then Known false else Fact (Above x y p)

  atom_written : (env : List ℕ) (a : AtomTree) → write_atom size env (closed_atom values a) ≡ write_atom size (values ++ env) a
  atom_written env (Equal s t) = ap₂ (λ a b. Known (a == b)) (value_closed env s) (value_closed env t)
  atom_written env (Prefers i x y p) =
      λ k. Known (prefers size (value_closed env i k) (value_closed env x k) (value_closed env y k) (value_closed env p k))
  atom_written env (Better b x y) = ap₃ (λ b x y. Known (better size b x y)) (value_closed env b) (value_closed env x) (value_closed env y)
  atom_written env (Casts i b p) = ap₃ (λ i b p. Known (casts size i b p)) (value_closed env i) (value_closed env b) (value_closed env p)
  atom_written env (Majority x y p) = ap₃ (λ x y p. Known (majority size x y p)) (value_closed env x) (value_closed env y) (value_closed env p)
  atom_written env (WinsAt x p) = ap₂ (λ x p. Fact (Wins x p)) (value_closed env x) (value_closed env p)
  atom_written env (Ranks x y p) = ap₃ rank (value_closed env x) (value_closed env y) (value_closed env p)

  pub formula_written : (env : List ℕ) (f : Tree) → write_out size (closed values f) env ≡ write_out size f (values ++ env)
  formula_written env (Leaf a) = atom_written env a
  formula_written env (Not f) = ap Neg (formula_written env f)
  formula_written env (Both f g) = ap₂ And (formula_written env f) (formula_written env g)
  formula_written env (Either f g) = ap₂ Or (formula_written env f) (formula_written env g)
  formula_written env (Implies f g) = ap₂ (λ a b. Or (Neg a) b) (formula_written env f) (formula_written env g)
  formula_written env (Same f g) = ap₂ Iff (formula_written env f) (formula_written env g)
  formula_written env (All s f) =
      ap (λ (g : ℕ → Written). and_chain (map g (below (sort_count size s))))
      (fun_ext (λ v. formula_written (env ++ v ∷ []) f ∙ ap (write_out size f) (sym (append_assoc values env (v ∷ [])))))
  formula_written env (Exists s f) =
      ap (λ (g : ℕ → Written). or_chain (map g (below (sort_count size s))))
      (fun_ext (λ v. formula_written (env ++ v ∷ []) f ∙ ap (write_out size f) (sym (append_assoc values env (v ∷ [])))))

  -- ---- true of a rule

  module _ (table : List ℕ) where
    atom_true : (env : List ℕ) (a : AtomTree) → is_atom_true size table env (closed_atom values a) ≡ is_atom_true size table (values ++ env) a
    atom_true env (Equal s t) = ap₂ (λ a b. a == b) (value_closed env s) (value_closed env t)
    atom_true env (Prefers i x y p) = λ k. prefers size (value_closed env i k) (value_closed env x k) (value_closed env y k) (value_closed env p k)
    atom_true env (Better b x y) = ap₃ (better size) (value_closed env b) (value_closed env x) (value_closed env y)
    atom_true env (Casts i b p) = ap₃ (casts size) (value_closed env i) (value_closed env b) (value_closed env p)
    atom_true env (Majority x y p) = ap₃ (majority size) (value_closed env x) (value_closed env y) (value_closed env p)
    atom_true env (WinsAt x p) = ap₂ (λ x p. wins_in size.kind (slice_index table p) x) (value_closed env x) (value_closed env p)
    atom_true env (Ranks x y p) =
        ap₃ (λ x y p. is_above (ranking size.alternatives (slice_index table p)) x y) (value_closed env x) (value_closed env y) (value_closed env p)

    pub formula_true : (env : List ℕ) (f : Tree) → is_true_at size table (closed values f) env ≡ is_true_at size table f (values ++ env)
    formula_true env (Leaf a) = atom_true env a
    formula_true env (Not f) = ap not (formula_true env f)
    formula_true env (Both f g) = ap₂ (λ a b. a && b) (formula_true env f) (formula_true env g)
    formula_true env (Either f g) = ap₂ (λ a b. a || b) (formula_true env f) (formula_true env g)
    formula_true env (Implies f g) = ap₂ (λ a b. not a || b) (formula_true env f) (formula_true env g)
    formula_true env (Same f g) = ap₂ beq (formula_true env f) (formula_true env g)
    formula_true env (All s f) =
        ap (λ (g : ℕ → Bool). list_all g (below (sort_count size s)))
        (fun_ext (λ v. formula_true (env ++ v ∷ []) f ∙ ap (is_true_at size table f) (sym (append_assoc values env (v ∷ [])))))
    formula_true env (Exists s f) =
        ap (λ (g : ℕ → Bool). list_any g (below (sort_count size s)))
        (fun_ext (λ v. formula_true (env ++ v ∷ []) f ∙ ap (is_true_at size table f) (sym (append_assoc values env (v ∷ [])))))

pub are_written : (size : Extent) (values env : List ℕ) (f : Tree) → write_out size (closed values f) env ≡ write_out size f (values ++ env)
are_written size values env f = formula_written size values env f

pub are_true : (size : Extent) (table values env : List ℕ) (f : Tree) → is_true_at size table (closed values f) env ≡ is_true_at size table f (values ++ env)
are_true size table values env f = formula_true size values table env f

-- ---- the body of an instance

pub body_written : (size : Extent) (a : Titled) (values : List ℕ) → write_out size (closed_body a values) [] ≡ write_out size (body_of a.sentence) values
body_written size a values = formula_written size values [] (body_of a.sentence) ∙ ap (write_out size (body_of a.sentence)) (append-nil values)

pub body_true : (size : Extent) (a : Titled) (values table : List ℕ) → is_true_at size table (closed_body a values) [] ≡ is_true_at size table (body_of a.sentence) values
body_true size a values table = formula_true size values table [] (body_of a.sentence) ∙ ap (is_true_at size table (body_of a.sentence)) (append-nil values)

pub says_body : (size : Extent) (a : Titled) (values : List ℕ) → SaysBody size a values
says_body size a values = record {
  written = body_written size a values;
  known = λ known. ap (partial_truth known) (body_written size a values);
  true_of = λ table. body_true size a values table;
}
