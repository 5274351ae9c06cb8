-- Runs of bytes.
use Rattle.std.proofs.Common.{◌≡◌, ℕ, ◌≤◌, Bool, true, false, cond, List, [], ◌∷◌, length, take, refl, ap, arith, IsTrue, nat_le}
use Rattle.std.specs.List.{list_all, take_while}
use Rattle.std.proofs.lemmas.List.Sums.{take_while-cons}
use Rattle.vocab.specs.Name.{is_lower, is_name_byte, has_name_shape, is_name}
use Rattle.std.proofs.lemmas.List.Folds.{length-prefix_len}
use Rattle.std.proofs.lemmas.Bool.Decides.{nat_tests}
use Rattle.std.proofs.lemmas.Bool.{and_parts}
use Rattle.syntax.specs.Scanning.{run_length}

each_if : (p : ℕ → Bool) (b : Bool) (x : ℕ) (xs : List ℕ) → p x ≡ b → list_all p xs ≡ true → list_all p (cond b (x ∷ xs) []) ≡ true
each_if p true x xs h k = rw (h, k) refl
each_if p false x xs h k = refl

pub take_while_each : (p : ℕ → Bool) (xs : List ℕ) → list_all p (take_while p xs) ≡ true
take_while_each p [] = refl
take_while_each p (x ∷ xs) = rw (take_while-cons p x xs) (each_if p (p x) x (take_while p xs) refl (take_while_each p xs))

pub lower_goes_on : (c : ℕ) → is_lower c ≡ true → is_name_byte c ≡ true
lower_goes_on c h = rw h refl

pub lower_names : (xs : List ℕ) → list_all is_lower xs ≡ true → list_all is_name_byte xs ≡ true
lower_names [] h = refl
lower_names (x ∷ xs) h = let p = and_parts (is_lower x) (list_all is_lower xs) h in rw (lower_goes_on x p.0, lower_names xs p.1) refl

pub letters_are_name : (xs : List ℕ) → list_all is_lower xs ≡ true → 1 ≤ length xs → length xs ≤ 8 → IsTrue (is_name xs)
letters_are_name [] h some few = absurd (omega arith)
letters_are_name (x ∷ xs) h some few =
    let p = and_parts (is_lower x) (list_all is_lower xs) h in
    let q = lower_names xs p.1 in
    let n : nat_le (length (x ∷ xs)) 32 ≡ true = grind (arith, nat_tests) in
    rw (p.0, q, n) refl

-- the first bytes, as many as the run is long, are the run
pub run_taken : (p : ℕ → Bool) (xs : List ℕ) → take (run_length p xs) xs ≡ take_while p xs
run_taken p xs = ap (λ k. take k xs) (length-prefix_len p xs)

pub run_each : (p : ℕ → Bool) (xs : List ℕ) → list_all p (take (run_length p xs) xs) ≡ true
run_each p xs = rw (run_taken p xs) (take_while_each p xs)

name_shape : (c : ℕ) (rest : List ℕ) → is_lower c ≡ true → list_all is_name_byte rest ≡ true → has_name_shape (c ∷ rest) ≡ true
name_shape c rest h k = rw (h, k) refl

pub name_run_shape : (xs : List ℕ) (c : ℕ) (rest : List ℕ) → xs ≡ c ∷ rest → is_lower c ≡ true → has_name_shape (take (run_length is_name_byte xs) xs) ≡ true
name_run_shape xs c rest e h =
    rw (run_taken is_name_byte xs, e, take_while-cons is_name_byte c rest, lower_goes_on c h) (name_shape c (take_while is_name_byte rest) h (take_while_each is_name_byte rest))
