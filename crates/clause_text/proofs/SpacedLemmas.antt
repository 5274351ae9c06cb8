-- A number with a blank after it, in one piece, and the line of a clause, which ends in one.
use Rattle.std.proofs.Common.{◌≡◌, sym, ap, ◌∙◌, ℕ, ◌+◌, ◌-◌, ◌^◌, ◌<◌, ◌≤◌, List, [], ◌∷◌, ◌++◌, length, take, drop, slice_set, decimal, append_assoc, arith}
use Rattle.std.proofs.lemmas.Fmt.{length-decimal-le}
use Rattle.std.proofs.lemmas.List.{drop-set, length-set, length-drop, take_all}
use Rattle.verdicts.specs.Numbers.{number_text}
use Rattle.verdicts.proofs.PrintLaws.{decimal_is}

-- the digits of a number leave a place for a minus
pub short_number : (n : ℕ) → n < 2 ^ 64 → length (decimal n) ≤ 20
short_number n h = length-decimal-le 20 n (omega arith) (omega (arith, h)) h

-- a piece of 22 bytes from a place on is all that stands there
to_the_end : (k : ℕ) (bytes : List ℕ) → length bytes ≡ 22 → take (22 - k) (drop k bytes) ≡ drop k bytes
to_the_end k bytes long = take_all (22 - k) (drop k bytes) (omega (arith, length-drop k bytes, long))

module _ (n start : ℕ) (bytes : List ℕ) (h : n < 2 ^ 64) (long : length bytes ≡ 22) (digits : drop start bytes ≡ decimal n ++ 32 ∷ []) where
  there : drop start bytes ≡ number_text n ++ 32 ∷ []
  there = digits ∙ ap (λ (ds : List ℕ). ds ++ 32 ∷ []) (decimal_is n h)

  -- the digits are the text of the number
  pub plain_number : take (22 - start) (drop start bytes) ≡ number_text n ++ 32 ∷ []
  plain_number = to_the_end start bytes long ∙ there

  -- the minus stands right before them
  pub negated_number : start + length (decimal n) ≡ 21 → take (22 - (start - 1)) (drop (start - 1) (slice_set bytes (start - 1) 45)) ≡ 45 ∷ number_text n ++ 32 ∷ []
  negated_number place =
      to_the_end (start - 1) (slice_set bytes (start - 1) 45) (length-set bytes (start - 1) 45 ∙ long)
      ∙ drop-set bytes (start - 1) 45 (omega (arith, short_number n h, place, long))
      ∙ ap (λ (k : ℕ). 45 ∷ drop k bytes) behind
      ∙ ap (λ (rest : List ℕ). 45 ∷ rest) there
    where
      behind : start - 1 + 1 ≡ start
      behind = omega (arith, short_number n h, place)

-- the end of a line goes with the 0 of its clause
pub with_line_end : (literals : List ℕ) → literals ++ 48 ∷ 10 ∷ [] ≡ (literals ++ 48 ∷ []) ++ 10 ∷ []
with_line_end literals = sym (append_assoc literals (48 ∷ []) (10 ∷ []))
