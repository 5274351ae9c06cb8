-- Numbers in decimal digits, without a sign and without a leading zero, except `0` itself. There is no greatest one.
use Rattle.std.specs.Prelude.{ℕ, zero, suc, ◌+◌, ◌-◌, ◌*◌, ◌/◌, ◌%◌, ◌^◌, min, Bool, true, false, not, ◌&&◌, ◌==◌, nat_lt, nat_le, List, [], ◌∷◌, ◌++◌, Option, Some, None, option_and_then, if◌then◌else◌}
use Rattle.std.specs.List.{list_all}
use Rattle.vocab.specs.Name.{is_digit}

-- a number below 10 is its digit; of another the last digit stands after those of the tenth part
abbrev pub with_last : Bool → (ℕ → List ℕ) → ℕ → List ℕ
with_last true front n = (48 + n) ∷ []
with_last false front n = front (n / 10) ++ (48 + n % 10) ∷ []

-- the digits of a number below a bound
abbrev pub digits_below : ℕ → ℕ → List ℕ
digits_below zero n = []
digits_below (suc bound) n = with_last (nat_lt n 10) (digits_below bound) n

-- the text of a number
abbrev pub number_text : ℕ → List ℕ
number_text n = digits_below (suc n) n

-- a text is that of a number: one digit, or digits of which the first is not 0
abbrev pub is_number : List ℕ → Bool
is_number [] = false
is_number (c ∷ []) = is_digit c
is_number (c ∷ d ∷ ds) = is_digit c && not (c == 48) && list_all is_digit (d ∷ ds)

-- the number that digits write after those of n
abbrev pub value_after : ℕ → List ℕ → ℕ
value_after n [] = n
value_after n (c ∷ cs) = value_after (n * 10 + (c - 48)) cs

-- the number of a text
abbrev pub read_number : List ℕ → Option ℕ
read_number text = if is_number text then Some (value_after 0 text) else None

-- the number of a text, where it is one from `least` to `most`
abbrev pub number_within : ℕ → ℕ → List ℕ → Option ℕ
number_within least most text =
    option_and_then (λ n. if nat_le least n && nat_le n most then Some n else None) (read_number text)

-- a number as `u64` holds it: it stands still at the greatest one
abbrev pub saturated : ℕ → ℕ
saturated n = min n (2 ^ 64 - 1)
