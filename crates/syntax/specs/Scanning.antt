-- The lexeme that a text begins with, computed.
use Rattle.std.specs.Prelude.{ℕ, ◌-◌, Bool, ◌&&◌, ◌==◌, nat_le, if◌then◌else◌, List, [], ◌∷◌, length, take, drop, Option, Some, None}
use Rattle.std.specs.List.{take_while}
use Rattle.vocab.specs.Name.{is_lower, is_digit, is_name_byte}
use Rattle.syntax.specs.declared.lexemes.Lexeme.{Lexeme}
use Rattle.syntax.specs.declared.lexemes.Lexeme.TheVariants as lexeme
use Rattle.syntax.specs.Lexemes.{continued_number, starts_without}

-- how long the run of such bytes at the front is
abbrev pub run_length : (ℕ → Bool) → List ℕ → ℕ
run_length p bytes = length (take_while p bytes)

-- the name that the bytes begin with, and what follows it
abbrev pub word_at : List ℕ → Option (Lexeme × List ℕ)
word_at bytes = let k = run_length is_name_byte bytes in if nat_le k 16 then Some (lexeme.Word (take k bytes), drop k bytes) else None

-- the voter constant, after a `#`
abbrev pub voter_at : List ℕ → Option (Lexeme × List ℕ)
voter_at bytes = let k = run_length is_digit bytes in if nat_le 1 k && nat_le k 3 then Some (lexeme.Voter (continued_number 0 (take k bytes)), drop k bytes) else None

-- the alternative constant, after a `@`
abbrev pub alternative_at : List ℕ → Option (Lexeme × List ℕ)
alternative_at [] = None
alternative_at (c ∷ bytes) = if is_lower c && starts_without is_name_byte bytes then Some (lexeme.Alt (c - 97), bytes) else None

-- the ballot constant of these letters, if a `>` follows
abbrev pub closed_ballot : List ℕ → List ℕ → Option (Lexeme × List ℕ)
closed_ballot letters [] = None
closed_ballot letters (c ∷ rest) = if c == 62 && nat_le 1 (length letters) && nat_le (length letters) 8 then Some (lexeme.Ballot letters, rest) else None

-- the ballot constant, after a `<`
abbrev pub ballot_at : List ℕ → Option (Lexeme × List ℕ)
ballot_at bytes = let k = run_length is_lower bytes in closed_ballot (take k bytes) (drop k bytes)

-- the arrow that a `>` completes, after a `-` or after `<-`
abbrev pub arrow_at : Lexeme → List ℕ → Option (Lexeme × List ℕ)
arrow_at l [] = None
arrow_at l (c ∷ rest) = if c == 62 then Some (l, rest) else None

-- the mark or the ballot constant, after a `<`
abbrev pub angle_at : List ℕ → Option (Lexeme × List ℕ)
angle_at [] = None
angle_at (c ∷ rest) = if c == 45 then arrow_at lexeme.Same rest else ballot_at (c ∷ rest)

-- the mark or the constant that begins with this byte
abbrev pub mark_at : ℕ → List ℕ → Option (Lexeme × List ℕ)
mark_at c rest =
    if c == 40 then Some (lexeme.Open, rest) else if c == 41 then Some (lexeme.Close, rest) else if c == 44 then Some (lexeme.Comma, rest)
    else if c == 58 then Some (lexeme.Colon, rest) else if c == 46 then Some (lexeme.Dot, rest) else if c == 61 then Some (lexeme.Equals, rest)
    else if c == 33 then Some (lexeme.Not, rest) else if c == 38 then Some (lexeme.And, rest) else if c == 124 then Some (lexeme.Or, rest)
    else if c == 45 then arrow_at lexeme.Implies rest else if c == 60 then angle_at rest else if c == 35 then voter_at rest else if c == 64 then alternative_at rest
    else None

-- the lexeme, and what follows it
abbrev pub lexeme_at : List ℕ → Option (Lexeme × List ℕ)
lexeme_at [] = None
lexeme_at (c ∷ rest) = if is_lower c then word_at (c ∷ rest) else mark_at c rest

-- a number below this goes before digits, at most three in all
abbrev pub room_for : List ℕ → ℕ
room_for [] = 1000
room_for (_ ∷ []) = 100
room_for (_ ∷ _ ∷ []) = 10
room_for (_ ∷ _ ∷ _ ∷ []) = 1
room_for _ = 0
