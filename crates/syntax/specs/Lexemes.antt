-- The lexemes of a text.
use Rattle.std.specs.Prelude.{◌≡◌, ℕ, ◌+◌, ◌-◌, ◌*◌, ◌≤◌, Bool, true, false, not, ◌||◌, ◌==◌, List, [], ◌∷◌, ◌++◌, length, codes}
use Rattle.std.specs.List.{list_all}
use Rattle.vocab.specs.Name.{is_lower, is_digit, is_name_byte, has_name_shape}
use Rattle.syntax.specs.declared.lexemes.Lexeme.{Lexeme}
use Rattle.syntax.specs.declared.lexemes.Lexeme.TheVariants as lexeme

-- the number that the digits stand for, after those of n
abbrev pub continued_number : ℕ → List ℕ → ℕ
continued_number n [] = n
continued_number n (c ∷ digits) = continued_number (10 * n + (c - 48)) digits

-- one to three digits, and the number that they stand for
pub record IsVoterText (n : ℕ) (digits : List ℕ) : Type 0 where
  pub each : list_all is_digit digits ≡ true
  pub some : 1 ≤ length digits
  pub few : length digits ≤ 3
  pub number : n ≡ continued_number 0 digits

-- one to eight letters
pub record IsBallotText (letters : List ℕ) : Type 0 where
  pub each : list_all is_lower letters ≡ true
  pub some : 1 ≤ length letters
  pub few : length letters ≤ 8

-- the table of lexemes: how each is written. An alternative is numbered from `a`.
abbrev pub IsSpelled : Lexeme → List ℕ → Type 0
IsSpelled (lexeme.Word name) text = (text ≡ name) × (has_name_shape name ≡ true) × (length name ≤ 16)
IsSpelled (lexeme.Voter n) text = (digits : List ℕ) × (text ≡ codes "#" ++ digits) × IsVoterText n digits
IsSpelled (lexeme.Alt a) text = (c : ℕ) × (text ≡ codes "@" ++ c ∷ []) × (is_lower c ≡ true) × (a ≡ c - 97)
IsSpelled (lexeme.Ballot letters) text = (text ≡ codes "<" ++ letters ++ codes ">") × IsBallotText letters
IsSpelled lexeme.Open text = text ≡ codes "("
IsSpelled lexeme.Close text = text ≡ codes ")"
IsSpelled lexeme.Comma text = text ≡ codes ","
IsSpelled lexeme.Colon text = text ≡ codes ":"
IsSpelled lexeme.Dot text = text ≡ codes "."
IsSpelled lexeme.Equals text = text ≡ codes "="
IsSpelled lexeme.Not text = text ≡ codes "!"
IsSpelled lexeme.And text = text ≡ codes "&"
IsSpelled lexeme.Or text = text ≡ codes "|"
IsSpelled lexeme.Implies text = text ≡ codes "->"
IsSpelled lexeme.Same text = text ≡ codes "<->"

-- no such byte comes first
abbrev pub starts_without : (ℕ → Bool) → List ℕ → Bool
starts_without p [] = true
starts_without p (c ∷ bytes) = not (p c)

-- a run is the longest: what follows it does not go on with it
abbrev pub IsRunEnd : Lexeme → List ℕ → Type 0
IsRunEnd (lexeme.Word name) rest = starts_without is_name_byte rest ≡ true
IsRunEnd (lexeme.Voter n) rest = starts_without is_digit rest ≡ true
IsRunEnd (lexeme.Alt a) rest = starts_without is_name_byte rest ≡ true
IsRunEnd _ rest = Unit {0}

-- the bytes are a spelling of the lexeme, and then the rest
pub record Starts (bytes : List ℕ) (l : Lexeme) (rest : List ℕ) : Type 0 where
  pub text : List ℕ
  pub whole : bytes ≡ text ++ rest
  pub spelled : IsSpelled l text
  pub longest : IsRunEnd l rest

-- no lexeme begins there
abbrev pub NoLexeme : List ℕ → Type 0
NoLexeme bytes = (l : Lexeme) (rest : List ℕ) → Starts bytes l rest → ⊥

-- a tab, a line feed, a carriage return or a space
abbrev pub is_white_space : ℕ → Bool
is_white_space c = c == 9 || c == 10 || c == 13 || c == 32

-- The bytes are these lexemes, with blanks among them, and then the rest.
pub data Lexes : List ℕ → List Lexeme → List ℕ → Type 0 where
  no_more : {rest : List ℕ} → Lexes rest [] rest
  blank : {c : ℕ} {bytes rest : List ℕ} {ls : List Lexeme} → is_white_space c ≡ true → Lexes bytes ls rest → Lexes (c ∷ bytes) ls rest
  one_more : {bytes more rest : List ℕ} {l : Lexeme} {ls : List Lexeme} → Starts bytes l more → Lexes more ls rest → Lexes bytes (l ∷ ls) rest

-- the text is these lexemes, with blanks among them
abbrev pub IsLexed : List ℕ → List Lexeme → Type 0
IsLexed text ls = Lexes text ls []

-- At this offset stands the first byte, outside blanks, at which no lexeme begins after the lexemes before it.
pub record IsStuck (text : List ℕ) (offset : ℕ) : Type 0 where
  pub before : List Lexeme
  pub byte : ℕ
  pub more : List ℕ
  pub lexed : Lexes text before (byte ∷ more)
  pub not_blank : is_white_space byte ≡ false
  pub none : NoLexeme (byte ∷ more)
  pub place : offset + length (byte ∷ more) ≡ length text
