-- Names of files as words of a command line, as bash, zsh and POSIX 2024 read them ("Shell Command Language", "Dollar-Single-Quotes").
use Rattle.std.specs.Prelude.{ℕ, ◌+◌, ◌-◌, ◌*◌, ◌==◌, ◌/◌, ◌%◌, ◌&&◌, ◌||◌, Bool, List, [], ◌∷◌, ◌++◌, codes, Option, Some, None, if◌then◌else◌}
use Rattle.std.specs.Int.{is_in_range}
use Rattle.std.specs.List.{flat_map, list_all}

-- a byte that stands for itself: `+` to `:` with the digits, `@` to `Z`, `_`, `a` to `z`, and in UTF-8 those of U+00C0 to U+EFFF but for U+2000 to U+2FFF, a blank like U+3000 among them
abbrev pub is_ordinary : ℕ → Bool
is_ordinary b = is_in_range 43 58 b || is_in_range 64 90 b || b == 95 || is_in_range 97 122 b || is_in_range 128 191 b || is_in_range 195 225 b || is_in_range 227 238 b

-- the last octal digit of a number
abbrev pub octal : ℕ → ℕ
octal n = 48 + n % 8

-- a byte between `$'` and `'`: a backslash stands before the quotation mark and the backslash, and the three octal digits of what is no printable sign of ASCII after one
abbrev pub shell_quoted : ℕ → List ℕ
shell_quoted b = if b == 39 then codes "\\'" else (if b == 92 then codes "\\\\" else (if is_in_range 32 126 b then b ∷ [] else 92 ∷ octal (b / 8 / 8) ∷ octal (b / 8) ∷ octal b ∷ []))

-- a name: as it stands, where each of its bytes stands for itself, and else quoted
abbrev pub shell_word : List ℕ → List ℕ
shell_word name = if list_all is_ordinary name then name else codes "$'" ++ flat_map shell_quoted name ++ codes "'"

-- ---- read back

-- the number of three octal digits
abbrev pub octal_value : (c d e : ℕ) → ℕ
octal_value c d e = (c - 48) * 8 * 8 + (d - 48) * 8 + (e - 48)

-- what is read of a text that stands between `$'` and `'`, after a backslash and the front of a number, if there are such
abbrev pub read_quoted : Option (List ℕ) → List ℕ → List ℕ
read_quoted None [] = []
read_quoted None (b ∷ text) = if b == 92 then read_quoted (Some []) text else (if b == 39 then [] else b ∷ read_quoted None text)
read_quoted (Some digits) [] = []
read_quoted (Some []) (b ∷ text) = if is_in_range 48 55 b then read_quoted (Some (b ∷ [])) text else b ∷ read_quoted None text
read_quoted (Some (c ∷ [])) (b ∷ text) = read_quoted (Some (c ∷ b ∷ [])) text
read_quoted (Some (c ∷ d ∷ digits)) (b ∷ text) = octal_value c d b ∷ read_quoted None text

-- what a shell reads of a word that `shell_word` writes
abbrev pub word_read : List ℕ → List ℕ
word_read [] = []
word_read (a ∷ []) = a ∷ []
word_read (a ∷ b ∷ text) = if a == 36 && b == 39 then read_quoted None text else a ∷ b ∷ text
