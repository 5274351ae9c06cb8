-- The place of a text up to which some sentence goes.
use Rattle.std.specs.Prelude.{ℕ, ◌-◌, ◌&&◌, nat_lt, nat_le, List, [], ◌∷◌, ◌++◌, length, map, take, drop, codes, decimal, if◌then◌else◌}
use Rattle.std.specs.List.{flat_map}
use Rattle.sentence_fronts.specs.declared.lexeme_kinds.LexemeKind.{LexemeKind}
use Rattle.sentence_fronts.specs.LexemeKinds.{lexeme_kind_text}

-- a byte of a line: one that is printed in ASCII, or a blank
abbrev pub shown_byte : ℕ → ℕ
shown_byte c = if nat_le 32 c && nat_lt c 127 then c else 32

-- some bytes within quotes, on one line
abbrev pub quoted : List ℕ → List ℕ
quoted bytes = codes "`" ++ map shown_byte bytes ++ codes "`"

-- the last 40 bytes
abbrev pub last_bytes : List ℕ → List ℕ
last_bytes bytes = drop (length bytes - 40) bytes

-- the first 20 bytes
abbrev pub first_bytes : List ℕ → List ℕ
first_bytes bytes = take 20 bytes

-- what follows the place
abbrev pub there_text : List ℕ → List ℕ
there_text [] = codes "the end"
there_text (c ∷ cs) = quoted (first_bytes (c ∷ cs))

-- one kind more
abbrev pub next_kind_text : LexemeKind → List ℕ
next_kind_text k = codes ", " ++ lexeme_kind_text k

-- what may stand there, one after the other
abbrev pub kinds_text : List LexemeKind → List ℕ
kinds_text [] = []
kinds_text (k ∷ ks) = lexeme_kind_text k ++ flat_map next_kind_text ks

-- the lines of the place: its offset, what reads before it, what stands there, and what may
abbrev pub offset_line : (name : List ℕ) → (offset : ℕ) → List ℕ
offset_line name offset = codes "help " ++ name ++ codes " reads up to byte " ++ decimal offset ++ codes "\n"

abbrev pub before_line : List ℕ → List ℕ
before_line before = codes "help before it: " ++ quoted (last_bytes before) ++ codes "\n"

abbrev pub there_line : List ℕ → List ℕ
there_line rest = codes "help there stands: " ++ there_text rest ++ codes "\n"

abbrev pub kinds_line : List LexemeKind → List ℕ
kinds_line next = codes "help there may stand: " ++ kinds_text next ++ codes "\n"

abbrev pub place_lines : (name text : List ℕ) → (offset : ℕ) → (next : List LexemeKind) → List ℕ
place_lines name text offset next =
    offset_line name offset ++ before_line (take offset text) ++ there_line (drop offset text) ++ kinds_line next
