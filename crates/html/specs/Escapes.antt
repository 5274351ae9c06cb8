-- Texts as HTML has them: the signs that have a meaning there are written as HTML demands (WHATWG, HTML, "Character references").
use Rattle.std.specs.Prelude.{ℕ, ◌==◌, List, [], ◌∷◌, ◌++◌, codes, Option, Some, None, if◌then◌else◌}
use Rattle.std.specs.List.{flat_map}
use Rattle.std.specs.Str.{bytes_eq}

-- a byte of a text
abbrev pub escape : ℕ → List ℕ
escape b = if b == 38 then codes "&amp;" else (if b == 60 then codes "&lt;" else (if b == 62 then codes "&gt;" else (if b == 34 then codes "&quot;" else (if b == 39 then codes "&#39;" else b ∷ []))))

-- a text
abbrev pub escaped : List ℕ → List ℕ
escaped text = flat_map escape text

-- ---- read back

-- what stands for `&`, a name and `;`: the sign of that name; where the name is none of the five, the same again
abbrev pub sign_of : List ℕ → List ℕ
sign_of name = if bytes_eq name (codes "amp") then codes "&" else (if bytes_eq name (codes "lt") then codes "<" else (if bytes_eq name (codes "gt") then codes ">" else (if bytes_eq name (codes "quot") then codes "\"" else (if bytes_eq name (codes "#39") then codes "'" else codes "&" ++ name ++ codes ";"))))

-- what is read of a text that stands after `&` and the front of a name, if there are such
abbrev pub read_after : Option (List ℕ) → List ℕ → List ℕ
read_after None [] = []
read_after None (b ∷ text) = if b == 38 then read_after (Some []) text else b ∷ read_after None text
read_after (Some name) [] = codes "&" ++ name
read_after (Some name) (b ∷ text) = if b == 59 then sign_of name ++ read_after None text else read_after (Some (name ++ b ∷ [])) text

-- what a browser reads of a text
abbrev pub unescaped : List ℕ → List ℕ
unescaped text = read_after None text
