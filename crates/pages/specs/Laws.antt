-- What holds of pages. Each is proved as the contract of a function of the same name in src/laws.rt.
use Rattle.std.specs.Prelude.{◌≡◌, ℕ, ◌==◌, nat_lt, not, ◌&&◌, Bool, List, IsTrue}
use Rattle.std.specs.List.{list_all}
use Rattle.html.specs.Escapes.{escaped, unescaped}
use Rattle.pages.specs.FileNames.{shell_word, word_read}

-- four tests that all fail
abbrev pub none_of : (a b c d : Bool) → Bool
none_of a b c d = not a && not b && not c && not d

-- no sign that begins or ends a tag, and neither quotation mark (WHATWG, HTML, "Syntax")
abbrev pub is_plain : ℕ → Bool
is_plain b = none_of (b == 60) (b == 62) (b == 34) (b == 39)

-- a text of a study opens no tag and ends no value of an attribute, whatever stands in it
abbrev pub TextsArePlain : Type 0
TextsArePlain = (text : List ℕ) → IsTrue (list_all is_plain (escaped text))

-- what a browser reads of a text of a study, as the page has it, is the text itself, whatever stands in it
abbrev pub TextsReadBack : Type 0
TextsReadBack = (text : List ℕ) → unescaped (escaped text) ≡ text

-- no control byte, and not the byte with which the control signs U+0080 to U+009F begin in UTF-8 (WHATWG, HTML, "Preprocessing the input stream")
abbrev pub is_shown : ℕ → Bool
is_shown b = nat_lt 31 b && not (b == 127) && not (b == 194)

-- the name of a file brings no control sign to the page, whatever stands in it
abbrev pub NamesAreShown : Type 0
NamesAreShown = (name : List ℕ) → IsTrue (list_all is_shown (shell_word name))

-- what a shell reads of the word of a file's name is the name, whatever stands in it
abbrev pub NamesReadBack : Type 0
NamesReadBack = (name : List ℕ) → IsTrue (list_all (λ b. nat_lt b 256) name) → word_read (shell_word name) ≡ name
