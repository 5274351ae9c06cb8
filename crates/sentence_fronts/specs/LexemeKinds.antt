-- Kinds of lexemes, and how a person is told of them.
use Rattle.std.specs.Prelude.{ℕ, Bool, ◌||◌, if◌then◌else◌, List, [], ◌∷◌, codes}
use Rattle.std.specs.Str.{bytes_eq}
use Rattle.syntax.specs.declared.lexemes.Lexeme.{Lexeme}
use Rattle.syntax.specs.declared.lexemes.Lexeme.TheVariants as lexeme
use Rattle.sentence_fronts.specs.declared.lexeme_kinds.LexemeKind.{LexemeKind}
use Rattle.sentence_fronts.specs.declared.lexeme_kinds.LexemeKind.TheVariants as kind

-- "all" | "some"
abbrev pub is_quantifier_word : List ℕ → Bool
is_quantifier_word name = bytes_eq name (codes "all") || bytes_eq name (codes "some")

-- "voter" | "alt" | "ballot" | "profile"
abbrev pub is_sort_word : List ℕ → Bool
is_sort_word name = (bytes_eq name (codes "voter") || bytes_eq name (codes "alt")) || (bytes_eq name (codes "ballot") || bytes_eq name (codes "profile"))

-- what a name is, by itself
abbrev pub word_kind : List ℕ → LexemeKind
word_kind name = if is_quantifier_word name then kind.Quantifier else if is_sort_word name then kind.Sort else kind.Name

-- the kind of a lexeme; none is an end
abbrev pub kind_of : Lexeme → LexemeKind
kind_of (lexeme.Word name) = word_kind name
kind_of (lexeme.Voter n) = kind.Voter
kind_of (lexeme.Alt a) = kind.Alt
kind_of (lexeme.Ballot letters) = kind.Ballot
kind_of lexeme.Open = kind.Open
kind_of lexeme.Close = kind.Close
kind_of lexeme.Comma = kind.Comma
kind_of lexeme.Colon = kind.Colon
kind_of lexeme.Dot = kind.Dot
kind_of lexeme.Equals = kind.Equals
kind_of lexeme.Not = kind.Not
kind_of lexeme.And = kind.And
kind_of lexeme.Or = kind.Or
kind_of lexeme.Implies = kind.Implies
kind_of lexeme.Same = kind.Same

-- all kinds, in the order in which they are told
abbrev pub all_kinds : List LexemeKind
all_kinds =
    kind.Quantifier ∷ kind.Not ∷ kind.Open ∷ kind.Name ∷ kind.Sort ∷ kind.Voter ∷ kind.Alt ∷ kind.Ballot ∷ kind.Equals
    ∷ kind.Comma ∷ kind.Colon ∷ kind.Dot ∷ kind.And ∷ kind.Or ∷ kind.Implies ∷ kind.Same ∷ kind.Close ∷ kind.End ∷ []

-- what a person is told of a kind
abbrev pub lexeme_kind_text : LexemeKind → List ℕ
lexeme_kind_text kind.Quantifier = codes "`all`, `some`"
lexeme_kind_text kind.Not = codes "`!`"
lexeme_kind_text kind.Open = codes "`(`"
lexeme_kind_text kind.Name = codes "a name"
lexeme_kind_text kind.Sort = codes "`voter`, `alt`, `ballot`, `profile`"
lexeme_kind_text kind.Voter = codes "a voter as `#1`"
lexeme_kind_text kind.Alt = codes "an alternative as `@a`"
lexeme_kind_text kind.Ballot = codes "a ballot as `<abc>`"
lexeme_kind_text kind.Equals = codes "`=`"
lexeme_kind_text kind.Comma = codes "`,`"
lexeme_kind_text kind.Colon = codes "`:`"
lexeme_kind_text kind.Dot = codes "`.`"
lexeme_kind_text kind.And = codes "`&`"
lexeme_kind_text kind.Or = codes "`|`"
lexeme_kind_text kind.Implies = codes "`->`"
lexeme_kind_text kind.Same = codes "`<->`"
lexeme_kind_text kind.Close = codes "`)`"
lexeme_kind_text kind.End = codes "the end"
