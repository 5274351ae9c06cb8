-- What a formula begins with.
use Rattle.std.specs.Prelude.{◌≡◌, ◌≢◌}
use Rattle.syntax.specs.declared.lexemes.Lexeme.{Lexeme}
use Rattle.syntax.specs.declared.lexemes.Lexeme.TheVariants as lexeme
use Rattle.syntax.specs.declared.lexemes.Quantifier.{Quantifier}
use Rattle.syntax.specs.declared.parser.Opening.{Opening}
use Rattle.syntax.specs.declared.parser.Opening.TheVariants as opening
use Rattle.syntax.specs.Grammar.{word_of_quantifier}

-- the lexeme begins an atom, if a formula
pub record IsOther (first : Lexeme) : Type 0 where
  pub no_quantifier : (q : Quantifier) → first ≢ lexeme.Word (word_of_quantifier q)
  pub not_not : first ≢ lexeme.Not
  pub not_open : first ≢ lexeme.Open

-- a formula that begins with this lexeme is of this form
abbrev pub Opens : Opening → Lexeme → Type 0
Opens (opening.Quantified q) first = first ≡ lexeme.Word (word_of_quantifier q)
Opens opening.Negation first = first ≡ lexeme.Not
Opens opening.Group first = first ≡ lexeme.Open
Opens opening.Atom first = IsOther first
