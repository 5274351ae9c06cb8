-- Formulas that are a literal.
use Rattle.std.specs.Prelude.{◌≡◌, IsTrue}
use Rattle.vocab.specs.declared.literals.Literal.{Literal}
use Rattle.vocab.specs.Size.{Extent}
use Rattle.cnf.specs.Signed.{Signed}
use Rattle.meaning.specs.Literals.{is_literal}
use Rattle.meaning.specs.Variables.{lit_of}
use Rattle.meaning.specs.Written.{Written, Fact}

-- a formula is one literal of a size, which has this variable and sign
pub record IsOneLiteral (size : Extent) (w : Written) (lit : Signed) : Type 0 where
  pub literal : Literal
  pub of_size : IsTrue (is_literal size literal)
  pub fact : w ≡ Fact literal
  pub variable : lit ≡ lit_of size literal
