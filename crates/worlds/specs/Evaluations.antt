-- What an evaluation by an algebra asks for, and what it gives.
use Rattle.std.specs.Prelude.{ℕ, List, Result, IsTrue, IfOk, IfErr}
use Rattle.vocab.specs.declared.literals.Literal.{Literal}
use Rattle.vocab.specs.Size.{Extent}
use Rattle.vocab.specs.Tree.{Tree}
use Rattle.meaning.specs.Literals.{is_literal}
use Rattle.meaning.specs.Written.{Written}
use Rattle.worlds.specs.Conditions.{IsEvaluable}
use Rattle.worlds.specs.Meanings.{SameMeaning}

-- the formula can be evaluated at these values, and the algebra takes each literal of the size
pub record CanEvaluate (size : Extent) (taken : Literal → Type 0) (f : Tree) (env : List ℕ) : Type 0 where
  pub fits : IsEvaluable size f env
  pub takes : (l : Literal) → IsTrue (is_literal size l) → taken l

-- a value stands for the formula written out, or there is a stop that the algebra may answer, and the algebra means what it meant
pub record Evaluates {A V Stop : Type 0} (stands : A → V → Written → Type 0) (takes : A → Literal → Type 0) (may_stop : Stop → Type 0) (before after : A) (w : Written) (result : Result V Stop) : Type 0 where
  pub ok : IfOk result (λ v. stands before v w)
  pub err : IfErr result may_stop
  pub same : SameMeaning (stands before) (stands after) (takes before) (takes after)
