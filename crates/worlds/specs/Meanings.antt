-- What an operation of an algebra leaves as it was.
use Rattle.vocab.specs.declared.literals.Literal.{Literal}
use Rattle.meaning.specs.Written.{Written}

-- what values stand for, and which literals are taken, is the same before and after
pub record SameMeaning {V : Type 0} (stands stands' : V → Written → Type 0) (takes takes' : Literal → Type 0) : Type 0 where
  pub onward : (v : V) (w : Written) → stands v w → stands' v w
  pub back : (v : V) (w : Written) → stands' v w → stands v w
  pub taken : (l : Literal) → takes l → takes' l
  pub gave : (l : Literal) → takes' l → takes l
