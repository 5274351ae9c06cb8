use Rattle.instance_text.proofs.terms.+terms.Goals as goal

pub put_term-returns-in-SwapVoters : goal.put_term-returns-in-SwapVoters
put_term-returns-in-SwapVoters t c =
    rw c.in-SwapVoters.is (rw (c.deref-in-SwapVoters.ensures, c.deref-in-SwapVoters-2.ensures, c.deref-in-SwapVoters-3.ensures) at c.put_three-in-SwapVoters.ensures)
