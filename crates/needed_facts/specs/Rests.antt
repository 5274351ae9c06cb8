-- What a reason rests on.
use Rattle.std.specs.Prelude.{ℕ, Bool, true, ◌==◌, IsTrue, List, ◌++◌}
use Rattle.std.specs.List.{list_all}
use Rattle.vocab.specs.declared.literals.Literal.{Literal}
use Rattle.vocab.specs.Literal.{has, profile_of}
use Rattle.vocab.specs.Size.{Extent}
use Rattle.vocab.specs.Titled.{Titled}
use Rattle.meaning.specs.declared.stories.Lemma.{Lemma}
use Rattle.meaning.specs.declared.stories.Reason.{Reason}
use Rattle.meaning.specs.declared.stories.Reason.TheVariants.{Axiom as ByAxiom, Outcome as ByOutcome, Lemma as ByLemma}
use Rattle.meaning.specs.Stories.{refutes}

-- where a reason is what is left at a profile, all these facts are of that profile
abbrev pub are_there : Reason → List Literal → Bool
are_there (ByAxiom k values) rests = true
are_there (ByOutcome p) rests = list_all (λ l. profile_of l == p) rests
are_there (ByLemma j) rests = true

module _ (size : Extent) (axioms : List Titled) (core : List ℕ) (earlier : List Lemma) where
  -- a reason rests on these facts: they are known, and with the others the reason refutes them
  pub record RestsOn (known others : List Literal) (reason : Reason) (rests : List Literal) : Type 0 where
    pub kept : IsTrue (list_all (has known) rests)
    pub refuted : IsTrue (refutes size axioms core earlier (rests ++ others) reason)
