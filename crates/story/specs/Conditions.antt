-- What the checker asks of its arguments.
use Rattle.std.specs.Prelude.{◌≡◌, ℕ, ◌+◌, Bool, nat_lt, List, [], length}
use Rattle.std.specs.List.{list_all}
use Rattle.vocab.specs.Size.{Extent}
use Rattle.vocab.specs.Titled.{Titled}
use Rattle.meaning.specs.declared.stories.Lemma.{Lemma}
use Rattle.worlds.specs.Boards.{Known}

-- each place of the core is that of an axiom
abbrev pub has_places : List Titled → List ℕ → Bool
has_places axioms core = list_all (λ k. nat_lt k (length axioms)) core

-- the lemma has fewer than 4,294,967,295 suppositions and steps together, so that each of its lines has a number
abbrev pub is_short : Lemma → Bool
is_short lemma = nat_lt (length lemma.suppose + length lemma.steps) 4294967295

-- a board of the size that has no literal
pub record IsClear (wanted : Extent) (board : Known) : Type 0 where
  pub size : board.size ≡ wanted
  pub cleared : board.literals ≡ []
