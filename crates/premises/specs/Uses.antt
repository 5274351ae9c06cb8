-- By which lemmas one is named, as it is counted.
use Rattle.std.specs.Prelude.{◌≡◌, ℕ, ◌<◌, ◌≤◌, nat_lt, ◌==◌, Bool, false, ◌&&◌, List, [], ◌∷◌, ◌++◌, length, slice_get, Option, Some, None}
use Rattle.meaning.specs.declared.stories.Lemma.{Lemma}
use Rattle.tellings.specs.declared.tellings.Telling.{Telling}
use Rattle.tellings.specs.Tellings.{namers, home_of, stands_in, is_shallow, greatest_depth}
use Rattle.premises.specs.declared.uses.Use.{Use}
use Rattle.premises.specs.declared.uses.Use.TheVariants.{Never, Once, Often}

-- the use of a lemma that these places name
abbrev pub use_of : List ℕ → Use
use_of [] = Never
use_of (m ∷ []) = Once m
use_of (m ∷ k ∷ ks) = Often

-- the use of a lemma that the one at a place names too
abbrev pub also : Use → ℕ → Use
also Never m = Once m
also (Once k) m = Often
also Often m = Often

-- the lemma at a place alone names it, once
abbrev pub is_once : ℕ → Use → Bool
is_once m Never = false
is_once m (Once k) = k == m
is_once m Often = false

-- the lemma at the second place takes in the one at the first, which is used so
abbrev pub takes : List (Option ℕ) → Use → ℕ → ℕ → Bool
takes homes used j m = nat_lt j m && is_shallow homes greatest_depth m && is_once m used

-- each lemma is named by so many more
abbrev pub AreNamed : List Use → List Use → (ℕ → List ℕ) → Type 0
AreNamed old new more = (j : ℕ) (names : List ℕ) → slice_get old j ≡ Some (use_of names) → slice_get new j ≡ Some (use_of (names ++ more j))

-- the use of each lemma of a story that is told so
pub record AreUses (story : List Lemma) (tellings : List Telling) (uses : List Use) : Type 0 where
  pub all : length uses ≡ length story
  pub each : (j : ℕ) → j < length story → slice_get uses j ≡ Some (use_of (namers story tellings j))

-- from a place on lemmas stand where those take them in that use them; those before it stand by themselves
pub record AreHomesFrom (uses : List Use) (homes : List (Option ℕ)) (place : ℕ) : Type 0 where
  pub all : length homes ≡ length uses
  pub alone : (j : ℕ) → j < place → home_of homes j ≡ None
  pub placed : (j m : ℕ) (used : Use) → place ≤ j → slice_get uses j ≡ Some used → stands_in m (home_of homes j) ≡ takes homes used j m
