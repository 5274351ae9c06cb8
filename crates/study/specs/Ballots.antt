-- The size of a study, with the ballots that it lists, or what is refused of them.
use Rattle.std.specs.Prelude.{ℕ, ◌^◌, List, [], ◌∷◌, ◌++◌, filter, sum_by, Bool, not, ◌&&◌, ℤ, nat_abs, if◌then◌else◌, Option, None, Some, Result, Ok, Err}
use Rattle.std.specs.List.{list_any}
use Rattle.std.specs.Str.{bytes_eq}
use Rattle.vocab.specs.Range.{below}
use Rattle.vocab.specs.Size.{Extent, all_ballots, factorial}
use Rattle.vocab.specs.SizeFault.{is_between, size_with}
use Rattle.vocab.specs.declared.sizes.SizeFault.TheVariants.{Alternatives, Voters}
use Rattle.meaning.specs.Texts.{ranking_text}
use Rattle.study.specs.declared.drafts.Head.{Head}
use Rattle.study.specs.declared.faults.StudyFault.{StudyFault}
use Rattle.study.specs.declared.faults.StudyFault.TheVariants as fault
use Rattle.study.specs.Refusing.{◌>>=◌, refused_as}

module _ (m : ℕ) where
  -- a text is that of a ranking of m alternatives
  abbrev pub is_ranking : List ℕ → Bool
  is_ranking text = list_any (λ place. bytes_eq text (ranking_text m place)) (below (factorial m))

  -- each text is that of a ranking and stands nowhere earlier; else the first that is not, or does
  abbrev pub own_rankings : List (List ℕ) → List (List ℕ) → Result (Unit {0}) StudyFault
  own_rankings earlier [] = Ok tt
  own_rankings earlier (text ∷ texts) =
      if is_ranking text && not (list_any (bytes_eq text) earlier) then own_rankings (earlier ++ text ∷ []) texts
      else Err (fault.Ballot text)

  -- the text of the ranking of a place stands among the texts
  abbrev pub is_listed : List (List ℕ) → ℕ → Bool
  is_listed texts place = list_any (bytes_eq (ranking_text m place)) texts

  -- the number in which digit j is set exactly where the text of the j-th of all rankings stands among the texts
  abbrev pub listed_digits : List (List ℕ) → ℕ
  listed_digits texts = sum_by (λ place. 2 ^ place) (filter (is_listed texts) (below (factorial m)))

  -- the rankings that may be cast, as digits: those that are listed, or all where there is no list
  abbrev pub ballots_in : Option (List (List ℕ)) → Result ℕ StudyFault
  ballots_in None = Ok (all_ballots m)
  ballots_in (Some texts) = own_rankings [] texts >>= (λ _. Ok (listed_digits texts))

-- how many alternatives there are, if they and the voters are as many as a size may have
abbrev pub alternatives_of : ℤ → ℤ → Result ℕ StudyFault
alternatives_of voters alternatives =
    if is_between 1 voters 8 then
    (if is_between 1 alternatives 5 then Ok (nat_abs alternatives) else Err (fault.Size (Alternatives alternatives)))
    else Err (fault.Size (Voters voters))

-- the size, or its first fault: the voters, the alternatives, the text of a ballot, the ballots as a whole, the profiles
unfoldable pub sized : Head → Result Extent StudyFault
sized head = do
  m ← alternatives_of head.voters head.alternatives
  ballots ← ballots_in m head.ballots
  refused_as fault.Size (size_with head.kind head.voters head.alternatives ballots head.absent)
