-- The size, the limit and the axioms' texts of a study, or what is refused of them.
use Rattle.std.specs.Prelude.{ℕ, ◌≤◌, List, [], ◌∷◌, ◌++◌, length, Bool, true, not, ◌&&◌, ◌||◌, nat_le, nat_abs, ℤ, if◌then◌else◌, Option, None, Some, is_some, Result, Ok, Err, IsTrue}
use Rattle.std.specs.List.{list_any}
use Rattle.std.specs.Str.{bytes_eq}
use Rattle.vocab.specs.declared.kinds.Kind.{Kind}
use Rattle.vocab.specs.SizeFault.{is_between}
use Rattle.axiom_library.specs.Library.{Entry, text_among, text_under}
use Rattle.study.specs.declared.drafts.Draft.{Draft}
use Rattle.study.specs.declared.faults.StudyFault.{StudyFault}
use Rattle.study.specs.declared.faults.StudyFault.TheVariants as fault
use Rattle.study.specs.declared.listing.Listing.{Listing}
use Rattle.study.specs.Ballots.{sized}
use Rattle.study.specs.Refusing.{◌>>=◌}

-- the limit of a search is from 1 to 1,000,000
abbrev pub limit_of : ℤ → Result ℕ StudyFault
limit_of z = if is_between 1 z 1000000 then Ok (nat_abs z) else Err (fault.Conflicts z)

-- there are at most 40 axioms
abbrev pub few_of : List (List ℕ) → Result (Unit {0}) StudyFault
few_of names = if nat_le (length names) 40 then Ok tt else Err (fault.Many (length names))

-- the library's text, or else the study's own
abbrev pub or_own : Option (List ℕ) → Option (List ℕ) → Option (List ℕ)
or_own (Some text) own = Some text
or_own None own = own

-- a name with its text, if it has one
abbrev pub named_entry : List ℕ → Option (List ℕ) → Result Entry StudyFault
named_entry name None = Err (fault.Unknown name)
named_entry name (Some text) = Ok (record { name = name; text = text })

module _ (kind : Kind) (own : List Entry) where
  -- the text under a name: the library's for the kind, or else one of the study's own sentences
  abbrev pub text_under_name : List ℕ → Option (List ℕ)
  text_under_name name = or_own (text_under kind name) (text_among own name)

  -- each name with its text, or the first that has none
  abbrev pub listed : List (List ℕ) → Result (List Entry) StudyFault
  listed [] = Ok []
  listed (name ∷ names) = named_entry name (text_under_name name) >>= (λ e. listed names >>= (λ entries. Ok (e ∷ entries)))

  -- a name is in the library for the kind and among the study's own sentences
  abbrev pub is_in_both : List ℕ → Bool
  is_in_both name = is_some (text_under kind name) && is_some (text_among own name)

  -- no name stands earlier in the list or has two texts; else the first that does
  abbrev pub once : List Entry → List Entry → Result (Unit {0}) StudyFault
  once earlier [] = Ok tt
  once earlier (e ∷ entries) = if list_any (λ other. bytes_eq other.name e.name) earlier || is_in_both e.name then Err (fault.Twice e.name) else once (earlier ++ e ∷ []) entries

-- what a draft lists, or the first refusal: of the size, the limit, the number of axioms, an unknown name, a name that stands twice
unfoldable pub listing_of : Draft → Result Listing StudyFault
listing_of draft = do
  size ← sized draft.head
  conflicts ← limit_of draft.head.conflicts
  _ ← few_of draft.axioms
  axioms ← listed draft.head.kind draft.sentences draft.axioms
  _ ← once draft.head.kind draft.sentences [] axioms
  Ok (record { size = size; conflicts = conflicts; axioms = axioms })

-- no two entries have one name
abbrev pub have_own_names : List Entry → Bool
have_own_names [] = true
have_own_names (e ∷ entries) = not (list_any (λ other. bytes_eq e.name other.name) entries) && have_own_names entries

-- what holds of each listing
pub record IsListing (listing : Listing) : Type 0 where
  pub own_names : IsTrue (have_own_names listing.axioms)
  pub few_axioms : length listing.axioms ≤ 40
  pub some_conflicts : 1 ≤ listing.conflicts
  pub few_conflicts : listing.conflicts ≤ 1000000
