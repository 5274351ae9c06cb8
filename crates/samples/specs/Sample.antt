-- The study of a number, by which studies are made.
use Rattle.std.specs.Prelude.{◌≡◌, ℕ, ◌+◌, ◌/◌, ◌%◌, ◌==◌, false, List, [], ◌∷◌, take, Ok, if◌then◌else◌, codes}
use Rattle.std.specs.List.{list_any}
use Rattle.std.specs.Str.{bytes_eq}
use Rattle.vocab.specs.declared.kinds.Kind.{Kind}
use Rattle.vocab.specs.declared.kinds.Kind.TheVariants.{Choice, Ranking, Sets}
use Rattle.vocab.specs.Size.{full_size}
use Rattle.vocab.specs.Study.{Question}
use Rattle.axiom_library.specs.Library.{Entry, choice, ranking}
use Rattle.study.specs.declared.listing.Listing.{Listing}
use Rattle.study.specs.Reading.{IsListingAnswer}

-- rules that choose at even numbers, and rules that rank at odd ones
abbrev pub sample_kind : ℕ → Kind
sample_kind n = if n % 2 == 0 then Choice else Ranking

-- the axioms that numbers choose among: the first nine of rules that choose, and the first five of rules that
-- rank, whatever else the library has
abbrev pub sample_entries : Kind → List Entry
sample_entries Choice = take 9 choice
sample_entries Ranking = take 5 ranking
sample_entries Sets = []

-- those entries whose place is a digit of the number that is 1, the lowest digit being that of place 0
abbrev pub entries_by : ℕ → List Entry → List Entry
entries_by digits [] = []
entries_by digits (e ∷ entries) =
    if digits % 2 == 1 then e ∷ entries_by (digits / 2) entries else entries_by (digits / 2) entries

-- two or three voters, three alternatives, each ranking of which may be cast, no absence, a limit of 20,000,
-- and the axioms that the other digits choose
abbrev pub sample_listing : ℕ → Listing
sample_listing n = record {
  size = full_size (sample_kind n) (2 + n / 2 % 2) 3;
  conflicts = 20000;
  axioms = entries_by (n / 4) (sample_entries (sample_kind n));
}

-- the study that a listing reads as is that of the number
abbrev pub IsSampleStudy : ℕ → Question → Type 0
IsSampleStudy n study = IsListingAnswer (sample_listing n) (Ok study)

-- each number has exactly one study
abbrev pub SamplesAreStudies : Type 0
SamplesAreStudies =
    (n : ℕ) → (study : Question) × IsSampleStudy n study × ((other : Question) → IsSampleStudy n other → other ≡ study)

-- no study of a number has the axiom `participation`, the tenth of rules that choose
abbrev pub SamplesLackParticipation : Type 0
SamplesLackParticipation =
    (n : ℕ) (study : Question) → IsSampleStudy n study → list_any (λ a. bytes_eq a.name (codes "participation")) study.axioms ≡ false
