-- The study of a number: its size, its entries one by one, and that nothing in it is refused.
use Rattle.std.proofs.Common.{◌≡◌, ◌≤◌, ◌<◌, ◌+◌, arith, refl, ℕ, zero, suc, pos, List, [], ◌∷◌, ◌++◌, length, get_or, drop, Bool, true, false, cond, not, Ok, Err, lit≤, append_assoc}
use Rattle.std.specs.Prelude.{◌/◌, ◌%◌, ◌==◌}
use Rattle.std.proofs.lemmas.Bool.{and_parts, and_from, or_parts, or_from, not_from_false, not-true}
use Rattle.std.proofs.lemmas.List.{drop_more}
use Rattle.std.specs.List.{list_any}
use Rattle.std.specs.Str.{bytes_eq}
use Rattle.vocab.specs.declared.kinds.Kind.{Kind}
use Rattle.vocab.specs.declared.kinds.Kind.TheVariants.{Choice, Ranking, Sets}
use Rattle.vocab.specs.Size.{full_size}
use Rattle.vocab.specs.SizeFault.{size_of}
use Rattle.axiom_library.specs.Library.{Entry, choice, ranking}
use Rattle.study.specs.declared.faults.StudyFault.{StudyFault}
use Rattle.study.specs.Listing.{have_own_names, IsListing}
use Rattle.study.specs.Reading.{IsListingAnswer}
use Rattle.samples.specs.Sample.{sample_kind, sample_entries, entries_by, sample_listing}
use Rattle.study.proofs.OneAnswer.{one_of_listing}
use Rattle.samples.proofs.Samples.{samples_given}

-- two or three voters are a size
pub size_given : (kind : Kind) (more : ℕ) → more ≤ 1 → size_of kind (pos (2 + more)) (pos 3) ≡ Ok (full_size kind (2 + more) 3)
size_given kind zero low = refl
size_given kind (suc zero) low = refl
size_given kind (suc (suc more)) low = absurd (omega (arith, low))

-- ---- entry by entry

no_entry : Entry
no_entry = record { name = []; text = [] }

-- an entry whose digit is 1
pub entry_taken : (before entries : List Entry) (digits place : ℕ) (e : Entry) → place < length entries → e ≡ get_or entries place e → (digits % 2 == 1) ≡ true
    → (before ++ e ∷ []) ++ entries_by (digits / 2) (drop (place + 1) entries) ≡ before ++ entries_by digits (drop place entries)
entry_taken before entries digits place e within is one = rw (drop_more entries place e within, ← is, one) (append_assoc before (e ∷ []) (entries_by (digits / 2) (drop (place + 1) entries)))

-- an entry whose digit is 0
pub entry_left : (before entries : List Entry) (digits place : ℕ) → place < length entries → (digits % 2 == 1) ≡ false
    → before ++ entries_by (digits / 2) (drop (place + 1) entries) ≡ before ++ entries_by digits (drop place entries)
entry_left before entries digits place within none = rw (drop_more entries place no_entry within, none) refl

-- ---- what a number lists is a listing

few_chosen : (digits : ℕ) (entries : List Entry) → length (entries_by digits entries) ≤ length entries
few_chosen digits [] = lit≤ tt
few_chosen digits (e ∷ entries) = by_digit (digits % 2 == 1) (few_chosen (digits / 2) entries)
  where
    by_digit : (b : Bool) → length (entries_by (digits / 2) entries) ≤ length entries → length (cond b (e ∷ entries_by (digits / 2) entries) (entries_by (digits / 2) entries)) ≤ suc (length entries)
    by_digit true few = omega (arith, few)
    by_digit false few = omega (arith, few)

-- what none of the entries is, none that is chosen is
pub none_chosen : (p : Entry → Bool) (digits : ℕ) (entries : List Entry) → list_any p entries ≡ false → list_any p (entries_by digits entries) ≡ false
none_chosen p digits [] none = refl
none_chosen p digits (e ∷ entries) none =
    let parts = or_parts (p e) (list_any p entries) none in
    by_digit (digits % 2 == 1) parts.0 (none_chosen p (digits / 2) entries parts.1)
  where
    by_digit : (b : Bool) → p e ≡ false → list_any p (entries_by (digits / 2) entries) ≡ false → list_any p (cond b (e ∷ entries_by (digits / 2) entries) (entries_by (digits / 2) entries)) ≡ false
    by_digit true first rest = or_from _ _ first rest
    by_digit false first rest = rest

own_chosen : (digits : ℕ) (entries : List Entry) → have_own_names entries ≡ true → have_own_names (entries_by digits entries) ≡ true
own_chosen digits [] own = refl
own_chosen digits (e ∷ entries) own =
    let parts = and_parts (not (list_any (λ other. bytes_eq e.name other.name) entries)) (have_own_names entries) own in
    by_digit (digits % 2 == 1) (none_chosen (λ other. bytes_eq e.name other.name) (digits / 2) entries (not-true _ parts.0)) (own_chosen (digits / 2) entries parts.1)
  where
    by_digit : (b : Bool) → list_any (λ other. bytes_eq e.name other.name) (entries_by (digits / 2) entries) ≡ false → have_own_names (entries_by (digits / 2) entries) ≡ true
        → have_own_names (cond b (e ∷ entries_by (digits / 2) entries) (entries_by (digits / 2) entries)) ≡ true
    by_digit true none rest = and_from _ _ (not_from_false _ none) rest
    by_digit false none rest = rest

all_own : (kind : Kind) → have_own_names (sample_entries kind) ≡ true
unfolding choice ranking
all_own Choice = refl
all_own Ranking = refl
all_own Sets = refl

all_few : (kind : Kind) → length (sample_entries kind) ≤ 40
unfolding choice ranking
all_few Choice = lit≤ tt
all_few Ranking = lit≤ tt
all_few Sets = lit≤ tt

pub sample_whole : (n : ℕ) → IsListing (sample_listing n)
sample_whole n = record {
  own_names = own_chosen (n / 4) (sample_entries (sample_kind n)) (all_own (sample_kind n));
  few_axioms = omega (arith, few_chosen (n / 4) (sample_entries (sample_kind n)), all_few (sample_kind n));
  some_conflicts = lit≤ tt;
  few_conflicts = lit≤ tt;
}

-- it has a study, so nothing in it is refused
pub sample_not_refused : (n : ℕ) (refusal : StudyFault) → IsListingAnswer (sample_listing n) (Err refusal) → ⊥
sample_not_refused n refusal answered =
    let given = samples_given n in
    let same = one_of_listing (sample_listing n) (Err refusal) (Ok given.0) answered given.1 in
    cc
