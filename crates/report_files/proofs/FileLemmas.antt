-- What a reader has taken of a file.
use Rattle.std.proofs.Common.{◌≡◌, sym, ap, ◌∙◌, subst, ℕ, ◌+◌, ◌-◌, ◌<◌, ◌≤◌, List, [], ◌++◌, length, take, drop, arith, append_assoc, append-nil, Option, take-append-drop, length-append}
use Rattle.std.specs.Io.KnownBytes.{Consumes}
use Rattle.edge.specs.Shelf.{Files, OthersStay, NoneFell}
use Rattle.edge.proofs.Known.{Consumes-more}
use Rattle.report_files.specs.Files.{most_verdict_bytes}
use Rattle.report_files.specs.Pieces.{ReaderState, StandsForText, HasTaken}
use Rattle.std.proofs.lemmas.List.{take-take, length-take-le}

-- as much was read as there is no room for any more
pub record HasReadSoFar (name : List ℕ) (left_before left_now : Files) (files_before files_now : Option Files) (faults_before faults_now : List ℕ → ℕ) (room : ℕ) (bytes : List ℕ) : Type 0 where
  pub count : length bytes + room ≡ most_verdict_bytes
  pub consumed : Consumes (left_before name) (left_now name) bytes
  pub same : files_now ≡ files_before
  pub others : OthersStay left_before left_now name
  pub none_fell : NoneFell faults_before faults_now

pub taken_none : (r : ReaderState) → HasTaken r r []
taken_none r = λ text stands. subst (λ (t : List ℕ). StandsForText r t) (sym (append-nil text)) stands

pub taken_more : (first old new : ReaderState) (xs ys : List ℕ) → HasTaken first old xs → HasTaken old new ys → HasTaken first new (xs ++ ys)
taken_more first old new xs ys one two = λ text stands. subst (λ (t : List ℕ). StandsForText new t) (append_assoc text xs ys) (two (text ++ xs) (one text stands))

take_part : (n m : ℕ) (xs : List ℕ) → n ≤ m → take m xs ≡ take n xs ++ drop n (take m xs)
take_part n m xs h = sym (take-append-drop n (take m xs)) ∙ ap (λ ys. ys ++ drop n (take m xs)) (take-take n m xs h)

-- more came of a read than there was room for
pub consumes_too_many : (before now next : Option (List ℕ)) (bytes chunk : List ℕ) (count room : ℕ) → room < count → count ≤ length chunk → length bytes + room ≡ most_verdict_bytes
    → Consumes before now bytes → Consumes now next (take count chunk)
    → (more : List ℕ) × Consumes before next ((bytes ++ take room chunk) ++ more) × (0 < length more) × (length (bytes ++ take room chunk) ≡ most_verdict_bytes)
consumes_too_many before now next bytes chunk count room less within total h k =
    let parts : take count chunk ≡ take room chunk ++ drop room (take count chunk) = take_part room count chunk (omega (arith, less)) in
    let whole : length (take count chunk) ≡ count = length-take-le count chunk within in
    let front : length (take room chunk) ≡ room = length-take-le room chunk (omega (arith, less, within)) in
    let sum : length (take count chunk) ≡ length (take room chunk) + length (drop room (take count chunk)) = ap length parts ∙ length-append (take room chunk) (drop room (take count chunk)) in
    let total_now : length (bytes ++ take room chunk) ≡ length bytes + length (take room chunk) = length-append bytes (take room chunk) in (
      drop room (take count chunk),
      subst (λ (xs : List ℕ). Consumes before next xs) (ap (λ ys. bytes ++ ys) parts ∙ sym (append_assoc bytes (take room chunk) (drop room (take count chunk)))) (Consumes-more before now next bytes (take count chunk) h k),
      omega (arith, sum, whole, front, less),
      omega (arith, total_now, front, total),
    )

-- what came of a read is counted
pub count_more : (bytes chunk : List ℕ) (count room : ℕ) → count ≤ room → count ≤ length chunk → length bytes + room ≡ most_verdict_bytes → length (bytes ++ take count chunk) + (room - count) ≡ most_verdict_bytes
count_more bytes chunk count room fits within total =
    let front : length (take count chunk) ≡ count = length-take-le count chunk within in
    let sum : length (bytes ++ take count chunk) ≡ length bytes + length (take count chunk) = length-append bytes (take count chunk) in
    omega (arith, sum, front, total, fits)

pub more_lines : (m n : ℕ) (bytes more : List ℕ) → n ≤ length bytes → m ≤ n + length more → m ≤ length (bytes ++ more)
more_lines m n bytes more h k = let sum : length (bytes ++ more) ≡ length bytes + length more = length-append bytes more in omega (arith, sum, h, k)
