-- marks by stamps
use Rattle.std.proofs.Common.{arith, ◌≡◌, ℕ, suc, zero, ◌<◌, eqb, false, true, List, [], ◌∷◌, length, replicate, set, refl, ap, ◌∙◌}
use Rattle.std.proofs.lemmas.Bool.{eq-eqb, ne_eqb}
use Rattle.std.proofs.lemmas.List.{map-set, length-map}
use Rattle.std.proofs.lemmas.List.Elements.{All-head, All-tail}
use Rattle.std.specs.Prelude.{All, Bool}
use Rattle.cdcl.specs.Seen.{marks_of}

-- where all stamps are below the round, nothing is marked
pub none_marked : (round : ℕ) (stamps : List ℕ) → All (λ s. s < round) stamps → marks_of round stamps ≡ replicate (length stamps) false
none_marked round [] h = refl
none_marked round (s ∷ stamps) h =
    rw (ne_eqb s round (let lt = All-head (λ x. x < round) s stamps h in omega (arith, lt)))
    (ap (λ (bs : List Bool). false ∷ bs) (none_marked round stamps (All-tail (λ x. x < round) s stamps h)))

-- of stamps that are all 0 the first round marks none
pub none_marked_at_first : (count : ℕ) → marks_of 1 (replicate count 0) ≡ replicate count false
none_marked_at_first zero = refl
none_marked_at_first (suc count) = ap (λ (bs : List Bool). false ∷ bs) (none_marked_at_first count)

-- the stamp of the round marks
pub marked : (round : ℕ) (stamps : List ℕ) (i : ℕ) → marks_of round (set stamps i round) ≡ set (marks_of round stamps) i true
marked round stamps i = map-set (λ s. eqb s round) stamps i round ∙ ap (λ (b : Bool). set (marks_of round stamps) i b) (eq-eqb round round refl)

-- as many marks as stamps
pub count_of : (round : ℕ) (stamps : List ℕ) → length (marks_of round stamps) ≡ length stamps
count_of round stamps = length-map stamps (λ s. eqb s round)
