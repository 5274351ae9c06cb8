-- What a judge that goes line by line answers of a file, from how far it was read.
use Rattle.std.proofs.Common.{◌≡◌, ◌≢◌, refl, sym, ap, ◌∙◌, subst, ℕ, zero, suc, ◌+◌, ◌<◌, ◌≤◌, inl, inr, Bool, false, true≢false, List, [], ◌∷◌, ◌++◌, length, take, arith, append-nil, append_assoc, Option, Some, None, length-append}
use Rattle.std.proofs.lemmas.Bool.{cases_lt}
use Rattle.std.specs.Io.KnownBytes.{Consumes, IsAtEnd}
use Rattle.verdicts.specs.FirstFault.{Told, Judgement, beyond}
use Rattle.verdicts.specs.Judge.{pieces, front, final, answered, answered_within}
use Rattle.verdicts.proofs.WholeTextLaws.{short_within, long_within}
use Rattle.report_files.specs.declared.files.Ending.{Ending}
use Rattle.report_files.specs.declared.files.Ending.TheVariants as ending
use Rattle.report_files.specs.Files.{IsEndedAt, most_verdict_bytes}
use Rattle.report_files.proofs.PieceLemmas.{front_more}
use Rattle.std.proofs.lemmas.List.{take_at}

-- ---- where the reading ended

consumed_front : (left : Option (List ℕ)) (bytes held : List ℕ) → Consumes (Some held) left bytes → (rest : List ℕ) × (held ≡ bytes ++ rest)
consumed_front None bytes held h = absurd h
consumed_front (Some rest) bytes held h = (rest, h)

-- at its end all of the file was read
pub whole_is : (known left : Option (List ℕ)) (faulty : Bool) (bytes held : List ℕ) → IsEndedAt ending.Whole known left faulty bytes → known ≡ Some held → (held ≡ bytes) × (length bytes ≤ most_verdict_bytes)
whole_is known left faulty bytes held h e = (at_end left (subst (λ k. Consumes k left bytes) e h.0) h.1, h.2)
  where
    at_end : (left : Option (List ℕ)) → Consumes (Some held) left bytes → IsAtEnd left → held ≡ bytes
    at_end None c i = absurd c
    at_end (Some rest) c i = c ∙ ap (λ r. bytes ++ r) i ∙ append-nil bytes

-- anywhere the bytes that were read are the first of the file
pub prefix_is : (e : Ending) (known left : Option (List ℕ)) (faulty : Bool) (bytes held : List ℕ) → IsEndedAt e known left faulty bytes → known ≡ Some held → (rest : List ℕ) × (held ≡ bytes ++ rest) × (length bytes ≤ most_verdict_bytes)
prefix_is ending.Whole known left faulty bytes held h k = let f = consumed_front left bytes held (subst (λ x. Consumes x left bytes) k h.0) in (f.0, f.1, h.2)
prefix_is ending.Faulty known left faulty bytes held h k = let f = consumed_front left bytes held (subst (λ x. Consumes x left bytes) k h.0) in (f.0, f.1, h.1)
prefix_is ending.TooLong known left faulty bytes held h k =
    let f = consumed_front left (bytes ++ h.0) held (subst (λ x. Consumes x left (bytes ++ h.0)) k h.1) in
    (h.0 ++ f.0, f.1 ∙ append_assoc bytes h.0 f.0, omega (arith, h.3))

-- at the limit they are as many as the limit allows, and the file has more
pub limit_is : (known left : Option (List ℕ)) (faulty : Bool) (bytes held : List ℕ) → IsEndedAt ending.TooLong known left faulty bytes → known ≡ Some held → (most_verdict_bytes < length held) × (take most_verdict_bytes held ≡ bytes)
limit_is known left faulty bytes held ended k =
    let f = consumed_front left (bytes ++ ended.0) held (subst (λ x. Consumes x left (bytes ++ ended.0)) k ended.1) in
    let split : held ≡ bytes ++ (ended.0 ++ f.0) = f.1 ∙ append_assoc bytes ended.0 f.0 in
    let sum : length held ≡ length bytes + length (ended.0 ++ f.0) = ap length split ∙ length-append bytes (ended.0 ++ f.0) in
    let more : length (ended.0 ++ f.0) ≡ length ended.0 + length f.0 = length-append ended.0 f.0 in
    (omega (arith, sum, more, ended.2, ended.3), ap (take most_verdict_bytes) split ∙ take_at bytes (ended.0 ++ f.0) most_verdict_bytes ended.3)

-- ---- what is answered

module _ {S V R : Type 0} (conclude : ℕ → List ℕ → Told S R → Judgement V R) (judge : List (List ℕ) → Told S R) where
  abbrev within : List ℕ → Judgement V R
  within = answered_within conclude judge most_verdict_bytes

  -- all was read
  pub whole_within : (known left : Option (List ℕ)) (faulty : Bool) (bytes held : List ℕ) → IsEndedAt ending.Whole known left faulty bytes → known ≡ Some held
      → within held ≡ answered conclude judge bytes
  whole_within known left faulty bytes held ended k =
      let parts = whole_is known left faulty bytes held ended k in
      let short : length held ≤ most_verdict_bytes = subst (λ t. length t ≤ most_verdict_bytes) (sym parts.0) parts.1 in
      short_within conclude judge most_verdict_bytes held short ∙ ap (answered conclude judge) parts.0

  -- a line that was read is faulty: no line after it changes what is told
  pub faulty_within : (e : Ending) (known left : Option (List ℕ)) (faulty : Bool) (bytes held : List ℕ) (told : Told S R) (a : Judgement V R) → IsEndedAt e known left faulty bytes → known ≡ Some held
      → ((more : List (List ℕ)) → judge (front (pieces bytes) ++ more) ≡ told) → beyond told ≡ a → ((n : ℕ) (rest : List ℕ) → conclude n rest told ≡ a) → within held ≡ a
  faulty_within e known left faulty bytes held told a ended k stays past ends =
      let parts = prefix_is e known left faulty bytes held ended k in
      ap within parts.1 ∙ elim (cases_lt most_verdict_bytes (length (bytes ++ parts.0))) [
        | inl long ↦
            let part = front_part bytes parts.0 most_verdict_bytes parts.2 in
            long_within conclude judge most_verdict_bytes (bytes ++ parts.0) long ∙ ap (λ t. beyond (judge (front (pieces t)))) part.1 ∙ ap beyond (stays_so part.0) ∙ past
        | inr short ↦ short_within conclude judge most_verdict_bytes (bytes ++ parts.0) short ∙ ap (λ t. conclude (length (pieces (bytes ++ parts.0))) (final (pieces (bytes ++ parts.0))) t) (stays_so parts.0) ∙ ends (length (pieces (bytes ++ parts.0))) (final (pieces (bytes ++ parts.0)))
      ]
    where
      stays_so : (rest : List ℕ) → judge (front (pieces (bytes ++ rest))) ≡ told
      stays_so rest = let f = front_more bytes rest in ap judge f.1 ∙ stays f.0

      front_part : (xs ys : List ℕ) (n : ℕ) → length xs ≤ n → (zs : List ℕ) × (take n (xs ++ ys) ≡ xs ++ zs)
      front_part [] ys n h = (take n ys, refl)
      front_part (x ∷ xs) ys n h = by_n n h (λ m l. front_part xs ys m l)
        where
          by_n : (n : ℕ) → length (x ∷ xs) ≤ n → ((m : ℕ) → length xs ≤ m → (zs : List ℕ) × (take m (xs ++ ys) ≡ xs ++ zs)) → (zs : List ℕ) × (take n (x ∷ (xs ++ ys)) ≡ x ∷ (xs ++ zs))
          by_n zero h later = absurd (let bad : ⊥ = omega (arith, h) in bad)
          by_n (suc m) h later = let r = later m (omega (arith, h)) in (r.0, ap (λ ws. x ∷ ws) r.1)

  -- no line that was read is faulty, and not all was read
  pub beyond_within : (e : Ending) (known left : Option (List ℕ)) (faulty : Bool) (bytes held : List ℕ) → e ≢ ending.Whole → faulty ≡ false → IsEndedAt e known left faulty bytes → known ≡ Some held
      → within held ≡ beyond (judge (front (pieces bytes)))
  beyond_within ending.Whole known left faulty bytes held differs none ended k = absurd (differs refl)
  beyond_within ending.Faulty known left faulty bytes held differs none ended k = absurd (true≢false (sym ended.2 ∙ none))
  beyond_within ending.TooLong known left faulty bytes held differs none ended k =
      let parts = limit_is known left faulty bytes held ended k in
      long_within conclude judge most_verdict_bytes held parts.0 ∙ ap (λ t. beyond (judge (front (pieces t)))) parts.1
