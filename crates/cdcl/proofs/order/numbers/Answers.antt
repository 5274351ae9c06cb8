use Rattle.std.proofs.Common.{arith, inl, inr, ◌≡◌, ◌<◌, ◌+◌, ◌∙◌, ◌∷◌, ◌++◌, [], ℕ, List, ap, sym, get_or, length}
use Rattle.std.proofs.lemmas.Bool.{cases_eq}
use Rattle.std.proofs.lemmas.List.{get_or_append_left, length_push}
use Rattle.std.proofs.Math.Seq.{get_or-append_seam}
use Rattle.cdcl.proofs.order.numbers.Goals as goal

more : (xs : List ℕ) (n : ℕ) → length xs ≡ n → ((i : ℕ) → i < n → get_or xs i 0 ≡ i) → (i : ℕ) → i < n + 1 → get_or (xs ++ n ∷ []) i 0 ≡ i
more xs n size each i lt = elim (cases_eq i n) [
  | inl e ↦ ap (λ (k : ℕ). get_or (xs ++ n ∷ []) k 0) (e ∙ sym size) ∙ get_or-append_seam xs n [] 0 ∙ sym e
  | inr d ↦ get_or_append_left xs (n ∷ []) 0 i (omega arith) ∙ each i (omega arith)
]

pub loop-number-preserved : goal.loop-number-preserved
loop-number-preserved c =
    let l = c.loop-number in
    record {
      size = ap (λ (xs : List ℕ). length xs) c.in_ok-push.ensures.items ∙ length_push l.numbers.items l.number ∙ ap (λ (n : ℕ). n + 1) l.invariant.size;
      each = λ i lt. ap (λ (xs : List ℕ). get_or xs i 0) c.in_ok-push.ensures.items ∙ more l.numbers.items l.number l.invariant.size l.invariant.each i lt;
    }
