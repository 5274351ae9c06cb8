-- The values of an instance, one by one from the first.
use Rattle.std.proofs.Common.{◌≡◌, refl, sym, ◌∙◌, ap, subst, ℕ, zero, suc, ◌+◌, ◌*◌, ◌/◌, ◌%◌, ◌<◌, ◌≤◌, List, [], ◌∷◌, ◌++◌, length, drop, get_or, arith, append_assoc, append-nil, mul-le-mul_right}
use Rattle.std.proofs.Math.Seq.{drop-cons}
use Rattle.std.proofs.Math.ListN.{drop_of_length-le}
use Rattle.std.proofs.lemmas.Nat.{mod_below}
use Rattle.vocab.specs.declared.kinds.Sort.{Sort}
use Rattle.vocab.specs.Range.{product}
use Rattle.vocab.specs.Limits.{instance_count}
use Rattle.vocab.specs.Size.{Extent, IsSize, sort_count}
use Rattle.vocab.specs.Tree.{Tree}
use Rattle.meaning.specs.Space.{digits_of}
use Rattle.meaning.proofs.DigitLaws.{positive_right}
use Rattle.worlds.proofs.SortLemmas.{sort_has_values}
use Rattle.lanes.specs.Lanes.{strides}

pub length-strides : (bs : List ℕ) → length (strides bs) ≡ length bs
length-strides [] = refl
length-strides (b ∷ bs) = ap suc (length-strides bs)

strides-at : (bs : List ℕ) (k d : ℕ) → k < length bs → get_or (strides bs) k d ≡ product (drop (suc k) bs)
strides-at [] k d h = absurd (let z : ⊥ = omega (arith, h) in z)
strides-at (b ∷ bs) zero d h = refl
strides-at (b ∷ bs) (suc k) d h = strides-at bs k d (omega (arith, h))

-- the digits so far, and those of what is left
pub record AreDigits (bs : List ℕ) (n k rest : ℕ) (values : List ℕ) : Type 0 where
  pub many : length values ≡ k
  pub within : k ≤ length bs
  pub below : rest < product (drop k bs)
  pub made : values ++ digits_of (drop k bs) rest ≡ digits_of bs n

module _ (bs : List ℕ) (n k rest : ℕ) (values : List ℕ) (is : AreDigits bs n k rest values) where
  module _ (h : k < length bs) (stride : ℕ) (e : stride ≡ get_or (strides bs) k 0) where
    worth : stride ≡ product (drop (suc k) bs)
    worth = e ∙ strides-at bs k 0 h

    here : drop k bs ≡ get_or bs k 0 ∷ drop (suc k) bs
    here = drop-cons bs k 0 h

    pub stride-some : 0 < stride
    stride-some = subst (λ x. 0 < x) (sym worth) (positive_right (get_or bs k 0) (product (drop (suc k) bs)) rest (subst (λ xs. rest < product xs) here is.below))

    pub one-digit : AreDigits bs n (k + 1) (rest % stride) (values ++ rest / stride ∷ [])
    one-digit =
        let next : k + 1 ≡ suc k = omega arith in
        rw next record {
          many = let a = length-push values (rest / stride) in let m = is.many in omega (arith, a, m);
          within = omega (arith, h);
          below = subst (λ x. rest % stride < x) worth (mod_below rest stride stride-some);
          made =
              append_assoc values (rest / stride ∷ []) (digits_of (drop (suc k) bs) (rest % stride))
              ∙ ap (λ x. values ++ rest / x ∷ digits_of (drop (suc k) bs) (rest % x)) worth
              ∙ ap (λ xs. values ++ digits_of xs rest) (sym here)
              ∙ is.made;
        }
      where
        length-push : (xs : List ℕ) (x : ℕ) → length (xs ++ x ∷ []) ≡ suc (length xs)
        length-push [] x = refl
        length-push (y ∷ xs) x = ap suc (length-push xs x)

  pub all-digits : length bs ≤ k → values ≡ digits_of bs n
  all-digits h = sym (append-nil values) ∙ ap (λ xs. values ++ digits_of xs rest) (sym (drop_of_length-le bs h)) ∙ is.made

-- a value of a universal is worth no more instances than there are
pub few-inside : (size : Extent) → IsSize size → (s : Sort) (f : Tree) → sort_count size s * instance_count size f ≤ 40000000 → instance_count size f ≤ 40000000
few-inside size is s f few =
    let one = sort_has_values size is s in
    let both : 1 * instance_count size f ≤ sort_count size s * instance_count size f = mul-le-mul_right (instance_count size f) one in
    omega (arith, few, both)
