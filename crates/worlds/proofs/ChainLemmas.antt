-- Chains over the values of a sort, from the last value back to the first.
use Rattle.std.proofs.Common.{◌≡◌, sym, subst, ℕ, zero, suc, ◌+◌, ◌-◌, ◌<◌, ◌≤◌, arith, map}
use Rattle.meaning.specs.Space.{up_from, below}
use Rattle.meaning.specs.Written.{Written, And, Or, and_chain, or_chain}

-- the chain over v and as many more values
abbrev pub all_from : (ℕ → Written) → ℕ → ℕ → Written
all_from g v more = and_chain (map g (up_from v (suc more)))

abbrev pub some_from : (ℕ → Written) → ℕ → ℕ → Written
some_from g v more = or_chain (map g (up_from v (suc more)))

module _ (P : Written → Type 0) (g : ℕ → Written) where
  -- one value more in front
  all_back : (v last : ℕ) → suc v ≤ last → P (And (g v) (all_from g (suc v) (last - suc v))) → P (all_from g v (last - v))
  all_back v last le h = let e : last - v ≡ suc (last - suc v) = omega arith in subst (λ more. P (all_from g v more)) (sym e) h

  some_back : (v last : ℕ) → suc v ≤ last → P (Or (g v) (some_from g (suc v) (last - suc v))) → P (some_from g v (last - v))
  some_back v last le h = let e : last - v ≡ suc (last - suc v) = omega arith in subst (λ more. P (some_from g v more)) (sym e) h

  pub all_grows : (v last : ℕ) → 0 < v → v ≤ last → P (And (g (v - 1)) (all_from g v (last - v))) → P (all_from g (v - 1) (last - (v - 1)))
  all_grows v last lt le h =
      let e : suc (v - 1) ≡ v = omega arith in
      all_back (v - 1) last (omega arith) (subst (λ w. P (And (g (v - 1)) (all_from g w (last - w)))) (sym e) h)

  pub some_grows : (v last : ℕ) → 0 < v → v ≤ last → P (Or (g (v - 1)) (some_from g v (last - v))) → P (some_from g (v - 1) (last - (v - 1)))
  some_grows v last lt le h =
      let e : suc (v - 1) ≡ v = omega arith in
      some_back (v - 1) last (omega arith) (subst (λ w. P (Or (g (v - 1)) (some_from g w (last - w)))) (sym e) h)

  -- the whole chain
  all_whole : (last n : ℕ) → last + 1 ≡ n → P (all_from g 0 (last - 0)) → P (and_chain (map g (below n)))
  all_whole last n e h = let s : suc (last - 0) ≡ n = omega arith in subst (λ k. P (and_chain (map g (up_from 0 k)))) s h

  some_whole : (last n : ℕ) → last + 1 ≡ n → P (some_from g 0 (last - 0)) → P (or_chain (map g (below n)))
  some_whole last n e h = let s : suc (last - 0) ≡ n = omega arith in subst (λ k. P (or_chain (map g (up_from 0 k)))) s h

  pub all_end : (v last n : ℕ) → v ≤ 0 → last + 1 ≡ n → P (all_from g v (last - v)) → P (and_chain (map g (below n)))
  all_end v last n le e h = let z : v ≡ 0 = omega arith in all_whole last n e (subst (λ w. P (all_from g w (last - w))) z h)

  pub some_end : (v last n : ℕ) → v ≤ 0 → last + 1 ≡ n → P (some_from g v (last - v)) → P (or_chain (map g (below n)))
  some_end v last n le e h = let z : v ≡ 0 = omega arith in some_whole last n e (subst (λ w. P (some_from g w (last - w))) z h)

  -- what stands for each conjunction that ends in the chain from v on stands for the whole
  pub all_decided : ((x y : Written) → P x → P (And y x)) → (v last n : ℕ) → v ≤ last → last + 1 ≡ n → P (all_from g v (last - v)) → P (and_chain (map g (below n)))
  all_decided ends zero last n le e h = all_whole last n e h
  all_decided ends (suc v) last n le e h = all_decided ends v last n (omega arith) e (all_back v last le (ends (all_from g (suc v) (last - suc v)) (g v) h))

  pub some_decided : ((x y : Written) → P x → P (Or y x)) → (v last n : ℕ) → v ≤ last → last + 1 ≡ n → P (some_from g v (last - v)) → P (or_chain (map g (below n)))
  some_decided ends zero last n le e h = some_whole last n e h
  some_decided ends (suc v) last n le e h = some_decided ends v last n (omega arith) e (some_back v last le (ends (some_from g (suc v) (last - suc v)) (g v) h))
