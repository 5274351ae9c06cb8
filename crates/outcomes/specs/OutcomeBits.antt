-- The bits of an outcome: the truth values of a profile's variables.
use Rattle.std.specs.Prelude.{◌≡◌, ℕ, ◌+◌, ◌*◌, ◌≤◌, ◌&&◌, nat_le, Bool, true}
use Rattle.vocab.specs.Size.{Extent}
use Rattle.cnf.specs.Signed.{Signed}
use Rattle.meaning.specs.Truth.{holds_of}
use Rattle.meaning.specs.Variables.{bits, literal_of}

-- a profile's variables have these truth values: each is true where its literal holds of the outcome
abbrev pub AreBitsAt : Extent → ℕ → ℕ → (ℕ → Bool) → Type 0
AreBitsAt size p outcome v = (i : ℕ) → p * bits size.kind size.alternatives + 1 ≤ i → i ≤ (p + 1) * bits size.kind size.alternatives →
    v i ≡ holds_of size outcome (literal_of size (record { variable = i; positive = true }))

-- the variable is one of the profile
abbrev pub is_lit_at : Extent → ℕ → Signed → Bool
is_lit_at size p l = nat_le (p * bits size.kind size.alternatives + 1) l.variable && nat_le l.variable ((p + 1) * bits size.kind size.alternatives)
