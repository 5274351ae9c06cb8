-- Options that are none.
use Rattle.std.proofs.Common.{◌≡◌, refl, Option, Some, None, sym, ◌∙◌}
use Rattle.std.specs.Option.{option_map, option_or}

pub none_of_either : {A : Type 0} (o p : Option A) → option_or o p ≡ None → (o ≡ None) × (p ≡ None)
none_of_either None p e = (refl, e)
none_of_either (Some w) p e = absurd (cc)

pub none_of_map : {A B : Type 0} (f : A → B) (o : Option A) → option_map f o ≡ None → o ≡ None
none_of_map f None e = refl
none_of_map f (Some w) e = absurd (cc)

-- ---- options that are none and are not

pub not_both : {T : Type 0} (o : Option T) (x : T) → o ≡ Some x → o ≡ None → ⊥
not_both o x some none = let both : Some x ≡ None = sym some ∙ none in absurd (cc)
