-- The names of instances are names, and different ones at different places.
use Rattle.std.proofs.Common.{◌≡◌, refl, sym, ap, ◌∙◌, subst, ℕ, ◌<◌, ◌≤◌, ◌^◌, ◌||◌, true, List, [], ◌∷◌, length, arith, Some}
use Rattle.std.specs.List.{list_all}
use Rattle.std.specs.Prelude.{◌==◌}
use Rattle.std.proofs.lemmas.Bool.{and_parts, and_from, le-leb, or_left, or_right}
use Rattle.std.proofs.lemmas.Fmt.{length-decimal-le}
use Rattle.vocab.specs.Name.{is_name, is_name_byte, is_lower, is_digit}
use Rattle.verdicts.specs.Numbers.{number_text, read_number}
use Rattle.verdicts.proofs.NumberLaws.{number_digits, read_text}
use Rattle.verdicts.proofs.PrintLaws.{decimal_is}
use Rattle.sharp_verdicts.specs.Derived.{instance_name}

digits_follow : (text : List ℕ) → list_all is_digit text ≡ true → list_all is_name_byte text ≡ true
digits_follow [] h = refl
digits_follow (c ∷ cs) h =
    let e = and_parts (is_digit c) (list_all is_digit cs) h in
    and_from _ _ (or_left (is_lower c || is_digit c) (c == 95) (or_right (is_lower c) (is_digit c) e.0)) (digits_follow cs e.1)

pub name_is : (place : ℕ) → place < 2 ^ 32 → is_name (instance_name place) ≡ true
name_is place h =
    let short : length (number_text place) ≤ 20 = subst (λ text. length text ≤ 20) (decimal_is place (omega arith)) (length-decimal-le 20 place (omega arith) (omega (arith, h)) (omega arith)) in
    and_from _ _ (digits_follow (number_text place) (number_digits place)) (le-leb (length (instance_name place)) 32 (omega (arith, short)))

rest_same : (c : ℕ) (xs ys : List ℕ) → c ∷ xs ≡ c ∷ ys → xs ≡ ys
rest_same c xs ys e = cc

pub names_differ : (p q : ℕ) → instance_name p ≡ instance_name q → p ≡ q
names_differ p q e =
    let texts = rest_same 105 (number_text p) (number_text q) e in
    let read : Some p ≡ Some q = sym (read_text p) ∙ ap read_number texts ∙ read_text q in
    cc
