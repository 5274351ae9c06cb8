-- What a shell reads of the words of names.
use Rattle.std.proofs.Common.{◌≡◌, refl, sym, ap, subst, ◌∙◌, ℕ, ◌<◌, ◌==◌, ◌/◌, ◌%◌, ◌&&◌, Bool, true, false, if◌then◌else◌, codes, List, [], ◌∷◌, ◌++◌, arith, append_assoc, None}
use Rattle.std.specs.Prelude.{nat_lt, nat_le}
use Rattle.std.specs.Int.{is_in_range}
use Rattle.std.specs.List.{flat_map, list_all}
use Rattle.std.proofs.Math.Nat.{div-add-mod, mod-lt}
use Rattle.std.proofs.lemmas.Bool.{and_from, and_parts, eqb-true, ltb-true, le-leb}
use Rattle.pages.specs.FileNames.{is_ordinary, octal, octal_value, shell_quoted, read_quoted, shell_word, word_read}

-- ---- the octal digits of a byte

is_digit : (n : ℕ) → is_in_range 48 55 (octal n) ≡ true
is_digit n =
    let lt : n % 8 < 8 = mod-lt n (omega arith) in
    and_from (nat_le 48 (octal n)) (nat_le (octal n) 55) (le-leb 48 (octal n) (omega arith)) (le-leb (octal n) 55 (omega arith))

value : (b : ℕ) → b < 256 → octal_value (octal (b / 8 / 8)) (octal (b / 8)) (octal b) ≡ b
value b small =
    let one = div-add-mod b 8 in
    let two = div-add-mod (b / 8) 8 in
    let three = div-add-mod (b / 8 / 8) 8 in
    let last : b / 8 / 8 / 8 ≡ 0 = omega arith in
    omega arith

-- ---- a byte that is quoted, and then a text

by_tests : (b : ℕ) (text : List ℕ) (mark slash sign : Bool) → b < 256 → (b == 39) ≡ mark → (b == 92) ≡ slash →
    read_quoted None ((if mark then codes "\\'" else (if slash then codes "\\\\" else (if sign then b ∷ [] else 92 ∷ octal (b / 8 / 8) ∷ octal (b / 8) ∷ octal b ∷ []))) ++ text) ≡ b ∷ read_quoted None text
by_tests b text true slash sign small e f = ap (λ (n : ℕ). n ∷ read_quoted None text) (sym (eqb-true b 39 e))
by_tests b text false true sign small e f = ap (λ (n : ℕ). n ∷ read_quoted None text) (sym (eqb-true b 92 f))
by_tests b text false false true small e f = rw (e, f) refl
by_tests b text false false false small e f = rw (is_digit (b / 8 / 8)) (ap (λ (n : ℕ). n ∷ read_quoted None text) (value b small))

all_quoted : (name : List ℕ) → list_all (λ b. nat_lt b 256) name ≡ true → read_quoted None (flat_map shell_quoted name ++ codes "'") ≡ name
all_quoted [] h = refl
all_quoted (b ∷ name) h =
    let p = and_parts (nat_lt b 256) (list_all (λ b. nat_lt b 256) name) h in
    ap (read_quoted None) (append_assoc (shell_quoted b) (flat_map shell_quoted name) (codes "'"))
    ∙ by_tests b (flat_map shell_quoted name ++ codes "'") (b == 39) (b == 92) (is_in_range 32 126 b) (ltb-true b 256 p.0) refl refl
    ∙ ap (λ (bs : List ℕ). b ∷ bs) (all_quoted name p.1)

-- ---- names

-- no ordinary byte is `$`
first_stays : (a b : ℕ) (text : List ℕ) (first : Bool) → (a == 36) ≡ first → is_ordinary a ≡ true → (if first && b == 39 then read_quoted None text else a ∷ b ∷ text) ≡ a ∷ b ∷ text
first_stays a b text true e h = let no : false ≡ true = subst (λ (n : ℕ). is_ordinary n ≡ true) (eqb-true a 36 e) h in cc
first_stays a b text false e h = refl

stays : (name : List ℕ) → list_all is_ordinary name ≡ true → word_read name ≡ name
stays [] h = refl
stays (a ∷ []) h = refl
stays (a ∷ b ∷ text) h = first_stays a b text (a == 36) refl (and_parts (is_ordinary a) (list_all is_ordinary (b ∷ text)) h).0

by_words : (name : List ℕ) (plainly : Bool) → list_all is_ordinary name ≡ plainly → list_all (λ b. nat_lt b 256) name ≡ true →
    word_read (if plainly then name else codes "$'" ++ flat_map shell_quoted name ++ codes "'") ≡ name
by_words name true e h = stays name e
by_words name false e h = all_quoted name h

-- a shell reads the word of a name as the name
pub names_read_back : (name : List ℕ) → list_all (λ b. nat_lt b 256) name ≡ true → word_read (shell_word name) ≡ name
names_read_back name h = by_words name (list_all is_ordinary name) refl h
