-- Texts that a function adds one after another.
use Rattle.std.proofs.Common.{◌≡◌, ap, ◌∙◌, ℕ, List, ◌++◌, append_assoc, []}

-- one text more
pub joined_2 : (o before after rest a : List ℕ) → before ≡ o ++ rest → after ≡ before ++ a → after ≡ o ++ (rest ++ a)
joined_2 o before after rest a so_far more = more ∙ ap (λ (l : List ℕ). l ++ a) so_far ∙ append_assoc o rest a

pub joined_3 : (o o1 o2 o3 a b c : List ℕ) → o1 ≡ o ++ a → o2 ≡ o1 ++ b → o3 ≡ o2 ++ c → o3 ≡ o ++ ((a ++ b) ++ c)
joined_3 o o1 o2 o3 a b c h1 h2 h3 = joined_2 o o2 o3 (a ++ b) c (joined_2 o o1 o2 a b h1 h2) h3

pub joined_4 : (o o1 o2 o3 o4 a b c d : List ℕ) → o1 ≡ o ++ a → o2 ≡ o1 ++ b → o3 ≡ o2 ++ c → o4 ≡ o3 ++ d → o4 ≡ o ++ (((a ++ b) ++ c) ++ d)
joined_4 o o1 o2 o3 o4 a b c d h1 h2 h3 h4 = joined_2 o o3 o4 ((a ++ b) ++ c) d (joined_3 o o1 o2 o3 a b c h1 h2 h3) h4

pub joined_5 : (o o1 o2 o3 o4 o5 a b c d e : List ℕ) → o1 ≡ o ++ a → o2 ≡ o1 ++ b → o3 ≡ o2 ++ c → o4 ≡ o3 ++ d → o5 ≡ o4 ++ e → o5 ≡ o ++ ((((a ++ b) ++ c) ++ d) ++ e)
joined_5 o o1 o2 o3 o4 o5 a b c d e h1 h2 h3 h4 h5 = joined_2 o o4 o5 (((a ++ b) ++ c) ++ d) e (joined_4 o o1 o2 o3 o4 a b c d h1 h2 h3 h4) h5

pub joined_6 : (o o1 o2 o3 o4 o5 o6 a b c d e f : List ℕ) → o1 ≡ o ++ a → o2 ≡ o1 ++ b → o3 ≡ o2 ++ c → o4 ≡ o3 ++ d → o5 ≡ o4 ++ e → o6 ≡ o5 ++ f → o6 ≡ o ++ (((((a ++ b) ++ c) ++ d) ++ e) ++ f)
joined_6 o o1 o2 o3 o4 o5 o6 a b c d e f h1 h2 h3 h4 h5 h6 = joined_2 o o5 o6 ((((a ++ b) ++ c) ++ d) ++ e) f (joined_5 o o1 o2 o3 o4 o5 a b c d e h1 h2 h3 h4 h5) h6

pub joined_7 : (o o1 o2 o3 o4 o5 o6 o7 a b c d e f g : List ℕ) → o1 ≡ o ++ a → o2 ≡ o1 ++ b → o3 ≡ o2 ++ c → o4 ≡ o3 ++ d → o5 ≡ o4 ++ e → o6 ≡ o5 ++ f → o7 ≡ o6 ++ g → o7 ≡ o ++ ((((((a ++ b) ++ c) ++ d) ++ e) ++ f) ++ g)
joined_7 o o1 o2 o3 o4 o5 o6 o7 a b c d e f g h1 h2 h3 h4 h5 h6 h7 = joined_2 o o6 o7 (((((a ++ b) ++ c) ++ d) ++ e) ++ f) g (joined_6 o o1 o2 o3 o4 o5 o6 a b c d e f h1 h2 h3 h4 h5 h6) h7

pub joined_8 : (o o1 o2 o3 o4 o5 o6 o7 o8 a b c d e f g h : List ℕ) → o1 ≡ o ++ a → o2 ≡ o1 ++ b → o3 ≡ o2 ++ c → o4 ≡ o3 ++ d → o5 ≡ o4 ++ e → o6 ≡ o5 ++ f → o7 ≡ o6 ++ g → o8 ≡ o7 ++ h → o8 ≡ o ++ (((((((a ++ b) ++ c) ++ d) ++ e) ++ f) ++ g) ++ h)
joined_8 o o1 o2 o3 o4 o5 o6 o7 o8 a b c d e f g h h1 h2 h3 h4 h5 h6 h7 h8 = joined_2 o o7 o8 ((((((a ++ b) ++ c) ++ d) ++ e) ++ f) ++ g) h (joined_7 o o1 o2 o3 o4 o5 o6 o7 a b c d e f g h1 h2 h3 h4 h5 h6 h7) h8

pub joined_9 : (o o1 o2 o3 o4 o5 o6 o7 o8 o9 a b c d e f g h i : List ℕ) → o1 ≡ o ++ a → o2 ≡ o1 ++ b → o3 ≡ o2 ++ c → o4 ≡ o3 ++ d → o5 ≡ o4 ++ e → o6 ≡ o5 ++ f → o7 ≡ o6 ++ g → o8 ≡ o7 ++ h → o9 ≡ o8 ++ i → o9 ≡ o ++ ((((((((a ++ b) ++ c) ++ d) ++ e) ++ f) ++ g) ++ h) ++ i)
joined_9 o o1 o2 o3 o4 o5 o6 o7 o8 o9 a b c d e f g h i h1 h2 h3 h4 h5 h6 h7 h8 h9 = joined_2 o o8 o9 (((((((a ++ b) ++ c) ++ d) ++ e) ++ f) ++ g) ++ h) i (joined_8 o o1 o2 o3 o4 o5 o6 o7 o8 a b c d e f g h h1 h2 h3 h4 h5 h6 h7 h8) h9

pub joined_10 : (o o1 o2 o3 o4 o5 o6 o7 o8 o9 o10 a b c d e f g h i j : List ℕ) → o1 ≡ o ++ a → o2 ≡ o1 ++ b → o3 ≡ o2 ++ c → o4 ≡ o3 ++ d → o5 ≡ o4 ++ e → o6 ≡ o5 ++ f → o7 ≡ o6 ++ g → o8 ≡ o7 ++ h → o9 ≡ o8 ++ i → o10 ≡ o9 ++ j → o10 ≡ o ++ (((((((((a ++ b) ++ c) ++ d) ++ e) ++ f) ++ g) ++ h) ++ i) ++ j)
joined_10 o o1 o2 o3 o4 o5 o6 o7 o8 o9 o10 a b c d e f g h i j h1 h2 h3 h4 h5 h6 h7 h8 h9 h10 = joined_2 o o9 o10 ((((((((a ++ b) ++ c) ++ d) ++ e) ++ f) ++ g) ++ h) ++ i) j (joined_9 o o1 o2 o3 o4 o5 o6 o7 o8 o9 a b c d e f g h i h1 h2 h3 h4 h5 h6 h7 h8 h9) h10

pub joined_11 : (o o1 o2 o3 o4 o5 o6 o7 o8 o9 o10 o11 a b c d e f g h i j k : List ℕ) → o1 ≡ o ++ a → o2 ≡ o1 ++ b → o3 ≡ o2 ++ c → o4 ≡ o3 ++ d → o5 ≡ o4 ++ e → o6 ≡ o5 ++ f → o7 ≡ o6 ++ g → o8 ≡ o7 ++ h → o9 ≡ o8 ++ i → o10 ≡ o9 ++ j → o11 ≡ o10 ++ k → o11 ≡ o ++ ((((((((((a ++ b) ++ c) ++ d) ++ e) ++ f) ++ g) ++ h) ++ i) ++ j) ++ k)
joined_11 o o1 o2 o3 o4 o5 o6 o7 o8 o9 o10 o11 a b c d e f g h i j k h1 h2 h3 h4 h5 h6 h7 h8 h9 h10 h11 = joined_2 o o10 o11 (((((((((a ++ b) ++ c) ++ d) ++ e) ++ f) ++ g) ++ h) ++ i) ++ j) k (joined_10 o o1 o2 o3 o4 o5 o6 o7 o8 o9 o10 a b c d e f g h i j h1 h2 h3 h4 h5 h6 h7 h8 h9 h10) h11

pub joined_12 : (o o1 o2 o3 o4 o5 o6 o7 o8 o9 o10 o11 o12 a b c d e f g h i j k l : List ℕ) → o1 ≡ o ++ a → o2 ≡ o1 ++ b → o3 ≡ o2 ++ c → o4 ≡ o3 ++ d → o5 ≡ o4 ++ e → o6 ≡ o5 ++ f → o7 ≡ o6 ++ g → o8 ≡ o7 ++ h → o9 ≡ o8 ++ i → o10 ≡ o9 ++ j → o11 ≡ o10 ++ k → o12 ≡ o11 ++ l → o12 ≡ o ++ (((((((((((a ++ b) ++ c) ++ d) ++ e) ++ f) ++ g) ++ h) ++ i) ++ j) ++ k) ++ l)
joined_12 o o1 o2 o3 o4 o5 o6 o7 o8 o9 o10 o11 o12 a b c d e f g h i j k l h1 h2 h3 h4 h5 h6 h7 h8 h9 h10 h11 h12 = joined_2 o o11 o12 ((((((((((a ++ b) ++ c) ++ d) ++ e) ++ f) ++ g) ++ h) ++ i) ++ j) ++ k) l (joined_11 o o1 o2 o3 o4 o5 o6 o7 o8 o9 o10 o11 a b c d e f g h i j k h1 h2 h3 h4 h5 h6 h7 h8 h9 h10 h11) h12

-- a text that was added to none
pub from_none : (old new said : List ℕ) → new ≡ old ++ said → old ≡ [] → new ≡ said
from_none old new said added none = added ∙ ap (λ (l : List ℕ). l ++ said) none
