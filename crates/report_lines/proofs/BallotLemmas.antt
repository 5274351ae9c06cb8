-- The rankings of a line, and the ballots of a size.
use Rattle.std.proofs.Common.{◌≡◌, refl, sym, ap, ap₂, ◌∙◌, subst, ℕ, suc, ◌<◌, Bool, true, false, ◌&&◌, List, [], ◌∷◌, map, length, get_or, take, drop, Option, Some, None, option_map, option_and_then, arith, eqb-true, true≢false}
use Rattle.std.specs.Prelude.{codes, nat_eq, is_some, ◌==◌}
use Rattle.std.specs.Bool.{one_answer}
use Rattle.std.specs.Cmp.Lexicographic.{pointwise}
use Rattle.std.specs.List.{list_all}
use Rattle.std.specs.Str.{bytes_eq}
use Rattle.std.proofs.lemmas.Bool.{and_parts}
use Rattle.std.proofs.lemmas.Bool.Decides.{Decides-eqb}
use Rattle.std.proofs.lemmas.Slice.Eq.{bytes_eq-Decides}
use Rattle.vocab.specs.Size.{Extent, IsSize, ballot_places, factorial}
use Rattle.vocab.specs.Study.{Question}
use Rattle.meaning.specs.Space.{below}
use Rattle.meaning.specs.Texts.{ranking_text}
use Rattle.meaning.proofs.BallotLaws.{place_below}
use Rattle.verdicts.specs.Lines.{Line, BallotsAre}
use Rattle.verdicts.specs.Reading.{keyed, read_place, read_places}
use Rattle.verdicts.proofs.LineLaws.{map_is, then_is}
use Rattle.verdicts.proofs.TextLaws.{rankings_same}
use Rattle.verdicts.proofs.WordLaws.{text_named, named_in, from_below}
use Rattle.report_lines.specs.declared.lines.Line.{Line as HeldLine}
use Rattle.report_lines.specs.declared.lines.Line.TheVariants as held
use Rattle.report_lines.specs.Held.{held_line}
use Rattle.report_lines.specs.Rest.{words_after}
use Rattle.report_lines.proofs.LineLemmas.{keyed_told}
use Rattle.report_lines.proofs.WordLemmas.{end_of, cut}

-- ---- rankings

module _ (m : ℕ) where
  abbrev pub are_rankings : List (List ℕ) → Bool
  are_rankings words = list_all (λ word. is_some (read_place m word)) words

  -- one or more rankings have their places
  places_told : (w : List ℕ) (words : List (List ℕ)) → are_rankings (w ∷ words) ≡ true → (places : List ℕ) × (read_places m (w ∷ words) ≡ Some places)
  places_told w [] h = by_place (read_place m w) h
    where
      by_place : (o : Option ℕ) → is_some o && true ≡ true → (places : List ℕ) × (option_map (λ place. place ∷ []) o ≡ Some places)
      by_place None h = absurd (true≢false (sym h))
      by_place (Some p) h = (p ∷ [], refl)
  places_told w (v ∷ words) h = by_place (places_told v words (and_parts (is_some (read_place m w)) (are_rankings (v ∷ words)) h).1) (read_place m w) h
    where
      by_place : (places : List ℕ) × (read_places m (v ∷ words) ≡ Some places) → (o : Option ℕ) → is_some o && are_rankings (v ∷ words) ≡ true
          → (places : List ℕ) × (option_and_then (λ place. option_map (λ places. place ∷ places) (read_places m (v ∷ words))) o ≡ Some places)
      by_place more None h = absurd (true≢false (sym h))
      by_place more (Some p) h = (p ∷ more.0, ap (option_map (λ places. p ∷ places)) more.1)

  -- where a word is no ranking, they have none
  no_places : (words : List (List ℕ)) → are_rankings words ≡ false → read_places m words ≡ None
  no_places [] h = absurd (true≢false h)
  no_places (w ∷ []) h = by_place (read_place m w) h
    where
      by_place : (o : Option ℕ) → is_some o && true ≡ false → option_map (λ place. place ∷ []) o ≡ None
      by_place None h = refl
      by_place (Some p) h = absurd (true≢false h)
  no_places (w ∷ v ∷ words) h = by_place (no_places (v ∷ words)) (read_place m w) h
    where
      by_place : (are_rankings (v ∷ words) ≡ false → read_places m (v ∷ words) ≡ None) → (o : Option ℕ) → is_some o && are_rankings (v ∷ words) ≡ false
          → option_and_then (λ place. option_map (λ places. place ∷ places) (read_places m (v ∷ words))) o ≡ None
      by_place more None h = refl
      by_place more (Some p) h = ap (option_map (λ places. p ∷ places)) (more h)

-- ---- rankings beside the ballots

-- the ballots of a size, by their texts
abbrev pub ballot_words : Extent → List (List ℕ)
ballot_words size = map (ranking_text size.alternatives) (ballot_places size)

module _ (size : Extent) (is : IsSize size) where
  abbrev m : ℕ
  m = size.alternatives

  abbrev ArePlaces : List ℕ → Type 0
  ArePlaces places = (b : ℕ) → b < length places → get_or places b 0 < factorial m

  word_same : (w : List ℕ) (p q : ℕ) → read_place m w ≡ Some p → q < factorial m → bytes_eq w (ranking_text m q) ≡ nat_eq p q
  word_same w p q e l =
      let text : w ≡ ranking_text m p = text_named (ranking_text m) (below (factorial m)) w p e in
      let within : p < factorial m = from_below (factorial m) p (named_in (ranking_text m) (below (factorial m)) w p e) in
      one_answer {P = p ≡ q} (bytes_eq w (ranking_text m q)) (nat_eq p q)
      (λ same. rankings_same size is p q within l (sym text ∙ (bytes_eq-Decides w (ranking_text m q)).0 same), λ same. (bytes_eq-Decides w (ranking_text m q)).1 (text ∙ ap (ranking_text m) same))
      (Decides-eqb p q)

  none_same : (others : List ℕ) → ArePlaces others → pointwise bytes_eq [] (map (ranking_text m) others) ≡ pointwise nat_eq [] others
  none_same [] low = refl
  none_same (q ∷ others) low = refl

  -- one more word
  more_same : (w : List ℕ) (p : ℕ) (words : List (List ℕ)) (places : List ℕ) → read_place m w ≡ Some p → ((others : List ℕ) → ArePlaces others → pointwise bytes_eq words (map (ranking_text m) others) ≡ pointwise nat_eq places others)
      → (others : List ℕ) → ArePlaces others → pointwise bytes_eq (w ∷ words) (map (ranking_text m) others) ≡ pointwise nat_eq (p ∷ places) others
  more_same w p words places e rest [] low = refl
  more_same w p words places e rest (q ∷ others) low = ap₂ (λ a b. a && b) (word_same w p q e (low 0 (omega arith))) (rest others (λ b l. low (suc b) (omega (arith, l))))

  -- words are the texts of places exactly where their own places are these
  words_same : (words : List (List ℕ)) (places : List ℕ) → read_places m words ≡ Some places → (others : List ℕ) → ArePlaces others → pointwise bytes_eq words (map (ranking_text m) others) ≡ pointwise nat_eq places others
  words_same [] places e others low = absurd (cc)
  words_same (w ∷ []) places e others low =
      let last = map_is (λ place. place ∷ []) (read_place m w) places e in
      more_same w last.0 [] [] last.1 none_same others low ∙ ap (λ ps. pointwise nat_eq ps others) last.2
  words_same (w ∷ v ∷ words) places e others low =
      let first = then_is _ (read_place m w) places e in
      let rest = map_is (λ ps. first.0 ∷ ps) (read_places m (v ∷ words)) places first.2 in
      more_same w first.0 (v ∷ words) rest.0 first.1 (words_same (v ∷ words) rest.0 rest.1) others low ∙ ap (λ ps. pointwise nat_eq ps others) rest.2

-- ---- the line

-- where something is left, it has a word
words_left : (rest : List ℕ) → (length rest == 0) ≡ false → (w : List ℕ) × (more : List (List ℕ)) × (words_after rest ≡ w ∷ more)
words_left [] h = absurd (true≢false h)
words_left (c ∷ text) h = (take (end_of text) text, words_after (drop (end_of text) text), cut text)

module _ (study : Question) where
  abbrev pub ballots_line : List (List ℕ) → Option Line
  ballots_line words = keyed (codes "ballots") (λ ws. option_map BallotsAre (read_places study.size.alternatives ws)) words

  line_told : (words rest : List (List ℕ)) (o : Option (List ℕ)) (r : Option HeldLine) → keyed (codes "ballots") (λ ws. Some ws) words ≡ Some rest → read_places study.size.alternatives rest ≡ o → r ≡ option_map (held_line study) (option_map BallotsAre o)
      → r ≡ option_map (held_line study) (ballots_line words)
  line_told words rest o r e read t =
      keyed_told (held_line study) (codes "ballots") (λ ws. option_map BallotsAre (read_places study.size.alternatives ws)) words rest r e
      (t ∙ ap (λ p. option_map (held_line study) (option_map BallotsAre p)) (sym read))

  pub no_ranking : (words : List (List ℕ)) (rest : List ℕ) → keyed (codes "ballots") (λ ws. Some ws) words ≡ Some (words_after rest) → (length rest == 0) ≡ true → None ≡ option_map (held_line study) (ballots_line words)
  no_ranking words [] e h = line_told words [] None None e refl refl
  no_ranking words (c ∷ text) e h = absurd (omega (arith, eqb-true (length (c ∷ text)) 0 h))

  module _ (size : Extent) (same : study.size ≡ size) where
    ranked : (words : List (List ℕ)) (b : Bool) → are_rankings size.alternatives words ≡ b → are_rankings study.size.alternatives words ≡ b
    ranked words b h = ap (λ (e : Extent). are_rankings e.alternatives words) same ∙ h

    pub no_rankings : (words rest : List (List ℕ)) → keyed (codes "ballots") (λ ws. Some ws) words ≡ Some rest → are_rankings size.alternatives rest ≡ false → None ≡ option_map (held_line study) (ballots_line words)
    no_rankings words rest e h = line_told words rest None None e (no_places study.size.alternatives rest (ranked rest false h)) refl

    -- rankings, which are those of the ballots or not
    pub some_rankings : IsSize size → (words : List (List ℕ)) (rest : List ℕ) (b : Bool) → keyed (codes "ballots") (λ ws. Some ws) words ≡ Some (words_after rest) → (length rest == 0) ≡ false → are_rankings size.alternatives (words_after rest) ≡ true
        → b ≡ pointwise bytes_eq (words_after rest) (ballot_words size) → Some (held.BallotsAre b) ≡ option_map (held_line study) (ballots_line words)
    some_rankings is words rest b e some all t =
        let left = words_left rest some in
        let own : IsSize study.size = subst (λ (e : Extent). IsSize e) (sym same) is in
        let found = places_told study.size.alternatives left.0 left.1 (sym (ap (are_rankings study.size.alternatives) left.2) ∙ ranked (words_after rest) true all) in
        let read : read_places study.size.alternatives (words_after rest) ≡ Some found.0 = ap (read_places study.size.alternatives) left.2 ∙ found.1 in
        let told : b ≡ pointwise nat_eq found.0 (ballot_places study.size)
        = t ∙ ap (λ (e : Extent). pointwise bytes_eq (words_after rest) (ballot_words e)) (sym same)
        ∙ words_same study.size own (words_after rest) found.0 read (ballot_places study.size) (place_below study.size) in
        line_told words (words_after rest) (Some found.0) (Some (held.BallotsAre b)) e read (ap (λ c. Some (held.BallotsAre c)) told)
