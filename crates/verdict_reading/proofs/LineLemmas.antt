-- The lines of a text, one by one.
use Rattle.std.proofs.Common.{◌≡◌, refl, sym, ap, ◌∙◌, subst, ℕ, ◌+◌, ◌<◌, ◌≤◌, Bool, true, inl, inr, min, take, List, [], ◌∷◌, ◌++◌, length, Some, None, arith, append_assoc, length-append}
use Rattle.std.proofs.lemmas.Bool.{cases_lt}
use Rattle.std.specs.Prelude.{◌==◌}
use Rattle.vocab.specs.Study.{Question}
use Rattle.verdicts.specs.Judge.{has_no_end, pieces, front, final}
use Rattle.report_files.proofs.PieceLemmas.{front_ended, final_ended, front_going, final_going, front_more}
use Rattle.verdict_reading.specs.declared.lines.Told.TheVariants as told
use Rattle.verdict_reading.specs.declared.text_collector.TextCollector.{TextCollector}
use Rattle.verdict_reading.specs.declared.text_collector.TextRefusal.{TextRefusal}
use Rattle.verdict_reading.specs.Told.{HasCollected, IsFirstFaulty, IsAmongLines, IsLineCollected, TellsOf}
use Rattle.verdict_reading.proofs.TextLemmas.{faulty_more}
use Rattle.std.proofs.lemmas.List.{take_all}

-- all of a text before some rest of it is read: its lines, of which none is faulty
pub record HasRead (study : Question) (sharp : Bool) (c : TextCollector) (text rest : List ℕ) (line : ℕ) : Type 0 where
  pub read : List ℕ
  pub cut : text ≡ read ++ rest
  pub ended : final (pieces read) ≡ []
  pub room : length (front (pieces read)) + length rest ≤ length text
  pub number : line ≡ length (front (pieces read)) + 1
  pub has : HasCollected study sharp c (front (pieces read))

module _ (study : Question) (sharp : Bool) (text : List ℕ) where
  -- nothing is read
  pub unread : (c : TextCollector) → HasCollected study sharp c [] → HasRead study sharp c text text 1
  unread c h = record { read = []; cut = refl; ended = refl; room = omega arith; number = refl; has = h }

  module _ (c : TextCollector) (rest : List ℕ) (line : ℕ) (h : HasRead study sharp c text rest line) where
    -- a further line has a number
    pub is_among : length text < 4294967294 → IsAmongLines study c
    is_among few = record { sharp = sharp; lines = front (pieces h.read); few = (let room = h.room in omega (arith, room, few)); has = h.has }

    module _ (first after : List ℕ) (cut : rest ≡ first ++ 10 ∷ after) (whole : has_no_end first ≡ true) where
      abbrev further : List ℕ
      further = h.read ++ (first ++ 10 ∷ [])

      lines_more : front (pieces further) ≡ front (pieces h.read) ++ first ∷ []
      lines_more = front_ended h.read first whole ∙ ap (λ (end : List ℕ). front (pieces h.read) ++ (end ++ first) ∷ []) h.ended

      split : text ≡ further ++ after
      split = h.cut ∙ ap (λ (t : List ℕ). h.read ++ t) (cut ∙ sym (append_assoc first (10 ∷ []) after)) ∙ sym (append_assoc h.read (first ++ 10 ∷ []) after)

      -- a line without a fault is read
      pub read_next : (after_line : TextCollector) → IsLineCollected study sharp (front (pieces h.read)) first after_line None → HasRead study sharp after_line text after (line + 1)
      read_next after_line t =
          let count : length (front (pieces further)) ≡ length (front (pieces h.read)) + 1 = ap length lines_more ∙ length-append (front (pieces h.read)) (first ∷ []) in
          let shorter : length rest ≡ length first + length (10 ∷ after) = ap length cut ∙ length-append first (10 ∷ after) in
          record {
            read = further;
            cut = split;
            ended = final_ended h.read first whole;
            room = (let room = h.room in omega (arith, room, count, shorter));
            number = (let number = h.number in omega (arith, number, count));
            has = subst (HasCollected study sharp after_line) (sym lines_more) t;
          }

      -- a line with one is the first faulty line
      pub refuses : (word : TextRefusal) (after_line : TextCollector) → IsLineCollected study sharp (front (pieces h.read)) first after_line (Some word)
          → TellsOf study sharp after_line (front (pieces text)) (final (pieces text)) (told.Refused line word)
      refuses word after_line t =
          let more = front_more further after in
          let lines : front (pieces text) ≡ front (pieces further) ++ more.0 = ap (λ (x : List ℕ). front (pieces x)) split ∙ more.1 in
          let here : IsFirstFaulty study sharp (front (pieces further)) line word =
          subst (λ n. IsFirstFaulty study sharp (front (pieces further)) n word) (sym h.number)
          (subst (λ (ls : List (List ℕ)). IsFirstFaulty study sharp ls (length (front (pieces h.read)) + 1) word) (sym lines_more) t) in
          subst (λ (ls : List (List ℕ)). IsFirstFaulty study sharp ls line word) (sym lines) (faulty_more study sharp (front (pieces further)) more.0 line word here)

    -- no line ends in what is left
    pub tells : has_no_end rest ≡ true → TellsOf study sharp c (front (pieces text)) (final (pieces text)) (told.Good line (length rest == 0))
    tells none =
        let front_is : front (pieces text) ≡ front (pieces h.read) = ap (λ (x : List ℕ). front (pieces x)) h.cut ∙ front_going h.read rest none in
        let final_is : final (pieces text) ≡ rest = ap (λ (x : List ℕ). final (pieces x)) h.cut ∙ final_going h.read rest none ∙ ap (λ (end : List ℕ). end ++ rest) h.ended in
        (subst (HasCollected study sharp c) (sym front_is) h.has, h.number ∙ ap (λ (ls : List (List ℕ)). length ls + 1) (sym front_is), ap (λ (xs : List ℕ). length xs == 0) (sym final_is))

-- the first bytes of a text, as many as it has
pub first_bytes : (n : ℕ) (text : List ℕ) → take (min (length text) n) text ≡ take n text
first_bytes n text = elim (cases_lt n (length text)) [
  | inl more ↦ ap (λ k. take k text) (let least : min (length text) n ≡ n = omega (arith, more) in least)
  | inr few ↦ ap (λ k. take k text) (let all : min (length text) n ≡ length text = omega (arith, few) in all) ∙ take_all (length text) text (omega arith) ∙ sym (take_all n text few)
]
