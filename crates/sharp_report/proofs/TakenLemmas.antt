-- What it takes to take a line.
use Rattle.std.proofs.Common.{◌≡◌, refl, sym, ap, ◌∙◌, ℕ, ◌+◌, List, Option, Some, None, Err, arith}
use Rattle.std.specs.Option.{option_map_or}
use Rattle.vocab.specs.Study.{Question}
use Rattle.verdicts.specs.FirstFault.{Good}
use Rattle.sharp_verdicts.specs.declared.refusals.SharpRefusal.{SharpRefusal}
use Rattle.sharp_verdicts.specs.declared.refusals.SharpRefusal.TheVariants.{Report}
use Rattle.verdicts.specs.declared.refusals.Refusal.TheVariants.{Form}
use Rattle.sharp_verdicts.specs.SharpFaults.{sharp_fault}
use Rattle.sharp_verdicts.specs.SharpJudge.{advance_sharp}
use Rattle.sharp_verdicts.specs.SharpLines.{SharpLine}
use Rattle.sharp_verdicts.specs.SharpPlaces.{SharpPlace, SharpStanding, read_sharp_at, read_sharp_line}
use Rattle.sharp_report.specs.declared.judging.SharpJudging.{SharpJudging}
use Rattle.sharp_report.specs.SharpStands.{held_sharp_line, told_unless, IsReadWithin, SharpTook, IsSharpTaken}

module _ (study : Question) where
  -- more lines than are needed
  pub wider : (n : ℕ) (s t : SharpStanding) → t.told ≡ s.told → IsReadWithin study n s → IsReadWithin study (n + 1) t
  wider n s t e h = record { lines = h.lines; few = (let f = h.few in omega (arith, f)); good = h.good ∙ ap Good (sym e) }

  module _ (s : SharpStanding) (text : List ℕ) (r : SharpJudging) where
    -- a line that is not wanted
    pub unread : read_sharp_line study s text ≡ None → IsSharpTaken study s text r (Err (Report Form))
    unread e = ap (λ o. option_map_or (sharp_fault study s) o (Some (Report Form))) e

    -- a line that is taken or refused
    pub by_took : (line : SharpLine) (fault : Option SharpRefusal) → read_sharp_line study s text ≡ Some line → (advance_sharp study s line).told ≡ s.told → SharpTook study s line r fault → IsSharpTaken study s text r (told_unless fault (held_sharp_line study line))
    by_took line None e same h = (line, e, refl, sym h.0, h.1 refl, λ n i. wider n s (advance_sharp study s line) same i)
    by_took line (Some word) e same h = ap (λ o. option_map_or (sharp_fault study s) o (Some (Report Form))) e ∙ sym h.0

  -- what is read at a place
  pub read_at : (s : SharpStanding) (p : SharpPlace) (text : List ℕ) (o : Option SharpLine) → s.place ≡ p → read_sharp_at study p s.told text ≡ o → read_sharp_line study s text ≡ o
  read_at s p text o e h = ap (λ q. read_sharp_at study q s.told text) e ∙ h
