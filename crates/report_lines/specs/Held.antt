-- What a program holds of a place and of a line.
use Rattle.std.specs.Prelude.{ℕ, ◌-◌, ◌^◌, min, nat_eq, List, map, length, drop, Option, None, if◌then◌else◌}
use Rattle.std.specs.Cmp.Lexicographic.{pointwise}
use Rattle.std.specs.Str.{bytes_eq}
use Rattle.verdicts.specs.Numbers.{saturated}
use Rattle.vocab.specs.Size.{ballot_places}
use Rattle.vocab.specs.Study.{Question}
use Rattle.meaning.specs.declared.stories.Reason.{Reason}
use Rattle.meaning.specs.declared.stories.Reason.TheVariants.{Axiom as ByAxiom, Outcome as ByOutcome, Lemma as ByLemma}
use Rattle.verdicts.specs.Texts.{words_of}
use Rattle.verdicts.specs.Lines.{Line, Title, KindIs, VotersAre, AlternativesAre, BallotsAre, AbsentIs, AxiomsAre, SaysPossible, SaysImpossible, SaysUndecided, LimitIs, RuleOf, Row, CoreIs, LemmasAre, Heading, Suppose, So, Clash, WithRule, WithOpen, End}
use Rattle.verdicts.specs.Places.{Place, AtTitle, AtKind, AtVoters, AtAlternatives, AtBallots, AtAbsent, AtAxioms, AtVerdict, AtLimit, AtRule, AtRow, AtCore, AtLemmas, AtLemma, AtSuppose, AtStep, AtWitness, AtWitnessRow, AtEnd, AtNothing}
use Rattle.verdicts.specs.Claims.{claim_of}
use Rattle.verdicts.specs.Faults.{named_places, is_core}
use Rattle.report_lines.specs.declared.places.Place.{Place as HeldPlace}
use Rattle.report_lines.specs.declared.places.Place.TheVariants as place
use Rattle.report_lines.specs.declared.lines.Line.{Line as HeldLine}
use Rattle.report_lines.specs.declared.lines.Line.TheVariants as held

-- a place, of whose verdict the claim alone is held
abbrev pub held_place : Place → HeldPlace
held_place AtTitle = place.AtTitle
held_place AtKind = place.AtKind
held_place AtVoters = place.AtVoters
held_place AtAlternatives = place.AtAlternatives
held_place AtBallots = place.AtBallots
held_place AtAbsent = place.AtAbsent
held_place AtAxioms = place.AtAxioms
held_place AtVerdict = place.AtVerdict
held_place AtLimit = place.AtLimit
held_place AtRule = place.AtRule
held_place AtRow = place.AtRow
held_place AtCore = place.AtCore
held_place AtLemmas = place.AtLemmas
held_place AtLemma = place.AtLemma
held_place AtSuppose = place.AtSuppose
held_place AtStep = place.AtStep
held_place AtWitness = place.AtWitness
held_place AtWitnessRow = place.AtWitnessRow
held_place (AtEnd verdict) = place.AtEnd (claim_of verdict)
held_place (AtNothing verdict) = place.AtNothing (claim_of verdict)

-- a reason; the place of a lemma stands still at the end of `u32`
abbrev pub held_reason : Reason → Reason
held_reason (ByAxiom k values) = ByAxiom k values
held_reason (ByOutcome p) = ByOutcome p
held_reason (ByLemma j) = ByLemma (min j (2 ^ 32 - 1))

module _ (study : Question) where
  -- what a line says; of ballots and of the names of all axioms it is held whether they are the wanted ones
  abbrev pub held_line : Line → HeldLine
  held_line (Title version) = held.Title version
  held_line (KindIs k) = held.KindIs k
  held_line (VotersAre n) = held.VotersAre (saturated n)
  held_line (AlternativesAre n) = held.AlternativesAre (saturated n)
  held_line (BallotsAre places) = held.BallotsAre (pointwise nat_eq places (ballot_places study.size))
  held_line (AbsentIs absent) = held.AbsentIs absent
  held_line (AxiomsAre names) = held.AxiomsAre (pointwise bytes_eq names (map (λ a. a.name) study.axioms))
  held_line SaysPossible = held.SaysPossible
  held_line SaysImpossible = held.SaysImpossible
  held_line SaysUndecided = held.SaysUndecided
  held_line (LimitIs n) = held.LimitIs (saturated n)
  held_line (RuleOf n) = held.RuleOf (saturated n)
  held_line (Row p o) = held.Row p o
  held_line (CoreIs names) = held.CoreIs
  held_line (LemmasAre n) = held.LemmasAre (saturated n)
  held_line (Heading n) = held.Heading (saturated n)
  held_line (Suppose l) = held.Suppose l
  held_line (So l r) = held.So l (held_reason r)
  held_line (Clash r) = held.Clash (held_reason r)
  held_line (WithRule name n) = held.WithRule name (saturated n)
  held_line (WithOpen name n) = held.WithOpen name (saturated n)
  held_line End = held.End

  -- places, where they are those of distinct axioms of the study in order
  abbrev pub if_core : Option (List ℕ) → Option (List ℕ)
  if_core places = if is_core (length study.axioms) places then places else None

  -- the places of the axioms that a line names after its first word, where the names are those of distinct ones in order
  abbrev pub named_core : List ℕ → Option (List ℕ)
  named_core text = if_core (named_places study.axioms (drop 1 (words_of text)))
