-- What `gain` says of a right verdict.
use Rattle.std.proofs.Common.{◌≡◌, ◌∙◌, sym, ap, ℕ, List, codes, Option, None, Some}
use Rattle.std.specs.Prelude.{◌↔◌, IsTrue, MatchOption}
use Rattle.std.specs.Io.KnownBytes.{Appends}
use Rattle.edge.specs.Shelf.{Files}
use Rattle.vocab.specs.declared.kinds.Kind.TheVariants.{Sets}
use Rattle.vocab.specs.Study.{Question}
use Rattle.verdicts.specs.declared.verdicts.Verdict.{Verdict}
use Rattle.verdicts.specs.declared.verdicts.Verdict.TheVariants.{Possible, Impossible, Undecided}
use Rattle.verdicts.specs.Claims.{IsRuleFor, Claims}
use Rattle.verdicts.specs.FirstFault.{Confirmed}
use Rattle.verdicts.specs.Judge.{rule_in}
use Rattle.choice_sets.specs.declared.gains.Manipulation.{Manipulation}
use Rattle.choice_sets.specs.Gains.{first_gain, gains}
use Rattle.choice_sets.specs.Laws.{HasNoGain, IsManipulation}
use Rattle.choice_sets.proofs.FoundLaws.{are_found}
use Rattle.answers.specs.declared.runs.Run.{Run}
use Rattle.answers.specs.Check.{judgement}
use Rattle.answers.specs.Devices.{Devices}
use Rattle.answers.specs.Gain.{Gains, gain_text, IsGained, of_sets, other_kind, rule_gain_text, said_of_gain}
use Rattle.answers.specs.Studies.{GivesStudy, study_given, study_refused}
use Rattle.answers.proofs.JudgedLaws.{zero_confirms}
use Rattle.answers.proofs.ReportLaws.{confirmed_claims, confirmed_report, reportable}
use Rattle.answers.proofs.RowLemmas.{not_three}
use Rattle.call_laws.specs.Laws.{IsGainRight, no_gain, a_gain, no_rule, IsGainWritten}

-- of a rule
rule_right : (study : Question) (text table : List ℕ) (o : Option Manipulation)
    → MatchOption o (HasNoGain study.size table) (λ m. IsManipulation study.size m × IsTrue (gains study.size table m))
    → text ≡ gain_text study.size table o → IsRuleFor study table → IsGainRight study text (Possible table)
rule_right study text table None h is rule = no_gain table is rule h
rule_right study text table (Some m) h is rule = a_gain table m is rule h.0 h.1

-- of a verdict whose claim holds
said_right : (study : Question) (text : List ℕ) (verdict : Verdict) → Claims study verdict → text ≡ rule_gain_text study.size (rule_in verdict) → IsGainRight study text verdict
said_right study text (Possible table) holds is = rule_right study text table (first_gain study.size table) (are_found study.size table) is holds
said_right study text (Impossible core story witnesses) holds is = no_rule core story witnesses is holds
said_right study text Undecided holds is = absurd holds

module _ (d : Devices) (files : Files) (name report : List ℕ) (run : Run) (text : List ℕ) (zero_is : run.status ≡ 0) (written : Appends d.taken_before d.taken_now text)
    (exact : (study : Question) (bytes table : List ℕ) → GivesStudy files name study → study.size.kind ≡ Sets → files report ≡ Some bytes
    → judgement study bytes ≡ Confirmed (Possible table) → (text ≡ codes "none\n") ↔ HasNoGain study.size table) where
  of_study : (study : Question) → GivesStudy files name study → Gains files report study run text → IsGainWritten d files name report
  of_study study g (other_kind other is bare) = absurd (not_three run zero_is bare)
  of_study study g (of_sets sets said) =
      let c = zero_confirms (judgement study said.bytes) (sym said.ends.ends ∙ zero_is) in
      let right = confirmed_report study said.bytes c.0 c.1 in
      record {
        study = study;
        given = g;
        sets = sets;
        bytes = said.bytes;
        held = said.held;
        fits = right.1;
        verdict = c.0;
        right = right.0;
        text = text;
        says = said_right study text c.0 (confirmed_claims study said.bytes (reportable files name study g).size c.0 c.1) (said.is ∙ ap (said_of_gain study) c.1);
        none = λ table is. exact study said.bytes table g sets said.held (c.1 ∙ ap (λ v. Confirmed v) is);
        written = written;
      }

  pub gained_row : IsGained files name report run text → IsGainWritten d files name report
  gained_row (study_refused r bare) = absurd (not_three run zero_is bare)
  gained_row (study_given study g rest) = of_study study g rest
