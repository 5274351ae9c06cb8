-- Worked examples: the status and the text of an answer, as the definitions compute them.
use Rattle.std.proofs.Common.{◌≡◌, refl, true, false, [], ◌∷◌, map, None, Some}
use Rattle.std.specs.Prelude.{codes}
use Rattle.vocab.specs.declared.kinds.Kind.TheVariants.{Sets}
use Rattle.vocab.specs.Size.{Extent, full_size}
use Rattle.verdicts.specs.declared.refusals.Refusal.TheVariants.{Form}
use Rattle.verdicts.specs.declared.verdicts.Verdict.TheVariants.{Possible}
use Rattle.verdicts.specs.FirstFault.{Confirmed, Faulty, TooLong}
use Rattle.clause_text.specs.ReadDimacs.{Formula}
use Rattle.sharp_verdicts.specs.declared.refusals.SharpRefusal.TheVariants.{Instance}
use Rattle.sharp_verdicts.specs.Judged.{AsSharp}
use Rattle.answers.specs.Call.{touched_at}
use Rattle.answers.specs.Check.{judgement_status, judged_status}
use Rattle.answers.specs.Gain.{rule_gain_text}
use Rattle.answers.specs.Lrat.{said_of}

-- ---- `check`

confirmed_reports_alone_end_with_status_0 : map judgement_status (Confirmed (Possible (0 ∷ [])) ∷ Faulty 9 Form ∷ TooLong ∷ []) ≡ 0 ∷ 1 ∷ 1 ∷ []
confirmed_reports_alone_end_with_status_0 = refl

confirmed_sharp_texts_alone_end_with_status_0 : map judged_status (AsSharp (Confirmed (record { core = []; story = []; instances = []; marks = [] })) ∷ AsSharp (Faulty 19 Instance) ∷ AsSharp TooLong ∷ [])
    ≡ 0 ∷ 1 ∷ 1 ∷ []
confirmed_sharp_texts_alone_end_with_status_0 = refl

-- at status 3 the second file is not touched
refused_study_leaves_the_report : map (λ status. touched_at status (codes "s" ∷ codes "r" ∷ [])) (3 ∷ 1 ∷ []) ≡ (codes "s" ∷ []) ∷ (codes "s" ∷ codes "r" ∷ []) ∷ []
refused_study_leaves_the_report = refl

-- ---- `lrat`

-- the clauses `1` and `-1`
abbrev contradiction : Formula
contradiction = record { variables = 1; clauses = (record { variable = 1; positive = true } ∷ []) ∷ (record { variable = 1; positive = false } ∷ []) ∷ [] }

-- accepted, without a conflict, and of no line's form
accepted_proofs_alone_end_with_status_0 : map (λ proof. (said_of contradiction proof).status) (codes "3 0 1 2 0\n" ∷ codes "3 0 1 0\n" ∷ codes "3 0 1 2\n" ∷ [])
    ≡ 0 ∷ 1 ∷ 1 ∷ []
accepted_proofs_alone_end_with_status_0 = refl

-- ---- `gain`

abbrev two_and_two : Extent
two_and_two = full_size Sets 2 2

-- codes 0, 1 and 2 are the sets a, b and ab. Both voters have ab, and b is chosen: voter 1 gets ab by casting ba.
-- Where a is chosen there, and b where both have ba, none gains
first_gain_is_told : map (λ rule. rule_gain_text two_and_two rule) (Some (1 ∷ 2 ∷ 2 ∷ 0 ∷ []) ∷ Some (0 ∷ 2 ∷ 2 ∷ 1 ∷ []) ∷ None ∷ [])
    ≡ codes "voter 1 at ab|ab gains by ba: ab over b\n" ∷ codes "none\n" ∷ codes "no rule\n" ∷ []
first_gain_is_told = refl
