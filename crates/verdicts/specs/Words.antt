-- What is printed of an answer.
use Rattle.std.specs.Prelude.{List, [], ◌∷◌, ◌++◌, ℕ, codes}
use Rattle.verdicts.specs.declared.refusals.Refusal.{Refusal}
use Rattle.verdicts.specs.declared.refusals.Refusal.TheVariants.{Form, StudyDiffers, Undecided, Core, Row, Fails, NotInCore, Later, NotForced, Known, Supposes, OpenMark}
use Rattle.verdicts.specs.declared.verdicts.Verdict.{Verdict}
use Rattle.verdicts.specs.declared.verdicts.Verdict.TheVariants.{Possible, Impossible, Undecided as NoClaim}
use Rattle.verdicts.specs.Numbers.{number_text}
use Rattle.verdicts.specs.FirstFault.{Judgement, Confirmed, Faulty, TooLong}

-- the word of a refusal; `fails` has the name of the axiom and the number of the instance
abbrev pub refusal_text : Refusal → List ℕ
refusal_text Form = codes "form"
refusal_text StudyDiffers = codes "study"
refusal_text Undecided = codes "undecided"
refusal_text Core = codes "core"
refusal_text Row = codes "row"
refusal_text (Fails name instance) = codes "fails " ++ (name ++ 32 ∷ number_text instance)
refusal_text NotInCore = codes "not_in_core"
refusal_text Later = codes "later"
refusal_text NotForced = codes "not_forced"
refusal_text Known = codes "known"
refusal_text Supposes = codes "supposes"
refusal_text OpenMark = codes "open"

-- the word of a verdict
abbrev pub claim_text : Verdict → List ℕ
claim_text (Possible table) = codes "possible"
claim_text (Impossible core story witnesses) = codes "impossible"
claim_text NoClaim = codes "undecided"

-- the line of an answer, with its line end, by the words of what is confirmed and of a refusal
abbrev pub judgement_text : {V R : Type 0} → (V → List ℕ) → (R → List ℕ) → Judgement V R → List ℕ
judgement_text said refused (Confirmed v) = codes "confirmed " ++ (said v ++ 10 ∷ [])
judgement_text said refused (Faulty line word) = codes "refused line " ++ (number_text line ++ codes ": " ++ refused word ++ 10 ∷ [])
judgement_text said refused TooLong = codes "refused: too long\n"

-- the line of an answer to a report
abbrev pub answer_text : Judgement Verdict Refusal → List ℕ
answer_text = judgement_text claim_text refusal_text
