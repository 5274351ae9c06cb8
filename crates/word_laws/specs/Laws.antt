-- Which words are which request, where it can be told at a glance.
use Rattle.std.specs.Prelude.{◌≡◌, ◌==◌, Bool, false, [], ◌∷◌, ◌++◌, codes, None, Some, option_map}
use Rattle.clap.specs.Words.{Text}
use Rattle.vocab.specs.declared.kinds.Kind.TheVariants.{Sets}
use Rattle.verdicts.specs.Numbers.{number_within}
use Rattle.words.specs.Values.{kind_named}
use Rattle.words.specs.Words.{Decide, Check, Export, Proof, Lrat, Axioms, Sample, Adopt, Gain, Sharpen, request_of}

abbrev pub begins_with_hyphen : Text → Bool
begins_with_hyphen [] = false
begins_with_hyphen (c ∷ cs) = c == 45

abbrev pub IsPlain : Text → Type 0
IsPlain word = begins_with_hyphen word ≡ false

-- a command takes its words in their order, whatever they are, as long as none begins with a hyphen
pub record PlainWords : Type 0 where
  pub decide : (study : Text) → IsPlain study → request_of (codes "decide" ∷ study ∷ []) ≡ Some (Decide study 1)
  pub check : (study report : Text) → IsPlain study → IsPlain report → request_of (codes "check" ∷ study ∷ report ∷ []) ≡ Some (Check study report 1)
  pub export : (study : Text) → IsPlain study → request_of (codes "export" ∷ study ∷ []) ≡ Some (Export study 1)
  pub proof : (study : Text) → IsPlain study → request_of (codes "proof" ∷ study ∷ []) ≡ Some (Proof study 1)
  pub lrat : (cnf proof : Text) → IsPlain cnf → IsPlain proof → request_of (codes "lrat" ∷ cnf ∷ proof ∷ []) ≡ Some (Lrat cnf proof)
  pub axioms : (kind : Text) → IsPlain kind → request_of (codes "axioms" ∷ kind ∷ []) ≡ option_map Axioms (kind_named kind)
  pub sample : (number : Text) → IsPlain number
      → request_of (codes "sample" ∷ number ∷ []) ≡ option_map Sample (number_within 0 4294967295 number)
  pub adopt : (study proof : Text) → IsPlain study → IsPlain proof → request_of (codes "adopt" ∷ study ∷ proof ∷ []) ≡ Some (Adopt study proof 1)
  pub gain : (study report : Text) → IsPlain study → IsPlain report → request_of (codes "gain" ∷ study ∷ report ∷ []) ≡ Some (Gain study report)
  pub sharpen : (study : Text) → IsPlain study → request_of (codes "sharpen" ∷ study ∷ []) ≡ Some (Sharpen study 1)

-- `--workers` may stand before, between and after them, in one word or in two
pub record WorkersWords : Type 0 where
  pub before : (report count : Text) → IsPlain report → IsPlain count
      → request_of (codes "check" ∷ codes "--workers" ∷ count ∷ codes "s" ∷ report ∷ []) ≡ option_map (Check (codes "s") report) (number_within 1 16 count)
  pub between : (study count : Text) → IsPlain study → IsPlain count
      → request_of (codes "check" ∷ study ∷ codes "--workers" ∷ count ∷ codes "r" ∷ []) ≡ option_map (Check study (codes "r")) (number_within 1 16 count)
  pub after : (study count : Text) → IsPlain study → IsPlain count
      → request_of (codes "check" ∷ study ∷ codes "r" ∷ codes "--workers" ∷ count ∷ []) ≡ option_map (Check study (codes "r")) (number_within 1 16 count)
  pub joined : (study report count : Text) → IsPlain study → IsPlain report
      → request_of (codes "check" ∷ study ∷ report ∷ (codes "--workers=" ++ count) ∷ []) ≡ option_map (Check study report) (number_within 1 16 count)

-- words that a reader may wonder about
pub record OddWords : Type 0 where
  pub nothing : request_of [] ≡ None
  pub empty_word : request_of ([] ∷ []) ≡ None
  pub help_flag : request_of (codes "-h" ∷ []) ≡ None
  pub long_help_flag : request_of (codes "--help" ∷ []) ≡ None
  pub version_flag : request_of (codes "-V" ∷ []) ≡ None
  pub help : request_of (codes "help" ∷ []) ≡ None
  pub help_of_command : request_of (codes "check" ∷ codes "s" ∷ codes "r" ∷ codes "--help" ∷ []) ≡ None
  pub file_help : request_of (codes "check" ∷ codes "help" ∷ codes "r" ∷ []) ≡ Some (Check (codes "help") (codes "r") 1)
  pub file_of_a_command : request_of (codes "check" ∷ codes "axioms" ∷ codes "check" ∷ []) ≡ Some (Check (codes "axioms") (codes "check") 1)
  pub front_of_a_command : request_of (codes "che" ∷ codes "s" ∷ codes "r" ∷ []) ≡ None
  pub option_before_the_command : request_of (codes "--workers" ∷ codes "4" ∷ codes "check" ∷ codes "s" ∷ codes "r" ∷ []) ≡ None
  pub option_in_one_word : request_of (codes "check" ∷ codes "s" ∷ codes "r" ∷ codes "--workers=4" ∷ []) ≡ Some (Check (codes "s") (codes "r") 4)
  pub option_twice : request_of (codes "check" ∷ codes "s" ∷ codes "r" ∷ codes "--workers" ∷ codes "4" ∷ codes "--workers" ∷ codes "4" ∷ []) ≡ None
  pub option_without_value : request_of (codes "check" ∷ codes "s" ∷ codes "r" ∷ codes "--workers" ∷ []) ≡ None
  pub option_with_empty_value : request_of (codes "check" ∷ codes "s" ∷ codes "r" ∷ codes "--workers=" ∷ []) ≡ None
  pub front_of_the_option : request_of (codes "check" ∷ codes "s" ∷ codes "r" ∷ codes "--worker" ∷ codes "4" ∷ []) ≡ None
  pub no_workers : request_of (codes "check" ∷ codes "s" ∷ codes "r" ∷ codes "--workers" ∷ codes "0" ∷ []) ≡ None
  pub most_workers : request_of (codes "check" ∷ codes "s" ∷ codes "r" ∷ codes "--workers" ∷ codes "16" ∷ []) ≡ Some (Check (codes "s") (codes "r") 16)
  pub many_workers : request_of (codes "check" ∷ codes "s" ∷ codes "r" ∷ codes "--workers" ∷ codes "17" ∷ []) ≡ None
  pub leading_zero : request_of (codes "check" ∷ codes "s" ∷ codes "r" ∷ codes "--workers" ∷ codes "04" ∷ []) ≡ None
  pub file_with_hyphen : request_of (codes "check" ∷ codes "-s" ∷ codes "r" ∷ []) ≡ None
  pub file_with_hyphen_after_two : request_of (codes "check" ∷ codes "--" ∷ codes "-s" ∷ codes "--workers" ∷ []) ≡ Some (Check (codes "-s") (codes "--workers") 1)
  pub file_hyphen : request_of (codes "check" ∷ codes "-" ∷ codes "r" ∷ []) ≡ Some (Check (codes "-") (codes "r") 1)
  pub file_without_name : request_of (codes "check" ∷ [] ∷ codes "r" ∷ []) ≡ Some (Check [] (codes "r") 1)
  pub option_after_two : request_of (codes "check" ∷ codes "s" ∷ codes "r" ∷ codes "--" ∷ codes "--workers" ∷ codes "4" ∷ []) ≡ None
  pub workers_of_axioms : request_of (codes "axioms" ∷ codes "choice" ∷ codes "--workers" ∷ codes "4" ∷ []) ≡ None
  pub one_word_less : request_of (codes "check" ∷ codes "s" ∷ []) ≡ None
  pub one_word_more : request_of (codes "check" ∷ codes "s" ∷ codes "r" ∷ codes "t" ∷ []) ≡ None
  pub sets : request_of (codes "axioms" ∷ codes "sets" ∷ []) ≡ Some (Axioms Sets)
  pub other_kind : request_of (codes "axioms" ∷ codes "set" ∷ []) ≡ None
  pub study_alone : request_of (codes "decide" ∷ []) ≡ None
  pub workers_of_decide : request_of (codes "decide" ∷ codes "--workers=16" ∷ codes "s" ∷ []) ≡ Some (Decide (codes "s") 16)
  pub workers_of_lrat : request_of (codes "lrat" ∷ codes "c" ∷ codes "p" ∷ codes "--workers" ∷ codes "4" ∷ []) ≡ None
  pub negative : request_of (codes "sample" ∷ codes "-3" ∷ []) ≡ None
  pub leading_zero_of_number : request_of (codes "sample" ∷ codes "007" ∷ []) ≡ None
  pub greatest : request_of (codes "sample" ∷ codes "4294967295" ∷ []) ≡ Some (Sample 4294967295)
  pub above_greatest : request_of (codes "sample" ∷ codes "4294967296" ∷ []) ≡ None
  pub workers_of_adopt : request_of (codes "adopt" ∷ codes "s" ∷ codes "--workers" ∷ codes "2" ∷ codes "p" ∷ []) ≡ Some (Adopt (codes "s") (codes "p") 2)
  pub proof_alone : request_of (codes "adopt" ∷ codes "p" ∷ []) ≡ None
  pub workers_of_gain : request_of (codes "gain" ∷ codes "s" ∷ codes "r" ∷ codes "--workers" ∷ codes "2" ∷ []) ≡ None
  pub workers_of_sharpen : request_of (codes "sharpen" ∷ codes "--workers" ∷ codes "3" ∷ codes "s" ∷ []) ≡ Some (Sharpen (codes "s") 3)
  pub report_of_sharpen : request_of (codes "sharpen" ∷ codes "s" ∷ codes "r" ∷ []) ≡ None
