-- What odd words are, by computation.
use Rattle.std.proofs.Common.{refl}
use Rattle.clap.proofs.OnLiterals.{clap_on_literals}
use Rattle.words.specs.Words.{request_of}
use Rattle.word_laws.specs.Laws.{OddWords}

pub odd : OddWords
unfolding clap_on_literals request_of
odd = record {
  nothing = refl;
  empty_word = refl;
  help_flag = refl;
  long_help_flag = refl;
  version_flag = refl;
  help = refl;
  help_of_command = refl;
  file_help = refl;
  file_of_a_command = refl;
  front_of_a_command = refl;
  option_before_the_command = refl;
  option_in_one_word = refl;
  option_twice = refl;
  option_without_value = refl;
  option_with_empty_value = refl;
  front_of_the_option = refl;
  no_workers = refl;
  most_workers = refl;
  many_workers = refl;
  leading_zero = refl;
  file_with_hyphen = refl;
  file_with_hyphen_after_two = refl;
  file_hyphen = refl;
  file_without_name = refl;
  option_after_two = refl;
  workers_of_axioms = refl;
  one_word_less = refl;
  one_word_more = refl;
  sets = refl;
  other_kind = refl;
  study_alone = refl;
  workers_of_decide = refl;
  workers_of_lrat = refl;
  negative = refl;
  leading_zero_of_number = refl;
  greatest = refl;
  above_greatest = refl;
  workers_of_adopt = refl;
  proof_alone = refl;
  workers_of_gain = refl;
  workers_of_sharpen = refl;
  report_of_sharpen = refl;
}
