mod OddWordLemmas
mod WordLemmas
