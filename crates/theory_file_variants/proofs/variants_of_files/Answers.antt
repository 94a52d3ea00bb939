use Rattle.theory_file_variants.proofs.Missed.{auto_no_proof, choices_words}
use Rattle.theory_file_variants.proofs.variants_of_files.Goals as goal

pub returns : goal.returns
returns c = record { auto_is_no_proof = auto_no_proof; choices_are_words = choices_words }
