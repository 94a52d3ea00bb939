-- The laws, from what was proved of each phrase.
use Rattle.theory_text_alike.specs.Laws.{BoundNamesAreFree, UsesWithoutBytes, FilesWithOtherNames}
use Rattle.theory_text_alike.proofs.PlainUses.{use_plain}
use Rattle.theory_text_alike.proofs.Alike.{ty_alike, term_alike, comp_alike, formula_alike}
use Rattle.theory_text_alike.proofs.AlikeFiles.{files_alike}

pub free : BoundNamesAreFree
free = record {
  types = λ s s' t t' h fits. (ty_alike h fits).same;
  terms = λ s s' t t' h fits. (term_alike h fits).same;
  comps = λ s s' t t' h fits. (comp_alike h fits).same;
  formulas = λ s s' t t' h fits. (formula_alike h fits).same;
}

pub uses : UsesWithoutBytes
uses = use_plain

pub files : FilesWithOtherNames
files = λ text text' file file' e p. (files_alike text text' file file' e p).same
