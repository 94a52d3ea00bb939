-- Printed lists of monotypes and arguments, and motives, are read as they were printed.
use Rattle.std.proofs.Common.{ℕ, suc, List, [], ◌∷◌, length, refl}
use Rattle.std.specs.Prelude.{map}
use Rattle.htt_lexer_tokens.specs.declared.tokens.Sign.TheVariants.{OpenBracketSign, CloseBracketSign, CommaSign}
use Rattle.htt_lexer_tokens.specs.declared.tokens.Sign.TheVariants.{DotSign, AtSign}
use Rattle.htt_syntax.specs.Trees.{MonoTree, FormulaTree, ArgTree, a_heap, a_term}
use Rattle.htt_parser_trees.specs.declared.place.Binder.TheVariants as binders
use Rattle.htt_parser_trees.specs.Trees as raw
use Rattle.theory_grammar.specs.Marks as marks
use Rattle.theory_grammar.specs.Marks.{Mark, ◌⨟◌, span_of, each_after}
use Rattle.theory_grammar.specs.Grammar as grammar
use Rattle.theory_text_names.specs.Scopes.{a_term_or_heap, Scope}
use Rattle.theory_text.specs.Monotypes.{monos_come}
use Rattle.theory_text.specs.Proofs.{arg_comes, args_come, motive_comes}
use Rattle.theory_printing.specs.Pieces.{Printed, marks_of}
use Rattle.theory_printing.specs.Names.{PrintScope, name_at, with_entry}
use Rattle.theory_printing.specs.Brackets.{mono_form, term_form, formula_form}
use Rattle.theory_printing.specs.Proofs.{more_monos, monos, arg, more_args, args, motive}
use Rattle.theory_printing_conditions.specs.Conditions.{HasTextFormula, HasTextMonos, HasTextArg, HasTextArgs}
use Rattle.theory_printing_tokens.specs.Spoken.{Spoken}
use Rattle.theory_printing_forms.specs.Readings.{Reads, as_it_is}
use Rattle.theory_printing_forms.specs.Said.{said_formula, said_arg}
use Rattle.theory_printing_names.specs.Scopes.{HasPrintedNames}
use Rattle.theory_printing_forms.proofs.Meets.{go, goes, deep, goes_sign, goes_sign_at, goes_name, goes_between}
use Rattle.theory_printing_forms.proofs.Meets.{goes_comma, ends_sign}
use Rattle.theory_printing_forms.proofs.Forms.{bind, any_mono, any_term, any_formula}
use Rattle.theory_printing_names.proofs.Named.{under_entry}
use Rattle.theory_printing_forms.proofs.Leaves.{heap_entry}
use Rattle.theory_printing_phrases.proofs.Phrases.{read_mono, read_term, read_formula}

abbrev pub ReadsMonos : (l : ℕ) (spell : List raw.RawMonoTree → List Mark) (r : Scope) (p : Printed) → Spoken r.text p → List MonoTree → Type 0
ReadsMonos l spell r p v told = Reads spell (monos_come r) as_it_is r.text l p v told

read_more_monos : {s : PrintScope} {counts : List ℕ} {r : Scope}
    → HasPrintedNames s counts r
    → (ts : List MonoTree)
    → HasTextMonos counts s ts
    → (l : ℕ) (v : Spoken r.text (more_monos s ts))
    → ReadsMonos l (each_after (marks.sign l CommaSign) (grammar.mono l)) r (more_monos s ts) v ts
unfolding more_monos HasTextMonos marks_of monos_come each_after
read_more_monos names [] has l v = record { tree = []; meets = record { meets = tt }; given = []; comes = refl; same = refl }
read_more_monos {s} {counts} {r} names (t ∷ ts) has l v =
    let first = any_mono (mono_form t) (read_mono names t has.0 l v.1.0) in
    let rest = read_more_monos names ts has.1 l v.1.1 in
    record {
      tree = first.tree ∷ rest.tree;
      meets = go (goes_comma r.text l v.0) (go (goes first.meets) rest.meets);
      given = first.given ∷ rest.given;
      comes = bind _ first.comes (bind _ rest.comes refl);
      same = λ i. first.same i ∷ rest.same i;
    }

pub read_monos : {s : PrintScope} {counts : List ℕ} {r : Scope}
    → HasPrintedNames s counts r
    → (ts : List MonoTree)
    → HasTextMonos counts s ts
    → (l : ℕ) (v : Spoken r.text (monos s ts))
    → ReadsMonos l (grammar.monos l) r (monos s ts) v ts
unfolding HasTextMonos marks_of monos_come ◌⨟◌
read_monos names [] has l v = record { tree = []; meets = record { meets = tt }; given = []; comes = refl; same = refl }
read_monos {s} {counts} {r} names (t ∷ ts) has l v =
    let first = any_mono (mono_form t) (read_mono names t has.0 l v.1.0.0) in
    let rest = read_more_monos names ts has.1 l v.1.0.1 in
    record {
      tree = first.tree ∷ rest.tree;
      meets = go (goes_sign r.text l OpenBracketSign v.0) (go (goes (go (goes first.meets) rest.meets)) (ends_sign r.text l CloseBracketSign v.1.1));
      given = first.given ∷ rest.given;
      comes = bind _ first.comes (bind _ rest.comes refl);
      same = λ i. first.same i ∷ rest.same i;
    }

abbrev pub ReadsArg : (r : Scope) (l : ℕ) (p : Printed) → Spoken r.text p → ArgTree → Type 0
ReadsArg r l p v told = Reads (grammar.arg l) (arg_comes r) said_arg r.text l p v told

pub read_arg : {s : PrintScope} {counts : List ℕ} {r : Scope}
    → HasPrintedNames s counts r
    → (a : ArgTree)
    → HasTextArg counts s a
    → (l : ℕ) (v : Spoken r.text (arg s a))
    → ReadsArg r l (arg s a) v (said_arg a)
unfolding marks_of ◌⨟◌
read_arg {s} {counts} {r} names (a_heap h) has l v =
    let heap = heap_entry l h names has v.1 in
    record {
      tree = raw.arg_heap v.0.token.from heap.tree;
      meets = go (goes_sign_at r.text l AtSign v.0) heap.meets;
      given = a_heap h;
      comes = bind _ heap.comes refl;
      same = refl;
    }
read_arg names (a_term M) has l v =
    let m = any_term (term_form M) (read_term names M has (suc l) v) in
    record { tree = raw.arg_term m.tree; meets = deep m.meets; given = a_term m.given; comes = bind _ m.comes refl; same = λ i. a_term (m.same i) }

abbrev pub ReadsArgs : (l : ℕ) (spell : List raw.RawArgTree → List Mark) (r : Scope) (p : Printed) → Spoken r.text p → List ArgTree → Type 0
ReadsArgs l spell r p v told = Reads spell (args_come r) (λ more. map said_arg more) r.text l p v told

pub read_more_args : {s : PrintScope} {counts : List ℕ} {r : Scope}
    → HasPrintedNames s counts r
    → (more : List ArgTree)
    → HasTextArgs counts s more
    → (l : ℕ) (v : Spoken r.text (more_args s more))
    → ReadsArgs l (each_after (marks.sign l CommaSign) (grammar.arg l)) r (more_args s more) v (map said_arg more)
unfolding more_args HasTextArgs marks_of args_come each_after
read_more_args names [] has l v = record { tree = []; meets = record { meets = tt }; given = []; comes = refl; same = refl }
read_more_args {s} {counts} {r} names (a ∷ more) has l v =
    let first = read_arg names a has.0 l v.1.0 in
    let rest = read_more_args names more has.1 l v.1.1 in
    record {
      tree = first.tree ∷ rest.tree;
      meets = go (goes_comma r.text l v.0) (go (goes first.meets) rest.meets);
      given = first.given ∷ rest.given;
      comes = bind _ first.comes (bind _ rest.comes refl);
      same = λ i. first.same i ∷ rest.same i;
    }

pub read_args : {s : PrintScope} {counts : List ℕ} {r : Scope}
    → HasPrintedNames s counts r
    → (more : List ArgTree)
    → HasTextArgs counts s more
    → (l : ℕ) (v : Spoken r.text (args s more))
    → ReadsArgs l (grammar.args l) r (args s more) v (map said_arg more)
unfolding HasTextArgs marks_of args_come
read_args names [] has l v = record { tree = []; meets = record { meets = tt }; given = []; comes = refl; same = refl }
read_args {s} {counts} {r} names (a ∷ more) has l v =
    let first = read_arg names a has.0 l v.0 in
    let rest = read_more_args names more has.1 l v.1 in
    record {
      tree = first.tree ∷ rest.tree;
      meets = go (goes first.meets) rest.meets;
      given = first.given ∷ rest.given;
      comes = bind _ first.comes (bind _ rest.comes refl);
      same = λ i. first.same i ∷ rest.same i;
    }

abbrev pub ReadsMotive : (r : Scope) (l : ℕ) (p : Printed) → Spoken r.text p → FormulaTree → Type 0
ReadsMotive r l p v told = Reads (grammar.motive l) (motive_comes r) said_formula r.text l p v told

pub read_motive : {s : PrintScope} {counts : List ℕ} {r : Scope}
    → HasPrintedNames s counts r
    → (C : FormulaTree)
    → HasTextFormula counts (with_entry a_term_or_heap s) C
    → (l : ℕ) (v : Spoken r.text (motive s C))
    → ReadsMotive r l (motive s C) v (said_formula C)
unfolding marks_of ◌⨟◌
read_motive {s} {counts} {r} names C has l v =
    let formula_read =
    any_formula (formula_form C)
    (read_formula (under_entry a_term_or_heap (span_of v.0.token) refl v.0.bytes names) C has (suc l) v.1.1.1.0) in
    record {
      tree = raw.motive_of (binders.Name (span_of v.0.token)) formula_read.tree;
      meets =
          go (goes_name r.text l (name_at a_term_or_heap (length s.entries)) v.0) (go (goes_between r.text l DotSign v.1.0)
          (go (goes_sign r.text l OpenBracketSign v.1.1.0) (go (goes (deep formula_read.meets)) (ends_sign r.text l CloseBracketSign v.1.1.1.1))));
      given = formula_read.given;
      comes = formula_read.comes;
      same = formula_read.same;
    }
